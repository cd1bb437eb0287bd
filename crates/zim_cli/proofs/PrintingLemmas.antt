-- What was put, where it is known whether putting failed.
use Rattle.std.proofs.Common.{◌≡◌, ℕ, List, Result, Ok, Err, subst}
use Rattle.std.specs.Prelude.{⊤, OnOk, OnErr}
use Rattle.zim_gate.specs.declared.stops.Failed.{Failed}
use Rattle.zim_gate.specs.Sink.{SinkState, SinkStopsIn}
use Rattle.zim_cli.specs.Printing.{TakesPrinted, Prints}

pub put_whole : (before now : SinkState) (text : List ℕ) (r : Result ⊤ Failed) (x : ⊤) → r ≡ Ok x → Prints before now text r → TakesPrinted before now text
put_whole before now text r x is prints = subst (λ (result : Result ⊤ Failed). OnOk result (TakesPrinted before now text)) is prints.ok

pub put_in_part : (before now : SinkState) (text : List ℕ) (r : Result ⊤ Failed) (e : Failed) → r ≡ Err e → Prints before now text r → SinkStopsIn before now text
put_in_part before now text r e is prints = subst (λ (result : Result ⊤ Failed). OnErr result (SinkStopsIn before now text)) is prints.err
