-- What a pen did to the sink that it writes to.
use Rattle.std.specs.Prelude.{◌≡◌, List, ℕ, Ok}
use Rattle.std.specs.Borrow.{MutBor}
use Rattle.zim_gate.specs.declared.sink_pens.SinkPen.{SinkPen}
use Rattle.zim_gate.specs.Sink.{SinkState, SinkPuts}
use Rattle.zim_gate.specs.Pen.{GoesOn}

-- a new pen holds the sink as it is, and nothing has failed
pub record SinkStarts {E : Type 0} (lent : MutBor E) (pen : SinkPen E) : Type 0 where
  pub same : pen.sink.ghost_name ≡ lent.ghost_name
  pub sink : pen.sink.now ≡ lent.now
  pub outcome : pen.outcome ≡ Ok tt

-- a pen put a text to its sink
pub record SinkWrites {E : Type 0} (state : E → SinkState) (old new : SinkPen E) (text : List ℕ) : Type 0 where
  pub same : new.sink.ghost_name ≡ old.sink.ghost_name
  pub goes : GoesOn SinkPuts (state old.sink.now) old.outcome (state new.sink.now) new.outcome text
