-- What is put to the output of a run.
use Rattle.std.specs.Prelude.{◌≡◌, ℕ, List, [], Result, OnOk, OnErr, ⊤}
use Rattle.zim_fault.specs.declared.faults.Fault.{Fault}
use Rattle.zim_gate.specs.declared.stops.Failed.{Failed}
use Rattle.zim_gate.specs.Folder.{FolderState}
use Rattle.zim_gate.specs.Sink.{SinkState, SinkAppends, SinkStopsIn}
use Rattle.zim_build.specs.declared.compiled.BuildFault.{BuildFault}
use Rattle.zim_build.specs.declared.compiled.BuildFault.TheVariants as build
use Rattle.zim_build.specs.Compile.{WhereTold, StaysUnread}
use Rattle.zim_build.specs.Model.{Model, printed_by, MayBePrinted}
use Rattle.zim_build.specs.Reading.{HasModel, HasFirstFault}
use Rattle.zim_cli.specs.declared.ending.Ending.{Ending}
use Rattle.zim_cli.specs.declared.ending.Ending.TheVariants as ending

-- The output took a text. Where the text is empty, nothing was put.
pub record TakesPrinted (before now : SinkState) (text : List ℕ) : Type 0 where
  pub appends : SinkAppends before now text
  pub untouched : text ≡ [] → now ≡ before

-- A text was put, or the output's count rose and it took a first part of the text.
pub record Prints (before now : SinkState) (text : List ℕ) (result : Result ⊤ Failed) : Type 0 where
  pub ok : OnOk result (TakesPrinted before now text)
  pub err : OnErr result (SinkStopsIn before now text)

-- A run that puts a text and ends: as it was to end, or by its output, which took a first part of the text.
pub data EndsWith (before now : SinkState) (text : List ℕ) (wanted : Ending) : Ending → Type 0 where
  put : TakesPrinted before now text → EndsWith before now text wanted wanted
  failed : SinkStopsIn before now text → EndsWith before now text wanted ending.Unput

-- A run whose model wasn't compiled, which puts what was printed by then and ends: with the fault, or with the file that stays unread, or by its
-- output. For want of memory it puts nothing.
abbrev pub EndsUncompiled : SinkState → SinkState → BuildFault → Ending → Type 0
EndsUncompiled before now (build.Refused fault opened printed) result = EndsWith before now printed (ending.Refused fault opened) result
EndsUncompiled before now (build.Read name printed) result = EndsWith before now printed (ending.Unread name) result
EndsUncompiled before now build.Memory result = (result ≡ ending.Memory) × (now ≡ before)

-- This is what the model of this name prints before it is compiled or refused, or before one of its files stays unread.
pub data IsPrinted (before now : FolderState) (name printed : List ℕ) : Type 0 where
  by_model : (model : Model) (opened : List (List ℕ)) → WhereTold before.held (λ files. HasModel files name model opened) → printed ≡ printed_by model → IsPrinted before now name printed
  by_fault : (fault : Fault) (opened : List (List ℕ)) → WhereTold before.held (λ files. HasFirstFault files name fault opened printed) → MayBePrinted printed →
      IsPrinted before now name printed
  by_unread : (other : List ℕ) → StaysUnread before now name other printed → IsPrinted before now name printed
