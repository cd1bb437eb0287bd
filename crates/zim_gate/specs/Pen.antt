-- What a pen did to the folder that it writes to.
use Rattle.std.specs.Prelude.{◌≡◌, List, ℕ, Result, Ok, OnOk, OnErr, ⊤}
use Rattle.std.specs.Borrow.{MutBor}
use Rattle.zim_gate.specs.declared.stops.Failed.{Failed}
use Rattle.zim_gate.specs.declared.pens.Pen.{Pen}
use Rattle.zim_gate.specs.Folder.{FolderState, Puts}

-- a writer went on by a text: where nothing had failed, the relation tells how; else nothing changed
pub record GoesOn {S : Type 0} (R : S → S → List ℕ → Result ⊤ Failed → Type 0) (old : S) (before : Result ⊤ Failed) (new : S) (after : Result ⊤ Failed) (text : List ℕ) : Type 0 where
  pub on_ok : OnOk before (R old new text after)
  pub on_err_state : OnErr before (new ≡ old)
  pub on_err_outcome : OnErr before (after ≡ before)

-- a new pen holds the folder as it is, and nothing has failed
pub record Starts {F : Type 0} {B : _} (lent : MutBor F) (pen : Pen F B) : Type 0 where
  pub same : pen.folder.ghost_name ≡ lent.ghost_name
  pub folder : pen.folder.now ≡ lent.now
  pub outcome : pen.outcome ≡ Ok tt

-- a pen put a text to its folder
pub record Writes {F : Type 0} {B : _} (state : F → FolderState) (old new : Pen F B) (text : List ℕ) : Type 0 where
  pub same : new.folder.ghost_name ≡ old.folder.ghost_name
  pub goes : GoesOn Puts (state old.folder.now) old.outcome (state new.folder.now) new.outcome text
