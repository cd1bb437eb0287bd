-- Two texts that a pen wrote one after the other are their join: `c.put.ensures ▸ c.put-2.ensures`, in the order of the code.
-- A loop over rows keeps `Writes state l.fn.pen l.pen (flat_map text (take l.row-index l.rows))`: `Writes-nothing` begins it, and `Writes-next` goes on.
-- A function that makes a pen ends with `finished c.new-pen.ensures (.. ▸ ..) c.finish.ensures.outcome (search rules)`.
use Rattle.std.proofs.Common.{◌≡◌, ℕ, ◌+◌, ◌<◌, List, [], ◌∷◌, ◌++◌, length, take, get_or, flat_map, Result, refl, sym, ap, ◌∙◌, subst}
use Rattle.std.specs.Prelude.{⊤}
use Rattle.std.proofs.lemmas.List.{take_more, append-nil}
use Rattle.std.proofs.lemmas.Grind.{flat_map-append}
use Rattle.std.specs.Borrow.{MutBor}
use Rattle.zim_gate.specs.declared.stops.Failed.{Failed}
use Rattle.zim_gate.specs.declared.pens.Pen.{Pen}
use Rattle.zim_gate.specs.Folder.{FolderState, Puts}
use Rattle.zim_gate.specs.Pen.{GoesOn, Starts, Writes}
use Rattle.zim_gate.proofs.AppendingLaws.{Puts-nothing, Puts-both, Puts-stopped}
use Rattle.zim_gate.proofs.Going.{Joins, GoesOn-nothing, GoesOn-both}

-- puts to a folder join
pub Puts-Joins : Joins Puts
Puts-Joins = record { nothing = Puts-nothing; both = Puts-both; stopped = Puts-stopped }

-- the text of one row more
flat_map-next : {X : Type 0} (text : X → List ℕ) (rows : List X) (i : ℕ) (d : X) → i < length rows →
    flat_map text (take (i + 1) rows) ≡ flat_map text (take i rows) ++ text (get_or rows i d)
flat_map-next text rows i d within =
    ap (flat_map text) (take_more rows i d within) ∙ flat_map-append text (take i rows) (get_or rows i d ∷ [])
    ∙ ap (λ t. flat_map text (take i rows) ++ t) (append-nil (text (get_or rows i d)))

module _ {F : Type 0} {B : _} {state : F → FolderState} where
  -- a pen that wrote nothing
  pub Writes-nothing : (pen : Pen F B) → Writes state pen pen []
  Writes-nothing pen = record { same = refl; goes = GoesOn-nothing Puts-Joins (state pen.folder.now) pen.outcome }

  infixr 20 ◌▸◌
  -- a text and then another
  pub ◌▸◌ : {a b c : Pen F B} {x y : List ℕ} → Writes state a b x → Writes state b c y → Writes state a c (x ++ y)
  ◌▸◌ {a} {b} {c} {x} {y} p q = record {
    same = q.same ∙ p.same;
    goes = GoesOn-both Puts-Joins (state a.folder.now) (state b.folder.now) (state c.folder.now) x y a.outcome b.outcome c.outcome p.goes q.goes;
  }

  -- what a pen that was made for a folder, and then wrote a text, did to the folder
  pub written : {lent : MutBor F} {a b : Pen F B} {x : List ℕ} → Starts lent a → Writes state a b x →
      Puts (state lent.now) (state b.folder.now) x b.outcome
  written {lent} {a} {b} {x} p q =
      let goes = subst (λ o. GoesOn Puts (state a.folder.now) o (state b.folder.now) b.outcome x) p.outcome q.goes in
      subst (λ s. Puts (state s) (state b.folder.now) x b.outcome) p.folder goes.on_ok

  -- the same where the pen was finished: its outcome is the answer, and its folder is left behind
  pub finished : {lent : MutBor F} {a b : Pen F B} {x : List ℕ} {answer : Result ⊤ Failed} {left : F} → Starts lent a → Writes state a b x →
      answer ≡ b.outcome → left ≡ b.folder.now → Puts (state lent.now) (state left) x answer
  finished {lent} {a} {b} {x} {answer} {left} p q outcome folder =
      subst (λ s. Puts (state lent.now) (state s) x answer) (sym folder)
      (subst (λ r. Puts (state lent.now) (state b.folder.now) x r) (sym outcome) (written p q))

  -- one row more: a writer of the rows of a list in order
  pub Writes-next : {X : Type 0} {a b c : Pen F B} (text : X → List ℕ) (rows : List X) (i : ℕ) (d : X) → i < length rows →
      Writes state a b (flat_map text (take i rows)) → Writes state b c (text (get_or rows i d)) → Writes state a c (flat_map text (take (i + 1) rows))
  Writes-next {X} {a} {b} {c} text rows i d within before row =
      subst (λ t. Writes state a c t) (sym (flat_map-next text rows i d within)) (before ▸ row)
