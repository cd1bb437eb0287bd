-- Writers that go on text by text go on by the join of the texts, whatever it is that takes the texts.
use Rattle.std.proofs.Common.{◌≡◌, ℕ, List, [], ◌++◌, Result, Ok, Err, refl, sym, ◌∙◌, subst}
use Rattle.std.specs.Prelude.{⊤}
use Rattle.zim_gate.specs.declared.stops.Failed.{Failed}
use Rattle.zim_gate.specs.Pen.{GoesOn}

-- how a relation that tells of puts carries over joined texts: nothing, one then another, and stopped
pub record Joins {S : Type 0} (R : S → S → List ℕ → Result ⊤ Failed → Type 0) : Type 0 where
  pub nothing : (s : S) → R s s [] (Ok tt)
  pub both : (a b c : S) (x y : List ℕ) (r : Result ⊤ Failed) → R a b x (Ok tt) → R b c y r → R a c (x ++ y) r
  pub stopped : (a b : S) (x y : List ℕ) (e : Failed) → R a b x (Err e) → R a b (x ++ y) (Err e)

module _ {S : Type 0} {R : S → S → List ℕ → Result ⊤ Failed → Type 0} (joins : Joins R) where
  -- a writer that did nothing
  pub GoesOn-nothing : (s : S) (o : Result ⊤ Failed) → GoesOn R s o s o []
  GoesOn-nothing s (Ok _) = record { on_ok = joins.nothing s; on_err_state = tt; on_err_outcome = tt }
  GoesOn-nothing s (Err e) = record { on_ok = tt; on_err_state = refl; on_err_outcome = refl }

  -- a writer that had stopped stays where it is
  after_stop : (a b c : S) (x y : List ℕ) (e : Failed) (q : Result ⊤ Failed) → R a b x (Err e) → c ≡ b → q ≡ Err e → R a c (x ++ y) q
  after_stop a b c x y e q h same is =
      subst (λ r. R a c (x ++ y) r) (sym is) (subst (λ s. R a s (x ++ y) (Err e)) (sym same) (joins.stopped a b x y e h))

  -- the second of two texts, whether or not the first went well
  goes_after : (a b c : S) (x y : List ℕ) (p q : Result ⊤ Failed) → R a b x p → GoesOn R b p c q y → R a c (x ++ y) q
  goes_after a b c x y (Ok _) q h second = joins.both a b c x y q h second.on_ok
  goes_after a b c x y (Err e) q h second = after_stop a b c x y e q h second.on_err_state second.on_err_outcome

  -- two texts that a writer put one after the other are their join
  pub GoesOn-both : (a b c : S) (x y : List ℕ) (o p q : Result ⊤ Failed) → GoesOn R a o b p x → GoesOn R b p c q y → GoesOn R a o c q (x ++ y)
  GoesOn-both a b c x y (Ok _) p q first second =
      record { on_ok = goes_after a b c x y p q first.on_ok second; on_err_state = tt; on_err_outcome = tt }
  GoesOn-both a b c x y (Err e) p q first second =
      let stopped : p ≡ Err e = first.on_err_outcome in
      let rest = subst (λ r. GoesOn R b r c q y) stopped second in
      record { on_ok = tt; on_err_state = rest.on_err_state ∙ first.on_err_state; on_err_outcome = rest.on_err_outcome }
