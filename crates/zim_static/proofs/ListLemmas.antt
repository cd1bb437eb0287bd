-- Loops over lists that stop at the first member that passes a test.
use Rattle.std.proofs.Common.{ℕ, suc, ◌+◌, ◌<◌, ◌≤◌, ◌≡◌, Bool, true, false, ◌||◌, List, ◌∷◌, length, get_or, drop, arith, sym, ap, ◌∙◌}
use Rattle.std.proofs.Math.Seq.{drop-cons}
use Rattle.std.proofs.lemmas.List.{drop_all}
use Rattle.std.specs.List.{list_any}

plus_one : (i : ℕ) → i + 1 ≡ suc i
plus_one i = omega arith

-- what is left of a list, from the member that a loop has come to
pub left_from : {X : Type 0} (xs : List X) (i : ℕ) (x : X) → i < length xs → x ≡ get_or xs i x → drop i xs ≡ x ∷ drop (i + 1) xs
left_from xs i x within is = rw (plus_one i) (drop-cons xs i x within ∙ ap (λ y. y ∷ drop (suc i) xs) (sym is))

-- whether a member from there on passes a test
abbrev pub any_left : {X : Type 0} → (X → Bool) → List X → ℕ → Bool → Type 0
any_left test xs i whole = list_any test (drop i xs) ≡ whole

pub any_next : {X : Type 0} (test : X → Bool) (xs : List X) (i : ℕ) (x : X) (whole : Bool) → i < length xs → x ≡ get_or xs i x → test x ≡ false → any_left test xs i whole → any_left test xs (i + 1) whole
any_next test xs i x whole within is fails h = sym (ap (λ b. b || list_any test (drop (i + 1) xs)) fails) ∙ sym (ap (list_any test) (left_from xs i x within is)) ∙ h

pub any_found : {X : Type 0} (test : X → Bool) (xs : List X) (i : ℕ) (x : X) (whole : Bool) → i < length xs → x ≡ get_or xs i x → test x ≡ true → any_left test xs i whole → true ≡ whole
any_found test xs i x whole within is passes h = sym (ap (λ b. b || list_any test (drop (i + 1) xs)) passes) ∙ sym (ap (list_any test) (left_from xs i x within is)) ∙ h

pub any_end : {X : Type 0} (test : X → Bool) (xs : List X) (i : ℕ) (whole : Bool) → length xs ≤ i → any_left test xs i whole → false ≡ whole
any_end test xs i whole out h = sym (ap (list_any test) (drop_all i xs out)) ∙ h

-- the first of two parts fails a test, and so the whole is as the second
pub by_second : (whole a b r f : Bool) → whole ≡ (a || b) → f ≡ a → f ≡ false → r ≡ b → r ≡ whole
by_second whole a b r f is first fails second = second ∙ sym (is ∙ (λ i. (sym first ∙ fails) i || b))

-- the first of two parts passes it, and so does the whole
pub by_first : (whole a b r : Bool) → whole ≡ (a || b) → r ≡ a → r ≡ true → true ≡ whole
by_first whole a b r is first passes = sym (is ∙ (λ i. (sym first ∙ passes) i || b))

-- of three parts the first passes, or the second, or it is as the third
pub of_three_first : (whole a b c r : Bool) → whole ≡ ((a || b) || c) → r ≡ a → r ≡ true → true ≡ whole
of_three_first whole a b c r is first passes = sym (is ∙ (λ i. ((sym first ∙ passes) i || b) || c))

pub of_three_second : (whole a b c r f : Bool) → whole ≡ ((a || b) || c) → f ≡ a → f ≡ false → r ≡ b → r ≡ true → true ≡ whole
of_three_second whole a b c r f is first fails second passes = sym (is ∙ (λ i. ((sym first ∙ fails) i || (sym second ∙ passes) i) || c))

pub of_three_third : (whole a b c r f g : Bool) → whole ≡ ((a || b) || c) → f ≡ a → f ≡ false → g ≡ b → g ≡ false → r ≡ c → r ≡ whole
of_three_third whole a b c r f g is first fails second fails_too third = third ∙ sym (is ∙ (λ i. ((sym first ∙ fails) i || (sym second ∙ fails_too) i) || c))
