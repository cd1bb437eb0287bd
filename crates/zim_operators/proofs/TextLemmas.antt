-- A part of a text doesn't change where its position and its length are cut to the text's length.
use Rattle.std.proofs.Common.{◌≡◌, ℕ, ◌≤◌, min, List, length, take, drop, inl, inr, sym, ap, ◌∙◌, arith}
use Rattle.std.proofs.Math.Nat.{min-eq_left, min-eq_right}
use Rattle.std.proofs.lemmas.Bool.{cases_lt}
use Rattle.std.proofs.lemmas.List.{take_all, drop_all, length-drop}

taken : (s : List ℕ) (n b : ℕ) → take (min n (length s)) (drop b s) ≡ take n (drop b s)
taken s n b = elim (cases_lt n (length s)) [
  | inl below ↦ ap (λ m. take m (drop b s)) (min-eq_left (omega (arith, below)))
  | inr past ↦
      let short : length (drop b s) ≤ length s = rw (length-drop b s) (omega arith) in
      ap (λ m. take m (drop b s)) (min-eq_right past) ∙ take_all (length s) (drop b s) short ∙ sym (take_all n (drop b s) (omega (arith, short, past)))
]

dropped : (s : List ℕ) (b : ℕ) → drop (min b (length s)) s ≡ drop b s
dropped s b = elim (cases_lt b (length s)) [
  | inl below ↦ ap (λ m. drop m s) (min-eq_left (omega (arith, below)))
  | inr past ↦ ap (λ m. drop m s) (min-eq_right past) ∙ drop_all (length s) s (omega arith) ∙ sym (drop_all b s past)
]

pub part_within : (s text : List ℕ) (b n p m : ℕ) → p ≡ min b (length s) → m ≡ min n (length s) → text ≡ take m (drop p s) → text ≡ take n (drop b s)
part_within s text b n p m first second made =
    made ∙ ap (λ k. take m (drop k s)) first ∙ ap (λ k. take k (drop (min b (length s)) s)) second ∙ ap (take (min n (length s))) (dropped s b) ∙ taken s n b
