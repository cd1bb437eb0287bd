-- What a search for a byte says of the parts that this byte parts, and of the bytes without it.
use Rattle.std.proofs.Common.{◌≡◌, ℕ, zero, suc, ◌+◌, ◌≤◌, ◌<◌, Bool, true, false, List, [], ◌∷◌, ◌++◌, length, take, drop, get_or, Option, Some, None, refl, ap, ◌∙◌, subst, arith}
use Rattle.std.specs.Prelude.{◌==◌, not, filter}
use Rattle.std.specs.List.{slice_split}
use Rattle.memchr.specs.Find.{IsFirstByte, is_byte}

is_false : (b : Bool) → (b ≡ true → ⊥) → b ≡ false
is_false true h = absurd (h refl)
is_false false h = refl

split_at : (n : ℕ) (bs : List ℕ) (k : ℕ) → k < length bs → (get_or bs k 0 == n) ≡ true → ((j : ℕ) → 0 ≤ j → j < k → (get_or bs j 0 == n) ≡ true → ⊥) → slice_split (λ b. b == n) bs ≡ take k bs ∷ slice_split (λ b. b == n) (drop (suc k) bs)
split_at n [] k high is none = absurd (omega arith)
split_at n (b ∷ bs) zero high is none = let here : (b == n) ≡ true = is in rw here refl
split_at n (b ∷ bs) (suc k) high is none =
    let here : (b == n) ≡ false = is_false (b == n) (none 0 (omega arith) (omega arith)) in
    rw (here, split_at n bs k (omega arith) is (λ j any low. none (suc j) (omega arith) (omega arith))) refl

split_none : (n : ℕ) (bs : List ℕ) → ((j : ℕ) → 0 ≤ j → j < length bs → (get_or bs j 0 == n) ≡ true → ⊥) → slice_split (λ b. b == n) bs ≡ bs ∷ []
split_none n [] none = refl
split_none n (b ∷ bs) none =
    let here : (b == n) ≡ false = is_false (b == n) (none 0 (omega arith) (omega arith)) in
    rw (here, split_none n bs (λ j any low. none (suc j) (omega arith) (omega arith))) refl

filter_at : (n : ℕ) (bs : List ℕ) (k : ℕ) → k < length bs → (get_or bs k 0 == n) ≡ true → ((j : ℕ) → 0 ≤ j → j < k → (get_or bs j 0 == n) ≡ true → ⊥) → filter (λ b. not (b == n)) bs ≡ take k bs ++ filter (λ b. not (b == n)) (drop (suc k) bs)
filter_at n [] k high is none = absurd (omega arith)
filter_at n (b ∷ bs) zero high is none = let here : (b == n) ≡ true = is in rw here refl
filter_at n (b ∷ bs) (suc k) high is none =
    let here : (b == n) ≡ false = is_false (b == n) (none 0 (omega arith) (omega arith)) in
    rw (here, filter_at n bs k (omega arith) is (λ j any low. none (suc j) (omega arith) (omega arith))) refl

filter_none : (n : ℕ) (bs : List ℕ) → ((j : ℕ) → 0 ≤ j → j < length bs → (get_or bs j 0 == n) ≡ true → ⊥) → filter (λ b. not (b == n)) bs ≡ bs
filter_none n [] none = refl
filter_none n (b ∷ bs) none =
    let here : (b == n) ≡ false = is_false (b == n) (none 0 (omega arith) (omega arith)) in
    rw (here, filter_none n bs (λ j any low. none (suc j) (omega arith) (omega arith))) refl

one_on : (k : ℕ) (bs : List ℕ) → drop (suc k) bs ≡ drop (k + 1) bs
one_on k bs = let e : suc k ≡ k + 1 = omega arith in ap (λ (j : ℕ). drop j bs) e

-- where the byte is found
pub found_within : (n : ℕ) (bs : List ℕ) (found : Option ℕ) (k : ℕ) → IsFirstByte (is_byte n) bs found → found ≡ Some k → k < length bs
found_within n bs found k first is = let at = subst (IsFirstByte (is_byte n) bs) is first in at.0.high

-- the parts, where the byte is found
pub split_found : (n : ℕ) (bs : List ℕ) (found : Option ℕ) (k : ℕ) → IsFirstByte (is_byte n) bs found → found ≡ Some k → slice_split (λ b. b == n) bs ≡ take k bs ∷ slice_split (λ b. b == n) (drop (k + 1) bs)
split_found n bs found k first is =
    let at = subst (IsFirstByte (is_byte n) bs) is first in
    split_at n bs k at.0.high at.1 at.0.before ∙ ap (λ (rest : List ℕ). take k bs ∷ slice_split (λ b. b == n) rest) (one_on k bs)

-- the one part, where it isn't
pub split_unfound : (n : ℕ) (bs : List ℕ) (found : Option ℕ) → IsFirstByte (is_byte n) bs found → found ≡ None → slice_split (λ b. b == n) bs ≡ bs ∷ []
split_unfound n bs found first is = split_none n bs (subst (IsFirstByte (is_byte n) bs) is first)

-- the other bytes, where the byte is found
pub others_found : (n : ℕ) (bs : List ℕ) (found : Option ℕ) (k : ℕ) → IsFirstByte (is_byte n) bs found → found ≡ Some k → filter (λ b. not (b == n)) bs ≡ take k bs ++ filter (λ b. not (b == n)) (drop (k + 1) bs)
others_found n bs found k first is =
    let at = subst (IsFirstByte (is_byte n) bs) is first in
    filter_at n bs k at.0.high at.1 at.0.before ∙ ap (λ (rest : List ℕ). take k bs ++ filter (λ b. not (b == n)) rest) (one_on k bs)

-- all bytes are others, where it isn't
pub others_unfound : (n : ℕ) (bs : List ℕ) (found : Option ℕ) → IsFirstByte (is_byte n) bs found → found ≡ None → filter (λ b. not (b == n)) bs ≡ bs
others_unfound n bs found first is = filter_none n bs (subst (IsFirstByte (is_byte n) bs) is first)
