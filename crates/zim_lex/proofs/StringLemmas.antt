-- The longest front that is a string ends at the first quote after its own.
use Rattle.std.proofs.Common.{◌≡◌, ℕ, zero, suc, ◌+◌, ◌≤◌, ◌<◌, Bool, true, false, List, [], ◌∷◌, length, take, drop, get_or, Option, Some, None, refl, subst, arith}
use Rattle.std.specs.Prelude.{◌==◌, ◌&&◌}
use Rattle.memchr.specs.Find.{IsFirstByte, is_byte}
use Rattle.zim_lex.specs.Classes.{is_quote, first_is}
use Rattle.zim_lex.specs.Fronts.{IsLongestThat, NoneThat}
use Rattle.zim_lex.specs.Numbers.{is_closed, is_string}

is_false : (b : Bool) → (b ≡ true → ⊥) → b ≡ false
is_false true h = absurd (h refl)
is_false false h = refl

-- fronts without the quote aren't closed
unclosed : (q : ℕ) (bs : List ℕ) (m : ℕ) → ((k : ℕ) → k < m → k < length bs → (get_or bs k 0 == q) ≡ false) → is_closed q (take m bs) ≡ false
unclosed q bs zero none = refl
unclosed q [] (suc m) none = refl
unclosed q (b ∷ bs) (suc m) none =
    let first : (b == q) ≡ false = none 0 (omega arith) (omega arith) in
    rw first (unclosed q bs m (λ k low high. none (suc k) (omega arith) (omega arith)))

-- the front that ends at the first quote is closed
closed : (q : ℕ) (bs : List ℕ) (k : ℕ) → k < length bs → (get_or bs k 0 == q) ≡ true → ((j : ℕ) → j < k → (get_or bs j 0 == q) ≡ false) → is_closed q (take (suc k) bs) ≡ true
closed q [] k high h none = absurd (omega arith)
closed q (b ∷ bs) zero high h none = let first : (b == q) ≡ true = h in rw first refl
closed q (b ∷ bs) (suc k) high h none =
    let first : (b == q) ≡ false = none 0 (omega arith) in
    rw first (closed q bs k (omega arith) h (λ j low. none (suc j) (omega arith)))

-- and no longer one is
closed_once : (q : ℕ) (bs : List ℕ) (k m : ℕ) → k < length bs → (get_or bs k 0 == q) ≡ true → ((j : ℕ) → j < k → (get_or bs j 0 == q) ≡ false) → suc k < m → m ≤ length bs → is_closed q (take m bs) ≡ false
closed_once q bs k zero high h none low few = absurd (omega arith)
closed_once q [] k (suc m) high h none low few = absurd (omega arith)
closed_once q (b ∷ bs) zero (suc zero) high h none low few = absurd (omega arith)
closed_once q (b ∷ []) zero (suc (suc m)) high h none low few = absurd (omega arith)
closed_once q (b ∷ c ∷ bs) zero (suc (suc m)) high h none low few = let first : (b == q) ≡ true = h in rw first refl
closed_once q (b ∷ bs) (suc k) (suc m) high h none low few =
    let first : (b == q) ≡ false = none 0 (omega arith) in
    rw first (closed_once q bs k m (omega arith) h (λ j before. none (suc j) (omega arith)) (omega arith) (omega arith))

-- a string that is closed
pub string_front : (bytes : List ℕ) (k : ℕ) → first_is is_quote bytes ≡ true → k < length (drop 1 bytes) → (get_or (drop 1 bytes) k 0 == get_or bytes 0 0) ≡ true
    → ((j : ℕ) → 0 ≤ j → j < k → (get_or (drop 1 bytes) j 0 == get_or bytes 0 0) ≡ true → ⊥) → IsLongestThat is_string bytes (k + 2)
string_front [] k h high is before = cc
string_front (q ∷ bs) k h high is before =
    let total : suc (suc k) ≡ k + 2 = omega arith in
    let none : (j : ℕ) → j < k → (get_or bs j 0 == q) ≡ false = λ j low. is_false (get_or bs j 0 == q) (before j (omega arith) low) in
    subst (IsLongestThat is_string (q ∷ bs)) total (record { within = omega arith; is = rw h (closed q bs k high is none); longer = longer none })
  where
    longer : ((j : ℕ) → j < k → (get_or bs j 0 == q) ≡ false) → (m : ℕ) → suc (suc k) < m → m ≤ length (q ∷ bs) → is_string (take m (q ∷ bs)) ≡ false
    longer none zero low few = absurd (omega arith)
    longer none (suc m) low few = rw h (closed_once q bs k m high is none (omega arith) (omega arith))

-- one that isn't
pub open_string : (bytes : List ℕ) → ((j : ℕ) → 0 ≤ j → j < length (drop 1 bytes) → (get_or (drop 1 bytes) j 0 == get_or bytes 0 0) ≡ true → ⊥) → NoneThat is_string bytes
open_string bytes nowhere zero high = refl
open_string [] nowhere (suc m) high = absurd (omega arith)
open_string (q ∷ bs) nowhere (suc m) high =
    let none : is_closed q (take m bs) ≡ false = unclosed q bs m (λ k low within. is_false (get_or bs k 0 == q) (nowhere k (omega arith) within)) in
    rw none (last (is_quote q))
  where
    last : (x : Bool) → (x && false) ≡ false
    last true = refl
    last false = refl

-- no quote
pub no_string : (bytes : List ℕ) → first_is is_quote bytes ≡ false → NoneThat is_string bytes
no_string bytes h zero high = refl
no_string [] h (suc m) high = refl
no_string (q ∷ bs) h (suc m) high = rw h refl

-- the same with the bytes after the quote
pub string_found : (bytes quoted : List ℕ) (found : Option ℕ) (k : ℕ) → first_is is_quote bytes ≡ true → quoted ≡ drop 1 bytes → IsFirstByte (is_byte (get_or bytes 0 0)) quoted found → found ≡ Some k → IsLongestThat is_string bytes (k + 2)
string_found bytes quoted found k h is_quoted first is =
    let at = subst (IsFirstByte (is_byte (get_or bytes 0 0)) (drop 1 bytes)) is (subst (λ (q : List ℕ). IsFirstByte (is_byte (get_or bytes 0 0)) q found) is_quoted first) in
    string_front bytes k h at.0.high at.1 at.0.before

pub string_open : (bytes quoted : List ℕ) (found : Option ℕ) → quoted ≡ drop 1 bytes → IsFirstByte (is_byte (get_or bytes 0 0)) quoted found → found ≡ None → NoneThat is_string bytes
string_open bytes quoted found is_quoted first is =
    open_string bytes (subst (IsFirstByte (is_byte (get_or bytes 0 0)) (drop 1 bytes)) is (subst (λ (q : List ℕ). IsFirstByte (is_byte (get_or bytes 0 0)) q found) is_quoted first))
