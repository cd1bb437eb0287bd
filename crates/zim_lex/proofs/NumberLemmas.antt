-- The longest front that is a number, part by part.
use Rattle.std.proofs.Common.{◌≡◌, ℕ, zero, suc, ◌+◌, ◌≤◌, ◌<◌, Bool, true, false, cond, ◌||◌, ◌&&◌, List, [], ◌∷◌, length, take, drop, Option, Some, None, refl, ap, sym, ◌∙◌, subst, arith}
use Rattle.std.specs.Prelude.{if◌then◌else◌}
use Rattle.std.specs.List.{prefix_len}
use Rattle.std.proofs.lemmas.List.{drop-drop}
use Rattle.zim_lex.specs.Classes.{is_digit, begins_fraction, begins_exponent, begins_signed, first_is}
use Rattle.zim_lex.specs.Fronts.{IsLongestThat, NoneThat, IsFrontThat}
use Rattle.zim_lex.specs.Numbers.{is_nothing, digits_then, some_digits_then, is_signed_digits, is_exponent_by_bytes, is_fraction, ends_number, is_number_by_bytes}
use Rattle.zim_lex.proofs.ClassLemmas.{digit_begins_no_fraction, fraction_begins_no_exponent}

-- one byte more at the front
lift_one : (p q : List ℕ → Bool) (b : ℕ) (bs : List ℕ) (n : ℕ) → ((xs : List ℕ) → q (b ∷ xs) ≡ p xs) → IsLongestThat p bs n → IsLongestThat q (b ∷ bs) (suc n)
lift_one p q b bs n each front = record { within = omega (arith, front.within); is = each (take n bs) ∙ front.is; longer = longer } where
  longer : (m : ℕ) → suc n < m → m ≤ length (b ∷ bs) → q (take m (b ∷ bs)) ≡ false
  longer zero low high = absurd (omega arith)
  longer (suc m) low high = each (take m bs) ∙ front.longer m (omega arith) (omega arith)

lift_none : (p q : List ℕ → Bool) (b : ℕ) (bs : List ℕ) → ((xs : List ℕ) → q (b ∷ xs) ≡ p xs) → q [] ≡ false → NoneThat p bs → NoneThat q (b ∷ bs)
lift_none p q b bs each nothing none zero high = nothing
lift_none p q b bs each nothing none (suc m) high = each (take m bs) ∙ none m (omega arith)

lift_nothing : (p q : List ℕ → Bool) (b : ℕ) (bs : List ℕ) → ((xs : List ℕ) → q (b ∷ xs) ≡ p xs) → q [] ≡ true → NoneThat p bs → IsLongestThat q (b ∷ bs) 0
lift_nothing p q b bs each nothing none = record { within = omega arith; is = nothing; longer = longer } where
  longer : (m : ℕ) → 0 < m → m ≤ length (b ∷ bs) → q (take m (b ∷ bs)) ≡ false
  longer zero low high = absurd (omega arith)
  longer (suc m) low high = each (take m bs) ∙ none m (omega arith)

-- two tests that say the same of each front with a byte
same_front : (p q : List ℕ → Bool) (bytes : List ℕ) (n : ℕ) → ((m : ℕ) → suc m ≤ length bytes → q (take (suc m) bytes) ≡ p (take (suc m) bytes)) → 0 < n → IsLongestThat p bytes n → IsLongestThat q bytes n
same_front p q bytes zero each some front = absurd (omega arith)
same_front p q bytes (suc n) each some front = record { within = front.within; is = each n front.within ∙ front.is; longer = longer } where
  longer : (m : ℕ) → suc n < m → m ≤ length bytes → q (take m bytes) ≡ false
  longer zero low high = absurd (omega arith)
  longer (suc m) low high = each m high ∙ front.longer (suc m) low high

-- two tests that say the same of each front
pub same_fronts : (p q : List ℕ → Bool) (bytes : List ℕ) (found : Option ℕ) → ((m : ℕ) → m ≤ length bytes → q (take m bytes) ≡ p (take m bytes)) → IsFrontThat p bytes found → IsFrontThat q bytes found
same_fronts p q bytes (Some n) each front = record { within = front.within; is = each n front.within ∙ front.is; longer = λ m low high. each m high ∙ front.longer m low high }
same_fronts p q bytes None each none = λ m high. each m high ∙ none m high

abbrev no_byte : List ℕ
no_byte = []

take_nothing : (m : ℕ) → take m no_byte ≡ no_byte
take_nothing zero = refl
take_nothing (suc m) = refl

-- any digits, and then what passes
digits_front : (p : List ℕ → Bool) (bytes : List ℕ) (n t : ℕ) → IsLongestThat p (drop (prefix_len is_digit bytes) bytes) n → t ≡ prefix_len is_digit bytes + n → IsLongestThat (digits_then p) bytes t
digits_front p [] n t front e =
    let same : n ≡ t = omega (arith, e) in
    subst (IsLongestThat (digits_then p) []) same (record {
      within = front.within;
      is = ap (digits_then p) (take_nothing n) ∙ ap p (sym (take_nothing n)) ∙ front.is;
      longer = λ m low high. ap (digits_then p) (take_nothing m) ∙ ap p (sym (take_nothing m)) ∙ front.longer m low high;
    })
digits_front p (b ∷ bs) n t front e = at (digits_front p bs) (is_digit b) refl front e where
  at : ((j u : ℕ) → IsLongestThat p (drop (prefix_len is_digit bs) bs) j → u ≡ prefix_len is_digit bs + j → IsLongestThat (digits_then p) bs u) → (d : Bool) → is_digit b ≡ d → IsLongestThat p (drop (cond d (1 + prefix_len is_digit bs) 0) (b ∷ bs)) n → t ≡ cond d (1 + prefix_len is_digit bs) 0 + n → IsLongestThat (digits_then p) (b ∷ bs) t
  at others true h f k =
      (let one : 1 + prefix_len is_digit bs ≡ suc (prefix_len is_digit bs) = omega arith in
      let total : suc (prefix_len is_digit bs + n) ≡ t = omega (arith, k) in
      let rest : IsLongestThat p (drop (prefix_len is_digit bs) bs) n = subst (λ (j : ℕ). IsLongestThat p (drop j (b ∷ bs)) n) one f in
      subst (IsLongestThat (digits_then p) (b ∷ bs)) total
      (lift_one (digits_then p) (digits_then p) b bs (prefix_len is_digit bs + n) (λ xs. rw h refl) (others n (prefix_len is_digit bs + n) rest refl)))
  at others false h f k =
      (let total : n ≡ t = omega (arith, k) in
      let each : (m : ℕ) → m ≤ length (b ∷ bs) → digits_then p (take m (b ∷ bs)) ≡ p (take m (b ∷ bs)) = elim [ zero ↦ λ high. refl | suc m ↦ λ high. rw h refl ] in
      subst (IsLongestThat (digits_then p) (b ∷ bs)) total (same_fronts p (digits_then p) (b ∷ bs) (Some n) each f))

first_digit : (b : ℕ) (bs : List ℕ) (d : Bool) → 0 < cond d (1 + prefix_len is_digit bs) 0 → d ≡ true
first_digit b bs true some = refl
first_digit b bs false some = absurd (omega arith)

first_other : (b : ℕ) (bs : List ℕ) (d : Bool) → cond d (1 + prefix_len is_digit bs) 0 ≡ 0 → d ≡ false
first_other b bs true none = absurd (omega (arith, none))
first_other b bs false none = refl

-- one digit or more, and then what passes
pub some_digits_front : (p : List ℕ → Bool) (bytes : List ℕ) (n t : ℕ) → 0 < prefix_len is_digit bytes → IsLongestThat p (drop (prefix_len is_digit bytes) bytes) n → t ≡ prefix_len is_digit bytes + n
    → IsLongestThat (some_digits_then p) bytes t
some_digits_front p [] n t some front e = absurd (omega arith)
some_digits_front p (b ∷ bs) n t some front e =
    let h : is_digit b ≡ true = first_digit b bs (is_digit b) some in
    same_front (digits_then p) (some_digits_then p) (b ∷ bs) t (λ m high. rw h refl) (omega (arith, e)) (digits_front p (b ∷ bs) n t front e)

pub no_digits_front : (p : List ℕ → Bool) (bytes : List ℕ) → prefix_len is_digit bytes ≡ 0 → NoneThat (some_digits_then p) bytes
no_digits_front p [] none m high = ap (some_digits_then p) (take_nothing m)
no_digits_front p (b ∷ bs) none zero high = refl
no_digits_front p (b ∷ bs) none (suc m) high = let h : is_digit b ≡ false = first_other b bs (is_digit b) none in rw h refl

nothing_front : (bytes : List ℕ) → IsLongestThat is_nothing bytes 0
nothing_front bytes = record { within = omega arith; is = refl; longer = longer bytes } where
  longer : (bs : List ℕ) (m : ℕ) → 0 < m → m ≤ length bs → is_nothing (take m bs) ≡ false
  longer bs zero low high = absurd (omega arith)
  longer [] (suc m) low high = absurd (omega arith)
  longer (b ∷ bs) (suc m) low high = refl

digits_alone : (bytes : List ℕ) → 0 < prefix_len is_digit bytes → IsLongestThat (some_digits_then is_nothing) bytes (prefix_len is_digit bytes)
digits_alone bytes some =
    let e : prefix_len is_digit bytes ≡ prefix_len is_digit bytes + 0 = omega arith in
    some_digits_front is_nothing bytes 0 (prefix_len is_digit bytes) some (nothing_front (drop (prefix_len is_digit bytes) bytes)) e

-- how many bytes the sign at the front has
abbrev pub sign_bytes : List ℕ → ℕ
sign_bytes bytes = if first_is begins_signed bytes then 1 else 0

-- digits, maybe signed
pub signed_front : (bytes : List ℕ) → 0 < prefix_len is_digit (drop (sign_bytes bytes) bytes) → IsLongestThat is_signed_digits bytes (sign_bytes bytes + prefix_len is_digit (drop (sign_bytes bytes) bytes))
signed_front [] some = absurd (omega arith)
signed_front (b ∷ bs) some = at (begins_signed b) refl some where
  at : (s : Bool) → begins_signed b ≡ s → 0 < prefix_len is_digit (drop (if s then 1 else 0) (b ∷ bs)) → IsLongestThat is_signed_digits (b ∷ bs) ((if s then 1 else 0) + prefix_len is_digit (drop (if s then 1 else 0) (b ∷ bs)))
  at true h k =
      (let total : suc (prefix_len is_digit bs) ≡ 1 + prefix_len is_digit bs = omega arith in
      subst (IsLongestThat is_signed_digits (b ∷ bs)) total (lift_one (some_digits_then is_nothing) is_signed_digits b bs (prefix_len is_digit bs) (λ xs. rw h refl) (digits_alone bs k)))
  at false h k =
      (let total : prefix_len is_digit (b ∷ bs) ≡ 0 + prefix_len is_digit (b ∷ bs) = omega arith in
      subst (IsLongestThat is_signed_digits (b ∷ bs)) total (same_front (some_digits_then is_nothing) is_signed_digits (b ∷ bs) (prefix_len is_digit (b ∷ bs)) (λ m high. rw h refl) k (digits_alone (b ∷ bs) k)))

pub no_signed_front : (bytes : List ℕ) → prefix_len is_digit (drop (sign_bytes bytes) bytes) ≡ 0 → NoneThat is_signed_digits bytes
no_signed_front [] none = λ m high. ap is_signed_digits (take_nothing m)
no_signed_front (b ∷ bs) none = at (begins_signed b) refl none where
  at : (s : Bool) → begins_signed b ≡ s → prefix_len is_digit (drop (if s then 1 else 0) (b ∷ bs)) ≡ 0 → NoneThat is_signed_digits (b ∷ bs)
  at true h k = lift_none (some_digits_then is_nothing) is_signed_digits b bs (λ xs. rw h refl) refl (no_digits_front is_nothing bs k)
  at false h k =
      elim [
        | zero ↦ λ high. refl
        | suc m ↦ λ high. (let other : some_digits_then is_nothing (take (suc m) (b ∷ bs)) ≡ false = no_digits_front is_nothing (b ∷ bs) k (suc m) high in rw h other)
      ]

-- an exponent, or nothing
pub exponent_front : (bytes : List ℕ) (n : ℕ) → first_is begins_exponent bytes ≡ true → IsLongestThat is_signed_digits (drop 1 bytes) n → IsLongestThat is_exponent_by_bytes bytes (1 + n)
exponent_front [] n h front = cc
exponent_front (b ∷ bs) n h front =
    let total : suc n ≡ 1 + n = omega arith in
    subst (IsLongestThat is_exponent_by_bytes (b ∷ bs)) total (lift_one is_signed_digits is_exponent_by_bytes b bs n (λ xs. rw h refl) front)

pub no_exponent_digits : (bytes : List ℕ) → first_is begins_exponent bytes ≡ true → NoneThat is_signed_digits (drop 1 bytes) → IsLongestThat is_exponent_by_bytes bytes 0
no_exponent_digits [] h none = cc
no_exponent_digits (b ∷ bs) h none = lift_nothing is_signed_digits is_exponent_by_bytes b bs (λ xs. rw h refl) refl none

pub no_exponent : (bytes : List ℕ) → first_is begins_exponent bytes ≡ false → IsLongestThat is_exponent_by_bytes bytes 0
no_exponent [] h = record { within = omega arith; is = refl; longer = λ m low high. absurd (omega arith) }
no_exponent (b ∷ bs) h = lift_nothing (λ xs. false) is_exponent_by_bytes b bs (λ xs. rw h refl) refl (λ m high. refl)

-- a point, digits and maybe an exponent
pub fraction_front : (bytes : List ℕ) (n t : ℕ) → first_is begins_fraction bytes ≡ true → 0 < prefix_len is_digit (drop 1 bytes) → IsLongestThat is_exponent_by_bytes (drop (1 + prefix_len is_digit (drop 1 bytes)) bytes) n
    → t ≡ 1 + prefix_len is_digit (drop 1 bytes) + n → IsLongestThat is_fraction bytes t
fraction_front [] n t h some front e = cc
fraction_front (b ∷ bs) n t h some front e =
    let one : 1 + prefix_len is_digit bs ≡ suc (prefix_len is_digit bs) = omega arith in
    let rest : IsLongestThat is_exponent_by_bytes (drop (prefix_len is_digit bs) bs) n = subst (λ (j : ℕ). IsLongestThat is_exponent_by_bytes (drop j (b ∷ bs)) n) one front in
    let total : suc (prefix_len is_digit bs + n) ≡ t = omega (arith, e) in
    subst (IsLongestThat is_fraction (b ∷ bs)) total
    (lift_one (some_digits_then is_exponent_by_bytes) is_fraction b bs (prefix_len is_digit bs + n) (λ xs. rw h refl) (some_digits_front is_exponent_by_bytes bs n (prefix_len is_digit bs + n) some rest refl))

pub no_fraction_digits : (bytes : List ℕ) → first_is begins_fraction bytes ≡ true → prefix_len is_digit (drop 1 bytes) ≡ 0 → NoneThat is_fraction bytes
no_fraction_digits [] h none = cc
no_fraction_digits (b ∷ bs) h none = lift_none (some_digits_then is_exponent_by_bytes) is_fraction b bs (λ xs. rw h refl) refl (no_digits_front is_exponent_by_bytes bs none)

pub no_fraction : (bytes : List ℕ) → first_is begins_fraction bytes ≡ false → NoneThat is_fraction bytes
no_fraction [] h m high = ap is_fraction (take_nothing m)
no_fraction (b ∷ bs) h m high = lift_none (λ xs. false) is_fraction b bs (λ xs. rw h refl) refl (λ k low. refl) m high

-- what follows the first digits
ends_with_fraction : (bytes : List ℕ) (n : ℕ) → IsLongestThat is_fraction bytes n → IsLongestThat ends_number bytes n
ends_with_fraction [] n front = let some : is_fraction [] ≡ true = ap is_fraction (sym (take_nothing n)) ∙ front.is in cc
ends_with_fraction (b ∷ bs) zero front = let some : is_fraction [] ≡ true = front.is in cc
ends_with_fraction (b ∷ bs) (suc n) front =
    let point : begins_fraction b ≡ true = first (begins_fraction b) (some_digits_then is_exponent_by_bytes (take n bs)) front.is in
    let mark : begins_exponent b ≡ false = fraction_begins_no_exponent b point in
    same_front is_fraction ends_number (b ∷ bs) (suc n) (λ m high. rw (mark, point) refl) (omega arith) front
  where
    first : (x y : Bool) → (x && y) ≡ true → x ≡ true
    first true y h = refl
    first false y h = cc

or_none : (x y : Bool) → y ≡ false → (x || y) ≡ x
or_none true y h = refl
or_none false y h = h

none_or : (x y : Bool) → x ≡ false → (x || y) ≡ y
none_or true y h = cc
none_or false y h = refl

ends_with_exponent : (bytes : List ℕ) (n : ℕ) → NoneThat is_fraction bytes → IsLongestThat is_exponent_by_bytes bytes n → IsLongestThat ends_number bytes n
ends_with_exponent bytes n none front = same_fronts is_exponent_by_bytes ends_number bytes (Some n) (λ m high. or_none (is_exponent_by_bytes (take m bytes)) (is_fraction (take m bytes)) (none m high)) front

-- a number without first digits
pub number_fraction : (bytes : List ℕ) (found : Option ℕ) → prefix_len is_digit bytes ≡ 0 → IsFrontThat is_fraction bytes found → IsFrontThat is_number_by_bytes bytes found
number_fraction bytes found none =
    same_fronts is_fraction is_number_by_bytes bytes found (λ m high. none_or (some_digits_then ends_number (take m bytes)) (is_fraction (take m bytes)) (no_digits_front ends_number bytes none m high))

-- a number with first digits
number_ended : (bytes : List ℕ) (n t : ℕ) → 0 < prefix_len is_digit bytes → IsLongestThat ends_number (drop (prefix_len is_digit bytes) bytes) n → t ≡ prefix_len is_digit bytes + n → IsLongestThat is_number_by_bytes bytes t
number_ended [] n t some front e = absurd (omega arith)
number_ended (b ∷ bs) n t some front e =
    let digit : is_digit b ≡ true = first_digit b bs (is_digit b) some in
    let none : NoneThat is_fraction (b ∷ bs) = no_fraction (b ∷ bs) (digit_begins_no_fraction b digit) in
    same_fronts (some_digits_then ends_number) is_number_by_bytes (b ∷ bs) (Some t) (λ m high. or_none (some_digits_then ends_number (take m (b ∷ bs))) (is_fraction (take m (b ∷ bs))) (none m high))
    (some_digits_front ends_number (b ∷ bs) n t some front e)

pub number_with_fraction : (bytes : List ℕ) (n t : ℕ) → 0 < prefix_len is_digit bytes → IsLongestThat is_fraction (drop (prefix_len is_digit bytes) bytes) n → t ≡ prefix_len is_digit bytes + n → IsLongestThat is_number_by_bytes bytes t
number_with_fraction bytes n t some front e = number_ended bytes n t some (ends_with_fraction (drop (prefix_len is_digit bytes) bytes) n front) e

pub number_with_exponent : (bytes : List ℕ) (n t : ℕ) → 0 < prefix_len is_digit bytes → NoneThat is_fraction (drop (prefix_len is_digit bytes) bytes) → IsLongestThat is_exponent_by_bytes (drop (prefix_len is_digit bytes) bytes) n → t ≡ prefix_len is_digit bytes + n
    → IsLongestThat is_number_by_bytes bytes t
number_with_exponent bytes n t some none front e = number_ended bytes n t some (ends_with_exponent (drop (prefix_len is_digit bytes) bytes) n none front) e

-- a first byte is there where it passes
pub first_within : (p : ℕ → Bool) (bytes : List ℕ) → first_is p bytes ≡ true → 1 ≤ length bytes
first_within p [] h = cc
first_within p (b ∷ bs) h = omega arith

pub sign_within : (bytes : List ℕ) → sign_bytes bytes ≤ length bytes
sign_within bytes = at (first_is begins_signed bytes) refl where
  at : (s : Bool) → first_is begins_signed bytes ≡ s → (if s then 1 else 0) ≤ length bytes
  at true h = first_within begins_signed bytes h
  at false h = omega arith

-- the same with what the code counted
pub signed_found : (bytes rest : List ℕ) (s k : ℕ) → s ≡ sign_bytes bytes → rest ≡ drop s bytes → k ≡ prefix_len is_digit rest → 0 < k → IsLongestThat is_signed_digits bytes (s + k)
signed_found bytes rest s k is_s is_rest is_k some =
    let digits : k ≡ prefix_len is_digit (drop (sign_bytes bytes) bytes) = is_k ∙ ap (prefix_len is_digit) (is_rest ∙ ap (λ (j : ℕ). drop j bytes) is_s) in
    let total : sign_bytes bytes + prefix_len is_digit (drop (sign_bytes bytes) bytes) ≡ s + k = omega (arith, is_s, digits) in
    subst (IsLongestThat is_signed_digits bytes) total (signed_front bytes (subst (λ (j : ℕ). 0 < j) digits some))

pub none_signed : (bytes rest : List ℕ) (s k : ℕ) → s ≡ sign_bytes bytes → rest ≡ drop s bytes → k ≡ prefix_len is_digit rest → k ≡ 0 → NoneThat is_signed_digits bytes
none_signed bytes rest s k is_s is_rest is_k none =
    let digits : k ≡ prefix_len is_digit (drop (sign_bytes bytes) bytes) = is_k ∙ ap (prefix_len is_digit) (is_rest ∙ ap (λ (j : ℕ). drop j bytes) is_s) in
    no_signed_front bytes (sym digits ∙ none)

after_both : (a b : List ℕ) (k : ℕ) (bytes : List ℕ) → a ≡ drop 1 bytes → b ≡ drop k a → b ≡ drop (1 + k) bytes
after_both a b k bytes is_a is_b =
    is_b ∙ ap (drop k) is_a ∙ drop-drop k 1 bytes

pub fraction_found : (bytes decimals rest : List ℕ) (k n : ℕ) → first_is begins_fraction bytes ≡ true → decimals ≡ drop 1 bytes → k ≡ prefix_len is_digit decimals → 0 < k → rest ≡ drop k decimals → IsLongestThat is_exponent_by_bytes rest n
    → IsLongestThat is_fraction bytes (1 + k + n)
fraction_found bytes decimals rest k n h is_decimals is_k some is_rest front =
    let digits : k ≡ prefix_len is_digit (drop 1 bytes) = is_k ∙ ap (prefix_len is_digit) is_decimals in
    let total : 1 + k + n ≡ 1 + prefix_len is_digit (drop 1 bytes) + n = ap (λ (j : ℕ). 1 + j + n) digits in
    let left : rest ≡ drop (1 + prefix_len is_digit (drop 1 bytes)) bytes = after_both decimals rest k bytes is_decimals is_rest ∙ ap (λ (j : ℕ). drop (1 + j) bytes) digits in
    fraction_front bytes n (1 + k + n) h (subst (λ (j : ℕ). 0 < j) digits some) (subst (λ (r : List ℕ). IsLongestThat is_exponent_by_bytes r n) left front) total

pub number_fraction_found : (bytes rest : List ℕ) (k n : ℕ) → k ≡ prefix_len is_digit bytes → 0 < k → rest ≡ drop k bytes → IsLongestThat is_fraction rest n → IsLongestThat is_number_by_bytes bytes (k + n)
number_fraction_found bytes rest k n is_k some is_rest front =
    number_with_fraction bytes n (k + n) (subst (λ (j : ℕ). 0 < j) is_k some) (subst (λ (r : List ℕ). IsLongestThat is_fraction r n) (is_rest ∙ ap (λ (j : ℕ). drop j bytes) is_k) front) (ap (λ (j : ℕ). j + n) is_k)

pub number_exponent_found : (bytes rest : List ℕ) (k n : ℕ) → k ≡ prefix_len is_digit bytes → 0 < k → rest ≡ drop k bytes → NoneThat is_fraction rest → IsLongestThat is_exponent_by_bytes rest n → IsLongestThat is_number_by_bytes bytes (k + n)
number_exponent_found bytes rest k n is_k some is_rest none front =
    let left : rest ≡ drop (prefix_len is_digit bytes) bytes = is_rest ∙ ap (λ (j : ℕ). drop j bytes) is_k in
    number_with_exponent bytes n (k + n) (subst (λ (j : ℕ). 0 < j) is_k some) (subst (NoneThat is_fraction) left none) (subst (λ (r : List ℕ). IsLongestThat is_exponent_by_bytes r n) left front) (ap (λ (j : ℕ). j + n) is_k)
