-- The longest piece at the front, by what holds of each front, and class by class.
use Rattle.std.proofs.Common.{◌≡◌, ℕ, zero, suc, ◌+◌, ◌≤◌, ◌<◌, Bool, true, false, cond, List, [], ◌∷◌, length, take, get_or, Option, Some, None, inl, inr, refl, ap, sym, ◌∙◌, subst, arith}
use Rattle.std.specs.Prelude.{if◌then◌else◌, nat_le, nat_lt}
use Rattle.std.specs.List.{list_all, prefix_len}
use Rattle.std.proofs.Math.Nat.{eq-or-lt_of_le}
use Rattle.std.proofs.lemmas.List.{take_all, length-take, get_or-take}
use Rattle.std.proofs.lemmas.List.Folds.{list_all_at}
use Rattle.std.proofs.lemmas.List.Sums.{prefix_len_stops, prefix_len-le-length}
use Rattle.zim_lex.specs.Pieces.{is_piece, is_sign}
use Rattle.std.proofs.lemmas.Bool.Decides.{nat_tests}
use Rattle.zim_lex.specs.Cut.{longest_up_to, longest}
use Rattle.zim_lex.specs.Fronts.{NoneThat, IsFrontThat}
use Rattle.zim_lex.specs.Signs.{longest_sign}
use Rattle.zim_lex.proofs.PieceLemmas.{is_piece-nil, is_sign-nil, no_long_sign}

-- where no front of up to `most` bytes is a piece
pub longest_none : (most : ℕ) (bytes : List ℕ) → ((m : ℕ) → 0 < m → m ≤ most → is_piece (take m bytes) ≡ false) → longest_up_to most bytes ≡ None
longest_none zero bytes h = refl
longest_none (suc most) bytes h =
    let here : is_piece (take (suc most) bytes) ≡ false = h (suc most) (omega arith) (omega arith) in
    rw here (longest_none most bytes (λ m low high. h m low (omega arith)))

-- where a front of n bytes is a piece and no longer one of up to `most` is
pub longest_at : (most n : ℕ) (bytes : List ℕ) → 0 < n → n ≤ most → is_piece (take n bytes) ≡ true → ((m : ℕ) → n < m → m ≤ most → is_piece (take m bytes) ≡ false) → longest_up_to most bytes ≡ Some n
longest_at zero n bytes low high is misses = absurd (omega arith)
longest_at (suc most) n bytes low high is misses =
    elim (eq-or-lt_of_le high) [
      | inl e ↦ (let here : is_piece (take (suc most) bytes) ≡ true = subst (λ (k : ℕ). is_piece (take k bytes) ≡ true) e is in rw here (ap Some (sym e)))
      | inr lt ↦ (let here : is_piece (take (suc most) bytes) ≡ false = misses (suc most) (omega arith) (omega arith) in
          rw here (longest_at most n bytes low (omega arith) is (λ m above below. misses m above (omega arith))))
    ]

-- the front that passes is one that passes, and no longer front does
pub list_all_front : (p : ℕ → Bool) (bs : List ℕ) → list_all p (take (prefix_len p bs) bs) ≡ true
list_all_front p [] = refl
list_all_front p (b ∷ bs) =
    let at : (t : Bool) → p b ≡ t → list_all p (take (cond t (1 + prefix_len p bs) 0) (b ∷ bs)) ≡ true =
    elim [ true ↦ λ e. (let one : 1 + prefix_len p bs ≡ suc (prefix_len p bs) = omega arith in rw (one, e) (list_all_front p bs)) | false ↦ λ e. refl ]
    in at (p b) refl

list_all_past : (p : ℕ → Bool) (bs : List ℕ) (k : ℕ) → prefix_len p bs < k → k ≤ length bs → list_all p (take k bs) ≡ false
list_all_past p bs k low high =
    let within : prefix_len p bs < length (take k bs) = rw length-take (omega arith) in
    let stops : p (get_or bs (prefix_len p bs) 0) ≡ false = prefix_len_stops p bs 0 (omega arith) in
    list_all_at p (take k bs) (prefix_len p bs) 0 within (rw (get_or-take k bs (prefix_len p bs) 0 low) stops)

-- where the pieces that begin with a byte are those whose other bytes pass
pub longest_run : (p : ℕ → Bool) (b : ℕ) (bs : List ℕ) → ((xs : List ℕ) → is_piece (b ∷ xs) ≡ list_all p xs) → longest (b ∷ bs) ≡ Some (suc (prefix_len p bs))
unfolding longest
longest_run p b bs each =
    longest_at (length (b ∷ bs)) (suc (prefix_len p bs)) (b ∷ bs) (omega arith) (omega (arith, prefix_len-le-length p bs)) (each (take (prefix_len p bs) bs) ∙ list_all_front p bs) past where
      past : (m : ℕ) → suc (prefix_len p bs) < m → m ≤ length (b ∷ bs) → is_piece (take m (b ∷ bs)) ≡ false
      past zero low high = absurd (omega arith)
      past (suc m) low high = each (take m bs) ∙ list_all_past p bs m (omega arith) (omega arith)

-- where all of the bytes are a piece
pub longest_all : (bytes : List ℕ) → 0 < length bytes → is_piece bytes ≡ true → longest bytes ≡ Some (length bytes)
unfolding longest
longest_all bytes some is =
    let whole : is_piece (take (length bytes) bytes) ≡ true = rw (take_all (length bytes) bytes (omega arith)) is in
    longest_at (length bytes) (length bytes) bytes some (omega arith) whole (λ m low high. absurd (omega arith))

-- where the fronts that are pieces are those that pass another test
pub longest_by : (p : List ℕ → Bool) (bytes : List ℕ) (found : Option ℕ) → ((m : ℕ) → m ≤ length bytes → is_piece (take m bytes) ≡ p (take m bytes)) → IsFrontThat p bytes found → longest bytes ≡ found
unfolding longest
longest_by p bytes (Some zero) each front = let some : is_piece [] ≡ true = each 0 front.within ∙ front.is in let none : is_piece [] ≡ false = is_piece-nil in cc
longest_by p bytes (Some (suc n)) each front =
    longest_at (length bytes) (suc n) bytes (omega arith) front.within (each (suc n) front.within ∙ front.is) (λ m low high. each m high ∙ front.longer m low high)
longest_by p bytes None each none = longest_none (length bytes) bytes (λ m low high. each m high ∙ none m high)

past_two : (b c : ℕ) (bs : List ℕ) (m : ℕ) → 2 < m → m ≤ length (b ∷ c ∷ bs) → is_sign (take m (b ∷ c ∷ bs)) ≡ false
past_two b c bs zero low high = absurd (omega arith)
past_two b c bs (suc zero) low high = absurd (omega arith)
past_two b c bs (suc (suc zero)) low high = absurd (omega arith)
past_two b c [] (suc (suc (suc m))) low high = absurd (omega arith)
past_two b c (d ∷ bs) (suc (suc (suc m))) low high = no_long_sign b c d (take m bs)

past_one : (b : ℕ) (bs : List ℕ) → is_sign (take 2 (b ∷ bs)) ≡ false → (m : ℕ) → 1 < m → m ≤ length (b ∷ bs) → is_sign (take m (b ∷ bs)) ≡ false
past_one b bs misses zero low high = absurd (omega arith)
past_one b bs misses (suc zero) low high = absurd (omega arith)
past_one b [] misses (suc (suc m)) low high = absurd (omega arith)
past_one b (c ∷ bs) misses (suc (suc zero)) low high = misses
past_one b (c ∷ bs) misses (suc (suc (suc m))) low high = past_two b c bs (suc (suc (suc m))) (omega arith) high

not_even_one : (b : ℕ) (bs : List ℕ) → is_sign (take 2 (b ∷ bs)) ≡ false → is_sign (b ∷ []) ≡ false → NoneThat is_sign (b ∷ bs)
not_even_one b bs misses not_one zero high = is_sign-nil
not_even_one b bs misses not_one (suc zero) high = not_one
not_even_one b bs misses not_one (suc (suc m)) high = past_one b bs misses (suc (suc m)) (omega arith) high

one_byte : (b : ℕ) (one : Bool) → is_sign (b ∷ []) ≡ one → IsFrontThat is_sign (b ∷ []) (if one then Some 1 else None)
one_byte b true h = record { within = omega arith; is = h; longer = λ m low high. absurd (omega arith) }
one_byte b false h = not_even_one b [] h h

two_bytes : (b c : ℕ) (bs : List ℕ) (two one : Bool) → is_sign (b ∷ c ∷ []) ≡ two → is_sign (b ∷ []) ≡ one → IsFrontThat is_sign (b ∷ c ∷ bs) (if two then Some 2 else (if one then Some 1 else None))
two_bytes b c bs true one h k = record { within = omega arith; is = h; longer = λ m low high. past_two b c bs m low high }
two_bytes b c bs false true h k = record { within = omega arith; is = k; longer = λ m low high. past_one b (c ∷ bs) h m low high }
two_bytes b c bs false false h k = not_even_one b (c ∷ bs) h k

abbrev the_nil : List ℕ
the_nil = []

-- the longest front that is a sign
pub sign_front : (bytes : List ℕ) → IsFrontThat is_sign bytes (longest_sign bytes)
sign_front [] = none where
  none : (m : ℕ) → m ≤ length (the_nil) → is_sign (take m the_nil) ≡ false
  none zero high = is_sign-nil
  none (suc m) high = is_sign-nil
sign_front (b ∷ []) = one_byte b (is_sign (b ∷ [])) refl
sign_front (b ∷ c ∷ bs) =
    let two : nat_le 2 (length (b ∷ c ∷ bs)) ≡ true = grind (arith, nat_tests) in
    let one : nat_lt 0 (length (b ∷ c ∷ bs)) ≡ true = grind (arith, nat_tests) in
    let same : longest_sign (b ∷ c ∷ bs) ≡ (if is_sign (b ∷ c ∷ []) then Some 2 else (if is_sign (b ∷ []) then Some 1 else None)) = rw (two, one) refl in
    subst (IsFrontThat is_sign (b ∷ c ∷ bs)) (sym same) (two_bytes b c bs (is_sign (b ∷ c ∷ [])) (is_sign (b ∷ [])) refl refl)

-- what the longest front says of the fronts
pub record IsLongestFront (bytes : List ℕ) (most n : ℕ) : Type 0 where
  pub some : 0 < n
  pub within : n ≤ most
  pub is : is_piece (take n bytes) ≡ true
  pub longer : (m : ℕ) → n < m → m ≤ most → is_piece (take m bytes) ≡ false

one_more : (bytes : List ℕ) (most n : ℕ) → is_piece (take (suc most) bytes) ≡ false → IsLongestFront bytes most n → IsLongestFront bytes (suc most) n
one_more bytes most n misses front = record {
  some = front.some;
  within = omega (arith, front.within);
  is = front.is;
  longer = λ m low high. elim (eq-or-lt_of_le high) [ inl e ↦ subst (λ (k : ℕ). is_piece (take k bytes) ≡ false) (sym e) misses | inr lt ↦ front.longer m low (omega arith) ];
}

pub fronts_at : (most : ℕ) (bytes : List ℕ) (n : ℕ) → longest_up_to most bytes ≡ Some n → IsLongestFront bytes most n
fronts_at zero bytes n h = cc
fronts_at (suc most) bytes n h =
    let at : (t : Bool) → is_piece (take (suc most) bytes) ≡ t → (if t then Some (suc most) else longest_up_to most bytes) ≡ Some n → IsLongestFront bytes (suc most) n =
    elim [
      | true ↦ λ e f. (let same : suc most ≡ n = cc in subst (IsLongestFront bytes (suc most)) same (record { some = omega arith; within = omega arith; is = e; longer = λ m low high. absurd (omega arith) }))
      | false ↦ λ e f. one_more bytes most n e (fronts_at most bytes n f)
    ]
    in at (is_piece (take (suc most) bytes)) refl h

pub none_at : (most : ℕ) (bytes : List ℕ) → longest_up_to most bytes ≡ None → (m : ℕ) → m ≤ most → is_piece (take m bytes) ≡ false
none_at zero bytes h zero high = is_piece-nil
none_at zero bytes h (suc m) high = absurd (omega arith)
none_at (suc most) bytes h m high =
    let at : (t : Bool) → is_piece (take (suc most) bytes) ≡ t → (if t then Some (suc most) else longest_up_to most bytes) ≡ None → is_piece (take m bytes) ≡ false =
    elim [
      | true ↦ λ e f. cc
      | false ↦ λ e f. elim (eq-or-lt_of_le high) [ inl same ↦ subst (λ (k : ℕ). is_piece (take k bytes) ≡ false) (sym same) e | inr lt ↦ none_at most bytes f m (omega arith) ]
    ]
    in at (is_piece (take (suc most) bytes)) refl h
