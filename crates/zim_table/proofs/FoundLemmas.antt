-- The declared column of the next number stands at the next position, if there is one.
use Rattle.std.proofs.Common.{◌≡◌, ℕ, zero, suc, ◌+◌, ◌<◌, ◌≤◌, Bool, true, false, cond, IsTrue, List, [], ◌∷◌, ◌++◌, Option, Some, None, drop, take, length, get_or, nat_le, refl, sym, ◌∙◌, ap, subst, arith}
use Rattle.std.specs.Prelude.{◌==◌, flat_map, slice_get}
use Rattle.std.specs.List.{range_with_len}
use Rattle.std.proofs.lemmas.Bool.{and_from, and_parts, le-leb, leb-true}
use Rattle.std.proofs.lemmas.Bool.Decides.{nat_tests}
use Rattle.std.proofs.lemmas.List.{take_more, append-nil}
use Rattle.std.proofs.lemmas.List.Concat.{flat_map-append}
use Rattle.zim_columns.specs.declared.declared.Declared.{Declared}
use Rattle.zim_columns.specs.Names.{are_rising}
use Rattle.zim_table.specs.Columns.{numbered, next_position}
use Rattle.zim_table.specs.Text.{declared_at}
use Rattle.zim_table.proofs.ColumnLines.{none_at, other_number}

-- one more of a list
pub text_next : {X : Type 0} (text : X → List ℕ) (xs : List X) (i : ℕ) (d : X) → i < length xs → flat_map text (take (i + 1) xs) ≡ flat_map text (take i xs) ++ text (get_or xs i d)
text_next text xs i d h =
    ap (flat_map text) (take_more xs i d h)
    ∙ flat_map-append text (take i xs) (get_or xs i d ∷ [])
    ∙ ap (λ (t : List ℕ). flat_map text (take i xs) ++ t) (append-nil (text (get_or xs i d)))

range-append : (a n : ℕ) → range_with_len a (suc n) ≡ range_with_len a n ++ (a + n) ∷ []
range-append a zero = ap (λ (k : ℕ). k ∷ []) (let e : a ≡ a + 0 = omega arith in e)
range-append a (suc n) = ap (λ (ks : List ℕ). a ∷ ks) (range-append (a + 1) n ∙ ap (λ (k : ℕ). range_with_len (a + 1) n ++ k ∷ []) (let e : a + 1 + n ≡ a + suc n = omega arith in e))

-- one more number
pub range_next : (text : ℕ → List ℕ) (i : ℕ) → flat_map text (range_with_len 1 (i + 1)) ≡ flat_map text (range_with_len 1 i) ++ text (i + 1)
range_next text i =
    ap (λ (n : ℕ). flat_map text (range_with_len 1 n)) (let e : i + 1 ≡ suc i = omega arith in e)
    ∙ ap (flat_map text) (range-append 1 i)
    ∙ flat_map-append text (range_with_len 1 i) ((1 + i) ∷ [])
    ∙ ap (λ (t : List ℕ). flat_map text (range_with_len 1 i) ++ t) (append-nil (text (1 + i)) ∙ ap text (let e : 1 + i ≡ i + 1 = omega arith in e))

-- the first of a list
abbrev first_of : List Declared → Option Declared
first_of [] = None
first_of (d ∷ ds) = Some d

first_left : (ds : List Declared) (next : ℕ) → slice_get ds next ≡ first_of (drop next ds)
first_left [] zero = refl
first_left [] (suc next) = refl
first_left (d ∷ ds) zero = refl
first_left (d ∷ ds) (suc next) = first_left ds next

left_behind : (ds : List Declared) (next : ℕ) → drop (next + 1) ds ≡ drop 1 (drop next ds)
left_behind ds next = ap (λ (n : ℕ). drop n ds) (let e : next + 1 ≡ suc next = omega arith in e) ∙ by ds next
  where
    by : (es : List Declared) (n : ℕ) → drop (suc n) es ≡ drop 1 (drop n es)
    by [] zero = refl
    by [] (suc n) = refl
    by (e ∷ es) zero = refl
    by (e ∷ es) (suc n) = by es n

-- what is left once the column of a number was looked for
record Looked (i : ℕ) (left : List Declared) (found : Option Declared) (rest : List Declared) : Type 0 where
  pub is : declared_at left (i + 1) ≡ found
  pub still : (j : ℕ) → i + 1 < j → declared_at left j ≡ declared_at rest j
  pub rising : IsTrue (are_rising (i + 1 + 1) rest)

abbrev rest_of : List Declared → Option Declared → List Declared
rest_of left None = left
rest_of left (Some d) = drop 1 left

look : (i : ℕ) (left : List Declared) → IsTrue (are_rising (i + 1) left) → Looked i left (numbered (i + 1) (first_of left)) (rest_of left (numbered (i + 1) (first_of left)))
look i [] rising = record { is = refl; still = λ j h. refl; rising = refl }
look i (d ∷ ds) rising = by (d.column == i + 1) refl
  where
    low : i + 1 ≤ d.column
    low = leb-true (i + 1) d.column (and_parts (nat_le (i + 1) d.column) (are_rising (suc d.column) ds) rising).0

    later : IsTrue (are_rising (suc d.column) ds)
    later = (and_parts (nat_le (i + 1) d.column) (are_rising (suc d.column) ds) rising).1

    by : (b : Bool) → (d.column == i + 1) ≡ b → Looked i (d ∷ ds) (cond b (Some d) None) (rest_of (d ∷ ds) (cond b (Some d) None))
    by true e =
        let same : d.column ≡ i + 1 = grind (arith, nat_tests) in
        let next : suc d.column ≡ i + 1 + 1 = omega (arith, same) in
        record {
          is = rw e refl;
          still = λ j h. rw (other_number d.column j (omega (arith, same))) refl;
          rising = subst (λ (k : ℕ). IsTrue (are_rising k ds)) next later;
        }
    by false e =
        let more : i + 1 + 1 ≤ d.column = grind (arith, nat_tests) in
        record {
          is = rw e (none_at (suc d.column) (i + 1) ds later (omega (arith, low)));
          still = λ j h. refl;
          rising = and_from (nat_le (i + 1 + 1) d.column) (are_rising (suc d.column) ds) (le-leb (i + 1 + 1) d.column more) later;
        }

left_is : (ds : List Declared) (next : ℕ) (found : Option Declared) → rest_of (drop next ds) found ≡ drop (next_position next found) ds
left_is ds next None = refl
left_is ds next (Some d) = sym (left_behind ds next)

-- the next number is that of the column at the next position, and what is left stands behind it
pub record Stepped (ds : List Declared) (i next : ℕ) : Type 0 where
  pub is : declared_at ds (i + 1) ≡ numbered (i + 1) (slice_get ds next)
  pub left : (j : ℕ) → i + 1 < j → declared_at ds j ≡ declared_at (drop (next_position next (numbered (i + 1) (slice_get ds next))) ds) j
  pub rising : IsTrue (are_rising (i + 1 + 1) (drop (next_position next (numbered (i + 1) (slice_get ds next))) ds))
  pub few : next_position next (numbered (i + 1) (slice_get ds next)) ≤ next + 1

few_more : (next : ℕ) (found : Option Declared) → next_position next found ≤ next + 1
few_more next None = omega arith
few_more next (Some d) = omega arith

pub stepped : (ds : List Declared) (i next : ℕ) → ((j : ℕ) → i < j → declared_at ds j ≡ declared_at (drop next ds) j) → IsTrue (are_rising (i + 1) (drop next ds)) → Stepped ds i next
stepped ds i next left rising =
    let looked = look i (drop next ds) rising in
    let first = first_left ds next in
    let rest : rest_of (drop next ds) (numbered (i + 1) (first_of (drop next ds))) ≡ drop (next_position next (numbered (i + 1) (slice_get ds next))) ds =
    left_is ds next (numbered (i + 1) (first_of (drop next ds))) ∙ ap (λ (o : Option Declared). drop (next_position next (numbered (i + 1) o)) ds) (sym first) in
    record {
      is = left (i + 1) (omega arith) ∙ looked.is ∙ ap (numbered (i + 1)) (sym first);
      left = λ j h. left j (omega arith) ∙ looked.still j h ∙ ap (λ (es : List Declared). declared_at es j) rest;
      rising = subst (λ (es : List Declared). IsTrue (are_rising (i + 1 + 1) es)) rest looked.rising;
      few = few_more next (numbered (i + 1) (slice_get ds next));
    }
