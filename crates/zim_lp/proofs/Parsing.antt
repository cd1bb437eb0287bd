-- How the words of terms, rows, bounds and integer columns are read.
use Rattle.std.proofs.Common.{◌≡◌, ℕ, zero, suc, ◌≤◌, Bool, true, false, cond, not, ◌&&◌, ◌||◌, List, [], ◌∷◌, ◌++◌, length, map, Option, Some, None, refl, sym, ◌∙◌, ap, subst, append_assoc, arith}
use Rattle.std.specs.Prelude.{◌==◌, slice_index, codes, flat_map, option_map, option_and_then}
use Rattle.std.specs.List.{AllByRecursion, onto_first, slice_split}
use Rattle.std.specs.Char.{is_ascii_digit, is_ascii_alphabetic}
use Rattle.std.specs.Str.{bytes_eq}
use Rattle.std.proofs.lemmas.Bool.{and_parts, or_parts}
use Rattle.std.proofs.lemmas.Bool.Decides.{nat_tests}
use Rattle.std.proofs.lemmas.List.{length-append}
use Rattle.zim_rational.specs.Rational.{Rational, negate}
use Rattle.zim_instance.specs.Instance.{NamedTerm}
use Rattle.zim_rows.specs.declared.rows.Sense.{Sense}
use Rattle.zim_rows.specs.declared.rows.Sense.TheVariants.{AtLeast, AtMost, Equal}
use Rattle.zim_lp.specs.Words.{Word}
use Rattle.zim_lp.specs.Numerals.{number_around_points, number_of_word}
use Rattle.zim_instance.proofs.Points.{same-bytes_eq}
use Rattle.zim_lp.specs.Program.{Bound, is_among}
use Rattle.zim_lp.specs.Program.Bound.{Ends, LowerEnd}
use Rattle.zim_lp.specs.Syntax.{Reading, read_all, read_term, read_signed_term, read_terms, is_plus_or_minus, is_label, is_lp_name, section_words, read_relation, read_row, begins_bound, read_bound, read_name}
use Rattle.zim_lp.specs.FileText.{WrittenTerm, WrittenNumber, WrittenRow, WrittenColumn, number_text}
use Rattle.zim_lp.proofs.Numbers.{reads_number, reads_absolute}
use Rattle.zim_lp.proofs.Readable.{number_said, term_said, row_by, row_said, IsReadableNumber, IsReadableTerm, AreReadableTerms, IsReadableRow, IsReadableEnd, IsReadableColumn}
use Rattle.zim_lp.proofs.Sentences.{sign_word, first_term_words, behind_sign, further_terms_words, terms_words, sense_word, behind_label, first_of_bound, more_of_bound}

-- the next word does not begin another thing
abbrev pub stops : (Word → Bool) → List Word → Bool
stops begins [] = true
stops begins (w ∷ _) = not (begins w)

-- A word and those behind it are read as a value, whatever follows, and the word says that they begin one.
pub record Reads {A : Type 0} (begins : Word → Bool) (read : List Word → Reading A) (first : Word) (more : List Word) (value : A) : Type 0 where
  pub begun : begins first ≡ true
  pub reading : (rest : List Word) → read (first ∷ (more ++ rest)) ≡ Some (value, rest)

stopped : (b : Bool) → not b ≡ true → b ≡ false
stopped true e = cc
stopped false e = refl

read_all-stops : {A : Type 0} (begins : Word → Bool) (read : List Word → Reading A) (turns : ℕ) (rest : List Word) → stops begins rest ≡ true → read_all begins read turns rest ≡ Some ([], rest)
read_all-stops begins read zero rest stop = refl
read_all-stops begins read (suc turns) [] stop = refl
read_all-stops begins read (suc turns) (w ∷ rest) stop = rw (stopped (begins w) stop) refl

-- things that stand one behind the other are all read
read_all-items : {X A : Type 0} (begins : Word → Bool) (read : List Word → Reading A) (first : X → Word) (more : X → List Word) (value : X → A) (xs : List X) → AllByRecursion (λ x. Reads begins read (first x) (more x) (value x)) xs → (rest : List Word) → stops begins rest ≡ true → (turns : ℕ) → length xs ≤ turns → read_all begins read turns (flat_map (λ x. first x ∷ more x) xs ++ rest) ≡ Some (map value xs, rest)
read_all-items begins read first more value [] all rest stop turns h = read_all-stops begins read turns rest stop
read_all-items begins read first more value (x ∷ xs) all rest stop zero h = absurd (omega arith)
read_all-items begins read first more value (x ∷ xs) all rest stop (suc turns) h =
    rw (
      all.0.begun,
      append_assoc (more x) (flat_map (λ y. first y ∷ more y) xs) rest,
      all.0.reading (flat_map (λ y. first y ∷ more y) xs ++ rest),
      read_all-items begins read first more value xs all.1 rest stop turns (omega arith),
    )
    refl

length-items : {X : Type 0} (first : X → Word) (more : X → List Word) (xs : List X) → length xs ≤ length (flat_map (λ x. first x ∷ more x) xs)
length-items first more [] = omega arith
length-items first more (x ∷ xs) = omega (arith, length-items first more xs, length-append (more x) (flat_map (λ y. first y ∷ more y) xs))

-- the same with as many turns as there are words
pub read_all-words : {X A : Type 0} (begins : Word → Bool) (read : List Word → Reading A) (first : X → Word) (more : X → List Word) (value : X → A) (xs : List X) → AllByRecursion (λ x. Reads begins read (first x) (more x) (value x)) xs → (rest : List Word) → stops begins rest ≡ true → read_all begins read (length (flat_map (λ x. first x ∷ more x) xs ++ rest)) (flat_map (λ x. first x ∷ more x) xs ++ rest) ≡ Some (map value xs, rest)
read_all-words begins read first more value xs all rest stop =
    read_all-items begins read first more value xs all rest stop _ (omega (arith, length-items first more xs, length-append (flat_map (λ x. first x ∷ more x) xs) rest))

-- each member of a list, by its own proof
pub each : {X : Type 0} (P Q : X → Type 0) → ((x : X) → P x → Q x) → (xs : List X) → AllByRecursion P xs → AllByRecursion Q xs
each P Q by [] all = tt
each P Q by (x ∷ xs) all = (by x all.0, each P Q by xs all.1)

-- terms

number_reads : (n : WrittenNumber) → IsReadableNumber n → number_of_word (number_text n) ≡ Some (number_said n)
number_reads n is = reads_number n (number_said n) is

first_term_reads : (t : WrittenTerm) → IsReadableTerm t → (rest : List Word) → read_term (first_term_words t ++ rest) ≡ Some (term_said t, rest)
first_term_reads t is rest = rw (is.name.name) (ap (option_map (λ q. (let said : NamedTerm = record { name = t.name; coefficient = q } in said, rest))) (number_reads t.number is.number))

further_term_reads : (t : WrittenTerm) → IsReadableTerm t → Reads is_plus_or_minus read_signed_term (sign_word t.number.negative) (behind_sign t) (term_said t)
further_term_reads t is =
    by_sign t.number.negative t.number.absolute t.name is.number.absolute (number_said t.number) is.name.name (reads_absolute t.number (number_said t.number) is.number) is.number.signed
  where
    by_sign : (negative : Bool) (digits name : List ℕ) (a q : Rational) → is_lp_name name ≡ true → number_of_word digits ≡ Some a → q ≡ cond negative (negate a) a → Reads is_plus_or_minus read_signed_term (sign_word negative) (digits ∷ name ∷ []) (record { name = name; coefficient = q })
    by_sign true digits name a q named number signed = record { begun = refl; reading = λ rest. rw (named, number, ← signed) refl }
    by_sign false digits name a q named number signed = record { begun = refl; reading = λ rest. rw (named, number, ← signed) refl }

-- the words of a list of terms are read as the terms
pub terms_read : (ts : List WrittenTerm) → AreReadableTerms ts → (rest : List Word) → stops is_plus_or_minus rest ≡ true → read_terms (terms_words ts ++ rest) ≡ Some (map term_said ts, rest)
terms_read [] all rest stop = absurd all
terms_read (t ∷ ts) all rest stop =
    rw (
      first_term_reads t all.0 (further_terms_words ts ++ rest),
      read_all-words is_plus_or_minus read_signed_term (λ (s : WrittenTerm). sign_word s.number.negative) behind_sign term_said ts (each IsReadableTerm (λ (s : WrittenTerm). Reads is_plus_or_minus read_signed_term (sign_word s.number.negative) (behind_sign s) (term_said s)) further_term_reads ts all.1) rest stop,
    )
    refl

-- rows

relation_reads : (sense : Sense) (terms : List NamedTerm) (n : WrittenNumber) → IsReadableNumber n → (rest : List Word) → read_relation terms (sense_word sense ∷ number_text n ∷ rest) ≡ Some (row_by sense terms (number_said n), rest)
relation_reads sense terms n is rest = by_sense sense terms (number_text n) (number_said n) (number_reads n is) rest
  where
    by_sense : (sense : Sense) (terms : List NamedTerm) (word : Word) (q : Rational) → number_of_word word ≡ Some q → (rest : List Word) → read_relation terms (sense_word sense ∷ word ∷ rest) ≡ Some (row_by sense terms q, rest)
    by_sense AtLeast terms word q e rest = rw e refl
    by_sense AtMost terms word q e rest = rw e refl
    by_sense Equal terms word q e rest = rw e refl

sense_stops : (sense : Sense) (ws : List Word) → stops is_plus_or_minus (sense_word sense ∷ ws) ≡ true
sense_stops AtLeast ws = refl
sense_stops AtMost ws = refl
sense_stops Equal ws = refl

-- the words of a row are read as the row
pub row_reads : (r : WrittenRow) → IsReadableRow r → Reads is_label read_row r.label (behind_label r) (row_said r)
row_reads r is = record {
  begun = is.label;
  reading = λ rest.
      let behind : List Word = sense_word r.sense ∷ number_text r.right ∷ rest in
      ap (λ ws. read_row (r.label ∷ ws)) (append_assoc (terms_words r.terms) (sense_word r.sense ∷ number_text r.right ∷ []) rest)
      ∙ ap (option_and_then (λ (read : List NamedTerm × List Word). read_relation read.0 read.1)) (terms_read r.terms is.terms behind (sense_stops r.sense (number_text r.right ∷ rest)))
      ∙ relation_reads r.sense (map term_said r.terms) r.right is.right rest;
}

-- bounds

-- what a bound says
abbrev pub bound_by : Word → Option Rational → Option Rational → Bound
bound_by name (Some lower) (Some upper) = Ends name (Some lower) (Some upper)
bound_by name (Some lower) None = LowerEnd name lower
bound_by name None (Some upper) = Ends name None (Some upper)
bound_by name None None = Ends name None None

abbrev pub bound_said : WrittenColumn → Bound
bound_said c = bound_by c.name (option_map number_said c.lower) (option_map number_said c.upper)

-- a number is no name and no section word

letter_no_parts : (b : ℕ) (part : List ℕ) (parts : List (List ℕ)) → is_ascii_digit b ≡ false → number_around_points ((b ∷ part) ∷ parts) ≡ None
letter_no_parts b part [] digit = rw digit refl
letter_no_parts b part (x ∷ []) digit = rw digit refl
letter_no_parts b part (x ∷ y ∷ parts) digit = refl

onto_parts : (b : ℕ) (parts : List (List ℕ)) → is_ascii_digit b ≡ false → number_around_points (onto_first b parts) ≡ None
onto_parts b [] digit = letter_no_parts b [] [] digit
onto_parts b (part ∷ parts) digit = letter_no_parts b part parts digit

letter_no_number : (b : ℕ) (bs : List ℕ) → is_ascii_alphabetic b ≡ true → number_of_word (b ∷ bs) ≡ None
letter_no_number b bs letter =
    let no_minus : (b == 45) ≡ false = grind (arith, nat_tests) in
    let no_point : (b == 46) ≡ false = grind (arith, nat_tests) in
    let no_digit : is_ascii_digit b ≡ false = grind (arith, nat_tests) in
    rw (no_minus, no_point) (onto_parts b (slice_split (λ c. c == 46) bs) no_digit)

name_no_number : (w : Word) → is_lp_name w ≡ true → number_of_word w ≡ None
name_no_number [] name = cc
name_no_number (b ∷ bs) name =
    letter_no_number b bs (and_parts (is_ascii_alphabetic b) (not (is_among section_words (b ∷ bs))) (and_parts (is_ascii_alphabetic b && not (is_among section_words (b ∷ bs))) (not (bytes_eq (b ∷ bs) (codes "free"))) name).0).0

number_no_name : (w : Word) (q : Rational) → number_of_word w ≡ Some q → is_lp_name w ≡ false
number_no_name w q number = by_name (is_lp_name w) refl
  where
    by_name : (t : Bool) → is_lp_name w ≡ t → t ≡ false
    by_name true e = let none : number_of_word w ≡ None = name_no_number w e in cc
    by_name false e = refl

number_not_among : (known : List Word) → AllByRecursion (λ k. number_of_word k ≡ None) known → (w : Word) (q : Rational) → number_of_word w ≡ Some q → is_among known w ≡ false
number_not_among [] all w q number = refl
number_not_among (k ∷ known) all w q number = by_first (bytes_eq w k) refl (number_not_among known all.1 w q number)
  where
    by_first : (t : Bool) → bytes_eq w k ≡ t → is_among known w ≡ false → (t || is_among known w) ≡ false
    by_first true e later =
        let none : number_of_word w ≡ None = subst (λ v. number_of_word v ≡ None) (sym (same-bytes_eq w k e)) all.0 in cc
    by_first false e later = later

number_begins_bound : (w : Word) (q : Rational) → number_of_word w ≡ Some q → begins_bound w ≡ true
number_begins_bound w q number =
    ap not (number_not_among section_words (refl, (refl, (refl, (refl, (refl, (refl, (refl, tt))))))) w q number)

number_no_infinity : (w : Word) (q : Rational) → number_of_word w ≡ Some q → bytes_eq w (codes "-inf") ≡ false
number_no_infinity w q number = or_false (number_not_among (codes "-inf" ∷ []) (refl, tt) w q number)
  where
    or_false : (bytes_eq w (codes "-inf") || false) ≡ false → bytes_eq w (codes "-inf") ≡ false
    or_false e = (or_parts (bytes_eq w (codes "-inf")) false e).0

name_begins_bound : (w : Word) → is_lp_name w ≡ true → begins_bound w ≡ true
name_begins_bound w name =
    (and_parts (is_ascii_alphabetic (slice_index w 0)) (not (is_among section_words w)) (and_parts (is_ascii_alphabetic (slice_index w 0) && not (is_among section_words w)) (not (bytes_eq w (codes "free"))) name).0).1

-- the words of a bound are read as what it says

both_read : (left right name : Word) (l u : Rational) → is_lp_name name ≡ true → number_of_word left ≡ Some l → number_of_word right ≡ Some u → Reads begins_bound read_bound left (codes "<=" ∷ name ∷ codes "<=" ∷ right ∷ []) (Ends name (Some l) (Some u))
both_read left right name l u named low high = record {
  begun = number_begins_bound left l low;
  reading = λ rest. rw (number_no_name left l low, named, number_no_infinity left l low, low, high) refl;
}

lower_read : (name number : Word) (l : Rational) → is_lp_name name ≡ true → number_of_word number ≡ Some l → Reads begins_bound read_bound name (codes ">=" ∷ number ∷ []) (LowerEnd name l)
lower_read name number l named low = record { begun = name_begins_bound name named; reading = λ rest. rw (named, low) refl }

upper_read : (name right : Word) (u : Rational) → is_lp_name name ≡ true → number_of_word right ≡ Some u → Reads begins_bound read_bound (codes "-inf") (codes "<=" ∷ name ∷ codes "<=" ∷ right ∷ []) (Ends name None (Some u))
upper_read name right u named high = record { begun = refl; reading = λ rest. rw (named, high) refl }

free_read : (name : Word) → is_lp_name name ≡ true → (rest : List Word) → read_bound (name ∷ codes "free" ∷ rest) ≡ Some (Ends name None None, rest)
free_read name named [] = rw named refl
free_read name named (w ∷ rest) = rw named refl

ends_read : (name : List ℕ) (lower upper : Option WrittenNumber) → is_lp_name name ≡ true → IsReadableEnd lower → IsReadableEnd upper → Reads begins_bound read_bound (first_of_bound name lower upper) (more_of_bound name lower upper) (bound_by name (option_map number_said lower) (option_map number_said upper))
ends_read name (Some lower) (Some upper) named low high =
    both_read (number_text lower) (number_text upper) name (number_said lower) (number_said upper) named (number_reads lower low) (number_reads upper high)
ends_read name (Some lower) None named low high = lower_read name (number_text lower) (number_said lower) named (number_reads lower low)
ends_read name None (Some upper) named low high = upper_read name (number_text upper) (number_said upper) named (number_reads upper high)
ends_read name None None named low high = record { begun = name_begins_bound name named; reading = λ rest. free_read name named rest }

pub bound_reads : (c : WrittenColumn) → IsReadableColumn c → Reads begins_bound read_bound (first_of_bound c.name c.lower c.upper) (more_of_bound c.name c.lower c.upper) (bound_said c)
bound_reads c is = ends_read c.name c.lower c.upper is.name.name is.lower is.upper

-- an integer column
pub general_reads : (c : WrittenColumn) → IsReadableColumn c → Reads is_lp_name read_name c.name [] c.name
general_reads c is = record { begun = is.name.name; reading = λ rest. refl }
