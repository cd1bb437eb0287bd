-- The text of a tuple is a field, and reads back as the tuple.
use Rattle.std.proofs.Common.{◌≡◌, ℕ, zero, suc, ℤ, pos, negsuc, ◌+◌, ◌*◌, ◌<◌, ◌/◌, ◌%◌, ◌^◌, Bool, true, false, not, ◌&&◌, ◌||◌, List, [], ◌∷◌, ◌++◌, length, length-append, map, take, drop, Some, None, All, refl, sym, ◌∙◌, ap, subst, append_assoc, arith}
use Rattle.std.specs.Prelude.{◌==◌, if◌then◌else◌, decimal, flat_map, option_map, unsigned_abs, nat_le, nat_lt}
use Rattle.std.specs.Fmt.{signed_decimal}
use Rattle.std.specs.Char.{is_ascii_digit}
use Rattle.std.specs.Str.{all_ascii_digits}
use Rattle.std.specs.List.{AllByRecursion, position_or_len, before_first, after_first}
use Rattle.std.proofs.lemmas.Bool.{and_parts, leb-true}
use Rattle.std.proofs.lemmas.Bool.Decides.{nat_tests}
use Rattle.std.proofs.lemmas.List.Elements.{All-from_recursion, recursion_from_All}
use Rattle.std.proofs.lemmas.List.Splits.{slice_split_none, slice_split_at}
use Rattle.zim_rational.specs.Rational.{Rational, ratio}
use Rattle.zim_rational.proofs.Parts.{ratio_from}
use Rattle.zim_fraction.specs.Limit.{limit}
use Rattle.zim_fields.specs.Fields.{is_empty, IsPlainByte, IsField}
use Rattle.zim_fields.specs.Numbers.{count_of, whole_of}
use Rattle.zim_fields.proofs.Decimals.{decimal_digits, count_of-decimal, whole_of-signed, signed_field}
use Rattle.zim_rows.specs.Program.{IsWithin}
use Rattle.zim_tuples.specs.declared.elements.Elem.{Elem}
use Rattle.zim_tuples.specs.declared.elements.Elem.TheVariants.{Number, Text}
use Rattle.zim_table.specs.Tuples.{hex_digit, unescaped, fraction_of_parts, fraction_of, ends_component, read_component, next_of, read_components, read_tuple}
use Rattle.zim_table.specs.Tuples.Component.{NumberOf, TextOf}
use Rattle.zim_table.specs.Tuples.Next.{More}
use Rattle.zim_table.specs.Text.{fraction_text, hex_glyph, stands_for_itself, escaped_byte, element_text, further_text, tuple_text}
use Rattle.zim_columns.specs.Parts.{IsComponentWithin}
use Rattle.zim_table.specs.Correct.{component_said}

-- ---- lists

every_append : (P : ℕ → Type 0) (xs ys : List ℕ) → AllByRecursion P xs → AllByRecursion P ys → AllByRecursion P (xs ++ ys)
every_append P [] ys all more = more
every_append P (x ∷ xs) ys all more = (all.0, every_append P xs ys all.1 more)

every_weaker : (P Q : ℕ → Type 0) (xs : List ℕ) → ((x : ℕ) → P x → Q x) → AllByRecursion P xs → AllByRecursion Q xs
every_weaker P Q [] step all = tt
every_weaker P Q (x ∷ xs) step all = (step x all.0, every_weaker P Q xs step all.1)

first_at : (p : ℕ → Bool) (xs : List ℕ) (y : ℕ) (ys : List ℕ) → AllByRecursion (λ x. p x ≡ false) xs → p y ≡ true → position_or_len p (xs ++ y ∷ ys) ≡ length xs
first_at p [] y ys all here = rw here refl
first_at p (x ∷ xs) y ys all here = rw all.0 (let further = first_at p xs y ys all.1 here in omega (arith, further))

taken_front : (xs rest : List ℕ) → take (length xs) (xs ++ rest) ≡ xs
taken_front [] rest = refl
taken_front (x ∷ xs) rest = ap (λ (t : List ℕ). x ∷ t) (taken_front xs rest)

dropped_front : (xs rest : List ℕ) → drop (length xs) (xs ++ rest) ≡ rest
dropped_front [] rest = refl
dropped_front (x ∷ xs) rest = dropped_front xs rest

dropped_one_more : (xs : List ℕ) (y : ℕ) (ys : List ℕ) → drop (suc (length xs)) (xs ++ y ∷ ys) ≡ ys
dropped_one_more [] y ys = refl
dropped_one_more (x ∷ xs) y ys = dropped_one_more xs y ys

before_at : (p : ℕ → Bool) (xs : List ℕ) (y : ℕ) (ys : List ℕ) → AllByRecursion (λ x. p x ≡ false) xs → p y ≡ true → before_first p (xs ++ y ∷ ys) ≡ xs
before_at p xs y ys all here = ap (λ (n : ℕ). take n (xs ++ y ∷ ys)) (first_at p xs y ys all here) ∙ taken_front xs (y ∷ ys)

after_at : (p : ℕ → Bool) (xs : List ℕ) (y : ℕ) (ys : List ℕ) → AllByRecursion (λ x. p x ≡ false) xs → p y ≡ true → after_first p (xs ++ y ∷ ys) ≡ ys
after_at p xs y ys all here =
    ap (λ (n : ℕ). drop n (xs ++ y ∷ ys)) (let place = first_at p xs y ys all here in let e : position_or_len p (xs ++ y ∷ ys) + 1 ≡ suc (length xs) = omega (arith, place) in e)
    ∙ dropped_one_more xs y ys

-- ---- strings

-- a byte of a string's text
record IsInside (b : ℕ) : Type 0 where
  pub no_quote : (b == 34) ≡ false
  pub plain : IsPlainByte b

abbrev inside : ℕ → Type 0
inside b = IsInside b

glyph_inside : (n : ℕ) → n < 16 → IsInside (hex_glyph n)
glyph_inside n small = by (nat_lt n 10) refl
  where
    by : (t : Bool) → nat_lt n 10 ≡ t → IsInside (if t then 48 + n else 55 + n)
    by true e = record { no_quote = grind (arith, nat_tests); plain = record { blank = grind (arith, nat_tests); line_end = grind (arith, nat_tests) } }
    by false e = record { no_quote = grind (arith, nat_tests); plain = record { blank = grind (arith, nat_tests); line_end = grind (arith, nat_tests) } }

glyph_back : (n : ℕ) → n < 16 → hex_digit (hex_glyph n) ≡ Some n
glyph_back zero h = refl
glyph_back (suc zero) h = refl
glyph_back (suc (suc zero)) h = refl
glyph_back (suc (suc (suc zero))) h = refl
glyph_back (suc (suc (suc (suc zero)))) h = refl
glyph_back (suc (suc (suc (suc (suc zero))))) h = refl
glyph_back (suc (suc (suc (suc (suc (suc zero)))))) h = refl
glyph_back (suc (suc (suc (suc (suc (suc (suc zero))))))) h = refl
glyph_back (suc (suc (suc (suc (suc (suc (suc (suc zero)))))))) h = refl
glyph_back (suc (suc (suc (suc (suc (suc (suc (suc (suc zero))))))))) h = refl
glyph_back (suc (suc (suc (suc (suc (suc (suc (suc (suc (suc zero)))))))))) h = refl
glyph_back (suc (suc (suc (suc (suc (suc (suc (suc (suc (suc (suc zero))))))))))) h = refl
glyph_back (suc (suc (suc (suc (suc (suc (suc (suc (suc (suc (suc (suc zero)))))))))))) h = refl
glyph_back (suc (suc (suc (suc (suc (suc (suc (suc (suc (suc (suc (suc (suc zero))))))))))))) h = refl
glyph_back (suc (suc (suc (suc (suc (suc (suc (suc (suc (suc (suc (suc (suc (suc zero)))))))))))))) h = refl
glyph_back (suc (suc (suc (suc (suc (suc (suc (suc (suc (suc (suc (suc (suc (suc (suc zero))))))))))))))) h = refl
glyph_back (suc (suc (suc (suc (suc (suc (suc (suc (suc (suc (suc (suc (suc (suc (suc (suc n)))))))))))))))) h = absurd (omega arith)

itself_inside : (b : ℕ) → stands_for_itself b ≡ true → IsInside b × ((b == 37) ≡ false)
itself_inside b e =
    let first = and_parts (nat_le 33 b && nat_le b 126 && not (b == 34)) (not (b == 37)) e in
    let second = and_parts (nat_le 33 b && nat_le b 126) (not (b == 34)) first.0 in
    let third = and_parts (nat_le 33 b) (nat_le b 126) second.0 in
    let low = leb-true 33 b third.0 in
    (record { no_quote = by_not (b == 34) second.1; plain = record { blank = grind (arith, nat_tests); line_end = grind (arith, nat_tests) } }, by_not (b == 37) first.1)
  where
    by_not : (t : Bool) → not t ≡ true → t ≡ false
    by_not true f = cc
    by_not false f = refl

escaped_inside : (b : ℕ) → b < 256 → AllByRecursion IsInside (escaped_byte b)
escaped_inside b small = by (stands_for_itself b) refl
  where
    by : (t : Bool) → stands_for_itself b ≡ t → AllByRecursion IsInside (if t then b ∷ [] else 37 ∷ hex_glyph (b / 16) ∷ hex_glyph (b % 16) ∷ [])
    by true e = ((itself_inside b e).0, tt)
    by false e = (record { no_quote = refl; plain = record { blank = refl; line_end = refl } }, (glyph_inside (b / 16) (omega arith), (glyph_inside (b % 16) (omega arith), tt)))

string_inside : (bytes : List ℕ) → AllByRecursion (λ b. b < 256) bytes → AllByRecursion IsInside (flat_map escaped_byte bytes)
string_inside [] all = tt
string_inside (b ∷ bytes) all = every_append IsInside (escaped_byte b) (flat_map escaped_byte bytes) (escaped_inside b all.0) (string_inside bytes all.1)

kept_reads : (b : ℕ) (text : List ℕ) → (b == 37) ≡ false → unescaped (b ∷ text) ≡ option_map (λ t. b ∷ t) (unescaped text)
kept_reads b [] e = rw e refl
kept_reads b (c ∷ []) e = by (b == 37) (c == 37) e
  where
    by : (s t : Bool) → s ≡ false → (if s || t then None else Some (b ∷ c ∷ [])) ≡ option_map (λ ts. b ∷ ts) (if t then None else Some (c ∷ []))
    by true t f = cc
    by false true f = refl
    by false false f = refl
kept_reads b (c ∷ d ∷ rest) e = rw e refl

pair_reads : (high low m n : ℕ) (text : List ℕ) → hex_digit high ≡ Some m → hex_digit low ≡ Some n → unescaped (37 ∷ high ∷ low ∷ text) ≡ option_map (λ t. (16 * m + n) ∷ t) (unescaped text)
pair_reads high low m n text e f = rw (e, f) refl

escaped_reads : (b : ℕ) (text : List ℕ) → b < 256 → unescaped (escaped_byte b ++ text) ≡ option_map (λ t. b ∷ t) (unescaped text)
escaped_reads b text small = by (stands_for_itself b) refl
  where
    by : (s : Bool) → stands_for_itself b ≡ s → unescaped ((if s then b ∷ [] else 37 ∷ hex_glyph (b / 16) ∷ hex_glyph (b % 16) ∷ []) ++ text) ≡ option_map (λ t. b ∷ t) (unescaped text)
    by true e = kept_reads b text (itself_inside b e).1
    by false e =
        pair_reads (hex_glyph (b / 16)) (hex_glyph (b % 16)) (b / 16) (b % 16) text (glyph_back (b / 16) (omega arith)) (glyph_back (b % 16) (omega arith))
        ∙ ap (λ (n : ℕ). option_map (λ t. n ∷ t) (unescaped text)) (let whole : 16 * (b / 16) + b % 16 ≡ b = omega arith in whole)

string_reads : (bytes : List ℕ) → AllByRecursion (λ b. b < 256) bytes → unescaped (flat_map escaped_byte bytes) ≡ Some bytes
string_reads [] all = refl
string_reads (b ∷ bytes) all = escaped_reads b (flat_map escaped_byte bytes) all.0 ∙ ap (option_map (λ t. b ∷ t)) (string_reads bytes all.1)

-- ---- numbers

-- a byte of a number's text, but for the slash
record IsNumberByte (b : ℕ) : Type 0 where
  pub no_quote : (b == 34) ≡ false
  pub no_end : ends_component b ≡ false
  pub no_slash : (b == 47) ≡ false
  pub plain : IsPlainByte b

digit_is : (b : ℕ) → is_ascii_digit b ≡ true → IsNumberByte b
digit_is b digit = record { no_quote = grind (arith, nat_tests); no_end = grind (arith, nat_tests); no_slash = grind (arith, nat_tests); plain = record { blank = grind (arith, nat_tests); line_end = grind (arith, nat_tests) } }

digits_are : (ds : List ℕ) → all_ascii_digits ds ≡ true → AllByRecursion IsNumberByte ds
digits_are [] digits = tt
digits_are (d ∷ ds) digits =
    let both = and_parts (is_ascii_digit d) (all_ascii_digits ds) digits in (digit_is d both.0, digits_are ds both.1)

signed_are : (z : ℤ) → unsigned_abs z < 10 ^ 64 → AllByRecursion IsNumberByte (signed_decimal z)
signed_are (pos n) h = digits_are (decimal n) (decimal_digits n h)
signed_are (negsuc n) h = (record { no_quote = refl; no_end = refl; no_slash = refl; plain = record { blank = refl; line_end = refl } }, digits_are (decimal (suc n)) (decimal_digits (suc n) h))

-- a number within the limit has parts that are written and read
record HasParts (q : Rational) : Type 0 where
  pub numer : unsigned_abs q.numer < 10 ^ 64
  pub denom : q.denom < 10 ^ 64

parts_of : (q : Rational) → IsWithin q → HasParts q
parts_of q within =
    let both = and_parts (nat_le (unsigned_abs q.numer) limit) (nat_le q.denom limit) within in
    let numer = leb-true (unsigned_abs q.numer) limit both.0 in
    let denom = leb-true q.denom limit both.1 in
    record { numer = omega arith; denom = omega arith }

ratio_is : (q : Rational) → ratio q.numer q.denom ≡ q
ratio_is q = ratio_from q q.numer q.denom (record { numer = refl; denom = refl })

-- a byte of a number's text
record IsNumberText (b : ℕ) : Type 0 where
  pub no_end : ends_component b ≡ false
  pub plain : IsPlainByte b

weaken : (b : ℕ) → IsNumberByte b → IsNumberText b
weaken b is = record { no_end = is.no_end; plain = is.plain }

fraction_bytes : (q : Rational) → HasParts q → AllByRecursion IsNumberText (fraction_text q)
fraction_bytes q parts = by (q.denom == 1)
  where
    by : (t : Bool) → AllByRecursion IsNumberText (if t then signed_decimal q.numer else signed_decimal q.numer ++ 47 ∷ decimal q.denom)
    by true = every_weaker IsNumberByte IsNumberText (signed_decimal q.numer) weaken (signed_are q.numer parts.numer)
    by false =
        every_append IsNumberText (signed_decimal q.numer) (47 ∷ decimal q.denom) (every_weaker IsNumberByte IsNumberText (signed_decimal q.numer) weaken (signed_are q.numer parts.numer))
        (record { no_end = refl; plain = record { blank = refl; line_end = refl } }, every_weaker IsNumberByte IsNumberText (decimal q.denom) weaken (digits_are (decimal q.denom) (decimal_digits q.denom parts.denom)))

no_slashes : (bytes : List ℕ) → AllByRecursion IsNumberByte bytes → All (λ b. (b == 47) ≡ false) bytes
no_slashes bytes are = All-from_recursion (λ (b : ℕ). (b == 47) ≡ false) bytes (every_weaker IsNumberByte (λ (b : ℕ). (b == 47) ≡ false) bytes (λ b is. is.no_slash) are)

two_parts : (q : Rational) (numer denom : List ℕ) → whole_of numer ≡ Some q.numer → count_of denom ≡ Some q.denom → nat_lt 1 q.denom ≡ true → fraction_of_parts (numer ∷ denom ∷ []) ≡ Some (ratio q.numer q.denom)
two_parts q numer denom e f more = rw (e, f, more, q.lowest) refl

one_part : (q : Rational) (numer : List ℕ) → whole_of numer ≡ Some q.numer → fraction_of_parts (numer ∷ []) ≡ Some (ratio q.numer 1)
one_part q numer e = rw e refl

denom_more : (q : Rational) → (q.denom == 1) ≡ false → nat_lt 1 q.denom ≡ true
denom_more q e =
    let low = (and_parts (nat_lt 0 q.denom) _ q.lowest).0 in grind (arith, nat_tests)

fraction_reads : (q : Rational) → HasParts q → fraction_of (fraction_text q) ≡ Some q
fraction_reads q parts = by (q.denom == 1) refl
  where
    by : (t : Bool) → (q.denom == 1) ≡ t → fraction_of (if t then signed_decimal q.numer else signed_decimal q.numer ++ 47 ∷ decimal q.denom) ≡ Some q
    by true e =
        ap fraction_of_parts (slice_split_none (λ b. b == 47) (signed_decimal q.numer) (no_slashes (signed_decimal q.numer) (signed_are q.numer parts.numer)))
        ∙ one_part q (signed_decimal q.numer) (whole_of-signed q.numer parts.numer)
        ∙ ap (λ (d : ℕ). Some (ratio q.numer d)) (let one : 1 ≡ q.denom = grind (arith, nat_tests) in one)
        ∙ ap Some (ratio_is q)
    by false e =
        ap fraction_of_parts
        (slice_split_at (λ b. b == 47) (signed_decimal q.numer) 47 (decimal q.denom) (no_slashes (signed_decimal q.numer) (signed_are q.numer parts.numer)) refl
        ∙ ap (λ (ps : List (List ℕ)). signed_decimal q.numer ∷ ps) (slice_split_none (λ b. b == 47) (decimal q.denom) (no_slashes (decimal q.denom) (digits_are (decimal q.denom) (decimal_digits q.denom parts.denom)))))
        ∙ two_parts q (signed_decimal q.numer) (decimal q.denom) (whole_of-signed q.numer parts.numer) (count_of-decimal q.denom parts.denom) (denom_more q e)
        ∙ ap Some (ratio_is q)

-- ---- components

-- what may follow a component: a comma or `>`, with anything behind it
record Follows (rest : List ℕ) : Type 0 where
  pub byte : ℕ
  pub others : List ℕ
  pub is : rest ≡ byte ∷ others
  pub ends : ends_component byte ≡ true

element_plain : (e : Elem) → IsComponentWithin e → AllByRecursion IsPlainByte (element_text e)
element_plain (Number q) within = every_weaker IsNumberText IsPlainByte (fraction_text q) (λ b is. is.plain) (fraction_bytes q (parts_of q within))
element_plain (Text bytes) within =
    let small = recursion_from_All (λ (b : ℕ). b < 256) bytes within in
    (record { blank = refl; line_end = refl }, every_append IsPlainByte (flat_map escaped_byte bytes) (34 ∷ []) (every_weaker IsInside IsPlainByte (flat_map escaped_byte bytes) (λ b is. is.plain) (string_inside bytes small)) (record { blank = refl; line_end = refl }, tt))

-- a string's text, behind its first quote
string_component : (bytes rest : List ℕ) → AllByRecursion (λ b. b < 256) bytes → read_component (34 ∷ (flat_map escaped_byte bytes ++ 34 ∷ rest)) ≡ Some (TextOf bytes, rest)
string_component bytes rest small =
    let none = every_weaker IsInside (λ (b : ℕ). (b == 34) ≡ false) (flat_map escaped_byte bytes) (λ b is. is.no_quote) (string_inside bytes small) in
    rw (before_at (λ c. c == 34) (flat_map escaped_byte bytes) 34 rest none refl, after_at (λ c. c == 34) (flat_map escaped_byte bytes) 34 rest none refl, string_reads bytes small) refl

-- a text that doesn't begin with a quote is a number's
number_component : (q : Rational) (b : ℕ) (bytes : List ℕ) (text : List ℕ) (rest : List ℕ) → b ∷ bytes ≡ text ++ rest → (b == 34) ≡ false → before_first ends_component (b ∷ bytes) ≡ text → fraction_of text ≡ Some q → read_component (b ∷ bytes) ≡ Some (NumberOf q, rest)
number_component q b bytes text rest same other before reads =
    rw (other, before, reads) (ap (λ (r : List ℕ). Some (NumberOf q, r)) (ap (drop (length text)) same ∙ dropped_front text rest))

-- the first byte of a number's text
record BeginsAsNumber (text : List ℕ) : Type 0 where
  pub first : ℕ
  pub bytes : List ℕ
  pub is : text ≡ first ∷ bytes
  pub no_quote : (first == 34) ≡ false

begins_some : (text more : List ℕ) → is_empty text ≡ false → AllByRecursion IsNumberByte text → BeginsAsNumber (text ++ more)
begins_some [] more some are = cc
begins_some (b ∷ bytes) more some are = record { first = b; bytes = bytes ++ more; is = refl; no_quote = are.0.no_quote }

fraction_begins : (q : Rational) (rest : List ℕ) → HasParts q → BeginsAsNumber (fraction_text q ++ rest)
fraction_begins q rest parts = by (q.denom == 1)
  where
    by : (t : Bool) → BeginsAsNumber ((if t then signed_decimal q.numer else signed_decimal q.numer ++ 47 ∷ decimal q.denom) ++ rest)
    by true = begins_some (signed_decimal q.numer) rest (signed_field q.numer parts.numer).some (signed_are q.numer parts.numer)
    by false =
        subst BeginsAsNumber (sym (append_assoc (signed_decimal q.numer) (47 ∷ decimal q.denom) rest))
        (begins_some (signed_decimal q.numer) (47 ∷ decimal q.denom ++ rest) (signed_field q.numer parts.numer).some (signed_are q.numer parts.numer))

element_reads : (e : Elem) (rest : List ℕ) → IsComponentWithin e → Follows rest → read_component (element_text e ++ rest) ≡ Some (component_said e, rest)
element_reads (Text bytes) rest within follows =
    ap (λ (t : List ℕ). read_component (34 ∷ t)) (append_assoc (flat_map escaped_byte bytes) (34 ∷ []) rest)
    ∙ string_component bytes rest (recursion_from_All (λ (b : ℕ). b < 256) bytes within)
element_reads (Number q) rest within follows =
    let parts = parts_of q within in
    let begins = fraction_begins q rest parts in
    let no_ends = every_weaker IsNumberText (λ (b : ℕ). ends_component b ≡ false) (fraction_text q) (λ b is. is.no_end) (fraction_bytes q parts) in
    let before : before_first ends_component (fraction_text q ++ rest) ≡ fraction_text q =
    ap (λ (r : List ℕ). before_first ends_component (fraction_text q ++ r)) follows.is ∙ before_at ends_component (fraction_text q) follows.byte follows.others no_ends follows.ends in
    ap read_component begins.is
    ∙ number_component q begins.first begins.bytes (fraction_text q) rest (sym begins.is) begins.no_quote (ap (before_first ends_component) (sym begins.is) ∙ before) (fraction_reads q parts)

-- ---- tuples

-- what stands behind the first component
abbrev behind : List Elem → List ℕ
behind es = flat_map further_text es ++ (62 ∷ [])

behind_follows : (es : List Elem) → Follows (behind es)
behind_follows [] = record { byte = 62; others = []; is = refl; ends = refl }
behind_follows (e ∷ es) = record { byte = 44; others = (element_text e ++ flat_map further_text es) ++ (62 ∷ []); is = refl; ends = refl }

-- a component's text has a first byte
record HasFirst (text : List ℕ) : Type 0 where
  pub first : ℕ
  pub bytes : List ℕ
  pub is : text ≡ first ∷ bytes

element_begins : (e : Elem) (rest : List ℕ) → IsComponentWithin e → HasFirst (element_text e ++ rest)
element_begins (Text bytes) rest within = record { first = 34; bytes = (flat_map escaped_byte bytes ++ (34 ∷ [])) ++ rest; is = refl }
element_begins (Number q) rest within =
    let begins = fraction_begins q rest (parts_of q within) in record { first = begins.first; bytes = begins.bytes; is = begins.is }

next_more : (first : ℕ) (bytes text : List ℕ) → text ≡ first ∷ bytes → next_of (44 ∷ text) ≡ Some (More text)
next_more first bytes text e = rw e refl

components_read : (turns : ℕ) (e : Elem) (es : List Elem) → length es < turns → IsComponentWithin e → AllByRecursion IsComponentWithin es → read_components turns (element_text e ++ behind es) ≡ Some (component_said e ∷ map component_said es)
components_read zero e es room within all = absurd (omega arith)
components_read (suc turns) e [] room within all = rw (element_reads e (behind []) within (behind_follows [])) refl
components_read (suc turns) e (f ∷ fs) room within all =
    let split : behind (f ∷ fs) ≡ 44 ∷ (element_text f ++ behind fs) = ap (λ (t : List ℕ). 44 ∷ t) (append_assoc (element_text f) (flat_map further_text fs) (62 ∷ [])) in
    let begins = element_begins f (behind fs) all.0 in
    let next : next_of (behind (f ∷ fs)) ≡ Some (More (element_text f ++ behind fs)) = ap next_of split ∙ next_more begins.first begins.bytes (element_text f ++ behind fs) begins.is in
    rw (element_reads e (behind (f ∷ fs)) within (behind_follows (f ∷ fs)), next, components_read turns f fs (omega arith) all.0 all.1) refl

-- there are at least as many bytes as components
behind_length : (es : List Elem) → length es < length (behind es)
behind_length [] = omega arith
behind_length (e ∷ es) =
    let further = behind_length es in
    let split : behind (e ∷ es) ≡ 44 ∷ (element_text e ++ behind es) = ap (λ (t : List ℕ). 44 ∷ t) (append_assoc (element_text e) (flat_map further_text es) (62 ∷ [])) in
    subst (λ (t : List ℕ). suc (length es) < length t) (sym split) (let both = length-append (element_text e) (behind es) in omega (arith, both, further))

pub tuple_reads : (e : Elem) (es : List Elem) → IsComponentWithin e → AllByRecursion IsComponentWithin es → read_tuple (tuple_text e es) ≡ Some (component_said e ∷ map component_said es)
tuple_reads e es within all =
    components_read (length (element_text e ++ behind es)) e es (let both = length-append (element_text e) (behind es) in let more = behind_length es in omega (arith, both, more)) within all

further_plain : (es : List Elem) → AllByRecursion IsComponentWithin es → AllByRecursion IsPlainByte (flat_map further_text es)
further_plain [] all = tt
further_plain (e ∷ es) all = (record { blank = refl; line_end = refl }, every_append IsPlainByte (element_text e) (flat_map further_text es) (element_plain e all.0) (further_plain es all.1))

pub tuple_field : (e : Elem) (es : List Elem) → IsComponentWithin e → AllByRecursion IsComponentWithin es → IsField (tuple_text e es)
tuple_field e es within all = record {
  some = refl;
  plain = (
    record { blank = refl; line_end = refl },
    every_append IsPlainByte (element_text e) (behind es) (element_plain e within) (every_append IsPlainByte (flat_map further_text es) (62 ∷ []) (further_plain es all) (record { blank = refl; line_end = refl }, tt)),
  );
}

-- ---- a number by itself

pub fraction_field : (q : Rational) → IsWithin q → IsField (fraction_text q)
fraction_field q within =
    let parts = parts_of q within in
    let begins = fraction_begins q [] parts in
    record {
      some = some_bytes (fraction_text q) begins.first begins.bytes begins.is;
      plain = every_weaker IsNumberText IsPlainByte (fraction_text q) (λ b is. is.plain) (fraction_bytes q parts);
    }
  where
    some_bytes : (text : List ℕ) (first : ℕ) (bytes : List ℕ) → text ++ [] ≡ first ∷ bytes → is_empty text ≡ false
    some_bytes [] first bytes e = cc
    some_bytes (b ∷ text) first bytes e = refl

pub fraction_said : (q : Rational) → IsWithin q → fraction_of (fraction_text q) ≡ Some q
fraction_said q within = fraction_reads q (parts_of q within)
