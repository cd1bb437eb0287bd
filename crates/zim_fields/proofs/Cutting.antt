-- What a text that is put together from fields is cut into.
use Rattle.std.proofs.Common.{Bool, true, false, not, ◌&&◌, ◌≡◌, ℕ, ◌<◌, List, [], ◌∷◌, ◌++◌, length, refl, sym, ◌∙◌, ap, append_assoc, arith}
use Rattle.std.specs.Prelude.{◌==◌}
use Rattle.std.specs.List.{slice_split, All, AllByRecursion, list_all}
use Rattle.std.specs.Str.{all_ascii_digits}
use Rattle.std.specs.Char.{is_ascii_digit}
use Rattle.std.proofs.lemmas.List.{append-nil}
use Rattle.std.proofs.lemmas.List.Splits.{slice_split_at, slice_split_none, length-slice_split}
use Rattle.std.proofs.lemmas.List.Elements.{All-cons, All-nil}
use Rattle.std.proofs.lemmas.Bool.Decides.{nat_tests}
use Rattle.std.proofs.lemmas.Bool.{and_parts}
use Rattle.zim_fields.specs.Fields.{Field, is_space_or_tab, is_empty, without_empty_end, lines, fields, IsPlainByte, IsField}

-- No byte of a text ends a line.
abbrev pub IsInLine : List ℕ → Type 0
IsInLine text = AllByRecursion (λ b. (b == 10) ≡ false) text

-- Fields, each behind a blank.
abbrev pub spread : List Field → List ℕ
spread [] = []
spread (f ∷ fs) = 32 ∷ (f ++ spread fs)

-- The same, and a line end.
abbrev pub spread_line : List Field → List ℕ
spread_line [] = 10 ∷ []
spread_line (f ∷ fs) = 32 ∷ (f ++ spread_line fs)

all_of : (P : ℕ → Type 0) (text : List ℕ) → AllByRecursion P text → All P text
all_of P [] h = All-nil P
all_of P (b ∷ text) h = All-cons P b text h.0 (all_of P text h.1)

line_part : (line : List ℕ) (parts : List (List ℕ)) → 0 < length parts → without_empty_end (line ∷ parts) ≡ line ∷ without_empty_end parts
line_part line [] h = absurd (omega arith)
line_part line (part ∷ parts) h = refl

-- a text up to a line end is the first line
pub lines-line : (line rest : List ℕ) → IsInLine line → lines (line ++ 10 ∷ rest) ≡ line ∷ lines rest
lines-line line rest h =
    ap without_empty_end (slice_split_at (λ b. b == 10) line 10 rest (all_of (λ b. (b == 10) ≡ false) line h) refl)
    ∙ line_part line (slice_split (λ b. b == 10) rest) (omega (arith, length-slice_split (λ b. b == 10) rest))

plain_blanks : (f : Field) → AllByRecursion IsPlainByte f → AllByRecursion (λ b. is_space_or_tab b ≡ false) f
plain_blanks [] h = tt
plain_blanks (b ∷ f) h = (h.0.blank, plain_blanks f h.1)

pub plain_in_line : (f : Field) → AllByRecursion IsPlainByte f → IsInLine f
plain_in_line [] h = tt
plain_in_line (b ∷ f) h = (h.0.line_end, plain_in_line f h.1)

pub IsInLine-append : (a b : List ℕ) → IsInLine a → IsInLine b → IsInLine (a ++ b)
IsInLine-append [] b h k = k
IsInLine-append (x ∷ a) b h k = (h.0, IsInLine-append a b h.1 k)

-- a field in front of fields behind blanks
pub fields-first : (f : Field) (fs : List Field) → IsField f → AllByRecursion IsField fs → fields (f ++ spread fs) ≡ f ∷ fs
fields-first f [] is all =
    ap fields (append-nil f)
    ∙ rw (slice_split_none is_space_or_tab f (all_of (λ b. is_space_or_tab b ≡ false) f (plain_blanks f is.plain)), is.some) refl
fields-first f (g ∷ fs) is all =
    rw (slice_split_at is_space_or_tab f 32 (g ++ spread fs) (all_of (λ b. is_space_or_tab b ≡ false) f (plain_blanks f is.plain)) refl, is.some)
    (ap (λ gs. f ∷ gs) (fields-first g fs all.0 all.1))

pub fields-spread : (fs : List Field) → AllByRecursion IsField fs → fields (spread fs) ≡ fs
fields-spread [] all = refl
fields-spread (f ∷ fs) all = fields-first f fs all.0 all.1

pub spread_in_line : (fs : List Field) → AllByRecursion IsField fs → IsInLine (spread fs)
spread_in_line [] all = tt
spread_in_line (f ∷ fs) all = (refl, IsInLine-append f (spread fs) (plain_in_line f all.0.plain) (spread_in_line fs all.1))

pub spread_line-is : (fs : List Field) (rest : List ℕ) → spread_line fs ++ rest ≡ spread fs ++ 10 ∷ rest
spread_line-is [] rest = refl
spread_line-is (f ∷ fs) rest =
    ap (λ t. 32 ∷ t) (append_assoc f (spread_line fs) rest ∙ ap (λ t. f ++ t) (spread_line-is fs rest) ∙ sym (append_assoc f (spread fs) (10 ∷ rest)))

-- a line of fields behind blanks is cut off
pub lines-spread : (fs : List Field) (rest : List ℕ) → AllByRecursion IsField fs → lines (spread_line fs ++ rest) ≡ spread fs ∷ lines rest
lines-spread fs rest all = ap lines (spread_line-is fs rest) ∙ lines-line (spread fs) rest (spread_in_line fs all)

-- a line that begins with a field, whose others stand behind blanks, is cut off
pub lines-first : (f : Field) (fs : List Field) (rest : List ℕ) → IsField f → AllByRecursion IsField fs → lines ((f ++ spread_line fs) ++ rest) ≡ (f ++ spread fs) ∷ lines rest
lines-first f fs rest is all =
    ap lines (append_assoc f (spread_line fs) rest ∙ ap (λ t. f ++ t) (spread_line-is fs rest) ∙ sym (append_assoc f (spread fs) (10 ∷ rest)))
    ∙ lines-line (f ++ spread fs) rest (IsInLine-append f (spread fs) (plain_in_line f is.plain) (spread_in_line fs all))

-- a digit is a plain byte
digit_plain : (b : ℕ) → is_ascii_digit b ≡ true → IsPlainByte b
digit_plain b digit = record { blank = grind (arith, nat_tests); line_end = grind (arith, nat_tests) }

pub digits_plain : (ds : List ℕ) → all_ascii_digits ds ≡ true → AllByRecursion IsPlainByte ds
digits_plain [] digits = tt
digits_plain (d ∷ ds) digits =
    let both = and_parts (is_ascii_digit d) (all_ascii_digits ds) digits in (digit_plain d both.0, digits_plain ds both.1)

-- a byte is plain, by a test
abbrev pub is_plain : ℕ → Bool
is_plain b = not (is_space_or_tab b) && not (b == 10)

by_not : (t : Bool) → not t ≡ true → t ≡ false
by_not true e = cc
by_not false e = refl

plain_by_test : (f : Field) → list_all is_plain f ≡ true → AllByRecursion IsPlainByte f
plain_by_test [] h = tt
plain_by_test (b ∷ f) h =
    let both = and_parts (is_plain b) (list_all is_plain f) h in
    let byte = and_parts (not (is_space_or_tab b)) (not (b == 10)) both.0 in
    (record { blank = by_not (is_space_or_tab b) byte.0; line_end = by_not (b == 10) byte.1 }, plain_by_test f both.1)

-- a text is a field, by tests that compute where it is written out
pub IsField-test : (f : Field) → is_empty f ≡ false → list_all is_plain f ≡ true → IsField f
IsField-test f some plain = record { some = some; plain = plain_by_test f plain }
