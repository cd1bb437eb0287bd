-- How the words of an LP text are read into its sections. Each reading takes words from the front of a list and gives
-- what it read and the words that are left, or nothing where the words are none of its kind.
use Rattle.std.specs.Prelude.{ℕ, zero, suc, Bool, true, false, not, ◌||◌, ◌&&◌, if◌then◌else◌, List, [], ◌∷◌, length, Option, Some, None, option_map, option_and_then, codes, slice_index, nat_eq}
use Rattle.std.specs.Char.{is_ascii_alphabetic}
use Rattle.std.specs.List.{ends_with}
use Rattle.std.specs.Str.{bytes_eq}
use Rattle.zim_rational.specs.Rational.{Rational, negate}
use Rattle.zim_instance.specs.Instance.{NamedTerm, Row}
use Rattle.zim_lp.specs.Words.{Word}
use Rattle.zim_lp.specs.Numerals.{number_of_word}
use Rattle.zim_lp.specs.Program.{Bound, is_among}
use Rattle.zim_lp.specs.Program.Bound.{Ends, LowerEnd}

-- What was read, with the words that are left.
abbrev pub Reading : Type 0 → Type 0
Reading A = Option (A × List Word)

-- The words that begin sections.
abbrev pub section_words : List Word
section_words =
    codes "Minimize" ∷ codes "Maximize" ∷ codes "Subject" ∷ codes "To" ∷ codes "Bounds" ∷ codes "Generals" ∷ codes "End" ∷ []

-- A name begins with a letter and is neither a section word nor `free`.
abbrev pub is_lp_name : Word → Bool
is_lp_name word =
    is_ascii_alphabetic (slice_index word 0) && not (is_among section_words word) && not (bytes_eq word (codes "free"))

-- A word ends with a colon.
abbrev pub is_label : Word → Bool
is_label word = ends_with nat_eq word (codes ":")

-- The words behind a given one, where it stands first.
abbrev pub words_behind : Word → List Word → Option (List Word)
words_behind word [] = None
words_behind word (w ∷ ws) = if bytes_eq w word then Some ws else None

-- Read things as long as the next word begins one; `turns` is at least their number.
abbrev pub read_all : {A : Type 0} → (Word → Bool) → (List Word → Reading A) → ℕ → List Word → Reading (List A)
read_all begins read zero ws = Some ([], ws)
read_all begins read (suc turns) [] = Some ([], [])
read_all {A} begins read (suc turns) (w ∷ ws) =
    if begins w then
    option_and_then
    (λ (first : A × List Word). option_map (λ (others : List A × List Word). (first.0 ∷ others.0, others.1)) (read_all begins read turns first.1))
    (read (w ∷ ws))
    else Some ([], w ∷ ws)

-- `q NAME`
abbrev pub read_term : List Word → Reading NamedTerm
read_term [] = None
read_term (_ ∷ []) = None
read_term (number ∷ name ∷ ws) =
    if is_lp_name name then option_map (λ q. (record { name = name; coefficient = q }, ws)) (number_of_word number) else None

-- A term whose coefficient is negated.
abbrev pub negated : NamedTerm → NamedTerm
negated t = record t { coefficient = negate t.coefficient }

-- `+`, `-`
abbrev pub is_plus_or_minus : Word → Bool
is_plus_or_minus word = bytes_eq word (codes "+") || bytes_eq word (codes "-")

-- `+ q NAME` and `- q NAME`
abbrev pub read_signed_term : List Word → Reading NamedTerm
read_signed_term [] = None
read_signed_term (sign ∷ ws) =
    if bytes_eq sign (codes "-")
    then option_map (λ (read : NamedTerm × List Word). (negated read.0, read.1)) (read_term ws)
    else read_term ws

-- A term list: `q NAME`, then any number of `+ q NAME` and `- q NAME`
abbrev pub read_terms : List Word → Reading (List NamedTerm)
read_terms ws =
    option_and_then
    (λ (first : NamedTerm × List Word).
    option_map
    (λ (others : List NamedTerm × List Word). (first.0 ∷ others.0, others.1))
    (read_all is_plus_or_minus read_signed_term (length first.1) first.1))
    (read_term ws)

-- The ends that `<=`, `>=` or `=` with a number gives a row.
abbrev pub row_that : List NamedTerm → Word → Rational → Option Row
row_that terms relation right =
    if bytes_eq relation (codes ">=") then Some (record { terms = terms; low = Some right; high = None })
    else if bytes_eq relation (codes "<=") then Some (record { terms = terms; low = None; high = Some right })
    else if bytes_eq relation (codes "=") then Some (record { terms = terms; low = Some right; high = Some right })
    else None

-- `<=`, `>=` or `=` and a number, behind the terms of a row
abbrev pub read_relation : List NamedTerm → List Word → Reading Row
read_relation terms [] = None
read_relation terms (_ ∷ []) = None
read_relation terms (relation ∷ number ∷ ws) =
    option_and_then (λ right. option_map (λ row. (row, ws)) (row_that terms relation right)) (number_of_word number)

-- A row: a word that ends with `:`, a term list, `<=`, `>=` or `=`, and a number
abbrev pub read_row : List Word → Reading Row
read_row [] = None
read_row (label ∷ ws) =
    option_and_then (λ (read : List NamedTerm × List Word). read_relation read.0 read.1) (read_terms ws)

-- The end that a number or `-inf` sets on the left of a bound.
abbrev pub left_end : Word → Option (Option Rational)
left_end word = if bytes_eq word (codes "-inf") then Some None else option_map (λ q. Some q) (number_of_word word)

-- `l <= NAME <= u` and `-inf <= NAME <= u`
abbrev pub read_both_ends : List Word → Reading Bound
read_both_ends (left ∷ low ∷ name ∷ high ∷ right ∷ ws) =
    if bytes_eq low (codes "<=") && is_lp_name name && bytes_eq high (codes "<=")
    then option_and_then (λ lower. option_map (λ upper. (Ends name lower (Some upper), ws)) (number_of_word right)) (left_end left)
    else None
read_both_ends _ = None

-- `NAME free`, and `NAME >= l`
abbrev pub read_named_ends : List Word → Reading Bound
read_named_ends [] = None
read_named_ends (_ ∷ []) = None
read_named_ends (name ∷ word ∷ []) = if bytes_eq word (codes "free") then Some (Ends name None None, []) else None
read_named_ends (name ∷ word ∷ number ∷ ws) =
    if bytes_eq word (codes "free") then Some (Ends name None None, number ∷ ws)
    else if bytes_eq word (codes ">=") then option_map (λ lower. (LowerEnd name lower, ws)) (number_of_word number)
    else None

-- A bound, which begins with its name or with a number or `-inf`.
abbrev pub read_bound : List Word → Reading Bound
read_bound [] = None
read_bound (w ∷ ws) = if is_lp_name w then read_named_ends (w ∷ ws) else read_both_ends (w ∷ ws)

-- A name, as it stands under `Generals`.
abbrev pub read_name : List Word → Reading Word
read_name [] = None
read_name (w ∷ ws) = Some (w, ws)

-- A word that is no section word, and so begins a bound.
abbrev pub begins_bound : Word → Bool
begins_bound word = not (is_among section_words word)

-- `Generals` with one name or more, where it stands.
abbrev pub read_generals : List Word → Reading (List Word)
read_generals [] = None
read_generals (w ∷ ws) =
    if bytes_eq w (codes "Generals")
    then option_and_then (λ (read : List Word × List Word). if is_none_of read.0 then None else Some read) (read_all is_lp_name read_name (length ws) ws)
    else Some ([], w ∷ ws)
  where
    is_none_of : List Word → Bool
    is_none_of [] = true
    is_none_of (_ ∷ _) = false

-- `Minimize` or `Maximize`, which says whether to maximise
abbrev pub read_aim : List Word → Reading Bool
read_aim [] = None
read_aim (w ∷ ws) =
    if bytes_eq w (codes "Minimize") then Some (false, ws)
    else if bytes_eq w (codes "Maximize") then Some (true, ws)
    else None
