-- The template that a text spells. Its pieces are `<`, `>`, `,`, `+`, the letters `n` and `s`, and runs of digits; blanks may stand
-- before, between and behind them, and within none.
use Rattle.std.specs.Prelude.{ℕ, ◌+◌, Bool, ◌&&◌, ◌||◌, ◌==◌, false, if◌then◌else◌, nat_le, List, [], ◌∷◌, length, take, drop, position, take_while, Option, None, Some, option_map}
use Rattle.std.specs.List.{prefix_len, slice_split}
use Rattle.std.specs.Char.{is_ascii_digit}
use Rattle.std.specs.Option.{option_or}
use Rattle.std.specs.Str.Parse.{digits_value}
use Rattle.zim_read.specs.declared.templates.ReadKind.{ReadKind}
use Rattle.zim_read.specs.declared.templates.ReadKind.TheVariants.{Set, Indexed, Scalar}
use Rattle.zim_read.specs.declared.templates.FieldKind.{FieldKind}
use Rattle.zim_read.specs.declared.templates.FieldKind.TheVariants.{Number, Text}
use Rattle.zim_read.specs.declared.templates.Field.{Field}
use Rattle.zim_read.specs.declared.templates.Template.{Template}
use Rattle.zim_read.specs.declared.templates.Template.TheVariants.{Fields, Every}

-- The last field of a line that a template can name.
abbrev pub last_position : ℕ
last_position = 65536

infixl 10 ◌>>=◌
-- Goes on with what is spelled, if anything is.
abbrev pub ◌>>=◌ : {A B : Type 0} → Option A → (A → Option B) → Option B
None >>= next = None
(Some spelled) >>= next = next spelled

-- A blank of a template: byte 32, 9 or 13.
abbrev pub is_blank : ℕ → Bool
is_blank b = (b == 32) || (b == 9) || (b == 13)

-- What follows the blanks at the front.
unfoldable pub after_blanks : List ℕ → List ℕ
after_blanks text = drop (prefix_len is_blank text) text

-- Nothing but blanks is left.
unfoldable pub is_blank_only : List ℕ → Bool
is_blank_only text = length (after_blanks text) == 0

-- The kind that a letter spells, `n` for a number and `s` for a text.
unfoldable pub kind_of_letter : ℕ → Option FieldKind
kind_of_letter letter = if letter == 110 then Some Number else (if letter == 115 then Some Text else None)

-- A letter and then nothing but blanks.
abbrev pub kind_then_blanks : List ℕ → Option FieldKind
kind_then_blanks [] = None
kind_then_blanks (b ∷ bs) = if is_blank_only bs then kind_of_letter b else None

-- A plus and then nothing but blanks.
abbrev pub is_plus_then_blanks : List ℕ → Bool
is_plus_then_blanks [] = false
is_plus_then_blanks (b ∷ bs) = (b == 43) && is_blank_only bs

-- The kind of `n+` or `s+`, by which every field is taken.
unfoldable pub every_of : List ℕ → Option FieldKind
every_of text = letter (after_blanks text)
  where
    letter : List ℕ → Option FieldKind
    letter [] = None
    letter (b ∷ bs) = if is_plus_then_blanks (after_blanks bs) then kind_of_letter b else None

-- A number that digits spell, where it is that of a field: from 1 to 65,536. Zeros may stand before it.
unfoldable pub position_of : List ℕ → Option ℕ
position_of digits =
    if nat_le 1 (digits_value 10 digits) && nat_le (digits_value 10 digits) last_position then Some (digits_value 10 digits) else None

-- What follows the digits at the front.
abbrev pub after_digits : List ℕ → List ℕ
after_digits text = drop (prefix_len is_ascii_digit text) text

-- A field: a position and a letter, and nothing else.
unfoldable pub field_of : List ℕ → Option Field
field_of text = do
  at ← position_of (take_while is_ascii_digit (after_blanks text))
  kind ← kind_then_blanks (after_blanks (after_digits (after_blanks text)))
  Some (record { at = at; kind = kind })

-- Each part as a field.
abbrev pub each_field : List (List ℕ) → Option (List Field)
each_field [] = Some []
each_field (part ∷ parts) = do
  first ← field_of part
  others ← each_field parts
  Some (first ∷ others)

-- Fields with commas between them.
unfoldable pub fields_spelled : List ℕ → Option (List Field)
fields_spelled text = each_field (slice_split (λ b. b == 44) text)

-- What follows `<`, where it stands first.
abbrev pub behind_less : List ℕ → Option (List ℕ)
behind_less [] = None
behind_less (b ∷ bs) = if b == 60 then Some bs else None

-- What stands before the first `>`, with what follows it.
abbrev pub at_greater : List ℕ → Option (List ℕ × List ℕ)
at_greater text = option_map (λ at. (take at text, drop (at + 1) text)) (position (λ b. b == 62) text)

-- What stands between `<` and `>`, with what follows them.
unfoldable pub in_angles : List ℕ → Option (List ℕ × List ℕ)
in_angles text = behind_less (after_blanks text) >>= at_greater

-- A set's template: `<n+>`, `<s+>`, or the fields of its tuples in `<` and `>`.
abbrev pub set_template : List ℕ × List ℕ → Option Template
set_template (inner, rest) =
    if is_blank_only rest
    then option_or (option_map Every (every_of inner)) (option_map (λ (index : List Field). Fields index None) (fields_spelled inner))
    else None

-- The template of a parameter with an index: the fields of the index in `<` and `>`, and that of the value.
abbrev pub indexed_template : List ℕ × List ℕ → Option Template
indexed_template (inner, rest) = do
  index ← fields_spelled inner
  value ← field_of rest
  Some (Fields index (Some value))

-- The template that a text spells, if it spells one. That of a parameter without an index is the field of the value.
unfoldable pub template_of : ReadKind → List ℕ → Option Template
template_of Set text = in_angles text >>= set_template
template_of Indexed text = in_angles text >>= indexed_template
template_of Scalar text = option_map (λ (value : Field). Fields [] (Some value)) (field_of text)
