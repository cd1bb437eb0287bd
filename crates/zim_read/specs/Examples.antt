-- Templates and lines that each show one rule.
use Rattle.std.specs.Prelude.{◌≡◌, ℕ, true, false, List, [], ◌∷◌, Some, None, codes}
use Rattle.zim_read.specs.declared.templates.FieldKind.TheVariants.{Number, Text}
use Rattle.zim_read.specs.declared.templates.ReadKind.{ReadKind}
use Rattle.zim_read.specs.declared.templates.ReadKind.TheVariants.{Set, Indexed, Scalar}
use Rattle.zim_read.specs.declared.templates.Template.{Template}
use Rattle.zim_read.specs.declared.templates.Template.TheVariants.{Fields, Every}
use Rattle.zim_read.specs.Lines.{data_lines, before_comment, is_left_open, line_fields}
use Rattle.zim_read.specs.Templates.{template_of}

-- A text spells this template of the kind.
abbrev pub SpellsTemplate : ReadKind → List ℕ → Template → Type 0
SpellsTemplate kind text template = template_of kind text ≡ Some template

-- A text spells no template of the kind.
abbrev pub SpellsNoTemplate : ReadKind → List ℕ → Type 0
SpellsNoTemplate kind text = template_of kind text ≡ None

-- What these texts spell.
pub record TemplatesAreSpelled : Type 0 where
  -- Three fields.
  pub three : SpellsTemplate Set (codes "<1s,5n,2n>") (Fields (record { at = 1; kind = Text } ∷ record { at = 5; kind = Number } ∷ record { at = 2; kind = Number } ∷ []) None)
  -- Blanks stand between all pieces.
  pub blanks : SpellsTemplate Set (codes " < 1 s > ") (Fields (record { at = 1; kind = Text } ∷ []) None)
  -- A blank parts digits.
  pub parted_digits : SpellsNoTemplate Scalar (codes "1 2n")
  -- An index and its value.
  pub index_and_value : SpellsTemplate Indexed (codes "<1s> 2n") (Fields (record { at = 1; kind = Text } ∷ []) (Some (record { at = 2; kind = Number })))
  -- A value alone.
  pub value_alone : SpellsTemplate Scalar (codes "2n") (Fields [] (Some (record { at = 2; kind = Number })))
  -- Every field.
  pub every_field : SpellsTemplate Set (codes "<n+>") (Every Number)
  -- A letter that is none of a kind.
  pub other_letter : SpellsNoTemplate Set (codes "<1q>")
  -- Zeros before a position.
  pub zeros : SpellsTemplate Scalar (codes "01s") (Fields [] (Some (record { at = 1; kind = Text })))
  -- Positions begin at 1.
  pub position_zero : SpellsNoTemplate Scalar (codes "0s")
  -- The last position, and one more.
  pub last : SpellsTemplate Scalar (codes "65536s") (Fields [] (Some (record { at = 65536; kind = Text })))
  pub past_the_last : SpellsNoTemplate Scalar (codes "65537s")
  -- No field is one too few.
  pub no_field : SpellsNoTemplate Set (codes "<>")
  -- A set's template has no value, and a value's no angles.
  pub set_with_value : SpellsNoTemplate Set (codes "<1s> 2n")
  pub value_in_angles : SpellsNoTemplate Scalar (codes "<2n>")

-- What these lines hold.
pub record LinesAreCut : Type 0 where
  -- A byte 13 before a line end is dropped, another isn't; the last line may lack its end.
  pub returns : data_lines (97 ∷ 13 ∷ 10 ∷ 98 ∷ 13 ∷ []) ≡ (97 ∷ []) ∷ (98 ∷ 13 ∷ []) ∷ []
  -- Nothing follows the last line end.
  pub last_end : data_lines (97 ∷ 10 ∷ []) ≡ (97 ∷ []) ∷ []
  -- A line may be empty.
  pub empty_line : data_lines (10 ∷ 97 ∷ []) ≡ [] ∷ (97 ∷ []) ∷ []
  -- A comment begins outside quotes alone.
  pub comment : before_comment (codes "#") false (codes "a # b") ≡ codes "a "
  pub quoted_comment : before_comment (codes "#%") false (codes "\"a#b\" c%d") ≡ codes "\"a#b\" c"
  -- A quote that is a comment byte cuts the line.
  pub quote_as_comment : before_comment (codes "\"") false (codes "a \"b\"") ≡ codes "a "
  -- One quote is left open.
  pub open_quote : is_left_open false (codes "a \"b") ≡ true
  -- Separators at the ends make no field, and several are one.
  pub runs : line_fields (codes " a;, b :") ≡ codes "a" ∷ codes "b" ∷ []
  -- A separator within quotes belongs to the field, and so does what stands beside the quotes.
  pub quotes : line_fields (codes "a\"b c\"d e") ≡ codes "a\"b c\"d" ∷ codes "e" ∷ []
  -- Two quotes are a field, of no bytes.
  pub empty_field : line_fields (codes "a;\"\";b") ≡ codes "a" ∷ codes "\"\"" ∷ codes "b" ∷ []
  -- A byte 13 is no separator.
  pub inner_return : line_fields (97 ∷ 13 ∷ 98 ∷ []) ≡ (97 ∷ 13 ∷ 98 ∷ []) ∷ []
