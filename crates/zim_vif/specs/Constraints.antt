-- Constraints as rows, under a guard: what a ground constraint makes, one step after another.
use Rattle.std.specs.Prelude.{ℕ, cond, List, [], ◌∷◌, map, Option, Some, None, Result, Ok}
use Rattle.zim_answer.specs.Answer.{◌>>=◌}
use Rattle.zim_fault.specs.declared.faults.Fault.{Fault}
use Rattle.zim_fault.specs.declared.faults.Place.{Place}
use Rattle.zim_fault.specs.declared.tokens.Relation.{Relation}
use Rattle.zim_fault.specs.declared.tokens.Relation.TheVariants.{LessThan, AtMost, EqualTo, NotEqualTo, AtLeast, GreaterThan}
use Rattle.zim_fault.specs.declared.tokens.Join.TheVariants.{And}
use Rattle.zim_rational.specs.Rational.{Rational, zero, negate, below, same}
use Rattle.zim_fraction.specs.declared.fault.Past.{Past}
use Rattle.zim_linear.specs.Forms.{LinearForm, form_of}
use Rattle.zim_linear.specs.declared.sides.Sides.{Sides}
use Rattle.zim_formula.specs.declared.ground.GCon.{GCon, GCon-F, fold-GCon}
use Rattle.zim_forms.specs.Exact.{◌⊟◌, of_two}
use Rattle.zim_forms.specs.FormEnds.{both_ends}
use Rattle.zim_rows.specs.declared.rows.GivenRow.{GivenRow}
use Rattle.zim_rows.specs.declared.rows.RowFrom.{RowFrom}
use Rattle.zim_rows.specs.declared.rows.RowKind.TheVariants.{One, Range}
use Rattle.zim_rows.specs.declared.rows.Sense.TheVariants as sense
use Rattle.zim_rows.specs.System.{LinearSystem, row_of}
use Rattle.zim_rows.specs.Steps.{Encoding, ◌then◌, gives}
use Rattle.zim_logic_rows.specs.declared.Literal.{Literal}
use Rattle.zim_logic_rows.specs.LogicRows.{compared_row, past_at, with_rows}
use Rattle.zim_logic_rows.specs.Literals.{negation, joined_column}
use Rattle.zim_logic_rows.specs.Guards.{needed_end, under_most, under_least, under_both}
use Rattle.zim_vabs.specs.Terms.{from_place, makes_term}
use Rattle.zim_cond.specs.Conditions.{difference_of, makes_condition}

-- The literal under which something is asked, or none.
abbrev pub Guard : Type 0
Guard = Option Literal

-- The form without its constant.
abbrev pub terms_of : LinearForm → LinearForm
terms_of f = form_of f.terms zero

-- ---- comparisons

-- The row of a form and 0 without a guard.
unfoldable pub plain_rows : RowFrom → Relation → LinearForm → List GivenRow
plain_rows source AtMost f = compared_row source f sense.AtMost zero ∷ []
plain_rows source AtLeast f = compared_row source f sense.AtLeast zero ∷ []
plain_rows source EqualTo f = compared_row source f sense.Equal zero ∷ []
plain_rows source LessThan f = []
plain_rows source NotEqualTo f = []
plain_rows source GreaterThan f = []

-- The rows of a form and 0 under a guard, of the ends of its terms.
unfoldable pub guarded_rows : RowFrom → Literal → Relation → LinearForm → Sides → Result (List GivenRow) Fault
guarded_rows source b AtMost f ends =
    needed_end source.place ends.high (λ high. past_at source.place (under_most source (terms_of f) b (negate f.constant) high >>= λ row. Ok (row ∷ [])))
guarded_rows source b AtLeast f ends =
    needed_end source.place ends.low (λ low. past_at source.place (under_least source (terms_of f) b (negate f.constant) low >>= λ row. Ok (row ∷ [])))
guarded_rows source b EqualTo f ends = under_both source (terms_of f) b (negate f.constant) (negate f.constant) ends
guarded_rows source b LessThan f ends = Ok []
guarded_rows source b NotEqualTo f ends = Ok []
guarded_rows source b GreaterThan f ends = Ok []

-- The ends of a form's terms over the sides of the columns, low and then high; both are computed, whichever is needed.
abbrev pub ends_at : Place → LinearForm → LinearSystem → Result Sides Fault
ends_at place f system = past_at place (both_ends (map (λ c. c.sides) system.columns) f.terms)

-- The rows of a comparison.
unfoldable pub comparison_rows : RowFrom → Guard → Relation → LinearForm → LinearSystem → Result (List GivenRow) Fault
comparison_rows source None relation f system = Ok (plain_rows source relation f)
comparison_rows source (Some b) relation f system =
    ends_at source.place f system >>= λ ends. guarded_rows source b relation f ends

-- ---- ranges

-- Which of the two numbers of a range is the low side.
abbrev pub low_of_range : Relation → Rational → Rational → Rational
low_of_range AtLeast first last = last
low_of_range AtMost first last = first
low_of_range LessThan first last = first
low_of_range EqualTo first last = first
low_of_range NotEqualTo first last = first
low_of_range GreaterThan first last = first

-- The other one.
abbrev pub high_of_range : Relation → Rational → Rational → Rational
high_of_range relation first last = low_of_range relation last first

-- The rows of `low <= terms <= high` without a guard: one range row where low is below high, one equality where they are equal, and where low is
-- above high the row `>= low` and then the row `<= high`.
unfoldable pub range_rows : RowFrom → LinearForm → Rational → Rational → List GivenRow
range_rows source f low high =
    cond
    (below low high)
    (row_of source f.terms (Range low high) ∷ [])
    (cond
    (same low high)
    (row_of source f.terms (One sense.Equal low) ∷ [])
    (row_of source f.terms (One sense.AtLeast low) ∷ row_of source f.terms (One sense.AtMost high) ∷ []))

-- What is made of the two sides of a range, from which the constant of the form is taken; past where a difference is.
abbrev pub sides_less : {A : Type 0} → LinearForm → Rational → Rational → (Rational → Rational → A) → Result A Past
sides_less f low high make = of_two (Ok low ⊟ Ok f.constant) (Ok high ⊟ Ok f.constant) make

-- The rows of a range under a guard: the ends, then whether both are there, then the numbers of the rows.
abbrev pub guarded_range : RowFrom → Literal → LinearForm → Rational → Rational → Sides → Result (List GivenRow) Fault
guarded_range source b f low high ends =
    needed_end source.place ends.low (λ least.
    needed_end source.place ends.high (λ greatest.
    past_at source.place (
    (Ok low ⊟ Ok f.constant) >>= λ l.
    (Ok high ⊟ Ok f.constant) >>= λ h.
    under_least source (terms_of f) b l least >>= λ first.
    under_most source (terms_of f) b h greatest >>= λ second.
    Ok (first ∷ second ∷ []))))

-- The rows of a range.
unfoldable pub ranged_rows : RowFrom → Guard → LinearForm → Rational → Rational → LinearSystem → Result (List GivenRow) Fault
ranged_rows source None f low high system = past_at source.place (sides_less f low high (range_rows source f))
ranged_rows source (Some b) f low high system =
    ends_at source.place f system >>= λ ends. guarded_range source b f low high ends

-- ---- parts

-- A part of a constraint: what it makes under a guard.
abbrev pub ConstraintPart : Type 0
ConstraintPart = Guard → Encoding (Unit {0})

-- The literal under which a part of a `vif` stands: that of the condition, joined to the guard where there is one.
abbrev pub part_guard : RowFrom → Guard → Literal → Encoding Literal
part_guard source None b = gives b
part_guard source (Some g) b = joined_column source And g b

-- Parts one after another under one guard.
unfoldable pub each_part : List ConstraintPart → ConstraintPart
each_part [] guard = gives tt
each_part (part ∷ parts) guard = part guard then λ _. each_part parts guard

-- A part under the literal of its condition.
abbrev pub under_literal : RowFrom → Guard → Literal → ConstraintPart → Encoding (Unit {0})
under_literal source guard b part = part_guard source guard b then λ g. part (Some g)

-- The part after `else`, for which nothing is made where there is none.
abbrev pub otherwise_part : RowFrom → Guard → Literal → Option ConstraintPart → Encoding (Unit {0})
otherwise_part source guard b None = gives tt
otherwise_part source guard b (Some part) = under_literal source guard (negation b) part

-- What a constraint makes whose parts are what they make.
abbrev pub constraint_makes : ℕ → GCon-F ConstraintPart → ConstraintPart
constraint_makes statement (GCon-F.Compare place relation left right) guard =
    difference_of statement place left right then λ f.
    (λ system. comparison_rows (from_place statement place) guard relation f system >>= λ rows. with_rows place rows system)
constraint_makes statement (GCon-F.Range place relation first term last) guard =
    makes_term statement term then λ f.
    (λ system.
    ranged_rows (from_place statement place) guard f (low_of_range relation first last) (high_of_range relation first last) system >>= λ rows.
    with_rows place rows system)
constraint_makes statement (GCon-F.And parts) guard = each_part parts guard
constraint_makes statement (GCon-F.Vif place test first otherwise) guard =
    makes_condition (from_place statement place) test then λ b.
    under_literal (from_place statement place) guard b first then λ _.
    otherwise_part (from_place statement place) guard b otherwise

-- What a constraint makes under a guard.
abbrev pub makes_constraint : ℕ → GCon → ConstraintPart
makes_constraint statement = fold-GCon ConstraintPart (constraint_makes statement)
