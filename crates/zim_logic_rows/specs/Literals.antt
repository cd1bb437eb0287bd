-- Literals and their joins.
use Rattle.std.specs.Prelude.{ℕ, Bool, true, false, not, cond, List, [], ◌∷◌}
use Rattle.zim_fault.specs.declared.tokens.Join.{Join}
use Rattle.zim_fault.specs.declared.tokens.Join.TheVariants.{And, Or, Xor}
use Rattle.zim_rational.specs.Rational.{Rational, zero, one, negate, plus}
use Rattle.zim_linear.specs.Forms.{LinearForm}
use Rattle.zim_forms.specs.Algebra.{◌⊕◌, ◌⊖◌, known, the}
use Rattle.zim_rows.specs.declared.rows.GivenRow.{GivenRow}
use Rattle.zim_rows.specs.declared.rows.RowFrom.{RowFrom}
use Rattle.zim_rows.specs.declared.rows.Sense.TheVariants as sense
use Rattle.zim_rows.specs.Steps.{Encoding, ◌then◌, gives}
use Rattle.zim_logic_rows.specs.declared.Literal.{Literal}
use Rattle.zim_logic_rows.specs.LogicRows.{compared_row, with_binary}

-- The number of a truth value.
unfoldable pub number_of : Bool → Rational
number_of truth = cond truth one zero

-- The column b, or where the flag isn't set 1 minus it.
abbrev pub literal_form : ℕ → Bool → LinearForm
literal_form b true = the b
literal_form b false = known one ⊖ the b

-- The form of a literal.
abbrev pub is : Literal → LinearForm
is p = literal_form p.column p.positive

-- The literal that is the column b, or its negation.
abbrev pub literal : ℕ → Bool → Literal
literal b positive = record { column = b; positive = positive }

-- The other literal of the same column.
abbrev pub negation : Literal → Literal
negation p = literal p.column (not p.positive)

-- The rows of the column r that joins p and q.
abbrev pub join_rows : RowFrom → Join → LinearForm → LinearForm → LinearForm → List GivenRow
join_rows source And p q r =
    compared_row source (r ⊕ r ⊖ p ⊖ q) sense.AtMost zero
    ∷ compared_row source (r ⊖ p ⊖ q) sense.AtLeast (negate one)
    ∷ []
join_rows source Or p q r =
    compared_row source (r ⊕ r ⊖ p ⊖ q) sense.AtLeast zero ∷ compared_row source (r ⊖ p ⊖ q) sense.AtMost zero ∷ []
join_rows source Xor p q r =
    compared_row source (r ⊖ p ⊖ q) sense.AtMost zero
    ∷ compared_row source (r ⊖ p ⊕ q) sense.AtLeast zero
    ∷ compared_row source (r ⊕ p ⊖ q) sense.AtLeast zero
    ∷ compared_row source (r ⊕ p ⊕ q) sense.AtMost (plus one one)
    ∷ []

-- The column that joins p and q, with its rows, as a literal.
unfoldable pub joined_column : RowFrom → Join → Literal → Literal → Encoding Literal
joined_column source join p q =
    with_binary source.place (λ r. join_rows source join (is p) (is q) (the r)) then λ r. gives (literal r true)

-- The row of the column e that is 1 exactly where g and l both are, one of which is.
abbrev pub equal_rows : RowFrom → ℕ → ℕ → ℕ → List GivenRow
equal_rows source g l e = compared_row source (the e ⊖ the g ⊖ the l) sense.Equal (negate one) ∷ []
