-- Conditions as literals: what a ground condition makes, one step after another, and its literal.
use Rattle.std.specs.Prelude.{ℕ, Bool, true, false, Result}
use Rattle.zim_answer.specs.Answer.{◌>>=◌, goes}
use Rattle.zim_fault.specs.declared.faults.Fault.{Fault}
use Rattle.zim_fault.specs.declared.faults.Place.{Place}
use Rattle.zim_fault.specs.declared.tokens.Relation.{Relation}
use Rattle.zim_fault.specs.declared.tokens.Relation.TheVariants.{LessThan, AtMost, EqualTo, NotEqualTo, AtLeast, GreaterThan}
use Rattle.zim_fault.specs.declared.tokens.Join.{Join}
use Rattle.zim_rational.specs.Rational.{zero, one}
use Rattle.zim_linear.specs.Forms.{LinearForm}
use Rattle.zim_linear.specs.Sums.{negated_form}
use Rattle.zim_formula.specs.declared.ground.GTerm.{GTerm}
use Rattle.zim_formula.specs.declared.ground.GCond.{GCond, GCond-F, fold-GCond}
use Rattle.zim_forms.specs.Algebra.{form_sum}
use Rattle.zim_rows.specs.declared.rows.RowFrom.{RowFrom}
use Rattle.zim_rows.specs.System.{LinearSystem}
use Rattle.zim_rows.specs.Steps.{Encoding, ◌then◌, gives}
use Rattle.zim_logic_rows.specs.declared.Ranged.{Ranged}
use Rattle.zim_logic_rows.specs.declared.Literal.{Literal}
use Rattle.zim_logic_rows.specs.LogicRows.{past_at, lifted, with_binary}
use Rattle.zim_logic_rows.specs.Truth.{truth_column, opposite, nought}
use Rattle.zim_logic_rows.specs.Literals.{literal, negation, equal_rows, joined_column}
use Rattle.zim_vabs.specs.IntegerForms.{ranged_at}
use Rattle.zim_vabs.specs.Terms.{from_place, makes_term}

-- The column that is 1 exactly where T is 0: that of `T >= 0`, that of `-T >= 0` and the one that joins them, each with its rows.
abbrev pub equal_column : RowFrom → Ranged → Encoding ℕ
equal_column source t =
    truth_column source zero t then λ g.
    truth_column source zero (opposite t) then λ l.
    with_binary source.place (equal_rows source g l)

-- The column that an encoding gives, as a literal, or its negation where the flag isn't set.
abbrev pub signed_column : Encoding ℕ → Bool → Encoding Literal
signed_column encoding positive = encoding then λ b. gives (literal b positive)

-- The literal of a comparison of T with 0.
unfoldable pub comparison_literal : RowFrom → Relation → Ranged → Encoding Literal
comparison_literal source AtLeast t = signed_column (truth_column source zero t) true
comparison_literal source GreaterThan t = signed_column (truth_column source one t) true
comparison_literal source LessThan t = signed_column (truth_column source zero t) false
comparison_literal source AtMost t = signed_column (truth_column source one t) false
comparison_literal source EqualTo t = signed_column (equal_column source t) true
comparison_literal source NotEqualTo t = signed_column (equal_column source t) false

-- The difference of two terms: the form of the left one, that of the right one, and the second taken from the first at the place.
abbrev pub difference_of : ℕ → Place → GTerm → GTerm → Encoding LinearForm
difference_of statement place left right =
    makes_term statement left then λ f.
    makes_term statement right then λ g.
    lifted (past_at place (form_sum f (negated_form g)))

-- The literal of a comparison of a form with 0, by the form's least whole multiple and its ends.
abbrev pub compared_form : RowFrom → Relation → LinearForm → Encoding Literal
compared_form source relation form system =
    ranged_at source.place form system.columns >>= λ t. comparison_literal source relation t system

-- The literal of a comparison of two terms at the place of the source.
abbrev pub comparison_makes : RowFrom → Relation → GTerm → GTerm → Encoding Literal
comparison_makes source relation left right = difference_of source.statement source.place left right then compared_form source relation

-- A literal so far, and the system after what was made for it.
abbrev pub Joined : Type 0
Joined = Literal × LinearSystem

-- One operand more of a chain: its literal, and then the column that joins it to the literal so far, at the place of the join.
abbrev pub join_turn : ℕ → Joined → Place × Join × Encoding Literal → Result Joined Fault
join_turn statement so_far operand =
    operand.2 so_far.1 >>= λ made. joined_column (from_place statement operand.0) operand.1 so_far.0 made.0 made.1

-- The literal of a known truth value: whether the form 0 is at least 0, or at least 1.
abbrev pub known_literal : RowFrom → Bool → Encoding Literal
known_literal source true = signed_column (truth_column source zero nought) true
known_literal source false = signed_column (truth_column source one nought) true

-- What a condition makes whose parts are what they make. Known parts have the place of the source.
abbrev pub condition_makes : RowFrom → GCond-F (Encoding Literal) → Encoding Literal
condition_makes source (GCond-F.Known truth) = known_literal source truth
condition_makes source (GCond-F.Compare place relation left right) =
    comparison_makes (from_place source.statement place) relation left right
condition_makes source (GCond-F.Chain first others) = first then λ p system. goes (join_turn source.statement) (p, system) others
condition_makes source (GCond-F.Not place operand) = operand then λ p. gives (negation p)

-- What a condition makes, and its literal.
abbrev pub makes_condition : RowFrom → GCond → Encoding Literal
makes_condition source = fold-GCond (Encoding Literal) (condition_makes source)
