-- What callers promise of ground trees: no divisor is 0, each column is one of those that there are, and constraints
-- compare by the relations that a row can have.
use Rattle.std.specs.Prelude.{ℕ, Bool, true, false, not, ◌&&◌, nat_lt, nat_le, List, [], ◌∷◌}
use Rattle.zim_fault.specs.declared.faults.Place.{Place}
use Rattle.zim_fault.specs.declared.tokens.Relation.{Relation}
use Rattle.zim_fault.specs.declared.tokens.Relation.TheVariants.{LessThan, AtMost, EqualTo, NotEqualTo, AtLeast, GreaterThan}
use Rattle.zim_fault.specs.declared.tokens.Join.{Join}
use Rattle.zim_rational.specs.Rational.{Rational, zero, same}
use Rattle.zim_formula.specs.Ground.{all_hold, otherwise_holds}
use Rattle.zim_formula.specs.declared.ground.GTerm.{GTerm, GTerm-F, fold-GTerm}
use Rattle.zim_formula.specs.declared.ground.GCond.{GCond, GCond-F, fold-GCond}
use Rattle.zim_formula.specs.declared.ground.GCon.{GCon, GCon-F, fold-GCon}

-- none of the numbers that are divisors is 0
unfoldable pub divides : List (Place × Bool × Rational) → Bool
divides [] = true
divides (t ∷ ts) = not (t.1 && same t.2 zero) && divides ts

-- all truth values that stand behind a place and a flag are true
unfoldable pub operands_hold : List (Place × Bool × Bool) → Bool
operands_hold [] = true
operands_hold (t ∷ ts) = t.2 && operands_hold ts

-- all truth values that stand behind a place and a join are true
unfoldable pub joined_hold : List (Place × Join × Bool) → Bool
joined_hold [] = true
joined_hold (t ∷ ts) = t.2 && joined_hold ts

-- a column is one of those from 1 to n
unfoldable pub is_column : ℕ → ℕ → Bool
is_column n j = nat_lt 0 j && nat_le j n

-- a term is over the columns from 1 to n and divides by no 0, where its parts do
abbrev pub term_rule : ℕ → GTerm-F Bool → Bool
term_rule n (GTerm-F.Known q) = true
term_rule n (GTerm-F.Column j) = is_column n j
term_rule n (GTerm-F.Sum first others) = first && operands_hold others
term_rule n (GTerm-F.Product factor term others) = term && divides others
term_rule n (GTerm-F.Minus place term) = term
term_rule n (GTerm-F.SumOver place terms) = all_hold terms
term_rule n (GTerm-F.Abs place term) = term

-- each column of a term is one of those from 1 to n, and no divisor in it is 0
abbrev pub is_term_over : ℕ → GTerm → Bool
is_term_over n = fold-GTerm Bool (term_rule n)

-- a condition is over the columns from 1 to n and divides by no 0, where its parts do
abbrev pub condition_rule : ℕ → GCond-F Bool → Bool
condition_rule n (GCond-F.Known truth) = true
condition_rule n (GCond-F.Compare place relation left right) = is_term_over n left && is_term_over n right
condition_rule n (GCond-F.Chain first others) = first && joined_hold others
condition_rule n (GCond-F.Not place operand) = operand

-- each column of a condition is one of those from 1 to n, and no divisor in it is 0
abbrev pub is_condition_over : ℕ → GCond → Bool
is_condition_over n = fold-GCond Bool (condition_rule n)

-- a row can be by `<=`, `>=` and `==`
unfoldable pub is_row_relation : Relation → Bool
is_row_relation AtMost = true
is_row_relation AtLeast = true
is_row_relation EqualTo = true
is_row_relation LessThan = false
is_row_relation NotEqualTo = false
is_row_relation GreaterThan = false

-- a range is by `<=` or `>=`
unfoldable pub is_range_relation : Relation → Bool
is_range_relation AtMost = true
is_range_relation AtLeast = true
is_range_relation EqualTo = false
is_range_relation LessThan = false
is_range_relation NotEqualTo = false
is_range_relation GreaterThan = false

-- a constraint is over the columns from 1 to n, divides by no 0 and compares as rows do, where its parts do
abbrev pub constraint_rule : ℕ → GCon-F Bool → Bool
constraint_rule n (GCon-F.Compare place relation left right) = is_row_relation relation && is_term_over n left && is_term_over n right
constraint_rule n (GCon-F.Range place relation first term last) = is_range_relation relation && is_term_over n term
constraint_rule n (GCon-F.And parts) = all_hold parts
constraint_rule n (GCon-F.Vif place test first otherwise) = is_condition_over n test && first && otherwise_holds otherwise

-- each column of a constraint is one of those from 1 to n, no divisor in it is 0, and it compares as rows do
abbrev pub is_constraint_over : ℕ → GCon → Bool
is_constraint_over n = fold-GCon Bool (constraint_rule n)
