-- Ground trees: the number of a term and the truth of a condition and of a constraint at an assignment of the columns.
use Rattle.std.specs.Prelude.{Bool, true, not, ◌&&◌, ◌||◌, if◌then◌else◌, List, [], ◌∷◌, Option, Some, None}
use Rattle.zim_fault.specs.declared.faults.Place.{Place}
use Rattle.zim_fault.specs.declared.tokens.Relation.{Relation}
use Rattle.zim_fault.specs.declared.tokens.Relation.TheVariants.{LessThan, AtMost, EqualTo, NotEqualTo, AtLeast, GreaterThan}
use Rattle.zim_fault.specs.declared.tokens.Join.{Join}
use Rattle.zim_fault.specs.declared.tokens.Join.TheVariants.{And, Or, Xor}
use Rattle.zim_rational.specs.Rational.{Rational, plus, minus, negate, times, over, total, at_most, below, same}
use Rattle.zim_rational.specs.Rounding.{absolute}
use Rattle.zim_linear.specs.Forms.{ColumnNumbers}
use Rattle.zim_formula.specs.declared.ground.GTerm.{GTerm, GTerm-F, fold-GTerm}
use Rattle.zim_formula.specs.declared.ground.GCond.{GCond, GCond-F, fold-GCond}
use Rattle.zim_formula.specs.declared.ground.GCon.{GCon, GCon-F, fold-GCon}

-- numbers added to a sum, or taken from it where their flag is set
unfoldable pub sum_from : Rational → List (Place × Bool × Rational) → Rational
sum_from sum [] = sum
sum_from sum (t ∷ ts) = sum_from (if t.1 then minus sum t.2 else plus sum t.2) ts

-- a number times others, or over them where their flag is set
unfoldable pub product_from : Rational → List (Place × Bool × Rational) → Rational
product_from product [] = product
product_from product (t ∷ ts) = product_from (if t.1 then over product t.2 else times product t.2) ts

-- a number times the factor before it, where there is one
unfoldable pub with_factor : Option (Rational × Place) → Rational → Rational
with_factor None v = v
with_factor (Some factor) v = times factor.0 v

-- the number of a term whose parts are their numbers
abbrev pub term_step : ColumnNumbers → GTerm-F Rational → Rational
term_step x (GTerm-F.Known q) = q
term_step x (GTerm-F.Column j) = x j
term_step x (GTerm-F.Sum first others) = sum_from first others
term_step x (GTerm-F.Product factor term others) = product_from (with_factor factor term) others
term_step x (GTerm-F.Minus place term) = negate term
term_step x (GTerm-F.SumOver place terms) = total terms
term_step x (GTerm-F.Abs place term) = absolute term

-- the number of a term where each column is what the assignment says
abbrev pub term_number : ColumnNumbers → GTerm → Rational
term_number x = fold-GTerm Rational (term_step x)

-- whether two numbers stand in a relation
unfoldable pub related : Relation → Rational → Rational → Bool
related LessThan a b = below a b
related AtMost a b = at_most a b
related EqualTo a b = same a b
related NotEqualTo a b = not (same a b)
related AtLeast a b = at_most b a
related GreaterThan a b = below b a

-- two truth values joined; `xor` is true where they differ
unfoldable pub joined_truths : Join → Bool → Bool → Bool
joined_truths And p q = p && q
joined_truths Or p q = p || q
joined_truths Xor p q = if p then not q else q

-- truth values joined to a first one, from the left
unfoldable pub chain_from : Bool → List (Place × Join × Bool) → Bool
chain_from truth [] = truth
chain_from truth (c ∷ cs) = chain_from (joined_truths c.1 truth c.2) cs

-- the truth of a condition whose parts are their truth values
abbrev pub condition_step : ColumnNumbers → GCond-F Bool → Bool
condition_step x (GCond-F.Known truth) = truth
condition_step x (GCond-F.Compare place relation left right) = related relation (term_number x left) (term_number x right)
condition_step x (GCond-F.Chain first others) = chain_from first others
condition_step x (GCond-F.Not place operand) = not operand

-- whether a condition is true at an assignment
abbrev pub condition_holds : ColumnNumbers → GCond → Bool
condition_holds x = fold-GCond Bool (condition_step x)

-- whether all are true
unfoldable pub all_hold : List Bool → Bool
all_hold [] = true
all_hold (p ∷ ps) = p && all_hold ps

-- whether the second part of a `vif` is true; without one nothing is asked
unfoldable pub otherwise_holds : Option Bool → Bool
otherwise_holds None = true
otherwise_holds (Some p) = p

-- the truth of a constraint whose parts are their truth values; a `vif` asks the part that its condition picks
abbrev pub constraint_step : ColumnNumbers → GCon-F Bool → Bool
constraint_step x (GCon-F.Compare place relation left right) = related relation (term_number x left) (term_number x right)
constraint_step x (GCon-F.Range place relation first term last) = related relation first (term_number x term) && related relation (term_number x term) last
constraint_step x (GCon-F.And parts) = all_hold parts
constraint_step x (GCon-F.Vif place test first otherwise) = if condition_holds x test then first else otherwise_holds otherwise

-- whether a constraint is true at an assignment
abbrev pub constraint_holds : ColumnNumbers → GCon → Bool
constraint_holds x = fold-GCon Bool (constraint_step x)
