-- What may stand at some place, and what therefore at the parts of it.
use Rattle.std.specs.Prelude.{Bool, true, false}
use Rattle.zim_fault.specs.declared.words.Word.{Word}
use Rattle.zim_fault.specs.declared.words.Word.TheVariants.{WSum, WProd}
use Rattle.zim_static.specs.declared.role.Role.{Role}
use Rattle.zim_static.specs.declared.role.Role.TheVariants.{Value, Bound, Term, Condition, Constraint, NoConstraint}

-- an operand that no rule gives a role of its own
abbrev pub inside : Role → Role
inside Constraint = NoConstraint
inside NoConstraint = NoConstraint
inside _ = Value

-- an operand of what is a term where a term may stand
abbrev pub term_inside : Role → Role
term_inside Term = Term
term_inside role = inside role

-- an operand of a list of operators, which may be a term or not
abbrev pub operand : Bool → Role → Role
operand true role = term_inside role
operand false role = inside role

-- an operand of what is a condition where a condition may stand
abbrev pub condition_inside : Role → Role
condition_inside Condition = Condition
condition_inside role = inside role

-- an operand of `and`, which is a constraint too where one may stand
abbrev pub conjunct : Role → Role
conjunct Constraint = Constraint
conjunct role = condition_inside role

-- what stands behind a `forall`
abbrev pub constraint_inside : Role → Role
constraint_inside Constraint = Constraint
constraint_inside role = inside role

-- what stands in parentheses: a bound isn't `infinity` there
abbrev pub parenthesised : Role → Role
parenthesised Bound = Value
parenthesised role = role

-- what stands behind a sign: a bound may be `infinity` there, and nothing larger that holds it
abbrev pub role_behind_sign : Bool → Role → Role
role_behind_sign true Bound = Bound
role_behind_sign false Bound = Value
role_behind_sign infinite role = term_inside role

-- the parts between which an `if` picks
abbrev pub branch : Role → Role
branch Condition = Value
branch role = role

-- the parts between which a `vif` picks, or an `if`
abbrev pub branch_of : Bool → Role → Role
branch_of true role = constraint_inside role
branch_of false role = branch role

-- the condition of an `if`, and an index of a `forall`
abbrev pub test : Role → Role
test NoConstraint = NoConstraint
test _ = Value

-- the condition of a `vif`, or of an `if`
abbrev pub test_of : Bool → Role → Role
test_of true Constraint = Condition
test_of vif role = test role

-- the sides of a comparison
abbrev pub side : Role → Role
side Constraint = Term
side Condition = Term
side NoConstraint = Term
side _ = Value

-- the sides of two comparisons one behind the other
abbrev pub chain_side : Role → Role
chain_side Condition = Value
chain_side role = side role

-- what `sum`, `prod`, `min` and so on go over
abbrev pub summand : Word → Role → Role
summand WSum role = term_inside role
summand WProd role = term_inside role
summand keyword role = inside role

-- a constraint is wanted there
abbrev pub is_constraint : Role → Bool
is_constraint Constraint = true
is_constraint _ = false

-- a term may stand there
abbrev pub is_term : Role → Bool
is_term Term = true
is_term _ = false

-- `infinity` may stand there
abbrev pub is_bound : Role → Bool
is_bound Bound = true
is_bound _ = false
