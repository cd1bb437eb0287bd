-- What an expression is where a term or a condition may stand: one with variables, or else a constant.
use Rattle.std.specs.Prelude.{Bool, true, false, ◌||◌, List, [], ◌∷◌, ◌++◌, map, filter_map, Option, Some, None, if◌then◌else◌}
use Rattle.std.specs.List.{list_any}
use Rattle.zim_fault.specs.declared.faults.Place.{Place}
use Rattle.zim_fault.specs.declared.tokens.Token.{Token}
use Rattle.zim_fault.specs.declared.tokens.Join.{Join}
use Rattle.zim_fault.specs.declared.tokens.Join.TheVariants as join
use Rattle.zim_fault.specs.declared.tokens.Relation.{Relation}
use Rattle.zim_fault.specs.declared.words.Word.{Word}
use Rattle.zim_fault.specs.declared.words.Word.TheVariants.{WVabs, WSum}
use Rattle.zim_tree.specs.declared.expr.Expr.{Expr}
use Rattle.zim_typed.specs.declared.constant.Const.{Const}
use Rattle.zim_typed.specs.declared.constant.Const.TheVariants as const
use Rattle.zim_typed.specs.declared.constant.Loop.{Loop}
use Rattle.zim_typed.specs.declared.constraint.Term.{Term}
use Rattle.zim_typed.specs.declared.constraint.Term.TheVariants as term
use Rattle.zim_typed.specs.declared.constraint.Cond.{Cond}
use Rattle.zim_typed.specs.declared.constraint.Cond.TheVariants as cond
use Rattle.zim_typed.specs.Scope.{Names, Scope}
use Rattle.zim_typed.specs.Terms.{or_join}
use Rattle.zim_sort.specs.declared.part.TermPart.{TermPart}
use Rattle.zim_sort.specs.declared.part.TermPart.TheVariants as of_term
use Rattle.zim_sort.specs.declared.part.CondPart.{CondPart}
use Rattle.zim_sort.specs.declared.part.CondPart.TheVariants as of_condition
use Rattle.zim_typing.specs.Typing.{is_minus, known_product, typed_const, typed_operands, typed_factors, typed_term, typed_cond}

-- ---- terms

-- a term with variables, or else a constant
abbrev pub term_part : Option Term → Const → TermPart
term_part None c = of_term.Fixed c
term_part (Some t) c = of_term.Varies t

-- what an expression is where a term may stand
unfoldable pub typed_term_part : Scope → Names → Expr → TermPart
typed_term_part scope names e = term_part (typed_term scope names e) (typed_const scope names e)

-- the term that a part is, with variables or without
abbrev pub as_term : TermPart → Term
as_term (of_term.Varies t) = t
as_term (of_term.Fixed c) = term.Known c

-- whether a part has variables
abbrev pub is_varying : TermPart → Bool
is_varying (of_term.Varies t) = true
is_varying (of_term.Fixed c) = false

-- a part behind a sign
abbrev pub signed_part : Place → Bool → TermPart → TermPart
signed_part place minus (of_term.Fixed c) = of_term.Fixed (const.Signed place minus c)
signed_part place false (of_term.Varies t) = of_term.Varies t
signed_part place true (of_term.Varies t) = of_term.Varies (term.Minus place t)

-- a part in parentheses
abbrev pub parenthesised_part : Place → TermPart → TermPart
parenthesised_part place (of_term.Fixed c) = of_term.Fixed (const.Paren place c)
parenthesised_part place (of_term.Varies t) = of_term.Varies t

-- a sum over an index
abbrev pub summed_part : Place → Word → Loop → Bool → TermPart → TermPart
summed_part place keyword index with_do (of_term.Fixed c) = of_term.Fixed (const.Big place keyword index with_do c)
summed_part place keyword index with_do (of_term.Varies t) = of_term.Varies (term.SumOver place index t)

-- one of two parts, which an `if` picks
abbrev pub picked_part : Place → Const → TermPart → TermPart → TermPart
picked_part place test (of_term.Fixed c) (of_term.Fixed d) = of_term.Fixed (const.If place test c d)
picked_part place test (of_term.Varies t) otherwise = of_term.Varies (term.If place test t (as_term otherwise))
picked_part place test (of_term.Fixed c) (of_term.Varies u) = of_term.Varies (term.If place test (term.Known c) u)

-- operands behind operators
abbrev pub operand_parts : Scope → Names → List (Place × Token × Expr) → List (Place × Token × TermPart)
operand_parts scope names others = map (λ x. (x.0, x.1, typed_term_part scope names x.2)) others

-- what stands behind the first operand of a sum, as terms
abbrev pub summands : List (Place × Token × TermPart) → List (Place × Bool × Term)
summands others = map (λ x. (x.0, is_minus x.1, as_term x.2)) others

-- `vabs` of a part
abbrev pub absolute_part : Place → TermPart → TermPart
absolute_part place part = of_term.Varies (term.Abs place (as_term part))

-- an operand that is a constant
abbrev pub fixed_operand : Place × Token × TermPart → Option (Place × Token × Const)
fixed_operand (place, token, of_term.Fixed c) = Some (place, token, c)
fixed_operand (place, token, of_term.Varies t) = None

-- the operands that are constants
abbrev pub fixed_operands : List (Place × Token × TermPart) → List (Place × Token × Const)
fixed_operands others = filter_map fixed_operand others

-- one of these operands has variables
abbrev pub one_varying : List (Place × Token × TermPart) → Bool
one_varying others = list_any (λ x. is_varying x.2) others

-- a sum of parts: a term, if one of them has variables
abbrev pub sum_part : TermPart → List (Place × Token × TermPart) → TermPart
sum_part (of_term.Varies t) others = of_term.Varies (term.Sum t (summands others))
sum_part (of_term.Fixed c) others = if one_varying others then of_term.Varies (term.Sum (term.Known c) (summands others)) else of_term.Fixed (const.Plus c (fixed_operands others))

-- a sum of these operands
abbrev pub typed_sum_part : Scope → Names → Expr → List (Place × Token × Expr) → TermPart
typed_sum_part scope names first others = sum_part (typed_term_part scope names first) (operand_parts scope names others)

-- a product behind constants, if the operand behind them has variables, and else what is said of those behind it
abbrev pub product_part_at : Option Term → Const → Place → List (Place × Bool × Const) → TermPart → TermPart
product_part_at None before place factors rest = rest
product_part_at (Some t) before place factors rest = of_term.Varies (term.Product (Some (before, place)) t factors)

-- a product whose first operands are constants
unfoldable pub product_part_behind : Scope → Names → Const → List (Place × Token × Const) → List (Place × Token × Expr) → TermPart
product_part_behind scope names first before [] = of_term.Fixed (const.Times first before)
product_part_behind scope names first before ((place, token, e) ∷ others) =
    product_part_at (typed_term scope names e) (known_product first before) place (typed_factors scope names others)
    (product_part_behind scope names first (before ++ (place, token, typed_const scope names e) ∷ []) others)

-- a product
abbrev pub product_part : Scope → Names → TermPart → List (Place × Token × Expr) → TermPart
product_part scope names (of_term.Varies t) others = of_term.Varies (term.Product None t (typed_factors scope names others))
product_part scope names (of_term.Fixed c) others = product_part_behind scope names c [] others

-- the operand of a `vabs` with one
abbrev pub absolute_operand : Word → List Expr → Option Expr
absolute_operand WVabs (e ∷ []) = Some e
absolute_operand _ _ = None

-- the word is `sum`
abbrev pub is_summation : Word → Bool
is_summation WSum = true
is_summation _ = false

-- ---- conditions

-- a condition with variables, or else a constant
abbrev pub condition_part : Option Cond → Const → CondPart
condition_part None c = of_condition.Fixed c
condition_part (Some t) c = of_condition.Varies t

-- what an expression is where a condition may stand
unfoldable pub typed_condition_part : Scope → Names → Expr → CondPart
typed_condition_part scope names e = condition_part (typed_cond scope names e) (typed_const scope names e)

-- the condition that a part is, with variables or without
abbrev pub as_condition : CondPart → Cond
as_condition (of_condition.Varies c) = c
as_condition (of_condition.Fixed c) = cond.Known c

-- whether a part has variables
abbrev pub condition_varies : CondPart → Bool
condition_varies (of_condition.Varies c) = true
condition_varies (of_condition.Fixed c) = false

-- a condition behind `not`
abbrev pub negated_part : Place → CondPart → CondPart
negated_part place (of_condition.Fixed c) = of_condition.Fixed (const.Not place c)
negated_part place (of_condition.Varies c) = of_condition.Varies (cond.Not place c)

-- a condition in parentheses
abbrev pub parenthesised_condition : Place → CondPart → CondPart
parenthesised_condition place (of_condition.Fixed c) = of_condition.Fixed (const.Paren place c)
parenthesised_condition place (of_condition.Varies c) = of_condition.Varies c

-- a comparison of terms with variables
abbrev pub terms_compared : Place → Relation → TermPart → TermPart → CondPart
terms_compared place relation left right = of_condition.Varies (cond.Compare place relation (as_term left) (as_term right))

-- one comparison: a condition with variables, if a side has some
abbrev pub compared_part : Place → Relation → TermPart → TermPart → CondPart
compared_part place relation (of_term.Fixed c) (of_term.Fixed d) = of_condition.Fixed (const.Compare place relation c d)
compared_part place relation (of_term.Varies t) right = terms_compared place relation (of_term.Varies t) right
compared_part place relation (of_term.Fixed c) (of_term.Varies u) = terms_compared place relation (of_term.Fixed c) (of_term.Varies u)

-- conditions that are joined
abbrev pub chained_part : CondPart → List (Place × Join × Cond) → CondPart
chained_part first others = of_condition.Varies (cond.Chain (as_condition first) others)

-- operands behind `and`
abbrev pub anded_parts : Scope → Names → List (Place × Expr) → List (Place × CondPart)
anded_parts scope names others = map (λ x. (x.0, typed_condition_part scope names x.1)) others

-- those as conditions
abbrev pub conjoined_part : List (Place × CondPart) → List (Place × Join × Cond)
conjoined_part others = map (λ x. (x.0, join.And, as_condition x.1)) others

-- an operand behind `and` that is a constant
abbrev pub fixed_conjunct : Place × CondPart → Option (Place × Const)
fixed_conjunct (place, of_condition.Fixed c) = Some (place, c)
fixed_conjunct (place, of_condition.Varies c) = None

-- the operands that are constants
abbrev pub fixed_conjuncts : List (Place × CondPart) → List (Place × Const)
fixed_conjuncts others = filter_map fixed_conjunct others

-- parts that are joined by `and`: a condition with variables, if one of them has some
abbrev pub anded_part : CondPart → List (Place × CondPart) → CondPart
anded_part (of_condition.Varies c) others = chained_part (of_condition.Varies c) (conjoined_part others)
anded_part (of_condition.Fixed c) others =
    if list_any (λ (x : Place × CondPart). condition_varies x.1) others then chained_part (of_condition.Fixed c) (conjoined_part others) else of_condition.Fixed (const.And c (fixed_conjuncts others))

-- operands behind `or` and `xor`
abbrev pub ored_parts : Scope → Names → List (Place × Bool × Expr) → List (Place × Bool × CondPart)
ored_parts scope names others = map (λ x. (x.0, x.1, typed_condition_part scope names x.2)) others

-- those as conditions
abbrev pub disjoined_part : List (Place × Bool × CondPart) → List (Place × Join × Cond)
disjoined_part others = map (λ x. (x.0, or_join x.1, as_condition x.2)) others

-- an operand behind `or` or `xor` that is a constant
abbrev pub fixed_disjunct : Place × Bool × CondPart → Option (Place × Bool × Const)
fixed_disjunct (place, xor, of_condition.Fixed c) = Some (place, xor, c)
fixed_disjunct (place, xor, of_condition.Varies c) = None

-- the operands that are constants
abbrev pub fixed_disjuncts : List (Place × Bool × CondPart) → List (Place × Bool × Const)
fixed_disjuncts others = filter_map fixed_disjunct others

-- parts that are joined by `or` and `xor`: a condition with variables, if one of them has some
abbrev pub ored_part : CondPart → List (Place × Bool × CondPart) → CondPart
ored_part (of_condition.Varies c) others = chained_part (of_condition.Varies c) (disjoined_part others)
ored_part (of_condition.Fixed c) others =
    if list_any (λ (x : Place × Bool × CondPart). condition_varies x.2) others then chained_part (of_condition.Fixed c) (disjoined_part others) else of_condition.Fixed (const.Or c (fixed_disjuncts others))
