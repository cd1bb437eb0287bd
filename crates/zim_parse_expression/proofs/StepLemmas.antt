-- The parser's rules in the form of the functions: by what comes next.
use Rattle.std.proofs.Common.{◌≡◌, ℕ, zero, suc, Bool, true, false, List, [], ◌∷◌, Option, Some, None, refl, sym, nat_eq, if◌then◌else◌}
use Rattle.zim_fault.specs.declared.faults.Place.{Place}
use Rattle.zim_fault.specs.declared.tokens.Placed.{Placed}
use Rattle.zim_tree.specs.declared.expr.Expr.{Expr}
use Rattle.zim_tree.specs.declared.expr.Expr.TheVariants as tree
use Rattle.zim_tree.specs.declared.classes.Class.{Class}
use Rattle.zim_tree.specs.declared.classes.Class.TheVariants as class
use Rattle.zim_tree.specs.Levels.{Chain, joined, factorial, relations, whole}
use Rattle.zim_scan.specs.Nesting.{class_at}
use Rattle.zim_parse_expression.specs.Next.{is_exclamation, rank, is_else, is_end, opens, looseness, class_looseness, Start, a_less, start_of}
use Rattle.zim_parse_expression.specs.Parser.{Parsed, Parser, Inner, and_then, expect, body_of, marks_of, operands_of, turns_of, named, from_name, if_end, power_of, power_at, power_behind, signed_or, sign_or, sign_before, signed_of, unary_of, postfix_of, primary_of, term_of, big_of, loop_of, term_behind, sum_of, chain_of, member_of, comparison_of, comparison_at, negation_of, negation_at, expression_of, whole_at}
use Rattle.zim_parse_expression.specs.Outcome.{class_next, is_less_start, is_not, is_forall}
use Rattle.zim_parse_expression.specs.Steps.{body_by, otherwise, else_found, exponent_of, operator_of, loop_behind, signed_by, not_found, forall_found, forall_behind, begins_operator, sees_class, chain_behind, marks_behind}

pub body_next : (inner : Inner) (ts : List Placed) → body_of inner ts ≡ body_by inner (class_next ts) ts
unfolding body_of
body_next inner [] = refl
body_next inner (t ∷ rest) = refl

-- a name stands alone where no bracket follows it
abbrev pub named_by : Inner → Place → List ℕ → Option Class → Parser Expr
named_by inner p name (Some class.LeftBracket) ts = named inner p name ts
named_by inner p name (Some class.LeftParen) ts = named inner p name ts
named_by inner p name _ ts = Some (tree.Name p name, ts)

name_alone : (inner : Inner) (p : Place) (name : List ℕ) (c : Class) (t : Placed) (rest : List Placed) → from_name inner p name c t rest ≡ named inner p name (t ∷ rest) →
    named inner p name (t ∷ rest) ≡ named_by inner p name (Some c) (t ∷ rest)
name_alone inner p name class.LeftBracket t rest h = refl
name_alone inner p name class.LeftParen t rest h = refl
name_alone inner p name _ t rest h = sym h

pub named_next : (inner : Inner) (p : Place) (name : List ℕ) (ts : List Placed) → named inner p name ts ≡ named_by inner p name (class_next ts) ts
unfolding named
named_next inner p name [] = refl
named_next inner p name (t ∷ rest) = name_alone inner p name (class_at t) t rest refl

end_read : (make : Option Expr → Expr) (o : Option Expr) (r : Parsed Place) → and_then r (λ q left. Some (make o, left)) ≡ and_then (and_then r (λ q left. Some (o, left))) (λ o left. Some (make o, left))
unfolding and_then
end_read make o None = refl
end_read make o (Some x) = refl

else_read : (make : Option Expr → Expr) (r : Parsed Expr) →
    and_then r (λ e behind. and_then (expect is_end behind) (λ q left. Some (make (Some e), left)))
    ≡ and_then (and_then r (λ e behind. and_then (expect is_end behind) (λ q left. Some (Some e, left)))) (λ o left. Some (make o, left))
unfolding and_then
else_read make None = refl
else_read make (Some x) = end_read make (Some x.0) (expect is_end x.1)

if_found : (inner : Inner) (p : Place) (vif : Bool) (test branch : Expr) (c : Parsed Place) (ts : List Placed) →
    if_end inner p vif test branch c ts ≡ and_then (else_found inner c ts) (λ o left. Some (tree.If p vif test branch o, left))
unfolding and_then
if_found inner p vif test branch None ts = end_read (λ o. tree.If p vif test branch o) None (expect is_end ts)
if_found inner p vif test branch (Some x) ts = else_read (λ o. tree.If p vif test branch o) (inner whole x.1)

pub if_otherwise : (inner : Inner) (p : Place) (vif : Bool) (test branch : Expr) (ts : List Placed) →
    if_end inner p vif test branch (expect is_else ts) ts ≡ and_then (otherwise inner ts) (λ o left. Some (tree.If p vif test branch o, left))
unfolding otherwise
if_otherwise inner p vif test branch ts = if_found inner p vif test branch (expect is_else ts) ts

-- signs

sign_found : (operand : Parser Expr) (c : Class) (t : Placed) (rest : List Placed) → sign_or operand c t rest ≡ signed_by operand (sign_before c t rest)
sign_found operand class.PlusOrMinus t rest = refl
sign_found operand _ t rest = refl

pub signed_next : (operand : Parser Expr) (ts : List Placed) → operand [] ≡ None → signed_or operand ts ≡ signed_by operand (signed_of ts)
unfolding signed_or
signed_next operand [] none = sym none
signed_next operand (t ∷ rest) none = sign_found operand (class_at t) t rest

pub unary_next : (inner : Inner) (ts : List Placed) → unary_of inner ts ≡ signed_by (power_of inner) (signed_of ts)
unfolding power_of postfix_of primary_of and_then
unary_next inner ts = signed_next (power_of inner) ts refl

pub loop_next : (inner : Inner) (ts : List Placed) → loop_of inner ts ≡ signed_by (big_of inner) (signed_of ts)
unfolding big_of
loop_next inner ts = signed_next (big_of inner) ts refl

-- powers

-- what a first operand and an operator behind it give, by whether the operator comes next
abbrev pub operator_by : Option (Placed × List Placed) → (Placed → List Placed → Parsed Expr) → Expr → List Placed → Parsed Expr
operator_by None behind first ts = Some (first, ts)
operator_by (Some x) behind first ts = behind x.0 x.1

power_found : (inner : Inner) (base : Expr) (c : Class) (open_behind : Bool) (t : Placed) (rest : List Placed) →
    power_at inner base c t rest ≡ operator_by (if nat_eq (class_looseness c open_behind) 3 then Some (t, rest) else None) (λ u left. exponent_of inner base u left) base (t ∷ rest)
unfolding exponent_of
power_found inner base class.Power o t rest = refl
power_found inner base class.Product true t rest = refl
power_found inner base class.Product false t rest = refl
power_found inner base _ o t rest = refl

pub power_next : (inner : Inner) (base : Expr) (ts : List Placed) → power_behind inner base ts ≡ operator_by (operator_of 3 ts) (λ t rest. exponent_of inner base t rest) base ts
unfolding power_behind
power_next inner base [] = refl
power_next inner base (t ∷ rest) = power_found inner base (class_at t) (opens rest) t rest

term_found : (inner : Inner) (first : Expr) (t : Placed) (rest : List Placed) (b : Bool) →
    (if b then and_then (loop_of inner rest) (λ last left. Some (tree.Times first ((t.place, t.token, last) ∷ []), left)) else Some (first, t ∷ rest))
    ≡ operator_by (if b then Some (t, rest) else None) (λ u left. loop_behind inner first u left) first (t ∷ rest)
unfolding loop_behind
term_found inner first t rest true = refl
term_found inner first t rest false = refl

pub term_next : (inner : Inner) (first : Expr) (ts : List Placed) → term_behind inner first ts ≡ operator_by (operator_of 5 ts) (λ t rest. loop_behind inner first t rest) first ts
unfolding term_behind
term_next inner first [] = refl
term_next inner first (t ∷ rest) = term_found inner first t rest (nat_eq (looseness (t ∷ rest)) 5)

-- comparisons

comparison_start : (inner : Inner) (s : Start) (ts : List Placed) → comparison_at inner s ts ≡ (if is_less_start s then member_of inner ts else chain_of relations (sum_of inner) ts)
comparison_start inner a_less ts = refl
comparison_start inner _ ts = refl

pub comparison_next : (inner : Inner) (ts : List Placed) → comparison_of inner ts ≡ (if is_less_start (start_of ts) then member_of inner ts else chain_of relations (sum_of inner) ts)
unfolding comparison_of
comparison_next inner ts = comparison_start inner (start_of ts) ts

not_at : (inner : Inner) (c : Class) (t : Placed) (rest : List Placed) → negation_at inner c t rest ≡ not_found inner (if is_not c then Some (t.place, rest) else None) (t ∷ rest)
not_at inner class.Not t rest = refl
not_at inner _ t rest = refl

pub negation_next : (inner : Inner) (ts : List Placed) → negation_of inner ts ≡ not_found inner (expect is_not ts) ts
unfolding negation_of comparison_of chain_of term_of signed_or and_then
negation_next inner [] = refl
negation_next inner (t ∷ rest) = not_at inner (class_at t) t rest

forall_at : (inner : Inner) (c : Class) (t : Placed) (rest : List Placed) → whole_at inner c t rest ≡ forall_found inner (if is_forall c then Some (t.place, rest) else None) (t ∷ rest)
unfolding forall_behind
forall_at inner class.Forall t rest = refl
forall_at inner _ t rest = refl

pub whole_next : (inner : Inner) (ts : List Placed) → expression_of inner ts ≡ forall_found inner (expect is_forall ts) ts
unfolding expression_of negation_of chain_of and_then
whole_next inner [] = refl
whole_next inner (t ∷ rest) = forall_at inner (class_at t) t rest

-- lists of operands, by whether an operator comes next

alone : (chain : Chain) (operand : Parser Expr) (n : ℕ) (ts : List Placed) → begins_operator (rank chain) ts ≡ false → operands_of chain operand n ts ≡ Some ([], ts)
unfolding operands_of
alone chain operand zero ts h = refl
alone chain operand (suc n) [] h = refl
alone chain operand (suc n) (t ∷ rest) h = rw h refl

chain_by : (chain : Chain) (operand : Parser Expr) (first : Expr) (ts : List Placed) (b : Bool) → begins_operator (rank chain) ts ≡ b →
    chain_behind chain operand first ts ≡ (if b then chain_behind chain operand first ts else Some (first, ts))
unfolding chain_behind and_then
chain_by chain operand first ts true h = refl
chain_by chain operand first ts false h = rw (alone chain operand (turns_of chain ts) ts h) refl

chain_met : (chain : Chain) (operand : Parser Expr) (r : Parsed Expr) → and_then r (λ first rest. and_then (operands_of chain operand (turns_of chain rest) rest) (λ others left. Some (joined chain first others, left)))
    ≡ and_then r (λ first rest. if begins_operator (rank chain) rest then chain_behind chain operand first rest else Some (first, rest))
unfolding and_then chain_behind
chain_met chain operand None = refl
chain_met chain operand (Some x) = chain_by chain operand x.0 x.1 (begins_operator (rank chain) x.1) refl

pub chain_next : (chain : Chain) (operand : Parser Expr) (ts : List Placed) →
    chain_of chain operand ts ≡ and_then (operand ts) (λ first rest. if begins_operator (rank chain) rest then chain_behind chain operand first rest else Some (first, rest))
unfolding chain_of
chain_next chain operand ts = chain_met chain operand (operand ts)

-- `!`, by whether one comes next

marks_by : (operand : Expr) (ts : List Placed) (b : Bool) → sees_class is_exclamation ts ≡ b → marks_behind operand ts ≡ (if b then marks_behind operand ts else Some (operand, ts))
unfolding marks_behind marks_of
marks_by operand ts true h = refl
marks_by operand [] false h = refl
marks_by operand (t ∷ rest) false h = rw h refl

marks_met : (r : Parsed Expr) → and_then r (λ operand rest. Some (factorial operand (marks_of rest).0, (marks_of rest).1))
    ≡ and_then r (λ operand rest. if sees_class is_exclamation rest then marks_behind operand rest else Some (operand, rest))
unfolding and_then marks_behind
marks_met None = refl
marks_met (Some x) = marks_by x.0 x.1 (sees_class is_exclamation x.1) refl

pub postfix_next : (inner : Inner) (ts : List Placed) →
    postfix_of inner ts ≡ and_then (primary_of inner ts) (λ operand rest. if sees_class is_exclamation rest then marks_behind operand rest else Some (operand, rest))
unfolding postfix_of
postfix_next inner ts = marks_met (primary_of inner ts)
