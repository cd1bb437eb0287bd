-- Which typed tree is made of an expression. It is said of every expression, also of one that has a static fault; it belongs to the expression
-- where there is none. Of what is no constant by its form a constant is made too, which no statement without a fault has a use for.
use Rattle.std.specs.Prelude.{ℕ, Bool, List, [], ◌∷◌, ◌++◌, length, map, filter_map, false, true, Option, Some, None, option_map, position, unwrap_or, is_some, ◌||◌, if◌then◌else◌}
use Rattle.std.specs.List.{list_any}
use Rattle.zim_fault.specs.declared.faults.Place.{Place}
use Rattle.zim_fault.specs.declared.tokens.Token.{Token}
use Rattle.zim_fault.specs.declared.tokens.Token.TheVariants.{Sign as sign_token}
use Rattle.zim_fault.specs.declared.tokens.Join.{Join}
use Rattle.zim_fault.specs.declared.tokens.Join.TheVariants as join
use Rattle.zim_fault.specs.declared.signs.Sign.TheVariants.{SMinus}
use Rattle.zim_fault.specs.declared.tokens.Relation.{Relation}
use Rattle.zim_fault.specs.declared.words.Word.{Word}
use Rattle.zim_fault.specs.declared.words.Word.TheVariants.{WIndexset, WSum, WVabs}
use Rattle.zim_tree.specs.declared.expr.Expr.{Expr, Expr-F, fold-Expr, out-Expr}
use Rattle.zim_tree.specs.declared.expr.Angle.{Angle, Angle-F, fold-Angle, out-Angle}
use Rattle.zim_tree.specs.declared.expr.Index.{Index, Index-F, fold-Index, out-Index}
use Rattle.zim_tree.specs.declared.expr.Body.{Body, Body-F, fold-Body}
use Rattle.zim_typed.specs.declared.constant.Const.{Const}
use Rattle.zim_typed.specs.declared.constant.Const.TheVariants as const
use Rattle.zim_typed.specs.declared.constant.TAngle.{TAngle}
use Rattle.zim_typed.specs.declared.constant.Loop.{Loop}
use Rattle.zim_typed.specs.declared.constant.LoopSlot.{LoopSlot}
use Rattle.zim_typed.specs.declared.constant.LoopSlot.TheVariants as slot
use Rattle.zim_typed.specs.declared.constant.TBody.{TBody}
use Rattle.zim_typed.specs.declared.constant.TBody.TheVariants as body
use Rattle.zim_typed.specs.declared.constant.Resolved.{Resolved}
use Rattle.zim_typed.specs.declared.constant.Resolved.TheVariants as resolved
use Rattle.zim_typed.specs.declared.constraint.Term.{Term}
use Rattle.zim_typed.specs.declared.constraint.Term.TheVariants as term
use Rattle.zim_typed.specs.declared.constraint.Cond.{Cond}
use Rattle.zim_typed.specs.declared.constraint.Cond.TheVariants as cond
use Rattle.zim_typed.specs.declared.constraint.Con.{Con}
use Rattle.zim_typed.specs.declared.constraint.Con.TheVariants as con
use Rattle.zim_typed.specs.Trees.{typed_angle, typed_loop}
use Rattle.zim_typed.specs.Scope.{Text, Names, Scope, Use, Stands, bare, indexed, called}
use Rattle.zim_typed.specs.Variables.{names_variable}
use Rattle.zim_typed.specs.Terms.{or_join}
use Rattle.zim_static.specs.Faults.{is_slash}
use Rattle.zim_typed.specs.Pattern.{if_unknown, bare_name, bound_name, binding}

-- ---- what is made of each part

-- what is made of an expression: the bare name that it is, with its place, if it is one; and under the names that are bound around it the constant
-- that it is, the term or condition with variables that it is, if it is one, and the constraint that it is
pub record Typing : Type 0 where
  pub name : Option (Place × Text)
  pub constant : Names → Const
  pub term : Names → Option Term
  pub condition : Names → Option Cond
  pub constraint : Names → Con

-- what is made of a tuple
pub record TupleTyping : Type 0 where
  pub place : Place
  pub items : List Typing

-- what is made of an index, and the names that are bound behind it
pub record IndexTyping : Type 0 where
  pub index : Names → Loop
  pub names : Names → Names

-- what is made of what stands in braces
pub record BodyTyping : Type 0 where
  pub body : Names → TBody

-- one node, of whose parts this is known
abbrev pub ExpressionNode : Type 0
ExpressionNode = Expr-F BodyTyping Typing TupleTyping IndexTyping

-- ---- names

-- what a use of a name stands for; a use that stands for no value is given the first of these
abbrev pub resolution : Use → Resolved
resolution (Stands r) = r
resolution _ = resolved.Local

-- the argument of `indexset`, if it is a bare name: it is that of a set
abbrev pub set_argument : Word → List (Option (Place × Text)) → Option (List Const)
set_argument WIndexset (Some x ∷ []) = Some (const.Name x.0 x.1 resolved.Set ∷ [])
set_argument _ _ = None

-- ---- indices

-- what a component that binds a name is: the name, or the position before it that the name stands at first
abbrev pub named_slot : Text → Option ℕ → LoopSlot
named_slot name None = slot.Free name
named_slot name (Some i) = slot.Again i

-- a component of an index's tuple that binds a name, if it binds one, behind components that are these bare names
abbrev pub bound_slot : List (Option Text) → Option Text → Option LoopSlot
bound_slot before None = None
bound_slot before (Some name) = Some (named_slot name (binding name before))

-- a component of an index's tuple: one that binds no name is a value
abbrev pub slot_of : List (Option Text) → Option Text → Const → LoopSlot
slot_of before bound value = unwrap_or (bound_slot before bound) (slot.Fixed value)

-- ---- nodes

-- the bare name of a part
abbrev pub typing_name : Typing → Option Text
typing_name part = option_map (λ x. x.1) part.name

-- the constants that are made of parts
abbrev pub constants_of : Names → List Typing → List Const
constants_of names parts = map (λ part. part.constant names) parts

-- the name that a part of an index's tuple binds, if it binds one
abbrev pub name_bound : Scope → Names → Typing → Option Text
name_bound scope names part = if_unknown scope names (typing_name part)

-- the components of an index's tuple, behind components that are these bare names
unfoldable pub slots_of : Scope → Names → List (Option Text) → List Typing → List LoopSlot
slots_of scope names before [] = []
slots_of scope names before (part ∷ parts) = slot_of before (name_bound scope names part) (part.constant names) ∷ slots_of scope names (before ++ typing_name part ∷ []) parts

-- what is taken for a part that is missing
abbrev pub missing : Place → Const
missing place = const.Truth place true

-- a part, or what is taken for it
abbrev pub given_or_missing : Place → Names → Option Typing → Const
given_or_missing place names None = missing place
given_or_missing place names (Some part) = part.constant names

-- a comparison with the first of the operands behind relations
abbrev pub constant_compared : Const → Names → List (Place × Relation × Typing) → Const
constant_compared first names [] = first
constant_compared first names ((place, relation, part) ∷ others) = const.Compare place relation first (part.constant names)

-- the constant that is made of a node
abbrev pub constant_of : Scope → ExpressionNode → Names → Const
constant_of scope (Expr-F.Number place digits) names = const.Number place digits
constant_of scope (Expr-F.Text place text double) names = const.Text place text double
constant_of scope (Expr-F.Truth place truth) names = const.Truth place truth
constant_of scope (Expr-F.Infinity place) names = const.Infinity place
constant_of scope (Expr-F.Name place name) names = const.Name place name (resolution (bare scope names name))
constant_of scope (Expr-F.Item place name index) names = const.Item place name (constants_of names index) (resolution (indexed scope names name))
constant_of scope (Expr-F.Call place name arguments) names =
    const.Call place name (constants_of names arguments) (resolution (called (length arguments) scope names name))
constant_of scope (Expr-F.Func place keyword arguments) names =
    const.Func place keyword (unwrap_or (set_argument keyword (map (λ (part : Typing). part.name) arguments)) (constants_of names arguments))
constant_of scope (Expr-F.Proj place set positions) names = const.Proj place (set.constant names) (typed_angle positions.place (constants_of names positions.items))
constant_of scope (Expr-F.Paren place inner) names = const.Paren place (inner.constant names)
constant_of scope (Expr-F.Braces place inside) names = const.Braces place (inside.body names)
constant_of scope (Expr-F.If place vif test branch otherwise) names =
    const.If place (test.constant names) (branch.constant names) (given_or_missing place names otherwise)
constant_of scope (Expr-F.Factorial operand marks) names = const.Factorial (operand.constant names) marks
constant_of scope (Expr-F.Power place sign base signed exponent) names = const.Power place sign (base.constant names) signed (exponent.constant names)
constant_of scope (Expr-F.Signed place minus operand) names = const.Signed place minus (operand.constant names)
constant_of scope (Expr-F.Big place keyword index with_do operand) names =
    const.Big place keyword (index.index names) with_do (operand.constant (index.names names))
constant_of scope (Expr-F.Times first others) names = const.Times (first.constant names) (map (λ x. (x.0, x.1, x.2.constant names)) others)
constant_of scope (Expr-F.Plus first others) names = const.Plus (first.constant names) (map (λ x. (x.0, x.1, x.2.constant names)) others)
constant_of scope (Expr-F.Compare first others) names = constant_compared (first.constant names) names others
constant_of scope (Expr-F.Member place tuple set) names = const.Member place (typed_angle tuple.place (constants_of names tuple.items)) (set.constant names)
constant_of scope (Expr-F.Not place operand) names = const.Not place (operand.constant names)
constant_of scope (Expr-F.And first others) names = const.And (first.constant names) (map (λ x. (x.0, x.1.constant names)) others)
constant_of scope (Expr-F.Or first others) names = const.Or (first.constant names) (map (λ x. (x.0, x.1, x.2.constant names)) others)
constant_of scope (Expr-F.Forall place index with_do inside) names = missing place

-- ---- terms

-- `-`
abbrev pub is_minus : Token → Bool
is_minus (sign_token SMinus) = true
is_minus _ = false

-- a term with variables, or else the constant that stands in its place
abbrev pub term_or_constant : Option Term → Const → Term
term_or_constant None c = term.Known c
term_or_constant (Some t) c = t

-- whether a part is a term with variables
abbrev pub has_term : Names → Typing → Bool
has_term names part = is_some (part.term names)

-- the term that a part is, with variables or without
abbrev pub any_term : Names → Typing → Term
any_term names part = term_or_constant (part.term names) (part.constant names)

-- a name with its index, if it is that of a variable
abbrev pub column_if : Bool → Place → Text → List Const → Option Term
column_if varies place name index = if varies then Some (term.Column place name index) else None

-- a term behind a sign
abbrev pub signed_term : Place → Bool → Option Term → Option Term
signed_term place false t = t
signed_term place true t = option_map (λ inner. term.Minus place inner) t

-- a sum over an index
abbrev pub summation : Word → Place → Loop → Option Term → Option Term
summation WSum place index t = option_map (λ summand. term.SumOver place index summand) t
summation _ place index t = None

-- `vabs` of a term
abbrev pub absolute_term : Word → Place → List Term → Option Term
absolute_term WVabs place (t ∷ []) = Some (term.Abs place t)
absolute_term _ _ _ = None

-- a term that an `if` picks, if one of two has variables
abbrev pub picked_term : Place → Const → Bool → Term → Term → Option Term
picked_term place test varies branch otherwise = if varies then Some (term.If place test branch otherwise) else None

-- an `if` with `else`
abbrev pub choice_of : Names → Place → Bool → Typing → Typing → Option Typing → Option Term
choice_of names place false test branch (Some otherwise) =
    picked_term place (test.constant names) (has_term names branch || has_term names otherwise) (any_term names branch) (any_term names otherwise)
choice_of names place _ test branch _ = None

-- a sum, if an operand of it has variables
abbrev pub sum_if : Bool → Term → List (Place × Bool × Term) → Option Term
sum_if varies first others = if varies then Some (term.Sum first others) else None

-- factors and divisors
abbrev pub factors_of : Names → List (Place × Token × Typing) → List (Place × Bool × Const)
factors_of names others = map (λ x. (x.0, is_slash x.1, x.2.constant names)) others

-- the operands of a product up to some place: one is itself, and more are a product
abbrev pub known_product : Const → List (Place × Token × Const) → Const
known_product first [] = first
known_product first (other ∷ others) = const.Times first (other ∷ others)

-- a product behind constants, if the operand behind them has variables, and else what is said of those behind it
abbrev pub product_at : Option Term → Const → Place → List (Place × Bool × Const) → Option Term → Option Term
product_at None before place factors rest = rest
product_at (Some t) before place factors rest = Some (term.Product (Some (before, place)) t factors)

-- a product whose first operands are constants, if one behind them has variables
unfoldable pub product_behind : Names → Const → List (Place × Token × Const) → List (Place × Token × Typing) → Option Term
product_behind names first before [] = None
product_behind names first before ((place, token, part) ∷ others) =
    product_at (part.term names) (known_product first before) place (factors_of names others) (product_behind names first (before ++ (place, token, part.constant names) ∷ []) others)

-- a product, if its first operand has variables, and else what is said of those behind it
abbrev pub product_or : Option Term → List (Place × Bool × Const) → Option Term → Option Term
product_or None factors rest = rest
product_or (Some t) factors rest = Some (term.Product None t factors)

-- the term with variables that is made of a node, if it is one
abbrev pub typed_term_of : Scope → ExpressionNode → Names → Option Term
typed_term_of scope (Expr-F.Name place name) names = column_if (names_variable scope name) place name []
typed_term_of scope (Expr-F.Item place name index) names = column_if (names_variable scope name) place name (constants_of names index)
typed_term_of scope (Expr-F.Func place keyword arguments) names = absolute_term keyword place (map (any_term names) arguments)
typed_term_of scope (Expr-F.Paren place inner) names = inner.term names
typed_term_of scope (Expr-F.If place vif test branch otherwise) names = choice_of names place vif test branch otherwise
typed_term_of scope (Expr-F.Signed place minus operand) names = signed_term place minus (operand.term names)
typed_term_of scope (Expr-F.Big place keyword index with_do operand) names = summation keyword place (index.index names) (operand.term (index.names names))
typed_term_of scope (Expr-F.Times first others) names =
    product_or (first.term names) (factors_of names others) (product_behind names (first.constant names) [] others)
typed_term_of scope (Expr-F.Plus first others) names =
    sum_if (has_term names first || list_any (λ x. has_term names x.2) others) (any_term names first) (map (λ x. (x.0, is_minus x.1, any_term names x.2)) others)
typed_term_of scope _ names = None

-- ---- conditions

-- a condition with variables, or else the constant that stands in its place
abbrev pub condition_or_constant : Option Cond → Const → Cond
condition_or_constant None c = cond.Known c
condition_or_constant (Some t) c = t

-- whether a part is a condition with variables
abbrev pub has_condition : Names → Typing → Bool
has_condition names part = is_some (part.condition names)

-- the condition that a part is, with variables or without
abbrev pub any_condition : Names → Typing → Cond
any_condition names part = condition_or_constant (part.condition names) (part.constant names)

-- a comparison, if one of its sides has variables
abbrev pub compared_if : Bool → Place → Relation → Term → Term → Option Cond
compared_if varies place relation left right = if varies then Some (cond.Compare place relation left right) else None

-- one comparison
abbrev pub compared_of : Names → Typing → List (Place × Relation × Typing) → Option Cond
compared_of names first ((place, relation, part) ∷ []) = compared_if (has_term names first || has_term names part) place relation (any_term names first) (any_term names part)
compared_of names first _ = None

-- conditions that are joined, if one of them has variables
abbrev pub chain_if : Bool → Cond → List (Place × Join × Cond) → Option Cond
chain_if varies first others = if varies then Some (cond.Chain first others) else None

-- the condition with variables that is made of a node, if it is one
abbrev pub condition_of : Scope → ExpressionNode → Names → Option Cond
condition_of scope (Expr-F.Paren place inner) names = inner.condition names
condition_of scope (Expr-F.Compare first others) names = compared_of names first others
condition_of scope (Expr-F.Not place operand) names = option_map (λ inner. cond.Not place inner) (operand.condition names)
condition_of scope (Expr-F.And first others) names =
    chain_if (has_condition names first || list_any (λ x. has_condition names x.1) others) (any_condition names first) (map (λ x. (x.0, join.And, any_condition names x.1)) others)
condition_of scope (Expr-F.Or first others) names =
    chain_if (has_condition names first || list_any (λ x. has_condition names x.2) others) (any_condition names first) (map (λ x. (x.0, or_join x.1, any_condition names x.2)) others)
condition_of scope _ names = None

-- ---- constraints

-- what is taken for a constraint where there is none: nothing is asked
abbrev pub nothing_asked : Con
nothing_asked = con.And []

-- one comparison, or two as a range
abbrev pub comparing_of : Names → Typing → List (Place × Relation × Typing) → Con
comparing_of names first [] = nothing_asked
comparing_of names first ((place, relation, part) ∷ []) = con.Compare place relation (any_term names first) (any_term names part)
comparing_of names first ((place, relation, part) ∷ other ∷ others) = con.Range place relation (first.constant names) (any_term names part) (other.2.constant names)

-- a constraint that an `if` or a `vif` picks
abbrev pub picking_of : Names → Place → Bool → Typing → Con → Option Con → Con
picking_of names place false test branch otherwise = con.If place (test.constant names) branch otherwise
picking_of names place true test branch otherwise = con.Vif place (any_condition names test) branch otherwise

-- the constraint that is made of a node
abbrev pub typed_constraint_of : Scope → ExpressionNode → Names → Con
typed_constraint_of scope (Expr-F.Paren place inner) names = inner.constraint names
typed_constraint_of scope (Expr-F.If place vif test branch otherwise) names = picking_of names place vif test (branch.constraint names) (option_map (λ part. part.constraint names) otherwise)
typed_constraint_of scope (Expr-F.Compare first others) names = comparing_of names first others
typed_constraint_of scope (Expr-F.And first others) names = con.And (first.constraint names ∷ map (λ x. x.1.constraint names) others)
typed_constraint_of scope (Expr-F.Forall place index with_do inside) names = con.Forall place (index.index names) (inside.constraint (index.names names))
typed_constraint_of scope _ names = nothing_asked

-- ---- parts

-- the bare name that a node is, with its place, if it is one
abbrev pub placed_name : ExpressionNode → Option (Place × Text)
placed_name (Expr-F.Name place name) = Some (place, name)
placed_name _ = None

-- an expression
abbrev pub expr_typing : Scope → ExpressionNode → Typing
expr_typing scope node =
    record {
      name = placed_name node;
      constant = constant_of scope node;
      term = typed_term_of scope node;
      condition = condition_of scope node;
      constraint = typed_constraint_of scope node;
    }

-- a tuple
abbrev pub tuple_typing : Angle-F BodyTyping Typing TupleTyping IndexTyping → TupleTyping
tuple_typing tuple = record { place = tuple.place; items = tuple.items }

-- the names that are bound behind an index with this tuple
abbrev pub names_after : Scope → Names → List Typing → Names
names_after scope names parts = filter_map (name_bound scope names) parts ++ names

-- an index: its condition is under the names that it binds too
abbrev pub index_typing : Scope → Index-F BodyTyping Typing TupleTyping IndexTyping → IndexTyping
index_typing scope index =
    record {
      index = λ names.
          typed_loop index.place (slots_of scope names [] index.tuple.items) (index.set.constant names)
          (option_map (λ c. c.1.constant (names_after scope names index.tuple.items)) index.cond);
      names = λ names. names_after scope names index.tuple.items;
    }

-- what stands in braces, from what is made of its parts
abbrev pub typed_body_of : Body-F BodyTyping Typing TupleTyping IndexTyping → Names → TBody
typed_body_of Body-F.Empty names = body.Empty
typed_body_of (Body-F.Members members) names = body.Members (constants_of names members)
typed_body_of (Body-F.Tuples tuples) names = body.Tuples (map (λ tuple. typed_angle tuple.place (constants_of names tuple.items)) tuples)
typed_body_of (Body-F.Those index) names = body.Those (index.index names)
typed_body_of (Body-F.Span from with_to to by) names = body.Span (from.constant names) with_to (to.constant names) (option_map (λ part. part.constant names) by)

-- what stands in braces
abbrev pub body_typing : Body-F BodyTyping Typing TupleTyping IndexTyping → BodyTyping
body_typing inside = record { body = typed_body_of inside }

-- ---- trees

-- the bare name that a node is, with its place, if it is one
abbrev pub placed_node : Expr-F Body Expr Angle Index → Option (Place × Text)
placed_node (Expr-F.Name place name) = Some (place, name)
placed_node _ = None

-- the bare name that an expression is, with its place, if it is one
abbrev pub placed_bare_name : Expr → Option (Place × Text)
placed_bare_name e = placed_node (out-Expr e)

-- the names that are bound behind an index
abbrev pub names_inside : Scope → Names → Index → Names
names_inside scope names index = filter_map (bound_name scope names) (out-Angle (out-Index index).tuple).items ++ names

-- what is made of an expression, under a scope
abbrev pub typing_of : Scope → Expr → Typing
typing_of scope = fold-Expr BodyTyping Typing TupleTyping IndexTyping body_typing (expr_typing scope) tuple_typing (index_typing scope)

-- of a tuple
abbrev pub typing_of_tuple : Scope → Angle → TupleTyping
typing_of_tuple scope = fold-Angle BodyTyping Typing TupleTyping IndexTyping body_typing (expr_typing scope) tuple_typing (index_typing scope)

-- of an index
abbrev pub typing_of_index : Scope → Index → IndexTyping
typing_of_index scope = fold-Index BodyTyping Typing TupleTyping IndexTyping body_typing (expr_typing scope) tuple_typing (index_typing scope)

-- of what stands in braces
abbrev pub typing_of_body : Scope → Body → BodyTyping
typing_of_body scope = fold-Body BodyTyping Typing TupleTyping IndexTyping body_typing (expr_typing scope) tuple_typing (index_typing scope)

-- the constant that is made of an expression, under a scope and the names that are bound around it
unfoldable pub typed_const : Scope → Names → Expr → Const
typed_const scope names e = (typing_of scope e).constant names

-- the constants that are made of expressions
abbrev pub typed_consts : Scope → Names → List Expr → List Const
typed_consts scope names items = map (typed_const scope names) items

-- those of the arguments of a function that is a word
abbrev pub typed_arguments : Scope → Names → Word → List Expr → List Const
typed_arguments scope names word given = unwrap_or (set_argument word (map placed_bare_name given)) (typed_consts scope names given)

-- that of a part, or what is taken for it
abbrev pub typed_or_missing : Scope → Names → Place → Option Expr → Const
typed_or_missing scope names place None = missing place
typed_or_missing scope names place (Some e) = typed_const scope names e

-- a comparison of a constant with the first of the operands behind relations
abbrev pub typed_comparison : Scope → Names → Const → List (Place × Relation × Expr) → Const
typed_comparison scope names first [] = first
typed_comparison scope names first ((place, relation, e) ∷ others) = const.Compare place relation first (typed_const scope names e)

-- those of operands behind operators
abbrev pub typed_operands : Scope → Names → List (Place × Token × Expr) → List (Place × Token × Const)
typed_operands scope names others = map (λ x. (x.0, x.1, typed_const scope names x.2)) others

-- those of operands behind `and`
abbrev pub typed_conjuncts : Scope → Names → List (Place × Expr) → List (Place × Const)
typed_conjuncts scope names others = map (λ x. (x.0, typed_const scope names x.1)) others

-- those of operands behind `or` and `xor`
abbrev pub typed_disjuncts : Scope → Names → List (Place × Bool × Expr) → List (Place × Bool × Const)
typed_disjuncts scope names others = map (λ x. (x.0, x.1, typed_const scope names x.2)) others

-- the tuple that is made of a tuple
unfoldable pub typed_tuple : Scope → Names → Angle → TAngle
typed_tuple scope names tuple = typed_angle (typing_of_tuple scope tuple).place (constants_of names (typing_of_tuple scope tuple).items)

-- the components that are made of those of an index's tuple, behind components that are these bare names
unfoldable pub typed_slots : Scope → Names → List (Option Text) → List Expr → List LoopSlot
typed_slots scope names before [] = []
typed_slots scope names before (item ∷ items) = slot_of before (bound_name scope names item) (typed_const scope names item) ∷ typed_slots scope names (before ++ bare_name item ∷ []) items

-- the index that is made of an index
unfoldable pub typed_index : Scope → Names → Index → Loop
typed_index scope names index = (typing_of_index scope index).index names

-- what is made of what stands in braces
unfoldable pub typed_body : Scope → Names → Body → TBody
typed_body scope names inside = (typing_of_body scope inside).body names

-- the term with variables that is made of an expression, if it is one
unfoldable pub typed_term : Scope → Names → Expr → Option Term
typed_term scope names e = (typing_of scope e).term names

-- the term that is made of an expression, with variables or without
abbrev pub some_term : Scope → Names → Expr → Term
some_term scope names e = term_or_constant (typed_term scope names e) (typed_const scope names e)

-- a sum of these operands
abbrev pub typed_sum : Scope → Names → Expr → List (Place × Token × Expr) → Option Term
typed_sum scope names first others =
    sum_if (is_some (typed_term scope names first) || list_any (λ x. is_some (typed_term scope names x.2)) others) (some_term scope names first)
    (map (λ x. (x.0, is_minus x.1, some_term scope names x.2)) others)

-- factors and divisors
abbrev pub typed_factors : Scope → Names → List (Place × Token × Expr) → List (Place × Bool × Const)
typed_factors scope names others = map (λ x. (x.0, is_slash x.1, typed_const scope names x.2)) others

-- a product whose first operands are constants
unfoldable pub typed_product_behind : Scope → Names → Const → List (Place × Token × Const) → List (Place × Token × Expr) → Option Term
typed_product_behind scope names first before [] = None
typed_product_behind scope names first before ((place, token, e) ∷ others) =
    product_at (typed_term scope names e) (known_product first before) place (typed_factors scope names others)
    (typed_product_behind scope names first (before ++ (place, token, typed_const scope names e) ∷ []) others)

-- a product of these operands
abbrev pub typed_product : Scope → Names → Expr → List (Place × Token × Expr) → Option Term
typed_product scope names first others =
    product_or (typed_term scope names first) (typed_factors scope names others) (typed_product_behind scope names (typed_const scope names first) [] others)

-- an `if` with `else`
abbrev pub typed_choice : Scope → Names → Place → Bool → Expr → Expr → Option Expr → Option Term
typed_choice scope names place false test branch (Some otherwise) =
    picked_term place (typed_const scope names test) (is_some (typed_term scope names branch) || is_some (typed_term scope names otherwise)) (some_term scope names branch)
    (some_term scope names otherwise)
typed_choice scope names place _ test branch _ = None

-- the condition with variables that is made of an expression, if it is one
unfoldable pub typed_cond : Scope → Names → Expr → Option Cond
typed_cond scope names e = (typing_of scope e).condition names

-- the condition that is made of an expression, with variables or without
abbrev pub some_cond : Scope → Names → Expr → Cond
some_cond scope names e = condition_or_constant (typed_cond scope names e) (typed_const scope names e)

-- one comparison
abbrev pub typed_compared : Scope → Names → Expr → List (Place × Relation × Expr) → Option Cond
typed_compared scope names first ((place, relation, e) ∷ []) =
    compared_if (is_some (typed_term scope names first) || is_some (typed_term scope names e)) place relation (some_term scope names first) (some_term scope names e)
typed_compared scope names first _ = None

-- conditions behind `and`
abbrev pub typed_anded : Scope → Names → Expr → List (Place × Expr) → Option Cond
typed_anded scope names first others =
    chain_if (is_some (typed_cond scope names first) || list_any (λ x. is_some (typed_cond scope names x.1)) others) (some_cond scope names first)
    (map (λ x. (x.0, join.And, some_cond scope names x.1)) others)

-- conditions behind `or` and `xor`
abbrev pub typed_ored : Scope → Names → Expr → List (Place × Bool × Expr) → Option Cond
typed_ored scope names first others =
    chain_if (is_some (typed_cond scope names first) || list_any (λ x. is_some (typed_cond scope names x.2)) others) (some_cond scope names first)
    (map (λ x. (x.0, or_join x.1, some_cond scope names x.2)) others)

-- the constraint that is made of an expression
unfoldable pub typed_con : Scope → Names → Expr → Con
typed_con scope names e = (typing_of scope e).constraint names

-- one comparison, or two as a range
abbrev pub typed_comparing : Scope → Names → Expr → List (Place × Relation × Expr) → Con
typed_comparing scope names first [] = nothing_asked
typed_comparing scope names first ((place, relation, e) ∷ []) = con.Compare place relation (some_term scope names first) (some_term scope names e)
typed_comparing scope names first ((place, relation, e) ∷ other ∷ others) = con.Range place relation (typed_const scope names first) (some_term scope names e) (typed_const scope names other.2)

-- a constraint that an `if` or a `vif` picks
abbrev pub typed_picking : Scope → Names → Place → Bool → Expr → Con → Option Con → Con
typed_picking scope names place false test branch otherwise = con.If place (typed_const scope names test) branch otherwise
typed_picking scope names place true test branch otherwise = con.Vif place (some_cond scope names test) branch otherwise
