-- The static faults of an expression, in the order of the tokens that they stand at, and at one token in the order of their numbers.
-- Each stands by itself, wherever its condition holds in the tree. An expression is looked at in a role, which says what may stand there.
use Rattle.std.specs.Prelude.{List, [], ◌∷◌, ◌++◌, length, flat_map, filter_map, map, Bool, true, false, not, ◌&&◌, ◌||◌, Option, Some, None, is_some, is_none, if◌then◌else◌}
use Rattle.std.specs.List.{list_any, list_all}
use Rattle.zim_fault.specs.declared.faults.Place.{Place}
use Rattle.zim_fault.specs.declared.faults.Fault.{Fault}
use Rattle.zim_fault.specs.declared.kinds.Kind.{Kind}
use Rattle.zim_fault.specs.declared.kinds.Kind.TheVariants.{Unsupported, UnknownName, ArgCount, VariableHere, NotLinear, NotConstraint}
use Rattle.zim_fault.specs.declared.tokens.Token.{Token}
use Rattle.zim_fault.specs.declared.tokens.Token.TheVariants.{Sign as sign_token}
use Rattle.zim_fault.specs.declared.tokens.Relation.{Relation}
use Rattle.zim_fault.specs.declared.tokens.Relation.TheVariants.{AtMost, AtLeast}
use Rattle.zim_fault.specs.declared.signs.Sign.TheVariants.{SPlus, SMinus, SStar, SSlash}
use Rattle.zim_fault.specs.declared.words.Word.{Word}
use Rattle.zim_fault.specs.declared.words.Word.TheVariants.{WInfinity, WVabs, WIndexset, WProd}
use Rattle.zim_tree.specs.declared.expr.Expr.{Expr, Expr-F, map-Expr, fold-Expr}
use Rattle.zim_tree.specs.declared.expr.Angle.{Angle, Angle-F, fold-Angle}
use Rattle.zim_tree.specs.declared.expr.Index.{Index, Index-F, map-Index, fold-Index}
use Rattle.zim_tree.specs.declared.expr.Body.{Body, Body-F, map-Body, fold-Body}
use Rattle.zim_typed.specs.Scope.{Text, Names, Scope, Use, Unknown, Misused, bare, indexed, called, kind_of_name, is_indexed_set, takes}
use Rattle.zim_typed.specs.Pattern.{if_unknown}
use Rattle.zim_typed.specs.Variables.{is_variable, is_vabs}
use Rattle.zim_typed.specs.Variables as variables
use Rattle.zim_typed.specs.Terms.{may_constrain}
use Rattle.zim_static.specs.declared.role.Role.{Role}
use Rattle.zim_static.specs.Roles.{inside, term_inside, operand, condition_inside, conjunct, constraint_inside, parenthesised, role_behind_sign, branch_of, test, test_of, side, chain_side, summand, is_constraint, is_term, is_bound}

-- a fault, where its condition holds
abbrev pub fault_if : Bool → Kind → Place → List Fault
fault_if holds kind place = if holds then record { place = place; kind = kind } ∷ [] else []

-- what is no constraint stands where one is wanted
abbrev pub no_constraint : Role → Place → List Fault
no_constraint role = fault_if (is_constraint role) NotConstraint

-- what is known of an expression: whether variables stand in it, the bare name that it is, if it is one, whether it is `infinity`, and its faults
-- in a role and under the names that are bound around it
pub record Part : Type 0 where
  pub varies : Bool
  pub name : Option Text
  pub infinite : Bool
  pub faults : Role → Names → List Fault

-- what is known of an index: whether variables stand in it, its faults, and the names that are bound behind it
pub record IndexPart : Type 0 where
  pub varies : Bool
  pub faults : Role → Names → List Fault
  pub names : Names → Names

-- what is known of what stands in braces
pub record BodyPart : Type 0 where
  pub varies : Bool
  pub faults : Role → Names → List Fault

-- one node, of whose parts this is known
abbrev pub Node : Type 0
Node = Expr-F BodyPart Part (List Part) IndexPart

-- the faults of parts one behind the other
abbrev pub all_faults : Role → Names → List Part → List Fault
all_faults role names parts = flat_map (λ (part : Part). part.faults role names) parts

-- the faults of a part, if there is one
abbrev pub given_faults : Role → Names → Option Part → List Fault
given_faults role names None = []
given_faults role names (Some part) = part.faults role names

-- ---- names

-- what is wrong with a use of a name: it isn't declared, or has other brackets or another number of arguments
abbrev pub wrong_use : Use → Option Kind
wrong_use Unknown = Some UnknownName
wrong_use Misused = Some ArgCount
wrong_use _ = None

-- a fault of some kind, if there is one
abbrev pub fault_of_kind : Option Kind → Place → List Fault
fault_of_kind None place = []
fault_of_kind (Some kind) place = record { place = place; kind = kind } ∷ []

-- the faults of a name, where it is known what is wrong with its use: a variable stands where no term may
abbrev pub name_faults : Scope → Role → Place → Text → Option Kind → List Fault
name_faults scope role place name wrong =
    fault_of_kind wrong place ++ fault_if (is_variable (kind_of_name scope name) && not (is_term role)) VariableHere place ++ no_constraint role place

-- ---- functions that are words

-- the bare name of an indexed set
abbrev pub is_indexed_set_name : Scope → Option Text → Bool
is_indexed_set_name scope None = false
is_indexed_set_name scope (Some name) = is_indexed_set (kind_of_name scope name)

-- one argument, which is the bare name of an indexed set
abbrev pub is_set_argument : Scope → List Part → Bool
is_set_argument scope (argument ∷ []) = is_indexed_set_name scope argument.name
is_set_argument scope _ = false

-- whether a function has the arguments that it takes
abbrev pub has_arguments : Scope → Word → List Part → Bool
has_arguments scope WIndexset arguments = is_set_argument scope arguments
has_arguments scope keyword arguments = takes keyword (length arguments)

-- the role of the arguments, if they are looked at: the name that `indexset` takes is no use of it
abbrev pub argument_role : Scope → Role → Word → List Part → Option Role
argument_role scope role WIndexset arguments = if is_set_argument scope arguments then None else Some (inside role)
argument_role scope role WVabs arguments = Some (term_inside role)
argument_role scope role keyword arguments = Some (inside role)

-- the faults of the arguments
abbrev pub argument_faults : Names → List Part → Option Role → List Fault
argument_faults names arguments None = []
argument_faults names arguments (Some role) = all_faults role names arguments

-- the faults of the word
abbrev pub function_faults : Scope → Role → Place → Word → List Part → List Fault
function_faults scope role place keyword arguments =
    fault_if (not (has_arguments scope keyword arguments)) ArgCount place ++ fault_if (is_vabs keyword && not (is_term role)) VariableHere place ++ no_constraint role place

-- ---- lists of operators

-- `+` or `-`
abbrev pub adds : Token → Bool
adds (sign_token SPlus) = true
adds (sign_token SMinus) = true
adds _ = false

-- `*` or `/`
abbrev pub multiplies : Token → Bool
multiplies (sign_token SStar) = true
multiplies (sign_token SSlash) = true
multiplies _ = false

-- `/`
abbrev pub is_slash : Token → Bool
is_slash (sign_token SSlash) = true
is_slash _ = false

-- whether a sum may be a term: all its operators are `+` and `-`
abbrev pub is_by_signs : {A : Type 0} → List (Place × Token × A) → Bool
is_by_signs others = list_all (λ x. adds x.1) others

-- the faults of operands in a role, behind operators. The list as a whole is marked at its first operator: there it stands in the first role, and an
-- operand is no constraint, so that nothing is marked at the others
unfoldable pub operands_faults : {A : Type 0} → Role → Role → Names → List (Place × A × Part) → List Fault
operands_faults whole role names [] = []
operands_faults whole role names ((place, operator, part) ∷ others) = no_constraint whole place ++ part.faults role names ++ operands_faults role role names others

-- whether a product may be a term: it is by `*` and `/` from its first operand with variables on. Of the operands before it is known whether one has
-- variables
unfoldable pub is_by_stars : Bool → List (Place × Token × Part) → Bool
is_by_stars before [] = true
is_by_stars before ((place, token, part) ∷ others) = (not (before || part.varies) || multiplies token) && is_by_stars (before || part.varies) others

-- the faults of factors behind operators. Where the product may be a term, one with variables behind another, or that divides, isn't linear
unfoldable pub factors_faults : Bool → Bool → Role → Role → Names → List (Place × Token × Part) → List Fault
factors_faults by_stars before whole role names [] = []
factors_faults by_stars before whole role names ((place, token, part) ∷ others) =
    fault_if (by_stars && part.varies && (before || is_slash token)) NotLinear place ++ no_constraint whole place ++ part.faults role names
    ++ factors_faults by_stars (before || part.varies) role role names others

-- the faults of operands behind `and`
abbrev pub conjuncts_faults : Role → Names → List (Place × Part) → List Fault
conjuncts_faults role names others = flat_map (λ (x : Place × Part). x.1.faults role names) others

-- ---- comparisons

-- whether a term may lie between two ends by these relations: both are `<=`, or both `>=`
abbrev pub encloses : Relation → Relation → Bool
encloses AtMost AtMost = true
encloses AtLeast AtLeast = true
encloses _ _ = false

-- the faults of a comparison: by which relations, and which ends, is said where a constraint is wanted; two behind one another are no value
abbrev pub comparison_faults : Role → Names → Part → List (Place × Relation × Part) → List Fault
comparison_faults role names first [] = first.faults (side role) names
comparison_faults role names first ((place, relation, right) ∷ []) =
    first.faults (side role) names ++ fault_if (is_constraint role && not (may_constrain relation)) NotConstraint place ++ right.faults (side role) names
comparison_faults role names first ((place, lower, middle) ∷ (other, upper, last) ∷ others) =
    first.faults (chain_side role) names
    ++ fault_if (not (is_constraint role && encloses lower upper && not (first.varies || last.varies))) NotConstraint place
    ++ middle.faults (chain_side role) names ++ last.faults (chain_side role) names

-- ---- nodes

-- `prod`
abbrev pub is_prod : Word → Bool
is_prod WProd = true
is_prod _ = false

-- the fault of a factorial that stands where a constraint is wanted, at its first `!`
abbrev pub factorial_faults : Role → List Place → List Fault
factorial_faults role [] = []
factorial_faults role (mark ∷ marks) = no_constraint role mark

-- the faults of a node
abbrev pub node_faults : Scope → Node → Role → Names → List Fault
node_faults scope (Expr-F.Number place digits) role names = no_constraint role place
node_faults scope (Expr-F.Text place text double) role names = no_constraint role place
node_faults scope (Expr-F.Truth place truth) role names = no_constraint role place
node_faults scope (Expr-F.Infinity place) role names = fault_if (not (is_bound role)) (Unsupported WInfinity) place ++ no_constraint role place
node_faults scope (Expr-F.Name place name) role names = name_faults scope role place name (wrong_use (bare scope names name))
node_faults scope (Expr-F.Item place name index) role names = name_faults scope role place name (wrong_use (indexed scope names name)) ++ all_faults (inside role) names index
node_faults scope (Expr-F.Call place name arguments) role names =
    name_faults scope role place name (wrong_use (called (length arguments) scope names name)) ++ all_faults (inside role) names arguments
node_faults scope (Expr-F.Func place keyword arguments) role names =
    function_faults scope role place keyword arguments ++ argument_faults names arguments (argument_role scope role keyword arguments)
node_faults scope (Expr-F.Proj place set positions) role names = no_constraint role place ++ set.faults (inside role) names ++ all_faults (inside role) names positions
node_faults scope (Expr-F.Paren place inner) role names = inner.faults (parenthesised role) names
node_faults scope (Expr-F.Braces place body) role names = no_constraint role place ++ body.faults (inside role) names
node_faults scope (Expr-F.If place vif condition then_part otherwise) role names =
    fault_if ((vif || is_none otherwise) && not (is_constraint role)) NotConstraint place
    ++ condition.faults (test_of vif role) names ++ then_part.faults (branch_of vif role) names ++ given_faults (branch_of vif role) names otherwise
node_faults scope (Expr-F.Factorial inner marks) role names = inner.faults (inside role) names ++ factorial_faults role marks
node_faults scope (Expr-F.Power place sign base sign_of exponent) role names =
    base.faults (term_inside role) names ++ fault_if (base.varies || exponent.varies) NotLinear place ++ no_constraint role place ++ exponent.faults (term_inside role) names
node_faults scope (Expr-F.Signed place minus inner) role names = no_constraint role place ++ inner.faults (role_behind_sign inner.infinite role) names
node_faults scope (Expr-F.Big place keyword index with_do inner) role names =
    fault_if (is_prod keyword && (index.varies || inner.varies)) NotLinear place ++ no_constraint role place
    ++ index.faults (inside role) names ++ inner.faults (summand keyword role) (index.names names)
node_faults scope (Expr-F.Times first others) role names =
    first.faults (operand (is_by_stars first.varies others) role) names
    ++ factors_faults (is_by_stars first.varies others) first.varies role (operand (is_by_stars first.varies others) role) names others
node_faults scope (Expr-F.Plus first others) role names =
    first.faults (operand (is_by_signs others) role) names ++ operands_faults role (operand (is_by_signs others) role) names others
node_faults scope (Expr-F.Compare first others) role names = comparison_faults role names first others
node_faults scope (Expr-F.Member place tuple set) role names = all_faults (inside role) names tuple ++ no_constraint role place ++ set.faults (inside role) names
node_faults scope (Expr-F.Not place inner) role names = no_constraint role place ++ inner.faults (condition_inside role) names
node_faults scope (Expr-F.And first others) role names = first.faults (conjunct role) names ++ conjuncts_faults (conjunct role) names others
node_faults scope (Expr-F.Or first others) role names = first.faults (condition_inside role) names ++ operands_faults role (condition_inside role) names others
node_faults scope (Expr-F.Forall place index with_do inner) role names =
    fault_if (not (is_constraint role)) NotConstraint place ++ index.faults (test role) names ++ inner.faults (constraint_inside role) (index.names names)

-- the bare name that a node is, if it is one
abbrev pub name_of_node : Node → Option Text
name_of_node (Expr-F.Name place name) = Some name
name_of_node _ = None

-- whether a node is `infinity`
abbrev pub is_infinity_node : Node → Bool
is_infinity_node (Expr-F.Infinity place) = true
is_infinity_node _ = false

-- whether variables stand in what stands in braces
abbrev pub body_varies : BodyPart → Bool
body_varies body = body.varies

-- whether variables stand in an expression
abbrev pub part_varies : Part → Bool
part_varies part = part.varies

-- whether variables stand in one of the items of a tuple
abbrev pub tuple_varies : List Part → Bool
tuple_varies parts = list_any part_varies parts

-- whether variables stand in an index
abbrev pub index_varies : IndexPart → Bool
index_varies index = index.varies

-- whether variables stand in a node
abbrev pub node_varies : Scope → Node → Bool
node_varies scope node = variables.variables_in_expr scope (map-Expr BodyPart Part (List Part) IndexPart Bool Bool Bool Bool body_varies part_varies tuple_varies index_varies node)

-- what is known of an expression
abbrev pub expr_part : Scope → Node → Part
expr_part scope node = record { varies = node_varies scope node; name = name_of_node node; infinite = is_infinity_node node; faults = node_faults scope node }

-- what is known of a tuple: what is known of its items
abbrev pub angle_part : Angle-F BodyPart Part (List Part) IndexPart → List Part
angle_part tuple = tuple.items

-- the name that an item of an index's tuple binds, if it binds one
abbrev pub name_bound_by : Scope → Names → Part → Option Text
name_bound_by scope names part = if_unknown scope names part.name

-- the names that are bound behind an index with this tuple
abbrev pub names_behind : Scope → Names → List Part → Names
names_behind scope names tuple = filter_map (name_bound_by scope names) tuple ++ names

-- the faults of an item of an index's tuple: a name that is bound has none
abbrev pub component_faults : Scope → Role → Names → Part → List Fault
component_faults scope role names part = if is_some (name_bound_by scope names part) then [] else part.faults role names

-- the faults of the items
abbrev pub components_faults : Scope → Role → Names → List Part → List Fault
components_faults scope role names tuple = flat_map (component_faults scope role names) tuple

-- the faults of a condition, if there is one
abbrev pub condition_faults : Role → Names → Option (Bool × Part) → List Fault
condition_faults role names None = []
condition_faults role names (Some c) = c.1.faults role names

-- the faults of an index: its set is looked at under the names that are bound around it, its condition under those that it binds too
abbrev pub index_faults : Scope → Index-F BodyPart Part (List Part) IndexPart → Role → Names → List Fault
index_faults scope index role names =
    components_faults scope role names index.tuple ++ index.set.faults role names ++ condition_faults role (names_behind scope names index.tuple) index.cond

-- what is known of an index
abbrev pub index_part : Scope → Index-F BodyPart Part (List Part) IndexPart → IndexPart
index_part scope index =
    record {
      varies = variables.variables_in_index (map-Index BodyPart Part (List Part) IndexPart Bool Bool Bool Bool body_varies part_varies tuple_varies index_varies index);
      faults = index_faults scope index;
      names = λ names. names_behind scope names index.tuple;
    }

-- the faults of tuples one behind the other
abbrev pub tuples_faults : Role → Names → List (List Part) → List Fault
tuples_faults role names tuples = flat_map (all_faults role names) tuples

-- the faults of what stands in braces
abbrev pub body_faults : Body-F BodyPart Part (List Part) IndexPart → Role → Names → List Fault
body_faults Body-F.Empty role names = []
body_faults (Body-F.Members members) role names = all_faults role names members
body_faults (Body-F.Tuples tuples) role names = tuples_faults role names tuples
body_faults (Body-F.Those index) role names = index.faults role names
body_faults (Body-F.Span from with_to to by) role names = from.faults role names ++ to.faults role names ++ given_faults role names by

-- what is known of what stands in braces
abbrev pub body_part : Body-F BodyPart Part (List Part) IndexPart → BodyPart
body_part body =
    record { varies = variables.variables_in_body (map-Body BodyPart Part (List Part) IndexPart Bool Bool Bool Bool body_varies part_varies tuple_varies index_varies body); faults = body_faults body }

-- what is known of an expression, under a scope
abbrev pub part_of : Scope → Expr → Part
part_of scope = fold-Expr BodyPart Part (List Part) IndexPart body_part (expr_part scope) angle_part (index_part scope)

-- what is known of the items of a tuple
abbrev pub parts_of_angle : Scope → Angle → List Part
parts_of_angle scope = fold-Angle BodyPart Part (List Part) IndexPart body_part (expr_part scope) angle_part (index_part scope)

-- what is known of an index
abbrev pub part_of_index : Scope → Index → IndexPart
part_of_index scope = fold-Index BodyPart Part (List Part) IndexPart body_part (expr_part scope) angle_part (index_part scope)

-- what is known of what stands in braces
abbrev pub part_of_body : Scope → Body → BodyPart
part_of_body scope = fold-Body BodyPart Part (List Part) IndexPart body_part (expr_part scope) angle_part (index_part scope)

-- what is known of expressions
abbrev pub parts_of : Scope → List Expr → List Part
parts_of scope items = map (part_of scope) items

-- what is known of the items of tuples
abbrev pub tuples_of : Scope → List Angle → List (List Part)
tuples_of scope tuples = map (parts_of_angle scope) tuples

-- what is known of operands behind operators
abbrev pub known_operands : Scope → List (Place × Token × Expr) → List (Place × Token × Part)
known_operands scope others = map (λ (x : Place × Token × Expr). (x.0, x.1, part_of scope x.2)) others

-- what is known of operands behind relations
abbrev pub known_sides : Scope → List (Place × Relation × Expr) → List (Place × Relation × Part)
known_sides scope others = map (λ (x : Place × Relation × Expr). (x.0, x.1, part_of scope x.2)) others

-- what is known of operands behind `or` and `xor`
abbrev pub known_disjuncts : Scope → List (Place × Bool × Expr) → List (Place × Bool × Part)
known_disjuncts scope others = map (λ (x : Place × Bool × Expr). (x.0, x.1, part_of scope x.2)) others

-- what is known of operands behind `and`
abbrev pub known_conjuncts : Scope → List (Place × Expr) → List (Place × Part)
known_conjuncts scope others = map (λ (x : Place × Expr). (x.0, part_of scope x.1)) others

-- the first of faults, if there is one
abbrev pub first_of_faults : List Fault → Option Fault
first_of_faults [] = None
first_of_faults (f ∷ fs) = Some f
