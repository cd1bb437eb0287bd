-- Whether variables stand in a tree: the name of one, or `vabs`.
use Rattle.std.specs.Prelude.{List, map, Bool, true, false, ◌||◌, Option, Some, None}
use Rattle.std.specs.List.{list_any}
use Rattle.zim_fault.specs.declared.words.Word.{Word}
use Rattle.zim_fault.specs.declared.words.Word.TheVariants.{WVabs}
use Rattle.zim_tree.specs.declared.expr.Expr.{Expr, Expr-F, fold-Expr}
use Rattle.zim_tree.specs.declared.expr.Angle.{Angle, Angle-F, fold-Angle}
use Rattle.zim_tree.specs.declared.expr.Index.{Index, Index-F, fold-Index}
use Rattle.zim_tree.specs.declared.expr.Body.{Body, Body-F, fold-Body}
use Rattle.zim_typed.specs.declared.scope.Declared.{Declared}
use Rattle.zim_typed.specs.declared.scope.Declared.TheVariants.{Variable}
use Rattle.zim_typed.specs.Scope.{Text, Scope, kind_of_name}

-- the name of a variable
abbrev pub is_variable : Option Declared → Bool
is_variable (Some (Variable indexed)) = true
is_variable _ = false

-- a name is that of a variable
abbrev pub names_variable : Scope → Text → Bool
names_variable scope name = is_variable (kind_of_name scope name)

-- `vabs`
abbrev pub is_vabs : Word → Bool
is_vabs WVabs = true
is_vabs _ = false

-- one of these has variables
abbrev pub one_of : List Bool → Bool
one_of = list_any (λ has. has)

-- a part has variables, if there is one
abbrev pub given : Option Bool → Bool
given None = false
given (Some has) = has

-- the condition of an index has variables, if there is one
abbrev pub variables_in_condition : Option (Bool × Bool) → Bool
variables_in_condition None = false
variables_in_condition (Some c) = c.1

-- an expression, where it is known of its parts
abbrev pub variables_in_expr : Scope → Expr-F Bool Bool Bool Bool → Bool
variables_in_expr scope (Expr-F.Number place digits) = false
variables_in_expr scope (Expr-F.Text place text double) = false
variables_in_expr scope (Expr-F.Truth place truth) = false
variables_in_expr scope (Expr-F.Infinity place) = false
variables_in_expr scope (Expr-F.Name place name) = names_variable scope name
variables_in_expr scope (Expr-F.Item place name index) = names_variable scope name || one_of index
variables_in_expr scope (Expr-F.Call place name arguments) = names_variable scope name || one_of arguments
variables_in_expr scope (Expr-F.Func place function arguments) = is_vabs function || one_of arguments
variables_in_expr scope (Expr-F.Proj place set positions) = set || positions
variables_in_expr scope (Expr-F.Paren place inner) = inner
variables_in_expr scope (Expr-F.Braces place body) = body
variables_in_expr scope (Expr-F.If place vif test branch otherwise) = test || branch || given otherwise
variables_in_expr scope (Expr-F.Factorial operand places) = operand
variables_in_expr scope (Expr-F.Power place sign base signed exponent) = base || exponent
variables_in_expr scope (Expr-F.Signed place minus operand) = operand
variables_in_expr scope (Expr-F.Big place loop index with_do operand) = index || operand
variables_in_expr scope (Expr-F.Times first others) = first || one_of (map (λ x. x.2) others)
variables_in_expr scope (Expr-F.Plus first others) = first || one_of (map (λ x. x.2) others)
variables_in_expr scope (Expr-F.Compare first others) = first || one_of (map (λ x. x.2) others)
variables_in_expr scope (Expr-F.Member place tuple set) = tuple || set
variables_in_expr scope (Expr-F.Not place operand) = operand
variables_in_expr scope (Expr-F.And first others) = first || one_of (map (λ x. x.1) others)
variables_in_expr scope (Expr-F.Or first others) = first || one_of (map (λ x. x.2) others)
variables_in_expr scope (Expr-F.Forall place index with_do inside) = index || inside

-- a tuple
abbrev pub variables_in_angle : Angle-F Bool Bool Bool Bool → Bool
variables_in_angle tuple = one_of tuple.items

-- an index with its condition
abbrev pub variables_in_index : Index-F Bool Bool Bool Bool → Bool
variables_in_index index = index.tuple || index.set || variables_in_condition index.cond

-- what stands in braces
abbrev pub variables_in_body : Body-F Bool Bool Bool Bool → Bool
variables_in_body Body-F.Empty = false
variables_in_body (Body-F.Members members) = one_of members
variables_in_body (Body-F.Tuples tuples) = one_of tuples
variables_in_body (Body-F.Those index) = index
variables_in_body (Body-F.Span from with_to to by) = from || to || given by

-- whether an expression has variables
abbrev pub has_variables : Scope → Expr → Bool
has_variables scope = fold-Expr Bool Bool Bool Bool variables_in_body (variables_in_expr scope) variables_in_angle variables_in_index

-- whether a tuple has
abbrev pub tuple_has_variables : Scope → Angle → Bool
tuple_has_variables scope = fold-Angle Bool Bool Bool Bool variables_in_body (variables_in_expr scope) variables_in_angle variables_in_index

-- whether an index has
abbrev pub index_has_variables : Scope → Index → Bool
index_has_variables scope = fold-Index Bool Bool Bool Bool variables_in_body (variables_in_expr scope) variables_in_angle variables_in_index

-- whether what stands in braces has
abbrev pub body_has_variables : Scope → Body → Bool
body_has_variables scope = fold-Body Bool Bool Bool Bool variables_in_body (variables_in_expr scope) variables_in_angle variables_in_index
