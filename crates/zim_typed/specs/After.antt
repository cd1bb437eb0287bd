-- The scope after a statement.
use Rattle.std.specs.Prelude.{[], ◌∷◌, ◌++◌, length, Option, Some, None, is_some}
use Rattle.zim_typed.specs.declared.scope.Declared.{Declared}
use Rattle.zim_typed.specs.declared.scope.Declared.TheVariants as declared
use Rattle.zim_typed.specs.declared.statement.TStmt.{TStmt}
use Rattle.zim_typed.specs.declared.statement.TShape.{TShape}
use Rattle.zim_typed.specs.declared.statement.TShape.TheVariants.{Set, Param, Var, Goal, Subto, Define, Do}
use Rattle.zim_typed.specs.Scope.{Text, Scope}
use Rattle.zim_typed.specs.Nesting.{definition_nesting}

-- what a statement declares its name to be, under the scope of the statements before it: a name with brackets is used with brackets. A `do` declares
-- no name
abbrev pub declaration : Scope → TShape → Option Declared
declaration scope (Set brackets side) = Some (declared.Set (is_some brackets))
declaration scope (Param brackets side) = Some (declared.Parameter (is_some brackets))
declaration scope (Var brackets kind limits priority startval) = Some (declared.Variable (is_some brackets))
declaration scope (Goal maximize objective) = Some declared.Objective
declaration scope (Subto constraint) = Some declared.Constraint
declaration scope (Define _ parameters body) = Some (declared.Function (length parameters) (definition_nesting scope body))
declaration scope (Do inside) = None

-- a scope with a name at its end, if the name is anything
abbrev pub with_name : Scope → Text → Option Declared → Scope
with_name scope name None = scope
with_name scope name (Some what) = scope ++ (name, what) ∷ []

-- the scope after a statement: that before it, and at its end the statement's name
abbrev pub after : Scope → TStmt → Scope
after scope stmt = with_name scope stmt.name (declaration scope stmt.shape)
