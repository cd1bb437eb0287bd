-- What a typed statement nests and calls is what the statement does that it comes from.
use Rattle.std.specs.Prelude.{◌≡◌, ◌≤◌, List}
use Rattle.zim_fault.specs.declared.faults.Place.{Place}
use Rattle.zim_fault.specs.declared.words.Word.{Word}
use Rattle.zim_tree.specs.declared.expr.Expr.{Expr}
use Rattle.zim_tree.specs.declared.stmt.Stmt.{Stmt}
use Rattle.zim_typed.specs.declared.constant.Const.{Const}
use Rattle.zim_typed.specs.declared.statement.TStmt.{TStmt}
use Rattle.zim_typed.specs.declared.statement.TShape.TheVariants.{Define}
use Rattle.zim_typed.specs.Scope.{Text, Names, Scope}
use Rattle.zim_typed.specs.Constants.{IsConst}
use Rattle.zim_typed.specs.Statements.{IsTyped}
use Rattle.zim_typed.specs.Nesting.{const_calls, definition_nesting}
use Rattle.zim_static.specs.Calls.{calls, full_nesting}
use Rattle.zim_static.specs.Declaring.{NestsWithinLimit}

-- the constant that an expression is calls functions that nest as deep as those that the expression calls
abbrev pub ConstantCalls : Type 0
ConstantCalls = (scope : Scope) (names : Names) (e : Expr) (c : Const) → IsConst scope names e c → calls scope e ≡ const_calls scope c

-- the typed statement that a statement is can be added to the scope, as to how deep it nests, where the statement nests at most 200 deep together with the
-- functions that it calls
abbrev pub DefinitionNests : Type 0
DefinitionNests = (scope : Scope) (stmt : Stmt) (typed : TStmt) → IsTyped scope stmt typed → full_nesting scope stmt ≤ 200 → NestsWithinLimit scope typed.shape

-- a function is kept with the full nesting of the statement that defines it
abbrev pub DefinitionKeepsNesting : Type 0
DefinitionKeepsNesting =
    (scope : Scope) (stmt : Stmt) (typed : TStmt) (word : Word) (parameters : List (Place × Text)) (body : Const) → IsTyped scope stmt typed → typed.shape ≡ Define word parameters body →
    full_nesting scope stmt ≡ definition_nesting scope body
