-- The laws of typed trees: what belongs to a tree under a scope suits the scope, and nests as deep as the tree.
use Rattle.std.specs.Prelude.{◌≡◌, None}
use Rattle.zim_tree.specs.declared.expr.Expr.{Expr}
use Rattle.zim_tree.specs.declared.stmt.Stmt.{Stmt}
use Rattle.zim_tree.specs.declared.stmt.Shape.{Shape}
use Rattle.zim_tree.specs.declared.stmt.Shape.TheVariants.{Do}
use Rattle.zim_tree.specs.StatementMade.{MadeStatement}
use Rattle.zim_typed.specs.declared.constant.Const.{Const}
use Rattle.zim_typed.specs.declared.constraint.Term.{Term}
use Rattle.zim_typed.specs.declared.constraint.Cond.{Cond}
use Rattle.zim_typed.specs.declared.constraint.Con.{Con}
use Rattle.zim_typed.specs.declared.statement.TStmt.{TStmt}
use Rattle.zim_typed.specs.Scope.{Text, Names, Scope, kind_of_name}
use Rattle.zim_typed.specs.Constants.{IsConst}
use Rattle.zim_typed.specs.Terms.{IsTerm, IsCond, IsCon}
use Rattle.zim_typed.specs.Statements.{IsTyped}
use Rattle.zim_nesting.specs.Depth.{depth}
use Rattle.zim_typed.specs.Nesting.{const_depth}
use Rattle.zim_typed.specs.Suits.{SuitsConst, SuitsTerm, SuitsCond, SuitsCon}
use Rattle.zim_typed.specs.SuitsStatement.{SuitsStatement}

-- the constant that an expression is suits the scope and the names
abbrev pub ConstantSuits : Type 0
ConstantSuits = (scope : Scope) (names : Names) (e : Expr) (c : Const) → IsConst scope names e c → SuitsConst scope names c

-- the term that an expression is suits them
abbrev pub TermSuits : Type 0
TermSuits = (scope : Scope) (names : Names) (e : Expr) (t : Term) → IsTerm scope names e t → SuitsTerm scope names t

-- the condition that an expression is suits them
abbrev pub ConditionSuits : Type 0
ConditionSuits = (scope : Scope) (names : Names) (e : Expr) (c : Cond) → IsCond scope names e c → SuitsCond scope names c

-- the constraint that an expression is suits them
abbrev pub ConstraintSuits : Type 0
ConstraintSuits = (scope : Scope) (names : Names) (e : Expr) (c : Con) → IsCon scope names e c → SuitsCon scope names c

-- the name that a statement declares is new; a `do` declares none
abbrev pub IsNew : Scope → Text → Shape → Type 0
IsNew scope name (Do inside) = Unit {0}
IsNew scope name _ = kind_of_name scope name ≡ None

-- the typed statement that a statement is suits the scope, where the statement is made of its parts and a name that it declares is new
abbrev pub StatementSuits : Type 0
StatementSuits = (scope : Scope) (stmt : Stmt) (typed : TStmt) → MadeStatement stmt → IsNew scope stmt.name stmt.shape → IsTyped scope stmt typed → SuitsStatement scope typed

-- the constant that an expression is nests as the expression
abbrev pub ConstantNests : Type 0
ConstantNests = (scope : Scope) (names : Names) (e : Expr) (c : Const) → IsConst scope names e c → depth e ≡ const_depth c
