-- The laws of the trees that the grammar derives: each is made of its parts.
use Rattle.std.specs.Prelude.{List}
use Rattle.zim_fault.specs.declared.tokens.Placed.{Placed}
use Rattle.zim_tree.specs.declared.expr.Expr.{Expr}
use Rattle.zim_tree.specs.declared.stmt.Stmt.{Stmt}
use Rattle.zim_tree.specs.Levels.{Level}
use Rattle.zim_tree.specs.Grammar.{Reads}
use Rattle.zim_tree.specs.StatementGrammar.{ReadsStatement}
use Rattle.zim_tree.specs.Made.{Made}
use Rattle.zim_tree.specs.StatementMade.{MadeStatement}

-- an expression that has a derivation at some level is made of its parts
abbrev pub TightIsMade : Type 0
TightIsMade = (level : Level) (ts : List Placed) (e : Expr) → Reads level ts e → Made e

-- a statement that has a derivation is made of its parts
abbrev pub TightStatementIsMade : Type 0
TightStatementIsMade = (ts : List Placed) (stmt : Stmt) → ReadsStatement ts stmt → MadeStatement stmt
