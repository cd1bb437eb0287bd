-- What sorting answers.
use Rattle.std.specs.Prelude.{◌≡◌, Result, Ok, Err}
use Rattle.zim_fault.specs.declared.faults.Fault as faults
use Rattle.zim_tree.specs.declared.stmt.Stmt.{Stmt}
use Rattle.zim_typed.specs.declared.statement.TStmt.{TStmt}
use Rattle.zim_typed.specs.Scope.{Scope}
use Rattle.zim_typing.specs.Statements.{typed_statement}
use Rattle.zim_sort.specs.declared.fault.SortFault.{SortFault}
use Rattle.zim_sort.specs.declared.fault.SortFault.TheVariants.{Fault, Memory}

-- a fact of the static fault, where one is the answer
abbrev pub IfFaulty : Result TStmt SortFault → (faults.Fault → Type 0) → Type 0
IfFaulty (Err (Fault f)) P = P f
IfFaulty _ P = Unit {0}

-- the typed statement that is made of a statement; where memory fails, nothing is said, and nothing else fails
abbrev pub MakesTyped : Scope → Stmt → Result TStmt SortFault → Type 0
MakesTyped scope stmt (Ok typed) = typed ≡ typed_statement scope stmt
MakesTyped scope stmt (Err (Fault f)) = ⊥
MakesTyped scope stmt (Err Memory) = Unit {0}
