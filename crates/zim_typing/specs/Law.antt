-- The laws of the typed trees that are made of trees: each belongs to its tree, where nothing is marked in the tree.
use Rattle.std.specs.Prelude.{◌≡◌, List, [], true, false, None}
use Rattle.zim_fault.specs.declared.tokens.Placed.{Placed}
use Rattle.zim_tree.specs.declared.expr.Expr.{Expr}
use Rattle.zim_tree.specs.declared.stmt.Stmt.{Stmt}
use Rattle.zim_tree.specs.Levels.{Level}
use Rattle.zim_tree.specs.Grammar.{Reads}
use Rattle.zim_tree.specs.StatementGrammar.{ReadsStatement}
use Rattle.zim_tree.specs.Made.{Made}
use Rattle.zim_tree.specs.StatementMade.{MadeStatement}
use Rattle.zim_typed.specs.Scope.{Text, Names, Scope, is_local}
use Rattle.zim_typed.specs.Variables.{names_variable}
use Rattle.zim_typed.specs.Constants.{IsConst}
use Rattle.zim_typed.specs.Terms.{IsTerm, IsCond, IsCon}
use Rattle.zim_static.specs.declared.role.Role.TheVariants as role
use Rattle.zim_static.specs.StatementFaults.{value_faults, faults_in, static_fault}
use Rattle.zim_typed.specs.Statements.{IsBound, IsTyped}
use Rattle.zim_typed.specs.Suits.{SuitsConst, SuitsTerm, SuitsCond, SuitsCon}
use Rattle.zim_typed.specs.SuitsStatement.{SuitsStatement}
use Rattle.zim_static.specs.Declaring.{NestsWithinLimit}
use Rattle.zim_typing.specs.Statements.{typed_statement}
use Rattle.zim_typing.specs.StatementNumbers.{statement_numbers_kept}
use Rattle.zim_lex.specs.TokenNumbers.{token_numbers_kept}
use Rattle.zim_typing.specs.Typing.{typed_const, some_term, some_cond, typed_con}
use Rattle.zim_typing.specs.Numbers.{numbers_kept}

-- an expression that is made of its parts, and whose numbers are number tokens, is the constant that is made of it, where it has no fault as a value
abbrev pub ConstantBelongs : Type 0
ConstantBelongs = (scope : Scope) (names : Names) (e : Expr) → Made e → numbers_kept e ≡ true → value_faults scope names e ≡ [] → IsConst scope names e (typed_const scope names e)

-- no name that is bound around a place is that of a variable, as an index binds none that is declared
abbrev pub BindNoVariable : Scope → Names → Type 0
BindNoVariable scope names = (name : Text) → is_local names name ≡ true → names_variable scope name ≡ false

-- such an expression is the term that is made of it, where it has no fault as a term
abbrev pub TermBelongs : Type 0
TermBelongs =
    (scope : Scope) (names : Names) (e : Expr) → Made e → BindNoVariable scope names → numbers_kept e ≡ true → faults_in scope role.Term names e ≡ [] →
    IsTerm scope names e (some_term scope names e)

-- it is the condition that is made of it, where it has no fault as the condition of a `vif`
abbrev pub ConditionBelongs : Type 0
ConditionBelongs =
    (scope : Scope) (names : Names) (e : Expr) → Made e → BindNoVariable scope names → numbers_kept e ≡ true → faults_in scope role.Condition names e ≡ [] →
    IsCond scope names e (some_cond scope names e)

-- it is the constraint that is made of it, where it has no fault as a constraint
abbrev pub ConstraintBelongs : Type 0
ConstraintBelongs =
    (scope : Scope) (names : Names) (e : Expr) → Made e → BindNoVariable scope names → numbers_kept e ≡ true → faults_in scope role.Constraint names e ≡ [] →
    IsCon scope names e (typed_con scope names e)

-- it is the bound of a variable that is made of it, where it has no fault as a bound
abbrev pub BoundBelongs : Type 0
BoundBelongs = (scope : Scope) (names : Names) (e : Expr) → Made e → numbers_kept e ≡ true → faults_in scope role.Bound names e ≡ [] → IsBound scope names e (typed_const scope names e)

-- a statement that is made of its parts, and whose numbers are number tokens, is the typed statement that is made of it, where it has no static fault
abbrev pub StatementBelongs : Type 0
StatementBelongs = (scope : Scope) (stmt : Stmt) → MadeStatement stmt → statement_numbers_kept stmt ≡ true → static_fault scope stmt ≡ None → IsTyped scope stmt (typed_statement scope stmt)

-- ---- what is made suits the scope

-- the constant that is made of an expression suits the scope and the names that are bound around it, under the same premises
abbrev pub MadeConstantSuits : Type 0
MadeConstantSuits =
    (scope : Scope) (names : Names) (e : Expr) → Made e → numbers_kept e ≡ true → value_faults scope names e ≡ [] → SuitsConst scope names (typed_const scope names e)

-- so does the term
abbrev pub MadeTermSuits : Type 0
MadeTermSuits =
    (scope : Scope) (names : Names) (e : Expr) → Made e → BindNoVariable scope names → numbers_kept e ≡ true → faults_in scope role.Term names e ≡ [] →
    SuitsTerm scope names (some_term scope names e)

-- the condition
abbrev pub MadeConditionSuits : Type 0
MadeConditionSuits =
    (scope : Scope) (names : Names) (e : Expr) → Made e → BindNoVariable scope names → numbers_kept e ≡ true → faults_in scope role.Condition names e ≡ [] →
    SuitsCond scope names (some_cond scope names e)

-- and the constraint
abbrev pub MadeConstraintSuits : Type 0
MadeConstraintSuits =
    (scope : Scope) (names : Names) (e : Expr) → Made e → BindNoVariable scope names → numbers_kept e ≡ true → faults_in scope role.Constraint names e ≡ [] →
    SuitsCon scope names (typed_con scope names e)

-- the typed statement that is made of a statement suits the scope
abbrev pub MadeStatementSuits : Type 0
MadeStatementSuits = (scope : Scope) (stmt : Stmt) → MadeStatement stmt → statement_numbers_kept stmt ≡ true → static_fault scope stmt ≡ None → SuitsStatement scope (typed_statement scope stmt)

-- and it can be added to the scope, as to how deep it nests
abbrev pub MadeStatementNests : Type 0
MadeStatementNests =
    (scope : Scope) (stmt : Stmt) → MadeStatement stmt → statement_numbers_kept stmt ≡ true → static_fault scope stmt ≡ None → NestsWithinLimit scope (typed_statement scope stmt).shape

-- ---- numbers

-- the numbers in an expression that the grammar reads from tokens are number tokens, where those among the tokens are
abbrev pub ReadExpressionKeepsNumbers : Type 0
ReadExpressionKeepsNumbers = (level : Level) (ts : List Placed) (e : Expr) → Reads level ts e → token_numbers_kept ts ≡ true → numbers_kept e ≡ true

-- and so are those in a statement
abbrev pub ReadStatementKeepsNumbers : Type 0
ReadStatementKeepsNumbers = (ts : List Placed) (stmt : Stmt) → ReadsStatement ts stmt → token_numbers_kept ts ≡ true → statement_numbers_kept stmt ≡ true
