-- What is known after each statement of a model, and why it stops at one.
use Rattle.std.specs.Prelude.{ℕ, List, [], ◌∷◌, ◌++◌, length, Option, Some, None, Ok, Err}
use Rattle.zim_answer.specs.Answer.{Answer, ◌>>=◌, goes}
use Rattle.zim_fault.specs.declared.faults.Fault.{Fault}
use Rattle.zim_meaning.specs.DataFiles.{StatementStop, AtFault, RowSource}
use Rattle.zim_meaning.specs.Printing.{UnfinishedPrint, doing_output}
use Rattle.zim_meaning.specs.Statements.{world_after, opened_by}
use Rattle.zim_meaning.specs.World.{World, empty_world}
use Rattle.zim_model.specs.Encoded.{Encoded, nothing_encoded, statement_makes}
use Rattle.zim_model.specs.Statements.{Stated, asks_of_statements}
use Rattle.zim_static.specs.StatementFaults.{static_fault}
use Rattle.zim_tree.specs.declared.stmt.Stmt.{Stmt}
use Rattle.zim_typed.specs.After.{after}
use Rattle.zim_typed.specs.Scope.{Scope}
use Rattle.zim_typed.specs.declared.statement.TShape.{TShape}
use Rattle.zim_typed.specs.declared.statement.TShape.TheVariants as shape
use Rattle.zim_typed.specs.declared.statement.TStmt.{TStmt}
use Rattle.zim_typing.specs.Statements.{typed_statement}

-- what is known after the statements so far: what each name is, what each set, parameter and function is, the statements, what they made, what they
-- printed, and the names of the files that were opened, in the order of opening
pub record Progress : Type 0 where
  pub scope : Scope
  pub world : World
  pub statements : List Stated
  pub encoded : Encoded
  pub printed : List ℕ
  pub opened : List (List ℕ)

-- before the first statement, for whose text these files were opened
abbrev pub beginning : List (List ℕ) → Progress
beginning opened = record { scope = []; world = empty_world; statements = []; encoded = nothing_encoded; printed = []; opened = opened }

-- why a model stops at a statement: at its fault, or at a file that isn't there; and what was printed and which files were opened by then
pub record ModelStop : Type 0 where
  pub why : StatementStop
  pub printed : List ℕ
  pub opened : List (List ℕ)

-- where the files give rows: for each number that the next opened file may have
abbrev pub RowSources : Type 0
RowSources = ℕ → RowSource

-- names with one more, if there is one
abbrev pub with_opened : List (List ℕ) → Option (List ℕ) → List (List ℕ)
with_opened opened None = opened
with_opened opened (Some name) = opened ++ name ∷ []

-- the files that were opened once a statement was taken
abbrev pub opened_after : Progress → TStmt → List (List ℕ)
opened_after p stmt = with_opened p.opened (opened_by p.world stmt)

-- an answer to a statement, which may stop the model
abbrev pub or_model_stop : {A : Type 0} → Progress → TStmt → Answer A StatementStop → Answer A ModelStop
or_model_stop p stmt (Ok answer) = Ok answer
or_model_stop p stmt (Err why) = Err (record { why = why; printed = p.printed; opened = opened_after p stmt })

-- an answer to a statement that opens no file, which may stop the model at its fault
abbrev pub or_model_fault : {A : Type 0} → Progress → Answer A Fault → Answer A ModelStop
or_model_fault p (Ok answer) = Ok answer
or_model_fault p (Err fault) = Err (record { why = AtFault fault; printed = p.printed; opened = p.opened })

-- what is printed by an answer to a `do`, which may stop the model behind what was printed by then
abbrev pub or_print_stop : Progress → Answer (List ℕ) UnfinishedPrint → Answer (List ℕ) ModelStop
or_print_stop p (Ok text) = Ok text
or_print_stop p (Err stop) = Err (record { why = AtFault stop.fault; printed = stop.text; opened = p.opened })

-- the text that is printed once a shape was taken: a `do` prints, and all others print nothing
abbrev pub printed_after : Progress → TShape → Answer (List ℕ) ModelStop
printed_after p (shape.Do doing) = or_print_stop p (doing_output p.world doing [] p.printed)
printed_after p _ = Ok p.printed

-- a typed statement with what is known before it
abbrev pub stated_in : Progress → TStmt → Stated
stated_in p stmt = record { world = p.world; asks = asks_of_statements p.statements; stmt = stmt }

-- what is known after a typed statement: the world after it, then what it makes, then what it prints; each kind of statement does one of these
abbrev pub after_typed : RowSources → Progress → TStmt → Answer Progress ModelStop
after_typed sources p stmt = do
  world ← or_model_stop p stmt (world_after p.world (sources (length p.opened)) stmt)
  encoded ← or_model_fault p (statement_makes p.encoded (stated_in p stmt))
  printed ← printed_after p stmt.shape
  Ok (record {
    scope = after p.scope stmt;
    world = world;
    statements = p.statements ++ stated_in p stmt ∷ [];
    encoded = encoded;
    printed = printed;
    opened = opened_after p stmt;
  })

-- the same where a static fault comes first, if there is one
abbrev pub after_sorted : RowSources → Progress → Stmt → Option Fault → Answer Progress ModelStop
after_sorted sources p stmt (Some fault) = Err (record { why = AtFault fault; printed = p.printed; opened = p.opened })
after_sorted sources p stmt None = after_typed sources p (typed_statement p.scope stmt)

-- what is known after a statement
abbrev pub after_statement : RowSources → Progress → Stmt → Answer Progress ModelStop
after_statement sources p stmt = after_sorted sources p stmt (static_fault p.scope stmt)

-- what is known after statements in their order, for whose text these files were opened, or the first stop
unfoldable pub after_statements : RowSources → List (List ℕ) → List Stmt → Answer Progress ModelStop
after_statements sources opened statements = goes (after_statement sources) (beginning opened) statements
