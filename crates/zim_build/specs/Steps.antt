-- What the calls within this crate answer, which are made of plain form. No public contract speaks of it.
use Rattle.std.specs.Prelude.{ℕ, ◌<◌, ◌≤◌, List, [], Result, Ok, Err, ⊤}
use Rattle.zim_fault.specs.declared.faults.Fault.{Fault}
use Rattle.zim_fault.specs.declared.tokens.Placed.{Placed}
use Rattle.zim_lex.specs.declared.lines.Line.{Line}
use Rattle.zim_lex.specs.declared.lines.Span.{Span}
use Rattle.zim_tree.specs.declared.stmt.Stmt.{Stmt}
use Rattle.zim_parse.specs.declared.fault.ParseFault.{ParseFault}
use Rattle.zim_parse.specs.declared.fault.ParseFault.TheVariants as parsing
use Rattle.zim_plain.specs.declared.plain_form.PlainProgram.{PlainProgram}
use Rattle.zim_plain.specs.Answers.{TellsModel}
use Rattle.zim_build.specs.declared.compiled.Compiled.{Compiled}
use Rattle.zim_build.specs.declared.stop.ReadStop.{ReadStop}
use Rattle.zim_build.specs.declared.stop.ReadStop.TheVariants as reading
use Rattle.zim_build.specs.Model.{Model, AreModel, HaveFirstFault}
use Rattle.zim_build.specs.Parsed.{AreParsed, IsFirstRefused, AreStatements, AreNoStatements}

-- A span has a token or more, among so many.
pub record IsSpanWithin (count : ℕ) (span : Span) : Type 0 where
  pub some : span.from < span.to
  pub within : span.to ≤ count

-- The tokens of each span are a statement, or the first of them that aren't have a fault. Want of memory is free.
abbrev pub ParsedAnswer : List Placed → List Span → Result (List Stmt) ParseFault → Type 0
ParsedAnswer placed spans (Ok trees) = AreParsed placed spans trees
ParsedAnswer placed spans (Err (parsing.Fault fault)) = IsFirstRefused placed spans fault
ParsedAnswer placed spans (Err parsing.Memory) = ⊤

-- The lines are these statements, or they have a first fault. Want of memory is free.
abbrev pub StatementsAnswer : List Line → Result (List Stmt) ReadStop → Type 0
StatementsAnswer lines (Ok trees) = AreStatements lines trees
StatementsAnswer lines (Err (reading.Refused fault)) = AreNoStatements lines fault
StatementsAnswer lines (Err reading.Memory) = ⊤

-- The lines are those of a model, which this program says.
pub record AreLinesOf (lines : List Line) (plain : PlainProgram) : Type 0 where
  pub model : Model
  pub trees : List Stmt
  pub statements : AreStatements lines trees
  pub is_model : AreModel trees model
  pub says : TellsModel model plain

-- The first fault of lines that are no model. Nothing is printed before it.
pub data AreNoModel (lines : List Line) : Fault → Type 0 where
  not_read : (fault : Fault) → AreNoStatements lines fault → AreNoModel lines fault
  not_accepted : (trees : List Stmt) (fault : Fault) → AreStatements lines trees → HaveFirstFault trees fault [] → AreNoModel lines fault

-- The lines are those of a model, or they have a first fault. Want of memory is free.
abbrev pub LinesAnswer : List Line → Result PlainProgram ReadStop → Type 0
LinesAnswer lines (Ok plain) = AreLinesOf lines plain
LinesAnswer lines (Err (reading.Refused fault)) = AreNoModel lines fault
LinesAnswer lines (Err reading.Memory) = ⊤

-- What is handed out of a program and the files that were opened for it.
abbrev pub compiled_of : PlainProgram → List (List ℕ) → Compiled
compiled_of plain files = record {
  system = plain.system;
  columns = plain.columns;
  names = record { statements = plain.statements; objective = plain.objective };
  files = files;
  printed = [];
}
