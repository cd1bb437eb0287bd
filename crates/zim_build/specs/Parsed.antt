-- The statements that lines are, or the first fault of lines that are none.
use Rattle.std.specs.Prelude.{◌≡◌, ◌-◌, List, [], ◌∷◌, ◌++◌, take, drop, Ok, Err, ⊤}
use Rattle.zim_fault.specs.declared.faults.Fault.{Fault}
use Rattle.zim_fault.specs.declared.tokens.Placed.{Placed}
use Rattle.zim_lex.specs.declared.lines.Line.{Line}
use Rattle.zim_lex.specs.declared.lines.Span.{Span}
use Rattle.zim_lex.specs.Tokens.{AreTokens, IsFirstStuck}
use Rattle.zim_lex.specs.Statements.{statements_of}
use Rattle.zim_tree.specs.declared.stmt.Stmt.{Stmt}
use Rattle.zim_parse.specs.Answers.{Accepts, Refuses}

-- The tokens of a span.
abbrev pub segment : List Placed → Span → List Placed
segment placed span = take (span.to - span.from) (drop span.from placed)

-- The tokens of each span are one of the statements, in order.
abbrev pub AreParsed : List Placed → List Span → List Stmt → Type 0
AreParsed placed [] [] = ⊤
AreParsed placed [] (tree ∷ trees) = ⊥
AreParsed placed (span ∷ spans) [] = ⊥
AreParsed placed (span ∷ spans) (tree ∷ trees) = Accepts (segment placed span) tree × AreParsed placed spans trees

-- The first span whose tokens are no statement has this fault.
pub record IsFirstRefused (placed : List Placed) (spans : List Span) (fault : Fault) : Type 0 where
  pub before : List Span
  pub span : Span
  pub after : List Span
  pub whole : spans ≡ before ++ span ∷ after
  pub trees : List Stmt
  pub parsed : AreParsed placed before trees
  pub refused : Refuses (segment placed span) fault

-- The tokens of lines, cut after each semicolon, are these statements.
pub record AreStatements (lines : List Line) (trees : List Stmt) : Type 0 where
  pub placed : List Placed
  pub tokens : AreTokens lines placed
  pub spans : List Span
  pub cut : statements_of placed ≡ Ok spans
  pub parsed : AreParsed placed spans trees

-- The first fault of lines that are no statements: a byte that begins no piece, an unclosed quote among them; else tokens that no semicolon ends;
-- else the first fault of tokens that are no statement.
pub data AreNoStatements (lines : List Line) : Fault → Type 0 where
  stuck : (fault : Fault) → IsFirstStuck lines fault → AreNoStatements lines fault
  left_open : (placed : List Placed) (fault : Fault) → AreTokens lines placed → statements_of placed ≡ Err fault → AreNoStatements lines fault
  unparsed : (placed : List Placed) (spans : List Span) (fault : Fault) → AreTokens lines placed → statements_of placed ≡ Ok spans →
      IsFirstRefused placed spans fault → AreNoStatements lines fault
