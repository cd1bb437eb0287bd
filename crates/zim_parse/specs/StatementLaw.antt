-- The laws of the grammar of statements: a list of tokens spells at most one tight statement, but for its places, and
-- the parser finds exactly this one.
use Rattle.std.specs.Prelude.{◌≡◌, ◌↔◌, List, [], length, Some}
use Rattle.zim_fault.specs.declared.tokens.Placed.{Placed}
use Rattle.zim_tree.specs.declared.stmt.Stmt.{Stmt}
use Rattle.zim_tree.specs.StatementSpelling.{spelled_of}
use Rattle.zim_tree.specs.StatementGrammar.{ReadsStatement}
use Rattle.zim_tree.specs.PlainStatement.{plain_statement}
use Rattle.zim_parse_expression.specs.Parser.{parse}
use Rattle.zim_parse.specs.StatementParser.{whole_statement}

-- a statement is tight where it has a derivation
abbrev pub TightStatement : Stmt → Type 0
TightStatement s = (ts : List Placed) × ReadsStatement ts s

-- two tight statements with the same spelling differ at most in their places
abbrev pub OneStatement : Type 0
OneStatement = (a b : Stmt) → TightStatement a → TightStatement b → spelled_of a ≡ spelled_of b → plain_statement a ≡ plain_statement b

-- what the parser reads from all the tokens is what has a derivation from them
abbrev pub ParserReadsStatements : Type 0
ParserReadsStatements = (ts : List Placed) (s : Stmt) → (whole_statement (parse (length ts)) ts ≡ Some (s, [])) ↔ ReadsStatement ts s
