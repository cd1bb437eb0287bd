-- The laws of the grammar of expressions: a list of tokens spells at most one tight tree, but for its places, and the
-- parser finds exactly this one.
use Rattle.std.specs.Prelude.{◌≡◌, ◌↔◌, List, [], length, Some}
use Rattle.zim_fault.specs.declared.tokens.Placed.{Placed}
use Rattle.zim_tree.specs.declared.expr.Expr.{Expr}
use Rattle.zim_tree.specs.Levels.{Level}
use Rattle.zim_tree.specs.Grammar.{Reads}
use Rattle.zim_tree.specs.Spelling.{spelling}
use Rattle.zim_tree.specs.Plain.{plain}
use Rattle.zim_parse_expression.specs.Parser.{at_level, parse}

-- a tree is tight at a level where it has a derivation
abbrev pub Tight : Level → Expr → Type 0
Tight level e = (ts : List Placed) × Reads level ts e

-- two tight trees of a level with the same spelling differ at most in their places
abbrev pub OneTree : Type 0
OneTree = (level : Level) (e f : Expr) → Tight level e → Tight level f → spelling e ≡ spelling f → plain e ≡ plain f

-- what the parser reads from all the tokens is what has a derivation from them
abbrev pub ParserReads : Type 0
ParserReads = (level : Level) (ts : List Placed) (e : Expr) → (at_level (parse (length ts)) level ts ≡ Some (e, [])) ↔ Reads level ts e
