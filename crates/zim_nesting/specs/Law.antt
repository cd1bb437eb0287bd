-- The nesting that is found along the tree is that of the tokens, which is what the limit is set to.
use Rattle.std.specs.Prelude.{◌≡◌, ◌≤◌, ◌↔◌, List, None}
use Rattle.zim_fault.specs.declared.tokens.Placed.{Placed}
use Rattle.zim_tree.specs.declared.stmt.Stmt.{Stmt}
use Rattle.zim_tree.specs.StatementGrammar.{ReadsStatement}
use Rattle.zim_scan.specs.Nesting.{deepest, first_deep}
use Rattle.zim_nesting.specs.TokenNesting.{nesting_of}
use Rattle.zim_nesting.specs.Depth.{nesting}

-- tokens that are a statement nest as deep as the statement
abbrev pub NestsAsItsTokens : Type 0
NestsAsItsTokens = (ts : List Placed) (stmt : Stmt) → ReadsStatement ts stmt → nesting_of ts ≡ nesting stmt

-- no token stands past the limit exactly where the nesting of all is within it
abbrev pub DeepIsPastTheLimit : Type 0
DeepIsPastTheLimit = (ts : List Placed) → (first_deep 0 0 ts ≡ None) ↔ (nesting_of ts ≤ deepest)
