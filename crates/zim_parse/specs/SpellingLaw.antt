-- What the parser's answer is in terms of the spelling alone: the tight statement that the tokens spell, its places
-- those of the tokens.
use Rattle.std.specs.Prelude.{◌≡◌, ◌↔◌, List, ◌∷◌, map, None}
use Rattle.std.specs.List.{AllByRecursion}
use Rattle.zim_fault.specs.declared.faults.Place.{Place}
use Rattle.zim_fault.specs.declared.kinds.Kind.TheVariants.{Syntax}
use Rattle.zim_fault.specs.declared.tokens.Placed.{Placed}
use Rattle.zim_tree.specs.declared.stmt.Stmt.{Stmt}
use Rattle.zim_tree.specs.Spelling.{Tokens}
use Rattle.zim_tree.specs.StatementSpelling.{spelled_of}
use Rattle.zim_tree.specs.StatementGrammar.{ReadsStatement}
use Rattle.zim_tree.specs.PlainStatement.{replaced_statement, plain_statement}
use Rattle.zim_scan.specs.Refused.{first_refused}
use Rattle.zim_scan.specs.Nesting.{first_deep}
use Rattle.zim_parse.specs.Answers.{fault_at, Accepts, Refuses}
use Rattle.zim_parse.specs.StatementLaw.{TightStatement}

-- tokens without their places
abbrev pub bare_tokens : List Placed → Tokens
bare_tokens = map (λ (t : Placed). t.token)

-- a statement is tight, and these tokens are its spelling
abbrev pub IsSpelledBy : List Placed → Stmt → Type 0
IsSpelledBy ts s = TightStatement s × (spelled_of s ≡ bare_tokens ts)

-- a map of places that keeps those of the tokens keeps the statement, so each of its places is that of a token
abbrev pub PlacesAreOfTokens : Type 0
PlacesAreOfTokens = (put : Place → Place) (ts : List Placed) (s : Stmt) → ReadsStatement ts s →
    AllByRecursion (λ (t : Placed). put t.place ≡ t.place) ts → replaced_statement put s ≡ s

-- the tokens of a derivation are the spelling of its statement
abbrev pub ReadIsSpelled : Type 0
ReadIsSpelled = (ts : List Placed) (s : Stmt) → ReadsStatement ts s → spelled_of s ≡ bare_tokens ts

-- tokens that spell a tight statement have a derivation, of a statement that differs from it at most in places
abbrev pub SpelledIsRead : Type 0
SpelledIsRead = (ts : List Placed) (s : Stmt) → IsSpelledBy ts s → (read : Stmt) × ReadsStatement ts read × (plain_statement read ≡ plain_statement s)

-- no word is refused, and the nesting doesn't pass the limit
abbrev pub IsInBounds : List Placed → Type 0
IsInBounds ts = (first_refused ts ≡ None) × (first_deep 0 0 ts ≡ None)

-- the answers mean what is spelled: tokens in bounds are accepted exactly where they spell a tight statement, as this
-- one but for places, and are no statement exactly where they spell none
pub record MeansWhatIsSpelled : Type 0 where
  pub accepted_is_spelled : (ts : List Placed) (s : Stmt) → Accepts ts s → IsInBounds ts × IsSpelledBy ts s
  pub spelled_is_accepted : (ts : List Placed) (s : Stmt) → IsInBounds ts → IsSpelledBy ts s → (read : Stmt) × Accepts ts read × (plain_statement read ≡ plain_statement s)
  pub refused_where_none_is_spelled : (t : Placed) (rest : List Placed) → IsInBounds (t ∷ rest) →
      (Refuses (t ∷ rest) (fault_at t.place Syntax) ↔ ((s : Stmt) → IsSpelledBy (t ∷ rest) s → ⊥))
