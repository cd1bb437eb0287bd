-- What the parser answers.
use Rattle.std.specs.Prelude.{◌≡◌, List, ◌∷◌, Some, None, Result, Ok, Err}
use Rattle.zim_fault.specs.declared.faults.Place.{Place}
use Rattle.zim_fault.specs.declared.faults.Fault.{Fault}
use Rattle.zim_fault.specs.declared.kinds.Kind.{Kind}
use Rattle.zim_fault.specs.declared.kinds.Kind.TheVariants.{Unsupported, Deep, Syntax}
use Rattle.zim_fault.specs.declared.tokens.Placed.{Placed}
use Rattle.zim_fault.specs.declared.words.Word.{Word}
use Rattle.zim_tree.specs.declared.stmt.Stmt.{Stmt}
use Rattle.zim_tree.specs.StatementGrammar.{ReadsStatement}
use Rattle.zim_scan.specs.Refused.{first_refused}
use Rattle.zim_scan.specs.Nesting.{first_deep}
use Rattle.zim_parse.specs.declared.fault.ParseFault.{ParseFault}
use Rattle.zim_parse.specs.declared.fault.ParseFault.TheVariants as answer
use Rattle.zim_parse_expression.specs.declared.failure.Failure.{Failure}
use Rattle.zim_parse_expression.specs.declared.failure.Failure.TheVariants as failure

-- a fault of this kind at this place
abbrev pub fault_at : Place → Kind → Fault
fault_at p k = record { place = p; kind = k }

-- the fault of tokens that are no statement
pub data Refuses : List Placed → Fault → Type 0 where
  an_unsupported_word : {ts : List Placed} (p : Place) (w : Word) → first_refused ts ≡ Some (p, w) → Refuses ts (fault_at p (Unsupported w))
  too_deep : {ts : List Placed} (p : Place) → first_refused ts ≡ None → first_deep 0 0 ts ≡ Some p → Refuses ts (fault_at p Deep)
  no_statement : {t : Placed} {rest : List Placed} → first_refused (t ∷ rest) ≡ None → first_deep 0 0 (t ∷ rest) ≡ None → ((s : Stmt) → ReadsStatement (t ∷ rest) s → ⊥) →
      Refuses (t ∷ rest) (fault_at t.place Syntax)

-- tokens that are this statement
pub record Accepts (ts : List Placed) (s : Stmt) : Type 0 where
  pub supported : first_refused ts ≡ None
  pub not_deep : first_deep 0 0 ts ≡ None
  pub reads : ReadsStatement ts s

-- what the parser answers: the statement, or the first fault; where memory fails, nothing is said
abbrev pub Parses : List Placed → Result Stmt ParseFault → Type 0
Parses ts (Ok s) = Accepts ts s
Parses ts (Err (answer.Fault f)) = Refuses ts f
Parses ts (Err answer.Memory) = Unit {0}

-- what the parse of all the tokens gives: the statement that they are, or that they are none
abbrev pub WholeGives : List Placed → Result Stmt Failure → Type 0
WholeGives ts (Ok s) = ReadsStatement ts s
WholeGives ts (Err e) = e ≡ failure.Syntax → (s : Stmt) → ReadsStatement ts s → ⊥
