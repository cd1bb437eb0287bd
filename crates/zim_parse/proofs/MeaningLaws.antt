-- Tokens mean the tight statement that they spell, and its places are theirs.
use Rattle.std.proofs.Common.{◌≡◌, List, [], ◌∷◌, refl, sym, ap, ◌∙◌, subst}
use Rattle.std.specs.List.{AllByRecursion}
use Rattle.std.proofs.lemmas.Option.{none-some}
use Rattle.zim_fault.specs.declared.faults.Place.{Place}
use Rattle.zim_fault.specs.declared.faults.Fault.{Fault}
use Rattle.zim_fault.specs.declared.tokens.Placed.{Placed}
use Rattle.zim_tree.specs.declared.stmt.Stmt.{Stmt}
use Rattle.zim_tree.specs.Levels.{placed}
use Rattle.zim_tree.specs.StatementGrammar.{ReadsStatement}
use Rattle.zim_tree.specs.Plain.{replaced_tokens}
use Rattle.zim_tree.specs.PlainStatement.{replaced_statement, plain_statement}
use Rattle.zim_tree.proofs.StatementSpellingLaws.{statement-spelling}
use Rattle.zim_tree.proofs.ReplacedStatementLaws.{statement_replaced}
use Rattle.zim_tree.proofs.PlacedAnewLaws.{SomeStatement, statement_of_same}
use Rattle.zim_parse.specs.Answers.{Refuses, an_unsupported_word, too_deep, no_statement, Accepts}
use Rattle.zim_parse.specs.SpellingLaw.{IsSpelledBy, IsInBounds, PlacesAreOfTokens, ReadIsSpelled, SpelledIsRead, MeansWhatIsSpelled}
use Rattle.zim_parse.proofs.WholeStatement.{same_statement}
use Rattle.zim_parse.proofs.OneStatement.{one_statement}

-- a map of places that keeps those of tokens keeps the tokens
kept_tokens : (put : Place → Place) (ts : List Placed) → AllByRecursion (λ (t : Placed). put t.place ≡ t.place) ts → replaced_tokens put ts ≡ ts
kept_tokens put [] h = refl
kept_tokens put (t ∷ ts) h = rw (kept_tokens put ts h.1) (ap (λ (p : Place). placed p t.token ∷ ts) h.0)

pub places_are_of_tokens : PlacesAreOfTokens
places_are_of_tokens put ts s d h =
    same_statement (subst (λ (us : List Placed). ReadsStatement us (replaced_statement put s)) (kept_tokens put ts h) (statement_replaced put d)) d

pub read_is_spelled : ReadIsSpelled
read_is_spelled ts s d = sym (statement-spelling d)

pub spelled_is_read : SpelledIsRead
spelled_is_read ts s ((us, d), spells) =
    let read : SomeStatement ts = statement_of_same d (statement-spelling d ∙ spells) in
    (read.0, read.1, one_statement read.0 s (ts, read.1) (us, d) (read_is_spelled ts read.0 read.1 ∙ sym spells))

accepted_is_spelled : (ts : List Placed) (s : Stmt) → Accepts ts s → IsInBounds ts × IsSpelledBy ts s
accepted_is_spelled ts s h = ((h.supported, h.not_deep), ((ts, h.reads), read_is_spelled ts s h.reads))

spelled_is_accepted : (ts : List Placed) (s : Stmt) → IsInBounds ts → IsSpelledBy ts s → (read : Stmt) × Accepts ts read × (plain_statement read ≡ plain_statement s)
spelled_is_accepted ts s bounds h =
    let x = spelled_is_read ts s h in
    (x.0, record { supported = bounds.0; not_deep = bounds.1; reads = x.1 }, x.2)

-- a refusal of tokens in bounds says that they are no statement
no_statement_read : {ts : List Placed} {f : Fault} → IsInBounds ts → Refuses ts f → (s : Stmt) → ReadsStatement ts s → ⊥
no_statement_read bounds (an_unsupported_word p w h) s d = none-some (p, w) (sym bounds.0 ∙ h)
no_statement_read bounds (too_deep p none h) s d = none-some p (sym bounds.1 ∙ h)
no_statement_read bounds (no_statement none shallow h) s d = h s d

pub means_what_is_spelled : MeansWhatIsSpelled
means_what_is_spelled = record {
  accepted_is_spelled = accepted_is_spelled;
  spelled_is_accepted = spelled_is_accepted;
  refused_where_none_is_spelled = λ t rest bounds. (
    (λ refused s h. let x = spelled_is_read (t ∷ rest) s h in no_statement_read bounds refused x.0 x.1),
    (λ none. no_statement bounds.0 bounds.1 (λ s d. none s ((t ∷ rest, d), read_is_spelled (t ∷ rest) s d))),
  );
}
