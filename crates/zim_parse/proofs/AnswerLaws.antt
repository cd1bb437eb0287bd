-- The answers to tokens, for the crates above: tokens are a statement or have a fault, in one way, and a fault stands at one of them.
pub use Rattle.zim_parse.proofs.OneAnswerLaws.{accepted_as_one, accepted_is_not_refused, refused_with_one, fault_is_at_token}
pub use Rattle.zim_parse.proofs.MeaningLaws.{places_are_of_tokens}
use Rattle.std.proofs.Common.{◌≡◌, ℕ, zero, suc, List, [], ◌∷◌, length, Option, Some, None, refl, arith}
use Rattle.zim_fault.specs.declared.faults.Place.{Place}
use Rattle.zim_fault.specs.declared.kinds.Kind.TheVariants.{Unsupported, Deep, Syntax}
use Rattle.zim_fault.specs.declared.tokens.Placed.{Placed}
use Rattle.zim_fault.specs.declared.words.Word.{Word}
use Rattle.zim_tree.specs.declared.stmt.Stmt.{Stmt}
use Rattle.zim_tree.specs.StatementGrammar.{ReadsStatement}
use Rattle.zim_parse_expression.specs.Parser.{parse}
use Rattle.zim_scan.specs.Nesting.{first_deep}
use Rattle.zim_scan.specs.Refused.{first_refused}
use Rattle.zim_parse.specs.AnswerLaw.{HasAnswer, accepted, refused, TokensHaveAnswer}
use Rattle.zim_parse.specs.Answers.{fault_at, an_unsupported_word, too_deep, no_statement}
use Rattle.zim_parse.specs.StatementParser.{whole_statement}
use Rattle.zim_parse.proofs.WholeParse.{whole_read, nothing_read, too_little_read}

-- tokens without a refused word that aren't too deep
read_or_not : (t : Placed) (rest : List Placed) → first_refused (t ∷ rest) ≡ None → first_deep 0 0 (t ∷ rest) ≡ None → HasAnswer (t ∷ rest)
read_or_not t rest supported shallow = by (whole_statement (parse (length (t ∷ rest))) (t ∷ rest)) refl
  where
    none : ((s : Stmt) → ReadsStatement (t ∷ rest) s → ⊥) → HasAnswer (t ∷ rest)
    none nothing = refused (fault_at t.place Syntax) (no_statement supported shallow nothing)

    by : (o : Option (Stmt × List Placed)) → whole_statement (parse (length (t ∷ rest))) (t ∷ rest) ≡ o → HasAnswer (t ∷ rest)
    by None is = none (nothing_read (t ∷ rest) is)
    by (Some (s, [])) is = accepted s (record { supported = supported; not_deep = shallow; reads = whole_read (t ∷ rest) s [] is refl })
    by (Some (s, u ∷ left)) is = none (too_little_read (t ∷ rest) s (u ∷ left) is (λ e. absurd (omega (arith, e))))

pub has_answer : TokensHaveAnswer
has_answer t rest = by_word (first_refused (t ∷ rest)) refl (first_deep 0 0 (t ∷ rest)) refl
  where
    by_word : (o : Option (Place × Word)) → first_refused (t ∷ rest) ≡ o → (d : Option Place) → first_deep 0 0 (t ∷ rest) ≡ d → HasAnswer (t ∷ rest)
    by_word (Some (p, w)) is d deep = refused (fault_at p (Unsupported w)) (an_unsupported_word p w is)
    by_word None is (Some p) deep = refused (fault_at p Deep) (too_deep p is deep)
    by_word None is None deep = read_or_not t rest is deep
