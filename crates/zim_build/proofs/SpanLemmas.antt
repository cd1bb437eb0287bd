-- The spans of statements lie among the tokens.
use Rattle.std.proofs.Common.{◌≡◌, ℕ, zero, ◌+◌, ◌≤◌, Bool, true, false, cond, List, [], ◌∷◌, length, Ok, Err, refl, sym, ◌∙◌, subst, arith}
use Rattle.std.specs.Prelude.{All}
use Rattle.std.specs.List.{AllByRecursion, slice_split, onto_first}
use Rattle.std.proofs.lemmas.List.Elements.{All-from_recursion}
use Rattle.zim_answer.specs.Answer.{Answer, ◌>>=◌}
use Rattle.zim_fault.specs.declared.faults.Fault.{Fault}
use Rattle.zim_fault.specs.declared.tokens.Placed.{Placed}
use Rattle.zim_lex.specs.declared.lines.Span.{Span}
use Rattle.zim_lex.specs.Statements.{ends_statement, spans_from, statements_of}
use Rattle.zim_build.specs.Steps.{IsSpanWithin}

-- how many there are in parts, each with one more
abbrev total : List (List Placed) → ℕ
total [] = zero
total (part ∷ parts) = length part + 1 + total parts

total_onto : (x : Placed) (parts : List (List Placed)) (n : ℕ) → total parts ≡ n + 1 → total (onto_first x parts) ≡ n + 2
total_onto x [] n h = absurd (omega arith)
total_onto x (part ∷ parts) n h = omega (arith, h)

total_split : (xs : List Placed) → total (slice_split ends_statement xs) ≡ length xs + 1
total_split [] = refl
total_split (x ∷ xs) = by_end (ends_statement x) (total_split xs)
  where
    by_end : (b : Bool) → total (slice_split ends_statement xs) ≡ length xs + 1 → total (cond b ([] ∷ slice_split ends_statement xs) (onto_first x (slice_split ends_statement xs))) ≡ length (x ∷ xs) + 1
    by_end true h = omega (arith, h)
    by_end false h = omega (arith, total_onto x (slice_split ends_statement xs) (length xs) h)

pub from-more : (at : ℕ) (part next : List Placed) (parts : List (List Placed)) → spans_from at (part ∷ next ∷ parts) ≡ (spans_from (at + length part + 1) (next ∷ parts) >>= λ spans. Ok (record { from = at; to = at + length part + 1 } ∷ spans))
from-more at [] next parts = refl
from-more at (left ∷ more) next parts = refl

no_spans : (n : ℕ) (spans : List Span) → ◌≡◌ {A = Answer (List Span) Fault} (Ok []) (Ok spans) → AllByRecursion (IsSpanWithin n) spans
no_spans n [] e = tt
no_spans n (s ∷ spans) e = cc

within_from : (at : ℕ) (parts : List (List Placed)) (spans : List Span) (n : ℕ) → spans_from at parts ≡ Ok spans → at + total parts ≤ n + 1 → AllByRecursion (IsSpanWithin n) spans
within_from at [] spans n e low = no_spans n spans e
within_from at ([] ∷ []) spans n e low = no_spans n spans e
within_from at ((left ∷ more) ∷ []) spans n e low = cc
within_from at (part ∷ next ∷ parts) spans n e low = by_rest (spans_from (at + length part + 1) (next ∷ parts)) refl (sym (from-more at part next parts) ∙ e)
    (λ others is. within_from (at + length part + 1) (next ∷ parts) others n is (omega (arith, low)))
  where
    by_rest : (rest : Answer (List Span) Fault) → spans_from (at + length part + 1) (next ∷ parts) ≡ rest → (rest >>= λ others. Ok (record { from = at; to = at + length part + 1 } ∷ others)) ≡ Ok spans → ((others : List Span) → spans_from (at + length part + 1) (next ∷ parts) ≡ Ok others → AllByRecursion (IsSpanWithin n) others) → AllByRecursion (IsSpanWithin n) spans
    by_rest (Err fault) is h later = cc
    by_rest (Ok others) is h later =
        let same : record { from = at; to = at + length part + 1 } ∷ others ≡ spans = cc in
        subst (AllByRecursion (IsSpanWithin n)) same
        (record { some = omega arith; within = omega (arith, low) }, later others is)

pub spans_within : (placed : List Placed) (spans : List Span) → statements_of placed ≡ Ok spans → All (IsSpanWithin (length placed)) spans
unfolding statements_of
spans_within placed spans e =
    All-from_recursion (IsSpanWithin (length placed)) spans (within_from 0 (slice_split ends_statement placed) spans (length placed) e (omega (arith, total_split placed)))
