-- The spans of the statements as a loop over the tokens meets them.
use Rattle.std.proofs.Common.{◌≡◌, ℕ, zero, suc, ◌+◌, ◌-◌, ◌≤◌, ◌<◌, true, false, List, [], ◌∷◌, ◌++◌, length, take, drop, get_or, Ok, Err, refl, ap, sym, ◌∙◌, subst, arith, append_assoc, length-take, length-drop, drop-cons, add-one}
use Rattle.std.specs.Prelude.{All, min}
use Rattle.std.specs.List.{slice_split}
use Rattle.std.proofs.Math.Seq.{take-add}
use Rattle.std.proofs.lemmas.List.{append-nil, take_all, drop_all, take-append-drop, drop-drop}
use Rattle.std.proofs.lemmas.List.Splits.{slice_split_at, slice_split_none, length-slice_split}
use Rattle.std.proofs.lemmas.List.Elements.{All-append}
use Rattle.zim_answer.specs.Answer.{Answer, ◌>>=◌}
use Rattle.zim_answer.proofs.BindLemmas.{bind_ok}
use Rattle.zim_fault.specs.declared.faults.Fault.{Fault}
use Rattle.zim_fault.specs.declared.kinds.Kind.TheVariants.{OpenStatement}
use Rattle.zim_fault.specs.declared.tokens.Placed.{Placed}
use Rattle.zim_lex.specs.declared.lines.Span.{Span}
use Rattle.zim_lex.specs.Statements.{ends_statement, spans_from, statements_of}

-- no token of a list ends a statement
abbrev pub NoneEnds : List Placed → Type 0
NoneEnds tokens = All (λ placed. ends_statement placed ≡ false) tokens

-- the tokens from one position up to another
abbrev pub between : List Placed → ℕ → ℕ → List Placed
between tokens from at = take (at - from) (drop from tokens)

-- the spans so far, and those of the tokens from a position on
abbrev pub with_spans : List Span → ℕ → List Placed → Answer (List Span) Fault
with_spans so_far from tokens = spans_from from (slice_split ends_statement (drop from tokens)) >>= λ spans. Ok (so_far ++ spans)

spans_from-more : (at : ℕ) (part next : List Placed) (parts : List (List Placed)) → spans_from at (part ∷ next ∷ parts) ≡ (spans_from (at + length part + 1) (next ∷ parts) >>= λ spans. Ok (record { from = at; to = at + length part + 1 } ∷ spans))
spans_from-more at [] next parts = refl
spans_from-more at (left ∷ more) next parts = refl

-- there is always a last part
some_part : (tokens : List Placed) → (part : List Placed) × (parts : List (List Placed)) × (slice_split ends_statement tokens ≡ part ∷ parts)
some_part tokens = at (slice_split ends_statement tokens) refl where
  at : (parts : List (List Placed)) → slice_split ends_statement tokens ≡ parts → (part : List Placed) × (rest : List (List Placed)) × (slice_split ends_statement tokens ≡ part ∷ rest)
  at [] h = absurd (omega (arith, length-slice_split ends_statement tokens, ap length h))
  at (part ∷ rest) h = (part, rest, h)

-- at first nothing is passed
pub nothing_passed : (tokens : List Placed) → with_spans [] 0 tokens ≡ statements_of tokens
unfolding statements_of
nothing_passed tokens = bind_ok (spans_from 0 (slice_split ends_statement tokens))

-- from another position on: that token, and the rest
rest_at : (tokens : List Placed) (from at : ℕ) (placed : Placed) → from ≤ at → at < length tokens → get_or tokens at placed ≡ placed → drop (at - from) (drop from tokens) ≡ placed ∷ drop (at + 1) tokens
rest_at tokens from at placed low high is =
    let same : from + (at - from) ≡ at = omega arith in
    let next : drop at tokens ≡ placed ∷ drop (at + 1) tokens = rw (add-one, drop-cons tokens at placed high, is) refl in
    drop-drop (at - from) from tokens ∙ ap (λ (k : ℕ). drop k tokens) same ∙ next

-- the tokens from a position on: those up to another one, that one, and the rest
cut_at : (tokens : List Placed) (from at : ℕ) (placed : Placed) → from ≤ at → at < length tokens → get_or tokens at placed ≡ placed → drop from tokens ≡ between tokens from at ++ placed ∷ drop (at + 1) tokens
cut_at tokens from at placed low high is =
    let whole : between tokens from at ++ drop (at - from) (drop from tokens) ≡ drop from tokens = take-append-drop (at - from) (drop from tokens) in
    sym whole ∙ ap (λ (rest : List Placed). between tokens from at ++ rest) (rest_at tokens from at placed low high is)

-- the tokens between are as many as the positions
length-between : (tokens : List Placed) (from at : ℕ) → from ≤ at → at < length tokens → length (between tokens from at) ≡ at - from
length-between tokens from at low high = rw (length-take, length-drop) (omega arith)

regroup : (so_far : List Span) (span : Span) (rest : Answer (List Span) Fault) → ((rest >>= λ spans. Ok (span ∷ spans)) >>= λ spans. Ok (so_far ++ spans)) ≡ (rest >>= λ spans. Ok ((so_far ++ span ∷ []) ++ spans))
regroup so_far span (Ok spans) = ap Ok (sym (append_assoc so_far (span ∷ []) spans))
regroup so_far span (Err fault) = refl

-- a token that ends a statement
pub with_spans-end : (so_far : List Span) (tokens : List Placed) (from at : ℕ) (placed : Placed) → from ≤ at → at < length tokens → get_or tokens at placed ≡ placed → NoneEnds (between tokens from at) → ends_statement placed ≡ true
    → with_spans so_far from tokens ≡ with_spans (so_far ++ record { from = from; to = at + 1 } ∷ []) (at + 1) tokens
with_spans-end so_far tokens from at placed low high is passed ends =
    let front = between tokens from at in
    let rest = drop (at + 1) tokens in
    let (next, parts, split) = some_part rest in
    let cut : slice_split ends_statement (drop from tokens) ≡ front ∷ next ∷ parts =
    ap (slice_split ends_statement) (cut_at tokens from at placed low high is) ∙ slice_split_at ends_statement front placed rest passed ends ∙ ap (λ (ps : List (List Placed)). front ∷ ps) split in
    let to : from + length front + 1 ≡ at + 1 = rw (length-between tokens from at low high) (omega arith) in
    let spans : spans_from from (slice_split ends_statement (drop from tokens)) ≡ (spans_from (at + 1) (slice_split ends_statement rest) >>= λ others. Ok (record { from = from; to = at + 1 } ∷ others)) =
    ap (spans_from from) cut ∙ spans_from-more from front next parts ∙ rw (to, split) refl in
    ap (λ (a : Answer (List Span) Fault). a >>= λ others. Ok (so_far ++ others)) spans
    ∙ regroup so_far (record { from = from; to = at + 1 }) (spans_from (at + 1) (slice_split ends_statement rest))

-- one that ends none
pub none_ends-more : (tokens : List Placed) (from at : ℕ) (placed : Placed) → from ≤ at → at < length tokens → get_or tokens at placed ≡ placed → NoneEnds (between tokens from at) → ends_statement placed ≡ false → NoneEnds (between tokens from (at + 1))
none_ends-more tokens from at placed low high is passed not_end =
    let one_more : (at + 1) - from ≡ (at - from) + 1 = omega arith in
    let grown : between tokens from (at + 1) ≡ between tokens from at ++ placed ∷ [] =
    ap (λ (k : ℕ). take k (drop from tokens)) one_more ∙ take-add (at - from) 1 (drop from tokens) ∙ ap (λ (rest : List Placed). between tokens from at ++ take 1 rest) (rest_at tokens from at placed low high is) in
    subst NoneEnds (sym grown) (All-append (λ token. ends_statement token ≡ false) (between tokens from at) (placed ∷ []) passed (alone placed not_end))
  where
    alone : (token : Placed) → ends_statement token ≡ false → NoneEnds (token ∷ [])
    alone token h zero d low = h
    alone token h (suc k) d low = absurd (omega arith)

-- between a position and itself stands none
pub none_between : (tokens : List Placed) (at : ℕ) → NoneEnds (between tokens at at)
none_between tokens at k d low = let none : k < min (at - at) (length (drop at tokens)) = simp length-take at low in absurd (omega arith)

-- after the last token none is left open
pub with_spans-done : (so_far : List Span) (tokens : List Placed) (from : ℕ) → length tokens ≤ from → with_spans so_far from tokens ≡ Ok so_far
with_spans-done so_far tokens from past = rw (drop_all from tokens past) (ap Ok (append-nil so_far))

-- or one is
pub with_spans-open : (so_far : List Span) (tokens : List Placed) (from at : ℕ) (placed : Placed) → from < length tokens → length tokens ≤ at → get_or tokens from placed ≡ placed → NoneEnds (between tokens from at)
    → with_spans so_far from tokens ≡ Err (record { place = placed.place; kind = OpenStatement })
with_spans-open so_far tokens from at placed some past is passed =
    let left_open : between tokens from at ≡ drop from tokens = take_all (at - from) (drop from tokens) (rw length-drop (omega arith)) in
    let first : drop from tokens ≡ placed ∷ drop (from + 1) tokens = rw (add-one, drop-cons tokens from placed some, is) refl in
    let split : slice_split ends_statement (drop from tokens) ≡ (placed ∷ drop (from + 1) tokens) ∷ [] =
    slice_split_none ends_statement (drop from tokens) (subst NoneEnds left_open passed) ∙ ap (λ (part : List Placed). part ∷ []) first in
    rw split refl
