-- Lines have the tokens of one list, or one first line that is stuck, and not both.
use Rattle.std.proofs.Common.{◌≡◌, ℕ, List, [], ◌∷◌, ◌++◌, Ok, Err, inl, inr, refl, ap, sym, ◌∙◌}
use Rattle.std.specs.Prelude.{◌⊎◌}
use Rattle.zim_answer.specs.Answer.{Answer}
use Rattle.zim_fault.specs.declared.faults.Fault.{Fault}
use Rattle.zim_fault.specs.declared.kinds.Kind.{Kind}
use Rattle.zim_fault.specs.declared.tokens.Placed.{Placed}
use Rattle.zim_lex.specs.declared.lines.Line.{Line}
use Rattle.zim_lex.specs.Cut.{IsStuck, cut}
use Rattle.zim_lex.specs.Tokens.{tokens_at, AreLineTokens, AreTokens, none, more, IsFirstStuck, here, later, tokens_of}
use Rattle.zim_lex.specs.TokensLaw.{HaveTokensOrStick, cut_into, stuck_at}
use Rattle.zim_lex.proofs.CutLaws.{is_cut, is_stuck, one_cut}
use Rattle.zim_lex.proofs.TokensLemmas.{tokens_are, first_stuck}

one_line : (line : Line) (a b : List Placed) → AreLineTokens line a → AreLineTokens line b → a ≡ b
one_line line a b first second =
    first.tokens_are
    ∙ ap (λ (ps : List (List ℕ)). tokens_at line.place ps) (one_cut line.bytes first.pieces second.pieces first.cut second.cut)
    ∙ sym second.tokens_are

no_lines : (tokens : List Placed) → AreTokens [] tokens → [] ≡ tokens
no_lines _ none = refl

-- the tokens of the first line and of the others
pub record Parts (line : Line) (lines : List Line) (tokens : List Placed) : Type 0 where
  pub first : List Placed
  pub others : List Placed
  pub of_line : AreLineTokens line first
  pub of_lines : AreTokens lines others
  pub whole : tokens ≡ first ++ others

parts : (line : Line) (lines : List Line) (tokens : List Placed) → AreTokens (line ∷ lines) tokens → Parts line lines tokens
parts line lines _ (more _ _ first others at rest) = record { first = first; others = others; of_line = at; of_lines = rest; whole = refl }

-- two lists of tokens of the same lines are one
pub one_tokens : (lines : List Line) (a b : List Placed) → AreTokens lines a → AreTokens lines b → a ≡ b
one_tokens _ _ b none second = no_lines b second
one_tokens _ _ b (more line lines first others at rest) second =
    let p : Parts line lines b = parts line lines b second in
    ap (λ (front : List Placed). front ++ others) (one_line line first p.first at p.of_line)
    ∙ ap (λ (back : List Placed). p.first ++ back) (one_tokens lines others p.others rest p.of_lines)
    ∙ sym p.whole

stuck_line : (line : Line) (tokens : List Placed) (kind : Kind) → IsStuck line.bytes kind → AreLineTokens line tokens → ⊥
stuck_line line tokens kind stuck are =
    let one : cut line.bytes ≡ Err kind = is_stuck line.bytes kind stuck in
    let other : cut line.bytes ≡ Ok are.pieces = is_cut are.pieces line.bytes are.cut in
    cc

-- lines of which one is stuck have no tokens
pub stuck_without : (lines : List Line) (fault : Fault) (tokens : List Placed) → IsFirstStuck lines fault → AreTokens lines tokens → ⊥
stuck_without _ _ tokens (here line lines kind stuck) are =
    let p : Parts line lines tokens = parts line lines tokens are in stuck_line line p.first kind stuck p.of_line
stuck_without _ _ tokens (later line lines first fault at stuck) are =
    let p : Parts line lines tokens = parts line lines tokens are in stuck_without lines fault p.others stuck p.of_lines

-- ---- a byte that begins no piece

-- a line is stuck in one way
one_kind : (line : List ℕ) (kind other : Kind) → IsStuck line kind → IsStuck line other → kind ≡ other
one_kind line kind other first second =
    let one : cut line ≡ Err kind = is_stuck line kind first in
    let two : cut line ≡ Err other = is_stuck line other second in
    cc

-- the first line is stuck, or it has tokens and a later one is
abbrev StuckParts : Line → List Line → Fault → Type 0
StuckParts line lines fault =
    ((kind : Kind) × IsStuck line.bytes kind × (fault ≡ record { place = line.place; kind = kind })) ⊎ ((tokens : List Placed) × AreLineTokens line tokens × IsFirstStuck lines fault)

stuck_parts : (line : Line) (lines : List Line) (fault : Fault) → IsFirstStuck (line ∷ lines) fault → StuckParts line lines fault
stuck_parts line lines _ (here _ _ kind now) = inl (kind, now, refl)
stuck_parts line lines _ (later _ _ tokens fault are after) = inr (tokens, are, after)

one_after : (line : Line) (lines : List Line) (first : List Placed) (fault other : Fault) → AreLineTokens line first → (IsFirstStuck lines other → fault ≡ other) →
    StuckParts line lines other → fault ≡ other
one_after line lines first fault other at one (inl (kind, now, is)) = absurd (stuck_line line first kind now at)
one_after line lines first fault other at one (inr (tokens, are, after)) = one after

one_now : (line : Line) (lines : List Line) (kind : Kind) (other : Fault) → IsStuck line.bytes kind → StuckParts line lines other → record { place = line.place; kind = kind } ≡ other
one_now line lines kind other now (inl (met, too, is)) = ap (λ (k : Kind). record { place = line.place; kind = k }) (one_kind line.bytes kind met now too) ∙ sym is
one_now line lines kind other now (inr (tokens, are, after)) = absurd (stuck_line line tokens kind now are)

pub one_stuck : (lines : List Line) (fault other : Fault) → IsFirstStuck lines fault → IsFirstStuck lines other → fault ≡ other
one_stuck _ _ other (here line lines kind now) second = one_now line lines kind other now (stuck_parts line lines other second)
one_stuck _ _ other (later line lines first fault at after) second =
    one_after line lines first fault other at (λ more. one_stuck lines fault other after more) (stuck_parts line lines other second)

-- ---- one of both

-- lines have tokens, or one of them is stuck
pub tokens_or_stuck : (lines : List Line) → HaveTokensOrStick lines
tokens_or_stuck lines = by (tokens_of lines) refl where
  by : (answer : Answer (List Placed) Fault) → tokens_of lines ≡ answer → HaveTokensOrStick lines
  by (Ok placed) is = cut_into placed (tokens_are lines placed is)
  by (Err fault) is = stuck_at fault (first_stuck lines fault is)
