-- The tokens that going over the lines gives are those of the lines' pieces, and its fault is that of the first line that is stuck.
use Rattle.std.proofs.Common.{◌≡◌, ℕ, List, [], ◌∷◌, ◌++◌, Ok, Err, inl, inr, refl, ap, sym, ◌∙◌, subst, append_assoc}
use Rattle.std.proofs.lemmas.List.{append-nil}
use Rattle.zim_answer.specs.Answer.{Answer, ◌>>=◌, goes}
use Rattle.zim_answer.proofs.BindLemmas.{bind_gave, bind_failed}
use Rattle.zim_answer.proofs.GoesLemmas.{goes-nil, goes-cons}
use Rattle.zim_fault.specs.declared.faults.Fault as faults
use Rattle.zim_fault.specs.declared.kinds.Kind.{Kind}
use Rattle.zim_fault.specs.declared.tokens.Placed.{Placed}
use Rattle.zim_answer.specs.Gives.{Stops}
use Rattle.zim_lex.specs.declared.lines.Line.{Line}
use Rattle.zim_lex.specs.declared.faults.LexFault.{LexFault}
use Rattle.zim_lex.specs.declared.faults.LexFault.TheVariants.{Fault, Memory}
use Rattle.zim_lex.specs.Causes.{lex_cause, IfMet}
use Rattle.zim_lex.specs.Cut.{IsStuck, cut}
use Rattle.zim_lex.specs.Tokens.{tokens_at, AreLineTokens, AreTokens, none, more, IsFirstStuck, here, later, met_at, line_tokens, with_line, tokens_of}
use Rattle.zim_lex.proofs.CutLaws.{cut_is, cut_fails}

line_tokens_are : (line : Line) (tokens : List Placed) → line_tokens line ≡ Ok tokens → AreLineTokens line tokens
unfolding line_tokens
line_tokens_are line tokens h = at (cut line.bytes) refl h where
  at : (pieces : Answer (List (List ℕ)) Kind) → cut line.bytes ≡ pieces → (met_at line.place pieces >>= λ ps. Ok (tokens_at line.place ps)) ≡ Ok tokens → AreLineTokens line tokens
  at (Ok pieces) e f = record { pieces = pieces; cut = cut_is line.bytes pieces e; tokens_are = (let same : tokens_at line.place pieces ≡ tokens = cc in sym same) }
  at (Err kind) e f = cc

line_stuck : (line : Line) (fault : faults.Fault) → line_tokens line ≡ Err fault → (kind : Kind) × IsStuck line.bytes kind × (record { place = line.place; kind = kind } ≡ fault)
unfolding line_tokens
line_stuck line fault h = at (cut line.bytes) refl h where
  at : (pieces : Answer (List (List ℕ)) Kind) → cut line.bytes ≡ pieces → (met_at line.place pieces >>= λ ps. Ok (tokens_at line.place ps)) ≡ Err fault → (kind : Kind) × IsStuck line.bytes kind × (record { place = line.place; kind = kind } ≡ fault)
  at (Ok pieces) e f = cc
  at (Err kind) e f = (let same : record { place = line.place; kind = kind } ≡ fault = cc in (kind, cut_fails line.bytes kind e, same))

goes_are : (so_far all : List Placed) (lines : List Line) → goes with_line so_far lines ≡ Ok all → (tokens : List Placed) × (so_far ++ tokens ≡ all) × AreTokens lines tokens
goes_are so_far all [] h = ([], (let e : Ok so_far ≡ Ok all = sym (goes-nil with_line so_far) ∙ h in append-nil so_far ∙ cc), none)
goes_are so_far all (line ∷ lines) h =
    let (next, one, rest) = bind_gave (with_line so_far line) _ all (sym (goes-cons with_line so_far line lines) ∙ h) in
    let (first, of_line, is_next) = bind_gave (line_tokens line) _ next one in
    let (others, whole, are) = goes_are next all lines rest in
    let joined : so_far ++ first ≡ next = cc in
    (first ++ others, sym (append_assoc so_far first others) ∙ ap (λ (front : List Placed). front ++ others) joined ∙ whole, more line lines first others (line_tokens_are line first of_line) are)

goes_stops : (so_far : List Placed) (fault : faults.Fault) (lines : List Line) → goes with_line so_far lines ≡ Err fault → IsFirstStuck lines fault
goes_stops so_far fault [] h = (let e : Ok so_far ≡ Err fault = sym (goes-nil with_line so_far) ∙ h in cc)
goes_stops so_far fault (line ∷ lines) h =
    elim (bind_failed (with_line so_far line) _ fault (sym (goes-cons with_line so_far line lines) ∙ h)) [
      | inl at_line ↦ elim (bind_failed (line_tokens line) _ fault at_line) [
        | inl stops ↦ (let (kind, stuck, same) = line_stuck line fault stops in subst (IsFirstStuck (line ∷ lines)) same (here line lines kind stuck))
        | inr never ↦ (let (tokens, gave, e) = never in cc)
      ]
      | inr after ↦ (let (next, one, rest) = after in
          let (first, of_line, is_next) = bind_gave (line_tokens line) _ next one in
          later line lines first fault (line_tokens_are line first of_line) (goes_stops next fault lines rest))
    ]

pub tokens_are : (lines : List Line) (tokens : List Placed) → tokens_of lines ≡ Ok tokens → AreTokens lines tokens
unfolding tokens_of
tokens_are lines tokens h = let (found, same, are) = goes_are [] tokens lines h in subst (AreTokens lines) same are

pub first_stuck : (lines : List Line) (fault : faults.Fault) → tokens_of lines ≡ Err fault → IsFirstStuck lines fault
unfolding tokens_of
first_stuck lines fault h = goes_stops [] fault lines h

-- the same for what an error of a call tells
pub stuck_met : (V : Type 0) (lines : List Line) (fault : LexFault) → Stops (tokens_of lines) (lex_cause fault) → IfMet {V = V} (Err fault) (IsFirstStuck lines)
stuck_met V lines (Fault fault) stops = first_stuck lines fault stops
stuck_met V lines Memory stops = tt
