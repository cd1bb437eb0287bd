-- The place of a fault of lines is in one of the files that the lines are in.
use Rattle.std.proofs.Common.{◌≡◌, ℕ, ◌+◌, ◌<◌, Bool, true, false, cond, nat_lt, List, [], ◌∷◌, ◌++◌, length, map, Ok, Err, Option, Some, None, refl, sym, ◌∙◌, ap, ap₂, subst, arith}
use Rattle.std.specs.Prelude.{All}
use Rattle.std.specs.List.{AllByRecursion, slice_split, onto_first, flat_map}
use Rattle.std.proofs.lemmas.Bool.Decides.{nat_tests}
use Rattle.std.proofs.lemmas.List.Elements.{All-contains, All-from_recursion, recursion_from_All}
use Rattle.zim_answer.specs.Answer.{Answer, ◌>>=◌}
use Rattle.zim_fault.specs.declared.faults.Fault.{Fault}
use Rattle.zim_fault.specs.declared.faults.Place.{Place}
use Rattle.zim_fault.specs.declared.tokens.Token.{Token}
use Rattle.zim_fault.specs.declared.tokens.Placed.{Placed}
use Rattle.zim_lex.specs.declared.lines.Line.{Line}
use Rattle.zim_lex.specs.declared.lines.Span.{Span}
use Rattle.zim_lex.specs.Pieces.{token_of}
use Rattle.zim_lex.specs.Statements.{ends_statement, spans_from, statements_of}
use Rattle.zim_lex.specs.Tokens.{placed_token, tokens_at, AreTokens, none, more, IsFirstStuck, here, later}
use Rattle.zim_tree.specs.declared.stmt.Stmt.{Stmt}
use Rattle.zim_tree.specs.PlainStatement.{replaced_statement}
use Rattle.zim_parse.specs.Answers.{Accepts}
use Rattle.zim_parse.proofs.AnswerLaws.{fault_is_at_token}
use Rattle.zim_parse.proofs.AnswerLaws.{places_are_of_tokens}
use Rattle.zim_plain.specs.Answers.{IsFirstFault}
use Rattle.zim_plain.proofs.PlaceLaws.{place_stands}
use Rattle.zim_build.specs.Parsed.{segment, AreParsed, IsFirstRefused}
use Rattle.zim_build.proofs.BreakLemmas.{LinesBreak, at_byte, at_end, at_span, at_statement}
use Rattle.zim_build.proofs.SpanLemmas.{from-more}
use Rattle.zim_build.proofs.ParsedLemmas.{all_append, all_segment, all_parsed}

-- a place is in one of the first files, so many of them
abbrev PlaceIn : ℕ → Place → Type 0
PlaceIn n place = place.file < n

-- tokens are
abbrev TokensIn : ℕ → List Placed → Type 0
TokensIn n placed = AllByRecursion (λ (p : Placed). PlaceIn n p.place) placed

-- the lines are in the first files, so many of them
abbrev LinesIn : ℕ → List Line → Type 0
LinesIn n lines = AllByRecursion (λ (line : Line). line.place.file < n) lines

both_in : (n : ℕ) (xs ys : List Placed) → TokensIn n xs → TokensIn n ys → TokensIn n (xs ++ ys)
both_in n xs ys h k = all_append (λ (p : Placed). PlaceIn n p.place) xs ys h k

piece_in : (n : ℕ) (place : Place) (o : Option Token) → place.file < n → TokensIn n (placed_token place o)
piece_in n place None h = tt
piece_in n place (Some t) h = (h, tt)

pieces_in : (n : ℕ) (place : Place) (pieces : List (List ℕ)) → place.file < n → TokensIn n (tokens_at place pieces)
unfolding tokens_at
pieces_in n place [] h = tt
pieces_in n place (piece ∷ pieces) h =
    both_in n (placed_token place (token_of piece)) (flat_map (λ p. placed_token place (token_of p)) pieces) (piece_in n place (token_of piece) h) (pieces_in n place pieces h)

tokens_in : (n : ℕ) (lines : List Line) (placed : List Placed) → AreTokens lines placed → LinesIn n lines → TokensIn n placed
tokens_in n _ _ none h = tt
tokens_in n _ _ (more line lines first others at rest) h =
    both_in n first others (subst (TokensIn n) (sym at.tokens_are) (pieces_in n line.place at.pieces h.0)) (tokens_in n lines others rest h.1)

stuck_in : (n : ℕ) (lines : List Line) (fault : Fault) → IsFirstStuck lines fault → LinesIn n lines → fault.place.file < n
stuck_in n _ _ (here line lines kind now) h = h.0
stuck_in n _ _ (later line lines tokens fault at after) h = stuck_in n lines fault after h.1

-- parts between semicolons

abbrev PartsIn : ℕ → List (List Placed) → Type 0
PartsIn n parts = AllByRecursion (TokensIn n) parts

onto_in : (n : ℕ) (x : Placed) (parts : List (List Placed)) → x.place.file < n → PartsIn n parts → PartsIn n (onto_first x parts)
onto_in n x [] h k = ((h, tt), tt)
onto_in n x (part ∷ parts) h k = ((h, k.0), k.1)

parts_in : (n : ℕ) (xs : List Placed) → TokensIn n xs → PartsIn n (slice_split ends_statement xs)
parts_in n [] h = (tt, tt)
parts_in n (x ∷ xs) h = by_end (ends_statement x) (parts_in n xs h.1)
  where
    by_end : (b : Bool) → PartsIn n (slice_split ends_statement xs) → PartsIn n (cond b ([] ∷ slice_split ends_statement xs) (onto_first x (slice_split ends_statement xs)))
    by_end true k = (tt, k)
    by_end false k = onto_in n x (slice_split ends_statement xs) h.0 k

-- the fault of what goes on is the fault
later_in : (n : ℕ) (rest : Answer (List Span) Fault) (span : Span) (fault : Fault) → (rest ≡ Err fault → fault.place.file < n) → (rest >>= λ spans. Ok (span ∷ spans)) ≡ Err fault → fault.place.file < n
later_in n (Ok spans) span fault go e = cc
later_in n (Err met) span fault go e = go e

open_in_parts : (n at : ℕ) (parts : List (List Placed)) (fault : Fault) → spans_from at parts ≡ Err fault → PartsIn n parts → fault.place.file < n
open_in_parts n at [] fault e h = cc
open_in_parts n at ([] ∷ []) fault e h = cc
open_in_parts n at ((left ∷ tokens) ∷ []) fault e h =
    let same : left.place ≡ fault.place = cc in
    subst (λ (place : Place). place.file < n) same h.0.0
open_in_parts n at (part ∷ next ∷ parts) fault e h =
    later_in n (spans_from (at + length part + 1) (next ∷ parts)) (record { from = at; to = at + length part + 1 }) fault (λ is. open_in_parts n (at + length part + 1) (next ∷ parts) fault is h.1)
    (sym (from-more at part next parts) ∙ e)

open_in : (n : ℕ) (placed : List Placed) (fault : Fault) → statements_of placed ≡ Err fault → TokensIn n placed → fault.place.file < n
unfolding statements_of
open_in n placed fault e h = open_in_parts n 0 (slice_split ends_statement placed) fault e (parts_in n placed h)

-- the first fault of the statements

places_in : (n : ℕ) (placed : List Placed) → TokensIn n placed → AllByRecursion (PlaceIn n) (map (λ (p : Placed). p.place) placed)
places_in n [] h = tt
places_in n (p ∷ placed) h = (h.0, places_in n placed h.1)

refused_in : (n : ℕ) (placed : List Placed) (spans : List Span) (fault : Fault) → IsFirstRefused placed spans fault → TokensIn n placed → PlaceIn n fault.place
refused_in n placed spans fault first h =
    let places : List Place = map (λ (p : Placed). p.place) (segment placed first.span) in
    All-contains (PlaceIn n) places fault.place
    (All-from_recursion (PlaceIn n) places (places_in n (segment placed first.span) (all_segment (λ (p : Placed). PlaceIn n p.place) placed first.span h)))
    (fault_is_at_token (segment placed first.span) fault first.refused)

-- a place that is in one of the first files as it is, and each other one put elsewhere
kept_within : ℕ → Place → Place
kept_within n place = cond (nat_lt place.file n) place (record { file = place.file + 1; line = place.line })

kept_there : (n : ℕ) (place : Place) → PlaceIn n place → kept_within n place ≡ place
unfolding kept_within
kept_there n place h = by (nat_lt place.file n) (grind (arith, nat_tests))
  where
    by : (b : Bool) → b ≡ true → cond b place (record { file = place.file + 1; line = place.line }) ≡ place
    by true e = refl
    by false e = cc

there_kept : (n : ℕ) (place : Place) → kept_within n place ≡ place → PlaceIn n place
unfolding kept_within
there_kept n place h = by (nat_lt place.file n) refl h
  where
    by : (b : Bool) → nat_lt place.file n ≡ b → cond b place (record { file = place.file + 1; line = place.line }) ≡ place → PlaceIn n place
    by true e h = grind (arith, nat_tests)
    by false e h = let same : place.file + 1 ≡ place.file = ap (λ (p : Place). p.file) h in absurd (omega (arith, same))

tokens_kept : (n : ℕ) (placed : List Placed) → TokensIn n placed → AllByRecursion (λ (p : Placed). kept_within n p.place ≡ p.place) placed
tokens_kept n [] h = tt
tokens_kept n (p ∷ placed) h = (kept_there n p.place h.0, tokens_kept n placed h.1)

-- the places of statements are where those of their tokens are
statement_kept : (n : ℕ) (ts : List Placed) (s : Stmt) → Accepts ts s → TokensIn n ts → replaced_statement (kept_within n) s ≡ s
statement_kept n ts s is h = places_are_of_tokens (kept_within n) ts s is.reads (tokens_kept n ts h)

each_kept : (g : Place → Place) (trees : List Stmt) → AllByRecursion (λ (s : Stmt). replaced_statement g s ≡ s) trees → map (replaced_statement g) trees ≡ trees
each_kept g [] h = refl
each_kept g (tree ∷ trees) h = ap₂ (λ (s : Stmt) (ss : List Stmt). s ∷ ss) h.0 (each_kept g trees h.1)

first_fault_in : (n : ℕ) (placed : List Placed) (spans : List Span) (trees : List Stmt) (fault : Fault) → AreParsed placed spans trees → IsFirstFault trees fault → TokensIn n placed → PlaceIn n fault.place
first_fault_in n placed spans trees fault parsed first h =
    there_kept n fault.place
    (place_stands trees fault first (kept_within n)
    (each_kept (kept_within n) trees
    (all_parsed (λ (p : Placed). PlaceIn n p.place) (λ (s : Stmt). replaced_statement (kept_within n) s ≡ s) (statement_kept n) placed spans trees h parsed)))

-- the place of a first fault is in a file that the lines are in
pub breaks_in : (n : ℕ) (lines : List Line) (fault : Fault) → LinesBreak lines fault → All (λ (line : Line). line.place.file < n) lines → fault.place.file < n
breaks_in n lines _ (at_byte fault is) all = stuck_in n lines fault is (recursion_from_All (λ (line : Line). line.place.file < n) lines all)
breaks_in n lines _ (at_end placed fault are cut) all =
    open_in n placed fault cut (tokens_in n lines placed are (recursion_from_All (λ (line : Line). line.place.file < n) lines all))
breaks_in n lines _ (at_span placed spans fault are cut first) all =
    refused_in n placed spans fault first (tokens_in n lines placed are (recursion_from_All (λ (line : Line). line.place.file < n) lines all))
breaks_in n lines _ (at_statement placed spans trees fault are cut parsed first) all =
    first_fault_in n placed spans trees fault parsed first (tokens_in n lines placed are (recursion_from_All (λ (line : Line). line.place.file < n) lines all))
