-- The rules of statements in the form of the functions: by what comes next.
use Rattle.std.proofs.Common.{◌≡◌, List, Some, None, refl, if◌then◌else◌}
use Rattle.zim_fault.specs.declared.tokens.Placed.{Placed}
use Rattle.zim_tree.specs.declared.stmt.Bracket.{Bracket}
use Rattle.zim_tree.specs.declared.stmt.Bracket.TheVariants as bracket
use Rattle.zim_tree.specs.Levels.{sum}
use Rattle.zim_parse_expression.specs.Next.{is_right_bracket, Start, a_less, start_of}
use Rattle.zim_parse_expression.specs.Parser.{Parsed, Inner, and_then, expect, index_from}
use Rattle.zim_parse_expression.specs.Outcome.{is_less_start}
use Rattle.zim_parse.specs.StatementParser.{bracket_of, bracket_at, printed_of, printed_at}
use Rattle.zim_parse.specs.StatementSteps.{bracket_inside, printed_less, printed_value}

closed : {A : Type 0} (make : A → Bracket) (r : Parsed A) → and_then r (λ x r1. and_then (expect is_right_bracket r1) (λ q left. Some (make x, left)))
    ≡ and_then (and_then r (λ x left. Some (make x, left))) (λ inside r1. and_then (expect is_right_bracket r1) (λ q left. Some (inside, left)))
unfolding and_then
closed make None = refl
closed make (Some x) = refl

bracket_found : (inner : Inner) (s : Start) (ts : List Placed) → bracket_at inner s ts
    ≡ and_then (if is_less_start s then and_then (index_from inner ts) (λ index left. Some (bracket.Loop index, left)) else and_then (inner sum ts) (λ over left. Some (bracket.Over over, left)))
    (λ inside r1. and_then (expect is_right_bracket r1) (λ q left. Some (inside, left)))
bracket_found inner a_less ts = closed (λ index. bracket.Loop index) (index_from inner ts)
bracket_found inner _ ts = closed (λ over. bracket.Over over) (inner sum ts)

pub bracket_next : (inner : Inner) (ts : List Placed) → bracket_of inner ts ≡ and_then (bracket_inside inner ts) (λ inside r1. and_then (expect is_right_bracket r1) (λ q left. Some (inside, left)))
unfolding bracket_of bracket_inside
bracket_next inner ts = bracket_found inner (start_of ts) ts

printed_start : (inner : Inner) (s : Start) (ts : List Placed) → printed_at inner s ts ≡ (if is_less_start s then printed_less inner ts else printed_value inner ts)
unfolding printed_less printed_value
printed_start inner a_less ts = refl
printed_start inner _ ts = refl

pub printed_next : (inner : Inner) (ts : List Placed) → printed_of inner ts ≡ (if is_less_start (start_of ts) then printed_less inner ts else printed_value inner ts)
unfolding printed_of
printed_next inner ts = printed_start inner (start_of ts) ts
