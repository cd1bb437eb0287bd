-- The lists of statements, as loops read them.
use Rattle.std.proofs.Common.{◌≡◌, ℕ, zero, suc, ◌-◌, ◌+◌, ◌<◌, ◌≤◌, Bool, List, [], ◌∷◌, ◌++◌, Option, Some, None, refl, ap, ◌∙◌, arith}
use Rattle.zim_fault.specs.declared.faults.Place.{Place}
use Rattle.zim_fault.specs.declared.tokens.Placed.{Placed}
use Rattle.zim_fault.specs.declared.words.Word.{Word}
use Rattle.zim_tree.specs.declared.expr.Expr.{Expr}
use Rattle.zim_tree.specs.declared.stmt.Limit.{Limit}
use Rattle.zim_tree.specs.Levels.{sum}
use Rattle.zim_parse_expression.specs.Parser.{Parsed, Inner, and_then}
use Rattle.zim_parse_expression.specs.StatementTokens.{option_in, limit_in, expect_token, is_bar}
use Rattle.zim_parse_expression.specs.Outcome.{found_at}
use Rattle.zim_parse_expression.specs.Turns.{turned, repeat, prepend}
use Rattle.zim_parse_expression.proofs.TurnLaws.{begun, goes_on, turn_left}
use Rattle.zim_parse.specs.StatementParser.{option_or, options_of, limit_or, limits_of, table_row, table_rows}
use Rattle.zim_parse.specs.StatementTurns.{option_found, option_turn, limit_found, limit_turn}

-- options of `read` and bounds

option_read : (inner : Inner) (n : ℕ) (t : Placed) (w : Word) → ((ts : List Placed) → options_of inner n ts ≡ repeat (option_turn inner) n ts) → (r : Parsed Expr) →
    and_then r (λ operand behind. and_then (options_of inner n behind) (λ others left. Some ((t.place, w, operand) ∷ others, left)))
    ≡ turned (and_then r (λ operand behind. Some (Some (t.place, w, operand), behind))) (repeat (option_turn inner) n)
unfolding and_then
option_read inner n t w more None = refl
option_read inner n t w more (Some x) = rw (more x.1) refl

option_taken : (inner : Inner) (n : ℕ) (t : Placed) (rest : List Placed) → ((ts : List Placed) → options_of inner n ts ≡ repeat (option_turn inner) n ts) → (w : Option Word) →
    option_or inner (options_of inner n) t rest w ≡ turned (option_found inner (found_at t rest w) (t ∷ rest)) (repeat (option_turn inner) n)
unfolding and_then
option_taken inner n t rest more None = refl
option_taken inner n t rest more (Some w) = option_read inner n t w more (inner sum rest)

pub options_by_turns : (inner : Inner) (n : ℕ) (ts : List Placed) → options_of inner n ts ≡ repeat (option_turn inner) n ts
unfolding options_of repeat option_turn and_then
options_by_turns inner zero ts = refl
options_by_turns inner (suc n) [] = refl
options_by_turns inner (suc n) (t ∷ rest) = option_taken inner n t rest (λ us. options_by_turns inner n us) (option_in t.token)

abbrev bound_of : Placed → Bool → Expr → Limit
bound_of t lower side = record { place = t.place; lower = lower; side = side }

side_read : (inner : Inner) (n : ℕ) (t : Placed) (lower : Bool) → ((ts : List Placed) → limits_of inner n ts ≡ repeat (limit_turn inner) n ts) → (r : Parsed Expr) →
    and_then r (λ side behind. and_then (limits_of inner n behind) (λ others left. Some (bound_of t lower side ∷ others, left)))
    ≡ turned (and_then r (λ side behind. Some (Some (bound_of t lower side), behind))) (repeat (limit_turn inner) n)
unfolding and_then
side_read inner n t lower more None = refl
side_read inner n t lower more (Some x) = rw (more x.1) refl

limit_taken : (inner : Inner) (n : ℕ) (t : Placed) (rest : List Placed) → ((ts : List Placed) → limits_of inner n ts ≡ repeat (limit_turn inner) n ts) → (w : Option Bool) →
    limit_or inner (limits_of inner n) t rest w ≡ turned (limit_found inner (found_at t rest w) (t ∷ rest)) (repeat (limit_turn inner) n)
unfolding and_then
limit_taken inner n t rest more None = refl
limit_taken inner n t rest more (Some w) = side_read inner n t w more (inner sum rest)

pub limits_by_turns : (inner : Inner) (n : ℕ) (ts : List Placed) → limits_of inner n ts ≡ repeat (limit_turn inner) n ts
unfolding limits_of repeat limit_turn and_then
limits_by_turns inner zero ts = refl
limits_by_turns inner (suc n) [] = refl
limits_by_turns inner (suc n) (t ∷ rest) = limit_taken inner n t rest (λ us. limits_by_turns inner n us) (limit_in t.token)

-- rows of a table

pub rows_go_on : {whole : Parsed (List (List Expr × List Expr))} (inner : Inner) (columns n at : ℕ) (items : List (List Expr × List Expr)) (ts : List Placed) {r1 left : List Placed} {row : List Expr × List Expr} {p : Place} →
    whole ≡ prepend items (table_rows inner columns (n - at) ts) → at < n → table_row inner columns ts ≡ Some (row, r1) → expect_token is_bar r1 ≡ Some (p, left) →
    whole ≡ prepend (items ++ row ∷ []) (table_rows inner columns (n - (at + 1)) left)
unfolding table_rows and_then
rows_go_on inner columns n at items ts {left = left} {row = row} h below e bar =
    h ∙ ap (λ k. prepend items (table_rows inner columns k ts)) (turn_left n at below) ∙ rw (e, bar) (goes_on items row (table_rows inner columns (n - (at + 1)) left))

pub rows_stop : {whole : Parsed (List (List Expr × List Expr))} (inner : Inner) (columns n at : ℕ) (items : List (List Expr × List Expr)) (ts : List Placed) {r1 : List Placed} {row : List Expr × List Expr} →
    whole ≡ prepend items (table_rows inner columns (n - at) ts) → at < n → table_row inner columns ts ≡ Some (row, r1) → expect_token is_bar r1 ≡ None →
    whole ≡ Some (items ++ row ∷ [], r1)
unfolding table_rows and_then
rows_stop inner columns n at items ts h below e bar =
    h ∙ ap (λ k. prepend items (table_rows inner columns k ts)) (turn_left n at below) ∙ rw (e, bar) refl

pub rows_fail : {whole : Parsed (List (List Expr × List Expr))} (inner : Inner) (columns n at : ℕ) (items : List (List Expr × List Expr)) (ts : List Placed) →
    whole ≡ prepend items (table_rows inner columns (n - at) ts) → at < n → table_row inner columns ts ≡ None → whole ≡ None
unfolding table_rows and_then
rows_fail inner columns n at items ts h below e =
    h ∙ ap (λ k. prepend items (table_rows inner columns k ts)) (turn_left n at below) ∙ rw e refl

pub rows_end : {whole : Parsed (List (List Expr × List Expr))} (inner : Inner) (columns n at : ℕ) (items : List (List Expr × List Expr)) (ts : List Placed) →
    whole ≡ prepend items (table_rows inner columns (n - at) ts) → n ≤ at → whole ≡ None
unfolding table_rows and_then
rows_end inner columns n at items ts h done =
    let none : n - at ≡ 0 = omega arith in
    h ∙ ap (λ k. prepend items (table_rows inner columns k ts)) none

-- the lists as loops read them

pub rows_begin : (inner : Inner) (columns : ℕ) (rows : List (List Expr × List Expr)) (turns : ℕ) (ts : List Placed) → rows ≡ [] →
    table_rows inner columns turns ts ≡ prepend rows (table_rows inner columns (turns - 0) ts)
rows_begin inner columns rows turns ts k = let all : turns - 0 ≡ turns = omega arith in rw (all, k) (begun (table_rows inner columns turns ts))
