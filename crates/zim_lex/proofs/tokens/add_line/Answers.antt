-- Each turn takes one piece from the front of what is left.
use Rattle.std.proofs.Common.{◌≡◌, ◌<◌, ◌∙◌, sym, ap, Err, Some, None, length, drop}
use Rattle.zim_fault.specs.declared.kinds.Kind.{Kind}
use Rattle.zim_lex.specs.Cut.{longest}
use Rattle.zim_lex.proofs.FrontLemmas.{no_bytes, some_bytes}
use Rattle.zim_lex.proofs.LineLemmas.{line_left, with_bytes-turn, with_bytes-stuck, with_bytes-done, fewer_left, piece_in, is_front}
use Rattle.zim_lex.proofs.tokens.add_line.Goals as goal

pub loop-rest-init : goal.loop-rest-init
loop-rest-init c = rw c.as_slice-rest.ensures (sym (line_left c.args.tokens.now.items c.args.line.now))

pub returns-in_default : goal.returns-in_default
returns-in_default c =
    let none : longest c.loop-rest.rest.now ≡ None = sym c.piece_length.ensures ∙ c.in_default.is in
    sym c.loop-rest.invariant
    ∙ with_bytes-stuck c.loop-rest.tokens.items c.args.line.now.place c.loop-rest.rest.now (some_bytes c.loop-rest.rest.now c.is_empty.result c.is_empty.ensures c.loop-rest-test.true) none
    ∙ ap (λ (kind : Kind). Err (record { place = c.args.line.now.place; kind = kind })) (sym c.stuck_at-kind.ensures)

pub split_at-requires : goal.split_at-requires
split_at-requires c = piece_in c.loop-rest.rest.now c.in-Some.length (sym c.piece_length.ensures ∙ c.in-Some.is)

pub add_piece-requires : goal.add_piece-requires
add_piece-requires c = rw c.split_at.ensures.front (is_front c.loop-rest.rest.now c.in-Some.length (sym c.piece_length.ensures ∙ c.in-Some.is))

pub loop-rest-smaller : goal.loop-rest-smaller
loop-rest-smaller c =
    let fewer : length (drop c.in-Some.length c.loop-rest.rest.now) < length c.loop-rest.rest.now = fewer_left c.loop-rest.rest.now c.in-Some.length (sym c.piece_length.ensures ∙ c.in-Some.is) in
    rw c.split_at.ensures.back fewer

pub loop-rest-preserved : goal.loop-rest-preserved
loop-rest-preserved c =
    let found : longest c.loop-rest.rest.now ≡ Some c.in-Some.length = sym c.piece_length.ensures ∙ c.in-Some.is in
    rw (c.in_ok-add_piece.ensures, c.split_at.ensures.front, c.split_at.ensures.back)
    (sym (with_bytes-turn c.loop-rest.tokens.items c.args.line.now.place c.loop-rest.rest.now c.in-Some.length found) ∙ c.loop-rest.invariant)

pub returns : goal.returns
returns c =
    sym c.loop-rest.invariant
    ∙ with_bytes-done c.loop-rest.tokens.items c.args.line.now.place c.loop-rest.rest.now (no_bytes c.loop-rest.rest.now c.is_empty.result c.is_empty.ensures c.loop-rest-test.false)
