-- Each turn takes one line; the lengths of what is taken and what is left add up.
use Rattle.std.proofs.Common.{subst, arith}
use Rattle.memchr.specs.Find.{IsFirstByte, is_byte}
use Rattle.zim_lex.proofs.TextLemmas.{line_fits, rest_fits, never_ends}
use Rattle.zim_lex.proofs.text.TextLines.add.Goals as goal

pub end_line-requires-clause-room : goal.end_line-requires-clause-room
end_line-requires-clause-room c =
    let found = subst (IsFirstByte (is_byte 10) c.loop-end.rest.now) c.in-Some.is c.memchr.ensures in
    line_fits c.loop-end.self c.loop-end.rest.now c.args.self.now c.args.piece.now c.in-Some.end c.loop-end.invariant c.requires found.0.high

pub overflow_add-rest : goal.overflow_add-rest
overflow_add-rest c =
    let found = subst (IsFirstByte (is_byte 10) c.loop-end.rest.now) c.in-Some.is c.memchr.ensures in
    let fits = rest_fits c.loop-end.self c.loop-end.rest.now c.args.self.now c.args.piece.now c.loop-end.invariant c.requires in
    omega (arith, fits, found.0.high)

pub go_on-requires-clause-plain : goal.go_on-requires-clause-plain
go_on-requires-clause-plain c =
    never_ends c.loop-end.rest.now (subst (IsFirstByte (is_byte 10) c.loop-end.rest.now) c.in_default.is c.memchr.ensures)

pub go_on-requires-clause-room : goal.go_on-requires-clause-room
go_on-requires-clause-room c = rest_fits c.loop-end.self c.loop-end.rest.now c.args.self.now c.args.piece.now c.loop-end.invariant c.requires
