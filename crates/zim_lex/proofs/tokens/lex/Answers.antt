-- Going over the lines; what the whole gives then says what the tokens or the fault are.
use Rattle.std.proofs.Common.{refl, sym, Vec, Global}
use Rattle.zim_fault.specs.declared.tokens.Placed.{Placed}
use Rattle.std.proofs.lemmas.Result.{err_from_is_err_and}
use Rattle.zim_answer.specs.Gives.{Stops}
use Rattle.zim_answer.proofs.GoesLemmas.{goes_next, goes_done}
use Rattle.zim_answer.proofs.GivesLemmas.{Stops-goes}
use Rattle.zim_lex.specs.Causes.{lex_cause}
use Rattle.zim_lex.specs.Tokens.{with_line, tokens_of}
use Rattle.zim_lex.proofs.TokensLemmas.{tokens_are, stuck_met}
use Rattle.zim_lex.proofs.tokens.lex.Goals as goal

pub loop-line-init : goal.loop-line-init
unfolding tokens_of
loop-line-init c = rw c.new-tokens.ensures.items refl

pub returns-in_err-add_line-clause-stuck : goal.returns-in_err-add_line-clause-stuck
returns-in_err-add_line-clause-stuck c =
    let p = err_from_is_err_and c.from_residual.result c.from_residual.ensures.1 in
    let stops : Stops (tokens_of c.args.lines.now) (lex_cause c.in_err-add_line.field-0.0) =
    Stops-goes with_line c.loop-line.tokens.items c.args.lines.now c.loop-line.line-index c.line-item.result (lex_cause c.in_err-add_line.field-0.0) (tokens_of c.args.lines.now) c.loop-line-test.true (sym c.line-item.is) c.in_err-add_line.ensures c.loop-line.invariant in
    rw (p.1, p.2) (stuck_met (Vec Placed Global) c.args.lines.now c.in_err-add_line.field-0.0 stops)

pub returns-in_err-add_line-clause-exact : goal.returns-in_err-add_line-clause-exact
returns-in_err-add_line-clause-exact c =
    let p = err_from_is_err_and c.from_residual.result c.from_residual.ensures.1 in
    rw (p.1, p.2) (Stops-goes with_line c.loop-line.tokens.items c.args.lines.now c.loop-line.line-index c.line-item.result (lex_cause c.in_err-add_line.field-0.0) (tokens_of c.args.lines.now) c.loop-line-test.true (sym c.line-item.is) c.in_err-add_line.ensures c.loop-line.invariant)

pub loop-line-preserved : goal.loop-line-preserved
loop-line-preserved c =
    goes_next with_line c.loop-line.tokens.items c.add_line.new.tokens.items c.args.lines.now c.loop-line.line-index c.line-item.result (tokens_of c.args.lines.now) c.loop-line-test.true (sym c.line-item.is) c.in_ok-add_line.ensures c.loop-line.invariant

pub returns-clause-tokens : goal.returns-clause-tokens
returns-clause-tokens c =
    tokens_are c.args.lines.now c.loop-line.tokens.items (goes_done with_line c.loop-line.tokens.items c.args.lines.now c.loop-line.line-index (tokens_of c.args.lines.now) c.loop-line-test.false c.loop-line.invariant)

pub returns-clause-exact : goal.returns-clause-exact
returns-clause-exact c = goes_done with_line c.loop-line.tokens.items c.args.lines.now c.loop-line.line-index (tokens_of c.args.lines.now) c.loop-line-test.false c.loop-line.invariant
