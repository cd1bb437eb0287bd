-- The left form, the right one over the system that grew, and their difference.
use Rattle.std.proofs.lemmas.Result.{err_from_is_err_and}
use Rattle.zim_cond.proofs.CompareCallLemmas.{right_over, left_stops, right_stops, difference_gives, difference_past}
use Rattle.zim_cond.proofs.comparisons.difference.Goals as goal

pub form_of-requires-2 : goal.form_of-requires-2
form_of-requires-2 c = right_over c.args.from.statement c.args.left.now c.args.right.now c.in_ok-f.f c.args.system.now c.form_of.new.system c.valid.ensures c.requires.left c.requires.right c.in_ok-f.ensures.steps

pub returns-in_err-f : goal.returns-in_err-f
returns-in_err-f c =
    let p = err_from_is_err_and c.from_residual.result c.from_residual.ensures.1 in
    rw (p.1, p.2) (left_stops c.args.from.statement c.args.from.place c.args.left.now c.args.right.now c.args.system.now _ c.in_err-f.ensures.steps)

pub returns-in_err-g : goal.returns-in_err-g
returns-in_err-g c =
    let p = err_from_is_err_and c.from_residual-in_err-g.result c.from_residual-in_err-g.ensures.1 in
    rw (p.1, p.2) (right_stops c.args.from.statement c.args.from.place c.args.left.now c.args.right.now c.in_ok-f.f c.args.system.now c.form_of.new.system _ c.in_ok-f.ensures.steps c.in_err-g.ensures.steps)

pub returns-in-Ok : goal.returns-in-Ok
returns-in-Ok c =
    difference_gives c.args.from.statement c.args.from.place c.args.left.now c.args.right.now c.in_ok-f.f c.in_ok-g.g c.in-Ok.form c.args.system.now c.form_of.new.system c.form_of-2.new.system c.in_ok-f.ensures.steps c.in_ok-g.ensures.steps c.in-Ok.ensures

pub returns : goal.returns
returns c =
    difference_past c.args.from.statement c.args.from.place c.args.left.now c.args.right.now c.in_ok-f.f c.in_ok-g.g c.args.system.now c.form_of.new.system c.form_of-2.new.system c.in-Err.fault c.past_at.result c.in_ok-f.ensures.steps c.in_ok-g.ensures.steps c.past_at.ensures c.in-Err.ensures
