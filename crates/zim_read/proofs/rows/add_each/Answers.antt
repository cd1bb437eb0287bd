-- A row more, a field that gives none, and the end.
use Rattle.std.proofs.Common.{ℕ, List, [], Bor}
use Rattle.std.proofs.Math.ListN.{get_or-map}
use Rattle.std.proofs.lemmas.List.{length-map}
use Rattle.std.proofs.lemmas.Result.{err_from_is_err_and}
use Rattle.zim_answer.proofs.GoesLemmas.{goes_done}
use Rattle.zim_read.specs.Causes.{line_cause}
use Rattle.zim_read.specs.Private.{lent, with_each}
use Rattle.zim_read.specs.Rows.{with_field}
use Rattle.zim_read.proofs.LoopLemmas.{next_at, stop_at}
use Rattle.zim_read.proofs.rows.add_each.Goals as goal

pub returns-in_err-add_field : goal.returns-in_err-add_field
returns-in_err-add_field c =
    let p = err_from_is_err_and c.from_residual.result c.from_residual.ensures.1 in
    rw (p.1, p.2)
    (stop_at (with_field c.args.kind c.args.number) c.loop-field.rows (lent c.args.line.now) c.loop-field.field-index [] _ (line_cause c.in_err-add_field.field-0.0) (with_each c.args.kind c.args.number c.args.rows.now (lent c.args.line.now)) (rw length-map c.loop-field-test.true)
    (get_or-map (λ (text : Bor (List ℕ)). text.now) c.args.line.now c.loop-field.field-index (record { ref_ptr = (0, 0); now = [] })) c.in_err-add_field.ensures c.loop-field.invariant)

pub loop-field-preserved : goal.loop-field-preserved
loop-field-preserved c =
    next_at (with_field c.args.kind c.args.number) c.loop-field.rows c.add_field.new.rows (lent c.args.line.now) c.loop-field.field-index [] _ (with_each c.args.kind c.args.number c.args.rows.now (lent c.args.line.now)) (rw length-map c.loop-field-test.true)
    (get_or-map (λ (text : Bor (List ℕ)). text.now) c.args.line.now c.loop-field.field-index (record { ref_ptr = (0, 0); now = [] })) c.in_ok-add_field.ensures c.loop-field.invariant

pub returns : goal.returns
returns c =
    goes_done (with_field c.args.kind c.args.number) c.loop-field.rows (lent c.args.line.now) c.loop-field.field-index (with_each c.args.kind c.args.number c.args.rows.now (lent c.args.line.now)) (rw length-map c.loop-field-test.false) c.loop-field.invariant
