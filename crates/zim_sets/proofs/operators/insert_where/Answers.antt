use Rattle.std.proofs.Common.{◌∙◌, sym, ap}
use Rattle.std.proofs.lemmas.Result.{err_from_is_err_and}
use Rattle.std.specs.Bool.{beq}
use Rattle.zim_answer.proofs.GivesLemmas.{Stops-equal}
use Rattle.zim_sets.proofs.JoinLaws.{where_wanted, where_unwanted}
use Rattle.zim_sets.specs.Causes.{set_cause}
use Rattle.zim_sets.specs.Insertion.{inserted, inserted_where}
use Rattle.zim_sets.specs.Sets.{has}
use Rattle.zim_sets.proofs.operators.insert_where.Goals as goal

pub returns-in_err-insert : goal.returns-in_err-insert
returns-in_err-insert c =
    let p = err_from_is_err_and c.from_residual-in_err-insert.result c.from_residual-in_err-insert.ensures.1 in
    let wanted = where_wanted (λ t. beq (has c.args.other.now t) c.args.wanted) c.args.made.now c.args.tuple.now (ap (λ r. beq r c.args.wanted) (sym c.contains.ensures) ∙ c.if-contains-wanted.true) in
    rw (p.1, p.2) (Stops-equal (inserted c.args.made.now c.in_ok-copy.field-0) (inserted_where (λ t. beq (has c.args.other.now t) c.args.wanted) c.args.made.now c.args.tuple.now) (set_cause c.in_err-insert.field-0.0) (ap (inserted c.args.made.now) c.in_ok-copy.ensures ∙ sym wanted) c.in_err-insert.ensures.answer)

pub returns-in_ok-insert : goal.returns-in_ok-insert
returns-in_ok-insert c =
    where_wanted (λ t. beq (has c.args.other.now t) c.args.wanted) c.args.made.now c.args.tuple.now (ap (λ r. beq r c.args.wanted) (sym c.contains.ensures) ∙ c.if-contains-wanted.true)
    ∙ ap (inserted c.args.made.now) (sym c.in_ok-copy.ensures) ∙ c.in_ok-insert.ensures.answer

pub returns-else-contains-wanted : goal.returns-else-contains-wanted
returns-else-contains-wanted c =
    where_unwanted (λ t. beq (has c.args.other.now t) c.args.wanted) c.args.made.now c.args.tuple.now (ap (λ r. beq r c.args.wanted) (sym c.contains.ensures) ∙ c.if-contains-wanted.false)
