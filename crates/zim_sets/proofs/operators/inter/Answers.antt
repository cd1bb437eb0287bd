use Rattle.std.proofs.Common.{◌≡◌, ◌∙◌, sym, true}
use Rattle.std.proofs.lemmas.Result.{err_from_is_err_and}
use Rattle.std.specs.Bool.{beq}
use Rattle.zim_answer.proofs.GivesLemmas.{Stops-equal}
use Rattle.zim_answer.specs.Answer.{goes}
use Rattle.zim_sets.proofs.JoinLaws.{inter_made, unlike_inter}
use Rattle.zim_sets.specs.Causes.{set_cause}
use Rattle.zim_sets.specs.Insertion.{inserted_where}
use Rattle.zim_sets.specs.Operators.{inter_of}
use Rattle.zim_sets.specs.Sets.{has}
use Rattle.zim_sets.proofs.operators.inter.Goals as goal

pub returns-then-not-is_alike : goal.returns-then-not-is_alike
returns-then-not-is_alike c = unlike_inter c.args.a.now c.args.b.now (sym c.is_alike.ensures.answer ∙ c.if-not-is_alike.true)

pub returns-in_err-extend_where : goal.returns-in_err-extend_where
returns-in_err-extend_where c =
    let p = err_from_is_err_and c.from_residual.result c.from_residual.ensures.1 in
    let step = inserted_where (λ t. beq (has c.args.b.now t) true) in
    let made = inter_made c.args.a.now c.args.b.now c.is_alike.ensures.first (sym c.is_alike.ensures.answer ∙ c.if-not-is_alike.false) in
    let same : goes step c.new-made.result c.as_slice.result.now ≡ inter_of c.args.a.now c.args.b.now = rw (c.new-made.ensures, c.as_slice.ensures.value) made in
    rw (p.1, p.2) (Stops-equal (goes step c.new-made.result c.as_slice.result.now) (inter_of c.args.a.now c.args.b.now) (set_cause c.in_err-extend_where.field-0.0) same c.in_err-extend_where.ensures)

pub returns : goal.returns
returns c =
    let step = inserted_where (λ t. beq (has c.args.b.now t) true) in
    let made = inter_made c.args.a.now c.args.b.now c.is_alike.ensures.first (sym c.is_alike.ensures.answer ∙ c.if-not-is_alike.false) in
    let same : goes step c.new-made.result c.as_slice.result.now ≡ inter_of c.args.a.now c.args.b.now = rw (c.new-made.ensures, c.as_slice.ensures.value) made in
    sym same ∙ c.in_ok-extend_where.ensures
