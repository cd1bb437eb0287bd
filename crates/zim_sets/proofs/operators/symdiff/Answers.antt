use Rattle.std.proofs.Common.{◌≡◌, ◌∙◌, sym, false, refl, []}
use Rattle.std.proofs.lemmas.Result.{err_from_is_err_and}
use Rattle.std.specs.Bool.{beq}
use Rattle.zim_answer.proofs.GivesLemmas.{Stops-equal}
use Rattle.zim_answer.specs.Answer.{goes}
use Rattle.zim_sets.proofs.JoinLaws.{symdiff_stops, symdiff_rest, unlike_symdiff}
use Rattle.zim_sets.specs.Causes.{set_cause}
use Rattle.zim_sets.specs.Insertion.{inserted_where}
use Rattle.zim_sets.specs.Operators.{symdiff_of}
use Rattle.zim_sets.specs.Sets.{has}
use Rattle.zim_sets.proofs.operators.symdiff.Goals as goal

pub returns-then-not-is_alike : goal.returns-then-not-is_alike
returns-then-not-is_alike c = unlike_symdiff c.args.a.now c.args.b.now (sym c.is_alike.ensures.answer ∙ c.if-not-is_alike.true)

pub returns-in_err-extend_where : goal.returns-in_err-extend_where
returns-in_err-extend_where c =
    let p = err_from_is_err_and c.from_residual.result c.from_residual.ensures.1 in
    let step = inserted_where (λ t. beq (has c.args.b.now t) false) in
    let half : goes step c.new-apart.result c.as_slice.result.now ≡ goes step [] c.args.a.now = rw (c.new-apart.ensures, c.as_slice.ensures.value) refl in
    rw (p.1, p.2) (symdiff_stops c.args.a.now c.args.b.now (set_cause c.in_err-extend_where.field-0.0) c.is_alike.ensures.first (sym c.is_alike.ensures.answer ∙ c.if-not-is_alike.false)
    (Stops-equal (goes step c.new-apart.result c.as_slice.result.now) (goes step [] c.args.a.now) (set_cause c.in_err-extend_where.field-0.0) half c.in_err-extend_where.ensures))

pub returns-in_err-extend_where-2 : goal.returns-in_err-extend_where-2
returns-in_err-extend_where-2 c =
    let p = err_from_is_err_and c.from_residual-in_err-extend_where-2.result c.from_residual-in_err-extend_where-2.ensures.1 in
    let step = inserted_where (λ t. beq (has c.args.b.now t) false) in
    let next = inserted_where (λ t. beq (has c.args.a.now t) false) in
    let half : goes step c.new-apart.result c.as_slice.result.now ≡ goes step [] c.args.a.now = rw (c.new-apart.ensures, c.as_slice.ensures.value) refl in
    let rest = symdiff_rest c.args.a.now c.args.b.now c.extend_where.new.made c.is_alike.ensures.first c.is_alike.ensures.second (sym c.is_alike.ensures.answer ∙ c.if-not-is_alike.false) (sym half ∙ c.in_ok-extend_where.ensures) in
    let same : goes next c.extend_where.new.made c.as_slice-2.result.now ≡ symdiff_of c.args.a.now c.args.b.now = rw c.as_slice-2.ensures.value rest in
    rw (p.1, p.2) (Stops-equal (goes next c.extend_where.new.made c.as_slice-2.result.now) (symdiff_of c.args.a.now c.args.b.now) (set_cause c.in_err-extend_where-2.field-0.0) same c.in_err-extend_where-2.ensures)

pub returns : goal.returns
returns c =
    let step = inserted_where (λ t. beq (has c.args.b.now t) false) in
    let next = inserted_where (λ t. beq (has c.args.a.now t) false) in
    let half : goes step c.new-apart.result c.as_slice.result.now ≡ goes step [] c.args.a.now = rw (c.new-apart.ensures, c.as_slice.ensures.value) refl in
    let rest = symdiff_rest c.args.a.now c.args.b.now c.extend_where.new.made c.is_alike.ensures.first c.is_alike.ensures.second (sym c.is_alike.ensures.answer ∙ c.if-not-is_alike.false) (sym half ∙ c.in_ok-extend_where.ensures) in
    let same : goes next c.extend_where.new.made c.as_slice-2.result.now ≡ symdiff_of c.args.a.now c.args.b.now = rw c.as_slice-2.ensures.value rest in
    sym same ∙ c.in_ok-extend_where-2.ensures
