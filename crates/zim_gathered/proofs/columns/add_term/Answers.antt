-- The tree holds the terms with one more, or the sum of the coefficients stops the call.
use Rattle.std.proofs.Common.{IsTrue, IsFalse, sym, ap, ◌∙◌}
use Rattle.std.proofs.lemmas.Result.{err_from_is_err_and}
use Rattle.zim_rational.specs.Rational.{zero, same}
use Rattle.zim_gathered.proofs.TermLemmas.{Holds, added_stops, holds_put, holds_out, ordered_after, added_after}
use Rattle.zim_gathered.proofs.columns.add_term.Goals as goal

pub returns-in_err-sum-clause-sum : goal.returns-in_err-sum-clause-sum
returns-in_err-sum-clause-sum c =
    let p = err_from_is_err_and c.from_residual.result c.from_residual.ensures.1 in
    rw (p.1, p.2) (added_stops c.args.term.now c.args.coefficients.now.entries _ c.requires c.in_err-sum.ensures)

out : (c : goal.After-remove) → Holds c.args.term.now c.args.coefficients.now.entries c.remove.new.self.entries
out c =
    let none : IsTrue (same c.in_ok-sum.sum zero) = sym (c.same_number.ensures ∙ ap (same c.in_ok-sum.sum) c.zero.ensures) ∙ c.if-same_number.true in
    holds_out c.args.term.now c.args.coefficients.now.entries _ c.in_ok-sum.sum c.requires c.in_ok-sum.ensures none c.remove.ensures.entries

pub returns-then-same_number-clause-ordered : goal.returns-then-same_number-clause-ordered
returns-then-same_number-clause-ordered c = ordered_after c.args.term.now c.args.coefficients.now.entries _ c.requires (out c)

pub returns-then-same_number-clause-sum : goal.returns-then-same_number-clause-sum
returns-then-same_number-clause-sum c =
    added_after c.args.term.now c.args.coefficients.now.entries _ c.in_ok-sum.sum c.requires c.in_ok-sum.ensures (out c)

pub returns-in_ok-insert-clause-ordered : goal.returns-in_ok-insert-clause-ordered
returns-in_ok-insert-clause-ordered c =
    let some : IsFalse (same c.in_ok-sum.sum zero) = sym (c.same_number.ensures ∙ ap (same c.in_ok-sum.sum) c.zero.ensures) ∙ c.if-same_number.false in
    ordered_after c.args.term.now c.args.coefficients.now.entries _ c.requires (holds_put c.args.term.now c.args.coefficients.now.entries _ c.in_ok-sum.sum c.requires c.in_ok-sum.ensures some c.in_ok-insert.ensures.entries)

pub returns-in_ok-insert-clause-sum : goal.returns-in_ok-insert-clause-sum
returns-in_ok-insert-clause-sum c =
    let some : IsFalse (same c.in_ok-sum.sum zero) = sym (c.same_number.ensures ∙ ap (same c.in_ok-sum.sum) c.zero.ensures) ∙ c.if-same_number.false in
    added_after c.args.term.now c.args.coefficients.now.entries _ c.in_ok-sum.sum c.requires c.in_ok-sum.ensures (holds_put c.args.term.now c.args.coefficients.now.entries _ c.in_ok-sum.sum c.requires c.in_ok-sum.ensures some c.in_ok-insert.ensures.entries)
