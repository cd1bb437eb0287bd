-- A name is bound around an index, or by it.
use Rattle.std.proofs.Common.{sym, ◌∙◌}
use Rattle.zim_static.proofs.AroundLaws.{bound_by_it, not_bound, has_parameter}
use Rattle.zim_static.proofs.around.Around.+has.Goals as goal

pub returns-else-is_declared : goal.returns-else-is_declared
returns-else-is_declared t c =
    c.is_among.ensures
    ∙ sym (bound_by_it c.args.scope.now c.args.self.now c.in-Index.items c.in-Index.outer c.args.name.now c.in-Index.is (sym c.has.ensures ∙ c.if-has.false) (sym c.is_declared.ensures ∙ c.if-is_declared.false))

pub returns-then-is_declared : goal.returns-then-is_declared
returns-then-is_declared t c =
    sym (not_bound c.args.scope.now c.args.self.now c.in-Index.items c.in-Index.outer c.args.name.now c.in-Index.is (sym c.has.ensures ∙ c.if-has.false) (sym c.is_declared.ensures ∙ c.if-is_declared.true))

pub returns-in-Parameters : goal.returns-in-Parameters
returns-in-Parameters t c = simp (c.in-Parameters.is, has_parameter c.args.scope.now c.in-Parameters.parameters c.args.name.now, c.is_parameter.ensures)
