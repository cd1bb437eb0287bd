-- One component more, a fault, and the end.
use Rattle.std.proofs.Common.{◌≡◌, ◌∷◌, ◌++◌, [], Ok, sym, ap, subst}
use Rattle.std.proofs.lemmas.Result.{err_from_is_err_and}
use Rattle.zim_answer.specs.Answer.{◌>>=◌, goes}
use Rattle.zim_answer.specs.Gives.{Stops}
use Rattle.zim_answer.proofs.GivesLemmas.{Stops-goes}
use Rattle.zim_answer.proofs.GoesLemmas.{goes_next, goes_done}
use Rattle.zim_eval.specs.Causes.{eval_cause}
use Rattle.zim_fault.specs.declared.faults.Place.{Place}
use Rattle.zim_meaning.specs.Expressions.{component, tuple_of_parts, with_component}
use Rattle.zim_meaning.specs.Operations.{element_of_value}
use Rattle.zim_meaning.specs.Statements.{const_known}
use Rattle.zim_meaning.specs.Value.{value}
use Rattle.zim_meaning.specs.World.{at_place}
use Rattle.zim_perform.specs.Private.{tuple_printed}
use Rattle.zim_perform.proofs.lines.tuple_of.Goals as goal

pub loop-tree-init : goal.loop-tree-init
unfolding tuple_of_parts
loop-tree-init c = ap (λ made. goes (with_component (const_known c.args.world.now) c.args.env.now) made c.args.trees.now) c.new-made.ensures

pub returns-in_err-add_component : goal.returns-in_err-add_component
unfolding component
returns-in_err-add_component c =
    let p = err_from_is_err_and c.from_residual.result c.from_residual.ensures.1 in
    rw (p.1, p.2)
    (Stops-goes (with_component (const_known c.args.world.now) c.args.env.now) c.loop-tree.made c.args.trees.now c.loop-tree.tree-index c.tree-item.result (eval_cause c.in_err-add_component.field-0.0) (tuple_printed c.args.world.now c.args.env.now c.args.trees.now) c.loop-tree-test.true (sym c.tree-item.is)
    (subst (λ (p : Place). Stops ((value c.args.world.now c.args.env.now c.tree-item.result >>= λ v. at_place p (element_of_value v)) >>= λ next. Ok (c.loop-tree.made ++ next ∷ [])) (eval_cause c.in_err-add_component.field-0.0)) c.first_place.ensures (c.in_err-add_component.ensures (value c.args.world.now c.args.env.now c.tree-item.result) c.value.ensures)) c.loop-tree.invariant)

pub loop-tree-preserved : goal.loop-tree-preserved
unfolding component
loop-tree-preserved c =
    goes_next (with_component (const_known c.args.world.now) c.args.env.now) c.loop-tree.made c.add_component.new.made c.args.trees.now c.loop-tree.tree-index c.tree-item.result (tuple_printed c.args.world.now c.args.env.now c.args.trees.now) c.loop-tree-test.true (sym c.tree-item.is)
    (subst (λ (p : Place). ((value c.args.world.now c.args.env.now c.tree-item.result >>= λ v. at_place p (element_of_value v)) >>= λ next. Ok (c.loop-tree.made ++ next ∷ [])) ≡ Ok c.add_component.new.made) c.first_place.ensures (c.in_ok-add_component.ensures (value c.args.world.now c.args.env.now c.tree-item.result) c.value.ensures)) c.loop-tree.invariant

pub returns : goal.returns
returns c = goes_done (with_component (const_known c.args.world.now) c.args.env.now) c.loop-tree.made c.args.trees.now c.loop-tree.tree-index (tuple_printed c.args.world.now c.args.env.now c.args.trees.now) c.loop-tree-test.false c.loop-tree.invariant
