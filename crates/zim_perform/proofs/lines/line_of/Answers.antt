-- What the items print, and the line's end.
use Rattle.std.proofs.Common.{◌≡◌, ℕ, List, Ok, sym, ap, ◌∙◌, subst}
use Rattle.zim_answer.specs.Gives.{Stops}
use Rattle.zim_eval.specs.Causes.{eval_cause}
use Rattle.zim_perform.specs.Private.{items_output}
use Rattle.zim_perform.proofs.LineLemmas.{line_ended, line_stops}
use Rattle.zim_perform.proofs.lines.line_of.Goals as goal

pub returns-in_ok-push-in-Ok : goal.returns-in_ok-push-in-Ok
returns-in_ok-push-in-Ok c =
    line_ended c.args.world.now c.args.env.now c.args.items.now c.put_items.new.line (subst (λ (t : List ℕ). items_output c.args.world.now c.args.env.now t c.args.items.now ≡ Ok c.put_items.new.line) c.new-line.ensures c.in-Ok.ensures)
    ∙ ap Ok (sym c.in_ok-push-in-Ok.ensures.ok)

pub returns-in-Err : goal.returns-in-Err
returns-in-Err c =
    line_stops c.args.world.now c.args.env.now c.args.items.now (eval_cause c.in-Err.stop) (subst (λ (t : List ℕ). Stops (items_output c.args.world.now c.args.env.now t c.args.items.now) (eval_cause c.in-Err.stop)) c.new-line.ensures c.in-Err.ensures)
