-- What follows the tuples that were answered.
use Rattle.std.proofs.Common.{◌≡◌, List, Result, Ok, Err, refl, subst}
use Rattle.zim_answer.specs.Answer.{Answer, ◌>>=◌}
use Rattle.zim_answer.specs.Gives.{Gives}
use Rattle.zim_eval.specs.Causes.{eval_cause}
use Rattle.zim_fault.specs.declared.faults.Fault.{Fault}
use Rattle.zim_fault.specs.declared.faults.Place.{Place}
use Rattle.zim_fault.specs.declared.kinds.Kind.{Kind}
use Rattle.zim_meaning.specs.Operations.{set_or_fault}
use Rattle.zim_meaning.specs.World.{at_place}
use Rattle.zim_meaning.specs.declared.values.Value.{Value}
use Rattle.zim_meaning.specs.declared.values.Value.TheVariants as of_value
use Rattle.zim_sets.specs.Listing.{set_listed}
use Rattle.zim_tuples.specs.declared.elements.Elem.{Elem}
use Rattle.zim_eval.proofs.FollowLemmas.{behind}
use Rattle.zim_eval.proofs.steps.listed_of.Goals as goal

as_value : (place : Place) (a : Result (List (List Elem)) Kind) → at_place place (set_or_fault a) ≡ (at_place place a >>= λ s. Ok (of_value.Set s))
as_value place (Ok s) = refl
as_value place (Err kind) = refl

pub returns-in-Ok : goal.returns-in-Ok
returns-in-Ok c = λ a h.
    behind (λ v. v) a (λ ts. at_place c.args.place (set_listed ts) >>= λ s. Ok (of_value.Set s)) c.in-Ok.tuples c.as_slice.result.now c.args.tuples c.placed.result h c.in-Ok.is c.as_slice.ensures
    (subst (λ (w : Answer Value Fault). Gives (λ v. v) eval_cause w c.placed.result) (as_value c.args.place (set_listed c.as_slice.result.now))
    (c.placed.ensures (set_or_fault (set_listed c.as_slice.result.now)) (c.set_or_stop.ensures (set_listed c.as_slice.result.now) c.set_of_list.ensures)))
