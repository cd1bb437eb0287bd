-- A first text, and further ones behind commas.
use Rattle.std.proofs.Common.{ℕ, List, ◌++◌, ap, ◌∙◌}
use Rattle.std.specs.Prelude.{flat_map, map}
use Rattle.std.proofs.lemmas.Result.{IfOk-equal}
use Rattle.zim_meaning.specs.Printing.{tuple_output, with_between}
use Rattle.zim_perform.specs.Private.{behind_commas}
use Rattle.zim_perform.proofs.TextLemmas.{first_and_further}
use Rattle.zim_perform.proofs.texts.put_tuples.Goals as goal
use Rattle.zim_tuples.specs.declared.elements.Elem.{Elem}

pub returns-in_ok-put_tuple-in-Some : goal.returns-in_ok-put_tuple-in-Some
returns-in_ok-put_tuple-in-Some c =
    IfOk-equal c.put_further_tuples.result c.put_further_tuples.new.to (c.put_tuple.new.to ++ flat_map (behind_commas tuple_output) c.in-Some.further.now) (c.args.to.now ++ with_between 44 (map tuple_output c.args.tuples.now)) c.put_further_tuples.ensures
    (ap (λ (t : List ℕ). t ++ flat_map (behind_commas tuple_output) c.in-Some.further.now) (c.in_ok-put_tuple-in-Some.ensures ∙ ap (λ (t : List Elem). c.args.to.now ++ tuple_output t) c.as_slice.ensures) ∙ first_and_further tuple_output c.args.tuples.now c.in-Some.first.now c.in-Some.further.now c.args.to.now c.in-Some.ensures.cases.0)
