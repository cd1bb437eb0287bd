-- A first text, and further ones behind commas.
use Rattle.std.proofs.Common.{ℕ, List, ◌++◌, ap, ◌∙◌}
use Rattle.std.specs.Prelude.{flat_map, map}
use Rattle.std.proofs.lemmas.Result.{IfOk-equal}
use Rattle.zim_meaning.specs.Printing.{element_output, with_between}
use Rattle.zim_perform.specs.Private.{behind_commas}
use Rattle.zim_perform.proofs.TextLemmas.{first_and_further}
use Rattle.zim_perform.proofs.texts.put_elements.Goals as goal

pub returns-in_ok-put_element-in-Some : goal.returns-in_ok-put_element-in-Some
returns-in_ok-put_element-in-Some c =
    IfOk-equal c.put_further_elements.result c.put_further_elements.new.to (c.put_element.new.to ++ flat_map (behind_commas element_output) c.in-Some.further.now) (c.args.to.now ++ with_between 44 (map element_output c.args.elements.now)) c.put_further_elements.ensures
    (ap (λ (t : List ℕ). t ++ flat_map (behind_commas element_output) c.in-Some.further.now) (c.in_ok-put_element-in-Some.ensures) ∙ first_and_further element_output c.args.elements.now c.in-Some.first.now c.in-Some.further.now c.args.to.now c.in-Some.ensures.cases.0)
