-- One more, and the end.
use Rattle.std.proofs.Common.{◌≡◌, ℕ, ◌+◌, ◌<◌, ◌≤◌, List, [], ◌∷◌, ◌++◌, length, drop, get_or, refl, sym, ap, ◌∙◌, add-one, drop-cons}
use Rattle.std.proofs.lemmas.List.{drop_all}
use Rattle.zim_eval.specs.Private.{chosen_tuples}
use Rattle.zim_meaning.specs.declared.choices.Choice.{Choice}
use Rattle.zim_tuples.specs.declared.elements.Elem.{Elem}
use Rattle.zim_eval.proofs.IndexLemmas.{assoc, nil_right}
use Rattle.zim_eval.proofs.indices.tuples_of.Goals as goal

taken : (made : List (List Elem)) (chosen : List Choice) (i : ℕ) (item : Choice) (whole : List (List Elem)) → i < length chosen → item ≡ get_or chosen i item
    → made ++ chosen_tuples (drop i chosen) ≡ whole → (made ++ item.tuple ∷ []) ++ chosen_tuples (drop (i + 1) chosen) ≡ whole
taken made chosen i item whole lt is so_far =
    let cut : drop i chosen ≡ item ∷ drop (i + 1) chosen = rw (add-one, drop-cons chosen i item lt, sym is) refl in
    assoc made (item.tuple ∷ []) (chosen_tuples (drop (i + 1) chosen)) ∙ ap (λ cs. made ++ chosen_tuples cs) (sym cut) ∙ so_far

ended : (made : List (List Elem)) (chosen : List Choice) (i : ℕ) (whole : List (List Elem)) → length chosen ≤ i → made ++ chosen_tuples (drop i chosen) ≡ whole → made ≡ whole
ended made chosen i whole le so_far =
    let none : drop i chosen ≡ [] = drop_all i chosen le in
    sym (nil_right made) ∙ ap (λ cs. made ++ chosen_tuples cs) (sym none) ∙ so_far

pub loop-choice-init : goal.loop-choice-init
loop-choice-init c = rw c.new-tuples.ensures refl

pub loop-choice-preserved : goal.loop-choice-preserved
loop-choice-preserved c =
    rw (c.in_ok-push.ensures.ok, c.in_ok-copy.ensures)
    (taken c.loop-choice.tuples c.args.chosen.now c.loop-choice.choice-index c.choice-item.result _ c.loop-choice-test.true c.choice-item.is c.loop-choice.invariant)

pub returns : goal.returns
returns c = ended c.loop-choice.tuples c.args.chosen.now c.loop-choice.choice-index _ c.loop-choice-test.false c.loop-choice.invariant
