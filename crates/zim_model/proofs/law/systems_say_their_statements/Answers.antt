-- From the laws of the layers below.
use Rattle.zim_model.proofs.StepLemmas.{statements_said}
use Rattle.zim_model.proofs.law.systems_say_their_statements.Goals as goal

pub returns : goal.returns
returns c = λ statements e order h. statements_said (record {
  constraints = c.constraints_are_asked.ensures;
  terms = c.terms_are_forms.ensures;
  truth = c.ground_formulas_say_what_the_source_says.ensures.constraint;
  constraint_over = c.ground_formulas_say_what_the_source_says.ensures.constraint_over;
  number = c.ground_formulas_say_what_the_source_says.ensures.objective;
  term_over = c.ground_formulas_say_what_the_source_says.ensures.objective_over;
}) statements e order h
