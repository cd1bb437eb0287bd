-- By what ground terms and ground constraints say.
use Rattle.std.proofs.Common.{ℕ, Bool, refl, sym, ◌∙◌}
use Rattle.zim_formula.specs.GroundRules.{is_column}
use Rattle.zim_meaning.specs.World.{World}
use Rattle.zim_rational.specs.Rational.{zero}
use Rattle.zim_ground.specs.Grounding.{Columns}
use Rattle.zim_ground.proofs.ListedLaws.{term_over, constraint_over}
use Rattle.zim_ground.proofs.TermLaws.{Setting, objective_told}
use Rattle.zim_ground.proofs.ConstraintLaws.{constraint_says, suited_over}
use Rattle.zim_ground.proofs.law.ground_formulas_say_what_the_source_says.Goals as goal

-- numbers that are all 0 agree with an assignment
at_nought : World → Columns → (ℕ → Bool) → Setting
at_nought world columns passes = record { world = world; columns = columns; assigned = λ name tuple. zero; numbers = λ j. zero; passes = passes; agree = λ name tuple j found. refl }

pub returns-clause-objective : goal.returns-clause-objective
returns-clause-objective c = λ world columns a x agree t g h.
    (objective_told (record { world = world; columns = columns; assigned = a; numbers = x; passes = is_column 0; agree = agree }) t g h).number

pub returns-clause-objective_names : goal.returns-clause-objective_names
unfolding at_nought
returns-clause-objective_names c = λ world columns passes all t g h. (objective_told (at_nought world columns passes) t g h).over all

pub returns-clause-objective_over : goal.returns-clause-objective_over
unfolding at_nought
returns-clause-objective_over c = λ world columns n all t g h. sym (term_over n g) ∙ (objective_told (at_nought world columns (is_column n)) t g h).over all

pub returns-clause-constraint : goal.returns-clause-constraint
returns-clause-constraint c = λ world columns a x agree con g h.
    (constraint_says (record { world = world; columns = columns; assigned = a; numbers = x; passes = is_column 0; agree = agree }) con g h).truth

pub returns-clause-constraint_names : goal.returns-clause-constraint_names
unfolding at_nought
returns-clause-constraint_names c = λ world columns passes all scope names con suits g h. suited_over (at_nought world columns passes) con g suits all h

pub returns-clause-constraint_over : goal.returns-clause-constraint_over
unfolding at_nought
returns-clause-constraint_over c = λ world columns n all scope names con suits g h. sym (constraint_over n g) ∙ suited_over (at_nought world columns (is_column n)) con g suits all h
