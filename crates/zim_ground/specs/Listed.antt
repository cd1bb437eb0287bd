-- Which columns a ground formula names, that no divisor in it is 0, and that a constraint compares as rows do: all of its columns pass a test.
use Rattle.std.specs.Prelude.{ℕ, Bool, true, ◌&&◌}
use Rattle.zim_formula.specs.Ground.{all_hold, otherwise_holds}
use Rattle.zim_formula.specs.GroundRules.{divides, operands_hold, joined_hold, is_row_relation, is_range_relation}
use Rattle.zim_formula.specs.declared.ground.GTerm.{GTerm, GTerm-F, fold-GTerm}
use Rattle.zim_formula.specs.declared.ground.GCond.{GCond, GCond-F, fold-GCond}
use Rattle.zim_formula.specs.declared.ground.GCon.{GCon, GCon-F, fold-GCon}

-- the columns of a term pass a test and it divides by no 0, where its parts do
abbrev pub term_passes_step : (ℕ → Bool) → GTerm-F Bool → Bool
term_passes_step passes (GTerm-F.Known q) = true
term_passes_step passes (GTerm-F.Column j) = passes j
term_passes_step passes (GTerm-F.Sum first others) = first && operands_hold others
term_passes_step passes (GTerm-F.Product factor term others) = term && divides others
term_passes_step passes (GTerm-F.Minus place term) = term
term_passes_step passes (GTerm-F.SumOver place terms) = all_hold terms
term_passes_step passes (GTerm-F.Abs place term) = term

-- each column of a term passes a test, and no divisor in it is 0
abbrev pub term_passes : (ℕ → Bool) → GTerm → Bool
term_passes passes = fold-GTerm Bool (term_passes_step passes)

-- the columns of a condition pass a test and it divides by no 0, where its parts do
abbrev pub condition_passes_step : (ℕ → Bool) → GCond-F Bool → Bool
condition_passes_step passes (GCond-F.Known truth) = true
condition_passes_step passes (GCond-F.Compare place relation left right) = term_passes passes left && term_passes passes right
condition_passes_step passes (GCond-F.Chain first others) = first && joined_hold others
condition_passes_step passes (GCond-F.Not place operand) = operand

-- each column of a condition passes a test, and no divisor in it is 0
abbrev pub condition_passes : (ℕ → Bool) → GCond → Bool
condition_passes passes = fold-GCond Bool (condition_passes_step passes)

-- the columns of a constraint pass a test, it divides by no 0 and compares as rows do, where its parts do
abbrev pub constraint_passes_step : (ℕ → Bool) → GCon-F Bool → Bool
constraint_passes_step passes (GCon-F.Compare place relation left right) = is_row_relation relation && term_passes passes left && term_passes passes right
constraint_passes_step passes (GCon-F.Range place relation first term last) = is_range_relation relation && term_passes passes term
constraint_passes_step passes (GCon-F.And parts) = all_hold parts
constraint_passes_step passes (GCon-F.Vif place test first otherwise) = condition_passes passes test && first && otherwise_holds otherwise

-- each column of a constraint passes a test, no divisor in it is 0, and it compares as rows do
abbrev pub constraint_passes : (ℕ → Bool) → GCon → Bool
constraint_passes passes = fold-GCon Bool (constraint_passes_step passes)
