-- The step by its numbers, and past where one of them is.
use Rattle.zim_logic_rows.proofs.TruthStepLemmas.{truth_past, truth_gives}
use Rattle.zim_logic_rows.proofs.truth.truth_step.Goals as goal

pub returns-in-Err : goal.returns-in-Err
returns-in-Err c = truth_past c.args.from c.args.t.now c.args.c c.args.b (record {}) c.in-Err.ensures

pub returns : goal.returns
returns c = truth_gives c.args.from c.args.t.now c.args.c c.args.b c.in-Ok.numbers _ c.in-Ok.ensures c.in_ok-truth_rows.ensures
