-- What is finished is the scaled program, which has the points of the system and whose parts are as they must be.
use Rattle.std.proofs.Common.{ap₂, ◌∙◌}
use Rattle.zim_rows.specs.Entries.{entries_by_column}
use Rattle.zim_rows.proofs.FinishLemmas.{finishing, over_rows, program_is, points_are, objective_is, covered_are}
use Rattle.zim_rows.proofs.system.System.finish.Goals as goal

pub list_entries-requires-clause-rows : goal.list_entries-requires-clause-rows
list_entries-requires-clause-rows c =
    over_rows
    _
    _
    _
    _
    _
    _
    (finishing _ _ _ _ _ _ _ _ _ _ _ c.self.invariant c.self.view_is c.as_slice.ensures c.in_ok-rows.ensures c.in_ok-target.ensures c.as_slice-2.ensures.value c.as_slice-3.ensures c.in_ok-columns.ensures.columns c.in_ok-columns.ensures.within)
    c.len.ensures
    c.as_slice-4.ensures

pub invariant_of-result : goal.invariant_of-result
invariant_of-result c = record {
  program = program_is _ _ _ _ (finishing _ _ _ _ _ _ _ _ _ _ _ c.self.invariant c.self.view_is c.as_slice.ensures c.in_ok-rows.ensures c.in_ok-target.ensures c.as_slice-2.ensures.value c.as_slice-3.ensures c.in_ok-columns.ensures.columns c.in_ok-columns.ensures.within);
  agrees = c.in_ok-entries.ensures ∙ ap₂ entries_by_column c.len.ensures c.as_slice-4.ensures;
}

pub returns-clause-points : goal.returns-clause-points
returns-clause-points c = points_are _ _ _ _ (finishing _ _ _ _ _ _ _ _ _ _ _ c.self.invariant c.self.view_is c.as_slice.ensures c.in_ok-rows.ensures c.in_ok-target.ensures c.as_slice-2.ensures.value c.as_slice-3.ensures c.in_ok-columns.ensures.columns c.in_ok-columns.ensures.within)

pub returns-clause-objective : goal.returns-clause-objective
returns-clause-objective c = objective_is _ _ _ _ (finishing _ _ _ _ _ _ _ _ _ _ _ c.self.invariant c.self.view_is c.as_slice.ensures c.in_ok-rows.ensures c.in_ok-target.ensures c.as_slice-2.ensures.value c.as_slice-3.ensures c.in_ok-columns.ensures.columns c.in_ok-columns.ensures.within)

pub returns-clause-covered : goal.returns-clause-covered
returns-clause-covered c = covered_are _ _ _ _ (finishing _ _ _ _ _ _ _ _ _ _ _ c.self.invariant c.self.view_is c.as_slice.ensures c.in_ok-rows.ensures c.in_ok-target.ensures c.as_slice-2.ensures.value c.as_slice-3.ensures c.in_ok-columns.ensures.columns c.in_ok-columns.ensures.within)
