use Rattle.zim_rows.proofs.CutLaws.{point_cut, objective_of_cut}
use Rattle.zim_rows.proofs.laws.later_points_begin_with_earlier_ones.Goals as goal

pub returns-clause-points : goal.returns-clause-points
returns-clause-points c = point_cut

pub returns-clause-objective : goal.returns-clause-objective
returns-clause-objective c = objective_of_cut
