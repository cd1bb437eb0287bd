use Rattle.zim_rows.proofs.StepLaws.{point_further, fits_after}
use Rattle.zim_rows.proofs.laws.points_go_on_by_what_fits.Goals as goal

pub returns-clause-joined : goal.returns-clause-joined
returns-clause-joined c = point_further

pub returns-clause-fits : goal.returns-clause-fits
returns-clause-fits c = fits_after
