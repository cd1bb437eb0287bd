use Rattle.zim_plain.proofs.WrittenPlaces.{read_as_written}
use Rattle.zim_plain.proofs.laws.plain_form_is_read_as_written.Goals as goal

pub returns : goal.returns
returns c = read_as_written
