use Rattle.zim_table.proofs.WholeLaws.{front_is_whole}
use Rattle.zim_table.proofs.laws.an_ended_table_is_whole.Goals as goal

-- src/laws.rt:10:1
pub returns : goal.returns
returns c = front_is_whole
