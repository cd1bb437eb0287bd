-- The file is empty, also where its end failed.
use Rattle.zim_cli.proofs.WriteFileLemmas.{begin_failed, file_cleared, clear_failed}
use Rattle.zim_cli.proofs.write_file.clear_file.Goals as goal

pub returns-in-Err : goal.returns-in-Err
returns-in-Err g c = begin_failed _ _ _ _ c.begin.result c.in-Err.stop c.in-Err.is c.begin.ensures

pub returns-in-Ok-end : goal.returns-in-Ok-end
returns-in-Ok-end g c = file_cleared _ _ _ _ c.begin.result c.end.result c.in-Ok.is c.begin.ensures c.end.ensures

pub returns-in-Err-end : goal.returns-in-Err-end
returns-in-Err-end g c = clear_failed _ _ _ _ c.begin.result c.end.result c.in-Err-end.field-0 c.in-Ok.is c.in-Err-end.is c.begin.ensures c.end.ensures
