-- Each stop leaves what was put so far.
use Rattle.std.proofs.Common.{sym}
use Rattle.zim_cli.proofs.WriteFileLemmas.{begin_failed, put_failed, end_failed, file_written}
use Rattle.zim_cli.proofs.write_file.write_mps_file.Goals as goal

pub returns-then-is_err : goal.returns-then-is_err
returns-then-is_err g c =
    put_failed _ _ _ _ _ c.begin.result c.write.result c.in-Ok.is (sym c.if-is_err.ensures.value) c.begin.ensures c.write.ensures

pub returns-in-Ok-end : goal.returns-in-Ok-end
returns-in-Ok-end g c =
    file_written _ _ _ _ _ _ c.begin.result c.write.result c.end.result c.in-Ok.is (sym c.if-is_err.ensures.value) c.begin.ensures c.write.ensures c.end.ensures

pub returns-in-Err-end : goal.returns-in-Err-end
returns-in-Err-end g c =
    end_failed _ _ _ _ _ _ c.begin.result c.write.result c.end.result c.in-Err-end.field-0 c.in-Ok.is (sym c.if-is_err.ensures.value) c.in-Err-end.is c.begin.ensures c.write.ensures c.end.ensures

pub returns-in-Err : goal.returns-in-Err
returns-in-Err g c = begin_failed _ _ _ _ c.begin.result c.in-Err.stop c.in-Err.is c.begin.ensures
