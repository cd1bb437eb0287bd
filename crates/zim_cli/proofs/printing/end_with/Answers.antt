-- The text was put, or a first part of it.
use Rattle.zim_cli.specs.Printing.{put, failed}
use Rattle.zim_cli.proofs.PrintingLemmas.{put_whole, put_in_part}
use Rattle.zim_cli.proofs.printing.end_with.Goals as goal

pub returns-in-Ok : goal.returns-in-Ok
returns-in-Ok g c = put (put_whole _ _ c.args.printed.now c.put_printed.result c.in-Ok.field-0 c.in-Ok.is c.put_printed.ensures)

pub returns-in-Err : goal.returns-in-Err
returns-in-Err g c = failed (put_in_part _ _ c.args.printed.now c.put_printed.result c.in-Err.field-0 c.in-Err.is c.put_printed.ensures)
