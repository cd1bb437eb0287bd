-- Each stop, and the program.
use Rattle.std.proofs.Common.{Err, ap, ◌∙◌}
use Rattle.zim_build.proofs.CompileLemmas.{stopped_loading, stopped_unread, stopped_memory, stopped_refused, all_compiled, answered_program, answered_fault}
use Rattle.zim_build.proofs.compiling.compile.Goals as goal

pub returns-in-Err-Fault : goal.returns-in-Err-Fault
returns-in-Err-Fault g c =
    (stopped_loading _ _ _ c.in-Err-Fault.fault c.in-Err-Fault.files _ c.load.result c.new-printed.ensures (c.in-Err-Fault.is ∙ ap Err c.in-Err-Fault.field-0-is) c.load.ensures)

pub returns-in-Err-Read : goal.returns-in-Err-Read
returns-in-Err-Read g c =
    rw c.in-Err-Read.name-is
    (stopped_unread _ _ _ c.in-Err-Read.name _ c.load.result c.new-printed-in-Err-Read.ensures (c.in-Err-Read.is ∙ ap Err c.in-Err-Read.field-0-is) c.load.ensures)

pub returns-in-Err-Memory : goal.returns-in-Err-Memory
returns-in-Err-Memory g c = stopped_memory _ _ _ c.load.result c.load.ensures

pub returns-in-Ok-plain_of_lines : goal.returns-in-Ok-plain_of_lines
returns-in-Ok-plain_of_lines g c =
    all_compiled _ _ _ c.in-Ok.loaded c.in-Ok-plain_of_lines.plain c.hand_out.result c.load.result c.hand_out.ensures.same c.in-Ok.is c.load.ensures
    (answered_program c.as_slice.result.now c.in-Ok.loaded.lines c.plain_of_lines.result c.in-Ok-plain_of_lines.plain
    c.as_slice.ensures c.in-Ok-plain_of_lines.is c.plain_of_lines.ensures)
    c.hand_out.ensures.found c.hand_out.ensures.parts

pub returns-in-Err-Refused : goal.returns-in-Err-Refused
returns-in-Err-Refused g c =
    stopped_refused _ _ _ c.in-Ok.loaded c.in-Err-Refused.fault _ c.load.result c.new-printed-in-Err-Refused.ensures c.in-Ok.is c.load.ensures
    (answered_fault c.as_slice.result.now c.in-Ok.loaded.lines c.plain_of_lines.result c.in-Err-Refused.field-0 c.in-Err-Refused.fault
    c.as_slice.ensures c.in-Err-Refused.is c.in-Err-Refused.field-0-is c.plain_of_lines.ensures)

pub returns : goal.returns
returns g c = stopped_memory _ _ _ c.load.result c.load.ensures
