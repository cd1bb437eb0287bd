-- What the errors of this crate's calls tell.
use Rattle.std.specs.Prelude.{Option, None, Some, Ok, Err}
use Rattle.zim_answer.specs.Answer.{Answer}
use Rattle.zim_answer.specs.Gives.{Cause, NoMemory, Met, Never}
use Rattle.zim_fault.specs.declared.faults.Fault as faults
use Rattle.zim_fault.specs.declared.kinds.Kind.{Kind}
use Rattle.zim_read.specs.declared.stops.TemplateFault.{TemplateFault}
use Rattle.zim_read.specs.declared.stops.TemplateFault.TheVariants as template
use Rattle.zim_read.specs.declared.stops.RowsStop.{RowsStop}
use Rattle.zim_read.specs.declared.stops.RowsStop.TheVariants as stop
use Rattle.zim_read.specs.declared.stops.LineStop.{LineStop}
use Rattle.zim_read.specs.declared.stops.LineStop.TheVariants as line

-- What a text spells, or that it spells nothing.
abbrev pub spelled : {A : Type 0} → Option A → Answer A TemplateFault
spelled None = Err template.BadTemplate
spelled (Some value) = Ok value

-- What an error of `parse_template` tells.
abbrev pub template_cause : TemplateFault → Cause TemplateFault
template_cause template.BadTemplate = Met template.BadTemplate
template_cause template.Memory = NoMemory

-- What an error at a line tells.
abbrev pub line_cause : LineStop → Cause Kind
line_cause (line.Fault kind) = Met kind
line_cause line.Memory = NoMemory

-- What an error of reading a file's bytes by lines tells.
abbrev pub rows_cause : RowsStop → Cause faults.Fault
rows_cause (stop.Fault fault) = Met fault
rows_cause stop.Read = Never
rows_cause stop.Memory = NoMemory
