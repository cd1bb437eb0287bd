-- What is declared already, and what declaring answers.
use Rattle.zim_plain.proofs.DeclareLaws.{in_system, not_declared, variable_listed, variable_full}
use Rattle.zim_plain.proofs.declaring.declare_variable.Goals as goal

pub declare-requires-clause-new : goal.declare-requires-clause-new
declare-requires-clause-new c = rw c.in-Ok.ensures (not_declared c.args.columns.now c.args.system.now c.args.name.now c.requires)

pub declare-requires-clause-in_system : goal.declare-requires-clause-in_system
declare-requires-clause-in_system c = in_system c.args.columns.now c.args.system.now c.args.name.now c.requires

pub returns-in-Ok-declare : goal.returns-in-Ok-declare
returns-in-Ok-declare c =
    variable_listed c.args.columns.now c.declare.new.columns c.args.system.now c.declare.new.system c.args.from c.args.name.now c.in-Ok.ask c.declare.result c.requires c.in-Ok.ensures c.in-Ok-declare.is c.declare.ensures.answer

pub returns-in-Err-Fault : goal.returns-in-Err-Fault
returns-in-Err-Fault c =
    variable_full c.args.columns.now c.declare.new.columns c.args.system.now c.declare.new.system c.args.from c.args.name.now c.in-Ok.ask c.declare.result c.in-Err-Fault.field-0 c.in-Err-Fault.fault c.requires c.in-Ok.ensures
    c.in-Err-Fault.is c.in-Err-Fault.field-0-is c.declare.ensures.answer
