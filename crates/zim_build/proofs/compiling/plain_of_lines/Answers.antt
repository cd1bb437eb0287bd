-- The program, and each first fault.
use Rattle.std.proofs.Common.{List, subst}
use Rattle.zim_tree.specs.declared.stmt.Stmt.{Stmt}
use Rattle.zim_plain.specs.Answers.{PlainAnswer}
use Rattle.zim_build.proofs.CompileLemmas.{lines_accepted, lines_refused, passed_on}
use Rattle.zim_build.proofs.compiling.plain_of_lines.Goals as goal

pub returns-in-Err : goal.returns-in-Err
returns-in-Err c = passed_on c.args.lines.now c.in-Err.stop c.in-Err.ensures

pub returns-in-Ok-plain_model : goal.returns-in-Ok-plain_model
returns-in-Ok-plain_model c =
    lines_accepted c.args.lines.now c.in-Ok.parsed c.plain_model.result c.in-Ok-plain_model.plain c.in-Ok.ensures c.in-Ok-plain_model.is
    (subst (λ (trees : List Stmt). PlainAnswer trees c.plain_model.result) c.as_slice.ensures c.plain_model.ensures)

pub returns-in-Err-Fault : goal.returns-in-Err-Fault
returns-in-Err-Fault c =
    lines_refused c.args.lines.now c.in-Ok.parsed c.plain_model.result c.in-Err-Fault.field-0 c.in-Err-Fault.fault c.in-Ok.ensures c.in-Err-Fault.is c.in-Err-Fault.field-0-is
    (subst (λ (trees : List Stmt). PlainAnswer trees c.plain_model.result) c.as_slice.ensures c.plain_model.ensures)
