-- Each way in which compiling, printing and writing end.
use Rattle.std.proofs.Common.{ℕ, List, Ok, Err, subst}
use Rattle.zim_gate.specs.Sink.{SinkStopsIn}
use Rattle.zim_cli.specs.Printing.{TakesPrinted}
use Rattle.zim_cli.proofs.PerformLemmas.{compiles_to, uncompiled_ends, uncompiled_reports, memory_ends, model_unput, can_be_listed, ended_by}
use Rattle.zim_cli.proofs.PrintingLemmas.{put_whole, put_in_part}
use Rattle.zim_cli.proofs.command.perform_compile.Goals as goal

pub returns-in-Err-clause-reportable : goal.returns-in-Err-clause-reportable
returns-in-Err-clause-reportable g c =
    uncompiled_reports _ _ _ _ _ c.in-Err.fault c.end_uncompiled.result (compiles_to _ _ _ c.compile.result (Err c.in-Err.fault) c.in-Err.is c.compile.ensures) c.end_uncompiled.ensures

pub returns-in-Err-clause-ended : goal.returns-in-Err-clause-ended
returns-in-Err-clause-ended g c =
    uncompiled_ends _ _ _ _ _ _ c.in-Err.fault c.end_uncompiled.result (compiles_to _ _ _ c.compile.result (Err c.in-Err.fault) c.in-Err.is c.compile.ensures) c.end_uncompiled.ensures

pub returns-in-Err-names_of-clause-ended : goal.returns-in-Err-names_of-clause-ended
returns-in-Err-names_of-clause-ended g c = memory_ends _ _ _ _ _ c.compile.result c.compile.ensures

pub returns-in-Err-put_printed-clause-ended : goal.returns-in-Err-put_printed-clause-ended
returns-in-Err-put_printed-clause-ended g c =
    model_unput _ _ _ _ _ _ c.in-Ok.compiled (compiles_to _ _ _ c.compile.result (Ok c.in-Ok.compiled) c.in-Ok.is c.compile.ensures)
    (subst (λ (text : List ℕ). SinkStopsIn (g.O.Sink.state c.args.out.now) (g.O.Sink.state c.put_printed.new.out) text) c.as_slice.ensures
    (put_in_part _ _ _ c.put_printed.result c.in-Err-put_printed.field-0 c.in-Err-put_printed.is c.put_printed.ensures))

pub write_files-written-requires : goal.write_files-written-requires
write_files-written-requires g c = can_be_listed _ _ _ c.in-Ok.compiled (compiles_to _ _ _ c.compile.result (Ok c.in-Ok.compiled) c.in-Ok.is c.compile.ensures)

pub returns-clause-ended : goal.returns-clause-ended
returns-clause-ended g c =
    ended_by _ _ _ _ _ _ _ c.in-Ok.compiled c.in-Ok-names_of.outputs c.write_files-written.result c.ending_of.result c.ending_of.ensures c.in-Ok-names_of.ensures
    (compiles_to _ _ _ c.compile.result (Ok c.in-Ok.compiled) c.in-Ok.is c.compile.ensures)
    (subst (λ (text : List ℕ). TakesPrinted (g.O.Sink.state c.args.out.now) (g.O.Sink.state c.put_printed.new.out) text) c.as_slice.ensures
    (put_whole _ _ _ c.put_printed.result c.in-Ok-put_printed.field-0 c.in-Ok-put_printed.is c.put_printed.ensures))
    (c.write_files-written.ensures c.args.base.now c.in-Ok-names_of.ensures)
