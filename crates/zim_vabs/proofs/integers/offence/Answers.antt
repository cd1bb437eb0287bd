-- The first column that doesn't serve, or none.
use Rattle.std.proofs.Common.{sym}
use Rattle.zim_linear.proofs.FormLaws.{none_from_length}
use Rattle.zim_vabs.proofs.IntegerCallLemmas.{scan_found, scan_next, scan_end}
use Rattle.zim_vabs.proofs.integers.offence.Goals as goal

pub returns-then-is_some : goal.returns-then-is_some
returns-then-is_some c =
    scan_found c.args.system.now.columns c.args.terms.now _ _ _ _ c.loop-t.invariant (c.in-Some.ensures.cases.0) c.column_offence-offence.ensures (sym c.if-is_some.ensures)

pub loop-t-preserved : goal.loop-t-preserved
loop-t-preserved c =
    scan_next c.args.system.now.columns c.args.terms.now _ _ _ _ c.loop-t.invariant (c.in-Some.ensures.cases.0) c.column_offence-offence.ensures (sym c.if-is_some.ensures)

pub returns : goal.returns
returns c = scan_end c.args.system.now.columns c.args.terms.now _ c.loop-t.invariant (none_from_length _ c.in_default.ensures.cases)
