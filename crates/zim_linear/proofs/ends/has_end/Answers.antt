use Rattle.zim_linear.proofs.FormLaws.{none_from_length}
use Rattle.zim_linear.proofs.EndLemmas.{seek_none, seek_some, seek_end}
use Rattle.zim_linear.proofs.ends.has_end.Goals as goal

pub returns-then-is_none : goal.returns-then-is_none
returns-then-is_none c =
    seek_none _ _ _ _ _ _ _ c.loop-t.invariant (c.in-Some.ensures.cases.0) c.side.ensures c.if-is_none.ensures

pub loop-t-preserved : goal.loop-t-preserved
loop-t-preserved c =
    seek_some _ _ _ _ _ _ _ c.loop-t.invariant (c.in-Some.ensures.cases.0) c.side.ensures c.if-is_none.ensures

pub returns : goal.returns
returns c = seek_end _ _ _ _ c.loop-t.invariant (none_from_length _ c.in_default.ensures.cases)
