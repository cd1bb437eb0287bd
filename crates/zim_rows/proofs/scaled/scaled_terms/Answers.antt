-- The made terms grow by each scaled one.
use Rattle.zim_linear.proofs.FormLaws.{none_from_length}
use Rattle.zim_rows.proofs.ScaledLemmas.{terms_start, terms_step, terms_past, terms_end}
use Rattle.zim_rows.proofs.scaled.scaled_terms.Goals as goal

pub loop-t-init : goal.loop-t-init
loop-t-init c = rw c.new-made.ensures.items (terms_start _ _)

pub returns-in-Err : goal.returns-in-Err
returns-in-Err c = terms_past _ _ _ _ _ _ _ c.loop-t.invariant (c.in-Some.ensures.cases.0) c.in-Err.ensures

pub loop-t-preserved : goal.loop-t-preserved
loop-t-preserved c =
    terms_step _ _ _ _ _ _ _ _ c.loop-t.invariant (c.in-Some.ensures.cases.0) c.in-Ok.ensures c.in_ok-push.ensures.items

pub returns : goal.returns
returns c =
    terms_end _ _ _ _ _ c.loop-t.invariant (none_from_length _ c.in_default.ensures.cases) c.from_vec.ensures
