use Rattle.std.proofs.Common.{◌++◌, ◌∙◌, ap, sym, map}
use Rattle.zim_sets.proofs.ProductLaws.{crossed_more}
use Rattle.zim_sets.proofs.products.all_joined.Goals as goal

pub loop-tuple-preserved : goal.loop-tuple-preserved
loop-tuple-preserved c =
    let others = c.args.others.now in
    let row = map (λ other. c.tuple-item.result ++ other) others in
    c.in_ok-extend_joined.ensures ∙ ap (λ made. made ++ row) c.loop-tuple.invariant ∙ sym (crossed_more c.args.tuples.now others c.loop-tuple.tuple-index c.tuple-item.result c.loop-tuple-test.true (sym c.tuple-item.is))
