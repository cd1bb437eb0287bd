-- One segment more, and the first one that is refused.
use Rattle.std.proofs.Common.{arith}
use Rattle.zim_build.proofs.ParsingLemmas.{one_more, refused_next}
use Rattle.zim_build.proofs.parsing.parsed_statements.Goals as goal

pub returns-in-Err : goal.returns-in-Err
returns-in-Err c =
    refused_next c.args.tokens.now c.args.spans.now c.loop-span.span-index _ c.loop-span.parsed c.in-Err.fault (omega arith) c.loop-span.invariant c.in-Err.ensures

pub loop-span-preserved : goal.loop-span-preserved
loop-span-preserved c =
    rw c.in-Ok-push.ensures.ok
    (one_more c.args.tokens.now c.args.spans.now c.loop-span.span-index _ c.loop-span.parsed c.in-Ok.statement (omega arith) c.loop-span.invariant c.in-Ok.ensures)
