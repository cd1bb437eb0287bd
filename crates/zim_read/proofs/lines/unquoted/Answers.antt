-- The bytes up to the next quote, and those behind the last.
use Rattle.zim_read.proofs.LineLemmas.{unquoted_more, unquoted_end}
use Rattle.zim_read.proofs.SearchLemmas.{found_within}
use Rattle.zim_read.proofs.lines.unquoted.Goals as goal

pub behind-rest-requires : goal.behind-rest-requires
behind-rest-requires c = found_within 34 c.loop-at.rest.now c.memchr.result c.in-Some.at c.memchr.ensures c.in-Some.is

pub loop-at-preserved : goal.loop-at-preserved
loop-at-preserved c =
    unquoted_more c.args.field.now c.loop-at.text c.extend_from_slice.new.self c.loop-at.rest.now c.behind-rest.result.now c.memchr.result c.in-Some.at c.memchr.ensures c.in-Some.is c.in_ok-extend_from_slice.ensures.ok c.loop-at.invariant c.behind-rest.ensures

pub returns : goal.returns
returns c =
    unquoted_end c.args.field.now c.loop-at.text c.extend_from_slice-2.new.self c.loop-at.rest.now c.memchr.result c.memchr.ensures c.in_default.is c.in_ok-extend_from_slice-2.ensures.ok c.loop-at.invariant
