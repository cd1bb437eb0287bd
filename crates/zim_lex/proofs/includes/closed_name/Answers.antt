-- The first double quote is where the search finds it.
use Rattle.std.proofs.Common.{sym, ap}
use Rattle.zim_lex.specs.Includes.{alone}
use Rattle.zim_lex.proofs.IncludeLemmas.{no_quote, closed_here, open_here}
use Rattle.zim_lex.proofs.includes.closed_name.Goals as goal

pub returns-then-ends_line : goal.returns-then-ends_line
returns-then-ends_line c =
    closed_here c.args.bytes.now c.split_at.result.0.now c.split_at.result.1.now c.after.result.now c.after_blanks.result.now c.memchr.result c.in-Some.end c.ends_line.result c.memchr.ensures c.in-Some.is c.split_at.ensures.front c.split_at.ensures.back c.after.ensures c.after_blanks.ensures c.ends_line.ensures c.if-ends_line.true

pub returns-else-ends_line : goal.returns-else-ends_line
returns-else-ends_line c =
    open_here c.args.bytes.now c.split_at.result.1.now c.after.result.now c.after_blanks.result.now c.memchr.result c.in-Some.end c.ends_line.result c.memchr.ensures c.in-Some.is c.split_at.ensures.back c.after.ensures c.after_blanks.ensures c.ends_line.ensures c.if-ends_line.false

pub returns-in-None : goal.returns-in-None
returns-in-None c = sym (ap alone (no_quote c.args.bytes.now c.memchr.result c.memchr.ensures c.in-None.is))
