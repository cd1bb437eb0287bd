-- Each loop takes one off those that may follow.
use Rattle.std.proofs.Common.{◌+◌, ◌*◌}
use Rattle.zim_parse.proofs.grammar.Grammar.+doing.Given as goal

abbrev pub decreases-doing : goal.decreases-doing
decreases-doing l = 2 * l.loops

abbrev pub decreases-doing_by : goal.decreases-doing_by
decreases-doing_by l = 2 * l.loops + 1
