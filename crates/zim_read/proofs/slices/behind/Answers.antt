-- The byte, and what follows it.
use Rattle.std.proofs.Common.{◌∙◌, ap, drop, arith}
use Rattle.std.proofs.lemmas.List.{drop-drop}
use Rattle.zim_read.proofs.slices.behind.Goals as goal

pub split_at-requires : goal.split_at-requires
split_at-requires c = omega (arith, c.requires)

pub split_at-requires-2 : goal.split_at-requires-2
split_at-requires-2 c = omega (arith, c.split_at.ensures.back_len, c.requires)

pub returns : goal.returns
returns c = c.split_at-2.ensures.back ∙ ap (drop 1) c.split_at.ensures.back ∙ drop-drop 1 c.args.at c.args.text.now
