-- The blanks are some of the bytes.
use Rattle.std.proofs.Common.{arith, ◌∙◌, ap, ℕ}
use Rattle.std.specs.Prelude.{drop}
use Rattle.std.proofs.lemmas.List.Sums.{prefix_len-le-length}
use Rattle.zim_read.specs.Templates.{is_blank, after_blanks}
use Rattle.zim_read.proofs.templates.after_blanks.Goals as goal

pub split_at-requires : goal.split_at-requires
split_at-requires c = omega (arith, c.count_blanks.ensures, prefix_len-le-length is_blank c.args.text.now)

pub returns : goal.returns
unfolding after_blanks
returns c = c.split_at.ensures.back ∙ ap (λ (n : ℕ). drop n c.args.text.now) c.count_blanks.ensures
