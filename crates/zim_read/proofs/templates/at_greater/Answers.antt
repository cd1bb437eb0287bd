-- The parts around the first `>`.
use Rattle.std.proofs.Common.{◌==◌, sym, refl, ◌∙◌, arith}
use Rattle.zim_read.proofs.TemplateLemmas.{position_within, around}
use Rattle.zim_read.proofs.templates.at_greater.Goals as goal

pub split_at-requires : goal.split_at-requires
split_at-requires c = omega (arith, position_within (λ b. b == 62) c.args.text.now c.in-Some.at (sym c.greater_in.ensures ∙ c.in-Some.is))

pub behind-requires : goal.behind-requires
behind-requires c = position_within (λ b. b == 62) c.args.text.now c.in-Some.at (sym c.greater_in.ensures ∙ c.in-Some.is)

pub returns-in-Some : goal.returns-in-Some
returns-in-Some c = around c.args.text.now c.split_at.result.0.now c.behind.result.now c.in-Some.at (sym c.greater_in.ensures ∙ c.in-Some.is) c.split_at.ensures.front c.behind.ensures

pub returns-in-None : goal.returns-in-None
returns-in-None c = rw (sym c.greater_in.ensures ∙ c.in-None.is) refl
