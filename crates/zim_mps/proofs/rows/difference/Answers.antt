-- The difference is there, and short.
use Rattle.std.proofs.Common.{refl, subst, sym, ◌∙◌, IsTrue}
use Rattle.std.specs.Prelude.{IsOk}
use Rattle.zim_decimal.specs.Short.{is_short}
use Rattle.zim_mps.proofs.Numbers.{short_minus, difference_there, difference_is}
use Rattle.zim_mps.proofs.rows.difference.Goals as goal

pub unwrap-requires : goal.unwrap-requires
unwrap-requires c = subst IsOk (sym (c.sub.ensures.answer ∙ difference_there _ _ c.requires)) refl

pub returns-clause-value : goal.returns-clause-value
returns-clause-value c = difference_is _ _ _ _ c.requires c.sub.ensures.answer c.unwrap.ensures

pub returns-clause-short : goal.returns-clause-short
returns-clause-short c =
    subst (λ q. IsTrue (is_short q)) (sym (difference_is _ _ _ _ c.requires c.sub.ensures.answer c.unwrap.ensures)) (short_minus _ _ c.requires.short_high c.requires.short_low)
