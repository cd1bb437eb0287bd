-- The parts that are read are the number's own, and their text reads back as the number.
use Rattle.std.proofs.Common.{ℤ, ◌≤◌, unsigned_abs, ap, subst, ◌∙◌}
use Rattle.zim_fraction.specs.Limit.{limit}
use Rattle.zim_decimal.specs.Reading.{number_of_text}
use Rattle.zim_decimal.proofs.ValueLaws.{short_text_reads}
use Rattle.zim_decimal.proofs.ShortLemmas.{short_divides, text_read}
use Rattle.zim_decimal.proofs.text.write_short.Goals as goal

pub write_parts-requires-clause-short : goal.write_parts-requires-clause-short
write_parts-requires-clause-short c =
    short_divides c.args.a c.denom.result c.requires c.denom.ensures.value c.denom.ensures.bound

pub returns-clause-text : goal.returns-clause-text
returns-clause-text c =
    text_read
    c.args.a
    c.numer-n.result
    c.denom.result
    c.unsigned_abs.result
    _
    c.numer-n.ensures.value
    c.numer-n.ensures.bound
    c.denom.ensures.value
    c.denom.ensures.bound
    c.unsigned_abs.ensures.value
    c.write_parts.ensures.text

pub returns-clause-value : goal.returns-clause-value
returns-clause-value c =
    ap number_of_text (returns-clause-text c)
    ∙ short_text_reads c.args.a c.requires (subst (λ (n : ℤ). unsigned_abs n ≤ limit) c.numer-n.ensures.value c.numer-n.ensures.bound)
