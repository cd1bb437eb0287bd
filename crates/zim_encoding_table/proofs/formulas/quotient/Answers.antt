-- What is made of parts over some columns is over them.
use Rattle.std.proofs.Common.{ap, refl, sym, ◌∙◌}
use Rattle.zim_rational.specs.Rational.{same}
use Rattle.zim_encoding_table.proofs.OverLemmas.{alone, term_here, quotient_over}
use Rattle.zim_encoding_table.proofs.formulas.quotient.Goals as goal

pub invariant_of-result : goal.invariant_of-result
invariant_of-result c = record { over = quotient_over c.args.term.columns c.in_ok-new.field-0 _ c.args.divisor c.push.new.self (alone c.in_ok-push.ensures.ok c.new-others.ensures) (sym (c.if-same_number.ensures ∙ ap (same c.args.divisor) c.zero.ensures)) (term_here refl c.in_ok-new.ensures c.args.term.over) }
