-- The mark and the signed digits after it, where both are there.
use Rattle.std.proofs.Common.{ℕ, List, sym, ◌∙◌, subst, Some, None}
use Rattle.zim_lex.specs.Classes.{begins_exponent}
use Rattle.zim_lex.specs.Fronts.{IsFrontThat}
use Rattle.zim_lex.specs.Numbers.{is_signed_digits}
use Rattle.zim_lex.proofs.NumberLemmas.{exponent_front, no_exponent_digits, no_exponent, first_within}
use Rattle.zim_lex.proofs.numbers.exponent_length.Goals as goal

pub returns-then-not-begins_exponent : goal.returns-then-not-begins_exponent
returns-then-not-begins_exponent c = no_exponent c.args.bytes.now (sym c.begins_exponent.ensures ∙ c.if-not-begins_exponent.true)

pub after-signed-requires : goal.after-signed-requires
after-signed-requires c = first_within begins_exponent c.args.bytes.now (sym c.begins_exponent.ensures ∙ c.if-not-begins_exponent.false)

pub returns-in-Some : goal.returns-in-Some
returns-in-Some c =
    let found = subst (IsFrontThat is_signed_digits c.after-signed.result.now) c.in-Some.is c.signed_length.ensures in
    exponent_front c.args.bytes.now c.in-Some.length (sym c.begins_exponent.ensures ∙ c.if-not-begins_exponent.false) (subst (λ (r : List ℕ). IsFrontThat is_signed_digits r (Some c.in-Some.length)) c.after-signed.ensures found)

pub returns-in-None : goal.returns-in-None
returns-in-None c =
    let found = subst (IsFrontThat is_signed_digits c.after-signed.result.now) c.in-None.is c.signed_length.ensures in
    no_exponent_digits c.args.bytes.now (sym c.begins_exponent.ensures ∙ c.if-not-begins_exponent.false) (subst (λ (r : List ℕ). IsFrontThat is_signed_digits r None) c.after-signed.ensures found)
