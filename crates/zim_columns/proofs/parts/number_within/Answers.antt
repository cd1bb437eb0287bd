-- A number whose parts are within the limit is within it.
use Rattle.std.proofs.Common.{◌≡◌, ◌≤◌, ℤ, nat_le, unsigned_abs, subst, le-leb}
use Rattle.std.proofs.lemmas.Bool.{and_from}
use Rattle.zim_rational.specs.Rational.{Rational}
use Rattle.zim_fraction.specs.Limit.{limit}
use Rattle.zim_rows.specs.Program.{IsWithin}
use Rattle.zim_columns.proofs.parts.number_within.Goals as goal

within_from : (q : Rational) (n : ℤ) → n ≡ q.numer → unsigned_abs n ≤ limit → q.denom ≤ limit → IsWithin q
within_from q n e numer denom =
    and_from (nat_le (unsigned_abs q.numer) limit) (nat_le q.denom limit)
    (le-leb (unsigned_abs q.numer) limit (subst (λ (m : ℤ). unsigned_abs m ≤ limit) e numer))
    (le-leb q.denom limit denom)

pub returns : goal.returns
returns c = within_from c.args.number c.numer.result c.numer.ensures.value c.numer.ensures.bound c.denom.ensures.bound
