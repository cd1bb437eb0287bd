-- A number's fields are the numerator and the denominator of the fraction that it stands for.
use Rattle.std.specs.Prelude.{◌≡◌, ◌&&◌, IsTrue}
use Rattle.std.proofs.Common.{ap}
use Rattle.std.proofs.lemmas.Bool.{and_parts}
use Rattle.zim_rational.specs.Rational.{Rational, is_lowest, ratio, ratio_of_lowest}
use Rattle.zim_fraction.specs.Limit.{is_within}
use Rattle.zim_fraction.specs.declared.fraction.Fraction.TheInside.{Inside}

-- what the fields keep: lowest terms within the limit
abbrev pub IsKept : Inside → Type 0
IsKept a = IsTrue (is_lowest a.numer a.denom && is_within a.numer a.denom)

-- the fields that a fraction is kept in
abbrev pub fields_of : Rational → Inside
fields_of q = record { numer = q.numer; denom = q.denom }

pub fields_of-ratio : (a : Inside) → IsKept a → fields_of (ratio a.numer a.denom) ≡ a
fields_of-ratio a kept =
    ap fields_of (ratio_of_lowest a.numer a.denom ((and_parts (is_lowest a.numer a.denom) (is_within a.numer a.denom) kept).0))
