-- What is left of the denominator is at least 1, fits and is passed on.
use Rattle.std.proofs.Common.{ℕ, pos, ◌≡◌, IfOk, unsigned_abs, ap, ap₂, subst₂, ◌∙◌}
use Rattle.std.specs.Int.{w128}
use Rattle.std.proofs.lemmas.Int.{to_z-of_z}
use Rattle.zim_rational.specs.Gcd.{lcm}
use Rattle.zim_fraction.specs.Answers.{lcm_answer}
use Rattle.zim_decimal.proofs.ShortLemmas.{given, divisor_some, part_fits, part_passed, part_from_one}
use Rattle.zim_decimal.proofs.short.factor.Goals as goal

pub nonzero_div-d : goal.nonzero_div-d
nonzero_div-d c =
    let e = given c.args.d c.gcd.result c.ranges.d c.gcd.ensures in
    (divisor_some c.args.d c.gcd.result e, part_fits c.args.d c.gcd.result c.requires.second c.ranges.d e)

pub lcm-requires-clause-second : goal.lcm-requires-clause-second
lcm-requires-clause-second c =
    part_from_one c.args.d c.gcd.result c.requires.second c.ranges.d (given c.args.d c.gcd.result c.ranges.d c.gcd.ensures)

pub returns-clause-answer : goal.returns-clause-answer
returns-clause-answer c =
    let e = given c.args.d c.gcd.result c.ranges.d c.gcd.ensures in
    c.lcm.ensures.answer ∙ ap₂ lcm_answer (ap unsigned_abs (to_z-of_z w128 c.args.a c.ranges.a)) (ap unsigned_abs (part_passed c.args.d c.gcd.result c.requires.second c.ranges.d e))

pub returns-clause-ok : goal.returns-clause-ok
returns-clause-ok c =
    let e = given c.args.d c.gcd.result c.ranges.d c.gcd.ensures in
    subst₂
    (λ (x y : ℕ). IfOk c.lcm.result (λ m. m ≡ pos (lcm x y)))
    (ap unsigned_abs (to_z-of_z w128 c.args.a c.ranges.a))
    (ap unsigned_abs (part_passed c.args.d c.gcd.result c.requires.second c.ranges.d e))
    c.lcm.ensures.ok
