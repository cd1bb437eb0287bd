-- The name of column 1.
use Rattle.std.proofs.Common.{◌≡◌, false, ◌∷◌, [], arith, lit<}
use Rattle.std.specs.Prelude.{decimal, ◌==◌}
use Rattle.std.proofs.lemmas.Fmt.{decimal_digit}
use Rattle.std.proofs.lemmas.Bool.Decides.{nat_tests}
use Rattle.zim_lp.proofs.terms.name_of_first.Goals as goal

pub returns-else-columns-eq0 : goal.returns-else-columns-eq0
returns-else-columns-eq0 c =
    let one : decimal 1 ≡ 49 ∷ [] = decimal_digit 1 (lit< tt) in
    let some : (c.args.columns == 0) ≡ false = grind (arith, nat_tests) in
    rw (some, one)
