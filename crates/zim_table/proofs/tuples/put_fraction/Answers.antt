-- A number that isn't whole has its denominator behind a slash.
use Rattle.std.proofs.Common.{◌≡◌, ℕ, List, subst, to_z, of_z}
use Rattle.std.proofs.Math.Facts.{to_z-of_z}
use Rattle.std.specs.Int.{w128}
use Rattle.zim_gate.specs.Pen.{Writes}
use Rattle.zim_gate.proofs.PenLaws.{◌▸◌}
use Rattle.zim_table.proofs.PieceLemmas.{fraction_part}
use Rattle.zim_table.proofs.tuples.put_fraction.Goals as goal

pub returns-then-denom-ne1 : goal.returns-then-denom-ne1
returns-then-denom-ne1 g c =
    let numer : to_z w128 (of_z w128 c.numer.result) ≡ c.numer.result = to_z-of_z {w = w128} search in
    let denom : to_z w128 (of_z w128 c.denom-denom.result) ≡ c.denom-denom.result = to_z-of_z {w = w128} search in
    subst
    (λ (t : List ℕ). Writes g.F.Folder.state c.args.pen.now c.put_number-then-denom-ne1.new.self t)
    (fraction_part c.args.number c.numer.result c.denom-denom.result c.numer.ensures.value c.denom-denom.ensures.value c.if-denom-ne1.true)
    (simp (numer, denom) at (c.put_number.ensures ▸ c.put.ensures ▸ c.put_number-then-denom-ne1.ensures))
