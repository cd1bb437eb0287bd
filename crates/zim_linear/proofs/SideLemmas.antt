-- The side of a column that counts for an end, as the code reads it.
use Rattle.std.proofs.Common.{ℕ, ℤ, pos, ◌≡◌, ◌<◌, ◌≤◌, ◌-◌, length, get_or, Bool, List, arith, refl, ap, ap₂, sym, ◌∙◌}
use Rattle.std.specs.Prelude.{int_lt}
use Rattle.std.proofs.lemmas.List.Elements.{at_read}
use Rattle.zim_linear.specs.Forms.{Term}
use Rattle.zim_linear.specs.Ends.{unbounded, sides_at, counted, side_of}
use Rattle.zim_linear.specs.declared.sides.Sides.{Sides}
use Rattle.zim_linear.specs.declared.sides.End.{End}

pub turned_is : (n m : ℤ) (b : Bool) → m ≡ n → int_lt m (pos 0) ≡ b → int_lt n (pos 0) ≡ b
turned_is n m b e h = ap (λ (k : ℤ). int_lt k (pos 0)) (sym e) ∙ h

column_is : (sides : List Sides) (j : ℕ) (s : Sides) → 0 < j → j ≤ length sides → s ≡ get_or sides (j - 1) s → s ≡ sides_at sides j
column_is sides j s first last is =
    at_read sides (λ r. s ≡ r) (j - 1) s (omega arith) is refl unbounded

pub side_is : (end other : End) (sides : List Sides) (t : Term) (s : Sides) (b : Bool) → end ≡ other → 0 < t.0 → t.0 ≤ length sides → s ≡ get_or sides (t.0 - 1) s → int_lt t.1.numer (pos 0) ≡ b → counted other b s ≡ side_of end sides t
side_is end other sides t s b e first last is turned =
    ap (λ (o : End). counted o b s) (sym e) ∙ ap₂ (counted end) (sym turned) (column_is sides t.0 s first last is)
