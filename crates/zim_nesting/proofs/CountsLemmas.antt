-- The counts of a list, one member after the other.
use Rattle.std.proofs.Common.{◌≡◌, ℕ, ◌+◌, ◌<◌, List, map, length, take, get_or, sym, ap, ◌∙◌}
use Rattle.std.proofs.lemmas.List.Sums.{fold_more}
use Rattle.std.proofs.lemmas.List.Folds.{fold-map}
use Rattle.std.specs.Prelude.{fold}
use Rattle.zim_nesting.specs.declared.counts.Counts.{Counts}
use Rattle.zim_nesting.specs.Counts.{counts_of}
use Rattle.zim_nesting.specs.Depth.{Depth, ◌followed_by◌, followed}

-- a piece is what it computes to
pub given : {r : Counts} (d e : Depth) → r ≡ counts_of d → d ≡ e → r ≡ counts_of e
given d e h is = h ∙ ap counts_of is

-- pieces one behind the other, and one more
pub followed-next : {X : Type 0} (f : X → Depth) (d : Depth) (xs : List X) (i : ℕ) (x : X) → i < length xs → x ≡ get_or xs i x →
    followed d (map f (take i xs)) followed_by f x ≡ followed d (map f (take (i + 1) xs))
followed-next {X} f d xs i x within is =
    let step : Depth → X → Depth = λ before y. before followed_by f y in
    ap (λ z. z followed_by f x) (fold-map (λ before piece. before followed_by piece) f d (take i xs)) ∙ ap (λ y. fold step d (take i xs) followed_by f y) is
    ∙ sym (fold_more step d xs i x within) ∙ sym (fold-map (λ before piece. before followed_by piece) f d (take (i + 1) xs))
