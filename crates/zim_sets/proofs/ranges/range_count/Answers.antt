use Rattle.std.proofs.Common.{ℤ, pos, ◌≡◌, ◌+◌, ◌/◌, ◌-ℤ◌, ◌≤ℤ◌, ◌<ℤ◌, ◌∙◌, Bool, true, false, sym, arith, unsigned_abs, FitsSigned, int_lt, int_le}
use Rattle.std.specs.Int.{w128}
use Rattle.std.proofs.lemmas.Int.{to_z-of_z, ints}
use Rattle.zim_sets.proofs.RangeLaws.{count_up, count_down, count_up_none, count_down_none}
use Rattle.zim_sets.specs.Ranges.{range_count}
use Rattle.zim_sets.proofs.ranges.range_count.Goals.{then-s-lt0, else-s-lt0}
use Rattle.zim_sets.proofs.ranges.range_count.Goals as goal

down : (n m s : ℤ) (ahead : Bool) → int_lt s (pos 0) ≡ true → ahead ≡ int_le m n → ahead ≡ true → unsigned_abs (n -ℤ m) / unsigned_abs s + 1 ≡ range_count n m s
down n m s ahead negative is leads =
    let order : int_le m n ≡ true = sym is ∙ leads in
    count_down n m s (let less : s <ℤ pos 0 = grind (arith, ints) in less) (let le : m ≤ℤ n = grind (arith, ints) in le)

up : (n m s : ℤ) (ahead : Bool) → int_lt s (pos 0) ≡ false → ahead ≡ int_le n m → ahead ≡ true → unsigned_abs (n -ℤ m) / unsigned_abs s + 1 ≡ range_count n m s
up n m s ahead positive is leads =
    let order : int_le n m ≡ true = sym is ∙ leads in
    count_up n m s (let more : pos 0 ≤ℤ s = grind (arith, ints) in more) (let le : n ≤ℤ m = grind (arith, ints) in le)

down_none : (n m s : ℤ) (ahead : Bool) → int_lt s (pos 0) ≡ true → ahead ≡ int_le m n → ahead ≡ false → range_count n m s ≡ 0
down_none n m s ahead negative is away =
    let order : int_le m n ≡ false = sym is ∙ away in
    count_down_none n m s (let less : s <ℤ pos 0 = grind (arith, ints) in less) (let past : n <ℤ m = grind (arith, ints) in past)

up_none : (n m s : ℤ) (ahead : Bool) → int_lt s (pos 0) ≡ false → ahead ≡ int_le n m → ahead ≡ false → range_count n m s ≡ 0
up_none n m s ahead positive is away =
    let order : int_le n m ≡ false = sym is ∙ away in
    count_up_none n m s (let more : pos 0 ≤ℤ s = grind (arith, ints) in more) (let past : m <ℤ n = grind (arith, ints) in past)

pub returns-then-is_ahead : goal.returns-then-is_ahead
returns-then-is_ahead c =
    let fn : FitsSigned w128 c.args.n = c.ranges.n in
    let fm : FitsSigned w128 c.args.m = c.ranges.m in
    let fs : FitsSigned w128 c.args.s = c.ranges.s in
    let far = simp to_z-of_z at c.abs_diff.ensures in
    let size = simp to_z-of_z at c.unsigned_abs.ensures.value in
    (λ i. far i / size i + 1)
    ∙ elim c.if-s-lt0.branch [
      | then-s-lt0 w ↦
          let sign = simp to_z-of_z at w.if-s-lt0.true in
          let is = simp to_z-of_z at w.is_ahead-is in
          down c.args.n c.args.m c.args.s c.if-s-lt0.is_ahead sign is c.if-is_ahead.true
      | else-s-lt0 w ↦
          let sign = simp to_z-of_z at w.if-s-lt0.false in
          let is = simp to_z-of_z at w.is_ahead-is in
          up c.args.n c.args.m c.args.s c.if-s-lt0.is_ahead sign is c.if-is_ahead.true
    ]

pub returns-else-is_ahead : goal.returns-else-is_ahead
returns-else-is_ahead c =
    let fn : FitsSigned w128 c.args.n = c.ranges.n in
    let fm : FitsSigned w128 c.args.m = c.ranges.m in
    let fs : FitsSigned w128 c.args.s = c.ranges.s in
    sym (elim c.if-s-lt0.branch [
      | then-s-lt0 w ↦
          let sign = simp to_z-of_z at w.if-s-lt0.true in
          let is = simp to_z-of_z at w.is_ahead-is in
          down_none c.args.n c.args.m c.args.s c.if-s-lt0.is_ahead sign is c.if-is_ahead.false
      | else-s-lt0 w ↦
          let sign = simp to_z-of_z at w.if-s-lt0.false in
          let is = simp to_z-of_z at w.is_ahead-is in
          up_none c.args.n c.args.m c.args.s c.if-s-lt0.is_ahead sign is c.if-is_ahead.false
    ])
