use Rattle.std.proofs.Common.{ℕ, suc, ◌≡◌, ◌<◌, ◌+◌, ◌-◌, ◌∙◌, [], ◌∷◌, ◌++◌, List, length, sym, ap, subst, arith, add-one, length-append, append-nil, ◌⊎◌, inl, inr}
use Rattle.std.proofs.lemmas.List.{nil_from_length}
use Rattle.std.specs.List.{AllByRecursion}
use Rattle.zim_sets.proofs.FamilyLaws.{choices_sets}
use Rattle.zim_sets.proofs.WalkLaws.{still, later, whole_choice, still_cost, still_begins, still_down, choice_is_set, later_sets, later_last, later_none, listed_then_later, down_smaller, up_smaller}
use Rattle.zim_sets.specs.Choices.{choices}
use Rattle.zim_sets.specs.Sets.{IsSet}
use Rattle.zim_tuples.specs.declared.elements.Elem.{Elem}
use Rattle.zim_sets.proofs.families.extend_subsets.Goals.{else-wanted-gt0-via-then-wanted-gt0+else-wanted-saturating_sub, else-wanted-gt0-via-else-wanted-gt0}
use Rattle.zim_sets.proofs.families.extend_subsets.Goals as goal

pub walk-init : goal.walk-init
walk-init c =
    let a = c.args.a.now in
    let n = c.args.n in
    let begins : still a n c.new-chosen.result.items 0 ≡ choices n a = ap (λ (chosen : List ℕ). still a n chosen 0) c.new-chosen.ensures.items ∙ still_begins a n in
    let long : length c.new-chosen.result.items ≡ 0 = ap length c.new-chosen.ensures.items in
    record {
      listed = ap (λ more. c.args.family.now ++ more) begins;
      sets = subst (λ (s : List (List (List Elem))). AllByRecursion IsSet s) (sym begins) (choices_sets n a c.len-size.ensures.set);
      short = omega arith;
    }

pub walk-smaller-then-wanted-saturating_sub : goal.walk-smaller-then-wanted-saturating_sub
walk-smaller-then-wanted-saturating_sub c =
    let size = length c.args.a.now in
    let n = c.args.n in
    let chosen = c.walk.chosen.items in
    let q = c.walk.passed in
    let k = n - length chosen - 1 in
    let wanted : n - length chosen ≡ suc k = omega (arith, c.len.ensures, c.if-wanted-gt0.true) in
    let within : q < size = omega (arith, c.len.ensures, c.len-size.ensures.value, c.saturating_sub.ensures, c.if-wanted-saturating_sub.true, c.if-wanted-gt0.true) in
    let more : c.push.new.self.items ≡ chosen ++ suc q ∷ [] = c.in_ok-push.ensures.items ∙ ap (λ p. chosen ++ p ∷ []) (add-one q) in
    let same : still_cost n size c.push.new.self.items (q + 1) ≡ still_cost n size (chosen ++ suc q ∷ []) (suc q) = (λ i. still_cost n size (more i) (add-one q i)) in
    rw same (down_smaller n size chosen q k within wanted)

pub walk-preserved-then-wanted-saturating_sub : goal.walk-preserved-then-wanted-saturating_sub
walk-preserved-then-wanted-saturating_sub c =
    let a = c.args.a.now in
    let n = c.args.n in
    let chosen = c.walk.chosen.items in
    let q = c.walk.passed in
    let k = n - length chosen - 1 in
    let wanted : n - length chosen ≡ suc k = omega (arith, c.len.ensures, c.if-wanted-gt0.true) in
    let within : q < length a = omega (arith, c.len.ensures, c.len-size.ensures.value, c.saturating_sub.ensures, c.if-wanted-saturating_sub.true, c.if-wanted-gt0.true) in
    let more : c.push.new.self.items ≡ chosen ++ suc q ∷ [] = c.in_ok-push.ensures.items ∙ ap (λ p. chosen ++ p ∷ []) (add-one q) in
    let long : length c.push.new.self.items ≡ length chosen + 1 = ap length more ∙ length-append chosen (suc q ∷ []) in
    let same : still a n c.push.new.self.items (q + 1) ≡ still a n chosen q = (λ i. still a n (more i) (add-one q i)) ∙ still_down a n chosen q k within wanted in
    record {
      listed = ap (λ rest. c.walk.family ++ rest) same ∙ c.walk.invariant.listed;
      sets = subst (λ (s : List (List (List Elem))). AllByRecursion IsSet s) (sym same) c.walk.invariant.sets;
      short = omega arith;
    }

pub extend_chosen-requires : goal.extend_chosen-requires
extend_chosen-requires c =
    rw c.deref.ensures.value (choice_is_set c.args.a.now c.args.n c.walk.chosen.items c.walk.passed c.walk.invariant.sets)

pub walk-smaller : goal.walk-smaller
walk-smaller c =
    up_smaller c.args.n (length c.args.a.now) c.walk.chosen.items c.pop.new.self.items c.in-Some.last c.walk.passed c.in-Some.ensures.items

pub walk-preserved : goal.walk-preserved
walk-preserved c =
    let a = c.args.a.now in
    let n = c.args.n in
    let chosen = c.walk.chosen.items in
    let q = c.walk.passed in
    let short = c.walk.invariant.short in
    let closed : (n - length chosen ≡ 0) ⊎ (length a - q < n - length chosen) = elim c.else-wanted-gt0.branch [
      | else-wanted-gt0-via-then-wanted-gt0+else-wanted-saturating_sub w ↦ inr (let few : length a - q < n - length chosen = omega (arith, c.len.ensures, c.len-size.ensures.value, w.saturating_sub.ensures, w.if-wanted-saturating_sub.false) in few)
      | else-wanted-gt0-via-else-wanted-gt0 w ↦ inl (let none : n - length chosen ≡ 0 = omega (arith, c.len.ensures, w.if-wanted-gt0.false) in none)
    ] in
    let more : c.extend_chosen.new.family ≡ c.walk.family ++ whole_choice a n chosen = c.in_ok-extend_chosen.ensures ∙ ap (λ (ps : List ℕ). c.walk.family ++ whole_choice a n ps) c.deref.ensures.value in
    let back : later a n [] chosen ≡ still a n c.pop.new.self.items c.in-Some.last = ap (λ (ps : List ℕ). later a n [] ps) c.in-Some.ensures.items ∙ later_last a n [] c.pop.new.self.items c.in-Some.last in
    let long : length chosen ≡ length c.pop.new.self.items + 1 = ap length c.in-Some.ensures.items ∙ length-append c.pop.new.self.items (c.in-Some.last ∷ []) in
    record {
      listed = ap (λ rest. c.extend_chosen.new.family ++ rest) (sym back) ∙ listed_then_later a n chosen q c.walk.family c.extend_chosen.new.family _ short closed more c.walk.invariant.listed;
      sets = subst (λ (s : List (List (List Elem))). AllByRecursion IsSet s) back (later_sets a n chosen q c.walk.invariant.sets);
      short = omega arith;
    }

pub returns-in-None : goal.returns-in-None
returns-in-None c =
    let a = c.args.a.now in
    let n = c.args.n in
    let chosen = c.walk.chosen.items in
    let q = c.walk.passed in
    let closed : (n - length chosen ≡ 0) ⊎ (length a - q < n - length chosen) = elim c.else-wanted-gt0.branch [
      | else-wanted-gt0-via-then-wanted-gt0+else-wanted-saturating_sub w ↦ inr (let few : length a - q < n - length chosen = omega (arith, c.len.ensures, c.len-size.ensures.value, w.saturating_sub.ensures, w.if-wanted-saturating_sub.false) in few)
      | else-wanted-gt0-via-else-wanted-gt0 w ↦ inl (let none : n - length chosen ≡ 0 = omega (arith, c.len.ensures, w.if-wanted-gt0.false) in none)
    ] in
    let more : c.extend_chosen.new.family ≡ c.walk.family ++ whole_choice a n chosen = c.in_ok-extend_chosen.ensures ∙ ap (λ (ps : List ℕ). c.walk.family ++ whole_choice a n ps) c.deref.ensures.value in
    let zero_long : length chosen ≡ 0 = omega (arith, c.deref.ensures.len, ap (λ (ps : List ℕ). length ps) c.deref.ensures.value, c.in-None.ensures.cases.0) in
    let none : chosen ≡ [] = nil_from_length chosen zero_long in
    let end : later a n [] chosen ≡ [] = ap (λ (ps : List ℕ). later a n [] ps) none ∙ later_none a n in
    sym (append-nil c.extend_chosen.new.family) ∙ ap (λ rest. c.extend_chosen.new.family ++ rest) (sym end) ∙ listed_then_later a n chosen q c.walk.family c.extend_chosen.new.family _ c.walk.invariant.short closed more c.walk.invariant.listed
