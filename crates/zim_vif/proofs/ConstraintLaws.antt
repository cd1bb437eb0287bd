-- What a constraint makes under a guard asks it where the guard is on.
use Rattle.std.proofs.Common.{ℕ, ◌≡◌, ◌↔◌, ◌&&◌, Bool, true, not, if◌then◌else◌, IsTrue, List, [], ◌∷◌, length, map, Some, None, Result, Ok, arith, refl, ap, sym, ◌∙◌, subst}
use Rattle.std.proofs.lemmas.Bool.{and_parts}
use Rattle.std.proofs.lemmas.List.{take_all}
use Rattle.zim_answer.proofs.BindLemmas.{bind_gave}
use Rattle.zim_fault.specs.declared.faults.Fault.{Fault}
use Rattle.zim_fault.specs.declared.faults.Place.{Place}
use Rattle.zim_rational.specs.Rational.{Rational, one, same}
use Rattle.zim_rational.proofs.Whole.{same_Decides}
use Rattle.zim_linear.specs.Forms.{number_at}
use Rattle.zim_formula.specs.Ground.{all_hold, otherwise_holds, condition_holds, constraint_step, constraint_holds}
use Rattle.zim_formula.specs.GroundRules.{is_condition_over, constraint_rule, is_constraint_over}
use Rattle.zim_formula.specs.declared.ground.GCond.{GCond}
use Rattle.zim_formula.specs.declared.ground.GCon.{GCon, GCon-F, roll-GCon, map-GCon, fold-roll-GCon, ind-GCon}
use Rattle.zim_rows.specs.declared.rows.RowFrom.{RowFrom}
use Rattle.zim_rows.specs.System.{LinearSystem, Extends}
use Rattle.zim_rows.specs.Points.{IsSystemPoint, assigned, first_numbers}
use Rattle.zim_rows.specs.Extending.{IsValid}
use Rattle.zim_rows.proofs.StepLaws.{each_has_number}
use Rattle.zim_rows.proofs.CutLaws.{point_cut}
use Rattle.zim_rows.proofs.ExtendLaws.{extends_itself, extends_further}
use Rattle.zim_logic_rows.specs.declared.Literal.{Literal}
use Rattle.zim_logic_rows.specs.Literals.{is, number_of, negation}
use Rattle.zim_vabs.specs.Terms.{from_place}
use Rattle.zim_cond.specs.Conditions.{makes_condition}
use Rattle.zim_cond.specs.Meaning.{LiteralMade}
use Rattle.zim_cond.proofs.ConditionLaws.{condition_told}
use Rattle.zim_cond.proofs.LiteralLaws.{negated_made}
use Rattle.zim_vif.specs.Constraints.{Guard, ConstraintPart, each_part, under_literal, constraint_makes, makes_constraint}
use Rattle.zim_vif.specs.Meaning.{IsGuardOf, IsGuardOn, AskedUnder}
use Rattle.zim_vif.proofs.ColumnPointLaws.{literal_binary, number_of_one}
use Rattle.zim_vif.proofs.GuardLaws.{IsGuarding, truth_later, guarding_later, truth_made, asked, asked_says, PartMade, MakesPart, part_retold, part_behind, two_parts, two_ways, one_way, nothing_asked, under_makes}
use Rattle.zim_vif.proofs.ComparisonLaws.{compare_makes, range_makes}

-- what is owed of a constraint
abbrev pub Told : LinearSystem → ℕ → GCon → Type 0
Told base statement c =
    IsTrue (is_constraint_over (length base.columns) c) → MakesPart base (λ p. constraint_holds (assigned p) c) (makes_constraint statement c)

abbrev Part : LinearSystem → ℕ → Type 0
Part base statement = (c : GCon) × Told base statement c

abbrev bare_parts : (base : LinearSystem) (statement : ℕ) → List (Part base statement) → List GCon
bare_parts base statement parts = map (λ (o : Part base statement). o.0) parts

same_end : {s : LinearSystem} {made : Unit {0} × LinearSystem} → ◌≡◌ {A = Result (Unit {0} × LinearSystem) Fault} (Ok (tt, s)) (Ok made) → s ≡ made.1
same_end {s = s} {made = made} h = let pair : ◌≡◌ {A = Unit {0} × LinearSystem} (tt, s) made = cc in ap (λ (p : Unit {0} × LinearSystem). p.1) pair

-- all of the parts, one after another
each_makes : (base : LinearSystem) (statement : ℕ) (parts : List (Part base statement)) → IsTrue (all_hold (map (is_constraint_over (length base.columns)) (bare_parts base statement parts)))
    → MakesPart base (λ p. all_hold (map (constraint_holds (assigned p)) (bare_parts base statement parts))) (each_part (map (makes_constraint statement) (bare_parts base statement parts)))
unfolding each_part all_hold
each_makes base statement [] rule guard g before made is more on h =
    subst (λ (m : LinearSystem). PartMade base before g (λ _. true) m) (same_end h) (nothing_asked base before g is)
each_makes base statement (o ∷ os) rule guard g before made is more on h =
    let overs = and_parts (is_constraint_over (length base.columns) o.0) (all_hold (map (is_constraint_over (length base.columns)) (bare_parts base statement os))) rule in
    let (first, first_is, rest) = bind_gave (makes_constraint statement o.0 guard before) _ made h in
    let head : PartMade base before g (λ p. constraint_holds (assigned p) o.0) first.1 = o.1 overs.0 guard g before first is more on first_is in
    let others : PartMade base first.1 g (λ p. all_hold (map (constraint_holds (assigned p)) (bare_parts base statement os))) made.1 =
    each_makes base statement os overs.1 guard g first.1 made head.valid (extends_further base before first.1 head.narrows.extends more) (guarding_later base before first.1 guard g is more head.narrows.extends on) rest in
    two_parts base before first.1 made.1 g (λ p. constraint_holds (assigned p) o.0) (λ p. all_hold (map (constraint_holds (assigned p)) (bare_parts base statement os))) more head others

-- a `vif`: its condition, the part where it is true, and the part where it isn't
vif_makes : (base : LinearSystem) (statement : ℕ) (place : Place) (test : GCond) (first : Part base statement) → IsTrue (is_condition_over (length base.columns) test) → IsTrue (is_constraint_over (length base.columns) first.0)
    → (guard : Guard) (g : List Rational → Bool) (before : LinearSystem) (b : Literal × LinearSystem) (m : Unit {0} × LinearSystem) → IsValid before → Extends before base → IsGuarding base before guard g → makes_condition (from_place statement place) test before ≡ Ok b
    → under_literal (from_place statement place) guard b.0 (makes_constraint statement first.0) b.1 ≡ Ok m
    → LiteralMade base before (λ p. condition_holds (assigned p) test) b.0 b.1 × PartMade base b.1 (λ p. g p && condition_holds (assigned p) test) (λ p. constraint_holds (assigned p) first.0) m.1
vif_makes base statement place test first test_over first_over guard g before b m is more on b_is m_is =
    let source : RowFrom = from_place statement place in
    let c : List Rational → Bool = λ p. condition_holds (assigned p) test in
    let literal : LiteralMade base before c b.0 b.1 = condition_told base source test test_over before is more b.0 b.1 b_is in
    let more_after : Extends b.1 base = extends_further base before b.1 literal.widens.extends more in (
      literal,
      under_makes base source (λ p. constraint_holds (assigned p) first.0) (makes_constraint statement first.0) (first.1 first_over) guard g c b.0 b.1 m literal.valid more_after
          (guarding_later base before b.1 guard g is more literal.widens.extends on) (truth_made base before b.1 c b.0 literal) m_is,
    )

abbrev bare : (base : LinearSystem) (statement : ℕ) → GCon-F (Part base statement) → GCon-F GCon
bare base statement y = map-GCon (Part base statement) GCon (λ e. e.0) y

inner : (base : LinearSystem) (statement : ℕ) (y : GCon-F (Part base statement)) → IsTrue (constraint_rule (length base.columns) (map-GCon GCon Bool (is_constraint_over (length base.columns)) (bare base statement y)))
    → MakesPart base (λ p. constraint_step (assigned p) (map-GCon GCon Bool (constraint_holds (assigned p)) (bare base statement y))) (constraint_makes statement (map-GCon GCon ConstraintPart (makes_constraint statement) (bare base statement y)))
unfolding otherwise_holds
inner base statement (GCon-F.Compare place relation left right) rule guard g before made is more on h = compare_makes base statement place relation left right rule guard g before made is more on h
inner base statement (GCon-F.Range place relation first term last) rule guard g before made is more on h = range_makes base statement place relation first term last rule guard g before made is more on h
inner base statement (GCon-F.And parts) rule guard g before made is more on h = each_makes base statement parts rule guard g before made is more on h
inner base statement (GCon-F.Vif place test first None) rule guard g before made is more on h =
    let overs = and_parts (is_condition_over (length base.columns) test && is_constraint_over (length base.columns) first.0) true rule in
    let both = and_parts (is_condition_over (length base.columns) test) (is_constraint_over (length base.columns) first.0) overs.0 in
    let (b, b_is, rest) = bind_gave (makes_condition (from_place statement place) test before) _ made h in
    let (m, m_is, last) = bind_gave (under_literal (from_place statement place) guard b.0 (makes_constraint statement first.0) b.1) _ made rest in
    let c : List Rational → Bool = λ p. condition_holds (assigned p) test in
    let s : List Rational → Bool = λ p. constraint_holds (assigned p) first.0 in
    let parts = vif_makes base statement place test first both.0 both.1 guard g before b m is more on b_is m_is in
    part_behind base before b.1 made.1 g (λ p. if c p then s p else true) more parts.0.valid parts.0.widens parts.0.covered
    (subst (λ (n : LinearSystem). PartMade base b.1 g (λ p. if c p then s p else true) n) (same_end last) (one_way base b.1 m.1 g c s parts.1))
inner base statement (GCon-F.Vif place test first (Some otherwise)) rule guard g before made is more on h =
    let overs = and_parts (is_condition_over (length base.columns) test && is_constraint_over (length base.columns) first.0) (is_constraint_over (length base.columns) otherwise.0) rule in
    let both = and_parts (is_condition_over (length base.columns) test) (is_constraint_over (length base.columns) first.0) overs.0 in
    let source : RowFrom = from_place statement place in
    let (b, b_is, rest) = bind_gave (makes_condition source test before) _ made h in
    let (m, m_is, last) = bind_gave (under_literal source guard b.0 (makes_constraint statement first.0) b.1) _ made rest in
    let c : List Rational → Bool = λ p. condition_holds (assigned p) test in
    let s : List Rational → Bool = λ p. constraint_holds (assigned p) first.0 in
    let t : List Rational → Bool = λ p. constraint_holds (assigned p) otherwise.0 in
    let parts = vif_makes base statement place test first both.0 both.1 guard g before b m is more on b_is m_is in
    let more_literal : Extends b.1 base = extends_further base before b.1 parts.0.widens.extends more in
    let more_first : Extends m.1 base = extends_further base b.1 m.1 parts.1.narrows.extends more_literal in
    let turned : LiteralMade base before (λ p. not (c p)) (negation b.0) b.1 = negated_made base before c b.0 b.1 parts.0 in
    let second : PartMade base m.1 (λ p. g p && not (c p)) t made.1 =
    under_makes base source t (makes_constraint statement otherwise.0) (otherwise.1 overs.1) guard g (λ p. not (c p)) (negation b.0) m.1 made parts.1.valid more_first
    (guarding_later base b.1 m.1 guard g parts.0.valid more_literal parts.1.narrows.extends (guarding_later base before b.1 guard g is more parts.0.widens.extends on))
    (truth_later base b.1 m.1 (λ p. not (c p)) (negation b.0) parts.0.valid more_literal parts.1.narrows.extends (truth_made base before b.1 (λ p. not (c p)) (negation b.0) turned))
    last in
    part_behind base before b.1 made.1 g (λ p. if c p then s p else t p) more parts.0.valid parts.0.widens parts.0.covered
    (two_ways base b.1 m.1 made.1 g c s t more_literal parts.1 second)

layer : (base : LinearSystem) (statement : ℕ) (y : GCon-F (Part base statement)) → Told base statement (roll-GCon (bare base statement y))
layer base statement y rule guard g before made is more on h =
    let d : GCon-F GCon = bare base statement y in
    let n : ℕ = length base.columns in
    let rule_here : IsTrue (constraint_rule n (map-GCon GCon Bool (is_constraint_over n) d)) = subst IsTrue (fold-roll-GCon Bool (constraint_rule n) d) rule in
    let here : constraint_makes statement (map-GCon GCon ConstraintPart (makes_constraint statement) d) guard before ≡ Ok made =
    ap (λ (e : ConstraintPart). e guard before) (sym (fold-roll-GCon ConstraintPart (constraint_makes statement) d)) ∙ h in
    part_retold base before made.1 g (λ p. constraint_step (assigned p) (map-GCon GCon Bool (constraint_holds (assigned p)) d)) (λ p. constraint_holds (assigned p) (roll-GCon d))
    (λ p. sym (fold-roll-GCon Bool (constraint_step (assigned p)) d))
    (inner base statement y rule_here guard g before made is more on here)

-- what a constraint makes asks it where the guard is on
pub constraint_told : (base : LinearSystem) (statement : ℕ) (c : GCon) → Told base statement c
constraint_told base statement =
    ind-GCon (Told base statement) (λ x y is. subst (λ (z : GCon-F GCon). Told base statement (roll-GCon z)) is (layer base statement y))

-- ---- from the system itself

-- whether a guard's literal is 1
abbrev pub guard_on : Guard → List Rational → Bool
guard_on None p = true
guard_on (Some l) p = same (number_at (assigned p) (is l)) one

first_whole : (s : LinearSystem) (p : List Rational) → IsSystemPoint s p → first_numbers s p ≡ p
first_whole s p point = take_all (length s.columns) p (let e = each_has_number s.columns p point.columns in omega arith)

pub guard_is : (s : LinearSystem) (guard : Guard) → IsGuardOf s guard → IsGuarding s s guard (guard_on guard)
guard_is s None of = λ p. refl
guard_is s (Some l) of = record {
  from_one = of.from_one;
  in_columns = of.in_columns;
  tells =
      λ q point.
      number_of_one (number_at (assigned q) (is l)) (literal_binary s l q of point.columns)
      ∙ ap (λ (p : List Rational). number_of (same (number_at (assigned p) (is l)) one)) (sym (first_whole s q point));
}

on_says : (guard : Guard) (p : List Rational) → IsTrue (guard_on guard p) ↔ IsGuardOn guard p
on_says None p = (λ h. tt, λ h. refl)
on_says (Some l) p = let decides = same_Decides (number_at (assigned p) (is l)) one in (decides.0, decides.1)

-- what is asked at a point of the system itself
asks_itself : (s : LinearSystem) (guard : Guard) (truth : List Rational → Bool) (p : List Rational) → IsSystemPoint s p → IsTrue (asked (guard_on guard (first_numbers s p)) (truth (first_numbers s p))) ↔ (IsGuardOn guard p → IsTrue (truth p))
asks_itself s guard truth p point =
    let e = first_whole s p point in
    let says = asked_says (guard_on guard p) (truth p) in
    let on = on_says guard p in
    subst (λ (q : List Rational). IsTrue (asked (guard_on guard q) (truth q)) ↔ (IsGuardOn guard p → IsTrue (truth p))) (sym e) (
      λ h k. says.1 h (on.1 k),
      λ h. says.0 (λ k. h (on.0 k)),
    )

pub asked_under : (s : LinearSystem) (guard : Guard) (truth : List Rational → Bool) (after : LinearSystem) → IsValid s → PartMade s s (guard_on guard) truth after → AskedUnder s guard truth after
asked_under s guard truth after is made = record {
  valid = made.valid;
  narrows = record {
    extends = made.narrows.extends;
    once = λ p point h. made.narrows.once p point ((asks_itself s guard truth p point).1 h);
    keeps = λ q point. (asks_itself s guard truth (first_numbers s q) (point_cut after s q is made.narrows.extends point)).0 (made.narrows.keeps q point);
  };
  cut = λ q point. point_cut after s q is made.narrows.extends point;
  covered = made.covered;
}

-- what a constraint makes from a system, under a guard of it
pub constraint_asked : (before : LinearSystem) (statement : ℕ) (guard : Guard) (c : GCon) (made : Unit {0} × LinearSystem) → IsValid before → IsGuardOf before guard → IsTrue (is_constraint_over (length before.columns) c) → makes_constraint statement c guard before ≡ Ok made
    → AskedUnder before guard (λ p. constraint_holds (assigned p) c) made.1
constraint_asked before statement guard c made is of rule h =
    asked_under before guard (λ p. constraint_holds (assigned p) c) made.1 is
    (constraint_told before statement c rule guard (guard_on guard) before made is (extends_itself before) (guard_is before guard of) h)
