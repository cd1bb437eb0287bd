-- What a term makes: each point of the system before is the beginning of exactly one of the system after, at which the form is the term's number.
use Rattle.std.proofs.Common.{ℕ, ◌-◌, ◌≡◌, ◌<◌, ◌≤◌, ◌+◌, Bool, true, false, nat_lt, nat_le, if◌then◌else◌, IsTrue, List, [], ◌∷◌, length, length-append, map, Option, Some, None, Result, Ok, arith, ap, ap₂, sym, ◌∙◌, subst}
use Rattle.std.proofs.lemmas.Bool.{and_parts, ltb-true, leb-true}
use Rattle.zim_answer.specs.Answer.{◌>>=◌, goes}
use Rattle.zim_answer.proofs.BindLemmas.{bind_gave}
use Rattle.zim_fault.specs.declared.faults.Fault.{Fault}
use Rattle.zim_fault.specs.declared.faults.Place.{Place}
use Rattle.zim_rational.specs.Rational.{Rational, zero, one, plus, minus, negate, times, reciprocal, over, total}
use Rattle.zim_rational.specs.Rounding.{absolute}
use Rattle.zim_rational.proofs.Ring.{minus_is, times_comm, one_times, zero_plus, plus_zero, plus_assoc}
use Rattle.zim_linear.specs.Forms.{LinearForm, AreColumns, number_at}
use Rattle.zim_linear.specs.Sums.{negated_form}
use Rattle.zim_linear.proofs.NegationLaws.{number_negated}
use Rattle.zim_formula.specs.Ground.{sum_from, product_from, with_factor, term_step, term_number}
use Rattle.zim_formula.specs.GroundRules.{divides, operands_hold, is_column, term_rule, is_term_over}
use Rattle.zim_formula.specs.Ground as ground
use Rattle.zim_formula.specs.declared.ground.GTerm.{GTerm, GTerm-F, roll-GTerm, map-GTerm, fold-roll-GTerm, ind-GTerm}
use Rattle.zim_forms.specs.Exact.{exact_quotient}
use Rattle.zim_forms.specs.Algebra.{◌⊕◌, ◌⊙◌, known, the, form_sum}
use Rattle.zim_forms.proofs.AlgebraLaws.{number_sum, number_multiple, number_known, number_the}
use Rattle.zim_forms.proofs.MultipleLaws.{sum_is, times_is}
use Rattle.zim_forms.proofs.OverLaws.{IsOver, over_sum, over_negated, over_multiple, over_the, over_known, over_more}
use Rattle.zim_rows.specs.declared.rows.RowFrom.{RowFrom}
use Rattle.zim_rows.specs.System.{LinearSystem, Extends}
use Rattle.zim_rows.specs.Points.{IsSystemPoint, assigned, first_numbers}
use Rattle.zim_rows.specs.Covered.{IsCovered}
use Rattle.zim_rows.specs.Steps.{Encoding, ◌then◌}
use Rattle.zim_rows.specs.Extending.{IsValid, Widens}
use Rattle.std.proofs.lemmas.List.{take_all, get_or-take}
use Rattle.zim_rows.proofs.StepLaws.{each_has_number}
use Rattle.zim_rows.proofs.CutLaws.{sum_cut, point_cut}
use Rattle.zim_rows.proofs.ExtendLaws.{extends_itself, extends_further}
use Rattle.zim_rows.proofs.ExtendingLaws.{cut_twice, widens_further}
use Rattle.zim_logic_rows.specs.LogicRows.{past_at}
use Rattle.zim_vabs.specs.Terms.{from_place, Made, sum_turn, member_turn, product_turn, factor_turn, term_makes, makes_term, makes_absolute}
use Rattle.zim_vabs.specs.Meaning.{FormMade, MakesForm}
use Rattle.zim_vabs.proofs.RangedLaws.{past_gave}
use Rattle.zim_vabs.proofs.AbsoluteFormLaws.{quotient_is, pair_parts, absolute_makes}

-- ---- a form of an earlier system at a later point

pub columns_after : (later earlier : LinearSystem) → Extends later earlier → length earlier.columns ≤ length later.columns
columns_after later earlier more =
    let e : length later.columns ≡ length earlier.columns + length more.columns.0 = ap length more.columns.1 ∙ length-append earlier.columns more.columns.0 in
    omega arith

pub number_cut : (s : LinearSystem) (q : List Rational) (f : LinearForm) → AreColumns (length s.columns) f.terms → number_at (assigned (first_numbers s q)) f ≡ number_at (assigned q) f
unfolding number_at
number_cut s q f over = ap (λ (n : Rational). plus n f.constant) (sum_cut (length s.columns) q f.terms over)

-- a form that was made stays made where the system goes on
pub stays_made : (base before middle after : LinearSystem) (number : List Rational → Rational) (form : LinearForm) → FormMade base before number form middle → IsValid before → Extends middle base → IsValid after → Widens after middle → (IsCovered middle → IsCovered after) → FormMade base before number form after
stays_made base before middle after number form made is more valid on covered =
    let le = columns_after after middle on.extends in
    let f : IsOver (length after.columns) form = over_more (length middle.columns) (length after.columns) form le (record { ordered = made.ordered; columns = made.columns }) in
    record {
      valid = valid;
      widens = widens_further after middle before made.valid made.widens on;
      ordered = f.ordered;
      columns = f.columns;
      tells =
          λ q point.
          sym (number_cut middle q form made.columns)
          ∙ made.tells (first_numbers middle q) (point_cut after middle q made.valid on.extends point)
          ∙ ap number (cut_twice middle base q more);
      covered = λ c. covered (made.covered c);
    }

-- a form computed from forms that were made
changed : (base before after : LinearSystem) (number other : List Rational → Rational) (form next : LinearForm) → FormMade base before number form after → IsOver (length after.columns) next
    → ((q : List Rational) → IsSystemPoint after q → number_at (assigned q) next ≡ other (first_numbers base q)) → FormMade base before other next after
changed base before after number other form next made over tells = record {
  valid = made.valid;
  widens = made.widens;
  ordered = over.ordered;
  columns = over.columns;
  tells = tells;
  covered = made.covered;
}

is_over : (base before after : LinearSystem) (number : List Rational → Rational) (form : LinearForm) → FormMade base before number form after → IsOver (length after.columns) form
is_over base before after number form made = record { ordered = made.ordered; columns = made.columns }

-- nothing is made
itself : (s : LinearSystem) → IsValid s → Widens s s
itself s is = record {
  extends = extends_itself s;
  once =
      λ p point _.
      let whole : (q : List Rational) → IsSystemPoint s q → first_numbers s q ≡ q = λ q at. take_all (length s.columns) q (let e = each_has_number s.columns q at.columns in omega arith) in
      record {
        one = p;
        lengthens = record { point = point; cut = whole p point };
        only = λ q long. sym (whole q long.point) ∙ long.cut;
      };
  keeps = λ q point. tt;
}

-- one after another
follows : (base before middle after : LinearSystem) (f g : List Rational → Rational) (form next : LinearForm) → FormMade base before f form middle → FormMade base middle g next after → FormMade base before g next after
follows base before middle after f g form next first second = record {
  valid = second.valid;
  widens = widens_further after middle before first.valid first.widens second.widens;
  ordered = second.ordered;
  columns = second.columns;
  tells = second.tells;
  covered = λ c. second.covered (first.covered c);
}

-- the number in another way
retold : (base before after : LinearSystem) (f g : List Rational → Rational) (form : LinearForm) → ((p : List Rational) → f p ≡ g p) → FormMade base before f form after → FormMade base before g form after
retold base before after f g form same made =
    changed base before after f g form form made (is_over base before after f form made) (λ q point. made.tells q point ∙ same (first_numbers base q))

-- a form that makes nothing
alone : (base before : LinearSystem) (f : List Rational → Rational) (form : LinearForm) → IsValid before → IsOver (length before.columns) form → ((q : List Rational) → IsSystemPoint before q → number_at (assigned q) form ≡ f (first_numbers base q)) → FormMade base before f form before
alone base before f form is over tells = record {
  valid = is;
  widens = itself before is;
  ordered = over.ordered;
  columns = over.columns;
  tells = tells;
  covered = λ c. c;
}

-- ---- operands

-- what is owed of a term
abbrev pub Told : LinearSystem → ℕ → GTerm → Type 0
Told base statement t =
    IsTrue (is_term_over (length base.columns) t) → MakesForm base (λ p. term_number (assigned p) t) (makes_term statement t)

abbrev Part : LinearSystem → ℕ → Type 0
Part base statement = (t : GTerm) × Told base statement t

abbrev operand_form : Bool → LinearForm → LinearForm
operand_form turned g = if turned then negated_form g else g

operand_over : (n : ℕ) (turned : Bool) (g : LinearForm) → IsOver n g → IsOver n (operand_form turned g)
operand_over n true g over = over_negated n g over
operand_over n false g over = over

operand_number : (turned : Bool) (sum v : Rational) (form g : LinearForm) (q : List Rational) → number_at (assigned q) form ≡ sum → number_at (assigned q) g ≡ v
    → number_at (assigned q) (form ⊕ operand_form turned g) ≡ (if turned then minus sum v else plus sum v)
operand_number true sum v form g q e d =
    number_sum (assigned q) form (negated_form g) ∙ ap₂ plus e (number_negated (assigned q) g ∙ ap negate d) ∙ sym (minus_is sum v)
operand_number false sum v form g q e d = number_sum (assigned q) form g ∙ ap₂ plus e d

-- one operand more
turn_makes : (base before s : LinearSystem) (statement : ℕ) (place : Place) (turned : Bool) (f : List Rational → Rational) (t : GTerm) (form : LinearForm) (next : Made) → IsValid before → Extends s base → FormMade base before f form s → Told base statement t
    → IsTrue (is_term_over (length base.columns) t) → (made : Made) → makes_term statement t s ≡ Ok made → (past_at place (form_sum form (operand_form turned made.0)) >>= λ sum. Ok (sum, made.1)) ≡ Ok next
    → FormMade base before (λ p. if turned then minus (f p) (term_number (assigned p) t) else plus (f p) (term_number (assigned p) t)) next.0 next.1 × Extends next.1 base
turn_makes base before s statement place turned f t form next is more first told over made made_is h =
    let second = told over s first.valid more made.0 made.1 made_is in
    let (sum, sum_was, last) = bind_gave (past_at place (form_sum form (operand_form turned made.0))) _ next h in
    let (sum_same, after_same) = pair_parts sum next.0 made.1 next.1 last in
    let kept = stays_made base before s made.1 f form first is more second.valid second.widens second.covered in
    let form_is : next.0 ≡ form ⊕ operand_form turned made.0 = sym sum_same ∙ sum_is form (operand_form turned made.0) sum (past_gave place _ sum sum_was) in
    let g : List Rational → Rational = λ p. if turned then minus (f p) (term_number (assigned p) t) else plus (f p) (term_number (assigned p) t) in
    let all : FormMade base before g (form ⊕ operand_form turned made.0) made.1 =
    changed base before made.1 f g form (form ⊕ operand_form turned made.0) kept
    (over_sum (length made.1.columns) form (operand_form turned made.0) (is_over base before made.1 f form kept) (operand_over (length made.1.columns) turned made.0 (record { ordered = second.ordered; columns = second.columns })))
    (λ q point. operand_number turned (f (first_numbers base q)) (term_number (assigned (first_numbers base q)) t) form made.0 q (kept.tells q point) (second.tells q point)) in
    let more_made : Extends made.1 base = extends_further base s made.1 second.widens.extends more in (
      subst (λ (m : LinearSystem). FormMade base before g next.0 m) after_same (subst (λ (k : LinearForm). FormMade base before g k made.1) (sym form_is) all),
      subst (λ (m : LinearSystem). Extends m base) after_same more_made,
    )

made_parts : (final : Made) (form : LinearForm) (s : LinearSystem) → ◌≡◌ {A = Result Made Fault} (Ok (form, s)) (Ok final) → (form ≡ final.0) × (s ≡ final.1)
made_parts final form s h = pair_parts form final.0 s final.1 h

abbrev bare_operands : (base : LinearSystem) (statement : ℕ) → List (Place × Bool × Part base statement) → List (Place × Bool × GTerm)
bare_operands base statement os = map (λ (o : Place × Bool × Part base statement). (o.0, o.1, o.2.0)) os

sum_makes : (base before : LinearSystem) (statement : ℕ) (others : List (Place × Bool × Part base statement)) (f : List Rational → Rational) (form : LinearForm) (s : LinearSystem) (final : Made) → IsValid before → Extends s base → FormMade base before f form s
    → IsTrue (operands_hold (map (λ (t : Place × Bool × GTerm). (t.0, t.1, is_term_over (length base.columns) t.2)) (bare_operands base statement others)))
    → goes sum_turn (form, s) (map (λ (t : Place × Bool × GTerm). (t.0, t.1, makes_term statement t.2)) (bare_operands base statement others)) ≡ Ok final
    → FormMade base before (λ p. sum_from (f p) (map (λ (t : Place × Bool × GTerm). (t.0, t.1, term_number (assigned p) t.2)) (bare_operands base statement others))) final.0 final.1
unfolding goes sum_from operands_hold
sum_makes base before statement [] f form s final is more first over h =
    let (a, b) = made_parts final form s h in
    subst (λ (m : LinearSystem). FormMade base before f final.0 m) b (subst (λ (k : LinearForm). FormMade base before f k s) a first)
sum_makes base before statement (o ∷ os) f form s final is more first over h =
    let rest_over : Bool = operands_hold (map (λ (t : Place × Bool × GTerm). (t.0, t.1, is_term_over (length base.columns) t.2)) (bare_operands base statement os)) in
    let overs = and_parts (is_term_over (length base.columns) o.2.0) rest_over over in
    let (next, next_is, rest) = bind_gave (sum_turn (form, s) (o.0, o.1, makes_term statement o.2.0)) _ final h in
    let (made, made_is, last) = bind_gave (makes_term statement o.2.0 s) _ next next_is in
    let turn = turn_makes base before s statement o.0 o.1 f o.2.0 form next is more first o.2.1 overs.0 made made_is last in
    sum_makes base before statement os (λ p. if o.1 then minus (f p) (term_number (assigned p) o.2.0) else plus (f p) (term_number (assigned p) o.2.0)) next.0 next.1 final is turn.1 turn.0 overs.1 rest

-- ---- members of a sum

abbrev bare_members : (base : LinearSystem) (statement : ℕ) → List (Part base statement) → List GTerm
bare_members base statement os = map (λ (o : Part base statement). o.0) os

members_make : (base before : LinearSystem) (statement : ℕ) (place : Place) (others : List (Part base statement)) (f : List Rational → Rational) (form : LinearForm) (s : LinearSystem) (final : Made) → IsValid before → Extends s base → FormMade base before f form s
    → IsTrue (ground.all_hold (map (is_term_over (length base.columns)) (bare_members base statement others)))
    → goes (member_turn place) (form, s) (map (makes_term statement) (bare_members base statement others)) ≡ Ok final
    → FormMade base before (λ p. plus (f p) (total (map (term_number (assigned p)) (bare_members base statement others)))) final.0 final.1
unfolding goes total ground.all_hold
members_make base before statement place [] f form s final is more first over h =
    let (a, b) = made_parts final form s h in
    retold base before final.1 f (λ p. plus (f p) zero) final.0 (λ p. sym (plus_zero (f p))) (subst (λ (m : LinearSystem). FormMade base before f final.0 m) b (subst (λ (k : LinearForm). FormMade base before f k s) a first))
members_make base before statement place (o ∷ os) f form s final is more first over h =
    let rest_over : Bool = ground.all_hold (map (is_term_over (length base.columns)) (bare_members base statement os)) in
    let overs = and_parts (is_term_over (length base.columns) o.0) rest_over over in
    let (next, next_is, rest) = bind_gave (member_turn place (form, s) (makes_term statement o.0)) _ final h in
    let (made, made_is, last) = bind_gave (makes_term statement o.0 s) _ next next_is in
    let turn = turn_makes base before s statement place false f o.0 form next is more first o.1 overs.0 made made_is last in
    let g : List Rational → Rational = λ p. plus (f p) (term_number (assigned p) o.0) in
    let others : List Rational → Rational = λ p. total (map (term_number (assigned p)) (bare_members base statement os)) in
    retold base before final.1 (λ p. plus (g p) (others p)) (λ p. plus (f p) (plus (term_number (assigned p) o.0) (others p))) final.0
    (λ p. plus_assoc (f p) (term_number (assigned p) o.0) (others p))
    (members_make base before statement place os g next.0 next.1 final is turn.1 turn.0 overs.1 rest)

-- ---- products

scaled_by : (turned : Bool) (d q v : Rational) → (if turned then exact_quotient one d else Ok d) ≡ Ok q → times q v ≡ (if turned then over v d else times v d)
unfolding over
scaled_by true d q v h =
    ap (λ (r : Rational). times r v) (quotient_is one d q h ∙ one_times (reciprocal d)) ∙ times_comm (reciprocal d) v
scaled_by false d q v h = let e : d ≡ q = cc in ap (λ (r : Rational). times r v) (sym e) ∙ times_comm d v

-- a form that is at each assignment a number of the form before it
pub record IsScaledForm (n : ℕ) (form next : LinearForm) (scale : Rational → Rational) : Type 0 where
  pub over : IsOver n next
  pub number : (q : List Rational) → number_at (assigned q) next ≡ scale (number_at (assigned q) form)

factor_makes : (n : ℕ) (factor : Option (Rational × Place)) (form next : LinearForm) → IsOver n form → factor_turn factor form ≡ Ok next → IsScaledForm n form next (with_factor factor)
unfolding with_factor
factor_makes n None form next form_over h =
    let e : form ≡ next = cc in
    record { over = subst (IsOver n) e form_over; number = λ q. ap (number_at (assigned q)) (sym e) }
factor_makes n (Some factor) form next form_over h =
    let e : next ≡ factor.0 ⊙ form = times_is form factor.0 next (past_gave factor.1 _ next h) in
    record {
      over = subst (IsOver n) (sym e) (over_multiple n factor.0 form form_over);
      number = λ q. ap (number_at (assigned q)) e ∙ number_multiple (assigned q) factor.0 form;
    }

factors_make : (n : ℕ) (factors : List (Place × Bool × Rational)) (form product : LinearForm) → IsOver n form → goes product_turn form factors ≡ Ok product → IsScaledForm n form product (λ v. product_from v factors)
unfolding goes product_from
factors_make n [] form product form_over h =
    let e : form ≡ product = cc in
    record { over = subst (IsOver n) e form_over; number = λ q. ap (number_at (assigned q)) (sym e) }
factors_make n (t ∷ ts) form product form_over h =
    let (next, next_is, rest) = bind_gave (product_turn form t) _ product h in
    let (q, q_is, scaled) = bind_gave (if t.1 then exact_quotient one t.2 else Ok t.2) _ next (past_gave t.0 _ next next_is) in
    let e : next ≡ q ⊙ form = times_is form q next scaled in
    let last = factors_make n ts next product (subst (IsOver n) (sym e) (over_multiple n q form form_over)) rest in
    record {
      over = last.over;
      number =
          λ p.
          last.number p
          ∙ ap (λ (v : Rational). product_from v ts) (ap (number_at (assigned p)) e ∙ number_multiple (assigned p) q form ∙ scaled_by t.1 t.2 q (number_at (assigned p) form) q_is);
    }

-- ---- the recursion

abbrev bare : (base : LinearSystem) (statement : ℕ) → GTerm-F (Part base statement) → GTerm-F GTerm
bare base statement y = map-GTerm (Part base statement) GTerm (λ e. e.0) y

inner : (base : LinearSystem) (statement : ℕ) (y : GTerm-F (Part base statement)) → IsTrue (term_rule (length base.columns) (map-GTerm GTerm Bool (is_term_over (length base.columns)) (bare base statement y)))
    → MakesForm base (λ p. term_step (assigned p) (map-GTerm GTerm Rational (term_number (assigned p)) (bare base statement y))) (term_makes statement (map-GTerm GTerm (Encoding LinearForm) (makes_term statement) (bare base statement y)))
unfolding is_column
inner base statement (GTerm-F.Known v) rule before is more form after h =
    let (a, b) = pair_parts (known v) form before after h in
    let all = alone base before (λ _. v) (known v) is (over_known (length before.columns) v) (λ q _. number_known (assigned q) v) in
    subst (λ (m : LinearSystem). FormMade base before (λ _. v) form m) b (subst (λ (k : LinearForm). FormMade base before (λ _. v) k before) a all)
inner base statement (GTerm-F.Column j) rule before is more form after h =
    let (a, b) = pair_parts (the j) form before after h in
    let parts = and_parts (nat_lt 0 j) (nat_le j (length base.columns)) rule in
    let some : 0 < j = ltb-true 0 j parts.0 in
    let few : j ≤ length base.columns = leb-true j (length base.columns) parts.1 in
    let le = columns_after before base more in
    let f : List Rational → Rational = λ p. assigned p j in
    let all =
    alone base before f (the j) is (over_the (length before.columns) j some (omega arith))
    (λ q _. number_the (assigned q) j ∙ sym (get_or-take (length base.columns) q (j - 1) zero (omega arith))) in
    subst (λ (m : LinearSystem). FormMade base before f form m) b (subst (λ (k : LinearForm). FormMade base before f k before) a all)
inner base statement (GTerm-F.Sum first others) rule before is more form after h =
    let overs = and_parts (is_term_over (length base.columns) first.0) _ rule in
    let (made, made_is, rest) = bind_gave (makes_term statement first.0 before) _ (form, after) h in
    let start = first.1 overs.0 before is more made.0 made.1 made_is in
    sum_makes base before statement others (λ p. term_number (assigned p) first.0) made.0 made.1 (form, after) is (extends_further base before made.1 start.widens.extends more) start overs.1 rest
inner base statement (GTerm-F.Product factor term others) rule before is more form after h =
    let overs = and_parts (is_term_over (length base.columns) term.0) (divides others) rule in
    let (made, made_is, rest) = bind_gave (makes_term statement term.0 before) _ (form, after) h in
    let start = term.1 overs.0 before is more made.0 made.1 made_is in
    let (product, product_is, last) = bind_gave (factor_turn factor made.0 >>= λ scaled. goes product_turn scaled others) _ (form, after) rest in
    let (scaled, scaled_is, all) = bind_gave (factor_turn factor made.0) _ product product_is in
    let (a, b) = pair_parts product form made.1 after last in
    let n : ℕ = length made.1.columns in
    let one_way = factor_makes n factor made.0 scaled (record { ordered = start.ordered; columns = start.columns }) scaled_is in
    let two_way = factors_make n others scaled product one_way.over all in
    let f : List Rational → Rational = λ p. product_from (with_factor factor (term_number (assigned p) term.0)) others in
    let done =
    changed base before made.1 (λ p. term_number (assigned p) term.0) f made.0 product start two_way.over
    (λ q point. two_way.number q ∙ ap (λ (v : Rational). product_from v others) (one_way.number q ∙ ap (with_factor factor) (start.tells q point))) in
    subst (λ (m : LinearSystem). FormMade base before f form m) b (subst (λ (k : LinearForm). FormMade base before f k made.1) a done)
inner base statement (GTerm-F.Minus place term) rule before is more form after h =
    let (made, made_is, last) = bind_gave (makes_term statement term.0 before) _ (form, after) h in
    let start = term.1 rule before is more made.0 made.1 made_is in
    let (a, b) = pair_parts (negated_form made.0) form made.1 after last in
    let f : List Rational → Rational = λ p. negate (term_number (assigned p) term.0) in
    let done =
    changed base before made.1 (λ p. term_number (assigned p) term.0) f made.0 (negated_form made.0) start (over_negated (length made.1.columns) made.0 (record { ordered = start.ordered; columns = start.columns }))
    (λ q point. number_negated (assigned q) made.0 ∙ ap negate (start.tells q point)) in
    subst (λ (m : LinearSystem). FormMade base before f form m) b (subst (λ (k : LinearForm). FormMade base before f k made.1) a done)
inner base statement (GTerm-F.SumOver place terms) rule before is more form after h =
    let start = alone base before (λ _. zero) (known zero) is (over_known (length before.columns) zero) (λ q _. number_known (assigned q) zero) in
    let f : List Rational → Rational = λ p. total (map (term_number (assigned p)) (bare_members base statement terms)) in
    retold base before after (λ p. plus zero (f p)) f form (λ p. zero_plus (f p)) (members_make base before statement place terms (λ _. zero) (known zero) before (form, after) is more start rule h)
inner base statement (GTerm-F.Abs place term) rule before is more form after h =
    let (made, made_is, last) = bind_gave (makes_term statement term.0 before) _ (form, after) h in
    let start = term.1 rule before is more made.0 made.1 made_is in
    let f : List Rational → Rational = λ p. term_number (assigned p) term.0 in
    let end = absolute_makes base made.1 f (from_place statement place) made.0 form after start.valid (extends_further base before made.1 start.widens.extends more) (record { ordered = start.ordered; columns = start.columns }) start.tells last in
    follows base before made.1 after f (λ p. absolute (f p)) made.0 form start end

layer : (base : LinearSystem) (statement : ℕ) (y : GTerm-F (Part base statement)) → Told base statement (roll-GTerm (bare base statement y))
layer base statement y rule before is more form after h =
    let d : GTerm-F GTerm = bare base statement y in
    let n : ℕ = length base.columns in
    let rule_here : IsTrue (term_rule n (map-GTerm GTerm Bool (is_term_over n) d)) = subst IsTrue (fold-roll-GTerm Bool (term_rule n) d) rule in
    let here : term_makes statement (map-GTerm GTerm (Encoding LinearForm) (makes_term statement) d) before ≡ Ok (form, after) =
    ap (λ (e : Encoding LinearForm). e before) (sym (fold-roll-GTerm (Encoding LinearForm) (term_makes statement) d)) ∙ h in
    retold base before after (λ p. term_step (assigned p) (map-GTerm GTerm Rational (term_number (assigned p)) d)) (λ p. term_number (assigned p) (roll-GTerm d)) form
    (λ p. sym (fold-roll-GTerm Rational (term_step (assigned p)) d))
    (inner base statement y rule_here before is more form after here)

-- what a term makes is a form that is the term's number
pub term_told : (base : LinearSystem) (statement : ℕ) (t : GTerm) → Told base statement t
term_told base statement =
    ind-GTerm (Told base statement) (λ x y is. subst (λ (z : GTerm-F GTerm). Told base statement (roll-GTerm z)) is (layer base statement y))

-- the same for the absolute value of a term
pub absolute_told : (base : LinearSystem) (source : RowFrom) (t : GTerm) → IsTrue (is_term_over (length base.columns) t) → MakesForm base (λ p. absolute (term_number (assigned p) t)) (makes_absolute source t)
absolute_told base source t rule before is more form after h =
    let (made, made_is, last) = bind_gave (makes_term source.statement t before) _ (form, after) h in
    let start = term_told base source.statement t rule before is more made.0 made.1 made_is in
    let f : List Rational → Rational = λ p. term_number (assigned p) t in
    let end = absolute_makes base made.1 f source made.0 form after start.valid (extends_further base before made.1 start.widens.extends more) (record { ordered = start.ordered; columns = start.columns }) start.tells last in
    follows base before made.1 after f (λ p. absolute (f p)) made.0 form start end

-- from the system itself
pub term_form : (before : LinearSystem) (statement : ℕ) (t : GTerm) (form : LinearForm) (after : LinearSystem) → IsValid before → IsTrue (is_term_over (length before.columns) t) → makes_term statement t before ≡ Ok (form, after) → FormMade before before (λ p. term_number (assigned p) t) form after
term_form before statement t form after is rule h = term_told before statement t rule before is (extends_itself before) form after h

pub absolute_form : (before : LinearSystem) (source : RowFrom) (t : GTerm) (form : LinearForm) (after : LinearSystem) → IsValid before → IsTrue (is_term_over (length before.columns) t) → makes_absolute source t before ≡ Ok (form, after) → FormMade before before (λ p. absolute (term_number (assigned p) t)) form after
absolute_form before source t form after is rule h = absolute_told before source t rule before is (extends_itself before) form after h
