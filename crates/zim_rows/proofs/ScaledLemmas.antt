-- What the calls that scale terms, kinds and rows answer, from what their parts answer.
use Rattle.std.proofs.Common.{ℕ, ℤ, pos, ◌≡◌, ◌≤◌, ◌&&◌, ◌↔◌, Bool, true, false, cond, nat_le, List, [], ◌∷◌, ◌++◌, length, map, Option, Some, None, Result, Ok, Err, to_z, IsTrue, arith, refl, ap, ap₂, sym, ◌∙◌, subst}
use Rattle.std.specs.Int.{w128}
use Rattle.std.proofs.lemmas.Int.{to_z_pos}
use Rattle.std.proofs.lemmas.Bool.{and_parts, and_from, le-leb, leb-true}
use Rattle.std.proofs.lemmas.List.{append-nil, append_assoc}
use Rattle.zim_fault.specs.declared.faults.Place.{Place}
use Rattle.zim_fault.specs.declared.faults.Fault.{Fault}
use Rattle.zim_rational.specs.Rational.{Rational, zero, whole, negate}
use Rattle.zim_fraction.specs.Limit.{limit, is_number, is_sum_within}
use Rattle.zim_fraction.specs.Answers.{product_answer, difference_answer}
use Rattle.zim_fraction.specs.declared.fault.Past.{Past}
use Rattle.zim_linear.specs.Forms.{Term, LinearForm}
use Rattle.zim_linear.specs.declared.faults.LinFault.{LinFault}
use Rattle.zim_linear.specs.declared.faults.LinFault.TheVariants as fault
use Rattle.zim_rows.specs.declared.rows.GivenRow.{GivenRow}
use Rattle.zim_rows.specs.declared.rows.Row.{Row}
use Rattle.zim_rows.specs.declared.rows.RowFrom.{RowFrom}
use Rattle.zim_rows.specs.declared.rows.Objective.{Objective}
use Rattle.zim_rows.specs.declared.rows.Target.{Target}
use Rattle.zim_rows.specs.declared.rows.Sense.{Sense}
use Rattle.zim_rows.specs.declared.rows.RowKind.{RowKind}
use Rattle.zim_rows.specs.declared.rows.RowKind.TheVariants.{One, Range}
use Rattle.zim_rows.specs.declared.faults.FinishFault.{FinishFault}
use Rattle.zim_rows.specs.declared.faults.FinishFault.TheVariants as finish
use Rattle.zim_rows.specs.Factors.{times_factor, coefficients, right_sides, factor_of, row_factor, form_factor, all_within, kind_within, row_within, form_within}
use Rattle.zim_rows.specs.Scaled.{factor_answer, scaled_terms, scaled_kind, scaled_row, scaled_target, ScaledTermsAnswer, RowAnswer, RowsAnswer, ObjectiveAnswer, TargetAnswer, rows_fault, objective_fault, past_fault}

-- ---- one number

ok_by : (t : Bool) (q r : Rational) (p : Past) → Ok q ≡ cond t (Ok r) (Err p) → IsTrue t × (q ≡ r)
ok_by true q r p e = (refl, cc)
ok_by false q r p e = absurd (cc)

past_by : (t : Bool) (r : Rational) (p o : Past) → Err o ≡ cond t (Ok r) (Err p) → ¬ IsTrue t
past_by true r p o e = absurd (cc)
past_by false r p o e = λ t. cc

-- a product with the factor, as the call for it gives it
pub number_answered : (k : ℕ) (q b : Rational) (z : ℤ) (r : Result Rational Past) → r ≡ product_answer q b → b ≡ whole z → z ≡ pos k → r ≡ factor_answer k q
unfolding product_answer factor_answer times_factor
number_answered k q b z r e f g = e ∙ ap (product_answer q) (f ∙ ap whole g)

pub number_made : (k : ℕ) (q v : Rational) → Ok v ≡ factor_answer k q → IsTrue (is_number (times_factor k q)) × (v ≡ times_factor k q)
unfolding factor_answer
number_made k q v e = ok_by _ _ _ _ e

pub number_past : (k : ℕ) (q : Rational) (p : Past) → Err p ≡ factor_answer k q → ¬ IsTrue (is_number (times_factor k q))
unfolding factor_answer
number_past k q p e = past_by _ _ _ _ e

-- ---- right sides

pub one_made : (k : ℕ) (kind : RowKind) (sense : Sense) (right v : Rational) → kind ≡ One sense right → Ok v ≡ factor_answer k right → IsTrue (kind_within k kind) × (One sense v ≡ scaled_kind k kind)
unfolding kind_within
one_made k kind sense right v is e =
    let made = number_made k right v e in
    subst (λ (i : RowKind). IsTrue (kind_within k i) × (One sense v ≡ scaled_kind k i)) (sym is) (made.0, ap (One sense) made.1)

pub one_past : (k : ℕ) (kind : RowKind) (sense : Sense) (right : Rational) (p : Past) → kind ≡ One sense right → Err p ≡ factor_answer k right → ¬ IsTrue (kind_within k kind)
unfolding kind_within
one_past k kind sense right p is e h =
    number_past k right p e (subst (λ (i : RowKind). IsTrue (kind_within k i)) is h)

range_parts : (k : ℕ) (low high : Rational) → IsTrue (kind_within k (Range low high)) → IsTrue (is_number (times_factor k low)) × IsTrue (is_number (times_factor k high)) × IsTrue (is_sum_within (times_factor k high) (negate (times_factor k low)))
unfolding kind_within
range_parts k low high h =
    let outer = and_parts (is_number (times_factor k low) && is_number (times_factor k high)) (is_sum_within (times_factor k high) (negate (times_factor k low))) h in
    let inner = and_parts (is_number (times_factor k low)) (is_number (times_factor k high)) outer.0 in
    (inner.0, inner.1, outer.1)

pub low_past : (k : ℕ) (low high : Rational) (p : Past) → Err p ≡ factor_answer k low → ¬ IsTrue (kind_within k (Range low high))
low_past k low high p e h = number_past k low p e ((range_parts k low high h).0)

pub high_past : (k : ℕ) (low high : Rational) (p : Past) → Err p ≡ factor_answer k high → ¬ IsTrue (kind_within k (Range low high))
high_past k low high p e h = number_past k high p e ((range_parts k low high h).1)

difference_made : (a b d : Rational) → Ok d ≡ difference_answer a b → IsTrue (is_sum_within a (negate b))
unfolding difference_answer
difference_made a b d e = (ok_by _ _ _ _ e).0

difference_past : (a b : Rational) (p : Past) → Err p ≡ difference_answer a b → ¬ IsTrue (is_sum_within a (negate b))
unfolding difference_answer
difference_past a b p e = past_by _ _ _ _ e

pub range_past : (k : ℕ) (low high l h : Rational) (p : Past) → Ok l ≡ factor_answer k low → Ok h ≡ factor_answer k high → Err p ≡ difference_answer h l → ¬ IsTrue (kind_within k (Range low high))
range_past k low high l h p e f past within =
    difference_past
    h
    l
    p
    past
    (subst (λ (b : Rational). IsTrue (is_sum_within h (negate b))) (sym ((number_made k low l e).1)) (subst (λ (a : Rational). IsTrue (is_sum_within a (negate (times_factor k low)))) (sym ((number_made k high h f).1)) ((range_parts k low high within).2)))

pub range_made : (k : ℕ) (low high l h d : Rational) → Ok l ≡ factor_answer k low → Ok h ≡ factor_answer k high → Ok d ≡ difference_answer h l → IsTrue (kind_within k (Range low high)) × (Range l h ≡ Range (times_factor k low) (times_factor k high))
unfolding kind_within
range_made k low high l h d e f ok =
    let first = number_made k low l e in
    let second = number_made k high h f in
    let difference : IsTrue (is_sum_within (times_factor k high) (negate (times_factor k low))) =
    subst (λ (b : Rational). IsTrue (is_sum_within (times_factor k high) (negate b))) first.1 (subst (λ (a : Rational). IsTrue (is_sum_within a (negate l))) second.1 (difference_made h l d ok)) in
    (and_from (is_number (times_factor k low) && is_number (times_factor k high)) _ (and_from (is_number (times_factor k low)) _ first.0 second.0) difference, ap₂ Range first.1 second.1)

-- ---- terms

-- some terms are scaled, and a rest is left
pub record IsScalingTerms (k : ℕ) (terms made rest : List Term) : Type 0 where
  pub joined : made ++ scaled_terms k rest ≡ scaled_terms k terms
  pub within : IsTrue (all_within k (coefficients rest)) ↔ IsTrue (all_within k (coefficients terms))

pub terms_start : (k : ℕ) (terms : List Term) → IsScalingTerms k terms [] terms
terms_start k terms = record { joined = refl; within = (λ h. h, λ h. h) }

pub terms_step : (k : ℕ) (terms made new r rest : List Term) (t : Term) (v : Rational) → IsScalingTerms k terms made r → r ≡ t ∷ rest → Ok v ≡ factor_answer k t.1 → new ≡ made ++ (t.0, v) ∷ [] → IsScalingTerms k terms new rest
unfolding all_within
terms_step k terms made new r rest t v s e ok pushed =
    let m : IsScalingTerms k terms made (t ∷ rest) = subst (IsScalingTerms k terms made) e s in
    let number = number_made k t.1 v ok in
    record {
      joined =
          ap (λ xs. xs ++ scaled_terms k rest) (pushed ∙ ap (λ (w : Rational). made ++ (t.0, w) ∷ []) number.1)
          ∙ append_assoc made ((t.0, times_factor k t.1) ∷ []) (scaled_terms k rest)
          ∙ m.joined;
      within = (
        λ h. m.within.0 (and_from (is_number (times_factor k t.1)) (all_within k (coefficients rest)) number.0 h),
        λ h. (and_parts (is_number (times_factor k t.1)) (all_within k (coefficients rest)) (m.within.1 h)).1,
      );
    }

pub terms_past : (k : ℕ) (terms made r rest : List Term) (t : Term) (p : Past) → IsScalingTerms k terms made r → r ≡ t ∷ rest → Err p ≡ factor_answer k t.1 → ¬ IsTrue (all_within k (coefficients terms))
unfolding all_within
terms_past k terms made r rest t p s e past h =
    let m : IsScalingTerms k terms made (t ∷ rest) = subst (IsScalingTerms k terms made) e s in
    number_past k t.1 p past ((and_parts (is_number (times_factor k t.1)) (all_within k (coefficients rest)) (m.within.1 h)).0)

pub terms_end : (k : ℕ) (terms made r list : List Term) → IsScalingTerms k terms made r → r ≡ [] → list ≡ made → IsTrue (all_within k (coefficients terms)) × (list ≡ scaled_terms k terms)
unfolding all_within
terms_end k terms made r list s e same =
    let m : IsScalingTerms k terms made [] = subst (IsScalingTerms k terms made) e s in
    (m.within.0 refl, same ∙ sym (append-nil made) ∙ m.joined)

-- ---- a row

row_parts : (row : GivenRow) → IsTrue (row_within row.terms row.kind) → let k : ℕ = row_factor row.terms row.kind in (k ≤ limit) × IsTrue (all_within k (coefficients row.terms)) × IsTrue (kind_within k row.kind)
unfolding row_within
row_parts row h =
    let k : ℕ = row_factor row.terms row.kind in
    let outer = and_parts (nat_le k limit) (all_within k (coefficients row.terms) && kind_within k row.kind) h in
    let inner = and_parts (all_within k (coefficients row.terms)) (kind_within k row.kind) outer.1 in
    (leb-true k limit outer.0, inner.0, inner.1)

row_from_parts : (row : GivenRow) → let k : ℕ = row_factor row.terms row.kind in (k ≤ limit) → IsTrue (all_within k (coefficients row.terms)) → IsTrue (kind_within k row.kind) → IsTrue (row_within row.terms row.kind)
unfolding row_within
row_from_parts row small terms kind =
    let k : ℕ = row_factor row.terms row.kind in
    and_from (nat_le k limit) _ (le-leb k limit small) (and_from (all_within k (coefficients row.terms)) (kind_within k row.kind) terms kind)

pub row_factor_past : (row : GivenRow) (terms : List Term) → terms ≡ row.terms → ¬ (factor_of (coefficients terms ++ right_sides row.kind) ≤ limit) → ¬ IsTrue (row_within row.terms row.kind)
row_factor_past row terms e past h =
    past (subst (λ (ts : List Term). row_factor ts row.kind ≤ limit) (sym e) ((row_parts row h).0))

pub row_terms_stop : (row : GivenRow) (terms others : List Term) (k : ℕ) (stop : LinFault) → terms ≡ row.terms → others ≡ row.terms → (row_factor terms row.kind ≤ limit) × (k ≡ row_factor terms row.kind) → ScaledTermsAnswer k others (Err stop) → RowAnswer row (Err stop)
row_terms_stop row terms others k fault.Memory e f factor answer = tt
row_terms_stop row terms others k fault.Past e f factor answer =
    λ h.
    answer
    (subst (λ (ts : List Term). IsTrue (all_within k (coefficients ts))) (sym f) (subst (λ (n : ℕ). IsTrue (all_within n (coefficients row.terms))) (sym (factor.1 ∙ ap (λ ts. row_factor ts row.kind) e)) ((row_parts row h).1)))

pub row_kind_past : (row : GivenRow) (terms : List Term) (k : ℕ) → terms ≡ row.terms → (row_factor terms row.kind ≤ limit) × (k ≡ row_factor terms row.kind) → ¬ IsTrue (kind_within k row.kind) → ¬ IsTrue (row_within row.terms row.kind)
row_kind_past row terms k e factor past h =
    past (subst (λ (n : ℕ). IsTrue (kind_within n row.kind)) (sym (factor.1 ∙ ap (λ ts. row_factor ts row.kind) e)) ((row_parts row h).2))

row_same : (from : RowFrom) (k n : ℕ) (f : ℤ) (ts us : List Term) (i j : RowKind) → f ≡ pos n → ts ≡ us → i ≡ j → ◌≡◌ {A = Row} (record { from = from; factor = f; terms = ts; kind = i }) (record { from = from; factor = pos n; terms = us; kind = j })
row_same from k n f ts us i j e g h = λ p. record { from = from; factor = e p; terms = g p; kind = h p }

pub row_made : (row : GivenRow) (terms others made : List Term) (kind : RowKind) (k : ℕ) → terms ≡ row.terms → others ≡ row.terms → (row_factor terms row.kind ≤ limit) × (k ≡ row_factor terms row.kind) → IsTrue (all_within k (coefficients others)) × (made ≡ scaled_terms k others) → IsTrue (kind_within k row.kind) × (kind ≡ scaled_kind k row.kind) → IsTrue (row_within row.terms row.kind) × ◌≡◌ {A = Row} (record { from = row.from; factor = to_z w128 k; terms = made; kind = kind }) (scaled_row row)
row_made row terms others made kind k e f factor times_factor kinds =
    let n : ℕ = row_factor row.terms row.kind in
    let same : k ≡ n = factor.1 ∙ ap (λ ts. row_factor ts row.kind) e in
    let small : n ≤ limit = subst (λ (ts : List Term). row_factor ts row.kind ≤ limit) e factor.0 in (
      row_from_parts row small (subst (λ (v : ℕ). IsTrue (all_within v (coefficients row.terms))) same (subst (λ (ts : List Term). IsTrue (all_within k (coefficients ts))) f times_factor.0)) (subst (λ (v : ℕ). IsTrue (kind_within v row.kind)) same kinds.0),
      row_same row.from k n (to_z w128 k) made (scaled_terms n row.terms) kind (scaled_kind n row.kind) (to_z_pos w128 k (omega arith) ∙ ap pos same) (times_factor.1 ∙ ap₂ scaled_terms same f) (kinds.1 ∙ ap (λ v. scaled_kind v row.kind) same),
    )

-- ---- all rows

-- some rows are scaled, and a rest is left
pub record IsScalingRows (rows : List GivenRow) (made : List Row) (rest : List GivenRow) : Type 0 where
  pub joined : made ++ map scaled_row rest ≡ map scaled_row rows
  pub fault : rows_fault rest ≡ rows_fault rows

pub rows_start : (rows : List GivenRow) → IsScalingRows rows [] rows
rows_start rows = record { joined = refl; fault = refl }

within_goes_on : (b : Bool) (more : Option Fault) (f : Fault) → IsTrue b → more ≡ cond b more (Some f)
within_goes_on true more f h = refl
within_goes_on false more f h = absurd (cc)

past_stops : (b : Bool) (more : Option Fault) (f : Fault) → ¬ IsTrue b → cond b more (Some f) ≡ Some f
past_stops true more f h = absurd (h refl)
past_stops false more f h = refl

pub rows_step : (rows r rest : List GivenRow) (made new : List Row) (row : GivenRow) (next : Row) → IsScalingRows rows made r → r ≡ row ∷ rest → IsTrue (row_within row.terms row.kind) × (next ≡ scaled_row row) → new ≡ made ++ next ∷ [] → IsScalingRows rows new rest
unfolding rows_fault
rows_step rows r rest made new row next s e is pushed =
    let m : IsScalingRows rows made (row ∷ rest) = subst (IsScalingRows rows made) e s in
    record {
      joined =
          ap (λ xs. xs ++ map scaled_row rest) (pushed ∙ ap (λ (n : Row). made ++ n ∷ []) is.1) ∙ append_assoc made (scaled_row row ∷ []) (map scaled_row rest) ∙ m.joined;
      fault = within_goes_on (row_within row.terms row.kind) (rows_fault rest) (past_fault row.from.place) is.0 ∙ m.fault;
    }

pub rows_past : (rows r rest : List GivenRow) (made : List Row) (row : GivenRow) → IsScalingRows rows made r → r ≡ row ∷ rest → ¬ IsTrue (row_within row.terms row.kind) → rows_fault rows ≡ Some (past_fault row.from.place)
unfolding rows_fault
rows_past rows r rest made row s e past =
    let m : IsScalingRows rows made (row ∷ rest) = subst (IsScalingRows rows made) e s in
    sym m.fault ∙ past_stops (row_within row.terms row.kind) (rows_fault rest) (past_fault row.from.place) past

pub rows_end : (rows r : List GivenRow) (made list : List Row) → IsScalingRows rows made r → r ≡ [] → list ≡ made → (rows_fault rows ≡ None) × (list ≡ map scaled_row rows)
unfolding rows_fault
rows_end rows r made list s e same =
    let m : IsScalingRows rows made [] = subst (IsScalingRows rows made) e s in
    (sym m.fault, same ∙ sym (append-nil made) ∙ m.joined)

pub none_left : {X : Type 0} (xs : List X) → length xs ≡ 0 → xs ≡ []
none_left [] e = refl
none_left (x ∷ xs) e = absurd (omega arith)

pub rows_stop : (rows r rest : List GivenRow) (made : List Row) (row : GivenRow) (stop : LinFault) (e : FinishFault) → IsScalingRows rows made r → r ≡ row ∷ rest → stop ≡ fault.Past → RowAnswer row (Err stop) → e ≡ finish.Fault (past_fault row.from.place) → RowsAnswer rows (Err e)
rows_stop rows r rest made row stop e s is past answer fault =
    subst
    (λ (f : FinishFault). RowsAnswer rows (Err f))
    (sym fault)
    (rows_past rows r rest made row s is (subst (λ (l : LinFault). RowAnswer row (Err l)) past answer))

-- ---- the objective

form_parts : (form : LinearForm) → IsTrue (form_within form) → let k : ℕ = form_factor form in (k ≤ limit) × IsTrue (all_within k (coefficients form.terms)) × IsTrue (is_number (times_factor k form.constant))
unfolding form_within
form_parts form h =
    let k : ℕ = form_factor form in
    let outer = and_parts (nat_le k limit) (all_within k (coefficients form.terms) && is_number (times_factor k form.constant)) h in
    let inner = and_parts (all_within k (coefficients form.terms)) (is_number (times_factor k form.constant)) outer.1 in
    (leb-true k limit outer.0, inner.0, inner.1)

form_from_parts : (form : LinearForm) → let k : ℕ = form_factor form in (k ≤ limit) → IsTrue (all_within k (coefficients form.terms)) → IsTrue (is_number (times_factor k form.constant)) → IsTrue (form_within form)
unfolding form_within
form_from_parts form small terms constant =
    let k : ℕ = form_factor form in
    and_from (nat_le k limit) _ (le-leb k limit small) (and_from (all_within k (coefficients form.terms)) (is_number (times_factor k form.constant)) terms constant)

pub form_factor_past : (objective : Objective) → ¬ (form_factor objective.form ≤ limit) → ¬ IsTrue (form_within objective.form)
form_factor_past objective past h = past ((form_parts objective.form h).0)

pub form_terms_stop : (objective : Objective) (terms : List Term) (k : ℕ) (stop : LinFault) → terms ≡ objective.form.terms → (form_factor objective.form ≤ limit) × (k ≡ form_factor objective.form) → ScaledTermsAnswer k terms (Err stop) → ObjectiveAnswer objective (Err stop)
form_terms_stop objective terms k fault.Memory e factor answer = tt
form_terms_stop objective terms k fault.Past e factor answer =
    λ h.
    answer
    (subst (λ (ts : List Term). IsTrue (all_within k (coefficients ts))) (sym e) (subst (λ (n : ℕ). IsTrue (all_within n (coefficients objective.form.terms))) (sym factor.1) ((form_parts objective.form h).1)))

pub form_constant_past : (objective : Objective) (constant : Rational) (k : ℕ) (p : Past) → constant ≡ objective.form.constant → (form_factor objective.form ≤ limit) × (k ≡ form_factor objective.form) → Err p ≡ factor_answer k constant → ¬ IsTrue (form_within objective.form)
form_constant_past objective constant k p e factor past h =
    number_past
    k
    constant
    p
    past
    (subst (λ (c : Rational). IsTrue (is_number (times_factor k c))) (sym e) (subst (λ (n : ℕ). IsTrue (is_number (times_factor n objective.form.constant))) (sym factor.1) ((form_parts objective.form h).2)))

target_same : (maximize : Bool) (place : Place) (n : ℕ) (f : ℤ) (ts us : List Term) (a b : Rational) → f ≡ pos n → ts ≡ us → a ≡ b → ◌≡◌ {A = Target} (record { maximize = maximize; place = Some place; factor = f; terms = ts; constant = a }) (record { maximize = maximize; place = Some place; factor = pos n; terms = us; constant = b })
target_same maximize place n f ts us a b e g h = λ p. record { maximize = maximize; place = Some place; factor = e p; terms = g p; constant = h p }

pub form_made : (objective : Objective) (terms made : List Term) (constant v : Rational) (k : ℕ) → terms ≡ objective.form.terms → constant ≡ objective.form.constant → (form_factor objective.form ≤ limit) × (k ≡ form_factor objective.form) → IsTrue (all_within k (coefficients terms)) × (made ≡ scaled_terms k terms) → Ok v ≡ factor_answer k constant → IsTrue (form_within objective.form) × ◌≡◌ {A = Target} (record { maximize = objective.maximize; place = Some objective.place; factor = to_z w128 k; terms = made; constant = v }) (scaled_target (Some objective))
form_made objective terms made constant v k e f factor scaled_all ok =
    let n : ℕ = form_factor objective.form in
    let same : k ≡ n = factor.1 in
    let small : n ≤ limit = factor.0 in
    let number = number_made k constant v ok in (
      form_from_parts objective.form small (subst (λ (w : ℕ). IsTrue (all_within w (coefficients objective.form.terms))) same (subst (λ (ts : List Term). IsTrue (all_within k (coefficients ts))) e scaled_all.0)) (subst (λ (w : ℕ). IsTrue (is_number (times_factor w objective.form.constant))) same (subst (λ (c : Rational). IsTrue (is_number (times_factor k c))) f number.0)),
      target_same objective.maximize objective.place n (to_z w128 k) made (scaled_terms n objective.form.terms) v (times_factor n objective.form.constant) (to_z_pos w128 k (omega arith) ∙ ap pos same) (scaled_all.1 ∙ ap₂ scaled_terms same e) (number.1 ∙ ap₂ times_factor same f),
    )

pub objective_made : (objective : Objective) → IsTrue (form_within objective.form) → objective_fault (Some objective) ≡ None
unfolding objective_fault
objective_made objective h = sym (within_goes_on (form_within objective.form) None (past_fault objective.place) h)

pub objective_past : (objective : Objective) → ¬ IsTrue (form_within objective.form) → objective_fault (Some objective) ≡ Some (past_fault objective.place)
unfolding objective_fault
objective_past objective past = past_stops (form_within objective.form) None (past_fault objective.place) past

pub no_objective : objective_fault None ≡ None
unfolding objective_fault
no_objective = refl

pub none_made : (o : Option Objective) (terms : List Term) (constant : Rational) → o ≡ None → terms ≡ [] → constant ≡ zero → (objective_fault o ≡ None) × ◌≡◌ {A = Target} (record { maximize = false; place = None; factor = pos 1; terms = terms; constant = constant }) (scaled_target o)
none_made o terms constant is e f =
    subst
    (λ (p : Option Objective). (objective_fault p ≡ None) × ◌≡◌ {A = Target} (record { maximize = false; place = None; factor = pos 1; terms = terms; constant = constant }) (scaled_target p))
    (sym is)
    (no_objective, λ i. record { maximize = false; place = None; factor = pos 1; terms = e i; constant = f i })

pub some_made : (o : Option Objective) (given : Objective) (target : Target) → o ≡ Some given → IsTrue (form_within given.form) × (target ≡ scaled_target (Some given)) → (objective_fault o ≡ None) × (target ≡ scaled_target o)
some_made o given target is made =
    subst (λ (p : Option Objective). (objective_fault p ≡ None) × (target ≡ scaled_target p)) (sym is) (objective_made given made.0, made.1)

pub some_past : (o : Option Objective) (given : Objective) (stop : LinFault) (e : FinishFault) → o ≡ Some given → stop ≡ fault.Past → ObjectiveAnswer given (Err stop) → e ≡ finish.Fault (past_fault given.place) → TargetAnswer o (Err e)
some_past o given stop e is past answer is_fault =
    subst
    (λ (f : FinishFault). TargetAnswer o (Err f))
    (sym is_fault)
    (ap objective_fault is ∙ objective_past given (subst (λ (l : LinFault). ObjectiveAnswer given (Err l)) past answer))
