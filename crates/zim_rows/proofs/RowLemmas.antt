-- A scaled row that isn't past is a row of a finished system, and a scaled objective its target.
use Rattle.std.proofs.Common.{ℕ, pos, ◌≡◌, ◌<◌, ◌≤◌, ◌≤ℤ◌, ◌&&◌, Bool, true, false, cond, nat_le, List, [], ◌∷◌, ◌++◌, length, map, Option, Some, None, IfSome, All, IsTrue, arith, refl, ap, sym, ◌∙◌, subst}
use Rattle.std.proofs.lemmas.Int.{ints}
use Rattle.std.proofs.lemmas.Bool.{and_parts, leb-true}
use Rattle.std.proofs.lemmas.List.Elements.{All-nil, All-cons, All-tail, All-head}
use Rattle.zim_fault.specs.declared.faults.Fault.{Fault}
use Rattle.zim_rational.specs.Rational as rational
use Rattle.zim_rational.specs.Rational.{Rational, zero, negate}
use Rattle.zim_fraction.specs.Limit.{limit, is_number, is_sum_within}
use Rattle.zim_decimal.specs.Short.{is_short}
use Rattle.zim_linear.specs.Forms.{Term}
use Rattle.zim_rows.specs.declared.rows.Column.{Column}
use Rattle.zim_rows.specs.declared.rows.GivenRow.{GivenRow}
use Rattle.zim_rows.specs.declared.rows.Row.{Row}
use Rattle.zim_rows.specs.declared.rows.Objective.{Objective}
use Rattle.zim_rows.specs.declared.rows.Target.{Target}
use Rattle.zim_rows.specs.declared.rows.RowKind.{RowKind}
use Rattle.zim_rows.specs.declared.rows.RowKind.TheVariants.{One, Range}
use Rattle.zim_rows.specs.System.{IsColumn, IsKind, IsGivenRow, IsObjective, IsSystem}
use Rattle.zim_rows.specs.Program.{IsShortTerm, IsShortKind, IsWithin, IsTermWithin, IsKindWithin, HasSidesWithin, IsRow, IsTarget, IsProgram}
use Rattle.zim_rows.specs.Factors.{times_factor, coefficients, right_sides, row_factor, form_factor, all_within, kind_within, row_within, form_within, AreShortTimes}
use Rattle.zim_rows.specs.Scaled.{scaled_term, scaled_terms, scaled_kind, scaled_row, scaled_target, rows_fault, objective_fault, past_fault}
use Rattle.zim_rows.proofs.FactorLemmas.{factor_is_least}
use Rattle.zim_rows.proofs.ScaleLemmas.{terms_scaled, columns_scaled, scaled_below}
use Rattle.zim_rows.proofs.PointLemmas.{row_factor-pos, form_factor-pos}

short_parts : (k : ℕ) (ps qs : List Rational) → AreShortTimes k (ps ++ qs) → AreShortTimes k ps × AreShortTimes k qs
short_parts k [] qs h = (tt, h)
short_parts k (p ∷ ps) qs h = let rest = short_parts k ps qs h.1 in ((h.0, rest.0), rest.1)

short_terms : (k : ℕ) (ts : List Term) → AreShortTimes k (coefficients ts) → All IsShortTerm (scaled_terms k ts)
short_terms k [] h = All-nil IsShortTerm
short_terms k (t ∷ ts) h = All-cons IsShortTerm (scaled_term k t) (scaled_terms k ts) h.0 (short_terms k ts h.1)

from_one : (k : ℕ) → 0 < k → pos 1 ≤ℤ pos k
from_one k some = omega (arith, ints)

short_kind : (k : ℕ) (kind : RowKind) → 0 < k → IsKind kind → AreShortTimes k (right_sides kind) → IsTrue (kind_within k kind) → IsShortKind (scaled_kind k kind)
unfolding kind_within
short_kind k (One sense right) some is short within = short.0
short_kind k (Range low high) some is short within = record {
  short_low = short.0;
  short_high = short.1.0;
  below = scaled_below k low high some is;
  difference = (and_parts (is_number (times_factor k low) && is_number (times_factor k high)) (is_sum_within (times_factor k high) (negate (times_factor k low))) within).1;
}

terms_are_within : (k : ℕ) (ts : List Term) → IsTrue (all_within k (coefficients ts)) → All IsTermWithin (scaled_terms k ts)
unfolding all_within
terms_are_within k [] h = All-nil IsTermWithin
terms_are_within k (t ∷ ts) h =
    let both = and_parts (is_number (times_factor k t.1)) (all_within k (coefficients ts)) h in
    All-cons IsTermWithin (scaled_term k t) (scaled_terms k ts) both.0 (terms_are_within k ts both.1)

kind_is_within : (k : ℕ) (kind : RowKind) → IsTrue (kind_within k kind) → IsKindWithin (scaled_kind k kind)
unfolding kind_within
kind_is_within k (One sense right) h = h
kind_is_within k (Range low high) h =
    let sides = and_parts (is_number (times_factor k low) && is_number (times_factor k high)) (is_sum_within (times_factor k high) (negate (times_factor k low))) h in
    and_parts (is_number (times_factor k low)) (is_number (times_factor k high)) sides.0

terms_part : (terms : List Term) (kind : RowKind) → IsTrue (row_within terms kind) → IsTrue (all_within (row_factor terms kind) (coefficients terms))
unfolding row_within
terms_part terms kind h =
    (and_parts (all_within (row_factor terms kind) (coefficients terms)) (kind_within (row_factor terms kind) kind) (and_parts (nat_le (row_factor terms kind) limit) _ h).1).0

kind_part : (terms : List Term) (kind : RowKind) → IsTrue (row_within terms kind) → IsTrue (kind_within (row_factor terms kind) kind)
unfolding row_within
kind_part terms kind h = (and_parts _ _ ((and_parts (nat_le (row_factor terms kind) limit) _ h).1)).1

row_factor_within : (terms : List Term) (kind : RowKind) → IsTrue (row_within terms kind) → row_factor terms kind ≤ limit
unfolding row_within
row_factor_within terms kind h =
    leb-true (row_factor terms kind) limit (and_parts (nat_le (row_factor terms kind) limit) _ h).0

pub scaled_is_row : (n : ℕ) (row : GivenRow) → IsGivenRow n row → IsTrue (row_within row.terms row.kind) → IsRow n (scaled_row row)
scaled_is_row n row is within =
    let k : ℕ = row_factor row.terms row.kind in
    let some : 0 < k = row_factor-pos row.terms row.kind in
    let parts = short_parts k (coefficients row.terms) (right_sides row.kind) (factor_is_least (coefficients row.terms ++ right_sides row.kind)).short in
    record {
      factor = from_one k some;
      factor_within = row_factor_within row.terms row.kind within;
      terms = terms_scaled k 0 row.terms some is.terms;
      columns = columns_scaled k n row.terms is.columns;
      short = short_terms k row.terms parts.0;
      kind = short_kind k row.kind some is.kind parts.1 (kind_part row.terms row.kind within);
      terms_within = terms_are_within k row.terms (terms_part row.terms row.kind within);
      kind_within = kind_is_within k row.kind (kind_part row.terms row.kind within);
    }

-- ---- all rows

stays : (b : Bool) (more : Option Fault) (fault : Fault) → cond b more (Some fault) ≡ None → (b ≡ true) × (more ≡ None)
stays true more fault e = (refl, e)
stays false more fault e = absurd (cc)

no_fault : (row : GivenRow) (rows : List GivenRow) → rows_fault (row ∷ rows) ≡ None → IsTrue (row_within row.terms row.kind) × (rows_fault rows ≡ None)
unfolding rows_fault
no_fault row rows e = stays (row_within row.terms row.kind) (rows_fault rows) (past_fault row.from.place) e

pub scaled_are_rows : (n : ℕ) (rows : List GivenRow) → All (IsGivenRow n) rows → rows_fault rows ≡ None → All (IsRow n) (map scaled_row rows)
scaled_are_rows n [] all none = All-nil (IsRow n)
scaled_are_rows n (row ∷ rows) all none =
    let parts = no_fault row rows none in
    All-cons (IsRow n) (scaled_row row) (map scaled_row rows) (scaled_is_row n row (All-head (IsGivenRow n) row rows all) parts.0) (scaled_are_rows n rows (All-tail (IsGivenRow n) row rows all) parts.1)

-- ---- the objective

short_zero : IsTrue (is_short zero)
unfolding is_short zero rational.whole
short_zero = refl

zero_within : IsWithin zero
unfolding rational.whole zero
zero_within = refl

-- the terms and the constant of an objective that isn't past
form_numbers : (o : Objective) → objective_fault (Some o) ≡ None → All IsTermWithin (scaled_terms (form_factor o.form) o.form.terms) × IsWithin (times_factor (form_factor o.form) o.form.constant)
unfolding objective_fault form_within
form_numbers o none =
    let k : ℕ = form_factor o.form in
    let within = stays (form_within o.form) None (past_fault o.place) none in
    let parts = and_parts (all_within k (coefficients o.form.terms)) (is_number (times_factor k o.form.constant)) (and_parts (nat_le k limit) _ within.0).1 in
    (terms_are_within k o.form.terms parts.0, parts.1)

form_factor_within : (o : Objective) → objective_fault (Some o) ≡ None → form_factor o.form ≤ limit
unfolding objective_fault form_within
form_factor_within o none =
    leb-true (form_factor o.form) limit (and_parts (nat_le (form_factor o.form) limit) _ (stays (form_within o.form) None (past_fault o.place) none).0).0

pub scaled_is_target : (n : ℕ) (objective : Option Objective) → IfSome objective (IsObjective n) → objective_fault objective ≡ None → IsTarget n (scaled_target objective)
scaled_is_target n None is none = record {
  factor = from_one 1 (omega arith);
  factor_within = omega arith;
  terms = tt;
  columns = tt;
  short = All-nil IsShortTerm;
  short_constant = short_zero;
  terms_within = All-nil IsTermWithin;
  constant_within = zero_within;
  minimises = λ _. refl;
  unscaled = λ _. refl;
  no_terms = λ _. refl;
  no_constant = λ _. refl;
}
scaled_is_target n (Some o) is none =
    let k : ℕ = form_factor o.form in
    let some : 0 < k = form_factor-pos o.form in
    let parts = short_parts k (coefficients o.form.terms) (o.form.constant ∷ []) (factor_is_least (coefficients o.form.terms ++ o.form.constant ∷ [])).short in
    let numbers = form_numbers o none in
    record {
      factor = from_one k some;
      factor_within = form_factor_within o none;
      terms = terms_scaled k 0 o.form.terms some is.terms;
      columns = columns_scaled k n o.form.terms is.columns;
      short = short_terms k o.form.terms parts.0;
      short_constant = parts.1.0;
      terms_within = numbers.0;
      constant_within = numbers.1;
      minimises = λ no_place. absurd (cc);
      unscaled = λ no_place. absurd (cc);
      no_terms = λ no_place. absurd (cc);
      no_constant = λ no_place. absurd (cc);
    }

-- ---- the whole program

same_length : (rows : List GivenRow) → length (map scaled_row rows) ≡ length rows
same_length [] = refl
same_length (row ∷ rows) = let rest = same_length rows in omega arith

pub finished_rows : (columns : List Column) (rows : List GivenRow) (objective : Option Objective) (n : ℕ) (made : List Row) → IsSystem columns rows objective → n ≡ length columns → (rows_fault rows ≡ None) × (made ≡ map scaled_row rows) → All (IsRow n) made
finished_rows columns rows objective n made is e ok =
    subst (λ (k : ℕ). All (IsRow k) made) (sym e) (subst (λ (rs : List Row). All (IsRow (length columns)) rs) (sym ok.1) (scaled_are_rows (length columns) rows is.each_row ok.0))

pub finished_program : (columns cs : List Column) (rows : List GivenRow) (objective : Option Objective) (made : List Row) (target : Target) → IsSystem columns rows objective → cs ≡ columns → All HasSidesWithin cs → (rows_fault rows ≡ None) × (made ≡ map scaled_row rows) → (objective_fault objective ≡ None) × (target ≡ scaled_target objective) → IsProgram cs made target
finished_program columns cs rows objective made target is same within ok made_target =
    let few : length made ≡ length rows = ap length ok.1 ∙ same_length rows in
    let e : length cs ≡ length columns = ap length same in
    let bound = is.few_columns in
    let rows_bound = is.few_rows in
    record {
      few_columns = omega arith;
      few_rows = omega arith;
      each_column = subst (λ (xs : List Column). All IsColumn xs) (sym same) is.each_column;
      sides_within = within;
      each_row = finished_rows columns rows objective (length cs) made is e ok;
      objective = subst (λ (k : ℕ). IsTarget k target) (sym e) (subst (IsTarget (length columns)) (sym made_target.1) (scaled_is_target (length columns) objective is.objective_is made_target.0));
    }
