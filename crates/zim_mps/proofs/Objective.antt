-- The objective of a program's text is the program's, minimised: columns with a 0 add nothing.
use Rattle.std.proofs.Common.{◌≡◌, ℕ, zero, suc, ◌+◌, ◌<◌, ◌≤◌, Bool, true, false, cond, List, [], ◌∷◌, ◌++◌, length, map, Some, unwrap_or, pos, negsuc, refl, sym, ◌∙◌, ap, ap₂, arith}
use Rattle.std.specs.Prelude.{◌==◌, codes, find, option_map, if◌then◌else◌}
use Rattle.std.specs.List.{AllByRecursion, flat_map, enumerate_from, range_with_len}
use Rattle.std.proofs.lemmas.Bool.Decides.{nat_tests}
use Rattle.std.proofs.lemmas.List.{map-append}
use Rattle.zim_rational.specs.Rational as rational
use Rattle.zim_rational.specs.Rational.{Rational, whole, times, plus, negate, total}
use Rattle.zim_rational.proofs.Ring.{zero_times, zero_plus, negate_zero, negate_plus, negate_times, one_times}
use Rattle.zim_rational.proofs.Whole.{whole_negate}
use Rattle.zim_instance.specs.Instance as instance
use Rattle.zim_instance.specs.Instance.{Point, number_named, sum_of_named}
use Rattle.zim_fields.specs.Fields.{Field}
use Rattle.zim_linear.specs.Forms.{Term, AreTermsFrom, AreTerms, AreColumns}
use Rattle.zim_rows.specs.declared.rows.Column.{Column}
use Rattle.zim_rows.specs.Program.{LinearProgram}
use Rattle.zim_rows.specs.Named.{column_name, offset_name, named_term, named_objective, has_offset}
use Rattle.zim_rows.proofs.RepresentLaws.{sum_at_both}
use Rattle.zim_mps.specs.Program.{Entry, terms_of_row}
use Rattle.zim_mps.specs.Text.{FileColumn, coefficient_of, minimised, cost_of, numbered_column, mps_offset_column, numbered_columns, offset_columns, mps_columns}
use Rattle.zim_mps.specs.Correct.{minimised_term, mps_factor}
use Rattle.zim_mps.proofs.Said.{said_entry, said_column}
use Rattle.zim_mps.proofs.Transposed.{terms_from_one, terms_below, terms_again, moved_all}

-- ---- the terms that are read

-- the term of a column in the objective
abbrev cost_term : FileColumn → instance.NamedTerm
cost_term c = record { name = c.name; coefficient = c.cost }

no_cost : (name : Field) (integer : Bool) (entries : List Term) (rest : List Entry) → terms_of_row (map (said_entry name integer) entries ++ rest) (codes "obj") ≡ terms_of_row rest (codes "obj")
no_cost name integer [] rest = refl
no_cost name integer (e ∷ es) rest = no_cost name integer es rest

-- the terms of the objective are the columns' numbers in it
costs : (cs : List FileColumn) → terms_of_row (flat_map said_column cs) (codes "obj") ≡ map cost_term cs
costs [] = refl
costs (c ∷ cs) = ap (λ (ts : List instance.NamedTerm). cost_term c ∷ ts) (no_cost c.name c.integer c.entries (flat_map said_column cs) ∙ costs cs)

-- ---- sums column by column

-- the sum of the columns' products from one number on
abbrev cost_sum : Bool → Point → List Term → ℕ → ℕ → Rational
cost_sum m point terms a n = total (map (λ (j : ℕ). times (minimised m (coefficient_of terms j)) (number_named point (column_name j))) (range_with_len a n))

abbrev term_sum : Bool → Point → List Term → Rational
term_sum m point terms = total (map (λ (t : Term). times (minimised m t.1) (number_named point (column_name t.0))) terms)

minimised_zero : (m : Bool) → minimised m rational.zero ≡ rational.zero
minimised_zero true = negate_zero
minimised_zero false = refl

zero_product : (m : Bool) (z q r : Rational) → z ≡ rational.zero → plus (times (minimised m z) q) r ≡ r
zero_product m z q r e =
    ap (λ (y : Rational). plus (times y q) r) (ap (minimised m) e ∙ minimised_zero m)
    ∙ ap (λ (y : Rational). plus y r) (zero_times q)
    ∙ zero_plus r

later_column : (k a : ℕ) → a < k → (k == a) ≡ false
later_column k a more = grind (arith, nat_tests)

earlier_column : (k a : ℕ) → k < a → (k == a) ≡ false
earlier_column k a less = grind (arith, nat_tests)

pub no_coefficient : (a b : ℕ) (terms : List Term) → a < b → AreTermsFrom b terms → coefficient_of terms a ≡ rational.zero
no_coefficient a b [] h is = refl
no_coefficient a b (t ∷ ts) h is =
    rw (later_column t.0 a (omega (arith, is.0))) (no_coefficient a (suc t.0) ts (omega (arith, is.0)) is.2)

skip_first : (m : Bool) (point : Point) (t : Term) (ts : List Term) (b n : ℕ) → t.0 < b → cost_sum m point (t ∷ ts) b n ≡ cost_sum m point ts b n
unfolding total
skip_first m point t ts b zero h = refl
skip_first m point t ts b (suc n) h =
    rw (earlier_column t.0 b h, skip_first m point t ts (b + 1) n (omega arith)) refl

-- summed column by column, terms in column order give their sum
costs_sum : (m : Bool) (point : Point) (a n : ℕ) (terms : List Term) → AreTermsFrom a terms → AllByRecursion (λ (t : Term). t.0 < a + n) terms → cost_sum m point terms a n ≡ term_sum m point terms
unfolding total
costs_sum m point a zero [] is all = refl
costs_sum m point a zero (t ∷ ts) is all = absurd (omega (arith, is.0, all.0))
costs_sum m point a (suc n) [] is all = zero_product m rational.zero (number_named point (column_name a)) (cost_sum m point [] (a + 1) n) refl ∙ costs_sum m point (a + 1) n [] tt tt
costs_sum m point a (suc n) (t ∷ ts) is all = by_first (t.0 == a) refl
    (λ e. costs_sum m point (a + 1) n ts (terms_again (suc t.0) (a + 1) ts (omega arith) is.2) (moved_all a n ts all.1))
    (λ less. costs_sum m point (a + 1) n (t ∷ ts) (less, is.1, is.2) (moved_all a n (t ∷ ts) all))
  where
    by_first : (b : Bool) → (t.0 == a) ≡ b → (t.0 ≡ a → cost_sum m point ts (a + 1) n ≡ term_sum m point ts) → (a + 1 ≤ t.0 → cost_sum m point (t ∷ ts) (a + 1) n ≡ term_sum m point (t ∷ ts)) → plus (times (minimised m (unwrap_or (option_map (λ (s : Term). s.1) (cond (t.0 == a) (Some t) (find (λ (s : Term). s.0 == a) ts))) rational.zero)) (number_named point (column_name a))) (cost_sum m point (t ∷ ts) (a + 1) n) ≡ term_sum m point (t ∷ ts)
    by_first true e same other =
        let equal : t.0 ≡ a = grind (arith, nat_tests) in
        rw (e, skip_first m point t ts (a + 1) n (omega arith), same equal)
        (ap (λ (k : ℕ). plus (times (minimised m t.1) (number_named point (column_name k))) (term_sum m point ts)) (sym equal))
    by_first false e same other =
        let low : a ≤ t.0 = is.0 in
        let more : a + 1 ≤ t.0 = grind (arith, nat_tests) in
        rw e (zero_product m (coefficient_of ts a) (number_named point (column_name a)) (cost_sum m point (t ∷ ts) (a + 1) n) (no_coefficient a (suc t.0) ts (omega arith) is.2) ∙ other more)

numbered_sum : (p : LinearProgram) (point : Point) (first : ℕ) (columns : List Column) → sum_of_named point (map cost_term (map (numbered_column p) (enumerate_from first columns))) ≡ cost_sum p.target.maximize point p.target.terms first (length columns)
unfolding total
numbered_sum p point first [] = refl
numbered_sum p point first (c ∷ cs) = ap (plus (times (cost_of p.target first) (number_named point (column_name first)))) (numbered_sum p point (first + 1) cs)

terms_sum : (m : Bool) (point : Point) (terms : List Term) → sum_of_named point (map (minimised_term m) (map named_term terms)) ≡ term_sum m point terms
unfolding total
terms_sum m point [] = refl
terms_sum m point (t ∷ ts) = ap (plus (times (minimised m t.1) (number_named point (column_name t.0)))) (terms_sum m point ts)

-- the constant's term
abbrev constant_terms : LinearProgram → Bool → List instance.NamedTerm
constant_terms p b = if b then record { name = offset_name; coefficient = p.target.constant } ∷ [] else []

offset_term : (p : LinearProgram) (b : Bool) → map cost_term (if b then mps_offset_column p ∷ [] else []) ≡ map (minimised_term p.target.maximize) (constant_terms p b)
offset_term p true = refl
offset_term p false = refl

-- the objective of the text is the program's, minimised
pub objective_same : (p : LinearProgram) (point : Point) → AreTerms p.target.terms → AreColumns (length p.columns) p.target.terms → sum_of_named point (terms_of_row (flat_map said_column (mps_columns p)) (codes "obj")) ≡ sum_of_named point (map (minimised_term p.target.maximize) (named_objective p))
objective_same p point is columns =
    let m : Bool = p.target.maximize in
    ap (sum_of_named point) (costs (mps_columns p) ∙ map-append cost_term (numbered_columns p) (offset_columns p))
    ∙ sum_at_both point (map cost_term (numbered_columns p)) (map cost_term (offset_columns p))
    ∙ ap₂ plus
    (numbered_sum p point 1 p.columns
    ∙ costs_sum m point 1 (length p.columns) p.target.terms (terms_from_one (length p.columns) p.target.terms is columns) (terms_below (length p.columns) p.target.terms columns)
    ∙ sym (terms_sum m point p.target.terms))
    (ap (sum_of_named point) (offset_term p (has_offset p)))
    ∙ sym (sum_at_both point (map (minimised_term m) (map named_term p.target.terms)) (map (minimised_term m) (constant_terms p (has_offset p))))
    ∙ ap (sum_of_named point) (sym (map-append (minimised_term m) (map named_term p.target.terms) (constant_terms p (has_offset p))))

-- ---- the factor

one_whole : whole (pos 1) ≡ rational.one
unfolding rational.one
one_whole = refl

times_one_whole : (q : Rational) → q ≡ times (whole (pos 1)) q
times_one_whole q = sym (one_times q) ∙ ap (λ (r : Rational). times r q) (sym one_whole)

times_minus_one : (q : Rational) → negate q ≡ times (whole (negsuc 0)) q
times_minus_one q =
    ap negate (times_one_whole q) ∙ sym (negate_times (whole (pos 1)) q) ∙ ap (λ (r : Rational). times r q) (whole_negate (pos 1))

negated_sum : (point : Point) (terms : List instance.NamedTerm) → sum_of_named point (map (minimised_term true) terms) ≡ negate (sum_of_named point terms)
unfolding total
negated_sum point [] = sym negate_zero
negated_sum point (t ∷ ts) =
    ap₂ plus (negate_times t.coefficient (number_named point t.name)) (negated_sum point ts)
    ∙ sym (negate_plus (times t.coefficient (number_named point t.name)) (sum_of_named point ts))

kept_sum : (point : Point) (terms : List instance.NamedTerm) → sum_of_named point (map (minimised_term false) terms) ≡ sum_of_named point terms
unfolding total
kept_sum point [] = refl
kept_sum point (t ∷ ts) = ap (plus (times t.coefficient (number_named point t.name))) (kept_sum point ts)

-- minimised, a sum is the sum times the factor of the MPS file
pub sum_minimised : (m : Bool) (point : Point) (terms : List instance.NamedTerm) → sum_of_named point (map (minimised_term m) terms) ≡ times (whole (mps_factor m)) (sum_of_named point terms)
sum_minimised true point terms = negated_sum point terms ∙ times_minus_one (sum_of_named point terms)
sum_minimised false point terms = kept_sum point terms ∙ times_one_whole (sum_of_named point terms)
