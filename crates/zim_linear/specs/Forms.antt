-- Linear forms: their terms by column and their constant, and their number at an assignment of the columns.
use Rattle.std.specs.Prelude.{ℕ, suc, ◌≢◌, ◌<◌, ◌≤◌, List, [], ◌∷◌, map}
use Rattle.std.specs.Coded.{Coded, code_by, coded×, coded_ℕ, coded_list}
use Rattle.std.proofs.Common.{refl}
use Rattle.zim_rational.specs.Rational.{Rational, zero, plus, times, total, rational_code}

-- a column by its number, and its coefficient
abbrev pub Term : Type 0
Term = ℕ × Rational

-- terms and a constant, all of which are added
pub record LinearForm : Type 0 where
  pub terms : List Term
  pub constant : Rational

-- the form of these terms and this constant
abbrev pub form_of : List Term → Rational → LinearForm
form_of terms constant = record { terms = terms; constant = constant }

-- a form is stored as its terms and its constant
abbrev pub form_code : Coded LinearForm
form_code =
    code_by (List Term × Rational) (coded× (coded_list (coded× coded_ℕ rational_code)) rational_code) (λ f. (f.terms, f.constant)) (λ p. form_of p.0 p.1) (λ _. refl)

-- the columns are from `first` up, each above the one before, and no coefficient is 0
abbrev pub AreTermsFrom : ℕ → List Term → Type 0
AreTermsFrom first [] = Unit {0}
AreTermsFrom first (t ∷ rest) = (first ≤ t.0) × (t.1 ≢ zero) × AreTermsFrom (suc t.0) rest

-- the columns rise, and no coefficient is 0
abbrev pub AreTerms : List Term → Type 0
AreTerms = AreTermsFrom 0

-- each column of the terms is one of those from 1 to n
abbrev pub AreColumns : ℕ → List Term → Type 0
AreColumns n [] = Unit {0}
AreColumns n (t ∷ ts) = (0 < t.0) × (t.0 ≤ n) × AreColumns n ts

-- what each column is
abbrev pub ColumnNumbers : Type 0
ColumnNumbers = ℕ → Rational

-- the sum of the terms, each its coefficient times what its column is
unfoldable pub sum_at : ColumnNumbers → List Term → Rational
sum_at x terms = total (map (λ (t : Term). times t.1 (x t.0)) terms)

-- the number of a form at an assignment
unfoldable pub number_at : ColumnNumbers → LinearForm → Rational
number_at x form = plus (sum_at x form.terms) form.constant
