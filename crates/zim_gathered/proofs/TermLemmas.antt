-- What the tree holds after one term more, and what the whole call for it says.
use Rattle.std.proofs.Common.{◌≡◌, ◌≤◌, Bool, true, false, cond, IsFalse, IsTrue, List, Option, None, Some, Result, Ok, Err, refl, ap, sym, ◌∙◌, subst, arith, nat_cmp}
use Rattle.std.specs.Map.{remove_entry}
use Rattle.std.specs.BTreeMap.{is_at, insert_entry}
use Rattle.zim_answer.specs.Answer.{◌>>=◌}
use Rattle.zim_answer.specs.Gives.{Cause, Stops}
use Rattle.zim_answer.proofs.GivesLemmas.{Stops-bind, Stops-equal}
use Rattle.zim_rational.specs.Rational.{Rational, zero, plus, same}
use Rattle.zim_fraction.specs.Answers.{sum_answer}
use Rattle.zim_fraction.specs.Limit.{is_sum_within}
use Rattle.zim_fraction.specs.declared.fault.Past.{Past}
use Rattle.zim_linear.specs.Forms.{Term, AreTerms}
use Rattle.zim_forms.specs.Algebra.{with_term}
use Rattle.zim_forms.proofs.OrderLaws.{with_term_ordered}
use Rattle.zim_gathered.specs.Added.{coefficient_sum, term_added}
use Rattle.zim_gathered.proofs.ColumnLemmas.{coefficient_at, put, put_is, out_is, fits_at, fits_is}

told : (b : Bool) (r : Rational) (es : List Term) (past : Past) → ◌≡◌ {A = Result (List Term) Past} (cond b (Ok es) (Err past)) (cond b (Ok r) (Err past) >>= λ _. Ok es)
told true r es past = refl
told false r es past = refl

by_coefficient : (o : Option Rational) (q : Rational) (es : List Term) → ◌≡◌ {A = Result (List Term) Past} (cond (fits_at o q) (Ok es) (Err (record {}))) (coefficient_sum o q >>= λ _. Ok es)
unfolding sum_answer
by_coefficient None q es = refl
by_coefficient (Some p) q es = told (is_sum_within p q) (plus p q) es (record {})

-- one term more is what the sum of the coefficients of its column says
pub added_is : (t : Term) (es : List Term) → AreTerms es → term_added es t ≡ (coefficient_sum (coefficient_at t.0 es) t.1 >>= λ _. Ok (with_term t es))
unfolding term_added
added_is t es h =
    ap (λ (b : Bool). cond b (Ok (with_term t es)) (Err (record {}))) (fits_is 0 t es h) ∙ by_coefficient (coefficient_at t.0 es) t.1 (with_term t es)

pub added_stops : (t : Term) (es : List Term) (cause : Cause Past) → AreTerms es → Stops (coefficient_sum (coefficient_at t.0 es) t.1) cause → Stops (term_added es t) cause
added_stops t es cause h stops =
    Stops-equal _ (term_added es t) cause (sym (added_is t es h)) (Stops-bind (coefficient_sum (coefficient_at t.0 es) t.1) (λ _. Ok (with_term t es)) cause stops)

put_from : (b : Bool) (p r : Rational) (past : Past) → ◌≡◌ {A = Result Rational Past} (cond b (Ok p) (Err past)) (Ok r) → r ≡ p
put_from true p r past h = cc
put_from false p r past h = cc

pub put_of : (o : Option Rational) (q r : Rational) → coefficient_sum o q ≡ Ok r → r ≡ put o q
unfolding sum_answer
put_of None q r h = cc
put_of (Some p) q r h = put_from (is_sum_within p q) (plus p q) r (record {}) h

-- the tree holds the terms with one more
abbrev pub Holds : Term → List Term → List Term → Type 0
Holds t es new = new ≡ with_term t es

pub holds_put : (t : Term) (es new : List Term) (r : Rational) → AreTerms es → coefficient_sum (coefficient_at t.0 es) t.1 ≡ Ok r → IsFalse (same r zero) → new ≡ insert_entry nat_cmp es t.0 r → Holds t es new
holds_put t es new r h sum some is = is ∙ put_is 0 t.0 t.1 r es h (put_of (coefficient_at t.0 es) t.1 r sum) some

pub holds_out : (t : Term) (es new : List Term) (r : Rational) → AreTerms es → coefficient_sum (coefficient_at t.0 es) t.1 ≡ Ok r → IsTrue (same r zero) → new ≡ remove_entry (is_at (nat_cmp t.0)) es → Holds t es new
holds_out t es new r h sum none is = is ∙ out_is 0 t.0 t.1 r es h (put_of (coefficient_at t.0 es) t.1 r sum) none

pub ordered_after : (t : Term) (es new : List Term) → AreTerms es → Holds t es new → AreTerms new
ordered_after t es new h is = let le : 0 ≤ t.0 = omega arith in subst AreTerms (sym is) (with_term_ordered 0 t es le h)

pub added_after : (t : Term) (es new : List Term) (r : Rational) → AreTerms es → coefficient_sum (coefficient_at t.0 es) t.1 ≡ Ok r → Holds t es new → term_added es t ≡ Ok new
added_after t es new r h sum is =
    added_is t es h ∙ ap (λ (a : Result Rational Past). a >>= λ _. Ok (with_term t es)) sum ∙ ap Ok (sym is)
