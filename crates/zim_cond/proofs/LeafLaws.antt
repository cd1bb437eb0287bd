-- The leaves of a condition: known truth values, and comparisons of two terms.
use Rattle.std.proofs.Common.{ℕ, ◌≡◌, Bool, true, false, IsTrue, List, length, Ok, ap, sym, ◌∙◌, subst}
use Rattle.std.proofs.lemmas.Bool.{false_from_ne_true}
use Rattle.zim_answer.proofs.BindLemmas.{bind_gave}
use Rattle.zim_rational.specs.Rational.{Rational, zero, one, at_most, is_whole, IsAtMost}
use Rattle.zim_rational.proofs.Order.{at_most_refl, at_most_zero-one, at_most_antisymm}
use Rattle.zim_rational.proofs.Whole.{one_different}
use Rattle.zim_forms.proofs.AlgebraLaws.{number_known}
use Rattle.zim_forms.proofs.OverLaws.{over_known}
use Rattle.zim_rows.specs.declared.rows.RowFrom.{RowFrom}
use Rattle.zim_rows.specs.System.{LinearSystem}
use Rattle.zim_rows.specs.Points.{assigned}
use Rattle.zim_rows.specs.Steps.{◌then◌, gives}
use Rattle.zim_logic_rows.specs.declared.Literal.{Literal}
use Rattle.zim_logic_rows.specs.Literals.{literal}
use Rattle.zim_logic_rows.specs.Truth.{truth_column, nought}
use Rattle.zim_logic_rows.proofs.TruthLaws.{RangesAt}
use Rattle.zim_logic_rows.proofs.AbsoluteLaws.{whole_zero}
use Rattle.zim_vabs.proofs.AbsoluteFormLaws.{pair_parts}
use Rattle.zim_cond.specs.Conditions.{known_literal}
use Rattle.zim_cond.specs.Meaning.{LiteralMade, MakesLiteral}
use Rattle.zim_cond.proofs.CompareLaws.{one_whole}
use Rattle.zim_cond.proofs.LiteralLaws.{truth_makes}

-- the number 0 lies between its ends at each point
nought_ranges : (p : List Rational) → RangesAt nought p
nought_ranges p =
    let e = number_known (assigned p) zero in
    record {
      over = tt;
      whole = subst (λ (q : Rational). IsTrue (is_whole q)) (sym e) whole_zero;
      above = subst (IsAtMost zero) (sym e) (at_most_refl zero);
      under = subst (λ (q : Rational). IsAtMost q zero) (sym e) (at_most_refl zero);
    }

one_above : at_most one zero ≡ false
one_above = false_from_ne_true (at_most one zero) (λ h. one_different (at_most_antisymm one zero h at_most_zero-one))

-- a literal of a truth column, as an encoding gives it
column_given : (base before : LinearSystem) (source : RowFrom) (c : Rational) (truth : List Rational → Bool) (l : Literal) (after : LinearSystem)
    → ((b : ℕ) (later : LinearSystem) → truth_column source c nought before ≡ Ok (b, later) → LiteralMade base before truth (literal b true) later)
    → (truth_column source c nought then λ b. gives (literal b true)) before ≡ Ok (l, after) → LiteralMade base before truth l after
column_given base before source c truth l after makes h =
    let (made, made_is, last) = bind_gave (truth_column source c nought before) _ (l, after) h in
    let (a, b) = pair_parts (literal made.0 true) l made.1 after last in
    subst (λ (m : LinearSystem). LiteralMade base before truth l m) b (subst (λ (k : Literal). LiteralMade base before truth k made.1) a (makes made.0 made.1 made_is))

-- a known truth value
pub known_told : (base : LinearSystem) (source : RowFrom) (truth : Bool) → MakesLiteral base (λ _. truth) (known_literal source truth)
known_told base source true before is more l after h =
    column_given base before source zero (λ _. true) l after
    (λ b later given.
    truth_makes base before source zero nought (λ _. true) b later is more whole_zero (over_known (length before.columns) zero) (λ p _. nought_ranges p)
    (λ p _. ap (at_most zero) (number_known (assigned p) zero) ∙ at_most_refl zero) given)
    h
known_told base source false before is more l after h =
    column_given base before source one (λ _. false) l after
    (λ b later given.
    truth_makes base before source one nought (λ _. false) b later is more one_whole (over_known (length before.columns) zero) (λ p _. nought_ranges p)
    (λ p _. ap (at_most one) (number_known (assigned p) zero) ∙ one_above) given)
    h
