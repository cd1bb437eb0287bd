-- What columns are at a point: terms lie between the sides of their columns, and a literal is 0 or 1.
use Rattle.std.proofs.Common.{ℕ, suc, zero, ◌≡◌, ◌<◌, ◌≤◌, ◌-◌, Bool, true, false, inl, inr, List, [], ◌∷◌, length, map, get_or, arith, ap, ap₂, sym, ◌∙◌, subst}
use Rattle.std.proofs.lemmas.List.{get_or-map}
use Rattle.zim_rational.specs.Rational as rational
use Rattle.zim_rational.specs.Rational.{Rational, one, minus, same, IsBinary}
use Rattle.zim_rational.proofs.Ring.{minus_self, minus_zero}
use Rattle.zim_rational.proofs.Whole.{same_Decides}
use Rattle.zim_linear.specs.Forms.{Term, AreColumns, number_at}
use Rattle.zim_linear.specs.Ends.{unbounded, sides_at, IsBetween, AreBetween}
use Rattle.zim_linear.specs.declared.sides.Sides.{Sides}
use Rattle.zim_forms.specs.Algebra.{known, the}
use Rattle.zim_forms.proofs.AlgebraLaws.{number_the, number_known, number_difference}
use Rattle.zim_rows.specs.declared.rows.Column.{Column}
use Rattle.zim_rows.specs.System.{LinearSystem, column_of, column_at}
use Rattle.zim_rows.specs.Points.{KeepsColumn, KeepColumns, assigned}
use Rattle.zim_logic_rows.specs.declared.Literal.{Literal}
use Rattle.zim_logic_rows.specs.Literals.{literal_form, is, number_of}
use Rattle.zim_logic_rows.proofs.BinaryLaws.{binary_from, number_only}
use Rattle.zim_vif.specs.Meaning.{IsLiteralOf}

kept_index : (cs : List Column) (vs : List Rational) (i : ℕ) → KeepColumns cs vs → i < length cs → KeepsColumn (get_or cs i (column_of false unbounded)) (get_or vs i rational.zero)
kept_index [] vs i h lt = absurd (omega arith)
kept_index (c ∷ cs) [] i h lt = absurd h
kept_index (c ∷ cs) (v ∷ vs) zero h lt = h.0
kept_index (c ∷ cs) (v ∷ vs) (suc i) h lt = kept_index cs vs i h.1 (omega arith)

kept_at : (cs : List Column) (vs : List Rational) (j : ℕ) → KeepColumns cs vs → 0 < j → j ≤ length cs → KeepsColumn (column_at cs j) (assigned vs j)
kept_at cs vs j h some few = kept_index cs vs (j - 1) h (omega arith)

sides_same : (cs : List Column) (j : ℕ) → 0 < j → j ≤ length cs → sides_at (map (λ (c : Column). c.sides) cs) j ≡ (column_at cs j).sides
sides_same cs j some few = get_or-map (λ (c : Column). c.sides) cs (j - 1) (column_of false unbounded) unbounded (omega arith)

-- the columns of terms lie between their sides
pub are_between : (cs : List Column) (vs : List Rational) (ts : List Term) → KeepColumns cs vs → AreColumns (length cs) ts → AreBetween (assigned vs) (map (λ (c : Column). c.sides) cs) ts
are_between cs vs [] h over = tt
are_between cs vs (t ∷ ts) h over = (
  subst (λ (s : Sides). IsBetween s (assigned vs t.0)) (sym (sides_same cs t.0 over.0 over.1)) (kept_at cs vs t.0 h over.0 over.1).between,
  are_between cs vs ts h over.2,
)

one_less : (v : Rational) → IsBinary v → IsBinary (minus one v)
one_less v (inl e) = inr (ap (minus one) e ∙ minus_zero one)
one_less v (inr e) = inl (ap (minus one) e ∙ minus_self one)

form_binary : (q : List Rational) (b : ℕ) (flag : Bool) → IsBinary (assigned q b) → IsBinary (number_at (assigned q) (literal_form b flag))
form_binary q b true two = subst IsBinary (sym (number_the (assigned q) b)) two
form_binary q b false two =
    subst IsBinary (sym (number_difference (assigned q) (known one) (the b) ∙ ap₂ minus (number_known (assigned q) one) (number_the (assigned q) b))) (one_less (assigned q b) two)

-- a literal of a system is 0 or 1 where the system's columns are kept
pub literal_binary : (s : LinearSystem) (l : Literal) (q : List Rational) → IsLiteralOf s l → KeepColumns s.columns q → IsBinary (number_at (assigned q) (is l))
literal_binary s l q of kept =
    form_binary q l.column l.positive (binary_from (assigned q l.column) (subst (λ (c : Column). KeepsColumn c (assigned q l.column)) of.is_binary (kept_at s.columns q l.column kept of.from_one of.in_columns)))

-- a binary number is that of whether it is 1
pub number_of_one : (v : Rational) → IsBinary v → v ≡ number_of (same v one)
number_of_one v two =
    let decides = same_Decides v one in
    number_only (same v one) v two (decides.1, decides.0)
