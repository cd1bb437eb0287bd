-- Forms with a multiple of a column, as code makes them and as the rows of steps say them.
use Rattle.std.proofs.Common.{ℕ, ◌≡◌, ◌<◌, ◌+◌, List, [], ◌∷◌, map, arith, ap, ap₂, sym, ◌∙◌}
use Rattle.zim_rational.specs.Rational.{Rational, one, plus, minus, negate, times}
use Rattle.zim_rational.proofs.Ring.{plus_comm, plus_zero, minus_is, negate_times, one_times, zero_times}
use Rattle.zim_linear.specs.Forms.{Term, LinearForm, AreTerms, AreColumns, number_at}
use Rattle.zim_linear.specs.Sums.{negated_terms, negated_form}
use Rattle.zim_linear.proofs.NegationLaws.{number_negated, negated_from}
use Rattle.zim_linear.proofs.UniqueLaws.{one_form}
use Rattle.zim_forms.specs.Algebra.{◌⊕◌, ◌⊖◌, ◌⊙◌, the, IsBehind}
use Rattle.zim_forms.proofs.AlgebraLaws.{number_sum, number_multiple}
use Rattle.zim_forms.proofs.OrderLaws.{with_terms_ordered, with_terms_over}
use Rattle.zim_forms.proofs.OverLaws.{over_the, over_multiple}
use Rattle.zim_rows.specs.declared.rows.RowFrom.{RowFrom}
use Rattle.zim_rows.specs.declared.rows.RowKind.TheVariants.{One}
use Rattle.zim_rows.specs.declared.rows.Sense.{Sense}
use Rattle.zim_rows.specs.System.{row_of}
use Rattle.zim_logic_rows.specs.LogicRows.{compared_row}
use Rattle.zim_logic_rows.proofs.ValidLaws.{columns_more}

pub multiple_ordered : (q : Rational) (b : ℕ) → AreTerms (q ⊙ the b).terms
multiple_ordered q b = with_terms_ordered [] (map (λ (t : Term). (t.0, times t.1 q)) (the b).terms) tt

-- a multiple of a column with its sign turned
turned_multiple : (q : Rational) (b : ℕ) → negated_form (q ⊙ the b) ≡ negate q ⊙ the b
turned_multiple q b =
    one_form (negated_form (q ⊙ the b)) (negate q ⊙ the b) (negated_from 0 (q ⊙ the b).terms (multiple_ordered q b)) (multiple_ordered (negate q) b)
    (λ x.
    number_negated x (q ⊙ the b)
    ∙ ap negate (number_multiple x q (the b))
    ∙ sym (negate_times q (number_at x (the b)))
    ∙ sym (number_multiple x (negate q) (the b)))

-- a form less a multiple of a column
pub less_is : (a : LinearForm) (q : Rational) (b : ℕ) → a ⊖ q ⊙ the b ≡ a ⊕ negate q ⊙ the b
less_is a q b = ap (λ (f : LinearForm). a ⊕ f) (turned_multiple q b)

-- a multiple of a column has no constant
pub kept_constant : (a : LinearForm) (q : Rational) (b : ℕ) → (a ⊕ q ⊙ the b).constant ≡ a.constant
kept_constant a q b = ap (plus a.constant) (zero_times q) ∙ plus_zero a.constant

-- a row whose right side is what is left of r without the constant
pub row_less : (source : RowFrom) (a : LinearForm) (q : Rational) (b : ℕ) (sense : Sense) (right r : Rational) → right ≡ minus r a.constant
    → row_of source (a ⊕ negate q ⊙ the b).terms (One sense right) ≡ compared_row source (a ⊖ q ⊙ the b) sense r
row_less source a q b sense right r h =
    ap₂ (λ (f : LinearForm) (v : Rational). row_of source f.terms (One sense v)) (sym (less_is a q b))
    (h ∙ minus_is r a.constant ∙ ap (λ (k : Rational). plus r (negate k)) (sym (ap (λ (f : LinearForm). f.constant) (less_is a q b) ∙ kept_constant a (negate q) b)))

-- a column before a form, and behind it
pub column_more : (t : LinearForm) (p : ℕ) → 0 < p → AreTerms t.terms → t ⊕ one ⊙ the p ≡ the p ⊕ t
column_more t p some ordered =
    one_form (t ⊕ one ⊙ the p) (the p ⊕ t) (with_terms_ordered t.terms (one ⊙ the p).terms ordered)
    (with_terms_ordered (the p).terms t.terms (over_the p p some (omega arith)).ordered)
    (λ x.
    number_sum x t (one ⊙ the p)
    ∙ ap (plus (number_at x t)) (number_multiple x one (the p) ∙ one_times (number_at x (the p)))
    ∙ plus_comm (number_at x t) (number_at x (the p))
    ∙ sym (number_sum x (the p) t))

pub column_less : (t : LinearForm) (p : ℕ) → 0 < p → AreTerms t.terms → negated_form t ⊕ one ⊙ the p ≡ the p ⊖ t
column_less t p some ordered = column_more (negated_form t) p some (negated_from 0 t.terms ordered)

-- a row by a form that code made otherwise
pub row_same : (source : RowFrom) (made f : LinearForm) (sense : Sense) (right r : Rational) → made ≡ f → right ≡ plus r (negate f.constant) → row_of source made.terms (One sense right) ≡ compared_row source f sense r
row_same source made f sense right r e h =
    ap₂ (λ (g : LinearForm) (v : Rational). row_of source g.terms (One sense v)) e h

-- ---- columns behind a form

negated_columns : (n : ℕ) (ts : List Term) → AreColumns n ts → AreColumns n (negated_terms ts)
negated_columns n [] h = tt
negated_columns n (t ∷ ts) h = (h.0, h.1, negated_columns n ts h.2)

pub behind_negated : (p : ℕ) (f : LinearForm) → IsBehind p f → IsBehind p (negated_form f)
behind_negated p f h = (h.0, h.1, negated_columns h.0 f.terms h.2)

pub behind_next : (p : ℕ) (f : LinearForm) (q : Rational) → IsBehind p f → IsBehind (p + 1) (f ⊕ q ⊙ the p)
behind_next p f q h =
    let lt : h.0 < p = h.1 in
    let some : 0 < p = omega arith in
    let low : p < p + 1 = omega arith in
    (p, low, with_terms_over p f.terms (q ⊙ the p).terms (columns_more h.0 p f.terms (omega arith) h.2) (over_multiple p q (the p) (over_the p p some (omega arith))).columns)
