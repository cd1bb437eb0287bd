-- The rows of joins, as code makes them by shares of a column and of two literals.
use Rattle.std.proofs.Common.{ℕ, ℤ, pos, neg_ℤ, ◌≡◌, ◌<◌, ◌+◌, ◌+ℤ◌, ◌-ℤ◌, ◌≤ℤ◌, SFits, Bool, true, false, if◌then◌else◌, List, [], ◌∷◌, map, arith, ap, ap₂, refl, sym, ◌∙◌, subst}
use Rattle.std.specs.Int.{w8, w128}
use Rattle.std.proofs.lemmas.Int.{ints}
use Rattle.zim_rational.specs.Rational.{Rational, zero, one, whole, plus, minus, negate, times}
use Rattle.zim_rational.proofs.Fraction.{fractions, common5}
use Rattle.zim_rational.proofs.Ring.{minus_is, negate_times, one_times, zero_plus, times_minus, times_one}
use Rattle.zim_rational.proofs.Whole.{one_different, whole_plus, whole_negate}
use Rattle.zim_linear.specs.Forms.{LinearForm, form_of, ColumnNumbers, AreTerms, number_at}
use Rattle.zim_linear.specs.Sums.{negated_form}
use Rattle.zim_linear.proofs.UniqueLaws.{one_form}
use Rattle.zim_forms.specs.Algebra.{◌⊕◌, ◌⊖◌, ◌⊙◌, known, the, IsBehind}
use Rattle.zim_forms.proofs.AlgebraLaws.{number_sum, number_difference, number_multiple, number_known}
use Rattle.zim_forms.proofs.OrderLaws.{with_terms_ordered}
use Rattle.zim_rows.specs.declared.rows.GivenRow.{GivenRow}
use Rattle.zim_rows.specs.declared.rows.RowFrom.{RowFrom}
use Rattle.zim_rows.specs.declared.rows.RowKind.TheVariants.{One}
use Rattle.zim_rows.specs.declared.rows.Sense.{Sense}
use Rattle.zim_rows.specs.declared.rows.Sense.TheVariants.{AtLeast, AtMost, Equal}
use Rattle.zim_rows.specs.declared.steps.NewRow.{NewRow}
use Rattle.zim_rows.specs.Steps.{given_row}
use Rattle.zim_fault.specs.declared.tokens.Join.TheVariants.{And, Or, Xor}
use Rattle.zim_rows.specs.System.{row_of}
use Rattle.zim_logic_rows.specs.declared.Literal.{Literal}
use Rattle.zim_logic_rows.specs.LogicRows.{compared_row}
use Rattle.zim_logic_rows.specs.Steps.{terms_row}
use Rattle.zim_logic_rows.specs.Literals.{literal_form, is, literal, join_rows, equal_rows}
use Rattle.zim_logic_rows.proofs.ColumnLaws.{multiple_ordered, kept_constant, row_same, behind_next}
use Rattle.zim_logic_rows.proofs.SizeLaws.{twice}

-- ---- shares of literals

abbrev pub coefficient : Literal → ℤ → ℤ
coefficient l share = if l.positive then share else neg_ℤ share

abbrev pub constant : Literal → ℤ → ℤ
constant l share = if l.positive then pos 0 else share

share_by : (x : ColumnNumbers) (b : ℕ) (positive : Bool) (share : ℤ)
    → times (whole share) (number_at x (literal_form b positive)) ≡ plus (whole (if positive then pos 0 else share)) (times (whole (if positive then share else neg_ℤ share)) (number_at x (the b)))
unfolding zero
share_by x b true share = sym (zero_plus (times (whole share) (number_at x (the b))))
share_by x b false share =
    let v : Rational = number_at x (the b) in
    ap (times (whole share)) (number_difference x (known one) (the b) ∙ ap (λ (k : Rational). minus k v) (number_known x one))
    ∙ times_minus (whole share) one v
    ∙ ap (λ (k : Rational). minus k (times (whole share) v)) (times_one (whole share))
    ∙ minus_is (whole share) (times (whole share) v)
    ∙ ap (plus (whole share)) (sym (negate_times (whole share) v) ∙ ap (λ (k : Rational). times k v) (whole_negate share))

share_number : (x : ColumnNumbers) (l : Literal) (share : ℤ) → number_at x (whole share ⊙ is l) ≡ plus (whole (constant l share)) (times (whole (coefficient l share)) (number_at x (the l.column)))
share_number x l share = number_multiple x (whole share) (is l) ∙ share_by x l.column l.positive share

-- ---- the row of three shares

-- the form of three shares, as the rows say it
abbrev pub shares_form : LinearForm → LinearForm → LinearForm → ℤ → ℤ → ℤ → LinearForm
shares_form p q r a b c = whole a ⊙ r ⊕ whole b ⊙ p ⊕ whole c ⊙ q

-- and as code makes it
abbrev pub made_form : Literal → Literal → ℕ → ℤ → ℤ → ℤ → LinearForm
made_form p q r a b c =
    known (whole (constant p b +ℤ constant q c)) ⊕ whole (coefficient p b) ⊙ the p.column ⊕ whole (coefficient q c) ⊙ the q.column ⊕ whole a ⊙ the r

gathered : (k u m v w : Rational) → plus (plus (plus (plus k m) u) v) w ≡ plus (plus w (plus k u)) (plus m v)
gathered =
    common5 (λ k u m v w. plus (plus (plus (plus k m) u) v) w ≡ plus (plus w (plus k u)) (plus m v)) (λ a b c d e f g h i j n some. simp fractions (omega arith))

made_number : (x : ColumnNumbers) (p q : Literal) (r : ℕ) (a b c : ℤ) → number_at x (made_form p q r a b c) ≡ number_at x (shares_form (is p) (is q) (the r) a b c)
made_number x p q r a b c =
    let k : Rational = whole (constant p b) in
    let m : Rational = whole (constant q c) in
    let K : LinearForm = known (whole (constant p b +ℤ constant q c)) in
    let P : LinearForm = whole (coefficient p b) ⊙ the p.column in
    let Q : LinearForm = whole (coefficient q c) ⊙ the q.column in
    let R : LinearForm = whole a ⊙ the r in
    let u : Rational = times (whole (coefficient p b)) (number_at x (the p.column)) in
    let v : Rational = times (whole (coefficient q c)) (number_at x (the q.column)) in
    let w : Rational = number_at x R in
    let start : number_at x K ≡ plus k m = number_known x (whole (constant p b +ℤ constant q c)) ∙ sym (whole_plus (constant p b) (constant q c)) in
    let with_p : number_at x (K ⊕ P) ≡ plus (plus k m) u = number_sum x K P ∙ ap₂ plus start (number_multiple x (whole (coefficient p b)) (the p.column)) in
    let with_q : number_at x (K ⊕ P ⊕ Q) ≡ plus (plus (plus k m) u) v = number_sum x (K ⊕ P) Q ∙ ap₂ plus with_p (number_multiple x (whole (coefficient q c)) (the q.column)) in
    number_sum x (K ⊕ P ⊕ Q) R
    ∙ ap (λ (n : Rational). plus n w) with_q
    ∙ gathered k u m v w
    ∙ sym (number_sum x (R ⊕ whole b ⊙ is p) (whole c ⊙ is q) ∙ ap₂ plus (number_sum x R (whole b ⊙ is p) ∙ ap (plus w) (share_number x p b)) (share_number x q c))

ordered_sum : (a b : LinearForm) → AreTerms a.terms → AreTerms (a ⊕ b).terms
ordered_sum a b h = with_terms_ordered a.terms b.terms h

shares_ordered : (p q : LinearForm) (r : ℕ) (a b c : ℤ) → AreTerms (shares_form p q (the r) a b c).terms
shares_ordered p q r a b c =
    ordered_sum (whole a ⊙ the r ⊕ whole b ⊙ p) (whole c ⊙ q) (ordered_sum (whole a ⊙ the r) (whole b ⊙ p) (multiple_ordered (whole a) r))

made_is : (p q : Literal) (r : ℕ) (a b c : ℤ) → made_form p q r a b c ≡ shares_form (is p) (is q) (the r) a b c
made_is p q r a b c =
    let K : LinearForm = known (whole (constant p b +ℤ constant q c)) in
    let P : LinearForm = whole (coefficient p b) ⊙ the p.column in
    let Q : LinearForm = whole (coefficient q c) ⊙ the q.column in
    one_form (made_form p q r a b c) (shares_form (is p) (is q) (the r) a b c)
    (ordered_sum (K ⊕ P ⊕ Q) (whole a ⊙ the r) (ordered_sum (K ⊕ P) Q (ordered_sum K P tt)))
    (shares_ordered (is p) (is q) r a b c) (λ x. made_number x p q r a b c)

made_constant : (p q : Literal) (r : ℕ) (a b c : ℤ) → (made_form p q r a b c).constant ≡ whole (constant p b +ℤ constant q c)
made_constant p q r a b c =
    let K : LinearForm = known (whole (constant p b +ℤ constant q c)) in
    let P : LinearForm = whole (coefficient p b) ⊙ the p.column in
    let Q : LinearForm = whole (coefficient q c) ⊙ the q.column in
    kept_constant (K ⊕ P ⊕ Q) (whole a) r ∙ kept_constant (K ⊕ P) (whole (coefficient q c)) q.column ∙ kept_constant K (whole (coefficient p b)) p.column

-- the row of such a form, its constant on the right side
pub shares_row : (source : RowFrom) (p q : Literal) (r : ℕ) (a b c : ℤ) (sense : Sense) (right : ℤ)
    → row_of source (made_form p q r a b c).terms (One sense (whole (right +ℤ neg_ℤ (constant p b +ℤ constant q c)))) ≡ compared_row source (shares_form (is p) (is q) (the r) a b c) sense (whole right)
shares_row source p q r a b c sense right =
    let k : ℤ = constant p b +ℤ constant q c in
    row_same source (made_form p q r a b c) (shares_form (is p) (is q) (the r) a b c) sense (whole (right +ℤ neg_ℤ k)) (whole right) (made_is p q r a b c)
    (sym (whole_plus right (neg_ℤ k))
    ∙ ap (plus (whole right)) (sym (whole_negate k) ∙ ap negate (sym (made_constant p q r a b c) ∙ ap (λ (f : LinearForm). f.constant) (made_is p q r a b c))))

-- ---- the forms of the joins

by_one : (v : Rational) → v ≡ times (whole (pos 1)) v
unfolding one
by_one v = sym (one_times v)

by_minus : (v : Rational) → negate v ≡ times (whole (neg_ℤ (pos 1))) v
by_minus v =
    ap negate (by_one v) ∙ sym (negate_times (whole (pos 1)) v) ∙ ap (λ (k : Rational). times k v) (whole_negate (pos 1))

added : (x : ColumnNumbers) (f g p : LinearForm) → number_at x f ≡ number_at x g → number_at x (f ⊕ p) ≡ number_at x (g ⊕ whole (pos 1) ⊙ p)
added x f g p e =
    number_sum x f p ∙ ap₂ plus e (by_one (number_at x p) ∙ sym (number_multiple x (whole (pos 1)) p)) ∙ sym (number_sum x g (whole (pos 1) ⊙ p))

taken : (x : ColumnNumbers) (f g p : LinearForm) → number_at x f ≡ number_at x g → number_at x (f ⊖ p) ≡ number_at x (g ⊕ whole (neg_ℤ (pos 1)) ⊙ p)
taken x f g p e =
    number_difference x f p
    ∙ minus_is (number_at x f) (number_at x p)
    ∙ ap₂ plus e (by_minus (number_at x p) ∙ sym (number_multiple x (whole (neg_ℤ (pos 1))) p))
    ∙ sym (number_sum x g (whole (neg_ℤ (pos 1)) ⊙ p))

once_is : (x : ColumnNumbers) (r : LinearForm) → number_at x r ≡ number_at x (whole (pos 1) ⊙ r)
once_is x r = by_one (number_at x r) ∙ sym (number_multiple x (whole (pos 1)) r)

twice_is : (x : ColumnNumbers) (r : LinearForm) → number_at x (r ⊕ r) ≡ number_at x (whole (pos 2) ⊙ r)
twice_is x r = number_sum x r r ∙ sym (twice (number_at x r)) ∙ sym (number_multiple x (whole (pos 2)) r)

the_ordered : (r : ℕ) → AreTerms (the r).terms
the_ordered r = (omega arith, one_different, tt)

pub twice_less : (p q : LinearForm) (r : ℕ) → shares_form p q (the r) (pos 2) (neg_ℤ (pos 1)) (neg_ℤ (pos 1)) ≡ the r ⊕ the r ⊖ p ⊖ q
twice_less p q r =
    sym
    (one_form (the r ⊕ the r ⊖ p ⊖ q) (shares_form p q (the r) (pos 2) (neg_ℤ (pos 1)) (neg_ℤ (pos 1)))
    (ordered_sum (the r ⊕ the r ⊖ p) (negated_form q) (ordered_sum (the r ⊕ the r) (negated_form p) (ordered_sum (the r) (the r) (the_ordered r))))
    (shares_ordered p q r (pos 2) (neg_ℤ (pos 1)) (neg_ℤ (pos 1)))
    (λ x. taken x (the r ⊕ the r ⊖ p) (whole (pos 2) ⊙ the r ⊕ whole (neg_ℤ (pos 1)) ⊙ p) q (taken x (the r ⊕ the r) (whole (pos 2) ⊙ the r) p (twice_is x (the r)))))

pub less_less : (p q : LinearForm) (r : ℕ) → shares_form p q (the r) (pos 1) (neg_ℤ (pos 1)) (neg_ℤ (pos 1)) ≡ the r ⊖ p ⊖ q
less_less p q r =
    sym
    (one_form (the r ⊖ p ⊖ q) (shares_form p q (the r) (pos 1) (neg_ℤ (pos 1)) (neg_ℤ (pos 1)))
    (ordered_sum (the r ⊖ p) (negated_form q) (ordered_sum (the r) (negated_form p) (the_ordered r)))
    (shares_ordered p q r (pos 1) (neg_ℤ (pos 1)) (neg_ℤ (pos 1)))
    (λ x. taken x (the r ⊖ p) (whole (pos 1) ⊙ the r ⊕ whole (neg_ℤ (pos 1)) ⊙ p) q (taken x (the r) (whole (pos 1) ⊙ the r) p (once_is x (the r)))))

pub less_more : (p q : LinearForm) (r : ℕ) → shares_form p q (the r) (pos 1) (neg_ℤ (pos 1)) (pos 1) ≡ the r ⊖ p ⊕ q
less_more p q r =
    sym
    (one_form (the r ⊖ p ⊕ q) (shares_form p q (the r) (pos 1) (neg_ℤ (pos 1)) (pos 1))
    (ordered_sum (the r ⊖ p) q (ordered_sum (the r) (negated_form p) (the_ordered r)))
    (shares_ordered p q r (pos 1) (neg_ℤ (pos 1)) (pos 1))
    (λ x. added x (the r ⊖ p) (whole (pos 1) ⊙ the r ⊕ whole (neg_ℤ (pos 1)) ⊙ p) q (taken x (the r) (whole (pos 1) ⊙ the r) p (once_is x (the r)))))

pub more_less : (p q : LinearForm) (r : ℕ) → shares_form p q (the r) (pos 1) (pos 1) (neg_ℤ (pos 1)) ≡ the r ⊕ p ⊖ q
more_less p q r =
    sym
    (one_form (the r ⊕ p ⊖ q) (shares_form p q (the r) (pos 1) (pos 1) (neg_ℤ (pos 1)))
    (ordered_sum (the r ⊕ p) (negated_form q) (ordered_sum (the r) p (the_ordered r)))
    (shares_ordered p q r (pos 1) (pos 1) (neg_ℤ (pos 1)))
    (λ x. taken x (the r ⊕ p) (whole (pos 1) ⊙ the r ⊕ whole (pos 1) ⊙ p) q (added x (the r) (whole (pos 1) ⊙ the r) p (once_is x (the r)))))

pub more_more : (p q : LinearForm) (r : ℕ) → shares_form p q (the r) (pos 1) (pos 1) (pos 1) ≡ the r ⊕ p ⊕ q
more_more p q r =
    sym
    (one_form (the r ⊕ p ⊕ q) (shares_form p q (the r) (pos 1) (pos 1) (pos 1))
    (ordered_sum (the r ⊕ p) q (ordered_sum (the r) p (the_ordered r)))
    (shares_ordered p q r (pos 1) (pos 1) (pos 1))
    (λ x. added x (the r ⊕ p) (whole (pos 1) ⊙ the r ⊕ whole (pos 1) ⊙ p) q (added x (the r) (whole (pos 1) ⊙ the r) p (once_is x (the r)))))

-- a row by another form and a right side in another way
pub row_by : (source : RowFrom) (f g : LinearForm) (sense : Sense) (a b : Rational) → f ≡ g → a ≡ b → compared_row source f sense a ≡ compared_row source g sense b
row_by source f g sense a b e h = ap₂ (λ (k : LinearForm) (v : Rational). compared_row source k sense v) e h

-- the right sides
pub right_nought : whole (pos 0) ≡ zero
unfolding zero
right_nought = refl

pub right_minus : whole (neg_ℤ (pos 1)) ≡ negate one
unfolding one
right_minus = sym (whole_negate (pos 1))

pub right_two : whole (pos 2) ≡ plus one one
unfolding one
right_two = sym (whole_plus (pos 1) (pos 1))

-- ---- the rows of each join

abbrev shared : RowFrom → Literal → Literal → ℕ → ℤ → ℤ → ℤ → Sense → ℤ → GivenRow
shared source p q r a b c sense right = compared_row source (shares_form (is p) (is q) (the r) a b c) sense (whole right)

pub rows_and : (source : RowFrom) (p q : Literal) (r : ℕ) (f g : NewRow) → given_row f ≡ shared source p q r (pos 2) (neg_ℤ (pos 1)) (neg_ℤ (pos 1)) AtMost (pos 0) → given_row g ≡ shared source p q r (pos 1) (neg_ℤ (pos 1)) (neg_ℤ (pos 1)) AtLeast (neg_ℤ (pos 1))
    → map given_row (f ∷ g ∷ []) ≡ join_rows source And (is p) (is q) (the r)
rows_and source p q r f g e d =
    ap₂ (λ (a b : GivenRow). a ∷ b ∷ []) (e ∙ row_by source _ _ AtMost _ _ (twice_less (is p) (is q) r) right_nought) (d ∙ row_by source _ _ AtLeast _ _ (less_less (is p) (is q) r) right_minus)

pub rows_or : (source : RowFrom) (p q : Literal) (r : ℕ) (f g : NewRow) → given_row f ≡ shared source p q r (pos 2) (neg_ℤ (pos 1)) (neg_ℤ (pos 1)) AtLeast (pos 0) → given_row g ≡ shared source p q r (pos 1) (neg_ℤ (pos 1)) (neg_ℤ (pos 1)) AtMost (pos 0)
    → map given_row (f ∷ g ∷ []) ≡ join_rows source Or (is p) (is q) (the r)
rows_or source p q r f g e d =
    ap₂ (λ (a b : GivenRow). a ∷ b ∷ []) (e ∙ row_by source _ _ AtLeast _ _ (twice_less (is p) (is q) r) right_nought) (d ∙ row_by source _ _ AtMost _ _ (less_less (is p) (is q) r) right_nought)

pub rows_xor : (source : RowFrom) (p q : Literal) (r : ℕ) (f g h k : NewRow) → given_row f ≡ shared source p q r (pos 1) (neg_ℤ (pos 1)) (neg_ℤ (pos 1)) AtMost (pos 0) → given_row g ≡ shared source p q r (pos 1) (neg_ℤ (pos 1)) (pos 1) AtLeast (pos 0)
    → given_row h ≡ shared source p q r (pos 1) (pos 1) (neg_ℤ (pos 1)) AtLeast (pos 0) → given_row k ≡ shared source p q r (pos 1) (pos 1) (pos 1) AtMost (pos 2) → map given_row (f ∷ g ∷ h ∷ k ∷ []) ≡ join_rows source Xor (is p) (is q) (the r)
rows_xor source p q r f g h k e d i j =
    ap₂ (λ (a : GivenRow) (rows : List GivenRow). a ∷ rows) (e ∙ row_by source _ _ AtMost _ _ (less_less (is p) (is q) r) right_nought)
    (ap₂ (λ (a : GivenRow) (rows : List GivenRow). a ∷ rows) (d ∙ row_by source _ _ AtLeast _ _ (less_more (is p) (is q) r) right_nought)
    (ap₂ (λ (a b : GivenRow). a ∷ b ∷ []) (i ∙ row_by source _ _ AtLeast _ _ (more_less (is p) (is q) r) right_nought) (j ∙ row_by source _ _ AtMost _ _ (more_more (is p) (is q) r) right_two)))

pub rows_equal : (source : RowFrom) (g l e : ℕ) (row : NewRow) → given_row row ≡ shared source (literal g true) (literal l true) e (pos 1) (neg_ℤ (pos 1)) (neg_ℤ (pos 1)) Equal (neg_ℤ (pos 1)) → map given_row (row ∷ []) ≡ equal_rows source g l e
rows_equal source g l e row d = ap (λ (a : GivenRow). a ∷ []) (d ∙ row_by source _ _ Equal _ _ (less_less (the g) (the l) e) right_minus)

-- ---- what the code made

-- small numbers fit
pub sum_fits : (k m : ℤ) → neg_ℤ (pos 128) ≤ℤ k → k ≤ℤ pos 127 → neg_ℤ (pos 128) ≤ℤ m → m ≤ℤ pos 127 → SFits w128 (k +ℤ m)
sum_fits k m low high low_more high_more = omega (arith, ints)

pub wide_fits : (n : ℤ) → SFits w8 n → SFits w128 n
wide_fits n fits = omega (arith, ints)

pub rest_fits : (n k m : ℤ) → SFits w8 n → neg_ℤ (pos 128) ≤ℤ k → k ≤ℤ pos 127 → neg_ℤ (pos 128) ≤ℤ m → m ≤ℤ pos 127 → SFits w128 (n -ℤ (k +ℤ m))
rest_fits n k m fits low high low_more high_more = omega (arith, ints)

pub byte_fits : (k : ℤ) → neg_ℤ (pos 128) ≤ℤ k → k ≤ℤ pos 127 → SFits w128 k
byte_fits k low high = omega (arith, ints)

pub row_gives : (source : RowFrom) (p q : Literal) (r : ℕ) (a b c : ℤ) (sense : Sense) (right k m : ℤ) (start with_p with_q form : LinearForm) (K P Q A V : Rational) (row : NewRow) → k ≡ constant p b → m ≡ constant q c → K ≡ whole (k +ℤ m) → start ≡ form_of [] K
    → P ≡ whole (coefficient p b) → with_p ≡ start ⊕ P ⊙ the p.column → Q ≡ whole (coefficient q c) → with_q ≡ with_p ⊕ Q ⊙ the q.column → A ≡ whole a → form ≡ with_q ⊕ A ⊙ the r → V ≡ whole (right -ℤ (k +ℤ m)) → given_row row ≡ terms_row source form sense V
    → given_row row ≡ shared source p q r a b c sense right
row_gives source p q r a b c sense right k m start with_p with_q form K P Q A V row ke me Ke se Pe we Qe ve Ae fe Ve given =
    let n_is : k +ℤ m ≡ constant p b +ℤ constant q c = ap₂ (λ (i j : ℤ). i +ℤ j) ke me in
    let start_is : start ≡ known (whole (constant p b +ℤ constant q c)) = se ∙ ap (λ (v : Rational). form_of [] v) (Ke ∙ ap whole n_is) in
    let p_is : with_p ≡ known (whole (constant p b +ℤ constant q c)) ⊕ whole (coefficient p b) ⊙ the p.column = we ∙ ap₂ (λ (f : LinearForm) (v : Rational). f ⊕ v ⊙ the p.column) start_is Pe in
    let q_is : with_q ≡ known (whole (constant p b +ℤ constant q c)) ⊕ whole (coefficient p b) ⊙ the p.column ⊕ whole (coefficient q c) ⊙ the q.column = ve ∙ ap₂ (λ (f : LinearForm) (v : Rational). f ⊕ v ⊙ the q.column) p_is Qe in
    let form_is : form ≡ made_form p q r a b c = fe ∙ ap₂ (λ (f : LinearForm) (v : Rational). f ⊕ v ⊙ the r) q_is Ae in
    let less : right -ℤ (constant p b +ℤ constant q c) ≡ right +ℤ neg_ℤ (constant p b +ℤ constant q c) = less_is right (constant p b +ℤ constant q c) in
    given
    ∙ ap₂ (λ (f : LinearForm) (v : Rational). row_of source f.terms (One sense v)) form_is (Ve ∙ ap whole (ap (λ (n : ℤ). right -ℤ n) n_is ∙ less))
    ∙ shares_row source p q r a b c sense right
  where
    less_is : (i j : ℤ) → i -ℤ j ≡ i +ℤ neg_ℤ j
    less_is i j = omega (arith, ints)

-- ---- columns behind

pub behind_first : (x : ℕ) (f : LinearForm) (q : Rational) → f ≡ form_of [] q → 0 < x → IsBehind x f
behind_first x f q e some = subst (IsBehind x) (sym e) (0, some, tt)

pub behind_further : (x y : ℕ) (f g : LinearForm) (q : Rational) → g ≡ f ⊕ q ⊙ the x → x < y → IsBehind x f → IsBehind y g
behind_further x y f g q e lt h =
    let next = behind_next x f q h in
    let low : next.0 < x + 1 = next.1 in
    subst (IsBehind y) (sym e) (next.0, omega arith, next.2)
