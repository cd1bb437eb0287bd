-- Small trees computed from the definitions.
use Rattle.std.proofs.Common.{pos, negsuc, ◌≡◌, Bool, true, false, if◌then◌else◌, ◌==◌, [], ◌∷◌, Some, refl, ap, ap₂, ◌∙◌}
use Rattle.zim_fault.specs.declared.faults.Place.{Place}
use Rattle.zim_fault.specs.declared.tokens.Relation.TheVariants.{EqualTo, AtMost, AtLeast}
use Rattle.zim_rational.specs.Gcd.{gcd, euclid}
use Rattle.zim_rational.specs.Rational.{Rational, zero, whole, ratio, plus, minus, negate, times, over, reciprocal, at_most, same, same_from_parts}
use Rattle.zim_rational.specs.Rounding.{absolute}
use Rattle.zim_linear.specs.Forms.{ColumnNumbers}
use Rattle.zim_formula.specs.Ground.{sum_from, product_from, with_factor, term_number, related, otherwise_holds, constraint_holds}
use Rattle.zim_formula.specs.declared.ground.GTerm.{GTerm}
use Rattle.zim_formula.specs.declared.ground.GTerm.TheVariants as term
use Rattle.zim_formula.specs.declared.ground.GCond.TheVariants as condition
use Rattle.zim_formula.specs.declared.ground.GCon.{GCon}
use Rattle.zim_formula.specs.declared.ground.GCon.TheVariants as constraint
use Rattle.zim_formula.proofs.GroundLaws.{number-Known, number-Column, number-Sum, number-Product, number-Abs, truth-Compare, asked-Compare, asked-Vif}

here : Place
here = record { file = 0; line = 1 }

-- columns that are -2 and 1
abbrev turned : ColumnNumbers
turned j = if j == 1 then whole (negsuc 1) else whole (pos 1)

abbrev difference : GTerm
difference = term.Sum (term.Column 2) ((here, true, term.Abs here (term.Column 1)) ∷ [])

-- 2 (x2 - |x1|) / 3 is -2/3 there
difference_number : term_number turned difference ≡ sum_from (turned 2) ((here, true, absolute (turned 1)) ∷ [])
difference_number =
    number-Sum turned (term.Column 2) ((here, true, term.Abs here (term.Column 1)) ∷ []) ∙ ap₂ (λ (f s : Rational). sum_from f ((here, true, s) ∷ [])) (number-Column turned 2) (number-Abs turned here (term.Column 1) ∙ ap absolute (number-Column turned 1))

two_thirds : product_from (with_factor (Some (whole (pos 2), here)) (sum_from (turned 2) ((here, true, absolute (turned 1)) ∷ []))) ((here, true, whole (pos 3)) ∷ []) ≡ ratio (negsuc 1) 3
unfolding product_from with_factor sum_from absolute over times reciprocal minus plus negate at_most zero whole ratio gcd euclid
two_thirds = same_from_parts _ _ refl refl

product_number : term_number turned (term.Product (Some (whole (pos 2), here)) difference ((here, true, whole (pos 3)) ∷ [])) ≡ ratio (negsuc 1) 3
product_number =
    number-Product turned (Some (whole (pos 2), here)) difference ((here, true, whole (pos 3)) ∷ []) ∙ ap (λ (v : Rational). product_from (with_factor (Some (whole (pos 2), here)) v) ((here, true, whole (pos 3)) ∷ [])) difference_number ∙ two_thirds

-- a row that asks column 2 to be at most 5 where column 1 is 3, and else to be at least 7/3
abbrev row : GCon
row =
    constraint.Vif
    here
    (condition.Compare here EqualTo (term.Column 1) (term.Known (whole (pos 3))))
    (constraint.Compare here AtMost (term.Column 2) (term.Known (whole (pos 5))))
    (Some (constraint.Compare here AtLeast (term.Column 2) (term.Known (ratio (pos 7) 3))))

-- whether it holds is told by the two columns
row_holds : (x : ColumnNumbers) → constraint_holds x row ≡ (if related EqualTo (x 1) (whole (pos 3)) then related AtMost (x 2) (whole (pos 5)) else related AtLeast (x 2) (ratio (pos 7) 3))
unfolding otherwise_holds
row_holds x =
    asked-Vif x here _ _ (Some (constraint.Compare here AtLeast (term.Column 2) (term.Known (ratio (pos 7) 3)))) ∙ ap₂ (λ (p : Bool) (q : Bool × Bool). if p then q.0 else q.1) (truth-Compare x here EqualTo _ _ ∙ ap₂ (related EqualTo) (number-Column x 1) (number-Known x (whole (pos 3)))) (ap₂ (λ (p q : Bool). (p, q)) (asked-Compare x here AtMost _ _ ∙ ap₂ (related AtMost) (number-Column x 2) (number-Known x (whole (pos 5)))) (asked-Compare x here AtLeast _ _ ∙ ap₂ (related AtLeast) (number-Column x 2) (number-Known x (ratio (pos 7) 3))))

-- at 3 and 6 it is false
abbrev past_five : ColumnNumbers
past_five j = if j == 1 then whole (pos 3) else whole (pos 6)

false_computed : (if related EqualTo (past_five 1) (whole (pos 3)) then related AtMost (past_five 2) (whole (pos 5)) else related AtLeast (past_five 2) (ratio (pos 7) 3)) ≡ false
unfolding related same at_most whole
false_computed = refl

row_false : constraint_holds past_five row ≡ false
row_false = row_holds past_five ∙ false_computed

-- at -2 and 1 too, and at 0 and 5/2 it is true
low_computed : (if related EqualTo (turned 1) (whole (pos 3)) then related AtMost (turned 2) (whole (pos 5)) else related AtLeast (turned 2) (ratio (pos 7) 3)) ≡ false
unfolding related same at_most whole ratio gcd euclid
low_computed = refl

row_low : constraint_holds turned row ≡ false
row_low = row_holds turned ∙ low_computed

abbrev fits : ColumnNumbers
fits j = if j == 1 then whole (pos 0) else ratio (pos 5) 2

true_computed : (if related EqualTo (fits 1) (whole (pos 3)) then related AtMost (fits 2) (whole (pos 5)) else related AtLeast (fits 2) (ratio (pos 7) 3)) ≡ true
unfolding related same at_most whole ratio gcd euclid
true_computed = refl

row_true : constraint_holds fits row ≡ true
row_true = row_holds fits ∙ true_computed
