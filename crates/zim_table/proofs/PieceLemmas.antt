-- The texts of numbers and tuples by the pieces that the code puts.
use Rattle.std.proofs.Common.{◌≡◌, ℤ, pos, Bool, true, false, List, [], ◌∷◌, ◌++◌, length, refl, sym, ◌∙◌, ap, ap₂, arith, of_z}
use Rattle.std.specs.Prelude.{◌==◌, if◌then◌else◌, codes, decimal}
use Rattle.std.specs.Int.{w128}
use Rattle.std.specs.Fmt.{signed_decimal}
use Rattle.std.proofs.lemmas.Bool.Decides.{nat_tests}
use Rattle.zim_rational.specs.Rational.{Rational}
use Rattle.zim_tuples.specs.declared.elements.Elem.{Elem}
use Rattle.zim_table.specs.Text.{fraction_text, tuple_text, index_text}

-- a number whose denominator isn't 1
pub fraction_part : (q : Rational) (n d : ℤ) → n ≡ q.numer → d ≡ pos q.denom → ¬ (of_z w128 d ≡ 1) → signed_decimal n ++ (codes "/" ++ signed_decimal d) ≡ fraction_text q
fraction_part q n d numer denom other =
    ap₂ (λ (m e : ℤ). signed_decimal m ++ (codes "/" ++ signed_decimal e)) numer denom ∙ by (q.denom == 1) refl
  where
    by : (b : Bool) → (q.denom == 1) ≡ b → signed_decimal q.numer ++ (codes "/" ++ decimal q.denom) ≡ (if b then signed_decimal q.numer else signed_decimal q.numer ++ (codes "/" ++ decimal q.denom))
    by true e = absurd (other (ap (of_z w128) (denom ∙ ap pos (let one : q.denom ≡ 1 = grind (arith, nat_tests) in one))))
    by false e = refl

-- no tuple
pub no_index : (es tuple : List Elem) → es ≡ tuple → length es ≡ 0 → index_text tuple ≡ []
no_index [] [] same none = refl
no_index [] (e ∷ tuple) same none = cc
no_index (f ∷ es) tuple same none = absurd (omega (arith, none))

-- a tuple by its first component and the others
pub index_of : (es tuple : List Elem) (first : Elem) (others : List Elem) → es ≡ tuple → es ≡ first ∷ others → codes " " ++ tuple_text first others ≡ index_text tuple
index_of es tuple first others same is = ap index_text (sym is ∙ same)
