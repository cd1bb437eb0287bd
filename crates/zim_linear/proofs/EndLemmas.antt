-- An end of a list of terms: the sum so far and the rest, from the start to the end.
use Rattle.std.proofs.Common.{◌≡◌, true, false, ◌&&◌, List, [], ◌∷◌, Option, Some, None, Ok, Err, refl, ap, sym, ◌∙◌, subst}
use Rattle.std.specs.Option.{is_some}
use Rattle.zim_fraction.specs.Answers.{sum_answer, product_answer}
use Rattle.zim_fraction.specs.declared.fault.Past.{Past}
use Rattle.zim_rational.specs.Rational.{Rational, zero}
use Rattle.zim_linear.specs.Forms.{Term}
use Rattle.zim_linear.specs.Ends.{HaveSides, side_of, has_end, end_from, end_answer}
use Rattle.zim_linear.specs.declared.sides.Sides.{Sides}
use Rattle.zim_linear.specs.declared.sides.End.{End}

-- whether the sides that count are there is whether those of the rest are
pub record IsSeeking (end : End) (sides : List Sides) (terms rest : List Term) : Type 0 where
  pub have : HaveSides sides rest
  pub same : has_end end sides rest ≡ has_end end sides terms

-- the end of the terms is that of the rest, from the sum so far
pub record IsAdding (end : End) (sides : List Sides) (terms : List Term) (sum : Rational) (rest : List Term) : Type 0 where
  pub have : HaveSides sides rest
  pub same : end_from end sides sum rest ≡ end_answer end sides terms

-- ---- whether each column has the side that counts

pub seek_none : (end : End) (sides : List Sides) (terms r rest : List Term) (t : Term) (side : Option Rational) → IsSeeking end sides terms r → r ≡ t ∷ rest → side ≡ side_of end sides t → is_some side ≡ false → false ≡ has_end end sides terms
unfolding has_end
seek_none end sides terms r rest t side m e is none =
    let gone : is_some (side_of end sides t) ≡ false = ap is_some (sym is) ∙ none in
    sym (ap (λ b. b && has_end end sides rest) gone) ∙ sym (ap (has_end end sides) e) ∙ m.same

pub seek_some : (end : End) (sides : List Sides) (terms r rest : List Term) (t : Term) (side : Option Rational) → IsSeeking end sides terms r → r ≡ t ∷ rest → side ≡ side_of end sides t → is_some side ≡ true → IsSeeking end sides terms rest
unfolding has_end
seek_some end sides terms r rest t side m e is some =
    let n : IsSeeking end sides terms (t ∷ rest) = subst (IsSeeking end sides terms) e m in
    let there : is_some (side_of end sides t) ≡ true = ap is_some (sym is) ∙ some in
    record { have = n.have.2; same = sym (ap (λ b. b && has_end end sides rest) there) ∙ n.same }

pub seek_end : (end : End) (sides : List Sides) (terms r : List Term) → IsSeeking end sides terms r → r ≡ [] → true ≡ has_end end sides terms
unfolding has_end
seek_end end sides terms r m e = sym (ap (has_end end sides) e) ∙ m.same

-- ---- one step of an end

from_none : (end : End) (sides : List Sides) (sum : Rational) (t : Term) (ts : List Term) → None ≡ side_of end sides t → Ok None ≡ end_from end sides sum (t ∷ ts)
unfolding end_from
from_none end sides sum t ts is = rw (sym is) refl

from_product_past : (end : End) (sides : List Sides) (sum side : Rational) (t : Term) (ts : List Term) (p : Past) → Some side ≡ side_of end sides t → Err p ≡ product_answer t.1 side → Err p ≡ end_from end sides sum (t ∷ ts)
unfolding end_from
from_product_past end sides sum side t ts p is past = rw (sym is) (rw (sym past) refl)

from_sum_past : (end : End) (sides : List Sides) (sum side product : Rational) (t : Term) (ts : List Term) (p : Past) → Some side ≡ side_of end sides t → Ok product ≡ product_answer t.1 side → Err p ≡ sum_answer sum product → Err p ≡ end_from end sides sum (t ∷ ts)
unfolding end_from
from_sum_past end sides sum side product t ts p is ok past =
    rw (sym is) (rw (sym ok) (rw (sym past) refl))

from_more : (end : End) (sides : List Sides) (sum side product next : Rational) (t : Term) (ts : List Term) → Some side ≡ side_of end sides t → Ok product ≡ product_answer t.1 side → Ok next ≡ sum_answer sum product → end_from end sides next ts ≡ end_from end sides sum (t ∷ ts)
unfolding end_from
from_more end sides sum side product next t ts is ok more =
    rw (sym is) (rw (sym ok) (rw (sym more) refl))

-- ---- the sum of the products

-- a side that counts is missing
pub end_none : (end : End) (sides : List Sides) (terms : List Term) → false ≡ has_end end sides terms → Ok None ≡ end_answer end sides terms
unfolding end_answer
end_none end sides terms none = rw (sym none) refl

pub add_start : (end : End) (sides : List Sides) (terms : List Term) (sum : Rational) → HaveSides sides terms → sum ≡ zero → true ≡ has_end end sides terms → IsAdding end sides terms sum terms
unfolding end_answer
add_start end sides terms sum have is some = record {
  have = have;
  same = rw (sym some) (ap (λ q. end_from end sides q terms) is);
}

shown : (end : End) (sides : List Sides) (terms r rest : List Term) (sum : Rational) (t : Term) → IsAdding end sides terms sum r → r ≡ t ∷ rest → end_from end sides sum (t ∷ rest) ≡ end_answer end sides terms
shown end sides terms r rest sum t m e = sym (ap (end_from end sides sum) e) ∙ m.same

pub add_none : (end : End) (sides : List Sides) (terms r rest : List Term) (sum : Rational) (t : Term) → IsAdding end sides terms sum r → r ≡ t ∷ rest → None ≡ side_of end sides t → Ok None ≡ end_answer end sides terms
add_none end sides terms r rest sum t m e is =
    from_none end sides sum t rest is ∙ shown end sides terms r rest sum t m e

pub add_product_past : (end : End) (sides : List Sides) (terms r rest : List Term) (sum side : Rational) (t : Term) (p : Past) → IsAdding end sides terms sum r → r ≡ t ∷ rest → Some side ≡ side_of end sides t → Err p ≡ product_answer t.1 side → Err p ≡ end_answer end sides terms
add_product_past end sides terms r rest sum side t p m e is past =
    from_product_past end sides sum side t rest p is past ∙ shown end sides terms r rest sum t m e

pub add_sum_past : (end : End) (sides : List Sides) (terms r rest : List Term) (sum side product : Rational) (t : Term) (p : Past) → IsAdding end sides terms sum r → r ≡ t ∷ rest → Some side ≡ side_of end sides t → Ok product ≡ product_answer t.1 side → Err p ≡ sum_answer sum product → Err p ≡ end_answer end sides terms
add_sum_past end sides terms r rest sum side product t p m e is ok past =
    from_sum_past end sides sum side product t rest p is ok past ∙ shown end sides terms r rest sum t m e

pub add_step : (end : End) (sides : List Sides) (terms r rest : List Term) (sum side product next : Rational) (t : Term) → IsAdding end sides terms sum r → r ≡ t ∷ rest → Some side ≡ side_of end sides t → Ok product ≡ product_answer t.1 side → Ok next ≡ sum_answer sum product → IsAdding end sides terms next rest
add_step end sides terms r rest sum side product next t m e is ok more =
    let n : IsAdding end sides terms sum (t ∷ rest) = subst (IsAdding end sides terms sum) e m in
    record { have = n.have.2; same = from_more end sides sum side product next t rest is ok more ∙ n.same }

pub add_end : (end : End) (sides : List Sides) (terms r : List Term) (sum : Rational) → IsAdding end sides terms sum r → r ≡ [] → Ok (Some sum) ≡ end_answer end sides terms
unfolding end_from
add_end end sides terms r sum m e = sym (ap (end_from end sides sum) e) ∙ m.same
