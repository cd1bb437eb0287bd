-- Shapes of tuples: to have one shape, and to be the same tuple, are equivalences.
use Rattle.std.proofs.Common.{◌≡◌, true, refl}
use Rattle.std.specs.Cmp.{IsEquivalence, decided}
use Rattle.std.specs.Cmp.Lexicographic.{lists_equiv}
use Rattle.zim_sets.specs.Sets.{same_kind, same_shape, same_tuple}
use Rattle.zim_tuples.specs.Elements.{same_element, same_Decides}
use Rattle.zim_tuples.specs.declared.elements.Elem.{Elem}
use Rattle.zim_tuples.specs.declared.elements.Elem.TheVariants.{Number, Text}

pub kind-reflexive : (x : Elem) → same_kind x x ≡ true
kind-reflexive (Number p) = refl
kind-reflexive (Text s) = refl

pub kind-symmetric : (x y : Elem) → same_kind x y ≡ same_kind y x
kind-symmetric (Number p) (Number q) = refl
kind-symmetric (Number p) (Text t) = refl
kind-symmetric (Text s) (Number q) = refl
kind-symmetric (Text s) (Text t) = refl

pub kind-congruent : (x y z : Elem) → same_kind x y ≡ true → same_kind x z ≡ same_kind y z
kind-congruent (Number p) (Number q) (Number r) e = refl
kind-congruent (Number p) (Number q) (Text r) e = refl
kind-congruent (Text s) (Text t) (Number r) e = refl
kind-congruent (Text s) (Text t) (Text r) e = refl
kind-congruent (Number p) (Text t) z e = cc
kind-congruent (Text s) (Number q) z e = cc

pub kinds_equivalent : IsEquivalence same_kind
kinds_equivalent = record { refl = kind-reflexive; symm = kind-symmetric; congr = kind-congruent }

pub shapes_equivalent : IsEquivalence same_shape
shapes_equivalent = lists_equiv kinds_equivalent

pub tuples_equivalent : IsEquivalence same_tuple
tuples_equivalent = lists_equiv (decided same_element same_Decides)
