-- When two elements are the same, and the bytes that an element's hash is made of.
use Rattle.std.specs.Prelude.{Bool, false, nat_eq, ◌≡◌, ◌++◌}
use Rattle.std.specs.Bool.{Decides}
use Rattle.std.specs.Cmp.Lexicographic.{pointwise}
use Rattle.std.specs.Hash as fed
use Rattle.std.proofs.Common.{ap}
use Rattle.std.proofs.lemmas.Slice.Eq.{bytes_eq-Decides}
use Rattle.zim_rational.specs.Rational as rational
use Rattle.zim_rational.proofs.Whole as whole
use Rattle.zim_tuples.specs.declared.elements.Elem.{Elem}
use Rattle.zim_tuples.specs.declared.elements.Elem.TheVariants.{Number, Text}

-- whether two elements are one number or one text
abbrev pub same_element : Elem → Elem → Bool
same_element (Number p) (Number q) = rational.same p q
same_element (Number p) (Text t) = false
same_element (Text s) (Number q) = false
same_element (Text s) (Text t) = pointwise nat_eq s t

-- two elements are the same exactly where they are equal
pub same_Decides : (a b : Elem) → Decides (same_element a b) (a ≡ b)
same_Decides (Number p) (Number q) =
    let d = whole.same_Decides p q in (λ t. ap Number (d.0 t), λ e. d.1 (cc))
same_Decides (Number p) (Text t) = (λ h. cc, λ e. cc)
same_Decides (Text s) (Number q) = (λ h. cc, λ e. cc)
same_Decides (Text s) (Text t) =
    let d = bytes_eq-Decides s t in (λ h. ap Text (d.0 h), λ e. d.1 (cc))

-- what is hashed of an element: whether it is a text, and then the number or the text
abbrev pub hash_input_of : Elem → fed.HashWrites
hash_input_of (Number q) = fed.u8 0 ++ (fed.i128 q.numer ++ fed.u128 q.denom)
hash_input_of (Text s) = fed.u8 1 ++ fed.slice fed.u8 s
