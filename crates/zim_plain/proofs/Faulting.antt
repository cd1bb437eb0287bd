-- The first of several faults.
use Rattle.std.proofs.Common.{◌≡◌, Bool, true, false, IsTrue, Option, Some, None, refl, ap}
use Rattle.zim_fault.specs.declared.faults.Place.{Place}
use Rattle.zim_fault.specs.declared.faults.Fault.{Fault}
use Rattle.zim_fault.specs.declared.kinds.Kind.TheVariants.{Past}
use Rattle.zim_rows.specs.Scaled.{earlier_fault}
use Rattle.zim_plain.specs.Faults.{fault_at, past_unless}

pub first_of_none : (a b : Option Fault) → earlier_fault a b ≡ None → (a ≡ None) × (b ≡ None)
first_of_none None b e = (refl, e)
first_of_none (Some f) b e = cc

pub none_first_of : (a b : Option Fault) → a ≡ None → b ≡ None → earlier_fault a b ≡ None
none_first_of a b e f = rw e f

-- where there is no first fault, the second is what counts
pub first_of_second : (a b c : Option Fault) → a ≡ None → b ≡ c → earlier_fault a b ≡ c
first_of_second a b c e f = rw e f

pub first_of_first : (a b : Option Fault) (f : Fault) → a ≡ Some f → earlier_fault a b ≡ Some f
first_of_first a b f e = rw e refl

pub first_of_assoc : (a b c : Option Fault) → earlier_fault (earlier_fault a b) c ≡ earlier_fault a (earlier_fault b c)
first_of_assoc None b c = refl
first_of_assoc (Some f) b c = refl

pub past_none : (b : Bool) (place : Place) → past_unless b place ≡ None → IsTrue b
past_none true place e = refl
past_none false place e = cc

pub none_past : (b : Bool) (place : Place) → IsTrue b → past_unless b place ≡ None
none_past b place t = ap (λ (c : Bool). past_unless c place) t

pub past_some : (b : Bool) (place : Place) → ¬ IsTrue b → past_unless b place ≡ Some (fault_at Past place)
past_some true place other = absurd (other refl)
past_some false place _ = refl
