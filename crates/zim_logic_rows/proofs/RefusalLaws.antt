-- A refusal of a number that is past is the fault of the answer at the place.
use Rattle.std.proofs.Common.{◌≡◌, Result, ap}
use Rattle.zim_answer.specs.Gives.{Stops}
use Rattle.zim_fault.specs.declared.faults.Place.{Place}
use Rattle.zim_fraction.specs.declared.fault.Past.{Past}
use Rattle.zim_linear.specs.declared.faults.LinFault.{LinFault}
use Rattle.zim_linear.specs.declared.faults.LinFault.TheVariants as refusal
use Rattle.zim_forms.specs.Algebra.{form_cause}
use Rattle.zim_rows.specs.declared.faults.EncodeFault.{EncodeFault}
use Rattle.zim_rows.specs.Steps.{encode_cause}
use Rattle.zim_logic_rows.specs.LogicRows.{past_at}
use Rattle.zim_logic_rows.specs.Steps.{past_refused}

by_fault : {A : Type 0} (place : Place) (answer : Result A Past) (fault : LinFault) → Stops answer (form_cause fault) → Stops (past_at place answer) (encode_cause (past_refused place fault))
by_fault place answer refusal.Past h = ap (past_at place) h
by_fault place answer refusal.Memory h = tt

pub past_stops : {A : Type 0} (place : Place) (answer : Result A Past) (fault : LinFault) (refused : EncodeFault) → refused ≡ past_refused place fault → Stops answer (form_cause fault) → Stops (past_at place answer) (encode_cause refused)
past_stops place answer fault refused e h = rw e (by_fault place answer fault h)
