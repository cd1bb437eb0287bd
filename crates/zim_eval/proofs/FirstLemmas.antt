-- Where an expression begins is the place of its first token.
use Rattle.std.proofs.Common.{◌≡◌, refl, sym, ap, ◌∙◌, subst}
use Rattle.zim_fault.specs.declared.faults.Place.{Place}
use Rattle.zim_meaning.specs.Expressions.{Calls}
use Rattle.zim_meaning.specs.Value.{ConstMeaning, SlotMeaning, BodyMeaning, LoopMeaning, TupleMeaning, const_meaning_step, slot_meaning_step, body_meaning_step, loop_meaning_step, tuple_meaning_step, meaning_of_const, meaning_of_slot, meaning_of_body, meaning_of_loop, meaning_of_tuple}
use Rattle.zim_meaning.specs.World.{World}
use Rattle.zim_typed.specs.FirstPlace.{const_step, slot_step, place_of_body, loop_step, place_of_angle, const_first_place}
use Rattle.zim_typed.specs.declared.constant.Const.{Const, Const-F, roll-Const, map-Const, fold-roll-Const, ind-Const}
use Rattle.zim_typed.specs.declared.constant.Loop.{Loop}
use Rattle.zim_typed.specs.declared.constant.LoopSlot.{LoopSlot}
use Rattle.zim_typed.specs.declared.constant.TAngle.{TAngle, TAngle-F, roll-TAngle, map-TAngle, fold-TAngle, fold-roll-TAngle}
use Rattle.zim_typed.specs.declared.constant.TBody.{TBody}

at_const : (world : World) (calls : Calls) (d : Const-F Const LoopSlot TBody Loop TAngle) → meaning_of_const world calls (roll-Const d) ≡ const_meaning_step world calls (map-Const Const LoopSlot TBody Loop TAngle ConstMeaning SlotMeaning BodyMeaning LoopMeaning TupleMeaning (meaning_of_const world calls) (meaning_of_slot world calls) (meaning_of_body world calls) (meaning_of_loop world calls) (meaning_of_tuple world calls) d)
unfolding meaning_of_const meaning_of_slot meaning_of_body meaning_of_loop meaning_of_tuple
at_const world calls = fold-roll-Const ConstMeaning SlotMeaning BodyMeaning LoopMeaning TupleMeaning (const_meaning_step world calls) slot_meaning_step body_meaning_step loop_meaning_step tuple_meaning_step

pub at_tuple : (world : World) (calls : Calls) (d : TAngle-F Const LoopSlot TBody Loop TAngle) → meaning_of_tuple world calls (roll-TAngle d) ≡ tuple_meaning_step (map-TAngle Const LoopSlot TBody Loop TAngle ConstMeaning SlotMeaning BodyMeaning LoopMeaning TupleMeaning (meaning_of_const world calls) (meaning_of_slot world calls) (meaning_of_body world calls) (meaning_of_loop world calls) (meaning_of_tuple world calls) d)
unfolding meaning_of_const meaning_of_slot meaning_of_body meaning_of_loop meaning_of_tuple
at_tuple world calls = fold-roll-TAngle ConstMeaning SlotMeaning BodyMeaning LoopMeaning TupleMeaning (const_meaning_step world calls) slot_meaning_step body_meaning_step loop_meaning_step tuple_meaning_step

-- where a tuple begins
abbrev tuple_first_place : TAngle → Place
tuple_first_place = fold-TAngle Place (Unit {0}) (Unit {0}) (Unit {0}) Place const_step slot_step place_of_body loop_step place_of_angle

layer : {C S B L A : Type 0} (world : World) (calls : Calls) (const : C → Const) (slot : S → LoopSlot) (body : B → TBody) (index : L → Loop) (tuple : A → TAngle) → ((c : C) → (meaning_of_const world calls (const c)).first ≡ const_first_place (const c)) → ((a : A) → (meaning_of_tuple world calls (tuple a)).place ≡ tuple_first_place (tuple a)) → (y : Const-F C S B L A) →
    (const_meaning_step world calls (map-Const Const LoopSlot TBody Loop TAngle ConstMeaning SlotMeaning BodyMeaning LoopMeaning TupleMeaning (meaning_of_const world calls) (meaning_of_slot world calls) (meaning_of_body world calls) (meaning_of_loop world calls) (meaning_of_tuple world calls) (map-Const C S B L A Const LoopSlot TBody Loop TAngle const slot body index tuple y))).first
    ≡ const_step (map-Const Const LoopSlot TBody Loop TAngle Place (Unit {0}) (Unit {0}) (Unit {0}) Place const_first_place (λ s. tt) (λ b. tt) (λ l. tt) tuple_first_place (map-Const C S B L A Const LoopSlot TBody Loop TAngle const slot body index tuple y))
layer world calls const slot body index tuple holds tuples (Const-F.Number place digits) = refl
layer world calls const slot body index tuple holds tuples (Const-F.Text place text double) = refl
layer world calls const slot body index tuple holds tuples (Const-F.Truth place truth) = refl
layer world calls const slot body index tuple holds tuples (Const-F.Infinity place) = refl
layer world calls const slot body index tuple holds tuples (Const-F.Name place name resolved) = refl
layer world calls const slot body index tuple holds tuples (Const-F.Item place name items resolved) = refl
layer world calls const slot body index tuple holds tuples (Const-F.Call place name given resolved) = refl
layer world calls const slot body index tuple holds tuples (Const-F.Func place word given) = refl
layer world calls const slot body index tuple holds tuples (Const-F.Proj place set positions) = refl
layer world calls const slot body index tuple holds tuples (Const-F.Paren place inner) = refl
layer world calls const slot body index tuple holds tuples (Const-F.Braces place inside) = refl
layer world calls const slot body index tuple holds tuples (Const-F.If place test branch otherwise) = refl
layer world calls const slot body index tuple holds tuples (Const-F.Factorial operand places) = holds operand
layer world calls const slot body index tuple holds tuples (Const-F.Power place sign base signed exponent) = holds base
layer world calls const slot body index tuple holds tuples (Const-F.Signed place minus operand) = refl
layer world calls const slot body index tuple holds tuples (Const-F.Big place word loop with_do operand) = refl
layer world calls const slot body index tuple holds tuples (Const-F.Times first others) = holds first
layer world calls const slot body index tuple holds tuples (Const-F.Plus first others) = holds first
layer world calls const slot body index tuple holds tuples (Const-F.Compare place relation left right) = holds left
layer world calls const slot body index tuple holds tuples (Const-F.Member place angle set) = tuples angle
layer world calls const slot body index tuple holds tuples (Const-F.Not place operand) = refl
layer world calls const slot body index tuple holds tuples (Const-F.And first others) = holds first
layer world calls const slot body index tuple holds tuples (Const-F.Or first others) = holds first

-- an expression's meaning begins where the expression does
pub first_known : (world : World) (calls : Calls) (c : Const) → (meaning_of_const world calls c).first ≡ const_first_place c
first_known world calls =
    ind-Const OfConst (λ s. Unit {0}) (λ b. Unit {0}) (λ l. Unit {0}) OfTuple
    (λ x y is. subst (λ (z : Const-F Const LoopSlot TBody Loop TAngle). OfConst (roll-Const z)) is
    (ap (λ (m : ConstMeaning). m.first) (at_const world calls _) ∙ layer world calls (λ c. c.0) (λ s. s.0) (λ b. b.0) (λ l. l.0) (λ a. a.0) (λ c. c.1) (λ a. a.1) y ∙ sym (place_of _)))
    (λ x y is. tt)
    (λ x y is. tt)
    (λ x y is. tt)
    (λ x y is. subst (λ (z : TAngle-F Const LoopSlot TBody Loop TAngle). OfTuple (roll-TAngle z)) is
    (ap (λ (m : TupleMeaning). m.place) (at_tuple world calls _) ∙ sym (place_of_tuple _)))
  where
    OfConst : Const → Type 0
    OfConst c = (meaning_of_const world calls c).first ≡ const_first_place c

    OfTuple : TAngle → Type 0
    OfTuple a = (meaning_of_tuple world calls a).place ≡ tuple_first_place a

    place_of : (d : Const-F Const LoopSlot TBody Loop TAngle) → const_first_place (roll-Const d) ≡ const_step (map-Const Const LoopSlot TBody Loop TAngle Place (Unit {0}) (Unit {0}) (Unit {0}) Place const_first_place (λ s. tt) (λ b. tt) (λ l. tt) tuple_first_place d)
    place_of = fold-roll-Const Place (Unit {0}) (Unit {0}) (Unit {0}) Place const_step slot_step place_of_body loop_step place_of_angle

    place_of_tuple : (d : TAngle-F Const LoopSlot TBody Loop TAngle) → tuple_first_place (roll-TAngle d) ≡ d.place
    place_of_tuple = fold-roll-TAngle Place (Unit {0}) (Unit {0}) (Unit {0}) Place const_step slot_step place_of_body loop_step place_of_angle
