-- Constants that belong to expressions suit the scope.
use Rattle.std.proofs.Common.{ℕ, suc, ◌≡◌, List, Bool, true, false, Option, Some, None, if◌then◌else◌, length, get_or, arith, refl, ap, subst}
use Rattle.std.proofs.lemmas.Bool.{false≢true}
use Rattle.std.proofs.lemmas.List.Quantifiers.{position-Some}
use Rattle.zim_tree.specs.declared.expr.Expr.{Expr}
use Rattle.zim_tree.specs.declared.expr.Angle.{Angle}
use Rattle.zim_tree.specs.declared.expr.Index.{Index}
use Rattle.zim_tree.specs.declared.expr.Body.{Body}
use Rattle.zim_fault.specs.declared.faults.Place.{Place}
use Rattle.zim_fault.specs.declared.tokens.Token.{Token}
use Rattle.zim_typed.specs.declared.constant.Const.{Const}
use Rattle.zim_typed.specs.declared.constant.TAngle.{TAngle}
use Rattle.zim_typed.specs.declared.constant.Loop.{Loop}
use Rattle.zim_typed.specs.declared.constant.LoopSlot.{LoopSlot}
use Rattle.zim_typed.specs.declared.constant.TBody.{TBody}
use Rattle.zim_typed.specs.declared.constant.Const.TheVariants as const
use Rattle.zim_typed.specs.declared.constant.Resolved.{Resolved}
use Rattle.zim_typed.specs.declared.constant.Resolved.TheVariants as resolved
use Rattle.zim_typed.specs.Scope.{Text, Names, Scope, Use, Stands, Misused, is_local, kind_of_name, bare_declared, indexed_declared, called_declared, takes}
use Rattle.zim_typed.specs.Pattern.{binds, binding}
use Rattle.zim_typed.specs.Constants.{IsConst, AreConsts, AreOperands, AreConjuncts, AreDisjuncts, IsTuple, AreTuples, AreSlots, IsLoop, IsBody, const_number, const_text, const_truth, const_name, const_item, const_call, const_function, const_indexset, const_projection, const_parentheses, const_braces, const_if, const_factorial, const_power, const_signed, const_big, const_product, const_sum, const_comparison, const_member, const_not, const_and, const_or, no_const, one_const, no_operand, one_operand, no_conjunct, one_conjunct, no_disjunct, one_disjunct, is_tuple, no_tuple, one_tuple, no_slot, free_slot, again_slot, fixed_slot, is_loop, is_loop_with, is_empty, is_members, is_tuples, is_choices, is_span, is_span_by}
use Rattle.zim_typed.specs.Suits.{SuitsConst, ConstsSuit, OperandsSuit, ConjunctsSuit, DisjunctsSuit, SuitsTuple, TuplesSuit, SlotsSuit, SuitsLoop, SuitsBody, suits_number, suits_text, suits_truth, suits_local, suits_name, suits_item, suits_call, suits_function, suits_indexset, suits_projection, suits_parentheses, suits_braces, suits_if, suits_factorial, suits_power, suits_signed, suits_big, suits_product, suits_sum, suits_comparison, suits_member, suits_not, suits_and, suits_or, suits_none, suits_one, suits_no_operand, suits_one_operand, suits_no_conjunct, suits_one_conjunct, suits_no_disjunct, suits_one_disjunct, suits_tuple, suits_no_tuple, suits_one_tuple, suits_no_slot, suits_free, suits_again, suits_fixed, suits_loop, suits_loop_with, suits_empty, suits_members, suits_tuples, suits_choices, suits_span, suits_span_by}

-- as many constants as expressions
pub as_many : {scope : Scope} {names : Names} {items : List Expr} {cs : List Const} → AreConsts scope names items cs → length items ≡ length cs
as_many no_const = refl
as_many (one_const c cs) = ap suc (as_many cs)

-- a component that binds or equals a name has one
named : (name : Text) (bound : Option Text) → binds name bound ≡ true → (other : Text) × (bound ≡ Some other)
named name None h = absurd (false≢true h)
named name (Some other) h = (other, refl)

-- a position at which a name was bound before is that of a free name
bound_at : (name : Text) (before : List (Option Text)) (i : ℕ) → binding name before ≡ Some i → (other : Text) × (get_or before i None ≡ Some other)
bound_at name before i h = named name (get_or before i None) (position-Some (binds name) before i None h).1

-- a use that would be wrong of a name that is bound around it stands for what its declaration says
pub not_local : (local : Bool) (used : Use) (r : Resolved) → (if local then Misused else used) ≡ Stands r → used ≡ Stands r
not_local true used r h = grind arith
not_local false used r h = h

-- what stands for a name that is bound around it
only_local : (r : Resolved) → Stands resolved.Local ≡ Stands r → resolved.Local ≡ r
only_local r h = grind arith

-- a bare name is bound around it, or stands for what its declaration says
name_suits : {scope : Scope} {names : Names} (p : Place) (name : Text) (r : Resolved) (local : Bool) → is_local names name ≡ local →
    (if local then Stands resolved.Local else bare_declared (kind_of_name scope name)) ≡ Stands r → SuitsConst scope names (const.Name p name r)
name_suits {scope} {names} p name r true is h = subst (λ x. SuitsConst scope names (const.Name p name x)) (only_local r h) (suits_local p name is)
name_suits p name r false is h = suits_name p name h

mutual
  pub const_suits : {scope : Scope} {names : Names} {e : Expr} {c : Const} → IsConst scope names e c → SuitsConst scope names c
  const_suits (const_number p digits h) = suits_number p h
  const_suits (const_text p text double) = suits_text p text double
  const_suits (const_truth p truth) = suits_truth p truth
  const_suits {scope} {names} (const_name p name {r = r} h) = name_suits p name r (is_local names name) refl h
  const_suits {scope} {names} (const_item p name {r = r} h index) =
      suits_item p name (not_local (is_local names name) (indexed_declared (kind_of_name scope name)) r h) (consts_suit index)
  const_suits {scope} {names} (const_call p name {r = r} {given = items} {cs = cs} h given) =
      suits_call p name
      (subst (λ n. called_declared n (kind_of_name scope name) ≡ Stands r) (as_many given) (not_local (is_local names name) (called_declared (length items) (kind_of_name scope name)) r h))
      (consts_suit given)
  const_suits (const_function p word is h given) = suits_function p is (subst (λ n. takes word n ≡ true) (as_many given) h) (consts_suit given)
  const_suits (const_indexset p q name h) = suits_indexset p q name h
  const_suits (const_projection p set positions) = suits_projection p (const_suits set) (tuple_suits positions)
  const_suits (const_parentheses p inner) = suits_parentheses p (const_suits inner)
  const_suits (const_braces p inside) = suits_braces p (body_suits inside)
  const_suits (const_if p test branch otherwise) = suits_if p (const_suits test) (const_suits branch) (const_suits otherwise)
  const_suits (const_factorial marks operand) = suits_factorial marks (const_suits operand)
  const_suits (const_power p sign signed base exponent) = suits_power p sign signed (const_suits base) (const_suits exponent)
  const_suits (const_signed p minus operand) = suits_signed p minus (const_suits operand)
  const_suits (const_big p word with_do index operand) = suits_big p word with_do (loop_suits index) (const_suits operand)
  const_suits (const_product first others) = suits_product (const_suits first) (operands_suit others)
  const_suits (const_sum first others) = suits_sum (const_suits first) (operands_suit others)
  const_suits (const_comparison p relation left right) = suits_comparison p relation (const_suits left) (const_suits right)
  const_suits (const_member p tuple set) = suits_member p (tuple_suits tuple) (const_suits set)
  const_suits (const_not p operand) = suits_not p (const_suits operand)
  const_suits (const_and first others) = suits_and (const_suits first) (conjuncts_suit others)
  const_suits (const_or first others) = suits_or (const_suits first) (disjuncts_suit others)

  pub consts_suit : {scope : Scope} {names : Names} {items : List Expr} {cs : List Const} → AreConsts scope names items cs → ConstsSuit scope names cs
  consts_suit no_const = suits_none
  consts_suit (one_const c cs) = suits_one (const_suits c) (consts_suit cs)

  operands_suit : {scope : Scope} {names : Names} {others : List (Place × Token × Expr)} {cs : List (Place × Token × Const)} → AreOperands scope names others cs → OperandsSuit scope names cs
  operands_suit no_operand = suits_no_operand
  operands_suit (one_operand p token c cs) = suits_one_operand p token (const_suits c) (operands_suit cs)

  conjuncts_suit : {scope : Scope} {names : Names} {others : List (Place × Expr)} {cs : List (Place × Const)} → AreConjuncts scope names others cs → ConjunctsSuit scope names cs
  conjuncts_suit no_conjunct = suits_no_conjunct
  conjuncts_suit (one_conjunct p c cs) = suits_one_conjunct p (const_suits c) (conjuncts_suit cs)

  disjuncts_suit : {scope : Scope} {names : Names} {others : List (Place × Bool × Expr)} {cs : List (Place × Bool × Const)} → AreDisjuncts scope names others cs → DisjunctsSuit scope names cs
  disjuncts_suit no_disjunct = suits_no_disjunct
  disjuncts_suit (one_disjunct p xor c cs) = suits_one_disjunct p xor (const_suits c) (disjuncts_suit cs)

  pub tuple_suits : {scope : Scope} {names : Names} {tuple : Angle} {t : TAngle} → IsTuple scope names tuple t → SuitsTuple scope names t
  tuple_suits (is_tuple p items) = suits_tuple p (consts_suit items)

  tuples_suit : {scope : Scope} {names : Names} {tuples : List Angle} {ts : List TAngle} → AreTuples scope names tuples ts → TuplesSuit scope names ts
  tuples_suit no_tuple = suits_no_tuple
  tuples_suit (one_tuple t ts) = suits_one_tuple (tuple_suits t) (tuples_suit ts)

  slots_suit : {scope : Scope} {names bound : Names} {before : List (Option Text)} {items : List Expr} {slots : List LoopSlot} → AreSlots scope names before items slots bound → SlotsSuit scope names before slots bound
  slots_suit no_slot = suits_no_slot
  slots_suit (free_slot {name = name} is new slots) = suits_free name (slots_suit slots)
  slots_suit (again_slot {before = before} {name = name} {i = i} is again slots) = suits_again (bound_at name before i again).0 (bound_at name before i again).1 (slots_suit slots)
  slots_suit (fixed_slot is c slots) = suits_fixed (const_suits c) (slots_suit slots)

  pub loop_suits : {scope : Scope} {names inner : Names} {index : Index} {l : Loop} → IsLoop scope names index l inner → SuitsLoop scope names l inner
  loop_suits (is_loop p q slots set) = suits_loop p (slots_suit slots) (const_suits set)
  loop_suits (is_loop_with p q bar slots set cond) = suits_loop_with p (slots_suit slots) (const_suits set) (const_suits cond)

  body_suits : {scope : Scope} {names : Names} {inside : Body} {b : TBody} → IsBody scope names inside b → SuitsBody scope names b
  body_suits is_empty = suits_empty
  body_suits (is_members members) = suits_members (consts_suit members)
  body_suits (is_tuples tuples) = suits_tuples (tuples_suit tuples)
  body_suits (is_choices index) = suits_choices (loop_suits index)
  body_suits (is_span with_to from to) = suits_span with_to (const_suits from) (const_suits to)
  body_suits (is_span_by with_to from to by) = suits_span_by with_to (const_suits from) (const_suits to) (const_suits by)
