-- Which constant an expression without variables is: the same node, of whose names it is said what each stands for. Under a scope and the
-- names that are bound around the expression. Its numbers are number tokens.
use Rattle.std.specs.Prelude.{ℕ, ◌≡◌, List, [], ◌∷◌, ◌++◌, length, filter_map, Bool, true, false, Option, Some, None, IsTrue}
use Rattle.zim_fault.specs.declared.faults.Place.{Place}
use Rattle.zim_fault.specs.declared.tokens.Token.{Token}
use Rattle.zim_fault.specs.declared.tokens.Relation.{Relation}
use Rattle.zim_fault.specs.declared.signs.Sign.{Sign}
use Rattle.zim_fault.specs.declared.words.Word.{Word}
use Rattle.zim_fault.specs.declared.words.Word.TheVariants.{WIndexset, WAbs, WSgn, WFloor, WCeil, WRound, WCard, WOrd, WLength, WSubstr, WMin, WMax}
use Rattle.zim_decimal.specs.Token.{is_number_token}
use Rattle.zim_tree.specs.declared.expr.Expr.{Expr}
use Rattle.zim_tree.specs.declared.expr.Expr.TheVariants as tree
use Rattle.zim_tree.specs.declared.expr.Angle.{Angle}
use Rattle.zim_tree.specs.declared.expr.Index.{Index}
use Rattle.zim_tree.specs.declared.expr.Body.{Body}
use Rattle.zim_tree.specs.declared.expr.Body.TheVariants as tree_body
use Rattle.zim_tree.specs.Trees as trees
use Rattle.zim_typed.specs.declared.constant.Const.{Const}
use Rattle.zim_typed.specs.declared.constant.Const.TheVariants as const
use Rattle.zim_typed.specs.declared.constant.TAngle.{TAngle}
use Rattle.zim_typed.specs.declared.constant.Loop.{Loop}
use Rattle.zim_typed.specs.declared.constant.LoopSlot.{LoopSlot}
use Rattle.zim_typed.specs.declared.constant.LoopSlot.TheVariants as slot
use Rattle.zim_typed.specs.declared.constant.TBody.{TBody}
use Rattle.zim_typed.specs.declared.constant.TBody.TheVariants as body
use Rattle.zim_typed.specs.declared.constant.Resolved.{Resolved}
use Rattle.zim_typed.specs.declared.constant.Resolved.TheVariants as resolved
use Rattle.zim_typed.specs.Trees.{typed_angle, typed_loop}
use Rattle.zim_typed.specs.Scope.{Text, Names, Scope, Stands, bare, indexed, called, kind_of_name, is_indexed_set, takes}
use Rattle.zim_typed.specs.Pattern.{bound_name, binding}

-- the functions that are words and stand among values: not `vabs`, which is a term, not `powerset` and `subsets`, which are a whole right side,
-- and not `indexset`, which takes the name of an indexed set in place of a value
abbrev pub is_value_function : Word → Bool
is_value_function WAbs = true
is_value_function WSgn = true
is_value_function WFloor = true
is_value_function WCeil = true
is_value_function WRound = true
is_value_function WCard = true
is_value_function WOrd = true
is_value_function WLength = true
is_value_function WSubstr = true
is_value_function WMin = true
is_value_function WMax = true
is_value_function _ = false

mutual
  -- an expression is this constant
  pub data IsConst (scope : Scope) : Names → Expr → Const → Type 0 where
    const_number : {names : Names} (p : Place) (digits : List ℕ) → IsTrue (is_number_token digits) → IsConst scope names (tree.Number p digits) (const.Number p digits)
    const_text : {names : Names} (p : Place) (text : List ℕ) (double : Bool) → IsConst scope names (tree.Text p text double) (const.Text p text double)
    const_truth : {names : Names} (p : Place) (truth : Bool) → IsConst scope names (tree.Truth p truth) (const.Truth p truth)
    const_name : {names : Names} (p : Place) (name : Text) {r : Resolved} → bare scope names name ≡ Stands r →
        IsConst scope names (tree.Name p name) (const.Name p name r)
    const_item : {names : Names} (p : Place) (name : Text) {r : Resolved} {index : List Expr} {cs : List Const} → indexed scope names name ≡ Stands r →
        AreConsts scope names index cs → IsConst scope names (tree.Item p name index) (const.Item p name cs r)
    const_call : {names : Names} (p : Place) (name : Text) {r : Resolved} {given : List Expr} {cs : List Const} → called (length given) scope names name ≡ Stands r →
        AreConsts scope names given cs → IsConst scope names (tree.Call p name given) (const.Call p name cs r)
    const_function : {names : Names} (p : Place) (word : Word) {given : List Expr} {cs : List Const} → is_value_function word ≡ true → takes word (length given) ≡ true →
        AreConsts scope names given cs → IsConst scope names (tree.Func p word given) (const.Func p word cs)
    const_indexset : {names : Names} (p q : Place) (name : Text) → is_indexed_set (kind_of_name scope name) ≡ true →
        IsConst scope names (tree.Func p WIndexset (tree.Name q name ∷ [])) (const.Func p WIndexset (const.Name q name resolved.Set ∷ []))
    const_projection : {names : Names} (p : Place) {set : Expr} {positions : Angle} {c : Const} {t : TAngle} → IsConst scope names set c → IsTuple scope names positions t →
        IsConst scope names (tree.Proj p set positions) (const.Proj p c t)
    const_parentheses : {names : Names} (p : Place) {inner : Expr} {c : Const} → IsConst scope names inner c →
        IsConst scope names (tree.Paren p inner) (const.Paren p c)
    const_braces : {names : Names} (p : Place) {inside : Body} {b : TBody} → IsBody scope names inside b →
        IsConst scope names (tree.Braces p inside) (const.Braces p b)
    const_if : {names : Names} (p : Place) {test branch otherwise : Expr} {c d e : Const} → IsConst scope names test c → IsConst scope names branch d → IsConst scope names otherwise e →
        IsConst scope names (tree.If p false test branch (Some otherwise)) (const.If p c d e)
    const_factorial : {names : Names} (marks : List Place) {operand : Expr} {c : Const} → IsConst scope names operand c →
        IsConst scope names (tree.Factorial operand marks) (const.Factorial c marks)
    const_power : {names : Names} (p : Place) (sign : Sign) (signed : Option (Place × Bool)) {base exponent : Expr} {c d : Const} →
        IsConst scope names base c → IsConst scope names exponent d → IsConst scope names (tree.Power p sign base signed exponent) (const.Power p sign c signed d)
    const_signed : {names : Names} (p : Place) (minus : Bool) {operand : Expr} {c : Const} → IsConst scope names operand c →
        IsConst scope names (tree.Signed p minus operand) (const.Signed p minus c)
    const_big : {names inner : Names} (p : Place) (word : Word) (with_do : Bool) {index : Index} {operand : Expr} {l : Loop} {c : Const} →
        IsLoop scope names index l inner → IsConst scope inner operand c → IsConst scope names (tree.Big p word index with_do operand) (const.Big p word l with_do c)
    const_product : {names : Names} {first : Expr} {others : List (Place × Token × Expr)} {c : Const} {cs : List (Place × Token × Const)} →
        IsConst scope names first c → AreOperands scope names others cs → IsConst scope names (tree.Times first others) (const.Times c cs)
    const_sum : {names : Names} {first : Expr} {others : List (Place × Token × Expr)} {c : Const} {cs : List (Place × Token × Const)} →
        IsConst scope names first c → AreOperands scope names others cs → IsConst scope names (tree.Plus first others) (const.Plus c cs)
    const_comparison : {names : Names} (p : Place) (relation : Relation) {left right : Expr} {c d : Const} → IsConst scope names left c → IsConst scope names right d →
        IsConst scope names (tree.Compare left ((p, relation, right) ∷ [])) (const.Compare p relation c d)
    const_member : {names : Names} (p : Place) {tuple : Angle} {set : Expr} {t : TAngle} {c : Const} → IsTuple scope names tuple t → IsConst scope names set c →
        IsConst scope names (tree.Member p tuple set) (const.Member p t c)
    const_not : {names : Names} (p : Place) {operand : Expr} {c : Const} → IsConst scope names operand c → IsConst scope names (tree.Not p operand) (const.Not p c)
    const_and : {names : Names} {first : Expr} {others : List (Place × Expr)} {c : Const} {cs : List (Place × Const)} →
        IsConst scope names first c → AreConjuncts scope names others cs → IsConst scope names (tree.And first others) (const.And c cs)
    const_or : {names : Names} {first : Expr} {others : List (Place × Bool × Expr)} {c : Const} {cs : List (Place × Bool × Const)} →
        IsConst scope names first c → AreDisjuncts scope names others cs → IsConst scope names (tree.Or first others) (const.Or c cs)

  -- expressions are these constants
  pub data AreConsts (scope : Scope) : Names → List Expr → List Const → Type 0 where
    no_const : {names : Names} → AreConsts scope names [] []
    one_const : {names : Names} {item : Expr} {items : List Expr} {c : Const} {cs : List Const} → IsConst scope names item c → AreConsts scope names items cs →
        AreConsts scope names (item ∷ items) (c ∷ cs)

  -- operands are these, each behind the same operator
  pub data AreOperands (scope : Scope) : Names → List (Place × Token × Expr) → List (Place × Token × Const) → Type 0 where
    no_operand : {names : Names} → AreOperands scope names [] []
    one_operand : {names : Names} (p : Place) (token : Token) {operand : Expr} {others : List (Place × Token × Expr)} {c : Const} {cs : List (Place × Token × Const)} →
        IsConst scope names operand c → AreOperands scope names others cs → AreOperands scope names ((p, token, operand) ∷ others) ((p, token, c) ∷ cs)

  -- operands behind `and` are these
  pub data AreConjuncts (scope : Scope) : Names → List (Place × Expr) → List (Place × Const) → Type 0 where
    no_conjunct : {names : Names} → AreConjuncts scope names [] []
    one_conjunct : {names : Names} (p : Place) {operand : Expr} {others : List (Place × Expr)} {c : Const} {cs : List (Place × Const)} →
        IsConst scope names operand c → AreConjuncts scope names others cs → AreConjuncts scope names ((p, operand) ∷ others) ((p, c) ∷ cs)

  -- operands behind `or` and `xor` are these
  pub data AreDisjuncts (scope : Scope) : Names → List (Place × Bool × Expr) → List (Place × Bool × Const) → Type 0 where
    no_disjunct : {names : Names} → AreDisjuncts scope names [] []
    one_disjunct : {names : Names} (p : Place) (xor : Bool) {operand : Expr} {others : List (Place × Bool × Expr)} {c : Const} {cs : List (Place × Bool × Const)} →
        IsConst scope names operand c → AreDisjuncts scope names others cs → AreDisjuncts scope names ((p, xor, operand) ∷ others) ((p, xor, c) ∷ cs)

  -- a tuple is this one
  pub data IsTuple (scope : Scope) : Names → Angle → TAngle → Type 0 where
    is_tuple : {names : Names} (p : Place) {items : List Expr} {cs : List Const} → AreConsts scope names items cs →
        IsTuple scope names (trees.angle_of p items) (typed_angle p cs)

  -- tuples are these
  pub data AreTuples (scope : Scope) : Names → List Angle → List TAngle → Type 0 where
    no_tuple : {names : Names} → AreTuples scope names [] []
    one_tuple : {names : Names} {tuple : Angle} {tuples : List Angle} {t : TAngle} {ts : List TAngle} → IsTuple scope names tuple t → AreTuples scope names tuples ts →
        AreTuples scope names (tuple ∷ tuples) (t ∷ ts)

  -- the components of an index's tuple are these, where it is known which names those before them bind; all bind these names
  pub data AreSlots (scope : Scope) : Names → List (Option Text) → List Expr → List LoopSlot → Names → Type 0 where
    no_slot : {names : Names} {before : List (Option Text)} → AreSlots scope names before [] [] (filter_map (λ x. x) before)
    free_slot : {names bound : Names} {before : List (Option Text)} {name : Text} {item : Expr} {items : List Expr} {slots : List LoopSlot} →
        bound_name scope names item ≡ Some name → binding name before ≡ None → AreSlots scope names (before ++ Some name ∷ []) items slots bound →
        AreSlots scope names before (item ∷ items) (slot.Free name ∷ slots) bound
    again_slot : {names bound : Names} {before : List (Option Text)} {name : Text} {i : ℕ} {item : Expr} {items : List Expr} {slots : List LoopSlot} →
        bound_name scope names item ≡ Some name → binding name before ≡ Some i → AreSlots scope names (before ++ None ∷ []) items slots bound →
        AreSlots scope names before (item ∷ items) (slot.Again i ∷ slots) bound
    fixed_slot : {names bound : Names} {before : List (Option Text)} {item : Expr} {items : List Expr} {c : Const} {slots : List LoopSlot} →
        bound_name scope names item ≡ None → IsConst scope names item c → AreSlots scope names (before ++ None ∷ []) items slots bound →
        AreSlots scope names before (item ∷ items) (slot.Fixed c ∷ slots) bound

  -- an index is this one, and these names are bound behind it: those that it binds, and those that are bound around it
  pub data IsLoop (scope : Scope) : Names → Index → Loop → Names → Type 0 where
    is_loop : {names bound : Names} (p q : Place) {items : List Expr} {slots : List LoopSlot} {set : Expr} {c : Const} →
        AreSlots scope names [] items slots bound → IsConst scope names set c →
        IsLoop scope names (trees.index_of p (trees.angle_of q items) set None) (typed_loop p slots c None) (bound ++ names)
    is_loop_with : {names bound : Names} (p q : Place) (bar : Bool) {items : List Expr} {slots : List LoopSlot} {set cond : Expr} {c d : Const} →
        AreSlots scope names [] items slots bound → IsConst scope names set c → IsConst scope (bound ++ names) cond d →
        IsLoop scope names (trees.index_of p (trees.angle_of q items) set (Some (bar, cond))) (typed_loop p slots c (Some d)) (bound ++ names)

  -- what stands in braces is this
  pub data IsBody (scope : Scope) : Names → Body → TBody → Type 0 where
    is_empty : {names : Names} → IsBody scope names tree_body.Empty body.Empty
    is_members : {names : Names} {members : List Expr} {cs : List Const} → AreConsts scope names members cs →
        IsBody scope names (tree_body.Members members) (body.Members cs)
    is_tuples : {names : Names} {tuples : List Angle} {ts : List TAngle} → AreTuples scope names tuples ts →
        IsBody scope names (tree_body.Tuples tuples) (body.Tuples ts)
    is_choices : {names inner : Names} {index : Index} {l : Loop} → IsLoop scope names index l inner →
        IsBody scope names (tree_body.Those index) (body.Those l)
    is_span : {names : Names} (with_to : Bool) {from to : Expr} {c d : Const} → IsConst scope names from c → IsConst scope names to d →
        IsBody scope names (tree_body.Span from with_to to None) (body.Span c with_to d None)
    is_span_by : {names : Names} (with_to : Bool) {from to by : Expr} {c d e : Const} → IsConst scope names from c → IsConst scope names to d → IsConst scope names by e →
        IsBody scope names (tree_body.Span from with_to to (Some by)) (body.Span c with_to d (Some e))
