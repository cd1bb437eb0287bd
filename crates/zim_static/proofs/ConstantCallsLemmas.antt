-- A constant calls the functions that the expression calls that it is.
use Rattle.std.proofs.Common.{◌≡◌, ℕ, Bool, false, List, [], ◌∷◌, map, max, Option, Some, None, refl, sym, ap, ◌∙◌}
use Rattle.std.proofs.lemmas.Option.{none-some}
use Rattle.zim_fault.specs.declared.faults.Place.{Place}
use Rattle.zim_fault.specs.declared.tokens.Token.{Token}
use Rattle.zim_fault.specs.declared.words.Word.TheVariants.{WIndexset}
use Rattle.zim_tree.specs.declared.expr.Expr.{Expr, Expr-F, out-Expr, map-Expr, fold-roll-Expr}
use Rattle.zim_tree.specs.declared.expr.Expr.TheVariants as tree
use Rattle.zim_tree.specs.declared.expr.Angle.{Angle, fold-roll-Angle}
use Rattle.zim_tree.specs.declared.expr.Index.{Index, fold-roll-Index}
use Rattle.zim_tree.specs.declared.expr.Body.{Body, Body-F, fold-roll-Body}
use Rattle.zim_tree.specs.declared.expr.Body.TheVariants as tree_body
use Rattle.zim_tree.specs.declared.expr.Body.TheViews.{roll-out-Expr}
use Rattle.zim_tree.specs.Trees as trees
use Rattle.zim_typed.specs.declared.constant.Const.{Const, Const-F, fold-roll-Const}
use Rattle.zim_typed.specs.declared.constant.Const.TheVariants as const
use Rattle.zim_typed.specs.declared.constant.TAngle.{TAngle, fold-roll-TAngle}
use Rattle.zim_typed.specs.declared.constant.Loop.{Loop}
use Rattle.zim_typed.specs.declared.constant.LoopSlot.{LoopSlot, LoopSlot-F, fold-roll-LoopSlot}
use Rattle.zim_typed.specs.declared.constant.LoopSlot.TheVariants as slot
use Rattle.zim_typed.specs.declared.constant.TBody.{TBody, TBody-F, fold-roll-TBody}
use Rattle.zim_typed.specs.declared.constant.TBody.TheVariants as body
use Rattle.zim_typed.specs.declared.constant.Resolved.{Resolved}
use Rattle.zim_typed.specs.declared.constant.Resolved.TheVariants as resolved
use Rattle.zim_typed.specs.Scope.{Text, Names, Scope, kind_of_name}
use Rattle.zim_typed.specs.Pattern.{name_node, bare_name, bound_name, if_unknown}
use Rattle.zim_typed.specs.Trees.{typed_angle}
use Rattle.zim_typed.specs.Nesting.{const_calls, calls_step, slot_calls_step, body_calls_step, loop_calls_step, angle_calls_step, greatest, function_nesting}
use Rattle.zim_typed.specs.Constants.{IsConst, AreConsts, AreOperands, AreConjuncts, AreDisjuncts, IsTuple, AreTuples, AreSlots, IsLoop, IsBody, const_number, const_text, const_truth, const_name, const_item, const_call, const_function, const_indexset, const_projection, const_parentheses, const_braces, const_if, const_factorial, const_power, const_signed, const_big, const_product, const_sum, const_comparison, const_member, const_not, const_and, const_or, no_const, one_const, no_operand, one_operand, no_conjunct, one_conjunct, no_disjunct, one_disjunct, is_tuple, no_tuple, one_tuple, no_slot, free_slot, again_slot, fixed_slot, is_loop, is_loop_with, is_empty, is_members, is_tuples, is_choices, is_span, is_span_by}
use Rattle.zim_static.specs.Calls.{calls, tuple_calls, index_calls, body_calls, all_calls, calls_in_expr, calls_in_angle, calls_in_index, calls_in_body}
use Rattle.zim_static.specs.Nested as typed
use Rattle.zim_static.proofs.CallsLemmas as tree_calls
use Rattle.zim_static.proofs.NestedLemmas.{none-called}
use Rattle.zim_static.proofs.NestedLemmas as typed_calls

-- a bare name calls nothing
bare_node : (scope : Scope) (name : Text) (d : Expr-F Body Expr Angle Index) → name_node d ≡ Some name → calls_in_expr scope (map-Expr Body Expr Angle Index ℕ ℕ ℕ ℕ (body_calls scope) (calls scope) (tuple_calls scope) (index_calls scope) d) ≡ 0
bare_node scope name (Expr-F.Name a b) h = refl
bare_node scope name (Expr-F.Number a b) h = absurd (none-some name h)
bare_node scope name (Expr-F.Text a b c) h = absurd (none-some name h)
bare_node scope name (Expr-F.Truth a b) h = absurd (none-some name h)
bare_node scope name (Expr-F.Infinity a) h = absurd (none-some name h)
bare_node scope name (Expr-F.Item a b c) h = absurd (none-some name h)
bare_node scope name (Expr-F.Call a b c) h = absurd (none-some name h)
bare_node scope name (Expr-F.Func a b c) h = absurd (none-some name h)
bare_node scope name (Expr-F.Proj a b c) h = absurd (none-some name h)
bare_node scope name (Expr-F.Paren a b) h = absurd (none-some name h)
bare_node scope name (Expr-F.Braces a b) h = absurd (none-some name h)
bare_node scope name (Expr-F.If a b c d e) h = absurd (none-some name h)
bare_node scope name (Expr-F.Factorial a b) h = absurd (none-some name h)
bare_node scope name (Expr-F.Power a b c d e) h = absurd (none-some name h)
bare_node scope name (Expr-F.Signed a b c) h = absurd (none-some name h)
bare_node scope name (Expr-F.Big a b c d e) h = absurd (none-some name h)
bare_node scope name (Expr-F.Times a b) h = absurd (none-some name h)
bare_node scope name (Expr-F.Plus a b) h = absurd (none-some name h)
bare_node scope name (Expr-F.Compare a b) h = absurd (none-some name h)
bare_node scope name (Expr-F.Member a b c) h = absurd (none-some name h)
bare_node scope name (Expr-F.Not a b) h = absurd (none-some name h)
bare_node scope name (Expr-F.And a b) h = absurd (none-some name h)
bare_node scope name (Expr-F.Or a b) h = absurd (none-some name h)
bare_node scope name (Expr-F.Forall a b c d) h = absurd (none-some name h)

known_bare : (scope : Scope) (names : Names) (bare : Option Text) (name : Text) → if_unknown scope names bare ≡ Some name → (other : Text) × (bare ≡ Some other)
known_bare scope names None name h = absurd (none-some name h)
known_bare scope names (Some other) name h = (other, refl)

bound_plain : (scope : Scope) (names : Names) (item : Expr) (name : Text) → bound_name scope names item ≡ Some name → calls scope item ≡ 0
bound_plain scope names item name h =
    let known = known_bare scope names (bare_name item) name h in
    ap (calls scope) (sym (roll-out-Expr item)) ∙ fold-roll-Expr ℕ ℕ ℕ ℕ calls_in_body (calls_in_expr scope) calls_in_angle calls_in_index (out-Expr item) ∙ bare_node scope known.0 (out-Expr item) known.1

-- ---- the forms that call what their one part calls, or nothing

tree-Number : (scope : Scope) (p : Place) (digits : Text) → calls scope (tree.Number p digits) ≡ 0
tree-Number scope p digits = ap (calls scope) (sym (tree.rolls-Number p digits)) ∙ fold-roll-Expr ℕ ℕ ℕ ℕ calls_in_body (calls_in_expr scope) calls_in_angle calls_in_index (Expr-F.Number p digits)

tree-Text : (scope : Scope) (p : Place) (text : Text) (double : Bool) → calls scope (tree.Text p text double) ≡ 0
tree-Text scope p text double = ap (calls scope) (sym (tree.rolls-Text p text double)) ∙ fold-roll-Expr ℕ ℕ ℕ ℕ calls_in_body (calls_in_expr scope) calls_in_angle calls_in_index (Expr-F.Text p text double)

tree-Truth : (scope : Scope) (p : Place) (truth : Bool) → calls scope (tree.Truth p truth) ≡ 0
tree-Truth scope p truth = ap (calls scope) (sym (tree.rolls-Truth p truth)) ∙ fold-roll-Expr ℕ ℕ ℕ ℕ calls_in_body (calls_in_expr scope) calls_in_angle calls_in_index (Expr-F.Truth p truth)

tree-Name : (scope : Scope) (p : Place) (name : Text) → calls scope (tree.Name p name) ≡ 0
tree-Name scope p name = ap (calls scope) (sym (tree.rolls-Name p name)) ∙ fold-roll-Expr ℕ ℕ ℕ ℕ calls_in_body (calls_in_expr scope) calls_in_angle calls_in_index (Expr-F.Name p name)

tree-Paren : (scope : Scope) (p : Place) (inner : Expr) → calls scope (tree.Paren p inner) ≡ calls scope inner
tree-Paren scope p inner = ap (calls scope) (sym (tree.rolls-Paren p inner)) ∙ fold-roll-Expr ℕ ℕ ℕ ℕ calls_in_body (calls_in_expr scope) calls_in_angle calls_in_index (Expr-F.Paren p inner)

tree-Braces : (scope : Scope) (p : Place) (inside : Body) → calls scope (tree.Braces p inside) ≡ body_calls scope inside
tree-Braces scope p inside = ap (calls scope) (sym (tree.rolls-Braces p inside)) ∙ fold-roll-Expr ℕ ℕ ℕ ℕ calls_in_body (calls_in_expr scope) calls_in_angle calls_in_index (Expr-F.Braces p inside)

tree-Factorial : (scope : Scope) (operand : Expr) (marks : List Place) → calls scope (tree.Factorial operand marks) ≡ calls scope operand
tree-Factorial scope operand marks = ap (calls scope) (sym (tree.rolls-Factorial operand marks)) ∙ fold-roll-Expr ℕ ℕ ℕ ℕ calls_in_body (calls_in_expr scope) calls_in_angle calls_in_index (Expr-F.Factorial operand marks)

tree-Signed : (scope : Scope) (p : Place) (minus : Bool) (operand : Expr) → calls scope (tree.Signed p minus operand) ≡ calls scope operand
tree-Signed scope p minus operand = ap (calls scope) (sym (tree.rolls-Signed p minus operand)) ∙ fold-roll-Expr ℕ ℕ ℕ ℕ calls_in_body (calls_in_expr scope) calls_in_angle calls_in_index (Expr-F.Signed p minus operand)

tree-Not : (scope : Scope) (p : Place) (operand : Expr) → calls scope (tree.Not p operand) ≡ calls scope operand
tree-Not scope p operand = ap (calls scope) (sym (tree.rolls-Not p operand)) ∙ fold-roll-Expr ℕ ℕ ℕ ℕ calls_in_body (calls_in_expr scope) calls_in_angle calls_in_index (Expr-F.Not p operand)

typed-Number : (scope : Scope) (p : Place) (digits : Text) → const_calls scope (const.Number p digits) ≡ 0
typed-Number scope p digits = ap (const_calls scope) (sym (const.rolls-Number p digits)) ∙ fold-roll-Const ℕ ℕ ℕ ℕ ℕ (calls_step scope) slot_calls_step body_calls_step loop_calls_step angle_calls_step (Const-F.Number p digits)

typed-Text : (scope : Scope) (p : Place) (text : Text) (double : Bool) → const_calls scope (const.Text p text double) ≡ 0
typed-Text scope p text double = ap (const_calls scope) (sym (const.rolls-Text p text double)) ∙ fold-roll-Const ℕ ℕ ℕ ℕ ℕ (calls_step scope) slot_calls_step body_calls_step loop_calls_step angle_calls_step (Const-F.Text p text double)

typed-Truth : (scope : Scope) (p : Place) (truth : Bool) → const_calls scope (const.Truth p truth) ≡ 0
typed-Truth scope p truth = ap (const_calls scope) (sym (const.rolls-Truth p truth)) ∙ fold-roll-Const ℕ ℕ ℕ ℕ ℕ (calls_step scope) slot_calls_step body_calls_step loop_calls_step angle_calls_step (Const-F.Truth p truth)

typed-Name : (scope : Scope) (p : Place) (name : Text) (r : Resolved) → const_calls scope (const.Name p name r) ≡ 0
typed-Name scope p name r = ap (const_calls scope) (sym (const.rolls-Name p name r)) ∙ fold-roll-Const ℕ ℕ ℕ ℕ ℕ (calls_step scope) slot_calls_step body_calls_step loop_calls_step angle_calls_step (Const-F.Name p name r)

tree-empty : (scope : Scope) → body_calls scope tree_body.Empty ≡ 0
tree-empty scope = ap (body_calls scope) (sym tree_body.rolls-Empty) ∙ fold-roll-Body ℕ ℕ ℕ ℕ calls_in_body (calls_in_expr scope) calls_in_angle calls_in_index Body-F.Empty

tree-choices : (scope : Scope) (index : Index) → body_calls scope (tree_body.Those index) ≡ index_calls scope index
tree-choices scope index = ap (body_calls scope) (sym (tree_body.rolls-Those index)) ∙ fold-roll-Body ℕ ℕ ℕ ℕ calls_in_body (calls_in_expr scope) calls_in_angle calls_in_index (Body-F.Those index)

typed-empty : (scope : Scope) → typed.typed_body_calls scope body.Empty ≡ 0
typed-empty scope = ap (typed.typed_body_calls scope) (sym body.rolls-Empty) ∙ fold-roll-TBody ℕ ℕ ℕ ℕ ℕ (calls_step scope) slot_calls_step body_calls_step loop_calls_step angle_calls_step TBody-F.Empty

typed-Free : (scope : Scope) (name : Text) → typed.slot_calls scope (slot.Free name) ≡ 0
typed-Free scope name = ap (typed.slot_calls scope) (sym (slot.rolls-Free name)) ∙ fold-roll-LoopSlot ℕ ℕ ℕ ℕ ℕ (calls_step scope) slot_calls_step body_calls_step loop_calls_step angle_calls_step (LoopSlot-F.Free name)

typed-Again : (scope : Scope) (position : ℕ) → typed.slot_calls scope (slot.Again position) ≡ 0
typed-Again scope position = ap (typed.slot_calls scope) (sym (slot.rolls-Again position)) ∙ fold-roll-LoopSlot ℕ ℕ ℕ ℕ ℕ (calls_step scope) slot_calls_step body_calls_step loop_calls_step angle_calls_step (LoopSlot-F.Again position)

typed-Fixed : (scope : Scope) (value : Const) → typed.slot_calls scope (slot.Fixed value) ≡ const_calls scope value
typed-Fixed scope value = ap (typed.slot_calls scope) (sym (slot.rolls-Fixed value)) ∙ fold-roll-LoopSlot ℕ ℕ ℕ ℕ ℕ (calls_step scope) slot_calls_step body_calls_step loop_calls_step angle_calls_step (LoopSlot-F.Fixed value)

tree-tuple : (scope : Scope) (p : Place) (items : List Expr) → tuple_calls scope (trees.angle_of p items) ≡ all_calls scope items
tree-tuple scope p items = fold-roll-Angle ℕ ℕ ℕ ℕ calls_in_body (calls_in_expr scope) calls_in_angle calls_in_index (record { place = p; items = items })

typed-tuple : (scope : Scope) (p : Place) (items : List Const) → typed.typed_angle_calls scope (typed_angle p items) ≡ greatest (map (const_calls scope) items)
typed-tuple scope p items = fold-roll-TAngle ℕ ℕ ℕ ℕ ℕ (calls_step scope) slot_calls_step body_calls_step loop_calls_step angle_calls_step (record { place = p; items = items })

tree-index : (scope : Scope) (p : Place) (tuple : Angle) (set : Expr) → index_calls scope (trees.index_of p tuple set None) ≡ max (tuple_calls scope tuple) (max (calls scope set) 0)
tree-index scope p tuple set = fold-roll-Index ℕ ℕ ℕ ℕ calls_in_body (calls_in_expr scope) calls_in_angle calls_in_index (record { place = p; tuple = tuple; set = set; cond = None })

tree-index-with : (scope : Scope) (p : Place) (tuple : Angle) (set : Expr) (bar : Bool) (test : Expr) → index_calls scope (trees.index_of p tuple set (Some (bar, test))) ≡ max (tuple_calls scope tuple) (max (calls scope set) (calls scope test))
tree-index-with scope p tuple set bar test = fold-roll-Index ℕ ℕ ℕ ℕ calls_in_body (calls_in_expr scope) calls_in_angle calls_in_index (record { place = p; tuple = tuple; set = set; cond = Some (bar, test) })

-- ---- form by form

mutual
  pub const_calls_alike : {scope : Scope} {names : Names} {e : Expr} {c : Const} → IsConst scope names e c → calls scope e ≡ const_calls scope c
  const_calls_alike {scope} (const_number p digits h) = tree-Number scope p digits ∙ sym (typed-Number scope p digits)
  const_calls_alike {scope} (const_text p text double) = tree-Text scope p text double ∙ sym (typed-Text scope p text double)
  const_calls_alike {scope} (const_truth p truth) = tree-Truth scope p truth ∙ sym (typed-Truth scope p truth)
  const_calls_alike {scope} (const_name p name {r = r} h) = tree-Name scope p name ∙ sym (typed-Name scope p name r)
  const_calls_alike {scope} (const_item p name {r = r} {index = items} {cs = cs} h index) = tree_calls.calls-Item scope p name items ∙ ap greatest (consts_call index) ∙ sym (typed_calls.calls-Item scope p name cs r)
  const_calls_alike {scope} (const_call p name {r = r} {given = items} {cs = cs} h given) =
      tree_calls.calls-Call scope p name items ∙ ap (λ (ns : List ℕ). max (function_nesting (kind_of_name scope name)) (greatest ns)) (consts_call given) ∙ sym (typed_calls.calls-Call scope p name cs r)
  const_calls_alike {scope} (const_function p word {given = items} {cs = cs} is h given) = tree_calls.calls-Func scope p word items ∙ ap greatest (consts_call given) ∙ sym (typed_calls.calls-Func scope p word cs)
  const_calls_alike {scope} (const_indexset p q name h) =
      tree_calls.calls-Func scope p WIndexset (tree.Name q name ∷ []) ∙ ap (λ (n : ℕ). greatest (n ∷ [])) (tree-Name scope q name ∙ sym (typed-Name scope q name resolved.Set)) ∙ sym (typed_calls.calls-Func scope p WIndexset _)
  const_calls_alike {scope} (const_projection p {set = set} {positions = positions} {c = c} {t = t} s ts) = tree_calls.calls-Proj scope p set positions ∙ (λ i. max (const_calls_alike s i) (tuple_call ts i)) ∙ sym (typed_calls.calls-Proj scope p c t)
  const_calls_alike {scope} (const_parentheses p {inner = e} {c = c} d) = tree-Paren scope p e ∙ const_calls_alike d ∙ sym (typed_calls.calls-Paren scope p c)
  const_calls_alike {scope} (const_braces p {inside = inside} {b = b} d) = tree-Braces scope p inside ∙ body_call d ∙ sym (typed_calls.calls-Braces scope p b)
  const_calls_alike {scope} (const_if p {test = e} {branch = f} {otherwise = g} {c = c} {d = d} {e = h} x y z) =
      tree_calls.calls-If scope p false e f (Some g) ∙ (λ i. max (const_calls_alike x i) (max (const_calls_alike y i) (const_calls_alike z i))) ∙ sym (typed_calls.calls-If scope p c d h)
  const_calls_alike {scope} (const_factorial marks {operand = e} {c = c} d) = tree-Factorial scope e marks ∙ const_calls_alike d ∙ sym (typed_calls.calls-Factorial scope c marks)
  const_calls_alike {scope} (const_power p sign signed {base = e} {exponent = f} {c = c} {d = d} x y) = tree_calls.calls-Power scope p sign e signed f ∙ (λ i. max (const_calls_alike x i) (const_calls_alike y i)) ∙ sym (typed_calls.calls-Power scope p sign c signed d)
  const_calls_alike {scope} (const_signed p minus {operand = e} {c = c} d) = tree-Signed scope p minus e ∙ const_calls_alike d ∙ sym (typed_calls.calls-Signed scope p minus c)
  const_calls_alike {scope} (const_big p word with_do {index = index} {operand = e} {l = l} {c = c} x y) =
      tree_calls.calls-Big scope p word index with_do e ∙ (λ i. max (loop_call x i) (const_calls_alike y i)) ∙ sym (typed_calls.calls-Big scope p word l with_do c)
  const_calls_alike {scope} (const_product {first = e} {others = others} {c = c} {cs = cs} x y) = tree_calls.calls-Times scope e others ∙ (λ i. max (const_calls_alike x i) (greatest (operands_call y i))) ∙ sym (typed_calls.calls-Times scope c cs)
  const_calls_alike {scope} (const_sum {first = e} {others = others} {c = c} {cs = cs} x y) = tree_calls.calls-Plus scope e others ∙ (λ i. max (const_calls_alike x i) (greatest (operands_call y i))) ∙ sym (typed_calls.calls-Plus scope c cs)
  const_calls_alike {scope} (const_comparison p relation {left = e} {right = f} {c = c} {d = d} x y) =
      tree_calls.calls-Compare scope e ((p, relation, f) ∷ []) ∙ (λ i. max (const_calls_alike x i) ((none-called (calls scope f) ∙ const_calls_alike y) i)) ∙ sym (typed_calls.calls-Compare scope p relation c d)
  const_calls_alike {scope} (const_member p {tuple = tuple} {set = e} {t = t} {c = c} x y) = tree_calls.calls-Member scope p tuple e ∙ (λ i. max (tuple_call x i) (const_calls_alike y i)) ∙ sym (typed_calls.calls-Member scope p t c)
  const_calls_alike {scope} (const_not p {operand = e} {c = c} d) = tree-Not scope p e ∙ const_calls_alike d ∙ sym (typed_calls.calls-Not scope p c)
  const_calls_alike {scope} (const_and {first = e} {others = others} {c = c} {cs = cs} x y) = tree_calls.calls-And scope e others ∙ (λ i. max (const_calls_alike x i) (greatest (conjuncts_call y i))) ∙ sym (typed_calls.calls-And scope c cs)
  const_calls_alike {scope} (const_or {first = e} {others = others} {c = c} {cs = cs} x y) = tree_calls.calls-Or scope e others ∙ (λ i. max (const_calls_alike x i) (greatest (disjuncts_call y i))) ∙ sym (typed_calls.calls-Or scope c cs)

  consts_call : {scope : Scope} {names : Names} {items : List Expr} {cs : List Const} → AreConsts scope names items cs → map (calls scope) items ≡ map (const_calls scope) cs
  consts_call no_const = refl
  consts_call (one_const c cs) = λ i. const_calls_alike c i ∷ consts_call cs i

  operands_call : {scope : Scope} {names : Names} {others : List (Place × Token × Expr)} {cs : List (Place × Token × Const)} → AreOperands scope names others cs →
      map (λ (x : Place × Token × Expr). calls scope x.2) others ≡ map (λ (x : Place × Token × Const). const_calls scope x.2) cs
  operands_call no_operand = refl
  operands_call (one_operand p token c cs) = λ i. const_calls_alike c i ∷ operands_call cs i

  conjuncts_call : {scope : Scope} {names : Names} {others : List (Place × Expr)} {cs : List (Place × Const)} → AreConjuncts scope names others cs →
      map (λ (x : Place × Expr). calls scope x.1) others ≡ map (λ (x : Place × Const). const_calls scope x.1) cs
  conjuncts_call no_conjunct = refl
  conjuncts_call (one_conjunct p c cs) = λ i. const_calls_alike c i ∷ conjuncts_call cs i

  disjuncts_call : {scope : Scope} {names : Names} {others : List (Place × Bool × Expr)} {cs : List (Place × Bool × Const)} → AreDisjuncts scope names others cs →
      map (λ (x : Place × Bool × Expr). calls scope x.2) others ≡ map (λ (x : Place × Bool × Const). const_calls scope x.2) cs
  disjuncts_call no_disjunct = refl
  disjuncts_call (one_disjunct p xor c cs) = λ i. const_calls_alike c i ∷ disjuncts_call cs i

  tuple_call : {scope : Scope} {names : Names} {tuple : Angle} {t : TAngle} → IsTuple scope names tuple t → tuple_calls scope tuple ≡ typed.typed_angle_calls scope t
  tuple_call {scope} (is_tuple p {items = items} {cs = cs} d) = tree-tuple scope p items ∙ ap greatest (consts_call d) ∙ sym (typed-tuple scope p cs)

  tuples_call : {scope : Scope} {names : Names} {tuples : List Angle} {ts : List TAngle} → AreTuples scope names tuples ts → map (tuple_calls scope) tuples ≡ map (typed.typed_angle_calls scope) ts
  tuples_call no_tuple = refl
  tuples_call (one_tuple t ts) = λ i. tuple_call t i ∷ tuples_call ts i

  slots_call : {scope : Scope} {names bound : Names} {before : List (Option Text)} {items : List Expr} {slots : List LoopSlot} → AreSlots scope names before items slots bound → map (calls scope) items ≡ map (typed.slot_calls scope) slots
  slots_call no_slot = refl
  slots_call {scope} {names} (free_slot {name = name} {item = item} is new slots) = λ i. (bound_plain scope names item name is ∙ sym (typed-Free scope name)) i ∷ slots_call slots i
  slots_call {scope} {names} (again_slot {name = name} {i = j} {item = item} is again slots) = λ i. (bound_plain scope names item name is ∙ sym (typed-Again scope j)) i ∷ slots_call slots i
  slots_call {scope} (fixed_slot {c = c} is d slots) = λ i. (const_calls_alike d ∙ sym (typed-Fixed scope c)) i ∷ slots_call slots i

  loop_call : {scope : Scope} {names inner : Names} {index : Index} {l : Loop} → IsLoop scope names index l inner → index_calls scope index ≡ typed.loop_calls scope l
  loop_call {scope} (is_loop p q {items = items} {slots = slots} {set = set} {c = c} s d) =
      tree-index scope p (trees.angle_of q items) set ∙ (λ i. max ((tree-tuple scope q items ∙ ap greatest (slots_call s)) i) (max (const_calls_alike d i) 0)) ∙ sym (typed_calls.calls-loop scope p slots c None)
  loop_call {scope} (is_loop_with p q bar {items = items} {slots = slots} {set = set} {cond = cond} {c = c} {d = d} s x y) =
      tree-index-with scope p (trees.angle_of q items) set bar cond ∙ (λ i. max ((tree-tuple scope q items ∙ ap greatest (slots_call s)) i) (max (const_calls_alike x i) (const_calls_alike y i))) ∙ sym (typed_calls.calls-loop scope p slots c (Some d))

  body_call : {scope : Scope} {names : Names} {inside : Body} {b : TBody} → IsBody scope names inside b → body_calls scope inside ≡ typed.typed_body_calls scope b
  body_call {scope} is_empty = tree-empty scope ∙ sym (typed-empty scope)
  body_call {scope} (is_members {members = members} {cs = cs} d) = tree_calls.calls-Members scope members ∙ ap greatest (consts_call d) ∙ sym (typed_calls.calls-Members scope cs)
  body_call {scope} (is_tuples {tuples = tuples} {ts = ts} d) = tree_calls.calls-Tuples scope tuples ∙ ap greatest (tuples_call d) ∙ sym (typed_calls.calls-Tuples scope ts)
  body_call {scope} (is_choices {index = index} {l = l} d) = tree-choices scope index ∙ loop_call d ∙ sym (typed_calls.calls-Those scope l)
  body_call {scope} (is_span with_to {from = e} {to = f} {c = c} {d = d} x y) = tree_calls.calls-Span scope e with_to f None ∙ (λ i. max (const_calls_alike x i) (max (const_calls_alike y i) 0)) ∙ sym (typed_calls.calls-Span scope c with_to d None)
  body_call {scope} (is_span_by with_to {from = e} {to = f} {by = g} {c = c} {d = d} {e = h} x y z) =
      tree_calls.calls-Span scope e with_to f (Some g) ∙ (λ i. max (const_calls_alike x i) (max (const_calls_alike y i) (const_calls_alike z i))) ∙ sym (typed_calls.calls-Span scope c with_to d (Some h))
