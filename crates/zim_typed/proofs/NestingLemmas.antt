-- A constant nests as deep as the expression that it is.
use Rattle.std.proofs.Common.{◌≡◌, Bool, false, List, [], ◌∷◌, map, Option, Some, None, if◌then◌else◌, refl, sym, ap, ◌∙◌}
use Rattle.std.proofs.lemmas.Option.{none-some}
use Rattle.zim_fault.specs.declared.faults.Place.{Place}
use Rattle.zim_fault.specs.declared.tokens.Token.{Token}
use Rattle.zim_fault.specs.declared.words.Word.TheVariants.{WIndexset}
use Rattle.zim_tree.specs.declared.expr.Expr.{Expr, Expr-F, out-Expr, map-Expr, fold-roll-Expr}
use Rattle.zim_tree.specs.declared.expr.Expr.TheVariants as tree
use Rattle.zim_tree.specs.declared.expr.Angle.{Angle}
use Rattle.zim_tree.specs.declared.expr.Index.{Index}
use Rattle.zim_tree.specs.declared.expr.Body.{Body}
use Rattle.zim_tree.specs.declared.expr.Body.TheViews.{roll-out-Expr}
use Rattle.zim_tree.specs.Trees as trees
use Rattle.zim_nesting.specs.Depth.{Depth, no_nesting, a_loop, nesting_in_brackets, ◌followed_by◌, followed, all, expr_nesting, angle_nesting, index_nesting, body_nesting, depth, angle_depth, index_depth}
use Rattle.zim_nesting.specs.Depth as of_tree
use Rattle.zim_nesting.proofs.DepthLaws.{depth-angle, depth-index, depth-Number, depth-Text, depth-Truth, depth-Name, depth-Item, depth-Call, depth-Func, depth-Proj, depth-Paren, depth-Braces, depth-If, depth-Factorial, depth-Power, depth-Signed, depth-Big, depth-Times, depth-Plus, depth-Compare, depth-Member, depth-Not, depth-And, depth-Or, depth-Empty, depth-Members, depth-Tuples, depth-Those, depth-Span}
use Rattle.zim_typed.specs.declared.constant.Const.{Const}
use Rattle.zim_typed.specs.declared.constant.TAngle.{TAngle}
use Rattle.zim_typed.specs.declared.constant.Loop.{Loop}
use Rattle.zim_typed.specs.declared.constant.LoopSlot.{LoopSlot}
use Rattle.zim_typed.specs.declared.constant.TBody.{TBody}
use Rattle.zim_typed.specs.declared.constant.Resolved.TheVariants as resolved
use Rattle.zim_typed.specs.Scope.{Text, Names, Scope}
use Rattle.zim_typed.specs.Pattern.{name_node, bare_name, bound_name, if_unknown}
use Rattle.zim_typed.specs.Nesting.{const_depth}
use Rattle.zim_typed.specs.Constants.{IsConst, AreConsts, AreOperands, AreConjuncts, AreDisjuncts, IsTuple, AreTuples, AreSlots, IsLoop, IsBody, const_number, const_text, const_truth, const_name, const_item, const_call, const_function, const_indexset, const_projection, const_parentheses, const_braces, const_if, const_factorial, const_power, const_signed, const_big, const_product, const_sum, const_comparison, const_member, const_not, const_and, const_or, no_const, one_const, no_operand, one_operand, no_conjunct, one_conjunct, no_disjunct, one_disjunct, is_tuple, no_tuple, one_tuple, no_slot, free_slot, again_slot, fixed_slot, is_loop, is_loop_with, is_empty, is_members, is_tuples, is_choices, is_span, is_span_by}
use Rattle.zim_typed.proofs.NestingLaws.{slot_depth, body_depth, loop_depth, tuple_depth, nests-tuple, nests-loop, nests-Free, nests-Again, nests-Fixed, nests-Empty, nests-Members, nests-Tuples, nests-Those, nests-Span, nests-Number, nests-Text, nests-Truth, nests-Name, nests-Item, nests-Call, nests-Func, nests-Proj, nests-Paren, nests-Braces, nests-If, nests-Factorial, nests-Power, nests-Signed, nests-Big, nests-Times, nests-Plus, nests-Compare, nests-Member, nests-Not, nests-And, nests-Or}

-- a bare name opens nothing
bare_node : (name : Text) (d : Expr-F Body Expr Angle Index) → name_node d ≡ Some name → expr_nesting (map-Expr Body Expr Angle Index Depth Depth Depth Depth of_tree.body_depth depth angle_depth index_depth d) ≡ no_nesting
bare_node name (Expr-F.Name a b) h = refl
bare_node name (Expr-F.Number a b) h = absurd (none-some name h)
bare_node name (Expr-F.Text a b c) h = absurd (none-some name h)
bare_node name (Expr-F.Truth a b) h = absurd (none-some name h)
bare_node name (Expr-F.Infinity a) h = absurd (none-some name h)
bare_node name (Expr-F.Item a b c) h = absurd (none-some name h)
bare_node name (Expr-F.Call a b c) h = absurd (none-some name h)
bare_node name (Expr-F.Func a b c) h = absurd (none-some name h)
bare_node name (Expr-F.Proj a b c) h = absurd (none-some name h)
bare_node name (Expr-F.Paren a b) h = absurd (none-some name h)
bare_node name (Expr-F.Braces a b) h = absurd (none-some name h)
bare_node name (Expr-F.If a b c d e) h = absurd (none-some name h)
bare_node name (Expr-F.Factorial a b) h = absurd (none-some name h)
bare_node name (Expr-F.Power a b c d e) h = absurd (none-some name h)
bare_node name (Expr-F.Signed a b c) h = absurd (none-some name h)
bare_node name (Expr-F.Big a b c d e) h = absurd (none-some name h)
bare_node name (Expr-F.Times a b) h = absurd (none-some name h)
bare_node name (Expr-F.Plus a b) h = absurd (none-some name h)
bare_node name (Expr-F.Compare a b) h = absurd (none-some name h)
bare_node name (Expr-F.Member a b c) h = absurd (none-some name h)
bare_node name (Expr-F.Not a b) h = absurd (none-some name h)
bare_node name (Expr-F.And a b) h = absurd (none-some name h)
bare_node name (Expr-F.Or a b) h = absurd (none-some name h)
bare_node name (Expr-F.Forall a b c d) h = absurd (none-some name h)

known_bare : (scope : Scope) (names : Names) (bare : Option Text) (name : Text) → if_unknown scope names bare ≡ Some name → (other : Text) × (bare ≡ Some other)
known_bare scope names None name h = absurd (none-some name h)
known_bare scope names (Some other) name h = (other, refl)

bound_plain : (scope : Scope) (names : Names) (item : Expr) (name : Text) → bound_name scope names item ≡ Some name → depth item ≡ no_nesting
bound_plain scope names item name h =
    let known = known_bare scope names (bare_name item) name h in
    ap depth (sym (roll-out-Expr item)) ∙ fold-roll-Expr Depth Depth Depth Depth body_nesting expr_nesting angle_nesting index_nesting (out-Expr item) ∙ bare_node known.0 (out-Expr item) known.1

mutual
  pub const_nests : {scope : Scope} {names : Names} {e : Expr} {c : Const} → IsConst scope names e c → depth e ≡ const_depth c
  const_nests (const_number p digits h) = depth-Number p digits ∙ sym (nests-Number p digits)
  const_nests (const_text p text double) = depth-Text p text double ∙ sym (nests-Text p text double)
  const_nests (const_truth p truth) = depth-Truth p truth ∙ sym (nests-Truth p truth)
  const_nests (const_name p name {r = r} h) = depth-Name p name ∙ sym (nests-Name p name r)
  const_nests (const_item p name {r = r} {index = items} {cs = cs} h index) = depth-Item p name items ∙ ap (λ (ds : List Depth). nesting_in_brackets (all ds)) (consts_nest index) ∙ sym (nests-Item p name cs r)
  const_nests (const_call p name {r = r} {given = items} {cs = cs} h given) = depth-Call p name items ∙ ap (λ (ds : List Depth). nesting_in_brackets (all ds)) (consts_nest given) ∙ sym (nests-Call p name cs r)
  const_nests (const_function p word {given = items} {cs = cs} is h given) = depth-Func p word items ∙ ap (λ (ds : List Depth). nesting_in_brackets (all ds)) (consts_nest given) ∙ sym (nests-Func p word cs)
  const_nests (const_indexset p q name h) =
      depth-Func p WIndexset (tree.Name q name ∷ []) ∙ ap (λ (d : Depth). nesting_in_brackets (all (d ∷ []))) (depth-Name q name ∙ sym (nests-Name q name resolved.Set)) ∙ sym (nests-Func p WIndexset _)
  const_nests (const_projection p {set = set} {positions = positions} {c = c} {t = t} s ts) = depth-Proj p set positions ∙ (λ i. nesting_in_brackets (const_nests s i followed_by tuple_nests ts i)) ∙ sym (nests-Proj p c t)
  const_nests (const_parentheses p {inner = e} {c = c} d) = depth-Paren p e ∙ ap nesting_in_brackets (const_nests d) ∙ sym (nests-Paren p c)
  const_nests (const_braces p {inside = body} {b = b} d) = depth-Braces p body ∙ ap nesting_in_brackets (body_nests d) ∙ sym (nests-Braces p b)
  const_nests (const_if p {test = e} {branch = f} {otherwise = g} {c = c} {d = d} {e = h} x y z) =
      depth-If p false e f (Some g) ∙ (λ i. nesting_in_brackets (const_nests x i followed_by const_nests y i followed_by const_nests z i)) ∙ sym (nests-If p c d h)
  const_nests (const_factorial marks {operand = e} {c = c} d) = depth-Factorial e marks ∙ const_nests d ∙ sym (nests-Factorial c marks)
  const_nests (const_power p sign signed {base = e} {exponent = f} {c = c} {d = d} x y) = depth-Power p sign e signed f ∙ (λ i. const_nests x i followed_by const_nests y i) ∙ sym (nests-Power p sign c signed d)
  const_nests (const_signed p minus {operand = e} {c = c} d) = depth-Signed p minus e ∙ const_nests d ∙ sym (nests-Signed p minus c)
  const_nests (const_big p word with_do {index = index} {operand = e} {l = l} {c = c} x y) =
      depth-Big p word index with_do e ∙ (λ i. a_loop followed_by loop_nests x i followed_by const_nests y i) ∙ sym (nests-Big p word l with_do c)
  const_nests (const_product {first = e} {others = others} {c = c} {cs = cs} x y) = depth-Times e others ∙ (λ i. followed (const_nests x i) (operands_nest y i)) ∙ sym (nests-Times c cs)
  const_nests (const_sum {first = e} {others = others} {c = c} {cs = cs} x y) = depth-Plus e others ∙ (λ i. followed (const_nests x i) (operands_nest y i)) ∙ sym (nests-Plus c cs)
  const_nests (const_comparison p relation {left = e} {right = f} {c = c} {d = d} x y) =
      depth-Compare e ((p, relation, f) ∷ []) ∙ (λ i. const_nests x i followed_by const_nests y i) ∙ sym (nests-Compare p relation c d)
  const_nests (const_member p {tuple = tuple} {set = e} {t = t} {c = c} x y) = depth-Member p tuple e ∙ (λ i. tuple_nests x i followed_by const_nests y i) ∙ sym (nests-Member p t c)
  const_nests (const_not p {operand = e} {c = c} d) = depth-Not p e ∙ const_nests d ∙ sym (nests-Not p c)
  const_nests (const_and {first = e} {others = others} {c = c} {cs = cs} x y) = depth-And e others ∙ (λ i. followed (const_nests x i) (conjuncts_nest y i)) ∙ sym (nests-And c cs)
  const_nests (const_or {first = e} {others = others} {c = c} {cs = cs} x y) = depth-Or e others ∙ (λ i. followed (const_nests x i) (disjuncts_nest y i)) ∙ sym (nests-Or c cs)

  consts_nest : {scope : Scope} {names : Names} {items : List Expr} {cs : List Const} → AreConsts scope names items cs → map depth items ≡ map const_depth cs
  consts_nest no_const = refl
  consts_nest (one_const c cs) = λ i. const_nests c i ∷ consts_nest cs i

  operands_nest : {scope : Scope} {names : Names} {others : List (Place × Token × Expr)} {cs : List (Place × Token × Const)} → AreOperands scope names others cs →
      map (λ (x : Place × Token × Expr). depth x.2) others ≡ map (λ (x : Place × Token × Const). const_depth x.2) cs
  operands_nest no_operand = refl
  operands_nest (one_operand p token c cs) = λ i. const_nests c i ∷ operands_nest cs i

  conjuncts_nest : {scope : Scope} {names : Names} {others : List (Place × Expr)} {cs : List (Place × Const)} → AreConjuncts scope names others cs →
      map (λ (x : Place × Expr). depth x.1) others ≡ map (λ (x : Place × Const). const_depth x.1) cs
  conjuncts_nest no_conjunct = refl
  conjuncts_nest (one_conjunct p c cs) = λ i. const_nests c i ∷ conjuncts_nest cs i

  disjuncts_nest : {scope : Scope} {names : Names} {others : List (Place × Bool × Expr)} {cs : List (Place × Bool × Const)} → AreDisjuncts scope names others cs →
      map (λ (x : Place × Bool × Expr). depth x.2) others ≡ map (λ (x : Place × Bool × Const). const_depth x.2) cs
  disjuncts_nest no_disjunct = refl
  disjuncts_nest (one_disjunct p xor c cs) = λ i. const_nests c i ∷ disjuncts_nest cs i

  tuple_nests : {scope : Scope} {names : Names} {tuple : Angle} {t : TAngle} → IsTuple scope names tuple t → angle_depth tuple ≡ tuple_depth t
  tuple_nests (is_tuple p {items = items} {cs = cs} d) = depth-angle p items ∙ ap all (consts_nest d) ∙ sym (nests-tuple p cs)

  tuples_nest : {scope : Scope} {names : Names} {tuples : List Angle} {ts : List TAngle} → AreTuples scope names tuples ts → map angle_depth tuples ≡ map tuple_depth ts
  tuples_nest no_tuple = refl
  tuples_nest (one_tuple t ts) = λ i. tuple_nests t i ∷ tuples_nest ts i

  slots_nest : {scope : Scope} {names bound : Names} {before : List (Option Text)} {items : List Expr} {slots : List LoopSlot} → AreSlots scope names before items slots bound → map depth items ≡ map slot_depth slots
  slots_nest no_slot = refl
  slots_nest {scope} {names} (free_slot {name = name} {item = item} is new slots) = λ i. (bound_plain scope names item name is ∙ sym (nests-Free name)) i ∷ slots_nest slots i
  slots_nest {scope} {names} (again_slot {name = name} {i = j} {item = item} is again slots) = λ i. (bound_plain scope names item name is ∙ sym (nests-Again j)) i ∷ slots_nest slots i
  slots_nest (fixed_slot {c = c} is d slots) = λ i. (const_nests d ∙ sym (nests-Fixed c)) i ∷ slots_nest slots i

  loop_nests : {scope : Scope} {names inner : Names} {index : Index} {l : Loop} → IsLoop scope names index l inner → index_depth index ≡ loop_depth l
  loop_nests (is_loop p q {items = items} {slots = slots} {set = set} {c = c} s d) =
      depth-index p (trees.angle_of q items) set None ∙ (λ i. (depth-angle q items ∙ ap all (slots_nest s)) i followed_by const_nests d i followed_by no_nesting) ∙ sym (nests-loop p slots c None)
  loop_nests (is_loop_with p q bar {items = items} {slots = slots} {set = set} {cond = cond} {c = c} {d = d} s x y) =
      depth-index p (trees.angle_of q items) set (Some (bar, cond)) ∙ (λ i. (depth-angle q items ∙ ap all (slots_nest s)) i followed_by const_nests x i followed_by const_nests y i) ∙ sym (nests-loop p slots c (Some d))

  body_nests : {scope : Scope} {names : Names} {body : Body} {b : TBody} → IsBody scope names body b → of_tree.body_depth body ≡ body_depth b
  body_nests is_empty = depth-Empty ∙ sym nests-Empty
  body_nests (is_members {members = members} {cs = cs} d) = depth-Members members ∙ ap all (consts_nest d) ∙ sym (nests-Members cs)
  body_nests (is_tuples {tuples = tuples} {ts = ts} d) = depth-Tuples tuples ∙ ap all (tuples_nest d) ∙ sym (nests-Tuples ts)
  body_nests (is_choices {index = index} {l = l} d) = depth-Those index ∙ loop_nests d ∙ sym (nests-Those l)
  body_nests (is_span with_to {from = e} {to = f} {c = c} {d = d} x y) = depth-Span e with_to f None ∙ (λ i. const_nests x i followed_by const_nests y i followed_by no_nesting) ∙ sym (nests-Span c with_to d None)
  body_nests (is_span_by with_to {from = e} {to = f} {by = g} {c = c} {d = d} {e = h} x y z) =
      depth-Span e with_to f (Some g) ∙ (λ i. const_nests x i followed_by const_nests y i followed_by const_nests z i) ∙ sym (nests-Span c with_to d (Some h))
