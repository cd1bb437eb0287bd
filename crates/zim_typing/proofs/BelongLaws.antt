-- The constant that is made of an expression in which nothing is marked belongs to the expression, if the expression is made of its parts.
use Rattle.std.proofs.Common.{Bool, true, false, List, ◌∷◌, map, Some, None, refl}
use Rattle.zim_fault.specs.declared.faults.Place.{Place}
use Rattle.zim_fault.specs.declared.tokens.Token.{Token}
use Rattle.zim_tree.specs.declared.expr.Expr.{Expr}
use Rattle.zim_tree.specs.declared.expr.Angle.{Angle}
use Rattle.zim_tree.specs.declared.expr.Index.{Index}
use Rattle.zim_tree.specs.declared.expr.Body.{Body}
use Rattle.zim_tree.specs.Levels.{Chain, Operands}
use Rattle.zim_tree.specs.Made.{Made, MadeAll, MadeOperands, MadeConjuncts, MadeDisjuncts, MadeTuple, MadeTuples, MadeIndex, MadeBody, made_number, made_text, made_truth, made_infinity, made_name, made_item, made_call, made_function, made_projection, made_parentheses, made_braces, made_if, made_if_with_else, made_factorial, made_power, made_signed, made_big, made_product, made_sum, made_comparison, made_double_comparison, made_member, made_not, made_and, made_or, made_forall, made_none, made_one, made_no_operand, made_one_operand, made_no_conjunct, made_one_conjunct, made_no_disjunct, made_one_disjunct, made_tuple, made_no_tuple, made_one_tuple, made_index, made_index_with, made_empty, made_members, made_tuples, made_choices, made_span, made_span_by}
use Rattle.zim_typed.specs.Scope.{Scope}
use Rattle.zim_typing.proofs.FitLemmas.{either_way}
use Rattle.zim_typing.proofs.GoesLemmas.{Goes, AllGo, GoesTuple, GoesIndex, GoesBody}
use Rattle.zim_typing.proofs.NodeLemmas.{goes-Number, goes-Text, goes-Truth, goes-Infinity, goes-Name, goes-Item, goes-Call, goes-Proj, goes-Member, goes-Paren, goes-Braces, goes-If, goes_no_value, goes-Factorial, goes-Power, goes-Signed, goes-Big, goes-Not, goes-Times, goes-Plus, goes-Or, goes-And, goes_comparison, goes_chain, goes-Forall}
use Rattle.zim_typing.proofs.FunctionLemmas.{kind_of, goes-Func}
use Rattle.zim_typing.proofs.SlotLemmas.{TuplesGo, goes_index, goes_index_with, goes_empty, goes_members, goes_tuples, goes_those, goes_span, goes_span_by}

mutual
  pub goes : (scope : Scope) {e : Expr} → Made e → Goes scope e
  goes scope (made_number p digits) = goes-Number scope p digits
  goes scope (made_text p text double) = goes-Text scope p text double
  goes scope (made_truth p truth) = goes-Truth scope p truth
  goes scope (made_infinity p) = goes-Infinity scope p
  goes scope (made_name p name) = goes-Name scope p name
  goes scope (made_item p name {first = first} {others = others} all) = goes-Item scope p name (first ∷ others) (all_go scope all)
  goes scope (made_call p name {given = given} all) = goes-Call scope p name given (all_go scope all)
  goes scope (made_function p word {first = first} {others = others} h all) = goes-Func scope p word (first ∷ others) (kind_of word h) (all_go scope all)
  goes scope (made_projection p {set = set} {positions = positions} s t) = goes-Proj scope p set positions (goes scope s) (tuple_goes scope t)
  goes scope (made_parentheses p {inner = inner} m) = goes-Paren scope p inner (goes scope m)
  goes scope (made_braces p {inside = inside} m) = goes-Braces scope p inside (body_goes scope m)
  goes scope (made_if p vif {test = test} {branch = branch} t b) = goes_no_value scope p vif test branch None (either_way vif)
  goes scope (made_if_with_else p true {test = test} {branch = branch} {otherwise = otherwise} t b e) = goes_no_value scope p true test branch (Some otherwise) refl
  goes scope (made_if_with_else p false {test = test} {branch = branch} {otherwise = otherwise} t b e) = goes-If scope p test branch otherwise (goes scope t) (goes scope b) (goes scope e)
  goes scope (made_factorial mark marks {operand = operand} m) = goes-Factorial scope operand (mark ∷ marks) (goes scope m)
  goes scope (made_power p sign signed {base = base} {exponent = exponent} h b e) = goes-Power scope p sign base signed exponent (goes scope b) (goes scope e)
  goes scope (made_signed p minus {operand = operand} m) = goes-Signed scope p minus operand (goes scope m)
  goes scope (made_big p word with_do {index = index} {operand = operand} h i m) = goes-Big scope p word index with_do operand (index_goes scope i) (goes scope m)
  goes scope (made_product {first = first} {other = other} {others = others} m ms) = goes-Times scope first (other ∷ others) (goes scope m) (operands_go scope ms)
  goes scope (made_sum {first = first} {other = other} {others = others} m ms) = goes-Plus scope first (other ∷ others) (goes scope m) (operands_go scope ms)
  goes scope (made_comparison p relation {left = left} {right = right} l r) = goes_comparison scope p relation left right (goes scope l) (goes scope r)
  goes scope (made_double_comparison p q lower upper {left = left} {middle = middle} {right = right} l m r) = goes_chain scope p q lower upper left middle right
  goes scope (made_member p {tuple = tuple} {set = set} t s) = goes-Member scope p tuple set (tuple_goes scope t) (goes scope s)
  goes scope (made_not p {operand = operand} m) = goes-Not scope p operand (goes scope m)
  goes scope (made_and {first = first} {other = other} {others = others} m ms) = goes-And scope first (other ∷ others) (goes scope m) (conjuncts_go scope ms)
  goes scope (made_or {first = first} {other = other} {others = others} m ms) = goes-Or scope first (other ∷ others) (goes scope m) (disjuncts_go scope ms)
  goes scope (made_forall p with_do {index = index} {inside = inside} i m) = goes-Forall scope p index with_do inside

  pub all_go : (scope : Scope) {items : List Expr} → MadeAll items → AllGo scope items
  all_go scope made_none = tt
  all_go scope (made_one m ms) = (goes scope m, all_go scope ms)

  pub operands_go : (scope : Scope) {chain : Chain} {others : Operands} → MadeOperands chain others → AllGo scope (map (λ (x : Place × Token × Expr). x.2) others)
  operands_go scope made_no_operand = tt
  operands_go scope (made_one_operand p token h m ms) = (goes scope m, operands_go scope ms)

  pub conjuncts_go : (scope : Scope) {others : List (Place × Expr)} → MadeConjuncts others → AllGo scope (map (λ (x : Place × Expr). x.1) others)
  conjuncts_go scope made_no_conjunct = tt
  conjuncts_go scope (made_one_conjunct p m ms) = (goes scope m, conjuncts_go scope ms)

  pub disjuncts_go : (scope : Scope) {others : List (Place × Bool × Expr)} → MadeDisjuncts others → AllGo scope (map (λ (x : Place × Bool × Expr). x.2) others)
  disjuncts_go scope made_no_disjunct = tt
  disjuncts_go scope (made_one_disjunct p xor m ms) = (goes scope m, disjuncts_go scope ms)

  pub tuple_goes : (scope : Scope) {tuple : Angle} → MadeTuple tuple → GoesTuple scope tuple
  tuple_goes scope (made_tuple p {first = first} {others = others} all) = (p, first ∷ others, refl, all_go scope all)

  tuples_go : (scope : Scope) {tuples : List Angle} → MadeTuples tuples → TuplesGo scope tuples
  tuples_go scope made_no_tuple = tt
  tuples_go scope (made_one_tuple t ts) = (tuple_goes scope t, tuples_go scope ts)

  pub index_goes : (scope : Scope) {index : Index} → MadeIndex index → GoesIndex scope index
  index_goes scope (made_index p {set = set} (made_tuple q {first = first} {others = others} all) s) = goes_index scope p q (first ∷ others) set (all_go scope all) (goes scope s)
  index_goes scope (made_index_with p bar {set = set} {cond = cond} (made_tuple q {first = first} {others = others} all) s c) =
      goes_index_with scope p q (first ∷ others) set bar cond (all_go scope all) (goes scope s) (goes scope c)

  body_goes : (scope : Scope) {inside : Body} → MadeBody inside → GoesBody scope inside
  body_goes scope made_empty = goes_empty scope
  body_goes scope (made_members {first = first} {others = others} all) = goes_members scope (first ∷ others) (all_go scope all)
  body_goes scope (made_tuples {first = first} {others = others} all) = goes_tuples scope (first ∷ others) (tuples_go scope all)
  body_goes scope (made_choices {index = index} i) = goes_those scope index (index_goes scope i)
  body_goes scope (made_span with_to {from = from} {to = to} f t) = goes_span scope from with_to to (goes scope f) (goes scope t)
  body_goes scope (made_span_by with_to {from = from} {to = to} {by = by} f t b) = goes_span_by scope from with_to to by (goes scope f) (goes scope t) (goes scope b)
