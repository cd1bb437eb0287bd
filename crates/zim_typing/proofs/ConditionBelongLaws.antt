-- The condition that is made of an expression in which nothing is marked as a condition belongs to the expression, if the expression is made of its parts.
use Rattle.std.proofs.Common.{◌≡◌, Bool, true, false, List, [], ◌∷◌, map, Some, None, refl, sym, ◌∙◌}
use Rattle.std.proofs.lemmas.Bool.{false≢true}
use Rattle.zim_fault.specs.declared.faults.Place.{Place}
use Rattle.zim_tree.specs.declared.expr.Expr.{Expr}
use Rattle.zim_tree.specs.declared.expr.Expr.TheVariants.{Number, Text, Truth, Infinity, Name, Item, Call, Proj, Braces, If, Factorial, Power, Compare, Member, Forall}
use Rattle.zim_tree.specs.Made.{Made, MadeConjuncts, MadeDisjuncts, made_number, made_text, made_truth, made_infinity, made_name, made_item, made_call, made_function, made_projection, made_parentheses, made_braces, made_if, made_if_with_else, made_factorial, made_power, made_signed, made_big, made_product, made_sum, made_comparison, made_double_comparison, made_member, made_not, made_and, made_or, made_forall, made_no_conjunct, made_one_conjunct, made_no_disjunct, made_one_disjunct}
use Rattle.zim_typed.specs.Scope.{Scope}
use Rattle.zim_typed.specs.Variables.{has_variables}
use Rattle.zim_typed.proofs.VariableLaws.{has-Number, has-Text, has-Truth, has-Infinity}
use Rattle.zim_static.specs.declared.role.Role.TheVariants as role
use Rattle.zim_static.proofs.FirstLaws.{opens-Name, opens-Item, opens-Call, opens-Proj, opens-Braces, opens-If, opens-Factorial, opens-Power, opens-Compare, opens-Member, opens-Forall}
use Rattle.zim_typing.proofs.FitLemmas.{either_way}
use Rattle.zim_typing.proofs.BelongLaws.{goes, conjuncts_go, disjuncts_go}
use Rattle.zim_typing.proofs.StillLemmas.{still, conjuncts_still, disjuncts_still}
use Rattle.zim_typing.proofs.FunctionLemmas.{kind_of}
use Rattle.zim_typing.proofs.TermBelongLaws.{measured}
use Rattle.zim_typing.proofs.DecidedLemmas.{GoesCondition, never_condition, AllDecided, decided-Paren, decided-Compare, decided-Not, decided-And, decided-Or, decided-Func, decided_no_value, decided-Signed, decided-Big, decided-Plus, decided-Times}

-- an expression that never has variables
bare : (scope : Scope) (e : Expr) → has_variables scope e ≡ false → GoesCondition scope e
bare scope e none names others same bind numbers quiet varies = absurd (false≢true (sym none ∙ varies))

mutual
  pub decided : (scope : Scope) {e : Expr} → Made e → GoesCondition scope e
  decided scope (made_number p digits) = bare scope (Number p digits) (has-Number scope p digits)
  decided scope (made_text p text double) = bare scope (Text p text double) (has-Text scope p text double)
  decided scope (made_truth p truth) = bare scope (Truth p truth) (has-Truth scope p truth)
  decided scope (made_infinity p) = bare scope (Infinity p) (has-Infinity scope p)
  decided scope (made_name p name) =
      never_condition scope (Name p name) (λ names quiet. opens-Name scope role.Value names p name ∙ sym (opens-Name scope role.Condition names p name) ∙ quiet) (goes scope (made_name p name))
  decided scope (made_item p name {first = first} {others = others} all) =
      never_condition scope (Item p name (first ∷ others)) (λ names quiet. opens-Item scope role.Value names p name (first ∷ others) ∙ sym (opens-Item scope role.Condition names p name (first ∷ others)) ∙ quiet) (goes scope (made_item p name all))
  decided scope (made_call p name {given = given} all) =
      never_condition scope (Call p name given) (λ names quiet. opens-Call scope role.Value names p name given ∙ sym (opens-Call scope role.Condition names p name given) ∙ quiet) (goes scope (made_call p name all))
  decided scope (made_function p word {first = first} {others = others} h all) = decided-Func scope p word (first ∷ others) (kind_of word h) (goes scope (made_function p word h all))
  decided scope (made_projection p {set = set} {positions = positions} s t) =
      never_condition scope (Proj p set positions) (λ names quiet. opens-Proj scope role.Value names p set positions ∙ sym (opens-Proj scope role.Condition names p set positions) ∙ quiet) (goes scope (made_projection p s t))
  decided scope (made_parentheses p {inner = inner} m) = decided-Paren scope p inner (decided scope m)
  decided scope (made_braces p {inside = inside} m) =
      never_condition scope (Braces p inside) (λ names quiet. opens-Braces scope role.Value names p inside ∙ sym (opens-Braces scope role.Condition names p inside) ∙ quiet) (goes scope (made_braces p m))
  decided scope (made_if p vif {test = test} {branch = branch} t b) = decided_no_value scope p vif test branch None (either_way vif)
  decided scope (made_if_with_else p true {test = test} {branch = branch} {otherwise = otherwise} t b e) = decided_no_value scope p true test branch (Some otherwise) refl
  decided scope (made_if_with_else p false {test = test} {branch = branch} {otherwise = otherwise} t b e) =
      never_condition scope (If p false test branch (Some otherwise))
      (λ names quiet. opens-If scope role.Value names p false test branch (Some otherwise) ∙ sym (opens-If scope role.Condition names p false test branch (Some otherwise)) ∙ quiet) (goes scope (made_if_with_else p false t b e))
  decided scope (made_factorial mark marks {operand = operand} m) =
      never_condition scope (Factorial operand (mark ∷ marks)) (λ names quiet. opens-Factorial scope role.Value names operand (mark ∷ marks) ∙ sym (opens-Factorial scope role.Condition names operand (mark ∷ marks)) ∙ quiet) (goes scope (made_factorial mark marks m))
  decided scope (made_power p sign signed {base = base} {exponent = exponent} h b e) =
      never_condition scope (Power p sign base signed exponent) (λ names quiet. opens-Power scope role.Value names p sign base signed exponent ∙ sym (opens-Power scope role.Condition names p sign base signed exponent) ∙ quiet) (goes scope (made_power p sign signed h b e))
  decided scope (made_signed p minus {operand = operand} m) = decided-Signed scope p minus operand (goes scope (made_signed p minus m))
  decided scope (made_big p word with_do {index = index} {operand = operand} h i m) = decided-Big scope p word index with_do operand (goes scope (made_big p word with_do h i m))
  decided scope (made_product {first = first} {other = other} {others = others} m ms) = decided-Times scope first other others (goes scope (made_product m ms))
  decided scope (made_sum {first = first} {other = other} {others = others} m ms) = decided-Plus scope first other others (goes scope (made_sum m ms))
  decided scope (made_comparison p relation {left = left} {right = right} l r) =
      decided-Compare scope p relation left right (goes scope l) (still scope l) (measured scope l) (goes scope r) (still scope r) (measured scope r)
  decided scope (made_double_comparison p q lower upper {left = left} {middle = middle} {right = right} l m r) =
      never_condition scope (Compare left ((p, lower, middle) ∷ (q, upper, right) ∷ []))
      (λ names quiet. opens-Compare scope role.Value names left ((p, lower, middle) ∷ (q, upper, right) ∷ []) ∙ sym (opens-Compare scope role.Condition names left ((p, lower, middle) ∷ (q, upper, right) ∷ [])) ∙ quiet)
      (goes scope (made_double_comparison p q lower upper l m r))
  decided scope (made_member p {tuple = tuple} {set = set} t s) =
      never_condition scope (Member p tuple set) (λ names quiet. opens-Member scope role.Value names p tuple set ∙ sym (opens-Member scope role.Condition names p tuple set) ∙ quiet) (goes scope (made_member p t s))
  decided scope (made_not p {operand = operand} m) = decided-Not scope p operand (decided scope m)
  decided scope (made_and {first = first} {other = other} {others = others} m ms) =
      decided-And scope first (other ∷ others) (goes scope m) (still scope m) (decided scope m) (conjuncts_go scope ms) (conjuncts_still scope ms) (conjuncts_decided scope ms)
  decided scope (made_or {first = first} {other = other} {others = others} m ms) =
      decided-Or scope first (other ∷ others) (goes scope m) (still scope m) (decided scope m) (disjuncts_go scope ms) (disjuncts_still scope ms) (disjuncts_decided scope ms)
  decided scope (made_forall p with_do {index = index} {inside = inside} i m) =
      never_condition scope (Forall p index with_do inside) (λ names quiet. opens-Forall scope role.Value names p index with_do inside ∙ sym (opens-Forall scope role.Condition names p index with_do inside) ∙ quiet) (goes scope (made_forall p with_do i m))

  conjuncts_decided : (scope : Scope) {others : List (Place × Expr)} → MadeConjuncts others → AllDecided scope (map (λ (x : Place × Expr). x.1) others)
  conjuncts_decided scope made_no_conjunct = tt
  conjuncts_decided scope (made_one_conjunct p m ms) = (decided scope m, conjuncts_decided scope ms)

  disjuncts_decided : (scope : Scope) {others : List (Place × Bool × Expr)} → MadeDisjuncts others → AllDecided scope (map (λ (x : Place × Bool × Expr). x.2) others)
  disjuncts_decided scope made_no_disjunct = tt
  disjuncts_decided scope (made_one_disjunct p xor m ms) = (decided scope m, disjuncts_decided scope ms)
