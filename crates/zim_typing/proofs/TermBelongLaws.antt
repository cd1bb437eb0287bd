-- The term that is made of an expression in which nothing is marked as a term belongs to the expression, if the expression is made of its parts.
use Rattle.std.proofs.Common.{◌≡◌, true, false, List, [], ◌∷◌, map, Some, None, refl, sym, ◌∙◌}
use Rattle.std.proofs.lemmas.Bool.{false≢true}
use Rattle.zim_fault.specs.declared.faults.Place.{Place}
use Rattle.zim_fault.specs.declared.tokens.Token.{Token}
use Rattle.zim_tree.specs.declared.expr.Expr.{Expr}
use Rattle.zim_tree.specs.declared.expr.Expr.TheVariants.{Number, Text, Truth, Infinity, Proj, Braces, Factorial, Compare, Member, Not, And, Forall}
use Rattle.zim_tree.specs.Levels.{Chain, Operands}
use Rattle.zim_tree.specs.Made.{Made, MadeAll, MadeOperands, made_number, made_text, made_truth, made_infinity, made_name, made_item, made_call, made_function, made_projection, made_parentheses, made_braces, made_if, made_if_with_else, made_factorial, made_power, made_signed, made_big, made_product, made_sum, made_comparison, made_double_comparison, made_member, made_not, made_and, made_or, made_forall, made_none, made_one, made_no_operand, made_one_operand}
use Rattle.zim_typed.specs.Scope.{Scope}
use Rattle.zim_typed.specs.Variables.{has_variables}
use Rattle.zim_typed.proofs.VariableLaws.{has-Number, has-Text, has-Truth, has-Infinity}
use Rattle.zim_static.specs.declared.role.Role.TheVariants as role
use Rattle.zim_static.proofs.FirstLaws.{opens-Proj, opens-Braces, opens-Factorial, opens-Compare, opens-Member, opens-Not, opens-And, opens-Forall}
use Rattle.zim_typing.proofs.FitLemmas.{either_way}
use Rattle.zim_typing.proofs.BelongLaws.{goes, all_go, operands_go, index_goes}
use Rattle.zim_typing.proofs.StillLemmas.{still, all_still, operands_still}
use Rattle.zim_typing.proofs.FunctionLemmas.{kind_of}
use Rattle.zim_typing.proofs.MeasuredLemmas.{GoesTerm, never, AllMeasured}
use Rattle.zim_typing.proofs.TermNodeLemmas.{measured-Name, measured-Item, measured-Call, measured-Func, measured-Paren, measured-Signed, measured-If, measured_no_value, measured-Power, measured-Big, measured-Plus, measured-Times, measured-Or}

-- an expression that never has variables
bare : (scope : Scope) (e : Expr) → has_variables scope e ≡ false → GoesTerm scope e
bare scope e none names others same bind numbers quiet varies = absurd (false≢true (sym none ∙ varies))

mutual
  pub measured : (scope : Scope) {e : Expr} → Made e → GoesTerm scope e
  measured scope (made_number p digits) = bare scope (Number p digits) (has-Number scope p digits)
  measured scope (made_text p text double) = bare scope (Text p text double) (has-Text scope p text double)
  measured scope (made_truth p truth) = bare scope (Truth p truth) (has-Truth scope p truth)
  measured scope (made_infinity p) = bare scope (Infinity p) (has-Infinity scope p)
  measured scope (made_name p name) = measured-Name scope p name
  measured scope (made_item p name {first = first} {others = others} all) = measured-Item scope p name first others (all_go scope all)
  measured scope (made_call p name {given = given} all) = measured-Call scope p name given (all_go scope all)
  measured scope (made_function p word {first = first} {others = others} h all) =
      measured-Func scope p word (first ∷ others) (kind_of word h) (goes scope (made_function p word h all)) (all_go scope all) (all_still scope all) (all_measured scope all)
  measured scope (made_projection p {set = set} {positions = positions} s t) =
      never scope (Proj p set positions) (λ names quiet. opens-Proj scope role.Value names p set positions ∙ sym (opens-Proj scope role.Term names p set positions) ∙ quiet) (goes scope (made_projection p s t))
  measured scope (made_parentheses p {inner = inner} m) = measured-Paren scope p inner (measured scope m)
  measured scope (made_braces p {inside = inside} m) =
      never scope (Braces p inside) (λ names quiet. opens-Braces scope role.Value names p inside ∙ sym (opens-Braces scope role.Term names p inside) ∙ quiet) (goes scope (made_braces p m))
  measured scope (made_if p vif {test = test} {branch = branch} t b) = measured_no_value scope p vif test branch None (either_way vif)
  measured scope (made_if_with_else p true {test = test} {branch = branch} {otherwise = otherwise} t b e) = measured_no_value scope p true test branch (Some otherwise) refl
  measured scope (made_if_with_else p false {test = test} {branch = branch} {otherwise = otherwise} t b e) =
      measured-If scope p test branch otherwise (goes scope t) (goes scope b) (still scope b) (measured scope b) (goes scope e) (still scope e) (measured scope e)
  measured scope (made_factorial mark marks {operand = operand} m) =
      never scope (Factorial operand (mark ∷ marks)) (λ names quiet. opens-Factorial scope role.Value names operand (mark ∷ marks) ∙ sym (opens-Factorial scope role.Term names operand (mark ∷ marks)) ∙ quiet) (goes scope (made_factorial mark marks m))
  measured scope (made_power p sign signed {base = base} {exponent = exponent} h b e) = measured-Power scope p sign base signed exponent
  measured scope (made_signed p minus {operand = operand} m) = measured-Signed scope p minus operand (measured scope m)
  measured scope (made_big p word with_do {index = index} {operand = operand} h i m) = measured-Big scope p word index with_do operand (goes scope (made_big p word with_do h i m)) (index_goes scope i) (measured scope m)
  measured scope (made_product {first = first} {other = other} {others = others} m ms) =
      measured-Times scope first (other ∷ others) (goes scope m) (still scope m) (measured scope m) (operands_go scope ms) (operands_still scope ms) (operands_measured scope ms)
  measured scope (made_sum {first = first} {other = other} {others = others} m ms) =
      measured-Plus scope first (other ∷ others) (goes scope m) (still scope m) (measured scope m) (operands_go scope ms) (operands_still scope ms) (operands_measured scope ms)
  measured scope (made_comparison p relation {left = left} {right = right} l r) =
      never scope (Compare left ((p, relation, right) ∷ [])) (λ names quiet. opens-Compare scope role.Value names left ((p, relation, right) ∷ []) ∙ sym (opens-Compare scope role.Term names left ((p, relation, right) ∷ [])) ∙ quiet) (goes scope (made_comparison p relation l r))
  measured scope (made_double_comparison p q lower upper {left = left} {middle = middle} {right = right} l m r) =
      never scope (Compare left ((p, lower, middle) ∷ (q, upper, right) ∷ []))
      (λ names quiet. opens-Compare scope role.Value names left ((p, lower, middle) ∷ (q, upper, right) ∷ []) ∙ sym (opens-Compare scope role.Term names left ((p, lower, middle) ∷ (q, upper, right) ∷ [])) ∙ quiet)
      (goes scope (made_double_comparison p q lower upper l m r))
  measured scope (made_member p {tuple = tuple} {set = set} t s) =
      never scope (Member p tuple set) (λ names quiet. opens-Member scope role.Value names p tuple set ∙ sym (opens-Member scope role.Term names p tuple set) ∙ quiet) (goes scope (made_member p t s))
  measured scope (made_not p {operand = operand} m) =
      never scope (Not p operand) (λ names quiet. opens-Not scope role.Value names p operand ∙ sym (opens-Not scope role.Term names p operand) ∙ quiet) (goes scope (made_not p m))
  measured scope (made_and {first = first} {other = other} {others = others} m ms) =
      never scope (And first (other ∷ others)) (λ names quiet. opens-And scope role.Value names first (other ∷ others) ∙ sym (opens-And scope role.Term names first (other ∷ others)) ∙ quiet) (goes scope (made_and m ms))
  measured scope (made_or {first = first} {other = other} {others = others} m ms) = measured-Or scope first other others (goes scope (made_or m ms))
  measured scope (made_forall p with_do {index = index} {inside = inside} i m) =
      never scope (Forall p index with_do inside) (λ names quiet. opens-Forall scope role.Value names p index with_do inside ∙ sym (opens-Forall scope role.Term names p index with_do inside) ∙ quiet) (goes scope (made_forall p with_do i m))

  all_measured : (scope : Scope) {items : List Expr} → MadeAll items → AllMeasured scope items
  all_measured scope made_none = tt
  all_measured scope (made_one m ms) = (measured scope m, all_measured scope ms)

  operands_measured : (scope : Scope) {chain : Chain} {others : Operands} → MadeOperands chain others → AllMeasured scope (map (λ (x : Place × Token × Expr). x.2) others)
  operands_measured scope made_no_operand = tt
  operands_measured scope (made_one_operand p token h m ms) = (measured scope m, operands_measured scope ms)
