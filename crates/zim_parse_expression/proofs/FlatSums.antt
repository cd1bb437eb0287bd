-- No operand of a tight sum is a sum itself.
use Rattle.std.proofs.Common.{◌≡◌, Bool, true, false, List, [], ◌∷◌, Some, None, refl, sym, ap, ◌∙◌, subst, true≢false}
use Rattle.std.specs.List.{AllByRecursion}
use Rattle.zim_fault.specs.declared.faults.Place.{Place}
use Rattle.zim_fault.specs.declared.tokens.Token.{Token}
use Rattle.zim_fault.specs.declared.tokens.Placed.{Placed}
use Rattle.zim_tree.specs.declared.expr.Expr.{Expr, Expr-F, roll-Expr, out-Expr}
use Rattle.zim_tree.specs.declared.expr.Expr.TheVariants as tree
use Rattle.zim_tree.specs.declared.expr.Angle.{Angle}
use Rattle.zim_tree.specs.declared.expr.Index.{Index}
use Rattle.zim_tree.specs.declared.expr.Body.{Body}
use Rattle.zim_tree.specs.Levels.{Level, primary, postfix, power, unary, product, big, loop, term, sum, comparison, negation, conjunction, disjunction, whole, Chain, products, sums, relations, conjunctions, disjunctions, operand_of, Operands, joined, compared, conjoined, disjoined}
use Rattle.zim_tree.specs.Grammar.{Reads, ReadsOperands, a_number, a_text, a_truth, an_infinity, a_name, an_item, a_bare_call, a_call, a_function, a_projection, in_parentheses, in_braces, an_if, an_if_with_else, a_postfix, no_power, a_power, no_sign, a_sign, a_big, no_loop_sign, a_loop_sign, a_product, a_loop, a_product_with_loop, a_chain, a_member, no_not, a_not, no_forall, a_forall, no_operand, an_operand}
use Rattle.zim_tree.proofs.NodeLaws.{node_of}
use Rattle.zim_parse_expression.specs.GroupingLaw.{is_sum_node, is_sum, OperandsAreNoSums}

-- the levels that bind closer than a sum
below : Level → Bool
below sum = false
below comparison = false
below negation = false
below conjunction = false
below disjunction = false
below whole = false
below _ = true

-- no operand of a node is a sum, where the node is one
NoSums : Expr-F Body Expr Angle Index → Type 0
NoSums (Expr-F.Plus first others) = (is_sum first ≡ false) × AllByRecursion (λ (x : Place × Token × Expr). is_sum x.2 ≡ false) others
NoSums _ = Unit {0}

-- what is said of a tree of a level: below sums it is none, and where it is one no operand is
record Flat (level : Level) (e : Expr) : Type 0 where
  root : below level ≡ true → is_sum e ≡ false
  inside : NoSums (out-Expr e)

other : {level : Level} (d : Expr-F Body Expr Angle Index) {e : Expr} → roll-Expr d ≡ e → is_sum_node d ≡ false → NoSums d → Flat level e
other d h none inside = record { root = λ _. ap is_sum_node (node_of d h) ∙ none; inside = subst NoSums (sym (node_of d h)) inside }

up : {l m : Level} {e : Expr} → (below m ≡ true → below l ≡ true) → Flat l e → Flat m e
up h flat = record { root = λ b. flat.root (h b); inside = flat.inside }

mutual
  unfolding below NoSums

  reads_flat : {level : Level} {ts : List Placed} {e : Expr} → Reads level ts e → Flat level e
  reads_flat (a_number p digits) = other (Expr-F.Number p digits) (tree.rolls-Number p digits) refl tt
  reads_flat (a_text p text double) = other (Expr-F.Text p text double) (tree.rolls-Text p text double) refl tt
  reads_flat (a_truth p truth) = other (Expr-F.Truth p truth) (tree.rolls-Truth p truth) refl tt
  reads_flat (an_infinity p) = other (Expr-F.Infinity p) (tree.rolls-Infinity p) refl tt
  reads_flat (a_name p name) = other (Expr-F.Name p name) (tree.rolls-Name p name) refl tt
  reads_flat (an_item p q r name {index = index} d) = other (Expr-F.Item p name index) (tree.rolls-Item p name index) refl tt
  reads_flat (a_bare_call p q r name) = other (Expr-F.Call p name []) (tree.rolls-Call p name []) refl tt
  reads_flat (a_call p q r name {given = given} d) = other (Expr-F.Call p name given) (tree.rolls-Call p name given) refl tt
  reads_flat (a_function p q r w {given = given} h d) = other (Expr-F.Func p w given) (tree.rolls-Func p w given) refl tt
  reads_flat (a_projection p q r s {set = set} {positions = positions} d e) = other (Expr-F.Proj p set positions) (tree.rolls-Proj p set positions) refl tt
  reads_flat (in_parentheses p q {inner = inner} d) = other (Expr-F.Paren p inner) (tree.rolls-Paren p inner) refl tt
  reads_flat (in_braces p q {inside = inside} d) = other (Expr-F.Braces p inside) (tree.rolls-Braces p inside) refl tt
  reads_flat (an_if p q r vif {test = test} {branch = branch} d e) = other (Expr-F.If p vif test branch None) (tree.rolls-If p vif test branch None) refl tt
  reads_flat (an_if_with_else p q r s vif {test = test} {branch = branch} {otherwise = otherwise} d e f) =
      other (Expr-F.If p vif test branch (Some otherwise)) (tree.rolls-If p vif test branch (Some otherwise)) refl tt
  reads_flat (a_postfix [] d) = up {l = primary} {m = postfix} (λ h. h) (reads_flat d)
  reads_flat (a_postfix (mark ∷ marks) {operand = operand} d) = other (Expr-F.Factorial operand (mark ∷ marks)) (tree.rolls-Factorial operand (mark ∷ marks)) refl tt
  reads_flat (no_power d) = up {l = postfix} {m = power} (λ h. h) (reads_flat d)
  reads_flat (a_power p sign signed {base = base} {exponent = exponent} h d e) = other (Expr-F.Power p sign base signed exponent) (tree.rolls-Power p sign base signed exponent) refl tt
  reads_flat (no_sign d) = up {l = power} {m = unary} (λ h. h) (reads_flat d)
  reads_flat (a_sign p minus {operand = operand} d) = other (Expr-F.Signed p minus operand) (tree.rolls-Signed p minus operand) refl tt
  reads_flat (a_big p q w with_do {index = index} {operand = operand} h d e) = other (Expr-F.Big p w index with_do operand) (tree.rolls-Big p w index with_do operand) refl tt
  reads_flat (no_loop_sign d) = up {l = big} {m = loop} (λ h. h) (reads_flat d)
  reads_flat (a_loop_sign p minus {operand = operand} d) = other (Expr-F.Signed p minus operand) (tree.rolls-Signed p minus operand) refl tt
  reads_flat (a_product d) = up {l = product} {m = term} (λ h. h) (reads_flat d)
  reads_flat (a_loop d) = up {l = loop} {m = term} (λ h. h) (reads_flat d)
  reads_flat (a_product_with_loop p token {first = first} {last = last} h d e) =
      other (Expr-F.Times first ((p, token, last) ∷ [])) (tree.rolls-Times first ((p, token, last) ∷ [])) refl tt
  reads_flat (a_chain products {others = []} h d e) = up {l = unary} {m = product} (λ h. h) (reads_flat d)
  reads_flat (a_chain sums {others = []} h d e) = up {l = term} {m = sum} (λ h. refl) (reads_flat d)
  reads_flat (a_chain relations {others = []} h d e) = up {l = sum} {m = comparison} (λ h. h) (reads_flat d)
  reads_flat (a_chain conjunctions {others = []} h d e) = up {l = negation} {m = conjunction} (λ h. h) (reads_flat d)
  reads_flat (a_chain disjunctions {others = []} h d e) = up {l = conjunction} {m = disjunction} (λ h. h) (reads_flat d)
  reads_flat (a_chain products {first = first} {others = x ∷ others} h d e) = other (Expr-F.Times first (x ∷ others)) (tree.rolls-Times first (x ∷ others)) refl tt
  reads_flat (a_chain sums {first = first} {others = x ∷ others} h d e) = record {
    root = λ b. absurd (true≢false (sym b));
    inside = subst NoSums (sym (node_of (Expr-F.Plus first (x ∷ others)) (tree.rolls-Plus first (x ∷ others)))) ((reads_flat d).root refl, operands_flat refl e);
  }
  reads_flat (a_chain relations {first = first} {others = x ∷ others} h d e) =
      other (Expr-F.Compare first (compared (x ∷ others))) (tree.rolls-Compare first (compared (x ∷ others))) refl tt
  reads_flat (a_chain conjunctions {first = first} {others = x ∷ others} h d e) =
      other (Expr-F.And first (conjoined (x ∷ others))) (tree.rolls-And first (conjoined (x ∷ others))) refl tt
  reads_flat (a_chain disjunctions {first = first} {others = x ∷ others} h d e) =
      other (Expr-F.Or first (disjoined (x ∷ others))) (tree.rolls-Or first (disjoined (x ∷ others))) refl tt
  reads_flat (a_member p {tuple = tuple} {set = set} d e) = other (Expr-F.Member p tuple set) (tree.rolls-Member p tuple set) refl tt
  reads_flat (no_not d) = up {l = comparison} {m = negation} (λ h. h) (reads_flat d)
  reads_flat (a_not p {operand = operand} d) = other (Expr-F.Not p operand) (tree.rolls-Not p operand) refl tt
  reads_flat (no_forall d) = up {l = disjunction} {m = whole} (λ h. h) (reads_flat d)
  reads_flat (a_forall p q with_do {index = index} {inside = inside} d e) = other (Expr-F.Forall p index with_do inside) (tree.rolls-Forall p index with_do inside) refl tt

  operands_flat : {chain : Chain} {us : List Placed} {others : Operands} → below (operand_of chain) ≡ true → ReadsOperands chain us others →
      AllByRecursion (λ (x : Place × Token × Expr). is_sum x.2 ≡ false) others
  operands_flat h (no_operand chain) = tt
  operands_flat h (an_operand chain p token joined d e) = ((reads_flat d).root h, operands_flat h e)

pub operands_are_no_sums : OperandsAreNoSums
unfolding NoSums
operands_are_no_sums level first others (ts, d) = subst NoSums (node_of (Expr-F.Plus first others) (tree.rolls-Plus first others)) (reads_flat d).inside
