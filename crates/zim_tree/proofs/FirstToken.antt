-- The first token of an expression stands at the expression's first place.
use Rattle.std.proofs.Common.{◌≡◌, List, [], ◌∷◌, ◌++◌, Option, Some, None, refl, sym, ap, ◌∙◌}
use Rattle.std.proofs.lemmas.Option.{none-some}
use Rattle.zim_fault.specs.declared.faults.Place.{Place}
use Rattle.zim_fault.specs.declared.tokens.Placed.{Placed}
use Rattle.zim_tree.specs.declared.expr.Expr.{Expr, Expr-F, roll-Expr, map-Expr, fold-roll-Expr}
use Rattle.zim_tree.specs.declared.expr.Expr.TheVariants as tree
use Rattle.zim_tree.specs.declared.expr.Angle.{Angle, fold-Angle, fold-roll-Angle}
use Rattle.zim_tree.specs.declared.expr.Index.{Index, fold-Index}
use Rattle.zim_tree.specs.declared.expr.Body.{Body, fold-Body}
use Rattle.zim_tree.specs.Levels.{Level, Chain, products, sums, relations, conjunctions, disjunctions, Operands, joined, compared, conjoined, disjoined, factorial, exclamations}
use Rattle.zim_tree.specs.Grammar.{Reads, ReadsTuple, a_number, a_text, a_truth, an_infinity, a_name, an_item, a_bare_call, a_call, a_function, a_projection, in_parentheses, in_braces, an_if, an_if_with_else, a_postfix, no_power, a_power, no_sign, a_sign, a_big, no_loop_sign, a_loop_sign, a_product, a_loop, a_product_with_loop, a_chain, a_member, no_not, a_not, no_forall, a_forall, a_tuple}
use Rattle.zim_tree.specs.FirstPlace.{first_in_expr, first_in_angle, first_in_index, first_in_body, first_place}

-- the place of the first token, if there is one
abbrev pub begins_at : List Placed → Option Place
begins_at [] = None
begins_at (t ∷ ts) = Some t.place

begins-append : (ts us : List Placed) (p : Place) → begins_at ts ≡ Some p → begins_at (ts ++ us) ≡ Some p
begins-append [] us p h = absurd (none-some p h)
begins-append (t ∷ ts) us p h = h

abbrev body_first : Body → Unit {0}
body_first = fold-Body (Unit {0}) Place Place Place first_in_body first_in_expr first_in_angle first_in_index

abbrev angle_first : Angle → Place
angle_first = fold-Angle (Unit {0}) Place Place Place first_in_body first_in_expr first_in_angle first_in_index

abbrev index_first : Index → Place
index_first = fold-Index (Unit {0}) Place Place Place first_in_body first_in_expr first_in_angle first_in_index

-- the first place of a layer, where those of its parts are known
abbrev first_of_layer : Expr-F Body Expr Angle Index → Place
first_of_layer d = first_in_expr (map-Expr Body Expr Angle Index (Unit {0}) Place Place Place body_first first_place angle_first index_first d)

-- the first place of a tree that is made of a layer
first : (d : Expr-F Body Expr Angle Index) {e : Expr} → roll-Expr d ≡ e → Some (first_of_layer d) ≡ Some (first_place e)
first d h = sym (ap (λ (e : Expr). Some (first_place e)) (sym h) ∙ ap Some (fold-roll-Expr (Unit {0}) Place Place Place first_in_body first_in_expr first_in_angle first_in_index d))

factorial-first : (operand : Expr) (marks : List Place) → Some (first_place operand) ≡ Some (first_place (factorial operand marks))
factorial-first operand [] = refl
factorial-first operand (p ∷ marks) = first (Expr-F.Factorial operand (p ∷ marks)) (tree.rolls-Factorial operand (p ∷ marks))

joined-first : (chain : Chain) (operand : Expr) (others : Operands) → Some (first_place operand) ≡ Some (first_place (joined chain operand others))
joined-first chain operand [] = refl
joined-first products operand (x ∷ others) = first (Expr-F.Times operand (x ∷ others)) (tree.rolls-Times operand (x ∷ others))
joined-first sums operand (x ∷ others) = first (Expr-F.Plus operand (x ∷ others)) (tree.rolls-Plus operand (x ∷ others))
joined-first relations operand (x ∷ others) = first (Expr-F.Compare operand (compared (x ∷ others))) (tree.rolls-Compare operand (compared (x ∷ others)))
joined-first conjunctions operand (x ∷ others) = first (Expr-F.And operand (conjoined (x ∷ others))) (tree.rolls-And operand (conjoined (x ∷ others)))
joined-first disjunctions operand (x ∷ others) = first (Expr-F.Or operand (disjoined (x ∷ others))) (tree.rolls-Or operand (disjoined (x ∷ others)))

tuple_first : {ts : List Placed} {tuple : Angle} → ReadsTuple ts tuple → begins_at ts ≡ Some (angle_first tuple)
tuple_first (a_tuple p q {items = items} d) =
    ap Some (sym (fold-roll-Angle (Unit {0}) Place Place Place first_in_body first_in_expr first_in_angle first_in_index (record { place = p; items = items })))

-- a derivation's first token stands at the tree's first place
pub reads_first : {level : Level} {ts : List Placed} {e : Expr} → Reads level ts e → begins_at ts ≡ Some (first_place e)
reads_first (a_number p digits) = first (Expr-F.Number p digits) (tree.rolls-Number p digits)
reads_first (a_text p text double) = first (Expr-F.Text p text double) (tree.rolls-Text p text double)
reads_first (a_truth p truth) = first (Expr-F.Truth p truth) (tree.rolls-Truth p truth)
reads_first (an_infinity p) = first (Expr-F.Infinity p) (tree.rolls-Infinity p)
reads_first (a_name p name) = first (Expr-F.Name p name) (tree.rolls-Name p name)
reads_first (an_item p q r name {index = index} d) = first (Expr-F.Item p name index) (tree.rolls-Item p name index)
reads_first (a_bare_call p q r name) = first (Expr-F.Call p name []) (tree.rolls-Call p name [])
reads_first (a_call p q r name {given = given} d) = first (Expr-F.Call p name given) (tree.rolls-Call p name given)
reads_first (a_function p q r w {given = given} h d) = first (Expr-F.Func p w given) (tree.rolls-Func p w given)
reads_first (a_projection p q r s {set = set} {positions = positions} d e) = first (Expr-F.Proj p set positions) (tree.rolls-Proj p set positions)
reads_first (in_parentheses p q {inner = inner} d) = first (Expr-F.Paren p inner) (tree.rolls-Paren p inner)
reads_first (in_braces p q {inside = inside} d) = first (Expr-F.Braces p inside) (tree.rolls-Braces p inside)
reads_first (an_if p q r vif {test = test} {branch = branch} d e) = first (Expr-F.If p vif test branch None) (tree.rolls-If p vif test branch None)
reads_first (an_if_with_else p q r s vif {test = test} {branch = branch} {otherwise = otherwise} d e f) =
    first (Expr-F.If p vif test branch (Some otherwise)) (tree.rolls-If p vif test branch (Some otherwise))
reads_first (a_postfix marks {ts = ts} {operand = operand} d) = begins-append ts (exclamations marks) _ (reads_first d) ∙ factorial-first operand marks
reads_first (no_power d) = reads_first d
reads_first (a_power p sign signed {ts = ts} {base = base} {exponent = exponent} h d e) =
    begins-append ts _ _ (reads_first d) ∙ first (Expr-F.Power p sign base signed exponent) (tree.rolls-Power p sign base signed exponent)
reads_first (no_sign d) = reads_first d
reads_first (a_sign p minus {operand = operand} d) = first (Expr-F.Signed p minus operand) (tree.rolls-Signed p minus operand)
reads_first (a_big p q w with_do {index = index} {operand = operand} h d e) = first (Expr-F.Big p w index with_do operand) (tree.rolls-Big p w index with_do operand)
reads_first (no_loop_sign d) = reads_first d
reads_first (a_loop_sign p minus {operand = operand} d) = first (Expr-F.Signed p minus operand) (tree.rolls-Signed p minus operand)
reads_first (a_product d) = reads_first d
reads_first (a_loop d) = reads_first d
reads_first (a_product_with_loop p token {ts = ts} {first = operand} {last = last} h d e) =
    begins-append ts _ _ (reads_first d) ∙ first (Expr-F.Times operand ((p, token, last) ∷ [])) (tree.rolls-Times operand ((p, token, last) ∷ []))
reads_first (a_chain chain {ts = ts} {us = us} {first = operand} {others = others} h d e) = begins-append ts us _ (reads_first d) ∙ joined-first chain operand others
reads_first (a_member p {ts = ts} {tuple = tuple} {set = set} d e) =
    begins-append ts _ _ (tuple_first d) ∙ first (Expr-F.Member p tuple set) (tree.rolls-Member p tuple set)
reads_first (no_not d) = reads_first d
reads_first (a_not p {operand = operand} d) = first (Expr-F.Not p operand) (tree.rolls-Not p operand)
reads_first (no_forall d) = reads_first d
reads_first (a_forall p q with_do {index = index} {inside = inside} d e) = first (Expr-F.Forall p index with_do inside) (tree.rolls-Forall p index with_do inside)
