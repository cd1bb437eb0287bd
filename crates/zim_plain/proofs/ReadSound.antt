-- What is read off a tree is a statement whose tree it is.
use Rattle.std.proofs.Common.{◌≡◌, Bool, true, false, List, [], ◌∷◌, map, Option, Some, None, refl, sym, ap, ap₂, ◌∙◌}
use Rattle.std.specs.Prelude.{if◌then◌else◌}
use Rattle.std.proofs.lemmas.Option.{none-some, same_Some}
use Rattle.zim_fault.specs.declared.faults.Place.{Place}
use Rattle.zim_fault.specs.declared.signs.Sign.TheVariants.{SPlus, SMinus, SStar, SSlash}
use Rattle.zim_fault.specs.declared.tokens.Token.{Token}
use Rattle.zim_fault.specs.declared.tokens.Token.TheVariants as token
use Rattle.zim_fault.specs.declared.tokens.Relation.{Relation}
use Rattle.zim_fault.specs.declared.tokens.Relation.TheVariants as relation
use Rattle.zim_tree.specs.declared.expr.Expr.{Expr, Expr-F, out-Expr, roll-Expr, roll-out-Expr}
use Rattle.zim_tree.specs.declared.expr.Expr.TheVariants as tree
use Rattle.zim_tree.specs.declared.stmt.Stmt.{Stmt}
use Rattle.zim_tree.specs.declared.stmt.Shape.{Shape}
use Rattle.zim_tree.specs.declared.stmt.Shape.TheVariants as shape
use Rattle.zim_tree.specs.Levels.{Operands, sums, joined}
use Rattle.zim_rows.specs.declared.rows.Sense.{Sense}
use Rattle.zim_rows.specs.declared.rows.Sense.TheVariants.{AtMost, AtLeast, Equal}
use Rattle.zim_plain.specs.Statements.{WrittenText, Literal, Item, Constant, Multiple, SignAt, Further, Sum, Head, Statement, Variable, Objective, Constraint}
use Rattle.zim_plain.specs.Trees.{tree_of_literal, with_sign, tree_of_item, operand_of_further, tree_of_sum, relation_of_sense, headed, tree_of}
use Rattle.zim_plain.specs.Reading.{◌>>=◌, Layer, literal_in, named_layer, signed_in, operand_in, item_in, sum_in, constraint_in, quotient_of, multiple, behind_one, behind_two, read_literal, read_as_name, read_signed, read_product, read_operand, operand_item, product_item, read_item, read_sign, unsigned, read_further, read_others, sum_of_items, read_sum, read_sense, read_constraint, read_goal, shape_of, read_statement}

-- what was read first, and what was read behind it
record Then {A B : Type 0} (o : Option A) (next : A → Option B) (b : B) : Type 0 where
  pub first : A
  pub was : o ≡ Some first
  pub gave : next first ≡ Some b

then_parts : {A B : Type 0} (o : Option A) (next : A → Option B) (b : B) → (o >>= next) ≡ Some b → Then o next b
then_parts None next b e = absurd (none-some b e)
then_parts (Some a) next b e = record { first = a; was = refl; gave = e }

-- ---- operands

literal_layer : (d : Layer) (literal : Literal) → literal_in d ≡ Some literal → roll-Expr d ≡ tree_of_literal literal
literal_layer (Expr-F.Number place text) literal e = tree.rolls-Number place text ∙ ap tree_of_literal (same_Some (record { place = place; text = text }) literal e)
literal_layer _ literal e = cc

literal_sound : (e : Expr) (literal : Literal) → read_literal e ≡ Some literal → tree_of_literal literal ≡ e
unfolding read_literal
literal_sound e literal h = sym (literal_layer (out-Expr e) literal h) ∙ roll-out-Expr e

name_layer : (d : Layer) (name : Place × WrittenText) → named_layer d ≡ Some name → roll-Expr d ≡ tree.Name name.0 name.1
name_layer (Expr-F.Name place text) name e = tree.rolls-Name place text ∙ ap (λ (n : Place × WrittenText). tree.Name n.0 n.1) (same_Some (place, text) name e)
name_layer _ name e = cc

name_sound : (e : Expr) (name : Place × WrittenText) → read_as_name e ≡ Some name → tree.Name name.0 name.1 ≡ e
unfolding read_as_name
name_sound e name h = sym (name_layer (out-Expr e) name h) ∙ roll-out-Expr e

-- a sign and what stands behind it
abbrev signed_tree : Option SignAt × Expr → Expr
signed_tree signed = with_sign signed.0 signed.1

signed_layer : (e : Expr) (d : Layer) → roll-Expr d ≡ e → signed_tree (signed_in e d) ≡ e
signed_layer e (Expr-F.Signed place negative operand) h = sym (tree.rolls-Signed place negative operand) ∙ h
signed_layer e _ h = refl

signed_sound : (e : Expr) → signed_tree (read_signed e) ≡ e
unfolding read_signed
signed_sound e = signed_layer e (out-Expr e) (roll-out-Expr e)

operand_layer : (d : Layer) (item : Item) → operand_in d ≡ Some item → roll-Expr d ≡ tree_of_item None item
operand_layer (Expr-F.Number place text) item e = tree.rolls-Number place text ∙ ap (tree_of_item None) (same_Some (Constant (record { number = record { place = place; text = text }; divisor = None })) item e)
operand_layer (Expr-F.Name place name) item e = tree.rolls-Name place name ∙ ap (tree_of_item None) (same_Some (Multiple None place name) item e)
operand_layer _ item e = cc

-- the item of one operand has its sign before it
signed_operand : (d : Layer) (sign : Option SignAt) (item : Item) → operand_in d ≡ Some item → tree_of_item sign item ≡ with_sign sign (tree_of_item None item)
signed_operand (Expr-F.Number place text) sign item e =
    let same = same_Some (Constant (record { number = record { place = place; text = text }; divisor = None })) item e in
    sym (ap (tree_of_item sign) same) ∙ ap (λ (i : Item). with_sign sign (tree_of_item None i)) same
signed_operand (Expr-F.Name place name) sign item e =
    let same = same_Some (Multiple None place name) item e in
    sym (ap (tree_of_item sign) same) ∙ ap (λ (i : Item). with_sign sign (tree_of_item None i)) same
signed_operand _ sign item e = cc

operand_sound : (e : Expr) (sign : Option SignAt) (item : Item) → read_operand e ≡ Some item → tree_of_item sign item ≡ with_sign sign e
unfolding read_operand
operand_sound e sign item h = signed_operand (out-Expr e) sign item h ∙ ap (with_sign sign) (sym (operand_layer (out-Expr e) item h) ∙ roll-out-Expr e)

-- ---- products

-- a number with operands behind it
abbrev product_tree : Option SignAt → Literal → Operands → Expr
product_tree sign number others = tree.Times (with_sign sign (tree_of_literal number)) others

one_sound : (sign : Option SignAt) (number : Literal) (place : Place) (operator : Token) (operand : Expr) (item : Item) → behind_one number place operator operand ≡ Some item → tree_of_item sign item ≡ product_tree sign number ((place, operator, operand) ∷ [])
one_sound sign number slash (token.Sign SSlash) divisor item h =
    let t = then_parts (read_literal divisor) (λ (l : Literal). Some (Constant (quotient_of number slash l))) item h in
    sym (ap (tree_of_item sign) (same_Some (Constant (quotient_of number slash t.first)) item t.gave))
    ∙ ap (λ (d : Expr). product_tree sign number ((slash, token.Sign SSlash, d) ∷ [])) (literal_sound divisor t.first t.was)
one_sound sign number star (token.Sign SStar) operand item h =
    let t = then_parts (read_as_name operand) (λ (n : Place × WrittenText). Some (multiple (record { number = number; divisor = None }) star n)) item h in
    sym (ap (tree_of_item sign) (same_Some (multiple (record { number = number; divisor = None }) star t.first) item t.gave))
    ∙ ap (λ (d : Expr). product_tree sign number ((star, token.Sign SStar, d) ∷ [])) (name_sound operand t.first t.was)
one_sound sign number place _ operand item h = cc

two_sound : (sign : Option SignAt) (number : Literal) (slash : Place) (before : Token) (divisor : Expr) (star : Place) (behind : Token) (operand : Expr) (item : Item) → behind_two number slash before divisor star behind operand ≡ Some item → tree_of_item sign item ≡ product_tree sign number ((slash, before, divisor) ∷ (star, behind, operand) ∷ [])
two_sound sign number slash (token.Sign SSlash) divisor star (token.Sign SStar) operand item h =
    let t = then_parts (read_literal divisor) (λ (l : Literal). read_as_name operand >>= (λ (n : Place × WrittenText). Some (multiple (quotient_of number slash l) star n))) item h in
    let u = then_parts (read_as_name operand) (λ (n : Place × WrittenText). Some (multiple (quotient_of number slash t.first) star n)) item t.gave in
    sym (ap (tree_of_item sign) (same_Some (multiple (quotient_of number slash t.first) star u.first) item u.gave))
    ∙ ap₂ (λ (d o : Expr). product_tree sign number ((slash, token.Sign SSlash, d) ∷ (star, token.Sign SStar, o) ∷ [])) (literal_sound divisor t.first t.was) (name_sound operand u.first u.was)
two_sound sign number slash _ divisor star _ operand item h = cc

product_sound : (sign : Option SignAt) (number : Literal) (others : Operands) (item : Item) → read_product number others ≡ Some item → tree_of_item sign item ≡ product_tree sign number others
unfolding read_product
product_sound sign number [] item h = cc
product_sound sign number ((place, operator, operand) ∷ []) item h = one_sound sign number place operator operand item h
product_sound sign number ((slash, before, divisor) ∷ (star, behind, operand) ∷ []) item h = two_sound sign number slash before divisor star behind operand item h
product_sound sign number (x ∷ y ∷ z ∷ others) item h = cc

-- ---- items

abbrev item_tree : Option SignAt × Item → Expr
item_tree found = tree_of_item found.0 found.1

single_sound : (e : Expr) (found : Option SignAt × Item) → operand_item (read_signed e) ≡ Some found → item_tree found ≡ e
single_sound e found h =
    let t = then_parts (read_operand (read_signed e).1) (λ (i : Item). Some ((read_signed e).0, i)) found h in
    sym (ap item_tree (same_Some ((read_signed e).0, t.first) found t.gave))
    ∙ operand_sound (read_signed e).1 (read_signed e).0 t.first t.was ∙ signed_sound e

times_sound : (first : Expr) (others : Operands) (found : Option SignAt × Item) → product_item (read_signed first) others ≡ Some found → item_tree found ≡ tree.Times first others
times_sound first others found h =
    let s = read_signed first in
    let t = then_parts (read_literal s.1) (λ (l : Literal). read_product l others >>= (λ (i : Item). Some (s.0, i))) found h in
    let u = then_parts (read_product t.first others) (λ (i : Item). Some (s.0, i)) found t.gave in
    sym (ap item_tree (same_Some (s.0, u.first) found u.gave))
    ∙ product_sound s.0 t.first others u.first u.was
    ∙ ap (λ (f : Expr). tree.Times f others) (ap (with_sign s.0) (literal_sound s.1 t.first t.was) ∙ signed_sound first)

item_layer : (e : Expr) (d : Layer) (found : Option SignAt × Item) → roll-Expr d ≡ e → item_in e d ≡ Some found → item_tree found ≡ e
item_layer e (Expr-F.Times first others) found is h = times_sound first others found h ∙ (sym (tree.rolls-Times first others) ∙ is)
item_layer e _ found is h = single_sound e found h

item_sound : (e : Expr) (found : Option SignAt × Item) → read_item e ≡ Some found → item_tree found ≡ e
unfolding read_item
item_sound e found h = item_layer e (out-Expr e) found (roll-out-Expr e) h

-- ---- lists

-- an operator of a list
abbrev operator_of : SignAt → Place × Token
operator_of sign = (sign.place, token.Sign (if sign.negative then SMinus else SPlus))

sign_sound : (place : Place) (operator : Token) (sign : SignAt) → read_sign place operator ≡ Some sign → operator_of sign ≡ (place, operator)
unfolding read_sign
sign_sound place (token.Sign SPlus) sign h = sym (ap operator_of (same_Some (record { place = place; negative = false }) sign h))
sign_sound place (token.Sign SMinus) sign h = sym (ap operator_of (same_Some (record { place = place; negative = true }) sign h))
sign_sound place _ sign h = cc

unsigned_sound : (found : Option SignAt × Item) (item : Item) → unsigned found ≡ Some item → found ≡ (None, item)
unsigned_sound (None, i) item h = ap (λ (j : Item). (None, j)) (same_Some i item h)
unsigned_sound (Some sign, i) item h = cc

further_sound : (x : Place × Token × Expr) (further : Further) → read_further x ≡ Some further → operand_of_further further ≡ x
unfolding read_further
further_sound x further h =
    let t = then_parts (read_sign x.0 x.1) (λ (s : SignAt). read_item x.2 >>= (λ (f : Option SignAt × Item). unsigned f >>= (λ (i : Item). Some (record { sign = s; item = i })))) further h in
    let u = then_parts (read_item x.2) (λ (f : Option SignAt × Item). unsigned f >>= (λ (i : Item). Some (record { sign = t.first; item = i }))) further t.gave in
    let v = then_parts (unsigned u.first) (λ (i : Item). Some (record { sign = t.first; item = i })) further u.gave in
    let operand : tree_of_item None v.first ≡ x.2 = sym (ap item_tree (unsigned_sound u.first v.first v.was)) ∙ item_sound x.2 u.first u.was in
    sym (ap operand_of_further (same_Some (record { sign = t.first; item = v.first }) further v.gave))
    ∙ ap₂ (λ (o : Place × Token) (e : Expr). (o.0, o.1, e)) (sign_sound x.0 x.1 t.first t.was) operand

others_sound : (xs : Operands) (others : List Further) → read_others xs ≡ Some others → map operand_of_further others ≡ xs
unfolding read_others
others_sound [] others h = sym (ap (map operand_of_further) (same_Some [] others h))
others_sound (x ∷ xs) others h =
    let t = then_parts (read_further x) (λ (f : Further). read_others xs >>= (λ (fs : List Further). Some (f ∷ fs))) others h in
    let u = then_parts (read_others xs) (λ (fs : List Further). Some (t.first ∷ fs)) others t.gave in
    sym (ap (map operand_of_further) (same_Some (t.first ∷ u.first) others u.gave))
    ∙ ap₂ (λ (y : Place × Token × Expr) (ys : Operands). y ∷ ys) (further_sound x t.first t.was) (others_sound xs u.first u.was)

alone_sound : (e : Expr) (sum : Sum) → (read_item e >>= (λ (i : Option SignAt × Item). Some (sum_of_items i []))) ≡ Some sum → tree_of_sum sum ≡ e
alone_sound e sum h =
    let t = then_parts (read_item e) (λ (i : Option SignAt × Item). Some (sum_of_items i [])) sum h in
    sym (ap tree_of_sum (same_Some (sum_of_items t.first []) sum t.gave)) ∙ item_sound e t.first t.was

sum_layer : (e : Expr) (d : Layer) (sum : Sum) → roll-Expr d ≡ e → sum_in e d ≡ Some sum → tree_of_sum sum ≡ e
sum_layer e (Expr-F.Plus first []) sum is h = cc
sum_layer e (Expr-F.Plus first (x ∷ rest)) sum is h =
    let t = then_parts (read_item first) (λ (i : Option SignAt × Item). read_others (x ∷ rest) >>= (λ (fs : List Further). Some (sum_of_items i fs))) sum h in
    let u = then_parts (read_others (x ∷ rest)) (λ (fs : List Further). Some (sum_of_items t.first fs)) sum t.gave in
    sym (ap tree_of_sum (same_Some (sum_of_items t.first u.first) sum u.gave))
    ∙ ap₂ (λ (f : Expr) (os : Operands). joined sums f os) (item_sound first t.first t.was) (others_sound (x ∷ rest) u.first u.was)
    ∙ (sym (tree.rolls-Plus first (x ∷ rest)) ∙ is)
sum_layer e _ sum is h = alone_sound e sum h

sum_sound : (e : Expr) (sum : Sum) → read_sum e ≡ Some sum → tree_of_sum sum ≡ e
unfolding read_sum
sum_sound e sum h = sum_layer e (out-Expr e) sum (roll-out-Expr e) h

-- ---- statements

sense_sound : (relation : Relation) (sense : Sense) → read_sense relation ≡ Some sense → relation_of_sense sense ≡ relation
unfolding read_sense
sense_sound relation.AtMost sense h = sym (ap relation_of_sense (same_Some AtMost sense h))
sense_sound relation.AtLeast sense h = sym (ap relation_of_sense (same_Some AtLeast sense h))
sense_sound relation.EqualTo sense h = sym (ap relation_of_sense (same_Some Equal sense h))
sense_sound _ sense h = cc

-- the statement's tree is that of its first word and name, with this shape
abbrev HasTree : Head → Statement → Shape → Type 0
HasTree head statement what = tree_of statement ≡ headed head what

compare_sound : (head : Head) (left : Expr) (at : Place) (relation : Relation) (right : Expr) (statement : Statement) →
    (read_sum left >>= (λ (l : Sum). read_sense relation >>= (λ (s : Sense). read_sum right >>= (λ (r : Sum). Some (Constraint head l s at r))))) ≡ Some statement →
    HasTree head statement (shape.Subto (tree.Compare left ((at, relation, right) ∷ [])))
compare_sound head left at relation right statement h =
    let t = then_parts (read_sum left) (λ (l : Sum). read_sense relation >>= (λ (s : Sense). read_sum right >>= (λ (r : Sum). Some (Constraint head l s at r)))) statement h in
    let u = then_parts (read_sense relation) (λ (s : Sense). read_sum right >>= (λ (r : Sum). Some (Constraint head t.first s at r))) statement t.gave in
    let v = then_parts (read_sum right) (λ (r : Sum). Some (Constraint head t.first u.first at r)) statement u.gave in
    sym (ap tree_of (same_Some (Constraint head t.first u.first at v.first) statement v.gave))
    ∙ ap₂ (λ (l r : Expr). headed head (shape.Subto (tree.Compare l ((at, relation_of_sense u.first, r) ∷ [])))) (sum_sound left t.first t.was) (sum_sound right v.first v.was)
    ∙ ap (λ (s : Relation). headed head (shape.Subto (tree.Compare left ((at, s, right) ∷ [])))) (sense_sound relation u.first u.was)

constraint_layer : (head : Head) (d : Layer) (statement : Statement) → constraint_in head d ≡ Some statement → HasTree head statement (shape.Subto (roll-Expr d))
constraint_layer head (Expr-F.Compare left []) statement h = cc
constraint_layer head (Expr-F.Compare left ((at, relation, right) ∷ [])) statement h =
    compare_sound head left at relation right statement h ∙ ap (λ (e : Expr). headed head (shape.Subto e)) (sym (tree.rolls-Compare left ((at, relation, right) ∷ [])))
constraint_layer head (Expr-F.Compare left (x ∷ y ∷ rest)) statement h = cc
constraint_layer head _ statement h = cc

constraint_sound : (head : Head) (e : Expr) (statement : Statement) → read_constraint head e ≡ Some statement → HasTree head statement (shape.Subto e)
unfolding read_constraint
constraint_sound head e statement h = constraint_layer head (out-Expr e) statement h ∙ ap (λ (x : Expr). headed head (shape.Subto x)) (roll-out-Expr e)

objective_sound : (maximize : Bool) (head : Head) (e : Expr) (statement : Statement) → read_goal maximize head e ≡ Some statement → HasTree head statement (shape.Goal maximize e)
unfolding read_goal
objective_sound maximize head e statement h =
    let t = then_parts (read_sum e) (λ (s : Sum). Some (Objective maximize head s)) statement h in
    sym (ap tree_of (same_Some (Objective maximize head t.first) statement t.gave))
    ∙ ap (λ (x : Expr). headed head (shape.Goal maximize x)) (sum_sound e t.first t.was)

shape_sound : (head : Head) (what : Shape) (statement : Statement) → shape_of head what ≡ Some statement → HasTree head statement what
shape_sound head (shape.Var None None [] None None) statement h = sym (ap tree_of (same_Some (Variable head) statement h))
shape_sound head (shape.Goal maximize objective) statement h = objective_sound maximize head objective statement h
shape_sound head (shape.Subto condition) statement h = constraint_sound head condition statement h
shape_sound head _ statement h = cc

-- the tree of the statement that was read off a tree is that tree
pub statement_sound : (stmt : Stmt) (statement : Statement) → read_statement stmt ≡ Some statement → tree_of statement ≡ stmt
unfolding read_statement
statement_sound stmt statement h = shape_sound (record { word = stmt.first; at = stmt.at; name = stmt.name }) stmt.shape statement h
