-- An expression that is made of its parts: each node has what its rule names, and each part is made of its parts in turn.
-- Unlike a derivation this names neither levels nor the tokens that are read, so a property of all tight trees is shown by recursion on it.
use Rattle.std.specs.Prelude.{ℕ, ◌≡◌, List, [], ◌∷◌, Bool, true, Option, Some, None}
use Rattle.zim_fault.specs.declared.faults.Place.{Place}
use Rattle.zim_fault.specs.declared.tokens.Token.{Token}
use Rattle.zim_fault.specs.declared.tokens.Relation.{Relation}
use Rattle.zim_fault.specs.declared.signs.Sign.{Sign}
use Rattle.zim_fault.specs.declared.words.Word.{Word}
use Rattle.zim_tree.specs.declared.expr.Expr.{Expr}
use Rattle.zim_tree.specs.declared.expr.Expr.TheVariants as tree
use Rattle.zim_tree.specs.declared.expr.Angle.{Angle}
use Rattle.zim_tree.specs.declared.expr.Index.{Index}
use Rattle.zim_tree.specs.declared.expr.Body.{Body}
use Rattle.zim_tree.specs.declared.expr.Body.TheVariants as body
use Rattle.zim_tree.specs.declared.classes.Class.TheVariants as class
use Rattle.zim_tree.specs.Trees.{angle_of, index_of}
use Rattle.zim_tree.specs.Classes.{token_class, word_class, sign_class}
use Rattle.zim_tree.specs.Levels.{Chain, products, sums, joins, Operands, is_function, is_loop}

mutual
  -- an expression that is made of its parts
  pub data Made : Expr → Type 0 where
    made_number : (p : Place) (digits : List ℕ) → Made (tree.Number p digits)
    made_text : (p : Place) (text : List ℕ) (double : Bool) → Made (tree.Text p text double)
    made_truth : (p : Place) (truth : Bool) → Made (tree.Truth p truth)
    made_infinity : (p : Place) → Made (tree.Infinity p)
    made_name : (p : Place) (name : List ℕ) → Made (tree.Name p name)
    made_item : (p : Place) (name : List ℕ) {first : Expr} {others : List Expr} → MadeAll (first ∷ others) → Made (tree.Item p name (first ∷ others))
    made_call : (p : Place) (name : List ℕ) {given : List Expr} → MadeAll given → Made (tree.Call p name given)
    made_function : (p : Place) (word : Word) {first : Expr} {others : List Expr} → is_function (word_class word) ≡ true →
        MadeAll (first ∷ others) → Made (tree.Func p word (first ∷ others))
    made_projection : (p : Place) {set : Expr} {positions : Angle} → Made set → MadeTuple positions → Made (tree.Proj p set positions)
    made_parentheses : (p : Place) {inner : Expr} → Made inner → Made (tree.Paren p inner)
    made_braces : (p : Place) {inside : Body} → MadeBody inside → Made (tree.Braces p inside)
    made_if : (p : Place) (vif : Bool) {test branch : Expr} → Made test → Made branch → Made (tree.If p vif test branch None)
    made_if_with_else : (p : Place) (vif : Bool) {test branch otherwise : Expr} → Made test → Made branch → Made otherwise →
        Made (tree.If p vif test branch (Some otherwise))
    made_factorial : (mark : Place) (marks : List Place) {operand : Expr} → Made operand → Made (tree.Factorial operand (mark ∷ marks))
    made_power : (p : Place) (sign : Sign) (signed : Option (Place × Bool)) {base exponent : Expr} → sign_class sign ≡ class.Power →
        Made base → Made exponent → Made (tree.Power p sign base signed exponent)
    made_signed : (p : Place) (minus : Bool) {operand : Expr} → Made operand → Made (tree.Signed p minus operand)
    made_big : (p : Place) (word : Word) (with_do : Bool) {index : Index} {operand : Expr} → is_loop (word_class word) ≡ true →
        MadeIndex index → Made operand → Made (tree.Big p word index with_do operand)
    made_product : {first : Expr} {other : Place × Token × Expr} {others : Operands} →
        Made first → MadeOperands products (other ∷ others) → Made (tree.Times first (other ∷ others))
    made_sum : {first : Expr} {other : Place × Token × Expr} {others : Operands} →
        Made first → MadeOperands sums (other ∷ others) → Made (tree.Plus first (other ∷ others))
    made_comparison : (p : Place) (relation : Relation) {left right : Expr} → Made left → Made right →
        Made (tree.Compare left ((p, relation, right) ∷ []))
    made_double_comparison : (p q : Place) (lower upper : Relation) {left middle right : Expr} → Made left → Made middle → Made right →
        Made (tree.Compare left ((p, lower, middle) ∷ ((q, upper, right) ∷ [])))
    made_member : (p : Place) {tuple : Angle} {set : Expr} → MadeTuple tuple → Made set → Made (tree.Member p tuple set)
    made_not : (p : Place) {operand : Expr} → Made operand → Made (tree.Not p operand)
    made_and : {first : Expr} {other : Place × Expr} {others : List (Place × Expr)} →
        Made first → MadeConjuncts (other ∷ others) → Made (tree.And first (other ∷ others))
    made_or : {first : Expr} {other : Place × Bool × Expr} {others : List (Place × Bool × Expr)} →
        Made first → MadeDisjuncts (other ∷ others) → Made (tree.Or first (other ∷ others))
    made_forall : (p : Place) (with_do : Bool) {index : Index} {inside : Expr} → MadeIndex index → Made inside → Made (tree.Forall p index with_do inside)

  -- each of these expressions is made of its parts
  pub data MadeAll : List Expr → Type 0 where
    made_none : MadeAll []
    made_one : {item : Expr} {items : List Expr} → Made item → MadeAll items → MadeAll (item ∷ items)

  -- each of these operands is made of its parts, and the token before it is an operator of this list
  pub data MadeOperands : Chain → Operands → Type 0 where
    made_no_operand : {chain : Chain} → MadeOperands chain []
    made_one_operand : {chain : Chain} (p : Place) (token : Token) {operand : Expr} {others : Operands} → joins chain (token_class token) ≡ true →
        Made operand → MadeOperands chain others → MadeOperands chain ((p, token, operand) ∷ others)

  -- each of these operands behind `and` is made of its parts
  pub data MadeConjuncts : List (Place × Expr) → Type 0 where
    made_no_conjunct : MadeConjuncts []
    made_one_conjunct : (p : Place) {operand : Expr} {others : List (Place × Expr)} → Made operand → MadeConjuncts others →
        MadeConjuncts ((p, operand) ∷ others)

  -- each of these operands behind `or` and `xor` is made of its parts
  pub data MadeDisjuncts : List (Place × Bool × Expr) → Type 0 where
    made_no_disjunct : MadeDisjuncts []
    made_one_disjunct : (p : Place) (xor : Bool) {operand : Expr} {others : List (Place × Bool × Expr)} → Made operand → MadeDisjuncts others →
        MadeDisjuncts ((p, xor, operand) ∷ others)

  -- a tuple that has an item at least, and whose items are made of their parts
  pub data MadeTuple : Angle → Type 0 where
    made_tuple : (p : Place) {first : Expr} {others : List Expr} → MadeAll (first ∷ others) → MadeTuple (angle_of p (first ∷ others))

  -- each of these tuples is made of its parts
  pub data MadeTuples : List Angle → Type 0 where
    made_no_tuple : MadeTuples []
    made_one_tuple : {tuple : Angle} {tuples : List Angle} → MadeTuple tuple → MadeTuples tuples → MadeTuples (tuple ∷ tuples)

  -- an index that is made of its parts
  pub data MadeIndex : Index → Type 0 where
    made_index : (p : Place) {tuple : Angle} {set : Expr} → MadeTuple tuple → Made set → MadeIndex (index_of p tuple set None)
    made_index_with : (p : Place) (bar : Bool) {tuple : Angle} {set cond : Expr} → MadeTuple tuple → Made set → Made cond →
        MadeIndex (index_of p tuple set (Some (bar, cond)))

  -- what stands in braces and is made of its parts
  pub data MadeBody : Body → Type 0 where
    made_empty : MadeBody body.Empty
    made_members : {first : Expr} {others : List Expr} → MadeAll (first ∷ others) → MadeBody (body.Members (first ∷ others))
    made_tuples : {first : Angle} {others : List Angle} → MadeTuples (first ∷ others) → MadeBody (body.Tuples (first ∷ others))
    made_choices : {index : Index} → MadeIndex index → MadeBody (body.Those index)
    made_span : (with_to : Bool) {from to : Expr} → Made from → Made to → MadeBody (body.Span from with_to to None)
    made_span_by : (with_to : Bool) {from to by : Expr} → Made from → Made to → Made by → MadeBody (body.Span from with_to to (Some by))
