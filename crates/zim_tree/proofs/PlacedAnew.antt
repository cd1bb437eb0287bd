-- Tokens that have a derivation have one at any other places.
use Rattle.std.proofs.Common.{◌≡◌, ℕ, suc, Bool, true, false, List, [], ◌∷◌, ◌++◌, map, length, Option, Some, None, refl, sym, ap, subst, true≢false}
use Rattle.zim_fault.specs.declared.faults.Place.{Place}
use Rattle.zim_fault.specs.declared.tokens.Token.{Token}
use Rattle.zim_fault.specs.declared.tokens.Token.TheVariants.{Sign as sign_token}
use Rattle.zim_fault.specs.declared.tokens.Placed.{Placed}
use Rattle.zim_fault.specs.declared.signs.Sign.{Sign}
use Rattle.zim_fault.specs.declared.signs.Sign.TheVariants.{SComma}
use Rattle.zim_tree.specs.declared.expr.Expr.{Expr}
use Rattle.zim_tree.specs.declared.expr.Angle.{Angle}
use Rattle.zim_tree.specs.declared.expr.Index.{Index}
use Rattle.zim_tree.specs.declared.expr.Body.{Body}
use Rattle.zim_tree.specs.declared.classes.Class.TheVariants as class
use Rattle.zim_tree.specs.Classes.{token_class, sign_class}
use Rattle.zim_tree.specs.Levels.{Level, primary, postfix, power, Chain, level_of, operand_of, joins, Limits, Operands, placed, exclamations, exponent_sign}
use Rattle.zim_tree.specs.Grammar.{Reads, ReadsOperands, ReadsList, ReadsTuple, ReadsTuples, ReadsIndex, ReadsBody, a_number, a_text, a_truth, an_infinity, a_name, an_item, a_bare_call, a_call, a_function, a_projection, in_parentheses, in_braces, an_if, an_if_with_else, a_postfix, no_power, a_power, no_sign, a_sign, a_big, no_loop_sign, a_loop_sign, a_product, a_loop, a_product_with_loop, a_chain, a_member, no_not, a_not, no_forall, a_forall, no_operand, an_operand, the_last, one_more, a_tuple, the_last_tuple, one_more_tuple, an_index, an_index_with, nothing, the_members, the_tuples, the_choices, a_span, a_span_by}
use Rattle.zim_tree.specs.Plain.{nowhere}
use Rattle.zim_tree.proofs.DerivationSpellingLaws.{tokens}

-- the first of some places
abbrev pub next_place : List Place → Place
next_place [] = nowhere
next_place (p ∷ ps) = p

-- the places behind the first
abbrev pub later_places : List Place → List Place
later_places [] = []
later_places (p ∷ ps) = ps

-- the tokens at these places, one after the other
abbrev pub at_places : List Place → List Placed → List Placed
at_places ps [] = []
at_places ps (t ∷ ts) = placed (next_place ps) t.token ∷ at_places (later_places ps) ts

-- the places that are left behind the tokens
abbrev pub left_places : List Place → List Placed → List Place
left_places ps [] = ps
left_places ps (t ∷ ts) = left_places (later_places ps) ts

pub at_places-append : (ps : List Place) (ts us : List Placed) → at_places ps (ts ++ us) ≡ at_places ps ts ++ at_places (left_places ps ts) us
at_places-append ps [] us = refl
at_places-append ps (t ∷ ts) us = ap (λ (l : List Placed). placed (next_place ps) t.token ∷ l) (at_places-append (later_places ps) ts us)

-- the first of some tokens
head_of : Token → List Token → Token
head_of token [] = token
head_of token (t ∷ ts) = t

-- the tokens behind the first
tail_of : List Token → List Token
tail_of [] = []
tail_of (t ∷ ts) = ts

-- whether there is a token
some_token : List Token → Bool
some_token [] = false
some_token (t ∷ ts) = true

no_token : (t : Token) (ts : List Token) → [] ≡ t ∷ ts → ⊥
unfolding some_token
no_token t ts h = true≢false (sym (ap some_token h))

same_head : (t u : Token) (ts us : List Token) → t ∷ ts ≡ u ∷ us → t ≡ u
unfolding head_of
same_head t u ts us h = ap (head_of t) h

same_tail : (t u : Token) (ts us : List Token) → t ∷ ts ≡ u ∷ us → ts ≡ us
unfolding tail_of
same_tail t u ts us h = ap tail_of h

-- the places of some tokens
abbrev pub places : List Placed → List Place
places = map (λ (t : Placed). t.place)

-- tokens at the places of others that are the same tokens are these
pub at_their_places : (ts us : List Placed) → tokens us ≡ tokens ts → at_places (places ts) us ≡ ts
at_their_places [] [] h = refl
at_their_places [] (u ∷ us) h = absurd (no_token u.token (tokens us) (sym h))
at_their_places (t ∷ ts) [] h = absurd (no_token t.token (tokens ts) h)
at_their_places (t ∷ ts) (u ∷ us) h =
    rw (at_their_places ts us (same_tail u.token t.token (tokens us) (tokens ts) h))
    (ap (λ (token : Token). placed t.place token ∷ ts) (same_head u.token t.token (tokens us) (tokens ts) h))

-- some tree of a level that the tokens are
abbrev pub SomeTree : Level → List Placed → Type 0
SomeTree level ts = (e : Expr) × Reads level ts e

pub found : {level : Level} {ts : List Placed} {e : Expr} → Reads level ts e → SomeTree level ts
found {e = e} d = (e, d)

-- as many operators, each with an operand behind it
abbrev SomeOperands : Chain → List Placed → ℕ → Type 0
SomeOperands chain ts count = (others : Operands) × ReadsOperands chain ts others × (length others ≡ count)

-- as many expressions
abbrev pub SomeList : Level → List Placed → ℕ → Type 0
SomeList level ts count = (items : List Expr) × ReadsList level ts items × (length items ≡ count)

-- some tuple
abbrev pub SomeTuple : List Placed → Type 0
SomeTuple ts = (tuple : Angle) × ReadsTuple ts tuple

-- some tuples
abbrev SomeTuples : List Placed → Type 0
SomeTuples ts = (tuples : List Angle) × ReadsTuples ts tuples

-- some index
abbrev pub SomeIndex : List Placed → Type 0
SomeIndex ts = (index : Index) × ReadsIndex ts index

-- something that stands in braces
abbrev SomeBody : List Placed → Type 0
SomeBody ts = (inside : Body) × ReadsBody ts inside

marks_anew : (ps : List Place) (marks : List Place) → (new : List Place) × (at_places ps (exclamations marks) ≡ exclamations new)
marks_anew ps [] = ([], refl)
marks_anew ps (p ∷ marks) =
    let later = marks_anew (later_places ps) marks in
    (next_place ps ∷ later.0, rw later.1 refl)

postfix_anew : {ts us : List Placed} {operand : Expr} → Reads primary ts operand → (new : List Place) × (us ≡ exclamations new) → SomeTree postfix (ts ++ us)
postfix_anew {ts = ts} d marks = subst (λ (vs : List Placed). SomeTree postfix (ts ++ vs)) (sym marks.1) (found (a_postfix marks.0 d))

exponent_anew : (ps : List Place) (signed : Option (Place × Bool)) → (new : Option (Place × Bool)) × (at_places ps (exponent_sign signed) ≡ exponent_sign new)
exponent_anew ps None = (None, refl)
exponent_anew ps (Some x) = (Some (next_place ps, x.1), refl)

power_anew : (p : Place) (sign : Sign) {ts us vs : List Placed} {base exponent : Expr} → sign_class sign ≡ class.Power → Reads postfix ts base →
    (new : Option (Place × Bool)) × (us ≡ exponent_sign new) → Reads postfix vs exponent → SomeTree power (ts ++ placed p (sign_token sign) ∷ (us ++ vs))
power_anew p sign {ts = ts} {vs = vs} h d signed e =
    subst (λ (us : List Placed). SomeTree power (ts ++ placed p (sign_token sign) ∷ (us ++ vs))) (sym signed.1) (found (a_power p sign signed.0 h d e))

chain_anew : (chain : Chain) {ts us : List Placed} {first : Expr} {count : ℕ} → Limits chain count → Reads (operand_of chain) ts first → SomeOperands chain us count →
    SomeTree (level_of chain) (ts ++ us)
chain_anew chain h d others = found (a_chain chain (subst (Limits chain) (sym others.2) h) d others.1)

one_more_operand : (chain : Chain) (p : Place) (token : Token) {ts us : List Placed} {operand : Expr} {count : ℕ} → joins chain (token_class token) ≡ true → Reads (operand_of chain) ts operand →
    SomeOperands chain us count → SomeOperands chain (placed p token ∷ (ts ++ us)) (suc count)
one_more_operand chain p token {operand = operand} h d others = ((p, token, operand) ∷ others.0, an_operand chain p token h d others.1, ap suc others.2)

last_item : {level : Level} {ts : List Placed} {item : Expr} → Reads level ts item → SomeList level ts 1
last_item {item = item} d = (item ∷ [], the_last d, refl)

one_more_item : {level : Level} (p : Place) {ts us : List Placed} {item : Expr} {count : ℕ} → Reads level ts item → SomeList level us count →
    SomeList level (ts ++ placed p (sign_token SComma) ∷ us) (suc count)
one_more_item p {item = item} d items = (item ∷ items.0, one_more p d items.1, ap suc items.2)

found_tuple : {ts : List Placed} {tuple : Angle} → ReadsTuple ts tuple → SomeTuple ts
found_tuple {tuple = tuple} d = (tuple, d)

found_tuples : {ts : List Placed} {tuples : List Angle} → ReadsTuples ts tuples → SomeTuples ts
found_tuples {tuples = tuples} d = (tuples, d)

found_index : {ts : List Placed} {index : Index} → ReadsIndex ts index → SomeIndex ts
found_index {index = index} d = (index, d)

found_body : {ts : List Placed} {inside : Body} → ReadsBody ts inside → SomeBody ts
found_body {inside = inside} d = (inside, d)

mutual
  pub reads_anew : (ps : List Place) {level : Level} {ts : List Placed} {e : Expr} → Reads level ts e → SomeTree level (at_places ps ts)
  reads_anew ps (a_number p digits) = found (a_number _ digits)
  reads_anew ps (a_text p text double) = found (a_text _ text double)
  reads_anew ps (a_truth p truth) = found (a_truth _ truth)
  reads_anew ps (an_infinity p) = found (an_infinity _)
  reads_anew ps (a_name p name) = found (a_name _ name)
  reads_anew ps (an_item p q r name d) = rw at_places-append (found (an_item _ _ _ name (list_anew _ d).1))
  reads_anew ps (a_bare_call p q r name) = found (a_bare_call _ _ _ name)
  reads_anew ps (a_call p q r name d) = rw at_places-append (found (a_call _ _ _ name (list_anew _ d).1))
  reads_anew ps (a_function p q r w h d) = rw at_places-append (found (a_function _ _ _ w h (list_anew _ d).1))
  reads_anew ps (a_projection p q r s d e) = simp at_places-append (found (a_projection _ _ _ _ (reads_anew _ d).1 (tuple_anew _ e).1))
  reads_anew ps (in_parentheses p q d) = rw at_places-append (found (in_parentheses _ _ (reads_anew _ d).1))
  reads_anew ps (in_braces p q d) = rw at_places-append (found (in_braces _ _ (body_anew _ d).1))
  reads_anew ps (an_if p q r vif d e) = simp at_places-append (found (an_if _ _ _ vif (reads_anew _ d).1 (reads_anew _ e).1))
  reads_anew ps (an_if_with_else p q r s vif d e f) =
      simp at_places-append (found (an_if_with_else _ _ _ _ vif (reads_anew _ d).1 (reads_anew _ e).1 (reads_anew _ f).1))
  reads_anew ps (a_postfix marks d) = rw at_places-append (postfix_anew (reads_anew _ d).1 (marks_anew _ marks))
  reads_anew ps (no_power d) = found (no_power (reads_anew ps d).1)
  reads_anew ps (a_power p sign signed h d e) = simp at_places-append (power_anew _ sign h (reads_anew _ d).1 (exponent_anew _ signed) (reads_anew _ e).1)
  reads_anew ps (no_sign d) = found (no_sign (reads_anew ps d).1)
  reads_anew ps (a_sign p minus d) = found (a_sign _ minus (reads_anew _ d).1)
  reads_anew ps (a_big p q w with_do h d e) = rw at_places-append (found (a_big _ _ w with_do h (index_anew _ d).1 (reads_anew _ e).1))
  reads_anew ps (no_loop_sign d) = found (no_loop_sign (reads_anew ps d).1)
  reads_anew ps (a_loop_sign p minus d) = found (a_loop_sign _ minus (reads_anew _ d).1)
  reads_anew ps (a_product d) = found (a_product (reads_anew ps d).1)
  reads_anew ps (a_loop d) = found (a_loop (reads_anew ps d).1)
  reads_anew ps (a_product_with_loop p token h d e) = rw at_places-append (found (a_product_with_loop _ token h (reads_anew _ d).1 (reads_anew _ e).1))
  reads_anew ps (a_chain chain h d e) = rw at_places-append (chain_anew chain h (reads_anew _ d).1 (operands_anew _ e))
  reads_anew ps (a_member p d e) = rw at_places-append (found (a_member _ (tuple_anew _ d).1 (reads_anew _ e).1))
  reads_anew ps (no_not d) = found (no_not (reads_anew ps d).1)
  reads_anew ps (a_not p d) = found (a_not _ (reads_anew _ d).1)
  reads_anew ps (no_forall d) = found (no_forall (reads_anew ps d).1)
  reads_anew ps (a_forall p q with_do d e) = rw at_places-append (found (a_forall _ _ with_do (index_anew _ d).1 (reads_anew _ e).1))

  operands_anew : (ps : List Place) {chain : Chain} {us : List Placed} {others : Operands} → ReadsOperands chain us others → SomeOperands chain (at_places ps us) (length others)
  operands_anew ps (no_operand chain) = ([], no_operand chain, refl)
  operands_anew ps (an_operand chain p token h d e) =
      rw at_places-append (one_more_operand chain _ token h (reads_anew _ d).1 (operands_anew _ e))

  pub list_anew : (ps : List Place) {level : Level} {ts : List Placed} {items : List Expr} → ReadsList level ts items → SomeList level (at_places ps ts) (length items)
  list_anew ps (the_last d) = last_item (reads_anew ps d).1
  list_anew ps (one_more p d e) = rw at_places-append (one_more_item _ (reads_anew _ d).1 (list_anew _ e))

  pub tuple_anew : (ps : List Place) {ts : List Placed} {tuple : Angle} → ReadsTuple ts tuple → SomeTuple (at_places ps ts)
  tuple_anew ps (a_tuple p q d) = rw at_places-append (found_tuple (a_tuple _ _ (list_anew _ d).1))

  tuples_anew : (ps : List Place) {ts : List Placed} {tuples : List Angle} → ReadsTuples ts tuples → SomeTuples (at_places ps ts)
  tuples_anew ps (the_last_tuple d) = found_tuples (the_last_tuple (tuple_anew ps d).1)
  tuples_anew ps (one_more_tuple p d e) = rw at_places-append (found_tuples (one_more_tuple _ (tuple_anew _ d).1 (tuples_anew _ e).1))

  pub index_anew : (ps : List Place) {ts : List Placed} {index : Index} → ReadsIndex ts index → SomeIndex (at_places ps ts)
  index_anew ps (an_index p d e) = rw at_places-append (found_index (an_index _ (tuple_anew _ d).1 (reads_anew _ e).1))
  index_anew ps (an_index_with p q bar d e f) =
      simp at_places-append (found_index (an_index_with _ _ bar (tuple_anew _ d).1 (reads_anew _ e).1 (reads_anew _ f).1))

  body_anew : (ps : List Place) {ts : List Placed} {inside : Body} → ReadsBody ts inside → SomeBody (at_places ps ts)
  body_anew ps nothing = found_body nothing
  body_anew ps (the_members d) = found_body (the_members (list_anew ps d).1)
  body_anew ps (the_tuples d) = found_body (the_tuples (tuples_anew ps d).1)
  body_anew ps (the_choices d) = found_body (the_choices (index_anew ps d).1)
  body_anew ps (a_span p with_to d e) = rw at_places-append (found_body (a_span _ with_to (reads_anew _ d).1 (reads_anew _ e).1))
  body_anew ps (a_span_by p q with_to d e f) =
      simp at_places-append (found_body (a_span_by _ _ with_to (reads_anew _ d).1 (reads_anew _ e).1 (reads_anew _ f).1))
