-- What the parser makes of lists: operands with operators between them, and items with commas between them.
use Rattle.std.proofs.Common.{◌≡◌, ℕ, zero, suc, ◌<◌, ◌≤◌, Bool, true, false, List, [], ◌∷◌, ◌++◌, length, Some, None, refl, sym, append_assoc, length-append, arith, eq-eqb, ne_eqb}
use Rattle.zim_fault.specs.declared.faults.Place.{Place}
use Rattle.zim_fault.specs.declared.tokens.Token.TheVariants.{Sign as sign_token}
use Rattle.zim_fault.specs.declared.tokens.Placed.{Placed}
use Rattle.zim_fault.specs.declared.signs.Sign.TheVariants.{SComma}
use Rattle.zim_tree.specs.declared.expr.Expr.{Expr}
use Rattle.zim_tree.specs.declared.classes.Class.{Class}
use Rattle.zim_tree.specs.declared.classes.Class.TheVariants as class
use Rattle.zim_tree.specs.Levels.{Chain, products, sums, relations, conjunctions, disjunctions, level_of, operand_of, joins, Operands, placed}
use Rattle.zim_parse_expression.specs.Next.{is_comma, class_looseness, looseness, rank, level_bound}
use Rattle.zim_parse_expression.specs.Parser.{Parser, and_then, expect, items_behind, items_of, operands_of}
use Rattle.zim_parse_expression.proofs.BeginningLaws.{no}

-- items with commas between them that a parser reads one by one
pub data Listed {A : Type 0} (item : Parser A) (rest : List Placed) : List Placed → List A → Type 0 where
  last_item : (ts : List Placed) {x : A} → item (ts ++ rest) ≡ Some (x, rest) → Listed item rest ts (x ∷ [])
  next_item : (p : Place) (ts us : List Placed) {x : A} {xs : List A} → item (ts ++ (placed p (sign_token SComma) ∷ (us ++ rest))) ≡ Some (x, placed p (sign_token SComma) ∷ (us ++ rest)) →
      Listed item rest us xs → Listed item rest (ts ++ placed p (sign_token SComma) ∷ us) (x ∷ xs)

-- no comma comes next
abbrev pub no_comma : List Placed → Type 0
no_comma rest = expect is_comma rest ≡ None

last_behind : {A : Type 0} (item : Parser A) (turns : ℕ) (x : A) (rest : List Placed) → no_comma rest → items_behind item turns x rest ≡ Some (x ∷ [], rest)
unfolding items_behind and_then
last_behind item zero x rest h = refl
last_behind item (suc turns) x rest h = rw h refl

listed_behind : {A : Type 0} {item : Parser A} {rest : List Placed} {ts : List Placed} {xs : List A} → Listed item rest ts xs → no_comma rest →
    (turns : ℕ) → length ts ≤ turns → and_then (item (ts ++ rest)) (λ first left. items_behind item turns first left) ≡ Some (xs, rest)
unfolding items_behind and_then
listed_behind {item = item} {rest = rest} (last_item ts {x = x} e) c turns h = rw e (last_behind item turns x rest c)
listed_behind (next_item p ts us e d) c zero h = absurd (omega (arith, length-append ts (placed p (sign_token SComma) ∷ us), h))
listed_behind {rest = rest} (next_item p ts us e d) c (suc turns) h =
    rw (append_assoc ts (placed p (sign_token SComma) ∷ us) rest, e, listed_behind d c turns (omega (arith, length-append ts (placed p (sign_token SComma) ∷ us), h))) refl

pub listed_items : {A : Type 0} {item : Parser A} {rest : List Placed} {ts : List Placed} {xs : List A} → Listed item rest ts xs → no_comma rest →
    items_of item (ts ++ rest) ≡ Some (xs, rest)
unfolding items_of items_behind and_then
listed_items {item = item} {rest = rest} (last_item ts {x = x} e) c = rw e (last_behind item (length rest) x rest c)
listed_items {rest = rest} (next_item p ts us e d) c =
    rw (append_assoc ts (placed p (sign_token SComma) ∷ us) rest, e, listed_behind d c (length (us ++ rest)) (omega (arith, length-append us rest))) refl

-- what comes behind a first item
pub listed_more : {A : Type 0} {item : Parser A} {rest : List Placed} (p : Place) (first : A) {us : List Placed} {xs : List A} → Listed item rest us xs → no_comma rest →
    items_behind item (length (placed p (sign_token SComma) ∷ (us ++ rest))) first (placed p (sign_token SComma) ∷ (us ++ rest)) ≡ Some (first ∷ xs, rest)
unfolding items_behind and_then
listed_more {rest = rest} p first {us = us} d c = rw (listed_behind d c (length (us ++ rest)) (omega (arith, length-append us rest))) refl

pub listed_none : {A : Type 0} (item : Parser A) (first : A) (rest : List Placed) → no_comma rest → items_behind item (length rest) first rest ≡ Some (first ∷ [], rest)
listed_none item first rest c = last_behind item (length rest) first rest c

-- operators

pub joins_rank : (chain : Chain) (k : Class) (open_behind : Bool) → joins chain k ≡ true → (chain ≡ products → open_behind ≡ false) → class_looseness k open_behind ≡ rank chain
joins_rank products class.Product true h o = no (sym (o refl))
joins_rank products class.Product false h o = refl
joins_rank products _ b h o = no h
joins_rank sums class.PlusOrMinus b h o = refl
joins_rank sums class.OtherSum b h o = refl
joins_rank sums _ b h o = no h
joins_rank relations class.Less b h o = refl
joins_rank relations class.Greater b h o = refl
joins_rank relations class.OtherRelation b h o = refl
joins_rank relations _ b h o = no h
joins_rank conjunctions class.And b h o = refl
joins_rank conjunctions _ b h o = no h
joins_rank disjunctions class.OrOrXor b h o = refl
joins_rank disjunctions _ b h o = no h

pub operand_below : (chain : Chain) → level_bound (operand_of chain) < rank chain
operand_below products = omega arith
operand_below sums = omega arith
operand_below relations = omega arith
operand_below conjunctions = omega arith
operand_below disjunctions = omega arith

pub level_rank : (chain : Chain) → level_bound (level_of chain) ≡ rank chain
level_rank products = refl
level_rank sums = refl
level_rank relations = refl
level_rank conjunctions = refl
level_rank disjunctions = refl

pub no_operator : (chain : Chain) (operand : Parser Expr) (turns : ℕ) (rest : List Placed) → rank chain < looseness rest → operands_of chain operand turns rest ≡ Some ([], rest)
unfolding operands_of and_then
no_operator chain operand zero rest h = refl
no_operator chain operand (suc turns) [] h = refl
no_operator chain operand (suc turns) (t ∷ rest) h = rw (ne_eqb (looseness (t ∷ rest)) (rank chain) (omega arith)) refl

pub one_operator : (chain : Chain) (operand : Parser Expr) (turns : ℕ) (t : Placed) (rest behind left : List Placed) (e : Expr) (others : Operands) →
    looseness (t ∷ rest) ≡ rank chain → operand rest ≡ Some (e, behind) → operands_of chain operand turns behind ≡ Some (others, left) →
    operands_of chain operand (suc turns) (t ∷ rest) ≡ Some ((t.place, t.token, e) ∷ others, left)
unfolding operands_of and_then
one_operator chain operand turns t rest behind left e others h i j = rw (eq-eqb (looseness (t ∷ rest)) (rank chain) h, i, j) refl
