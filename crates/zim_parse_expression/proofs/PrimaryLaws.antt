-- What the parser makes of the tokens of a primary, an index and a body, where it reads their parts.
use Rattle.std.proofs.Common.{◌≡◌, ℕ, zero, suc, ◌<◌, ◌≤◌, Bool, true, false, List, [], ◌∷◌, ◌++◌, length, Some, None, refl, ◌∙◌, append_assoc, length-append, arith}
use Rattle.zim_fault.specs.declared.faults.Place.{Place}
use Rattle.zim_fault.specs.declared.tokens.Token.TheVariants.{Name as name_token, Word as word_token, Number as number_token, Text as text_token, Sign as sign_token}
use Rattle.zim_fault.specs.declared.tokens.Placed.{Placed}
use Rattle.zim_fault.specs.declared.signs.Sign.TheVariants.{SComma, SLeftParen, SRightParen, SLeftBracket, SRightBracket, SLeftBrace, SRightBrace, SLess, SGreater}
use Rattle.zim_fault.specs.declared.words.Word.{Word}
use Rattle.zim_fault.specs.declared.words.Word.TheVariants.{WThen, WElse, WEnd, WInfinity, WProj}
use Rattle.zim_tree.specs.declared.expr.Expr.{Expr}
use Rattle.zim_tree.specs.declared.expr.Expr.TheVariants as tree
use Rattle.zim_tree.specs.declared.expr.Angle.{Angle}
use Rattle.zim_tree.specs.declared.expr.Index.{Index}
use Rattle.zim_tree.specs.declared.expr.Body.{Body}
use Rattle.zim_tree.specs.declared.classes.Class.{Class}
use Rattle.zim_tree.specs.declared.classes.Class.TheVariants as class
use Rattle.zim_tree.specs.Trees.{angle_of, index_of}
use Rattle.zim_tree.specs.Classes.{word_class}
use Rattle.zim_tree.specs.Levels.{Level, primary, postfix, power, unary, product, big, loop, term, sum, comparison, negation, conjunction, disjunction, whole, placed, condition_token, truth_token, if_token, is_function}
use Rattle.zim_scan.specs.Nesting.{class_at}
use Rattle.zim_parse_expression.specs.Next.{class_looseness, looseness, level_bound, start_at, start_of, is_right_paren, opens}
use Rattle.zim_parse_expression.specs.Parser.{Inner, and_then, expect, flag_of, condition_in, items_of, tuple_of, index_behind, index_from, body_of, arguments, from_name, named, if_from, function_from, projection_from, from_word, primary_of, at_level, parse}
use Rattle.zim_parse_expression.proofs.BeginningLaws.{no, is_joined}
use Rattle.zim_parse_expression.proofs.ListLaws.{Listed, last_item, next_item, no_comma, listed_items}

pub loosest : (level : Level) → level_bound level < 10
loosest primary = omega arith
loosest postfix = omega arith
loosest power = omega arith
loosest unary = omega arith
loosest product = omega arith
loosest big = omega arith
loosest loop = omega arith
loosest term = omega arith
loosest sum = omega arith
loosest comparison = omega arith
loosest negation = omega arith
loosest conjunction = omega arith
loosest disjunction = omega arith
loosest whole = omega arith

-- the parser reads these tokens of a level as this tree, where they are at most as many as its depth and the level stops behind them
pub record Complete (level : Level) (ts : List Placed) (e : Expr) : Type 0 where
  pub reads : (n : ℕ) → length ts ≤ n → (rest : List Placed) → level_bound level < looseness rest → at_level (parse n) level (ts ++ rest) ≡ Some (e, rest)

pub deeper : {level : Level} {ts : List Placed} {e : Expr} → Complete level ts e → (n : ℕ) → length ts < n → (rest : List Placed) → level_bound level < looseness rest →
    parse n level (ts ++ rest) ≡ Some (e, rest)
unfolding parse and_then
deeper c zero h rest s = absurd (omega arith)
deeper c (suc n) h rest s = c.reads n (omega arith) rest s

-- the same for items with commas between them
pub record CompleteList (level : Level) (ts : List Placed) (items : List Expr) : Type 0 where
  pub lists : (n : ℕ) → length ts < n → (rest : List Placed) → level_bound level < looseness rest → Listed (parse n level) rest ts items

pub complete_last : {level : Level} {ts : List Placed} {e : Expr} → Complete level ts e → CompleteList level ts (e ∷ [])
complete_last {ts = ts} d = record { lists = λ n h rest s. last_item ts (deeper d n h rest s) }

pub complete_more : {level : Level} (p : Place) {ts us : List Placed} {e : Expr} {items : List Expr} → Complete level ts e → CompleteList level us items →
    CompleteList level (ts ++ placed p (sign_token SComma) ∷ us) (e ∷ items)
complete_more {level = level} p {ts = ts} {us = us} d l = record {
  lists = λ n h rest s. next_item p ts us
      (deeper d n (omega (arith, length-append ts (placed p (sign_token SComma) ∷ us), h)) (placed p (sign_token SComma) ∷ (us ++ rest)) (loosest level))
      (l.lists n (omega (arith, length-append ts (placed p (sign_token SComma) ∷ us), h)) rest s);
}

-- items before a token that ends them
pub ended : {level : Level} {ts : List Placed} {items : List Expr} → CompleteList level ts items → (n : ℕ) → length ts < n → (t : Placed) (rest : List Placed) →
    level_bound level < looseness (t ∷ rest) → no_comma (t ∷ rest) → items_of (parse n level) ((ts ++ (t ∷ [])) ++ rest) ≡ Some (items, t ∷ rest)
ended {ts = ts} l n h t rest s c = rw (append_assoc ts (t ∷ []) rest) (listed_items (l.lists n h (t ∷ rest) s) c)

pub tuple_reads : {ts : List Placed} {items : List Expr} → CompleteList sum ts items → (q r : Place) (n : ℕ) → length ts < n → (rest : List Placed) →
    tuple_of (parse n) (placed q (sign_token SLess) ∷ ((ts ++ placed r (sign_token SGreater) ∷ []) ++ rest)) ≡ Some (angle_of q items, rest)
unfolding tuple_of and_then
tuple_reads {ts = ts} l q r n h rest = rw (append_assoc ts (placed r (sign_token SGreater) ∷ []) rest, listed_items (l.lists n h (placed r (sign_token SGreater) ∷ rest) (omega arith)) refl) refl

-- primaries

pub complete_number : (p : Place) (digits : List ℕ) → Complete primary (placed p (number_token digits) ∷ []) (tree.Number p digits)
unfolding primary_of and_then
complete_number p digits = record { reads = λ n h rest s. refl }

pub complete_text : (p : Place) (text : List ℕ) (double : Bool) → Complete primary (placed p (text_token text double) ∷ []) (tree.Text p text double)
unfolding primary_of and_then
complete_text p text double = record { reads = λ n h rest s. refl }

pub complete_truth : (p : Place) (truth : Bool) → Complete primary (placed p (truth_token truth) ∷ []) (tree.Truth p truth)
unfolding primary_of and_then
complete_truth p true = record { reads = λ n h rest s. refl }
complete_truth p false = record { reads = λ n h rest s. refl }

pub complete_infinity : (p : Place) → Complete primary (placed p (word_token WInfinity) ∷ []) (tree.Infinity p)
unfolding primary_of and_then
complete_infinity p = record { reads = λ n h rest s. refl }

name_class : (inner : Inner) (p : Place) (name : List ℕ) (k : Class) (b : Bool) (t : Placed) (rest : List Placed) → 1 < class_looseness k b →
    from_name inner p name k t rest ≡ Some (tree.Name p name, t ∷ rest)
name_class inner p name class.LeftBracket b t rest h = absurd (omega arith)
name_class inner p name class.LeftParen b t rest h = absurd (omega arith)
name_class inner p name _ b t rest h = refl

name_alone : (inner : Inner) (p : Place) (name : List ℕ) (rest : List Placed) → 1 < looseness rest → named inner p name rest ≡ Some (tree.Name p name, rest)
unfolding named and_then
name_alone inner p name [] h = refl
name_alone inner p name (t ∷ rest) h = name_class inner p name (class_at t) (opens rest) t rest h

pub complete_name : (p : Place) (name : List ℕ) → Complete primary (placed p (name_token name) ∷ []) (tree.Name p name)
unfolding primary_of and_then
complete_name p name = record { reads = λ n h rest s. name_alone (parse n) p name rest s }

pub complete_item : (p q r : Place) (name : List ℕ) {ts : List Placed} {index : List Expr} → CompleteList sum ts index →
    Complete primary (placed p (name_token name) ∷ (placed q (sign_token SLeftBracket) ∷ (ts ++ placed r (sign_token SRightBracket) ∷ []))) (tree.Item p name index)
unfolding primary_of named and_then
complete_item p q r name {ts = ts} l = record {
  reads = λ n h rest s. rw (ended l n (omega (arith, length-append ts (placed r (sign_token SRightBracket) ∷ []), h)) (placed r (sign_token SRightBracket)) rest (loosest sum) refl) refl;
}

pub complete_bare_call : (p q r : Place) (name : List ℕ) →
    Complete primary (placed p (name_token name) ∷ (placed q (sign_token SLeftParen) ∷ (placed r (sign_token SRightParen) ∷ []))) (tree.Call p name [])
unfolding primary_of named and_then
complete_bare_call p q r name = record { reads = λ n h rest s. refl }

right_paren_class : (k : Class) (rest : List Placed) → is_joined (start_at k rest) ≡ true → is_right_paren k ≡ false
right_paren_class class.RightParen rest h = no h
right_paren_class _ rest h = refl

no_right_paren : (ts : List Placed) → is_joined (start_of ts) ≡ true → expect is_right_paren ts ≡ None
no_right_paren [] h = refl
no_right_paren (t ∷ rest) h = rw (right_paren_class (class_at t) rest h) refl

pub arguments_read : {ts : List Placed} {given : List Expr} → CompleteList disjunction ts given → (r : Place) (n : ℕ) → length ts < n → (rest : List Placed) →
    arguments (parse n) ((ts ++ placed r (sign_token SRightParen) ∷ []) ++ rest) ≡ Some (given, rest)
unfolding arguments and_then
arguments_read l r n h rest = rw (ended l n h (placed r (sign_token SRightParen)) rest (omega arith) refl) refl

pub complete_call : (p q r : Place) (name : List ℕ) {ts : List Placed} {given : List Expr} → ((rest : List Placed) → is_joined (start_of (ts ++ rest)) ≡ true) → CompleteList disjunction ts given →
    Complete primary (placed p (name_token name) ∷ (placed q (sign_token SLeftParen) ∷ (ts ++ placed r (sign_token SRightParen) ∷ []))) (tree.Call p name given)
unfolding primary_of named and_then
complete_call p q r name {ts = ts} b l = record {
  reads = λ n h rest s.
      let some : expect is_right_paren ((ts ++ placed r (sign_token SRightParen) ∷ []) ++ rest) ≡ None =
      no_right_paren _ (rw (append_assoc ts (placed r (sign_token SRightParen) ∷ []) rest) (b _)) in
      rw (some, arguments_read l r n (omega (arith, length-append ts (placed r (sign_token SRightParen) ∷ []), h)) rest) refl;
}

function_word : (inner : Inner) (p : Place) (w : Word) (k : Class) (rest : List Placed) → is_function k ≡ true → from_word inner p w k rest ≡ function_from inner p w rest
function_word inner p w class.Function rest h = refl
function_word inner p w class.MinOrMax rest h = refl
function_word inner p w _ rest h = no h

pub complete_function : (p q r : Place) (w : Word) {ts : List Placed} {given : List Expr} → is_function (word_class w) ≡ true → CompleteList disjunction ts given →
    Complete primary (placed p (word_token w) ∷ (placed q (sign_token SLeftParen) ∷ (ts ++ placed r (sign_token SRightParen) ∷ []))) (tree.Func p w given)
unfolding primary_of function_from and_then
complete_function p q r w {ts = ts} f l = record {
  reads = λ n h rest s.
      function_word (parse n) p w (word_class w) _ f ∙
      rw (arguments_read l r n (omega (arith, length-append ts (placed r (sign_token SRightParen) ∷ []), h)) rest) refl;
}

pub complete_projection : (p q r s t u : Place) {ts us : List Placed} {set : Expr} {items : List Expr} → Complete disjunction ts set → CompleteList sum us items →
    Complete primary (placed p (word_token WProj) ∷ (placed q (sign_token SLeftParen) ∷ (ts ++ (placed r (sign_token SComma) ∷
    ((placed t (sign_token SLess) ∷ (us ++ placed u (sign_token SGreater) ∷ [])) ++ placed s (sign_token SRightParen) ∷ []))))) (tree.Proj p set (angle_of t items))
unfolding primary_of projection_from and_then
complete_projection p q r s t u {ts = ts} {us = us} d l = record {
  reads = λ n h rest stops.
      let behind : List Placed = placed s (sign_token SRightParen) ∷ rest in
      let last : List Placed = (placed t (sign_token SLess) ∷ (us ++ placed u (sign_token SGreater) ∷ [])) ++ placed s (sign_token SRightParen) ∷ [] in
      let lengths : (length ts < n) × (length us < n) = (
        omega (arith, length-append ts (placed r (sign_token SComma) ∷ last), h),
        omega (arith, length-append ts (placed r (sign_token SComma) ∷ last), length-append (us ++ placed u (sign_token SGreater) ∷ []) (placed s (sign_token SRightParen) ∷ []), length-append us (placed u (sign_token SGreater) ∷ []), h),
      ) in
      rw (
        append_assoc ts (placed r (sign_token SComma) ∷ last) rest,
        deeper d n lengths.0 (placed r (sign_token SComma) ∷ (last ++ rest)) (omega arith),
        append_assoc (us ++ placed u (sign_token SGreater) ∷ []) (placed s (sign_token SRightParen) ∷ []) rest,
        tuple_reads l t u n lengths.1 behind,
      ) refl;
}

pub complete_parentheses : (p q : Place) {ts : List Placed} {e : Expr} → Complete disjunction ts e →
    Complete primary (placed p (sign_token SLeftParen) ∷ (ts ++ placed q (sign_token SRightParen) ∷ [])) (tree.Paren p e)
unfolding primary_of and_then
complete_parentheses p q {ts = ts} d = record {
  reads = λ n h rest s.
      rw (
        append_assoc ts (placed q (sign_token SRightParen) ∷ []) rest,
        deeper d n (omega (arith, length-append ts (placed q (sign_token SRightParen) ∷ []), h)) (placed q (sign_token SRightParen) ∷ rest) (omega arith),
      ) refl;
}

-- what stands in braces, before the closing brace
pub record CompleteBody (ts : List Placed) (inside : Body) : Type 0 where
  pub bodies : (n : ℕ) → length ts < n → (q : Place) (rest : List Placed) → body_of (parse n) (ts ++ (placed q (sign_token SRightBrace) ∷ rest)) ≡ Some (inside, placed q (sign_token SRightBrace) ∷ rest)

pub complete_braces : (p q : Place) {ts : List Placed} {inside : Body} → CompleteBody ts inside →
    Complete primary (placed p (sign_token SLeftBrace) ∷ (ts ++ placed q (sign_token SRightBrace) ∷ [])) (tree.Braces p inside)
unfolding primary_of and_then
complete_braces p q {ts = ts} d = record {
  reads = λ n h rest s.
      rw (
        append_assoc ts (placed q (sign_token SRightBrace) ∷ []) rest,
        d.bodies n (omega (arith, length-append ts (placed q (sign_token SRightBrace) ∷ []), h)) q rest,
      ) refl;
}

if_start : (inner : Inner) (p : Place) (vif : Bool) (rest : List Placed) → primary_of inner (placed p (if_token vif) ∷ rest) ≡ if_from inner p vif rest
unfolding primary_of and_then
if_start inner p true rest = refl
if_start inner p false rest = refl

pub complete_if : (p q r : Place) (vif : Bool) {ts us : List Placed} {test branch : Expr} → Complete disjunction ts test → Complete whole us branch →
    Complete primary (placed p (if_token vif) ∷ (ts ++ (placed q (word_token WThen) ∷ (us ++ placed r (word_token WEnd) ∷ [])))) (tree.If p vif test branch None)
unfolding if_from and_then
complete_if p q r vif {ts = ts} {us = us} d e = record {
  reads = λ n h rest s.
      let last : List Placed = us ++ placed r (word_token WEnd) ∷ [] in
      let first_length : length ts < n = omega (arith, length-append ts (placed q (word_token WThen) ∷ last), h) in
      let second_length : length us < n = omega (arith, length-append ts (placed q (word_token WThen) ∷ last), length-append us (placed r (word_token WEnd) ∷ []), h) in
      if_start (parse n) p vif _ ∙
      rw (
        append_assoc ts (placed q (word_token WThen) ∷ last) rest,
        deeper d n first_length (placed q (word_token WThen) ∷ (last ++ rest)) (omega arith),
        append_assoc us (placed r (word_token WEnd) ∷ []) rest,
        deeper e n second_length (placed r (word_token WEnd) ∷ rest) (omega arith),
      ) refl;
}

pub complete_if_with_else : (p q r s : Place) (vif : Bool) {ts us vs : List Placed} {test branch otherwise : Expr} → Complete disjunction ts test → Complete whole us branch → Complete whole vs otherwise →
    Complete primary (placed p (if_token vif) ∷ (ts ++ (placed q (word_token WThen) ∷ (us ++ (placed r (word_token WElse) ∷ (vs ++ placed s (word_token WEnd) ∷ []))))))
    (tree.If p vif test branch (Some otherwise))
unfolding if_from and_then
complete_if_with_else p q r s vif {ts = ts} {us = us} {vs = vs} d e f = record {
  reads = λ n h rest stops.
      let last : List Placed = vs ++ placed s (word_token WEnd) ∷ [] in
      let middle : List Placed = us ++ (placed r (word_token WElse) ∷ last) in
      let l1 : length ts < n = omega (arith, length-append ts (placed q (word_token WThen) ∷ middle), h) in
      let l2 : length us < n = omega (arith, length-append ts (placed q (word_token WThen) ∷ middle), length-append us (placed r (word_token WElse) ∷ last), h) in
      let l3 : length vs < n = omega (arith, length-append ts (placed q (word_token WThen) ∷ middle), length-append us (placed r (word_token WElse) ∷ last), length-append vs (placed s (word_token WEnd) ∷ []), h) in
      if_start (parse n) p vif _ ∙
      rw (
        append_assoc ts (placed q (word_token WThen) ∷ middle) rest,
        deeper d n l1 (placed q (word_token WThen) ∷ (middle ++ rest)) (omega arith),
        append_assoc us (placed r (word_token WElse) ∷ last) rest,
        deeper e n l2 (placed r (word_token WElse) ∷ (last ++ rest)) (omega arith),
        append_assoc vs (placed s (word_token WEnd) ∷ []) rest,
        deeper f n l3 (placed s (word_token WEnd) ∷ rest) (omega arith),
      ) refl;
}

-- indices

-- an index, behind which neither a condition nor an operator of its set follows
pub record CompleteIndex (ts : List Placed) (index : Index) : Type 0 where
  pub indices : (n : ℕ) → length ts ≤ n → (rest : List Placed) → level_bound disjunction < looseness rest → flag_of condition_in rest ≡ None → index_from (parse n) (ts ++ rest) ≡ Some (index, rest)

-- the part of an index behind its `in`
pub behind_in : (p : Place) (tuple : Angle) {us : List Placed} {set : Expr} → Complete sum us set → (n : ℕ) → length us < n → (rest : List Placed) →
    level_bound disjunction < looseness rest → flag_of condition_in rest ≡ None → index_behind (parse n) tuple p (us ++ rest) ≡ Some (index_of p tuple set None, rest)
unfolding index_behind and_then
behind_in p tuple d n h rest s c = rw (deeper d n h rest (omega arith), c) refl

pub behind_in_with : (p q : Place) (bar : Bool) (tuple : Angle) {us vs : List Placed} {set cond : Expr} → Complete sum us set → Complete disjunction vs cond →
    (n : ℕ) → length (us ++ placed q (condition_token bar) ∷ vs) < n → (rest : List Placed) → level_bound disjunction < looseness rest →
    index_behind (parse n) tuple p ((us ++ placed q (condition_token bar) ∷ vs) ++ rest) ≡ Some (index_of p tuple set (Some (bar, cond)), rest)
unfolding index_behind and_then
behind_in_with p q true tuple {us = us} {vs = vs} d e n h rest s =
    rw (
      append_assoc us (placed q (condition_token true) ∷ vs) rest,
      deeper d n (omega (arith, length-append us (placed q (condition_token true) ∷ vs), h)) (placed q (condition_token true) ∷ (vs ++ rest)) (omega arith),
      deeper e n (omega (arith, length-append us (placed q (condition_token true) ∷ vs), h)) rest s,
    ) refl
behind_in_with p q false tuple {us = us} {vs = vs} d e n h rest s =
    rw (
      append_assoc us (placed q (condition_token false) ∷ vs) rest,
      deeper d n (omega (arith, length-append us (placed q (condition_token false) ∷ vs), h)) (placed q (condition_token false) ∷ (vs ++ rest)) (omega arith),
      deeper e n (omega (arith, length-append us (placed q (condition_token false) ∷ vs), h)) rest s,
    ) refl
