-- The numbers in a tree that the grammar reads from tokens are number tokens, where those among the tokens are.
use Rattle.std.proofs.Common.{ℕ, ◌≡◌, Bool, true, ◌&&◌, List, [], ◌∷◌, ◌++◌, map, Option, Some, None, refl, ap, ◌∙◌}
use Rattle.std.specs.List.{list_all}
use Rattle.zim_fault.specs.declared.faults.Place.{Place}
use Rattle.zim_fault.specs.declared.tokens.Token.{Token}
use Rattle.zim_fault.specs.declared.tokens.Relation.{Relation}
use Rattle.zim_fault.specs.declared.tokens.Placed.{Placed}
use Rattle.zim_fault.specs.declared.words.Word.{Word}
use Rattle.zim_tree.specs.declared.expr.Expr.{Expr}
use Rattle.zim_tree.specs.declared.expr.Angle.{Angle}
use Rattle.zim_tree.specs.declared.expr.Index.{Index}
use Rattle.zim_tree.specs.declared.expr.Body.{Body}
use Rattle.zim_tree.specs.Levels.{Level, Chain, products, sums, relations, conjunctions, disjunctions, Operands, joined, compared, conjoined, disjoined, factorial, exponent_sign, relation_of, is_xor}
use Rattle.zim_tree.specs.Grammar.{Reads, ReadsOperands, ReadsList, ReadsTuple, ReadsTuples, ReadsIndex, ReadsBody, a_number, a_text, a_truth, an_infinity, a_name, an_item, a_bare_call, a_call, a_function, a_projection, in_parentheses, in_braces, an_if, an_if_with_else, a_postfix, no_power, a_power, no_sign, a_sign, a_big, no_loop_sign, a_loop_sign, a_product, a_loop, a_product_with_loop, a_chain, a_member, no_not, a_not, no_forall, a_forall, no_operand, an_operand, the_last, one_more, a_tuple, the_last_tuple, one_more_tuple, an_index, an_index_with, nothing, the_members, the_tuples, the_choices, a_span, a_span_by}
use Rattle.zim_tree.specs.declared.stmt.Stmt.{Stmt}
use Rattle.zim_tree.specs.declared.stmt.Shape.{Shape}
use Rattle.zim_tree.specs.declared.stmt.Bracket.{Bracket}
use Rattle.zim_tree.specs.declared.stmt.SetSide.{SetSide}
use Rattle.zim_tree.specs.declared.stmt.ParSide.{ParSide}
use Rattle.zim_tree.specs.declared.stmt.Table.{Table}
use Rattle.zim_tree.specs.declared.stmt.Limit.{Limit}
use Rattle.zim_tree.specs.declared.stmt.Reading.{Reading}
use Rattle.zim_tree.specs.declared.stmt.Doing.{Doing}
use Rattle.zim_tree.specs.declared.stmt.Printed.{Printed}
use Rattle.zim_tree.specs.StatementGrammar.{ReadsOptions, ReadsReading, ReadsEntries, ReadsRows, ReadsTable, ReadsGiven, ReadsSetSide, ReadsParSide, ReadsBracket, ReadsBrackets, ReadsSetBrackets, ReadsLimits, ReadsPrinted, ReadsPrintedList, ReadsDoing, ReadsShape, ReadsStatement, no_option, an_option, a_reading, the_last_entry, one_more_entry, the_last_row, one_more_row, a_table, not_given, is_given, a_set, a_set_read, a_family, a_set_for_each, sets_listed, a_value, a_value_read, a_value_for_each, values_listed, values_in_table, values_read, the_default, a_bracket_loop, a_bracket_over, no_bracket, a_bracket, filled_or_none, empty_brackets, no_limit, a_limit, a_printed_value, a_printed_tuple, the_last_printed, one_more_printed, a_print, a_check, for_each, a_set_statement, a_param_statement, a_var_statement, a_goal_statement, a_subto_statement, a_definition, a_do_statement, a_statement}
use Rattle.zim_static.proofs.AroundLaws.{both}
use Rattle.zim_typing.specs.Numbers.{numbers_kept, tuple_numbers_kept, index_numbers_kept, body_numbers_kept}
use Rattle.zim_typing.specs.StatementNumbers.{numbers_in_given, numbers_in_options, numbers_in_reading, numbers_in_entries, numbers_in_rows, numbers_in_table, numbers_in_brackets, numbers_in_set, numbers_in_param, numbers_in_limits, numbers_in_printed, doing_numbers_kept, numbers_in_shape, statement_numbers_kept}
use Rattle.zim_lex.specs.TokenNumbers.{is_right_number, token_numbers_kept}
use Rattle.zim_typing.proofs.NumberLaws.{keeps-Number, keeps-Text, keeps-Truth, keeps-Infinity, keeps-Name, keeps-Item, keeps-Call, keeps-Func, keeps-Proj, keeps-Paren, keeps-Braces, keeps-If, keeps-Factorial, keeps-Power, keeps-Signed, keeps-Big, keeps-Times, keeps-Plus, keeps-Compare, keeps-Member, keeps-Not, keeps-And, keeps-Or, keeps-Forall, keeps_tuple, keeps_index, keeps-Empty, keeps-Members, keeps-Tuples, keeps-Those, keeps-Span}
use Rattle.zim_typing.proofs.StatementBelongLaws.{keeps-Print, keeps-Check, keeps-Forall as keeps-for-each}

-- ---- tokens

-- the numbers among these tokens are number tokens
abbrev Kept : List Placed → Type 0
Kept ts = token_numbers_kept ts ≡ true

-- both are
also : {a b : Bool} → a ≡ true → b ≡ true → (a && b) ≡ true
also p q = λ i. p i && q i

-- behind the first token
rest : (x : Placed) (xs : List Placed) → Kept (x ∷ xs) → Kept xs
unfolding token_numbers_kept
rest x xs h = (both (is_right_number x.token) (token_numbers_kept xs) h).1

first_of : (x : Placed) (xs : List Placed) → Kept (x ∷ xs) → is_right_number x.token ≡ true
unfolding token_numbers_kept
first_of x xs h = (both (is_right_number x.token) (token_numbers_kept xs) h).0

-- before some of them, and behind
before : (xs ys : List Placed) → Kept (xs ++ ys) → Kept xs
unfolding token_numbers_kept
before [] ys h = refl
before (x ∷ xs) ys h = let kept = both (is_right_number x.token) (token_numbers_kept (xs ++ ys)) h in also kept.0 (before xs ys kept.1)

behind : (xs ys : List Placed) → Kept (xs ++ ys) → Kept ys
unfolding token_numbers_kept
behind [] ys h = h
behind (x ∷ xs) ys h = behind xs ys (both (is_right_number x.token) (token_numbers_kept (xs ++ ys)) h).1

-- ---- lists of operands

operands_of : {O : Type 0} (f : Place × Token × Expr → Place × O × Expr) → ((x : Place × Token × Expr) → (f x).2 ≡ x.2) → (others : Operands) →
    list_all numbers_kept (map (λ (x : Place × O × Expr). x.2) (map f others)) ≡ list_all numbers_kept (map (λ (x : Place × Token × Expr). x.2) others)
operands_of f same [] = refl
operands_of f same (other ∷ others) = λ i. numbers_kept (same other i) && operands_of f same others i

conjuncts_of : (others : Operands) → list_all numbers_kept (map (λ (x : Place × Expr). x.1) (conjoined others)) ≡ list_all numbers_kept (map (λ (x : Place × Token × Expr). x.2) others)
conjuncts_of [] = refl
conjuncts_of (other ∷ others) = ap (λ (b : Bool). numbers_kept other.2 && b) (conjuncts_of others)

joined_keeps : (chain : Chain) (first : Expr) (others : Operands) → numbers_kept first ≡ true → list_all numbers_kept (map (λ (x : Place × Token × Expr). x.2) others) ≡ true → numbers_kept (joined chain first others) ≡ true
joined_keeps chain first [] one all = one
joined_keeps products first (other ∷ others) one all = keeps-Times first (other ∷ others) ∙ also one all
joined_keeps sums first (other ∷ others) one all = keeps-Plus first (other ∷ others) ∙ also one all
joined_keeps relations first (other ∷ others) one all =
    keeps-Compare first (compared (other ∷ others)) ∙ also one (operands_of {O = Relation} (λ (x : Place × Token × Expr). (x.0, relation_of x.1, x.2)) (λ x. refl) (other ∷ others) ∙ all)
joined_keeps conjunctions first (other ∷ others) one all = keeps-And first (conjoined (other ∷ others)) ∙ also one (conjuncts_of (other ∷ others) ∙ all)
joined_keeps disjunctions first (other ∷ others) one all =
    keeps-Or first (disjoined (other ∷ others)) ∙ also one (operands_of {O = Bool} (λ (x : Place × Token × Expr). (x.0, is_xor x.1, x.2)) (λ x. refl) (other ∷ others) ∙ all)

factorial_keeps : (marks : List Place) (operand : Expr) → numbers_kept operand ≡ true → numbers_kept (factorial operand marks) ≡ true
factorial_keeps [] operand h = h
factorial_keeps (mark ∷ marks) operand h = keeps-Factorial operand (mark ∷ marks) ∙ h

-- ---- expressions

mutual
  pub read_keeps : {level : Level} {ts : List Placed} {e : Expr} → Reads level ts e → Kept ts → numbers_kept e ≡ true
  read_keeps (a_number p digits) h = keeps-Number p digits ∙ first_of _ _ h
  read_keeps (a_text p text double) h = keeps-Text p text double
  read_keeps (a_truth p truth) h = keeps-Truth p truth
  read_keeps (an_infinity p) h = keeps-Infinity p
  read_keeps (a_name p name) h = keeps-Name p name
  read_keeps (an_item p q r name {ts = ts} {index = index} ds) h = keeps-Item p name index ∙ list_keeps ds (before ts _ (rest _ _ (rest _ _ h)))
  read_keeps (a_bare_call p q r name) h = keeps-Call p name []
  read_keeps (a_call p q r name {ts = ts} {given = given} ds) h = keeps-Call p name given ∙ list_keeps ds (before ts _ (rest _ _ (rest _ _ h)))
  read_keeps (a_function p q r word {ts = ts} {given = given} is ds) h = keeps-Func p word given ∙ list_keeps ds (before ts _ (rest _ _ (rest _ _ h)))
  read_keeps (a_projection p q r s {ts = ts} {us = us} {set = set} {positions = positions} d t) h =
      keeps-Proj p set positions ∙ also (read_keeps d (before ts _ (rest _ _ (rest _ _ h)))) (tuple_keeps t (before us _ (rest _ _ (behind ts _ (rest _ _ (rest _ _ h))))))
  read_keeps (in_parentheses p q {ts = ts} {inner = inner} d) h = keeps-Paren p inner ∙ read_keeps d (before ts _ (rest _ _ h))
  read_keeps (in_braces p q {ts = ts} {inside = inside} d) h = keeps-Braces p inside ∙ body_keeps d (before ts _ (rest _ _ h))
  read_keeps (an_if p q r vif {ts = ts} {us = us} {test = test} {branch = branch} d e) h =
      keeps-If p vif test branch None ∙ also (read_keeps d (before ts _ (rest _ _ h))) (also (read_keeps e (before us _ (rest _ _ (behind ts _ (rest _ _ h))))) refl)
  read_keeps (an_if_with_else p q r s vif {ts = ts} {us = us} {vs = vs} {test = test} {branch = branch} {otherwise = otherwise} d e f) h =
      keeps-If p vif test branch (Some otherwise)
      ∙ also (read_keeps d (before ts _ (rest _ _ h))) (also (read_keeps e (before us _ (rest _ _ (behind ts _ (rest _ _ h))))) (read_keeps f (before vs _ (rest _ _ (behind us _ (rest _ _ (behind ts _ (rest _ _ h))))))))
  read_keeps (a_postfix marks {ts = ts} {operand = operand} d) h = factorial_keeps marks operand (read_keeps d (before ts _ h))
  read_keeps (no_power d) h = read_keeps d h
  read_keeps (a_power p sign signed {ts = ts} {us = us} {base = base} {exponent = exponent} is d e) h =
      keeps-Power p sign base signed exponent ∙ also (read_keeps d (before ts _ h)) (read_keeps e (behind (exponent_sign signed) _ (rest _ _ (behind ts _ h))))
  read_keeps (no_sign d) h = read_keeps d h
  read_keeps (a_sign p minus {operand = operand} d) h = keeps-Signed p minus operand ∙ read_keeps d (rest _ _ h)
  read_keeps (a_big p q word with_do {ts = ts} {us = us} {index = index} {operand = operand} is i d) h =
      keeps-Big p word index with_do operand ∙ also (index_keeps i (before ts _ (rest _ _ h))) (read_keeps d (rest _ _ (behind ts _ (rest _ _ h))))
  read_keeps (no_loop_sign d) h = read_keeps d h
  read_keeps (a_loop_sign p minus {operand = operand} d) h = keeps-Signed p minus operand ∙ read_keeps d (rest _ _ h)
  read_keeps (a_product d) h = read_keeps d h
  read_keeps (a_loop d) h = read_keeps d h
  read_keeps (a_product_with_loop p token {ts = ts} {us = us} {first = first} {last = last} is d e) h =
      keeps-Times first ((p, token, last) ∷ []) ∙ also (read_keeps d (before ts _ h)) (also (read_keeps e (rest _ _ (behind ts _ h))) refl)
  read_keeps (a_chain chain {ts = ts} {us = us} {first = first} {others = others} limits d ds) h = joined_keeps chain first others (read_keeps d (before ts _ h)) (operands_keep ds (behind ts _ h))
  read_keeps (a_member p {ts = ts} {us = us} {tuple = tuple} {set = set} t d) h = keeps-Member p tuple set ∙ also (tuple_keeps t (before ts _ h)) (read_keeps d (rest _ _ (behind ts _ h)))
  read_keeps (no_not d) h = read_keeps d h
  read_keeps (a_not p {operand = operand} d) h = keeps-Not p operand ∙ read_keeps d (rest _ _ h)
  read_keeps (no_forall d) h = read_keeps d h
  read_keeps (a_forall p q with_do {ts = ts} {us = us} {index = index} {inside = inside} i d) h =
      keeps-Forall p index with_do inside ∙ also (index_keeps i (before ts _ (rest _ _ h))) (read_keeps d (rest _ _ (behind ts _ (rest _ _ h))))

  operands_keep : {chain : Chain} {ts : List Placed} {others : Operands} → ReadsOperands chain ts others → Kept ts → list_all numbers_kept (map (λ (x : Place × Token × Expr). x.2) others) ≡ true
  operands_keep (no_operand chain) h = refl
  operands_keep (an_operand chain p token {ts = ts} {us = us} is d ds) h = also (read_keeps d (before ts _ (rest _ _ h))) (operands_keep ds (behind ts _ (rest _ _ h)))

  pub list_keeps : {level : Level} {ts : List Placed} {items : List Expr} → ReadsList level ts items → Kept ts → list_all numbers_kept items ≡ true
  list_keeps (the_last d) h = also (read_keeps d h) refl
  list_keeps (one_more p {ts = ts} {us = us} d ds) h = also (read_keeps d (before ts _ h)) (list_keeps ds (rest _ _ (behind ts _ h)))

  pub tuple_keeps : {ts : List Placed} {tuple : Angle} → ReadsTuple ts tuple → Kept ts → tuple_numbers_kept tuple ≡ true
  tuple_keeps (a_tuple p q {ts = ts} {items = items} ds) h = keeps_tuple p items ∙ list_keeps ds (before ts _ (rest _ _ h))

  tuples_keep : {ts : List Placed} {tuples : List Angle} → ReadsTuples ts tuples → Kept ts → list_all tuple_numbers_kept tuples ≡ true
  tuples_keep (the_last_tuple t) h = also (tuple_keeps t h) refl
  tuples_keep (one_more_tuple p {ts = ts} {us = us} t ds) h = also (tuple_keeps t (before ts _ h)) (tuples_keep ds (rest _ _ (behind ts _ h)))

  pub index_keeps : {ts : List Placed} {index : Index} → ReadsIndex ts index → Kept ts → index_numbers_kept index ≡ true
  index_keeps (an_index p {ts = ts} {us = us} {tuple = tuple} {set = set} t d) h = keeps_index p tuple set None ∙ also (tuple_keeps t (before ts _ h)) (also (read_keeps d (rest _ _ (behind ts _ h))) refl)
  index_keeps (an_index_with p q bar {ts = ts} {us = us} {vs = vs} {tuple = tuple} {set = set} {cond = cond} t d e) h =
      keeps_index p tuple set (Some (bar, cond)) ∙ also (tuple_keeps t (before ts _ h)) (also (read_keeps d (before us _ (rest _ _ (behind ts _ h)))) (read_keeps e (rest _ _ (behind us _ (rest _ _ (behind ts _ h))))))

  body_keeps : {ts : List Placed} {inside : Body} → ReadsBody ts inside → Kept ts → body_numbers_kept inside ≡ true
  body_keeps nothing h = keeps-Empty
  body_keeps (the_members {members = members} ds) h = keeps-Members members ∙ list_keeps ds h
  body_keeps (the_tuples {tuples = tuples} ds) h = keeps-Tuples tuples ∙ tuples_keep ds h
  body_keeps (the_choices {index = index} i) h = keeps-Those index ∙ index_keeps i h
  body_keeps (a_span p with_to {ts = ts} {us = us} {from = from} {to = to} d e) h = keeps-Span from with_to to None ∙ also (read_keeps d (before ts _ h)) (also (read_keeps e (rest _ _ (behind ts _ h))) refl)
  body_keeps (a_span_by p q with_to {ts = ts} {us = us} {vs = vs} {from = from} {to = to} {by = by} d e f) h =
      keeps-Span from with_to to (Some by) ∙ also (read_keeps d (before ts _ h)) (also (read_keeps e (before us _ (rest _ _ (behind ts _ h)))) (read_keeps f (rest _ _ (behind us _ (rest _ _ (behind ts _ h))))))

-- ---- statements

options_keep : {ts : List Placed} {options : List (Place × Word × Expr)} → ReadsOptions ts options → Kept ts → numbers_in_options options ≡ true
options_keep no_option h = refl
options_keep (an_option p _ {ts = ts} is d ds) h = also (read_keeps d (before ts _ (rest _ _ h))) (options_keep ds (behind ts _ (rest _ _ h)))

reading_keeps : {ts : List Placed} {r : Reading} → ReadsReading ts r → Kept ts → numbers_in_reading r ≡ true
reading_keeps (a_reading p q {ts = ts} {us = us} once d e ds) h =
    also (read_keeps d (before ts _ (rest _ _ h))) (also (read_keeps e (before us _ (rest _ _ (behind ts _ (rest _ _ h))))) (options_keep ds (behind us _ (rest _ _ (behind ts _ (rest _ _ h))))))

entries_keep : {ts : List Placed} {entries : List (Angle × Expr)} → ReadsEntries ts entries → Kept ts → numbers_in_entries entries ≡ true
entries_keep (the_last_entry {ts = ts} t d) h = also (also (tuple_keeps t (before ts _ h)) (read_keeps d (behind ts _ h))) refl
entries_keep (one_more_entry p {ts = ts} {us = us} t d ds) h = also (also (tuple_keeps t (before ts _ h)) (read_keeps d (before us _ (behind ts _ h)))) (entries_keep ds (rest _ _ (behind us _ (behind ts _ h))))

rows_keep : {columns : ℕ} {ts : List Placed} {rows : List (List Expr × List Expr)} → ReadsRows columns ts rows → Kept ts → numbers_in_rows rows ≡ true
rows_keep (the_last_row p q r {ts = ts} {us = us} as_many items values) h = also (also (list_keeps items (before ts _ (rest _ _ h))) (list_keeps values (before us _ (rest _ _ (behind ts _ (rest _ _ h)))))) refl
rows_keep (one_more_row p q r {ts = ts} {us = us} as_many items values ds) h =
    also (also (list_keeps items (before ts _ (rest _ _ h))) (list_keeps values (before us _ (rest _ _ (behind ts _ (rest _ _ h)))))) (rows_keep ds (rest _ _ (behind us _ (rest _ _ (behind ts _ (rest _ _ h))))))

table_keeps : {ts : List Placed} {table : Table} → ReadsTable ts table → Kept ts → numbers_in_table table ≡ true
table_keeps (a_table p q {ts = ts} head rows) h = also (list_keeps head (before ts _ (rest _ _ h))) (rows_keep rows (rest _ _ (behind ts _ (rest _ _ h))))

given_keeps : {word : Word} {ts : List Placed} {given : Option (Place × Expr)} → ReadsGiven word ts given → Kept ts → numbers_in_given given ≡ true
given_keeps not_given h = refl
given_keeps (is_given p d) h = read_keeps d (rest _ _ h)

bracket_keeps : {ts : List Placed} {inside : Bracket} → ReadsBracket ts inside → Kept ts → numbers_in_brackets (Some inside) ≡ true
bracket_keeps (a_bracket_loop p q {ts = ts} i) h = index_keeps i (before ts _ (rest _ _ h))
bracket_keeps (a_bracket_over p q {ts = ts} d) h = read_keeps d (before ts _ (rest _ _ h))

brackets_keep : {ts : List Placed} {brackets : Option Bracket} → ReadsBrackets ts brackets → Kept ts → numbers_in_brackets brackets ≡ true
brackets_keep no_bracket h = refl
brackets_keep (a_bracket d) h = bracket_keeps d h

set_brackets_keep : {ts : List Placed} {brackets : Option Bracket} → ReadsSetBrackets ts brackets → Kept ts → numbers_in_brackets brackets ≡ true
set_brackets_keep (filled_or_none d) h = brackets_keep d h
set_brackets_keep (empty_brackets p q) h = refl

set_keeps : {brackets : Option Bracket} {ts : List Placed} {side : SetSide} → ReadsSetSide brackets ts side → Kept ts → numbers_in_set side ≡ true
set_keeps (a_set d) h = read_keeps d h
set_keeps (a_set_read p q {ts = ts} r) h = reading_keeps r (before ts _ (rest _ _ h))
set_keeps (a_family p q r word {ts = ts} {given = given} is ds) h = keeps-Func p word given ∙ list_keeps ds (before ts _ (rest _ _ (rest _ _ h)))
set_keeps (a_set_for_each d) h = read_keeps d h
set_keeps (sets_listed ds) h = entries_keep ds h

param_keeps : {brackets : Option Bracket} {ts : List Placed} {side : ParSide} → ReadsParSide brackets ts side → Kept ts → numbers_in_param side ≡ true
param_keeps (a_value d) h = read_keeps d h
param_keeps (a_value_read r) h = also (reading_keeps r h) refl
param_keeps (a_value_for_each d) h = read_keeps d h
param_keeps (values_listed {ts = ts} ds g) h = also (entries_keep ds (before ts _ h)) (given_keeps g (behind ts _ h))
param_keeps (values_in_table {ts = ts} t g) h = also (table_keeps t (before ts _ h)) (given_keeps g (behind ts _ h))
param_keeps (values_read {ts = ts} r g) h = also (reading_keeps r (before ts _ h)) (given_keeps g (behind ts _ h))
param_keeps (the_default p d) h = read_keeps d (rest _ _ h)

limits_keep : {ts : List Placed} {limits : List Limit} → ReadsLimits ts limits → Kept ts → numbers_in_limits limits ≡ true
limits_keep no_limit h = refl
limits_keep (a_limit p lower {ts = ts} d ds) h = also (read_keeps d (before ts _ (rest _ _ h))) (limits_keep ds (behind ts _ (rest _ _ h)))

printed_keeps : {ts : List Placed} {item : Printed} → ReadsPrinted ts item → Kept ts → numbers_in_printed item ≡ true
printed_keeps (a_printed_value d) h = read_keeps d h
printed_keeps (a_printed_tuple t) h = tuple_keeps t h

printed_list_keeps : {ts : List Placed} {items : List Printed} → ReadsPrintedList ts items → Kept ts → list_all numbers_in_printed items ≡ true
printed_list_keeps (the_last_printed d) h = also (printed_keeps d h) refl
printed_list_keeps (one_more_printed p {ts = ts} d ds) h = also (printed_keeps d (before ts _ h)) (printed_list_keeps ds (rest _ _ (behind ts _ h)))

doing_keeps : {ts : List Placed} {inside : Doing} → ReadsDoing ts inside → Kept ts → doing_numbers_kept inside ≡ true
doing_keeps (a_print p {items = items} ds) h = keeps-Print p items ∙ printed_list_keeps ds (rest _ _ h)
doing_keeps (a_check p {test = test} d) h = keeps-Check p test ∙ read_keeps d (rest _ _ h)
doing_keeps (for_each p q with_do {ts = ts} {index = index} {inside = inside} i d) h = keeps-for-each p index with_do inside ∙ also (index_keeps i (before ts _ (rest _ _ h))) (doing_keeps d (rest _ _ (behind ts _ (rest _ _ h))))

shape_keeps : {p q : Place} {name : List ℕ} {ts : List Placed} {what : Shape} → ReadsShape p q name ts what → Kept ts → numbers_in_shape what ≡ true
shape_keeps (a_set_statement p q r name {ts = ts} b d) h = also (set_brackets_keep b (before ts _ (rest _ _ (rest _ _ h)))) (set_keeps d (rest _ _ (behind ts _ (rest _ _ (rest _ _ h)))))
shape_keeps (a_param_statement p q r name {ts = ts} b d) h = also (brackets_keep b (before ts _ (rest _ _ (rest _ _ h)))) (param_keeps d (rest _ _ (behind ts _ (rest _ _ (rest _ _ h)))))
shape_keeps (a_var_statement p q name {ts = ts} {us = us} {vs = vs} {ws = ws} {xs = xs} limits_kept b kind limits priority startval) h =
    let behind_kind = behind us _ (behind ts _ (rest _ _ (rest _ _ h))) in
    also (brackets_keep b (before ts _ (rest _ _ (rest _ _ h)))) (also (limits_keep limits (before vs _ behind_kind)) (also (given_keeps priority (before ws _ (behind vs _ behind_kind))) (given_keeps startval (behind ws _ (behind vs _ behind_kind)))))
shape_keeps (a_goal_statement p q r maximize name d) h = read_keeps d (rest _ _ (rest _ _ (rest _ _ h)))
shape_keeps (a_subto_statement p q r name d) h = read_keeps d (rest _ _ (rest _ _ (rest _ _ h)))
shape_keeps (a_definition p q r s t _ name {ts = ts} is parameters d) h = read_keeps d (rest _ _ (rest _ _ (behind ts _ (rest _ _ (rest _ _ (rest _ _ h))))))
shape_keeps (a_do_statement p d) h = doing_keeps d (rest _ _ h)

pub statement_keeps : {ts : List Placed} {stmt : Stmt} → ReadsStatement ts stmt → Kept ts → statement_numbers_kept stmt ≡ true
statement_keeps (a_statement p q r name {ts = ts} d) h = shape_keeps d (before ts _ h)
