-- A whole statement that has a derivation is what the parser reads from its tokens.
use Rattle.std.proofs.Common.{◌≡◌, ℕ, zero, suc, ◌+◌, ◌<◌, ◌≤◌, Bool, true, false, if◌then◌else◌, List, [], ◌∷◌, ◌++◌, length, Option, Some, None, refl, sym, ap, ◌∙◌, append_assoc, length-append, arith, le-leb}
use Rattle.std.proofs.lemmas.Option.{same_Some}
use Rattle.zim_fault.specs.declared.faults.Place.{Place}
use Rattle.zim_fault.specs.declared.tokens.Token.TheVariants.{Name as name_token, Sign as sign_token}
use Rattle.zim_fault.specs.declared.tokens.Placed.{Placed}
use Rattle.zim_fault.specs.declared.signs.Sign.TheVariants.{SSemicolon, SComma, SColon, SLeftParen, SRightParen, SGreater, SAssign}
use Rattle.zim_fault.specs.declared.words.Word.{Word}
use Rattle.zim_fault.specs.declared.words.Word.TheVariants.{WSet, WParam, WVar, WSubto, WDo, WDefnumb, WDefstrg, WDefbool, WDefset, WBinary, WPriority, WStartval}
use Rattle.zim_tree.specs.declared.expr.Expr.{Expr}
use Rattle.zim_tree.specs.declared.stmt.Stmt.{Stmt}
use Rattle.zim_tree.specs.declared.stmt.Shape.{Shape}
use Rattle.zim_tree.specs.declared.stmt.Shape.TheVariants as shape
use Rattle.zim_tree.specs.declared.stmt.Bracket.{Bracket}
use Rattle.zim_tree.specs.declared.stmt.Limit.{Limit}
use Rattle.zim_tree.specs.declared.stmt.Doing.{Doing}
use Rattle.zim_tree.specs.declared.stmt.Printed.{Printed}
use Rattle.zim_tree.specs.declared.stmt.Printed.TheVariants as printed
use Rattle.zim_tree.specs.Levels.{sum, disjunction, placed, separator_token}
use Rattle.zim_tree.specs.Grammar.{Reads, a_tuple}
use Rattle.zim_tree.specs.StatementGrammar.{word_at, limit_token, LimitsKept, ReadsBrackets, ReadsGiven, not_given, is_given, ReadsKind, no_kind, a_kind, ReadsLimits, no_limit, a_limit, ReadsPrinted, a_printed_value, a_printed_tuple, ReadsPrintedList, the_last_printed, one_more_printed, ReadsDoing, a_print, a_check, for_each, ReadsNames, the_last_name, one_more_name, ReadsParameters, no_parameter, the_parameters, is_definition, goal_word, ReadsShape, a_set_statement, a_param_statement, a_var_statement, a_goal_statement, a_subto_statement, a_definition, a_do_statement, ReadsStatement, a_statement}
use Rattle.zim_parse_expression.specs.Next.{looseness, level_bound, Start, a_less, start_of, is_in, is_right_paren}
use Rattle.zim_parse_expression.specs.Parser.{Inner, and_then, expect, parse}
use Rattle.zim_parse_expression.specs.StatementTokens.{expect_token, is_left_bracket, is_priority, is_startval, kind_of, kind_in, limit_in}
use Rattle.zim_parse.specs.StatementParser.{name_of, limits_of, limits_kept, is_binary, has_no_limits, var_of, printed_at, printed_of, doing_of, parameters_of, definition_of, declared_of, behind_word, whole_statement}
use Rattle.zim_parse_expression.proofs.BeginningLaws.{no}
use Rattle.zim_parse_expression.proofs.ListLaws.{Listed, last_item, next_item, listed_items}
use Rattle.zim_parse_expression.proofs.PrimaryLaws.{tuple_reads}
use Rattle.zim_parse_expression.proofs.CompletenessLaws.{complete_list, complete_index_of}
use Rattle.zim_parse.proofs.StatementSteps.{part, given_read}
use Rattle.zim_parse.proofs.StatementBeginnings.{starts_less, MemberFirst, member_first}
use Rattle.zim_parse.proofs.StatementCompleteness.{ended_by, set_side_read, par_side_read, brackets_read, set_brackets_read}

-- what a part of a `var` may begin with, where the part may be absent

given_first : (w : Word) (P : List Placed → Type 0) → ((p : Place) (l : List Placed) → P (word_at p w ∷ l)) → {ts : List Placed} {given : Option (Place × Expr)} → ReadsGiven w ts given → (rest : List Placed) → P rest → P (ts ++ rest)
given_first w P f not_given rest r = r
given_first w P f (is_given p d) rest r = f p _

limits_first : (P : List Placed → Type 0) → ((p : Place) (lower : Bool) (l : List Placed) → P (placed p (limit_token lower) ∷ l)) → {ts : List Placed} {limits : List Limit} → ReadsLimits ts limits → (rest : List Placed) → P rest → P (ts ++ rest)
limits_first P f no_limit rest r = r
limits_first P f (a_limit p lower d e) rest r = f p lower _

kind_first : (P : List Placed → Type 0) → ((p : Place) (w : Word) (l : List Placed) → P (word_at p w ∷ l)) → {ts : List Placed} {kind : Option Word} → ReadsKind ts kind → (rest : List Placed) → P rest → P (ts ++ rest)
kind_first P f no_kind rest r = r
kind_first P f (a_kind p w h) rest r = f p w _

-- the limit that comes next, if one does
abbrev limit_next : List Placed → Option Bool
limit_next [] = None
limit_next (t ∷ rest) = limit_in t.token

abbrev kind_next : List Placed → Option Word
kind_next [] = None
kind_next (t ∷ rest) = kind_in t.token

limit_loose : (p : Place) (lower : Bool) (l : List Placed) → level_bound sum < looseness (placed p (limit_token lower) ∷ l)
limit_loose p true l = omega arith
limit_loose p false l = omega arith

limit_back : (lower : Bool) → limit_in (limit_token lower) ≡ Some lower
limit_back true = refl
limit_back false = refl

limits_count : {ts : List Placed} {limits : List Limit} → ReadsLimits ts limits → length limits ≤ length ts
limits_count no_limit = omega arith
limits_count (a_limit p lower {ts = ts} {us = us} d e) = omega (arith, length-append ts us, limits_count e)

limits_read : {ts : List Placed} {limits : List Limit} → ReadsLimits ts limits → (n : ℕ) → length ts < n → (rest : List Placed) → level_bound sum < looseness rest → limit_next rest ≡ None →
    (turns : ℕ) → length limits ≤ turns → limits_of (parse n) turns (ts ++ rest) ≡ Some (limits, rest)
unfolding limits_of and_then
limits_read no_limit n h rest s o zero t = refl
limits_read no_limit n h [] s o (suc turns) t = refl
limits_read no_limit n h (x ∷ rest) s o (suc turns) t = rw o refl
limits_read (a_limit p lower d e) n h rest s o zero t = absurd (omega arith)
limits_read (a_limit p lower {ts = ts} {us = us} d e) n h rest s o (suc turns) t =
    rw (
      append_assoc ts us rest,
      limit_back lower,
      part d n (omega (arith, length-append ts us, h)) (us ++ rest) (limits_first (λ (l : List Placed). level_bound sum < looseness l) limit_loose e rest s),
      limits_read e n (omega (arith, length-append ts us, h)) rest s o turns (omega arith),
    ) refl

kind_read : {ts : List Placed} {kind : Option Word} → ReadsKind ts kind → (rest : List Placed) → kind_next rest ≡ None → kind_of (ts ++ rest) ≡ (kind, rest)
kind_read no_kind [] o = refl
kind_read no_kind (t ∷ rest) o = rw o refl
kind_read (a_kind p w h) rest o = rw h refl

not_binary : (w : Word) (limits : List Limit) → (Some w ≡ Some WBinary → limits ≡ []) → (if is_binary (Some w) then has_no_limits limits else true) ≡ true
not_binary WBinary [] h = refl
not_binary WBinary (l ∷ limits) h = let e : l ∷ limits ≡ [] = h refl in cc
not_binary _ limits h = refl

binary_test : (kind : Option Word) (limits : List Limit) → (kind ≡ Some WBinary → limits ≡ []) → (if is_binary kind then has_no_limits limits else true) ≡ true
binary_test None limits h = refl
binary_test (Some w) limits h = not_binary w limits h

kept_test : (kind : Option Word) (limits : List Limit) → LimitsKept kind limits → limits_kept kind limits ≡ true
kept_test kind limits h = rw (le-leb _ _ h.0, le-leb _ _ h.1, binary_test kind limits h.2) refl

limit_no_bracket : (p : Place) (lower : Bool) (l : List Placed) → expect_token is_left_bracket (placed p (limit_token lower) ∷ l) ≡ None
limit_no_bracket p true l = refl
limit_no_bracket p false l = refl

limit_no_kind : (p : Place) (lower : Bool) (l : List Placed) → kind_next (placed p (limit_token lower) ∷ l) ≡ None
limit_no_kind p true l = refl
limit_no_kind p false l = refl

var_read : {ts us vs ws xs : List Placed} {brackets : Option Bracket} {kind : Option Word} {limits : List Limit} {priority startval : Option (Place × Expr)} → LimitsKept kind limits → ReadsBrackets ts brackets → ReadsKind us kind → ReadsLimits vs limits →
    ReadsGiven WPriority ws priority → ReadsGiven WStartval xs startval → (n : ℕ) → length (ts ++ (us ++ (vs ++ (ws ++ xs)))) < n → (z : Place) (rest : List Placed) →
    var_of (parse n) ((ts ++ (us ++ (vs ++ (ws ++ xs)))) ++ ended_by z rest) ≡ Some (shape.Var brackets kind limits priority startval, ended_by z rest)
unfolding var_of and_then
var_read {ts = ts} {us = us} {vs = vs} {ws = ws} {xs = xs} {kind = kind} {limits = limits} k b c d f g n h z rest =
    let last : List Placed = ended_by z rest in
    let size : length ts + length us + length vs + length ws + length xs < n =
    omega (arith, length-append ts (us ++ (vs ++ (ws ++ xs))), length-append us (vs ++ (ws ++ xs)), length-append vs (ws ++ xs), length-append ws xs, h) in
    let no_bracket_next : expect_token is_left_bracket (us ++ (vs ++ (ws ++ (xs ++ last)))) ≡ None =
    kind_first (λ (l : List Placed). expect_token is_left_bracket l ≡ None) (λ p w l. refl) c _
    (limits_first (λ (l : List Placed). expect_token is_left_bracket l ≡ None) limit_no_bracket d _
    (given_first WPriority (λ (l : List Placed). expect_token is_left_bracket l ≡ None) (λ p l. refl) f _
    (given_first WStartval (λ (l : List Placed). expect_token is_left_bracket l ≡ None) (λ p l. refl) g _ refl))) in
    let no_kind_next : kind_next (vs ++ (ws ++ (xs ++ last))) ≡ None =
    limits_first (λ (l : List Placed). kind_next l ≡ None) limit_no_kind d _
    (given_first WPriority (λ (l : List Placed). kind_next l ≡ None) (λ p l. refl) f _
    (given_first WStartval (λ (l : List Placed). kind_next l ≡ None) (λ p l. refl) g _ refl)) in
    let no_limit_next : limit_next (ws ++ (xs ++ last)) ≡ None =
    given_first WPriority (λ (l : List Placed). limit_next l ≡ None) (λ p l. refl) f _
    (given_first WStartval (λ (l : List Placed). limit_next l ≡ None) (λ p l. refl) g _ refl) in
    let loose_first : level_bound sum < looseness (ws ++ (xs ++ last)) =
    given_first WPriority (λ (l : List Placed). level_bound sum < looseness l) (λ p l. omega arith) f _
    (given_first WStartval (λ (l : List Placed). level_bound sum < looseness l) (λ p l. omega arith) g _ (omega arith)) in
    let loose_second : level_bound sum < looseness (xs ++ last) = given_first WStartval (λ (l : List Placed). level_bound sum < looseness l) (λ p l. omega arith) g _ (omega arith) in
    let no_priority_next : expect_token is_priority (xs ++ last) ≡ None = given_first WStartval (λ (l : List Placed). expect_token is_priority l ≡ None) (λ p l. refl) g _ refl in
    let enough : length limits ≤ length (vs ++ (ws ++ (xs ++ last))) = omega (arith, length-append vs (ws ++ (xs ++ last)), limits_count d) in
    rw (
      append_assoc ts (us ++ (vs ++ (ws ++ xs))) last,
      append_assoc us (vs ++ (ws ++ xs)) last,
      append_assoc vs (ws ++ xs) last,
      append_assoc ws xs last,
      brackets_read b n (omega (arith, size)) (us ++ (vs ++ (ws ++ (xs ++ last)))) no_bracket_next,
      kind_read c (vs ++ (ws ++ (xs ++ last))) no_kind_next,
      limits_read d n (omega (arith, size)) (ws ++ (xs ++ last)) loose_first no_limit_next (length (vs ++ (ws ++ (xs ++ last)))) enough,
      given_read is_priority refl f n (omega (arith, size)) (xs ++ last) loose_second no_priority_next,
      given_read is_startval refl g n (omega (arith, size)) last (omega arith) refl,
      kept_test kind limits k,
    ) refl

-- `do`

printed_plain : (inner : Inner) (s : Start) (ts : List Placed) → starts_less s ≡ false → printed_at inner s ts ≡ and_then (inner disjunction ts) (λ value left. Some (printed.Value value, left))
printed_plain inner a_less ts h = no (sym h)
printed_plain inner _ ts h = refl

printed_by_start : (n : ℕ) (s : Start) (ts rest : List Placed) (value : Expr) → (starts_less s ≡ true → MemberFirst n (ts ++ rest)) → parse n disjunction (ts ++ rest) ≡ Some (value, rest) →
    printed_at (parse n) s (ts ++ rest) ≡ Some (printed.Value value, rest)
unfolding and_then
printed_by_start n a_less ts rest value m e = let f = m refl in rw (f.reads, f.follows, e) refl
printed_by_start n _ ts rest value m e = rw e refl

printed_read : {ts : List Placed} {item : Printed} → ReadsPrinted ts item → (n : ℕ) → length ts < n → (rest : List Placed) → level_bound disjunction < looseness rest → expect is_in rest ≡ None →
    printed_of (parse n) (ts ++ rest) ≡ Some (item, rest)
unfolding printed_of and_then
printed_read (a_printed_value {ts = ts} {value = value} d) n h rest s i =
    printed_by_start n (start_of (ts ++ rest)) ts rest value (λ l. member_first d n h rest l) (part d n h rest s)
printed_read (a_printed_tuple (a_tuple q r {ts = ts} l)) n h rest s i = rw (tuple_reads (complete_list l) q r n (omega (arith, length-append ts (placed r (sign_token SGreater) ∷ []), h)) rest, i) refl

printed_listed : {ts : List Placed} {items : List Printed} → ReadsPrintedList ts items → (n : ℕ) → length ts < n → (rest : List Placed) → level_bound disjunction < looseness rest → expect is_in rest ≡ None → Listed (printed_of (parse n)) rest ts items
printed_listed (the_last_printed {ts = ts} d) n h rest s i = last_item ts (printed_read d n h rest s i)
printed_listed (one_more_printed p {ts = ts} {us = us} d e) n h rest s i =
    next_item p ts us (printed_read d n (omega (arith, length-append ts (placed p (sign_token SComma) ∷ us), h)) (placed p (sign_token SComma) ∷ (us ++ rest)) (omega arith) refl)
    (printed_listed e n (omega (arith, length-append ts (placed p (sign_token SComma) ∷ us), h)) rest s i)

doing_read : {ts : List Placed} {doing : Doing} → ReadsDoing ts doing → (n : ℕ) → length ts ≤ n → (z : Place) (rest : List Placed) → (depth : ℕ) → length ts ≤ depth →
    doing_of (parse n) depth (ts ++ ended_by z rest) ≡ Some (doing, ended_by z rest)
unfolding doing_of and_then
doing_read (a_print p d) n h z rest zero t = absurd (omega arith)
doing_read (a_print p d) n h z rest (suc depth) t = rw (listed_items (printed_listed d n (omega arith) (ended_by z rest) (omega arith) refl) refl) refl
doing_read (a_check p d) n h z rest zero t = absurd (omega arith)
doing_read (a_check p d) n h z rest (suc depth) t = rw (part d n (omega arith) (ended_by z rest) (omega arith)) refl
doing_read (for_each p q with_do d e) n h z rest zero t = absurd (omega arith)
doing_read (for_each p q true {ts = ts} {us = us} d e) n h z rest (suc depth) t =
    let l1 : length ts ≤ n = omega (arith, length-append ts (placed q (separator_token true) ∷ us), h) in
    let l2 : length us ≤ n = omega (arith, length-append ts (placed q (separator_token true) ∷ us), h) in
    let l3 : length us ≤ depth = omega (arith, length-append ts (placed q (separator_token true) ∷ us), t) in
    rw (
      append_assoc ts (placed q (separator_token true) ∷ us) (ended_by z rest),
      (complete_index_of d).indices n l1 (placed q (separator_token true) ∷ (us ++ ended_by z rest)) (omega arith) refl,
      doing_read e n l2 z rest depth l3,
    ) refl
doing_read (for_each p q false {ts = ts} {us = us} d e) n h z rest (suc depth) t =
    let l1 : length ts ≤ n = omega (arith, length-append ts (placed q (separator_token false) ∷ us), h) in
    let l2 : length us ≤ n = omega (arith, length-append ts (placed q (separator_token false) ∷ us), h) in
    let l3 : length us ≤ depth = omega (arith, length-append ts (placed q (separator_token false) ∷ us), t) in
    rw (
      append_assoc ts (placed q (separator_token false) ∷ us) (ended_by z rest),
      (complete_index_of d).indices n l1 (placed q (separator_token false) ∷ (us ++ ended_by z rest)) (omega arith) refl,
      doing_read e n l2 z rest depth l3,
    ) refl

-- functions

names_listed : {ts : List Placed} {names : List (Place × List ℕ)} → ReadsNames ts names → (rest : List Placed) → Listed name_of rest ts names
unfolding name_of
names_listed (the_last_name p name) rest = last_item (placed p (name_token name) ∷ []) refl
names_listed (one_more_name p q name {ts = ts} d) rest = next_item q (placed p (name_token name) ∷ []) ts refl (names_listed d rest)

names_first : {ts : List Placed} {names : List (Place × List ℕ)} → ReadsNames ts names → (rest : List Placed) → expect is_right_paren (ts ++ rest) ≡ None
names_first (the_last_name p name) rest = refl
names_first (one_more_name p q name d) rest = refl

parameters_read : {ts : List Placed} {names : List (Place × List ℕ)} → ReadsParameters ts names → (q : Place) (rest : List Placed) → parameters_of (ts ++ (placed q (sign_token SRightParen) ∷ rest)) ≡ Some (names, rest)
unfolding and_then
parameters_read no_parameter q rest = refl
parameters_read (the_parameters d) q rest = rw (names_first d (placed q (sign_token SRightParen) ∷ rest), listed_items (names_listed d (placed q (sign_token SRightParen) ∷ rest)) refl) refl

definition_read : (w : Word) (r s t : Place) {ts us : List Placed} {names : List (Place × List ℕ)} {inside : Expr} → ReadsParameters ts names → Reads disjunction us inside → (n : ℕ) → length us < n → (z : Place) (rest : List Placed) →
    definition_of (parse n) w ((placed r (sign_token SLeftParen) ∷ (ts ++ (placed s (sign_token SRightParen) ∷ (placed t (sign_token SAssign) ∷ us)))) ++ ended_by z rest) ≡ Some (shape.Define w names inside, ended_by z rest)
unfolding and_then
definition_read w r s t {ts = ts} {us = us} d e n h z rest =
    rw (
      append_assoc ts (placed s (sign_token SRightParen) ∷ (placed t (sign_token SAssign) ∷ us)) (ended_by z rest),
      parameters_read d s (placed t (sign_token SAssign) ∷ (us ++ ended_by z rest)),
      part e n h (ended_by z rest) (omega arith),
    ) refl

defines : (inner : Inner) (w : Word) (ts : List Placed) → is_definition w ≡ true → declared_of inner w ts ≡ definition_of inner w ts
defines inner WDefnumb ts h = refl
defines inner WDefstrg ts h = refl
defines inner WDefbool ts h = refl
defines inner WDefset ts h = refl
defines inner _ ts h = no h

named_read : (inner : Inner) (p q : Place) (name : List ℕ) (w : Word) (ts : List Placed) → is_definition w ≡ true →
    behind_word inner p w (placed q (name_token name) ∷ ts) ≡ and_then (declared_of inner w ts) (λ what left. Some (record { first = p; at = q; name = name; shape = what }, left))
unfolding name_of and_then
named_read inner p q name WDefnumb ts h = refl
named_read inner p q name WDefstrg ts h = refl
named_read inner p q name WDefbool ts h = refl
named_read inner p q name WDefset ts h = refl
named_read inner p q name _ ts h = no h

-- statements

-- the tokens of a statement without its `;` are its first word and what is read behind it
record ShapeRead (n : ℕ) (p q : Place) (name : List ℕ) (ts : List Placed) (what : Shape) : Type 0 where
  word : Word
  behind : List Placed
  is_first : ts ≡ word_at p word ∷ behind
  reads : (z : Place) (rest : List Placed) → behind_word (parse n) p word (behind ++ ended_by z rest) ≡ Some (record { first = p; at = q; name = name; shape = what }, ended_by z rest)

shape_read : {p q : Place} {name : List ℕ} {ts : List Placed} {what : Shape} → ReadsShape p q name ts what → (n : ℕ) → length ts ≤ n → ShapeRead n p q name ts what
unfolding name_of and_then
shape_read (a_set_statement p q r name {ts = ts} {us = us} d e) n h =
    let l1 : length ts ≤ n = omega (arith, length-append ts (placed r (sign_token SAssign) ∷ us), h) in
    let l2 : length us < n = omega (arith, length-append ts (placed r (sign_token SAssign) ∷ us), h) in
    record {
      word = WSet;
      behind = placed q (name_token name) ∷ (ts ++ placed r (sign_token SAssign) ∷ us);
      is_first = refl;
      reads = λ z rest. rw (append_assoc ts (placed r (sign_token SAssign) ∷ us) (ended_by z rest), set_brackets_read d n l1 (placed r (sign_token SAssign) ∷ (us ++ ended_by z rest)) refl, set_side_read e n l2 z rest) refl;
    }
shape_read (a_param_statement p q r name {ts = ts} {us = us} d e) n h =
    let l1 : length ts ≤ n = omega (arith, length-append ts (placed r (sign_token SAssign) ∷ us), h) in
    let l2 : length us < n = omega (arith, length-append ts (placed r (sign_token SAssign) ∷ us), h) in
    record {
      word = WParam;
      behind = placed q (name_token name) ∷ (ts ++ placed r (sign_token SAssign) ∷ us);
      is_first = refl;
      reads = λ z rest. rw (append_assoc ts (placed r (sign_token SAssign) ∷ us) (ended_by z rest), brackets_read d n l1 (placed r (sign_token SAssign) ∷ (us ++ ended_by z rest)) refl, par_side_read e n l2 z rest) refl;
    }
shape_read (a_var_statement p q name {ts = ts} {us = us} {vs = vs} {ws = ws} {xs = xs} k b c d f g) n h = record {
  word = WVar;
  behind = placed q (name_token name) ∷ (ts ++ (us ++ (vs ++ (ws ++ xs))));
  is_first = refl;
  reads = λ z rest. rw (var_read k b c d f g n (omega arith) z rest) refl;
}
shape_read (a_goal_statement p q r true name {ts = ts} d) n h = record {
  word = goal_word true;
  behind = placed q (name_token name) ∷ (placed r (sign_token SColon) ∷ ts);
  is_first = refl;
  reads = λ z rest. rw (part d n (omega arith) (ended_by z rest) (omega arith)) refl;
}
shape_read (a_goal_statement p q r false name {ts = ts} d) n h = record {
  word = goal_word false;
  behind = placed q (name_token name) ∷ (placed r (sign_token SColon) ∷ ts);
  is_first = refl;
  reads = λ z rest. rw (part d n (omega arith) (ended_by z rest) (omega arith)) refl;
}
shape_read (a_subto_statement p q r name {ts = ts} d) n h = record {
  word = WSubto;
  behind = placed q (name_token name) ∷ (placed r (sign_token SColon) ∷ ts);
  is_first = refl;
  reads = λ z rest. rw (part d n (omega arith) (ended_by z rest) (omega arith)) refl;
}
shape_read (a_definition p q r s t w name {ts = ts} {us = us} k d e) n h =
    let tail : List Placed = placed r (sign_token SLeftParen) ∷ (ts ++ (placed s (sign_token SRightParen) ∷ (placed t (sign_token SAssign) ∷ us))) in
    let l : length us < n = omega (arith, length-append ts (placed s (sign_token SRightParen) ∷ (placed t (sign_token SAssign) ∷ us)), h) in
    record {
      word = w;
      behind = placed q (name_token name) ∷ tail;
      is_first = refl;
      reads = λ z rest. named_read (parse n) p q name w (tail ++ ended_by z rest) k ∙ rw (defines (parse n) w (tail ++ ended_by z rest) k, definition_read w r s t d e n l z rest) refl;
    }
shape_read (a_do_statement p {ts = ts} d) n h = record {
  word = WDo;
  behind = ts;
  is_first = refl;
  reads = λ z rest. rw (doing_read d n (omega arith) z rest (length (ts ++ ended_by z rest)) (omega (arith, length-append ts (ended_by z rest)))) refl;
}

-- a statement is what the parser reads from its tokens
pub statement_read : {ts : List Placed} {stmt : Stmt} → ReadsStatement ts stmt → (n : ℕ) → length ts ≤ n → whole_statement (parse n) ts ≡ Some (stmt, [])
unfolding whole_statement and_then
statement_read (a_statement p q r name {ts = ts} {what = what} d) n h =
    let s = shape_read d n (omega (arith, length-append ts (placed r (sign_token SSemicolon) ∷ []), h)) in
    rw (s.is_first, s.reads r []) refl

-- the same tokens are at most one statement
pub same_statement : {ts : List Placed} {first second : Stmt} → ReadsStatement ts first → ReadsStatement ts second → first ≡ second
same_statement {ts = ts} {first = first} {second = second} d e =
    let none : List Placed = [] in
    let same : (first, none) ≡ (second, none) = same_Some (first, none) (second, none) (sym (statement_read d (length ts) (omega arith)) ∙ statement_read e (length ts) (omega arith)) in
    ap (λ (x : Stmt × List Placed). x.0) same
