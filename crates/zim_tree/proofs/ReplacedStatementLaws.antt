-- A derivation of a statement with its places mapped by a function is one of the statement with its places mapped by it.
use Rattle.std.proofs.Common.{◌≡◌, ℕ, suc, ◌+◌, cond, Bool, not, List, [], ◌∷◌, map, length, Option, option_map, refl, sym, ap, ◌∙◌, subst}
use Rattle.std.specs.List.{count_by}
use Rattle.std.proofs.lemmas.List.Sums.{sum_by-cons}
use Rattle.zim_fault.specs.declared.faults.Place.{Place}
use Rattle.zim_fault.specs.declared.tokens.Placed.{Placed}
use Rattle.zim_fault.specs.declared.words.Word.{Word}
use Rattle.zim_tree.specs.declared.expr.Expr.{Expr}
use Rattle.zim_tree.specs.declared.expr.Angle.{Angle}
use Rattle.zim_tree.specs.declared.expr.Index.{Index}
use Rattle.zim_tree.specs.declared.stmt.Stmt.{Stmt}
use Rattle.zim_tree.specs.declared.stmt.Shape.{Shape}
use Rattle.zim_tree.specs.declared.stmt.Bracket.{Bracket}
use Rattle.zim_tree.specs.declared.stmt.SetSide.{SetSide}
use Rattle.zim_tree.specs.declared.stmt.ParSide.{ParSide}
use Rattle.zim_tree.specs.declared.stmt.Table.{Table}
use Rattle.zim_tree.specs.declared.stmt.Limit.{Limit}
use Rattle.zim_tree.specs.declared.stmt.Reading.{Reading}
use Rattle.zim_tree.specs.declared.stmt.Doing.{Doing, Doing-F, roll-Doing, map-Doing, fold-roll-Doing}
use Rattle.zim_tree.specs.declared.stmt.Doing.TheVariants as doing
use Rattle.zim_tree.specs.declared.stmt.Printed.{Printed}
use Rattle.zim_tree.specs.StatementGrammar.{AtMostOnce, is_skip, is_use, is_comment, LimitsKept, ReadsOptions, no_option, an_option, ReadsReading, a_reading, ReadsEntries, the_last_entry, one_more_entry, ReadsRows, the_last_row, one_more_row, ReadsTable, a_table, ReadsGiven, not_given, is_given, ReadsSetSide, a_set, a_set_read, a_family, a_set_for_each, sets_listed, ReadsParSide, a_value, a_value_read, a_value_for_each, values_listed, values_in_table, values_read, the_default, ReadsBracket, a_bracket_loop, a_bracket_over, ReadsBrackets, no_bracket, a_bracket, ReadsSetBrackets, filled_or_none, empty_brackets, ReadsKind, no_kind, a_kind, ReadsLimits, no_limit, a_limit, ReadsPrinted, a_printed_value, a_printed_tuple, ReadsPrintedList, the_last_printed, one_more_printed, ReadsDoing, a_print, a_check, for_each, ReadsNames, the_last_name, one_more_name, ReadsParameters, no_parameter, the_parameters, ReadsShape, a_set_statement, a_param_statement, a_var_statement, a_goal_statement, a_subto_statement, a_definition, a_do_statement, ReadsStatement, a_statement}
use Rattle.zim_tree.specs.Plain.{replaced, replaced_index, replaced_tokens}
use Rattle.zim_tree.proofs.ReplacedLaws.{replaced-Func}
use Rattle.zim_tree.specs.PlainStatement.{replaced_bracket, replaced_given, replaced_option, replaced_reading, replaced_entry, replaced_row, replaced_table, replaced_set_side, replaced_par_side, replaced_limit, replaced_printed, with_doing_places, replaced_doing, replaced_parameter, replaced_shape, replaced_statement}
use Rattle.zim_tree.proofs.ReplacedDerivationLaws.{tokens_append, reads_replaced, list_replaced, tuple_replaced, index_replaced}

count_options : (put : Place → Place) (p : Word → Bool) (options : List (Place × Word × Expr)) → count_by (λ (x : Place × Word × Expr). p x.1) (map (replaced_option put) options) ≡ count_by (λ (x : Place × Word × Expr). p x.1) options
count_options put p [] = refl
count_options put p (x ∷ options) =
    sum_by-cons (λ (y : Place × Word × Expr). cond (p y.1) 1 0) (replaced_option put x) (map (replaced_option put) options)
    ∙ ap (λ n. cond (p x.1) 1 0 + n) (count_options put p options)
    ∙ sym (sum_by-cons (λ (y : Place × Word × Expr). cond (p y.1) 1 0) x options)

once_replaced : (put : Place → Place) (options : List (Place × Word × Expr)) → AtMostOnce options → AtMostOnce (map (replaced_option put) options)
once_replaced put options h = (rw (count_options put is_skip options) h.0, rw (count_options put is_use options) h.1, rw (count_options put is_comment options) h.2)

options_replaced : (put : Place → Place) {ts : List Placed} {options : List (Place × Word × Expr)} → ReadsOptions ts options → ReadsOptions (replaced_tokens put ts) (map (replaced_option put) options)
options_replaced put no_option = no_option
options_replaced put (an_option p w h d e) = rw (tokens_append put) (an_option (put p) w h (reads_replaced put d) (options_replaced put e))

reading_replaced : (put : Place → Place) {ts : List Placed} {reading : Reading} → ReadsReading ts reading → ReadsReading (replaced_tokens put ts) (replaced_reading put reading)
reading_replaced put (a_reading p q {options = options} h d e f) = simp (tokens_append put) (a_reading (put p) (put q) (once_replaced put options h) (reads_replaced put d) (reads_replaced put e) (options_replaced put f))

entries_replaced : (put : Place → Place) {ts : List Placed} {entries : List (Angle × Expr)} → ReadsEntries ts entries → ReadsEntries (replaced_tokens put ts) (map (replaced_entry put) entries)
entries_replaced put (the_last_entry d e) = rw (tokens_append put) (the_last_entry (tuple_replaced put d) (reads_replaced put e))
entries_replaced put (one_more_entry p d e f) = simp (tokens_append put) (one_more_entry (put p) (tuple_replaced put d) (reads_replaced put e) (entries_replaced put f))

length_replaced : (put : Place → Place) (es : List Expr) → length (map (replaced put) es) ≡ length es
length_replaced put [] = refl
length_replaced put (e ∷ es) = ap suc (length_replaced put es)

rows_replaced : (put : Place → Place) {columns : ℕ} {ts : List Placed} {rows : List (List Expr × List Expr)} → ReadsRows columns ts rows → ReadsRows columns (replaced_tokens put ts) (map (replaced_row put) rows)
rows_replaced put (the_last_row p q r {values = values} h d e) = simp (tokens_append put) (the_last_row (put p) (put q) (put r) (length_replaced put values ∙ h) (list_replaced put d) (list_replaced put e))
rows_replaced put (one_more_row p q r {values = values} h d e f) = simp (tokens_append put) (one_more_row (put p) (put q) (put r) (length_replaced put values ∙ h) (list_replaced put d) (list_replaced put e) (rows_replaced put f))

table_replaced : (put : Place → Place) {ts : List Placed} {table : Table} → ReadsTable ts table → ReadsTable (replaced_tokens put ts) (replaced_table put table)
table_replaced put (a_table p q {us = us} {head = head} {rows = rows} d e) =
    rw (tokens_append put) (a_table (put p) (put q) (list_replaced put d) (subst (λ n. ReadsRows n (replaced_tokens put us) (map (replaced_row put) rows)) (sym (length_replaced put head)) (rows_replaced put e)))

given_replaced : (put : Place → Place) {w : Word} {ts : List Placed} {given : Option (Place × Expr)} → ReadsGiven w ts given → ReadsGiven w (replaced_tokens put ts) (option_map (replaced_given put) given)
given_replaced put not_given = not_given
given_replaced put (is_given p d) = is_given (put p) (reads_replaced put d)

set_side_replaced : (put : Place → Place) {brackets : Option Bracket} {ts : List Placed} {side : SetSide} → ReadsSetSide brackets ts side → ReadsSetSide (option_map (replaced_bracket put) brackets) (replaced_tokens put ts) (replaced_set_side put side)
set_side_replaced put (a_set d) = a_set (reads_replaced put d)
set_side_replaced put (a_set_read p q d) = rw (tokens_append put) (a_set_read (put p) (put q) (reading_replaced put d))
set_side_replaced put (a_family p q r w {given = given} h d) = rw (replaced-Func put p w given, tokens_append put) (a_family (put p) (put q) (put r) w h (list_replaced put d))
set_side_replaced put (a_set_for_each d) = a_set_for_each (reads_replaced put d)
set_side_replaced put (sets_listed d) = sets_listed (entries_replaced put d)

par_side_replaced : (put : Place → Place) {brackets : Option Bracket} {ts : List Placed} {side : ParSide} → ReadsParSide brackets ts side → ReadsParSide (option_map (replaced_bracket put) brackets) (replaced_tokens put ts) (replaced_par_side put side)
par_side_replaced put (a_value d) = a_value (reads_replaced put d)
par_side_replaced put (a_value_read d) = a_value_read (reading_replaced put d)
par_side_replaced put (a_value_for_each d) = a_value_for_each (reads_replaced put d)
par_side_replaced put (values_listed d e) = rw (tokens_append put) (values_listed (entries_replaced put d) (given_replaced put e))
par_side_replaced put (values_in_table d e) = rw (tokens_append put) (values_in_table (table_replaced put d) (given_replaced put e))
par_side_replaced put (values_read d e) = rw (tokens_append put) (values_read (reading_replaced put d) (given_replaced put e))
par_side_replaced put (the_default p d) = the_default (put p) (reads_replaced put d)

bracket_replaced : (put : Place → Place) {ts : List Placed} {inside : Bracket} → ReadsBracket ts inside → ReadsBracket (replaced_tokens put ts) (replaced_bracket put inside)
bracket_replaced put (a_bracket_loop p q d) = rw (tokens_append put) (a_bracket_loop (put p) (put q) (index_replaced put d))
bracket_replaced put (a_bracket_over p q d) = rw (tokens_append put) (a_bracket_over (put p) (put q) (reads_replaced put d))

brackets_replaced : (put : Place → Place) {ts : List Placed} {inside : Option Bracket} → ReadsBrackets ts inside → ReadsBrackets (replaced_tokens put ts) (option_map (replaced_bracket put) inside)
brackets_replaced put no_bracket = no_bracket
brackets_replaced put (a_bracket d) = a_bracket (bracket_replaced put d)

set_brackets_replaced : (put : Place → Place) {ts : List Placed} {inside : Option Bracket} → ReadsSetBrackets ts inside → ReadsSetBrackets (replaced_tokens put ts) (option_map (replaced_bracket put) inside)
set_brackets_replaced put (filled_or_none d) = filled_or_none (brackets_replaced put d)
set_brackets_replaced put (empty_brackets p q) = empty_brackets (put p) (put q)

kind_replaced : (put : Place → Place) {ts : List Placed} {kind : Option Word} → ReadsKind ts kind → ReadsKind (replaced_tokens put ts) kind
kind_replaced put no_kind = no_kind
kind_replaced put (a_kind p w h) = a_kind (put p) w h

limits_replaced : (put : Place → Place) {ts : List Placed} {limits : List Limit} → ReadsLimits ts limits → ReadsLimits (replaced_tokens put ts) (map (replaced_limit put) limits)
limits_replaced put no_limit = no_limit
limits_replaced put (a_limit p lower d e) = rw (tokens_append put) (a_limit (put p) lower (reads_replaced put d) (limits_replaced put e))

count_limits : (put : Place → Place) (p : Bool → Bool) (limits : List Limit) → count_by (λ (l : Limit). p l.lower) (map (replaced_limit put) limits) ≡ count_by (λ (l : Limit). p l.lower) limits
count_limits put p [] = refl
count_limits put p (l ∷ limits) =
    sum_by-cons (λ (y : Limit). cond (p y.lower) 1 0) (replaced_limit put l) (map (replaced_limit put) limits)
    ∙ ap (λ n. cond (p l.lower) 1 0 + n) (count_limits put p limits)
    ∙ sym (sum_by-cons (λ (y : Limit). cond (p y.lower) 1 0) l limits)

kept_replaced : (put : Place → Place) (kind : Option Word) (limits : List Limit) → LimitsKept kind limits → LimitsKept kind (map (replaced_limit put) limits)
kept_replaced put kind limits h = (rw (count_limits put (λ b. b) limits) h.0, rw (count_limits put (λ b. not b) limits) h.1, λ e. ap (map (replaced_limit put)) (h.2 e))

printed_replaced : (put : Place → Place) {ts : List Placed} {item : Printed} → ReadsPrinted ts item → ReadsPrinted (replaced_tokens put ts) (replaced_printed put item)
printed_replaced put (a_printed_value d) = a_printed_value (reads_replaced put d)
printed_replaced put (a_printed_tuple d) = a_printed_tuple (tuple_replaced put d)

printed_list_replaced : (put : Place → Place) {ts : List Placed} {items : List Printed} → ReadsPrintedList ts items → ReadsPrintedList (replaced_tokens put ts) (map (replaced_printed put) items)
printed_list_replaced put (the_last_printed d) = the_last_printed (printed_replaced put d)
printed_list_replaced put (one_more_printed p d e) = rw (tokens_append put) (one_more_printed (put p) (printed_replaced put d) (printed_list_replaced put e))

at_doing : (put : Place → Place) (d : Doing-F Doing) → replaced_doing put (roll-Doing d) ≡ with_doing_places put (map-Doing Doing Doing (replaced_doing put) d)
at_doing put = fold-roll-Doing Doing (with_doing_places put)

replaced-Print : (put : Place → Place) (place : Place) (items : List Printed) → replaced_doing put (doing.Print place items) ≡ doing.Print (put place) (map (replaced_printed put) items)
replaced-Print put place items = ap (replaced_doing put) (sym (doing.rolls-Print place items)) ∙ at_doing put (Doing-F.Print place items)

replaced-Check : (put : Place → Place) (place : Place) (test : Expr) → replaced_doing put (doing.Check place test) ≡ doing.Check (put place) (replaced put test)
replaced-Check put place test = ap (replaced_doing put) (sym (doing.rolls-Check place test)) ∙ at_doing put (Doing-F.Check place test)

replaced-Forall : (put : Place → Place) (place : Place) (index : Index) (with_do : Bool) (inside : Doing) → replaced_doing put (doing.Forall place index with_do inside) ≡ doing.Forall (put place) (replaced_index put index) with_do (replaced_doing put inside)
replaced-Forall put place index with_do inside = ap (replaced_doing put) (sym (doing.rolls-Forall place index with_do inside)) ∙ at_doing put (Doing-F.Forall place index with_do inside)

doing_replaced : (put : Place → Place) {ts : List Placed} {doing : Doing} → ReadsDoing ts doing → ReadsDoing (replaced_tokens put ts) (replaced_doing put doing)
doing_replaced put (a_print p {items = items} d) = rw (replaced-Print put p items) (a_print (put p) (printed_list_replaced put d))
doing_replaced put (a_check p {test = test} d) = rw (replaced-Check put p test) (a_check (put p) (reads_replaced put d))
doing_replaced put (for_each p q with_do {index = index} {inside = inside} d e) = rw (replaced-Forall put p index with_do inside, tokens_append put) (for_each (put p) (put q) with_do (index_replaced put d) (doing_replaced put e))

names_replaced : (put : Place → Place) {ts : List Placed} {names : List (Place × List ℕ)} → ReadsNames ts names → ReadsNames (replaced_tokens put ts) (map (replaced_parameter put) names)
names_replaced put (the_last_name p name) = the_last_name (put p) name
names_replaced put (one_more_name p q name d) = one_more_name (put p) (put q) name (names_replaced put d)

parameters_replaced : (put : Place → Place) {ts : List Placed} {names : List (Place × List ℕ)} → ReadsParameters ts names → ReadsParameters (replaced_tokens put ts) (map (replaced_parameter put) names)
parameters_replaced put no_parameter = no_parameter
parameters_replaced put (the_parameters d) = the_parameters (names_replaced put d)

shape_replaced : (put : Place → Place) {p q : Place} {name : List ℕ} {ts : List Placed} {what : Shape} → ReadsShape p q name ts what → ReadsShape (put p) (put q) name (replaced_tokens put ts) (replaced_shape put what)
shape_replaced put (a_set_statement p q r name d e) = rw (tokens_append put) (a_set_statement (put p) (put q) (put r) name (set_brackets_replaced put d) (set_side_replaced put e))
shape_replaced put (a_param_statement p q r name d e) = rw (tokens_append put) (a_param_statement (put p) (put q) (put r) name (brackets_replaced put d) (par_side_replaced put e))
shape_replaced put (a_var_statement p q name {kind = kind} {limits = limits} k b c d f g) =
    simp (tokens_append put) (a_var_statement (put p) (put q) name (kept_replaced put kind limits k) (brackets_replaced put b) (kind_replaced put c) (limits_replaced put d) (given_replaced put f) (given_replaced put g))
shape_replaced put (a_goal_statement p q r maximize name d) = a_goal_statement (put p) (put q) (put r) maximize name (reads_replaced put d)
shape_replaced put (a_subto_statement p q r name d) = a_subto_statement (put p) (put q) (put r) name (reads_replaced put d)
shape_replaced put (a_definition p q r s t w name h d e) = rw (tokens_append put) (a_definition (put p) (put q) (put r) (put s) (put t) w name h (parameters_replaced put d) (reads_replaced put e))
shape_replaced put (a_do_statement p d) = a_do_statement (put p) (doing_replaced put d)

pub statement_replaced : (put : Place → Place) {ts : List Placed} {stmt : Stmt} → ReadsStatement ts stmt → ReadsStatement (replaced_tokens put ts) (replaced_statement put stmt)
statement_replaced put (a_statement p q r name d) = rw (tokens_append put) (a_statement (put p) (put q) (put r) name (shape_replaced put d))
