-- A statement that has a derivation is made of its parts.
use Rattle.std.proofs.Common.{ℕ, ◌≡◌, List, ◌∷◌, length, Option, Some}
use Rattle.zim_fault.specs.declared.faults.Place.{Place}
use Rattle.zim_fault.specs.declared.tokens.Placed.{Placed}
use Rattle.zim_fault.specs.declared.words.Word.{Word}
use Rattle.zim_tree.specs.declared.expr.Expr.{Expr}
use Rattle.zim_tree.specs.declared.expr.Angle.{Angle}
use Rattle.zim_tree.specs.declared.expr.Index.{Index}
use Rattle.zim_tree.specs.declared.stmt.Stmt.{Stmt}
use Rattle.zim_tree.specs.declared.stmt.Shape.{Shape}
use Rattle.zim_tree.specs.declared.stmt.Bracket.{Bracket}
use Rattle.zim_tree.specs.declared.stmt.Bracket.TheVariants.{Loop, Over}
use Rattle.zim_tree.specs.declared.stmt.SetSide.{SetSide}
use Rattle.zim_tree.specs.declared.stmt.ParSide.{ParSide}
use Rattle.zim_tree.specs.declared.stmt.Table.{Table}
use Rattle.zim_tree.specs.declared.stmt.Limit.{Limit}
use Rattle.zim_tree.specs.declared.stmt.Reading.{Reading}
use Rattle.zim_tree.specs.declared.stmt.Doing.{Doing}
use Rattle.zim_tree.specs.declared.stmt.Printed.{Printed}
use Rattle.zim_tree.specs.Levels.{unary}
use Rattle.zim_tree.specs.Grammar.{ReadsList, the_last, one_more}
use Rattle.zim_tree.specs.StatementGrammar.{ReadsOptions, no_option, an_option, ReadsReading, a_reading, ReadsEntries, the_last_entry, one_more_entry, ReadsRows, the_last_row, one_more_row, ReadsTable, a_table, ReadsGiven, not_given, is_given, ReadsSetSide, a_set, a_set_read, a_family, a_set_for_each, sets_listed, ReadsParSide, a_value, a_value_read, a_value_for_each, values_listed, values_in_table, values_read, the_default, a_bracket_loop, a_bracket_over, ReadsBrackets, no_bracket, a_bracket, ReadsSetBrackets, filled_or_none, ReadsKind, no_kind, a_kind, ReadsLimits, no_limit, a_limit, a_printed_value, a_printed_tuple, ReadsPrintedList, the_last_printed, one_more_printed, ReadsDoing, a_print, a_check, for_each, ReadsShape, a_set_statement, a_param_statement, a_var_statement, a_goal_statement, a_subto_statement, a_definition, a_do_statement, ReadsStatement, a_statement}
use Rattle.zim_tree.specs.Made.{Made, MadeIndex, made_none, made_one}
use Rattle.zim_tree.specs.StatementMade.{MadeOptions, made_no_option, made_one_option, MadeReading, made_reading, MadeEntries, made_no_entry, made_one_entry, MadeRows, made_no_row, made_one_row, MadeTable, made_table, MadeGiven, made_not_given, made_given, MadeBrackets, made_no_brackets, made_loop_brackets, made_over_brackets, MadeSet, made_set_value, made_set_read, made_family, made_set_for_each, made_sets_listed, MadeParam, made_value, made_value_read, made_value_for_each, made_values_listed, made_values_in_table, made_values_read, made_default, MadeKind, made_no_kind, made_kind, MadeLimits, made_no_limit, made_one_limit, MadePrinted, made_none_printed, made_value_printed, made_tuple_printed, MadeDoing, made_print, made_check, made_for_each, made_set, made_param, made_var, made_goal, made_subto, made_definition, MadeStatement, made_declaration, made_do}
use Rattle.zim_tree.proofs.MadeLemmas.{reads-made, list-made, tuple-made, index-made}

options-made : {ts : List Placed} {options : List (Place × Word × Expr)} → ReadsOptions ts options → MadeOptions options
options-made no_option = made_no_option
options-made (an_option p word h d e) = made_one_option p word h (reads-made d) (options-made e)

reading-made : {ts : List Placed} {reading : Reading} → ReadsReading ts reading → MadeReading reading
reading-made (a_reading p q h d e f) = made_reading q h (reads-made d) (reads-made e) (options-made f)

entries-made : {ts : List Placed} {entries : List (Angle × Expr)} → ReadsEntries ts entries → MadeEntries entries
entries-made (the_last_entry d e) = made_one_entry (tuple-made d) (reads-made e) made_no_entry
entries-made (one_more_entry p d e f) = made_one_entry (tuple-made d) (reads-made e) (entries-made f)

-- a row before other rows
row-made : {columns : ℕ} {ts us : List Placed} {items values : List Expr} {rows : List (List Expr × List Expr)} → length values ≡ columns →
    ReadsList unary ts items → ReadsList unary us values → MadeRows columns rows → MadeRows columns ((items, values) ∷ rows)
row-made h (the_last d) e m = made_one_row h (made_one (reads-made d) made_none) (list-made e) m
row-made h (one_more p d e) f m = made_one_row h (made_one (reads-made d) (list-made e)) (list-made f) m

rows-made : {columns : ℕ} {ts : List Placed} {rows : List (List Expr × List Expr)} → ReadsRows columns ts rows → MadeRows columns rows
rows-made (the_last_row p q r h d e) = row-made h d e made_no_row
rows-made (one_more_row p q r h d e f) = row-made h d e (rows-made f)

-- a head over rows
headed-made : {ts : List Placed} {head : List Expr} {row : List Expr × List Expr} {rows : List (List Expr × List Expr)} → ReadsList unary ts head →
    MadeRows (length head) (row ∷ rows) → MadeTable (record { head = head; rows = row ∷ rows })
headed-made (the_last d) m = made_table (made_one (reads-made d) made_none) m
headed-made (one_more p d e) m = made_table (made_one (reads-made d) (list-made e)) m

table-made : {ts : List Placed} {table : Table} → ReadsTable ts table → MadeTable table
table-made (a_table p q d (the_last_row r s t h e f)) = headed-made d (row-made h e f made_no_row)
table-made (a_table p q d (one_more_row r s t h e f g)) = headed-made d (row-made h e f (rows-made g))

given-made : {word : Word} {ts : List Placed} {given : Option (Place × Expr)} → ReadsGiven word ts given → MadeGiven given
given-made not_given = made_not_given
given-made (is_given p d) = made_given p (reads-made d)

brackets-made : {ts : List Placed} {brackets : Option Bracket} → ReadsBrackets ts brackets → MadeBrackets brackets
brackets-made no_bracket = made_no_brackets
brackets-made (a_bracket (a_bracket_loop p q d)) = made_loop_brackets (index-made d)
brackets-made (a_bracket (a_bracket_over p q d)) = made_over_brackets (reads-made d)

-- an index in brackets
loop-made : {ts : List Placed} {index : Index} → ReadsBrackets ts (Some (Loop index)) → MadeIndex index
loop-made (a_bracket (a_bracket_loop p q d)) = index-made d

-- a set in brackets
over-made : {ts : List Placed} {over : Expr} → ReadsBrackets ts (Some (Over over)) → Made over
over-made (a_bracket (a_bracket_over p q d)) = reads-made d

set-made : {ts us : List Placed} {brackets : Option Bracket} {side : SetSide} → ReadsSetBrackets ts brackets → ReadsSetSide brackets us side → MadeSet brackets side
set-made b (a_set d) = made_set_value (reads-made d)
set-made b (a_set_read p q d) = made_set_read (reading-made d)
set-made b (a_family p q r word h (the_last d)) = made_family p word h (made_one (reads-made d) made_none)
set-made b (a_family p q r word h (one_more s d e)) = made_family p word h (made_one (reads-made d) (list-made e))
set-made (filled_or_none b) (a_set_for_each d) = made_set_for_each (loop-made b) (reads-made d)
set-made (filled_or_none b) (sets_listed (the_last_entry d e)) = made_sets_listed (over-made b) (made_one_entry (tuple-made d) (reads-made e) made_no_entry)
set-made (filled_or_none b) (sets_listed (one_more_entry p d e f)) =
    made_sets_listed (over-made b) (made_one_entry (tuple-made d) (reads-made e) (entries-made f))

param-made : {ts us : List Placed} {brackets : Option Bracket} {side : ParSide} → ReadsBrackets ts brackets → ReadsParSide brackets us side → MadeParam brackets side
param-made b (a_value d) = made_value (reads-made d)
param-made b (a_value_read d) = made_value_read (reading-made d)
param-made b (a_value_for_each d) = made_value_for_each (loop-made b) (reads-made d)
param-made b (values_listed (the_last_entry d e) f) =
    made_values_listed (over-made b) (made_one_entry (tuple-made d) (reads-made e) made_no_entry) (given-made f)
param-made b (values_listed (one_more_entry p d e f) g) =
    made_values_listed (over-made b) (made_one_entry (tuple-made d) (reads-made e) (entries-made f)) (given-made g)
param-made b (values_in_table d e) = made_values_in_table (over-made b) (table-made d) (given-made e)
param-made b (values_read d e) = made_values_read (over-made b) (reading-made d) (given-made e)
param-made b (the_default p d) = made_default p (over-made b) (reads-made d)

kind-made : {ts : List Placed} {kind : Option Word} → ReadsKind ts kind → MadeKind kind
kind-made no_kind = made_no_kind
kind-made (a_kind p word h) = made_kind word h

limits-made : {ts : List Placed} {limits : List Limit} → ReadsLimits ts limits → MadeLimits limits
limits-made no_limit = made_no_limit
limits-made (a_limit p lower d e) = made_one_limit p lower (reads-made d) (limits-made e)

printed-made : {ts : List Placed} {items : List Printed} → ReadsPrintedList ts items → MadePrinted items
printed-made (the_last_printed (a_printed_value d)) = made_value_printed (reads-made d) made_none_printed
printed-made (the_last_printed (a_printed_tuple d)) = made_tuple_printed (tuple-made d) made_none_printed
printed-made (one_more_printed p (a_printed_value d) e) = made_value_printed (reads-made d) (printed-made e)
printed-made (one_more_printed p (a_printed_tuple d) e) = made_tuple_printed (tuple-made d) (printed-made e)

doing-made : {ts : List Placed} {doing : Doing} → ReadsDoing ts doing → MadeDoing doing
doing-made (a_print p (the_last_printed d)) = made_print p (printed-made (the_last_printed d))
doing-made (a_print p (one_more_printed q d e)) = made_print p (printed-made (one_more_printed q d e))
doing-made (a_check p d) = made_check p (reads-made d)
doing-made (for_each p q with_do d e) = made_for_each p with_do (index-made d) (doing-made e)

shape-made : {p q : Place} {name : List ℕ} {ts : List Placed} {shape : Shape} → ReadsShape p q name ts shape →
    MadeStatement (record { first = p; at = q; name = name; shape = shape })
shape-made (a_set_statement p q r name d e) = made_declaration p q name (made_set (set-made d e))
shape-made (a_param_statement p q r name d e) = made_declaration p q name (made_param (param-made d e))
shape-made (a_var_statement p q name h d e f g i) =
    made_declaration p q name (made_var h (brackets-made d) (kind-made e) (limits-made f) (given-made g) (given-made i))
shape-made (a_goal_statement p q r maximize name d) = made_declaration p q name (made_goal maximize (reads-made d))
shape-made (a_subto_statement p q r name d) = made_declaration p q name (made_subto (reads-made d))
shape-made (a_definition p q r s t word name {parameters = parameters} h d e) = made_declaration p q name (made_definition word parameters h (reads-made e))
shape-made (a_do_statement p d) = made_do p (doing-made d)

-- the statement of a derivation is made of its parts
pub statement-made : {ts : List Placed} {stmt : Stmt} → ReadsStatement ts stmt → MadeStatement stmt
statement-made (a_statement p q r name d) = shape-made d
