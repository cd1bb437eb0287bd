-- The tokens of a derivation of a statement are the statement's spelling.
use Rattle.std.proofs.Common.{◌≡◌, ℕ, Bool, true, false, List, ◌∷◌, map, Option, refl, sym, ap, ◌∙◌, append-nil, append_assoc}
use Rattle.std.specs.List.{flat_map}
use Rattle.zim_fault.specs.declared.faults.Place.{Place}
use Rattle.zim_fault.specs.declared.tokens.Token.TheVariants.{Sign as sign_token}
use Rattle.zim_fault.specs.declared.tokens.Placed.{Placed}
use Rattle.zim_fault.specs.declared.signs.Sign.TheVariants.{SComma}
use Rattle.zim_fault.specs.declared.words.Word.{Word}
use Rattle.zim_tree.specs.declared.expr.Expr.{Expr}
use Rattle.zim_tree.specs.declared.expr.Angle.{Angle}
use Rattle.zim_tree.specs.declared.expr.Index.{Index}
use Rattle.zim_tree.specs.declared.stmt.Stmt.{Stmt}
use Rattle.zim_tree.specs.declared.stmt.Shape.{Shape}
use Rattle.zim_tree.specs.declared.stmt.Bracket.{Bracket}
use Rattle.zim_tree.specs.declared.stmt.SetSide.{SetSide}
use Rattle.zim_tree.specs.declared.stmt.ParSide.{ParSide}
use Rattle.zim_tree.specs.declared.stmt.Table.{Table}
use Rattle.zim_tree.specs.declared.stmt.Limit.{Limit}
use Rattle.zim_tree.specs.declared.stmt.Reading.{Reading}
use Rattle.zim_tree.specs.declared.stmt.Doing.{Doing, Doing-F, roll-Doing, map-Doing, fold-roll-Doing}
use Rattle.zim_tree.specs.declared.stmt.Doing.TheVariants.{Print, Check, Forall, rolls-Print, rolls-Check, rolls-Forall}
use Rattle.zim_tree.specs.declared.stmt.Printed.{Printed}
use Rattle.zim_tree.specs.StatementGrammar.{ReadsOptions, no_option, an_option, ReadsReading, a_reading, ReadsEntries, the_last_entry, one_more_entry, ReadsRows, the_last_row, one_more_row, ReadsTable, a_table, ReadsGiven, not_given, is_given, ReadsSetSide, a_set, a_set_read, a_family, a_set_for_each, sets_listed, ReadsParSide, a_value, a_value_read, a_value_for_each, values_listed, values_in_table, values_read, the_default, ReadsBracket, a_bracket_loop, a_bracket_over, ReadsBrackets, no_bracket, a_bracket, ReadsSetBrackets, filled_or_none, empty_brackets, ReadsKind, no_kind, a_kind, ReadsLimits, no_limit, a_limit, ReadsPrinted, a_printed_value, a_printed_tuple, ReadsPrintedList, the_last_printed, one_more_printed, ReadsDoing, a_print, a_check, for_each, ReadsNames, the_last_name, one_more_name, ReadsParameters, no_parameter, the_parameters, ReadsShape, a_set_statement, a_param_statement, a_var_statement, a_goal_statement, a_subto_statement, a_definition, a_do_statement, ReadsStatement, a_statement}
use Rattle.zim_tree.specs.Spelling.{Tokens, with_commas, after_commas}
use Rattle.zim_tree.specs.StatementSpelling.{bracket_spelling, brackets_spelling, option_spelling, reading_spelling, entry_spelling, entries_spelling, row_spelling, table_spelling, given_spelling, set_side_spelling, par_side_spelling, limit_spelling, kind_spelling, printed_spelling, doing_spelled, doing_spelling, parameter_spelling, shape_spelling, spelled_of}
use Rattle.zim_tree.proofs.SpellingLaws.{spelling-Func}
use Rattle.zim_tree.proofs.DerivationSpellingLaws.{tokens, tokens-append, reads-spelling, list-spelling, tuple-spelling, index-spelling}

options-spelling : {ts : List Placed} {options : List (Place × Word × Expr)} → ReadsOptions ts options → tokens ts ≡ flat_map option_spelling options
options-spelling no_option = refl
options-spelling (an_option p before h d e) = simp (tokens-append, reads-spelling d, options-spelling e)

reading-spelling : {ts : List Placed} {reading : Reading} → ReadsReading ts reading → tokens ts ≡ reading_spelling reading
reading-spelling (a_reading p q h d e f) = simp (tokens-append, reads-spelling d, reads-spelling e, options-spelling f)

comma_before_entry : {ts : List Placed} {entries : List (Angle × Expr)} → ReadsEntries ts entries →
    sign_token SComma ∷ entries_spelling entries ≡ after_commas (map entry_spelling entries)
comma_before_entry (the_last_entry d e) = refl
comma_before_entry (one_more_entry p d e f) = refl

entries-spelling : {ts : List Placed} {entries : List (Angle × Expr)} → ReadsEntries ts entries → tokens ts ≡ entries_spelling entries
entries-spelling (the_last_entry d e) = simp (tokens-append, append-nil, tuple-spelling d, reads-spelling e)
entries-spelling (one_more_entry p d e f) =
    rw (← comma_before_entry f) (simp (tokens-append, append_assoc, tuple-spelling d, reads-spelling e, entries-spelling f))

rows-spelling : {columns : ℕ} {ts : List Placed} {rows : List (List Expr × List Expr)} → ReadsRows columns ts rows → tokens ts ≡ flat_map row_spelling rows
rows-spelling (the_last_row p q r h d e) = simp (tokens-append, append_assoc, append-nil, list-spelling d, list-spelling e)
rows-spelling (one_more_row p q r h d e f) = simp (tokens-append, append_assoc, list-spelling d, list-spelling e, rows-spelling f)

table-spelling : {ts : List Placed} {table : Table} → ReadsTable ts table → tokens ts ≡ table_spelling table
table-spelling (a_table p q d e) = simp (tokens-append, append_assoc, list-spelling d, rows-spelling e)

given-spelling : {word : Word} {ts : List Placed} {given : Option (Place × Expr)} → ReadsGiven word ts given → tokens ts ≡ given_spelling word given
given-spelling not_given = refl
given-spelling (is_given p d) = simp (reads-spelling d)

set_side-spelling : {brackets : Option Bracket} {ts : List Placed} {side : SetSide} → ReadsSetSide brackets ts side → tokens ts ≡ set_side_spelling side
set_side-spelling (a_set d) = reads-spelling d
set_side-spelling (a_set_read p q d) = simp (tokens-append, reading-spelling d)
set_side-spelling (a_family p q r word h d) = rw (spelling-Func p word _) (simp (tokens-append, list-spelling d))
set_side-spelling (a_set_for_each d) = reads-spelling d
set_side-spelling (sets_listed d) = entries-spelling d

par_side-spelling : {brackets : Option Bracket} {ts : List Placed} {side : ParSide} → ReadsParSide brackets ts side → tokens ts ≡ par_side_spelling side
par_side-spelling (a_value d) = reads-spelling d
par_side-spelling (a_value_read d) = simp append-nil (reading-spelling d)
par_side-spelling (a_value_for_each d) = reads-spelling d
par_side-spelling (values_listed d e) = simp (tokens-append, entries-spelling d, given-spelling e)
par_side-spelling (values_in_table d e) = simp (tokens-append, table-spelling d, given-spelling e)
par_side-spelling (values_read d e) = simp (tokens-append, reading-spelling d, given-spelling e)
par_side-spelling (the_default p d) = simp (reads-spelling d)

bracket-spelling : {ts : List Placed} {bracket : Bracket} → ReadsBracket ts bracket → tokens ts ≡ bracket_spelling bracket
bracket-spelling (a_bracket_loop p q d) = simp (tokens-append, index-spelling d)
bracket-spelling (a_bracket_over p q d) = simp (tokens-append, reads-spelling d)

brackets-spelling : {ts : List Placed} {brackets : Option Bracket} → ReadsBrackets ts brackets → tokens ts ≡ brackets_spelling brackets
brackets-spelling no_bracket = refl
brackets-spelling (a_bracket d) = bracket-spelling d

set_brackets-spelling : {ts : List Placed} {brackets : Option Bracket} → ReadsSetBrackets ts brackets → tokens ts ≡ brackets_spelling brackets
set_brackets-spelling (filled_or_none d) = brackets-spelling d
set_brackets-spelling (empty_brackets p q) = refl

kind-spelling : {ts : List Placed} {kind : Option Word} → ReadsKind ts kind → tokens ts ≡ kind_spelling kind
kind-spelling no_kind = refl
kind-spelling (a_kind p kind h) = refl

limits-spelling : {ts : List Placed} {limits : List Limit} → ReadsLimits ts limits → tokens ts ≡ flat_map limit_spelling limits
limits-spelling no_limit = refl
limits-spelling (a_limit p lower d e) = simp (tokens-append, reads-spelling d, limits-spelling e)

printed-spelling : {ts : List Placed} {item : Printed} → ReadsPrinted ts item → tokens ts ≡ printed_spelling item
printed-spelling (a_printed_value d) = reads-spelling d
printed-spelling (a_printed_tuple d) = tuple-spelling d

comma_before_printed : {ts : List Placed} {items : List Printed} → ReadsPrintedList ts items →
    sign_token SComma ∷ with_commas (map printed_spelling items) ≡ after_commas (map printed_spelling items)
comma_before_printed (the_last_printed d) = refl
comma_before_printed (one_more_printed p d e) = refl

printed_list-spelling : {ts : List Placed} {items : List Printed} → ReadsPrintedList ts items → tokens ts ≡ with_commas (map printed_spelling items)
printed_list-spelling (the_last_printed d) = simp (append-nil, printed-spelling d)
printed_list-spelling (one_more_printed p d e) = rw (← comma_before_printed e) (simp (tokens-append, printed-spelling d, printed_list-spelling e))

at_doing : (d : Doing-F Doing) → doing_spelling (roll-Doing d) ≡ doing_spelled (map-Doing Doing Tokens doing_spelling d)
at_doing = fold-roll-Doing Tokens doing_spelled

spelling-Print : (place : Place) (items : List Printed) → doing_spelling (Print place items) ≡ doing_spelled (Doing-F.Print place items)
spelling-Print place items = ap doing_spelling (sym (rolls-Print place items)) ∙ at_doing (Doing-F.Print place items)

spelling-Check : (place : Place) (test : Expr) → doing_spelling (Check place test) ≡ doing_spelled (Doing-F.Check place test)
spelling-Check place test = ap doing_spelling (sym (rolls-Check place test)) ∙ at_doing (Doing-F.Check place test)

spelling-Forall : (place : Place) (index : Index) (with_do : Bool) (inside : Doing) →
    doing_spelling (Forall place index with_do inside) ≡ doing_spelled (Doing-F.Forall place index with_do (doing_spelling inside))
spelling-Forall place index with_do inside =
    ap doing_spelling (sym (rolls-Forall place index with_do inside)) ∙ at_doing (Doing-F.Forall place index with_do inside)

doing-spelling : {ts : List Placed} {doing : Doing} → ReadsDoing ts doing → tokens ts ≡ doing_spelling doing
doing-spelling (a_print p d) = rw (spelling-Print p _) (simp (printed_list-spelling d))
doing-spelling (a_check p d) = rw (spelling-Check p _) (simp (reads-spelling d))
doing-spelling (for_each p q true d e) = rw (spelling-Forall p _ true _) (simp (tokens-append, index-spelling d, doing-spelling e))
doing-spelling (for_each p q false d e) = rw (spelling-Forall p _ false _) (simp (tokens-append, index-spelling d, doing-spelling e))

comma_before_name : {ts : List Placed} {names : List (Place × List ℕ)} → ReadsNames ts names →
    sign_token SComma ∷ with_commas (map parameter_spelling names) ≡ after_commas (map parameter_spelling names)
comma_before_name (the_last_name p name) = refl
comma_before_name (one_more_name p q name d) = refl

names-spelling : {ts : List Placed} {names : List (Place × List ℕ)} → ReadsNames ts names → tokens ts ≡ with_commas (map parameter_spelling names)
names-spelling (the_last_name p name) = refl
names-spelling (one_more_name p q name d) = rw (← comma_before_name d) (simp (names-spelling d))

parameters-spelling : {ts : List Placed} {names : List (Place × List ℕ)} → ReadsParameters ts names → tokens ts ≡ with_commas (map parameter_spelling names)
parameters-spelling no_parameter = refl
parameters-spelling (the_parameters d) = names-spelling d

shape-spelling : {p q : Place} {name : List ℕ} {ts : List Placed} {shape : Shape} → ReadsShape p q name ts shape → tokens ts ≡ shape_spelling name shape
shape-spelling (a_set_statement p q r name d e) = simp (tokens-append, set_brackets-spelling d, set_side-spelling e)
shape-spelling (a_param_statement p q r name d e) = simp (tokens-append, brackets-spelling d, par_side-spelling e)
shape-spelling (a_var_statement p q name h d e f g i) =
    simp (tokens-append, brackets-spelling d, kind-spelling e, limits-spelling f, given-spelling g, given-spelling i)
shape-spelling (a_goal_statement p q r maximize name d) = simp (reads-spelling d)
shape-spelling (a_subto_statement p q r name d) = simp (reads-spelling d)
shape-spelling (a_definition p q r s t before name h d e) = simp (tokens-append, parameters-spelling d, reads-spelling e)
shape-spelling (a_do_statement p d) = simp (doing-spelling d)

pub statement-spelling : {ts : List Placed} {stmt : Stmt} → ReadsStatement ts stmt → tokens ts ≡ spelled_of stmt
statement-spelling (a_statement p q r name d) = simp (tokens-append, shape-spelling d)
