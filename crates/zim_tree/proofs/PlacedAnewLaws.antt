-- Tokens that have a derivation as a statement have one at any other places.
use Rattle.std.proofs.Common.{◌≡◌, ℕ, ◌+◌, cond, Bool, true, false, not, List, [], ◌∷◌, ◌++◌, Option, Some, None, refl, sym, ap, ◌∙◌, subst, true≢false}
use Rattle.std.specs.List.{count_by}
use Rattle.std.proofs.lemmas.List.Sums.{sum_by-cons}
use Rattle.zim_fault.specs.declared.faults.Place.{Place}
use Rattle.zim_fault.specs.declared.tokens.Token.TheVariants.{Sign as sign_token}
use Rattle.zim_fault.specs.declared.tokens.Placed.{Placed}
use Rattle.zim_fault.specs.declared.signs.Sign.TheVariants.{SSemicolon, SAssign, SBar}
use Rattle.zim_fault.specs.declared.words.Word.{Word}
use Rattle.zim_fault.specs.declared.words.Word.TheVariants.{WSet, WParam, WVar, WRead, WAs, WPriority, WStartval}
use Rattle.zim_tree.specs.declared.expr.Expr.{Expr}
use Rattle.zim_tree.specs.declared.expr.Angle.{Angle}
use Rattle.zim_tree.specs.declared.expr.Index.{Index}
use Rattle.zim_tree.specs.declared.stmt.Stmt.{Stmt}
use Rattle.zim_tree.specs.declared.stmt.Shape.{Shape}
use Rattle.zim_tree.specs.declared.stmt.Bracket.{Bracket}
use Rattle.zim_tree.specs.declared.stmt.Bracket.TheVariants as bracket
use Rattle.zim_tree.specs.declared.stmt.SetSide.{SetSide}
use Rattle.zim_tree.specs.declared.stmt.ParSide.{ParSide}
use Rattle.zim_tree.specs.declared.stmt.Table.{Table}
use Rattle.zim_tree.specs.declared.stmt.Limit.{Limit}
use Rattle.zim_tree.specs.declared.stmt.Reading.{Reading}
use Rattle.zim_tree.specs.declared.stmt.Doing.{Doing}
use Rattle.zim_tree.specs.declared.stmt.Printed.{Printed}
use Rattle.zim_tree.specs.Levels.{sum, unary, placed}
use Rattle.zim_tree.specs.Grammar.{Reads}
use Rattle.zim_tree.specs.StatementGrammar.{AtMostOnce, is_option, is_skip, is_use, is_comment, LimitsKept, limit_token, word_at, declared, ReadsOptions, no_option, an_option, ReadsReading, a_reading, ReadsEntries, the_last_entry, one_more_entry, ReadsRows, the_last_row, one_more_row, ReadsTable, a_table, ReadsGiven, not_given, is_given, ReadsSetSide, a_set, a_set_read, a_family, a_set_for_each, sets_listed, ReadsParSide, a_value, a_value_read, a_value_for_each, values_listed, values_in_table, values_read, the_default, ReadsBracket, a_bracket_loop, a_bracket_over, ReadsBrackets, no_bracket, a_bracket, ReadsSetBrackets, filled_or_none, empty_brackets, ReadsKind, no_kind, a_kind, ReadsLimits, no_limit, a_limit, ReadsPrinted, a_printed_value, a_printed_tuple, ReadsPrintedList, the_last_printed, one_more_printed, ReadsDoing, a_print, a_check, for_each, ReadsNames, the_last_name, one_more_name, ReadsParameters, no_parameter, the_parameters, ReadsShape, a_set_statement, a_param_statement, a_var_statement, a_goal_statement, a_subto_statement, a_definition, a_do_statement, ReadsStatement, a_statement}
use Rattle.zim_tree.proofs.DerivationSpellingLaws.{tokens}
use Rattle.zim_tree.proofs.PlacedAnew.{at_places, at_places-append, places, at_their_places, SomeList, reads_anew, list_anew, tuple_anew, index_anew}

-- options of a `read`, with the same words as others
pub record SomeOptions (ts : List Placed) (others : List (Place × Word × Expr)) : Type 0 where
  pub options : List (Place × Word × Expr)
  pub read : ReadsOptions ts options
  pub as_many : (p : Word → Bool) → count_by (λ (x : Place × Word × Expr). p x.1) options ≡ count_by (λ (x : Place × Word × Expr). p x.1) others

one_more_option : {ts us : List Placed} {operand : Expr} {others : List (Place × Word × Expr)} (p q : Place) (w : Word) (given : Expr) → is_option w ≡ true → Reads sum ts operand →
    SomeOptions us others → SomeOptions (word_at p w ∷ (ts ++ us)) ((q, w, given) ∷ others)
one_more_option {operand = operand} {others = others} p q w given h d more = record {
  options = (p, w, operand) ∷ more.options;
  read = an_option p w h d more.read;
  as_many = λ f.
      sum_by-cons (λ (y : Place × Word × Expr). cond (f y.1) 1 0) (p, w, operand) more.options
      ∙ ap (λ n. cond (f w) 1 0 + n) (more.as_many f)
      ∙ sym (sum_by-cons (λ (y : Place × Word × Expr). cond (f y.1) 1 0) (q, w, given) others);
}

options_anew : (ps : List Place) {ts : List Placed} {options : List (Place × Word × Expr)} → ReadsOptions ts options → SomeOptions (at_places ps ts) options
options_anew ps no_option = record { options = []; read = no_option; as_many = λ f. refl }
options_anew ps (an_option p w {operand = operand} h d e) = rw at_places-append (one_more_option _ p w operand h (reads_anew _ d).1 (options_anew _ e))

once_anew : {ts : List Placed} {others : List (Place × Word × Expr)} (more : SomeOptions ts others) → AtMostOnce others → AtMostOnce more.options
once_anew more h = (rw (more.as_many is_skip) h.0, rw (more.as_many is_use) h.1, rw (more.as_many is_comment) h.2)

-- some `read`
abbrev SomeReading : List Placed → Type 0
SomeReading ts = (reading : Reading) × ReadsReading ts reading

found_reading : {ts : List Placed} {reading : Reading} → ReadsReading ts reading → SomeReading ts
found_reading {reading = reading} d = (reading, d)

reading_of : (p q : Place) {ts us vs : List Placed} {file template : Expr} {others : List (Place × Word × Expr)} → AtMostOnce others → Reads sum ts file → Reads sum us template →
    SomeOptions vs others → SomeReading (word_at p WRead ∷ (ts ++ (word_at q WAs ∷ (us ++ vs))))
reading_of p q h d e more = found_reading (a_reading p q (once_anew more h) d e more.read)

reading_anew : (ps : List Place) {ts : List Placed} {reading : Reading} → ReadsReading ts reading → SomeReading (at_places ps ts)
reading_anew ps (a_reading p q h d e f) =
    simp at_places-append (reading_of _ _ h (reads_anew _ d).1 (reads_anew _ e).1 (options_anew _ f))

-- some entries
abbrev SomeEntries : List Placed → Type 0
SomeEntries ts = (entries : List (Angle × Expr)) × ReadsEntries ts entries

found_entries : {ts : List Placed} {entries : List (Angle × Expr)} → ReadsEntries ts entries → SomeEntries ts
found_entries {entries = entries} d = (entries, d)

entries_anew : (ps : List Place) {ts : List Placed} {entries : List (Angle × Expr)} → ReadsEntries ts entries → SomeEntries (at_places ps ts)
entries_anew ps (the_last_entry d e) = rw at_places-append (found_entries (the_last_entry (tuple_anew _ d).1 (reads_anew _ e).1))
entries_anew ps (one_more_entry p d e f) =
    simp at_places-append (found_entries (one_more_entry _ (tuple_anew _ d).1 (reads_anew _ e).1 (entries_anew _ f).1))

-- some rows with so many columns
abbrev SomeRows : ℕ → List Placed → Type 0
SomeRows columns ts = (rows : List (List Expr × List Expr)) × ReadsRows columns ts rows

found_rows : {columns : ℕ} {ts : List Placed} {rows : List (List Expr × List Expr)} → ReadsRows columns ts rows → SomeRows columns ts
found_rows {rows = rows} d = (rows, d)

last_row_of : (p q r : Place) {ts us : List Placed} {items values columns : ℕ} → values ≡ columns → SomeList unary ts items → SomeList unary us values →
    SomeRows columns (placed p (sign_token SBar) ∷ (ts ++ (placed q (sign_token SBar) ∷ (us ++ placed r (sign_token SBar) ∷ []))))
last_row_of p q r h d e = found_rows (the_last_row p q r (e.2 ∙ h) d.1 e.1)

one_more_row_of : (p q r : Place) {ts us vs : List Placed} {items values columns : ℕ} → values ≡ columns → SomeList unary ts items → SomeList unary us values → SomeRows columns vs →
    SomeRows columns (placed p (sign_token SBar) ∷ (ts ++ (placed q (sign_token SBar) ∷ (us ++ placed r (sign_token SBar) ∷ vs))))
one_more_row_of p q r h d e rows = found_rows (one_more_row p q r (e.2 ∙ h) d.1 e.1 rows.1)

rows_anew : (ps : List Place) {columns : ℕ} {ts : List Placed} {rows : List (List Expr × List Expr)} → ReadsRows columns ts rows → SomeRows columns (at_places ps ts)
rows_anew ps (the_last_row p q r h d e) =
    simp at_places-append (last_row_of _ _ _ h (list_anew _ d) (list_anew _ e))
rows_anew ps (one_more_row p q r h d e f) =
    simp at_places-append (one_more_row_of _ _ _ h (list_anew _ d) (list_anew _ e) (rows_anew _ f))

-- some table
abbrev SomeTable : List Placed → Type 0
SomeTable ts = (table : Table) × ReadsTable ts table

found_table : {ts : List Placed} {table : Table} → ReadsTable ts table → SomeTable ts
found_table {table = table} d = (table, d)

table_of : (p q : Place) {ts us : List Placed} {columns : ℕ} → SomeList unary ts columns → SomeRows columns us →
    SomeTable (placed p (sign_token SBar) ∷ (ts ++ placed q (sign_token SBar) ∷ us))
table_of p q {us = us} head rows = found_table (a_table p q head.1 (subst (λ n. ReadsRows n us rows.0) (sym head.2) rows.1))

table_anew : (ps : List Place) {ts : List Placed} {table : Table} → ReadsTable ts table → SomeTable (at_places ps ts)
table_anew ps (a_table p q d e) = rw at_places-append (table_of _ _ (list_anew _ d) (rows_anew _ e))

-- a word and its operand, or nothing
abbrev SomeGiven : Word → List Placed → Type 0
SomeGiven w ts = (given : Option (Place × Expr)) × ReadsGiven w ts given

found_given : {w : Word} {ts : List Placed} {given : Option (Place × Expr)} → ReadsGiven w ts given → SomeGiven w ts
found_given {given = given} d = (given, d)

given_anew : (ps : List Place) {w : Word} {ts : List Placed} {given : Option (Place × Expr)} → ReadsGiven w ts given → SomeGiven w (at_places ps ts)
given_anew ps not_given = found_given not_given
given_anew ps (is_given p d) = found_given (is_given _ (reads_anew _ d).1)

-- brackets of the same form, which is what a right side depends on
data SameForm : Option Bracket → Option Bracket → Type 0 where
  no_brackets : SameForm None None
  both_empty : SameForm (Some bracket.Empty) (Some bracket.Empty)
  both_loops : (i j : Index) → SameForm (Some (bracket.Loop i)) (Some (bracket.Loop j))
  both_over : (a b : Expr) → SameForm (Some (bracket.Over a)) (Some (bracket.Over b))

-- some brackets of the same form as others
abbrev SomeBrackets : List Placed → Option Bracket → Type 0
SomeBrackets ts others = (brackets : Option Bracket) × ReadsBrackets ts brackets × SameForm others brackets

-- some brackets of a set, of the same form as others
abbrev SomeSetBrackets : List Placed → Option Bracket → Type 0
SomeSetBrackets ts others = (brackets : Option Bracket) × ReadsSetBrackets ts brackets × SameForm others brackets

loop_brackets : {ts : List Placed} (i j : Index) → ReadsBracket ts (bracket.Loop j) → SomeBrackets ts (Some (bracket.Loop i))
loop_brackets i j d = (Some (bracket.Loop j), a_bracket d, both_loops i j)

over_brackets : {ts : List Placed} (a b : Expr) → ReadsBracket ts (bracket.Over b) → SomeBrackets ts (Some (bracket.Over a))
over_brackets a b d = (Some (bracket.Over b), a_bracket d, both_over a b)

brackets_anew : (ps : List Place) {ts : List Placed} {brackets : Option Bracket} → ReadsBrackets ts brackets → SomeBrackets (at_places ps ts) brackets
brackets_anew ps no_bracket = (None, no_bracket, no_brackets)
brackets_anew ps (a_bracket (a_bracket_loop p q {index = index} d)) = rw at_places-append (loop_brackets index _ (a_bracket_loop _ _ (index_anew _ d).1))
brackets_anew ps (a_bracket (a_bracket_over p q {over = over} d)) = rw at_places-append (over_brackets over _ (a_bracket_over _ _ (reads_anew _ d).1))

set_brackets_anew : (ps : List Place) {ts : List Placed} {brackets : Option Bracket} → ReadsSetBrackets ts brackets → SomeSetBrackets (at_places ps ts) brackets
set_brackets_anew ps (filled_or_none d) = let x = brackets_anew ps d in (x.0, filled_or_none x.1, x.2)
set_brackets_anew ps (empty_brackets p q) = (Some bracket.Empty, empty_brackets _ _, both_empty)

-- some right side of a set with these brackets
abbrev SomeSetSide : Option Bracket → List Placed → Type 0
SomeSetSide brackets ts = (side : SetSide) × ReadsSetSide brackets ts side

found_set_side : {brackets : Option Bracket} {ts : List Placed} {side : SetSide} → ReadsSetSide brackets ts side → SomeSetSide brackets ts
found_set_side {side = side} d = (side, d)

set_side_anew : (ps : List Place) {brackets new : Option Bracket} {ts : List Placed} {side : SetSide} → ReadsSetSide brackets ts side → SameForm brackets new → SomeSetSide new (at_places ps ts)
set_side_anew ps (a_set d) no_brackets = found_set_side (a_set (reads_anew ps d).1)
set_side_anew ps (a_set_read p q d) no_brackets = rw at_places-append (found_set_side (a_set_read _ _ (reading_anew _ d).1))
set_side_anew ps (a_family p q r w h d) both_empty = rw at_places-append (found_set_side (a_family _ _ _ w h (list_anew _ d).1))
set_side_anew ps (a_set_for_each d) (both_loops i j) = found_set_side (a_set_for_each (reads_anew ps d).1)
set_side_anew ps (sets_listed d) (both_over a b) = found_set_side (sets_listed (entries_anew ps d).1)

-- some right side of a parameter with these brackets
abbrev SomeParSide : Option Bracket → List Placed → Type 0
SomeParSide brackets ts = (side : ParSide) × ReadsParSide brackets ts side

found_par_side : {brackets : Option Bracket} {ts : List Placed} {side : ParSide} → ReadsParSide brackets ts side → SomeParSide brackets ts
found_par_side {side = side} d = (side, d)

par_side_anew : (ps : List Place) {brackets new : Option Bracket} {ts : List Placed} {side : ParSide} → ReadsParSide brackets ts side → SameForm brackets new → SomeParSide new (at_places ps ts)
par_side_anew ps (a_value d) no_brackets = found_par_side (a_value (reads_anew ps d).1)
par_side_anew ps (a_value_read d) no_brackets = found_par_side (a_value_read (reading_anew ps d).1)
par_side_anew ps (a_value_for_each d) (both_loops i j) = found_par_side (a_value_for_each (reads_anew ps d).1)
par_side_anew ps (values_listed d e) (both_over a b) = rw at_places-append (found_par_side (values_listed (entries_anew _ d).1 (given_anew _ e).1))
par_side_anew ps (values_in_table d e) (both_over a b) = rw at_places-append (found_par_side (values_in_table (table_anew _ d).1 (given_anew _ e).1))
par_side_anew ps (values_read d e) (both_over a b) = rw at_places-append (found_par_side (values_read (reading_anew _ d).1 (given_anew _ e).1))
par_side_anew ps (the_default p d) (both_over a b) = found_par_side (the_default _ (reads_anew _ d).1)

kind_anew : (ps : List Place) {ts : List Placed} {kind : Option Word} → ReadsKind ts kind → ReadsKind (at_places ps ts) kind
kind_anew ps no_kind = no_kind
kind_anew ps (a_kind p w h) = a_kind _ w h

-- bounds, as many from below and from above as others
pub record SomeLimits (ts : List Placed) (others : List Limit) : Type 0 where
  pub limits : List Limit
  pub read : ReadsLimits ts limits
  pub as_many : (p : Bool → Bool) → count_by (λ (l : Limit). p l.lower) limits ≡ count_by (λ (l : Limit). p l.lower) others
  pub none : others ≡ [] → limits ≡ []

-- whether there is a bound
is_bounded : List Limit → Bool
is_bounded [] = false
is_bounded (l ∷ limits) = true

some_limit : (l : Limit) (limits : List Limit) → l ∷ limits ≡ [] → ⊥
unfolding is_bounded
some_limit l limits h = true≢false (ap is_bounded h)

one_more_limit : {ts us : List Placed} {side : Expr} {others : List Limit} (p q : Place) (lower : Bool) (given : Expr) → Reads sum ts side → SomeLimits us others →
    SomeLimits (placed p (limit_token lower) ∷ (ts ++ us)) (record { place = q; lower = lower; side = given } ∷ others)
one_more_limit {side = side} {others = others} p q lower given d more =
    let new : Limit = record { place = p; lower = lower; side = side } in
    let old : Limit = record { place = q; lower = lower; side = given } in
    record {
      limits = new ∷ more.limits;
      read = a_limit p lower d more.read;
      as_many = λ f.
          sum_by-cons (λ (y : Limit). cond (f y.lower) 1 0) new more.limits
          ∙ ap (λ n. cond (f lower) 1 0 + n) (more.as_many f)
          ∙ sym (sum_by-cons (λ (y : Limit). cond (f y.lower) 1 0) old others);
      none = λ h. absurd (some_limit old others h);
    }

limits_anew : (ps : List Place) {ts : List Placed} {limits : List Limit} → ReadsLimits ts limits → SomeLimits (at_places ps ts) limits
limits_anew ps no_limit = record { limits = []; read = no_limit; as_many = λ f. refl; none = λ h. refl }
limits_anew ps (a_limit p lower {side = side} d e) = rw at_places-append (one_more_limit _ p lower side (reads_anew _ d).1 (limits_anew _ e))

kept_anew : {ts : List Placed} {kind : Option Word} {others : List Limit} (more : SomeLimits ts others) → LimitsKept kind others → LimitsKept kind more.limits
kept_anew more h = (rw (more.as_many (λ b. b)) h.0, rw (more.as_many (λ b. not b)) h.1, λ e. more.none (h.2 e))

-- something that is printed
abbrev SomePrinted : List Placed → Type 0
SomePrinted ts = (item : Printed) × ReadsPrinted ts item

found_printed : {ts : List Placed} {item : Printed} → ReadsPrinted ts item → SomePrinted ts
found_printed {item = item} d = (item, d)

printed_anew : (ps : List Place) {ts : List Placed} {item : Printed} → ReadsPrinted ts item → SomePrinted (at_places ps ts)
printed_anew ps (a_printed_value d) = found_printed (a_printed_value (reads_anew ps d).1)
printed_anew ps (a_printed_tuple d) = found_printed (a_printed_tuple (tuple_anew ps d).1)

-- some things that are printed
abbrev SomePrintedList : List Placed → Type 0
SomePrintedList ts = (items : List Printed) × ReadsPrintedList ts items

found_printed_list : {ts : List Placed} {items : List Printed} → ReadsPrintedList ts items → SomePrintedList ts
found_printed_list {items = items} d = (items, d)

printed_list_anew : (ps : List Place) {ts : List Placed} {items : List Printed} → ReadsPrintedList ts items → SomePrintedList (at_places ps ts)
printed_list_anew ps (the_last_printed d) = found_printed_list (the_last_printed (printed_anew ps d).1)
printed_list_anew ps (one_more_printed p d e) = rw at_places-append (found_printed_list (one_more_printed _ (printed_anew _ d).1 (printed_list_anew _ e).1))

-- something that a `do` does
abbrev SomeDoing : List Placed → Type 0
SomeDoing ts = (doing : Doing) × ReadsDoing ts doing

found_doing : {ts : List Placed} {doing : Doing} → ReadsDoing ts doing → SomeDoing ts
found_doing {doing = doing} d = (doing, d)

doing_anew : {ts : List Placed} {doing : Doing} → ReadsDoing ts doing → (ps : List Place) → SomeDoing (at_places ps ts)
doing_anew (a_print p d) ps = found_doing (a_print _ (printed_list_anew _ d).1)
doing_anew (a_check p d) ps = found_doing (a_check _ (reads_anew _ d).1)
doing_anew (for_each p q with_do d e) ps = rw at_places-append (found_doing (for_each _ _ with_do (index_anew _ d).1 (doing_anew e _).1))

-- some names
abbrev SomeNames : List Placed → Type 0
SomeNames ts = (names : List (Place × List ℕ)) × ReadsNames ts names

found_names : {ts : List Placed} {names : List (Place × List ℕ)} → ReadsNames ts names → SomeNames ts
found_names {names = names} d = (names, d)

names_anew : (ps : List Place) {ts : List Placed} {names : List (Place × List ℕ)} → ReadsNames ts names → SomeNames (at_places ps ts)
names_anew ps (the_last_name p name) = found_names (the_last_name _ name)
names_anew ps (one_more_name p q name d) = found_names (one_more_name _ _ name (names_anew _ d).1)

-- some parameters of a function
abbrev SomeParameters : List Placed → Type 0
SomeParameters ts = (names : List (Place × List ℕ)) × ReadsParameters ts names

found_parameters : {ts : List Placed} {names : List (Place × List ℕ)} → ReadsParameters ts names → SomeParameters ts
found_parameters {names = names} d = (names, d)

parameters_anew : (ps : List Place) {ts : List Placed} {names : List (Place × List ℕ)} → ReadsParameters ts names → SomeParameters (at_places ps ts)
parameters_anew ps no_parameter = found_parameters no_parameter
parameters_anew ps (the_parameters d) = found_parameters (the_parameters (names_anew ps d).1)

-- some shape of a statement of this name, with the statement's two places
record SomeShape (name : List ℕ) (ts : List Placed) : Type 0 where
  at_word : Place
  at_name : Place
  what : Shape
  read : ReadsShape at_word at_name name ts what

found_shape : {p q : Place} {name : List ℕ} {ts : List Placed} {what : Shape} → ReadsShape p q name ts what → SomeShape name ts
found_shape {p = p} {q = q} {what = what} d = record { at_word = p; at_name = q; what = what; read = d }

set_of : (p q r : Place) (name : List ℕ) {ts us : List Placed} {others : Option Bracket} (brackets : SomeSetBrackets ts others) → SomeSetSide brackets.0 us →
    SomeShape name (declared p WSet q name (ts ++ placed r (sign_token SAssign) ∷ us))
set_of p q r name brackets side = found_shape (a_set_statement p q r name brackets.1 side.1)

param_of : (p q r : Place) (name : List ℕ) {ts us : List Placed} {others : Option Bracket} (brackets : SomeBrackets ts others) → SomeParSide brackets.0 us →
    SomeShape name (declared p WParam q name (ts ++ placed r (sign_token SAssign) ∷ us))
param_of p q r name brackets side = found_shape (a_param_statement p q r name brackets.1 side.1)

var_of : (p q : Place) (name : List ℕ) {ts us vs ws xs : List Placed} {others : Option Bracket} {kind : Option Word} {bounds : List Limit} → LimitsKept kind bounds → SomeBrackets ts others →
    ReadsKind us kind → SomeLimits vs bounds → SomeGiven WPriority ws → SomeGiven WStartval xs → SomeShape name (declared p WVar q name (ts ++ (us ++ (vs ++ (ws ++ xs)))))
var_of p q name h brackets kind limits priority startval = found_shape (a_var_statement p q name (kept_anew limits h) brackets.1 kind limits.read priority.1 startval.1)

shape_anew : (ps : List Place) {p q : Place} {name : List ℕ} {ts : List Placed} {what : Shape} → ReadsShape p q name ts what → SomeShape name (at_places ps ts)
shape_anew ps (a_set_statement p q r name d e) =
    rw at_places-append (set_of _ _ _ name (set_brackets_anew _ d) (set_side_anew _ e (set_brackets_anew _ d).2))
shape_anew ps (a_param_statement p q r name d e) =
    rw at_places-append (param_of _ _ _ name (brackets_anew _ d) (par_side_anew _ e (brackets_anew _ d).2))
shape_anew ps (a_var_statement p q name k b c d f g) =
    simp at_places-append (var_of _ _ name k (brackets_anew _ b) (kind_anew _ c) (limits_anew _ d) (given_anew _ f) (given_anew _ g))
shape_anew ps (a_goal_statement p q r maximize name d) = found_shape (a_goal_statement _ _ _ maximize name (reads_anew _ d).1)
shape_anew ps (a_subto_statement p q r name d) = found_shape (a_subto_statement _ _ _ name (reads_anew _ d).1)
shape_anew ps (a_definition p q r s t w name h d e) =
    rw at_places-append (found_shape (a_definition _ _ _ _ _ w name h (parameters_anew _ d).1 (reads_anew _ e).1))
shape_anew ps (a_do_statement p d) = found_shape (a_do_statement _ (doing_anew d _).1)

-- some statement that the tokens are
abbrev pub SomeStatement : List Placed → Type 0
SomeStatement ts = (s : Stmt) × ReadsStatement ts s

statement_of_shape : {name : List ℕ} {ts : List Placed} (r : Place) → SomeShape name ts → SomeStatement (ts ++ placed r (sign_token SSemicolon) ∷ [])
statement_of_shape {name = name} r x =
    (record { first = x.at_word; at = x.at_name; name = name; shape = x.what }, a_statement x.at_word x.at_name r name x.read)

statement_anew : (ps : List Place) {ts : List Placed} {s : Stmt} → ReadsStatement ts s → SomeStatement (at_places ps ts)
statement_anew ps (a_statement p q r name d) = rw at_places-append (statement_of_shape _ (shape_anew _ d))

-- tokens that are the same as those of a statement are a statement
pub statement_of_same : {us ts : List Placed} {s : Stmt} → ReadsStatement us s → tokens us ≡ tokens ts → SomeStatement ts
statement_of_same {us = us} {ts = ts} d h = subst SomeStatement (at_their_places ts us h) (statement_anew (places ts) d)
