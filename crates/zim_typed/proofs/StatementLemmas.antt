-- Typed statements that belong to statements suit the scope, where the statements are made of their parts.
use Rattle.std.proofs.Common.{ℕ, ◌+◌, cond, ◌≡◌, ◌≤◌, List, [], fold, Bool, true, not, Option, None, arith, refl, sym, ◌∙◌, subst}
use Rattle.zim_fault.specs.declared.faults.Place.{Place}
use Rattle.zim_fault.specs.declared.words.Word.{Word}
use Rattle.zim_tree.specs.declared.expr.Expr.{Expr}
use Rattle.zim_tree.specs.declared.expr.Angle.{Angle}
use Rattle.zim_tree.specs.declared.stmt.Stmt.{Stmt}
use Rattle.zim_tree.specs.declared.stmt.Shape.{Shape}
use Rattle.zim_tree.specs.declared.stmt.Bracket.{Bracket}
use Rattle.zim_tree.specs.declared.stmt.SetSide.{SetSide}
use Rattle.zim_tree.specs.declared.stmt.ParSide.{ParSide}
use Rattle.zim_tree.specs.declared.stmt.Table.{Table}
use Rattle.zim_tree.specs.declared.stmt.Limit.{Limit}
use Rattle.zim_tree.specs.declared.stmt.Reading.{Reading}
use Rattle.zim_tree.specs.declared.stmt.Doing.{Doing}
use Rattle.zim_tree.specs.declared.stmt.Printed.{Printed}
use Rattle.zim_tree.specs.StatementGrammar as tree
use Rattle.zim_tree.specs.StatementMade.{MadeOptions, MadeReading, MadeRows, MadeTable, MadeSet, MadeParam, MadeDeclaration, MadeStatement, made_no_option, made_one_option, made_reading, made_no_row, made_one_row, made_table, made_set_read, made_sets_listed, made_value_read, made_values_listed, made_values_in_table, made_values_read, made_set, made_param, made_var, made_goal, made_subto, made_definition, made_declaration, made_do}
use Rattle.zim_typed.specs.declared.constant.Const.{Const}
use Rattle.zim_typed.specs.declared.constant.TAngle.{TAngle}
use Rattle.zim_typed.specs.declared.statement.TStmt.{TStmt}
use Rattle.zim_typed.specs.declared.statement.TShape.{TShape}
use Rattle.zim_typed.specs.declared.statement.TBracket.{TBracket}
use Rattle.zim_typed.specs.declared.statement.TSetSide.{TSetSide}
use Rattle.zim_typed.specs.declared.statement.TParSide.{TParSide}
use Rattle.zim_typed.specs.declared.statement.TTable.{TTable}
use Rattle.zim_typed.specs.declared.statement.TLimit.{TLimit}
use Rattle.zim_typed.specs.declared.statement.TReading.{TReading}
use Rattle.zim_typed.specs.declared.statement.TDoing.{TDoing}
use Rattle.zim_typed.specs.declared.statement.TPrinted.{TPrinted}
use Rattle.zim_typed.specs.Scope.{Text, Names, Scope, kind_of_name, takes}
use Rattle.zim_typed.specs.Law.{IsNew}
use Rattle.zim_typed.specs.Constants.{one_const}
use Rattle.zim_typed.specs.Statements.{IsBound, AreLimits, IsGiven, AreOptions, IsReading, AreEntries, AreRows, IsTable, IsBrackets, IsSetSide, IsParam, ArePrinted, IsDoing, IsShape, IsTyped, is_value, is_infinity, is_signed_infinity, is_chosen, no_limit, one_limit, not_given, is_given, no_option, one_option, is_reading, no_entry, one_entry, no_row, one_row, is_table, no_brackets, loop_brackets, set_brackets, set_value, set_read, set_family, set_for_each, sets_listed, param_value, param_read, param_for_each, params_listed, params_in_table, params_read, param_default, none_printed, value_printed, tuple_printed, do_print, do_check, do_forall, is_set, is_param, is_var, is_goal, is_subto, is_definition, is_do, is_typed}
use Rattle.zim_typed.specs.SuitsStatement.{SuitsBound, LimitsSuit, SuitsGiven, OptionsSuit, SuitsReading, EntriesSuit, RowsSuit, SuitsTable, SuitsSet, SuitsParam, SuitsBrackets, PrintedSuit, SuitsDoing, SuitsShape, SuitsStatement, suits_value, suits_infinity, suits_signed_infinity, suits_chosen, suits_no_limit, suits_one_limit, suits_not_given, suits_given, suits_no_option, suits_one_option, suits_reading, suits_no_entry, suits_one_entry, suits_no_row, suits_one_row, suits_table, suits_set_value, suits_set_read, suits_family, suits_set_for_each, suits_sets_listed, suits_param_value, suits_param_read, suits_param_for_each, suits_params_listed, suits_params_in_table, suits_params_read, suits_default, suits_no_brackets, suits_loop_brackets, suits_set_brackets, suits_none_printed, suits_value_printed, suits_tuple_printed, suits_print, suits_check, suits_do_forall, suits_set, suits_param, suits_var, suits_goal, suits_subto, suits_definition, suits_declaration, suits_do}
use Rattle.zim_typed.proofs.ConstantLemmas.{as_many, const_suits, consts_suit, tuple_suits, loop_suits}
use Rattle.zim_typed.proofs.TermLemmas.{term_suits, con_suits}

bound_suits : {scope : Scope} {names : Names} {e : Expr} {c : Const} → IsBound scope names e c → SuitsBound scope names c
bound_suits (is_value c) = suits_value (const_suits c)
bound_suits (is_infinity p) = suits_infinity p
bound_suits (is_signed_infinity p q minus) = suits_signed_infinity p q minus
bound_suits (is_chosen p test branch otherwise) = suits_chosen p (const_suits test) (bound_suits branch) (bound_suits otherwise)

limits_suit : {scope : Scope} {names : Names} {limits : List Limit} {cs : List TLimit} → AreLimits scope names limits cs → LimitsSuit scope names cs
limits_suit no_limit = suits_no_limit
limits_suit (one_limit p lower side limits) = suits_one_limit p lower (bound_suits side) (limits_suit limits)

given_suits : {scope : Scope} {names : Names} {given : Option (Place × Expr)} {c : Option (Place × Const)} → IsGiven scope names given c → SuitsGiven scope names c
given_suits not_given = suits_not_given
given_suits (is_given p c) = suits_given p (const_suits c)

-- options keep their words
options_suit : {scope : Scope} {names : Names} {options : List (Place × Word × Expr)} {cs : List (Place × Word × Const)} → MadeOptions options → AreOptions scope names options cs → OptionsSuit scope names cs
options_suit made_no_option no_option = suits_no_option
options_suit (made_one_option p word is e others) (one_option q w c cs) = suits_one_option q is (const_suits c) (options_suit others cs)

-- and so as many are left that pass a test, counted on from a number
option_count : {scope : Scope} {names : Names} (test : Word → Bool) (n : ℕ) {options : List (Place × Word × Expr)} {cs : List (Place × Word × Const)} → AreOptions scope names options cs →
    fold (λ (a : ℕ) (x : Place × Word × Expr). a + cond (test x.1) 1 0) n options ≡ fold (λ (a : ℕ) (x : Place × Word × Const). a + cond (test x.1) 1 0) n cs
option_count test n no_option = refl
option_count test n (one_option p word c cs) = option_count test (n + cond (test word) 1 0) cs

-- each option stands at most once
once : {scope : Scope} {names : Names} {options : List (Place × Word × Expr)} {cs : List (Place × Word × Const)} → AreOptions scope names options cs → tree.AtMostOnce options → tree.AtMostOnce cs
once cs kept =
    (subst (λ n. n ≤ 1) (option_count tree.is_skip 0 cs) kept.0, subst (λ n. n ≤ 1) (option_count tree.is_use 0 cs) kept.1, subst (λ n. n ≤ 1) (option_count tree.is_comment 0 cs) kept.2)

reading_suits : {scope : Scope} {names : Names} {r : Reading} {t : TReading} → MadeReading r → IsReading scope names r t → SuitsReading scope names t
reading_suits (made_reading p kept file template options) (is_reading q c d cs) = suits_reading q (once cs kept) (const_suits c) (const_suits d) (options_suit options cs)

entries_suit : {scope : Scope} {names : Names} {entries : List (Angle × Expr)} {cs : List (TAngle × Const)} → AreEntries scope names entries cs → EntriesSuit scope names cs
entries_suit no_entry = suits_no_entry
entries_suit (one_entry t c cs) = suits_one_entry (tuple_suits t) (const_suits c) (entries_suit cs)

-- a row keeps the numbers of its items and of its values
rows_suit : {scope : Scope} {names : Names} {columns : ℕ} {rows : List (List Expr × List Expr)} {cs : List (List Const × List Const)} → MadeRows columns rows → AreRows scope names rows cs →
    RowsSuit scope names columns cs
rows_suit made_no_row no_row = suits_no_row
rows_suit (made_one_row wide items values rows) (one_row (one_const c cs) ds rest) =
    suits_one_row (sym (as_many ds) ∙ wide) (consts_suit (one_const c cs)) (consts_suit ds) (rows_suit rows rest)

-- rows that have so many values have as many as another number that is equal
widened : {scope : Scope} {names : Names} {n m : ℕ} {rows : List (List Const × List Const)} → n ≡ m → RowsSuit scope names n rows → RowsSuit scope names m rows
widened {scope} {names} {rows = rows} h suits = subst (λ k. RowsSuit scope names k rows) h suits

table_suits : {scope : Scope} {names : Names} {table : Table} {t : TTable} → MadeTable table → IsTable scope names table t → SuitsTable scope names t
table_suits (made_table head rows) (is_table (one_const c cs) (one_row items values rest)) =
    suits_table (consts_suit (one_const c cs)) (widened (as_many (one_const c cs)) (rows_suit rows (one_row items values rest)))

set_suits : {scope : Scope} {b : Option Bracket} {s : SetSide} {tb : Option TBracket} {ts : TSetSide} → MadeSet b s → IsSetSide scope b s tb ts → SuitsSet scope tb ts
set_suits made (set_value c) = suits_set_value (const_suits c)
set_suits (made_set_read made) (set_read r) = suits_set_read (reading_suits made r)
set_suits made (set_family p word is h given) = suits_family p is (subst (λ n. takes word n ≡ true) (as_many given) h) (consts_suit given)
set_suits made (set_for_each l c) = suits_set_for_each (loop_suits l) (const_suits c)
set_suits (made_sets_listed over made) (sets_listed c (one_entry t d cs)) = suits_sets_listed (const_suits c) (entries_suit (one_entry t d cs))

param_suits : {scope : Scope} {b : Option Bracket} {s : ParSide} {tb : Option TBracket} {ts : TParSide} → MadeParam b s → IsParam scope b s tb ts → SuitsParam scope tb ts
param_suits made (param_value c) = suits_param_value (const_suits c)
param_suits (made_value_read made) (param_read r) = suits_param_read (reading_suits made r)
param_suits made (param_for_each l c) = suits_param_for_each (loop_suits l) (const_suits c)
param_suits (made_values_listed over made default) (params_listed c (one_entry t d cs) e) = suits_params_listed (const_suits c) (entries_suit (one_entry t d cs)) (given_suits e)
param_suits (made_values_in_table over made default) (params_in_table c t e) = suits_params_in_table (const_suits c) (table_suits made t) (given_suits e)
param_suits (made_values_read over made default) (params_read c r e) = suits_params_read (const_suits c) (reading_suits made r) (given_suits e)
param_suits made (param_default p c d) = suits_default p (const_suits c) (const_suits d)

brackets_suit : {scope : Scope} {names : Names} {b : Option Bracket} {tb : Option TBracket} → IsBrackets scope b tb names → SuitsBrackets scope tb names
brackets_suit no_brackets = suits_no_brackets
brackets_suit (loop_brackets l) = suits_loop_brackets (loop_suits l)
brackets_suit (set_brackets c) = suits_set_brackets (const_suits c)

-- as many bounds are from below, or above, counted on from a number
limit_count : {scope : Scope} {names : Names} (test : Bool → Bool) (n : ℕ) {limits : List Limit} {cs : List TLimit} → AreLimits scope names limits cs →
    fold (λ (a : ℕ) (l : Limit). a + cond (test l.lower) 1 0) n limits ≡ fold (λ (a : ℕ) (l : TLimit). a + cond (test l.lower) 1 0) n cs
limit_count test n no_limit = refl
limit_count test n (one_limit p lower side limits) = limit_count test (n + cond (test lower) 1 0) limits

none_limited : {scope : Scope} {names : Names} {limits : List Limit} {cs : List TLimit} → AreLimits scope names limits cs → limits ≡ [] → cs ≡ []
none_limited no_limit none = refl
none_limited (one_limit p lower side limits) none = grind arith

kept : {scope : Scope} {names : Names} {kind : Option Word} {limits : List Limit} {cs : List TLimit} → AreLimits scope names limits cs → tree.LimitsKept kind limits → tree.BoundedOnce (λ (l : TLimit). l.lower) kind cs
kept cs h =
    (subst (λ n. n ≤ 1) (limit_count (λ lower. lower) 0 cs) h.0, subst (λ n. n ≤ 1) (limit_count (λ lower. not lower) 0 cs) h.1, λ is. none_limited cs (h.2 is))

printed_suit : {scope : Scope} {names : Names} {items : List Printed} {cs : List TPrinted} → ArePrinted scope names items cs → PrintedSuit scope names cs
printed_suit none_printed = suits_none_printed
printed_suit (value_printed c cs) = suits_value_printed (const_suits c) (printed_suit cs)
printed_suit (tuple_printed t cs) = suits_tuple_printed (tuple_suits t) (printed_suit cs)

doing_suits : {scope : Scope} {names : Names} {inside : Doing} {d : TDoing} → IsDoing scope names inside d → SuitsDoing scope names d
doing_suits (do_print p items) = suits_print p (printed_suit items)
doing_suits (do_check p c) = suits_check p (const_suits c)
doing_suits (do_forall p with_do index inside) = suits_do_forall p with_do (loop_suits index) (doing_suits inside)

shape_suits : {scope : Scope} {what : Shape} {typed : TShape} → MadeDeclaration what → IsShape scope what typed → SuitsShape scope typed
shape_suits (made_set made) (is_set s) = suits_set (set_suits made s)
shape_suits (made_param made) (is_param s) = suits_param (param_suits made s)
shape_suits (made_var limits_kept b made limits priority startval) (is_var kind brackets cs d e) =
    suits_var (kept cs limits_kept) (brackets_suit brackets) made (limits_suit cs) (given_suits d) (given_suits e)
shape_suits (made_goal maximize made) (is_goal m t) = suits_goal m (term_suits t)
shape_suits (made_subto made) (is_subto c) = suits_subto (con_suits c)
shape_suits (made_definition word parameters is made) (is_definition w ps c) = suits_definition ps is (const_suits c)

-- a declared name is new
declared_new : (scope : Scope) (name : Text) {what : Shape} → MadeDeclaration what → IsNew scope name what → kind_of_name scope name ≡ None
declared_new scope name (made_set made) new = new
declared_new scope name (made_param made) new = new
declared_new scope name (made_var limits_kept b made limits priority startval) new = new
declared_new scope name (made_goal maximize made) new = new
declared_new scope name (made_subto made) new = new
declared_new scope name (made_definition _ parameters is made) new = new

pub statement_suits : {scope : Scope} {stmt : Stmt} {typed : TStmt} → MadeStatement stmt → IsNew scope stmt.name stmt.shape → IsTyped scope stmt typed → SuitsStatement scope typed
statement_suits {scope} (made_declaration p q name made) new (is_typed r s n what) = suits_declaration r s (declared_new scope name made new) (shape_suits made what)
statement_suits {scope} (made_do p made) new (is_typed r s n (is_do d)) = suits_do r (doing_suits d)
