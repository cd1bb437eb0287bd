-- The typed statement that is made of a statement in which nothing is marked belongs to the statement, if the statement is made of its parts.
use Rattle.std.proofs.Common.{ℕ, suc, ◌≡◌, Bool, true, false, ◌&&◌, List, [], ◌∷◌, ◌++◌, map, length, Option, Some, None, option_map, is_some, nat_lt, unwrap_or, if◌then◌else◌, refl, sym, ap, subst, ◌∙◌}
use Rattle.std.proofs.lemmas.Bool.{false≢true, not-false}
use Rattle.std.specs.List.{list_all}
use Rattle.zim_fault.specs.declared.faults.Place.{Place}
use Rattle.zim_fault.specs.declared.faults.Fault.{Fault}
use Rattle.zim_fault.specs.declared.kinds.Kind.TheVariants.{Redeclared}
use Rattle.zim_fault.specs.declared.words.Word.{Word}
use Rattle.zim_fault.specs.declared.words.Word.TheVariants.{WPowerset, WSubsets}
use Rattle.zim_tree.specs.declared.classes.Class.{Class}
use Rattle.zim_tree.specs.declared.classes.Class.TheVariants as class
use Rattle.zim_tree.specs.Classes.{word_class}
use Rattle.zim_tree.specs.declared.expr.Expr.{Expr}
use Rattle.zim_tree.specs.declared.expr.Expr.TheVariants.{Func}
use Rattle.zim_tree.specs.declared.expr.Angle.{Angle}
use Rattle.zim_tree.specs.declared.expr.Index.{Index}
use Rattle.zim_tree.specs.declared.stmt.Stmt.{Stmt}
use Rattle.zim_tree.specs.declared.stmt.Shape.{Shape}
use Rattle.zim_tree.specs.declared.stmt.Shape.TheVariants as tree_shape
use Rattle.zim_tree.specs.declared.stmt.Bracket.{Bracket}
use Rattle.zim_tree.specs.declared.stmt.Bracket.TheVariants as tree_bracket
use Rattle.zim_tree.specs.declared.stmt.SetSide.{SetSide}
use Rattle.zim_tree.specs.declared.stmt.SetSide.TheVariants as tree_set
use Rattle.zim_tree.specs.declared.stmt.ParSide.{ParSide}
use Rattle.zim_tree.specs.declared.stmt.Table.{Table}
use Rattle.zim_tree.specs.declared.stmt.Limit.{Limit}
use Rattle.zim_tree.specs.declared.stmt.Reading.{Reading}
use Rattle.zim_tree.specs.declared.stmt.Doing.{Doing, Doing-F, fold-roll-Doing}
use Rattle.zim_tree.specs.declared.stmt.Doing.TheVariants.{Print, Check, Forall, rolls-Print, rolls-Check, rolls-Forall}
use Rattle.zim_tree.specs.declared.stmt.Printed.{Printed}
use Rattle.zim_tree.specs.Made.{Made, MadeAll, MadeTuple, MadeIndex, made_none, made_one}
use Rattle.zim_tree.specs.StatementMade.{MadeOptions, MadeReading, MadeEntries, MadeRows, MadeTable, MadeGiven, MadeBrackets, MadeSet, MadeParam, MadeLimits, MadePrinted, MadeDoing, MadeDeclaration, MadeStatement, made_no_option, made_one_option, made_reading, made_no_entry, made_one_entry, made_no_row, made_one_row, made_table, made_not_given, made_given, made_no_brackets, made_loop_brackets, made_over_brackets, made_set_value, made_set_read, made_family, made_set_for_each, made_sets_listed, made_value, made_value_read, made_value_for_each, made_values_listed, made_values_in_table, made_values_read, made_default, made_no_limit, made_one_limit, made_none_printed, made_value_printed, made_tuple_printed, made_print, made_check, made_for_each, made_set, made_param, made_var, made_goal, made_subto, made_definition, made_declaration, made_do}
use Rattle.zim_typed.specs.declared.constant.Const.{Const}
use Rattle.zim_typed.specs.declared.constant.Const.TheVariants as const
use Rattle.zim_typed.specs.declared.statement.TDoing.{TDoing}
use Rattle.zim_typed.specs.declared.statement.TDoing.TheVariants as doing
use Rattle.zim_typed.specs.declared.statement.TSetSide.TheVariants as set_side
use Rattle.zim_typed.specs.declared.statement.TBracket.TheVariants as bracket
use Rattle.zim_typed.specs.Scope.{Text, Names, Scope, kind_of_name, takes}
use Rattle.zim_typed.specs.Constants.{IsConst, AreConsts, IsTuple, IsLoop, no_const, one_const}
use Rattle.zim_typed.specs.Statements.{AreLimits, IsGiven, AreOptions, IsReading, AreEntries, AreRows, IsTable, IsBrackets, IsSetSide, IsParam, ArePrinted, IsDoing, IsShape, IsTyped, no_limit, one_limit, not_given, is_given, no_option, one_option, is_reading, no_entry, one_entry, no_row, one_row, is_table, no_brackets, loop_brackets, set_brackets, set_value, set_read, set_family, set_for_each, sets_listed, param_value, param_read, param_for_each, params_listed, params_in_table, params_read, param_default, none_printed, value_printed, tuple_printed, do_print, do_check, do_forall, is_set, is_param, is_var, is_goal, is_subto, is_definition, is_do, is_typed}
use Rattle.zim_typed.specs.Law.{IsNew}
use Rattle.zim_static.specs.declared.role.Role.{Role}
use Rattle.zim_static.specs.declared.role.Role.TheVariants as role
use Rattle.zim_static.specs.Faults.{Part, part_of, parts_of, fault_if, first_of_faults, has_arguments, argument_role, argument_faults, function_faults, all_faults}
use Rattle.zim_static.specs.StatementFaults.{faults_in, value_faults, values_faults, tuple_faults, statement_index_faults, index_names, operand_faults, options_faults, reading_faults, entries_faults, rows_faults, table_faults, brackets_faults, brackets_names, limits_faults, all_printed_faults, parameters_faults, doing_faults, faults_in_doing, is_declared_again, shape_faults, statement_faults, static_fault}
use Rattle.zim_static.specs.Calls.{full_nesting}
use Rattle.zim_static.proofs.FirstLaws.{opens-Func}
use Rattle.zim_static.proofs.PartLaws.{index_names_known}
use Rattle.zim_static.proofs.AroundLaws.{both}
use Rattle.zim_typing.specs.Typing.{set_argument, placed_bare_name, names_inside, typed_const, typed_consts, typed_tuple, typed_index}
use Rattle.zim_typing.specs.Numbers.{numbers_kept, tuple_numbers_kept, index_numbers_kept}
use Rattle.zim_typing.specs.Statements.{typed_given, typed_options, typed_reading, typed_entries, typed_rows, typed_table, typed_bracket, names_behind_brackets, typed_set, typed_param, typed_limit, typed_printed, typed_doing_of, typed_doing, typed_shape, typed_statement}
use Rattle.zim_typing.specs.StatementNumbers.{numbers_in_given, numbers_in_options, numbers_in_reading, numbers_in_entries, numbers_in_rows, numbers_in_table, numbers_in_brackets, numbers_in_set, numbers_in_param, numbers_in_limits, numbers_in_printed, numbers_in_doing, doing_numbers_kept, numbers_in_shape, statement_numbers_kept}
use Rattle.zim_typing.proofs.ConstantLaws.{makes-Func}
use Rattle.zim_typing.proofs.NumberLaws.{keeps-Func}
use Rattle.zim_typing.proofs.NamesLemmas.{Same}
use Rattle.zim_typing.proofs.FitLemmas.{none_left, none_right, not_marked, either_left}
use Rattle.zim_typing.proofs.GoesLemmas.{tuple_fixed}
use Rattle.zim_typing.proofs.BelongLaws.{goes, tuple_goes, index_goes}
use Rattle.zim_typing.proofs.StillLemmas.{still}
use Rattle.zim_typing.proofs.MeasuredLemmas.{fits}
use Rattle.zim_typing.proofs.TermBelongLaws.{measured}
use Rattle.zim_typing.proofs.ConstraintBelongLaws.{constrains}
use Rattle.zim_typing.proofs.BoundBelongLaws.{bounded}

-- ---- values and lists of them

value_belongs : (scope : Scope) {e : Expr} → Made e → (names others : Names) → Same names others → numbers_kept e ≡ true → value_faults scope names e ≡ [] → IsConst scope others e (typed_const scope names e)
value_belongs scope made names others same numbers quiet = (goes scope made role.Value names others same numbers quiet tt).0

values_belong : (scope : Scope) {items : List Expr} → MadeAll items → (names others : Names) → Same names others → list_all numbers_kept items ≡ true → values_faults scope names items ≡ [] → AreConsts scope others items (typed_consts scope names items)
values_belong scope made_none names others same numbers quiet = no_const
values_belong scope (made_one {item = item} {items = items} m ms) names others same numbers quiet =
    let kept = both (numbers_kept item) (list_all numbers_kept items) numbers in
    one_const (value_belongs scope m names others same kept.0 (none_left (value_faults scope names item) (values_faults scope names items) quiet))
    (values_belong scope ms names others same kept.1 (none_right (value_faults scope names item) (values_faults scope names items) quiet))

tuple_belongs : (scope : Scope) {tuple : Angle} → MadeTuple tuple → (names others : Names) → Same names others → tuple_numbers_kept tuple ≡ true → tuple_faults scope names tuple ≡ [] → IsTuple scope others tuple (typed_tuple scope names tuple)
tuple_belongs scope {tuple} made names others same numbers quiet = (tuple_fixed scope tuple (tuple_goes scope made) names others same numbers quiet).0

given_belongs : (scope : Scope) {given : Option (Place × Expr)} → MadeGiven given → (names others : Names) → Same names others → numbers_in_given given ≡ true → operand_faults scope names given ≡ [] → IsGiven scope others given (typed_given scope names given)
given_belongs scope made_not_given names others same numbers quiet = not_given
given_belongs scope (made_given p m) names others same numbers quiet = is_given p (value_belongs scope m names others same numbers quiet)

options_belong : (scope : Scope) {options : List (Place × Word × Expr)} → MadeOptions options → (names others : Names) → Same names others → numbers_in_options options ≡ true → options_faults scope names options ≡ [] →
    AreOptions scope others options (typed_options scope names options)
options_belong scope made_no_option names others same numbers quiet = no_option
options_belong scope (made_one_option p word {operand = operand} {others = more} h m ms) names others same numbers quiet =
    let kept = both (numbers_kept operand) (numbers_in_options more) numbers in
    one_option p word (value_belongs scope m names others same kept.0 (none_left (value_faults scope names operand) (options_faults scope names more) quiet))
    (options_belong scope ms names others same kept.1 (none_right (value_faults scope names operand) (options_faults scope names more) quiet))

reading_belongs : (scope : Scope) {r : Reading} → MadeReading r → (names others : Names) → Same names others → numbers_in_reading r ≡ true → reading_faults scope names r ≡ [] → IsReading scope others r (typed_reading scope names r)
reading_belongs scope (made_reading p {file = file} {template = template} {options = options} once f t os) names others same numbers quiet =
    let kept = both (numbers_kept file) (numbers_kept template && numbers_in_options options) numbers in
    let kept_both = both (numbers_kept template) (numbers_in_options options) kept.1 in
    let one = value_faults scope names file in
    let two = value_faults scope names template in
    let three = options_faults scope names options in
    is_reading p (value_belongs scope f names others same kept.0 (none_left one two (none_left (one ++ two) three quiet)))
    (value_belongs scope t names others same kept_both.0 (none_right one two (none_left (one ++ two) three quiet)))
    (options_belong scope os names others same kept_both.1 (none_right (one ++ two) three quiet))

entries_belong : (scope : Scope) {entries : List (Angle × Expr)} → MadeEntries entries → (names others : Names) → Same names others → numbers_in_entries entries ≡ true → entries_faults scope names entries ≡ [] →
    AreEntries scope others entries (typed_entries scope names entries)
entries_belong scope made_no_entry names others same numbers quiet = no_entry
entries_belong scope (made_one_entry {tuple = tuple} {given = given} {others = more} t m ms) names others same numbers quiet =
    let kept = both (tuple_numbers_kept tuple && numbers_kept given) (numbers_in_entries more) numbers in
    let kept_one = both (tuple_numbers_kept tuple) (numbers_kept given) kept.0 in
    let one = tuple_faults scope names tuple in
    let two = value_faults scope names given in
    let rest = entries_faults scope names more in
    one_entry (tuple_belongs scope t names others same kept_one.0 (none_left one two (none_left (one ++ two) rest quiet)))
    (value_belongs scope m names others same kept_one.1 (none_right one two (none_left (one ++ two) rest quiet))) (entries_belong scope ms names others same kept.1 (none_right (one ++ two) rest quiet))

rows_belong : (scope : Scope) {columns : ℕ} {rows : List (List Expr × List Expr)} → MadeRows columns rows → (names others : Names) → Same names others → numbers_in_rows rows ≡ true → rows_faults scope names rows ≡ [] →
    AreRows scope others rows (typed_rows scope names rows)
rows_belong scope made_no_row names others same numbers quiet = no_row
rows_belong scope (made_one_row {first = first} {others = more} {values = values} {rows = rows} as_many items vs ms) names others same numbers quiet =
    let kept = both (list_all numbers_kept (first ∷ more) && list_all numbers_kept values) (numbers_in_rows rows) numbers in
    let kept_one = both (list_all numbers_kept (first ∷ more)) (list_all numbers_kept values) kept.0 in
    let one = values_faults scope names (first ∷ more) in
    let two = values_faults scope names values in
    let rest = rows_faults scope names rows in
    one_row (values_belong scope items names others same kept_one.0 (none_left one two (none_left (one ++ two) rest quiet)))
    (values_belong scope vs names others same kept_one.1 (none_right one two (none_left (one ++ two) rest quiet))) (rows_belong scope ms names others same kept.1 (none_right (one ++ two) rest quiet))

table_belongs : (scope : Scope) {table : Table} → MadeTable table → (names others : Names) → Same names others → numbers_in_table table ≡ true → table_faults scope names table ≡ [] → IsTable scope others table (typed_table scope names table)
table_belongs scope (made_table {first = first} {others = more} {row = row} {rows = rows} head ms) names others same numbers quiet =
    let kept = both (list_all numbers_kept (first ∷ more)) (numbers_in_rows (row ∷ rows)) numbers in
    is_table (values_belong scope head names others same kept.0 (none_left (values_faults scope names (first ∷ more)) (rows_faults scope names (row ∷ rows)) quiet))
    (rows_belong scope ms names others same kept.1 (none_right (values_faults scope names (first ∷ more)) (rows_faults scope names (row ∷ rows)) quiet))

-- ---- brackets

-- the same names are bound around a statement: none
none_bound : Same [] []
none_bound name = refl

-- the index in brackets, and the names that are bound behind it
index_belongs : (scope : Scope) {index : Index} → MadeIndex index → index_numbers_kept index ≡ true → statement_index_faults scope [] index ≡ [] →
    (inner : Names) × IsLoop scope [] index (typed_index scope [] index) inner × Same (names_inside scope [] index) inner
index_belongs scope made numbers quiet = let belongs = index_goes scope made [] [] none_bound numbers quiet in (belongs.0, belongs.1, belongs.2)

brackets_belong : (scope : Scope) {brackets : Option Bracket} → MadeBrackets brackets → numbers_in_brackets brackets ≡ true → brackets_faults scope brackets ≡ [] →
    (inner : Names) × IsBrackets scope brackets (option_map (typed_bracket scope) brackets) inner × Same (names_behind_brackets scope brackets) inner
brackets_belong scope made_no_brackets numbers quiet = ([], no_brackets, none_bound)
brackets_belong scope (made_loop_brackets i) numbers quiet = let belongs = index_belongs scope i numbers quiet in (belongs.0, loop_brackets belongs.1, belongs.2)
brackets_belong scope (made_over_brackets m) numbers quiet = ([], set_brackets (value_belongs scope m [] [] none_bound numbers quiet), none_bound)

-- the names behind brackets
behind_brackets : (scope : Scope) (brackets : Option Bracket) → brackets_names scope brackets ≡ names_behind_brackets scope brackets
behind_brackets scope None = refl
behind_brackets scope (Some tree_bracket.Empty) = refl
behind_brackets scope (Some (tree_bracket.Loop index)) = index_names_known scope [] index
behind_brackets scope (Some (tree_bracket.Over set)) = refl

-- ---- sets

-- a call of a family
abbrev is_family : Class → Bool
is_family class.Family = true
is_family _ = false

family_sets : (word : Word) (given : List (Option (Place × Text))) → is_family (word_class word) ≡ true → set_argument word given ≡ None
family_sets WPowerset given h = refl
family_sets WSubsets given h = refl
family_sets _ given h = absurd (false≢true h)

family_counts : (scope : Scope) (word : Word) (parts : List Part) → is_family (word_class word) ≡ true → has_arguments scope word parts ≡ takes word (length parts)
family_counts scope WPowerset parts h = refl
family_counts scope WSubsets parts h = refl
family_counts scope _ parts h = absurd (false≢true h)

family_role : (scope : Scope) (word : Word) (parts : List Part) → is_family (word_class word) ≡ true → argument_role scope role.Value word parts ≡ Some role.Value
family_role scope WPowerset parts h = refl
family_role scope WSubsets parts h = refl
family_role scope _ parts h = absurd (false≢true h)

mapped_length : {A B : Type 0} (f : A → B) (items : List A) → length (map f items) ≡ length items
mapped_length f [] = refl
mapped_length f (item ∷ items) = ap suc (mapped_length f items)

all_values : (scope : Scope) (names : Names) (items : List Expr) → all_faults role.Value names (parts_of scope items) ≡ values_faults scope names items
all_values scope names [] = refl
all_values scope names (item ∷ items) = ap (λ (fs : List Fault). value_faults scope names item ++ fs) (all_values scope names items)

family_belongs : (scope : Scope) (p : Place) (word : Word) {given : List Expr} → word_class word ≡ class.Family → MadeAll given → numbers_kept (Func p word given) ≡ true → value_faults scope [] (Func p word given) ≡ [] →
    IsSetSide scope (Some tree_bracket.Empty) (tree_set.Value (Func p word given)) (Some bracket.Empty) (set_side.Value (typed_const scope [] (Func p word given)))
family_belongs scope p word {given} is ms numbers quiet =
    let family : is_family (word_class word) ≡ true = ap is_family is in
    let parts = parts_of scope given in
    let quiet_here = sym (opens-Func scope role.Value [] p word given) ∙ quiet in
    let marked = not_marked _ _ p (none_left _ _ (none_left _ _ (none_left _ _ quiet_here))) in
    let counted : takes word (length given) ≡ true = sym (family_counts scope word parts family ∙ ap (takes word) (mapped_length (part_of scope) given)) ∙ not-false (has_arguments scope word parts) marked in
    let arguments = subst (λ (o : Option Role). argument_faults [] parts o ≡ []) (family_role scope word parts family) (none_right (function_faults scope role.Value p word parts) (argument_faults [] parts (argument_role scope role.Value word parts)) quiet_here) in
    let cs = values_belong scope ms [] [] none_bound (sym (keeps-Func p word given) ∙ numbers) (sym (all_values scope [] given) ∙ arguments) in
    subst (λ (c : Const). IsSetSide scope (Some tree_bracket.Empty) (tree_set.Value (Func p word given)) (Some bracket.Empty) (set_side.Value c))
    (sym (makes-Func scope [] p word given ∙ ap (λ (o : Option (List Const)). const.Func p word (unwrap_or o (typed_consts scope [] given))) (family_sets word (map placed_bare_name given) family)))
    (set_family p word is counted cs)

set_belongs : (scope : Scope) {brackets : Option Bracket} {side : SetSide} → MadeSet brackets side → (numbers_in_brackets brackets && numbers_in_set side) ≡ true → shape_faults scope (tree_shape.Set brackets side) ≡ [] →
    IsSetSide scope brackets side (option_map (typed_bracket scope) brackets) (typed_set scope (names_behind_brackets scope brackets) side)
set_belongs scope (made_set_value m) numbers quiet = set_value (value_belongs scope m [] [] none_bound numbers quiet)
set_belongs scope (made_set_read m) numbers quiet = set_read (reading_belongs scope m [] [] none_bound numbers quiet)
set_belongs scope (made_family p word is ms) numbers quiet = family_belongs scope p word is ms numbers quiet
set_belongs scope (made_set_for_each {index = index} {value = value} i m) numbers quiet =
    let kept = both (index_numbers_kept index) (numbers_kept value) numbers in
    let rest = value_faults scope (index_names scope [] index) value in
    let belongs = index_belongs scope i kept.0 (none_left (statement_index_faults scope [] index) rest quiet) in
    set_for_each belongs.1
    (value_belongs scope m (names_inside scope [] index) belongs.0 belongs.2 kept.1
    (subst (λ (inner : Names). value_faults scope inner value ≡ []) (index_names_known scope [] index) (none_right (statement_index_faults scope [] index) rest quiet)))
set_belongs scope (made_sets_listed {over = over} {entry = entry} {entries = entries} m ms) numbers quiet =
    let kept = both (numbers_kept over) (numbers_in_entries (entry ∷ entries)) numbers in
    let rest = entries_faults scope [] (entry ∷ entries) in
    sets_listed (value_belongs scope m [] [] none_bound kept.0 (none_left (value_faults scope [] over) rest quiet)) (entries_belong scope ms [] [] none_bound kept.1 (none_right (value_faults scope [] over) rest quiet))

-- ---- parameters

param_belongs : (scope : Scope) {brackets : Option Bracket} {side : ParSide} → MadeParam brackets side → (numbers_in_brackets brackets && numbers_in_param side) ≡ true → shape_faults scope (tree_shape.Param brackets side) ≡ [] →
    IsParam scope brackets side (option_map (typed_bracket scope) brackets) (typed_param scope (names_behind_brackets scope brackets) side)
param_belongs scope (made_value m) numbers quiet = param_value (value_belongs scope m [] [] none_bound numbers quiet)
param_belongs scope (made_value_read {reading = reading} m) numbers quiet =
    param_read (reading_belongs scope m [] [] none_bound (both (numbers_in_reading reading) true numbers).0 (none_left (reading_faults scope [] reading) [] quiet))
param_belongs scope (made_value_for_each {index = index} {value = value} i m) numbers quiet =
    let kept = both (index_numbers_kept index) (numbers_kept value) numbers in
    let rest = value_faults scope (index_names scope [] index) value in
    let belongs = index_belongs scope i kept.0 (none_left (statement_index_faults scope [] index) rest quiet) in
    param_for_each belongs.1
    (value_belongs scope m (names_inside scope [] index) belongs.0 belongs.2 kept.1
    (subst (λ (inner : Names). value_faults scope inner value ≡ []) (index_names_known scope [] index) (none_right (statement_index_faults scope [] index) rest quiet)))
param_belongs scope (made_values_listed {over = over} {entry = entry} {entries = entries} {default = default} m ms g) numbers quiet =
    let kept = both (numbers_kept over) (numbers_in_entries (entry ∷ entries) && numbers_in_given default) numbers in
    let kept_both = both (numbers_in_entries (entry ∷ entries)) (numbers_in_given default) kept.1 in
    let one = value_faults scope [] over in
    let two = entries_faults scope [] (entry ∷ entries) in
    let three = operand_faults scope [] default in
    params_listed (value_belongs scope m [] [] none_bound kept.0 (none_left one (two ++ three) quiet))
    (entries_belong scope ms [] [] none_bound kept_both.0 (none_left two three (none_right one (two ++ three) quiet)))
    (given_belongs scope g [] [] none_bound kept_both.1 (none_right two three (none_right one (two ++ three) quiet)))
param_belongs scope (made_values_in_table {over = over} {table = table} {default = default} m t g) numbers quiet =
    let kept = both (numbers_kept over) (numbers_in_table table && numbers_in_given default) numbers in
    let kept_both = both (numbers_in_table table) (numbers_in_given default) kept.1 in
    let one = value_faults scope [] over in
    let two = table_faults scope [] table in
    let three = operand_faults scope [] default in
    params_in_table (value_belongs scope m [] [] none_bound kept.0 (none_left one (two ++ three) quiet))
    (table_belongs scope t [] [] none_bound kept_both.0 (none_left two three (none_right one (two ++ three) quiet)))
    (given_belongs scope g [] [] none_bound kept_both.1 (none_right two three (none_right one (two ++ three) quiet)))
param_belongs scope (made_values_read {over = over} {reading = reading} {default = default} m r g) numbers quiet =
    let kept = both (numbers_kept over) (numbers_in_reading reading && numbers_in_given default) numbers in
    let kept_both = both (numbers_in_reading reading) (numbers_in_given default) kept.1 in
    let one = value_faults scope [] over in
    let two = reading_faults scope [] reading in
    let three = operand_faults scope [] default in
    params_read (value_belongs scope m [] [] none_bound kept.0 (none_left one (two ++ three) quiet))
    (reading_belongs scope r [] [] none_bound kept_both.0 (none_left two three (none_right one (two ++ three) quiet)))
    (given_belongs scope g [] [] none_bound kept_both.1 (none_right two three (none_right one (two ++ three) quiet)))
param_belongs scope (made_default p {over = over} {value = value} m v) numbers quiet =
    let kept = both (numbers_kept over) (numbers_kept value) numbers in
    param_default p (value_belongs scope m [] [] none_bound kept.0 (none_left (value_faults scope [] over) (value_faults scope [] value) quiet))
    (value_belongs scope v [] [] none_bound kept.1 (none_right (value_faults scope [] over) (value_faults scope [] value) quiet))

-- ---- variables

limits_belong : (scope : Scope) {limits : List Limit} → MadeLimits limits → (names others : Names) → Same names others → numbers_in_limits limits ≡ true → limits_faults scope names limits ≡ [] → AreLimits scope others limits (map (typed_limit scope names) limits)
limits_belong scope made_no_limit names others same numbers quiet = no_limit
limits_belong scope (made_one_limit p lower {side = side} {others = more} m ms) names others same numbers quiet =
    let kept = both (numbers_kept side) (numbers_in_limits more) numbers in
    one_limit p lower (bounded scope m names others same kept.0 (none_left (faults_in scope role.Bound names side) (limits_faults scope names more) quiet))
    (limits_belong scope ms names others same kept.1 (none_right (faults_in scope role.Bound names side) (limits_faults scope names more) quiet))

var_belongs : (scope : Scope) {brackets : Option Bracket} (kind : Option Word) {limits : List Limit} {priority startval : Option (Place × Expr)} → MadeBrackets brackets → MadeLimits limits → MadeGiven priority → MadeGiven startval →
    numbers_in_shape (tree_shape.Var brackets kind limits priority startval) ≡ true → shape_faults scope (tree_shape.Var brackets kind limits priority startval) ≡ [] →
    IsShape scope (tree_shape.Var brackets kind limits priority startval) (typed_shape scope (tree_shape.Var brackets kind limits priority startval))
var_belongs scope {brackets} kind {limits} {priority} {startval} b ls g h numbers quiet =
    let kept = both (numbers_in_brackets brackets) (numbers_in_limits limits && (numbers_in_given priority && numbers_in_given startval)) numbers in
    let kept_limits = both (numbers_in_limits limits) (numbers_in_given priority && numbers_in_given startval) kept.1 in
    let kept_given = both (numbers_in_given priority) (numbers_in_given startval) kept_limits.1 in
    let names = names_behind_brackets scope brackets in
    let quiet_here = subst (λ (inner : Names). brackets_faults scope brackets ++ limits_faults scope inner limits ++ operand_faults scope inner priority ++ operand_faults scope inner startval ≡ []) (behind_brackets scope brackets) quiet in
    let one = brackets_faults scope brackets in
    let two = limits_faults scope names limits in
    let three = operand_faults scope names priority in
    let four = operand_faults scope names startval in
    let belongs = brackets_belong scope b kept.0 (none_left one two (none_left (one ++ two) three (none_left (one ++ two ++ three) four quiet_here))) in
    is_var kind belongs.1 (limits_belong scope ls names belongs.0 belongs.2 kept_limits.0 (none_right one two (none_left (one ++ two) three (none_left (one ++ two ++ three) four quiet_here))))
    (given_belongs scope g names belongs.0 belongs.2 kept_given.0 (none_right (one ++ two) three (none_left (one ++ two ++ three) four quiet_here)))
    (given_belongs scope h names belongs.0 belongs.2 kept_given.1 (none_right (one ++ two ++ three) four quiet_here))

-- ---- what a `do` does

printed_belong : (scope : Scope) {items : List Printed} → MadePrinted items → (names others : Names) → Same names others → list_all numbers_in_printed items ≡ true → all_printed_faults scope names items ≡ [] →
    ArePrinted scope others items (map (typed_printed scope names) items)
printed_belong scope made_none_printed names others same numbers quiet = none_printed
printed_belong scope (made_value_printed {value = value} {others = more} m ms) names others same numbers quiet =
    let kept = both (numbers_kept value) (list_all numbers_in_printed more) numbers in
    value_printed (value_belongs scope m names others same kept.0 (none_left (value_faults scope names value) (all_printed_faults scope names more) quiet))
    (printed_belong scope ms names others same kept.1 (none_right (value_faults scope names value) (all_printed_faults scope names more) quiet))
printed_belong scope (made_tuple_printed {tuple = tuple} {others = more} t ms) names others same numbers quiet =
    let kept = both (tuple_numbers_kept tuple) (list_all numbers_in_printed more) numbers in
    tuple_printed (tuple_belongs scope t names others same kept.0 (none_left (tuple_faults scope names tuple) (all_printed_faults scope names more) quiet))
    (printed_belong scope ms names others same kept.1 (none_right (tuple_faults scope names tuple) (all_printed_faults scope names more) quiet))

opens-Print : (scope : Scope) (names : Names) (p : Place) (items : List Printed) → doing_faults scope (Print p items) names ≡ all_printed_faults scope names items
opens-Print scope names p items = ap (λ (f : Names → List Fault). f names) (ap (doing_faults scope) (sym (rolls-Print p items)) ∙ fold-roll-Doing (Names → List Fault) (faults_in_doing scope) (Doing-F.Print p items))

opens-Check : (scope : Scope) (names : Names) (p : Place) (test : Expr) → doing_faults scope (Check p test) names ≡ value_faults scope names test
opens-Check scope names p test = ap (λ (f : Names → List Fault). f names) (ap (doing_faults scope) (sym (rolls-Check p test)) ∙ fold-roll-Doing (Names → List Fault) (faults_in_doing scope) (Doing-F.Check p test))

opens-Forall : (scope : Scope) (names : Names) (p : Place) (index : Index) (with_do : Bool) (inside : Doing) →
    doing_faults scope (Forall p index with_do inside) names ≡ statement_index_faults scope names index ++ doing_faults scope inside (index_names scope names index)
opens-Forall scope names p index with_do inside =
    ap (λ (f : Names → List Fault). f names) (ap (doing_faults scope) (sym (rolls-Forall p index with_do inside)) ∙ fold-roll-Doing (Names → List Fault) (faults_in_doing scope) (Doing-F.Forall p index with_do inside))

pub makes-Print : (scope : Scope) (names : Names) (p : Place) (items : List Printed) → typed_doing scope names (Print p items) ≡ doing.Print p (map (typed_printed scope names) items)
unfolding typed_doing
makes-Print scope names p items = ap (typed_doing scope names) (sym (rolls-Print p items)) ∙ ap (λ (f : Names → TDoing). f names) (fold-roll-Doing (Names → TDoing) (typed_doing_of scope) (Doing-F.Print p items))

pub makes-Check : (scope : Scope) (names : Names) (p : Place) (test : Expr) → typed_doing scope names (Check p test) ≡ doing.Check p (typed_const scope names test)
unfolding typed_doing
makes-Check scope names p test = ap (typed_doing scope names) (sym (rolls-Check p test)) ∙ ap (λ (f : Names → TDoing). f names) (fold-roll-Doing (Names → TDoing) (typed_doing_of scope) (Doing-F.Check p test))

pub makes-Forall : (scope : Scope) (names : Names) (p : Place) (index : Index) (with_do : Bool) (inside : Doing) →
    typed_doing scope names (Forall p index with_do inside) ≡ doing.Forall p (typed_index scope names index) with_do (typed_doing scope (names_inside scope names index) inside)
unfolding typed_doing
makes-Forall scope names p index with_do inside =
    ap (typed_doing scope names) (sym (rolls-Forall p index with_do inside)) ∙ ap (λ (f : Names → TDoing). f names) (fold-roll-Doing (Names → TDoing) (typed_doing_of scope) (Doing-F.Forall p index with_do inside))

pub keeps-Print : (p : Place) (items : List Printed) → doing_numbers_kept (Print p items) ≡ list_all numbers_in_printed items
unfolding doing_numbers_kept
keeps-Print p items = ap doing_numbers_kept (sym (rolls-Print p items)) ∙ fold-roll-Doing Bool numbers_in_doing (Doing-F.Print p items)

pub keeps-Check : (p : Place) (test : Expr) → doing_numbers_kept (Check p test) ≡ numbers_kept test
unfolding doing_numbers_kept
keeps-Check p test = ap doing_numbers_kept (sym (rolls-Check p test)) ∙ fold-roll-Doing Bool numbers_in_doing (Doing-F.Check p test)

pub keeps-Forall : (p : Place) (index : Index) (with_do : Bool) (inside : Doing) → doing_numbers_kept (Forall p index with_do inside) ≡ (index_numbers_kept index && doing_numbers_kept inside)
unfolding doing_numbers_kept
keeps-Forall p index with_do inside = ap doing_numbers_kept (sym (rolls-Forall p index with_do inside)) ∙ fold-roll-Doing Bool numbers_in_doing (Doing-F.Forall p index with_do inside)

doing_becomes : {scope : Scope} (names : Names) {others : Names} {inside : Doing} {d : TDoing} → IsDoing scope others inside d → typed_doing scope names inside ≡ d → IsDoing scope others inside (typed_doing scope names inside)
doing_becomes {scope} names {others} {inside} belongs is = subst (λ (d : TDoing). IsDoing scope others inside d) (sym is) belongs

doing_belongs : (scope : Scope) {inside : Doing} → MadeDoing inside → (names others : Names) → Same names others → doing_numbers_kept inside ≡ true → doing_faults scope inside names ≡ [] → IsDoing scope others inside (typed_doing scope names inside)
doing_belongs scope (made_print p {first = first} {others = more} ms) names others same numbers quiet =
    doing_becomes names (do_print p (printed_belong scope ms names others same (sym (keeps-Print p (first ∷ more)) ∙ numbers) (sym (opens-Print scope names p (first ∷ more)) ∙ quiet))) (makes-Print scope names p (first ∷ more))
doing_belongs scope (made_check p {test = test} m) names others same numbers quiet =
    doing_becomes names (do_check p (value_belongs scope m names others same (sym (keeps-Check p test) ∙ numbers) (sym (opens-Check scope names p test) ∙ quiet))) (makes-Check scope names p test)
doing_belongs scope (made_for_each p with_do {index = index} {inside = inside} i m) names others same numbers quiet =
    let kept = both (index_numbers_kept index) (doing_numbers_kept inside) (sym (keeps-Forall p index with_do inside) ∙ numbers) in
    let quiet_here = sym (opens-Forall scope names p index with_do inside) ∙ quiet in
    let one = statement_index_faults scope names index in
    let two = doing_faults scope inside (index_names scope names index) in
    let belongs = index_goes scope i names others same kept.0 (none_left one two quiet_here) in
    doing_becomes names
    (do_forall p with_do belongs.1
    (doing_belongs scope m (names_inside scope names index) belongs.0 belongs.2 kept.1 (subst (λ (inner : Names). doing_faults scope inside inner ≡ []) (index_names_known scope names index) (none_right one two quiet_here))))
    (makes-Forall scope names p index with_do inside)

-- ---- statements

shape_belongs : (scope : Scope) {what : Shape} → MadeDeclaration what → numbers_in_shape what ≡ true → shape_faults scope what ≡ [] → IsShape scope what (typed_shape scope what)
shape_belongs scope (made_set made) numbers quiet = is_set (set_belongs scope made numbers quiet)
shape_belongs scope (made_param made) numbers quiet = is_param (param_belongs scope made numbers quiet)
shape_belongs scope (made_var {kind = kind} limits_kept b made limits priority startval) numbers quiet = var_belongs scope kind b limits priority startval numbers quiet
shape_belongs scope (made_goal maximize {objective = objective} m) numbers quiet =
    is_goal maximize (fits scope objective (goes scope m) (still scope m) (measured scope m) [] [] none_bound (λ name h. absurd (false≢true h)) numbers quiet).0
shape_belongs scope (made_subto m) numbers quiet = is_subto (constrains scope m [] [] none_bound (λ name h. absurd (false≢true h)) numbers quiet)
shape_belongs scope (made_definition word parameters {inside = inside} is m) numbers quiet =
    let names = map (λ (x : Place × Text). x.1) parameters in
    is_definition word parameters (value_belongs scope m names names (λ name. refl) numbers (none_right (parameters_faults scope [] parameters) (value_faults scope names inside) quiet))

first_none : (fs : List Fault) → first_of_faults fs ≡ None → fs ≡ []
first_none [] h = refl
first_none (f ∷ fs) h = cc

-- a statement without a static fault nests within the limit, and nothing is marked in it
pub no_fault : (scope : Scope) (stmt : Stmt) → static_fault scope stmt ≡ None → (nat_lt 200 (full_nesting scope stmt) ≡ false) × (statement_faults scope stmt ≡ [])
no_fault scope stmt h = at_deep (nat_lt 200 (full_nesting scope stmt)) _ refl h
  where
    at_deep : (deep : Bool) (f : Fault) → nat_lt 200 (full_nesting scope stmt) ≡ deep → (if deep then Some f else first_of_faults (statement_faults scope stmt)) ≡ None →
        (nat_lt 200 (full_nesting scope stmt) ≡ false) × (statement_faults scope stmt ≡ [])
    at_deep true f is h = cc
    at_deep false f is h = (is, first_none (statement_faults scope stmt) h)

pub statement_belongs : (scope : Scope) {stmt : Stmt} → MadeStatement stmt → statement_numbers_kept stmt ≡ true → statement_faults scope stmt ≡ [] → IsTyped scope stmt (typed_statement scope stmt)
statement_belongs scope (made_declaration p q name {what = what} made) numbers quiet =
    is_typed p q name (shape_belongs scope made numbers (none_right (fault_if (is_declared_again scope name what) Redeclared q) (shape_faults scope what) quiet))
statement_belongs scope (made_do p {inside = inside} made) numbers quiet = is_typed p p [] (is_do (doing_belongs scope made [] [] none_bound numbers quiet))

-- a name that isn't declared
no_kind : {A : Type 0} (o : Option A) → is_some o ≡ false → o ≡ None
no_kind None h = refl
no_kind (Some x) h = absurd (false≢true (sym h))

pub statement_new : (scope : Scope) {stmt : Stmt} → MadeStatement stmt → statement_faults scope stmt ≡ [] → IsNew scope stmt.name stmt.shape
statement_new scope (made_do p made) quiet = tt
statement_new scope (made_declaration p q name {what = what} made) quiet =
    at_shape what made (not_marked (is_declared_again scope name what) Redeclared q (none_left (fault_if (is_declared_again scope name what) Redeclared q) (shape_faults scope what) quiet))
  where
    at_shape : (what : Shape) → MadeDeclaration what → is_declared_again scope name what ≡ false → IsNew scope name what
    at_shape _ (made_set m) h = no_kind (kind_of_name scope name) h
    at_shape _ (made_param m) h = no_kind (kind_of_name scope name) h
    at_shape _ (made_var limits_kept b k limits priority startval) h = no_kind (kind_of_name scope name) h
    at_shape _ (made_goal maximize m) h = no_kind (kind_of_name scope name) (either_left (is_some (kind_of_name scope name)) _ h)
    at_shape _ (made_subto m) h = no_kind (kind_of_name scope name) h
    at_shape _ (made_definition _ parameters is m) h = no_kind (kind_of_name scope name) h
