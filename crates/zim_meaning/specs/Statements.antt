-- The world after a statement, or why the statement stops. Operands are taken from left to right, a default last.
use Rattle.std.specs.Prelude.{ℕ, pos, List, [], ◌∷◌, ◌++◌, length, map, Option, Some, None, Result, Ok, Err, unsigned_abs, if◌then◌else◌}
use Rattle.std.specs.List.{zip}
use Rattle.zim_answer.specs.Answer.{Answer, ◌>>=◌, goes}
use Rattle.zim_fault.specs.declared.faults.Fault.{Fault}
use Rattle.zim_fault.specs.declared.faults.Place.{Place}
use Rattle.zim_fault.specs.declared.kinds.Kind.{Kind}
use Rattle.zim_fault.specs.declared.kinds.Kind.TheVariants.{WrongKind, NotInteger, NoEntry, Twice}
use Rattle.zim_fault.specs.declared.words.Word.{Word}
use Rattle.zim_fault.specs.declared.words.Word.TheVariants as words
use Rattle.zim_functions.specs.Numbers.{is_natural}
use Rattle.zim_meaning.specs.DataFiles.{StatementStop, AtFault, or_stop, FileRequest, request_of, RowSource, row_place, set_of_rows}
use Rattle.zim_meaning.specs.Expressions.{Known, values_of, tuple_of_parts}
use Rattle.zim_meaning.specs.Operations.{set_of_value, param_of_value, value_of_element}
use Rattle.zim_meaning.specs.Value.{value, index_choices}
use Rattle.zim_meaning.specs.World.{World, IndexedSet, fault_of, at_place, nothing_given, world_with_set, world_with_indexed_set, world_with_param, world_with_indexed_param, world_with_function}
use Rattle.zim_meaning.specs.declared.choices.Choice.{Choice}
use Rattle.zim_meaning.specs.declared.values.Value as values
use Rattle.zim_meaning.specs.declared.values.Value.TheVariants as of_value
use Rattle.zim_params.specs.Values.{Values, with_entry, value_inserted}
use Rattle.zim_params.specs.declared.param.InsertFault.{InsertFault}
use Rattle.zim_read.specs.declared.rows.DataRow.{DataRow}
use Rattle.zim_read.specs.declared.templates.ReadKind.TheVariants as read_kind
use Rattle.zim_sets.specs.Families.{subsets_of, powerset_of}
use Rattle.zim_sets.specs.Ranges.{range_tuples}
use Rattle.zim_sets.specs.Sets.{has}
use Rattle.zim_tuples.specs.declared.elements.Elem.{Elem}
use Rattle.zim_typed.specs.FirstPlace.{const_first_place}
use Rattle.zim_typed.specs.declared.constant.Const.{Const, Const-F, out-Const}
use Rattle.zim_typed.specs.declared.constant.Loop.{Loop}
use Rattle.zim_typed.specs.declared.constant.LoopSlot.{LoopSlot}
use Rattle.zim_typed.specs.declared.constant.TAngle.{TAngle, out-TAngle}
use Rattle.zim_typed.specs.declared.constant.TBody.{TBody}
use Rattle.zim_typed.specs.declared.statement.TBracket.{TBracket}
use Rattle.zim_typed.specs.declared.statement.TBracket.TheVariants as bracket
use Rattle.zim_typed.specs.declared.statement.TParSide.{TParSide}
use Rattle.zim_typed.specs.declared.statement.TParSide.TheVariants as par_side
use Rattle.zim_typed.specs.declared.statement.TSetSide.{TSetSide}
use Rattle.zim_typed.specs.declared.statement.TSetSide.TheVariants as set_side
use Rattle.zim_typed.specs.declared.statement.TShape.{TShape}
use Rattle.zim_typed.specs.declared.statement.TShape.TheVariants as shape
use Rattle.zim_typed.specs.declared.statement.TStmt.{TStmt}
use Rattle.zim_typed.specs.declared.statement.TTable.{TTable}

-- ---- the parts of a statement

-- what is known of expressions in a world
abbrev pub const_known : World → Known Const
const_known world = record { first = const_first_place; value = λ c env. value world env c }

-- the set behind a name in brackets, which is wrong at the statement's name if it is none
abbrev pub index_set : World → Place → Const → Answer (List (List Elem)) Fault
index_set world at over = value world [] over >>= λ v. at_place at (set_of_value v)

-- a default, which is wrong at its word
abbrev pub default_value : World → Option (Place × Const) → Answer (Option values.Value) Fault
default_value world None = Ok None
default_value world (Some (place, side)) = do
  v ← value world [] side
  w ← at_place place (param_of_value v)
  Ok (Some w)

-- ---- values of a name with brackets, of which it is known which values they may be

-- the values so far with that at a choice of an index; it is wrong at the statement's name
abbrev pub with_chosen : {V : Type 0} → (values.Value → Result V Kind) → World → Place → Const → Values V → Choice → Answer (Values V) Fault
with_chosen of_kind world at side given choice = do
  v ← value world choice.env side
  w ← at_place at (of_kind v)
  Ok (with_entry given choice.tuple w)

-- the value at each choice of an index, in order
unfoldable pub chosen_values : {V : Type 0} → (values.Value → Result V Kind) → World → Place → Const → List Choice → Answer (Values V) Fault
chosen_values of_kind world at side choices = goes (with_chosen of_kind world at side) nothing_given choices

-- an answer of values to which one was given, or that it was given twice
abbrev pub or_twice : {A : Type 0} → Result A InsertFault → Result A Kind
or_twice (Ok answer) = Ok answer
or_twice (Err fault) = Err Twice

-- the values so far with a value that is given to an index: it is of the right kind, the index is in the index set, and it was given none before
unfoldable pub given_to_index : {V : Type 0} → (values.Value → Result V Kind) → List (List Elem) → Values V → List Elem → values.Value → Result (Values V) Kind
given_to_index of_kind indices given index v = of_kind v >>= λ w. if has indices index then or_twice (value_inserted given index w) else Err NoEntry

-- the values so far with an entry: its index is evaluated, then its value; it is wrong at its `<`
abbrev pub with_listed : {V : Type 0} → (values.Value → Result V Kind) → World → List (List Elem) → Values V → TAngle × Const → Answer (Values V) Fault
with_listed of_kind world indices given (tuple, side) = do
  index ← tuple_of_parts (const_known world) [] (out-TAngle tuple).items
  v ← value world [] side
  at_place (out-TAngle tuple).place (given_to_index of_kind indices given index v)

-- the values of entries
unfoldable pub listed_values : {V : Type 0} → (values.Value → Result V Kind) → World → List (List Elem) → List (TAngle × Const) → Answer (Values V) Fault
listed_values of_kind world indices entries = goes (with_listed of_kind world indices) nothing_given entries

-- ---- families of subsets

-- the sets that a call of `powerset` or `subsets` lists, where the values of its arguments are known
abbrev pub family_of_values : Word → List values.Value → Result (List (List (List Elem))) Kind
family_of_values words.WPowerset (of_value.Set a ∷ []) = powerset_of a
family_of_values words.WSubsets (of_value.Set a ∷ of_value.Number n ∷ []) = if is_natural n then subsets_of a (unsigned_abs n.numer) else Err NotInteger
family_of_values _ _ = Err WrongKind

-- the sets of the call behind empty brackets, which is wrong where it begins
abbrev pub family_of_call : World → Place → Const-F Const LoopSlot TBody Loop TAngle → Answer (List (List (List Elem))) Fault
family_of_call world at (Const-F.Func place name given) = values_of (const_known world) [] given >>= λ vs. at_place place (family_of_values name vs)
family_of_call world at _ = Err (fault_of at WrongKind)

-- sets as an indexed set, whose indices are 1, 2 and so on
unfoldable pub numbered_sets : List (List (List Elem)) → IndexedSet
numbered_sets sets = record { indices = range_tuples (pos 1) (pos (length sets)) (pos 1); members = record { entries = zip (range_tuples (pos 1) (pos (length sets)) (pos 1)) sets; default = None } }

-- ---- sets

-- the world after a set
unfoldable pub set_made : World → RowSource → Place → List ℕ → Option TBracket → TSetSide → Answer World StatementStop
set_made world source at name None (set_side.Value side) = or_stop (do
  v ← value world [] side
  a ← at_place at (set_of_value v)
  Ok (world_with_set world name a))
set_made world source at name None (set_side.Read reading) = do
  request ← or_stop (request_of world read_kind.Set reading)
  rows ← source.rows request
  a ← or_stop (set_of_rows source.file rows)
  Ok (world_with_set world name a)
set_made world source at name (Some bracket.Empty) (set_side.Value side) = or_stop (do
  sets ← family_of_call world at (out-Const side)
  Ok (world_with_indexed_set world name (numbered_sets sets)))
set_made world source at name (Some (bracket.Loop index)) (set_side.Value side) = or_stop (do
  choices ← index_choices world [] index
  members ← chosen_values set_of_value world at side choices
  Ok (world_with_indexed_set world name (record { indices = map (λ choice. choice.tuple) choices; members = members })))
set_made world source at name (Some (bracket.Over over)) (set_side.Entries entries) = or_stop (do
  indices ← index_set world at over
  members ← listed_values set_of_value world indices entries
  Ok (world_with_indexed_set world name (record { indices = indices; members = members })))
set_made world source at name _ side = Err (AtFault (fault_of at WrongKind))

-- ---- parameters

-- the values so far with one of a table, whose index is its row's items and then its column's item; it is wrong where it begins
abbrev pub with_cell : World → List (List Elem) → List Elem → Values values.Value → Elem × Const → Answer (Values values.Value) Fault
with_cell world indices items given (last, side) = do
  v ← value world [] side
  at_place (const_first_place side) (given_to_index param_of_value indices given (items ++ last ∷ []) v)

-- the values so far with those of a table's row: its items are evaluated, and then its values in order
abbrev pub with_table_row : World → List (List Elem) → List Elem → Values values.Value → List Const × List Const → Answer (Values values.Value) Fault
with_table_row world indices head given (first, cells) = do
  items ← tuple_of_parts (const_known world) [] first
  goes (with_cell world indices items) given (zip head cells)

-- the values of a table
unfoldable pub table_values : World → List (List Elem) → TTable → Answer (Values values.Value) Fault
table_values world indices table = do
  head ← tuple_of_parts (const_known world) [] table.head
  goes (with_table_row world indices head) nothing_given table.rows

-- the value of a row, which its template has
abbrev pub row_value : Option Elem → Result values.Value Kind
row_value (Some element) = Ok (value_of_element element)
row_value None = Err WrongKind

-- the values so far with that of a row; it is wrong at the row
abbrev pub with_row_value : ℕ → List (List Elem) → Values values.Value → DataRow → Answer (Values values.Value) Fault
with_row_value file indices given row = at_place (row_place file row) (row_value row.value >>= given_to_index param_of_value indices given row.items)

-- the values of rows
unfoldable pub values_of_rows : ℕ → List (List Elem) → List DataRow → Answer (Values values.Value) Fault
values_of_rows file indices rows = goes (with_row_value file indices) nothing_given rows

-- the value of the first row; where there is none, there is no entry
abbrev pub first_row_value : List DataRow → Result values.Value Kind
first_row_value [] = Err NoEntry
first_row_value (row ∷ rows) = row_value row.value

-- what is listed behind a set in brackets
abbrev pub param_values : World → RowSource → List (List Elem) → TParSide → Place → Answer (Values values.Value × Option (Place × Const)) StatementStop
param_values world source indices (par_side.Entries entries default) at = or_stop (listed_values param_of_value world indices entries) >>= λ given. Ok (given, default)
param_values world source indices (par_side.Table table default) at = or_stop (table_values world indices table) >>= λ given. Ok (given, default)
param_values world source indices (par_side.Read reading default) at = do
  request ← or_stop (request_of world read_kind.Indexed reading)
  rows ← source.rows request
  given ← or_stop (values_of_rows source.file indices rows)
  Ok (given, default)
param_values world source indices (par_side.Default place side) at = Ok (nothing_given, Some (place, side))
param_values world source indices (par_side.Value side) at = Err (AtFault (fault_of at WrongKind))

-- the world after a parameter
unfoldable pub param_made : World → RowSource → Place → List ℕ → Option TBracket → TParSide → Answer World StatementStop
param_made world source at name None (par_side.Value side) = or_stop (do
  v ← value world [] side
  w ← at_place at (param_of_value v)
  Ok (world_with_param world name w))
param_made world source at name None (par_side.Read reading default) = do
  request ← or_stop (request_of world read_kind.Scalar reading)
  rows ← source.rows request
  v ← or_stop (at_place at (first_row_value rows))
  Ok (world_with_param world name v)
param_made world source at name (Some (bracket.Loop index)) (par_side.Value side) = or_stop (do
  choices ← index_choices world [] index
  given ← chosen_values param_of_value world at side choices
  Ok (world_with_indexed_param world name (record { indices = map (λ choice. choice.tuple) choices; given = given; default = None })))
param_made world source at name (Some (bracket.Over over)) side = do
  indices ← or_stop (index_set world at over)
  listed ← param_values world source indices side at
  default ← or_stop (default_value world listed.1)
  Ok (world_with_indexed_param world name (record { indices = indices; given = listed.0; default = default }))
param_made world source at name _ side = Err (AtFault (fault_of at WrongKind))

-- ---- statements

-- the world after a statement that declares a name to be this; variables, objectives, constraints and a `do` leave it as it is
abbrev pub shape_made : World → RowSource → Place → List ℕ → TShape → Answer World StatementStop
shape_made world source at name (shape.Set brackets side) = set_made world source at name brackets side
shape_made world source at name (shape.Param brackets side) = param_made world source at name brackets side
shape_made world source at name (shape.Define kind parameters body) =
    Ok (world_with_function world (record { kind = kind; name = name; params = map (λ parameter. parameter.1) parameters; body = body }))
shape_made world source at name _ = Ok world

-- the world after a statement, or why it stops
abbrev pub world_after : World → RowSource → TStmt → Answer World StatementStop
world_after world source stmt = shape_made world source stmt.at stmt.name stmt.shape

-- ---- which file is opened

-- the answer, if there is one
abbrev pub if_answered : {A : Type 0} → Answer A Fault → Option A
if_answered (Ok answer) = Some answer
if_answered (Err fault) = None

-- what a declaration asks of a data file, if it comes to that
abbrev pub request_of_shape : World → Place → TShape → Option FileRequest
request_of_shape world at (shape.Set None (set_side.Read reading)) = if_answered (request_of world read_kind.Set reading)
request_of_shape world at (shape.Param None (par_side.Read reading default)) = if_answered (request_of world read_kind.Scalar reading)
request_of_shape world at (shape.Param (Some (bracket.Over over)) (par_side.Read reading default)) =
    if_answered (index_set world at over >>= λ indices. request_of world read_kind.Indexed reading)
request_of_shape world at _ = None

-- the name of the file that a statement opens, if it opens one
unfoldable pub opened_by : World → TStmt → Option (List ℕ)
opened_by world stmt = option_name (request_of_shape world stmt.at stmt.shape)
  where
    option_name : Option FileRequest → Option (List ℕ)
    option_name (Some request) = Some request.name
    option_name None = None
