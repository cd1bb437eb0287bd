-- Which typed statements suit the scope of the statements before them: their trees suit it, they keep the rules of statements, and the name that
-- they declare is new.
use Rattle.std.specs.Prelude.{ℕ, ◌≡◌, List, [], ◌∷◌, length, map, Bool, true, Option, Some, None}
use Rattle.zim_fault.specs.declared.faults.Place.{Place}
use Rattle.zim_fault.specs.declared.words.Word.{Word}
use Rattle.zim_tree.specs.declared.classes.Class.TheVariants as class
use Rattle.zim_tree.specs.Classes.{word_class}
use Rattle.zim_tree.specs.StatementGrammar.{is_option, AtMostOnce, BoundedOnce, is_definition}
use Rattle.zim_tree.specs.StatementMade.{MadeKind}
use Rattle.zim_typed.specs.declared.constant.Const.{Const}
use Rattle.zim_typed.specs.declared.constant.Const.TheVariants as const
use Rattle.zim_typed.specs.declared.constant.TAngle.{TAngle}
use Rattle.zim_typed.specs.declared.constant.Loop.{Loop}
use Rattle.zim_typed.specs.declared.constraint.Term.{Term}
use Rattle.zim_typed.specs.declared.constraint.Con.{Con}
use Rattle.zim_typed.specs.declared.statement.TStmt.{TStmt}
use Rattle.zim_typed.specs.declared.statement.TShape.{TShape}
use Rattle.zim_typed.specs.declared.statement.TShape.TheVariants as shape
use Rattle.zim_typed.specs.declared.statement.TBracket.{TBracket}
use Rattle.zim_typed.specs.declared.statement.TBracket.TheVariants as bracket
use Rattle.zim_typed.specs.declared.statement.TSetSide.{TSetSide}
use Rattle.zim_typed.specs.declared.statement.TSetSide.TheVariants as set_side
use Rattle.zim_typed.specs.declared.statement.TParSide.{TParSide}
use Rattle.zim_typed.specs.declared.statement.TParSide.TheVariants as par_side
use Rattle.zim_typed.specs.declared.statement.TTable.{TTable}
use Rattle.zim_typed.specs.declared.statement.TLimit.{TLimit}
use Rattle.zim_typed.specs.declared.statement.TReading.{TReading}
use Rattle.zim_typed.specs.declared.statement.TDoing.{TDoing}
use Rattle.zim_typed.specs.declared.statement.TDoing.TheVariants as doing
use Rattle.zim_typed.specs.declared.statement.TPrinted.{TPrinted}
use Rattle.zim_typed.specs.declared.statement.TPrinted.TheVariants as printed
use Rattle.zim_typed.specs.Scope.{Text, Names, Scope, kind_of_name, takes}
use Rattle.zim_typed.specs.Suits.{SuitsConst, ConstsSuit, SuitsTuple, SuitsLoop, SuitsTerm, SuitsCon}

-- a bound of a variable that suits: `infinity` is one with or without a sign, and so is a branch of an `if` that is a bound
pub data SuitsBound (scope : Scope) : Names → Const → Type 0 where
  suits_value : {names : Names} {c : Const} → SuitsConst scope names c → SuitsBound scope names c
  suits_infinity : {names : Names} (p : Place) → SuitsBound scope names (const.Infinity p)
  suits_signed_infinity : {names : Names} (p q : Place) (minus : Bool) → SuitsBound scope names (const.Signed p minus (const.Infinity q))
  suits_chosen : {names : Names} (p : Place) {test branch otherwise : Const} → SuitsConst scope names test → SuitsBound scope names branch →
      SuitsBound scope names otherwise → SuitsBound scope names (const.If p test branch otherwise)

-- bounds of a variable that suit
pub data LimitsSuit (scope : Scope) : Names → List TLimit → Type 0 where
  suits_no_limit : {names : Names} → LimitsSuit scope names []
  suits_one_limit : {names : Names} (p : Place) (lower : Bool) {side : Const} {limits : List TLimit} → SuitsBound scope names side →
      LimitsSuit scope names limits → LimitsSuit scope names (record { place = p; lower = lower; side = side } ∷ limits)

-- nothing, or the operand of a word, that suits
pub data SuitsGiven (scope : Scope) : Names → Option (Place × Const) → Type 0 where
  suits_not_given : {names : Names} → SuitsGiven scope names None
  suits_given : {names : Names} (p : Place) {c : Const} → SuitsConst scope names c → SuitsGiven scope names (Some (p, c))

-- options of a `read` that suit
pub data OptionsSuit (scope : Scope) : Names → List (Place × Word × Const) → Type 0 where
  suits_no_option : {names : Names} → OptionsSuit scope names []
  suits_one_option : {names : Names} (p : Place) {word : Word} {c : Const} {options : List (Place × Word × Const)} → is_option word ≡ true →
      SuitsConst scope names c → OptionsSuit scope names options → OptionsSuit scope names ((p, word, c) ∷ options)

-- a `read` that suits
pub data SuitsReading (scope : Scope) : Names → TReading → Type 0 where
  suits_reading : {names : Names} (p : Place) {file template : Const} {options : List (Place × Word × Const)} → AtMostOnce options →
      SuitsConst scope names file → SuitsConst scope names template → OptionsSuit scope names options →
      SuitsReading scope names (record { place = p; file = file; template = template; options = options })

-- each index and what is listed behind it suit
pub data EntriesSuit (scope : Scope) : Names → List (TAngle × Const) → Type 0 where
  suits_no_entry : {names : Names} → EntriesSuit scope names []
  suits_one_entry : {names : Names} {tuple : TAngle} {c : Const} {entries : List (TAngle × Const)} → SuitsTuple scope names tuple →
      SuitsConst scope names c → EntriesSuit scope names entries → EntriesSuit scope names ((tuple, c) ∷ entries)

-- rows of a table that suit, each with an item at least and so many values
pub data RowsSuit (scope : Scope) : Names → ℕ → List (List Const × List Const) → Type 0 where
  suits_no_row : {names : Names} {columns : ℕ} → RowsSuit scope names columns []
  suits_one_row : {names : Names} {columns : ℕ} {first : Const} {others values : List Const} {rows : List (List Const × List Const)} → length values ≡ columns →
      ConstsSuit scope names (first ∷ others) → ConstsSuit scope names values → RowsSuit scope names columns rows → RowsSuit scope names columns ((first ∷ others, values) ∷ rows)

-- a table that suits: it has a column and a row at least
pub data SuitsTable (scope : Scope) : Names → TTable → Type 0 where
  suits_table : {names : Names} {first : Const} {others : List Const} {row : List Const × List Const} {rows : List (List Const × List Const)} →
      ConstsSuit scope names (first ∷ others) → RowsSuit scope names (length (first ∷ others)) (row ∷ rows) →
      SuitsTable scope names (record { head = first ∷ others; rows = row ∷ rows })

-- a set that suits: behind empty brackets stands a call of `powerset` or `subsets`, behind an index a value for each of its choices, and behind a
-- set one listed value at least
pub data SuitsSet (scope : Scope) : Option TBracket → TSetSide → Type 0 where
  suits_set_value : {c : Const} → SuitsConst scope [] c → SuitsSet scope None (set_side.Value c)
  suits_set_read : {reading : TReading} → SuitsReading scope [] reading → SuitsSet scope None (set_side.Read reading)
  suits_family : (p : Place) {word : Word} {given : List Const} → word_class word ≡ class.Family → takes word (length given) ≡ true →
      ConstsSuit scope [] given → SuitsSet scope (Some bracket.Empty) (set_side.Value (const.Func p word given))
  suits_set_for_each : {names : Names} {index : Loop} {c : Const} → SuitsLoop scope [] index names → SuitsConst scope names c →
      SuitsSet scope (Some (bracket.Loop index)) (set_side.Value c)
  suits_sets_listed : {over : Const} {entry : TAngle × Const} {entries : List (TAngle × Const)} → SuitsConst scope [] over →
      EntriesSuit scope [] (entry ∷ entries) → SuitsSet scope (Some (bracket.Over over)) (set_side.Entries (entry ∷ entries))

-- a parameter that suits
pub data SuitsParam (scope : Scope) : Option TBracket → TParSide → Type 0 where
  suits_param_value : {c : Const} → SuitsConst scope [] c → SuitsParam scope None (par_side.Value c)
  suits_param_read : {reading : TReading} → SuitsReading scope [] reading → SuitsParam scope None (par_side.Read reading None)
  suits_param_for_each : {names : Names} {index : Loop} {c : Const} → SuitsLoop scope [] index names → SuitsConst scope names c →
      SuitsParam scope (Some (bracket.Loop index)) (par_side.Value c)
  suits_params_listed : {over : Const} {entry : TAngle × Const} {entries : List (TAngle × Const)} {default : Option (Place × Const)} → SuitsConst scope [] over →
      EntriesSuit scope [] (entry ∷ entries) → SuitsGiven scope [] default → SuitsParam scope (Some (bracket.Over over)) (par_side.Entries (entry ∷ entries) default)
  suits_params_in_table : {over : Const} {table : TTable} {default : Option (Place × Const)} → SuitsConst scope [] over →
      SuitsTable scope [] table → SuitsGiven scope [] default → SuitsParam scope (Some (bracket.Over over)) (par_side.Table table default)
  suits_params_read : {over : Const} {reading : TReading} {default : Option (Place × Const)} → SuitsConst scope [] over →
      SuitsReading scope [] reading → SuitsGiven scope [] default → SuitsParam scope (Some (bracket.Over over)) (par_side.Read reading default)
  suits_default : (p : Place) {over c : Const} → SuitsConst scope [] over → SuitsConst scope [] c →
      SuitsParam scope (Some (bracket.Over over)) (par_side.Default p c)

-- brackets of a variable that suit, which aren't empty, and the names that are bound behind them
pub data SuitsBrackets (scope : Scope) : Option TBracket → Names → Type 0 where
  suits_no_brackets : SuitsBrackets scope None []
  suits_loop_brackets : {names : Names} {index : Loop} → SuitsLoop scope [] index names → SuitsBrackets scope (Some (bracket.Loop index)) names
  suits_set_brackets : {over : Const} → SuitsConst scope [] over → SuitsBrackets scope (Some (bracket.Over over)) []

-- what is printed suits
pub data PrintedSuit (scope : Scope) : Names → List TPrinted → Type 0 where
  suits_none_printed : {names : Names} → PrintedSuit scope names []
  suits_value_printed : {names : Names} {c : Const} {items : List TPrinted} → SuitsConst scope names c → PrintedSuit scope names items →
      PrintedSuit scope names (printed.Value c ∷ items)
  suits_tuple_printed : {names : Names} {tuple : TAngle} {items : List TPrinted} → SuitsTuple scope names tuple → PrintedSuit scope names items →
      PrintedSuit scope names (printed.Tuple tuple ∷ items)

-- what a `do` does suits
pub data SuitsDoing (scope : Scope) : Names → TDoing → Type 0 where
  suits_print : {names : Names} (p : Place) {items : List TPrinted} → PrintedSuit scope names items → SuitsDoing scope names (doing.Print p items)
  suits_check : {names : Names} (p : Place) {c : Const} → SuitsConst scope names c → SuitsDoing scope names (doing.Check p c)
  suits_do_forall : {names inner : Names} (p : Place) (with_do : Bool) {index : Loop} {inside : TDoing} → SuitsLoop scope names index inner →
      SuitsDoing scope inner inside → SuitsDoing scope names (doing.Forall p index with_do inside)

-- what a statement declares its name to be suits
pub data SuitsShape (scope : Scope) : TShape → Type 0 where
  suits_set : {brackets : Option TBracket} {side : TSetSide} → SuitsSet scope brackets side → SuitsShape scope (shape.Set brackets side)
  suits_param : {brackets : Option TBracket} {side : TParSide} → SuitsParam scope brackets side → SuitsShape scope (shape.Param brackets side)
  suits_var : {names : Names} {brackets : Option TBracket} {kind : Option Word} {limits : List TLimit} {priority startval : Option (Place × Const)} →
      BoundedOnce (λ (l : TLimit). l.lower) kind limits → SuitsBrackets scope brackets names → MadeKind kind → LimitsSuit scope names limits → SuitsGiven scope names priority →
      SuitsGiven scope names startval → SuitsShape scope (shape.Var brackets kind limits priority startval)
  suits_goal : (maximize : Bool) {objective : Term} → SuitsTerm scope [] objective → SuitsShape scope (shape.Goal maximize objective)
  suits_subto : {constraint : Con} → SuitsCon scope [] constraint → SuitsShape scope (shape.Subto constraint)
  suits_definition : {word : Word} (parameters : List (Place × Text)) {inside : Const} → is_definition word ≡ true →
      SuitsConst scope (map (λ x. x.1) parameters) inside → SuitsShape scope (shape.Define word parameters inside)

-- a statement that suits a scope
pub data SuitsStatement (scope : Scope) : TStmt → Type 0 where
  suits_declaration : (p q : Place) {name : Text} {what : TShape} → kind_of_name scope name ≡ None → SuitsShape scope what →
      SuitsStatement scope (record { first = p; at = q; name = name; shape = what })
  suits_do : (p : Place) {inside : TDoing} → SuitsDoing scope [] inside →
      SuitsStatement scope (record { first = p; at = p; name = []; shape = shape.Do inside })
