-- Which typed statement a statement is, under the scope of the statements before it.
use Rattle.std.specs.Prelude.{◌≡◌, List, [], ◌∷◌, length, map, Bool, true, false, Option, Some, None}
use Rattle.zim_fault.specs.declared.faults.Place.{Place}
use Rattle.zim_fault.specs.declared.words.Word.{Word}
use Rattle.zim_tree.specs.declared.expr.Expr.{Expr}
use Rattle.zim_tree.specs.declared.expr.Expr.TheVariants as tree
use Rattle.zim_tree.specs.declared.expr.Angle.{Angle}
use Rattle.zim_tree.specs.declared.expr.Index.{Index}
use Rattle.zim_tree.specs.declared.stmt.Stmt.{Stmt}
use Rattle.zim_tree.specs.declared.stmt.Shape.{Shape}
use Rattle.zim_tree.specs.declared.stmt.Shape.TheVariants as tree_shape
use Rattle.zim_tree.specs.declared.stmt.Bracket.{Bracket}
use Rattle.zim_tree.specs.declared.stmt.Bracket.TheVariants as tree_bracket
use Rattle.zim_tree.specs.declared.stmt.SetSide.{SetSide}
use Rattle.zim_tree.specs.declared.stmt.SetSide.TheVariants as tree_set
use Rattle.zim_tree.specs.declared.stmt.ParSide.{ParSide}
use Rattle.zim_tree.specs.declared.stmt.ParSide.TheVariants as tree_param
use Rattle.zim_tree.specs.declared.stmt.Table.{Table}
use Rattle.zim_tree.specs.declared.stmt.Limit.{Limit}
use Rattle.zim_tree.specs.declared.stmt.Reading.{Reading}
use Rattle.zim_tree.specs.declared.stmt.Doing.{Doing}
use Rattle.zim_tree.specs.declared.stmt.Doing.TheVariants as tree_doing
use Rattle.zim_tree.specs.declared.stmt.Printed.{Printed}
use Rattle.zim_tree.specs.declared.stmt.Printed.TheVariants as tree_printed
use Rattle.zim_tree.specs.declared.classes.Class.TheVariants as class
use Rattle.zim_tree.specs.Classes.{word_class}
use Rattle.zim_typed.specs.declared.constant.Const.{Const}
use Rattle.zim_typed.specs.declared.constant.Const.TheVariants as const
use Rattle.zim_typed.specs.declared.constant.TAngle.{TAngle}
use Rattle.zim_typed.specs.declared.constant.Loop.{Loop}
use Rattle.zim_typed.specs.declared.constraint.Term.{Term}
use Rattle.zim_typed.specs.declared.constraint.Con.{Con}
use Rattle.zim_typed.specs.declared.statement.TStmt.{TStmt}
use Rattle.zim_typed.specs.declared.statement.TShape.{TShape}
use Rattle.zim_typed.specs.declared.statement.TShape.TheVariants as shape
use Rattle.zim_typed.specs.declared.statement.TBracket.{TBracket}
use Rattle.zim_typed.specs.declared.statement.TBracket.TheVariants as bracket
use Rattle.zim_typed.specs.declared.statement.TSetSide.{TSetSide}
use Rattle.zim_typed.specs.declared.statement.TSetSide.TheVariants as set_side
use Rattle.zim_typed.specs.declared.statement.TParSide.{TParSide}
use Rattle.zim_typed.specs.declared.statement.TParSide.TheVariants as par_side
use Rattle.zim_typed.specs.declared.statement.TTable.{TTable}
use Rattle.zim_typed.specs.declared.statement.TLimit.{TLimit}
use Rattle.zim_typed.specs.declared.statement.TReading.{TReading}
use Rattle.zim_typed.specs.declared.statement.TDoing.{TDoing}
use Rattle.zim_typed.specs.declared.statement.TDoing.TheVariants as doing
use Rattle.zim_typed.specs.declared.statement.TPrinted.{TPrinted}
use Rattle.zim_typed.specs.declared.statement.TPrinted.TheVariants as printed
use Rattle.zim_typed.specs.Scope.{Text, Names, Scope, takes}
use Rattle.zim_typed.specs.Constants.{IsConst, AreConsts, IsTuple, IsLoop}
use Rattle.zim_typed.specs.Terms.{IsTerm, IsCon}

-- a bound of a variable is this constant: `infinity` is one with or without a sign, and so is a branch of an `if` that is a bound
pub data IsBound (scope : Scope) : Names → Expr → Const → Type 0 where
  is_value : {names : Names} {e : Expr} {c : Const} → IsConst scope names e c → IsBound scope names e c
  is_infinity : {names : Names} (p : Place) → IsBound scope names (tree.Infinity p) (const.Infinity p)
  is_signed_infinity : {names : Names} (p q : Place) (minus : Bool) →
      IsBound scope names (tree.Signed p minus (tree.Infinity q)) (const.Signed p minus (const.Infinity q))
  is_chosen : {names : Names} (p : Place) {test branch otherwise : Expr} {c d e : Const} →
      IsConst scope names test c → IsBound scope names branch d → IsBound scope names otherwise e →
      IsBound scope names (tree.If p false test branch (Some otherwise)) (const.If p c d e)

-- the bounds of a variable are these
pub data AreLimits (scope : Scope) : Names → List Limit → List TLimit → Type 0 where
  no_limit : {names : Names} → AreLimits scope names [] []
  one_limit : {names : Names} (p : Place) (lower : Bool) {side : Expr} {limits : List Limit} {c : Const} {cs : List TLimit} →
      IsBound scope names side c → AreLimits scope names limits cs →
      AreLimits scope names (record { place = p; lower = lower; side = side } ∷ limits) (record { place = p; lower = lower; side = c } ∷ cs)

-- nothing, or the operand of a word, is this
pub data IsGiven (scope : Scope) : Names → Option (Place × Expr) → Option (Place × Const) → Type 0 where
  not_given : {names : Names} → IsGiven scope names None None
  is_given : {names : Names} (p : Place) {e : Expr} {c : Const} → IsConst scope names e c → IsGiven scope names (Some (p, e)) (Some (p, c))

-- the options of a `read` are these
pub data AreOptions (scope : Scope) : Names → List (Place × Word × Expr) → List (Place × Word × Const) → Type 0 where
  no_option : {names : Names} → AreOptions scope names [] []
  one_option : {names : Names} (p : Place) (word : Word) {e : Expr} {options : List (Place × Word × Expr)} {c : Const} {cs : List (Place × Word × Const)} →
      IsConst scope names e c → AreOptions scope names options cs → AreOptions scope names ((p, word, e) ∷ options) ((p, word, c) ∷ cs)

-- a `read` is this
pub data IsReading (scope : Scope) : Names → Reading → TReading → Type 0 where
  is_reading : {names : Names} (p : Place) {file template : Expr} {options : List (Place × Word × Expr)} {c d : Const} {cs : List (Place × Word × Const)} →
      IsConst scope names file c → IsConst scope names template d → AreOptions scope names options cs →
      IsReading scope names (record { place = p; file = file; template = template; options = options }) (record { place = p; file = c; template = d; options = cs })

-- each index and what is listed behind it are these
pub data AreEntries (scope : Scope) : Names → List (Angle × Expr) → List (TAngle × Const) → Type 0 where
  no_entry : {names : Names} → AreEntries scope names [] []
  one_entry : {names : Names} {tuple : Angle} {e : Expr} {entries : List (Angle × Expr)} {t : TAngle} {c : Const} {cs : List (TAngle × Const)} →
      IsTuple scope names tuple t → IsConst scope names e c → AreEntries scope names entries cs → AreEntries scope names ((tuple, e) ∷ entries) ((t, c) ∷ cs)

-- the rows of a table are these
pub data AreRows (scope : Scope) : Names → List (List Expr × List Expr) → List (List Const × List Const) → Type 0 where
  no_row : {names : Names} → AreRows scope names [] []
  one_row : {names : Names} {items values : List Expr} {rows : List (List Expr × List Expr)} {cs ds : List Const} {rest : List (List Const × List Const)} →
      AreConsts scope names items cs → AreConsts scope names values ds → AreRows scope names rows rest → AreRows scope names ((items, values) ∷ rows) ((cs, ds) ∷ rest)

-- a table is this
pub data IsTable (scope : Scope) : Names → Table → TTable → Type 0 where
  is_table : {names : Names} {head : List Expr} {rows : List (List Expr × List Expr)} {cs : List Const} {rest : List (List Const × List Const)} →
      AreConsts scope names head cs → AreRows scope names rows rest → IsTable scope names (record { head = head; rows = rows }) (record { head = cs; rows = rest })

-- the brackets of a variable are these, and these names are bound behind them
pub data IsBrackets (scope : Scope) : Option Bracket → Option TBracket → Names → Type 0 where
  no_brackets : IsBrackets scope None None []
  loop_brackets : {inner : Names} {index : Index} {l : Loop} → IsLoop scope [] index l inner →
      IsBrackets scope (Some (tree_bracket.Loop index)) (Some (bracket.Loop l)) inner
  set_brackets : {e : Expr} {c : Const} → IsConst scope [] e c → IsBrackets scope (Some (tree_bracket.Over e)) (Some (bracket.Over c)) []

-- a set, its brackets and what it is declared to be, is this: behind empty brackets stands a call of `powerset` or `subsets`
pub data IsSetSide (scope : Scope) : Option Bracket → SetSide → Option TBracket → TSetSide → Type 0 where
  set_value : {e : Expr} {c : Const} → IsConst scope [] e c → IsSetSide scope None (tree_set.Value e) None (set_side.Value c)
  set_read : {r : Reading} {t : TReading} → IsReading scope [] r t → IsSetSide scope None (tree_set.Read r) None (set_side.Read t)
  set_family : (p : Place) (word : Word) {given : List Expr} {cs : List Const} → word_class word ≡ class.Family → takes word (length given) ≡ true →
      AreConsts scope [] given cs → IsSetSide scope (Some tree_bracket.Empty) (tree_set.Value (tree.Func p word given)) (Some bracket.Empty) (set_side.Value (const.Func p word cs))
  set_for_each : {inner : Names} {index : Index} {e : Expr} {l : Loop} {c : Const} → IsLoop scope [] index l inner → IsConst scope inner e c →
      IsSetSide scope (Some (tree_bracket.Loop index)) (tree_set.Value e) (Some (bracket.Loop l)) (set_side.Value c)
  sets_listed : {over : Expr} {entries : List (Angle × Expr)} {c : Const} {cs : List (TAngle × Const)} → IsConst scope [] over c → AreEntries scope [] entries cs →
      IsSetSide scope (Some (tree_bracket.Over over)) (tree_set.Entries entries) (Some (bracket.Over c)) (set_side.Entries cs)

-- a parameter, its brackets and what it is declared to be, is this
pub data IsParam (scope : Scope) : Option Bracket → ParSide → Option TBracket → TParSide → Type 0 where
  param_value : {e : Expr} {c : Const} → IsConst scope [] e c → IsParam scope None (tree_param.Value e) None (par_side.Value c)
  param_read : {r : Reading} {t : TReading} → IsReading scope [] r t → IsParam scope None (tree_param.Read r None) None (par_side.Read t None)
  param_for_each : {inner : Names} {index : Index} {e : Expr} {l : Loop} {c : Const} → IsLoop scope [] index l inner → IsConst scope inner e c →
      IsParam scope (Some (tree_bracket.Loop index)) (tree_param.Value e) (Some (bracket.Loop l)) (par_side.Value c)
  params_listed : {over : Expr} {entries : List (Angle × Expr)} {default : Option (Place × Expr)} {c : Const} {cs : List (TAngle × Const)} {d : Option (Place × Const)} →
      IsConst scope [] over c → AreEntries scope [] entries cs → IsGiven scope [] default d →
      IsParam scope (Some (tree_bracket.Over over)) (tree_param.Entries entries default) (Some (bracket.Over c)) (par_side.Entries cs d)
  params_in_table : {over : Expr} {table : Table} {default : Option (Place × Expr)} {c : Const} {t : TTable} {d : Option (Place × Const)} →
      IsConst scope [] over c → IsTable scope [] table t → IsGiven scope [] default d →
      IsParam scope (Some (tree_bracket.Over over)) (tree_param.Table table default) (Some (bracket.Over c)) (par_side.Table t d)
  params_read : {over : Expr} {r : Reading} {default : Option (Place × Expr)} {c : Const} {t : TReading} {d : Option (Place × Const)} →
      IsConst scope [] over c → IsReading scope [] r t → IsGiven scope [] default d →
      IsParam scope (Some (tree_bracket.Over over)) (tree_param.Read r default) (Some (bracket.Over c)) (par_side.Read t d)
  param_default : (p : Place) {over e : Expr} {c d : Const} → IsConst scope [] over c → IsConst scope [] e d →
      IsParam scope (Some (tree_bracket.Over over)) (tree_param.Default p e) (Some (bracket.Over c)) (par_side.Default p d)

-- what is printed is this
pub data ArePrinted (scope : Scope) : Names → List Printed → List TPrinted → Type 0 where
  none_printed : {names : Names} → ArePrinted scope names [] []
  value_printed : {names : Names} {e : Expr} {items : List Printed} {c : Const} {cs : List TPrinted} →
      IsConst scope names e c → ArePrinted scope names items cs → ArePrinted scope names (tree_printed.Value e ∷ items) (printed.Value c ∷ cs)
  tuple_printed : {names : Names} {tuple : Angle} {items : List Printed} {t : TAngle} {cs : List TPrinted} →
      IsTuple scope names tuple t → ArePrinted scope names items cs → ArePrinted scope names (tree_printed.Tuple tuple ∷ items) (printed.Tuple t ∷ cs)

-- what a `do` does is this
pub data IsDoing (scope : Scope) : Names → Doing → TDoing → Type 0 where
  do_print : {names : Names} (p : Place) {items : List Printed} {cs : List TPrinted} → ArePrinted scope names items cs →
      IsDoing scope names (tree_doing.Print p items) (doing.Print p cs)
  do_check : {names : Names} (p : Place) {e : Expr} {c : Const} → IsConst scope names e c → IsDoing scope names (tree_doing.Check p e) (doing.Check p c)
  do_forall : {names inner : Names} (p : Place) (with_do : Bool) {index : Index} {inside : Doing} {l : Loop} {d : TDoing} →
      IsLoop scope names index l inner → IsDoing scope inner inside d → IsDoing scope names (tree_doing.Forall p index with_do inside) (doing.Forall p l with_do d)

-- what a statement says of its name is this
pub data IsShape (scope : Scope) : Shape → TShape → Type 0 where
  is_set : {brackets : Option Bracket} {side : SetSide} {b : Option TBracket} {s : TSetSide} → IsSetSide scope brackets side b s →
      IsShape scope (tree_shape.Set brackets side) (shape.Set b s)
  is_param : {brackets : Option Bracket} {side : ParSide} {b : Option TBracket} {s : TParSide} → IsParam scope brackets side b s →
      IsShape scope (tree_shape.Param brackets side) (shape.Param b s)
  is_var : {names : Names} {brackets : Option Bracket} (kind : Option Word) {limits : List Limit} {priority startval : Option (Place × Expr)}
      {b : Option TBracket} {cs : List TLimit} {d e : Option (Place × Const)} → IsBrackets scope brackets b names → AreLimits scope names limits cs →
      IsGiven scope names priority d → IsGiven scope names startval e →
      IsShape scope (tree_shape.Var brackets kind limits priority startval) (shape.Var b kind cs d e)
  is_goal : (maximize : Bool) {e : Expr} {t : Term} → IsTerm scope [] e t → IsShape scope (tree_shape.Goal maximize e) (shape.Goal maximize t)
  is_subto : {e : Expr} {c : Con} → IsCon scope [] e c → IsShape scope (tree_shape.Subto e) (shape.Subto c)
  is_definition : (word : Word) (parameters : List (Place × Text)) {e : Expr} {c : Const} → IsConst scope (map (λ x. x.1) parameters) e c →
      IsShape scope (tree_shape.Define word parameters e) (shape.Define word parameters c)
  is_do : {inside : Doing} {d : TDoing} → IsDoing scope [] inside d → IsShape scope (tree_shape.Do inside) (shape.Do d)

-- a statement is this typed one, with the same places and the same name
pub data IsTyped (scope : Scope) : Stmt → TStmt → Type 0 where
  is_typed : (p q : Place) (name : Text) {what : Shape} {typed : TShape} → IsShape scope what typed →
      IsTyped scope (record { first = p; at = q; name = name; shape = what }) (record { first = p; at = q; name = name; shape = typed })
