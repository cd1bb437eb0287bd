-- The columns that a model declares.
use Rattle.std.specs.Prelude.{ℕ, ◌+◌, List, [], ◌∷◌, map, None}
use Rattle.zim_rational.specs.Rational.{zero}
use Rattle.zim_columns.specs.declared.asks.Ask.{Ask}
use Rattle.zim_columns.specs.declared.asks.Bound.TheVariants.{Plus, At}
use Rattle.zim_columns.specs.declared.asks.VarKind.TheVariants.{Real}
use Rattle.zim_columns.specs.declared.declared.Declared.{Declared}
use Rattle.zim_columns.specs.Declaring.{declared_as}
use Rattle.zim_plain.specs.Statements.{WrittenText, PlainModel, variables}

-- What `var name;` asks for: a real column from 0 up, without index, priority and start value.
abbrev pub ask_of : WrittenText → Ask
ask_of name = record {
  name = name;
  tuple = [];
  kind = Real;
  lower = At zero;
  upper = Plus;
  priority = None;
  startval = None;
}

-- What the statements of a model ask for, in order.
abbrev pub variable_asks : PlainModel → List Ask
variable_asks model = map ask_of (variables model)

-- The declared columns of names, the first with this number.
abbrev pub columns_from : ℕ → List WrittenText → List Declared
columns_from number [] = []
columns_from number (name ∷ names) = declared_as number (ask_of name) ∷ columns_from (number + 1) names

-- The declared columns of a model: one for each variable, numbered from 1.
abbrev pub variable_columns : PlainModel → List Declared
variable_columns model = columns_from 1 (variables model)
