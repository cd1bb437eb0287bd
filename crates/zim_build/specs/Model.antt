-- What a model is, and what it says. Models are of plain form today, which these definitions alone are made of: all others speak of a model in
-- their words.
use Rattle.std.specs.Prelude.{◌≡◌, ℕ, Bool, List, [], map}
use Rattle.std.specs.List.{AllByRecursion}
use Rattle.zim_fault.specs.declared.faults.Fault.{Fault}
use Rattle.zim_rational.specs.Rational.{Rational}
use Rattle.zim_tree.specs.declared.stmt.Stmt.{Stmt}
use Rattle.zim_rows.specs.System.{LinearSystem}
use Rattle.zim_columns.specs.declared.asks.Ask.{Ask}
use Rattle.zim_columns.specs.declared.declared.Declared.{Declared}
use Rattle.zim_table.specs.declared.names.Names.{Names}
use Rattle.zim_plain.specs.Statements as plain
use Rattle.zim_plain.specs.Asks as plain_asks
use Rattle.zim_plain.specs.Meaning as meaning
use Rattle.zim_plain.specs.Systems as systems
use Rattle.zim_plain.specs.Trees.{trees_of}
use Rattle.zim_plain.specs.Answers.{IsAccepted, IsFirstFault}

-- A model: its statements, in order.
abbrev pub Model : Type 0
Model = plain.PlainModel

-- ---- from statements to a model

-- The statements are this model: each may follow those before it and has no fault, and no row of its system nor the objective is past when it is
-- multiplied by its factor.
pub record AreModel (trees : List Stmt) (model : Model) : Type 0 where
  pub trees_are : trees ≡ trees_of model
  pub accepted : IsAccepted model

-- The statements have this first fault, which is met when this text was printed.
pub record HaveFirstFault (trees : List Stmt) (fault : Fault) (printed : List ℕ) : Type 0 where
  pub first : IsFirstFault trees fault
  pub nothing : printed ≡ []

-- ---- what a model says

-- The columns that the statements of a model declare, in order, as they ask for them.
abbrev pub asks : Model → List Ask
asks model = plain_asks.variable_asks model

-- Every statement of a model is true where its declared columns are these fractions, in order.
abbrev pub AreTrue : Model → List Rational → Type 0
AreTrue model values = AllByRecursion (meaning.Holds (plain.variables model) values) model

-- The number of a model's objective where its declared columns are these fractions; 0 without an objective.
abbrev pub Obj : Model → List Rational → Rational
Obj model values = meaning.plain_objective model values

-- Whether a model's objective is to be maximised.
abbrev pub maximises : Model → Bool
maximises model = meaning.is_maximised model

-- The name of each statement of a model in order, and the position of the objective among them, from 0, if there is one.
abbrev pub statement_names : Model → Names
statement_names model = record { statements = map plain.given_name model; objective = systems.objective_position 0 model }

-- The text that the statements of a model print.
abbrev pub printed_by : Model → List ℕ
printed_by model = []

-- A text is one that statements may have printed before they stopped, which is none today.
abbrev pub MayBePrinted : List ℕ → Type 0
MayBePrinted printed = printed ≡ []

-- The statements of a model make this system in their order, and these are its declared columns.
pub record HasSystem (model : Model) (columns : List Declared) (system : LinearSystem) : Type 0 where
  pub columns_are : columns ≡ plain_asks.variable_columns model
  pub system_is : systems.IsSystemOf model system
