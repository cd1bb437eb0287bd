-- The laws of grounding: a ground formula says at the numbers of its columns what the source says where each variable is the number of its column,
-- and it names declared columns alone.
use Rattle.std.specs.Prelude.{ℕ, Bool, ◌≡◌, true, List, [], Some, Ok}
use Rattle.zim_formula.specs.Ground.{term_number, constraint_holds}
use Rattle.zim_formula.specs.GroundRules.{is_column, is_term_over, is_constraint_over}
use Rattle.zim_formula.specs.declared.ground.GTerm.{GTerm}
use Rattle.zim_formula.specs.declared.ground.GCon.{GCon}
use Rattle.zim_linear.specs.Forms.{ColumnNumbers}
use Rattle.zim_meaning.specs.World.{World}
use Rattle.zim_tuples.specs.declared.elements.Elem.{Elem}
use Rattle.zim_typed.specs.Scope.{Names, Scope}
use Rattle.zim_typed.specs.Suits.{SuitsCon}
use Rattle.zim_typed.specs.declared.constraint.Term.{Term}
use Rattle.zim_typed.specs.declared.constraint.Con.{Con}
use Rattle.zim_ground.specs.Meaning.{Assignment, number_of_term, truth_of_constraint}
use Rattle.zim_ground.specs.Listed.{term_passes, constraint_passes}
use Rattle.zim_ground.specs.Grounding.{Columns, constraint_answer, objective_answer}

-- each declared column has the number that its name and its index are assigned
abbrev pub Agree : Columns → ColumnNumbers → Assignment → Type 0
Agree columns x a = (name : List ℕ) (tuple : List Elem) (j : ℕ) → columns name tuple ≡ Some j → x j ≡ a name tuple

-- the declared columns pass a test
abbrev pub AllPass : (ℕ → Bool) → Columns → Type 0
AllPass passes columns = (name : List ℕ) (tuple : List Elem) (j : ℕ) → columns name tuple ≡ Some j → passes j ≡ true

-- the ground term of an objective has at the numbers of the columns the number of the objective
abbrev pub ObjectiveKeepsNumber : Type 0
ObjectiveKeepsNumber = (world : World) (columns : Columns) (a : Assignment) (x : ColumnNumbers) → Agree columns x a → (t : Term) (g : GTerm) → objective_answer world columns t ≡ Ok g → term_number x g ≡ number_of_term world a [] t

-- it names declared columns alone, as its columns pass each test that all of these pass, and divides by no 0
abbrev pub ObjectiveNamesDeclared : Type 0
ObjectiveNamesDeclared = (world : World) (columns : Columns) (passes : ℕ → Bool) → AllPass passes columns → (t : Term) (g : GTerm) → objective_answer world columns t ≡ Ok g → term_passes passes g ≡ true

-- so it is over the columns from 1 to n, where the declared columns are some of these
abbrev pub ObjectiveIsOver : Type 0
ObjectiveIsOver = (world : World) (columns : Columns) (n : ℕ) → AllPass (is_column n) columns → (t : Term) (g : GTerm) → objective_answer world columns t ≡ Ok g → is_term_over n g ≡ true

-- a ground constraint holds at the numbers of the columns exactly where the constraint is true
abbrev pub ConstraintKeepsTruth : Type 0
ConstraintKeepsTruth = (world : World) (columns : Columns) (a : Assignment) (x : ColumnNumbers) → Agree columns x a → (c : Con) (g : GCon) → constraint_answer world columns c ≡ Ok g → constraint_holds x g ≡ truth_of_constraint world a [] c

-- where the constraint suits its scope, its ground constraint names declared columns alone, divides by no 0, and compares as rows do
abbrev pub ConstraintNamesDeclared : Type 0
ConstraintNamesDeclared = (world : World) (columns : Columns) (passes : ℕ → Bool) → AllPass passes columns → (scope : Scope) (names : Names) (c : Con) → SuitsCon scope names c → (g : GCon) → constraint_answer world columns c ≡ Ok g → constraint_passes passes g ≡ true

-- so it is over the columns from 1 to n, where the declared columns are some of these
abbrev pub ConstraintIsOver : Type 0
ConstraintIsOver = (world : World) (columns : Columns) (n : ℕ) → AllPass (is_column n) columns → (scope : Scope) (names : Names) (c : Con) → SuitsCon scope names c → (g : GCon) → constraint_answer world columns c ≡ Ok g → is_constraint_over n g ≡ true
