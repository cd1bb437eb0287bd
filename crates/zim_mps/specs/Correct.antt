-- What it means that an MPS text says a linear program, and the law that the text of each does.
use Rattle.std.specs.Prelude.{◌≡◌, ℕ, false, List, map, Some, pos, negsuc, if◌then◌else◌, Bool, ℤ}
use Rattle.zim_rational.specs.Rational.{negate}
use Rattle.zim_instance.specs.Instance as instance
use Rattle.zim_instance.specs.Instance.{Instance}
use Rattle.zim_instance.specs.System.{System, Says}
use Rattle.zim_rows.specs.Program.{LinearProgram, IsProgram}
use Rattle.zim_rows.specs.Named.{named_system, named_objective}
use Rattle.zim_rows.specs.Represents.{Represents}
use Rattle.zim_mps.specs.Reader.{mps}
use Rattle.zim_mps.specs.Text.{mps_text}

-- A term of the objective, its coefficient negated where the program maximises.
abbrev pub minimised_term : Bool → instance.NamedTerm → instance.NamedTerm
minimised_term maximises term =
    record { name = term.name; coefficient = if maximises then negate term.coefficient else term.coefficient }

-- The program by name, minimised: where it maximises, each coefficient of its objective is the negative.
abbrev pub minimised_system : LinearProgram → System
minimised_system program =
    record (named_system program) {
      objective = map (minimised_term program.target.maximize) (named_objective program);
      maximises = false;
    }

-- The factor of the objective in the MPS file: 1, or -1 where the program maximises.
abbrev pub mps_factor : Bool → ℤ
mps_factor maximises = if maximises then negsuc 0 else pos 1

-- The text has an instance, which says the program, minimised, and so represents it.
pub record SaysMinimised (text : List ℕ) (program : LinearProgram) : Type 0 where
  pub instance : Instance
  pub read : mps text ≡ Some instance
  pub says : Says instance (minimised_system program)
  pub represents : Represents instance program (mps_factor program.target.maximize)

-- The law of the format: the text of each program that a finished system may be says that program, minimised.
abbrev pub TextsSayPrograms : Type 0
TextsSayPrograms = (program : LinearProgram) → IsProgram program.columns program.rows program.target → SaysMinimised (mps_text program) program
