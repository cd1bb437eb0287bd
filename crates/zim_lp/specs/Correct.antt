-- What it means that a text in the LP format says a linear program, and the law that the text of each does.
use Rattle.std.specs.Prelude.{◌≡◌, ℕ, List, Some, pos}
use Rattle.zim_instance.specs.Instance.{Instance}
use Rattle.zim_instance.specs.System.{Says}
use Rattle.zim_rows.specs.Program.{LinearProgram, IsProgram}
use Rattle.zim_rows.specs.Named.{named_system}
use Rattle.zim_rows.specs.Represents.{Represents}
use Rattle.zim_lp.specs.Reader.{lp}
use Rattle.zim_lp.specs.Text.{lp_text}

-- The text has an instance, which says the program, with its aim, and so represents it by the factor 1.
pub record SaysProgram (text : List ℕ) (program : LinearProgram) : Type 0 where
  pub instance : Instance
  pub read : lp text ≡ Some instance
  pub says : Says instance (named_system program)
  pub represents : Represents instance program (pos 1)

-- The law of the format: the text of each program that a finished system may be says that program.
abbrev pub TextsSayPrograms : Type 0
TextsSayPrograms = (program : LinearProgram) → IsProgram program.columns program.rows program.target → SaysProgram (lp_text program) program
