-- The instance of a text in the free MPS format: its lines, read section by section.
use Rattle.std.specs.Prelude.{ℕ, List, Option, option_and_then}
use Rattle.zim_instance.specs.Instance.{Instance}
use Rattle.zim_mps.specs.Sections.{read_sections}
use Rattle.zim_mps.specs.Syntax.{read_program}
use Rattle.zim_mps.specs.Program.{meaning}

-- The instance that a text has in the MPS format, if it has one.
abbrev pub mps : List ℕ → Option Instance
mps text = option_and_then meaning (option_and_then read_program (read_sections text))
