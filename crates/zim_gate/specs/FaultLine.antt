-- The line that tells of a fault.
use Rattle.std.specs.Prelude.{ℕ, List, [], ◌++◌, codes, decimal, slice_get, unwrap_or}
use Rattle.zim_fault.specs.declared.faults.Fault.{Fault}
use Rattle.zim_fault.specs.declared.kinds.Kind.{Kind}
use Rattle.zim_fault.specs.declared.kinds.Kind.TheVariants.{Unsupported}
use Rattle.zim_fault.specs.Kinds.{kind_number, kind_text}
use Rattle.zim_fault.specs.Words.{spelling_of_word}

-- the word of a kind that has one, after a blank
abbrev pub word_part : Kind → List ℕ
word_part (Unsupported word) = codes " " ++ spelling_of_word word
word_part _ = []

-- a kind's number and name, and its word
abbrev pub kind_part : Kind → List ℕ
kind_part kind = decimal (kind_number kind) ++ (codes " " ++ (kind_text kind ++ word_part kind))

-- the name of a file by its position
abbrev pub file_name : List (List ℕ) → ℕ → List ℕ
file_name files file = unwrap_or (slice_get files file) []

-- `FILE:LINE: NUMBER KIND`, and for `Unsupported` a blank and the word, and a line end
abbrev pub fault_text : List (List ℕ) → Fault → List ℕ
fault_text files fault =
    file_name files fault.place.file ++ (codes ":" ++ (decimal fault.place.line ++ (codes ": " ++ (kind_part fault.kind ++ codes "\n"))))
