-- Which lists of words are jobs of the command. A word is its bytes.
use Rattle.std.specs.Prelude.{ℕ, Bool, false, not, ◌&&◌, ◌==◌, List, [], ◌∷◌, ◌++◌, Option, Some, None, codes, if◌then◌else◌}
use Rattle.std.specs.List.{list_any}
use Rattle.std.specs.Str.{bytes_eq}
use Rattle.zim_cli.specs.declared.jobs.Job.{Job}
use Rattle.zim_cli.specs.declared.jobs.Job.TheVariants.{Compile}

-- a word that can name a file: it isn't empty and doesn't begin with a minus sign
abbrev pub is_operand : List ℕ → Bool
is_operand [] = false
is_operand (byte ∷ _) = not (byte == 45)

-- the model is one of the files that a compilation to this base writes
abbrev pub is_output_of : List ℕ → List ℕ → Bool
is_output_of base model =
    list_any (λ ending. bytes_eq model (base ++ ending)) (codes ".lp" ∷ codes ".mps" ∷ codes ".tbl" ∷ [])

-- the job that the words are: MODEL, `--out` and BASE, in this order
abbrev pub job_of : List (List ℕ) → Option Job
job_of (model ∷ option ∷ base ∷ []) =
    if bytes_eq option (codes "--out") && is_operand model && is_operand base && not (is_output_of base model)
    then Some (Compile model base)
    else None
job_of _ = None
