-- The instance of a text in the LP format: its words, read section by section.
use Rattle.std.specs.Prelude.{ℕ, Bool, if◌then◌else◌, List, [], ◌∷◌, length, Option, Some, None, option_map, option_and_then, codes}
use Rattle.std.specs.Cmp.Lexicographic.{pointwise}
use Rattle.std.specs.Str.{bytes_eq}
use Rattle.zim_instance.specs.Instance.{NamedTerm, Row, Instance}
use Rattle.zim_lp.specs.Words.{Word, lp_words}
use Rattle.zim_lp.specs.Program.{Bound, Program, instance_of}
use Rattle.zim_lp.specs.Syntax.{words_behind, read_all, read_aim, read_terms, is_label, read_row, begins_bound, read_bound, read_generals}

-- The last sections: bounds, where present `Generals`, and `End`.
abbrev pub read_last_sections : Bool → List NamedTerm → List Row → List Word → Option Program
read_last_sections maximises objective rows ws =
    option_and_then
    (λ (bounds : List Bound × List Word).
    option_and_then
    (λ (generals : List Word × List Word).
    if pointwise bytes_eq generals.1 (codes "End" ∷ [])
    then Some (record { maximises = maximises; objective = objective; rows = rows; bounds = bounds.0; generals = generals.0 })
    else None)
    (read_generals bounds.1))
    (read_all begins_bound read_bound (length ws) ws)

-- The sections behind the objective: `Subject`, `To`, rows, `Bounds` and the last ones.
abbrev pub read_sections : Bool → List NamedTerm → List Word → Option Program
read_sections maximises objective ws =
    option_and_then
    (λ (row_words : List Word).
    option_and_then
    (λ (rows : List Row × List Word). option_and_then (read_last_sections maximises objective rows.0) (words_behind (codes "Bounds") rows.1))
    (read_all is_label read_row (length row_words) row_words))
    (option_and_then (words_behind (codes "To")) (words_behind (codes "Subject") ws))

-- The sections of a text: `Minimize` or `Maximize`, `obj:`, a term list, and the others.
abbrev pub read_program : List Word → Option Program
read_program ws =
    option_and_then
    (λ (aim : Bool × List Word).
    option_and_then
    (λ (objective : List NamedTerm × List Word). read_sections aim.0 objective.0 objective.1)
    (option_and_then read_terms (words_behind (codes "obj:") aim.1)))
    (read_aim ws)

-- The instance that a text has in the LP format, if it has one.
abbrev pub lp : List ℕ → Option Instance
lp text = option_map instance_of (read_program (lp_words text))
