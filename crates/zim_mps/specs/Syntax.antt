-- How the fields of each line of an MPS text are read.
use Rattle.std.specs.Prelude.{ℕ, Bool, false, not, ◌&&◌, if◌then◌else◌, List, [], ◌∷◌, Option, Some, None, option_map, option_and_then, codes}
use Rattle.std.specs.Str.{bytes_eq}
use Rattle.zim_rational.specs.Rational.{Rational}
use Rattle.zim_decimal.specs.Reading.{number_of_text}
use Rattle.zim_fields.specs.Fields.{Field}
use Rattle.zim_mps.specs.Sections.{Sections}
use Rattle.zim_mps.specs.Program.{RowKind, RowLine, Entry, Setting, Bound, Program}
use Rattle.zim_mps.specs.Program.RowKind.{Free, AtLeast, AtMost, Equal}

-- What each of some lines is read as, where each can be read.
abbrev pub read_each : {A : Type 0} → (List Field → Option A) → List (List Field) → Option (List A)
read_each read [] = Some []
read_each {A} read (line ∷ lines) = option_and_then (λ (first : A). option_map (λ (others : List A). first ∷ others) (read_each read lines)) (read line)

-- `N`, `G`, `L`, `E`
abbrev pub row_kind : Field → Option RowKind
row_kind kind =
    if bytes_eq kind (codes "N") then Some Free
    else if bytes_eq kind (codes "G") then Some AtLeast
    else if bytes_eq kind (codes "L") then Some AtMost
    else if bytes_eq kind (codes "E") then Some Equal
    else None

-- A line of ROWS: its kind and its name.
abbrev pub read_row : List Field → Option RowLine
read_row (kind ∷ name ∷ []) = option_map (λ k. record { kind = k; name = name }) (row_kind kind)
read_row _ = None

-- A line of COLUMNS that is no marker: a column, a row and a coefficient.
abbrev pub read_entry : Bool → List Field → Option Entry
read_entry integer (column ∷ row ∷ number ∷ []) =
    option_map (λ q. record { column = column; row = row; coefficient = q; integer = integer }) (number_of_text number)
read_entry integer _ = None

-- A line of COLUMNS is a marker where its second field says so.
abbrev pub is_marker : List Field → Bool
is_marker (_ ∷ second ∷ _) = bytes_eq second (codes "'MARKER'")
is_marker _ = false

-- `MARKER 'MARKER' KIND`
abbrev pub is_marker_of : List ℕ → List Field → Bool
is_marker_of kind (first ∷ second ∷ third ∷ []) =
    bytes_eq first (codes "MARKER") && (bytes_eq second (codes "'MARKER'") && bytes_eq third kind)
is_marker_of kind _ = false

-- The lines of COLUMNS. `INTORG` begins integer columns, `INTEND` ends them; the two take turns.
abbrev pub read_entries : Bool → List (List Field) → Option (List Entry)
read_entries integer [] = if integer then None else Some []
read_entries integer (line ∷ lines) =
    if is_marker line
    then (if is_marker_of (if integer then codes "'INTEND'" else codes "'INTORG'") line then read_entries (not integer) lines else None)
    else option_and_then (λ (first : Entry). option_map (λ (others : List Entry). first ∷ others) (read_entries integer lines)) (read_entry integer line)

-- A line of RHS or RANGES: the word of the section, a row and a number.
abbrev pub read_setting : List ℕ → List Field → Option Setting
read_setting word (first ∷ row ∷ number ∷ []) =
    if bytes_eq first word then option_map (λ q. record { row = row; number = q }) (number_of_text number) else None
read_setting word _ = None

-- `MI`, `PL` and `FR` make ends infinite.
abbrev pub infinite_bound : Field → Field → Option Bound
infinite_bound kind column =
    if bytes_eq kind (codes "MI") then Some (record { column = column; lower = Some None; upper = None })
    else if bytes_eq kind (codes "PL") then Some (record { column = column; lower = None; upper = Some None })
    else if bytes_eq kind (codes "FR") then Some (record { column = column; lower = Some None; upper = Some None })
    else None

-- `LO` and `UP` set one end.
abbrev pub finite_bound : Field → Field → Rational → Option Bound
finite_bound kind column q =
    if bytes_eq kind (codes "LO") then Some (record { column = column; lower = Some (Some q); upper = None })
    else if bytes_eq kind (codes "UP") then Some (record { column = column; lower = None; upper = Some (Some q) })
    else None

-- A line of BOUNDS: its kind, `BND`, a column and, for `LO` and `UP`, a number.
abbrev pub read_bound : List Field → Option Bound
read_bound (kind ∷ word ∷ column ∷ []) = if bytes_eq word (codes "BND") then infinite_bound kind column else None
read_bound (kind ∷ word ∷ column ∷ number ∷ []) =
    if bytes_eq word (codes "BND") then option_and_then (finite_bound kind column) (number_of_text number) else None
read_bound _ = None

-- The lines of all sections.
abbrev pub read_program : Sections → Option Program
read_program sections =
    option_and_then (λ (rows : List RowLine).
    option_and_then (λ (entries : List Entry).
    option_and_then (λ (rhs : List Setting).
    option_and_then (λ (ranges : List Setting).
    option_map (λ (bounds : List Bound). record { rows = rows; entries = entries; rhs = rhs; ranges = ranges; bounds = bounds })
    (read_each read_bound sections.bounds))
    (read_each (read_setting (codes "RNG")) sections.ranges))
    (read_each (read_setting (codes "RHS")) sections.rhs))
    (read_entries false sections.columns))
    (read_each read_row sections.rows)
