-- The sections of a readable file say the system of its parts: its columns by name, its rows, its objective.
use Rattle.std.proofs.Common.{◌≡◌, Bool, true, false, cond, ◌||◌, List, [], ◌∷◌, ◌++◌, map, Option, Some, None, refl, sym, ◌∙◌, ap, subst}
use Rattle.std.specs.Prelude.{flat_map, fold, option_map, ⊤}
use Rattle.std.specs.List.{AllByRecursion}
use Rattle.std.specs.Str.{bytes_eq}
use Rattle.zim_rational.specs.Rational.{Rational, zero}
use Rattle.zim_instance.specs.Instance.{Column, NamedTerm, Row}
use Rattle.zim_instance.specs.System.{NamedColumn, column_named, HasDistinctNames, Says}
use Rattle.zim_instance.proofs.Points.{same-bytes_eq}
use Rattle.zim_rows.specs.declared.rows.Sense.{Sense}
use Rattle.zim_rows.specs.declared.rows.Sense.TheVariants.{AtLeast, AtMost, Equal}
use Rattle.zim_lp.specs.Words.{Word}
use Rattle.zim_lp.specs.Program.{is_among, names_of_terms, names_of_program, name_of_bound, ends_set, with_bound, column_of_program, instance_of}
use Rattle.zim_lp.specs.Reader.{lp}
use Rattle.zim_lp.specs.FileText.{WrittenTerm, WrittenRow, WrittenColumn, WrittenFile, integers, file_text}
use Rattle.zim_lp.proofs.Readable.{number_said, term_said, row_by, row_said, column_said, system_said, column_names, AreOver, IsReadableFile}
use Rattle.zim_lp.proofs.Parsing.{bound_by, bound_said}
use Rattle.zim_lp.proofs.File.{program_said, file_read}

-- words among names

pub among_append : (a b : List Word) (w : Word) → is_among (a ++ b) w ≡ (is_among a w || is_among b w)
among_append [] b w = refl
among_append (n ∷ a) b w = by_first (bytes_eq w n) a b w (among_append a b w)
  where
    by_first : (t : Bool) (a b : List Word) (w : Word) → is_among (a ++ b) w ≡ (is_among a w || is_among b w) → (t || is_among (a ++ b) w) ≡ ((t || is_among a w) || is_among b w)
    by_first true a b w e = refl
    by_first false a b w e = e

-- words that are all among some names
abbrev AllAmong : List Word → List Word → Type 0
AllAmong known ws = AllByRecursion (λ w. is_among known w ≡ true) ws

among_known : (known ws : List Word) → AllAmong known ws → (w : Word) → is_among ws w ≡ true → is_among known w ≡ true
among_known known [] all w among = cc
among_known known (n ∷ ws) all w among = by_first (bytes_eq w n) refl among (among_known known ws all.1 w)
  where
    by_first : (t : Bool) → bytes_eq w n ≡ t → (t || is_among ws w) ≡ true → (is_among ws w ≡ true → is_among known w ≡ true) → is_among known w ≡ true
    by_first true e among later = subst (λ v. is_among known v ≡ true) (sym (same-bytes_eq w n e)) all.0
    by_first false e among later = later among

all_among_append : (known a b : List Word) → AllAmong known a → AllAmong known b → AllAmong known (a ++ b)
all_among_append known [] b p q = q
all_among_append known (n ∷ a) b p q = (p.0, all_among_append known a b p.1 q)

-- the names in the sections

terms_names : (known : List Word) (ts : List WrittenTerm) → AreOver known ts → AllAmong known (names_of_terms (map term_said ts))
terms_names known [] all = tt
terms_names known (t ∷ ts) all = (all.0, terms_names known ts all.1)

terms_of_row : (sense : Sense) (terms : List NamedTerm) (right : Rational) → (row_by sense terms right).terms ≡ terms
terms_of_row AtLeast terms right = refl
terms_of_row AtMost terms right = refl
terms_of_row Equal terms right = refl

rows_names : (known : List Word) (rows : List WrittenRow) → AllByRecursion (λ (r : WrittenRow). AreOver known r.terms) rows → AllAmong known (flat_map (λ (r : Row). names_of_terms r.terms) (map row_said rows))
rows_names known [] all = tt
rows_names known (r ∷ rows) all =
    all_among_append
    known
    (names_of_terms (row_said r).terms)
    (flat_map (λ (s : Row). names_of_terms s.terms) (map row_said rows))
    (subst
    (λ (ts : List NamedTerm). AllAmong known (names_of_terms ts))
    (sym (terms_of_row r.sense (map term_said r.terms) (number_said r.right)))
    (terms_names known r.terms all.0))
    (rows_names known rows all.1)

bound_name : (name : Word) (lower upper : Option Rational) → name_of_bound (bound_by name lower upper) ≡ name
bound_name name (Some lower) (Some upper) = refl
bound_name name (Some lower) None = refl
bound_name name None (Some upper) = refl
bound_name name None None = refl

bounds_names : (columns : List WrittenColumn) → map name_of_bound (map bound_said columns) ≡ column_names columns
bounds_names [] = refl
bounds_names (c ∷ cs) =
    ap (λ n. n ∷ map name_of_bound (map bound_said cs)) (bound_name c.name (option_map number_said c.lower) (option_map number_said c.upper))
    ∙ ap (λ ns. c.name ∷ ns) (bounds_names cs)

-- integer columns are columns
integers_among : (columns : List WrittenColumn) (w : Word) → is_among (column_names (integers columns)) w ≡ true → is_among (column_names columns) w ≡ true
integers_among [] w e = e
integers_among (c ∷ cs) w e = by_mark c.integer (bytes_eq w c.name) refl e (integers_among cs w)
  where
    by_mark : (mark t : Bool) → bytes_eq w c.name ≡ t → is_among (column_names (cond mark (c ∷ integers cs) (integers cs))) w ≡ true → (is_among (column_names (integers cs)) w ≡ true → is_among (column_names cs) w ≡ true) → (t || is_among (column_names cs) w) ≡ true
    by_mark mark true same e later = refl
    by_mark true false same e later = later (rw same at e)
    by_mark false false same e later = later e

or_known : (a b n g : Bool) → (a ≡ true → n ≡ true) → (b ≡ true → n ≡ true) → (g ≡ true → n ≡ true) → (a || (b || (n || g))) ≡ n
or_known true b n g p q r = sym (p refl)
or_known false true n g p q r = sym (q refl)
or_known false false true g p q r = refl
or_known false false false true p q r = sym (r refl)
or_known false false false false p q r = refl

-- the names in the sections are those of the columns
file_names : (file : WrittenFile) → IsReadableFile file → (name : Word) → is_among (names_of_program (program_said file)) name ≡ is_among (column_names file.columns) name
file_names file is name =
    let known : List Word = column_names file.columns in
    let a : List Word = names_of_terms (map term_said file.objective) in
    let b : List Word = flat_map (λ (r : Row). names_of_terms r.terms) (map row_said file.rows) in
    let c : List Word = map name_of_bound (map bound_said file.columns) in
    let g : List Word = column_names (integers file.columns) in
    among_append a (b ++ (c ++ g)) name
    ∙ ap (λ t. is_among a name || t) (among_append b (c ++ g) name)
    ∙ ap (λ t. is_among a name || (is_among b name || t)) (among_append c g name)
    ∙ ap (λ (ns : List Word). is_among a name || (is_among b name || (is_among ns name || is_among g name))) (bounds_names file.columns)
    ∙ or_known (is_among a name) (is_among b name) (is_among known name) (is_among g name)
    (among_known known a (terms_names known file.objective is.objective_over) name)
    (among_known known b (rows_names known file.rows is.rows_over) name)
    (integers_among file.columns name)

-- what the bounds make of a column

-- a column before its bounds
abbrev unbounded : Bool → Column
unbounded integer = record { integer = integer; lower = Some zero; upper = None }

bound_sets : (mark : Bool) (name : Word) (lower upper : Option Rational) → ends_set (unbounded mark) (bound_by name lower upper) ≡ record { integer = mark; lower = lower; upper = upper }
bound_sets mark name (Some lower) (Some upper) = refl
bound_sets mark name (Some lower) None = refl
bound_sets mark name None (Some upper) = refl
bound_sets mark name None None = refl

-- a bound of another name
other_bound : (name : Word) (column : Column) (c : WrittenColumn) → bytes_eq name c.name ≡ false → with_bound name column (bound_said c) ≡ column
other_bound name column c e =
    let other : bytes_eq name (name_of_bound (bound_said c)) ≡ false = ap (λ n. bytes_eq name n) (bound_name c.name (option_map number_said c.lower) (option_map number_said c.upper)) ∙ e in
    rw other refl

-- the bound of the name
own_bound : (name : Word) (mark : Bool) (c : WrittenColumn) → bytes_eq name c.name ≡ true → with_bound name (unbounded mark) (bound_said c) ≡ record (column_said c).column { integer = mark }
own_bound name mark c e =
    let own : bytes_eq name (name_of_bound (bound_said c)) ≡ true = ap (λ n. bytes_eq name n) (bound_name c.name (option_map number_said c.lower) (option_map number_said c.upper)) ∙ e in
    rw own (bound_sets mark c.name (option_map number_said c.lower) (option_map number_said c.upper))

others_leave : (cs : List WrittenColumn) (name : Word) (column : Column) → AllByRecursion (λ (d : NamedColumn). bytes_eq name d.name ≡ false) (map column_said cs) → fold (with_bound name) column (map bound_said cs) ≡ column
others_leave [] name column others = refl
others_leave (c ∷ cs) name column others =
    ap (λ d. fold (with_bound name) d (map bound_said cs)) (other_bound name column c others.0) ∙ others_leave cs name column others.1

-- the column of a name, but for its mark
abbrev marked : Bool → Option Column → Option Column
marked mark o = option_map (λ (c : Column). (record c { integer = mark })) o

bounded : (mark : Bool) (cs : List WrittenColumn) (name : Word) → HasDistinctNames (map column_said cs) → cond (is_among (column_names cs) name) (Some (fold (with_bound name) (unbounded mark) (map bound_said cs))) None ≡ marked mark (column_named (map column_said cs) name)
bounded mark [] name distinct = refl
bounded mark (c ∷ cs) name distinct = by_first (bytes_eq name c.name) refl (bounded mark cs name distinct.1)
  where
    by_first : (t : Bool) → bytes_eq name c.name ≡ t → cond (is_among (column_names cs) name) (Some (fold (with_bound name) (unbounded mark) (map bound_said cs))) None ≡ marked mark (column_named (map column_said cs) name) → cond (t || is_among (column_names cs) name) (Some (fold (with_bound name) (with_bound name (unbounded mark) (bound_said c)) (map bound_said cs))) None ≡ marked mark (cond t (Some (column_said c).column) (column_named (map column_said cs) name))
    by_first true e later =
        let others : AllByRecursion (λ (d : NamedColumn). bytes_eq name d.name ≡ false) (map column_said cs) = subst (λ n. AllByRecursion (λ (d : NamedColumn). bytes_eq n d.name ≡ false) (map column_said cs)) (sym (same-bytes_eq name c.name e)) distinct.0 in
        ap (λ d. Some (fold (with_bound name) d (map bound_said cs))) (own_bound name mark c e)
        ∙ ap Some (others_leave cs name (record (column_said c).column { integer = mark }) others)
    by_first false e later =
        ap (λ d. cond (is_among (column_names cs) name) (Some (fold (with_bound name) d (map bound_said cs))) None) (other_bound name (unbounded mark) c e) ∙ later

-- the mark of a column

no_mark : (cs : List WrittenColumn) (name : Word) → AllByRecursion (λ (d : NamedColumn). bytes_eq name d.name ≡ false) (map column_said cs) → is_among (column_names (integers cs)) name ≡ false
no_mark [] name others = refl
no_mark (c ∷ cs) name others = by_mark c.integer (no_mark cs name others.1)
  where
    by_mark : (mark : Bool) → is_among (column_names (integers cs)) name ≡ false → is_among (column_names (cond mark (c ∷ integers cs) (integers cs))) name ≡ false
    by_mark true later = rw others.0 later
    by_mark false later = later

-- the columns of a list have their marks under `Generals`
abbrev HasMark : List WrittenColumn → Word → Option Column → Type 0
HasMark cs name None = ⊤
HasMark cs name (Some d) = is_among (column_names (integers cs)) name ≡ d.integer

marks : (cs : List WrittenColumn) (name : Word) → HasDistinctNames (map column_said cs) → HasMark cs name (column_named (map column_said cs) name)
marks [] name distinct = tt
marks (c ∷ cs) name distinct = by_first (bytes_eq name c.name) refl (column_named (map column_said cs) name) (marks cs name distinct.1)
  where
    mark_of_first : (mark : Bool) → bytes_eq name c.name ≡ true → is_among (column_names (integers cs)) name ≡ false → is_among (column_names (cond mark (c ∷ integers cs) (integers cs))) name ≡ mark
    mark_of_first true e none = rw e refl
    mark_of_first false e none = none

    mark_of_later : (mark : Bool) → bytes_eq name c.name ≡ false → is_among (column_names (cond mark (c ∷ integers cs) (integers cs))) name ≡ is_among (column_names (integers cs)) name
    mark_of_later true e = rw e refl
    mark_of_later false e = refl

    later_mark : (o : Option Column) → bytes_eq name c.name ≡ false → HasMark cs name o → HasMark (c ∷ cs) name o
    later_mark None e has = tt
    later_mark (Some d) e has = mark_of_later c.integer e ∙ has

    by_first : (t : Bool) → bytes_eq name c.name ≡ t → (o : Option Column) → HasMark cs name o → HasMark (c ∷ cs) name (cond t (Some (column_said c).column) o)
    by_first true e o has =
        let others : AllByRecursion (λ (d : NamedColumn). bytes_eq name d.name ≡ false) (map column_said cs) = subst (λ n. AllByRecursion (λ (d : NamedColumn). bytes_eq n d.name ≡ false) (map column_said cs)) (sym (same-bytes_eq name c.name e)) distinct.0 in
        mark_of_first c.integer e (no_mark cs name others)
    by_first false e o has = later_mark o e has

own_mark : (cs : List WrittenColumn) (name : Word) (o : Option Column) → HasMark cs name o → marked (is_among (column_names (integers cs)) name) o ≡ o
own_mark cs name None has = refl
own_mark cs name (Some d) has = ap (λ m. Some (record d { integer = m })) has

-- the sections say the system
pub says_said : (file : WrittenFile) → IsReadableFile file → Says (instance_of (program_said file)) (system_said file)
says_said file is = record {
  columns = λ name.
      ap (λ t. cond t (Some (column_of_program (program_said file) name)) None) (file_names file is name)
      ∙ bounded (is_among (column_names (integers file.columns)) name) file.columns name is.distinct
      ∙ own_mark file.columns name (column_named (map column_said file.columns) name) (marks file.columns name is.distinct);
  rows = λ point. ((λ h. h), (λ h. h));
  objective = λ point. refl;
  maximises = refl;
}

-- the text of a readable file has an instance, which says the system of its parts
pub file_instance : (file : WrittenFile) → IsReadableFile file → lp (file_text file) ≡ Some (instance_of (program_said file))
file_instance file is = ap (λ o. option_map instance_of o) (file_read file is)
