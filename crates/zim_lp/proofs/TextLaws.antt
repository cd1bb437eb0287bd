-- The text of a program says the program: a list without terms sums up as its one term with the coefficient 0 does, and a
-- range holds where both of its rows do.
use Rattle.std.proofs.Common.{◌≡◌, ◌↔◌, ℕ, Bool, true, false, cond, not, ◌||◌, List, [], ◌∷◌, ◌++◌, length, map, Option, Some, None, refl, sym, ◌∙◌, ap, subst, append-nil}
use Rattle.std.specs.Prelude.{◌==◌, flat_map}
use Rattle.std.specs.List.{AllByRecursion}
use Rattle.zim_rational.specs.Rational.{Rational, zero, plus, times, total, same}
use Rattle.zim_rational.proofs.Ring.{zero_times, plus_zero}
use Rattle.zim_rational.proofs.Whole.{same_Decides}
use Rattle.zim_instance.specs.Instance as instance
use Rattle.zim_instance.specs.Instance.{Instance, Point, IsFrom, IsUpTo, KeepsRow, number_named, sum_of_named}
use Rattle.zim_instance.specs.System.{Says}
use Rattle.zim_rows.specs.declared.rows.Row.{Row}
use Rattle.zim_rows.specs.declared.rows.RowKind.{RowKind}
use Rattle.zim_rows.specs.declared.rows.RowKind.TheVariants.{One, Range}
use Rattle.zim_rows.specs.declared.rows.Sense.TheVariants.{AtLeast, AtMost, Equal}
use Rattle.zim_rows.specs.Program.{LinearProgram}
use Rattle.zim_rows.specs.Named.{offset_name, has_offset, named_term, low_end, high_end, named_row, named_objective, named_system}
use Rattle.zim_rows.proofs.RepresentLaws.{sum_at_both, represents_named}
use Rattle.zim_lp.specs.Program.{instance_of}
use Rattle.zim_lp.specs.Text.{first_name, written_file}
use Rattle.zim_lp.specs.Correct.{TextsSayPrograms}
use Rattle.zim_lp.proofs.Readable.{IsReadableFile}
use Rattle.zim_lp.proofs.File.{program_said}
use Rattle.zim_lp.proofs.Meaning.{says_said, file_instance}
use Rattle.zim_lp.proofs.ProgramParts.{all_append, or_named_zero, named_offset, rows_by, file_row}
use Rattle.zim_lp.proofs.ProgramFile.{file_system, program_readable, system_same}

-- sums of terms

or_zero_sum : (n : ℕ) (point : Point) (ts : List instance.NamedTerm) → sum_of_named point (or_named_zero n ts) ≡ sum_of_named point ts
unfolding total
or_zero_sum n point [] =
    plus_zero (times zero (number_named point (first_name n))) ∙ zero_times (number_named point (first_name n))
or_zero_sum n point (t ∷ ts) = refl

-- a constant 0 times a column is as no term
no_term : (name : List ℕ) (c : Rational) (point : Point) (ts : List instance.NamedTerm) → c ≡ zero → sum_of_named point ts ≡ sum_of_named point (ts ++ (record { name = name; coefficient = c } ∷ []))
unfolding total
no_term name c point ts none =
    sym
    (sum_at_both point ts (record { name = name; coefficient = c } ∷ [])
    ∙ ap (λ q. plus (sum_of_named point ts) q) (plus_zero (times c (number_named point name)) ∙ ap (λ q. times q (number_named point name)) none ∙ zero_times (number_named point name))
    ∙ plus_zero (sum_of_named point ts))

-- the constant of an objective, whether it is written or not
offset_sum : (p : LinearProgram) (point : Point) (ts : List instance.NamedTerm) → sum_of_named point (ts ++ named_offset p.target.constant) ≡ sum_of_named point (ts ++ cond (has_offset p) (record { name = offset_name; coefficient = p.target.constant } ∷ []) [])
offset_sum p point ts = by_test (length p.columns == 0) (same p.target.constant zero) refl
  where
    offset : List instance.NamedTerm
    offset = record { name = offset_name; coefficient = p.target.constant } ∷ []

    by_test : (none zeros : Bool) → same p.target.constant zero ≡ zeros → sum_of_named point (ts ++ cond zeros [] offset) ≡ sum_of_named point (ts ++ cond (none || not zeros) offset [])
    by_test true true e =
        ap (λ us. sum_of_named point us) (append-nil ts) ∙ no_term offset_name p.target.constant point ts ((same_Decides p.target.constant zero).0 e)
    by_test false true e = refl
    by_test true false e = refl
    by_test false false e = refl

objective_sum : (p : LinearProgram) (point : Point) → sum_of_named point (or_named_zero (length p.columns) (map named_term p.target.terms ++ named_offset p.target.constant)) ≡ sum_of_named point (named_objective p)
objective_sum p point =
    or_zero_sum (length p.columns) point (map named_term p.target.terms ++ named_offset p.target.constant)
    ∙ offset_sum p point (map named_term p.target.terms)

-- rows

keeps_same : (point : Point) (a b : List instance.NamedTerm) (low high : Option Rational) → sum_of_named point a ≡ sum_of_named point b → KeepsRow point (record { terms = a; low = low; high = high }) → KeepsRow point (record { terms = b; low = low; high = high })
keeps_same point a b low high e k = record { low = subst (λ q. IsFrom low q) e k.low; high = subst (λ q. IsUpTo high q) e k.high }

same_row : (point : Point) (a b : List instance.NamedTerm) (low high : Option Rational) → sum_of_named point a ≡ sum_of_named point b → AllByRecursion (KeepsRow point) (record { terms = a; low = low; high = high } ∷ []) ↔ KeepsRow point (record { terms = b; low = low; high = high })
same_row point a b low high e = ((λ k. keeps_same point a b low high e k.0), (λ k. (keeps_same point b a low high (sym e) k, tt)))

kind_keeps : (point : Point) (a b : List instance.NamedTerm) (kind : RowKind) → sum_of_named point a ≡ sum_of_named point b → AllByRecursion (KeepsRow point) (rows_by a kind) ↔ KeepsRow point (record { terms = b; low = low_end kind; high = high_end kind })
kind_keeps point a b (One AtLeast right) e = same_row point a b (Some right) None e
kind_keeps point a b (One AtMost right) e = same_row point a b None (Some right) e
kind_keeps point a b (One Equal right) e = same_row point a b (Some right) (Some right) e
kind_keeps point a b (Range low high) e = (
  (λ k. record { low = subst (λ q. IsFrom (Some low) q) e k.0.low; high = subst (λ q. IsUpTo (Some high) q) e k.1.0.high }),
  (λ k. (
    record { low = subst (λ q. IsFrom (Some low) q) (sym e) k.low; high = tt },
    (record { low = tt; high = subst (λ q. IsUpTo (Some high) q) (sym e) k.high }, tt),
  )),
)

-- lists in two parts
all_parts : {X : Type 0} (P : X → Type 0) (xs ys : List X) → AllByRecursion P (xs ++ ys) → AllByRecursion P xs × AllByRecursion P ys
all_parts P [] ys k = (tt, k)
all_parts P (x ∷ xs) ys k = let later = all_parts P xs ys k.1 in ((k.0, later.0), later.1)

rows_keep : (n : ℕ) (point : Point) (rows : List Row) → AllByRecursion (KeepsRow point) (flat_map (file_row n) rows) ↔ AllByRecursion (KeepsRow point) (map named_row rows)
rows_keep n point [] = ((λ _. tt), (λ _. tt))
rows_keep n point (r ∷ rows) =
    let here : AllByRecursion (KeepsRow point) (file_row n r) ↔ KeepsRow point (named_row r) =
    kind_keeps point (or_named_zero n (map named_term r.terms)) (map named_term r.terms) r.kind (or_zero_sum n point (map named_term r.terms)) in
    let later : AllByRecursion (KeepsRow point) (flat_map (file_row n) rows) ↔ AllByRecursion (KeepsRow point) (map named_row rows) = rows_keep n point rows in (
      (λ k. let parts = all_parts (KeepsRow point) (file_row n r) (flat_map (file_row n) rows) k in (here.0 parts.0, later.0 parts.1)),
      (λ k. all_append (KeepsRow point) (file_row n r) (flat_map (file_row n) rows) (here.1 k.0) (later.1 k.1)),
    )

-- the law

says_named : (i : Instance) (p : LinearProgram) → Says i (file_system p) → Says i (named_system p)
says_named i p says = record {
  columns = says.columns;
  rows = λ point. same_rows point (rows_keep (length p.columns) point p.rows);
  objective = λ point. says.objective point ∙ objective_sum p point;
  maximises = says.maximises;
}
  where
    same_rows : (point : Point) → (AllByRecursion (KeepsRow point) (flat_map (file_row (length p.columns)) p.rows) ↔ AllByRecursion (KeepsRow point) (map named_row p.rows)) → AllByRecursion (KeepsRow point) i.rows ↔ AllByRecursion (KeepsRow point) (map named_row p.rows)
    same_rows point both = ((λ k. both.0 ((says.rows point).0 k)), (λ k. (says.rows point).1 (both.1 k)))

-- The text of each program says it.
pub text_says : TextsSayPrograms
text_says p is =
    let readable : IsReadableFile (written_file p) = program_readable p is in
    let i : Instance = instance_of (program_said (written_file p)) in
    let says : Says i (named_system p) = says_named i p (subst (λ s. Says i s) (system_same p is) (says_said (written_file p) readable)) in
    record {
      instance = i;
      read = file_instance (written_file p) readable;
      says = says;
      represents = represents_named i p says is;
    }
