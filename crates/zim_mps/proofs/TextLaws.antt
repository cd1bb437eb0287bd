-- The text of a program says the program, minimised.
use Rattle.std.proofs.Common.{◌≡◌, ◌+◌, ◌<◌, ◌^◌, ◌≤◌, true, false, List, ℕ, Some, length, map, refl, sym, ◌∙◌, ap, subst, arith}
use Rattle.std.specs.Prelude.{codes, option_and_then}
use Rattle.std.specs.List.{AllByRecursion}
use Rattle.std.proofs.lemmas.List.Elements.{recursion_from_All}
use Rattle.zim_rational.specs.Rational.{whole, times}
use Rattle.zim_instance.specs.Instance as instance
use Rattle.zim_instance.specs.Instance.{Instance, KeepsRow}
use Rattle.zim_instance.specs.System.{Says}
use Rattle.zim_rows.specs.Program.{LinearProgram, IsRow, IsProgram}
use Rattle.zim_rows.specs.Named.{named_objective}
use Rattle.zim_rows.proofs.NamedLaws.{file_columns_distinct}
use Rattle.zim_rows.proofs.RepresentLaws.{represents_by, one_is_one, objective_in_file}
use Rattle.zim_mps.specs.Program.{Program, is_consistent, is_free, names_of_rows, only_name, meaning, instance_of}
use Rattle.zim_mps.specs.Correct.{minimised_term, minimised_system, mps_factor, TextsSayPrograms}
use Rattle.zim_mps.proofs.Said.{said}
use Rattle.zim_mps.proofs.ProgramReads.{program_reads}
use Rattle.zim_mps.proofs.Parsing.{text_read}
use Rattle.zim_mps.proofs.Consistent.{consistent, one_free}
use Rattle.zim_mps.proofs.Meaning.{rows_same}
use Rattle.zim_mps.proofs.ColumnLemmas.{columns_same}
use Rattle.zim_mps.proofs.Objective.{objective_same, sum_minimised}

few_columns : (p : LinearProgram) → IsProgram p.columns p.rows p.target → 1 + length p.columns < 2 ^ 64
few_columns p is = let few : length p.columns ≤ 1000000 = is.few_columns in omega arith

few_rows : (p : LinearProgram) → IsProgram p.columns p.rows p.target → 1 + length p.rows < 2 ^ 64
few_rows p is = let few : length p.rows ≤ 1000000 = is.few_rows in omega arith

meaning_by : (program : Program) (name : List ℕ) → is_consistent program ≡ true → only_name (names_of_rows is_free program.rows) ≡ Some name → meaning program ≡ Some (instance_of program name)
meaning_by program name e f = rw (e, f) refl

says : (p : LinearProgram) → IsProgram p.columns p.rows p.target → Says (instance_of (said p) (codes "obj")) (minimised_system p)
says p is =
    let same = rows_same p (few_columns p is) (few_rows p is) is.each_row in
    record {
      columns = columns_same p (file_columns_distinct p is);
      rows = λ point. (
        (λ k. subst (λ (rows : List instance.Row). AllByRecursion (KeepsRow point) rows) same k),
        (λ k. subst (λ (rows : List instance.Row). AllByRecursion (KeepsRow point) rows) (sym same) k),
      );
      objective = λ point. objective_same p point is.objective.terms is.objective.columns;
      maximises = refl;
    }

-- the text of each program says it
pub text_says : TextsSayPrograms
text_says p is =
    let i : Instance = instance_of (said p) (codes "obj") in
    let objective : List instance.NamedTerm = map (minimised_term p.target.maximize) (named_objective p) in
    record {
      instance = i;
      read =
          ap (option_and_then meaning) (text_read p (few_columns p is) (few_rows p is) (program_reads p is))
          ∙ meaning_by (said p) (codes "obj") (consistent p (few_columns p is) (few_rows p is) (file_columns_distinct p is) (recursion_from_All (IsRow (length p.columns)) p.rows is.each_row)) (one_free p);
      says = says p is;
      represents =
          represents_by i p objective false (mps_factor p.target.maximize) (says p is) is
          (λ point k.
          sum_minimised p.target.maximize point (named_objective p)
          ∙ ap (times (whole (mps_factor p.target.maximize))) (objective_in_file p point is (one_is_one i p objective false point (says p is) k)));
    }
