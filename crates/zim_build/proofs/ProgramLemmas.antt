-- What the program of a plain model says of it in the words of models.
use Rattle.std.proofs.Common.{◌≡◌, ℕ, suc, ◌+◌, ◌-◌, ◌<◌, List, [], ◌∷◌, length, map, refl, sym, ◌∙◌, ap, ap₂, subst, arith}
use Rattle.std.specs.Prelude.{slice_index_or}
use Rattle.std.specs.List.{AllByRecursion}
use Rattle.std.proofs.lemmas.List.{length-map}
use Rattle.zim_rational.specs.Rational as rational
use Rattle.zim_rational.specs.Rational.{Rational, IsAtMost}
use Rattle.zim_rows.specs.Finished.{program_of}
use Rattle.zim_rows.specs.Points.{assigned, IsPoint}
use Rattle.zim_rows.specs.Program.{LinearProgram}
use Rattle.zim_rows.specs.Scaled.{scaled_program}
use Rattle.zim_rows.proofs.NamedLaws.{kept_length}
use Rattle.zim_columns.specs.declared.declared.Declared.{Declared}
use Rattle.zim_plain.specs.declared.plain_form.PlainProgram.{PlainProgram}
use Rattle.zim_plain.specs.Statements.{WrittenText, variables}
use Rattle.zim_plain.specs.Asks.{ask_of, columns_from}
use Rattle.zim_plain.specs.Answers.{TellsModel}
use Rattle.zim_plain.specs.Meaning as meaning
use Rattle.zim_plain.proofs.SystemLaws.{is_covered, a_model_has_one_system}
use Rattle.zim_build.specs.Model.{Model, asks}
use Rattle.zim_build.specs.Satisfying.{IsAssignment, AreAsked, Sat}
use Rattle.zim_build.specs.Program.{IsProgramOf, AreAsAsked, cut_down, IsOnlySolution, SaysModel, MakesOneProgram}

-- ---- assignments

asked_from : (names : List WrittenText) (values : List Rational) → length values ≡ length names → AllByRecursion (IsAtMost rational.zero) values → AreAsked (map ask_of names) values
asked_from [] [] l h = tt
asked_from [] (v ∷ values) l h = absurd (omega (arith, l))
asked_from (name ∷ names) [] l h = absurd (omega (arith, l))
asked_from (name ∷ names) (v ∷ values) l h = (record { lower = h.0; upper = tt; whole = λ e. cc }, asked_from names values (omega (arith, l)) h.1)

nonnegative_from : (names : List WrittenText) (values : List Rational) → AreAsked (map ask_of names) values → AllByRecursion (IsAtMost rational.zero) values
nonnegative_from [] [] h = tt
nonnegative_from [] (v ∷ values) h = absurd h
nonnegative_from (name ∷ names) [] h = absurd h
nonnegative_from (name ∷ names) (v ∷ values) h = (h.0.lower, nonnegative_from names values h.1)

counted : (model : Model) → length (asks model) ≡ length (variables model)
counted model = length-map (variables model) ask_of

to_sat : (model : Model) (values : List Rational) → length values ≡ length (variables model) → meaning.Satisfies model values → Sat model values
to_sat model values l sat = record { columns = asked_from (variables model) values l sat.nonnegative; statements = sat.holds }

from_sat : (model : Model) (values : List Rational) → Sat model values → meaning.Satisfies model values
from_sat model values sat = record { nonnegative = nonnegative_from (variables model) values sat.columns; holds = sat.statements }

-- ---- points

cut_from : (x : ℕ → Rational) (number : ℕ) (names : List WrittenText) (numbers : List Rational) → length numbers ≡ length names → ((i : ℕ) → i < length numbers → x (number + i) ≡ slice_index_or numbers i rational.zero) →
    map (λ (d : Declared). x d.column) (columns_from number names) ≡ numbers
cut_from x number [] [] l h = refl
cut_from x number [] (v ∷ numbers) l h = absurd (omega (arith, l))
cut_from x number (name ∷ names) [] l h = absurd (omega (arith, l))
cut_from x number (name ∷ names) (v ∷ numbers) l h =
    let same : number ≡ number + 0 = omega arith in
    ap₂ (λ (q : Rational) (qs : List Rational). q ∷ qs)
    (ap x same ∙ h 0 (omega arith))
    (cut_from x (number + 1) names numbers (omega (arith, l))
    (λ i low. let next : number + 1 + i ≡ number + suc i = omega arith in ap x next ∙ h (suc i) (omega (arith, low))))

back_one : (i : ℕ) → 1 + i - 1 ≡ i
back_one i = omega arith

-- the columns of all variables cut no number off
pub cut_whole : (names : List WrittenText) (numbers : List Rational) → length numbers ≡ length names → cut_down (columns_from 1 names) numbers ≡ numbers
cut_whole names numbers l =
    cut_from (assigned numbers) 1 names numbers l (λ i low. ap (λ (k : ℕ). slice_index_or numbers k rational.zero) (back_one i))

listed_from : (number : ℕ) (names : List WrittenText) → AreAsAsked (map ask_of names) (columns_from number names)
listed_from number [] = tt
listed_from number (name ∷ names) = (record { name = refl; tuple = refl; priority = refl; startval = refl }, listed_from (number + 1) names)

pub columns_listed : (model : Model) (columns : List Declared) → columns ≡ columns_from 1 (variables model) → AreAsAsked (asks model) columns
columns_listed model columns same = subst (λ (ds : List Declared). AreAsAsked (asks model) ds) (sym same) (listed_from 1 (variables model))

module _ (model : Model) (plain : PlainProgram) (says : TellsModel model plain) where
  abbrev program : LinearProgram
  program = program_of plain.system

  cut_is : (numbers : List Rational) → length numbers ≡ length (variables model) → cut_down plain.columns numbers ≡ numbers
  cut_is numbers l = ap (λ (ds : List Declared). cut_down ds numbers) says.columns_are ∙ cut_whole (variables model) numbers l

  -- a point has a number for each variable
  point_length : (numbers : List Rational) → IsPoint program numbers → length numbers ≡ length (variables model)
  point_length numbers is = kept_length plain.system.columns numbers ((says.sides numbers).1 is).columns ∙ says.columns

  point_sound : (numbers : List Rational) → IsPoint program numbers → Sat model (cut_down plain.columns numbers)
  point_sound numbers is =
      let l = point_length numbers is in
      subst (λ (values : List Rational). Sat model values) (sym (cut_is numbers l))
      (to_sat model numbers l ((says.points numbers l).0 ((says.sides numbers).1 is)))

  solution : (values : List Rational) → IsAssignment model values → Sat model values → IsOnlySolution program plain.columns values values
  solution values given sat =
      let l = given ∙ counted model in
      record {
        is = (says.sides values).0 ((says.points values l).1 (from_sat model values sat));
        cut_is = cut_is values l;
        only = λ other is same. sym (cut_is other (point_length other is)) ∙ same;
      }

  pub says_model : SaysModel model plain.columns program
  says_model = record {
    sides = says.sides;
    sound = point_sound;
    complete = λ values given sat. (values, solution values given sat);
    objective = λ numbers is.
        says.objective numbers (point_length numbers is)
        ∙ ap (λ (values : List Rational). rational.times (rational.whole program.target.factor) (meaning.plain_objective model values)) (sym (cut_is numbers (point_length numbers is)));
    aim = says.aim;
  }

  pub is_program : IsProgramOf model plain.columns program
  is_program = record {
    system = says.system;
    made = record { columns_are = says.columns_are; system_is = says.system_is };
    covered = is_covered model says.system says.system_is;
    faultless = says.faultless;
    scaled = says.program_is;
  }

-- a model has one program and one list of columns
pub one_program : (model : Model) → MakesOneProgram model
one_program model columns others one other a b = (
  a.made.columns_are ∙ sym b.made.columns_are,
  a.scaled ∙ ap scaled_program (a_model_has_one_system model a.system b.system a.made.system_is b.made.system_is) ∙ sym b.scaled,
)
