-- What a statement more says of the points and of the objective.
use Rattle.std.proofs.Common.{ℕ, ◌≡◌, ◌≤◌, ◌+◌, ◌↔◌, List, [], ◌∷◌, ◌++◌, length, length-append, Option, Some, None, IfSome, Result, Ok, refl, ap, sym, ◌∙◌, subst, arith}
use Rattle.zim_answer.specs.Answer.{goes}
use Rattle.zim_answer.proofs.BindLemmas.{bind_gave}
use Rattle.zim_answer.proofs.GoesLemmas.{goes-nil, goes-cons}
use Rattle.zim_columns.specs.Declaring.{declaring}
use Rattle.zim_columns.specs.declared.asks.Ask.{Ask}
use Rattle.zim_columns.specs.declared.declared.Declared.{Declared}
use Rattle.zim_fault.specs.declared.faults.Fault.{Fault}
use Rattle.zim_ground.specs.Meaning.{Assignment, number_of_term}
use Rattle.zim_model.specs.Encoded.{with_asked}
use Rattle.zim_model.specs.Law.{cut_down}
use Rattle.zim_model.specs.Statements.{Stated, AreAsked, IsStatementTrue, AreStatementsTrue, StatedGoal, goal_number}
use Rattle.zim_model.proofs.TruthLemmas.{all_and_last, all_before, assign_same, asked_length}
use Rattle.zim_model.proofs.ColumnLemmas.{within_more, cut_of_first, SaysPoints, declared_gave, point_parts, column_said}
use Rattle.zim_rational.specs.Rational.{Rational}
use Rattle.zim_rows.specs.Covered.{IsCovered}
use Rattle.zim_rows.specs.Extending.{IsValid, Narrows}
use Rattle.zim_rows.specs.Points.{IsSystemPoint, first_numbers, system_objective_at}
use Rattle.zim_rows.specs.Steps.{with_step}
use Rattle.zim_rows.specs.System.{LinearSystem, Extends}
use Rattle.zim_rows.specs.declared.rows.RowFrom.{RowFrom}
use Rattle.zim_columns.specs.Declaring.{next_column, step_asked, declared_as}
use Rattle.zim_rows.proofs.CutLaws.{point_cut, objective_of_cut}
use Rattle.zim_rows.proofs.StepLaws.{step_extends, placed_is}

-- ---- points

-- an extended system has no fewer columns
pub not_fewer : (later earlier : LinearSystem) → Extends later earlier → length earlier.columns ≤ length later.columns
not_fewer later earlier more =
    let size : length later.columns ≡ length earlier.columns + length more.columns.0 = ap length more.columns.1 ∙ length-append earlier.columns more.columns.0 in
    omega (arith, size)

-- a statement that asks for no column, and where rows ask what it says
pub narrowed : (statements : List Stated) (asks : List Ask) (columns : List Declared) (system later : LinearSystem) (s : Stated) (asked : List Rational → Type 0) → SaysPoints statements asks columns system → IsValid later →
    (IsCovered system → IsCovered later) → Narrows later system asked → length s.asks ≤ length asks → ((p : List Rational) → IsSystemPoint system p → asked p ↔ IsStatementTrue (cut_down columns p) s) → SaysPoints (statements ++ s ∷ []) asks columns later
narrowed statements asks columns system later s asked said valid covered narrows few_asks says =
    let n : ℕ = length system.columns in
    record {
      valid = valid;
      covered = covered said.covered;
      within = within_more n (length later.columns) (not_fewer later system narrows.extends) columns said.within;
      asked = said.asked;
      few = all_and_last (λ (t : Stated). length t.asks ≤ length asks) statements s said.few few_asks;
      sound =
          λ q point.
          let p : List Rational = first_numbers system q in
          let first = point_cut later system q said.valid narrows.extends point in
          let same : cut_down columns p ≡ cut_down columns q = cut_of_first n columns q said.within in
          let before = said.sound p first in
          let here = (says p first).0 (narrows.keeps q point) in (
            subst (AreAsked asks) same before.0,
            subst (AreStatementsTrue (statements ++ s ∷ [])) same (all_and_last (IsStatementTrue (cut_down columns p)) statements s before.1 here),
          );
      complete =
          λ values is_asked truths.
          let parts = all_before (IsStatementTrue values) statements s truths in
          let before = said.complete values is_asked parts.0 in
          let p : List Rational = before.0 in
          let once = narrows.once p before.1.is ((says p before.1.is).1 (subst (λ (vs : List Rational). IsStatementTrue vs s) (sym before.1.cut_is) parts.1)) in (
            once.one,
            record {
              is = once.lengthens.point;
              cut_is = sym (cut_of_first n columns once.one said.within) ∙ ap (cut_down columns) once.lengthens.cut ∙ before.1.cut_is;
              only =
                  λ other point same.
                  let first = point_cut later system other said.valid narrows.extends point in
                  let is_p : first_numbers system other ≡ p = before.1.only (first_numbers system other) first (cut_of_first n columns other said.within ∙ same) in
                  once.only other (record { point = point; cut = is_p });
            },
          );
    }

-- a statement that asks for no column and says nothing
pub quiet : (statements : List Stated) (asks : List Ask) (columns : List Declared) (system : LinearSystem) (s : Stated) → SaysPoints statements asks columns system → length s.asks ≤ length asks → ((values : List Rational) → IsStatementTrue values s)
    → SaysPoints (statements ++ s ∷ []) asks columns system
quiet statements asks columns system s said few_asks says = record {
  valid = said.valid;
  covered = said.covered;
  within = said.within;
  asked = said.asked;
  few = all_and_last (λ (t : Stated). length t.asks ≤ length asks) statements s said.few few_asks;
  sound = λ q point. let before = said.sound q point in (before.0, all_and_last (IsStatementTrue (cut_down columns q)) statements s before.1 (says (cut_down columns q)));
  complete = λ values is_asked truths. said.complete values is_asked (all_before (IsStatementTrue values) statements s truths).0;
}

-- ---- the objective

-- the number of the system's objective is that of an objective among the statements, before which no more columns are asked for than these
pub record SaysGoal (goal : Option StatedGoal) (asks : List Ask) (columns : List Declared) (system : LinearSystem) : Type 0 where
  pub few : IfSome goal (λ g. length g.stated.asks ≤ length asks)
  pub is : (q : List Rational) → IsSystemPoint system q → system_objective_at system q ≡ goal_number goal (cut_down columns q)

pub goal_few : (goal : Option StatedGoal) (m n : ℕ) → m ≤ n → IfSome goal (λ g. length g.stated.asks ≤ m) → IfSome goal (λ g. length g.stated.asks ≤ n)
goal_few None m n le h = tt
goal_few (Some g) m n le h = omega (arith, h, le)

goal_more : (goal : Option StatedGoal) (vs ws : List Rational) → IfSome goal (λ g. length g.stated.asks ≤ length vs) → goal_number goal vs ≡ goal_number goal (vs ++ ws)
goal_more None vs ws h = refl
goal_more (Some g) vs ws h = ap (λ (a : Assignment). number_of_term g.stated.world a [] g.term) (sym (assign_same g.stated.asks vs ws h))

-- it stays so where the system is narrowed
pub goal_narrowed : (statements : List Stated) (goal : Option StatedGoal) (asks : List Ask) (columns : List Declared) (system later : LinearSystem) (asked : List Rational → Type 0) → SaysPoints statements asks columns system → Narrows later system asked
    → SaysGoal goal asks columns system → SaysGoal goal asks columns later
goal_narrowed statements goal asks columns system later asked said narrows says = record {
  few = says.few;
  is =
      λ q point.
      sym (objective_of_cut later system q said.valid narrows.extends)
      ∙ says.is (first_numbers system q) (point_cut later system q said.valid narrows.extends point)
      ∙ ap (goal_number goal) (cut_of_first (length system.columns) columns q said.within);
}

-- and where a column is declared
pub goal_declared : (statements : List Stated) (goal : Option StatedGoal) (asks : List Ask) (columns listed : List Declared) (system new : LinearSystem) (from : RowFrom) (ask : Ask) → SaysPoints statements asks columns system →
    declaring columns system from ask ≡ Ok (listed, new) → SaysGoal goal asks columns system → SaysGoal goal (asks ++ ask ∷ []) listed new
goal_declared statements goal asks columns listed system new from ask said h says =
    let is = declared_gave columns listed system new from ask h in
    let longer : length (asks ++ ask ∷ []) ≡ length asks + 1 = length-append asks (ask ∷ []) in
    let later : LinearSystem = with_step system (step_asked system from ask) in
    let both : SaysGoal goal (asks ++ ask ∷ []) (columns ++ declared_as (next_column system) ask ∷ []) later = record {
      few = goal_few goal (length asks) (length (asks ++ ask ∷ [])) (omega (arith, longer)) says.few;
      is =
          λ q point.
          let parts = point_parts statements asks columns system from ask said is.apart q point in
          let first : system_objective_at system parts.one ≡ system_objective_at later q =
          ap (system_objective_at system) (sym parts.first_is) ∙ objective_of_cut later system q said.valid (step_extends system (step_asked system from ask)) in
          let size : length (cut_down columns parts.one) ≡ length asks = asked_length asks (cut_down columns parts.one) (said.sound parts.one parts.before).0 in
          sym first
          ∙ says.is parts.one parts.before
          ∙ goal_more goal (cut_down columns parts.one) (parts.last ∷ []) (goal_few goal (length asks) (length (cut_down columns parts.one)) (omega (arith, size)) says.few)
          ∙ ap (goal_number goal) (sym parts.cut_is);
    } in
    subst (SaysGoal goal (asks ++ ask ∷ []) listed) (sym (placed_is from.place system new (step_asked system from ask) is.placed))
    (subst (λ (ds : List Declared). SaysGoal goal (asks ++ ask ∷ []) ds later) (sym is.listed_are) both)

-- ---- the columns of a statement

-- both, for columns and a system
pub record SaysBoth (statements : List Stated) (goal : Option StatedGoal) (asks : List Ask) (columns : List Declared) (system : LinearSystem) : Type 0 where
  pub points : SaysPoints statements asks columns system
  pub objective : SaysGoal goal asks columns system

append_one : (xs : List Ask) (y : Ask) (ys : List Ask) → (xs ++ y ∷ []) ++ ys ≡ xs ++ (y ∷ ys)
append_one [] y ys = refl
append_one (x ∷ xs) y ys = ap (λ (zs : List Ask). x ∷ zs) (append_one xs y ys)

append_none : (xs : List Ask) → xs ++ [] ≡ xs
append_none [] = refl
append_none (x ∷ xs) = ap (λ (zs : List Ask). x ∷ zs) (append_none xs)

ok_is : {A : Type 0} {x y : A} → ◌≡◌ {A = Result A Fault} (Ok x) (Ok y) → x ≡ y
ok_is e = cc

-- columns are declared one after another
pub columns_said : (statements : List Stated) (goal : Option StatedGoal) (asks : List Ask) (from : RowFrom) (state made : List Declared × LinearSystem) (more : List Ask) → SaysBoth statements goal asks state.0 state.1 → goes (with_asked from) state more ≡ Ok made
    → SaysBoth statements goal (asks ++ more) made.0 made.1
columns_said statements goal asks from state made [] said h =
    let same : state ≡ made = ok_is (sym (goes-nil (with_asked from) state) ∙ h) in
    subst (λ (whole : List Ask). SaysBoth statements goal whole made.0 made.1) (sym (append_none asks))
    (subst (λ (t : List Declared × LinearSystem). SaysBoth statements goal asks t.0 t.1) same said)
columns_said statements goal asks from state made (ask ∷ more) said h =
    let gave = bind_gave (with_asked from state ask) (λ next. goes (with_asked from) next more) made (sym (goes-cons (with_asked from) state ask more) ∙ h) in
    let next : List Declared × LinearSystem = gave.0 in
    let one : SaysBoth statements goal (asks ++ ask ∷ []) next.0 next.1 = record {
      points = column_said statements asks state.0 next.0 state.1 next.1 from ask said.points gave.1;
      objective = goal_declared statements goal asks state.0 next.0 state.1 next.1 from ask said.points gave.1 said.objective;
    } in
    subst (λ (whole : List Ask). SaysBoth statements goal whole made.0 made.1) (append_one asks ask more)
    (columns_said statements goal (asks ++ ask ∷ []) from next made more one gave.2)
