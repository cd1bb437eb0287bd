-- One statement more, by its kind, and so all statements.
use Rattle.std.proofs.Common.{ℕ, ◌≡◌, ◌⊎◌, inl, inr, ◌<◌, ◌≤◌, ◌+◌, Bool, true, false, ◌&&◌, if◌then◌else◌, IsTrue, nat_lt, nat_le, List, [], ◌∷◌, ◌++◌, length, length-append, Option, Some, None, option_map, Result, Ok, refl, ap, ap₂, sym, ◌∙◌, subst, arith}
use Rattle.std.proofs.lemmas.Bool.Decides.{nat_tests}
use Rattle.std.specs.List.{find}
use Rattle.std.proofs.lemmas.List.Elements.{All-nil}
use Rattle.zim_answer.specs.Answer.{◌>>=◌, goes}
use Rattle.zim_answer.proofs.BindLemmas.{bind_gave}
use Rattle.zim_answer.proofs.GoesLemmas.{goes-nil, goes-cons, goes-append}
use Rattle.zim_columns.specs.Names.{is_named, column_declared}
use Rattle.zim_columns.specs.declared.asks.Ask.{Ask}
use Rattle.zim_columns.specs.declared.declared.Declared.{Declared}
use Rattle.zim_fault.specs.declared.faults.Fault.{Fault}
use Rattle.zim_formula.specs.Ground.{term_number, constraint_holds}
use Rattle.zim_formula.specs.GroundRules.{is_column, is_term_over, is_constraint_over}
use Rattle.zim_formula.specs.declared.ground.GTerm.{GTerm}
use Rattle.zim_formula.specs.declared.ground.GCon.{GCon}
use Rattle.zim_ground.specs.Asking.{asks_of_shape, asks_answer}
use Rattle.zim_ground.specs.Grounding.{constraint_answer, objective_answer}
use Rattle.zim_ground.specs.Law.{Agree, AllPass, ObjectiveKeepsNumber, ObjectiveIsOver, ConstraintKeepsTruth, ConstraintIsOver}
use Rattle.zim_ground.specs.Meaning.{Assignment, truth_of_constraint}
use Rattle.zim_linear.specs.Forms.{LinearForm}
use Rattle.zim_model.specs.Encoded.{Encoded, nothing_encoded, encoded_next, with_asked, shape_makes, statement_makes, statements_make}
use Rattle.zim_model.specs.Law.{ConstraintSuitsScope, Follows, AreInOrder, no_statement, one_more, cut_down, SaysStatements}
use Rattle.zim_model.specs.Statements.{Stated, answered_asks, asks_stated, asks_of_statements, AreAsked, assignment_by, ShapeHolds, IsStatementTrue, objective_in, StatedGoal, goal_or, first_goal, goal_number}
use Rattle.zim_model.proofs.TruthLemmas.{columns_agree, asks_more}
use Rattle.zim_model.proofs.ColumnLemmas.{AreWithin, cut_of_first}
use Rattle.zim_model.proofs.StatementLemmas.{narrowed, quiet, goal_narrowed, SaysBoth, columns_said}
use Rattle.zim_rational.specs.Rational.{Rational}
use Rattle.zim_rows.specs.Extending.{IsValid}
use Rattle.zim_rows.specs.Points.{assigned, IsSystemPoint, first_numbers}
use Rattle.zim_rows.specs.System.{LinearSystem, IsColumn, IsGivenRow, empty_system, with_objective}
use Rattle.zim_rows.specs.declared.rows.RowFrom.{RowFrom}
use Rattle.zim_tuples.specs.declared.elements.Elem.{Elem}
use Rattle.zim_typed.specs.declared.constraint.Con.{Con}
use Rattle.zim_typed.specs.declared.constraint.Term.{Term}
use Rattle.zim_typed.specs.declared.statement.TShape.{TShape}
use Rattle.zim_typed.specs.declared.statement.TShape.TheVariants as shape
use Rattle.zim_vabs.specs.Meaning.{FormMade}
use Rattle.zim_vabs.specs.Terms.{makes_term}
use Rattle.zim_vif.specs.Constraints.{Guard, makes_constraint}
use Rattle.zim_vif.specs.Meaning.{IsGuardOf, AskedUnder}

-- ---- the laws of the layers below

-- a constraint is asked by the rows that it makes
abbrev pub ConstraintsAreAsked : Type 0
ConstraintsAreAsked = (before : LinearSystem) (statement : ℕ) (guard : Guard) (c : GCon) (after : LinearSystem) → IsValid before → IsGuardOf before guard → IsTrue (is_constraint_over (length before.columns) c) → makes_constraint statement c guard before ≡ Ok (tt, after)
    → AskedUnder before guard (λ p. constraint_holds (assigned p) c) after

-- a term is a form
abbrev pub TermsAreForms : Type 0
TermsAreForms = (before : LinearSystem) (statement : ℕ) (t : GTerm) (form : LinearForm) (after : LinearSystem) → IsValid before → IsTrue (is_term_over (length before.columns) t) → makes_term statement t before ≡ Ok (form, after)
    → FormMade before before (λ p. term_number (assigned p) t) form after

pub record Laws : Type 0 where
  pub constraints : ConstraintsAreAsked
  pub terms : TermsAreForms
  pub truth : ConstraintKeepsTruth
  pub constraint_over : ConstraintIsOver
  pub number : ObjectiveKeepsNumber
  pub term_over : ObjectiveIsOver

-- ---- declared columns are columns of the system

column_is : (n j : ℕ) → 0 < j → j ≤ n → is_column n j ≡ true
unfolding is_column
column_is n j some few =
    let first : nat_lt 0 j ≡ true = grind (arith, nat_tests) in
    let last : nat_le j n ≡ true = grind (arith, nat_tests) in
    λ i. first i && last i

pass_by : (n : ℕ) (b : Bool) (d : Declared) (ds : List Declared) (name : List ℕ) (tuple : List Elem) (j : ℕ) → is_column n d.column ≡ true → (column_declared ds name tuple ≡ Some j → is_column n j ≡ true) →
    option_map (λ (x : Declared). x.column) (if b then Some d else find (is_named name tuple) ds) ≡ Some j → is_column n j ≡ true
pass_by n true d ds name tuple j here rest h = let same : d.column ≡ j = cc in ap (is_column n) (sym same) ∙ here
pass_by n false d ds name tuple j here rest h = rest h

within_pass : (n : ℕ) (columns : List Declared) → AreWithin n columns → AllPass (is_column n) (column_declared columns)
within_pass n [] h name tuple j found = cc
within_pass n (d ∷ columns) h name tuple j found =
    pass_by n (is_named name tuple d) d columns name tuple j (column_is n d.column h.0 h.1) (within_pass n columns h.2 name tuple j) found

-- ---- what a statement asks for

asks_by : (s : Stated) (sh : TShape) → s.stmt.shape ≡ sh → asks_answer s.world s.stmt ≡ asks_of_shape s.world s.stmt.at s.stmt.name sh
unfolding asks_answer
asks_by s sh e = ap (asks_of_shape s.world s.stmt.at s.stmt.name) e

asks_are : (s : Stated) (asks : List Ask) → asks_answer s.world s.stmt ≡ Ok asks → asks_stated s ≡ asks
unfolding asks_stated
asks_are s asks h = ap answered_asks h

append_none : (xs : List Ask) → xs ++ [] ≡ xs
append_none [] = refl
append_none (x ∷ xs) = ap (λ (zs : List Ask). x ∷ zs) (append_none xs)

asks_none : (before : List Stated) (s : Stated) → asks_answer s.world s.stmt ≡ Ok [] → asks_of_statements (before ++ s ∷ []) ≡ asks_of_statements before
asks_none before s h = asks_more before s ∙ ap (λ (xs : List Ask). asks_of_statements before ++ xs) (asks_are s [] h) ∙ append_none (asks_of_statements before)

-- ---- the first objective

goal_kept : (before : List Stated) (s : Stated) → objective_in s.stmt.shape ≡ None → first_goal (before ++ s ∷ []) ≡ first_goal before
goal_kept [] s h = ap (goal_or s None) h
goal_kept (b ∷ before) s h = ap (λ (g : Option StatedGoal). goal_or b g (objective_in b.stmt.shape)) (goal_kept before s h)

none_by : (b : Stated) (other : Option StatedGoal) (o : Option (Bool × Term)) → goal_or b other o ≡ None → (o ≡ None) × (other ≡ None)
none_by b other None h = (refl, h)
none_by b other (Some (m, t)) h = cc

goal_new : (before : List Stated) (s : Stated) (maximize : Bool) (term : Term) → first_goal before ≡ None → objective_in s.stmt.shape ≡ Some (maximize, term) → first_goal (before ++ s ∷ []) ≡ Some (record { stated = s; maximize = maximize; term = term })
goal_new [] s maximize term h is = ap (goal_or s None) is
goal_new (b ∷ before) s maximize term h is =
    let parts = none_by b (first_goal before) (objective_in b.stmt.shape) h in
    ap₂ (goal_or b) (goal_new before s maximize term parts.1 is) parts.0

-- ---- a statement that makes nothing

silent : (before : List Stated) (e : Encoded) (s : Stated) (sh : TShape) → SaysBoth before (first_goal before) (asks_of_statements before) e.columns e.system → Follows before s → s.stmt.shape ≡ sh → asks_of_shape s.world s.stmt.at s.stmt.name sh ≡ Ok [] → objective_in sh ≡ None →
    ((a : Assignment) → ShapeHolds s.world a sh) → SaysBoth (before ++ s ∷ []) (first_goal (before ++ s ∷ [])) (asks_of_statements (before ++ s ∷ [])) e.columns e.system
silent before e s sh said follows is no_asks no_goal holds =
    let asks_same = asks_none before s (asks_by s sh is ∙ no_asks) in
    let goal_same = goal_kept before s (ap objective_in is ∙ no_goal) in
    let few_asks : length s.asks ≤ length (asks_of_statements before) = omega (arith, ap (length {A = Ask}) follows.asks) in
    let both : SaysBoth (before ++ s ∷ []) (first_goal before) (asks_of_statements before) e.columns e.system = record {
      points = quiet before (asks_of_statements before) e.columns e.system s said.points few_asks (λ values. subst (ShapeHolds s.world (assignment_by s.asks values)) (sym is) (holds (assignment_by s.asks values)));
      objective = said.objective;
    } in
    subst (λ (as_asked : List Ask). SaysBoth (before ++ s ∷ []) (first_goal (before ++ s ∷ [])) as_asked e.columns e.system) (sym asks_same)
    (subst (λ (g : Option StatedGoal). SaysBoth (before ++ s ∷ []) g (asks_of_statements before) e.columns e.system) (sym goal_same) both)

-- ---- a constraint

-- the declared columns agree with the fractions that they are, of the columns before a statement
agree_before : (before : List Stated) (e : Encoded) (s : Stated) (p : List Rational) → SaysBoth before (first_goal before) (asks_of_statements before) e.columns e.system → Follows before s →
    Agree (column_declared e.columns) (assigned p) (assignment_by s.asks (cut_down e.columns p))
agree_before before e s p said follows =
    subst (λ (asks : List Ask). Agree (column_declared e.columns) (assigned p) (assignment_by asks (cut_down e.columns p))) (sym follows.asks)
    (columns_agree (asks_of_statements before) e.columns p said.points.asked)

constraint_step : Laws → (before : List Stated) (e after : Encoded) (s : Stated) (c : Con) → SaysBoth before (first_goal before) (asks_of_statements before) e.columns e.system → Follows before s → s.stmt.shape ≡ shape.Subto c →
    shape_makes e s (shape.Subto c) ≡ Ok after → SaysBoth (before ++ s ∷ []) (first_goal (before ++ s ∷ [])) (asks_of_statements (before ++ s ∷ [])) after.columns after.system
constraint_step laws before e after s c said follows is h =
    let ground = bind_gave (constraint_answer s.world (column_declared e.columns) c) (λ g. makes_constraint e.count g None e.system >>= λ made. Ok (encoded_next e e.columns made.1)) after h in
    let g : GCon = ground.0 in
    let gave = bind_gave (makes_constraint e.count g None e.system) (λ made. Ok (encoded_next e e.columns made.1)) after ground.2 in
    let later : LinearSystem = gave.0.1 in
    let result : encoded_next e e.columns later ≡ after = encoded_is gave.2 in
    let n : ℕ = length e.system.columns in
    let suits : ConstraintSuitsScope (shape.Subto c) = subst ConstraintSuitsScope is follows.suits in
    let over = laws.constraint_over s.world (column_declared e.columns) n (within_pass n e.columns said.points.within) suits.0 [] c suits.1 g ground.1 in
    let asked = laws.constraints e.system e.count None g later said.points.valid tt over gave.1 in
    let few_asks : length s.asks ≤ length (asks_of_statements before) = omega (arith, ap (length {A = Ask}) follows.asks) in
    let same : (p : List Rational) → constraint_holds (assigned p) g ≡ truth_of_constraint s.world (assignment_by s.asks (cut_down e.columns p)) [] c =
    λ p. laws.truth s.world (column_declared e.columns) (assignment_by s.asks (cut_down e.columns p)) (assigned p) (agree_before before e s p said follows) c g ground.1 in
    let points = narrowed before (asks_of_statements before) e.columns e.system later s (λ p. Unit {0} → IsTrue (constraint_holds (assigned p) g)) said.points asked.valid asked.covered asked.narrows few_asks
    (λ p point. (
      λ holds. subst (ShapeHolds s.world (assignment_by s.asks (cut_down e.columns p))) (sym is) (sym (same p) ∙ holds tt),
      λ true_there. λ on. same p ∙ subst (ShapeHolds s.world (assignment_by s.asks (cut_down e.columns p))) is true_there,
    )) in
    let both : SaysBoth (before ++ s ∷ []) (first_goal before) (asks_of_statements before) e.columns later = record {
      points = points;
      objective = goal_narrowed before (first_goal before) (asks_of_statements before) e.columns e.system later (λ p. Unit {0} → IsTrue (constraint_holds (assigned p) g)) said.points asked.narrows said.objective;
    } in
    subst (λ (x : Encoded). SaysBoth (before ++ s ∷ []) (first_goal (before ++ s ∷ [])) (asks_of_statements (before ++ s ∷ [])) x.columns x.system) result
    (subst (λ (as_asked : List Ask). SaysBoth (before ++ s ∷ []) (first_goal (before ++ s ∷ [])) as_asked e.columns later) (sym (asks_none before s (asks_by s (shape.Subto c) is)))
    (subst (λ (x : Option StatedGoal). SaysBoth (before ++ s ∷ []) x (asks_of_statements before) e.columns later) (sym (goal_kept before s (ap objective_in is))) both))
  where
    encoded_is : {x y : Encoded} → ◌≡◌ {A = Result Encoded Fault} (Ok x) (Ok y) → x ≡ y
    encoded_is e = cc

-- ---- an objective

goal_step : Laws → (before : List Stated) (e after : Encoded) (s : Stated) (maximize : Bool) (t : Term) → SaysBoth before (first_goal before) (asks_of_statements before) e.columns e.system → Follows before s → s.stmt.shape ≡ shape.Goal maximize t →
    shape_makes e s (shape.Goal maximize t) ≡ Ok after → SaysBoth (before ++ s ∷ []) (first_goal (before ++ s ∷ [])) (asks_of_statements (before ++ s ∷ [])) after.columns after.system
goal_step laws before e after s maximize t said follows is h =
    let ground = bind_gave (objective_answer s.world (column_declared e.columns) t) (λ g. makes_term e.count g e.system >>= λ made. Ok (encoded_next e e.columns (with_objective made.1 maximize s.stmt.at made.0))) after h in
    let g : GTerm = ground.0 in
    let gave = bind_gave (makes_term e.count g e.system) (λ made. Ok (encoded_next e e.columns (with_objective made.1 maximize s.stmt.at made.0))) after ground.2 in
    let form : LinearForm = gave.0.0 in
    let grown : LinearSystem = gave.0.1 in
    let later : LinearSystem = with_objective grown maximize s.stmt.at form in
    let result : encoded_next e e.columns later ≡ after = encoded_is gave.2 in
    let n : ℕ = length e.system.columns in
    let over = laws.term_over s.world (column_declared e.columns) n (within_pass n e.columns said.points.within) t g ground.1 in
    let made = laws.terms e.system e.count g form grown said.points.valid over gave.1 in
    let few_asks : length s.asks ≤ length (asks_of_statements before) = omega (arith, ap (length {A = Ask}) follows.asks) in
    let says_nothing : (values : List Rational) → IsStatementTrue values s = λ values. subst (ShapeHolds s.world (assignment_by s.asks values)) (sym is) tt in
    let points = narrowed before (asks_of_statements before) e.columns e.system grown s (λ _. Unit {0}) said.points made.valid made.covered made.widens few_asks (λ p point. (λ _. says_nothing (cut_down e.columns p), λ _. tt)) in
    let none_before : first_goal before ≡ None = no_goal_before (objective_in s.stmt.shape) (ap objective_in is) follows.alone in
    let goal : StatedGoal = record { stated = s; maximize = maximize; term = t } in
    let both : SaysBoth (before ++ s ∷ []) (Some goal) (asks_of_statements before) e.columns later = record {
      points = record {
        valid = record { few_columns = points.valid.few_columns; few_rows = points.valid.few_rows; each_column = points.valid.each_column; each_row = points.valid.each_row; objective_is = record { terms = made.ordered; columns = made.columns } };
        covered = points.covered;
        within = points.within;
        asked = points.asked;
        few = points.few;
        sound = λ q point. points.sound q (record { columns = point.columns; rows = point.rows });
        complete =
            λ values asked truths.
            let one = points.complete values asked truths in (
              one.0,
              record {
                is = record { columns = one.1.is.columns; rows = one.1.is.rows };
                cut_is = one.1.cut_is;
                only = λ other point same. one.1.only other (record { columns = point.columns; rows = point.rows }) same;
              },
            );
      };
      objective = record {
        few = few_asks;
        is =
            λ q point.
            let first : List Rational = first_numbers e.system q in
            made.tells q (record { columns = point.columns; rows = point.rows })
            ∙ laws.number s.world (column_declared e.columns) (assignment_by s.asks (cut_down e.columns first)) (assigned first) (agree_before before e s first said follows) t g ground.1
            ∙ ap (goal_number (Some goal)) (cut_of_first n e.columns q said.points.within);
      };
    } in
    subst (λ (x : Encoded). SaysBoth (before ++ s ∷ []) (first_goal (before ++ s ∷ [])) (asks_of_statements (before ++ s ∷ [])) x.columns x.system) result
    (subst (λ (as_asked : List Ask). SaysBoth (before ++ s ∷ []) (first_goal (before ++ s ∷ [])) as_asked e.columns later) (sym (asks_none before s (asks_by s (shape.Goal maximize t) is)))
    (subst (λ (x : Option StatedGoal). SaysBoth (before ++ s ∷ []) x (asks_of_statements before) e.columns later) (sym (goal_new before s maximize t none_before (ap objective_in is))) both))
  where
    encoded_is : {x y : Encoded} → ◌≡◌ {A = Result Encoded Fault} (Ok x) (Ok y) → x ≡ y
    encoded_is e = cc

    no_goal_before : (o : Option (Bool × Term)) → o ≡ Some (maximize, t) → (o ≡ None) ⊎ (first_goal before ≡ None) → first_goal before ≡ None
    no_goal_before o some (inl apart) = cc
    no_goal_before o some (inr apart) = apart

-- ---- variables

variables_step : (before : List Stated) (e after : Encoded) (s : Stated) (sh : TShape) → SaysBoth before (first_goal before) (asks_of_statements before) e.columns e.system → Follows before s → s.stmt.shape ≡ sh → objective_in sh ≡ None → ((a : Assignment) → ShapeHolds s.world a sh) →
    (asks_answer s.world s.stmt >>= λ asks. goes (with_asked (record { statement = e.count; place = s.stmt.at })) (e.columns, e.system) asks >>= λ made. Ok (encoded_next e made.0 made.1)) ≡ Ok after →
    SaysBoth (before ++ s ∷ []) (first_goal (before ++ s ∷ [])) (asks_of_statements (before ++ s ∷ [])) after.columns after.system
variables_step before e after s sh said follows is no_goal holds h =
    let from : RowFrom = record { statement = e.count; place = s.stmt.at } in
    let asking = bind_gave (asks_answer s.world s.stmt) (λ asks. goes (with_asked from) (e.columns, e.system) asks >>= λ made. Ok (encoded_next e made.0 made.1)) after h in
    let asks : List Ask = asking.0 in
    let gave = bind_gave (goes (with_asked from) (e.columns, e.system) asks) (λ made. Ok (encoded_next e made.0 made.1)) after asking.2 in
    let columns : List Declared = gave.0.0 in
    let later : LinearSystem = gave.0.1 in
    let result : encoded_next e columns later ≡ after = encoded_is gave.2 in
    let all = columns_said before (first_goal before) (asks_of_statements before) from (e.columns, e.system) gave.0 asks said gave.1 in
    let longer : length (asks_of_statements before ++ asks) ≡ length (asks_of_statements before) + length asks = length-append (asks_of_statements before) asks in
    let few_asks : length s.asks ≤ length (asks_of_statements before ++ asks) = omega (arith, ap (length {A = Ask}) follows.asks, longer) in
    let both : SaysBoth (before ++ s ∷ []) (first_goal before) (asks_of_statements before ++ asks) columns later = record {
      points = quiet before (asks_of_statements before ++ asks) columns later s all.points few_asks (λ values. subst (ShapeHolds s.world (assignment_by s.asks values)) (sym is) (holds (assignment_by s.asks values)));
      objective = all.objective;
    } in
    let asked_is : asks_of_statements (before ++ s ∷ []) ≡ asks_of_statements before ++ asks = asks_more before s ∙ ap (λ (xs : List Ask). asks_of_statements before ++ xs) (asks_are s asks asking.1) in
    subst (λ (x : Encoded). SaysBoth (before ++ s ∷ []) (first_goal (before ++ s ∷ [])) (asks_of_statements (before ++ s ∷ [])) x.columns x.system) result
    (subst (λ (as_asked : List Ask). SaysBoth (before ++ s ∷ []) (first_goal (before ++ s ∷ [])) as_asked columns later) (sym asked_is)
    (subst (λ (x : Option StatedGoal). SaysBoth (before ++ s ∷ []) x (asks_of_statements before ++ asks) columns later) (sym (goal_kept before s (ap objective_in is ∙ no_goal))) both))
  where
    encoded_is : {x y : Encoded} → ◌≡◌ {A = Result Encoded Fault} (Ok x) (Ok y) → x ≡ y
    encoded_is e = cc

-- ---- any statement

silent_step : (before : List Stated) (e after : Encoded) (s : Stated) (sh : TShape) → SaysBoth before (first_goal before) (asks_of_statements before) e.columns e.system → Follows before s → s.stmt.shape ≡ sh → asks_of_shape s.world s.stmt.at s.stmt.name sh ≡ Ok [] → objective_in sh ≡ None →
    ((a : Assignment) → ShapeHolds s.world a sh) → ◌≡◌ {A = Result Encoded Fault} (Ok (encoded_next e e.columns e.system)) (Ok after) → SaysBoth (before ++ s ∷ []) (first_goal (before ++ s ∷ [])) (asks_of_statements (before ++ s ∷ [])) after.columns after.system
silent_step before e after s sh said follows is no_asks no_goal holds h =
    let result : encoded_next e e.columns e.system ≡ after = cc in
    subst (λ (x : Encoded). SaysBoth (before ++ s ∷ []) (first_goal (before ++ s ∷ [])) (asks_of_statements (before ++ s ∷ [])) x.columns x.system) result
    (silent before e s sh said follows is no_asks no_goal holds)

any_step : Laws → (before : List Stated) (e after : Encoded) (s : Stated) (sh : TShape) → SaysBoth before (first_goal before) (asks_of_statements before) e.columns e.system → Follows before s → s.stmt.shape ≡ sh → shape_makes e s sh ≡ Ok after →
    SaysBoth (before ++ s ∷ []) (first_goal (before ++ s ∷ [])) (asks_of_statements (before ++ s ∷ [])) after.columns after.system
any_step laws before e after s (shape.Set brackets side) said follows is h = silent_step before e after s (shape.Set brackets side) said follows is refl refl (λ a. tt) h
any_step laws before e after s (shape.Param brackets side) said follows is h = silent_step before e after s (shape.Param brackets side) said follows is refl refl (λ a. tt) h
any_step laws before e after s (shape.Var brackets kind limits priority startval) said follows is h =
    variables_step before e after s (shape.Var brackets kind limits priority startval) said follows is refl (λ a. tt) h
any_step laws before e after s (shape.Goal maximize t) said follows is h = goal_step laws before e after s maximize t said follows is h
any_step laws before e after s (shape.Subto c) said follows is h = constraint_step laws before e after s c said follows is h
any_step laws before e after s (shape.Define word parameters body) said follows is h = silent_step before e after s (shape.Define word parameters body) said follows is refl refl (λ a. tt) h
any_step laws before e after s (shape.Do inside) said follows is h = silent_step before e after s (shape.Do inside) said follows is refl refl (λ a. tt) h

-- ---- all statements

no_columns : (values : List Rational) → AreAsked [] values → values ≡ []
no_columns [] h = refl
no_columns (v ∷ values) h = absurd h

nothing_said : SaysBoth [] (first_goal []) (asks_of_statements []) [] empty_system
nothing_said = record {
  points = record {
    valid = record { few_columns = omega arith; few_rows = omega arith; each_column = All-nil IsColumn; each_row = All-nil (IsGivenRow 0); objective_is = tt };
    covered = λ j some few. absurd (omega (arith, some, few));
    within = tt;
    asked = tt;
    few = tt;
    sound = λ q point. (tt, tt);
    complete = λ values asked truths. (
      [],
      record {
        is = record { columns = tt; rows = tt };
        cut_is = sym (no_columns values asked);
        only = λ other point same. no_numbers other point;
      },
    );
  };
  objective = record { few = tt; is = λ q point. refl };
}
  where
    no_numbers : (other : List Rational) → IsSystemPoint empty_system other → other ≡ []
    no_numbers [] point = refl
    no_numbers (v ∷ other) point = absurd point.columns

all_said : Laws → (statements : List Stated) (e : Encoded) → AreInOrder statements → statements_make statements ≡ Ok e → SaysBoth statements (first_goal statements) (asks_of_statements statements) e.columns e.system
unfolding statements_make
all_said laws _ e no_statement h =
    subst (λ (x : Encoded). SaysBoth [] (first_goal []) (asks_of_statements []) x.columns x.system) (encoded_is (sym (goes-nil statement_makes nothing_encoded) ∙ h)) nothing_said
  where
    encoded_is : {x y : Encoded} → ◌≡◌ {A = Result Encoded Fault} (Ok x) (Ok y) → x ≡ y
    encoded_is e = cc
all_said laws _ e (one_more before s order follows) h =
    let first = bind_gave (goes statement_makes nothing_encoded before) (λ between. goes statement_makes between (s ∷ [])) e (sym (goes-append statement_makes nothing_encoded before (s ∷ [])) ∙ h) in
    let said = all_said laws before first.0 order first.1 in
    let last = bind_gave (statement_makes first.0 s) (λ next. goes statement_makes next []) e (sym (goes-cons statement_makes first.0 s []) ∙ first.2) in
    let made : statement_makes first.0 s ≡ Ok e = last.1 ∙ sym (goes-nil statement_makes last.0) ∙ last.2 in
    any_step laws before first.0 e s s.stmt.shape said follows refl made

pub statements_said : Laws → (statements : List Stated) (e : Encoded) → AreInOrder statements → statements_make statements ≡ Ok e → SaysStatements statements e.columns e.system
statements_said laws statements e order h =
    let said = all_said laws statements e order h in
    record {
      valid = said.points.valid;
      covered = said.points.covered;
      asked = said.points.asked;
      sound = λ numbers point. let at = said.points.sound numbers point in record { columns = at.0; truths = at.1 };
      complete = λ values satisfies. said.points.complete values satisfies.columns satisfies.truths;
      objective = said.objective.is;
    }
