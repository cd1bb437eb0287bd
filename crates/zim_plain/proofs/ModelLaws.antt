-- What is built from trees, statement by statement, and the program that says the model.
use Rattle.std.proofs.Common.{◌≡◌, ℕ, zero, suc, ◌+◌, ◌<◌, ◌↔◌, List, [], ◌∷◌, ◌++◌, length, take, drop, get_or, Option, Some, None, refl, sym, ◌∙◌, ap, ap₂, subst, arith, append-nil}
use Rattle.std.specs.Prelude.{Result, Ok, Err}
use Rattle.std.proofs.lemmas.List.{map-append, take_more, length-map}
use Rattle.zim_fault.specs.declared.kinds.Kind.TheVariants.{Syntax}
use Rattle.zim_tree.specs.declared.stmt.Stmt.{Stmt}
use Rattle.zim_rational.specs.Rational.{Rational, whole, times}
use Rattle.zim_rational.proofs.Ring.{times_comm}
use Rattle.zim_rows.specs.declared.rows.Objective as rows
use Rattle.zim_rows.specs.declared.finished.Finished.{Finished}
use Rattle.zim_rows.specs.System.{LinearSystem}
use Rattle.zim_rows.specs.Program.{LinearProgram}
use Rattle.zim_rows.specs.Points.{IsPoint, IsSystemPoint, objective_at, system_objective_at}
use Rattle.zim_rows.specs.Scaled.{scaled_target, scaled_program, first_fault}
use Rattle.zim_rows.specs.Covered.{IsCovered, written_program}
use Rattle.zim_rows.specs.Finished.{program_of}
use Rattle.zim_plain.specs.declared.plain_form.PlainProgram.{PlainProgram}
use Rattle.zim_plain.specs.declared.stop.PlainStop.{PlainStop}
use Rattle.zim_plain.specs.declared.stop.PlainStop.TheVariants as stopped
use Rattle.zim_plain.specs.declared.stop.Stop.{Stop}
use Rattle.zim_plain.specs.declared.stop.Stop.TheVariants.{Outside}
use Rattle.zim_plain.specs.Statements.{WrittenText, Statement, Variable, Objective, Constraint, PlainModel, variables}
use Rattle.zim_plain.specs.Trees.{tree_of, trees_of}
use Rattle.zim_plain.specs.Reader.{IsRead}
use Rattle.zim_plain.specs.Meaning.{is_maximised}
use Rattle.zim_plain.specs.Faults.{fault_at, IsPlain}
use Rattle.zim_plain.specs.Systems.{AreRowsOf, HasObjectiveOf, nonnegative, IsSystemOf}
use Rattle.zim_plain.specs.Build.{Built, built, Stands, Adds}
use Rattle.zim_plain.specs.Answers.{TellsModel, not_plain, stated, finished, BuildsFrom, FinishedAnswer, PlainAnswer}
use Rattle.zim_plain.proofs.SystemLaws.{points_are, objective_value, is_covered}

-- ---- statement by statement

split_list : {X : Type 0} (xs : List X) (i : ℕ) (d : X) → i < length xs → xs ≡ take i xs ++ get_or xs i d ∷ drop (suc i) xs
split_list [] i d l = absurd (omega arith)
split_list (y ∷ xs) zero d l = refl
split_list (y ∷ xs) (suc i) d l = ap (λ zs. y ∷ zs) (split_list xs i d (omega arith))

-- what stands for the statements so far
abbrev pub StandsSoFar : List Stmt → Built → Type 0
StandsSoFar trees b = (model : PlainModel) × (trees ≡ trees_of model) × Stands model b

-- one statement more
pub one_more : (trees : List Stmt) (i : ℕ) (t : Stmt) (s : Statement) (old new : Built) → i < length trees → get_or trees i t ≡ t → tree_of s ≡ t → StandsSoFar (take i trees) old → Adds old s new (Ok tt) → StandsSoFar (take (i + 1) trees) new
one_more trees i t s old new l at read (model, same, stands) adds = (
  model ++ s ∷ [],
  take_more trees i t l
      ∙ (ap (λ (ts : List Stmt). ts ++ get_or trees i t ∷ []) same
      ∙ (ap (λ (u : Stmt). trees_of model ++ u ∷ []) (at ∙ sym read)
      ∙ sym (map-append tree_of model (s ∷ [])))),
  adds model stands,
)

-- the trees before a position are those of a model, then comes the one at it
trees_around : (trees : List Stmt) (i : ℕ) (t : Stmt) (model : PlainModel) → i < length trees → get_or trees i t ≡ t → take i trees ≡ trees_of model → trees ≡ trees_of model ++ t ∷ drop (suc i) trees
trees_around trees i t model l at same = split_list trees i t l ∙ ap₂ (λ (ts : List Stmt) (u : Stmt). ts ++ u ∷ drop (suc i) trees) same at

-- a statement that has a fault behind those before it
pub stopped_build : (trees : List Stmt) (i : ℕ) (t : Stmt) (s : Statement) (old new : Built) (stop : PlainStop) → i < length trees → get_or trees i t ≡ t → tree_of s ≡ t → StandsSoFar (take i trees) old → Adds old s new (Err stop) → BuildsFrom built trees (Err stop)
stopped_build trees i t s old new stopped.Memory l at read far adds = tt
stopped_build trees i t s old new (stopped.Fault fault) l at read (model, same, stands) adds =
    stated model s (drop (suc i) trees) fault
    (trees_around trees i t model l at same ∙ ap (λ (u : Stmt). trees_of model ++ u ∷ drop (suc i) trees) (sym read))
    stands.faultless (adds model stands)

-- a statement that isn't of plain form
pub outside_build : (trees : List Stmt) (i : ℕ) (t : Stmt) (old : Built) (read : Stop) (stop : PlainStop) → i < length trees → get_or trees i t ≡ t → read ≡ Outside → IsRead t (Err read) → StandsSoFar (take i trees) old → stop ≡ stopped.Fault (fault_at Syntax t.first) → BuildsFrom built trees (Err stop)
outside_build trees i t old read stop l at outside other (model, same, stands) e =
    subst (λ (s : PlainStop). BuildsFrom built trees (Err s)) (sym e)
    (not_plain model t (drop (suc i) trees) (trees_around trees i t model l at same) stands.faultless
    (subst (λ (s : Stop). IsRead t (Err s)) outside other))

-- ---- the whole

-- what stands for a model is its system
system_of : (model : PlainModel) (b : Built) → Stands model b → IsSystemOf model b.system
system_of model b s =
    let whole : variables model ++ [] ≡ variables model = append-nil (variables model) in
    record {
      columns = s.columns;
      rows = subst (λ (ns : List WrittenText). AreRowsOf ns 0 model b.system.rows) whole (s.rows []);
      objective = subst (λ (ns : List WrittenText). HasObjectiveOf ns model b.system.objective) whole (s.objective []);
    }

aim_is : (names : List WrittenText) (model : PlainModel) (o : Option rows.Objective) → HasObjectiveOf names model o → (scaled_target o).maximize ≡ is_maximised model
aim_is names [] o h = ap (λ (p : Option rows.Objective). (scaled_target p).maximize) h
aim_is names (Variable head ∷ model) o h = aim_is names model o h
aim_is names (Objective maximize head sum ∷ model) None h = absurd h
aim_is names (Objective maximize head sum ∷ model) (Some o) h = h.aim
aim_is names (Constraint head left sense at right ∷ model) o h = aim_is names model o h

-- what finishing says of the system
pub record IsFinish (system : LinearSystem) (finished : Finished) : Type 0 where
  pub faultless : first_fault system ≡ None
  pub program : program_of finished ≡ scaled_program system
  pub objective : (numbers : List Rational) → objective_at (program_of finished) numbers ≡ times (system_objective_at system numbers) (whole finished.target.factor)
  pub points : (numbers : List Rational) → IsPoint (program_of finished) numbers ↔ IsSystemPoint system numbers
  pub covered : IsCovered system → (numbers : List Rational) → IsPoint (written_program (program_of finished)) numbers ↔ IsSystemPoint system numbers

pub says_model : (model : PlainModel) (b : Built) (read : PlainProgram) → IsPlain model → Stands model b → IsFinish b.system read.system → read.columns ≡ b.columns → read.statements ≡ b.statements → read.objective ≡ b.objective → TellsModel model read
says_model model b read plain s f vs statements position =
    let is : IsSystemOf model b.system = system_of model b s in
    let covered = f.covered (is_covered model b.system is) in
    record {
      columns_are = vs ∙ s.declared;
      statements = statements ∙ s.statements;
      objective_is = position ∙ s.position;
      system = b.system;
      system_is = is;
      faultless = f.faultless;
      program_is = f.program;
      columns = ap (λ (p : LinearProgram). length p.columns) f.program ∙ ap length s.columns ∙ length-map (variables model) (λ (_ : WrittenText). nonnegative);
      aim = ap (λ (p : LinearProgram). p.target.maximize) f.program ∙ aim_is (variables model) model b.system.objective is.objective;
      sides = λ values. (λ p. (f.points values).1 ((covered values).0 p), λ p. (covered values).1 ((f.points values).0 p));
      points = λ values l.
          let both = covered values in
          let points = points_are model b.system values plain is l in
          (λ p. points.0 (both.0 p), λ t. both.1 (points.1 t));
      objective = λ values l.
          f.objective values ∙ ap (λ (v : Rational). times v (whole read.system.target.factor)) (objective_value model b.system values plain is l)
          ∙ times_comm _ (whole read.system.target.factor);
    }

-- ---- what reading a model answers

pub answered : (trees : List Stmt) (b : Built) (r : Result PlainProgram PlainStop) → StandsSoFar trees b → FinishedAnswer b r → PlainAnswer trees r
answered trees b (Ok read) (model, same, stands) answer = (model, same, stands.faultless, answer model stands.faultless stands)
answered trees b (Err (stopped.Fault fault)) (model, same, stands) answer = finished model b.system fault same stands.faultless (system_of model b stands) answer
answered trees b (Err stopped.Memory) far answer = tt
