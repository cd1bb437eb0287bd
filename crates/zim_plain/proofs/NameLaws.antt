-- The names of a plain model's statements are all different, and it has an objective exactly where its system has one.
use Rattle.std.proofs.Common.{◌≢◌, ◌↔◌, ℕ, ◌+◌, List, [], ◌∷◌, ◌++◌, map, Option, Some, None, refl, subst, append_assoc, arith}
use Rattle.std.specs.Prelude.{AllPairs, IsSome}
use Rattle.std.specs.List.{AllByRecursion}
use Rattle.std.proofs.lemmas.List.Elements.{All-from_recursion}
use Rattle.std.proofs.lemmas.List.Kept.{AllPairs-cons}
use Rattle.zim_rows.specs.declared.rows.Objective as rows
use Rattle.zim_rows.specs.Scaled.{scaled_target}
use Rattle.zim_plain.specs.Statements.{WrittenText, Statement, Variable, Objective, Constraint, PlainModel, given_name}
use Rattle.zim_plain.specs.Faults.{AreFaultless, IsPlain}
use Rattle.zim_plain.specs.Systems.{objective_position, HasObjectiveOf}

pick : {X : Type 0} (P : X → Type 0) (xs ys : List X) (x : X) → AllByRecursion P (xs ++ x ∷ ys) → P x
pick P [] ys x h = h.0
pick P (y ∷ xs) ys x h = pick P xs ys x h.1

-- the name of a statement is not that of one behind it
later_apart : (before between : PlainModel) (s : Statement) (rest : PlainModel) → AreFaultless (before ++ s ∷ between) rest → AllByRecursion (λ (name : WrittenText). given_name s ≢ name) (map given_name rest)
later_apart before between s [] h = tt
later_apart before between s (t ∷ rest) h = (
  pick (λ (other : Statement). given_name other ≢ given_name t) before between s h.0.follows.name_new,
  later_apart before (between ++ t ∷ []) s rest (subst (λ (m : PlainModel). AreFaultless m rest) (append_assoc before (s ∷ between) (t ∷ [])) h.1),
)

apart_from : (before model : PlainModel) → AreFaultless before model → AllPairs (λ (one later : WrittenText). one ≢ later) (map given_name model)
apart_from before [] h = λ i j d l m. absurd (omega (arith, m))
apart_from before (s ∷ rest) h =
    AllPairs-cons (λ (one later : WrittenText). one ≢ later) (given_name s) (map given_name rest)
    (All-from_recursion (λ (name : WrittenText). given_name s ≢ name) (map given_name rest) (later_apart before [] s rest h.1))
    (apart_from (before ++ s ∷ []) rest h.1)

-- no two statements have the same name
pub names_apart : (model : PlainModel) → IsPlain model → AllPairs (λ (one later : WrittenText). one ≢ later) (map given_name model)
names_apart model plain = apart_from [] model plain

-- an objective is among the statements exactly where the target has a place
pub objective_given : (names : List WrittenText) (position : ℕ) (model : PlainModel) (o : Option rows.Objective) → HasObjectiveOf names model o → IsSome (objective_position position model) ↔ IsSome (scaled_target o).place
objective_given names position [] o h = (
  λ e. absurd (cc),
  λ e. (let none : IsSome (scaled_target None).place = subst (λ (p : Option rows.Objective). IsSome (scaled_target p).place) h e in absurd (cc)),
)
objective_given names position (Variable head ∷ model) o h = objective_given names (position + 1) model o h
objective_given names position (Objective maximize head sum ∷ model) None h = absurd h
objective_given names position (Objective maximize head sum ∷ model) (Some o) h = (λ e. refl, λ e. refl)
objective_given names position (Constraint head left sense at right ∷ model) o h = objective_given names (position + 1) model o h
