-- What a name is declared to be is found by it.
use Rattle.std.proofs.Common.{◌≡◌, Bool, [], ◌∷◌, ◌++◌, None, Some, option_map, nat_eq, refl, true, false, ap₂, ◌∙◌}
use Rattle.std.specs.Prelude.{find}
use Rattle.std.specs.Map.{lookup}
use Rattle.std.specs.Cmp.Lexicographic.{pointwise}
use Rattle.std.proofs.lemmas.Option.{none-some}
use Rattle.zim_typed.specs.declared.scope.Declared.{Declared}
use Rattle.zim_typed.specs.declared.statement.TStmt.{TStmt}
use Rattle.zim_typed.specs.Scope.{Text, Scope, kind_of_name}
use Rattle.zim_typed.specs.After.{declaration, with_name}
use Rattle.zim_typed.specs.SuitsStatement.{SuitsStatement, suits_declaration, suits_do}

-- the first entry passes, or the others are looked through
first_or : (test : Text → Bool) (entry : Text × Declared) (scope : Scope) (passes : Bool) → test entry.0 ≡ passes → lookup test scope ≡ option_map (λ x. x.1) (find (λ x. test x.0) scope) →
    lookup test (entry ∷ scope) ≡ option_map (λ x. x.1) (find (λ x. test x.0) (entry ∷ scope))
first_or test entry scope true h others = rw h refl
first_or test entry scope false h others = rw h others

pub looked_up : (test : Text → Bool) (scope : Scope) → lookup test scope ≡ option_map (λ x. x.1) (find (λ x. test x.0) scope)
looked_up test [] = refl
looked_up test (entry ∷ scope) = first_or test entry scope (test entry.0) refl (looked_up test scope)

-- a name that isn't declared has no entry
pub absent : (entries scope : Scope) (key name : Text) → entries ≡ scope → key ≡ name → kind_of_name scope name ≡ None → lookup (pointwise nat_eq key) entries ≡ None
absent entries scope key name view same none =
    looked_up (pointwise nat_eq key) entries ∙ ap₂ (λ (s : Scope) (n : Text). kind_of_name s n) view same ∙ none

-- a new name stands at the end
pub added : (entries next scope : Scope) (key name : Text) (what : Declared) → entries ≡ scope → key ≡ name → next ≡ entries ++ (key, what) ∷ [] → next ≡ with_name scope name (Some what)
added entries next scope key name what view same more = more ∙ ap₂ (λ (s : Scope) (n : Text). s ++ (n, what) ∷ []) view same

-- the name that a statement declares isn't declared before it
pub declared_anew : {scope : Scope} {stmt : TStmt} {what : Declared} → SuitsStatement scope stmt → declaration scope stmt.shape ≡ Some what → kind_of_name scope stmt.name ≡ None
declared_anew (suits_declaration p q new h) is = new
declared_anew {what = what} (suits_do p h) is = absurd (none-some what is)
