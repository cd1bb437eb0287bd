-- A list of definitions, each of which is kept under its own name.
use Rattle.std.proofs.Common.{ℕ, zero, suc, ◌≡◌, slice_get, option_map, Bool, cond, List, [], ◌∷◌, ◌++◌, None, Some, nat_eq, refl, ap, ap₂, ◌∙◌}
use Rattle.std.specs.Prelude.{find}
use Rattle.std.specs.Cmp.Lexicographic.{pointwise}
use Rattle.std.specs.List.{AllByRecursion, IsDistinct}
use Rattle.std.specs.Map.{keys_of, values_of, lookup}
use Rattle.zim_functions.specs.Definitions.{defined, defined_names, AreKept}
use Rattle.zim_functions.specs.declared.definitions.Definition.{Definition}

-- what is found by a name that passes the test is the first definition whose name passes it
pub found : (test : List ℕ → Bool) (kept : List (List ℕ × Definition)) → AllByRecursion (λ (entry : List ℕ × Definition). entry.0 ≡ entry.1.name) kept → lookup test kept ≡ find (λ definition. test definition.name) (values_of kept)
found test [] named = refl
found test (entry ∷ kept) named = λ i. cond (test (named.0 i)) (Some entry.1) (found test kept named.1 i)

pub keys : (kept : List (List ℕ × Definition)) → AllByRecursion (λ (entry : List ℕ × Definition). entry.0 ≡ entry.1.name) kept → keys_of kept ≡ defined_names (values_of kept)
keys [] named = refl
keys (entry ∷ kept) named = λ i. named.0 i ∷ keys kept named.1 i

pub named_more : (kept : List (List ℕ × Definition)) (name : List ℕ) (definition : Definition) → AllByRecursion (λ (entry : List ℕ × Definition). entry.0 ≡ entry.1.name) kept → name ≡ definition.name → AllByRecursion (λ (entry : List ℕ × Definition). entry.0 ≡ entry.1.name) (kept ++ (name, definition) ∷ [])
named_more [] name definition named own = (own, tt)
named_more (entry ∷ kept) name definition named own = (named.0, named_more kept name definition named.1 own)

pub values_more : (kept : List (List ℕ × Definition)) (name : List ℕ) (definition : Definition) → values_of (kept ++ (name, definition) ∷ []) ≡ values_of kept ++ definition ∷ []
values_more [] name definition = refl
values_more (entry ∷ kept) name definition = λ i. entry.1 ∷ values_more kept name definition i

-- ---- one more

pub absent : (kept : List (List ℕ × Definition)) (definitions : List Definition) (name own : List ℕ) → AreKept kept → values_of kept ≡ definitions → name ≡ own → defined definitions own ≡ None → lookup (pointwise nat_eq name) kept ≡ None
unfolding defined
absent kept definitions name own is view same none =
    found (pointwise nat_eq name) kept is.named ∙ ap₂ (λ (n : List ℕ) (ds : List Definition). find (λ definition. pointwise nat_eq n definition.name) ds) same view ∙ none

pub kept_more : (kept next : List (List ℕ × Definition)) (name : List ℕ) (definition : Definition) → AreKept kept → next ≡ kept ++ (name, definition) ∷ [] → name ≡ definition.name → IsDistinct (pointwise nat_eq) (keys_of next) → AreKept next
kept_more kept next name definition is more own distinct =
    record {
      named = rw more (named_more kept name definition is.named own);
      distinct = distinct;
    }

pub added : (kept next : List (List ℕ × Definition)) (definitions : List Definition) (name : List ℕ) (definition : Definition) → values_of kept ≡ definitions → next ≡ kept ++ (name, definition) ∷ [] → values_of next ≡ definitions ++ definition ∷ []
added kept next definitions name definition view more =
    ap values_of more ∙ values_more kept name definition ∙ ap (λ (ds : List Definition). ds ++ definition ∷ []) view

-- ---- positions

-- what stands at a position is the definition that is kept there
pub value_there : (kept : List (List ℕ × Definition)) (i : ℕ) → slice_get (values_of kept) i ≡ option_map (λ entry. entry.1) (slice_get kept i)
value_there [] i = refl
value_there (entry ∷ kept) zero = refl
value_there (entry ∷ kept) (suc i) = value_there kept i
