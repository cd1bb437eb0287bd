-- What a loop over two slices side by side takes, and what is bound by it.
use Rattle.std.proofs.Common.{◌≡◌, ℕ, List, [], ◌∷◌, map, None, refl, ap, ◌∙◌}
use Rattle.std.proofs.iter.Yields.{fronts}
use Rattle.std.proofs.lemmas.Iterator.{zips, items_from_drains, YieldsList-from_zip, YieldsList-from_slice}
use Rattle.std.specs.Iterator.{Yields}
use Rattle.std.specs.Iterator.Adapters.{zip_first, zip_second}
use Rattle.std.specs.declared.iter.Zip.{Zip}
use Rattle.std.specs.declared.slice.Iter.{Iter}
use Rattle.std.specs.List.{zip}
use Rattle.std.specs.Slice.Iter.{iter_rest}
use denote.Ref.{Bor}
use Rattle.zim_meaning.specs.Value.{bindings}
use Rattle.zim_tuples.specs.declared.elements.Elem.{Elem}
use Rattle.zim_tuples.specs.declared.environments.Binding.{Binding}

taken_pairs : {A B : Type 0} (ks : List A) (vs : List B) (xs : List (Bor A × Bor B)) (s t u : Zip (Iter A) (Iter B)) → iter_rest (zip_first s) ≡ ks → iter_rest (zip_second s) ≡ vs → Yields (zips fronts fronts) s xs t → zips fronts fronts t None u → map (λ (p : Bor A × Bor B). (p.0.now, p.1.now)) xs ≡ zip ks vs
taken_pairs ks vs xs s t u first second yielded stop =
    items_from_drains xs (t, yielded, λ _. (u, stop)) (YieldsList-from_zip (YieldsList-from_slice ks first) (YieldsList-from_slice vs second))

-- a name and its element
abbrev pair_bound : List ℕ × Elem → Binding
pair_bound pair = record { name = pair.0; value = pair.1 }

bound_pairs : (xs : List (Bor (List ℕ) × Bor Elem)) → map (λ (p : Bor (List ℕ) × Bor Elem). pair_bound (p.0.now, p.1.now)) xs ≡ map pair_bound (map (λ (p : Bor (List ℕ) × Bor Elem). (p.0.now, p.1.now)) xs)
bound_pairs [] = refl
bound_pairs (x ∷ xs) = ap (λ rest. pair_bound (x.0.now, x.1.now) ∷ rest) (bound_pairs xs)

pub all_bound : (env : List Binding) (ks : List (List ℕ)) (vs : List Elem) (xs : List (Bor (List ℕ) × Bor Elem)) (s t u : Zip (Iter (List ℕ)) (Iter Elem)) → iter_rest (zip_first s) ≡ ks → iter_rest (zip_second s) ≡ vs → Yields (zips fronts fronts) s xs t → zips fronts fronts t None u
    → env ≡ map (λ (p : Bor (List ℕ) × Bor Elem). pair_bound (p.0.now, p.1.now)) xs → env ≡ bindings ks vs
all_bound env ks vs xs s t u first second yielded stop is =
    is ∙ bound_pairs xs ∙ ap (map pair_bound) (taken_pairs ks vs xs s t u first second yielded stop)
