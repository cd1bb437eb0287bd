-- What a loop over two slices side by side takes: when it ends, the pairs of the two lists; and a pair that fails
-- a test fails it for these lists.
use Rattle.std.proofs.Common.{◌≡◌, ◌<◌, List, length, map, Bool, false, Some, None, refl, arith}
use Rattle.std.proofs.iter.Yields.{fronts}
use Rattle.std.proofs.lemmas.Iterator.{zips, items_from_drains, YieldsList-from_zip, YieldsList-from_slice}
use Rattle.std.proofs.lemmas.List.Folds.{list_all_at}
use Rattle.std.proofs.lemmas.Slice.Zip.{zip_turn, length-zip, get_or-zip}
use Rattle.std.specs.Iterator.{Yields}
use Rattle.std.specs.Iterator.Adapters.{zip_first, zip_second}
use Rattle.std.specs.declared.iter.Zip.{Zip}
use Rattle.std.specs.declared.slice.Iter.{Iter}
use Rattle.std.specs.List.{zip, list_all}
use Rattle.std.specs.Slice.Iter.{iter_rest}
use denote.Ref.{Bor}

pub taken_pairs : {A B : Type 0} (ks : List A) (vs : List B) (xs : List (Bor A × Bor B)) (s t u : Zip (Iter A) (Iter B)) → iter_rest (zip_first s) ≡ ks → iter_rest (zip_second s) ≡ vs → Yields (zips fronts fronts) s xs t → zips fronts fronts t None u → map (λ (p : Bor A × Bor B). (p.0.now, p.1.now)) xs ≡ zip ks vs
taken_pairs ks vs xs s t u first second yielded stop =
    items_from_drains xs (t, yielded, λ _. (u, stop)) (YieldsList-from_zip (YieldsList-from_slice ks first) (YieldsList-from_slice vs second))

pub failing_pair : {A B : Type 0} (test : A × B → Bool) (ks : List A) (vs : List B) (xs : List (Bor A × Bor B)) (s t u : Zip (Iter A) (Iter B)) (p : Bor A × Bor B) → iter_rest (zip_first s) ≡ ks → iter_rest (zip_second s) ≡ vs → Yields (zips fronts fronts) s xs t → zips fronts fronts t (Some p) u → test (p.0.now, p.1.now) ≡ false → list_all test (zip ks vs) ≡ false
failing_pair test ks vs xs s t u p first second yielded step fails =
    let turn = zip_turn ks vs xs s t u (Some p) first second yielded p refl step in
    let short : length xs < length (zip ks vs) = rw length-zip (omega (arith, turn.0, turn.1)) in
    let here = get_or-zip ks vs (length xs) (p.0.now, p.1.now) turn.0 turn.1 in
    list_all_at test (zip ks vs) (length xs) (p.0.now, p.1.now) short (rw (here, ← turn.2 p.0.now, ← turn.3 p.1.now) fails)
