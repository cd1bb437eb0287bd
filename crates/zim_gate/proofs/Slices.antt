-- What a copy into the front of a buffer leaves of the rest.
use Rattle.std.proofs.Common.{◌≡◌, ℕ, ◌+◌, ◌-◌, ◌≤◌, min, List, ◌++◌, length, take, drop, sym, ap, subst, ◌∙◌, arith}
use Rattle.std.proofs.lemmas.List.{take-append-drop, drop-drop, length-take-le, length-drop}
use Rattle.std.proofs.Math.Seq.{take-append_seam, take-length}

-- the front of a copy and what stood there before
front_copied : (copied tail : List ℕ) (n : ℕ) → length copied ≡ n → take n (copied ++ tail) ≡ copied
front_copied copied tail n e = subst (λ k. take k (copied ++ tail) ≡ copied) e (take-append_seam copied tail)

-- a rest is what was copied to the front of a buffer, and what is left behind that
copied_front : (bytes copied tail : List ℕ) (given n : ℕ) → copied ≡ take n (drop given bytes) → n ≤ length (drop given bytes) →
    drop given bytes ≡ take n (copied ++ tail) ++ drop (given + n) bytes
copied_front bytes copied tail given n e h =
    sym (take-append-drop n (drop given bytes))
    ∙ ap (λ front. front ++ drop n (drop given bytes)) (sym e ∙ sym (front_copied copied tail n (ap length e ∙ length-take-le n (drop given bytes) h)))
    ∙ ap (λ rest. take n (copied ++ tail) ++ rest) (drop-drop n given bytes)

-- a slice to the end is the rest
slice_to_end : (bytes : List ℕ) (given : ℕ) → take (length bytes - given) (drop given bytes) ≡ drop given bytes
slice_to_end bytes given = subst (λ k. take k (drop given bytes) ≡ drop given bytes) (length-drop given bytes) (take-length (drop given bytes))

-- the same as a reader says it, with the slice that it copies from
pub read_front : (bytes shown copied tail : List ℕ) (given n room : ℕ) → shown ≡ bytes →
    copied ≡ take n (take (length shown - given) (drop given shown)) → n ≡ min (length (take (length shown - given) (drop given shown))) room →
    drop given bytes ≡ take n (copied ++ tail) ++ drop (given + n) bytes
read_front bytes shown copied tail given n room same e count =
    let rest : take (length shown - given) (drop given shown) ≡ drop given bytes =
    ap (λ l. take (length l - given) (drop given l)) same ∙ slice_to_end bytes given in
    let fits : n ≤ length (drop given bytes) = omega (arith, count, ap length rest) in
    copied_front bytes copied tail given n (e ∙ ap (take n) rest) fits
