-- The text of one numbered thing more.
use Rattle.std.proofs.Common.{◌≡◌, ℕ, ◌+◌, ◌<◌, List, [], ◌∷◌, ◌++◌, length, length-take, take, get_or, ◌∙◌, ap, arith}
use Rattle.std.specs.Prelude.{flat_map}
use Rattle.std.specs.List.{enumerate_from}
use Rattle.std.proofs.lemmas.List.{take_more, append-nil}
use Rattle.std.proofs.lemmas.List.Concat.{flat_map-append}

enumerate-append : {X : Type 0} (n : ℕ) (xs ys : List X) → enumerate_from n (xs ++ ys) ≡ enumerate_from n xs ++ enumerate_from (n + length xs) ys
enumerate-append n [] ys = ap (λ k. enumerate_from k ys) (omega arith)
enumerate-append n (x ∷ xs) ys =
    ap (λ r. (n, x) ∷ r) (enumerate-append (n + 1) xs ys ∙ ap (λ k. enumerate_from (n + 1) xs ++ enumerate_from k ys) (omega arith))

pub numbered-next : {X : Type 0} (text : ℕ × X → List ℕ) (xs : List X) (i : ℕ) (d : X) → i < length xs → flat_map text (enumerate_from 1 (take (i + 1) xs)) ≡ flat_map text (enumerate_from 1 (take i xs)) ++ text (i + 1, get_or xs i d)
numbered-next text xs i d h =
    let number : 1 + length (take i xs) ≡ i + 1 = simp length-take (omega arith) in
    ap (λ ys. flat_map text (enumerate_from 1 ys)) (take_more xs i d h)
    ∙ ap (flat_map text) (enumerate-append 1 (take i xs) (get_or xs i d ∷ []))
    ∙ flat_map-append text (enumerate_from 1 (take i xs)) (enumerate_from (1 + length (take i xs)) (get_or xs i d ∷ []))
    ∙ ap (λ t. flat_map text (enumerate_from 1 (take i xs)) ++ t) (append-nil (text (1 + length (take i xs), get_or xs i d)) ∙ ap (λ (k : ℕ). text (k, get_or xs i d)) number)
