-- The decimals of a fraction below 1: one more of them, and the number that they write.
use Rattle.std.proofs.Common.{ℕ, zero, suc, ◌≡◌, ◌≢◌, ◌<◌, ◌+◌, ◌*◌, ◌/◌, ◌%◌, ◌++◌, List, [], ◌∷◌, length, take, set, arith, refl, sym, ap, ap₂, ◌∙◌, append_assoc, append-nil, nat_eq, eq-eqb, ne_eqb}
use Rattle.std.proofs.lemmas.Bool.{cond-true, cond-false}
use Rattle.std.proofs.lemmas.List.{take_more_set}
use Rattle.zim_decimal.specs.Short.{decimals, point_and}

pub decimals_done : (k d r : ℕ) → r ≡ 0 → decimals k d r ≡ []
unfolding decimals
decimals_done zero d r e = refl
decimals_done (suc k) d r e = cond-true (nat_eq r 0) _ _ (eq-eqb r 0 e)

pub decimals_next : (k d r : ℕ) → r ≢ 0 → decimals (suc k) d r ≡ (48 + r * 10 / d) ∷ decimals k d (r * 10 % d)
unfolding decimals
decimals_next k d r some = cond-false (nat_eq r 0) _ _ (ne_eqb r 0 some)

-- a byte that is put at the end of what is put so far
pub put_next : (to : List ℕ) (at k m d r byte rest : ℕ) → at < length to → m ≡ suc k → r ≢ 0 → byte ≡ 48 + r * 10 / d → rest ≡ r * 10 % d → take (at + 1) (set to at byte) ++ decimals k d rest ≡ take at to ++ decimals m d r
put_next to at k m d r byte rest room more some is next =
    ap (λ xs. xs ++ decimals k d rest) (take_more_set to at byte room)
    ∙ append_assoc (take at to) (byte ∷ []) (decimals k d rest)
    ∙ ap₂ (λ (b s : ℕ). take at to ++ (b ∷ decimals k d s)) is next
    ∙ ap (λ xs. take at to ++ xs) (sym (ap (λ n. decimals n d r) more ∙ decimals_next k d r some))

-- a byte that is put first
pub put_first : (to : List ℕ) (byte : ℕ) → 0 < length to → take 1 (set to 0 byte) ≡ byte ∷ []
put_first to byte room = take_more_set to 0 byte room

-- a number below 1 that isn't 0 has a decimal
pub point_needed : (d r : ℕ) → r ≢ 0 → point_and (decimals 15 d r) ≡ 46 ∷ decimals 15 d r
unfolding point_and
point_needed d r some =
    let e = decimals_next 14 d r some in
    ap point_and e ∙ ap (λ ds. 46 ∷ ds) (sym e)

pub no_point : (d r : ℕ) → r ≡ 0 → point_and (decimals 15 d r) ≡ []
unfolding point_and
no_point d r none = ap point_and (decimals_done 15 d r none)

-- a point that is put, and the decimals behind it
pub put_point : (to text : List ℕ) (at d r : ℕ) → at < length to → r ≢ 0 → text ≡ take (at + 1) (set to at 46) ++ decimals 15 d r → text ≡ take at to ++ point_and (decimals 15 d r)
put_point to text at d r room some e =
    e ∙ ap (λ xs. xs ++ decimals 15 d r) (take_more_set to at 46 room)
    ∙ append_assoc (take at to) (46 ∷ []) (decimals 15 d r)
    ∙ ap (λ xs. take at to ++ xs) (sym (point_needed d r some))

-- nothing is put where there is no decimal
pub put_nothing : (front : List ℕ) (d r : ℕ) → r ≡ 0 → front ≡ front ++ point_and (decimals 15 d r)
put_nothing front d r none = sym (ap (λ xs. front ++ xs) (no_point d r none) ∙ append-nil front)

-- three texts that are put one after the other
pub three_puts : (all two one minus whole rest : List ℕ) → all ≡ two ++ rest → two ≡ one ++ whole → one ≡ minus → all ≡ minus ++ (whole ++ rest)
three_puts all two one minus whole rest third second first =
    third ∙ ap (λ xs. xs ++ rest) (second ∙ ap (λ xs. xs ++ whole) first) ∙ append_assoc minus whole rest

pub decimals_none : (k d r : ℕ) → k ≡ 0 → decimals k d r ≡ []
unfolding decimals
decimals_none zero d r e = refl
decimals_none (suc k) d r e = absurd (omega arith)

-- where nothing is still to come, all is put
pub put_last : (front rest all : List ℕ) → rest ≡ [] → front ++ rest ≡ all → front ≡ all
put_last front rest all none e = sym (ap (λ xs. front ++ xs) none ∙ append-nil front) ∙ e
