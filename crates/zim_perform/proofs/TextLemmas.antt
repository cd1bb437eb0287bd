-- Texts one after the other.
use Rattle.std.proofs.Common.{◌≡◌, ℕ, ◌+◌, ◌<◌, List, [], ◌∷◌, ◌++◌, length, take, drop, get_or, refl, sym, ap, ◌∙◌, add-one, append_assoc, arith}
use Rattle.std.specs.Prelude.{flat_map, map}
use Rattle.std.proofs.Math.Seq.{take-suc, drop-append_seam}
use Rattle.std.proofs.lemmas.List.Concat.{flat_map-append}
use Rattle.zim_meaning.specs.Printing.{with_between}
use Rattle.zim_perform.specs.Performing.{Continues}
use Rattle.zim_perform.specs.Private.{behind_commas}

pub nil_right : {A : Type 0} (xs : List A) → xs ++ [] ≡ xs
nil_right [] = refl
nil_right (x ∷ xs) = ap (λ ys. x ∷ ys) (nil_right xs)

-- a text behind one byte and then another text
pub behind_byte : (before : List ℕ) (byte : ℕ) (text : List ℕ) → (before ++ byte ∷ []) ++ text ≡ before ++ byte ∷ text
behind_byte before byte text = append_assoc before (byte ∷ []) text

-- a list of texts with one more at its end
pub one_more : {A : Type 0} (output : A → List ℕ) (items : List A) (i : ℕ) (item : A) (before text : List ℕ) → i < length items → item ≡ get_or items i item
    → text ≡ before ++ flat_map output (take i items) → text ++ output item ≡ before ++ flat_map output (take (i + 1) items)
one_more {A} output items i item before text lt is so_far =
    let cut : take (i + 1) items ≡ take i items ++ item ∷ [] = rw (add-one, take-suc items i item lt, sym is) refl in
    ap (λ t. t ++ output item) so_far ∙ append_assoc before (flat_map output (take i items)) (output item)
    ∙ ap (λ t. before ++ t) (ap (λ t. flat_map output (take i items) ++ t) (sym (nil_right (output item))) ∙ sym (flat_map-append output (take i items) (item ∷ [])) ∙ ap (flat_map output) (sym cut))

-- commas between texts
pub between_commas : {A : Type 0} (output : A → List ℕ) (items : List A) → flat_map (behind_commas output) items ≡ flat_map (λ text. 44 ∷ text) (map output items)
between_commas output [] = refl
between_commas output (item ∷ items) = ap (λ t. 44 ∷ (output item ++ t)) (between_commas output items)

-- a first text, and further ones behind commas
pub first_and_further : {A : Type 0} (output : A → List ℕ) (items : List A) (first : A) (further : List A) (before : List ℕ) → items ≡ first ∷ further
    → (before ++ output first) ++ flat_map (behind_commas output) further ≡ before ++ with_between 44 (map output items)
first_and_further {A} output items first further before is =
    append_assoc before (output first) (flat_map (behind_commas output) further)
    ∙ ap (λ t. before ++ (output first ++ t)) (between_commas output further)
    ∙ ap (λ (xs : List A). before ++ with_between 44 (map output xs)) (sym is)

-- no texts
pub no_texts : {A : Type 0} (output : A → List ℕ) (items : List A) (before : List ℕ) → length items ≡ 0 → before ≡ before ++ with_between 44 (map output items)
no_texts output [] before none = sym (nil_right before)
no_texts output (item ∷ items) before none = absurd (omega (arith, none))

-- texts in a pair of brackets
pub in_brackets : (before : List ℕ) (open_byte close : ℕ) (text : List ℕ) → ((before ++ open_byte ∷ []) ++ text) ++ close ∷ [] ≡ before ++ (open_byte ∷ (text ++ close ∷ []))
in_brackets before open_byte close text = ap (λ t. t ++ close ∷ []) (append_assoc before (open_byte ∷ []) text) ∙ append_assoc before (open_byte ∷ text) (close ∷ [])

-- ---- what is kept of a text

pub keeps_itself : (text : List ℕ) → Continues text text
keeps_itself [] = refl
keeps_itself (byte ∷ text) = ap (λ t. byte ∷ t) (keeps_itself text)

pub keeps_more : (text more : List ℕ) → Continues text (text ++ more)
keeps_more [] more = refl
keeps_more (byte ∷ text) more = ap (λ t. byte ∷ t) (keeps_more text more)

pub keeps_on : (text next last : List ℕ) → Continues text next → Continues next last → Continues text last
keeps_on text next last first second =
    let whole : last ≡ text ++ (drop (length text) next ++ drop (length next) last) = second ∙ ap (λ t. t ++ drop (length next) last) first ∙ append_assoc text (drop (length text) next) (drop (length next) last) in
    whole ∙ ap (λ t. text ++ t) (sym (drop-append_seam text (drop (length text) next ++ drop (length next) last)) ∙ ap (drop (length text)) (sym whole))
