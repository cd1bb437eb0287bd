-- The name between the first two double quotes, and that an include line has bytes.
use Rattle.std.proofs.Common.{◌≡◌, ℕ, zero, suc, ◌+◌, ◌≤◌, ◌<◌, Bool, true, false, List, [], ◌∷◌, length, take, drop, get_or, Option, Some, None, nat_eq, Bor, refl, ap, sym, ◌∙◌, subst, arith}
use Rattle.std.specs.Prelude.{◌==◌, option_map}
use Rattle.memchr.specs.Find.{IsFirstByte, is_byte}
use Rattle.std.specs.List.{starts_with}
use Rattle.std.proofs.lemmas.List.{drop-drop}
use Rattle.zim_fault.specs.declared.words.Word.TheVariants.{WInclude}
use Rattle.zim_fault.specs.Words.{spelling_of_word}
use Rattle.zim_lex.specs.Includes.{after_blanks, at_quote, ends_line, alone, quoted_name, included}

is_false : (b : Bool) → (b ≡ true → ⊥) → b ≡ false
is_false true h = absurd (h refl)
is_false false h = refl

first_at : (bs : List ℕ) (k : ℕ) → k < length bs → (get_or bs k 0 == 34) ≡ true → ((j : ℕ) → 0 ≤ j → j < k → (get_or bs j 0 == 34) ≡ true → ⊥) → at_quote bs ≡ Some (take k bs, drop (suc k) bs)
first_at [] k high is none = absurd (omega arith)
first_at (b ∷ bs) zero high is none = let here : (b == 34) ≡ true = is in rw here refl
first_at (b ∷ bs) (suc k) high is none =
    let here : (b == 34) ≡ false = is_false (b == 34) (none 0 (omega arith) (omega arith)) in
    rw (here, first_at bs k (omega arith) is (λ j any low. none (suc j) (omega arith) (omega arith))) refl

nowhere : (bs : List ℕ) → ((j : ℕ) → 0 ≤ j → j < length bs → (get_or bs j 0 == 34) ≡ true → ⊥) → at_quote bs ≡ None
nowhere [] none = refl
nowhere (b ∷ bs) none =
    let here : (b == 34) ≡ false = is_false (b == 34) (none 0 (omega arith) (omega arith)) in
    rw (here, nowhere bs (λ j any low. none (suc j) (omega arith) (omega arith))) refl

one_more : (k : ℕ) (bytes : List ℕ) → drop 1 (drop k bytes) ≡ drop (suc k) bytes
one_more k bytes = let e : k + 1 ≡ suc k = omega arith in drop-drop 1 k bytes ∙ ap (λ (j : ℕ). drop j bytes) e

-- what a search for the quote finds
pub quote_found : (bs : List ℕ) (found : Option ℕ) (k : ℕ) → IsFirstByte (is_byte 34) bs found → found ≡ Some k → at_quote bs ≡ Some (take k bs, drop (suc k) bs)
quote_found bs found k first is = let at = subst (IsFirstByte (is_byte 34) bs) is first in first_at bs k at.0.high at.1 at.0.before

pub quote_within : (bs : List ℕ) (found : Option ℕ) (k : ℕ) → IsFirstByte (is_byte 34) bs found → found ≡ Some k → k < length bs
quote_within bs found k first is = let at = subst (IsFirstByte (is_byte 34) bs) is first in at.0.high

pub no_quote : (bs : List ℕ) (found : Option ℕ) → IsFirstByte (is_byte 34) bs found → found ≡ None → at_quote bs ≡ None
no_quote bs found first is = nowhere bs (subst (IsFirstByte (is_byte 34) bs) is first)

-- an include line isn't empty
pub include_has_bytes : (line name : List ℕ) → included line ≡ Some name → 0 < length line
unfolding included
include_has_bytes [] name h = cc
include_has_bytes (b ∷ bs) name h = omega arith

-- the line ends after the quote
pub closed_here : (bytes name quote rest unblanked : List ℕ) (found : Option ℕ) (k : ℕ) (t : Bool) → IsFirstByte (is_byte 34) bytes found → found ≡ Some k → name ≡ take k bytes → quote ≡ drop k bytes → rest ≡ drop 1 quote → unblanked ≡ after_blanks rest
    → t ≡ ends_line unblanked → t ≡ true → Some name ≡ alone (at_quote bytes)
closed_here bytes name quote rest unblanked found k t first is is_name is_quote is_rest is_unblanked is_end ends =
    let whole : rest ≡ drop (suc k) bytes = is_rest ∙ ap (drop 1) is_quote ∙ one_more k bytes in
    let ended : ends_line (after_blanks (drop (suc k) bytes)) ≡ true = sym (ap ends_line (is_unblanked ∙ ap after_blanks whole)) ∙ sym is_end ∙ ends in
    ap Some is_name ∙ sym (ap alone (quote_found bytes found k first is) ∙ rw ended refl)

-- or it doesn't
pub open_here : (bytes quote rest unblanked : List ℕ) (found : Option ℕ) (k : ℕ) (t : Bool) → IsFirstByte (is_byte 34) bytes found → found ≡ Some k → quote ≡ drop k bytes → rest ≡ drop 1 quote → unblanked ≡ after_blanks rest
    → t ≡ ends_line unblanked → t ≡ false → None ≡ alone (at_quote bytes)
open_here bytes quote rest unblanked found k t first is is_quote is_rest is_unblanked is_end ends =
    let whole : rest ≡ drop (suc k) bytes = is_rest ∙ ap (drop 1) is_quote ∙ one_more k bytes in
    let ended : ends_line (after_blanks (drop (suc k) bytes)) ≡ false = sym (ap ends_line (is_unblanked ∙ ap after_blanks whole)) ∙ sym is_end ∙ ends in
    sym (ap alone (quote_found bytes found k first is) ∙ rw ended refl)

-- a line that begins with the word
pub included_word : (line word first rest unblanked : List ℕ) (t : Bool) → word ≡ spelling_of_word WInclude → first ≡ after_blanks line → rest ≡ drop (length word) first → unblanked ≡ after_blanks rest → t ≡ starts_with nat_eq first word → t ≡ true
    → included line ≡ quoted_name unblanked
unfolding included
included_word line word first rest unblanked t is_word is_first is_rest is_unblanked is_start starts =
    let here : starts_with nat_eq (after_blanks line) (spelling_of_word WInclude) ≡ true = sym (ap (λ (bytes : List ℕ). starts_with nat_eq bytes (spelling_of_word WInclude)) is_first) ∙ sym (ap (starts_with nat_eq first) is_word) ∙ sym is_start ∙ starts in
    let left : rest ≡ drop (length (spelling_of_word WInclude)) (after_blanks line) = is_rest ∙ ap (λ (w : List ℕ). drop (length w) first) is_word ∙ ap (drop (length (spelling_of_word WInclude))) is_first in
    rw here (sym (ap quoted_name (is_unblanked ∙ ap after_blanks left)))

-- and one that doesn't
pub included_other : (line word first : List ℕ) (t : Bool) → word ≡ spelling_of_word WInclude → first ≡ after_blanks line → t ≡ starts_with nat_eq first word → t ≡ false → included line ≡ None
unfolding included
included_other line word first t is_word is_first is_start starts =
    let here : starts_with nat_eq (after_blanks line) (spelling_of_word WInclude) ≡ false = sym (ap (λ (bytes : List ℕ). starts_with nat_eq bytes (spelling_of_word WInclude)) is_first) ∙ sym (ap (starts_with nat_eq first) is_word) ∙ sym is_start ∙ starts in
    rw here refl

-- what the code finds
pub included_is : (line seen : List ℕ) (found : Option (Bor (List ℕ))) (name : Bor (List ℕ)) → option_map (λ n. n.now) found ≡ included seen → seen ≡ line → found ≡ Some name → included line ≡ Some name.now
included_is line seen found name told same is = sym (ap included same) ∙ sym told ∙ ap (option_map (λ (n : Bor (List ℕ)). n.now)) is
