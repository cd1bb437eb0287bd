-- Looking a text up among the words or the signs finds what is spelled so, and each word and sign by its spelling.
use Rattle.std.proofs.Common.{◌≡◌, ℕ, Bool, true, false, cond, List, [], ◌∷◌, Option, Some, None, find, nat_eq, refl, ap, sym, ◌∙◌}
use Rattle.std.specs.Prelude.{is_some}
use Rattle.std.specs.Cmp.Lexicographic.{pointwise, bytes_decides}
use Rattle.zim_fault.specs.declared.words.Word.{Word}
use Rattle.zim_fault.specs.declared.words.Word.TheVariants.{WSet}
use Rattle.zim_fault.specs.declared.signs.Sign.{Sign}
use Rattle.zim_fault.specs.declared.signs.Sign.TheVariants.{SSemicolon}
use Rattle.zim_fault.specs.Words.{spelling_of_word}
use Rattle.zim_fault.specs.Signs.{spelling_of_sign}
use Rattle.zim_lex.specs.Spelled.{every_word, every_sign, word_in, sign_in}

-- what is found in a list passes the test
found_passes : {A : Type 0} (p : A → Bool) (xs : List A) (x : A) → find p xs ≡ Some x → p x ≡ true
found_passes p [] x h = cc
found_passes p (y ∷ ys) x h =
    let at : (b : Bool) → p y ≡ b → cond b (Some y) (find p ys) ≡ Some x → p x ≡ true =
    elim [ true ↦ λ e f. (let same : y ≡ x = cc in ap p (sym same) ∙ e) | false ↦ λ e f. found_passes p ys x f ]
    in at (p y) refl h

pub word_in_spells : (text : List ℕ) (word : Word) → word_in text ≡ Some word → spelling_of_word word ≡ text
unfolding word_in
word_in_spells text word h = (bytes_decides (spelling_of_word word) text).0 (found_passes (λ w. pointwise nat_eq (spelling_of_word w) text) every_word word h)

pub sign_in_spells : (text : List ℕ) (sign : Sign) → sign_in text ≡ Some sign → spelling_of_sign sign ≡ text
unfolding sign_in
sign_in_spells text sign h = (bytes_decides (spelling_of_sign sign) text).0 (found_passes (λ s. pointwise nat_eq (spelling_of_sign s) text) every_sign sign h)

word_in_own : (word : Word) → word_in (spelling_of_word word) ≡ Some word
unfolding word_in
word_in_own WSet = refl
word_in_own _ = refl

sign_in_own : (sign : Sign) → sign_in (spelling_of_sign sign) ≡ Some sign
unfolding sign_in
sign_in_own SSemicolon = refl
sign_in_own _ = refl

pub word_in_of : (text : List ℕ) (word : Word) → spelling_of_word word ≡ text → word_in text ≡ Some word
word_in_of text word h = ap word_in (sym h) ∙ word_in_own word

pub sign_in_of : (text : List ℕ) (sign : Sign) → spelling_of_sign sign ≡ text → sign_in text ≡ Some sign
sign_in_of text sign h = ap sign_in (sym h) ∙ sign_in_own sign

-- what holds of the spelling of each word holds of each text that has one
pub of_words : (p : List ℕ → Bool) → ((word : Word) → p (spelling_of_word word) ≡ true) → (text : List ℕ) → is_some (word_in text) ≡ true → p text ≡ true
of_words p each text h =
    let at : (found : Option Word) → word_in text ≡ found → is_some found ≡ true → p text ≡ true =
    elim [ Some word ↦ λ e _. ap p (sym (word_in_spells text word e)) ∙ each word | None ↦ λ _ f. cc ]
    in at (word_in text) refl h

pub of_signs : (p : List ℕ → Bool) → ((sign : Sign) → p (spelling_of_sign sign) ≡ true) → (text : List ℕ) → is_some (sign_in text) ≡ true → p text ≡ true
of_signs p each text h =
    let at : (found : Option Sign) → sign_in text ≡ found → is_some found ≡ true → p text ≡ true =
    elim [ Some sign ↦ λ e _. ap p (sym (sign_in_spells text sign e)) ∙ each sign | None ↦ λ _ f. cc ]
    in at (sign_in text) refl h
