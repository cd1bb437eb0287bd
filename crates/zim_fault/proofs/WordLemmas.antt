-- Looking a text up among the words finds the word that is spelled so, and no two words are spelled alike.
use Rattle.std.proofs.Common.{◌≡◌, ℕ, Bool, true, false, cond, List, [], ◌∷◌, Option, Some, IfSome, find, nat_eq, refl, ap, sym, ◌∙◌}
use Rattle.std.specs.Cmp.Lexicographic.{pointwise, bytes_decides}
use Rattle.zim_fault.specs.declared.words.Word.{Word}
use Rattle.zim_fault.specs.declared.words.Word.TheVariants.{WSet}
use Rattle.zim_fault.specs.declared.words.TheConstants.{WORDS}
use Rattle.zim_fault.specs.Words.{spelling_of_word}

-- the first word that is spelled so
abbrev pub first_spelled : List ℕ → Option Word
first_spelled text = find (λ word. pointwise nat_eq (spelling_of_word word) text) WORDS

-- each word is found by its spelling
pub first_spelled-own : (word : Word) → first_spelled (spelling_of_word word) ≡ Some word
first_spelled-own WSet = refl
first_spelled-own _ = refl

-- a word is found by each text that it spells
pub first_spelled-by : (word : Word) (text : List ℕ) → spelling_of_word word ≡ text → first_spelled text ≡ Some word
first_spelled-by word text e = ap first_spelled (sym e) ∙ first_spelled-own word

-- no two words are spelled alike
pub spelling_of_word-injective : (v w : Word) → spelling_of_word v ≡ spelling_of_word w → v ≡ w
spelling_of_word-injective v w e =
    let both : Some v ≡ Some w = sym (first_spelled-own v) ∙ ap first_spelled e ∙ first_spelled-own w in cc

-- what is found in a list passes the test
found_passes : {A : Type 0} (p : A → Bool) (Q : A → Type 0) → ((x : A) → p x ≡ true → Q x) → (xs : List A) → IfSome (find p xs) Q
found_passes p Q h [] = tt
found_passes p Q h (x ∷ xs) =
    elim (p x) as (λ b. p x ≡ b → IfSome (cond b (Some x) (find p xs)) Q) [ true ↦ λ e. h x e | false ↦ λ _. found_passes p Q h xs ] refl

-- what is found is spelled so
pub IsSpelled-first : (text : List ℕ) → IfSome (first_spelled text) (λ word. spelling_of_word word ≡ text)
IsSpelled-first text =
    found_passes (λ word. pointwise nat_eq (spelling_of_word word) text) (λ word. spelling_of_word word ≡ text) (λ word e. (bytes_decides (spelling_of_word word) text).0 e) WORDS
