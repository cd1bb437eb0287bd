-- The words of a text that is put together from pieces: how each piece cuts off its own words.
use Rattle.std.proofs.Common.{◌≡◌, ℕ, Bool, true, false, ◌||◌, List, [], ◌∷◌, ◌++◌, refl, sym, ◌∙◌, ap, append_assoc, arith}
use Rattle.std.specs.Prelude.{◌==◌}
use Rattle.std.specs.List.{All, AllByRecursion}
use Rattle.std.proofs.lemmas.List.Splits.{slice_split_at}
use Rattle.std.proofs.lemmas.List.Elements.{All-cons, All-nil}
use Rattle.std.proofs.lemmas.Bool.Decides.{nat_tests}
use Rattle.std.proofs.lemmas.Bool.{or_parts}
use Rattle.zim_lp.specs.Words.{Word, is_gap, without_comments, is_empty_word, words, lp_words}

-- A byte that is neither a gap nor a backslash.
pub record IsPlainByte (b : ℕ) : Type 0 where
  pub gap : is_gap b ≡ false
  pub backslash : (b == 92) ≡ false

-- One such byte or more.
pub record IsWord (w : List ℕ) : Type 0 where
  pub some : is_empty_word w ≡ false
  pub plain : AllByRecursion IsPlainByte w

-- A text begins with a gap.
abbrev pub begins_with_gap : List ℕ → Bool
begins_with_gap [] = false
begins_with_gap (b ∷ _) = is_gap b

-- A text that gives its words, whatever follows.
pub record Closed (text : List ℕ) (ws : List Word) : Type 0 where
  pub cut : (rest : List ℕ) → lp_words (text ++ rest) ≡ ws ++ lp_words rest

-- A text that gives its words where a gap follows.
pub record Open (text : List ℕ) (ws : List Word) : Type 0 where
  pub cut : (rest : List ℕ) → begins_with_gap rest ≡ true → lp_words (text ++ rest) ≡ ws ++ lp_words rest

-- The same of a text that itself begins with a gap, or is empty.
pub record Further (text : List ℕ) (ws : List Word) : Type 0 where
  pub starts : (rest : List ℕ) → begins_with_gap rest ≡ true → begins_with_gap (text ++ rest) ≡ true
  pub cut : (rest : List ℕ) → begins_with_gap rest ≡ true → lp_words (text ++ rest) ≡ ws ++ lp_words rest

-- a plain byte stays where comments are dropped
kept_byte : (b : ℕ) (text : List ℕ) → IsPlainByte b → without_comments false (b ∷ text) ≡ b ∷ without_comments false text
kept_byte b text plain =
    let no_end : (b == 10) ≡ false = (or_parts (b == 32 || b == 9) (b == 10) plain.gap).1 in
    rw (no_end, plain.backslash) refl

kept_word : (w rest : List ℕ) → AllByRecursion IsPlainByte w → without_comments false (w ++ rest) ≡ w ++ without_comments false rest
kept_word [] rest plain = refl
kept_word (b ∷ w) rest plain = kept_byte b (w ++ rest) plain.0 ∙ ap (λ t. b ∷ t) (kept_word w rest plain.1)

-- a gap stays where comments are dropped
kept_gap : (b : ℕ) (text : List ℕ) → is_gap b ≡ true → without_comments false (b ∷ text) ≡ b ∷ without_comments false text
kept_gap b text gap = kept_gap_by (b == 10) (b == 92) b text refl refl gap
  where
    kept_gap_by : (t u : Bool) (b : ℕ) (text : List ℕ) → (b == 10) ≡ t → (b == 92) ≡ u → is_gap b ≡ true → without_comments false (b ∷ text) ≡ b ∷ without_comments false text
    kept_gap_by true u b text e f gap = rw e refl
    kept_gap_by false false b text e f gap = rw (e, f) refl
    kept_gap_by false true b text e f gap = absurd (grind (arith, nat_tests))

no_gaps : (w : List ℕ) → AllByRecursion IsPlainByte w → All (λ b. is_gap b ≡ false) w
no_gaps [] plain = All-nil (λ b. is_gap b ≡ false)
no_gaps (b ∷ w) plain = All-cons (λ b. is_gap b ≡ false) b w plain.0.gap (no_gaps w plain.1)

words-word : (w : List ℕ) (b : ℕ) (text : List ℕ) → IsWord w → is_gap b ≡ true → words (w ++ b ∷ text) ≡ w ∷ words (b ∷ text)
words-word w b text word gap =
    rw (slice_split_at is_gap w b text (no_gaps w word.plain) gap, gap, word.some) refl

-- a word before a gap is cut off
lp_words-word : (w : List ℕ) (b : ℕ) (rest : List ℕ) → IsWord w → is_gap b ≡ true → lp_words (w ++ b ∷ rest) ≡ w ∷ lp_words (b ∷ rest)
lp_words-word w b rest word gap =
    ap words (kept_word w (b ∷ rest) word.plain ∙ ap (λ t. w ++ t) (kept_gap b rest gap))
    ∙ words-word w b (without_comments false rest) word gap
    ∙ ap (λ t. w ∷ words t) (sym (kept_gap b rest gap))

pub Open-word : (w : List ℕ) → IsWord w → Open w (w ∷ [])
Open-word w word = record { cut = λ rest gap. cut_word w rest word gap }
  where
    cut_word : (w rest : List ℕ) → IsWord w → begins_with_gap rest ≡ true → lp_words (w ++ rest) ≡ w ∷ lp_words rest
    cut_word w [] word gap = cc
    cut_word w (b ∷ rest) word gap = lp_words-word w b rest word gap

-- pieces that follow each other

pub Closed-Closed : (a b : List ℕ) (ws vs : List Word) → Closed a ws → Closed b vs → Closed (a ++ b) (ws ++ vs)
Closed-Closed a b ws vs first second = record {
  cut = λ rest. ap lp_words (append_assoc a b rest) ∙ first.cut (b ++ rest) ∙ ap (λ us. ws ++ us) (second.cut rest) ∙ sym (append_assoc ws vs (lp_words rest));
}

pub Closed-Open : (a b : List ℕ) (ws vs : List Word) → Closed a ws → Open b vs → Open (a ++ b) (ws ++ vs)
Closed-Open a b ws vs first second = record {
  cut = λ rest gap. ap lp_words (append_assoc a b rest) ∙ first.cut (b ++ rest) ∙ ap (λ us. ws ++ us) (second.cut rest gap) ∙ sym (append_assoc ws vs (lp_words rest));
}

pub Open-Further : (a b : List ℕ) (ws vs : List Word) → Open a ws → Further b vs → Open (a ++ b) (ws ++ vs)
Open-Further a b ws vs first second = record {
  cut = λ rest gap. ap lp_words (append_assoc a b rest) ∙ first.cut (b ++ rest) (second.starts rest gap) ∙ ap (λ us. ws ++ us) (second.cut rest gap) ∙ sym (append_assoc ws vs (lp_words rest));
}

pub Further-Further : (a b : List ℕ) (ws vs : List Word) → Further a ws → Further b vs → Further (a ++ b) (ws ++ vs)
Further-Further a b ws vs first second = record {
  starts = λ rest gap. ap begins_with_gap (append_assoc a b rest) ∙ first.starts (b ++ rest) (second.starts rest gap);
  cut = λ rest gap. ap lp_words (append_assoc a b rest) ∙ first.cut (b ++ rest) (second.starts rest gap) ∙ ap (λ us. ws ++ us) (second.cut rest gap) ∙ sym (append_assoc ws vs (lp_words rest));
}

pub Further-nil : Further [] []
Further-nil = record { starts = λ rest gap. gap; cut = λ rest gap. refl }

-- a text whose first byte is a gap ends an open text
pub Open-Closed : (a : List ℕ) (b : ℕ) (c : List ℕ) (ws vs : List Word) → Open a ws → is_gap b ≡ true → Closed (b ∷ c) vs → Closed (a ++ (b ∷ c)) (ws ++ vs)
Open-Closed a b c ws vs first gap second = record {
  cut = λ rest. ap lp_words (append_assoc a (b ∷ c) rest) ∙ first.cut (b ∷ (c ++ rest)) gap ∙ ap (λ us. ws ++ us) (second.cut rest) ∙ sym (append_assoc ws vs (lp_words rest));
}

-- an open text whose first byte is a gap
pub Further-Open : (b : ℕ) (c : List ℕ) (ws : List Word) → is_gap b ≡ true → Open (b ∷ c) ws → Further (b ∷ c) ws
Further-Open b c ws gap text = record { starts = λ rest _. gap; cut = λ rest more. text.cut rest more }
