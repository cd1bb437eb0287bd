-- The words of an LP text: comments are dropped, and the rest is cut at blanks and line ends.
use Rattle.std.specs.Prelude.{ℕ, Bool, true, false, cond, not, ◌||◌, ◌==◌, List, [], ◌∷◌, filter}
use Rattle.std.specs.List.{slice_split}

-- A word: a list of bytes.
abbrev pub Word : Type 0
Word = List ℕ

-- The bytes between words: a space, a tab and the end of a line.
abbrev pub is_gap : ℕ → Bool
is_gap b = b == 32 || b == 9 || b == 10

-- A text without what stands between a backslash and the end of its line, the backslash included; `inside` says
-- whether the text begins in such a comment.
abbrev pub without_comments : Bool → List ℕ → List ℕ
without_comments inside [] = []
without_comments inside (b ∷ rest) =
    cond (b == 10) (b ∷ without_comments false rest) (cond (inside || b == 92) (without_comments true rest) (b ∷ without_comments inside rest))

-- A word has no bytes.
abbrev pub is_empty_word : Word → Bool
is_empty_word [] = true
is_empty_word (_ ∷ _) = false

-- The longest runs of bytes that are no gaps.
abbrev pub words : List ℕ → List Word
words text = filter (λ w. not (is_empty_word w)) (slice_split is_gap text)

-- The words of an LP text.
abbrev pub lp_words : List ℕ → List Word
lp_words text = words (without_comments false text)
