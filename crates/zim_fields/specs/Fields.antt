-- The lines of a text and the fields of a line.
use Rattle.std.specs.Prelude.{◌≡◌, ℕ, Bool, true, false, not, ◌||◌, ◌==◌, if◌then◌else◌, List, [], ◌∷◌, filter}
use Rattle.std.specs.List.{slice_split, AllByRecursion}

-- A field: a list of bytes.
abbrev pub Field : Type 0
Field = List ℕ

-- A space or a tab.
abbrev pub is_space_or_tab : ℕ → Bool
is_space_or_tab b = b == 32 || b == 9

-- There is no byte.
abbrev pub is_empty : List ℕ → Bool
is_empty [] = true
is_empty (_ ∷ _) = false

-- Parts without the last one, where that is empty.
abbrev pub without_empty_end : List (List ℕ) → List (List ℕ)
without_empty_end [] = []
without_empty_end (part ∷ []) = if is_empty part then [] else part ∷ []
without_empty_end (part ∷ next ∷ parts) = part ∷ without_empty_end (next ∷ parts)

-- The lines of a text: the parts between line ends. A line end at the end of the text begins no further line.
abbrev pub lines : List ℕ → List (List ℕ)
lines text = without_empty_end (slice_split (λ b. b == 10) text)

-- The fields of a line: the longest runs of bytes that are no blanks.
abbrev pub fields : List ℕ → List Field
fields line = filter (λ f. not (is_empty f)) (slice_split is_space_or_tab line)

-- A byte that is neither a blank nor a line end.
pub record IsPlainByte (b : ℕ) : Type 0 where
  pub blank : is_space_or_tab b ≡ false
  pub line_end : (b == 10) ≡ false

-- One such byte or more.
pub record IsField (f : Field) : Type 0 where
  pub some : is_empty f ≡ false
  pub plain : AllByRecursion IsPlainByte f
