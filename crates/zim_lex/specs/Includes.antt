-- Which lines are include lines, and which file each of them names.
use Rattle.std.specs.Prelude.{◌≡◌, ℕ, nat_eq, List, [], ◌∷◌, ◌++◌, drop, not, length, Bool, true, Option, Some, None, option_map, ◌==◌, if◌then◌else◌}
use Rattle.std.specs.List.{list_all, prefix_len, starts_with}
use Rattle.zim_fault.specs.declared.words.Word.TheVariants.{WInclude}
use Rattle.zim_fault.specs.Words.{spelling_of_word}
use Rattle.zim_lex.specs.Classes.{is_blank, begins_comment}

-- what follows the blanks at the front
abbrev pub after_blanks : List ℕ → List ℕ
after_blanks bytes = drop (prefix_len is_blank bytes) bytes

-- the bytes before the first double quote and those after it, where there is one
abbrev pub at_quote : List ℕ → Option (List ℕ × List ℕ)
at_quote [] = None
at_quote (b ∷ bs) = if b == 34 then Some ([], bs) else option_map (λ parts. (b ∷ parts.0, parts.1)) (at_quote bs)

-- nothing, or a comment
abbrev pub ends_line : List ℕ → Bool
ends_line [] = true
ends_line (b ∷ bs) = begins_comment b

-- the bytes before the quote, where nothing but blanks and a comment stands after it
abbrev pub alone : Option (List ℕ × List ℕ) → Option (List ℕ)
alone None = None
alone (Some parts) = if ends_line (after_blanks parts.1) then Some parts.0 else None

-- the name between double quotes, where it is all that stands there
abbrev pub quoted_name : List ℕ → Option (List ℕ)
quoted_name bytes = if starts_with nat_eq bytes (34 ∷ []) then alone (at_quote (drop 1 bytes)) else None

-- the file that an include line names: blanks aside, the line is `include`, a name in double quotes and maybe a comment; any other line is none
unfoldable pub included : List ℕ → Option (List ℕ)
included line =
    if starts_with nat_eq (after_blanks line) (spelling_of_word WInclude)
    then quoted_name (after_blanks (drop (length (spelling_of_word WInclude)) (after_blanks line)))
    else None

-- a byte other than the double quote
abbrev pub no_quote_in : ℕ → Bool
no_quote_in b = not (b == 34)

-- the line is blanks, `include`, blanks, the name in double quotes, blanks and maybe a comment
pub record IsInclude (line name : List ℕ) : Type 0 where
  pub before : List ℕ
  pub between : List ℕ
  pub behind : List ℕ
  pub comment : List ℕ
  pub spelled : before ++ (spelling_of_word WInclude ++ (between ++ 34 ∷ (name ++ 34 ∷ (behind ++ comment)))) ≡ line
  pub before_blank : list_all is_blank before ≡ true
  pub between_blank : list_all is_blank between ≡ true
  pub behind_blank : list_all is_blank behind ≡ true
  pub plain : list_all no_quote_in name ≡ true
  pub ends : ends_line comment ≡ true
