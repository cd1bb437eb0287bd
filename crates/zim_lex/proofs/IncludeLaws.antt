-- A line includes a file exactly where it is spelled as an include line.
use Rattle.std.proofs.Common.{◌≡◌, ℕ, suc, ◌+◌, Bool, true, false, ◌&&◌, List, [], ◌∷◌, ◌++◌, length, take, drop, Option, Some, None, nat_eq, refl, ap, sym, ◌∙◌, subst, arith}
use Rattle.std.specs.Prelude.{if◌then◌else◌, ◌==◌, not, option_map}
use Rattle.std.specs.List.{list_all, prefix_len, starts_with}
use Rattle.std.specs.Cmp.Lexicographic.{bytes_decides}
use Rattle.std.proofs.lemmas.Bool.{eqb-true}
use Rattle.std.proofs.lemmas.List.{take-append-drop}
use Rattle.zim_fault.specs.declared.words.Word.TheVariants.{WInclude}
use Rattle.zim_fault.specs.Words.{spelling_of_word}
use Rattle.zim_lex.specs.Classes.{is_blank, first_is}
use Rattle.zim_lex.specs.Includes.{after_blanks, at_quote, ends_line, alone, quoted_name, included, no_quote_in, IsInclude}
use Rattle.zim_lex.proofs.LongestLemmas.{list_all_front}

-- the blanks at the front and the rest
abbrev blanks_of : List ℕ → List ℕ
blanks_of bytes = take (prefix_len is_blank bytes) bytes

unblanked : (bytes : List ℕ) → blanks_of bytes ++ after_blanks bytes ≡ bytes
unblanked bytes = take-append-drop (prefix_len is_blank bytes) bytes

blank_first : (b : ℕ) (bytes : List ℕ) → is_blank b ≡ true → after_blanks (b ∷ bytes) ≡ after_blanks bytes
blank_first b bytes h = let one : 1 + prefix_len is_blank bytes ≡ suc (prefix_len is_blank bytes) = omega arith in rw (h, one) refl

and_first : (x y : Bool) → (x && y) ≡ true → x ≡ true
and_first true y h = refl
and_first false y h = cc

and_second : (x y : Bool) → (x && y) ≡ true → y ≡ true
and_second true y h = h
and_second false y h = cc

-- what follows blanks, where it begins with none
past_blanks : (blanks bytes : List ℕ) → list_all is_blank blanks ≡ true → first_is is_blank bytes ≡ false → after_blanks (blanks ++ bytes) ≡ bytes
past_blanks [] [] all other = refl
past_blanks [] (b ∷ bs) all other = rw other refl
past_blanks (b ∷ blanks) bytes all other =
    blank_first b (blanks ++ bytes) (and_first (is_blank b) (list_all is_blank blanks) all) ∙ past_blanks blanks bytes (and_second (is_blank b) (list_all is_blank blanks) all) other

-- a text at the front
front_is : (bytes text : List ℕ) → starts_with nat_eq bytes text ≡ true → text ++ drop (length text) bytes ≡ bytes
front_is bytes text h = ap (λ (front : List ℕ). front ++ drop (length text) bytes) ((bytes_decides text (take (length text) bytes)).0 h) ∙ take-append-drop (length text) bytes

-- the bytes on both sides of the first double quote
record IsSplit (bytes : List ℕ) (parts : List ℕ × List ℕ) : Type 0 where
  whole : parts.0 ++ 34 ∷ parts.1 ≡ bytes
  plain : list_all no_quote_in parts.0 ≡ true

split_at : (bytes : List ℕ) (parts : List ℕ × List ℕ) → at_quote bytes ≡ Some parts → IsSplit bytes parts
split_at [] parts h = cc
split_at (b ∷ bs) parts h = at (split_at bs) (b == 34) refl h where
  next : ((ps : List ℕ × List ℕ) → at_quote bs ≡ Some ps → IsSplit bs ps) → (found : Option (List ℕ × List ℕ)) → at_quote bs ≡ found → (b == 34) ≡ false → option_map (λ ps. (b ∷ ps.0, ps.1)) found ≡ Some parts → IsSplit (b ∷ bs) parts
  next others None e f g = cc
  next others (Some ps) e f g =
      (let rest = others ps e in
      let same : (b ∷ ps.0, ps.1) ≡ parts = cc in
      subst (IsSplit (b ∷ bs)) same (record { whole = ap (λ (after : List ℕ). b ∷ after) rest.whole; plain = rw f rest.plain }))

  at : ((ps : List ℕ × List ℕ) → at_quote bs ≡ Some ps → IsSplit bs ps) → (t : Bool) → (b == 34) ≡ t → (if t then Some ([], bs) else option_map (λ ps. (b ∷ ps.0, ps.1)) (at_quote bs)) ≡ Some parts → IsSplit (b ∷ bs) parts
  at others true e g = (let same : ([], bs) ≡ parts = cc in subst (IsSplit (b ∷ bs)) same (record { whole = ap (λ (n : ℕ). n ∷ bs) (sym (eqb-true b 34 e)); plain = refl }))
  at others false e g = next others (at_quote bs) refl e g

not_not : (x : Bool) → not x ≡ true → x ≡ false
not_not true h = cc
not_not false h = refl

joined_at : (name after : List ℕ) → list_all no_quote_in name ≡ true → at_quote (name ++ 34 ∷ after) ≡ Some (name, after)
joined_at [] after all = refl
joined_at (b ∷ bs) after all =
    let here : (b == 34) ≡ false = not_not (b == 34) (and_first (not (b == 34)) (list_all no_quote_in bs) all) in
    rw (here, joined_at bs after (and_second (not (b == 34)) (list_all no_quote_in bs) all)) refl

-- an include line is spelled as one
pub include_is_spelled : (line name : List ℕ) → included line ≡ Some name → IsInclude line name
unfolding included
include_is_spelled line name h = word (starts_with nat_eq (after_blanks line) (spelling_of_word WInclude)) refl h where
  ended : (rest quoted : List ℕ) (parts : List ℕ × List ℕ) (t : Bool) → spelling_of_word WInclude ++ rest ≡ after_blanks line → 34 ∷ quoted ≡ after_blanks rest → IsSplit quoted parts → ends_line (after_blanks parts.1) ≡ t
      → (if t then Some parts.0 else None) ≡ Some name → IsInclude line name
  ended rest quoted parts false a b split e f = cc
  ended rest quoted parts true a b split e f =
      (let same : parts.0 ≡ name = cc in subst (IsInclude line) same (record {
        before = blanks_of line;
        between = blanks_of rest;
        behind = blanks_of parts.1;
        comment = after_blanks parts.1;
        spelled = ap (λ (after : List ℕ). blanks_of line ++ (spelling_of_word WInclude ++ (blanks_of rest ++ 34 ∷ (parts.0 ++ 34 ∷ after)))) (unblanked parts.1)
            ∙ ap (λ (after : List ℕ). blanks_of line ++ (spelling_of_word WInclude ++ (blanks_of rest ++ 34 ∷ after))) split.whole
            ∙ ap (λ (after : List ℕ). blanks_of line ++ (spelling_of_word WInclude ++ (blanks_of rest ++ after))) b
            ∙ ap (λ (after : List ℕ). blanks_of line ++ (spelling_of_word WInclude ++ after)) (unblanked rest)
            ∙ ap (λ (after : List ℕ). blanks_of line ++ after) a
            ∙ unblanked line;
        before_blank = list_all_front is_blank line;
        between_blank = list_all_front is_blank rest;
        behind_blank = list_all_front is_blank parts.1;
        plain = split.plain;
        ends = e;
      }))

  parted : (rest quoted : List ℕ) (found : Option (List ℕ × List ℕ)) → spelling_of_word WInclude ++ rest ≡ after_blanks line → 34 ∷ quoted ≡ after_blanks rest → at_quote quoted ≡ found → alone found ≡ Some name → IsInclude line name
  parted rest quoted None a b e f = cc
  parted rest quoted (Some parts) a b e f = ended rest quoted parts (ends_line (after_blanks parts.1)) a b (split_at quoted parts e) refl f

  quote : (rest : List ℕ) (t : Bool) → spelling_of_word WInclude ++ rest ≡ after_blanks line → starts_with nat_eq (after_blanks rest) (34 ∷ []) ≡ t → (if t then alone (at_quote (drop 1 (after_blanks rest))) else None) ≡ Some name → IsInclude line name
  quote rest false a e f = cc
  quote rest true a e f = parted rest (drop 1 (after_blanks rest)) (at_quote (drop 1 (after_blanks rest))) a (front_is (after_blanks rest) (34 ∷ []) e) refl f

  word : (t : Bool) → starts_with nat_eq (after_blanks line) (spelling_of_word WInclude) ≡ t → (if t then quoted_name (after_blanks (drop (length (spelling_of_word WInclude)) (after_blanks line))) else None) ≡ Some name → IsInclude line name
  word false e f = cc
  word true e f =
      (let rest = drop (length (spelling_of_word WInclude)) (after_blanks line) in
      quote rest (starts_with nat_eq (after_blanks rest) (34 ∷ [])) (front_is (after_blanks line) (spelling_of_word WInclude) e) refl f)

ends_unblanked : (comment : List ℕ) → ends_line comment ≡ true → first_is is_blank comment ≡ false
ends_unblanked [] h = refl
ends_unblanked (b ∷ bs) h = ap is_blank (eqb-true b 35 h)

-- and what is spelled as one is an include line
pub spelled_is_include : (line name : List ℕ) → IsInclude line name → included line ≡ Some name
unfolding included
spelled_is_include line name is =
    let after : List ℕ = is.behind ++ is.comment in
    let quoted : List ℕ = 34 ∷ (name ++ 34 ∷ after) in
    let first : List ℕ = spelling_of_word WInclude ++ (is.between ++ quoted) in
    let at_first : after_blanks line ≡ first = ap after_blanks (sym is.spelled) ∙ past_blanks is.before first is.before_blank refl in
    let at_quoted : after_blanks (is.between ++ quoted) ≡ quoted = past_blanks is.between quoted is.between_blank refl in
    let ended : ends_line (after_blanks after) ≡ true = ap ends_line (past_blanks is.behind is.comment is.behind_blank (ends_unblanked is.comment is.ends)) ∙ is.ends in
    ap (λ (bytes : List ℕ). if starts_with nat_eq bytes (spelling_of_word WInclude) then quoted_name (after_blanks (drop (length (spelling_of_word WInclude)) bytes)) else None) at_first
    ∙ ap quoted_name at_quoted ∙ ap alone (joined_at name after is.plain) ∙ rw ended refl
