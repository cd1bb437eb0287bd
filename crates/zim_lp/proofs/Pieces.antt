-- The texts of the writer's loops, one piece further, and texts that are put in another way than they are defined.
use Rattle.std.proofs.Common.{◌≡◌, ℕ, zero, suc, ◌+◌, ◌-◌, ◌<◌, ◌≤◌, Bool, true, false, cond, ◌||◌, List, [], ◌∷◌, ◌++◌, length, take, drop, get_or, map, refl, sym, ◌∙◌, ap, ap₂, append_assoc, zero-add, add-one, arith}
use Rattle.std.specs.Prelude.{codes, flat_map}
use Rattle.std.specs.Fmt.{digits}
use Rattle.std.specs.List.{enumerate_from, list_any}
use Rattle.std.proofs.lemmas.List.{append-nil, take_all}
use Rattle.std.proofs.lemmas.List.Elements.{filter-append}
use Rattle.zim_rational.specs.Rational as rational
use Rattle.zim_rational.specs.Rational.{Rational, whole}
use Rattle.zim_decimal.specs.Short.{short_text, decimal_text, point_and, decimals}
use Rattle.zim_linear.specs.Forms.{Term}
use Rattle.zim_rows.specs.declared.rows.Column.{Column}
use Rattle.zim_rows.specs.declared.rows.Row.{Row}
use Rattle.zim_rows.specs.declared.rows.RowKind.TheVariants.{Range}
use Rattle.zim_rows.specs.declared.rows.Sense.TheVariants.{AtLeast, AtMost}
use Rattle.zim_rows.specs.Program.{LinearProgram}
use Rattle.zim_rows.specs.Named.{offset_name, has_offset}
use Rattle.zim_lp.specs.FileText.{WrittenTerm, WrittenColumn, number_text, first_term_text, further_term_text, numbered_text, terms_text, row_text, bound_text, general_text, generals_text, integers, aim_text}
use Rattle.zim_lp.specs.Text.{short_number, first_name, written_term, or_zero, written_terms, written_objective, row_label, high_label, row_compared, rows_of_kind, written_row, lp_column, written_offset, written_columns, lp_text}

-- numbered members of a list

-- the texts of a list's members with their numbers, with one member more
numbered-next : {X : Type 0} (text : ℕ × X → List ℕ) (first : ℕ) (xs : List X) (i : ℕ) (d : X) → i < length xs → flat_map text (enumerate_from first (take (i + 1) xs)) ≡ flat_map text (enumerate_from first (take i xs)) ++ text (i + first, get_or xs i d)
numbered-next text first [] i d h = absurd (omega arith)
numbered-next text first (x ∷ xs) zero d h = append-nil (text (first, x)) ∙ ap (λ n. text (n, x)) (sym (zero-add first))
numbered-next text first (x ∷ xs) (suc i) d h =
    let shifted : i + (first + 1) ≡ suc i + first = omega arith in
    ap (λ n. flat_map text (enumerate_from first (take n (x ∷ xs)))) (add-one (suc i))
    ∙ ap (λ rest. text (first, x) ++ rest)
    (ap (λ n. flat_map text (enumerate_from (first + 1) (take n xs))) (sym (add-one i))
    ∙ numbered-next text (first + 1) xs i d (omega arith)
    ∙ ap (λ n. flat_map text (enumerate_from (first + 1) (take i xs)) ++ text (n, get_or xs i d)) shifted)
    ∙ sym (append_assoc (text (first, x)) (flat_map text (enumerate_from (first + 1) (take i xs))) (text (suc i + first, get_or xs i d)))

-- a member that the loop reads is put behind those before it
pub numbered_step : {X : Type 0} (text : ℕ × X → List ℕ) (first : ℕ) (xs : List X) (i : ℕ) (x : X) → i < length xs → x ≡ get_or xs i x → flat_map text (enumerate_from first (take i xs)) ++ text (i + first, x) ≡ flat_map text (enumerate_from first (take (i + 1) xs))
numbered_step text first xs i x h is =
    ap (λ y. flat_map text (enumerate_from first (take i xs)) ++ text (i + first, y)) is ∙ sym (numbered-next text first xs i x h)

flat_map_mapped : {X Y : Type 0} (f : Y → List ℕ) (g : X → Y) (xs : List X) → flat_map (λ x. f (g x)) xs ≡ flat_map f (map g xs)
flat_map_mapped f g [] = refl
flat_map_mapped f g (x ∷ xs) = ap (λ rest. f (g x) ++ rest) (flat_map_mapped f g xs)

flat_map_append : {X : Type 0} (f : X → List ℕ) (xs ys : List X) → flat_map f (xs ++ ys) ≡ flat_map f xs ++ flat_map f ys
flat_map_append f [] ys = refl
flat_map_append f (x ∷ xs) ys =
    ap (λ rest. f x ++ rest) (flat_map_append f xs ys) ∙ sym (append_assoc (f x) (flat_map f xs) (flat_map f ys))

flat_map_nested : {X Y : Type 0} (f : Y → List ℕ) (g : X → List Y) (xs : List X) → flat_map (λ x. flat_map f (g x)) xs ≡ flat_map f (flat_map g xs)
flat_map_nested f g [] = refl
flat_map_nested f g (x ∷ xs) =
    ap (λ rest. flat_map f (g x) ++ rest) (flat_map_nested f g xs) ∙ sym (flat_map_append f (g x) (flat_map g xs))

-- terms

-- a further term with the number of those before it
abbrev pub numbered_term : ℕ × Term → List ℕ
numbered_term p = further_term_text p.0 (written_term p.1)

further_numbered : (first : ℕ) (ts : List Term) → flat_map numbered_term (enumerate_from first ts) ≡ numbered_text further_term_text first (map written_term ts)
further_numbered first [] = refl
further_numbered first (t ∷ ts) = ap (λ rest. further_term_text first (written_term t) ++ rest) (further_numbered (first + 1) ts)

further_append : (first : ℕ) (ts : List Term) (last : WrittenTerm) → numbered_text further_term_text first (map written_term ts) ++ further_term_text (length ts + first) last ≡ numbered_text further_term_text first (map written_term ts ++ last ∷ [])
further_append first [] last = ap (λ n. further_term_text n last) (zero-add first) ∙ sym (append-nil (further_term_text first last))
further_append first (t ∷ ts) last =
    let shifted : suc (length ts) + first ≡ length ts + (first + 1) = omega arith in
    append_assoc (further_term_text first (written_term t)) (numbered_text further_term_text (first + 1) (map written_term ts)) (further_term_text (suc (length ts) + first) last)
    ∙ ap
    (λ rest. further_term_text first (written_term t) ++ rest)
    (ap (λ n. numbered_text further_term_text (first + 1) (map written_term ts) ++ further_term_text n last) shifted ∙ further_append (first + 1) ts last)

-- the terms of a list as its first term and the further ones
pub terms_in_two : (columns : ℕ) (ts : List Term) (first : Term) → 1 ≤ length ts → first ≡ get_or ts 0 first → first_term_text (written_term first) ++ flat_map numbered_term (enumerate_from 1 (take (length ts - 1) (drop 1 ts))) ≡ terms_text (written_terms columns ts)
terms_in_two columns [] first h is = absurd (omega arith)
terms_in_two columns (t ∷ ts) first h is =
    let all : take (length (t ∷ ts) - 1) ts ≡ ts = take_all (length (t ∷ ts) - 1) ts (omega arith) in
    ap₂
    (λ (u : Term) (rest : List ℕ). first_term_text (written_term u) ++ rest)
    is
    (ap (λ us. flat_map numbered_term (enumerate_from 1 us)) all ∙ further_numbered 1 ts)

-- the same with a last term behind them
pub terms_in_three : (ts : List Term) (first : Term) (last : WrittenTerm) → 1 ≤ length ts → first ≡ get_or ts 0 first → first_term_text (written_term first) ++ (flat_map numbered_term (enumerate_from 1 (take (length ts - 1) (drop 1 ts))) ++ further_term_text (length ts) last) ≡ terms_text (map written_term ts ++ last ∷ [])
terms_in_three [] first last h is = absurd (omega arith)
terms_in_three (t ∷ ts) first last h is =
    let all : take (length (t ∷ ts) - 1) ts ≡ ts = take_all (length (t ∷ ts) - 1) ts (omega arith) in
    ap₂
    (λ (u : Term) (rest : List ℕ). first_term_text (written_term u) ++ rest)
    is
    (ap (λ us. flat_map numbered_term (enumerate_from 1 us) ++ further_term_text (suc (length ts)) last) all
    ∙ ap₂ (λ (xs : List ℕ) (n : ℕ). xs ++ further_term_text n last) (further_numbered 1 ts) (sym (add-one (length ts)))
    ∙ further_append 1 ts last)

-- the texts of 0 and 1

zero_digits : number_text (short_number rational.zero) ≡ codes "0"
unfolding short_text decimal_text point_and decimals digits rational.zero whole
zero_digits = refl

one_digits : number_text (short_number rational.one) ≡ codes "1"
unfolding short_text decimal_text point_and decimals digits rational.one whole
one_digits = refl

-- 0 times a column, as the terms of a list
pub zero_text : (columns : ℕ) → codes "0 " ++ first_name columns ≡ terms_text (or_zero columns [])
zero_text columns =
    sym (append-nil (codes "0 " ++ first_name columns)) ∙ ap (λ ds. (ds ++ (codes " " ++ first_name columns)) ++ []) (sym zero_digits)

pub one_bound_text : codes " 1 <= one <= 1\n" ≡ flat_map bound_text (written_offset ∷ [])
one_bound_text =
    ap (λ ds. codes " " ++ (ds ++ (codes " <= " ++ (offset_name ++ (codes " <= " ++ (ds ++ codes "\n")))))) (sym one_digits)
    ∙ sym (append-nil (bound_text written_offset))

-- a number as its sign and its magnitude
pub signed_text : (b : Bool) (digits : List ℕ) → cond b (codes "-") [] ++ digits ≡ number_text (record { negative = b; absolute = digits })
signed_text true digits = refl
signed_text false digits = refl

-- integer columns

-- the line of a column, if it is integer
abbrev pub integer_text : ℕ × Column → List ℕ
integer_text p = cond p.1.integer (general_text (lp_column p)) []

integer_texts : (first : ℕ) (columns : List Column) → flat_map integer_text (enumerate_from first columns) ≡ flat_map general_text (integers (map lp_column (enumerate_from first columns)))
integer_texts first [] = refl
integer_texts first (c ∷ cs) = by_mark c.integer (integer_texts (first + 1) cs)
  where
    by_mark : (b : Bool) → flat_map integer_text (enumerate_from (first + 1) cs) ≡ flat_map general_text (integers (map lp_column (enumerate_from (first + 1) cs))) → cond b (general_text (lp_column (first, c))) [] ++ flat_map integer_text (enumerate_from (first + 1) cs) ≡ flat_map general_text (cond b (lp_column (first, c) ∷ integers (map lp_column (enumerate_from (first + 1) cs))) (integers (map lp_column (enumerate_from (first + 1) cs))))
    by_mark true later = ap (λ rest. general_text (lp_column (first, c)) ++ rest) later
    by_mark false later = later

-- without an integer column there is no heading
pub no_integers : (first : ℕ) (columns : List Column) → list_any (λ (c : Column). c.integer) columns ≡ false → integers (map lp_column (enumerate_from first columns)) ≡ []
no_integers first [] none = refl
no_integers first (c ∷ cs) none = by_mark c.integer none (no_integers (first + 1) cs)
  where
    by_mark : (b : Bool) → (b || list_any (λ (d : Column). d.integer) cs) ≡ false → (list_any (λ (d : Column). d.integer) cs ≡ false → integers (map lp_column (enumerate_from (first + 1) cs)) ≡ []) → cond b (lp_column (first, c) ∷ integers (map lp_column (enumerate_from (first + 1) cs))) (integers (map lp_column (enumerate_from (first + 1) cs))) ≡ []
    by_mark true none later = cc
    by_mark false none later = later none

headed : (cs : List WrittenColumn) → (cs ≡ [] → ⊥) → codes "Generals\n" ++ flat_map general_text cs ≡ generals_text cs
headed [] some = absurd (some refl)
headed (c ∷ cs) some = refl

some_integers : (first : ℕ) (columns : List Column) → list_any (λ (c : Column). c.integer) columns ≡ true → integers (map lp_column (enumerate_from first columns)) ≡ [] → ⊥
some_integers first [] some none = cc
some_integers first (c ∷ cs) some none = by_mark c.integer some none (some_integers (first + 1) cs)
  where
    by_mark : (b : Bool) → (b || list_any (λ (d : Column). d.integer) cs) ≡ true → cond b (lp_column (first, c) ∷ integers (map lp_column (enumerate_from (first + 1) cs))) (integers (map lp_column (enumerate_from (first + 1) cs))) ≡ [] → (list_any (λ (d : Column). d.integer) cs ≡ true → integers (map lp_column (enumerate_from (first + 1) cs)) ≡ [] → ⊥) → ⊥
    by_mark true some none later = cc
    by_mark false some none later = later some none

-- the heading and the lines of the integer columns
pub generals_in_two : (columns : List Column) → list_any (λ (c : Column). c.integer) columns ≡ true → codes "Generals\n" ++ flat_map integer_text (enumerate_from 1 columns) ≡ generals_text (integers (map lp_column (enumerate_from 1 columns)))
generals_in_two columns some =
    ap (λ rest. codes "Generals\n" ++ rest) (integer_texts 1 columns)
    ∙ headed (integers (map lp_column (enumerate_from 1 columns))) (some_integers 1 columns some)

pub no_generals : (columns : List Column) → list_any (λ (c : Column). c.integer) columns ≡ false → [] ≡ generals_text (integers (map lp_column (enumerate_from 1 columns)))
no_generals columns none = ap generals_text (sym (no_integers 1 columns none))

-- the file

-- the lines of a row
abbrev pub row_lines : ℕ → ℕ × Row → List ℕ
row_lines columns p = flat_map row_text (written_row columns p)

-- the two lines of a range
pub range_lines : (columns number : ℕ) (row : Row) (low high : Rational) → row.kind ≡ Range low high → row_text (row_compared (row_label number) (written_terms columns row.terms) AtLeast low) ++ row_text (row_compared (high_label number) (written_terms columns row.terms) AtMost high) ≡ row_lines columns (number, row)
range_lines columns number row low high is =
    ap
    (λ rest. row_text (row_compared (row_label number) (written_terms columns row.terms) AtLeast low) ++ rest)
    (sym (append-nil (row_text (row_compared (high_label number) (written_terms columns row.terms) AtMost high))))
    ∙ ap (λ kind. flat_map row_text (rows_of_kind number (written_terms columns row.terms) kind)) (sym is)

-- the bound of a numbered column
abbrev pub numbered_bound : ℕ × Column → List ℕ
numbered_bound p = bound_text (lp_column p)

offset_is_real : (b : Bool) → integers (cond b (written_offset ∷ []) []) ≡ []
offset_is_real true = refl
offset_is_real false = refl

-- the column `one` isn't integer
integers_but_offset : (p : LinearProgram) → integers (map lp_column (enumerate_from 1 p.columns)) ≡ integers (written_columns p)
integers_but_offset p =
    sym
    (filter-append (λ (c : WrittenColumn). c.integer) (map lp_column (enumerate_from 1 p.columns)) (cond (has_offset p) (written_offset ∷ []) [])
    ∙ ap (λ cs. integers (map lp_column (enumerate_from 1 p.columns)) ++ cs) (offset_is_real (has_offset p))
    ∙ append-nil (integers (map lp_column (enumerate_from 1 p.columns))))

bounds_in_two : (p : LinearProgram) (rest : List ℕ) → flat_map numbered_bound (enumerate_from 1 p.columns) ++ (flat_map bound_text (cond (has_offset p) (written_offset ∷ []) []) ++ rest) ≡ flat_map bound_text (written_columns p) ++ rest
bounds_in_two p rest =
    sym (append_assoc (flat_map numbered_bound (enumerate_from 1 p.columns)) (flat_map bound_text (cond (has_offset p) (written_offset ∷ []) [])) rest)
    ∙ ap
    (λ bounds. bounds ++ rest)
    (ap (λ first. first ++ flat_map bound_text (cond (has_offset p) (written_offset ∷ []) [])) (flat_map_mapped bound_text lp_column (enumerate_from 1 p.columns))
    ∙ sym (flat_map_append bound_text (map lp_column (enumerate_from 1 p.columns)) (cond (has_offset p) (written_offset ∷ []) [])))

-- the text of a program as it is put
pub text_in_pieces : (p : LinearProgram) → codes "\\ zimplc\n" ++ (aim_text p.target.maximize ++ (codes " obj: " ++ (terms_text (written_objective (length p.columns) p.target.terms p.target.constant) ++ (codes "\nSubject To\n" ++ (flat_map (row_lines (length p.columns)) (enumerate_from 1 p.rows) ++ (codes "Bounds\n" ++ (flat_map numbered_bound (enumerate_from 1 p.columns) ++ (flat_map bound_text (cond (has_offset p) (written_offset ∷ []) []) ++ (generals_text (integers (map lp_column (enumerate_from 1 p.columns))) ++ codes "End\n"))))))))) ≡ lp_text p
text_in_pieces p =
    let end : List ℕ = generals_text (integers (map lp_column (enumerate_from 1 p.columns))) ++ codes "End\n" in
    ap
    (λ rest. codes "\\ zimplc\n" ++ (aim_text p.target.maximize ++ (codes " obj: " ++ (terms_text (written_objective (length p.columns) p.target.terms p.target.constant) ++ (codes "\nSubject To\n" ++ rest)))))
    (ap₂
    (λ (rows bounds : List ℕ). rows ++ (codes "Bounds\n" ++ bounds))
    (flat_map_nested row_text (written_row (length p.columns)) (enumerate_from 1 p.rows))
    (bounds_in_two p end
    ∙ ap (λ cs. flat_map bound_text (written_columns p) ++ (generals_text cs ++ codes "End\n")) (integers_but_offset p)))
