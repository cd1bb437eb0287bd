-- The bytes of a line, one after another: where a comment begins, whether a quotation is left open, and the fields.
use Rattle.std.proofs.Common.{◌≡◌, ℕ, ◌+◌, ◌-◌, ◌≤◌, ◌<◌, Bool, true, false, List, [], ◌∷◌, ◌++◌, length, take, drop, get_or, Option, Some, None, refl, ap, sym, ◌∙◌, arith, append_assoc, length-drop}
use Rattle.std.specs.Prelude.{◌==◌, ◌&&◌, not, filter, if◌then◌else◌, slice_range}
use Rattle.std.specs.List.{list_any, onto_first}
use Rattle.std.proofs.lemmas.List.{drop_more, take_more, append-nil, drop_all, take_all, get_or-drop}
use Rattle.std.proofs.lemmas.List.Elements.{filter-append}
use Rattle.memchr.specs.Find.{IsFirstByte, is_byte}
use Rattle.zim_read.specs.Lines.{is_open_behind, before_comment, is_left_open, is_separator, separated, has_bytes, line_fields, unquoted}
use Rattle.zim_read.proofs.SearchLemmas.{others_found, others_unfound}

-- ---- where a comment begins

cut_here : (comment bs : List ℕ) (inside : Bool) (b : ℕ) → (not inside && list_any (λ c. c == b) comment) ≡ true → before_comment comment inside (b ∷ bs) ≡ []
unfolding before_comment
cut_here comment bs inside b holds = ap (λ (t : Bool). if t then [] else b ∷ before_comment comment (is_open_behind inside b) bs) holds

goes_on : (comment bs : List ℕ) (inside : Bool) (b : ℕ) → (not inside && list_any (λ c. c == b) comment) ≡ false → before_comment comment inside (b ∷ bs) ≡ b ∷ before_comment comment (is_open_behind inside b) bs
unfolding before_comment
goes_on comment bs inside b fails = ap (λ (t : Bool). if t then [] else b ∷ before_comment comment (is_open_behind inside b) bs) fails

at_end : (comment : List ℕ) (inside : Bool) → before_comment comment inside [] ≡ []
unfolding before_comment
at_end comment inside = refl

-- a comment begins at the next byte
pub comment_cuts : (comment line whole : List ℕ) (inside t : Bool) (at : ℕ) → at < length line → t ≡ (not inside && list_any (λ c. c == get_or line at 0) comment) → t ≡ true → whole ≡ take at line ++ before_comment comment inside (drop at line) → take at line ≡ whole
comment_cuts comment line whole inside t at low is holds so_far =
    let none : before_comment comment inside (drop at line) ≡ [] =
    ap (before_comment comment inside) (drop_more line at 0 low) ∙ cut_here comment (drop (at + 1) line) inside (get_or line at 0) (sym is ∙ holds) in
    sym (so_far ∙ ap (λ (rest : List ℕ). take at line ++ rest) none ∙ append-nil (take at line))

-- the next byte begins no comment
pub comment_later : (comment line whole : List ℕ) (inside t next : Bool) (at : ℕ) → at < length line → t ≡ (not inside && list_any (λ c. c == get_or line at 0) comment) → t ≡ false → next ≡ is_open_behind inside (get_or line at 0) → whole ≡ take at line ++ before_comment comment inside (drop at line)
    → whole ≡ take (at + 1) line ++ before_comment comment next (drop (at + 1) line)
comment_later comment line whole inside t next at low is fails opens so_far =
    let rest : List ℕ = before_comment comment (is_open_behind inside (get_or line at 0)) (drop (at + 1) line) in
    let on : before_comment comment inside (drop at line) ≡ get_or line at 0 ∷ rest =
    ap (before_comment comment inside) (drop_more line at 0 low) ∙ goes_on comment (drop (at + 1) line) inside (get_or line at 0) (sym is ∙ fails) in
    so_far ∙ ap (λ (r : List ℕ). take at line ++ r) on ∙ sym (append_assoc (take at line) (get_or line at 0 ∷ []) rest)
    ∙ ap (λ (front : List ℕ). front ++ rest) (sym (take_more line at 0 low))
    ∙ ap (λ (t : Bool). take (at + 1) line ++ before_comment comment t (drop (at + 1) line)) (sym opens)

-- no byte begins one
pub comment_nowhere : (comment line whole : List ℕ) (inside : Bool) (at : ℕ) → length line ≤ at → whole ≡ take at line ++ before_comment comment inside (drop at line) → line ≡ whole
comment_nowhere comment line whole inside at over so_far =
    let none : before_comment comment inside (drop at line) ≡ [] = ap (before_comment comment inside) (drop_all at line over) ∙ at_end comment inside in
    sym (so_far ∙ ap (λ (rest : List ℕ). take at line ++ rest) none ∙ append-nil (take at line) ∙ take_all at line over)

-- ---- whether a quotation is left open

opens_on : (inside : Bool) (b : ℕ) (bs : List ℕ) → is_left_open inside (b ∷ bs) ≡ is_left_open (is_open_behind inside b) bs
unfolding is_left_open
opens_on inside b bs = refl

opens_end : (inside : Bool) → is_left_open inside [] ≡ inside
unfolding is_left_open
opens_end inside = refl

pub open_next : (line : List ℕ) (inside next whole : Bool) (at : ℕ) → at < length line → next ≡ is_open_behind inside (get_or line at 0) → is_left_open inside (drop at line) ≡ whole → is_left_open next (drop (at + 1) line) ≡ whole
open_next line inside next whole at low opens so_far =
    ap (λ (t : Bool). is_left_open t (drop (at + 1) line)) opens ∙ sym (opens_on inside (get_or line at 0) (drop (at + 1) line))
    ∙ sym (ap (is_left_open inside) (drop_more line at 0 low)) ∙ so_far

pub open_done : (line : List ℕ) (inside whole : Bool) (at : ℕ) → length line ≤ at → is_left_open inside (drop at line) ≡ whole → inside ≡ whole
open_done line inside whole at over so_far = sym (opens_end inside) ∙ sym (ap (is_left_open inside) (drop_all at line over)) ∙ so_far

-- ---- the fields

-- the parts with bytes before the first one
abbrev onto : List ℕ → List (List ℕ) → List (List ℕ)
onto front [] = front ∷ []
onto front (part ∷ parts) = (front ++ part) ∷ parts

-- the fields of what is left of a line, where these bytes of a field are before it
unfoldable pub fields_behind : List ℕ → Bool → List ℕ → List (List ℕ)
fields_behind front inside rest = filter has_bytes (onto front (separated inside rest))

onto_nothing : (b : ℕ) (parts : List (List ℕ)) → onto [] (onto_first b parts) ≡ onto_first b parts
onto_nothing b [] = refl
onto_nothing b (part ∷ parts) = refl

either_nothing : (t : Bool) (b : ℕ) (parts others : List (List ℕ)) → onto [] (if t then [] ∷ parts else onto_first b others) ≡ (if t then [] ∷ parts else onto_first b others)
either_nothing true b parts others = refl
either_nothing false b parts others = onto_nothing b others

nothing_before : (inside : Bool) (bs : List ℕ) → onto [] (separated inside bs) ≡ separated inside bs
unfolding separated
nothing_before inside [] = refl
nothing_before inside (b ∷ bs) = either_nothing (not inside && is_separator b) b (separated inside bs) (separated (is_open_behind inside b) bs)

onto_more : (front : List ℕ) (b : ℕ) (parts : List (List ℕ)) → onto front (onto_first b parts) ≡ onto (front ++ b ∷ []) parts
onto_more front b [] = refl
onto_more front b (part ∷ parts) = ap (λ (first : List ℕ). first ∷ parts) (sym (append_assoc front (b ∷ []) part))

parted : (inside : Bool) (b : ℕ) (bs : List ℕ) → (not inside && is_separator b) ≡ true → separated inside (b ∷ bs) ≡ [] ∷ separated inside bs
unfolding separated
parted inside b bs holds = ap (λ (t : Bool). if t then [] ∷ separated inside bs else onto_first b (separated (is_open_behind inside b) bs)) holds

unparted : (inside : Bool) (b : ℕ) (bs : List ℕ) → (not inside && is_separator b) ≡ false → separated inside (b ∷ bs) ≡ onto_first b (separated (is_open_behind inside b) bs)
unfolding separated
unparted inside b bs fails = ap (λ (t : Bool). if t then [] ∷ separated inside bs else onto_first b (separated (is_open_behind inside b) bs)) fails

field_ends : (front : List ℕ) (inside : Bool) (b : ℕ) (bs : List ℕ) → (not inside && is_separator b) ≡ true → fields_behind front inside (b ∷ bs) ≡ filter has_bytes (front ∷ []) ++ fields_behind [] inside bs
unfolding fields_behind
field_ends front inside b bs holds =
    ap (λ (parts : List (List ℕ)). filter has_bytes (onto front parts)) (parted inside b bs holds)
    ∙ ap (λ (first : List ℕ). filter has_bytes (first ∷ separated inside bs)) (append-nil front)
    ∙ filter-append has_bytes (front ∷ []) (separated inside bs)
    ∙ ap (λ (parts : List (List ℕ)). filter has_bytes (front ∷ []) ++ filter has_bytes parts) (sym (nothing_before inside bs))

field_goes_on : (front : List ℕ) (inside : Bool) (b : ℕ) (bs : List ℕ) → (not inside && is_separator b) ≡ false → fields_behind front inside (b ∷ bs) ≡ fields_behind (front ++ b ∷ []) (is_open_behind inside b) bs
unfolding fields_behind
field_goes_on front inside b bs fails =
    ap (λ (parts : List (List ℕ)). filter has_bytes (onto front parts)) (unparted inside b bs fails)
    ∙ ap (filter has_bytes) (onto_more front b (separated (is_open_behind inside b) bs))

last_field : (front : List ℕ) (inside : Bool) → fields_behind front inside [] ≡ filter has_bytes (front ∷ [])
unfolding fields_behind separated
last_field front inside = ap (λ (first : List ℕ). filter has_bytes (first ∷ [])) (append-nil front)

-- no byte is taken yet
pub fields_begin : (line : List ℕ) → line_fields line ≡ [] ++ fields_behind (slice_range line 0 0) false (drop 0 line)
unfolding line_fields fields_behind
fields_begin line = ap (filter has_bytes) (sym (nothing_before false line))

slice_more : (line : List ℕ) (from at : ℕ) → from ≤ at → at < length line → slice_range line from (at + 1) ≡ slice_range line from at ++ get_or line at 0 ∷ []
slice_more line from at le low =
    let count : at + 1 - from ≡ at - from + 1 = omega arith in
    let whole : from + (at - from) ≡ at = omega arith in
    ap (λ (n : ℕ). take n (drop from line)) count
    ∙ take_more (drop from line) (at - from) 0 (rw length-drop (omega arith))
    ∙ ap (λ (b : ℕ). slice_range line from at ++ b ∷ []) (get_or-drop from line (at - from) 0 ∙ ap (λ (k : ℕ). get_or line k 0) whole)

-- the next byte ends a field
pub fields_part : (line : List ℕ) (taken more whole : List (List ℕ)) (inside t : Bool) (from at : ℕ) → at < length line → t ≡ (not inside && is_separator (get_or line at 0)) → t ≡ true → more ≡ taken ++ filter has_bytes (slice_range line from at ∷ []) → whole ≡ taken ++ fields_behind (slice_range line from at) inside (drop at line)
    → whole ≡ more ++ fields_behind (slice_range line (at + 1) (at + 1)) inside (drop (at + 1) line)
fields_part line taken more whole inside t from at low is holds adds so_far =
    let none : slice_range line (at + 1) (at + 1) ≡ [] = (let zero_long : at + 1 - (at + 1) ≡ 0 = omega arith in ap (λ (n : ℕ). take n (drop (at + 1) line)) zero_long) in
    so_far ∙ ap (λ (rest : List ℕ). taken ++ fields_behind (slice_range line from at) inside rest) (drop_more line at 0 low)
    ∙ ap (λ (fields : List (List ℕ)). taken ++ fields) (field_ends (slice_range line from at) inside (get_or line at 0) (drop (at + 1) line) (sym is ∙ holds))
    ∙ sym (append_assoc taken (filter has_bytes (slice_range line from at ∷ [])) (fields_behind [] inside (drop (at + 1) line)))
    ∙ ap (λ (fields : List (List ℕ)). fields ++ fields_behind [] inside (drop (at + 1) line)) (sym adds)
    ∙ ap (λ (front : List ℕ). more ++ fields_behind front inside (drop (at + 1) line)) (sym none)

-- the next byte belongs to a field
pub fields_go_on : (line : List ℕ) (taken whole : List (List ℕ)) (inside t next : Bool) (from at : ℕ) → from ≤ at → at < length line → t ≡ (not inside && is_separator (get_or line at 0)) → t ≡ false → next ≡ is_open_behind inside (get_or line at 0) → whole ≡ taken ++ fields_behind (slice_range line from at) inside (drop at line)
    → whole ≡ taken ++ fields_behind (slice_range line from (at + 1)) next (drop (at + 1) line)
fields_go_on line taken whole inside t next from at le low is fails opens so_far =
    so_far ∙ ap (λ (rest : List ℕ). taken ++ fields_behind (slice_range line from at) inside rest) (drop_more line at 0 low)
    ∙ ap (λ (fields : List (List ℕ)). taken ++ fields) (field_goes_on (slice_range line from at) inside (get_or line at 0) (drop (at + 1) line) (sym is ∙ fails))
    ∙ ap (λ (front : List ℕ). taken ++ fields_behind front (is_open_behind inside (get_or line at 0)) (drop (at + 1) line)) (sym (slice_more line from at le low))
    ∙ ap (λ (t : Bool). taken ++ fields_behind (slice_range line from (at + 1)) t (drop (at + 1) line)) (sym opens)

-- the line is at its end
pub fields_end : (line : List ℕ) (taken more whole : List (List ℕ)) (inside : Bool) (from at : ℕ) → from ≤ at → length line ≡ at → more ≡ taken ++ filter has_bytes (take (length line - from) (drop from line) ∷ []) → whole ≡ taken ++ fields_behind (slice_range line from at) inside (drop at line) → more ≡ whole
fields_end line taken more whole inside from at le over adds so_far =
    let count : at - from ≡ length line - from = omega arith in
    let front : slice_range line from at ≡ take (length line - from) (drop from line) = ap (λ (n : ℕ). take n (drop from line)) count in
    adds ∙ ap (λ (field : List ℕ). taken ++ filter has_bytes (field ∷ [])) (sym front)
    ∙ sym (so_far ∙ ap (λ (rest : List ℕ). taken ++ fields_behind (slice_range line from at) inside rest) (drop_all at line (omega arith))
    ∙ ap (λ (fields : List (List ℕ)). taken ++ fields) (last_field (slice_range line from at) inside))

-- ---- a field without its quotes

pub unquoted_more : (field text more rest next : List ℕ) (found : Option ℕ) (k : ℕ) → IsFirstByte (is_byte 34) rest found → found ≡ Some k → more ≡ text ++ take k rest → text ++ unquoted rest ≡ unquoted field → next ≡ drop (k + 1) rest → more ++ unquoted next ≡ unquoted field
unfolding unquoted
unquoted_more field text more rest next found k first is adds so_far cut =
    ap (λ (t : List ℕ). more ++ unquoted t) cut
    ∙ ap (λ (t : List ℕ). t ++ unquoted (drop (k + 1) rest)) adds ∙ append_assoc text (take k rest) (unquoted (drop (k + 1) rest))
    ∙ ap (λ (t : List ℕ). text ++ t) (sym (others_found 34 rest found k first is)) ∙ so_far

pub unquoted_end : (field text more rest : List ℕ) (found : Option ℕ) → IsFirstByte (is_byte 34) rest found → found ≡ None → more ≡ text ++ rest → text ++ unquoted rest ≡ unquoted field → more ≡ unquoted field
unfolding unquoted
unquoted_end field text more rest found first is adds so_far =
    adds ∙ ap (λ (t : List ℕ). text ++ t) (sym (others_unfound 34 rest found first is)) ∙ so_far
