-- A table has one line `end`, and nothing stands behind it.
use Rattle.std.proofs.Common.{◌≡◌, ℕ, ◌<◌, Bool, true, false, cond, List, [], ◌∷◌, ◌++◌, length, map, Option, Some, None, refl, sym, ◌∙◌, ap, append-nil, append_assoc, arith}
use Rattle.std.specs.Prelude.{ℤ, pos, neg_ℤ, ◌==◌, if◌then◌else◌, codes, option_map, option_and_then}
use Rattle.std.specs.List.{slice_split, onto_first, filter_map}
use Rattle.std.proofs.lemmas.List.{map-append}
use Rattle.std.proofs.lemmas.List.Splits.{slice_split-cons_yes, slice_split-cons_no, length-slice_split}
use Rattle.zim_gate.specs.Counts.{IsFrontOf}
use Rattle.zim_fields.specs.Fields.{Field, lines, fields, without_empty_end}
use Rattle.zim_fields.specs.Numbers.{from_one_of}
use Rattle.zim_table.specs.Ended.{EndsInEnd, only_line, last_line}
use Rattle.zim_table.specs.Reader.{Line, Stage, Table, stage_after, goes_on, read_line, read_lines, are_in_order, pair_of, read_objective, read_factor, table_of, table_by, is_ended, read_table, table}
use Rattle.zim_table.specs.Reader.Line.{Declared, Priority, StartValue, Helper, Offset, RowOf, End}
use Rattle.zim_table.specs.Reader.Stage.{Columns, Rows}

-- ---- lines around a line end

abbrev is_end : ℕ → Bool
is_end b = b == 10

onto_first-append : (x : ℕ) (parts more : List (List ℕ)) → 0 < length parts → onto_first x (parts ++ more) ≡ onto_first x parts ++ more
onto_first-append x [] more some = absurd (omega arith)
onto_first-append x (part ∷ parts) more some = refl

some_parts : (text : List ℕ) → 0 < length (slice_split is_end text)
some_parts text = omega (arith, length-slice_split is_end text)

-- a line end cuts a text in two
split_around : (before rest : List ℕ) → slice_split is_end (before ++ 10 ∷ rest) ≡ slice_split is_end before ++ slice_split is_end rest
split_around [] rest = refl
split_around (x ∷ before) rest = by_byte (is_end x) refl (split_around before rest)
  where
    by_byte : (b : Bool) → is_end x ≡ b → slice_split is_end (before ++ 10 ∷ rest) ≡ slice_split is_end before ++ slice_split is_end rest → slice_split is_end (x ∷ (before ++ 10 ∷ rest)) ≡ slice_split is_end (x ∷ before) ++ slice_split is_end rest
    by_byte true e further =
        slice_split-cons_yes is_end x (before ++ 10 ∷ rest) e
        ∙ ap (λ (parts : List (List ℕ)). [] ∷ parts) further
        ∙ ap (λ (parts : List (List ℕ)). parts ++ slice_split is_end rest) (sym (slice_split-cons_yes is_end x before e))
    by_byte false e further =
        slice_split-cons_no is_end x (before ++ 10 ∷ rest) e
        ∙ ap (onto_first x) further
        ∙ onto_first-append x (slice_split is_end before) (slice_split is_end rest) (some_parts before)
        ∙ ap (λ (parts : List (List ℕ)). parts ++ slice_split is_end rest) (sym (slice_split-cons_no is_end x before e))

-- only the last part is looked at
end_behind : (parts more : List (List ℕ)) → 0 < length more → without_empty_end (parts ++ more) ≡ parts ++ without_empty_end more
end_behind [] more some = refl
end_behind (part ∷ []) [] some = absurd (omega arith)
end_behind (part ∷ []) (next ∷ more) some = refl
end_behind (part ∷ next ∷ parts) more some = ap (λ (ps : List (List ℕ)). part ∷ ps) (end_behind (next ∷ parts) more some)

-- the line `end` in a text, with the lines before and behind it
lines_around : (before rest : List ℕ) → lines (before ++ (codes "\nend\n" ++ rest)) ≡ slice_split is_end before ++ (codes "end" ∷ lines rest)
lines_around before rest =
    ap without_empty_end (split_around before (codes "end\n" ++ rest))
    ∙ end_behind (slice_split is_end before) (codes "end" ∷ slice_split is_end rest) (omega arith)
    ∙ ap (λ (parts : List (List ℕ)). slice_split is_end before ++ parts) (end_behind (codes "end" ∷ []) (slice_split is_end rest) (some_parts rest))

-- the line `end` before others
first_line : (rest : List ℕ) → lines (codes "end\n" ++ rest) ≡ codes "end" ∷ lines rest
first_line rest = end_behind (codes "end" ∷ []) (slice_split is_end rest) (some_parts rest)

no_parts : (parts : List (List ℕ)) → 0 < length parts → without_empty_end parts ≡ [] → parts ≡ [] ∷ []
no_parts [] some e = absurd (omega arith)
no_parts ([] ∷ []) some e = refl
no_parts ((b ∷ part) ∷ []) some e = cc
no_parts (part ∷ next ∷ parts) some e = cc

one_empty_part : (text : List ℕ) → slice_split is_end text ≡ [] ∷ [] → text ≡ []
one_empty_part [] e = refl
one_empty_part (x ∷ text) e = by_byte (is_end x) refl
  where
    no_first : (parts : List (List ℕ)) → 0 < length parts → onto_first x parts ≡ [] ∷ [] → x ∷ text ≡ []
    no_first [] some e = absurd (omega arith)
    no_first (part ∷ parts) some e = cc

    more_parts : (parts : List (List ℕ)) → 0 < length parts → [] ∷ parts ≡ [] ∷ [] → x ∷ text ≡ []
    more_parts [] some e = absurd (omega arith)
    more_parts (part ∷ parts) some e = cc

    by_byte : (b : Bool) → is_end x ≡ b → x ∷ text ≡ []
    by_byte true e' = more_parts (slice_split is_end text) (some_parts text) (sym (slice_split-cons_yes is_end x text e') ∙ e)
    by_byte false e' = no_first (slice_split is_end text) (some_parts text) (sym (slice_split-cons_no is_end x text e') ∙ e)

-- a text without lines is empty
no_lines : (text : List ℕ) → lines text ≡ [] → text ≡ []
no_lines text e = one_empty_part text (no_parts (slice_split is_end text) (some_parts text) e)

-- ---- what is read of the line `end`

abbrev end_fields : List Field
end_fields = codes "end" ∷ []

-- what goes on behind a line
goes_further : (after : Option Stage) (before behind : List Line) → ((stage : Stage) → are_in_order stage (before ++ End ∷ behind) ≡ true → behind ≡ []) → goes_on (λ (next : Stage). are_in_order next (before ++ End ∷ behind)) after ≡ true → behind ≡ []
goes_further None before behind inner e = cc
goes_further (Some stage) before behind inner e = inner stage e

no_stage : (stage : Stage) → stage_after stage End ≡ None
no_stage (Columns last priority start) = refl
no_stage (Rows last) = refl

none_goes : (further : Stage → Bool) (after : Option Stage) → after ≡ None → goes_on further after ≡ true → ⊥
none_goes further None e f = cc
none_goes further (Some stage) e f = cc

-- the lines behind it are none, where they are in order
end_last : (stage : Stage) (before behind : List Line) → are_in_order stage (before ++ End ∷ behind) ≡ true → behind ≡ []
end_last stage [] [] e = refl
end_last stage [] (line ∷ behind) e = absurd (none_goes _ (stage_after stage End) (no_stage stage) e)
end_last stage (Declared j pair ∷ before) behind e = goes_further (stage_after stage (Declared j pair)) before behind (λ next f. end_last next before behind f) e
end_last stage (Priority j ∷ before) behind e = goes_further (stage_after stage (Priority j)) before behind (λ next f. end_last next before behind f) e
end_last stage (StartValue j ∷ before) behind e = goes_further (stage_after stage (StartValue j)) before behind (λ next f. end_last next before behind f) e
end_last stage (Helper j ∷ before) behind e = goes_further (stage_after stage (Helper j)) before behind (λ next f. end_last next before behind f) e
end_last stage (Offset ∷ before) behind e = goes_further (stage_after stage Offset) before behind (λ next f. end_last next before behind f) e
end_last stage (RowOf i ∷ before) behind e = goes_further (stage_after stage (RowOf i)) before behind (λ next f. end_last next before behind f) e
end_last stage (End ∷ []) behind e = absurd (none_goes _ (stage_after stage End) (no_stage stage) e)
end_last stage (End ∷ line ∷ before) behind e = absurd (none_goes _ (stage_after stage End) (no_stage stage) e)

-- reading lines with the line `end` among them
pub record ReadsAround (before behind : List (List Field)) (read : List Line) : Type 0 where
  pub first : List Line
  pub others : List Line
  pub whole : read ≡ first ++ End ∷ others
  pub reads : read_lines behind ≡ Some others

some_of : {A : Type 0} {a b : A} → Some a ≡ Some b → a ≡ b
some_of e = cc

end_then : (behind : List (List Field)) (others : Option (List Line)) (read : List Line) → read_lines behind ≡ others → option_map (λ (ls : List Line). End ∷ ls) others ≡ Some read → ReadsAround [] behind read
end_then behind None read e f = cc
end_then behind (Some others) read e f = record { first = []; others = others; whole = sym (some_of f); reads = e }

reads_around : (before behind : List (List Field)) (read : List Line) → read_lines (before ++ end_fields ∷ behind) ≡ Some read → ReadsAround before behind read
reads_around [] behind read e = end_then behind (read_lines behind) read refl e
reads_around (line ∷ before) behind read e = by_first (read_line line) (read_lines (before ++ end_fields ∷ behind)) (λ others f. reads_around before behind others f) refl e
  where
    by_first : (first : Option Line) (others : Option (List Line)) → ((ls : List Line) → read_lines (before ++ end_fields ∷ behind) ≡ Some ls → ReadsAround before behind ls) → read_lines (before ++ end_fields ∷ behind) ≡ others → option_and_then (λ (f : Line). option_map (λ (ls : List Line). f ∷ ls) others) first ≡ Some read → ReadsAround (line ∷ before) behind read
    by_first None others inner same f = cc
    by_first (Some first) None inner same f = cc
    by_first (Some first) (Some others) inner same f =
        let around = inner others same in record {
          first = first ∷ around.first;
          others = around.others;
          whole = sym (some_of f) ∙ ap (λ (ls : List Line). first ∷ ls) around.whole;
          reads = around.reads;
        }

no_read_lines : (ls : List (List Field)) → read_lines ls ≡ Some [] → ls ≡ []
no_read_lines [] e = refl
no_read_lines (line ∷ ls) e = by_parts (read_line line) (read_lines ls) e
  where
    by_parts : (first : Option Line) (others : Option (List Line)) → option_and_then (λ (f : Line). option_map (λ (ls : List Line). f ∷ ls) others) first ≡ Some [] → line ∷ ls ≡ []
    by_parts None others f = cc
    by_parts (Some first) None f = cc
    by_parts (Some first) (Some others) f = cc

-- the stage at which the lines behind the first four begin
abbrev begin : Stage
begin = Columns 0 false false

-- nothing stands behind the line `end` of lines that are in order
ordered_end : (before behind : List (List Field)) (read : Option (List Line)) (lp mps : ℤ) (said : Table) → read_lines (before ++ end_fields ∷ behind) ≡ read → option_and_then (λ (ls : List Line). if are_in_order begin ls then Some (record { pairs = filter_map pair_of ls; lp_factor = lp; mps_factor = mps }) else None) read ≡ Some said → behind ≡ []
ordered_end before behind None lp mps said e f = cc
ordered_end before behind (Some read) lp mps said e f =
    let around = reads_around before behind read e in
    no_read_lines behind (around.reads ∙ ap Some (end_last begin around.first around.others (ap (are_in_order begin) (sym around.whole) ∙ in_order (are_in_order begin read) refl f)))
  where
    in_order : (b : Bool) → are_in_order begin read ≡ b → cond b (Some (record { pairs = filter_map pair_of read; lp_factor = lp; mps_factor = mps })) None ≡ Some said → are_in_order begin read ≡ true
    in_order true g h = g
    in_order false g h = cc

option_then : {A B : Type 0} (f : A → Option B) (o : Option A) (b : B) → option_and_then f o ≡ Some b → (a : A) × (f a ≡ Some b)
option_then f None b e = cc
option_then f (Some a) b e = (a, e)

if_then : {A : Type 0} (b : Bool) (o : Option A) (a : A) → (if b then o else None) ≡ Some a → o ≡ Some a
if_then true o a e = e
if_then false o a e = cc

absurd_none : {A B : Type 0} {b : B} → None ≡ Some b → A
absurd_none e = cc

further_end : (before behind : List (List Field)) (lp mps : Field) (maximises : Bool) (said : Table) → table_by (before ++ end_fields ∷ behind) lp mps maximises ≡ Some said → behind ≡ []
further_end before behind lp mps maximises said e =
    let number = option_then _ (from_one_of lp) said e in
    ordered_end before behind (read_lines (before ++ end_fields ∷ behind)) (pos number.0) (if maximises then neg_ℤ (pos number.0) else pos number.0) said refl
    (if_then _ (table_of (before ++ end_fields ∷ behind) (pos number.0) (if maximises then neg_ℤ (pos number.0) else pos number.0)) said number.1)

-- the first four lines of a table are no line `end`
table_end : (before behind : List (List Field)) (said : Table) → read_table (before ++ end_fields ∷ behind) ≡ Some said → behind ≡ []
table_end [] [] said e = refl
table_end [] (a ∷ []) said e = cc
table_end [] (a ∷ b ∷ []) said e = cc
table_end [] (a ∷ b ∷ c ∷ behind) said e = cc
table_end (a ∷ []) [] said e = refl
table_end (a ∷ []) (b ∷ []) said e = cc
table_end (a ∷ []) (b ∷ c ∷ behind) said e = absurd_none (if_then _ None said e)
table_end (a ∷ b ∷ []) [] said e = refl
table_end (a ∷ b ∷ []) (c ∷ behind) said e = absurd_none (option_then _ (read_factor (codes "lp") b) said (if_then _ _ said e)).1
table_end (a ∷ b ∷ c ∷ []) behind said e =
    let lp = option_then _ (read_factor (codes "lp") b) said (if_then _ _ said e) in
    absurd_none (option_then _ (read_factor (codes "mps") c) said lp.1).1
table_end (a ∷ b ∷ c ∷ d ∷ before) behind said e =
    let lp = option_then _ (read_factor (codes "lp") b) said (if_then _ _ said e) in
    let mps = option_then _ (read_factor (codes "mps") c) said lp.1 in
    let aim = option_then _ (read_objective d) said mps.1 in
    further_end before behind lp.0 mps.0 aim.0 said aim.1

map_none : (ls : List (List ℕ)) → map fields ls ≡ [] → ls ≡ []
map_none [] e = refl
map_none (line ∷ ls) e = cc

-- nothing follows a front that ends in the line `end`
nothing_follows : (front rest : List ℕ) (said : Table) → table (front ++ rest) ≡ Some said → EndsInEnd front → rest ≡ []
nothing_follows _ rest said e only_line =
    no_lines rest (map_none (lines rest) (table_end [] (map fields (lines rest)) said (ap read_table (ap (map fields) (sym (first_line rest))) ∙ if_then (is_ended (codes "end\n" ++ rest)) _ said e)))
nothing_follows _ rest said e (last_line before) =
    no_lines rest
    (map_none (lines rest)
    (table_end (map fields (slice_split is_end before)) (map fields (lines rest)) said
    (ap read_table (sym (map-append fields (slice_split is_end before) (codes "end" ∷ lines rest)) ∙ ap (map fields) (sym (ap lines (append_assoc before (codes "\nend\n") rest) ∙ lines_around before rest))) ∙ if_then (is_ended ((before ++ codes "\nend\n") ++ rest)) _ said e)))

-- a front of a table that ends in the line `end` is the table
pub front_is_whole : (text front : List ℕ) (said : Table) → table text ≡ Some said → IsFrontOf front text → EndsInEnd front → front ≡ text
front_is_whole text front said e is ends =
    sym (append-nil front) ∙ ap (λ (rest : List ℕ). front ++ rest) (sym (nothing_follows front is.rest said (ap table is.whole ∙ e) ends)) ∙ is.whole
