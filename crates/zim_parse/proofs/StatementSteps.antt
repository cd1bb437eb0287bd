-- What has a derivation as a part of a statement is what the parser reads.
use Rattle.std.proofs.Common.{◌≡◌, ℕ, zero, suc, ◌<◌, ◌≤◌, Bool, true, List, [], ◌∷◌, ◌++◌, length, Option, Some, None, refl, ap, subst, append_assoc, length-append, arith, eq-eqb, le-leb}
use Rattle.zim_fault.specs.declared.faults.Place.{Place}
use Rattle.zim_fault.specs.declared.tokens.Token.{Token}
use Rattle.zim_fault.specs.declared.tokens.Token.TheVariants.{Word as word_token, Sign as sign_token}
use Rattle.zim_fault.specs.declared.tokens.Placed.{Placed}
use Rattle.zim_fault.specs.declared.signs.Sign.TheVariants.{SComma, SGreater, SBar}
use Rattle.zim_fault.specs.declared.words.Word.{Word}
use Rattle.zim_fault.specs.declared.words.Word.TheVariants.{WAs, WSkip, WUse, WComment}
use Rattle.zim_tree.specs.declared.expr.Expr.{Expr}
use Rattle.zim_tree.specs.declared.expr.Angle.{Angle}
use Rattle.zim_tree.specs.declared.stmt.Reading.{Reading}
use Rattle.zim_tree.specs.declared.stmt.Table.{Table}
use Rattle.zim_tree.specs.declared.classes.Class.TheVariants as class
use Rattle.zim_tree.specs.Classes.{word_class}
use Rattle.zim_tree.specs.Levels.{Level, unary, sum, placed}
use Rattle.zim_tree.specs.Grammar.{Reads, ReadsList, ReadsTuple, a_tuple}
use Rattle.zim_tree.specs.StatementGrammar.{word_at, is_option, AtMostOnce, ReadsOptions, no_option, an_option, ReadsReading, a_reading, ReadsEntries, the_last_entry, one_more_entry, ReadsRows, the_last_row, one_more_row, ReadsTable, a_table, ReadsGiven, not_given, is_given}
use Rattle.zim_parse_expression.specs.Next.{looseness, level_bound}
use Rattle.zim_parse_expression.specs.Parser.{and_then, tuple_of, parse}
use Rattle.zim_parse_expression.specs.StatementTokens.{expect_token, is_bar, option_in}
use Rattle.zim_parse.specs.StatementParser.{options_of, each_once, reading_of, entry_of, given_of, table_row, table_rows, table_behind}
use Rattle.zim_parse_expression.proofs.BeginningLaws.{no}
use Rattle.zim_parse_expression.proofs.ListLaws.{Listed, last_item, next_item, listed_items}
use Rattle.zim_parse_expression.proofs.PrimaryLaws.{deeper, tuple_reads}
use Rattle.zim_parse_expression.proofs.CompletenessLaws.{complete, complete_list}

-- an expression, where a parser for what stands deeper reads it
pub part : {level : Level} {ts : List Placed} {e : Expr} → Reads level ts e → (n : ℕ) → length ts < n → (rest : List Placed) → level_bound level < looseness rest → parse n level (ts ++ rest) ≡ Some (e, rest)
part d n h rest s = deeper (complete d) n h rest s

pub tuple_part : {ts : List Placed} {tuple : Angle} → ReadsTuple ts tuple → (n : ℕ) → length ts < n → (rest : List Placed) → tuple_of (parse n) (ts ++ rest) ≡ Some (tuple, rest)
tuple_part (a_tuple q r {ts = ts} l) n h rest = tuple_reads (complete_list l) q r n (omega (arith, length-append ts (placed r (sign_token SGreater) ∷ []), h)) rest

-- options

option_class : (w : Word) → is_option w ≡ true → word_class w ≡ class.Other
option_class WSkip h = refl
option_class WUse h = refl
option_class WComment h = refl
option_class _ h = no h

-- the option that comes next, if one does
abbrev pub option_next : List Placed → Option Word
option_next [] = None
option_next (t ∷ rest) = option_in t.token

options_loose : {ts : List Placed} {options : List (Place × Word × Expr)} → ReadsOptions ts options → (rest : List Placed) → level_bound sum < looseness rest → level_bound sum < looseness (ts ++ rest)
options_loose no_option rest s = s
options_loose (an_option p w h d e) rest s = rw (option_class w h) (omega arith)

options_count : {ts : List Placed} {options : List (Place × Word × Expr)} → ReadsOptions ts options → length options ≤ length ts
options_count no_option = omega arith
options_count (an_option p w {ts = ts} {us = us} h d e) = omega (arith, length-append ts us, options_count e)

options_read : {ts : List Placed} {options : List (Place × Word × Expr)} → ReadsOptions ts options → (n : ℕ) → length ts < n → (rest : List Placed) → level_bound sum < looseness rest → option_next rest ≡ None →
    (turns : ℕ) → length options ≤ turns → options_of (parse n) turns (ts ++ rest) ≡ Some (options, rest)
unfolding options_of and_then
options_read no_option n h rest s o zero t = refl
options_read no_option n h [] s o (suc turns) t = refl
options_read no_option n h (x ∷ rest) s o (suc turns) t = rw o refl
options_read (an_option p w i d e) n h rest s o zero t = absurd (omega arith)
options_read (an_option p w {ts = ts} {us = us} i d e) n h rest s o (suc turns) t =
    rw (
      append_assoc ts us rest,
      i,
      part d n (omega (arith, length-append ts us, h)) (us ++ rest) (options_loose e rest s),
      options_read e n (omega (arith, length-append ts us, h)) rest s o turns (omega arith),
    ) refl

once_test : (options : List (Place × Word × Expr)) → AtMostOnce options → each_once options ≡ true
once_test options h = rw (le-leb _ _ h.0, le-leb _ _ h.1, le-leb _ _ h.2) refl

pub reading_read : {ts : List Placed} {reading : Reading} → ReadsReading ts reading → (n : ℕ) → length ts ≤ n → (rest : List Placed) → level_bound sum < looseness rest → option_next rest ≡ None →
    reading_of (parse n) (ts ++ rest) ≡ Some (reading, rest)
unfolding reading_of and_then
reading_read (a_reading p q {ts = ts} {us = us} {vs = vs} {options = options} h d e f) n l rest s o =
    let l1 : length ts < n = omega (arith, length-append ts (word_at q WAs ∷ (us ++ vs)), l) in
    let l2 : length us < n = omega (arith, length-append ts (word_at q WAs ∷ (us ++ vs)), length-append us vs, l) in
    let l3 : length vs < n = omega (arith, length-append ts (word_at q WAs ∷ (us ++ vs)), length-append us vs, l) in
    let enough : length options ≤ length (vs ++ rest) = omega (arith, length-append vs rest, options_count f) in
    rw (
      append_assoc ts (word_at q WAs ∷ (us ++ vs)) rest,
      part d n l1 (word_at q WAs ∷ ((us ++ vs) ++ rest)) (omega arith),
      append_assoc us vs rest,
      part e n l2 (vs ++ rest) (options_loose f rest s),
      options_read f n l3 rest s o (length (vs ++ rest)) enough,
      once_test options h,
    ) refl

-- entries

entry_read : {ts us : List Placed} {tuple : Angle} {given : Expr} → ReadsTuple ts tuple → Reads sum us given → (n : ℕ) → length (ts ++ us) < n → (rest : List Placed) → level_bound sum < looseness rest →
    entry_of (parse n) ((ts ++ us) ++ rest) ≡ Some ((tuple, given), rest)
unfolding entry_of and_then
entry_read {ts = ts} {us = us} d e n h rest s =
    rw (append_assoc ts us rest, tuple_part d n (omega (arith, length-append ts us, h)) (us ++ rest), part e n (omega (arith, length-append ts us, h)) rest s) refl

pub entries_listed : {ts : List Placed} {entries : List (Angle × Expr)} → ReadsEntries ts entries → (n : ℕ) → length ts < n → (rest : List Placed) → level_bound sum < looseness rest → Listed (entry_of (parse n)) rest ts entries
entries_listed (the_last_entry {ts = ts} {us = us} d e) n h rest s = last_item (ts ++ us) (entry_read d e n h rest s)
entries_listed (one_more_entry p {ts = ts} {us = us} {vs = vs} {tuple = tuple} {given = given} {others = others} d e f) n h rest s =
    let lengths : (length (ts ++ us) < n) × (length vs < n) = (
      omega (arith, length-append ts (us ++ placed p (sign_token SComma) ∷ vs), length-append us (placed p (sign_token SComma) ∷ vs), length-append ts us, h),
      omega (arith, length-append ts (us ++ placed p (sign_token SComma) ∷ vs), length-append us (placed p (sign_token SComma) ∷ vs), h),
    ) in
    subst (λ (l : List Placed). Listed (entry_of (parse n)) rest l ((tuple, given) ∷ others)) (append_assoc ts us (placed p (sign_token SComma) ∷ vs))
    (next_item p (ts ++ us) vs (entry_read d e n lengths.0 (placed p (sign_token SComma) ∷ (vs ++ rest)) (omega arith)) (entries_listed f n lengths.1 rest s))

-- a given operand

pub given_read : {w : Word} (test : Token → Bool) → test (word_token w) ≡ true → {ts : List Placed} {given : Option (Place × Expr)} → ReadsGiven w ts given → (n : ℕ) → length ts ≤ n → (rest : List Placed) →
    level_bound sum < looseness rest → expect_token test rest ≡ None → given_of (parse n) test (ts ++ rest) ≡ Some (given, rest)
unfolding and_then
given_read test k not_given n h rest s o = rw o refl
given_read test k (is_given p {ts = ts} d) n h rest s o = rw (k, part d n (omega arith) rest s) refl

-- tables

row_read : {ts us : List Placed} {items values : List Expr} (columns : ℕ) (q r : Place) → length values ≡ columns → ReadsList unary ts items → ReadsList unary us values → (n : ℕ) → length ts < n → length us < n → (rest : List Placed) →
    table_row (parse n) columns (ts ++ (placed q (sign_token SBar) ∷ (us ++ (placed r (sign_token SBar) ∷ rest)))) ≡ Some ((items, values), rest)
unfolding table_row and_then
row_read {ts = ts} {us = us} columns q r h d e n l1 l2 rest =
    rw (
      listed_items ((complete_list d).lists n l1 (placed q (sign_token SBar) ∷ (us ++ (placed r (sign_token SBar) ∷ rest))) (omega arith)) refl,
      listed_items ((complete_list e).lists n l2 (placed r (sign_token SBar) ∷ rest) (omega arith)) refl,
      eq-eqb _ _ h,
    ) refl

-- the tokens behind the first one
abbrev tail : List Placed → List Placed
tail [] = []
tail (t ∷ rest) = rest

-- rows begin with a bar
record Barred (ts : List Placed) : Type 0 where
  at : Place
  is_first : ts ≡ placed at (sign_token SBar) ∷ tail ts

rows_barred : {columns : ℕ} {ts : List Placed} {rows : List (List Expr × List Expr)} → ReadsRows columns ts rows → Barred ts
rows_barred (the_last_row p q r h d e) = record { at = p; is_first = refl }
rows_barred (one_more_row p q r h d e f) = record { at = p; is_first = refl }

rows_read : {columns : ℕ} {ts : List Placed} {rows : List (List Expr × List Expr)} → ReadsRows columns ts rows → (n : ℕ) → length ts ≤ n → (rest : List Placed) → expect_token is_bar rest ≡ None →
    (turns : ℕ) → length ts ≤ turns → table_rows (parse n) columns turns (tail ts ++ rest) ≡ Some (rows, rest)
unfolding table_rows and_then
rows_read (the_last_row p q r h d e) n l rest o zero t = absurd (omega arith)
rows_read {columns = columns} (the_last_row p q r {ts = ts} {us = us} h d e) n l rest o (suc turns) t =
    let last : List Placed = us ++ placed r (sign_token SBar) ∷ [] in
    let l1 : length ts < n = omega (arith, length-append ts (placed q (sign_token SBar) ∷ last), l) in
    let l2 : length us < n = omega (arith, length-append ts (placed q (sign_token SBar) ∷ last), length-append us (placed r (sign_token SBar) ∷ []), l) in
    rw (append_assoc ts (placed q (sign_token SBar) ∷ last) rest, append_assoc us (placed r (sign_token SBar) ∷ []) rest, row_read columns q r h d e n l1 l2 rest, o) refl
rows_read (one_more_row p q r h d e f) n l rest o zero t = absurd (omega arith)
rows_read {columns = columns} (one_more_row p q r {ts = ts} {us = us} {vs = vs} {rows = rows} h d e f) n l rest o (suc turns) t =
    let last : List Placed = us ++ placed r (sign_token SBar) ∷ vs in
    let l1 : length ts < n = omega (arith, length-append ts (placed q (sign_token SBar) ∷ last), l) in
    let l2 : length us < n = omega (arith, length-append ts (placed q (sign_token SBar) ∷ last), length-append us (placed r (sign_token SBar) ∷ vs), l) in
    let l3 : length vs ≤ n = omega (arith, length-append ts (placed q (sign_token SBar) ∷ last), length-append us (placed r (sign_token SBar) ∷ vs), l) in
    let t3 : length vs ≤ turns = omega (arith, length-append ts (placed q (sign_token SBar) ∷ last), length-append us (placed r (sign_token SBar) ∷ vs), t) in
    let b = rows_barred f in
    let again : expect_token is_bar (vs ++ rest) ≡ Some (b.at, tail vs ++ rest) = ap (λ (x : List Placed). expect_token is_bar (x ++ rest)) b.is_first in
    rw (
      append_assoc ts (placed q (sign_token SBar) ∷ last) rest,
      append_assoc us (placed r (sign_token SBar) ∷ vs) rest,
      row_read columns q r h d e n l1 l2 (vs ++ rest),
      again,
      rows_read f n l3 rest o turns t3,
    ) refl

-- a table behind its first bar
pub table_read : {ts : List Placed} {table : Table} → ReadsTable ts table → (n : ℕ) → length ts ≤ n → (rest : List Placed) → expect_token is_bar rest ≡ None →
    (r : Place) × (us : List Placed) × (ts ≡ placed r (sign_token SBar) ∷ us) × (table_behind (parse n) (us ++ rest) ≡ Some (table, rest))
unfolding table_behind and_then
table_read (a_table p q {ts = ts} {us = us} {head = head} {rows = rows} d f) n l rest o =
    let l1 : length ts < n = omega (arith, length-append ts (placed q (sign_token SBar) ∷ us), l) in
    let l2 : length us ≤ n = omega (arith, length-append ts (placed q (sign_token SBar) ∷ us), l) in
    let b = rows_barred f in
    let again : expect_token is_bar (us ++ rest) ≡ Some (b.at, tail us ++ rest) = ap (λ (x : List Placed). expect_token is_bar (x ++ rest)) b.is_first in
    let size : length us ≤ suc (length (tail us ++ rest)) = omega (arith, length-append (tail us) rest, ap length b.is_first) in (
      p,
      ts ++ placed q (sign_token SBar) ∷ us,
      refl,
      rw (
        append_assoc ts (placed q (sign_token SBar) ∷ us) rest,
        listed_items ((complete_list d).lists n l1 (placed q (sign_token SBar) ∷ (us ++ rest)) (omega arith)) refl,
        again,
        rows_read f n l2 rest o (suc (length (tail us ++ rest))) size,
      ) refl,
    )
