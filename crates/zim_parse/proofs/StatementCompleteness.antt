-- A statement that has a derivation is what the parser reads.
use Rattle.std.proofs.Common.{◌≡◌, ℕ, ◌<◌, ◌≤◌, true, false, List, [], ◌∷◌, ◌++◌, length, Option, Some, None, refl, ◌∙◌, append_assoc, length-append, arith}
use Rattle.zim_fault.specs.declared.faults.Place.{Place}
use Rattle.zim_fault.specs.declared.tokens.Token.TheVariants.{Sign as sign_token}
use Rattle.zim_fault.specs.declared.tokens.Placed.{Placed}
use Rattle.zim_fault.specs.declared.signs.Sign.TheVariants.{SSemicolon, SRightParen, SLeftBracket, SRightBracket, SRightBrace}
use Rattle.zim_fault.specs.declared.words.Word.TheVariants.{WRead, WAs, WDefault}
use Rattle.zim_tree.specs.declared.expr.Expr.{Expr}
use Rattle.zim_tree.specs.declared.expr.Angle.{Angle}
use Rattle.zim_tree.specs.declared.stmt.Bracket.{Bracket}
use Rattle.zim_tree.specs.declared.stmt.Bracket.TheVariants as bracket
use Rattle.zim_tree.specs.declared.stmt.SetSide.{SetSide}
use Rattle.zim_tree.specs.declared.stmt.ParSide.{ParSide}
use Rattle.zim_tree.specs.declared.classes.Class.{Class}
use Rattle.zim_tree.specs.declared.classes.Class.TheVariants as class
use Rattle.zim_tree.specs.Levels.{sum, placed}
use Rattle.zim_tree.specs.Grammar.{a_tuple, an_index, an_index_with}
use Rattle.zim_tree.specs.StatementGrammar.{word_at, ReadsEntries, the_last_entry, one_more_entry, a_reading, ReadsGiven, not_given, is_given, ReadsSetSide, a_set, a_set_read, a_family, a_set_for_each, sets_listed, ReadsParSide, a_value, a_value_read, a_value_for_each, values_listed, values_in_table, values_read, the_default, ReadsBracket, a_bracket_loop, a_bracket_over, ReadsBrackets, no_bracket, a_bracket, ReadsSetBrackets, filled_or_none, empty_brackets}
use Rattle.zim_scan.specs.Nesting.{class_at}
use Rattle.zim_parse_expression.specs.Next.{looseness, level_bound, Start, a_less, start_at, start_of, is_right_bracket, is_comma}
use Rattle.zim_parse_expression.specs.Parser.{Inner, and_then, expect, parse}
use Rattle.zim_parse_expression.specs.StatementTokens.{expect_token, is_left_bracket, is_bar, is_default, is_read, sees}
use Rattle.zim_parse.specs.StatementParser.{set_side_of, par_side_of, bracket_at, bracket_of, brackets_of, set_brackets_of}
use Rattle.zim_parse_expression.proofs.BeginningLaws.{no, is_term, begins}
use Rattle.zim_parse_expression.proofs.ListLaws.{listed_items}
use Rattle.zim_parse_expression.proofs.PrimaryLaws.{arguments_read}
use Rattle.zim_parse_expression.proofs.CompletenessLaws.{complete_list, complete_index_of}
use Rattle.zim_parse.proofs.StatementSteps.{option_next, part, reading_read, entries_listed, given_read, table_read}
use Rattle.zim_parse.proofs.StatementBeginnings.{start_not_read, joined_is_whole, not_a_read}

-- a `;` and what follows it
abbrev pub ended_by : Place → List Placed → List Placed
ended_by z rest = placed z (sign_token SSemicolon) ∷ rest

-- sets

pub set_side_read : {brackets : Option Bracket} {ts : List Placed} {side : SetSide} → ReadsSetSide brackets ts side → (n : ℕ) → length ts < n → (z : Place) (rest : List Placed) →
    set_side_of (parse n) brackets (ts ++ ended_by z rest) ≡ Some (side, ended_by z rest)
unfolding set_side_of and_then
set_side_read (a_set d) n h z rest = rw (not_a_read d (ended_by z rest), part d n h (ended_by z rest) (omega arith)) refl
set_side_read (a_set_read p q {ts = ts} (a_reading u v k d e f)) n h z rest =
    let r = a_reading u v k d e f in
    rw (
      append_assoc ts (placed q (sign_token SRightBrace) ∷ []) (ended_by z rest),
      reading_read r n (omega (arith, length-append ts (placed q (sign_token SRightBrace) ∷ []), h)) (placed q (sign_token SRightBrace) ∷ ended_by z rest) (omega arith) refl,
    ) refl
set_side_read (a_family p q r w {ts = ts} k d) n h z rest =
    rw (k, arguments_read (complete_list d) r n (omega (arith, length-append ts (placed r (sign_token SRightParen) ∷ []), h)) (ended_by z rest)) refl
set_side_read (a_set_for_each d) n h z rest = rw (part d n h (ended_by z rest) (omega arith)) refl
set_side_read (sets_listed d) n h z rest = rw (listed_items (entries_listed d n h (ended_by z rest) (omega arith)) refl) refl

-- parameters

entries_less : {ts : List Placed} {entries : List (Angle × Expr)} → ReadsEntries ts entries → (rest : List Placed) →
    (sees is_default (ts ++ rest) ≡ false) × (sees is_bar (ts ++ rest) ≡ false) × (sees is_read (ts ++ rest) ≡ false)
entries_less (the_last_entry (a_tuple q r l) e) rest = (refl, refl, refl)
entries_less (one_more_entry p (a_tuple q r l) e f) rest = (refl, refl, refl)

-- what comes behind the entries of a parameter stops a sum
default_loose : {ts : List Placed} {default : Option (Place × Expr)} → ReadsGiven WDefault ts default → (z : Place) (rest : List Placed) → level_bound sum < looseness (ts ++ ended_by z rest)
default_loose not_given z rest = omega arith
default_loose (is_given p d) z rest = omega arith

default_no_comma : {ts : List Placed} {default : Option (Place × Expr)} → ReadsGiven WDefault ts default → (z : Place) (rest : List Placed) → expect is_comma (ts ++ ended_by z rest) ≡ None
default_no_comma not_given z rest = refl
default_no_comma (is_given p d) z rest = refl

default_no_bar : {ts : List Placed} {default : Option (Place × Expr)} → ReadsGiven WDefault ts default → (z : Place) (rest : List Placed) → expect_token is_bar (ts ++ ended_by z rest) ≡ None
default_no_bar not_given z rest = refl
default_no_bar (is_given p d) z rest = refl

default_no_option : {ts : List Placed} {default : Option (Place × Expr)} → ReadsGiven WDefault ts default → (z : Place) (rest : List Placed) → option_next (ts ++ ended_by z rest) ≡ None
default_no_option not_given z rest = refl
default_no_option (is_given p d) z rest = refl

pub par_side_read : {brackets : Option Bracket} {ts : List Placed} {side : ParSide} → ReadsParSide brackets ts side → (n : ℕ) → length ts < n → (z : Place) (rest : List Placed) →
    par_side_of (parse n) brackets (ts ++ ended_by z rest) ≡ Some (side, ended_by z rest)
unfolding par_side_of and_then
par_side_read (a_value d) n h z rest = rw (start_not_read _ (joined_is_whole _ (begins d (ended_by z rest))), part d n h (ended_by z rest) (omega arith)) refl
par_side_read (a_value_read (a_reading u v k d e f)) n h z rest = rw (reading_read (a_reading u v k d e f) n (omega arith) (ended_by z rest) (omega arith) refl) refl
par_side_read (a_value_for_each d) n h z rest = rw (part d n h (ended_by z rest) (omega arith)) refl
par_side_read (values_listed {ts = ts} {us = us} d g) n h z rest =
    let l1 : length ts < n = omega (arith, length-append ts us, h) in
    let l2 : length us ≤ n = omega (arith, length-append ts us, h) in
    let e = entries_less d (us ++ ended_by z rest) in
    rw (
      append_assoc ts us (ended_by z rest),
      e.0,
      e.1,
      e.2,
      listed_items (entries_listed d n l1 (us ++ ended_by z rest) (default_loose g z rest)) (default_no_comma g z rest),
      given_read is_default refl g n l2 (ended_by z rest) (omega arith) refl,
    ) refl
par_side_read (values_in_table {ts = ts} {us = us} d g) n h z rest =
    let l1 : length ts ≤ n = omega (arith, length-append ts us, h) in
    let l2 : length us ≤ n = omega (arith, length-append ts us, h) in
    let t = table_read d n l1 (us ++ ended_by z rest) (default_no_bar g z rest) in
    rw (append_assoc ts us (ended_by z rest), t.2, t.3, given_read is_default refl g n l2 (ended_by z rest) (omega arith) refl) refl
par_side_read (values_read {us = us} (a_reading u v {ts = xs} {us = ys} {vs = zs} k d e f) g) n h z rest =
    let ts : List Placed = word_at u WRead ∷ (xs ++ (word_at v WAs ∷ (ys ++ zs))) in
    let l1 : length ts ≤ n = omega (arith, length-append ts us, h) in
    let l2 : length us ≤ n = omega (arith, length-append ts us, h) in
    rw (
      append_assoc (xs ++ (word_at v WAs ∷ (ys ++ zs))) us (ended_by z rest),
      reading_read (a_reading u v k d e f) n l1 (us ++ ended_by z rest) (default_loose g z rest) (default_no_option g z rest),
      given_read is_default refl g n l2 (ended_by z rest) (omega arith) refl,
    ) refl
par_side_read (the_default p d) n h z rest = rw (part d n (omega arith) (ended_by z rest) (omega arith)) refl

-- brackets

bracket_plain : (inner : Inner) (s : Start) (ts : List Placed) → is_term s ≡ true →
    bracket_at inner s ts ≡ and_then (inner sum ts) (λ over r1. and_then (expect is_right_bracket r1) (λ q left. Some (bracket.Over over, left)))
bracket_plain inner a_less ts h = no h
bracket_plain inner _ ts h = refl

-- what stands behind `[`, and that it isn't `]`
record Bracketed (n : ℕ) (ts : List Placed) (inside : Bracket) (rest : List Placed) : Type 0 where
  at : Place
  behind : List Placed
  is_first : ts ++ rest ≡ placed at (sign_token SLeftBracket) ∷ behind
  filled : expect is_right_bracket behind ≡ None
  reads : bracket_of (parse n) behind ≡ Some (inside, rest)

right_bracket_start : (k : Class) (rest : List Placed) → is_term (start_at k rest) ≡ true → is_right_bracket k ≡ false
right_bracket_start class.RightBracket rest h = no h
right_bracket_start _ rest h = refl

no_right_bracket : (ts : List Placed) → is_term (start_of ts) ≡ true → expect is_right_bracket ts ≡ None
no_right_bracket [] h = refl
no_right_bracket (t ∷ rest) h = rw (right_bracket_start (class_at t) rest h) refl

bracket_read : {ts : List Placed} {inside : Bracket} → ReadsBracket ts inside → (n : ℕ) → length ts ≤ n → (rest : List Placed) → Bracketed n ts inside rest
unfolding bracket_of and_then
bracket_read (a_bracket_loop p q {ts = ts} (an_index u {us = us} (a_tuple v w {ts = xs} k) e)) n h rest =
    let d = an_index u (a_tuple v w k) e in
    record {
      at = p;
      behind = ts ++ (placed q (sign_token SRightBracket) ∷ rest);
      is_first = rw (append_assoc ts (placed q (sign_token SRightBracket) ∷ []) rest) refl;
      filled = refl;
      reads = rw ((complete_index_of d).indices n (omega (arith, length-append ts (placed q (sign_token SRightBracket) ∷ []), h)) (placed q (sign_token SRightBracket) ∷ rest) (omega arith) refl) refl;
    }
bracket_read (a_bracket_loop p q {ts = ts} (an_index_with u x bar (a_tuple v w k) e f)) n h rest =
    let d = an_index_with u x bar (a_tuple v w k) e f in
    record {
      at = p;
      behind = ts ++ (placed q (sign_token SRightBracket) ∷ rest);
      is_first = rw (append_assoc ts (placed q (sign_token SRightBracket) ∷ []) rest) refl;
      filled = refl;
      reads = rw ((complete_index_of d).indices n (omega (arith, length-append ts (placed q (sign_token SRightBracket) ∷ []), h)) (placed q (sign_token SRightBracket) ∷ rest) (omega arith) refl) refl;
    }
bracket_read (a_bracket_over p q {ts = ts} d) n h rest =
    let behind : List Placed = placed q (sign_token SRightBracket) ∷ rest in
    record {
      at = p;
      behind = ts ++ behind;
      is_first = rw (append_assoc ts (placed q (sign_token SRightBracket) ∷ []) rest) refl;
      filled = no_right_bracket (ts ++ behind) (begins d behind);
      reads = bracket_plain (parse n) (start_of (ts ++ behind)) (ts ++ behind) (begins d behind) ∙
          rw (part d n (omega (arith, length-append ts (placed q (sign_token SRightBracket) ∷ []), h)) behind (omega arith)) refl;
    }

pub brackets_read : {ts : List Placed} {inside : Option Bracket} → ReadsBrackets ts inside → (n : ℕ) → length ts ≤ n → (rest : List Placed) → expect_token is_left_bracket rest ≡ None →
    brackets_of (parse n) (ts ++ rest) ≡ Some (inside, rest)
unfolding brackets_of and_then
brackets_read no_bracket n h rest o = rw o refl
brackets_read (a_bracket d) n h rest o = let b = bracket_read d n h rest in rw (b.is_first, b.reads) refl

pub set_brackets_read : {ts : List Placed} {inside : Option Bracket} → ReadsSetBrackets ts inside → (n : ℕ) → length ts ≤ n → (rest : List Placed) → expect_token is_left_bracket rest ≡ None →
    set_brackets_of (parse n) (ts ++ rest) ≡ Some (inside, rest)
unfolding set_brackets_of and_then
set_brackets_read (filled_or_none no_bracket) n h rest o = rw o refl
set_brackets_read (filled_or_none (a_bracket d)) n h rest o = let b = bracket_read d n h rest in rw (b.is_first, b.filled, b.reads) refl
set_brackets_read (empty_brackets p q) n h rest o = refl
