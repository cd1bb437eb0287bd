-- What the parser reads as a table or as the right side of a set or a parameter has a derivation.
use Rattle.std.proofs.Common.{◌≡◌, ℕ, zero, suc, Bool, true, false, if◌then◌else◌, List, [], ◌∷◌, ◌++◌, length, Option, Some, None, nat_eq, refl, ap, ◌∙◌, subst, append_assoc, eqb-true}
use Rattle.std.proofs.lemmas.Option.{none-some, same_Some}
use Rattle.zim_fault.specs.declared.faults.Place.{Place}
use Rattle.zim_fault.specs.declared.tokens.Token.{Token}
use Rattle.zim_fault.specs.declared.tokens.Token.TheVariants.{Word as word_token, Sign as sign_token}
use Rattle.zim_fault.specs.declared.tokens.Placed.{Placed}
use Rattle.zim_fault.specs.declared.signs.Sign.TheVariants.{SLeftParen, SLeftBrace, SRightBrace, SBar, SLess}
use Rattle.zim_fault.specs.declared.words.Word.{Word}
use Rattle.zim_fault.specs.declared.words.Word.TheVariants.{WDefault}
use Rattle.zim_tree.specs.declared.expr.Expr.{Expr}
use Rattle.zim_tree.specs.declared.expr.Expr.TheVariants as tree
use Rattle.zim_tree.specs.declared.stmt.Bracket.{Bracket}
use Rattle.zim_tree.specs.declared.stmt.Bracket.TheVariants as bracket
use Rattle.zim_tree.specs.declared.stmt.SetSide.{SetSide}
use Rattle.zim_tree.specs.declared.stmt.SetSide.TheVariants as set_side
use Rattle.zim_tree.specs.declared.stmt.ParSide.{ParSide}
use Rattle.zim_tree.specs.declared.stmt.Table.{Table}
use Rattle.zim_tree.specs.declared.classes.Class.{Class}
use Rattle.zim_tree.specs.declared.classes.Class.TheVariants as class
use Rattle.zim_tree.specs.Classes.{word_class}
use Rattle.zim_tree.specs.Levels.{unary, sum, disjunction, placed}
use Rattle.zim_tree.specs.Grammar.{ReadsList}
use Rattle.zim_tree.specs.StatementGrammar.{word_at, ReadsGiven, ReadsRows, the_last_row, one_more_row, ReadsTable, a_table, ReadsSetSide, a_set, a_set_read, a_family, a_set_for_each, sets_listed, ReadsParSide, a_value, a_value_read, a_value_for_each, values_listed, values_in_table, values_read, the_default}
use Rattle.zim_parse_expression.specs.Parser.{Inner, Parsed, and_then, expect, arguments}
use Rattle.zim_scan.specs.Nesting.{is_left_paren}
use Rattle.zim_parse_expression.specs.StatementTokens.{expect_token, is_bar, is_default, is_read, is_left_brace, begins_read, sees}
use Rattle.zim_parse.specs.StatementParser.{table_row, rows_at, table_rows, table_behind, set_read, set_value, is_family, family_word, family_call, set_side_of, entry_of, given_of, par_value, par_read, par_table, par_entries, par_default, par_read_alone, par_side_of}
use Rattle.zim_parse_expression.proofs.BeginningLaws.{no}
use Rattle.zim_parse_expression.proofs.InversionLaws.{then_parts, answer, Split, Got, concluded, prefixed, appended, single, infixed, enclosed, got_left_paren, got_right_brace, got_items}
use Rattle.zim_parse_expression.proofs.PrimarySoundLaws.{SoundInner, items_sound, arguments_sound}
use Rattle.zim_parse.proofs.StatementSound.{token_fixed, bar_back, default_back, left_brace_back, reading_sound, ReadsEntry, entry_sound, entries_of_commaed, given_sound}

got_bar : (ts : List Placed) (p : Place) (rest : List Placed) → expect_token is_bar ts ≡ answer p rest → ts ≡ placed p (sign_token SBar) ∷ rest
got_bar = token_fixed is_bar (sign_token SBar) bar_back

-- a row behind its first bar
record GotRow (columns : ℕ) (ts : List Placed) (row : List Expr × List Expr) (rest : List Placed) : Type 0 where
  first : Place
  last : Place
  us : List Placed
  vs : List Placed
  splits : Split ts (us ++ (placed first (sign_token SBar) ∷ (vs ++ placed last (sign_token SBar) ∷ []))) rest
  fits : length row.1 ≡ columns
  items : ReadsList unary us row.0
  values : ReadsList unary vs row.1

row_if : (b : Bool) {A : Type 0} (x : A) (left : List Placed) (y : A) (rest : List Placed) → (if b then answer x left else None) ≡ answer y rest → (b ≡ true) × (answer x left ≡ answer y rest)
row_if true x left y rest h = (refl, h)
row_if false x left y rest h = absurd (none-some (y, rest) h)

row_sound : (inner : Inner) → SoundInner inner → (columns : ℕ) (ts : List Placed) (row : List Expr × List Expr) (rest : List Placed) → table_row inner columns ts ≡ answer row rest → GotRow columns ts row rest
unfolding table_row
row_sound inner s columns ts row rest h =
    let a = then_parts h in
    let b = then_parts a.gave in
    let c = then_parts b.gave in
    let d = then_parts c.gave in
    let items = items_sound inner s unary ts a.first a.behind a.was in
    let values = items_sound inner s unary b.behind c.first c.behind c.was in
    let made : List Expr × List Expr = (a.first, c.first) in
    let t = row_if (nat_eq (length c.first) columns) made d.behind row rest d.gave in
    let same : (made, d.behind) ≡ (row, rest) = same_Some (made, d.behind) (row, rest) t.1 in
    let used : List Placed = items.used ++ (placed b.first (sign_token SBar) ∷ (values.used ++ placed d.first (sign_token SBar) ∷ [])) in
    record {
      first = b.first;
      last = d.first;
      us = items.used;
      vs = values.used;
      splits = subst (λ (z : (List Expr × List Expr) × List Placed). Split ts used z.1) same
          (infixed (placed b.first (sign_token SBar)) items.splits (got_bar a.behind b.first b.behind b.was) (appended values.splits (single (placed d.first (sign_token SBar)) (got_bar c.behind d.first d.behind d.was))));
      fits = subst (λ (z : (List Expr × List Expr) × List Placed). length z.0.1 ≡ columns) same (eqb-true (length c.first) columns t.0);
      items = subst (λ (z : (List Expr × List Expr) × List Placed). ReadsList unary items.used z.0.0) same items.derives;
      values = subst (λ (z : (List Expr × List Expr) × List Placed). ReadsList unary values.used z.0.1) same values.derives;
    }

-- the right sides

set_value_sound : (inner : Inner) → SoundInner inner → (ts : List Placed) (side : SetSide) (rest : List Placed) → set_value inner ts ≡ answer side rest → Got (ReadsSetSide None) ts side rest
set_value_sound inner s ts side rest h =
    let a = then_parts h in
    let d = (s sum).gets ts a.first a.behind a.was in
    concluded (ReadsSetSide None) (a_set d.derives) d.splits a.gave

set_read_sound : (inner : Inner) → SoundInner inner → (ts : List Placed) (side : SetSide) (rest : List Placed) → set_read inner ts ≡ answer side rest → Got (ReadsSetSide None) ts side rest
set_read_sound inner s ts side rest h =
    let a = then_parts h in
    let b = then_parts a.gave in
    let c = then_parts b.gave in
    let r = reading_sound inner s a.behind b.first b.behind b.was in
    concluded (ReadsSetSide None) (a_set_read a.first c.first r.derives)
    (enclosed (placed a.first (sign_token SLeftBrace)) (placed c.first (sign_token SRightBrace)) (token_fixed is_left_brace (sign_token SLeftBrace) left_brace_back ts a.first a.behind a.was) r.splits (got_right_brace b.behind c.first c.behind c.was)) c.gave

set_by_read : (inner : Inner) → SoundInner inner → (b : Bool) (ts : List Placed) (side : SetSide) (rest : List Placed) → (if b then set_read inner ts else set_value inner ts) ≡ answer side rest → Got (ReadsSetSide None) ts side rest
set_by_read inner s true ts side rest h = set_read_sound inner s ts side rest h
set_by_read inner s false ts side rest h = set_value_sound inner s ts side rest h

family_class : (k : Class) → is_family k ≡ true → k ≡ class.Family
family_class class.Family h = refl
family_class _ h = no h

family_if : (inner : Inner) → SoundInner inner → (p : Place) (w : Word) (more : List Placed) (b : Bool) → (b ≡ true → is_family (word_class w) ≡ true) → (side : SetSide) (rest : List Placed) →
    (if b then and_then (expect is_left_paren more) (λ q r1. and_then (arguments inner r1) (λ given left. answer (set_side.Value (tree.Func p w given)) left)) else None) ≡ answer side rest →
    Got (ReadsSetSide (Some bracket.Empty)) (word_at p w ∷ more) side rest
family_if inner s p w more true k side rest h =
    let a = then_parts h in
    let b = then_parts a.gave in
    let g = arguments_sound inner s a.behind b.first b.behind b.was in
    concluded (ReadsSetSide (Some bracket.Empty)) (a_family p a.first g.0 w (family_class (word_class w) (k refl)) g.3)
    (prefixed (word_at p w) refl (prefixed (placed a.first (sign_token SLeftParen)) (got_left_paren more a.first a.behind a.was) g.2)) b.gave
family_if inner s p w more false k side rest h = absurd (none-some (side, rest) h)

family_by : (inner : Inner) → SoundInner inner → (p : Place) (token : Token) (more : List Placed) (side : SetSide) (rest : List Placed) → family_word inner (placed p token) more token ≡ answer side rest → Got (ReadsSetSide (Some bracket.Empty)) (placed p token ∷ more) side rest
family_by inner s p (word_token w) more side rest h = family_if inner s p w more (is_family (word_class w)) (λ k. k) side rest h
family_by inner s p (sign_token SLess) more side rest h = absurd (none-some (side, rest) h)
family_by inner s p _ more side rest h = absurd (none-some (side, rest) h)

family_sound : (inner : Inner) → SoundInner inner → (ts : List Placed) (side : SetSide) (rest : List Placed) → family_call inner ts ≡ answer side rest → Got (ReadsSetSide (Some bracket.Empty)) ts side rest
family_sound inner s [] side rest h = absurd (none-some (side, rest) h)
family_sound inner s (t ∷ more) side rest h = family_by inner s t.place t.token more side rest h

pub set_side_sound : (inner : Inner) → SoundInner inner → (brackets : Option Bracket) (ts : List Placed) (side : SetSide) (rest : List Placed) → set_side_of inner brackets ts ≡ answer side rest → Got (ReadsSetSide brackets) ts side rest
unfolding set_side_of
set_side_sound inner s None ts side rest h = set_by_read inner s (begins_read ts) ts side rest h
set_side_sound inner s (Some bracket.Empty) ts side rest h = family_sound inner s ts side rest h
set_side_sound inner s (Some (bracket.Loop index)) ts side rest h =
    let a = then_parts h in
    let d = (s sum).gets ts a.first a.behind a.was in
    concluded (ReadsSetSide (Some (bracket.Loop index))) (a_set_for_each d.derives) d.splits a.gave
set_side_sound inner s (Some (bracket.Over over)) ts side rest h =
    let a = then_parts h in
    let g = got_items ReadsEntry (entry_of inner) (entry_sound inner s) ts a.first a.behind a.was in
    concluded (ReadsSetSide (Some (bracket.Over over))) (sets_listed (entries_of_commaed g.derives)) g.splits a.gave

-- tables

rows_by : {columns : ℕ} {ts behind : List Placed} {row : List Expr × List Expr} (p : Place) → GotRow columns ts row behind → (more : List Placed → Parsed (List (List Expr × List Expr))) →
    ((q : Place) (us : List Placed) (rows : List (List Expr × List Expr)) (rest : List Placed) → more us ≡ answer rows rest → Got (ReadsRows columns) (placed q (sign_token SBar) ∷ us) rows rest) →
    (inner : Inner) (o : Parsed Place) → expect_token is_bar behind ≡ o → (rows : List (List Expr × List Expr)) (rest : List Placed) → rows_at inner columns more row o behind ≡ answer rows rest →
    Got (ReadsRows columns) (placed p (sign_token SBar) ∷ ts) rows rest
rows_by {columns = columns} p g more recur inner None e rows rest h =
    concluded (ReadsRows columns) (the_last_row p g.first g.last g.fits g.items g.values) (prefixed (placed p (sign_token SBar)) refl g.splits) h
rows_by {columns = columns} {ts = ts} {behind = behind} p g more recur inner (Some x) e rows rest h =
    let a = then_parts h in
    let l = recur x.0 x.1 a.first a.behind a.was in
    let next : Split behind l.used a.behind = record { parts = got_bar behind x.0 x.1 e ∙ l.splits.parts } in
    let whole : Split ts ((g.us ++ (placed g.first (sign_token SBar) ∷ (g.vs ++ placed g.last (sign_token SBar) ∷ []))) ++ l.used) a.behind = appended g.splits next in
    let tidy : (g.us ++ (placed g.first (sign_token SBar) ∷ (g.vs ++ placed g.last (sign_token SBar) ∷ []))) ++ l.used ≡ g.us ++ (placed g.first (sign_token SBar) ∷ (g.vs ++ (placed g.last (sign_token SBar) ∷ l.used))) =
    append_assoc g.us (placed g.first (sign_token SBar) ∷ (g.vs ++ placed g.last (sign_token SBar) ∷ [])) l.used ∙ ap (λ (m : List Placed). g.us ++ (placed g.first (sign_token SBar) ∷ m)) (append_assoc g.vs (placed g.last (sign_token SBar) ∷ []) l.used) in
    concluded (ReadsRows columns) (one_more_row p g.first g.last g.fits g.items g.values l.derives)
    (prefixed (placed p (sign_token SBar)) refl (subst (λ (m : List Placed). Split ts m a.behind) tidy whole)) a.gave

rows_sound : (inner : Inner) → SoundInner inner → (columns turns : ℕ) (p : Place) (ts : List Placed) (rows : List (List Expr × List Expr)) (rest : List Placed) → table_rows inner columns turns ts ≡ answer rows rest →
    Got (ReadsRows columns) (placed p (sign_token SBar) ∷ ts) rows rest
unfolding table_rows
rows_sound inner s columns zero p ts rows rest h = absurd (none-some (rows, rest) h)
rows_sound inner s columns (suc turns) p ts rows rest h =
    let a = then_parts h in
    rows_by p (row_sound inner s columns ts a.first a.behind a.was) (table_rows inner columns turns) (λ q us more left e. rows_sound inner s columns turns q us more left e) inner (expect_token is_bar a.behind) refl rows rest a.gave

table_sound : (inner : Inner) → SoundInner inner → (p : Place) (ts : List Placed) (table : Table) (rest : List Placed) → table_behind inner ts ≡ answer table rest → Got ReadsTable (placed p (sign_token SBar) ∷ ts) table rest
unfolding table_behind
table_sound inner s p ts table rest h =
    let a = then_parts h in
    let b = then_parts a.gave in
    let c = then_parts b.gave in
    let d = then_parts c.gave in
    let head = items_sound inner s unary ts a.first a.behind a.was in
    let rows = rows_sound inner s (length a.first) (suc (length c.behind)) c.first c.behind d.first d.behind d.was in
    let next : Split b.behind rows.used d.behind = record { parts = got_bar b.behind c.first c.behind c.was ∙ rows.splits.parts } in
    concluded ReadsTable (a_table p b.first head.derives rows.derives)
    (prefixed (placed p (sign_token SBar)) refl (infixed (placed b.first (sign_token SBar)) head.splits (got_bar a.behind b.first b.behind b.was) next)) d.gave

-- parameters

default_sound : (inner : Inner) → SoundInner inner → (ts : List Placed) (given : Option (Place × Expr)) (rest : List Placed) → given_of inner is_default ts ≡ answer given rest → Got (ReadsGiven WDefault) ts given rest
default_sound inner s = given_sound inner s WDefault is_default default_back

par_alone_if : (inner : Inner) → SoundInner inner → (b : Bool) (ts : List Placed) (side : ParSide) (rest : List Placed) → (if b then par_read_alone inner ts else par_value inner ts) ≡ answer side rest → Got (ReadsParSide None) ts side rest
par_alone_if inner s true ts side rest h =
    let a = then_parts h in
    let r = reading_sound inner s ts a.first a.behind a.was in
    concluded (ReadsParSide None) (a_value_read r.derives) r.splits a.gave
par_alone_if inner s false ts side rest h =
    let a = then_parts h in
    let d = (s disjunction).gets ts a.first a.behind a.was in
    concluded (ReadsParSide None) (a_value d.derives) d.splits a.gave

par_over_read : (inner : Inner) → SoundInner inner → (over : Expr) (b : Bool) (ts : List Placed) (side : ParSide) (rest : List Placed) → (if b then par_read inner ts else par_entries inner ts) ≡ answer side rest → Got (ReadsParSide (Some (bracket.Over over))) ts side rest
par_over_read inner s over true ts side rest h =
    let a = then_parts h in
    let b = then_parts a.gave in
    let r = reading_sound inner s ts a.first a.behind a.was in
    let g = default_sound inner s a.behind b.first b.behind b.was in
    concluded (ReadsParSide (Some (bracket.Over over))) (values_read r.derives g.derives) (appended r.splits g.splits) b.gave
par_over_read inner s over false ts side rest h =
    let a = then_parts h in
    let b = then_parts a.gave in
    let l = got_items ReadsEntry (entry_of inner) (entry_sound inner s) ts a.first a.behind a.was in
    let g = default_sound inner s a.behind b.first b.behind b.was in
    concluded (ReadsParSide (Some (bracket.Over over))) (values_listed (entries_of_commaed l.derives) g.derives) (appended l.splits g.splits) b.gave

par_over_bar : (inner : Inner) → SoundInner inner → (over : Expr) (b : Bool) (ts : List Placed) (side : ParSide) (rest : List Placed) →
    (if b then par_table inner ts else (if sees is_read ts then par_read inner ts else par_entries inner ts)) ≡ answer side rest → Got (ReadsParSide (Some (bracket.Over over))) ts side rest
par_over_bar inner s over true ts side rest h =
    let a = then_parts h in
    let b = then_parts a.gave in
    let c = then_parts b.gave in
    let t = table_sound inner s a.first a.behind b.first b.behind b.was in
    let g = default_sound inner s b.behind c.first c.behind c.was in
    let whole : Split ts t.used b.behind = record { parts = got_bar ts a.first a.behind a.was ∙ t.splits.parts } in
    concluded (ReadsParSide (Some (bracket.Over over))) (values_in_table t.derives g.derives) (appended whole g.splits) c.gave
par_over_bar inner s over false ts side rest h = par_over_read inner s over (sees is_read ts) ts side rest h

par_over_default : (inner : Inner) → SoundInner inner → (over : Expr) (b : Bool) (ts : List Placed) (side : ParSide) (rest : List Placed) →
    (if b then par_default inner ts else (if sees is_bar ts then par_table inner ts else (if sees is_read ts then par_read inner ts else par_entries inner ts))) ≡ answer side rest → Got (ReadsParSide (Some (bracket.Over over))) ts side rest
par_over_default inner s over true ts side rest h =
    let a = then_parts h in
    let b = then_parts a.gave in
    let d = (s sum).gets a.behind b.first b.behind b.was in
    concluded (ReadsParSide (Some (bracket.Over over))) (the_default a.first d.derives) (prefixed (word_at a.first WDefault) (token_fixed is_default (word_token WDefault) default_back ts a.first a.behind a.was) d.splits) b.gave
par_over_default inner s over false ts side rest h = par_over_bar inner s over (sees is_bar ts) ts side rest h

pub par_side_sound : (inner : Inner) → SoundInner inner → (brackets : Option Bracket) (ts : List Placed) (side : ParSide) (rest : List Placed) → par_side_of inner brackets ts ≡ answer side rest → Got (ReadsParSide brackets) ts side rest
unfolding par_side_of
par_side_sound inner s None ts side rest h = par_alone_if inner s (sees is_read ts) ts side rest h
par_side_sound inner s (Some bracket.Empty) ts side rest h = absurd (none-some (side, rest) h)
par_side_sound inner s (Some (bracket.Loop index)) ts side rest h =
    let a = then_parts h in
    let d = (s disjunction).gets ts a.first a.behind a.was in
    concluded (ReadsParSide (Some (bracket.Loop index))) (a_value_for_each d.derives) d.splits a.gave
par_side_sound inner s (Some (bracket.Over over)) ts side rest h = par_over_default inner s over (sees is_default ts) ts side rest h
