-- The tokens of a derivation of a statement nest as the statement.
use Rattle.std.proofs.Common.{◌≡◌, ℕ, ◌+◌, ◌≤◌, Bool, true, false, List, [], ◌∷◌, ◌++◌, map, Option, refl, sym, ap, ◌∙◌, append-nil, append_assoc, true≢false, arith}
use Rattle.std.specs.Prelude.{max}
use Rattle.zim_fault.specs.declared.faults.Place.{Place}
use Rattle.zim_fault.specs.declared.tokens.Token.TheVariants.{Word as word_token, Sign as sign_token}
use Rattle.zim_fault.specs.declared.tokens.Placed.{Placed}
use Rattle.zim_fault.specs.declared.signs.Sign.TheVariants.{SComma, SBar, SRightParen, SSemicolon}
use Rattle.zim_fault.specs.declared.words.Word.{Word}
use Rattle.zim_fault.specs.declared.words.Word.TheVariants.{WDefnumb, WDefstrg, WDefbool, WDefset, WSkip, WUse, WComment, WReal, WInteger, WBinary}
use Rattle.zim_tree.specs.declared.expr.Expr.{Expr}
use Rattle.zim_tree.specs.declared.expr.Angle.{Angle}
use Rattle.zim_tree.specs.declared.expr.Index.{Index}
use Rattle.zim_tree.specs.declared.stmt.Stmt.{Stmt}
use Rattle.zim_tree.specs.declared.stmt.Shape.{Shape}
use Rattle.zim_tree.specs.declared.stmt.Bracket.{Bracket}
use Rattle.zim_tree.specs.declared.stmt.SetSide.{SetSide}
use Rattle.zim_tree.specs.declared.stmt.ParSide.{ParSide}
use Rattle.zim_tree.specs.declared.stmt.Table.{Table}
use Rattle.zim_tree.specs.declared.stmt.Limit.{Limit}
use Rattle.zim_tree.specs.declared.stmt.Reading.{Reading}
use Rattle.zim_tree.specs.declared.stmt.Doing.{Doing, Doing-F, roll-Doing, map-Doing, fold-roll-Doing}
use Rattle.zim_tree.specs.declared.stmt.Doing.TheVariants.{Print, Check, Forall, rolls-Print, rolls-Check, rolls-Forall}
use Rattle.zim_tree.specs.declared.stmt.Printed.{Printed}
use Rattle.zim_tree.specs.declared.classes.Class.{Class}
use Rattle.zim_tree.specs.declared.classes.Class.TheVariants as class
use Rattle.zim_tree.specs.Classes.{token_class, word_class}
use Rattle.zim_tree.specs.Levels.{placed}
use Rattle.zim_tree.specs.StatementGrammar.{is_option, is_definition, is_kind, limit_token, goal_word, ReadsOptions, no_option, an_option, ReadsReading, a_reading, ReadsEntries, the_last_entry, one_more_entry, ReadsRows, the_last_row, one_more_row, ReadsTable, a_table, ReadsGiven, not_given, is_given, ReadsSetSide, a_set, a_set_read, a_family, a_set_for_each, sets_listed, ReadsParSide, a_value, a_value_read, a_value_for_each, values_listed, values_in_table, values_read, the_default, ReadsBracket, a_bracket_loop, a_bracket_over, ReadsBrackets, no_bracket, a_bracket, ReadsSetBrackets, filled_or_none, empty_brackets, ReadsKind, no_kind, a_kind, ReadsLimits, no_limit, a_limit, ReadsPrinted, a_printed_value, a_printed_tuple, ReadsPrintedList, the_last_printed, one_more_printed, ReadsDoing, a_print, a_check, for_each, ReadsNames, the_last_name, one_more_name, ReadsParameters, no_parameter, the_parameters, ReadsShape, a_set_statement, a_param_statement, a_var_statement, a_goal_statement, a_subto_statement, a_definition, a_do_statement, ReadsStatement, a_statement}
use Rattle.zim_scan.specs.Nesting.{class_at}
use Rattle.zim_nesting.specs.TokenNesting.{greatest_nesting, nesting_of}
use Rattle.zim_nesting.specs.Depth.{Depth, no_nesting, a_loop, nesting_in_brackets, ◌followed_by◌, followed, all, depth, index_depth, bracket_depth, brackets_depth, option_depth, reading_depth, entry_depth, row_depth, table_depth, given_depth, set_side_depth, par_side_depth, limit_depth, printed_depth, doing_nesting, doing_depth, shape_depth}
use Rattle.zim_nesting.specs.Law.{NestsAsItsTokens}
use Rattle.zim_nesting.proofs.PieceLemmas.{Nests, is_plain, plain-then, as_tokens, as_depth, nothing_nests, loop_before, join, in_brackets, plain_before, one_plain, plain_behind, greatest-nil}
use Rattle.zim_nesting.proofs.DepthLaws.{depth-Func}
use Rattle.zim_nesting.proofs.DerivationNesting.{by, one_on, comma_on, with_nothing, separator-plain, reads-nest, list-nests, tuple-nests, index-nests}

no : {A : Type 0} → false ≡ true → A
no h = absurd (true≢false (sym h))

option-plain : (word : Word) → is_option word ≡ true → is_plain (word_class word) ≡ true
option-plain WSkip h = refl
option-plain WUse h = refl
option-plain WComment h = refl
option-plain _ h = no h

definition-plain : (word : Word) → is_definition word ≡ true → is_plain (word_class word) ≡ true
definition-plain WDefnumb h = refl
definition-plain WDefstrg h = refl
definition-plain WDefbool h = refl
definition-plain WDefset h = refl
definition-plain _ h = no h

kind-plain : (word : Word) → is_kind word ≡ true → is_plain (word_class word) ≡ true
kind-plain WReal h = refl
kind-plain WInteger h = refl
kind-plain WBinary h = refl
kind-plain _ h = no h

limit-plain : (lower : Bool) → is_plain (token_class (limit_token lower)) ≡ true
limit-plain true = refl
limit-plain false = refl

goal-plain : (maximize : Bool) → is_plain (word_class (goal_word maximize)) ≡ true
goal-plain true = refl
goal-plain false = refl

family-plain : (c : Class) → c ≡ class.Family → is_plain c ≡ true
family-plain c e = rw e refl

options-nest : {ts : List Placed} {options : List (Place × Word × Expr)} (r : ReadsOptions ts options) {us : List Placed} {d : Depth} → Nests us d → Nests (us ++ ts) (followed d (map option_depth options))
options-nest no_option {us} g = as_tokens g (sym (append-nil us))
options-nest (an_option p word {ts = ts} h d e) {us} g = one_on us (placed p (word_token word) ∷ ts) _ (options-nest e (join g (plain_before (option-plain word h) (reads-nest d))))

reading-nests : {ts : List Placed} {reading : Reading} → ReadsReading ts reading → Nests ts (reading_depth reading)
reading-nests (a_reading p q h d e f) = plain_before refl (join (reads-nest d) (plain_before refl (join (reads-nest e) (options-nest f nothing_nests))))

entries-nest : {ts : List Placed} {entries : List (Angle × Expr)} (r : ReadsEntries ts entries) {us : List Placed} {d : Depth} → Nests us d → Nests (us ++ ts) (followed d (map entry_depth entries))
entries-nest (the_last_entry d e) g = join g (join (tuple-nests d) (reads-nest e))
entries-nest (one_more_entry p {ts = ts} {us = vs} {vs = ws} d e f) {us} g = as_tokens
    (comma_on us (ts ++ vs) ws (placed p (sign_token SComma)) (entries-nest f (join g (plain_behind (placed p (sign_token SComma)) refl (join (tuple-nests d) (reads-nest e))))))
    (ap (λ z. us ++ z) (append_assoc ts vs (placed p (sign_token SComma) ∷ ws)))

row-nests : (p q r : Placed) {ts us : List Placed} {x y : Depth} → is_plain (class_at p) ≡ true → is_plain (class_at q) ≡ true → is_plain (class_at r) ≡ true →
    Nests ts x → Nests us y → Nests (p ∷ (ts ++ (q ∷ (us ++ r ∷ [])))) (x followed_by y)
row-nests p q r i j k g h = plain_before i (join g (plain_before j (plain_behind r k h)))

rows-nest : {columns : ℕ} {ts : List Placed} {rows : List (List Expr × List Expr)} (r : ReadsRows columns ts rows) {us : List Placed} {d : Depth} → Nests us d → Nests (us ++ ts) (followed d (map row_depth rows))
rows-nest (the_last_row p q r h d e) g = join g (row-nests (placed p (sign_token SBar)) (placed q (sign_token SBar)) (placed r (sign_token SBar)) refl refl refl (list-nests d nothing_nests) (list-nests e nothing_nests))
rows-nest (one_more_row p q r {ts = ts} {us = vs} {vs = ws} h d e f) {us} g = as_tokens
    (rows-nest f (join g (row-nests (placed p (sign_token SBar)) (placed q (sign_token SBar)) (placed r (sign_token SBar)) refl refl refl (list-nests d nothing_nests) (list-nests e nothing_nests))))
    (simp append_assoc refl)

table-nests : {ts : List Placed} {table : Table} → ReadsTable ts table → Nests ts (table_depth table)
table-nests (a_table p q d e) = plain_before refl (join (list-nests d nothing_nests) (plain_before refl (rows-nest e nothing_nests)))

given-nests : {word : Word} {ts : List Placed} {given : Option (Place × Expr)} → is_plain (word_class word) ≡ true → ReadsGiven word ts given → Nests ts (given_depth given)
given-nests is not_given = nothing_nests
given-nests is (is_given p d) = plain_before is (reads-nest d)

set_side-nests : {brackets : Option Bracket} {ts : List Placed} {side : SetSide} → ReadsSetSide brackets ts side → Nests ts (set_side_depth side)
set_side-nests (a_set d) = reads-nest d
set_side-nests (a_set_read p q d) = in_brackets _ refl refl (reading-nests d)
set_side-nests (a_family p q r word h d) = by (depth-Func p word _) (plain_before (family-plain (word_class word) h) (in_brackets _ refl refl (list-nests d nothing_nests)))
set_side-nests (a_set_for_each d) = reads-nest d
set_side-nests (sets_listed d) = entries-nest d nothing_nests

par_side-nests : {brackets : Option Bracket} {ts : List Placed} {side : ParSide} → ReadsParSide brackets ts side → Nests ts (par_side_depth side)
par_side-nests (a_value d) = reads-nest d
par_side-nests (a_value_read d) = with_nothing (reading-nests d)
par_side-nests (a_value_for_each d) = reads-nest d
par_side-nests (values_listed d e) = join (entries-nest d nothing_nests) (given-nests refl e)
par_side-nests (values_in_table d e) = join (table-nests d) (given-nests refl e)
par_side-nests (values_read d e) = join (reading-nests d) (given-nests refl e)
par_side-nests (the_default p d) = plain_before refl (reads-nest d)

bracket-nests : {ts : List Placed} {bracket : Bracket} → ReadsBracket ts bracket → Nests ts (bracket_depth bracket)
bracket-nests (a_bracket_loop p q d) = in_brackets _ refl refl (index-nests d)
bracket-nests (a_bracket_over p q d) = in_brackets _ refl refl (reads-nest d)

brackets-nest : {ts : List Placed} {brackets : Option Bracket} → ReadsBrackets ts brackets → Nests ts (brackets_depth brackets)
brackets-nest no_bracket = nothing_nests
brackets-nest (a_bracket d) = bracket-nests d

set_brackets-nest : {ts : List Placed} {brackets : Option Bracket} → ReadsSetBrackets ts brackets → Nests ts (brackets_depth brackets)
set_brackets-nest (filled_or_none d) = brackets-nest d
set_brackets-nest (empty_brackets p q) = in_brackets _ refl refl nothing_nests

kind-nests : {ts : List Placed} {kind : Option Word} → ReadsKind ts kind → Nests ts no_nesting
kind-nests no_kind = nothing_nests
kind-nests (a_kind p word h) = one_plain (kind-plain word h)

limits-nest : {ts : List Placed} {limits : List Limit} (r : ReadsLimits ts limits) {us : List Placed} {d : Depth} → Nests us d → Nests (us ++ ts) (followed d (map limit_depth limits))
limits-nest no_limit {us} g = as_tokens g (sym (append-nil us))
limits-nest (a_limit p lower {ts = ts} d e) {us} g = one_on us (placed p (limit_token lower) ∷ ts) _ (limits-nest e (join g (plain_before (limit-plain lower) (reads-nest d))))

printed-nests : {ts : List Placed} {item : Printed} → ReadsPrinted ts item → Nests ts (printed_depth item)
printed-nests (a_printed_value d) = reads-nest d
printed-nests (a_printed_tuple d) = tuple-nests d

printed_list-nests : {ts : List Placed} {items : List Printed} (r : ReadsPrintedList ts items) {us : List Placed} {d : Depth} → Nests us d → Nests (us ++ ts) (followed d (map printed_depth items))
printed_list-nests (the_last_printed d) g = join g (printed-nests d)
printed_list-nests (one_more_printed p {ts = ts} d e) {us} g =
    comma_on us ts _ (placed p (sign_token SComma)) (printed_list-nests e (join g (plain_behind (placed p (sign_token SComma)) refl (printed-nests d))))

at_doing : (d : Doing-F Doing) → doing_depth (roll-Doing d) ≡ doing_nesting (map-Doing Doing Depth doing_depth d)
at_doing = fold-roll-Doing Depth doing_nesting

pub depth-Print : (place : Place) (items : List Printed) → doing_depth (Print place items) ≡ all (map printed_depth items)
depth-Print place items = ap doing_depth (sym (rolls-Print place items)) ∙ at_doing (Doing-F.Print place items)

pub depth-Check : (place : Place) (test : Expr) → doing_depth (Check place test) ≡ depth test
depth-Check place test = ap doing_depth (sym (rolls-Check place test)) ∙ at_doing (Doing-F.Check place test)

pub depth-Forall : (place : Place) (index : Index) (with_do : Bool) (inside : Doing) → doing_depth (Forall place index with_do inside) ≡ a_loop followed_by index_depth index followed_by doing_depth inside
depth-Forall place index with_do inside = ap doing_depth (sym (rolls-Forall place index with_do inside)) ∙ at_doing (Doing-F.Forall place index with_do inside)

doing-nests : {ts : List Placed} {doing : Doing} → ReadsDoing ts doing → Nests ts (doing_depth doing)
doing-nests (a_print p d) = by (depth-Print p _) (plain_before refl (printed_list-nests d nothing_nests))
doing-nests (a_check p d) = by (depth-Check p _) (plain_before refl (reads-nest d))
doing-nests (for_each p q with_do d e) = by (depth-Forall p _ with_do _)
    (loop_before (λ o. refl) (λ rest l. refl) (join (index-nests d) (plain_before (separator-plain with_do) (doing-nests e))))

names-nest : {ts : List Placed} {names : List (Place × List ℕ)} → ReadsNames ts names → Nests ts no_nesting
names-nest (the_last_name p name) = one_plain refl
names-nest (one_more_name p q name d) = plain_before refl (plain_before refl (names-nest d))

parameters-nest : {ts : List Placed} {names : List (Place × List ℕ)} → ReadsParameters ts names → Nests ts no_nesting
parameters-nest no_parameter = nothing_nests
parameters-nest (the_parameters d) = names-nest d

-- the word and the name before the rest
declares : {p q : Placed} {ts : List Placed} {d : Depth} → is_plain (class_at p) ≡ true → is_plain (class_at q) ≡ true → Nests ts d → Nests (p ∷ (q ∷ ts)) d
declares i j h = plain_before i (plain_before j h)

-- brackets that stand before a piece
bracketed_first : {t : Placed} (u : Placed) (ts us : List Placed) {d : Depth} → Nests ((t ∷ (ts ++ u ∷ [])) ++ us) d → Nests (t ∷ (ts ++ u ∷ us)) d
bracketed_first {t} u ts us h = as_tokens h (ap (λ z. t ∷ z) (append_assoc ts (u ∷ []) us))

shape-nests : {p q : Place} {name : List ℕ} {ts : List Placed} {shape : Shape} → ReadsShape p q name ts shape → Nests ts (shape_depth shape)
shape-nests (a_set_statement p q r name d e) = declares refl refl (join (set_brackets-nest d) (plain_before refl (set_side-nests e)))
shape-nests (a_param_statement p q r name d e) = declares refl refl (join (brackets-nest d) (plain_before refl (par_side-nests e)))
shape-nests (a_var_statement p q name h d e f g i) = declares refl refl (join (brackets-nest d) (as_depth (join (kind-nests e)
    (join (limits-nest f nothing_nests) (join (given-nests refl g) (given-nests refl i)))) (plain-then _)))
shape-nests (a_goal_statement p q r maximize name d) = declares (goal-plain maximize) refl (plain_before refl (reads-nest d))
shape-nests (a_subto_statement p q r name d) = declares refl refl (plain_before refl (reads-nest d))
shape-nests (a_definition p q r s t word name {ts = ts} h d e) = declares (definition-plain word h) refl
    (bracketed_first (placed s (sign_token SRightParen)) ts _ (join (in_brackets _ refl refl (parameters-nest d)) (plain_before refl (reads-nest e))))
shape-nests (a_do_statement p d) = plain_before refl (doing-nests d)

-- what nests as a piece has its nesting
whole : {ts : List Placed} {d : Depth} → Nests ts d → nesting_of ts ≡ d.deepest
whole {ts} {d} h = ap (greatest_nesting 0 0) (sym (append-nil ts)) ∙ h.along 0 0 [] ∙ ap (max (0 + 0 + d.deepest)) (greatest-nil 0 (0 + d.loops)) ∙ highest d.loops d.deepest h.within
  where
    highest : (l k : ℕ) → l ≤ k → max (0 + 0 + k) (0 + (0 + l)) ≡ k
    highest l k h = omega (arith, h)

statement-nests : {ts : List Placed} {stmt : Stmt} → ReadsStatement ts stmt → Nests ts (shape_depth stmt.shape)
statement-nests (a_statement p q r name d) = plain_behind (placed r (sign_token SSemicolon)) refl (shape-nests d)

pub nests_as_its_tokens : NestsAsItsTokens
nests_as_its_tokens ts stmt d = whole (statement-nests d)
