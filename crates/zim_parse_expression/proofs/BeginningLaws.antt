-- How the tokens of a derivation begin, level by level.
use Rattle.std.proofs.Common.{◌≡◌, Bool, true, false, not, if◌then◌else◌, List, [], ◌∷◌, ◌++◌, refl, sym, ap, append_assoc, true≢false}
use Rattle.zim_fault.specs.declared.tokens.Placed.{Placed}
use Rattle.zim_tree.specs.declared.expr.Expr.{Expr}
use Rattle.zim_tree.specs.declared.expr.Index.{Index}
use Rattle.zim_tree.specs.declared.classes.Class.{Class}
use Rattle.zim_tree.specs.declared.classes.Class.TheVariants as class
use Rattle.zim_tree.specs.Levels.{Level, primary, postfix, power, unary, product, big, loop, term, sum, comparison, negation, conjunction, disjunction, whole, Chain, products, sums, relations, conjunctions, disjunctions, level_of, operand_of, exclamations, is_function, is_loop}
use Rattle.zim_tree.specs.Grammar.{Reads, ReadsIndex, a_number, a_text, a_truth, an_infinity, a_name, an_item, a_bare_call, a_call, a_function, a_projection, in_parentheses, in_braces, an_if, an_if_with_else, a_postfix, no_power, a_power, no_sign, a_sign, a_big, no_loop_sign, a_loop_sign, a_product, a_loop as a_looping_term, a_product_with_loop, a_chain, a_member, no_not, a_not as a_negation, no_forall, a_forall as a_for_all, a_tuple, an_index, an_index_with}
use Rattle.zim_scan.specs.Nesting.{begins_paren, class_at}
use Rattle.zim_parse_expression.specs.Next.{begins_loop, starts_loop, Start, an_operand, a_signed, a_loop, a_signed_loop, a_less, a_not, a_forall, start_at, start_of, is_open}

pub no : {A : Type 0} → false ≡ true → A
no h = absurd (true≢false (sym h))

-- tokens of a power begin with an operand
abbrev pub is_plain : Start → Bool
is_plain an_operand = true
is_plain _ = false

-- tokens of a product begin with an operand or a sign before one
abbrev pub is_factor : Start → Bool
is_factor an_operand = true
is_factor a_signed = true
is_factor _ = false

abbrev pub is_bare_loop : Start → Bool
is_bare_loop a_loop = true
is_bare_loop _ = false

-- tokens of a sum begin with an operand or a loop, with or without a sign
abbrev pub is_term : Start → Bool
is_term an_operand = true
is_term a_signed = true
is_term a_loop = true
is_term a_signed_loop = true
is_term _ = false

abbrev pub is_compared : Start → Bool
is_compared a_less = true
is_compared s = is_term s

abbrev pub is_joined : Start → Bool
is_joined a_not = true
is_joined s = is_compared s

-- tokens of any expression begin with one of these
abbrev pub is_whole : Start → Bool
is_whole a_forall = true
is_whole s = is_joined s

-- how the tokens of a level may begin
abbrev pub allowed : Level → Start → Bool
allowed primary = is_plain
allowed postfix = is_plain
allowed power = is_plain
allowed unary = is_factor
allowed product = is_factor
allowed big = is_bare_loop
allowed loop = is_open
allowed term = is_term
allowed sum = is_term
allowed comparison = is_compared
allowed negation = is_joined
allowed conjunction = is_joined
allowed disjunction = is_joined
allowed whole = is_whole

plain_factor : (s : Start) → is_plain s ≡ true → is_factor s ≡ true
plain_factor an_operand h = refl
plain_factor _ h = no h

loop_open : (s : Start) → is_bare_loop s ≡ true → is_open s ≡ true
loop_open a_loop h = refl
loop_open _ h = no h

factor_term : (s : Start) → is_factor s ≡ true → is_term s ≡ true
factor_term an_operand h = refl
factor_term a_signed h = refl
factor_term _ h = no h

open_term : (s : Start) → is_open s ≡ true → is_term s ≡ true
open_term a_loop h = refl
open_term a_signed_loop h = refl
open_term _ h = no h

term_compared : (s : Start) → is_term s ≡ true → is_compared s ≡ true
term_compared a_less h = refl
term_compared _ h = h

compared_joined : (s : Start) → is_compared s ≡ true → is_joined s ≡ true
compared_joined a_not h = refl
compared_joined _ h = h

joined_whole : (s : Start) → is_joined s ≡ true → is_whole s ≡ true
joined_whole a_forall h = refl
joined_whole _ h = h

chain_allowed : (chain : Chain) (s : Start) → allowed (operand_of chain) s ≡ true → allowed (level_of chain) s ≡ true
chain_allowed products s h = h
chain_allowed sums s h = h
chain_allowed relations s h = term_compared s h
chain_allowed conjunctions s h = h
chain_allowed disjunctions s h = h

-- what is no loop

if_false : {A : Type 0} (b : Bool) (x y : A) → b ≡ false → (if b then x else y) ≡ y
if_false true x y h = absurd (true≢false h)
if_false false x y h = refl

if_true : {A : Type 0} (b : Bool) (x y : A) → b ≡ true → (if b then x else y) ≡ x
if_true true x y h = refl
if_true false x y h = no h

function_start : (k : Class) (rest : List Placed) → is_function k ≡ true → begins_paren rest ≡ true → is_plain (start_at k rest) ≡ true
function_start class.Function rest h b = refl
function_start class.MinOrMax rest h b = ap is_plain (if_true (begins_paren rest) an_operand a_loop b)
function_start _ rest h b = no h

loop_start : (k : Class) (rest : List Placed) → is_loop k ≡ true → begins_paren rest ≡ false → is_bare_loop (start_at k rest) ≡ true
loop_start class.Loop rest h b = refl
loop_start class.MinOrMax rest h b = ap is_bare_loop (if_false (begins_paren rest) an_operand a_loop b)
loop_start _ rest h b = no h

min_is_plain : (b : Bool) → is_plain (if b then an_operand else a_loop) ≡ true → not b ≡ false
min_is_plain true h = refl
min_is_plain false h = no h

plain_loopless : (k : Class) (rest : List Placed) → is_plain (start_at k rest) ≡ true → begins_loop k rest ≡ false
plain_loopless class.Loop rest h = no h
plain_loopless class.MinOrMax rest h = min_is_plain (begins_paren rest) h
plain_loopless _ rest h = refl

pub plain_starts_no_loop : (ts : List Placed) → is_plain (start_of ts) ≡ true → starts_loop ts ≡ false
plain_starts_no_loop [] h = refl
plain_starts_no_loop (t ∷ rest) h = plain_loopless (class_at t) rest h

min_is_loop : (b : Bool) → is_bare_loop (if b then an_operand else a_loop) ≡ true → not b ≡ true
min_is_loop true h = no h
min_is_loop false h = refl

signed_is_no_loop : (b : Bool) → is_bare_loop (if b then a_signed_loop else a_signed) ≡ true → false ≡ true
signed_is_no_loop true h = h
signed_is_no_loop false h = h

bare_loop : (k : Class) (rest : List Placed) → is_bare_loop (start_at k rest) ≡ true → begins_loop k rest ≡ true
bare_loop class.Loop rest h = refl
bare_loop class.MinOrMax rest h = min_is_loop (begins_paren rest) h
bare_loop class.PlusOrMinus rest h = no (signed_is_no_loop (starts_loop rest) h)
bare_loop _ rest h = no h

pub bare_loop_starts : (ts : List Placed) → is_bare_loop (start_of ts) ≡ true → starts_loop ts ≡ true
bare_loop_starts [] h = no h
bare_loop_starts (t ∷ rest) h = bare_loop (class_at t) rest h

pub factor_not_open : (s : Start) → is_factor s ≡ true → is_open s ≡ false
factor_not_open an_operand h = refl
factor_not_open a_signed h = refl
factor_not_open _ h = no h

index_no_paren : {ts : List Placed} {index : Index} → ReadsIndex ts index → (rest : List Placed) → begins_paren (ts ++ rest) ≡ false
index_no_paren (an_index p (a_tuple q r l) e) rest = refl
index_no_paren (an_index_with p q bar (a_tuple r s l) e f) rest = refl

begins_split : (level : Level) (ts us rest : List Placed) → allowed level (start_of (ts ++ (us ++ rest))) ≡ true → allowed level (start_of ((ts ++ us) ++ rest)) ≡ true
begins_split level ts us rest h = rw (append_assoc ts us rest) h

-- tokens of a level begin as the level allows, whatever follows them
pub begins : {level : Level} {ts : List Placed} {e : Expr} → Reads level ts e → (rest : List Placed) → allowed level (start_of (ts ++ rest)) ≡ true
begins (a_number p digits) rest = refl
begins (a_text p text double) rest = refl
begins (a_truth p true) rest = refl
begins (a_truth p false) rest = refl
begins (an_infinity p) rest = refl
begins (a_name p name) rest = refl
begins (an_item p q r name d) rest = refl
begins (a_bare_call p q r name) rest = refl
begins (a_call p q r name d) rest = refl
begins (a_function p q r w h d) rest = function_start _ _ h refl
begins (a_projection p q r s d e) rest = refl
begins (in_parentheses p q d) rest = refl
begins (in_braces p q d) rest = refl
begins (an_if p q r true d e) rest = refl
begins (an_if p q r false d e) rest = refl
begins (an_if_with_else p q r s true d e f) rest = refl
begins (an_if_with_else p q r s false d e f) rest = refl
begins (a_postfix marks {ts = ts} d) rest = begins_split postfix ts (exclamations marks) rest (begins d _)
begins (no_power d) rest = begins d rest
begins (a_power p sign signed {ts = ts} h d e) rest = begins_split power ts _ rest (begins d _)
begins (no_sign d) rest = plain_factor _ (begins d rest)
begins (a_sign p true {ts = ts} d) rest = ap is_factor (if_false (starts_loop (ts ++ rest)) a_signed_loop a_signed (plain_starts_no_loop (ts ++ rest) (begins d rest)))
begins (a_sign p false {ts = ts} d) rest = ap is_factor (if_false (starts_loop (ts ++ rest)) a_signed_loop a_signed (plain_starts_no_loop (ts ++ rest) (begins d rest)))
begins (a_big p q w with_do {ts = ts} h d e) rest =
    loop_start _ _ h (rw (append_assoc ts (_ ∷ _) rest) (index_no_paren d _))
begins (no_loop_sign d) rest = loop_open _ (begins d rest)
begins (a_loop_sign p true {ts = ts} d) rest = ap is_open (if_true (starts_loop (ts ++ rest)) a_signed_loop a_signed (bare_loop_starts (ts ++ rest) (begins d rest)))
begins (a_loop_sign p false {ts = ts} d) rest = ap is_open (if_true (starts_loop (ts ++ rest)) a_signed_loop a_signed (bare_loop_starts (ts ++ rest) (begins d rest)))
begins (a_product d) rest = factor_term _ (begins d rest)
begins (a_looping_term d) rest = open_term _ (begins d rest)
begins (a_product_with_loop p token {ts = ts} h d e) rest = begins_split term ts _ rest (factor_term _ (begins d _))
begins (a_chain chain {ts = ts} {us = us} h d e) rest = begins_split (level_of chain) ts us rest (chain_allowed chain _ (begins d (us ++ rest)))
begins (a_member p (a_tuple q r l) e) rest = refl
begins (no_not d) rest = compared_joined _ (begins d rest)
begins (a_negation p d) rest = refl
begins (no_forall d) rest = joined_whole _ (begins d rest)
begins (a_for_all p q with_do d e) rest = refl
