-- How parts of statements begin, as far as the parser looks.
use Rattle.std.proofs.Common.{◌≡◌, ℕ, ◌<◌, Bool, true, false, List, [], ◌∷◌, ◌++◌, length, Some, refl, append_assoc, length-append, arith}
use Rattle.zim_fault.specs.declared.faults.Place.{Place}
use Rattle.zim_fault.specs.declared.tokens.Token.{Token}
use Rattle.zim_fault.specs.declared.tokens.Token.TheVariants.{Word as word_token, Sign as sign_token}
use Rattle.zim_fault.specs.declared.tokens.Placed.{Placed}
use Rattle.zim_fault.specs.declared.signs.Sign.TheVariants.{SLeftBrace, SRightBrace, SGreater}
use Rattle.zim_fault.specs.declared.words.Word.TheVariants.{WRead, WIn}
use Rattle.zim_tree.specs.declared.expr.Expr.{Expr}
use Rattle.zim_tree.specs.declared.expr.Angle.{Angle}
use Rattle.zim_tree.specs.declared.expr.Body.{Body}
use Rattle.zim_tree.specs.Trees.{angle_of}
use Rattle.zim_tree.specs.Classes.{token_class}
use Rattle.zim_tree.specs.Levels.{Level, primary, postfix, power, unary, product, big, loop, term, sum, comparison, negation, conjunction, disjunction, whole, placed, exclamations}
use Rattle.zim_tree.specs.Grammar.{Reads, ReadsList, ReadsBody, a_number, a_text, a_truth, an_infinity, a_name, an_item, a_bare_call, a_call, a_function, a_projection, in_parentheses, in_braces, an_if, an_if_with_else, a_postfix, no_power, a_power, no_sign, a_sign, a_big, no_loop_sign, a_loop_sign, a_product, a_loop as a_looping_term, a_product_with_loop, a_chain, a_member, no_not, a_not as a_negation, no_forall, a_forall as a_for_all, a_tuple, the_last, one_more, the_last_tuple, one_more_tuple, an_index, an_index_with, nothing as no_body, the_members, the_tuples, the_choices, a_span, a_span_by}
use Rattle.zim_parse_expression.specs.Next.{Start, an_operand, a_signed, a_loop, a_signed_loop, a_less, a_forall, start_at, start_of, is_in, is_open}
use Rattle.zim_parse_expression.specs.Parser.{expect, tuple_of, parse}
use Rattle.zim_parse_expression.specs.StatementTokens.{is_read, begins_read, sees}
use Rattle.zim_parse_expression.proofs.BeginningLaws.{no, is_plain, is_factor, is_bare_loop, is_term, is_joined, is_whole, allowed, begins}
use Rattle.zim_parse_expression.proofs.PrimaryLaws.{tuple_reads}
use Rattle.zim_parse_expression.proofs.CompletenessLaws.{complete_list}

-- no expression begins with `read`

read_token : (token : Token) (rest : List Placed) → is_whole (start_at (token_class token) rest) ≡ true → is_read token ≡ false
read_token (word_token WRead) rest h = no h
read_token (sign_token SLeftBrace) rest h = refl
read_token _ rest h = refl

pub start_not_read : (ts : List Placed) → is_whole (start_of ts) ≡ true → sees is_read ts ≡ false
start_not_read [] h = refl
start_not_read (t ∷ rest) h = read_token t.token rest h

term_whole : (s : Start) → is_term s ≡ true → is_whole s ≡ true
term_whole an_operand h = refl
term_whole a_signed h = refl
term_whole a_loop h = refl
term_whole a_signed_loop h = refl
term_whole _ h = no h

pub joined_is_whole : (s : Start) → is_joined s ≡ true → is_whole s ≡ true
joined_is_whole a_forall h = refl
joined_is_whole _ h = h

list_not_read : {ts : List Placed} {items : List Expr} → ReadsList sum ts items → (rest : List Placed) → sees is_read (ts ++ rest) ≡ false
list_not_read (the_last d) rest = start_not_read _ (term_whole _ (begins d rest))
list_not_read (one_more p {ts = ts} d e) rest = rw (append_assoc ts (_ ∷ _) rest) (start_not_read _ (term_whole _ (begins d _)))

body_not_read : {ts : List Placed} {inside : Body} → ReadsBody ts inside → (q : Place) (rest : List Placed) → sees is_read (ts ++ (placed q (sign_token SRightBrace) ∷ rest)) ≡ false
body_not_read no_body q rest = refl
body_not_read (the_members d) q rest = list_not_read d _
body_not_read (the_tuples (the_last_tuple (a_tuple p r l))) q rest = refl
body_not_read (the_tuples (one_more_tuple s (a_tuple p r l) e)) q rest = refl
body_not_read (the_choices (an_index p (a_tuple s r l) e)) q rest = refl
body_not_read (the_choices (an_index_with p t bar (a_tuple s r l) e f)) q rest = refl
body_not_read (a_span p with_to {ts = ts} d e) q rest = rw (append_assoc ts (_ ∷ _) (_ ∷ rest)) (start_not_read _ (term_whole _ (begins d _)))
body_not_read (a_span_by p s with_to {ts = ts} d e f) q rest = rw (append_assoc ts (_ ∷ _) (_ ∷ rest)) (start_not_read _ (term_whole _ (begins d _)))

split_read : (ts us rest : List Placed) → begins_read (ts ++ (us ++ rest)) ≡ false → begins_read ((ts ++ us) ++ rest) ≡ false
split_read ts us rest h = rw (append_assoc ts us rest) h

-- no expression begins with `{` and `read`
pub not_a_read : {level : Level} {ts : List Placed} {e : Expr} → Reads level ts e → (rest : List Placed) → begins_read (ts ++ rest) ≡ false
not_a_read (a_number p digits) rest = refl
not_a_read (a_text p text double) rest = refl
not_a_read (a_truth p truth) rest = refl
not_a_read (an_infinity p) rest = refl
not_a_read (a_name p name) rest = refl
not_a_read (an_item p q r name d) rest = refl
not_a_read (a_bare_call p q r name) rest = refl
not_a_read (a_call p q r name d) rest = refl
not_a_read (a_function p q r w h d) rest = refl
not_a_read (a_projection p q r s d e) rest = refl
not_a_read (in_parentheses p q d) rest = refl
not_a_read (in_braces p q {ts = ts} d) rest = rw (append_assoc ts (placed q (sign_token SRightBrace) ∷ []) rest) (body_not_read d q rest)
not_a_read (an_if p q r vif d e) rest = refl
not_a_read (an_if_with_else p q r s vif d e f) rest = refl
not_a_read (a_postfix marks {ts = ts} d) rest = split_read ts (exclamations marks) rest (not_a_read d _)
not_a_read (no_power d) rest = not_a_read d rest
not_a_read (a_power p sign signed {ts = ts} h d e) rest = split_read ts _ rest (not_a_read d _)
not_a_read (no_sign d) rest = not_a_read d rest
not_a_read (a_sign p true d) rest = refl
not_a_read (a_sign p false d) rest = refl
not_a_read (a_big p q w with_do h d e) rest = refl
not_a_read (no_loop_sign d) rest = not_a_read d rest
not_a_read (a_loop_sign p true d) rest = refl
not_a_read (a_loop_sign p false d) rest = refl
not_a_read (a_product d) rest = not_a_read d rest
not_a_read (a_looping_term d) rest = not_a_read d rest
not_a_read (a_product_with_loop p token {ts = ts} h d e) rest = split_read ts _ rest (not_a_read d _)
not_a_read (a_chain chain {ts = ts} {us = us} h d e) rest = split_read ts us rest (not_a_read d (us ++ rest))
not_a_read (a_member p (a_tuple q r l) e) rest = refl
not_a_read (no_not d) rest = not_a_read d rest
not_a_read (a_negation p d) rest = refl
not_a_read (no_forall d) rest = not_a_read d rest
not_a_read (a_for_all p q with_do d e) rest = refl

-- an expression that begins with `<` begins with a tuple before `in`

abbrev pub starts_less : Start → Bool
starts_less a_less = true
starts_less _ = false

pub record MemberFirst (n : ℕ) (ts : List Placed) : Type 0 where
  pub tuple : Angle
  pub left : List Placed
  pub found : Place × List Placed
  pub reads : tuple_of (parse n) ts ≡ Some (tuple, left)
  pub follows : expect is_in left ≡ Some found

term_not_less : {A : Type 0} (s : Start) → is_term s ≡ true → starts_less s ≡ true → A
term_not_less a_less h l = no h
term_not_less _ h l = no l

split_member : (n : ℕ) (ts us rest : List Placed) → (starts_less (start_of (ts ++ (us ++ rest))) ≡ true → MemberFirst n (ts ++ (us ++ rest))) → starts_less (start_of ((ts ++ us) ++ rest)) ≡ true → MemberFirst n ((ts ++ us) ++ rest)
split_member n ts us rest f = rw (append_assoc ts us rest) f

plain_is_term : (s : Start) → is_plain s ≡ true → is_term s ≡ true
plain_is_term an_operand h = refl
plain_is_term _ h = no h

factor_is_term : (s : Start) → is_factor s ≡ true → is_term s ≡ true
factor_is_term an_operand h = refl
factor_is_term a_signed h = refl
factor_is_term _ h = no h

bare_is_term : (s : Start) → is_bare_loop s ≡ true → is_term s ≡ true
bare_is_term a_loop h = refl
bare_is_term _ h = no h

open_is_term : (s : Start) → is_open s ≡ true → is_term s ≡ true
open_is_term a_loop h = refl
open_is_term a_signed_loop h = refl
open_is_term _ h = no h

-- the levels below a comparison
abbrev is_below : Level → Bool
is_below comparison = false
is_below negation = false
is_below conjunction = false
is_below disjunction = false
is_below whole = false
is_below _ = true

-- what begins as a sum may begin doesn't begin with `<`
below : (level : Level) (s : Start) → is_below level ≡ true → allowed level s ≡ true → is_term s ≡ true
below primary s b h = plain_is_term s h
below postfix s b h = plain_is_term s h
below power s b h = plain_is_term s h
below unary s b h = factor_is_term s h
below product s b h = factor_is_term s h
below big s b h = bare_is_term s h
below loop s b h = open_is_term s h
below term s b h = h
below sum s b h = h
below _ s b h = no b

below_first : {level : Level} {ts : List Placed} {e : Expr} → is_below level ≡ true → Reads level ts e → (n : ℕ) (rest : List Placed) → starts_less (start_of (ts ++ rest)) ≡ true → MemberFirst n (ts ++ rest)
below_first {level = level} b d n rest s = term_not_less _ (below level _ b (begins d rest)) s

-- a value that begins with `<` begins with a tuple before `in`
pub member_first : {level : Level} {ts : List Placed} {e : Expr} → Reads level ts e → (n : ℕ) → length ts < n → (rest : List Placed) → starts_less (start_of (ts ++ rest)) ≡ true → MemberFirst n (ts ++ rest)
member_first (a_chain chain {ts = ts} {us = us} h d e) n l rest s = split_member n ts us rest (member_first d n (omega (arith, length-append ts us, l)) (us ++ rest)) s
member_first (a_member p {us = us} (a_tuple q r {ts = ts} {items = items} k) e) n l rest s =
    let l1 : length ts < n = omega (arith, length-append (ts ++ placed r (sign_token SGreater) ∷ []) (placed p (word_token WIn) ∷ us), length-append ts (placed r (sign_token SGreater) ∷ []), l) in
    record {
      tuple = angle_of q items;
      left = placed p (word_token WIn) ∷ (us ++ rest);
      found = (p, us ++ rest);
      reads = rw (append_assoc (ts ++ placed r (sign_token SGreater) ∷ []) (placed p (word_token WIn) ∷ us) rest) (tuple_reads (complete_list k) q r n l1 (placed p (word_token WIn) ∷ (us ++ rest)));
      follows = refl;
    }
member_first (no_not d) n l rest s = member_first d n l rest s
member_first (a_negation p d) n l rest s = no s
member_first (no_forall d) n l rest s = member_first d n l rest s
member_first (a_for_all p q with_do d e) n l rest s = no s
member_first d n l rest s = below_first refl d n rest s
