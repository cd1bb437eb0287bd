-- What the parser makes of the tokens of each level above the primaries, where it reads their parts.
use Rattle.std.proofs.Common.{◌≡◌, ◌<◌, ◌≤◌, Bool, true, false, if◌then◌else◌, List, [], ◌∷◌, ◌++◌, length, Option, Some, None, refl, ◌∙◌, append_assoc, length-append, arith, eq-eqb, ne_eqb}
use Rattle.zim_fault.specs.declared.faults.Place.{Place}
use Rattle.zim_fault.specs.declared.tokens.Token.{Token}
use Rattle.zim_fault.specs.declared.tokens.Token.TheVariants.{Word as word_token, Sign as sign_token}
use Rattle.zim_fault.specs.declared.tokens.Placed.{Placed}
use Rattle.zim_fault.specs.declared.signs.Sign.{Sign}
use Rattle.zim_fault.specs.declared.words.Word.{Word}
use Rattle.zim_tree.specs.declared.expr.Expr.{Expr}
use Rattle.zim_tree.specs.declared.expr.Expr.TheVariants as tree
use Rattle.zim_tree.specs.declared.expr.Index.{Index}
use Rattle.zim_tree.specs.declared.classes.Class.{Class}
use Rattle.zim_tree.specs.declared.classes.Class.TheVariants as class
use Rattle.zim_tree.specs.Classes.{token_class, word_class, sign_class}
use Rattle.zim_tree.specs.Levels.{primary, postfix, power, unary, product, big, loop, term, factorial, placed, exclamations, sign_token_of, exponent_sign, separator_token, is_loop}
use Rattle.zim_scan.specs.Nesting.{class_at}
use Rattle.zim_parse_expression.specs.Next.{class_looseness, looseness, level_bound, a_signed, a_signed_loop, start_at, start_of, is_exclamation, is_open, opens}
use Rattle.zim_parse_expression.specs.Parser.{Inner, Parser, and_then, marks_of, postfix_of, signed_of, sign_before, power_at, power_behind, power_of, sign_or, signed_or, big_of, term_behind, term_of, parse}
use Rattle.zim_parse_expression.proofs.BeginningLaws.{no, is_plain, is_factor, is_bare_loop, factor_not_open}
use Rattle.zim_parse_expression.proofs.PrimaryLaws.{Complete, CompleteIndex, deeper}

-- postfix

marks_loose : (marks : List Place) (rest : List Placed) → 2 < looseness rest → 1 < looseness (exclamations marks ++ rest)
marks_loose [] rest s = omega arith
marks_loose (p ∷ marks) rest s = omega arith

no_mark_class : (k : Class) (b : Bool) → 2 < class_looseness k b → is_exclamation k ≡ false
no_mark_class class.Exclamation b s = absurd (omega arith)
no_mark_class _ b s = refl

no_mark : (rest : List Placed) → 2 < looseness rest → marks_of rest ≡ ([], rest)
unfolding marks_of and_then
no_mark [] s = refl
no_mark (t ∷ rest) s = rw (no_mark_class (class_at t) (opens rest) s) refl

marks_read : (marks : List Place) (rest : List Placed) → 2 < looseness rest → marks_of (exclamations marks ++ rest) ≡ (marks, rest)
unfolding marks_of and_then
marks_read [] rest s = no_mark rest s
marks_read (p ∷ marks) rest s = rw (marks_read marks rest s) refl

pub complete_postfix : (marks : List Place) {ts : List Placed} {e : Expr} → Complete primary ts e → Complete postfix (ts ++ exclamations marks) (factorial e marks)
unfolding postfix_of and_then
complete_postfix marks {ts = ts} d = record {
  reads = λ n h rest s.
      rw (
        append_assoc ts (exclamations marks) rest,
        d.reads n (omega (arith, length-append ts (exclamations marks), h)) (exclamations marks ++ rest) (marks_loose marks rest s),
        marks_read marks rest s,
      ) refl;
}

-- power

no_power_class : (inner : Inner) (base : Expr) (k : Class) (b : Bool) (t : Placed) (rest : List Placed) → 3 < class_looseness k b → power_at inner base k t rest ≡ Some (base, t ∷ rest)
no_power_class inner base class.Power b t rest s = absurd (omega arith)
no_power_class inner base _ b t rest s = refl

no_power_behind : (inner : Inner) (base : Expr) (rest : List Placed) → 3 < looseness rest → power_behind inner base rest ≡ Some (base, rest)
unfolding power_behind and_then
no_power_behind inner base [] s = refl
no_power_behind inner base (t ∷ rest) s = no_power_class inner base (class_at t) (opens rest) t rest s

pub complete_no_power : {ts : List Placed} {e : Expr} → Complete postfix ts e → Complete power ts e
unfolding power_of and_then
complete_no_power {e = e} d = record { reads = λ n h rest s. rw (d.reads n h rest (omega arith), no_power_behind (parse n) e rest s) refl }

signed_not_plain : (b : Bool) → is_plain (if b then a_signed_loop else a_signed) ≡ true → false ≡ true
signed_not_plain true h = h
signed_not_plain false h = h

unsigned_class : (k : Class) (t : Placed) (rest : List Placed) → is_plain (start_at k rest) ≡ true → sign_before k t rest ≡ (None, t ∷ rest)
unsigned_class class.PlusOrMinus t rest h = no (signed_not_plain _ h)
unsigned_class _ t rest h = refl

unsigned : (ts : List Placed) → is_plain (start_of ts) ≡ true → signed_of ts ≡ (None, ts)
unsigned [] h = refl
unsigned (t ∷ rest) h = unsigned_class (class_at t) t rest h

exponent_read : (signed : Option (Place × Bool)) (ts : List Placed) → is_plain (start_of ts) ≡ true → signed_of (exponent_sign signed ++ ts) ≡ (signed, ts)
exponent_read None ts h = unsigned ts h
exponent_read (Some (q, true)) ts h = refl
exponent_read (Some (q, false)) ts h = refl

pub complete_power : (p : Place) (sign : Sign) (signed : Option (Place × Bool)) {ts us : List Placed} {base exponent : Expr} → sign_class sign ≡ class.Power →
    ((rest : List Placed) → is_plain (start_of (us ++ rest)) ≡ true) → Complete postfix ts base → Complete postfix us exponent →
    Complete power (ts ++ placed p (sign_token sign) ∷ (exponent_sign signed ++ us)) (tree.Power p sign base signed exponent)
unfolding power_of power_behind and_then
complete_power p sign signed {ts = ts} {us = us} c b d e = record {
  reads = λ n h rest s.
      let last : List Placed = exponent_sign signed ++ us in
      let l1 : length ts ≤ n = omega (arith, length-append ts (placed p (sign_token sign) ∷ last), h) in
      let l2 : length us ≤ n = omega (arith, length-append ts (placed p (sign_token sign) ∷ last), length-append (exponent_sign signed) us, h) in
      let stops : level_bound postfix < looseness (placed p (sign_token sign) ∷ (last ++ rest)) = rw c (omega arith) in
      rw (
        append_assoc ts (placed p (sign_token sign) ∷ last) rest,
        d.reads n l1 (placed p (sign_token sign) ∷ (last ++ rest)) stops,
        c,
        append_assoc (exponent_sign signed) us rest,
        exponent_read signed (us ++ rest) (b rest),
        e.reads n l2 rest (omega arith),
      ) refl;
}

-- signs

signed_not_loop : (b : Bool) → is_bare_loop (if b then a_signed_loop else a_signed) ≡ true → false ≡ true
signed_not_loop true h = h
signed_not_loop false h = h

plain_class : (operand : Parser Expr) (k : Class) (t : Placed) (rest : List Placed) → is_plain (start_at k rest) ≡ true → sign_or operand k t rest ≡ operand (t ∷ rest)
plain_class operand class.PlusOrMinus t rest h = no (signed_not_plain _ h)
plain_class operand _ t rest h = refl

plain_operand : (operand : Parser Expr) (ts : List Placed) → is_plain (start_of ts) ≡ true → signed_or operand ts ≡ operand ts
unfolding signed_or and_then
plain_operand operand [] h = no h
plain_operand operand (t ∷ rest) h = plain_class operand (class_at t) t rest h

loop_class : (operand : Parser Expr) (k : Class) (t : Placed) (rest : List Placed) → is_bare_loop (start_at k rest) ≡ true → sign_or operand k t rest ≡ operand (t ∷ rest)
loop_class operand class.PlusOrMinus t rest h = no (signed_not_loop _ h)
loop_class operand _ t rest h = refl

loop_operand : (operand : Parser Expr) (ts : List Placed) → is_bare_loop (start_of ts) ≡ true → signed_or operand ts ≡ operand ts
unfolding signed_or and_then
loop_operand operand [] h = no h
loop_operand operand (t ∷ rest) h = loop_class operand (class_at t) t rest h

pub complete_no_sign : {ts : List Placed} {e : Expr} → ((rest : List Placed) → is_plain (start_of (ts ++ rest)) ≡ true) → Complete power ts e → Complete unary ts e
complete_no_sign {ts = ts} b d = record { reads = λ n h rest s. plain_operand (power_of (parse n)) (ts ++ rest) (b rest) ∙ d.reads n h rest s }

pub complete_sign : (p : Place) (minus : Bool) {ts : List Placed} {e : Expr} → Complete power ts e → Complete unary (placed p (sign_token_of minus) ∷ ts) (tree.Signed p minus e)
unfolding signed_or and_then
complete_sign p true d = record { reads = λ n h rest s. rw (d.reads n (omega arith) rest s) refl }
complete_sign p false d = record { reads = λ n h rest s. rw (d.reads n (omega arith) rest s) refl }

-- loops

pub complete_big : (p q : Place) (w : Word) (with_do : Bool) {ts us : List Placed} {index : Index} {e : Expr} → is_loop (word_class w) ≡ true → CompleteIndex ts index → Complete term us e →
    Complete big (placed p (word_token w) ∷ (ts ++ (placed q (separator_token with_do) ∷ us))) (tree.Big p w index with_do e)
unfolding big_of and_then
complete_big p q w true {ts = ts} {us = us} c d e = record {
  reads = λ n h rest s.
      rw (
        c,
        append_assoc ts (placed q (separator_token true) ∷ us) rest,
        d.indices n (omega (arith, length-append ts (placed q (separator_token true) ∷ us), h)) (placed q (separator_token true) ∷ (us ++ rest)) (omega arith) refl,
        deeper e n (omega (arith, length-append ts (placed q (separator_token true) ∷ us), h)) rest s,
      ) refl;
}
complete_big p q w false {ts = ts} {us = us} c d e = record {
  reads = λ n h rest s.
      rw (
        c,
        append_assoc ts (placed q (separator_token false) ∷ us) rest,
        d.indices n (omega (arith, length-append ts (placed q (separator_token false) ∷ us), h)) (placed q (separator_token false) ∷ (us ++ rest)) (omega arith) refl,
        deeper e n (omega (arith, length-append ts (placed q (separator_token false) ∷ us), h)) rest s,
      ) refl;
}

pub complete_no_loop_sign : {ts : List Placed} {e : Expr} → ((rest : List Placed) → is_bare_loop (start_of (ts ++ rest)) ≡ true) → Complete big ts e → Complete loop ts e
complete_no_loop_sign {ts = ts} b d = record { reads = λ n h rest s. loop_operand (big_of (parse n)) (ts ++ rest) (b rest) ∙ d.reads n h rest s }

pub complete_loop_sign : (p : Place) (minus : Bool) {ts : List Placed} {e : Expr} → Complete big ts e → Complete loop (placed p (sign_token_of minus) ∷ ts) (tree.Signed p minus e)
unfolding signed_or and_then
complete_loop_sign p true d = record { reads = λ n h rest s. rw (d.reads n (omega arith) rest s) refl }
complete_loop_sign p false d = record { reads = λ n h rest s. rw (d.reads n (omega arith) rest s) refl }

-- terms

no_loop_behind : (inner : Inner) (first : Expr) (rest : List Placed) → 5 < looseness rest → term_behind inner first rest ≡ Some (first, rest)
unfolding term_behind and_then
no_loop_behind inner first [] s = refl
no_loop_behind inner first (t ∷ rest) s = rw (ne_eqb (looseness (t ∷ rest)) 5 (omega arith)) refl

pub complete_product : {ts : List Placed} {e : Expr} → ((rest : List Placed) → is_factor (start_of (ts ++ rest)) ≡ true) → Complete product ts e → Complete term ts e
unfolding term_of and_then
complete_product {ts = ts} {e = e} b d = record {
  reads = λ n h rest s. rw (factor_not_open _ (b rest), d.reads n h rest (omega arith), no_loop_behind (parse n) e rest s) refl;
}

pub complete_loop : {ts : List Placed} {e : Expr} → ((rest : List Placed) → is_open (start_of (ts ++ rest)) ≡ true) → Complete loop ts e → Complete term ts e
unfolding term_of and_then
complete_loop b d = record { reads = λ n h rest s. rw (b rest, d.reads n h rest s) refl }

pub complete_product_with_loop : (p : Place) (token : Token) {ts us : List Placed} {first last : Expr} → token_class token ≡ class.Product →
    ((rest : List Placed) → is_factor (start_of (ts ++ rest)) ≡ true) → ((rest : List Placed) → is_open (start_of (us ++ rest)) ≡ true) →
    Complete product ts first → Complete loop us last → Complete term (ts ++ placed p token ∷ us) (tree.Times first ((p, token, last) ∷ []))
unfolding term_of term_behind and_then
complete_product_with_loop p token {ts = ts} {us = us} c b o d e = record {
  reads = λ n h rest s.
      let loose : looseness (placed p token ∷ (us ++ rest)) ≡ 5 = rw (c, o rest) refl in
      let stops : level_bound product < looseness (placed p token ∷ (us ++ rest)) = omega (arith, loose) in
      rw (
        append_assoc ts (placed p token ∷ us) rest,
        factor_not_open _ (b (placed p token ∷ (us ++ rest))),
        d.reads n (omega (arith, length-append ts (placed p token ∷ us), h)) (placed p token ∷ (us ++ rest)) stops,
        eq-eqb (looseness (placed p token ∷ (us ++ rest))) 5 loose,
        e.reads n (omega (arith, length-append ts (placed p token ∷ us), h)) rest s,
      ) refl;
}
