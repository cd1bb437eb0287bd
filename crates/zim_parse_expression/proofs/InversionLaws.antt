-- What a parser's answer says of the tokens that it was given.
use Rattle.std.proofs.Common.{◌≡◌, ℕ, zero, suc, Bool, true, false, if◌then◌else◌, List, [], ◌∷◌, ◌++◌, Option, Some, None, refl, sym, ap, ◌∙◌, subst, append_assoc, append-nil}
use Rattle.std.proofs.lemmas.Option.{none-some, same_Some}
use Rattle.zim_fault.specs.declared.faults.Place.{Place}
use Rattle.zim_fault.specs.declared.tokens.Token.{Token}
use Rattle.zim_fault.specs.declared.tokens.Token.TheVariants.{Word as word_token, Sign as sign_token}
use Rattle.zim_fault.specs.declared.tokens.Placed.{Placed}
use Rattle.zim_fault.specs.declared.signs.Sign.TheVariants.{SComma, SColon, SLeftParen, SRightParen, SRightBracket, SRightBrace, SLess, SGreater, SBar, SDots}
use Rattle.zim_fault.specs.declared.words.Word.TheVariants.{WDo, WThen, WElse, WEnd, WIn, WBy, WWith, WTo}
use Rattle.zim_tree.specs.declared.expr.Expr.{Expr}
use Rattle.zim_tree.specs.declared.expr.Angle.{Angle}
use Rattle.zim_tree.specs.declared.classes.Class.{Class}
use Rattle.zim_tree.specs.Classes.{token_class}
use Rattle.zim_tree.specs.Levels.{Level, placed, separator_token, condition_token, span_token}
use Rattle.zim_tree.specs.Grammar.{Reads, ReadsList, ReadsTuple, ReadsTuples, the_last, one_more, the_last_tuple, one_more_tuple}
use Rattle.zim_scan.specs.Nesting.{class_at, is_left_paren}
use Rattle.zim_parse_expression.specs.Next.{is_right_paren, is_right_bracket, is_right_brace, is_comma, is_less, is_greater, is_in, is_then, is_else, is_end, is_by}
use Rattle.zim_parse_expression.specs.Parser.{Parser, Parsed, and_then, expect, flagged, flag_of, separator_in, condition_in, span_in, after_comma, items_behind, items_of}
use Rattle.zim_parse_expression.proofs.BeginningLaws.{no}

-- what was read first, and what was read behind it
pub record Then {A B : Type 0} (o : Parsed A) (next : A → List Placed → Parsed B) (y : B) (left : List Placed) : Type 0 where
  pub first : A
  pub behind : List Placed
  pub was : o ≡ Some (first, behind)
  pub gave : next first behind ≡ Some (y, left)

pub then_parts : {A B : Type 0} {o : Parsed A} {next : A → List Placed → Parsed B} {y : B} {left : List Placed} → and_then o next ≡ Some (y, left) → Then o next y left
unfolding and_then
then_parts {o = None} {y = y} {left = left} h = absurd (none-some (y, left) h)
then_parts {o = Some x} h = record { first = x.0; behind = x.1; was = refl; gave = h }

-- an answer of a parser
abbrev pub answer : {A : Type 0} → A → List Placed → Parsed A
answer x rest = Some (x, rest)

-- the tokens are those that were used and those that are left
pub record Split (ts used rest : List Placed) : Type 0 where
  pub parts : ts ≡ used ++ rest

-- some of the tokens are read as this, and the rest is left
pub record Got {A : Type 0} (R : List Placed → A → Type 0) (ts : List Placed) (x : A) (rest : List Placed) : Type 0 where
  pub used : List Placed
  pub splits : Split ts used rest
  pub derives : R used x

pub concluded : {A : Type 0} (R : List Placed → A → Type 0) {used ts rest left : List Placed} {x y : A} → R used x → Split ts used rest → answer x rest ≡ answer y left → Got R ts y left
concluded {A = A} R {used = used} {ts = ts} {rest = rest} {left = left} {x = x} {y = y} d s h =
    let same : (x, rest) ≡ (y, left) = same_Some (x, rest) (y, left) h in
    record {
      used = used;
      splits = record { parts = s.parts ∙ ap (λ (z : A × List Placed). used ++ z.1) same };
      derives = subst (λ (z : A × List Placed). R used z.0) same d;
    }

-- how tokens are split

pub prefixed : {ts us used rest : List Placed} (a : Placed) → ts ≡ a ∷ us → Split us used rest → Split ts (a ∷ used) rest
prefixed a e f = record { parts = e ∙ ap (λ (l : List Placed). a ∷ l) f.parts }

pub appended : {ts us used more rest : List Placed} → Split ts used us → Split us more rest → Split ts (used ++ more) rest
appended {used = used} {more = more} {rest = rest} e f = record { parts = e.parts ∙ ap (λ (l : List Placed). used ++ l) f.parts ∙ sym (append_assoc used more rest) }

pub single : {us rest : List Placed} (z : Placed) → us ≡ z ∷ rest → Split us (z ∷ []) rest
single z e = record { parts = e }

pub infixed : {ts us vs used more rest : List Placed} (t : Placed) → Split ts used vs → vs ≡ t ∷ us → Split us more rest → Split ts (used ++ t ∷ more) rest
infixed t e f g = appended e (prefixed t f g)

pub enclosed : {ts us vs used rest : List Placed} (a z : Placed) → ts ≡ a ∷ us → Split us used vs → vs ≡ z ∷ rest → Split ts (a ∷ (used ++ z ∷ [])) rest
enclosed a z e f g = prefixed a e (appended f (single z g))

-- single tokens

fixed_if : {fixed : Token} {p : Place} {rest : List Placed} (b : Bool) (t : Placed) (more : List Placed) → (b ≡ true → t.token ≡ fixed) →
    (if b then answer t.place more else None) ≡ answer p rest → t ∷ more ≡ placed p fixed ∷ rest
fixed_if {fixed = fixed} {p = p} {rest = rest} true t more k h =
    ap (λ (x : Place × List Placed). placed x.0 t.token ∷ x.1) (same_Some (t.place, more) (p, rest) h) ∙ ap (λ (x : Token). placed p x ∷ rest) (k refl)
fixed_if {p = p} {rest = rest} false t more k h = absurd (none-some (p, rest) h)

expect_fixed : (test : Class → Bool) (fixed : Token) → ((token : Token) → test (token_class token) ≡ true → token ≡ fixed) →
    (ts : List Placed) (p : Place) (rest : List Placed) → expect test ts ≡ Some (p, rest) → ts ≡ placed p fixed ∷ rest
expect_fixed test fixed back [] p rest h = absurd (none-some (p, rest) h)
expect_fixed test fixed back (t ∷ more) p rest h = fixed_if (test (class_at t)) t more (back t.token) h

left_paren_back : (token : Token) → is_left_paren (token_class token) ≡ true → token ≡ sign_token SLeftParen
left_paren_back (sign_token SLeftParen) h = refl
left_paren_back (word_token WIn) h = no h
left_paren_back _ h = no h

right_paren_back : (token : Token) → is_right_paren (token_class token) ≡ true → token ≡ sign_token SRightParen
right_paren_back (sign_token SRightParen) h = refl
right_paren_back (word_token WIn) h = no h
right_paren_back _ h = no h

right_bracket_back : (token : Token) → is_right_bracket (token_class token) ≡ true → token ≡ sign_token SRightBracket
right_bracket_back (sign_token SRightBracket) h = refl
right_bracket_back (word_token WIn) h = no h
right_bracket_back _ h = no h

right_brace_back : (token : Token) → is_right_brace (token_class token) ≡ true → token ≡ sign_token SRightBrace
right_brace_back (sign_token SRightBrace) h = refl
right_brace_back (word_token WIn) h = no h
right_brace_back _ h = no h

comma_back : (token : Token) → is_comma (token_class token) ≡ true → token ≡ sign_token SComma
comma_back (sign_token SComma) h = refl
comma_back (word_token WIn) h = no h
comma_back _ h = no h

less_back : (token : Token) → is_less (token_class token) ≡ true → token ≡ sign_token SLess
less_back (sign_token SLess) h = refl
less_back (word_token WIn) h = no h
less_back _ h = no h

greater_back : (token : Token) → is_greater (token_class token) ≡ true → token ≡ sign_token SGreater
greater_back (sign_token SGreater) h = refl
greater_back (word_token WIn) h = no h
greater_back _ h = no h

in_back : (token : Token) → is_in (token_class token) ≡ true → token ≡ word_token WIn
in_back (word_token WIn) h = refl
in_back (sign_token SLess) h = no h
in_back _ h = no h

then_back : (token : Token) → is_then (token_class token) ≡ true → token ≡ word_token WThen
then_back (word_token WThen) h = refl
then_back (sign_token SLess) h = no h
then_back _ h = no h

else_back : (token : Token) → is_else (token_class token) ≡ true → token ≡ word_token WElse
else_back (word_token WElse) h = refl
else_back (sign_token SLess) h = no h
else_back _ h = no h

end_back : (token : Token) → is_end (token_class token) ≡ true → token ≡ word_token WEnd
end_back (word_token WEnd) h = refl
end_back (sign_token SLess) h = no h
end_back _ h = no h

by_back : (token : Token) → is_by (token_class token) ≡ true → token ≡ word_token WBy
by_back (word_token WBy) h = refl
by_back (sign_token SLess) h = no h
by_back _ h = no h

pub got_left_paren : (ts : List Placed) (p : Place) (rest : List Placed) → expect is_left_paren ts ≡ Some (p, rest) → ts ≡ placed p (sign_token SLeftParen) ∷ rest
got_left_paren = expect_fixed is_left_paren (sign_token SLeftParen) left_paren_back

pub got_right_paren : (ts : List Placed) (p : Place) (rest : List Placed) → expect is_right_paren ts ≡ Some (p, rest) → ts ≡ placed p (sign_token SRightParen) ∷ rest
got_right_paren = expect_fixed is_right_paren (sign_token SRightParen) right_paren_back

pub got_right_bracket : (ts : List Placed) (p : Place) (rest : List Placed) → expect is_right_bracket ts ≡ Some (p, rest) → ts ≡ placed p (sign_token SRightBracket) ∷ rest
got_right_bracket = expect_fixed is_right_bracket (sign_token SRightBracket) right_bracket_back

pub got_right_brace : (ts : List Placed) (p : Place) (rest : List Placed) → expect is_right_brace ts ≡ Some (p, rest) → ts ≡ placed p (sign_token SRightBrace) ∷ rest
got_right_brace = expect_fixed is_right_brace (sign_token SRightBrace) right_brace_back

pub got_comma : (ts : List Placed) (p : Place) (rest : List Placed) → expect is_comma ts ≡ Some (p, rest) → ts ≡ placed p (sign_token SComma) ∷ rest
got_comma = expect_fixed is_comma (sign_token SComma) comma_back

pub got_less : (ts : List Placed) (p : Place) (rest : List Placed) → expect is_less ts ≡ Some (p, rest) → ts ≡ placed p (sign_token SLess) ∷ rest
got_less = expect_fixed is_less (sign_token SLess) less_back

pub got_greater : (ts : List Placed) (p : Place) (rest : List Placed) → expect is_greater ts ≡ Some (p, rest) → ts ≡ placed p (sign_token SGreater) ∷ rest
got_greater = expect_fixed is_greater (sign_token SGreater) greater_back

pub got_in : (ts : List Placed) (p : Place) (rest : List Placed) → expect is_in ts ≡ Some (p, rest) → ts ≡ placed p (word_token WIn) ∷ rest
got_in = expect_fixed is_in (word_token WIn) in_back

pub got_then : (ts : List Placed) (p : Place) (rest : List Placed) → expect is_then ts ≡ Some (p, rest) → ts ≡ placed p (word_token WThen) ∷ rest
got_then = expect_fixed is_then (word_token WThen) then_back

pub got_else : (ts : List Placed) (p : Place) (rest : List Placed) → expect is_else ts ≡ Some (p, rest) → ts ≡ placed p (word_token WElse) ∷ rest
got_else = expect_fixed is_else (word_token WElse) else_back

pub got_end : (ts : List Placed) (p : Place) (rest : List Placed) → expect is_end ts ≡ Some (p, rest) → ts ≡ placed p (word_token WEnd) ∷ rest
got_end = expect_fixed is_end (word_token WEnd) end_back

pub got_by : (ts : List Placed) (p : Place) (rest : List Placed) → expect is_by ts ≡ Some (p, rest) → ts ≡ placed p (word_token WBy) ∷ rest
got_by = expect_fixed is_by (word_token WBy) by_back

-- one of two tokens

separator_back : (token : Token) (flag : Bool) → separator_in token ≡ Some flag → token ≡ separator_token flag
separator_back (sign_token SColon) flag h = ap separator_token (same_Some false flag h)
separator_back (word_token WDo) flag h = ap separator_token (same_Some true flag h)
separator_back _ flag h = absurd (none-some flag h)

condition_back : (token : Token) (flag : Bool) → condition_in token ≡ Some flag → token ≡ condition_token flag
condition_back (sign_token SBar) flag h = ap condition_token (same_Some true flag h)
condition_back (word_token WWith) flag h = ap condition_token (same_Some false flag h)
condition_back _ flag h = absurd (none-some flag h)

span_back : (token : Token) (flag : Bool) → span_in token ≡ Some flag → token ≡ span_token flag
span_back (sign_token SDots) flag h = ap span_token (same_Some false flag h)
span_back (word_token WTo) flag h = ap span_token (same_Some true flag h)
span_back _ flag h = absurd (none-some flag h)

-- such a token with its place
pub record Flag (token : Bool → Token) (ts : List Placed) (flag : Bool) (rest : List Placed) : Type 0 where
  pub at : Place
  pub is_first : ts ≡ placed at (token flag) ∷ rest

flag_parts : (o : Option Bool) (more : List Placed) (flag : Bool) (rest : List Placed) → flagged o more ≡ Some (flag, rest) → (o ≡ Some flag) × (more ≡ rest)
flag_parts None more flag rest h = absurd (none-some (flag, rest) h)
flag_parts (Some b) more flag rest h =
    let same : (b, more) ≡ (flag, rest) = same_Some (b, more) (flag, rest) h in
    (ap (λ (x : Bool × List Placed). Some x.0) same, ap (λ (x : Bool × List Placed). x.1) same)

got_flag : (test : Token → Option Bool) (token : Bool → Token) → ((t : Token) (flag : Bool) → test t ≡ Some flag → t ≡ token flag) →
    (ts : List Placed) (flag : Bool) (rest : List Placed) → flag_of test ts ≡ Some (flag, rest) → Flag token ts flag rest
got_flag test token back [] flag rest h = absurd (none-some (flag, rest) h)
got_flag test token back (t ∷ more) flag rest h =
    let parts = flag_parts (test t.token) more flag rest h in
    record {
      at = t.place;
      is_first = ap (λ (l : List Placed). t ∷ l) parts.1 ∙ ap (λ (k : Token). placed t.place k ∷ rest) (back t.token flag parts.0);
    }

pub got_separator : (ts : List Placed) (flag : Bool) (rest : List Placed) → flag_of separator_in ts ≡ Some (flag, rest) → Flag separator_token ts flag rest
got_separator = got_flag separator_in separator_token separator_back

pub got_condition : (ts : List Placed) (flag : Bool) (rest : List Placed) → flag_of condition_in ts ≡ Some (flag, rest) → Flag condition_token ts flag rest
got_condition = got_flag condition_in condition_token condition_back

pub got_span : (ts : List Placed) (flag : Bool) (rest : List Placed) → flag_of span_in ts ≡ Some (flag, rest) → Flag span_token ts flag rest
got_span = got_flag span_in span_token span_back

-- items with commas between them

pub data Commaed {A : Type 0} (R : List Placed → A → Type 0) : List Placed → List A → Type 0 where
  last_one : (ts : List Placed) (x : A) → R ts x → Commaed R ts (x ∷ [])
  another : (p : Place) (ts us : List Placed) (x : A) (xs : List A) → R ts x → Commaed R us xs → Commaed R (ts ++ placed p (sign_token SComma) ∷ us) (x ∷ xs)

pub list_of_commaed : {level : Level} {ts : List Placed} {items : List Expr} → Commaed (Reads level) ts items → ReadsList level ts items
list_of_commaed (last_one ts x d) = the_last d
list_of_commaed (another p ts us x xs d e) = one_more p d (list_of_commaed e)

pub tuples_of_commaed : {ts : List Placed} {tuples : List Angle} → Commaed ReadsTuple ts tuples → ReadsTuples ts tuples
tuples_of_commaed (last_one ts x d) = the_last_tuple d
tuples_of_commaed (another p ts us x xs d e) = one_more_tuple p d (tuples_of_commaed e)

-- a parser whose answers are derived
pub record Sound {A : Type 0} (R : List Placed → A → Type 0) (parser : Parser A) : Type 0 where
  pub gets : (ts : List Placed) (x : A) (rest : List Placed) → parser ts ≡ Some (x, rest) → Got R ts x rest

-- what follows a first item
pub record More {A : Type 0} (R : List Placed → A → Type 0) (before ts : List Placed) (xs : List A) (rest : List Placed) : Type 0 where
  pub used : List Placed
  pub splits : Split ts used rest
  pub derives : Commaed R (before ++ used) xs

no_more : {A : Type 0} (R : List Placed → A → Type 0) (before ts : List Placed) (x : A) (xs : List A) (rest : List Placed) → R before x → answer (x ∷ []) ts ≡ answer xs rest → More R before ts xs rest
no_more {A = A} R before ts x xs rest d h =
    let same : (x ∷ [], ts) ≡ (xs, rest) = same_Some (x ∷ [], ts) (xs, rest) h in
    record {
      used = [];
      splits = record { parts = ap (λ (z : List A × List Placed). z.1) same };
      derives = subst (λ (z : List A × List Placed). Commaed R (before ++ []) z.0) same (subst (λ (l : List Placed). Commaed R l (x ∷ [])) (sym (append-nil before)) (last_one before x d));
    }

more_by : {A : Type 0} (R : List Placed → A → Type 0) (before ts : List Placed) (x : A) (xs : List A) (rest : List Placed) → R before x → (item : Parser A) → Sound R item → (more : A → List Placed → Parsed (List A)) →
    ((second : A) (after us : List Placed) (ys : List A) (left : List Placed) → R after second → more second us ≡ Some (ys, left) → More R after us ys left) →
    (o : Parsed Place) → expect is_comma ts ≡ o → after_comma x o ts (λ behind. and_then (item behind) (λ second left. more second left)) ≡ Some (xs, rest) → More R before ts xs rest
more_by R before ts x xs rest d item s more recur None e h = no_more R before ts x xs rest d h
more_by {A = A} R before ts x xs rest d item s more recur (Some c) e h =
    let a = then_parts h in
    let b = then_parts a.was in
    let second = s.gets c.1 b.first b.behind b.was in
    let others = recur b.first second.used b.behind a.first a.behind second.derives b.gave in
    let same : (x ∷ a.first, a.behind) ≡ (xs, rest) = same_Some (x ∷ a.first, a.behind) (xs, rest) a.gave in
    record {
      used = placed c.0 (sign_token SComma) ∷ (second.used ++ others.used);
      splits = record {
        parts = (prefixed (placed c.0 (sign_token SComma)) (got_comma ts c.0 c.1 e) (appended second.splits others.splits)).parts
            ∙ ap (λ (z : List A × List Placed). (placed c.0 (sign_token SComma) ∷ (second.used ++ others.used)) ++ z.1) same;
      };
      derives = subst (λ (z : List A × List Placed). Commaed R (before ++ placed c.0 (sign_token SComma) ∷ (second.used ++ others.used)) z.0) same
          (another c.0 before (second.used ++ others.used) x a.first d others.derives);
    }

pub more_items : {A : Type 0} (R : List Placed → A → Type 0) (item : Parser A) → Sound R item → (turns : ℕ) (before ts : List Placed) (x : A) (xs : List A) (rest : List Placed) → R before x →
    items_behind item turns x ts ≡ Some (xs, rest) → More R before ts xs rest
unfolding items_behind
more_items R item s zero before ts x xs rest d h = no_more R before ts x xs rest d h
more_items R item s (suc turns) before ts x xs rest d h =
    more_by R before ts x xs rest d item s (items_behind item turns)
    (λ second after us ys left k e. more_items R item s turns after us second ys left k e) (expect is_comma ts) refl h

pub got_items : {A : Type 0} (R : List Placed → A → Type 0) (item : Parser A) → Sound R item → (ts : List Placed) (xs : List A) (rest : List Placed) →
    items_of item ts ≡ Some (xs, rest) → Got (Commaed R) ts xs rest
unfolding items_of
got_items R item s ts xs rest h =
    let a = then_parts h in
    let first = s.gets ts a.first a.behind a.was in
    let others = more_items R item s _ first.used a.behind a.first xs rest first.derives a.gave in
    record { used = first.used ++ others.used; splits = appended first.splits others.splits; derives = others.derives }
