-- What the parser reads as a part of a statement has a derivation.
use Rattle.std.proofs.Common.{◌≡◌, ℕ, zero, suc, Bool, true, false, if◌then◌else◌, List, [], ◌∷◌, ◌++◌, length, Option, Some, None, refl, sym, ap, ◌∙◌, subst, append_assoc, leb-true}
use Rattle.std.proofs.lemmas.Bool.{and_parts}
use Rattle.std.proofs.lemmas.Option.{none-some, same_Some}
use Rattle.zim_fault.specs.declared.faults.Place.{Place}
use Rattle.zim_fault.specs.declared.tokens.Token.{Token}
use Rattle.zim_fault.specs.declared.tokens.Token.TheVariants.{Word as word_token, Sign as sign_token}
use Rattle.zim_fault.specs.declared.tokens.Placed.{Placed}
use Rattle.zim_fault.specs.declared.signs.Sign.TheVariants.{SSemicolon, SComma, SColon, SLeftBracket, SLeftBrace, SAssign, SBar, SLess}
use Rattle.zim_fault.specs.declared.words.Word.{Word}
use Rattle.zim_fault.specs.declared.words.Word.TheVariants.{WRead, WAs, WDefault, WPriority, WStartval}
use Rattle.zim_tree.specs.declared.expr.Expr.{Expr}
use Rattle.zim_tree.specs.declared.expr.Angle.{Angle}
use Rattle.zim_tree.specs.declared.stmt.Reading.{Reading}
use Rattle.zim_tree.specs.Levels.{sum, placed}
use Rattle.zim_tree.specs.Grammar.{Reads, ReadsTuple}
use Rattle.zim_tree.specs.StatementGrammar.{word_at, is_option, AtMostOnce, ReadsOptions, no_option, an_option, ReadsReading, a_reading, ReadsEntries, the_last_entry, one_more_entry, ReadsGiven, not_given, is_given}
use Rattle.zim_parse_expression.specs.Parser.{Inner, Parsed}
use Rattle.zim_parse_expression.specs.StatementTokens.{expect_token, is_semicolon, is_assign, is_colon, is_left_bracket, is_left_brace, is_bar, is_read, is_as, is_default, is_priority, is_startval, option_in}
use Rattle.zim_parse.specs.StatementParser.{option_or, options_of, each_once, reading_of, entry_of, given_at, given_of}
use Rattle.zim_parse_expression.proofs.BeginningLaws.{no}
use Rattle.zim_parse_expression.proofs.InversionLaws.{then_parts, answer, Got, concluded, prefixed, appended, infixed, Sound, Commaed, last_one, another}
use Rattle.zim_parse_expression.proofs.PrimarySoundLaws.{SoundInner, tuple_sound}

-- single tokens

token_if : {fixed : Token} {p : Place} {rest : List Placed} (b : Bool) (t : Placed) (more : List Placed) → (b ≡ true → t.token ≡ fixed) →
    (if b then answer t.place more else None) ≡ answer p rest → t ∷ more ≡ placed p fixed ∷ rest
token_if {fixed = fixed} {p = p} {rest = rest} true t more k h =
    ap (λ (x : Place × List Placed). placed x.0 t.token ∷ x.1) (same_Some (t.place, more) (p, rest) h) ∙ ap (λ (x : Token). placed p x ∷ rest) (k refl)
token_if {p = p} {rest = rest} false t more k h = absurd (none-some (p, rest) h)

pub token_fixed : (test : Token → Bool) (fixed : Token) → ((token : Token) → test token ≡ true → token ≡ fixed) →
    (ts : List Placed) (p : Place) (rest : List Placed) → expect_token test ts ≡ answer p rest → ts ≡ placed p fixed ∷ rest
token_fixed test fixed back [] p rest h = absurd (none-some (p, rest) h)
token_fixed test fixed back (t ∷ more) p rest h = token_if (test t.token) t more (back t.token) h

pub semicolon_back : (token : Token) → is_semicolon token ≡ true → token ≡ sign_token SSemicolon
semicolon_back (sign_token SSemicolon) h = refl
semicolon_back _ h = no h

pub assign_back : (token : Token) → is_assign token ≡ true → token ≡ sign_token SAssign
assign_back (sign_token SAssign) h = refl
assign_back _ h = no h

pub colon_back : (token : Token) → is_colon token ≡ true → token ≡ sign_token SColon
colon_back (sign_token SColon) h = refl
colon_back _ h = no h

pub left_bracket_back : (token : Token) → is_left_bracket token ≡ true → token ≡ sign_token SLeftBracket
left_bracket_back (sign_token SLeftBracket) h = refl
left_bracket_back _ h = no h

pub left_brace_back : (token : Token) → is_left_brace token ≡ true → token ≡ sign_token SLeftBrace
left_brace_back (sign_token SLeftBrace) h = refl
left_brace_back _ h = no h

pub bar_back : (token : Token) → is_bar token ≡ true → token ≡ sign_token SBar
bar_back (sign_token SBar) h = refl
bar_back _ h = no h

pub read_back : (token : Token) → is_read token ≡ true → token ≡ word_token WRead
read_back (word_token WRead) h = refl
read_back _ h = no h

pub as_back : (token : Token) → is_as token ≡ true → token ≡ word_token WAs
as_back (word_token WAs) h = refl
as_back _ h = no h

pub default_back : (token : Token) → is_default token ≡ true → token ≡ word_token WDefault
default_back (word_token WDefault) h = refl
default_back _ h = no h

pub priority_back : (token : Token) → is_priority token ≡ true → token ≡ word_token WPriority
priority_back (word_token WPriority) h = refl
priority_back _ h = no h

pub startval_back : (token : Token) → is_startval token ≡ true → token ≡ word_token WStartval
startval_back (word_token WStartval) h = refl
startval_back _ h = no h

-- options and `read`

option_if : (w : Word) (b : Bool) (v : Word) → (if b then Some w else None) ≡ Some v → (b ≡ true) × (w ≡ v)
option_if w true v h = (refl, same_Some w v h)
option_if w false v h = absurd (none-some v h)

option_back : (token : Token) (v : Word) → option_in token ≡ Some v → (token ≡ word_token v) × (is_option v ≡ true)
option_back (word_token w) v h = let p = option_if w (is_option w) v h in (ap word_token p.1, subst (λ (x : Word). is_option x ≡ true) p.1 p.0)
option_back (sign_token SLess) v h = absurd (none-some v h)
option_back _ v h = absurd (none-some v h)

options_by : (inner : Inner) → SoundInner inner → (more : List Placed → Parsed (List (Place × Word × Expr))) →
    ((ts : List Placed) (os : List (Place × Word × Expr)) (rest : List Placed) → more ts ≡ answer os rest → Got ReadsOptions ts os rest) →
    (t : Placed) (behind : List Placed) (o : Option Word) → option_in t.token ≡ o → (os : List (Place × Word × Expr)) (rest : List Placed) → option_or inner more t behind o ≡ answer os rest → Got ReadsOptions (t ∷ behind) os rest
options_by inner s more recur t behind None e os rest h = concluded ReadsOptions no_option (record { parts = refl }) h
options_by inner s more recur t behind (Some w) e os rest h =
    let a = then_parts h in
    let b = then_parts a.gave in
    let back = option_back t.token w e in
    let d = (s sum).gets behind a.first a.behind a.was in
    let l = recur a.behind b.first b.behind b.was in
    concluded ReadsOptions (an_option t.place w back.1 d.derives l.derives) (prefixed (word_at t.place w) (ap (λ (x : Token). placed t.place x ∷ behind) back.0) (appended d.splits l.splits)) b.gave

options_sound : (inner : Inner) → SoundInner inner → (turns : ℕ) (ts : List Placed) (os : List (Place × Word × Expr)) (rest : List Placed) → options_of inner turns ts ≡ answer os rest → Got ReadsOptions ts os rest
unfolding options_of
options_sound inner s zero ts os rest h = concluded ReadsOptions no_option (record { parts = refl }) h
options_sound inner s (suc turns) [] os rest h = concluded ReadsOptions no_option (record { parts = refl }) h
options_sound inner s (suc turns) (t ∷ more) os rest h = options_by inner s (options_of inner turns) (options_sound inner s turns) t more (option_in t.token) refl os rest h

-- the test of the options, as the fact that it tests
test_once : (options : List (Place × Word × Expr)) → each_once options ≡ true → AtMostOnce options
test_once options h =
    let a = and_parts _ _ h in
    let b = and_parts _ _ a.0 in
    (leb-true _ _ b.0, leb-true _ _ b.1, leb-true _ _ a.1)

once_if : (options : List (Place × Word × Expr)) (b : Bool) → (b ≡ true → AtMostOnce options) → {A : Type 0} (x : A) (left : List Placed) (y : A) (rest : List Placed) →
    (if b then answer x left else None) ≡ answer y rest → AtMostOnce options × (answer x left ≡ answer y rest)
once_if options true k x left y rest h = (k refl, h)
once_if options false k x left y rest h = absurd (none-some (y, rest) h)

pub reading_sound : (inner : Inner) → SoundInner inner → (ts : List Placed) (reading : Reading) (rest : List Placed) → reading_of inner ts ≡ answer reading rest → Got ReadsReading ts reading rest
unfolding reading_of
reading_sound inner s ts reading rest h =
    let a = then_parts h in
    let b = then_parts a.gave in
    let c = then_parts b.gave in
    let d = then_parts c.gave in
    let e = then_parts d.gave in
    let file = (s sum).gets a.behind b.first b.behind b.was in
    let template = (s sum).gets c.behind d.first d.behind d.was in
    let options = options_sound inner s (length d.behind) d.behind e.first e.behind e.was in
    let made : Reading = record { place = c.first; file = b.first; template = d.first; options = e.first } in
    let kept = once_if e.first (each_once e.first) (test_once e.first) made e.behind reading rest e.gave in
    concluded ReadsReading (a_reading a.first c.first kept.0 file.derives template.derives options.derives)
    (prefixed (word_at a.first WRead) (token_fixed is_read (word_token WRead) read_back ts a.first a.behind a.was)
    (infixed (word_at c.first WAs) file.splits (token_fixed is_as (word_token WAs) as_back b.behind c.first c.behind c.was) (appended template.splits options.splits))) kept.1

-- entries

-- a tuple and what belongs to it
pub data ReadsEntry : List Placed → Angle × Expr → Type 0 where
  one_entry : {ts us : List Placed} {tuple : Angle} {given : Expr} → ReadsTuple ts tuple → Reads sum us given → ReadsEntry (ts ++ us) (tuple, given)

pub entry_sound : (inner : Inner) → SoundInner inner → Sound ReadsEntry (entry_of inner)
unfolding entry_of
entry_sound inner s = record {
  gets = λ ts x rest h.
      let a = then_parts h in
      let b = then_parts a.gave in
      let t = (tuple_sound inner s).gets ts a.first a.behind a.was in
      let d = (s sum).gets a.behind b.first b.behind b.was in
      concluded ReadsEntry (one_entry t.derives d.derives) (appended t.splits d.splits) b.gave;
}

pub entries_of_commaed : {ts : List Placed} {entries : List (Angle × Expr)} → Commaed ReadsEntry ts entries → ReadsEntries ts entries
entries_of_commaed (last_one ts x (one_entry d e)) = the_last_entry d e
entries_of_commaed (another p ts vs x xs (one_entry {ts = us} {us = ws} {tuple = tuple} {given = given} d e) f) =
    subst (λ (l : List Placed). ReadsEntries l ((tuple, given) ∷ xs)) (sym (append_assoc us ws (placed p (sign_token SComma) ∷ vs))) (one_more_entry p d e (entries_of_commaed f))

-- an operand behind its word

given_by : (inner : Inner) → SoundInner inner → (w : Word) (test : Token → Bool) → ((token : Token) → test token ≡ true → token ≡ word_token w) → (ts : List Placed) (o : Parsed Place) → expect_token test ts ≡ o →
    (given : Option (Place × Expr)) (rest : List Placed) → given_at inner o ts ≡ answer given rest → Got (ReadsGiven w) ts given rest
given_by inner s w test back ts None e given rest h = concluded (ReadsGiven w) not_given (record { parts = refl }) h
given_by inner s w test back ts (Some x) e given rest h =
    let a = then_parts h in
    let d = (s sum).gets x.1 a.first a.behind a.was in
    concluded (ReadsGiven w) (is_given x.0 d.derives) (prefixed (word_at x.0 w) (token_fixed test (word_token w) back ts x.0 x.1 e) d.splits) a.gave

pub given_sound : (inner : Inner) → SoundInner inner → (w : Word) (test : Token → Bool) → ((token : Token) → test token ≡ true → token ≡ word_token w) → (ts : List Placed) (given : Option (Place × Expr)) (rest : List Placed) →
    given_of inner test ts ≡ answer given rest → Got (ReadsGiven w) ts given rest
given_sound inner s w test back ts given rest h = given_by inner s w test back ts (expect_token test ts) refl given rest h
