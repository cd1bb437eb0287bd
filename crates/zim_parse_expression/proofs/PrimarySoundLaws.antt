-- What the parser reads as a tuple, an index, a body or a primary has a derivation, where what it reads deeper has one.
use Rattle.std.proofs.Common.{◌≡◌, ℕ, Bool, true, false, List, [], ◌∷◌, ◌++◌, length, Some, None, refl, ap, ◌∙◌, subst, append_assoc}
use Rattle.std.proofs.lemmas.Option.{none-some, same_Some}
use Rattle.zim_fault.specs.declared.faults.Place.{Place}
use Rattle.zim_fault.specs.declared.tokens.Token.{Token}
use Rattle.zim_fault.specs.declared.tokens.Token.TheVariants.{Name as name_token, Word as word_token, Number as number_token, Text as text_token, Sign as sign_token}
use Rattle.zim_fault.specs.declared.tokens.Placed.{Placed}
use Rattle.zim_fault.specs.declared.signs.Sign.{Sign}
use Rattle.zim_fault.specs.declared.signs.Sign.TheVariants.{SComma, SLeftParen, SRightParen, SLeftBracket, SRightBracket, SLeftBrace, SRightBrace, SLess, SGreater}
use Rattle.zim_fault.specs.declared.words.Word.{Word}
use Rattle.zim_fault.specs.declared.words.Word.TheVariants.{WThen, WElse, WEnd, WIf, WVif, WIn, WBy, WInfinity, WProj, WTrue, WFalse}
use Rattle.zim_tree.specs.declared.expr.Expr.{Expr}
use Rattle.zim_tree.specs.declared.expr.Angle.{Angle}
use Rattle.zim_tree.specs.declared.expr.Index.{Index}
use Rattle.zim_tree.specs.declared.expr.Body.{Body}
use Rattle.zim_tree.specs.declared.classes.Class.{Class}
use Rattle.zim_tree.specs.declared.classes.Class.TheVariants as class
use Rattle.zim_tree.specs.Trees.{index_of}
use Rattle.zim_tree.specs.Classes.{token_class, word_class, sign_class}
use Rattle.zim_tree.specs.Levels.{Level, primary, sum, disjunction, whole, placed, condition_token, span_token, truth_token, if_token, is_function}
use Rattle.zim_tree.specs.Grammar.{Reads, ReadsList, ReadsTuple, ReadsIndex, ReadsBody, a_number, a_text, a_truth, an_infinity, a_name, an_item, a_bare_call, a_call, a_function, a_projection, in_parentheses, in_braces, an_if, an_if_with_else, a_tuple, an_index, an_index_with, nothing, the_members, the_tuples, the_choices, a_span, a_span_by}
use Rattle.zim_scan.specs.Nesting.{class_at, is_left_paren}
use Rattle.zim_parse_expression.specs.Next.{is_right_paren, is_in, is_else, is_by}
use Rattle.zim_parse_expression.specs.Parser.{Inner, Parsed, and_then, expect, flag_of, condition_in, span_in, is_true, is_vif, items_of, tuple_of, index_end, index_behind, index_from, span_end, body_behind, body_tuple, body_at, body_of, arguments, call_end, from_name, named, if_end, if_from, function_from, projection_from, from_word, sign_at, primary_at, primary_of}
use Rattle.zim_parse_expression.proofs.BeginningLaws.{no}
use Rattle.zim_parse_expression.proofs.InversionLaws.{then_parts, answer, Split, Got, concluded, prefixed, appended, single, infixed, enclosed, got_left_paren, got_right_paren, got_right_bracket, got_right_brace, got_comma, got_less, got_greater, got_in, got_then, got_else, got_end, got_by, got_condition, got_span, list_of_commaed, tuples_of_commaed, Sound, more_items, got_items}

-- what is read deeper has a derivation
abbrev pub SoundInner : Inner → Type 0
SoundInner inner = (level : Level) → Sound (Reads level) (inner level)

pub items_sound : (inner : Inner) → SoundInner inner → (level : Level) (ts : List Placed) (xs : List Expr) (rest : List Placed) → items_of (inner level) ts ≡ answer xs rest → Got (ReadsList level) ts xs rest
items_sound inner s level ts xs rest h =
    let g = got_items (Reads level) (inner level) (s level) ts xs rest h in
    record { used = g.used; splits = g.splits; derives = list_of_commaed g.derives }

pub tuple_sound : (inner : Inner) → SoundInner inner → Sound ReadsTuple (tuple_of inner)
unfolding tuple_of
tuple_sound inner s = record {
  gets = λ ts t rest h.
      let a = then_parts h in
      let b = then_parts a.gave in
      let c = then_parts b.gave in
      let l = items_sound inner s sum a.behind b.first b.behind b.was in
      concluded ReadsTuple (a_tuple a.first c.first l.derives)
      (enclosed (placed a.first (sign_token SLess)) (placed c.first (sign_token SGreater)) (got_less ts a.first a.behind a.was) l.splits (got_greater b.behind c.first c.behind c.was))
      c.gave;
}

-- an index behind a tuple

-- the tokens behind `in`, as the index with that tuple
pub record IndexRest (p : Place) (tuple : Angle) (ts : List Placed) (index : Index) (rest : List Placed) : Type 0 where
  pub used : List Placed
  pub splits : Split ts used rest
  pub derives : (before : List Placed) → ReadsTuple before tuple → ReadsIndex (before ++ placed p (word_token WIn) ∷ used) index

index_ended : (inner : Inner) → SoundInner inner → (p : Place) (tuple : Angle) (set : Expr) (us behind : List Placed) (ts : List Placed) → Split ts us behind → Reads sum us set →
    (o : Parsed Bool) → flag_of condition_in behind ≡ o → (index : Index) (rest : List Placed) → index_end inner p tuple set o behind ≡ answer index rest → IndexRest p tuple ts index rest
index_ended inner s p tuple set us behind ts sp d None e index rest h =
    let same : (index_of p tuple set None, behind) ≡ (index, rest) = same_Some (index_of p tuple set None, behind) (index, rest) h in
    record {
      used = us;
      splits = subst (λ (z : Index × List Placed). Split ts us z.1) same sp;
      derives = λ before b. subst (λ (z : Index × List Placed). ReadsIndex (before ++ placed p (word_token WIn) ∷ us) z.0) same (an_index p b d);
    }
index_ended inner s p tuple set us behind ts sp d (Some x) e index rest h =
    let a = then_parts h in
    let f = got_condition behind x.0 x.1 e in
    let c = (s disjunction).gets x.1 a.first a.behind a.was in
    let same : (index_of p tuple set (Some (x.0, a.first)), a.behind) ≡ (index, rest) = same_Some (index_of p tuple set (Some (x.0, a.first)), a.behind) (index, rest) a.gave in
    record {
      used = us ++ placed f.at (condition_token x.0) ∷ c.used;
      splits = subst (λ (z : Index × List Placed). Split ts (us ++ placed f.at (condition_token x.0) ∷ c.used) z.1) same
          (infixed (placed f.at (condition_token x.0)) sp f.is_first c.splits);
      derives = λ before b. subst (λ (z : Index × List Placed). ReadsIndex (before ++ placed p (word_token WIn) ∷ (us ++ placed f.at (condition_token x.0) ∷ c.used)) z.0) same
          (an_index_with p f.at x.0 b d c.derives);
    }

index_behind_sound : (inner : Inner) → SoundInner inner → (p : Place) (tuple : Angle) (ts : List Placed) (index : Index) (rest : List Placed) →
    index_behind inner tuple p ts ≡ answer index rest → IndexRest p tuple ts index rest
unfolding index_behind
index_behind_sound inner s p tuple ts index rest h =
    let a = then_parts h in
    let d = (s sum).gets ts a.first a.behind a.was in
    index_ended inner s p tuple a.first d.used a.behind ts d.splits d.derives (flag_of condition_in a.behind) refl index rest a.gave

pub index_sound : (inner : Inner) → SoundInner inner → Sound ReadsIndex (index_from inner)
unfolding index_from
index_sound inner s = record {
  gets = λ ts index rest h.
      let a = then_parts h in
      let b = then_parts a.gave in
      let t = (tuple_sound inner s).gets ts a.first a.behind a.was in
      let r = index_behind_sound inner s b.first a.first b.behind index rest b.gave in
      record {
        used = t.used ++ placed b.first (word_token WIn) ∷ r.used;
        splits = infixed (placed b.first (word_token WIn)) t.splits (got_in a.behind b.first b.behind b.was) r.splits;
        derives = r.derives t.used t.derives;
      };
}

-- bodies

by_split : {ts behind left rest : List Placed} (with_to : Bool) (p q : Place) (us vs used : List Placed) → Split ts (us ++ placed p (span_token with_to) ∷ vs) behind → behind ≡ placed q (word_token WBy) ∷ left → Split left used rest →
    Split ts (us ++ placed p (span_token with_to) ∷ (vs ++ placed q (word_token WBy) ∷ used)) rest
by_split {ts = ts} {rest = rest} with_to p q us vs used sp e f =
    subst (λ (l : List Placed). Split ts l rest) (append_assoc us (placed p (span_token with_to) ∷ vs) (placed q (word_token WBy) ∷ used)) (infixed (placed q (word_token WBy)) sp e f)

span_ended : (inner : Inner) → SoundInner inner → (from to : Expr) (with_to : Bool) (p : Place) (us vs behind ts : List Placed) → Split ts (us ++ placed p (span_token with_to) ∷ vs) behind → Reads sum us from → Reads sum vs to →
    (o : Parsed Place) → expect is_by behind ≡ o → (inside : Body) (rest : List Placed) → span_end inner from with_to to o behind ≡ answer inside rest → Got ReadsBody ts inside rest
span_ended inner s from to with_to p us vs behind ts sp d e None i inside rest h = concluded ReadsBody (a_span p with_to d e) sp h
span_ended inner s from to with_to p us vs behind ts sp d e (Some x) i inside rest h =
    let a = then_parts h in
    let c = (s sum).gets x.1 a.first a.behind a.was in
    concluded ReadsBody (a_span_by p x.0 with_to d e c.derives) (by_split with_to p x.0 us vs c.used sp (got_by behind x.0 x.1 i) c.splits) a.gave

-- what stands in braces behind a first sum
body_sum_ended : (inner : Inner) → SoundInner inner → (first : Expr) (us behind ts : List Placed) → Split ts us behind → Reads sum us first →
    (o : Parsed Bool) → flag_of span_in behind ≡ o → (inside : Body) (rest : List Placed) → body_behind inner first o behind ≡ answer inside rest → Got ReadsBody ts inside rest
body_sum_ended inner s first us behind ts sp d None e inside rest h =
    let a = then_parts h in
    let m = more_items (Reads sum) (inner sum) (s sum) (length behind) us behind first a.first a.behind d a.was in
    concluded ReadsBody (the_members (list_of_commaed m.derives)) (appended sp m.splits) a.gave
body_sum_ended inner s first us behind ts sp d (Some x) e inside rest h =
    let a = then_parts h in
    let f = got_span behind x.0 x.1 e in
    let t = (s sum).gets x.1 a.first a.behind a.was in
    span_ended inner s first a.first x.0 f.at us t.used a.behind ts (infixed (placed f.at (span_token x.0)) sp f.is_first t.splits) d t.derives (expect is_by a.behind) refl inside rest a.gave

-- what stands in braces behind a first tuple
body_tuple_ended : (inner : Inner) → SoundInner inner → (tuple : Angle) (us behind ts : List Placed) → Split ts us behind → ReadsTuple us tuple →
    (o : Parsed Place) → expect is_in behind ≡ o → (inside : Body) (rest : List Placed) → body_tuple inner tuple o behind ≡ answer inside rest → Got ReadsBody ts inside rest
body_tuple_ended inner s tuple us behind ts sp d None e inside rest h =
    let a = then_parts h in
    let m = more_items ReadsTuple (tuple_of inner) (tuple_sound inner s) (length behind) us behind tuple a.first a.behind d a.was in
    concluded ReadsBody (the_tuples (tuples_of_commaed m.derives)) (appended sp m.splits) a.gave
body_tuple_ended inner s tuple us behind ts sp d (Some x) e inside rest h =
    let a = then_parts h in
    let r = index_behind_sound inner s x.0 tuple x.1 a.first a.behind a.was in
    concluded ReadsBody (the_choices (r.derives us d)) (infixed (placed x.0 (word_token WIn)) sp (got_in behind x.0 x.1 e) r.splits) a.gave

body_sum_first : (inner : Inner) → SoundInner inner → (ts : List Placed) (inside : Body) (rest : List Placed) →
    and_then (inner sum ts) (λ first left. body_behind inner first (flag_of span_in left) left) ≡ answer inside rest → Got ReadsBody ts inside rest
body_sum_first inner s ts inside rest h =
    let a = then_parts h in
    let d = (s sum).gets ts a.first a.behind a.was in
    body_sum_ended inner s a.first d.used a.behind ts d.splits d.derives (flag_of span_in a.behind) refl inside rest a.gave

body_by_class : (inner : Inner) → SoundInner inner → (k : Class) (ts : List Placed) (inside : Body) (rest : List Placed) → body_at inner k ts ≡ answer inside rest → Got ReadsBody ts inside rest
body_by_class inner s class.RightBrace ts inside rest h = concluded ReadsBody nothing (record { parts = refl }) h
body_by_class inner s class.Less ts inside rest h =
    let a = then_parts h in
    let t = (tuple_sound inner s).gets ts a.first a.behind a.was in
    body_tuple_ended inner s a.first t.used a.behind ts t.splits t.derives (expect is_in a.behind) refl inside rest a.gave
body_by_class inner s _ ts inside rest h = body_sum_first inner s ts inside rest h

body_by_token : (inner : Inner) → SoundInner inner → (ts : List Placed) (inside : Body) (rest : List Placed) → body_of inner ts ≡ answer inside rest → Got ReadsBody ts inside rest
unfolding body_of
body_by_token inner s [] inside rest h = absurd (none-some (inside, rest) h)
body_by_token inner s (t ∷ more) inside rest h = body_by_class inner s (class_at t) (t ∷ more) inside rest h

pub body_sound : (inner : Inner) → SoundInner inner → Sound ReadsBody (body_of inner)
body_sound inner s = record {
  gets = λ ts inside rest h. body_by_token inner s ts inside rest h;
}

-- primaries

pub arguments_sound : (inner : Inner) → SoundInner inner → (ts : List Placed) (given : List Expr) (rest : List Placed) → arguments inner ts ≡ answer given rest →
    (r : Place) × (us : List Placed) × Split ts (us ++ placed r (sign_token SRightParen) ∷ []) rest × ReadsList disjunction us given
unfolding arguments
arguments_sound inner s ts given rest h =
    let a = then_parts h in
    let b = then_parts a.gave in
    let l = items_sound inner s disjunction ts a.first a.behind a.was in
    let same : (a.first, b.behind) ≡ (given, rest) = same_Some (a.first, b.behind) (given, rest) b.gave in (
      b.first,
      l.used,
      subst (λ (z : List Expr × List Placed). Split ts (l.used ++ placed b.first (sign_token SRightParen) ∷ []) z.1) same (appended l.splits (single (placed b.first (sign_token SRightParen)) (got_right_paren a.behind b.first b.behind b.was))),
      subst (λ (z : List Expr × List Placed). ReadsList disjunction l.used z.0) same l.derives,
    )

call_ended : (inner : Inner) → SoundInner inner → (p q : Place) (name : List ℕ) (more ts : List Placed) → ts ≡ placed p (name_token name) ∷ (placed q (sign_token SLeftParen) ∷ more) →
    (o : Parsed Place) → expect is_right_paren more ≡ o → (e : Expr) (rest : List Placed) → call_end inner p name o more ≡ answer e rest → Got (Reads primary) ts e rest
call_ended inner s p q name more ts begin None o e rest h =
    let a = then_parts h in
    let g = arguments_sound inner s more a.first a.behind a.was in
    concluded (Reads primary) (a_call p q g.0 name g.3) (prefixed (placed p (name_token name)) begin (prefixed (placed q (sign_token SLeftParen)) refl g.2)) a.gave
call_ended inner s p q name more ts begin (Some x) o e rest h =
    concluded (Reads primary) (a_bare_call p q x.0 name)
    (prefixed (placed p (name_token name)) begin (prefixed (placed q (sign_token SLeftParen)) refl (single (placed x.0 (sign_token SRightParen)) (got_right_paren more x.0 x.1 o)))) h

is_left_bracket : Class → Bool
is_left_bracket class.LeftBracket = true
is_left_bracket _ = false

bracket_back : (token : Token) (k : Class) → token_class token ≡ k → k ≡ class.LeftBracket → token ≡ sign_token SLeftBracket
unfolding is_left_bracket
bracket_back (sign_token SLeftBracket) k e f = refl
bracket_back (word_token WIn) k e f = no (ap is_left_bracket (e ∙ f))
bracket_back _ k e f = no (ap is_left_bracket (e ∙ f))

paren_back : (token : Token) (k : Class) → token_class token ≡ k → k ≡ class.LeftParen → token ≡ sign_token SLeftParen
paren_back (sign_token SLeftParen) k e f = refl
paren_back (word_token WIn) k e f = no (ap is_left_paren (e ∙ f))
paren_back _ k e f = no (ap is_left_paren (e ∙ f))

name_by_class : (inner : Inner) → SoundInner inner → (p : Place) (name : List ℕ) (k : Class) (t : Placed) (more : List Placed) → class_at t ≡ k → (e : Expr) (rest : List Placed) →
    from_name inner p name k t more ≡ answer e rest → Got (Reads primary) (placed p (name_token name) ∷ (t ∷ more)) e rest
name_by_class inner s p name class.LeftBracket t more c e rest h =
    let a = then_parts h in
    let b = then_parts a.gave in
    let l = items_sound inner s sum more a.first a.behind a.was in
    let opened : t ∷ more ≡ placed t.place (sign_token SLeftBracket) ∷ more = ap (λ (x : Token). placed t.place x ∷ more) (bracket_back t.token class.LeftBracket c refl) in
    concluded (Reads primary) (an_item p t.place b.first name l.derives)
    (prefixed (placed p (name_token name)) refl (enclosed (placed t.place (sign_token SLeftBracket)) (placed b.first (sign_token SRightBracket)) opened l.splits (got_right_bracket a.behind b.first b.behind b.was))) b.gave
name_by_class inner s p name class.LeftParen t more c e rest h =
    let opened : t ∷ more ≡ placed t.place (sign_token SLeftParen) ∷ more = ap (λ (x : Token). placed t.place x ∷ more) (paren_back t.token class.LeftParen c refl) in
    call_ended inner s p t.place name more (placed p (name_token name) ∷ (t ∷ more)) (ap (λ (l : List Placed). placed p (name_token name) ∷ l) opened) (expect is_right_paren more) refl e rest h
name_by_class inner s p name _ t more c e rest h = concluded (Reads primary) (a_name p name) (record { parts = refl }) h

name_sound : (inner : Inner) → SoundInner inner → (p : Place) (name : List ℕ) (more : List Placed) (e : Expr) (rest : List Placed) → named inner p name more ≡ answer e rest → Got (Reads primary) (placed p (name_token name) ∷ more) e rest
unfolding named
name_sound inner s p name [] e rest h = concluded (Reads primary) (a_name p name) (record { parts = refl }) h
name_sound inner s p name (t ∷ more) e rest h = name_by_class inner s p name (class_at t) t more refl e rest h

then_split : {before behind rest : List Placed} (q : Place) (us vs more : List Placed) → Split before (us ++ placed q (word_token WThen) ∷ vs) behind → Split behind more rest →
    Split before (us ++ placed q (word_token WThen) ∷ (vs ++ more)) rest
then_split {before = before} {rest = rest} q us vs more sp f =
    subst (λ (l : List Placed). Split before l rest) (append_assoc us (placed q (word_token WThen) ∷ vs) more) (appended sp f)

if_ended : (inner : Inner) → SoundInner inner → (p q : Place) (vif : Bool) (test branch : Expr) (us vs ts behind before : List Placed) →
    ts ≡ placed p (if_token vif) ∷ before → Split before (us ++ placed q (word_token WThen) ∷ vs) behind → Reads disjunction us test → Reads whole vs branch →
    (o : Parsed Place) → expect is_else behind ≡ o → (e : Expr) (rest : List Placed) → if_end inner p vif test branch o behind ≡ answer e rest → Got (Reads primary) ts e rest
if_ended inner s p q vif test branch us vs ts behind before begin sp d f None o e rest h =
    let a = then_parts h in
    concluded (Reads primary) (an_if p q a.first vif d f)
    (prefixed (placed p (if_token vif)) begin (then_split q us vs (placed a.first (word_token WEnd) ∷ []) sp (single (placed a.first (word_token WEnd)) (got_end behind a.first a.behind a.was)))) a.gave
if_ended inner s p q vif test branch us vs ts behind before begin sp d f (Some x) o e rest h =
    let a = then_parts h in
    let b = then_parts a.gave in
    let g = (s whole).gets x.1 a.first a.behind a.was in
    concluded (Reads primary) (an_if_with_else p q x.0 b.first vif d f g.derives)
    (prefixed (placed p (if_token vif)) begin (then_split q us vs (placed x.0 (word_token WElse) ∷ (g.used ++ placed b.first (word_token WEnd) ∷ [])) sp
    (enclosed (placed x.0 (word_token WElse)) (placed b.first (word_token WEnd)) (got_else behind x.0 x.1 o) g.splits (got_end a.behind b.first b.behind b.was)))) b.gave

if_sound : (inner : Inner) → SoundInner inner → (p : Place) (vif : Bool) (more ts : List Placed) → ts ≡ placed p (if_token vif) ∷ more → (e : Expr) (rest : List Placed) →
    if_from inner p vif more ≡ answer e rest → Got (Reads primary) ts e rest
unfolding if_from
if_sound inner s p vif more ts begin e rest h =
    let a = then_parts h in
    let b = then_parts a.gave in
    let c = then_parts b.gave in
    let d = (s disjunction).gets more a.first a.behind a.was in
    let f = (s whole).gets b.behind c.first c.behind c.was in
    if_ended inner s p b.first vif a.first c.first d.used f.used ts c.behind more begin
    (infixed (placed b.first (word_token WThen)) d.splits (got_then a.behind b.first b.behind b.was) f.splits) d.derives f.derives (expect is_else c.behind) refl e rest c.gave

function_sound : (inner : Inner) → SoundInner inner → (p : Place) (w : Word) → is_function (word_class w) ≡ true → (more : List Placed) (e : Expr) (rest : List Placed) →
    function_from inner p w more ≡ answer e rest → Got (Reads primary) (placed p (word_token w) ∷ more) e rest
unfolding function_from
function_sound inner s p w f more e rest h =
    let a = then_parts h in
    let b = then_parts a.gave in
    let g = arguments_sound inner s a.behind b.first b.behind b.was in
    concluded (Reads primary) (a_function p a.first g.0 w f g.3)
    (prefixed (placed p (word_token w)) refl (prefixed (placed a.first (sign_token SLeftParen)) (got_left_paren more a.first a.behind a.was) g.2)) b.gave

projection_sound : (inner : Inner) → SoundInner inner → (p : Place) (more ts : List Placed) → ts ≡ placed p (word_token WProj) ∷ more → (e : Expr) (rest : List Placed) →
    projection_from inner p more ≡ answer e rest → Got (Reads primary) ts e rest
unfolding projection_from
projection_sound inner s p more ts begin e rest h =
    let a = then_parts h in
    let b = then_parts a.gave in
    let c = then_parts b.gave in
    let d = then_parts c.gave in
    let f = then_parts d.gave in
    let set = (s disjunction).gets a.behind b.first b.behind b.was in
    let positions = (tuple_sound inner s).gets c.behind d.first d.behind d.was in
    concluded (Reads primary) (a_projection p a.first c.first f.first set.derives positions.derives)
    (prefixed (placed p (word_token WProj)) begin (prefixed (placed a.first (sign_token SLeftParen)) (got_left_paren more a.first a.behind a.was)
    (infixed (placed c.first (sign_token SComma)) set.splits (got_comma b.behind c.first c.behind c.was)
    (appended positions.splits (single (placed f.first (sign_token SRightParen)) (got_right_paren d.behind f.first f.behind f.was)))))) f.gave

-- words

is_truth : Class → Bool
is_truth class.Truth = true
is_truth _ = false

is_infinity : Class → Bool
is_infinity class.Infinity = true
is_infinity _ = false

is_proj : Class → Bool
is_proj class.Proj = true
is_proj _ = false

is_if : Class → Bool
is_if class.IfOrVif = true
is_if _ = false

truth_back : (w : Word) → is_truth (word_class w) ≡ true → word_token w ≡ truth_token (is_true w)
unfolding is_truth
truth_back WTrue h = refl
truth_back WFalse h = refl
truth_back _ h = no h

infinity_back : (w : Word) → is_infinity (word_class w) ≡ true → word_token w ≡ word_token WInfinity
unfolding is_infinity
infinity_back WInfinity h = refl
infinity_back _ h = no h

proj_back : (w : Word) → is_proj (word_class w) ≡ true → word_token w ≡ word_token WProj
unfolding is_proj
proj_back WProj h = refl
proj_back _ h = no h

if_back : (w : Word) → is_if (word_class w) ≡ true → word_token w ≡ if_token (is_vif w)
unfolding is_if
if_back WIf h = refl
if_back WVif h = refl
if_back _ h = no h

instead : {token fixed : Token} (p : Place) (more : List Placed) → token ≡ fixed → placed p token ∷ more ≡ placed p fixed ∷ more
instead p more e = ap (λ (x : Token). placed p x ∷ more) e

word_by_class : (inner : Inner) → SoundInner inner → (p : Place) (w : Word) (k : Class) → word_class w ≡ k → (more : List Placed) (e : Expr) (rest : List Placed) →
    from_word inner p w k more ≡ answer e rest → Got (Reads primary) (placed p (word_token w) ∷ more) e rest
unfolding is_truth is_infinity is_proj is_if
word_by_class inner s p w class.Truth c more e rest h =
    concluded (Reads primary) (a_truth p (is_true w)) (single (placed p (truth_token (is_true w))) (instead p more (truth_back w (ap is_truth c)))) h
word_by_class inner s p w class.Infinity c more e rest h =
    concluded (Reads primary) (an_infinity p) (single (placed p (word_token WInfinity)) (instead p more (infinity_back w (ap is_infinity c)))) h
word_by_class inner s p w class.Function c more e rest h = function_sound inner s p w (ap is_function c) more e rest h
word_by_class inner s p w class.MinOrMax c more e rest h = function_sound inner s p w (ap is_function c) more e rest h
word_by_class inner s p w class.Proj c more e rest h = projection_sound inner s p more (placed p (word_token w) ∷ more) (instead p more (proj_back w (ap is_proj c))) e rest h
word_by_class inner s p w class.IfOrVif c more e rest h = if_sound inner s p (is_vif w) more (placed p (word_token w) ∷ more) (instead p more (if_back w (ap is_if c))) e rest h
word_by_class inner s p w _ c more e rest h = absurd (none-some (e, rest) h)

-- signs

is_left_brace : Class → Bool
is_left_brace class.LeftBrace = true
is_left_brace _ = false

left_paren_sign : (sign : Sign) → is_left_paren (sign_class sign) ≡ true → sign_token sign ≡ sign_token SLeftParen
left_paren_sign SLeftParen h = refl
left_paren_sign _ h = no h

left_brace_sign : (sign : Sign) → is_left_brace (sign_class sign) ≡ true → sign_token sign ≡ sign_token SLeftBrace
unfolding is_left_brace
left_brace_sign SLeftBrace h = refl
left_brace_sign _ h = no h

sign_by_class : (inner : Inner) → SoundInner inner → (p : Place) (sign : Sign) (k : Class) → sign_class sign ≡ k → (more : List Placed) (e : Expr) (rest : List Placed) →
    sign_at inner p k more ≡ answer e rest → Got (Reads primary) (placed p (sign_token sign) ∷ more) e rest
unfolding is_left_brace
sign_by_class inner s p sign class.LeftParen c more e rest h =
    let a = then_parts h in
    let b = then_parts a.gave in
    let d = (s disjunction).gets more a.first a.behind a.was in
    concluded (Reads primary) (in_parentheses p b.first d.derives)
    (enclosed (placed p (sign_token SLeftParen)) (placed b.first (sign_token SRightParen)) (instead p more (left_paren_sign sign (ap is_left_paren c))) d.splits (got_right_paren a.behind b.first b.behind b.was)) b.gave
sign_by_class inner s p sign class.LeftBrace c more e rest h =
    let a = then_parts h in
    let b = then_parts a.gave in
    let d = (body_sound inner s).gets more a.first a.behind a.was in
    concluded (Reads primary) (in_braces p b.first d.derives)
    (enclosed (placed p (sign_token SLeftBrace)) (placed b.first (sign_token SRightBrace)) (instead p more (left_brace_sign sign (ap is_left_brace c))) d.splits (got_right_brace a.behind b.first b.behind b.was)) b.gave
sign_by_class inner s p sign _ c more e rest h = absurd (none-some (e, rest) h)

primary_by_token : (inner : Inner) → SoundInner inner → (p : Place) (token : Token) (more : List Placed) (e : Expr) (rest : List Placed) →
    primary_at inner p token more ≡ answer e rest → Got (Reads primary) (placed p token ∷ more) e rest
primary_by_token inner s p (number_token digits) more e rest h = concluded (Reads primary) (a_number p digits) (record { parts = refl }) h
primary_by_token inner s p (text_token text double) more e rest h = concluded (Reads primary) (a_text p text double) (record { parts = refl }) h
primary_by_token inner s p (name_token name) more e rest h = name_sound inner s p name more e rest h
primary_by_token inner s p (word_token w) more e rest h = word_by_class inner s p w (word_class w) refl more e rest h
primary_by_token inner s p (sign_token sign) more e rest h = sign_by_class inner s p sign (sign_class sign) refl more e rest h

primary_by_tokens : (inner : Inner) → SoundInner inner → (ts : List Placed) (e : Expr) (rest : List Placed) → primary_of inner ts ≡ answer e rest → Got (Reads primary) ts e rest
unfolding primary_of
primary_by_tokens inner s [] e rest h = absurd (none-some (e, rest) h)
primary_by_tokens inner s (t ∷ more) e rest h = primary_by_token inner s t.place t.token more e rest h

pub primary_sound : (inner : Inner) → SoundInner inner → Sound (Reads primary) (primary_of inner)
primary_sound inner s = record { gets = primary_by_tokens inner s }
