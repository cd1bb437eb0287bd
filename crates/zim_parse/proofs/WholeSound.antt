-- What the parser reads as a statement has a derivation.
use Rattle.std.proofs.Common.{◌≡◌, ℕ, zero, suc, Bool, true, false, if◌then◌else◌, List, [], ◌∷◌, ◌++◌, length, Option, Some, None, refl, sym, ap, ◌∙◌, subst, append_assoc, append-nil, leb-true}
use Rattle.std.proofs.lemmas.Bool.{and_parts}
use Rattle.std.proofs.lemmas.Option.{none-some, same_Some}
use Rattle.zim_fault.specs.declared.faults.Place.{Place}
use Rattle.zim_fault.specs.declared.tokens.Token.{Token}
use Rattle.zim_fault.specs.declared.tokens.Token.TheVariants.{Name as name_token, Word as word_token, Sign as sign_token}
use Rattle.zim_fault.specs.declared.tokens.Placed.{Placed}
use Rattle.zim_fault.specs.declared.signs.Sign.TheVariants.{SSemicolon, SColon, SLeftParen, SRightParen, SAssign, SLess, SGreaterEqual, SLessEqual}
use Rattle.zim_fault.specs.declared.words.Word.{Word}
use Rattle.zim_fault.specs.declared.words.Word.TheVariants.{WSet, WParam, WVar, WMinimize, WMaximize, WSubto, WDefnumb, WDefstrg, WDefbool, WDefset, WDo, WPrint, WCheck, WForall, WPriority, WStartval}
use Rattle.zim_tree.specs.declared.expr.Angle.{Angle}
use Rattle.zim_tree.specs.declared.stmt.Stmt.{Stmt}
use Rattle.zim_tree.specs.declared.stmt.Shape.{Shape}
use Rattle.zim_tree.specs.declared.stmt.Shape.TheVariants as shape
use Rattle.zim_tree.specs.declared.stmt.Limit.{Limit}
use Rattle.zim_tree.specs.declared.stmt.Doing.{Doing}
use Rattle.zim_tree.specs.declared.stmt.Printed.{Printed}
use Rattle.zim_tree.specs.Levels.{sum, disjunction, whole, placed, separator_token}
use Rattle.zim_tree.specs.Grammar.{ReadsTuple}
use Rattle.zim_tree.specs.StatementGrammar.{word_at, is_kind, limit_token, LimitsKept, ReadsKind, no_kind, a_kind, ReadsLimits, no_limit, a_limit, ReadsPrinted, a_printed_value, a_printed_tuple, ReadsPrintedList, the_last_printed, one_more_printed, ReadsDoing, a_print, a_check, for_each, ReadsNames, the_last_name, one_more_name, ReadsParameters, no_parameter, the_parameters, is_definition, goal_word, declared, ReadsShape, a_set_statement, a_param_statement, a_var_statement, a_goal_statement, a_subto_statement, a_definition, a_do_statement, ReadsStatement, a_statement}
use Rattle.zim_parse_expression.specs.Next.{Start, a_less, start_of, is_in, is_right_paren}
use Rattle.zim_parse_expression.specs.Parser.{Inner, Parsed, and_then, expect, parse}
use Rattle.zim_parse_expression.specs.StatementTokens.{expect_token, is_semicolon, is_assign, is_colon, is_priority, is_startval, kind_in, kind_at, kind_of, limit_in}
use Rattle.zim_parse.specs.StatementParser.{name_at, name_of, limit_or, limits_of, is_binary, has_no_limits, limits_kept, var_of, printed_tuple, printed_at, printed_of, doing_at, doing_of, parameters_at, goal_of, definition_of, declared_of, behind_word, behind_first, whole_statement}
use Rattle.zim_parse_expression.proofs.BeginningLaws.{no}
use Rattle.zim_parse_expression.proofs.InversionLaws.{then_parts, answer, Split, Got, concluded, prefixed, appended, single, infixed, got_left_paren, got_right_paren, got_separator, Sound, Commaed, last_one, another, got_items}
use Rattle.zim_parse_expression.proofs.PrimarySoundLaws.{SoundInner, tuple_sound, index_sound}
use Rattle.zim_parse_expression.proofs.SoundnessLaws.{parse_sound}
use Rattle.zim_parse.proofs.StatementSound.{token_fixed, semicolon_back, assign_back, colon_back, priority_back, startval_back, given_sound}
use Rattle.zim_parse.proofs.SideSound.{brackets_sound, set_brackets_sound}
use Rattle.zim_parse.proofs.RightSideSound.{set_side_sound, par_side_sound}

-- variables

record GotKind (ts : List Placed) (kind : Option Word) (rest : List Placed) : Type 0 where
  used : List Placed
  splits : Split ts used rest
  derives : ReadsKind used kind

kind_if : (w : Word) (b : Bool) (v : Word) → (if b then Some w else None) ≡ Some v → (b ≡ true) × (w ≡ v)
kind_if w true v h = (refl, same_Some w v h)
kind_if w false v h = absurd (none-some v h)

kind_back : (token : Token) (v : Word) → kind_in token ≡ Some v → (token ≡ word_token v) × (is_kind v ≡ true)
kind_back (word_token w) v h = let p = kind_if w (is_kind w) v h in (ap word_token p.1, subst (λ (x : Word). is_kind x ≡ true) p.1 p.0)
kind_back (sign_token SLess) v h = absurd (none-some v h)
kind_back _ v h = absurd (none-some v h)

kind_by : (t : Placed) (more : List Placed) (o : Option Word) → kind_in t.token ≡ o → GotKind (t ∷ more) (kind_at t more o).0 (kind_at t more o).1
kind_by t more None e = record { used = []; splits = record { parts = refl }; derives = no_kind }
kind_by t more (Some w) e =
    let back = kind_back t.token w e in
    record { used = word_at t.place w ∷ []; splits = single (word_at t.place w) (ap (λ (x : Token). placed t.place x ∷ more) back.0); derives = a_kind t.place w back.1 }

kind_sound : (ts : List Placed) → GotKind ts (kind_of ts).0 (kind_of ts).1
kind_sound [] = record { used = []; splits = record { parts = refl }; derives = no_kind }
kind_sound (t ∷ more) = kind_by t more (kind_in t.token) refl

limit_token_back : (token : Token) (lower : Bool) → limit_in token ≡ Some lower → token ≡ limit_token lower
limit_token_back (sign_token SGreaterEqual) lower h = ap limit_token (same_Some true lower h)
limit_token_back (sign_token SLessEqual) lower h = ap limit_token (same_Some false lower h)
limit_token_back _ lower h = absurd (none-some lower h)

limits_by : (inner : Inner) → SoundInner inner → (more : List Placed → Parsed (List Limit)) → ((ts : List Placed) (ls : List Limit) (rest : List Placed) → more ts ≡ answer ls rest → Got ReadsLimits ts ls rest) →
    (t : Placed) (behind : List Placed) (o : Option Bool) → limit_in t.token ≡ o → (ls : List Limit) (rest : List Placed) → limit_or inner more t behind o ≡ answer ls rest → Got ReadsLimits (t ∷ behind) ls rest
limits_by inner s more recur t behind None e ls rest h = concluded ReadsLimits no_limit (record { parts = refl }) h
limits_by inner s more recur t behind (Some lower) e ls rest h =
    let a = then_parts h in
    let b = then_parts a.gave in
    let d = (s sum).gets behind a.first a.behind a.was in
    let l = recur a.behind b.first b.behind b.was in
    concluded ReadsLimits (a_limit t.place lower d.derives l.derives)
    (prefixed (placed t.place (limit_token lower)) (ap (λ (x : Token). placed t.place x ∷ behind) (limit_token_back t.token lower e)) (appended d.splits l.splits)) b.gave

limits_sound : (inner : Inner) → SoundInner inner → (turns : ℕ) (ts : List Placed) (ls : List Limit) (rest : List Placed) → limits_of inner turns ts ≡ answer ls rest → Got ReadsLimits ts ls rest
unfolding limits_of
limits_sound inner s zero ts ls rest h = concluded ReadsLimits no_limit (record { parts = refl }) h
limits_sound inner s (suc turns) [] ls rest h = concluded ReadsLimits no_limit (record { parts = refl }) h
limits_sound inner s (suc turns) (t ∷ more) ls rest h = limits_by inner s (limits_of inner turns) (limits_sound inner s turns) t more (limit_in t.token) refl ls rest h

empty_nil : (limits : List Limit) → has_no_limits limits ≡ true → limits ≡ []
empty_nil [] h = refl
empty_nil (l ∷ limits) h = no h

kept_of_test : (kind : Option Word) (limits : List Limit) → limits_kept kind limits ≡ true → LimitsKept kind limits
kept_of_test kind limits h =
    let a = and_parts _ _ h in
    let b = and_parts _ _ a.0 in
    (leb-true _ _ b.0, leb-true _ _ b.1, λ e. empty_nil limits (subst (λ (k : Option Word). (if is_binary k then has_no_limits limits else true) ≡ true) e a.1))

kept_if : (b : Bool) {A : Type 0} (x : A) (left : List Placed) (y : A) (rest : List Placed) → (if b then answer x left else None) ≡ answer y rest → (b ≡ true) × (answer x left ≡ answer y rest)
kept_if true x left y rest h = (refl, h)
kept_if false x left y rest h = absurd (none-some (y, rest) h)

-- what is said of a name at q, behind the word and the name
abbrev Behind : Place → Word → Place → List ℕ → List Placed → Shape → Type 0
Behind p w q name us what = ReadsShape p q name (declared p w q name us) what

var_sound : (inner : Inner) → SoundInner inner → (p q : Place) (name : List ℕ) (ts : List Placed) (what : Shape) (rest : List Placed) → var_of inner ts ≡ answer what rest → Got (Behind p WVar q name) ts what rest
unfolding var_of
var_sound inner s p q name ts what rest h =
    let a = then_parts h in
    let b = then_parts a.gave in
    let c = then_parts b.gave in
    let d = then_parts c.gave in
    let kind : Option Word = (kind_of a.behind).0 in
    let brackets = (brackets_sound inner s).gets ts a.first a.behind a.was in
    let k = kind_sound a.behind in
    let limits = limits_sound inner s (length (kind_of a.behind).1) (kind_of a.behind).1 b.first b.behind b.was in
    let priority = given_sound inner s WPriority is_priority priority_back b.behind c.first c.behind c.was in
    let startval = given_sound inner s WStartval is_startval startval_back c.behind d.first d.behind d.was in
    let made : Shape = shape.Var a.first kind b.first c.first d.first in
    let kept = kept_if (limits_kept kind b.first) made d.behind what rest d.gave in
    concluded (Behind p WVar q name) (a_var_statement p q name (kept_of_test kind b.first kept.0) brackets.derives k.derives limits.derives priority.derives startval.derives)
    (appended brackets.splits (appended k.splits (appended limits.splits (appended priority.splits startval.splits)))) kept.1

-- `do`

printed_in : (inner : Inner) → SoundInner inner → (ts us : List Placed) (tuple : Angle) (behind : List Placed) → Split ts us behind → ReadsTuple us tuple → (o : Parsed Place) (item : Printed) (rest : List Placed) →
    printed_tuple inner ts tuple behind o ≡ answer item rest → Got ReadsPrinted ts item rest
printed_in inner s ts us tuple behind sp d None item rest h = concluded ReadsPrinted (a_printed_tuple d) sp h
printed_in inner s ts us tuple behind sp d (Some x) item rest h =
    let a = then_parts h in
    let e = (s disjunction).gets ts a.first a.behind a.was in
    concluded ReadsPrinted (a_printed_value e.derives) e.splits a.gave

printed_by : (inner : Inner) → SoundInner inner → (start : Start) (ts : List Placed) (item : Printed) (rest : List Placed) → printed_at inner start ts ≡ answer item rest → Got ReadsPrinted ts item rest
printed_by inner s a_less ts item rest h =
    let a = then_parts h in
    let t = (tuple_sound inner s).gets ts a.first a.behind a.was in
    printed_in inner s ts t.used a.first a.behind t.splits t.derives (expect is_in a.behind) item rest a.gave
printed_by inner s _ ts item rest h =
    let a = then_parts h in
    let e = (s disjunction).gets ts a.first a.behind a.was in
    concluded ReadsPrinted (a_printed_value e.derives) e.splits a.gave

printed_sound : (inner : Inner) → SoundInner inner → Sound ReadsPrinted (printed_of inner)
unfolding printed_of
printed_sound inner s = record { gets = λ ts item rest h. printed_by inner s (start_of ts) ts item rest h }

printed_of_commaed : {ts : List Placed} {items : List Printed} → Commaed ReadsPrinted ts items → ReadsPrintedList ts items
printed_of_commaed (last_one ts x d) = the_last_printed d
printed_of_commaed (another p ts us x xs d e) = one_more_printed p d (printed_of_commaed e)

doing_by : (inner : Inner) → SoundInner inner → (more : List Placed → Parsed Doing) → ((ts : List Placed) (what : Doing) (rest : List Placed) → more ts ≡ answer what rest → Got ReadsDoing ts what rest) →
    (p : Place) (token : Token) (behind : List Placed) (what : Doing) (rest : List Placed) → doing_at inner more p token behind ≡ answer what rest → Got ReadsDoing (placed p token ∷ behind) what rest
doing_by inner s more recur p (word_token WPrint) behind what rest h =
    let a = then_parts h in
    let l = got_items ReadsPrinted (printed_of inner) (printed_sound inner s) behind a.first a.behind a.was in
    concluded ReadsDoing (a_print p (printed_of_commaed l.derives)) (prefixed (word_at p WPrint) refl l.splits) a.gave
doing_by inner s more recur p (word_token WCheck) behind what rest h =
    let a = then_parts h in
    let d = (s disjunction).gets behind a.first a.behind a.was in
    concluded ReadsDoing (a_check p d.derives) (prefixed (word_at p WCheck) refl d.splits) a.gave
doing_by inner s more recur p (word_token WForall) behind what rest h =
    let a = then_parts h in
    let b = then_parts a.gave in
    let c = then_parts b.gave in
    let i = (index_sound inner s).gets behind a.first a.behind a.was in
    let f = got_separator a.behind b.first b.behind b.was in
    let l = recur b.behind c.first c.behind c.was in
    concluded ReadsDoing (for_each p f.at b.first i.derives l.derives) (prefixed (word_at p WForall) refl (infixed (placed f.at (separator_token b.first)) i.splits f.is_first l.splits)) c.gave
doing_by inner s more recur p _ behind what rest h = absurd (none-some (what, rest) h)

doing_sound : (inner : Inner) → SoundInner inner → (depth : ℕ) (ts : List Placed) (what : Doing) (rest : List Placed) → doing_of inner depth ts ≡ answer what rest → Got ReadsDoing ts what rest
unfolding doing_of
doing_sound inner s zero ts what rest h = absurd (none-some (what, rest) h)
doing_sound inner s (suc depth) [] what rest h = absurd (none-some (what, rest) h)
doing_sound inner s (suc depth) (t ∷ more) what rest h = doing_by inner s (doing_of inner depth) (doing_sound inner s depth) t.place t.token more what rest h

-- names

data ReadsName : List Placed → Place × List ℕ → Type 0 where
  one_name : (p : Place) (name : List ℕ) → ReadsName (placed p (name_token name) ∷ []) (p, name)

name_by : (t : Placed) (more : List Placed) (token : Token) → t.token ≡ token → (x : Place × List ℕ) (rest : List Placed) → name_at t more token ≡ answer x rest → Got ReadsName (t ∷ more) x rest
name_by t more (name_token name) e x rest h =
    concluded ReadsName (one_name t.place name) (single (placed t.place (name_token name)) (ap (λ (k : Token). placed t.place k ∷ more) e)) h
name_by t more (sign_token SLess) e x rest h = absurd (none-some (x, rest) h)
name_by t more _ e x rest h = absurd (none-some (x, rest) h)

name_by_tokens : (ts : List Placed) (x : Place × List ℕ) (rest : List Placed) → name_of ts ≡ answer x rest → Got ReadsName ts x rest
unfolding name_of
name_by_tokens [] x rest h = absurd (none-some (x, rest) h)
name_by_tokens (t ∷ more) x rest h = name_by t more t.token refl x rest h

name_sound : Sound ReadsName name_of
name_sound = record { gets = name_by_tokens }

names_of_commaed : {ts : List Placed} {names : List (Place × List ℕ)} → Commaed ReadsName ts names → ReadsNames ts names
names_of_commaed (last_one ts x (one_name p name)) = the_last_name p name
names_of_commaed (another q ts us x xs (one_name p name) e) = one_more_name p q name (names_of_commaed e)

-- parameters and `)`
record GotParameters (ts : List Placed) (names : List (Place × List ℕ)) (rest : List Placed) : Type 0 where
  at : Place
  used : List Placed
  splits : Split ts (used ++ placed at (sign_token SRightParen) ∷ []) rest
  derives : ReadsParameters used names

parameters_by : (ts : List Placed) (o : Parsed Place) → expect is_right_paren ts ≡ o → (names : List (Place × List ℕ)) (rest : List Placed) → parameters_at o ts ≡ answer names rest → GotParameters ts names rest
parameters_by ts None e names rest h =
    let a = then_parts h in
    let b = then_parts a.gave in
    let l = got_items ReadsName name_of name_sound ts a.first a.behind a.was in
    let same : (a.first, b.behind) ≡ (names, rest) = same_Some (a.first, b.behind) (names, rest) b.gave in
    record {
      at = b.first;
      used = l.used;
      splits = subst (λ (z : List (Place × List ℕ) × List Placed). Split ts (l.used ++ placed b.first (sign_token SRightParen) ∷ []) z.1) same (appended l.splits (single (placed b.first (sign_token SRightParen)) (got_right_paren a.behind b.first b.behind b.was)));
      derives = subst (λ (z : List (Place × List ℕ) × List Placed). ReadsParameters l.used z.0) same (the_parameters (names_of_commaed l.derives));
    }
parameters_by ts (Some x) e names rest h =
    let none : List (Place × List ℕ) = [] in
    let same : (none, x.1) ≡ (names, rest) = same_Some (none, x.1) (names, rest) h in
    record {
      at = x.0;
      used = [];
      splits = subst (λ (z : List (Place × List ℕ) × List Placed). Split ts (placed x.0 (sign_token SRightParen) ∷ []) z.1) same (single (placed x.0 (sign_token SRightParen)) (got_right_paren ts x.0 x.1 e));
      derives = subst (λ (z : List (Place × List ℕ) × List Placed). ReadsParameters [] z.0) same no_parameter;
    }

-- statements

got_assign : (ts : List Placed) (p : Place) (rest : List Placed) → expect_token is_assign ts ≡ answer p rest → ts ≡ placed p (sign_token SAssign) ∷ rest
got_assign = token_fixed is_assign (sign_token SAssign) assign_back

got_colon : (ts : List Placed) (p : Place) (rest : List Placed) → expect_token is_colon ts ≡ answer p rest → ts ≡ placed p (sign_token SColon) ∷ rest
got_colon = token_fixed is_colon (sign_token SColon) colon_back

goal_sound : (inner : Inner) → SoundInner inner → (maximize : Bool) (p q : Place) (name : List ℕ) (ts : List Placed) (what : Shape) (rest : List Placed) → goal_of inner maximize ts ≡ answer what rest → Got (Behind p (goal_word maximize) q name) ts what rest
goal_sound inner s maximize p q name ts what rest h =
    let a = then_parts h in
    let b = then_parts a.gave in
    let d = (s sum).gets a.behind b.first b.behind b.was in
    concluded (Behind p (goal_word maximize) q name) (a_goal_statement p q a.first maximize name d.derives) (prefixed (placed a.first (sign_token SColon)) (got_colon ts a.first a.behind a.was) d.splits) b.gave

definition_sound : (inner : Inner) → SoundInner inner → (w : Word) → is_definition w ≡ true → (p q : Place) (name : List ℕ) (ts : List Placed) (what : Shape) (rest : List Placed) → definition_of inner w ts ≡ answer what rest → Got (Behind p w q name) ts what rest
definition_sound inner s w k p q name ts what rest h =
    let a = then_parts h in
    let b = then_parts a.gave in
    let c = then_parts b.gave in
    let d = then_parts c.gave in
    let l = parameters_by a.behind (expect is_right_paren a.behind) refl b.first b.behind b.was in
    let e = (s disjunction).gets c.behind d.first d.behind d.was in
    let last : Split b.behind (placed c.first (sign_token SAssign) ∷ e.used) d.behind = prefixed (placed c.first (sign_token SAssign)) (got_assign b.behind c.first c.behind c.was) e.splits in
    let tidy : (l.used ++ placed l.at (sign_token SRightParen) ∷ []) ++ (placed c.first (sign_token SAssign) ∷ e.used) ≡ l.used ++ (placed l.at (sign_token SRightParen) ∷ (placed c.first (sign_token SAssign) ∷ e.used)) =
    append_assoc l.used (placed l.at (sign_token SRightParen) ∷ []) (placed c.first (sign_token SAssign) ∷ e.used) in
    concluded (Behind p w q name) (a_definition p q a.first l.at c.first w name k l.derives e.derives)
    (prefixed (placed a.first (sign_token SLeftParen)) (got_left_paren ts a.first a.behind a.was) (subst (λ (m : List Placed). Split a.behind m d.behind) tidy (appended l.splits last))) d.gave

declared_sound : (inner : Inner) → SoundInner inner → (w : Word) (p q : Place) (name : List ℕ) (ts : List Placed) (what : Shape) (rest : List Placed) → declared_of inner w ts ≡ answer what rest → Got (Behind p w q name) ts what rest
declared_sound inner s WSet p q name ts what rest h =
    let a = then_parts h in
    let b = then_parts a.gave in
    let c = then_parts b.gave in
    let brackets = (set_brackets_sound inner s).gets ts a.first a.behind a.was in
    let side = set_side_sound inner s a.first b.behind c.first c.behind c.was in
    concluded (Behind p WSet q name) (a_set_statement p q b.first name brackets.derives side.derives) (infixed (placed b.first (sign_token SAssign)) brackets.splits (got_assign a.behind b.first b.behind b.was) side.splits) c.gave
declared_sound inner s WParam p q name ts what rest h =
    let a = then_parts h in
    let b = then_parts a.gave in
    let c = then_parts b.gave in
    let brackets = (brackets_sound inner s).gets ts a.first a.behind a.was in
    let side = par_side_sound inner s a.first b.behind c.first c.behind c.was in
    concluded (Behind p WParam q name) (a_param_statement p q b.first name brackets.derives side.derives) (infixed (placed b.first (sign_token SAssign)) brackets.splits (got_assign a.behind b.first b.behind b.was) side.splits) c.gave
declared_sound inner s WVar p q name ts what rest h = var_sound inner s p q name ts what rest h
declared_sound inner s WMinimize p q name ts what rest h = goal_sound inner s false p q name ts what rest h
declared_sound inner s WMaximize p q name ts what rest h = goal_sound inner s true p q name ts what rest h
declared_sound inner s WSubto p q name ts what rest h =
    let a = then_parts h in
    let b = then_parts a.gave in
    let d = (s whole).gets a.behind b.first b.behind b.was in
    concluded (Behind p WSubto q name) (a_subto_statement p q a.first name d.derives) (prefixed (placed a.first (sign_token SColon)) (got_colon ts a.first a.behind a.was) d.splits) b.gave
declared_sound inner s WDefnumb p q name ts what rest h = definition_sound inner s WDefnumb refl p q name ts what rest h
declared_sound inner s WDefstrg p q name ts what rest h = definition_sound inner s WDefstrg refl p q name ts what rest h
declared_sound inner s WDefbool p q name ts what rest h = definition_sound inner s WDefbool refl p q name ts what rest h
declared_sound inner s WDefset p q name ts what rest h = definition_sound inner s WDefset refl p q name ts what rest h
declared_sound inner s _ p q name ts what rest h = absurd (none-some (what, rest) h)

-- a statement without its `;`
data ReadsBare : List Placed → Stmt → Type 0 where
  bare : (p q : Place) (name : List ℕ) {ts : List Placed} {what : Shape} → ReadsShape p q name ts what → ReadsBare ts (record { first = p; at = q; name = name; shape = what })

name_tokens : {ts : List Placed} {x : Place × List ℕ} → ReadsName ts x → ts ≡ placed x.0 (name_token x.1) ∷ []
name_tokens (one_name p name) = refl

name_first : (ts : List Placed) (x : Place × List ℕ) (rest : List Placed) → Got ReadsName ts x rest → ts ≡ placed x.0 (name_token x.1) ∷ rest
name_first ts x rest g = g.splits.parts ∙ ap (λ (l : List Placed). l ++ rest) (name_tokens g.derives)

named_statement : (inner : Inner) → SoundInner inner → (p : Place) (w : Word) (more : List Placed) (stmt : Stmt) (rest : List Placed) →
    and_then (name_of more) (λ named r1. and_then (declared_of inner w r1) (λ what left. answer {A = Stmt} (record { first = p; at = named.0; name = named.1; shape = what }) left)) ≡ answer stmt rest →
    Got ReadsBare (word_at p w ∷ more) stmt rest
named_statement inner s p w more stmt rest h =
    let a = then_parts h in
    let b = then_parts a.gave in
    let n = name_by_tokens more a.first a.behind a.was in
    let d = declared_sound inner s w p a.first.0 a.first.1 a.behind b.first b.behind b.was in
    concluded ReadsBare (bare p a.first.0 a.first.1 d.derives) (prefixed (word_at p w) refl (prefixed (placed a.first.0 (name_token a.first.1)) (name_first more a.first a.behind n) d.splits)) b.gave

word_sound : (inner : Inner) → SoundInner inner → (p : Place) (w : Word) (more : List Placed) (stmt : Stmt) (rest : List Placed) → behind_word inner p w more ≡ answer stmt rest → Got ReadsBare (word_at p w ∷ more) stmt rest
word_sound inner s p WDo more stmt rest h =
    let a = then_parts h in
    let d = doing_sound inner s (length more) more a.first a.behind a.was in
    concluded ReadsBare (bare p p [] (a_do_statement p d.derives)) (prefixed (word_at p WDo) refl d.splits) a.gave
word_sound inner s p w more stmt rest h = named_statement inner s p w more stmt rest h

first_sound : (inner : Inner) → SoundInner inner → (p : Place) (token : Token) (more : List Placed) (stmt : Stmt) (rest : List Placed) → behind_first inner p token more ≡ answer stmt rest → Got ReadsBare (placed p token ∷ more) stmt rest
first_sound inner s p (word_token w) more stmt rest h = word_sound inner s p w more stmt rest h
first_sound inner s p (sign_token SLess) more stmt rest h = absurd (none-some (stmt, rest) h)
first_sound inner s p _ more stmt rest h = absurd (none-some (stmt, rest) h)

ended_statement : {ts : List Placed} {stmt : Stmt} (r : Place) → ReadsBare ts stmt → ReadsStatement (ts ++ placed r (sign_token SSemicolon) ∷ []) stmt
ended_statement r (bare p q name d) = a_statement p q r name d

statement_by : (inner : Inner) → SoundInner inner → (ts : List Placed) (stmt : Stmt) (rest : List Placed) → whole_statement inner ts ≡ answer stmt rest → Got ReadsStatement ts stmt rest
unfolding whole_statement
statement_by inner s [] stmt rest h = absurd (none-some (stmt, rest) h)
statement_by inner s (t ∷ more) stmt rest h =
    let a = then_parts h in
    let b = then_parts a.gave in
    let d = first_sound inner s t.place t.token more a.first a.behind a.was in
    concluded ReadsStatement (ended_statement b.first d.derives) (appended d.splits (single (placed b.first (sign_token SSemicolon)) (token_fixed is_semicolon (sign_token SSemicolon) semicolon_back a.behind b.first b.behind b.was))) b.gave

-- what the parser reads from all the tokens is a statement
pub statement_sound : (depth : ℕ) (ts : List Placed) (stmt : Stmt) → whole_statement (parse depth) ts ≡ answer stmt [] → ReadsStatement ts stmt
statement_sound depth ts stmt h =
    let g = statement_by (parse depth) (parse_sound depth) ts stmt [] h in
    subst (λ (us : List Placed). ReadsStatement us stmt) (sym (g.splits.parts ∙ append-nil g.used)) g.derives
