-- Tokens that are what a statement is written as are those of a statement with their places.
use Rattle.std.proofs.Common.{◌≡◌, ◌↔◌, List, [], ◌∷◌, ◌++◌, Option, Some, None, refl, sym, ap, ◌∙◌, subst, append-nil, append_assoc}
use Rattle.std.specs.List.{flat_map}
use mathlib.Core.List.{nil≢cons, cons≢nil, head-eq_of_cons-eq, tail-eq_of_cons-eq}
use Rattle.zim_fault.specs.declared.faults.Place.{Place}
use Rattle.zim_fault.specs.declared.tokens.Token.{Token}
use Rattle.zim_fault.specs.declared.tokens.Token.TheVariants.{Name as name_token, Word as word_token, Number as number_token, Sign as sign_token}
use Rattle.zim_fault.specs.declared.tokens.Placed.{Placed}
use Rattle.zim_fault.specs.declared.signs.Sign.TheVariants.{SSemicolon, SColon, SLessEqual, SGreaterEqual, SEqual, SStar, SSlash}
use Rattle.zim_fault.specs.declared.words.Word.TheVariants.{WVar, WSubto}
use Rattle.zim_rows.specs.declared.rows.Sense.{Sense}
use Rattle.zim_rows.specs.declared.rows.Sense.TheVariants.{AtMost, AtLeast, Equal}
use Rattle.zim_tree.specs.Levels.{placed, sign_token_of}
use Rattle.zim_tree.specs.StatementGrammar.{ReadsStatement, goal_word}
use Rattle.zim_tree.specs.Spelling.{Tokens}
use Rattle.zim_tree.proofs.DerivationSpellingLaws.{tokens}
use Rattle.zim_tree.proofs.StatementSpellingLaws.{statement-spelling}
use Rattle.zim_plain.specs.Statements.{WrittenText, Literal, Divisor, Item, Constant, Multiple, SignAt, Further, Sum, Head, Statement, Variable, Objective, Constraint}
use Rattle.zim_plain.specs.Trees.{tree_of}
use Rattle.zim_plain.specs.Written.{written_divisor, written_item, written_first_sign, written_further, written_list, written_relation, written, IsWrittenInPlainForm, IsReadInPlainForm}
use Rattle.zim_plain.proofs.WrittenLaws.{number_at, sign_at, first_sign_at, divisor_at, item_at, further_at, list_at, relation_at, statement_at, statement-reads, spelled_as_written}

-- the first of the tokens are those of something with places, and the others are what comes behind it
record Front (X : Type 0) (at : X → List Placed) (ts : List Placed) (vs : Tokens) : Type 0 where
  it : X
  rest : List Placed
  whole : ts ≡ at it ++ rest
  behind : tokens rest ≡ vs

-- something, and something behind it
abbrev both : {X Y : Type 0} {f : X → List Placed} {g : Y → List Placed} {ts : List Placed} {us vs : Tokens} (a : Front X f ts us) → Front Y g a.rest vs →
    Front (X × Y) (λ (x : X × Y). f x.0 ++ g x.1) ts vs
both {f = f} {g = g} a b = record {
  it = (a.it, b.it);
  rest = b.rest;
  whole = a.whole ∙ (ap (λ (l : List Placed). f a.it ++ l) b.whole ∙ sym (append_assoc (f a.it) (g b.it) b.rest));
  behind = b.behind;
}

-- something else that has the same tokens
made : {X Y : Type 0} {f : X → List Placed} {ts : List Placed} {vs : Tokens} (g : Y → List Placed) (h : X → Y) → ((x : X) → f x ≡ g (h x)) →
    Front X f ts vs → Front Y g ts vs
made g h same a = record { it = h a.it; rest = a.rest; whole = a.whole ∙ ap (λ (l : List Placed). l ++ a.rest) (same a.it); behind = a.behind }

-- a token
token-front : (t : Token) (ts : List Placed) (vs : Tokens) → tokens ts ≡ t ∷ vs → Front Place (λ (p : Place). placed p t ∷ []) ts vs
token-front t [] vs e = absurd (nil≢cons e)
token-front t (u ∷ ts) vs e = record {
  it = u.place;
  rest = ts;
  whole = ap (λ (token : Token). placed u.place token ∷ ts) (head-eq_of_cons-eq e);
  behind = tail-eq_of_cons-eq e;
}

-- ---- the rules of the grammar

-- a number
number-front : (literal : Literal) (ts : List Placed) (vs : Tokens) → tokens ts ≡ number_token literal.text ∷ vs → Front Literal (λ (l : Literal). number_at l ∷ []) ts vs
number-front literal ts vs e =
    made (λ (l : Literal). number_at l ∷ []) (λ (p : Place). record { place = p; text = literal.text }) (λ p. refl) (token-front (number_token literal.text) ts vs e)

-- a slash and a number, or nothing
divisor-front : (divisor : Option Divisor) (ts : List Placed) (vs : Tokens) → tokens ts ≡ written_divisor divisor ++ vs → Front (Option Divisor) divisor_at ts vs
divisor-front None ts vs e = record { it = None; rest = ts; whole = refl; behind = e }
divisor-front (Some divisor) ts vs e =
    let slash = token-front (sign_token SSlash) ts (number_token divisor.literal.text ∷ vs) e in
    made divisor_at (λ (x : Place × Literal). Some (record { slash = x.0; literal = x.1 })) (λ x. refl)
    (both slash (number-front divisor.literal slash.rest vs slash.behind))

-- an item without its sign
item-front : (item : Item) (ts : List Placed) (vs : Tokens) → tokens ts ≡ written_item item ++ vs → Front Item item_at ts vs
item-front (Constant coefficient) ts vs e =
    let number = number-front coefficient.number ts (written_divisor coefficient.divisor ++ vs) e in
    made item_at (λ (x : Literal × Option Divisor). Constant (record { number = x.0; divisor = x.1 })) (λ x. refl)
    (both number (divisor-front coefficient.divisor number.rest vs number.behind))
item-front (Multiple None place name) ts vs e = made item_at (λ (p : Place). Multiple None p name) (λ p. refl) (token-front (name_token name) ts vs e)
item-front (Multiple (Some factor) place name) ts vs e =
    let more : Tokens = sign_token SStar ∷ name_token name ∷ vs in
    let regrouped : tokens ts ≡ number_token factor.coefficient.number.text ∷ (written_divisor factor.coefficient.divisor ++ more) = e ∙ simp append_assoc in
    let number = number-front factor.coefficient.number ts (written_divisor factor.coefficient.divisor ++ more) regrouped in
    let divisor = divisor-front factor.coefficient.divisor number.rest more number.behind in
    let star = token-front (sign_token SStar) divisor.rest (name_token name ∷ vs) divisor.behind in
    made item_at
    (λ (x : Literal × (Option Divisor × (Place × Place))). Multiple (Some (record { coefficient = record { number = x.0; divisor = x.1.0 }; star = x.1.1.0 })) x.1.1.1 name)
    (λ x. refl)
    (both number (both divisor (both star (token-front (name_token name) star.rest vs star.behind))))

-- a plus or a minus
sign-front : (sign : SignAt) (ts : List Placed) (vs : Tokens) → tokens ts ≡ sign_token_of sign.negative ∷ vs → Front SignAt (λ (s : SignAt). sign_at s ∷ []) ts vs
sign-front sign ts vs e =
    made (λ (s : SignAt). sign_at s ∷ []) (λ (p : Place). record { place = p; negative = sign.negative }) (λ p. refl) (token-front (sign_token_of sign.negative) ts vs e)

-- a plus or a minus, or nothing
first_sign-front : (sign : Option SignAt) (ts : List Placed) (vs : Tokens) → tokens ts ≡ written_first_sign sign ++ vs → Front (Option SignAt) first_sign_at ts vs
first_sign-front None ts vs e = record { it = None; rest = ts; whole = refl; behind = e }
first_sign-front (Some sign) ts vs e = made first_sign_at (λ (s : SignAt). Some s) (λ s. refl) (sign-front sign ts vs e)

-- the items behind others
others-front : (others : List Further) (ts : List Placed) (vs : Tokens) → tokens ts ≡ flat_map written_further others ++ vs → Front (List Further) (flat_map further_at) ts vs
others-front [] ts vs e = record { it = []; rest = ts; whole = refl; behind = e }
others-front (further ∷ others) ts vs e =
    let more : Tokens = flat_map written_further others ++ vs in
    let regrouped : tokens ts ≡ sign_token_of further.sign.negative ∷ (written_item further.item ++ more) = e ∙ simp append_assoc in
    let sign = sign-front further.sign ts (written_item further.item ++ more) regrouped in
    let item = item-front further.item sign.rest more sign.behind in
    made (flat_map further_at) (λ (x : SignAt × (Item × List Further)). record { sign = x.0; item = x.1.0 } ∷ x.1.1) (λ x. refl)
    (both sign (both item (others-front others item.rest vs item.behind)))

-- a list
list-front : (list : Sum) (ts : List Placed) (vs : Tokens) → tokens ts ≡ written_list list ++ vs → Front Sum list_at ts vs
unfolding list_at
list-front list ts vs e =
    let more : Tokens = flat_map written_further list.others ++ vs in
    let regrouped : tokens ts ≡ written_first_sign list.sign ++ (written_item list.first ++ more) = e ∙ simp append_assoc in
    let sign = first_sign-front list.sign ts (written_item list.first ++ more) regrouped in
    let item = item-front list.first sign.rest more sign.behind in
    made list_at (λ (x : (Option SignAt × Item) × List Further). record { sign = x.0.0; first = x.0.1; others = x.1 }) (λ x. refl)
    (both (both sign item) (others-front list.others item.rest vs item.behind))

-- a relation
relation-front : (sense : Sense) (ts : List Placed) (vs : Tokens) → tokens ts ≡ written_relation sense ++ vs → Front Place (λ (p : Place). relation_at p sense ∷ []) ts vs
relation-front AtMost ts vs e = token-front (sign_token SLessEqual) ts vs e
relation-front AtLeast ts vs e = token-front (sign_token SGreaterEqual) ts vs e
relation-front Equal ts vs e = token-front (sign_token SEqual) ts vs e

-- ---- statements

-- a statement, and where its colon and its semicolon stand
record Whole : Type 0 where
  colon : Place
  end : Place
  statement : Statement

-- its tokens
abbrev whole_at : Whole → List Placed
whole_at w = statement_at w.colon w.end w.statement

-- a first word and a name at these places
abbrev headed : Place → Place → WrittenText → Head
headed word at name = record { word = word; at = at; name = name }

-- a `subto`, whose tokens are grouped to the right
constraint-front : (head : Head) (left : Sum) (sense : Sense) (right : Sum) (ts : List Placed) →
    tokens ts ≡ word_token WSubto ∷ name_token head.name ∷ sign_token SColon ∷ (written_list left ++ (written_relation sense ++ (written_list right ++ sign_token SSemicolon ∷ []))) →
    Front Whole whole_at ts []
constraint-front head left sense right ts e =
    let last : Tokens = sign_token SSemicolon ∷ [] in
    let compared : Tokens = written_relation sense ++ (written_list right ++ last) in
    let word = token-front (word_token WSubto) ts (name_token head.name ∷ sign_token SColon ∷ (written_list left ++ compared)) e in
    let name = token-front (name_token head.name) word.rest (sign_token SColon ∷ (written_list left ++ compared)) word.behind in
    let colon = token-front (sign_token SColon) name.rest (written_list left ++ compared) name.behind in
    let before = list-front left colon.rest compared colon.behind in
    let relation = relation-front sense before.rest (written_list right ++ last) before.behind in
    let after = list-front right relation.rest last relation.behind in
    made whole_at
    (λ (x : Place × (Place × (Place × ((Sum × (Place × Sum)) × Place)))). record {
      colon = x.1.1.0;
      end = x.1.1.1.1;
      statement = Constraint (headed x.0 x.1.0 head.name) x.1.1.1.0.0 sense x.1.1.1.0.1.0 x.1.1.1.0.1.1;
    })
    (λ x. refl)
    (both word (both name (both colon (both (both before (both relation after)) (token-front (sign_token SSemicolon) after.rest [] after.behind)))))

-- a statement
statement-front : (statement : Statement) (ts : List Placed) → tokens ts ≡ written statement → Front Whole whole_at ts []
statement-front (Variable head) ts e =
    let word = token-front (word_token WVar) ts (name_token head.name ∷ sign_token SSemicolon ∷ []) e in
    let name = token-front (name_token head.name) word.rest (sign_token SSemicolon ∷ []) word.behind in
    made whole_at (λ (x : Place × (Place × Place)). record { colon = x.1.1; end = x.1.1; statement = Variable (headed x.0 x.1.0 head.name) }) (λ x. refl)
    (both word (both name (token-front (sign_token SSemicolon) name.rest [] name.behind)))
statement-front (Objective maximize head list) ts e =
    let last : Tokens = sign_token SSemicolon ∷ [] in
    let word = token-front (word_token (goal_word maximize)) ts (name_token head.name ∷ sign_token SColon ∷ (written_list list ++ last)) e in
    let name = token-front (name_token head.name) word.rest (sign_token SColon ∷ (written_list list ++ last)) word.behind in
    let colon = token-front (sign_token SColon) name.rest (written_list list ++ last) name.behind in
    let sum = list-front list colon.rest last colon.behind in
    made whole_at
    (λ (x : Place × (Place × (Place × (Sum × Place)))). record { colon = x.1.1.0; end = x.1.1.1.1; statement = Objective maximize (headed x.0 x.1.0 head.name) x.1.1.1.0 })
    (λ x. refl)
    (both word (both name (both colon (both sum (token-front (sign_token SSemicolon) sum.rest [] sum.behind)))))
statement-front (Constraint head left sense at right) ts e = constraint-front head left sense right ts (e ∙ simp append_assoc)

-- no token is left where none is to come
nothing_left : (ts : List Placed) → tokens ts ≡ [] → ts ≡ []
nothing_left [] e = refl
nothing_left (t ∷ ts) e = absurd (cons≢nil e)

-- what is written is read as the tree of a statement with the places that the tokens have
read_with_places : (ts : List Placed) → IsWrittenInPlainForm ts → IsReadInPlainForm ts
read_with_places ts (statement, e) =
    let front = statement-front statement ts e in
    let whole : ts ≡ whole_at front.it =
    front.whole ∙ (ap (λ (l : List Placed). whole_at front.it ++ l) (nothing_left front.rest front.behind) ∙ append-nil (whole_at front.it)) in
    (front.it.statement, subst (λ (l : List Placed). ReadsStatement l (tree_of front.it.statement)) (sym whole) (statement-reads front.it.colon front.it.end front.it.statement))

-- tokens are written in plain form where they are read in it
pub read_as_written : (ts : List Placed) → IsWrittenInPlainForm ts ↔ IsReadInPlainForm ts
read_as_written ts = (read_with_places ts, λ (r : IsReadInPlainForm ts). (r.0, statement-spelling r.1 ∙ spelled_as_written r.0))
