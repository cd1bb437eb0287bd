-- Lists that are read turn by turn, as loops read them; and the parser's own lists as such.
use Rattle.std.proofs.Common.{◌≡◌, ℕ, zero, suc, ◌+◌, ◌-◌, ◌<◌, ◌≤◌, Bool, true, false, List, [], ◌∷◌, ◌++◌, length, map, Some, None, refl, sym, ap, ◌∙◌, if◌then◌else◌, nat_eq, append_assoc, append-nil, map-id, arith}
use Rattle.zim_fault.specs.declared.faults.Place.{Place}
use Rattle.zim_fault.specs.declared.tokens.Token.{Token}
use Rattle.zim_fault.specs.declared.tokens.Placed.{Placed}
use Rattle.zim_tree.specs.declared.expr.Expr.{Expr}
use Rattle.zim_tree.specs.Levels.{Chain, products, sums, relations, conjunctions, disjunctions, Operands, joined}
use Rattle.zim_scan.specs.Nesting.{class_at}
use Rattle.zim_parse_expression.specs.Next.{is_comma, is_exclamation, looseness, rank}
use Rattle.zim_parse_expression.specs.Parser.{Parsed, Parser, and_then, expect, after_comma, items_behind, operands_of, turns_of, marks_of}
use Rattle.zim_parse_expression.specs.Steps.{chain_behind}
use Rattle.zim_parse_expression.specs.Turns.{Turn, turned, repeat, prepend, one_turn, comma_found, comma_turn, mark_found, mark_turn, operand_found, operand_turn, as_operand, as_compared, as_conjunct, as_disjunct, multiplied, added, comparison, both, either}

-- a loop's turns

pub begun : {A : Type 0} (p : Parsed (List A)) → p ≡ prepend [] p
unfolding and_then
begun None = refl
begun (Some x) = refl

pub loop_begins : {A : Type 0} (turn : Turn A) (n : ℕ) (ts : List Placed) → repeat turn n ts ≡ prepend [] (repeat turn n ts)
loop_begins turn n ts = begun (repeat turn n ts)

pub goes_on : {A : Type 0} (items : List A) (x : A) (p : Parsed (List A)) →
    prepend items (and_then p (λ others behind. Some (x ∷ others, behind))) ≡ prepend (items ++ x ∷ []) p
unfolding and_then
goes_on items x None = refl
goes_on items x (Some q) = rw (append_assoc items (x ∷ []) q.0) refl

pub turn_left : (n at : ℕ) → at < n → n - at ≡ suc (n - (at + 1))
turn_left n at h = omega arith

pub loop_goes_on : {A : Type 0} {whole : Parsed (List A)} (turn : Turn A) (n at : ℕ) (items : List A) (ts : List Placed) {left : List Placed} {x : A} →
    whole ≡ prepend items (repeat turn (n - at) ts) → at < n → turn ts ≡ Some (Some x, left) → whole ≡ prepend (items ++ x ∷ []) (repeat turn (n - (at + 1)) left)
unfolding repeat
loop_goes_on turn n at items ts {left = left} {x = x} h below e =
    h ∙ ap (λ k. prepend items (repeat turn k ts)) (turn_left n at below) ∙ ap (λ o. prepend items (turned o (repeat turn (n - (at + 1))))) e ∙ goes_on items x (repeat turn (n - (at + 1)) left)

pub loop_stops : {A : Type 0} {whole : Parsed (List A)} (turn : Turn A) (n at : ℕ) (items : List A) (ts : List Placed) {left : List Placed} →
    whole ≡ prepend items (repeat turn (n - at) ts) → at < n → turn ts ≡ Some (None, left) → whole ≡ Some (items, left)
unfolding repeat and_then
loop_stops turn n at items ts {left = left} h below e =
    h ∙ ap (λ k. prepend items (repeat turn k ts)) (turn_left n at below) ∙ ap (λ o. prepend items (turned o (repeat turn (n - (at + 1))))) e ∙ ap (λ l. Some (l, left)) (append-nil items)

pub loop_fails : {A : Type 0} {whole : Parsed (List A)} (turn : Turn A) (n at : ℕ) (items : List A) (ts : List Placed) →
    whole ≡ prepend items (repeat turn (n - at) ts) → at < n → turn ts ≡ None → whole ≡ None
unfolding repeat and_then
loop_fails turn n at items ts h below e =
    h ∙ ap (λ k. prepend items (repeat turn k ts)) (turn_left n at below) ∙ ap (λ o. prepend items (turned o (repeat turn (n - (at + 1))))) e

pub loop_ends : {A : Type 0} {whole : Parsed (List A)} (turn : Turn A) (n at : ℕ) (items : List A) (ts : List Placed) →
    whole ≡ prepend items (repeat turn (n - at) ts) → n ≤ at → whole ≡ Some (items, ts)
unfolding repeat and_then
loop_ends turn n at items ts h done =
    let none : n - at ≡ 0 = omega arith in
    h ∙ ap (λ k. prepend items (repeat turn k ts)) none ∙ ap (λ l. Some (l, ts)) (append-nil items)

-- items behind commas

joined_twice : {A : Type 0} (first second : A) (p : Parsed (List A)) → and_then (prepend (second ∷ []) p) (λ others behind. Some (first ∷ others, behind)) ≡ prepend (first ∷ []) (and_then p (λ others behind. Some (second ∷ others, behind)))
unfolding and_then
joined_twice first second None = refl
joined_twice first second (Some q) = refl

item_taken : {A : Type 0} (item : Parser A) (n : ℕ) (first : A) → ((x : A) (ts : List Placed) → items_behind item n x ts ≡ prepend (x ∷ []) (repeat (comma_turn item) n ts)) → (r : Parsed A) →
    and_then (and_then r (λ second left. items_behind item n second left)) (λ others behind. Some (first ∷ others, behind))
    ≡ prepend (first ∷ []) (turned (one_turn r) (repeat (comma_turn item) n))
unfolding and_then
item_taken item n first more None = refl
item_taken item n first more (Some y) = rw (more y.0 y.1) (joined_twice first y.0 (repeat (comma_turn item) n y.1))

item_found : {A : Type 0} (item : Parser A) (n : ℕ) (first : A) (ts : List Placed) → ((x : A) (us : List Placed) → items_behind item n x us ≡ prepend (x ∷ []) (repeat (comma_turn item) n us)) → (c : Parsed Place) →
    after_comma first c ts (λ behind. and_then (item behind) (λ second left. items_behind item n second left))
    ≡ prepend (first ∷ []) (turned (comma_found item c ts) (repeat (comma_turn item) n))
unfolding and_then
item_found item n first ts more None = refl
item_found item n first ts more (Some x) = item_taken item n first more (item x.1)

pub items_by_turns : {A : Type 0} (item : Parser A) (n : ℕ) (first : A) (ts : List Placed) → items_behind item n first ts ≡ prepend (first ∷ []) (repeat (comma_turn item) n ts)
unfolding items_behind repeat comma_turn and_then
items_by_turns item zero first ts = refl
items_by_turns item (suc n) first ts = item_found item n first ts (λ x us. items_by_turns item n x us) (expect is_comma ts)

-- whether the turn of a comma and an item goes on

pub comma_goes_on : {A : Type 0} (item : Parser A) (ts : List Placed) {p : Place} {rest left : List Placed} {x : A} → expect is_comma ts ≡ Some (p, rest) → item rest ≡ Some (x, left) →
    comma_turn item ts ≡ Some (Some x, left)
unfolding comma_turn and_then
comma_goes_on item ts comma read = rw (comma, read) refl

pub comma_fails : {A : Type 0} (item : Parser A) (ts : List Placed) {p : Place} {rest : List Placed} → expect is_comma ts ≡ Some (p, rest) → item rest ≡ None → comma_turn item ts ≡ None
unfolding comma_turn and_then
comma_fails item ts comma none = rw (comma, none) refl

pub comma_stops : {A : Type 0} (item : Parser A) (ts : List Placed) → expect is_comma ts ≡ None → comma_turn item ts ≡ Some (None, ts)
unfolding comma_turn
comma_stops item ts none = rw none refl

-- operators with their operands

mapped : {A : Type 0} (form : Place × Token × Expr → A) (x : Place × Token × Expr) (p : Parsed Operands) → and_then (and_then p (λ others left. Some (x ∷ others, left))) (λ others left. Some (map form others, left))
    ≡ and_then (and_then p (λ others left. Some (map form others, left))) (λ others behind. Some (form x ∷ others, behind))
unfolding and_then
mapped form x None = refl
mapped form x (Some q) = refl

operand_taken : {A : Type 0} (form : Place × Token × Expr → A) (chain : Chain) (operand : Parser Expr) (n : ℕ) (t : Placed) →
    ((ts : List Placed) → and_then (operands_of chain operand n ts) (λ others left. Some (map form others, left)) ≡ repeat (operand_turn form chain operand) n ts) → (r : Parsed Expr) →
    and_then (and_then r (λ e behind. and_then (operands_of chain operand n behind) (λ others left. Some ((t.place, t.token, e) ∷ others, left)))) (λ others left. Some (map form others, left))
    ≡ turned (and_then r (λ e behind. Some (Some (form (t.place, t.token, e)), behind))) (repeat (operand_turn form chain operand) n)
unfolding and_then
operand_taken form chain operand n t more None = refl
operand_taken form chain operand n t more (Some y) = rw (sym (more y.1)) (mapped form (t.place, t.token, y.0) (operands_of chain operand n y.1))

operand_met : {A : Type 0} (form : Place × Token × Expr → A) (chain : Chain) (operand : Parser Expr) (n : ℕ) (t : Placed) (rest : List Placed) →
    ((ts : List Placed) → and_then (operands_of chain operand n ts) (λ others left. Some (map form others, left)) ≡ repeat (operand_turn form chain operand) n ts) → (b : Bool) →
    and_then (if b then and_then (operand rest) (λ e behind. and_then (operands_of chain operand n behind) (λ others left. Some ((t.place, t.token, e) ∷ others, left))) else Some ([], t ∷ rest)) (λ others left. Some (map form others, left))
    ≡ turned (operand_found form operand (if b then Some (t, rest) else None) (t ∷ rest)) (repeat (operand_turn form chain operand) n)
unfolding and_then
operand_met form chain operand n t rest more true = operand_taken form chain operand n t more (operand rest)
operand_met form chain operand n t rest more false = refl

operands_by_turns : {A : Type 0} (form : Place × Token × Expr → A) (chain : Chain) (operand : Parser Expr) (n : ℕ) (ts : List Placed) →
    and_then (operands_of chain operand n ts) (λ others left. Some (map form others, left)) ≡ repeat (operand_turn form chain operand) n ts
unfolding operands_of repeat operand_turn and_then
operands_by_turns form chain operand zero ts = refl
operands_by_turns form chain operand (suc n) [] = refl
operands_by_turns form chain operand (suc n) (t ∷ rest) = operand_met form chain operand n t rest (λ us. operands_by_turns form chain operand n us) (nat_eq (looseness (t ∷ rest)) (rank chain))

through : {A : Type 0} (form : Place × Token × Expr → A) (build : Expr → List A → Expr) (chain : Chain) → ((first : Expr) (others : Operands) → joined chain first others ≡ build first (map form others)) →
    (first : Expr) (p : Parsed Operands) → and_then p (λ others left. Some (joined chain first others, left)) ≡ and_then (and_then p (λ others left. Some (map form others, left))) (λ others left. Some (build first others, left))
unfolding and_then
through form build chain same first None = refl
through form build chain same first (Some q) = ap (λ e. Some (e, q.1)) (same first q.0)

built : {A : Type 0} (form : Place × Token × Expr → A) (build : Expr → List A → Expr) (chain : Chain) → ((first : Expr) (others : Operands) → joined chain first others ≡ build first (map form others)) →
    (operand : Parser Expr) (n : ℕ) (first : Expr) (rest : List Placed) →
    and_then (operands_of chain operand n rest) (λ others left. Some (joined chain first others, left)) ≡ and_then (repeat (operand_turn form chain operand) n rest) (λ others left. Some (build first others, left))
unfolding and_then
built form build chain same operand n first rest = rw (sym (operands_by_turns form chain operand n rest)) (through form build chain same first (operands_of chain operand n rest))

same_product : (first : Expr) (others : Operands) → joined products first others ≡ multiplied first (map as_operand others)
same_product first [] = refl
same_product first (x ∷ others) = rw (map-id others) refl

same_sum : (first : Expr) (others : Operands) → joined sums first others ≡ added first (map as_operand others)
same_sum first [] = refl
same_sum first (x ∷ others) = rw (map-id others) refl

same_relation : (first : Expr) (others : Operands) → joined relations first others ≡ comparison first (map as_compared others)
same_relation first [] = refl
same_relation first (x ∷ others) = refl

same_conjunction : (first : Expr) (others : Operands) → joined conjunctions first others ≡ both first (map as_conjunct others)
same_conjunction first [] = refl
same_conjunction first (x ∷ others) = refl

same_disjunction : (first : Expr) (others : Operands) → joined disjunctions first others ≡ either first (map as_disjunct others)
same_disjunction first [] = refl
same_disjunction first (x ∷ others) = refl

-- what a list of operands is behind its first operand, in turns
abbrev in_turns : {A : Type 0} → (Place × Token × Expr → A) → (Expr → List A → Expr) → Chain → Parser Expr → Expr → List Placed → Parsed Expr
in_turns form build chain operand first ts = and_then (repeat (operand_turn form chain operand) (turns_of chain ts) ts) (λ others left. Some (build first others, left))

pub product_by_turns : (operand : Parser Expr) (first : Expr) (ts : List Placed) → chain_behind products operand first ts ≡ in_turns as_operand multiplied products operand first ts
unfolding chain_behind
product_by_turns operand first ts = built as_operand multiplied products same_product operand (turns_of products ts) first ts

pub sum_by_turns : (operand : Parser Expr) (first : Expr) (ts : List Placed) → chain_behind sums operand first ts ≡ in_turns as_operand added sums operand first ts
unfolding chain_behind
sum_by_turns operand first ts = built as_operand added sums same_sum operand (turns_of sums ts) first ts

pub relation_by_turns : (operand : Parser Expr) (first : Expr) (ts : List Placed) → chain_behind relations operand first ts ≡ in_turns as_compared comparison relations operand first ts
unfolding chain_behind
relation_by_turns operand first ts = built as_compared comparison relations same_relation operand (turns_of relations ts) first ts

pub conjunction_by_turns : (operand : Parser Expr) (first : Expr) (ts : List Placed) → chain_behind conjunctions operand first ts ≡ in_turns as_conjunct both conjunctions operand first ts
unfolding chain_behind
conjunction_by_turns operand first ts = built as_conjunct both conjunctions same_conjunction operand (turns_of conjunctions ts) first ts

pub disjunction_by_turns : (operand : Parser Expr) (first : Expr) (ts : List Placed) → chain_behind disjunctions operand first ts ≡ in_turns as_disjunct either disjunctions operand first ts
unfolding chain_behind
disjunction_by_turns operand first ts = built as_disjunct either disjunctions same_disjunction operand (turns_of disjunctions ts) first ts

-- `!`

marked : (t : Placed) (rest : List Placed) → repeat mark_turn (length rest) rest ≡ Some (marks_of rest) → (b : Bool) →
    turned (mark_found (if b then Some (t.place, rest) else None) (t ∷ rest)) (repeat mark_turn (length rest))
    ≡ Some (if b then (t.place ∷ (marks_of rest).0, (marks_of rest).1) else ([], t ∷ rest))
unfolding and_then
marked t rest more true = rw more refl
marked t rest more false = refl

pub marks_by_turns : (ts : List Placed) → repeat mark_turn (length ts) ts ≡ Some (marks_of ts)
unfolding repeat mark_turn marks_of and_then
marks_by_turns [] = refl
marks_by_turns (t ∷ rest) = marked t rest (marks_by_turns rest) (is_exclamation (class_at t))

-- items behind commas, as loops read them

pub items_begin : {A : Type 0} (item : Parser A) (first : A) (items : List A) (n : ℕ) (ts : List Placed) → n ≡ length ts → items ≡ [] ++ first ∷ [] →
    items_behind item (length ts) first ts ≡ prepend items (repeat (comma_turn item) (n - 0) ts)
items_begin item first items n ts h k = let all : n - 0 ≡ length ts = omega (arith, h) in rw (all, k) (items_by_turns item (length ts) first ts)

-- other lists, as loops read them

pub turns_begin : {A : Type 0} (turn : Turn A) (items : List A) (n turns : ℕ) (ts : List Placed) → n ≡ turns → items ≡ [] → repeat turn turns ts ≡ prepend items (repeat turn (n - 0) ts)
turns_begin turn items n turns ts h k = let all : n - 0 ≡ turns = omega (arith, h) in rw (all, k) (loop_begins turn turns ts)
