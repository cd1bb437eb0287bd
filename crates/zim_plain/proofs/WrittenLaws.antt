-- What is written of a statement of plain form is read as its tree.
use Rattle.std.proofs.Common.{◌≡◌, ◌≤◌, true, false, List, [], ◌∷◌, ◌++◌, map, Option, Some, None, Bool, refl, sym, ◌∙◌, subst, append-nil, append_assoc, arith}
use Rattle.std.specs.List.{flat_map}
use Rattle.zim_fault.specs.declared.faults.Place.{Place}
use Rattle.zim_fault.specs.declared.tokens.Token.TheVariants.{Name as name_token, Number as number_token, Sign as sign_token}
use Rattle.zim_fault.specs.declared.tokens.Placed.{Placed}
use Rattle.zim_fault.specs.declared.signs.Sign.{Sign}
use Rattle.zim_fault.specs.declared.signs.Sign.TheVariants.{SSemicolon, SColon, SLessEqual, SGreaterEqual, SEqual, SStar, SSlash}
use Rattle.zim_fault.specs.declared.words.Word.TheVariants.{WVar, WSubto}
use Rattle.zim_rows.specs.declared.rows.Sense.{Sense}
use Rattle.zim_rows.specs.declared.rows.Sense.TheVariants.{AtMost, AtLeast, Equal}
use Rattle.zim_tree.specs.declared.expr.Expr.{Expr}
use Rattle.zim_tree.specs.declared.expr.Expr.TheVariants as tree
use Rattle.zim_tree.specs.Levels.{primary, postfix, power, unary, product, term, sum, comparison, conjunction, disjunction, products, sums, relations, conjunctions, disjunctions, Operands, joins, joined, placed, sign_token_of}
use Rattle.zim_tree.specs.Classes.{token_class}
use Rattle.zim_tree.specs.Grammar.{Reads, ReadsOperands, a_number, a_name, a_postfix, no_power, no_sign, a_sign, a_product, a_chain, no_not, no_forall, no_operand, an_operand}
use Rattle.zim_tree.specs.StatementGrammar.{ReadsStatement, LimitsKept, goal_word, declared, no_bracket, no_kind, no_limit, not_given, a_var_statement, a_goal_statement, a_subto_statement, a_statement}
use Rattle.zim_tree.specs.StatementSpelling.{spelled_of}
use Rattle.zim_tree.proofs.DerivationSpellingLaws.{tokens, tokens-append}
use Rattle.zim_tree.proofs.StatementSpellingLaws.{statement-spelling}
use Rattle.zim_plain.specs.Statements.{WrittenText, Literal, Divisor, Item, Constant, Multiple, SignAt, Further, Sum, Statement, Variable, Objective, Constraint, head_of}
use Rattle.zim_plain.specs.Trees.{tree_of_literal, with_sign, divisor_operand, tree_of_item, operand_of_further, tree_of_sum, relation_of_sense, tree_of}
use Rattle.zim_plain.specs.Written.{written_divisor, written_item, written_first_sign, written_further, written_list, written, Writing}

-- ---- the tokens, with their places

-- a number
abbrev pub number_at : Literal → Placed
number_at literal = placed literal.place (number_token literal.text)

-- a name
abbrev pub name_at : Place → WrittenText → Placed
name_at place name = placed place (name_token name)

-- a plus or a minus
abbrev pub sign_at : SignAt → Placed
sign_at sign = placed sign.place (sign_token_of sign.negative)

-- a plus or a minus, or nothing
abbrev pub first_sign_at : Option SignAt → List Placed
first_sign_at None = []
first_sign_at (Some sign) = sign_at sign ∷ []

-- a slash and a number, or nothing
abbrev pub divisor_at : Option Divisor → List Placed
divisor_at None = []
divisor_at (Some divisor) = placed divisor.slash (sign_token SSlash) ∷ number_at divisor.literal ∷ []

-- an item without its sign
abbrev pub item_at : Item → List Placed
item_at (Constant coefficient) = number_at coefficient.number ∷ divisor_at coefficient.divisor
item_at (Multiple None place name) = name_at place name ∷ []
item_at (Multiple (Some factor) place name) =
    number_at factor.coefficient.number ∷ (divisor_at factor.coefficient.divisor ++ placed factor.star (sign_token SStar) ∷ name_at place name ∷ [])

-- an item behind others
abbrev pub further_at : Further → List Placed
further_at further = sign_at further.sign ∷ item_at further.item

-- a list
unfoldable pub list_at : Sum → List Placed
list_at list = (first_sign_at list.sign ++ item_at list.first) ++ flat_map further_at list.others

-- the sign of a relation
abbrev pub sign_of_sense : Sense → Sign
sign_of_sense AtMost = SLessEqual
sign_of_sense AtLeast = SGreaterEqual
sign_of_sense Equal = SEqual

-- a relation
abbrev pub relation_at : Place → Sense → Placed
relation_at at sense = placed at (sign_token (sign_of_sense sense))

-- two lists with a relation between them
abbrev pub relation_tokens : Sum → Sense → Place → Sum → List Placed
relation_tokens left sense at right = list_at left ++ relation_at at sense ∷ list_at right

-- a statement whose colon and semicolon stand at these places: its tree doesn't know them
abbrev pub statement_at : Place → Place → Statement → List Placed
statement_at colon end (Variable head) = declared head.word WVar head.at head.name [] ++ placed end (sign_token SSemicolon) ∷ []
statement_at colon end (Objective maximize head list) =
    declared head.word (goal_word maximize) head.at head.name (placed colon (sign_token SColon) ∷ list_at list) ++ placed end (sign_token SSemicolon) ∷ []
statement_at colon end (Constraint head left sense at right) =
    declared head.word WSubto head.at head.name (placed colon (sign_token SColon) ∷ relation_tokens left sense at right) ++ placed end (sign_token SSemicolon) ∷ []

-- ---- they are what is written

-- a statement's tokens are what is written, rule by rule
divisor-written : (divisor : Option Divisor) → tokens (divisor_at divisor) ≡ written_divisor divisor
divisor-written None = refl
divisor-written (Some divisor) = refl

item-written : (item : Item) → tokens (item_at item) ≡ written_item item
item-written (Constant coefficient) = simp (divisor-written)
item-written (Multiple None place name) = refl
item-written (Multiple (Some factor) place name) = simp (tokens-append, divisor-written, append_assoc)

first_sign-written : (sign : Option SignAt) → tokens (first_sign_at sign) ≡ written_first_sign sign
first_sign-written None = refl
first_sign-written (Some sign) = refl

others-written : (others : List Further) → tokens (flat_map further_at others) ≡ flat_map written_further others
others-written [] = refl
others-written (further ∷ others) = simp (tokens-append, item-written, others-written others)

list-written : (list : Sum) → tokens (list_at list) ≡ written_list list
unfolding list_at
list-written list = simp (tokens-append, first_sign-written, item-written, others-written, append_assoc)

statement-written : (colon end : Place) (statement : Statement) → tokens (statement_at colon end statement) ≡ written statement
statement-written colon end (Variable head) = refl
statement-written colon end (Objective maximize head list) = simp (tokens-append, list-written)
statement-written colon end (Constraint head left AtMost at right) = simp (tokens-append, list-written, append_assoc)
statement-written colon end (Constraint head left AtLeast at right) = simp (tokens-append, list-written, append_assoc)
statement-written colon end (Constraint head left Equal at right) = simp (tokens-append, list-written, append_assoc)

-- ---- they are read as the tree

-- what stands alone is also of the looser levels
powered : {ts : List Placed} {e : Expr} → Reads primary ts e → Reads power ts e
powered {ts} {e} d = no_power (subst (λ (l : List Placed). Reads postfix l e) (append-nil ts) (a_postfix [] d))

-- a sign, or none, before what stands alone
signed : (sign : Option SignAt) {ts : List Placed} {e : Expr} → Reads primary ts e → Reads unary (first_sign_at sign ++ ts) (with_sign sign e)
signed None d = no_sign (powered d)
signed (Some sign) d = a_sign sign.place sign.negative (powered d)

alone : {ts : List Placed} {e : Expr} → Reads unary ts e → Reads product ts e
alone {ts} {e} d = subst (λ (l : List Placed). Reads product l e) (append-nil ts) (a_chain products tt d (no_operand products))

conjoined : {ts : List Placed} {e : Expr} → Reads comparison ts e → Reads conjunction ts e
conjoined {ts} {e} d = subst (λ (l : List Placed). Reads conjunction l e) (append-nil ts) (a_chain conjunctions tt (no_not d) (no_operand conjunctions))

disjoined : {ts : List Placed} {e : Expr} → Reads conjunction ts e → Reads disjunction ts e
disjoined {ts} {e} d = subst (λ (l : List Placed). Reads disjunction l e) (append-nil ts) (a_chain disjunctions tt d (no_operand disjunctions))

-- a number is read as its tree
number-reads : (literal : Literal) → Reads primary (number_at literal ∷ []) (tree_of_literal literal)
number-reads literal = a_number literal.place literal.text

-- a number with the sign before it and the operands behind it
product-reads : (sign : Option SignAt) (literal : Literal) {us : List Placed} {others : Operands} → ReadsOperands products us others →
    Reads term (first_sign_at sign ++ number_at literal ∷ us) (joined products (with_sign sign (tree_of_literal literal)) others)
product-reads None literal d = a_product (a_chain products tt (signed None (number-reads literal)) d)
product-reads (Some sign) literal d = a_product (a_chain products tt (signed (Some sign) (number-reads literal)) d)

-- a divisor, or none, before further operands
divisor-reads : (divisor : Option Divisor) {us : List Placed} {others : Operands} → ReadsOperands products us others →
    ReadsOperands products (divisor_at divisor ++ us) (divisor_operand divisor ++ others)
divisor-reads None d = d
divisor-reads (Some divisor) d = an_operand products divisor.slash (sign_token SSlash) refl (signed None (number-reads divisor.literal)) d

-- a divisor, or none, with nothing behind it
constant-reads : (divisor : Option Divisor) → ReadsOperands products (divisor_at divisor) (divisor_operand divisor)
constant-reads None = no_operand products
constant-reads (Some divisor) =
    an_operand products divisor.slash (sign_token SSlash) refl (signed None (number-reads divisor.literal)) (no_operand products)

-- a star and a name
variable-reads : (star place : Place) (name : WrittenText) →
    ReadsOperands products (placed star (sign_token SStar) ∷ name_at place name ∷ []) ((star, sign_token SStar, tree.Name place name) ∷ [])
variable-reads star place name = an_operand products star (sign_token SStar) refl (signed None (a_name place name)) (no_operand products)

-- an item with the sign before it
item-reads : (sign : Option SignAt) (item : Item) → Reads term (first_sign_at sign ++ item_at item) (tree_of_item sign item)
item-reads sign (Constant coefficient) = product-reads sign coefficient.number (constant-reads coefficient.divisor)
item-reads sign (Multiple None place name) = a_product (alone (signed sign (a_name place name)))
item-reads sign (Multiple (Some factor) place name) =
    product-reads sign factor.coefficient.number (divisor-reads factor.coefficient.divisor (variable-reads factor.star place name))

-- a plus or a minus is an operator of sums
joins-sums : (negative : Bool) → joins sums (token_class (sign_token_of negative)) ≡ true
joins-sums true = refl
joins-sums false = refl

-- the items behind others
others-reads : (others : List Further) → ReadsOperands sums (flat_map further_at others) (map operand_of_further others)
others-reads [] = no_operand sums
others-reads (further ∷ others) =
    an_operand sums further.sign.place (sign_token_of further.sign.negative) (joins-sums further.sign.negative) (item-reads None further.item) (others-reads others)

-- a list
list-reads : (list : Sum) → Reads sum (list_at list) (tree_of_sum list)
unfolding list_at
list-reads list = a_chain sums tt (item-reads list.sign list.first) (others-reads list.others)

-- one relation is within the limit of two
few_relations : 1 ≤ 2
few_relations = omega arith

-- the sign of a relation is an operator of comparisons
joins-relations : (sense : Sense) → joins relations (token_class (sign_token (sign_of_sense sense))) ≡ true
joins-relations AtMost = refl
joins-relations AtLeast = refl
joins-relations Equal = refl

-- a relation and the list behind it
right-reads : (at : Place) (sense : Sense) (right : Sum) →
    ReadsOperands relations (relation_at at sense ∷ list_at right) ((at, sign_token (sign_of_sense sense), tree_of_sum right) ∷ [])
right-reads at sense right =
    subst (λ (l : List Placed). ReadsOperands relations (relation_at at sense ∷ l) ((at, sign_token (sign_of_sense sense), tree_of_sum right) ∷ []))
    (append-nil (list_at right))
    (an_operand relations at (sign_token (sign_of_sense sense)) (joins-relations sense) (list-reads right) (no_operand relations))

-- two lists with a relation between them
relation-reads : (left : Sum) (sense : Sense) (at : Place) (right : Sum) →
    Reads comparison (relation_tokens left sense at right) (tree.Compare (tree_of_sum left) ((at, relation_of_sense sense, tree_of_sum right) ∷ []))
relation-reads left AtMost at right = a_chain relations few_relations (list-reads left) (right-reads at AtMost right)
relation-reads left AtLeast at right = a_chain relations few_relations (list-reads left) (right-reads at AtLeast right)
relation-reads left Equal at right = a_chain relations few_relations (list-reads left) (right-reads at Equal right)

-- no bound is within the limits of a variable's bounds
no_limits : LimitsKept None []
no_limits = (omega arith, omega arith, λ e. refl)

-- a statement's tokens are read as its tree
pub statement-reads : (colon end : Place) (statement : Statement) → ReadsStatement (statement_at colon end statement) (tree_of statement)
statement-reads colon end (Variable head) =
    a_statement head.word head.at end head.name (a_var_statement head.word head.at head.name no_limits no_bracket no_kind no_limit not_given not_given)
statement-reads colon end (Objective maximize head list) =
    a_statement head.word head.at end head.name (a_goal_statement head.word head.at colon maximize head.name (list-reads list))
statement-reads colon end (Constraint head left sense at right) =
    a_statement head.word head.at end head.name
    (a_subto_statement head.word head.at colon head.name (no_forall (disjoined (conjoined (relation-reads left sense at right)))))

-- ---- the laws

-- a place of the statement
place_in : Statement → Place
place_in statement = (head_of statement).at

-- each statement has tokens that are what is written and that are read as its tree
pub has_writing : (statement : Statement) → Writing statement
has_writing statement =
    let p : Place = place_in statement in
    record { tokens = statement_at p p statement; as_written = statement-written p p statement; reads = statement-reads p p statement }

-- a statement's tree is spelled as the statement is written
pub spelled_as_written : (statement : Statement) → spelled_of (tree_of statement) ≡ written statement
spelled_as_written statement =
    let p : Place = place_in statement in
    sym (statement-spelling (statement-reads p p statement)) ∙ statement-written p p statement
