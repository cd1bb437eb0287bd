-- A statement with each place put to another one, and its tree: a map of places that keeps the tree keeps the statement.
use Rattle.std.proofs.Common.{◌≡◌, List, [], ◌∷◌, ◌++◌, map, Option, Some, None, option_map, refl, sym, ◌∙◌, ap, ap₂}
use Rattle.std.specs.Prelude.{if◌then◌else◌}
use Rattle.zim_fault.specs.declared.faults.Place.{Place}
use Rattle.zim_fault.specs.declared.signs.Sign.TheVariants.{SPlus, SMinus, SStar, SSlash}
use Rattle.zim_fault.specs.declared.tokens.Token.{Token}
use Rattle.zim_fault.specs.declared.tokens.Token.TheVariants as token
use Rattle.zim_fault.specs.declared.tokens.Relation.{Relation}
use Rattle.zim_tree.specs.declared.expr.Expr.{Expr}
use Rattle.zim_tree.specs.declared.expr.Expr.TheVariants as tree
use Rattle.zim_tree.specs.declared.stmt.Stmt.{Stmt}
use Rattle.zim_tree.specs.declared.stmt.Shape.TheVariants as shape
use Rattle.zim_tree.specs.Levels.{Operands, products, sums, joined}
use Rattle.zim_tree.specs.Plain.{replaced}
use Rattle.zim_tree.specs.PlainStatement.{replaced_statement}
use Rattle.zim_tree.proofs.ReplacedLaws.{replaced-Number, replaced-Name, replaced-Signed, replaced-Times, replaced-Plus, replaced-Compare}
use Rattle.zim_plain.specs.Statements.{Literal, Divisor, Coefficient, Factor, Item, Constant, Multiple, SignAt, Further, Sum, Head, Statement, Variable, Objective, Constraint, PlainModel}
use Rattle.zim_plain.specs.Trees.{tree_of_literal, with_sign, divisor_operand, tree_of_item, operand_of_further, tree_of_sum, relation_of_sense, headed, tree_of, trees_of}
use Rattle.zim_plain.proofs.TreeLaws.{one_statement}

-- ---- statements with their places put elsewhere

-- a number whose place is put
abbrev pub put_literal : (Place → Place) → Literal → Literal
put_literal put l = record { place = put l.place; text = l.text }

-- a divisor, with slash and number put
abbrev pub put_divisor : (Place → Place) → Divisor → Divisor
put_divisor put d = record { slash = put d.slash; literal = put_literal put d.literal }

-- a coefficient, with number and divisor put
abbrev pub put_coefficient : (Place → Place) → Coefficient → Coefficient
put_coefficient put c = record { number = put_literal put c.number; divisor = option_map (put_divisor put) c.divisor }

-- a factor, with coefficient and star put
abbrev pub put_factor : (Place → Place) → Factor → Factor
put_factor put f = record { coefficient = put_coefficient put f.coefficient; star = put f.star }

-- an item, with its factor and its place put
abbrev pub put_item : (Place → Place) → Item → Item
put_item put (Constant c) = Constant (put_coefficient put c)
put_item put (Multiple factor place name) = Multiple (option_map (put_factor put) factor) (put place) name

-- a sign whose place is put
abbrev pub put_sign : (Place → Place) → SignAt → SignAt
put_sign put s = record { place = put s.place; negative = s.negative }

-- an item behind others, with its sign and itself put
abbrev pub put_further : (Place → Place) → Further → Further
put_further put f = record { sign = put_sign put f.sign; item = put_item put f.item }

-- a list, with each of its items put
abbrev pub put_sum : (Place → Place) → Sum → Sum
put_sum put s = record { sign = option_map (put_sign put) s.sign; first = put_item put s.first; others = map (put_further put) s.others }

-- the first word and the name of a statement, with both places put
abbrev pub put_head : (Place → Place) → Head → Head
put_head put h = record { word = put h.word; at = put h.at; name = h.name }

-- a statement, with each of its places put
abbrev pub put_statement : (Place → Place) → Statement → Statement
put_statement put (Variable head) = Variable (put_head put head)
put_statement put (Objective maximize head sum) = Objective maximize (put_head put head) (put_sum put sum)
put_statement put (Constraint head left sense at right) = Constraint (put_head put head) (put_sum put left) sense (put at) (put_sum put right)

-- ---- their trees

-- an operand behind others with its place put
abbrev put_operand : (Place → Place) → Place × Token × Expr → Place × Token × Expr
put_operand put x = (put x.0, x.1, replaced put x.2)

signed_tree : (put : Place → Place) (sign : Option SignAt) (e f : Expr) → replaced put e ≡ f → replaced put (with_sign sign e) ≡ with_sign (option_map (put_sign put) sign) f
signed_tree put None e f same = same
signed_tree put (Some sign) e f same = replaced-Signed put sign.place sign.negative e ∙ ap (tree.Signed (put sign.place) sign.negative) same

literal_tree : (put : Place → Place) (l : Literal) → replaced put (tree_of_literal l) ≡ tree_of_literal (put_literal put l)
literal_tree put l = replaced-Number put l.place l.text

number_tree : (put : Place → Place) (sign : Option SignAt) (l : Literal) → replaced put (with_sign sign (tree_of_literal l)) ≡ with_sign (option_map (put_sign put) sign) (tree_of_literal (put_literal put l))
number_tree put sign l = signed_tree put sign (tree_of_literal l) (tree_of_literal (put_literal put l)) (literal_tree put l)

product_tree : (put : Place → Place) (e : Expr) (others : Operands) → replaced put (joined products e others) ≡ joined products (replaced put e) (map (put_operand put) others)
product_tree put e [] = refl
product_tree put e (other ∷ others) = replaced-Times put e (other ∷ others)

sums_tree : (put : Place → Place) (e : Expr) (others : Operands) → replaced put (joined sums e others) ≡ joined sums (replaced put e) (map (put_operand put) others)
sums_tree put e [] = refl
sums_tree put e (other ∷ others) = replaced-Plus put e (other ∷ others)

divisor_tree : (put : Place → Place) (d : Option Divisor) (more others : Operands) → map (put_operand put) more ≡ others → map (put_operand put) (divisor_operand d ++ more) ≡ divisor_operand (option_map (put_divisor put) d) ++ others
divisor_tree put None more others same = same
divisor_tree put (Some d) more others same =
    ap₂ (λ (e : Expr) (rest : Operands). (put d.slash, token.Sign SSlash, e) ∷ rest) (literal_tree put d.literal) same

alone_divisor : (put : Place → Place) (d : Option Divisor) → map (put_operand put) (divisor_operand d) ≡ divisor_operand (option_map (put_divisor put) d)
alone_divisor put None = refl
alone_divisor put (Some d) = ap (λ (e : Expr). (put d.slash, token.Sign SSlash, e) ∷ []) (literal_tree put d.literal)

item_tree : (put : Place → Place) (sign : Option SignAt) (item : Item) → replaced put (tree_of_item sign item) ≡ tree_of_item (option_map (put_sign put) sign) (put_item put item)
item_tree put sign (Constant c) =
    product_tree put (with_sign sign (tree_of_literal c.number)) (divisor_operand c.divisor)
    ∙ ap₂ (joined products) (number_tree put sign c.number) (alone_divisor put c.divisor)
item_tree put sign (Multiple None place name) = signed_tree put sign (tree.Name place name) (tree.Name (put place) name) (replaced-Name put place name)
item_tree put sign (Multiple (Some factor) place name) =
    let star : Operands = (factor.star, token.Sign SStar, tree.Name place name) ∷ [] in
    let put_star : map (put_operand put) star ≡ (put factor.star, token.Sign SStar, tree.Name (put place) name) ∷ [] =
    ap (λ (e : Expr). (put factor.star, token.Sign SStar, e) ∷ []) (replaced-Name put place name) in
    product_tree put (with_sign sign (tree_of_literal factor.coefficient.number)) (divisor_operand factor.coefficient.divisor ++ star)
    ∙ ap₂ (joined products) (number_tree put sign factor.coefficient.number)
    (divisor_tree put factor.coefficient.divisor star _ put_star)

others_tree : (put : Place → Place) (fs : List Further) → map (put_operand put) (map operand_of_further fs) ≡ map operand_of_further (map (put_further put) fs)
others_tree put [] = refl
others_tree put (f ∷ fs) =
    ap₂ (λ (e : Expr) (rest : Operands). (put f.sign.place, token.Sign (if f.sign.negative then SMinus else SPlus), e) ∷ rest) (item_tree put None f.item) (others_tree put fs)

sum_tree : (put : Place → Place) (s : Sum) → replaced put (tree_of_sum s) ≡ tree_of_sum (put_sum put s)
sum_tree put s =
    sums_tree put (tree_of_item s.sign s.first) (map operand_of_further s.others)
    ∙ ap₂ (joined sums) (item_tree put s.sign s.first) (others_tree put s.others)

compared_tree : (put : Place → Place) (left right : Sum) (at : Place) (relation : Relation) → replaced put (tree.Compare (tree_of_sum left) ((at, relation, tree_of_sum right) ∷ [])) ≡ tree.Compare (tree_of_sum (put_sum put left)) ((put at, relation, tree_of_sum (put_sum put right)) ∷ [])
compared_tree put left right at relation =
    replaced-Compare put (tree_of_sum left) ((at, relation, tree_of_sum right) ∷ [])
    ∙ ap₂ (λ (a b : Expr). tree.Compare a ((put at, relation, b) ∷ [])) (sum_tree put left) (sum_tree put right)

statement_tree : (put : Place → Place) (s : Statement) → replaced_statement put (tree_of s) ≡ tree_of (put_statement put s)
statement_tree put (Variable head) = refl
statement_tree put (Objective maximize head sum) = ap (λ (e : Expr). headed (put_head put head) (shape.Goal maximize e)) (sum_tree put sum)
statement_tree put (Constraint head left sense at right) =
    ap (λ (e : Expr). headed (put_head put head) (shape.Subto e)) (compared_tree put left right at (relation_of_sense sense))

-- ---- what is kept

-- a map of places that keeps the tree of a statement keeps the statement
pub kept_statement : (put : Place → Place) (s : Statement) → replaced_statement put (tree_of s) ≡ tree_of s → put_statement put s ≡ s
kept_statement put s e = one_statement (put_statement put s) s (sym (statement_tree put s) ∙ e)

-- the same of several statements
pub kept_model : (put : Place → Place) (model : PlainModel) → map (replaced_statement put) (trees_of model) ≡ trees_of model → map (put_statement put) model ≡ model
kept_model put [] e = refl
kept_model put (s ∷ model) e =
    let first : replaced_statement put (tree_of s) ≡ tree_of s = cc in
    let rest : map (replaced_statement put) (trees_of model) ≡ trees_of model = cc in
    ap₂ (λ (t : Statement) (m : PlainModel). t ∷ m) (kept_statement put s first) (kept_model put model rest)

-- a map of places that keeps trees keeps each of them
pub kept_among : (put : Place → Place) (before : List Stmt) (stmt : Stmt) (after : List Stmt) → map (replaced_statement put) (before ++ stmt ∷ after) ≡ before ++ stmt ∷ after → replaced_statement put stmt ≡ stmt
kept_among put [] stmt after e = cc
kept_among put (t ∷ before) stmt after e =
    let rest : map (replaced_statement put) (before ++ stmt ∷ after) ≡ before ++ stmt ∷ after = cc in kept_among put before stmt after rest
