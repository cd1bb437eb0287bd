-- What is read off the tree of a statement is that statement.
use Rattle.std.proofs.Common.{◌≡◌, ◌++◌, Bool, true, false, List, [], ◌∷◌, map, Option, Some, None, refl, sym, ap, ◌∙◌}
use Rattle.std.specs.Prelude.{if◌then◌else◌}
use Rattle.std.proofs.lemmas.Option.{same_Some}
use Rattle.zim_fault.specs.declared.faults.Place.{Place}
use Rattle.zim_fault.specs.declared.signs.Sign.TheVariants.{SPlus, SMinus, SStar}
use Rattle.zim_fault.specs.declared.tokens.Token.TheVariants as token
use Rattle.zim_fault.specs.declared.tokens.Relation.{Relation}
use Rattle.zim_tree.specs.declared.expr.Expr.{Expr, Expr-F, out-Expr, out-roll-Expr}
use Rattle.zim_tree.specs.declared.expr.Expr.TheVariants as tree
use Rattle.zim_tree.specs.Levels.{Operands}
use Rattle.zim_rows.specs.declared.rows.Sense.{Sense}
use Rattle.zim_rows.specs.declared.rows.Sense.TheVariants.{AtMost, AtLeast, Equal}
use Rattle.zim_plain.specs.Statements.{WrittenText, Literal, Divisor, Coefficient, Item, Constant, Multiple, SignAt, Further, Sum, Head, Statement, Variable, Objective, Constraint}
use Rattle.zim_plain.specs.Trees.{tree_of_literal, with_sign, divisor_operand, tree_of_item, operand_of_further, tree_of_sum, relation_of_sense, tree_of}
use Rattle.zim_plain.specs.Reading.{◌>>=◌, literal_in, named_layer, signed_in, operand_in, item_in, sum_in, constraint_in, read_literal, read_as_name, read_signed, read_product, read_operand, operand_item, product_item, read_item, read_sign, unsigned, read_further, read_others, sum_of_items, read_sum, read_sense, read_constraint, read_goal, read_statement}

-- ---- the trees, opened

at_number : (place : Place) (text : WrittenText) → out-Expr (tree.Number place text) ≡ Expr-F.Number place text
at_number place text = ap out-Expr (sym (tree.rolls-Number place text)) ∙ out-roll-Expr (Expr-F.Number place text)

at_name : (place : Place) (name : WrittenText) → out-Expr (tree.Name place name) ≡ Expr-F.Name place name
at_name place name = ap out-Expr (sym (tree.rolls-Name place name)) ∙ out-roll-Expr (Expr-F.Name place name)

at_signed : (place : Place) (negative : Bool) (operand : Expr) → out-Expr (tree.Signed place negative operand) ≡ Expr-F.Signed place negative operand
at_signed place negative operand = ap out-Expr (sym (tree.rolls-Signed place negative operand)) ∙ out-roll-Expr (Expr-F.Signed place negative operand)

at_times : (first : Expr) (others : Operands) → out-Expr (tree.Times first others) ≡ Expr-F.Times first others
at_times first others = ap out-Expr (sym (tree.rolls-Times first others)) ∙ out-roll-Expr (Expr-F.Times first others)

at_plus : (first : Expr) (others : Operands) → out-Expr (tree.Plus first others) ≡ Expr-F.Plus first others
at_plus first others = ap out-Expr (sym (tree.rolls-Plus first others)) ∙ out-roll-Expr (Expr-F.Plus first others)

at_compare : (left : Expr) (others : List (Place × Relation × Expr)) → out-Expr (tree.Compare left others) ≡ Expr-F.Compare left others
at_compare left others = ap out-Expr (sym (tree.rolls-Compare left others)) ∙ out-roll-Expr (Expr-F.Compare left others)

-- ---- operands

reads_literal : (literal : Literal) → read_literal (tree_of_literal literal) ≡ Some literal
unfolding read_literal
reads_literal literal = ap literal_in (at_number literal.place literal.text)

reads_name : (place : Place) (name : WrittenText) → read_as_name (tree.Name place name) ≡ Some (place, name)
unfolding read_as_name
reads_name place name = ap named_layer (at_name place name)

signed_number : (sign : Option SignAt) (literal : Literal) → read_signed (with_sign sign (tree_of_literal literal)) ≡ (sign, tree_of_literal literal)
unfolding read_signed
signed_number None literal = ap (signed_in (tree_of_literal literal)) (at_number literal.place literal.text)
signed_number (Some sign) literal = ap (signed_in (with_sign (Some sign) (tree_of_literal literal))) (at_signed sign.place sign.negative (tree_of_literal literal))

signed_name : (sign : Option SignAt) (place : Place) (name : WrittenText) → read_signed (with_sign sign (tree.Name place name)) ≡ (sign, tree.Name place name)
unfolding read_signed
signed_name None place name = ap (signed_in (tree.Name place name)) (at_name place name)
signed_name (Some sign) place name = ap (signed_in (with_sign (Some sign) (tree.Name place name))) (at_signed sign.place sign.negative (tree.Name place name))

-- ---- items

-- a number alone
number_item : (sign : Option SignAt) (literal : Literal) → read_item (with_sign sign (tree_of_literal literal)) ≡ operand_item (read_signed (with_sign sign (tree_of_literal literal)))
unfolding read_item
number_item None literal = ap (item_in (tree_of_literal literal)) (at_number literal.place literal.text)
number_item (Some sign) literal = ap (item_in (with_sign (Some sign) (tree_of_literal literal))) (at_signed sign.place sign.negative (tree_of_literal literal))

reads_number : (sign : Option SignAt) (literal : Literal) → read_item (with_sign sign (tree_of_literal literal)) ≡ Some (sign, Constant (record { number = literal; divisor = None }))
unfolding read_operand
reads_number sign literal =
    number_item sign literal ∙ ap operand_item (signed_number sign literal)
    ∙ ap (λ (o : Option Item). o >>= (λ (i : Item). Some (sign, i))) (ap operand_in (at_number literal.place literal.text))

-- a name alone
name_item : (sign : Option SignAt) (place : Place) (name : WrittenText) → read_item (with_sign sign (tree.Name place name)) ≡ operand_item (read_signed (with_sign sign (tree.Name place name)))
unfolding read_item
name_item None place name = ap (item_in (tree.Name place name)) (at_name place name)
name_item (Some sign) place name = ap (item_in (with_sign (Some sign) (tree.Name place name))) (at_signed sign.place sign.negative (tree.Name place name))

reads_variable : (sign : Option SignAt) (place : Place) (name : WrittenText) → read_item (with_sign sign (tree.Name place name)) ≡ Some (sign, Multiple None place name)
unfolding read_operand
reads_variable sign place name =
    name_item sign place name ∙ ap operand_item (signed_name sign place name)
    ∙ ap (λ (o : Option Item). o >>= (λ (i : Item). Some (sign, i))) (ap operand_in (at_name place name))

-- a product
reads_times : (sign : Option SignAt) (literal : Literal) (others : Operands) (item : Item) → read_product literal others ≡ Some item → read_item (tree.Times (with_sign sign (tree_of_literal literal)) others) ≡ Some (sign, item)
unfolding read_item
reads_times sign literal others item e =
    ap (item_in (tree.Times (with_sign sign (tree_of_literal literal)) others)) (at_times (with_sign sign (tree_of_literal literal)) others)
    ∙ ap (λ (s : Option SignAt × Expr). product_item s others) (signed_number sign literal)
    ∙ ap (λ (o : Option Literal). o >>= (λ (l : Literal). read_product l others >>= (λ (i : Item). Some (sign, i)))) (reads_literal literal)
    ∙ ap (λ (o : Option Item). o >>= (λ (i : Item). Some (sign, i))) e

divided : (number : Literal) (divisor : Divisor) → read_product number (divisor_operand (Some divisor)) ≡ Some (Constant (record { number = number; divisor = Some divisor }))
unfolding read_product
divided number divisor = ap (λ (o : Option Literal). o >>= (λ (l : Literal). Some (Constant (record { number = number; divisor = Some (record { slash = divisor.slash; literal = l }) })))) (reads_literal divisor.literal)

multiplied : (coefficient : Coefficient) (star place : Place) (name : WrittenText) →
    read_product coefficient.number (divisor_operand coefficient.divisor ++ (star, token.Sign SStar, tree.Name place name) ∷ []) ≡ Some (Multiple (Some (record { coefficient = coefficient; star = star })) place name)
unfolding read_product
multiplied coefficient star place name = by_divisor coefficient.number coefficient.divisor
  where
    by_divisor : (number : Literal) (divisor : Option Divisor) →
        read_product number (divisor_operand divisor ++ (star, token.Sign SStar, tree.Name place name) ∷ []) ≡ Some (Multiple (Some (record { coefficient = record { number = number; divisor = divisor }; star = star })) place name)
    by_divisor number None =
        ap (λ (o : Option (Place × WrittenText)). o >>= (λ (n : Place × WrittenText). Some (Multiple (Some (record { coefficient = record { number = number; divisor = None }; star = star })) n.0 n.1))) (reads_name place name)
    by_divisor number (Some divisor) =
        ap (λ (o : Option Literal). o >>= (λ (l : Literal). read_as_name (tree.Name place name) >>= (λ (n : Place × WrittenText). Some (Multiple (Some (record { coefficient = record { number = number; divisor = Some (record { slash = divisor.slash; literal = l }) }; star = star })) n.0 n.1)))) (reads_literal divisor.literal)
        ∙ ap (λ (o : Option (Place × WrittenText)). o >>= (λ (n : Place × WrittenText). Some (Multiple (Some (record { coefficient = record { number = number; divisor = Some divisor }; star = star })) n.0 n.1))) (reads_name place name)

-- an item is read back
reads_item : (sign : Option SignAt) (item : Item) → read_item (tree_of_item sign item) ≡ Some (sign, item)
reads_item sign (Constant coefficient) = by_divisor coefficient.number coefficient.divisor
  where
    by_divisor : (number : Literal) (divisor : Option Divisor) → read_item (tree_of_item sign (Constant (record { number = number; divisor = divisor }))) ≡ Some (sign, Constant (record { number = number; divisor = divisor }))
    by_divisor number None = reads_number sign number
    by_divisor number (Some divisor) = reads_times sign number (divisor_operand (Some divisor)) (Constant (record { number = number; divisor = Some divisor })) (divided number divisor)
reads_item sign (Multiple None place name) = reads_variable sign place name
reads_item sign (Multiple (Some factor) place name) = by_divisor factor.coefficient.number factor.coefficient.divisor factor.star
  where
    by_divisor : (number : Literal) (divisor : Option Divisor) (star : Place) → read_item (tree_of_item sign (Multiple (Some (record { coefficient = record { number = number; divisor = divisor }; star = star })) place name)) ≡ Some (sign, Multiple (Some (record { coefficient = record { number = number; divisor = divisor }; star = star })) place name)
    by_divisor number None star = reads_times sign number _ _ (multiplied (record { number = number; divisor = None }) star place name)
    by_divisor number (Some divisor) star = reads_times sign number _ _ (multiplied (record { number = number; divisor = Some divisor }) star place name)

-- ---- lists

reads_sign : (place : Place) (negative : Bool) → read_sign place (token.Sign (if negative then SMinus else SPlus)) ≡ Some (record { place = place; negative = negative })
unfolding read_sign
reads_sign place true = refl
reads_sign place false = refl

reads_further : (further : Further) → read_further (operand_of_further further) ≡ Some further
unfolding read_further
reads_further further =
    ap (λ (o : Option SignAt). o >>= (λ (s : SignAt). read_item (tree_of_item None further.item) >>= (λ (f : Option SignAt × Item). unsigned f >>= (λ (i : Item). Some (record { sign = s; item = i }))))) (reads_sign further.sign.place further.sign.negative)
    ∙ ap (λ (o : Option (Option SignAt × Item)). o >>= (λ (f : Option SignAt × Item). unsigned f >>= (λ (i : Item). Some (record { sign = further.sign; item = i })))) (reads_item None further.item)

reads_others : (others : List Further) → read_others (map operand_of_further others) ≡ Some others
unfolding read_others
reads_others [] = refl
reads_others (further ∷ rest) =
    ap (λ (o : Option Further). o >>= (λ (f : Further). read_others (map operand_of_further rest) >>= (λ (fs : List Further). Some (f ∷ fs)))) (reads_further further)
    ∙ ap (λ (o : Option (List Further)). o >>= (λ (fs : List Further). Some (further ∷ fs))) (reads_others rest)

-- an item is no sum of several
abbrev alone : Expr → Option Sum
alone e = read_item e >>= (λ (i : Option SignAt × Item). Some (sum_of_items i []))

number_alone : (sign : Option SignAt) (literal : Literal) → read_sum (with_sign sign (tree_of_literal literal)) ≡ alone (with_sign sign (tree_of_literal literal))
unfolding read_sum
number_alone None literal = ap (sum_in (tree_of_literal literal)) (at_number literal.place literal.text)
number_alone (Some sign) literal = ap (sum_in (with_sign (Some sign) (tree_of_literal literal))) (at_signed sign.place sign.negative (tree_of_literal literal))

name_alone : (sign : Option SignAt) (place : Place) (name : WrittenText) → read_sum (with_sign sign (tree.Name place name)) ≡ alone (with_sign sign (tree.Name place name))
unfolding read_sum
name_alone None place name = ap (sum_in (tree.Name place name)) (at_name place name)
name_alone (Some sign) place name = ap (sum_in (with_sign (Some sign) (tree.Name place name))) (at_signed sign.place sign.negative (tree.Name place name))

times_alone : (first : Expr) (others : Operands) → read_sum (tree.Times first others) ≡ alone (tree.Times first others)
unfolding read_sum
times_alone first others = ap (sum_in (tree.Times first others)) (at_times first others)

item_alone : (sign : Option SignAt) (item : Item) → read_sum (tree_of_item sign item) ≡ alone (tree_of_item sign item)
item_alone sign (Constant coefficient) = by_divisor coefficient.number coefficient.divisor
  where
    by_divisor : (number : Literal) (divisor : Option Divisor) → read_sum (tree_of_item sign (Constant (record { number = number; divisor = divisor }))) ≡ alone (tree_of_item sign (Constant (record { number = number; divisor = divisor })))
    by_divisor number None = number_alone sign number
    by_divisor number (Some divisor) = times_alone _ _
item_alone sign (Multiple None place name) = name_alone sign place name
item_alone sign (Multiple (Some factor) place name) = by_divisor factor.coefficient.number factor.coefficient.divisor factor.star
  where
    by_divisor : (number : Literal) (divisor : Option Divisor) (star : Place) → read_sum (tree_of_item sign (Multiple (Some (record { coefficient = record { number = number; divisor = divisor }; star = star })) place name)) ≡ alone (tree_of_item sign (Multiple (Some (record { coefficient = record { number = number; divisor = divisor }; star = star })) place name))
    by_divisor number None star = times_alone _ _
    by_divisor number (Some divisor) star = times_alone _ _

reads_sum : (sum : Sum) → read_sum (tree_of_sum sum) ≡ Some sum
unfolding read_sum
reads_sum sum = by_others sum.sign sum.first sum.others
  where
    by_others : (sign : Option SignAt) (first : Item) (others : List Further) → read_sum (tree_of_sum (record { sign = sign; first = first; others = others })) ≡ Some (record { sign = sign; first = first; others = others })
    by_others sign first [] =
        item_alone sign first ∙ ap (λ (o : Option (Option SignAt × Item)). o >>= (λ (i : Option SignAt × Item). Some (sum_of_items i []))) (reads_item sign first)
    by_others sign first (further ∷ rest) =
        ap (sum_in (tree_of_sum (record { sign = sign; first = first; others = further ∷ rest }))) (at_plus (tree_of_item sign first) (map operand_of_further (further ∷ rest)))
        ∙ ap (λ (o : Option (Option SignAt × Item)). o >>= (λ (i : Option SignAt × Item). read_others (map operand_of_further (further ∷ rest)) >>= (λ (fs : List Further). Some (sum_of_items i fs)))) (reads_item sign first)
        ∙ ap (λ (o : Option (List Further)). o >>= (λ (fs : List Further). Some (sum_of_items (sign, first) fs))) (reads_others (further ∷ rest))

-- ---- statements

reads_sense : (sense : Sense) → read_sense (relation_of_sense sense) ≡ Some sense
unfolding read_sense
reads_sense AtMost = refl
reads_sense AtLeast = refl
reads_sense Equal = refl

reads_constraint : (head : Head) (left : Sum) (sense : Sense) (at : Place) (right : Sum) →
    read_constraint head (tree.Compare (tree_of_sum left) ((at, relation_of_sense sense, tree_of_sum right) ∷ [])) ≡ Some (Constraint head left sense at right)
unfolding read_constraint
reads_constraint head left sense at right =
    ap (constraint_in head) (at_compare (tree_of_sum left) ((at, relation_of_sense sense, tree_of_sum right) ∷ []))
    ∙ ap (λ (o : Option Sum). o >>= (λ (l : Sum). read_sense (relation_of_sense sense) >>= (λ (s : Sense). read_sum (tree_of_sum right) >>= (λ (r : Sum). Some (Constraint head l s at r))))) (reads_sum left)
    ∙ ap (λ (o : Option Sense). o >>= (λ (s : Sense). read_sum (tree_of_sum right) >>= (λ (r : Sum). Some (Constraint head left s at r)))) (reads_sense sense)
    ∙ ap (λ (o : Option Sum). o >>= (λ (r : Sum). Some (Constraint head left sense at r))) (reads_sum right)

reads_objective : (maximize : Bool) (head : Head) (sum : Sum) → read_goal maximize head (tree_of_sum sum) ≡ Some (Objective maximize head sum)
unfolding read_goal
reads_objective maximize head sum = ap (λ (o : Option Sum). o >>= (λ (s : Sum). Some (Objective maximize head s))) (reads_sum sum)

-- a statement is read back
pub reads_statement : (statement : Statement) → read_statement (tree_of statement) ≡ Some statement
unfolding read_statement
reads_statement (Variable head) = refl
reads_statement (Objective maximize head sum) = reads_objective maximize head sum
reads_statement (Constraint head left sense at right) = reads_constraint head left sense at right

-- statements with one tree are one
pub one_statement : (one other : Statement) → tree_of one ≡ tree_of other → one ≡ other
one_statement one other e = same_Some one other (sym (reads_statement one) ∙ (ap read_statement e ∙ reads_statement other))
