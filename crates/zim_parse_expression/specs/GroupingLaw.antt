-- How subtraction groups: no operand of a tight sum is a sum, as is shown at the tokens `x - y - 1 <= 2`.
use Rattle.std.specs.Prelude.{◌≡◌, ℕ, List, [], ◌∷◌, Bool, true, false}
use Rattle.std.specs.List.{AllByRecursion}
use Rattle.zim_fault.specs.declared.faults.Place.{Place}
use Rattle.zim_fault.specs.declared.tokens.Token.{Token}
use Rattle.zim_fault.specs.declared.tokens.Token.TheVariants.{Sign as sign_token}
use Rattle.zim_fault.specs.declared.tokens.Relation.TheVariants.{AtMost}
use Rattle.zim_fault.specs.declared.signs.Sign.TheVariants.{SMinus}
use Rattle.zim_tree.specs.declared.expr.Expr.{Expr, Expr-F, out-Expr}
use Rattle.zim_tree.specs.declared.expr.Expr.TheVariants as tree
use Rattle.zim_tree.specs.declared.expr.Angle.{Angle}
use Rattle.zim_tree.specs.declared.expr.Index.{Index}
use Rattle.zim_tree.specs.declared.expr.Body.{Body}
use Rattle.zim_tree.specs.Levels.{Level, comparison}
use Rattle.zim_tree.specs.Spelling.{spelling}
use Rattle.zim_parse_expression.specs.Law.{Tight}

-- whether a node is a sum
abbrev pub is_sum_node : Expr-F Body Expr Angle Index → Bool
is_sum_node (Expr-F.Plus first others) = true
is_sum_node _ = false

-- whether an expression is a sum, and no sum in parentheses
abbrev pub is_sum : Expr → Bool
is_sum e = is_sum_node (out-Expr e)

-- no operand of a tight sum is a sum itself: a sum on either side of an operator has parentheses
abbrev pub OperandsAreNoSums : Type 0
OperandsAreNoSums = (level : Level) (first : Expr) (others : List (Place × Token × Expr)) → Tight level (tree.Plus first others) →
    (is_sum first ≡ false) × AllByRecursion (λ (x : Place × Token × Expr). is_sum x.2 ≡ false) others

-- the bytes of `x`
abbrev pub x_byte : List ℕ
x_byte = 120 ∷ []

-- the bytes of `y`
abbrev pub y_byte : List ℕ
y_byte = 121 ∷ []

-- the bytes of `1`
abbrev pub one_byte : List ℕ
one_byte = 49 ∷ []

-- the bytes of `2`
abbrev pub two_byte : List ℕ
two_byte = 50 ∷ []

-- `-`
abbrev pub minus_token : Token
minus_token = sign_token SMinus

-- the tree that takes both `1` and `y` from `x`, its parts at any places
abbrev pub grouped_left : (ℕ → Place) → Expr
grouped_left place = tree.Compare
    (tree.Plus (tree.Name (place 0) x_byte)
    ((place 1, minus_token, tree.Name (place 2) y_byte) ∷ ((place 3, minus_token, tree.Number (place 4) one_byte) ∷ [])))
    ((place 5, AtMost, tree.Number (place 6) two_byte) ∷ [])

-- the tree that takes `y - 1` from `x`, without parentheses, its parts at any places
abbrev pub grouped_right : (ℕ → Place) → Expr
grouped_right place = tree.Compare
    (tree.Plus (tree.Name (place 0) x_byte)
    ((place 1, minus_token, tree.Plus (tree.Name (place 2) y_byte) ((place 3, minus_token, tree.Number (place 4) one_byte) ∷ [])) ∷ []))
    ((place 5, AtMost, tree.Number (place 6) two_byte) ∷ [])

-- both trees have the same spelling: the one that groups to the left is tight, and the other is tight at no level
pub record SubtractionGroupsLeft : Type 0 where
  pub same_spelling : (place : ℕ → Place) → spelling (grouped_right place) ≡ spelling (grouped_left place)
  pub left_is_tight : (place : ℕ → Place) → Tight comparison (grouped_left place)
  pub right_is_not_tight : (place : ℕ → Place) (level : Level) → Tight level (grouped_right place) → ⊥
