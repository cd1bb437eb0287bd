-- Subtraction groups to the left: the other tree of the same tokens is tight at no level, since it would be the same.
use Rattle.std.proofs.Common.{◌≡◌, ℕ, List, [], ◌∷◌, length, refl, sym, ap, ◌∙◌, subst, append-nil, arith}
use Rattle.zim_fault.specs.declared.faults.Place.{Place}
use Rattle.zim_fault.specs.declared.tokens.Token.{Token}
use Rattle.zim_fault.specs.declared.tokens.Token.TheVariants.{Sign as sign_token}
use Rattle.zim_fault.specs.declared.tokens.Placed.{Placed}
use Rattle.zim_fault.specs.declared.tokens.Relation.{Relation}
use Rattle.zim_fault.specs.declared.signs.Sign.TheVariants.{SLessEqual}
use Rattle.zim_tree.specs.declared.expr.Expr.{Expr, Expr-F, fold-Expr, fold-roll-Expr}
use Rattle.zim_tree.specs.declared.expr.Expr.TheVariants as tree
use Rattle.zim_tree.specs.declared.expr.Angle.{Angle-F}
use Rattle.zim_tree.specs.declared.expr.Index.{Index-F}
use Rattle.zim_tree.specs.declared.expr.Body.{Body-F}
use Rattle.zim_tree.specs.Levels.{Level, primary, postfix, power, unary, product, big, loop, term, sum, comparison, negation, conjunction, disjunction, whole, Chain, products, sums, relations, conjunctions, disjunctions, level_of, operand_of, Limits}
use Rattle.zim_tree.specs.Grammar.{Reads, a_number, a_name, a_postfix, no_power, no_sign, no_loop_sign, a_product, a_loop, a_chain, no_not, no_forall, no_operand, an_operand}
use Rattle.zim_tree.specs.Plain.{to_nowhere, plain}
use Rattle.zim_tree.specs.Spelling.{spelling}
use Rattle.zim_tree.proofs.SpellingLaws.{spelling-Compare, spelling-Plus, spelling-Name, spelling-Number}
use Rattle.zim_tree.proofs.ReplacedLaws.{replaced-Compare, replaced-Plus}
use Rattle.zim_parse_expression.specs.Law.{Tight}
use Rattle.zim_parse_expression.specs.GroupingLaw.{minus_token, x_byte, y_byte, one_byte, two_byte, grouped_left, grouped_right, SubtractionGroupsLeft}
use Rattle.zim_parse_expression.proofs.OneTreeLaws.{one_tree}

-- no operator is allowed in each list
no_limits : (chain : Chain) → Limits chain 0
no_limits products = tt
no_limits sums = tt
no_limits relations = omega arith
no_limits conjunctions = tt
no_limits disjunctions = tt

-- a single operand stands for a list
single : (chain : Chain) {ts : List Placed} {e : Expr} → Reads (operand_of chain) ts e → Reads (level_of chain) ts e
single chain {ts = ts} {e = e} d = subst (λ (us : List Placed). Reads (level_of chain) us e) (append-nil ts) (a_chain chain (no_limits chain) d (no_operand chain))

-- what has no `!` stands for an operand with some
unmarked : {ts : List Placed} {e : Expr} → Reads primary ts e → Reads postfix ts e
unmarked {ts = ts} {e = e} d = subst (λ (us : List Placed). Reads postfix us e) (append-nil ts) (a_postfix [] d)

primary_term : {ts : List Placed} {e : Expr} → Reads primary ts e → Reads term ts e
primary_term d = a_product (single products (no_sign (no_power (unmarked d))))

from_conjunction : {ts : List Placed} {e : Expr} → Reads conjunction ts e → Reads whole ts e
from_conjunction d = no_forall (single disjunctions d)

from_comparison : {ts : List Placed} {e : Expr} → Reads comparison ts e → Reads whole ts e
from_comparison d = from_conjunction (single conjunctions (no_not d))

from_term : {ts : List Placed} {e : Expr} → Reads term ts e → Reads whole ts e
from_term d = from_comparison (single relations (single sums d))

from_unary : {ts : List Placed} {e : Expr} → Reads unary ts e → Reads whole ts e
from_unary d = from_term (a_product (single products d))

-- what is of any level is a whole expression
from_level : (level : Level) {ts : List Placed} {e : Expr} → Reads level ts e → Reads whole ts e
from_level primary d = from_term (primary_term d)
from_level postfix d = from_unary (no_sign (no_power d))
from_level power d = from_unary (no_sign d)
from_level unary d = from_unary d
from_level product d = from_term (a_product d)
from_level big d = from_term (a_loop (no_loop_sign d))
from_level loop d = from_term (a_loop d)
from_level term d = from_term d
from_level sum d = from_comparison (single relations d)
from_level comparison d = from_comparison d
from_level negation d = from_conjunction (single conjunctions d)
from_level conjunction d = from_conjunction d
from_level disjunction d = no_forall d
from_level whole d = d

left_tight : (place : ℕ → Place) → Tight comparison (grouped_left place)
left_tight place = (
  _,
  a_chain relations (omega arith)
      (a_chain sums tt (primary_term (a_name (place 0) x_byte))
      (an_operand sums (place 1) minus_token refl (primary_term (a_name (place 2) y_byte))
      (an_operand sums (place 3) minus_token refl (primary_term (a_number (place 4) one_byte)) (no_operand sums))))
      (an_operand relations (place 5) (sign_token SLessEqual) refl (single sums (primary_term (a_number (place 6) two_byte))) (no_operand relations)),
)

same_spelling : (place : ℕ → Place) → spelling (grouped_right place) ≡ spelling (grouped_left place)
same_spelling place = simp (spelling-Compare, spelling-Plus, spelling-Name, spelling-Number) refl

-- how many operators the sum in front of a relation has
width_step : Expr-F (Unit {0}) ℕ (Unit {0}) (Unit {0}) → ℕ
width_step (Expr-F.Plus first others) = length others
width_step (Expr-F.Compare first others) = first
width_step _ = 0

body_width : Body-F (Unit {0}) ℕ (Unit {0}) (Unit {0}) → Unit {0}
body_width d = tt

angle_width : Angle-F (Unit {0}) ℕ (Unit {0}) (Unit {0}) → Unit {0}
angle_width d = tt

index_width : Index-F (Unit {0}) ℕ (Unit {0}) (Unit {0}) → Unit {0}
index_width d = tt

abbrev width : Expr → ℕ
width = fold-Expr (Unit {0}) ℕ (Unit {0}) (Unit {0}) body_width width_step angle_width index_width

width-Compare : (first : Expr) (others : List (Place × Relation × Expr)) → width (tree.Compare first others) ≡ width first
unfolding width_step
width-Compare first others =
    ap width (sym (tree.rolls-Compare first others)) ∙ fold-roll-Expr (Unit {0}) ℕ (Unit {0}) (Unit {0}) body_width width_step angle_width index_width (Expr-F.Compare first others)

width-one : (first : Expr) (x : Place × Token × Expr) → width (tree.Plus first (x ∷ [])) ≡ 1
unfolding width_step
width-one first x =
    ap width (sym (tree.rolls-Plus first (x ∷ []))) ∙ fold-roll-Expr (Unit {0}) ℕ (Unit {0}) (Unit {0}) body_width width_step angle_width index_width (Expr-F.Plus first (x ∷ []))

width-two : (first : Expr) (x y : Place × Token × Expr) → width (tree.Plus first (x ∷ (y ∷ []))) ≡ 2
unfolding width_step
width-two first x y =
    ap width (sym (tree.rolls-Plus first (x ∷ (y ∷ [])))) ∙ fold-roll-Expr (Unit {0}) ℕ (Unit {0}) (Unit {0}) body_width width_step angle_width index_width (Expr-F.Plus first (x ∷ (y ∷ [])))

right_width : (place : ℕ → Place) → width (plain (grouped_right place)) ≡ 1
right_width place = rw (replaced-Compare to_nowhere, width-Compare, replaced-Plus to_nowhere) (width-one _ _)

left_width : (place : ℕ → Place) → width (plain (grouped_left place)) ≡ 2
left_width place = rw (replaced-Compare to_nowhere, width-Compare, replaced-Plus to_nowhere) (width-two _ _ _)

one_is_not_two : (m n : ℕ) → m ≡ 1 → n ≡ 2 → m ≡ n → ⊥
one_is_not_two m n h k same = omega (arith, h, k, same)

right_not_tight : (place : ℕ → Place) (level : Level) → Tight level (grouped_right place) → ⊥
right_not_tight place level (ts, d) =
    let left : Tight comparison (grouped_left place) = left_tight place in
    let same : plain (grouped_right place) ≡ plain (grouped_left place) =
    one_tree whole (grouped_right place) (grouped_left place) (ts, from_level level d) (left.0, from_comparison left.1) (same_spelling place) in
    one_is_not_two (width (plain (grouped_right place))) (width (plain (grouped_left place))) (right_width place) (left_width place) (ap width same)

pub subtraction_groups_left : SubtractionGroupsLeft
subtraction_groups_left = record {
  same_spelling = same_spelling;
  left_is_tight = left_tight;
  right_is_not_tight = right_not_tight;
}
