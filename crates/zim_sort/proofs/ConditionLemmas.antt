-- What an expression is where a condition may stand, from what its parts are.
use Rattle.std.proofs.Common.{◌≡◌, ◌<◌, ◌≤◌, Bool, true, false, ◌||◌, List, [], ◌∷◌, length, map, filter_map, get_or, Option, Some, None, option_map, is_some, if◌then◌else◌, arith, refl, sym, ap, ◌∙◌}
use Rattle.std.proofs.lemmas.Bool.{false≢true}
use Rattle.std.specs.List.{list_any}
use Rattle.zim_fault.specs.declared.faults.Place.{Place}
use Rattle.zim_fault.specs.declared.tokens.Relation.{Relation}
use Rattle.zim_fault.specs.declared.tokens.Join.{Join}
use Rattle.zim_fault.specs.declared.tokens.Join.TheVariants as join
use Rattle.zim_tree.specs.declared.expr.Expr.{Expr}
use Rattle.zim_tree.specs.declared.expr.Expr.TheVariants.{Paren, Compare, Not, And, Or}
use Rattle.zim_typed.specs.declared.constant.Const.{Const}
use Rattle.zim_typed.specs.declared.constant.Const.TheVariants as const
use Rattle.zim_typed.specs.declared.constraint.Term.{Term}
use Rattle.zim_typed.specs.declared.constraint.Cond.{Cond}
use Rattle.zim_typed.specs.declared.constraint.Cond.TheVariants as cond
use Rattle.zim_typed.specs.declared.constraint.Con.{Con}
use Rattle.zim_typed.specs.declared.constraint.Con.TheVariants as con
use Rattle.zim_typed.specs.Scope.{Names, Scope}
use Rattle.zim_typed.specs.Terms.{or_join}
use Rattle.zim_sort.specs.declared.part.CondPart.{CondPart}
use Rattle.zim_sort.specs.declared.part.CondPart.TheVariants.{Varies, Fixed}
use Rattle.zim_typing.specs.Typing.{term_or_constant, condition_or_constant, compared_if, chain_if, typed_const, typed_conjuncts, typed_disjuncts, typed_term, some_term, typed_cond, some_cond, typed_compared, typed_comparing}
use Rattle.zim_sort.specs.Parts.{term_part, typed_term_part, condition_part, typed_condition_part, as_condition, condition_varies, parenthesised_condition, negated_part, compared_part, anded_parts, conjoined_part, fixed_conjunct, fixed_conjuncts, anded_part, chained_part, ored_parts, disjoined_part, fixed_disjunct, fixed_disjuncts, ored_part}
use Rattle.zim_typing.proofs.ConstantLaws.{makes-Paren, makes-Compare, makes-Not, makes-And, makes-Or}
use Rattle.zim_typing.proofs.TermLaws.{cond-Paren, cond-Compare, cond-Not, cond-And, cond-Or}

-- an expression that is no condition with variables
pub cond_alone : (scope : Scope) (names : Names) (e : Expr) → typed_cond scope names e ≡ None → Fixed (typed_const scope names e) ≡ typed_condition_part scope names e
unfolding typed_condition_part
cond_alone scope names e h = ap (λ (t : Option Cond). condition_part t (typed_const scope names e)) (sym h)

as_either : (t : Option Cond) (c : Const) → as_condition (condition_part t c) ≡ condition_or_constant t c
as_either None c = refl
as_either (Some t) c = refl

-- the condition that a part is
pub as_some_cond : (scope : Scope) (names : Names) (e : Expr) → as_condition (typed_condition_part scope names e) ≡ some_cond scope names e
unfolding typed_condition_part
as_some_cond scope names e = as_either (typed_cond scope names e) (typed_const scope names e)

opened : (scope : Scope) (names : Names) (e : Expr) (t : Option Cond) (c : Const) → typed_cond scope names e ≡ t → typed_const scope names e ≡ c → condition_part t c ≡ typed_condition_part scope names e
unfolding typed_condition_part
opened scope names e t c is same = sym (λ i. condition_part (is i) (same i))

pub condition-Paren : (scope : Scope) (names : Names) (place : Place) (inner : Expr) → parenthesised_condition place (typed_condition_part scope names inner) ≡ typed_condition_part scope names (Paren place inner)
unfolding typed_condition_part
condition-Paren scope names place inner = at (typed_cond scope names inner) (typed_const scope names inner) ∙ opened scope names _ _ _ (cond-Paren scope names place inner) (makes-Paren scope names place inner)
  where
    at : (t : Option Cond) (c : Const) → parenthesised_condition place (condition_part t c) ≡ condition_part t (const.Paren place c)
    at None c = refl
    at (Some t) c = refl

pub condition-Not : (scope : Scope) (names : Names) (place : Place) (operand : Expr) → negated_part place (typed_condition_part scope names operand) ≡ typed_condition_part scope names (Not place operand)
unfolding typed_condition_part
condition-Not scope names place operand = at (typed_cond scope names operand) (typed_const scope names operand) ∙ opened scope names _ _ _ (cond-Not scope names place operand) (makes-Not scope names place operand)
  where
    at : (t : Option Cond) (c : Const) → negated_part place (condition_part t c) ≡ condition_part (option_map (λ (inner : Cond). cond.Not place inner) t) (const.Not place c)
    at None c = refl
    at (Some t) c = refl

-- ---- comparisons

pub condition_one : (scope : Scope) (names : Names) (first : Expr) (others : List (Place × Relation × Expr)) (c : Place × Relation × Expr) → 1 ≤ length others → length others < 2 → c ≡ get_or others 0 c →
    compared_part c.0 c.1 (typed_term_part scope names first) (typed_term_part scope names c.2) ≡ typed_condition_part scope names (Compare first others)
unfolding typed_term_part
condition_one scope names first [] c some within is = absurd (omega (arith, some))
condition_one scope names first (other ∷ []) c some within is =
    ap (λ (x : Place × Relation × Expr). compared_part x.0 x.1 (typed_term_part scope names first) (typed_term_part scope names x.2)) is
    ∙ at (typed_term scope names first) (typed_const scope names first) (typed_term scope names other.2) (typed_const scope names other.2)
    ∙ opened scope names _ _ _ (cond-Compare scope names first (other ∷ [])) (makes-Compare scope names first (other ∷ []))
  where
    at : (t : Option Term) (c : Const) (u : Option Term) (d : Const) →
        compared_part other.0 other.1 (term_part t c) (term_part u d) ≡ condition_part (compared_if (is_some t || is_some u) other.0 other.1 (term_or_constant t c) (term_or_constant u d)) (const.Compare other.0 other.1 c d)
    at None c None d = refl
    at None c (Some u) d = refl
    at (Some t) c None d = refl
    at (Some t) c (Some u) d = refl
condition_one scope names first (other ∷ next ∷ others) c some within is = absurd (omega (arith, within))

pub compared_none : (scope : Scope) (names : Names) (first : Expr) (others : List (Place × Relation × Expr)) → length others < 1 → typed_compared scope names first others ≡ None
compared_none scope names first [] none = refl
compared_none scope names first (other ∷ others) none = absurd (omega (arith, none))

pub compared_more : (scope : Scope) (names : Names) (first : Expr) (others : List (Place × Relation × Expr)) → 2 ≤ length others → typed_compared scope names first others ≡ None
compared_more scope names first [] some = absurd (omega (arith, some))
compared_more scope names first (other ∷ []) some = absurd (omega (arith, some))
compared_more scope names first (other ∷ next ∷ others) some = refl

-- the constraints that are made of comparisons
pub comparing_one : (scope : Scope) (names : Names) (first : Expr) (others : List (Place × Relation × Expr)) (c : Place × Relation × Expr) → 1 ≤ length others → length others < 2 → c ≡ get_or others 0 c →
    con.Compare c.0 c.1 (some_term scope names first) (some_term scope names c.2) ≡ typed_comparing scope names first others
comparing_one scope names first [] c some within is = absurd (omega (arith, some))
comparing_one scope names first (other ∷ []) c some within is = ap (λ (x : Place × Relation × Expr). con.Compare x.0 x.1 (some_term scope names first) (some_term scope names x.2)) is
comparing_one scope names first (other ∷ next ∷ others) c some within is = absurd (omega (arith, within))

pub comparing_two : (scope : Scope) (names : Names) (first : Expr) (others : List (Place × Relation × Expr)) (c d : Place × Relation × Expr) → 2 ≤ length others → c ≡ get_or others 0 c → d ≡ get_or others 1 d →
    con.Range c.0 c.1 (typed_const scope names first) (some_term scope names c.2) (typed_const scope names d.2) ≡ typed_comparing scope names first others
comparing_two scope names first [] c d some is same = absurd (omega (arith, some))
comparing_two scope names first (other ∷ []) c d some is same = absurd (omega (arith, some))
comparing_two scope names first (other ∷ next ∷ others) c d some is same = λ i. con.Range (is i).0 (is i).1 (typed_const scope names first) (some_term scope names (is i).2) (typed_const scope names (same i).2)

-- ---- conditions that are joined

varies_either : (t : Option Cond) (c : Const) → condition_varies (condition_part t c) ≡ is_some t
varies_either None c = refl
varies_either (Some t) c = refl

-- operands behind `and`
one_varies : (scope : Scope) (names : Names) (others : List (Place × Expr)) →
    list_any (λ (x : Place × CondPart). condition_varies x.1) (anded_parts scope names others) ≡ list_any (λ (x : Place × Expr). is_some (typed_cond scope names x.1)) others
unfolding typed_condition_part
one_varies scope names [] = refl
one_varies scope names (x ∷ others) = λ i. varies_either (typed_cond scope names x.1) (typed_const scope names x.1) i || one_varies scope names others i

made_conjoined : (scope : Scope) (names : Names) (others : List (Place × Expr)) →
    conjoined_part (anded_parts scope names others) ≡ map {B = Place × Join × Cond} (λ (x : Place × Expr). (x.0, join.And, some_cond scope names x.1)) others
made_conjoined scope names [] = refl
made_conjoined scope names (x ∷ others) = λ i. (x.0, join.And, as_some_cond scope names x.1 i) ∷ made_conjoined scope names others i

all_fixed : (scope : Scope) (names : Names) (others : List (Place × Expr)) → list_any (λ (x : Place × Expr). is_some (typed_cond scope names x.1)) others ≡ false → fixed_conjuncts (anded_parts scope names others) ≡ typed_conjuncts scope names others
unfolding typed_condition_part
all_fixed scope names [] h = refl
all_fixed scope names (x ∷ others) h = at (typed_cond scope names x.1) refl (all_fixed scope names others)
  where
    at : (t : Option Cond) → typed_cond scope names x.1 ≡ t → (list_any (λ (y : Place × Expr). is_some (typed_cond scope names y.1)) others ≡ false → fixed_conjuncts (anded_parts scope names others) ≡ typed_conjuncts scope names others) →
        fixed_conjuncts (anded_parts scope names (x ∷ others)) ≡ typed_conjuncts scope names (x ∷ others)
    at None is rest =
        ap (λ (t : Option Cond). filter_map fixed_conjunct ((x.0, condition_part t (typed_const scope names x.1)) ∷ anded_parts scope names others)) is
        ∙ ap (λ (cs : List (Place × Const)). (x.0, typed_const scope names x.1) ∷ cs) (rest (sym (ap (λ (t : Option Cond). is_some t || list_any (λ (y : Place × Expr). is_some (typed_cond scope names y.1)) others) is) ∙ h))
    at (Some t) is rest = absurd (false≢true (sym h ∙ ap (λ (u : Option Cond). is_some u || list_any (λ (y : Place × Expr). is_some (typed_cond scope names y.1)) others) is))

pub condition-And : (scope : Scope) (names : Names) (first : Expr) (others : List (Place × Expr)) → anded_part (typed_condition_part scope names first) (anded_parts scope names others) ≡ typed_condition_part scope names (And first others)
unfolding typed_condition_part
condition-And scope names first others =
    at (typed_cond scope names first) (typed_const scope names first) (list_any (λ (x : Place × Expr). is_some (typed_cond scope names x.1)) others) refl
    ∙ opened scope names _ _ _ (cond-And scope names first others) (makes-And scope names first others)
  where
    at : (t : Option Cond) (c : Const) (varies : Bool) → list_any (λ (x : Place × Expr). is_some (typed_cond scope names x.1)) others ≡ varies →
        anded_part (condition_part t c) (anded_parts scope names others)
        ≡ condition_part
        (chain_if (is_some t || list_any (λ (x : Place × Expr). is_some (typed_cond scope names x.1)) others) (condition_or_constant t c)
        (map {B = Place × Join × Cond} (λ (x : Place × Expr). (x.0, join.And, some_cond scope names x.1)) others))
        (const.And c (typed_conjuncts scope names others))
    at (Some t) c varies h = ap (λ (cs : List (Place × Join × Cond)). Varies (cond.Chain t cs)) (made_conjoined scope names others)
    at None c true h =
        ap (λ (b : Bool). if b then chained_part (Fixed c) (conjoined_part (anded_parts scope names others)) else Fixed (const.And c (fixed_conjuncts (anded_parts scope names others)))) (one_varies scope names others ∙ h)
        ∙ ap (λ (cs : List (Place × Join × Cond)). Varies (cond.Chain (cond.Known c) cs)) (made_conjoined scope names others)
        ∙ sym (ap (λ (b : Bool). condition_part (chain_if b (cond.Known c) (map {B = Place × Join × Cond} (λ (x : Place × Expr). (x.0, join.And, some_cond scope names x.1)) others)) (const.And c (typed_conjuncts scope names others))) h)
    at None c false h =
        ap (λ (b : Bool). if b then chained_part (Fixed c) (conjoined_part (anded_parts scope names others)) else Fixed (const.And c (fixed_conjuncts (anded_parts scope names others)))) (one_varies scope names others ∙ h)
        ∙ ap (λ (cs : List (Place × Const)). Fixed (const.And c cs)) (all_fixed scope names others h)
        ∙ sym (ap (λ (b : Bool). condition_part (chain_if b (cond.Known c) (map {B = Place × Join × Cond} (λ (x : Place × Expr). (x.0, join.And, some_cond scope names x.1)) others)) (const.And c (typed_conjuncts scope names others))) h)

-- operands behind `or` and `xor`
one_disjunct_varies : (scope : Scope) (names : Names) (others : List (Place × Bool × Expr)) →
    list_any (λ (x : Place × Bool × CondPart). condition_varies x.2) (ored_parts scope names others) ≡ list_any (λ (x : Place × Bool × Expr). is_some (typed_cond scope names x.2)) others
unfolding typed_condition_part
one_disjunct_varies scope names [] = refl
one_disjunct_varies scope names (x ∷ others) = λ i. varies_either (typed_cond scope names x.2) (typed_const scope names x.2) i || one_disjunct_varies scope names others i

made_disjoined : (scope : Scope) (names : Names) (others : List (Place × Bool × Expr)) →
    disjoined_part (ored_parts scope names others) ≡ map {B = Place × Join × Cond} (λ (x : Place × Bool × Expr). (x.0, or_join x.1, some_cond scope names x.2)) others
made_disjoined scope names [] = refl
made_disjoined scope names (x ∷ others) = λ i. (x.0, or_join x.1, as_some_cond scope names x.2 i) ∷ made_disjoined scope names others i

all_disjuncts_fixed : (scope : Scope) (names : Names) (others : List (Place × Bool × Expr)) → list_any (λ (x : Place × Bool × Expr). is_some (typed_cond scope names x.2)) others ≡ false → fixed_disjuncts (ored_parts scope names others) ≡ typed_disjuncts scope names others
unfolding typed_condition_part
all_disjuncts_fixed scope names [] h = refl
all_disjuncts_fixed scope names (x ∷ others) h = at (typed_cond scope names x.2) refl (all_disjuncts_fixed scope names others)
  where
    at : (t : Option Cond) → typed_cond scope names x.2 ≡ t → (list_any (λ (y : Place × Bool × Expr). is_some (typed_cond scope names y.2)) others ≡ false → fixed_disjuncts (ored_parts scope names others) ≡ typed_disjuncts scope names others) →
        fixed_disjuncts (ored_parts scope names (x ∷ others)) ≡ typed_disjuncts scope names (x ∷ others)
    at None is rest =
        ap (λ (t : Option Cond). filter_map fixed_disjunct ((x.0, x.1, condition_part t (typed_const scope names x.2)) ∷ ored_parts scope names others)) is
        ∙ ap (λ (cs : List (Place × Bool × Const)). (x.0, x.1, typed_const scope names x.2) ∷ cs) (rest (sym (ap (λ (t : Option Cond). is_some t || list_any (λ (y : Place × Bool × Expr). is_some (typed_cond scope names y.2)) others) is) ∙ h))
    at (Some t) is rest = absurd (false≢true (sym h ∙ ap (λ (u : Option Cond). is_some u || list_any (λ (y : Place × Bool × Expr). is_some (typed_cond scope names y.2)) others) is))

pub condition-Or : (scope : Scope) (names : Names) (first : Expr) (others : List (Place × Bool × Expr)) → ored_part (typed_condition_part scope names first) (ored_parts scope names others) ≡ typed_condition_part scope names (Or first others)
unfolding typed_condition_part
condition-Or scope names first others =
    at (typed_cond scope names first) (typed_const scope names first) (list_any (λ (x : Place × Bool × Expr). is_some (typed_cond scope names x.2)) others) refl
    ∙ opened scope names _ _ _ (cond-Or scope names first others) (makes-Or scope names first others)
  where
    at : (t : Option Cond) (c : Const) (varies : Bool) → list_any (λ (x : Place × Bool × Expr). is_some (typed_cond scope names x.2)) others ≡ varies →
        ored_part (condition_part t c) (ored_parts scope names others)
        ≡ condition_part
        (chain_if (is_some t || list_any (λ (x : Place × Bool × Expr). is_some (typed_cond scope names x.2)) others) (condition_or_constant t c)
        (map {B = Place × Join × Cond} (λ (x : Place × Bool × Expr). (x.0, or_join x.1, some_cond scope names x.2)) others))
        (const.Or c (typed_disjuncts scope names others))
    at (Some t) c varies h = ap (λ (cs : List (Place × Join × Cond)). Varies (cond.Chain t cs)) (made_disjoined scope names others)
    at None c true h =
        ap (λ (b : Bool). if b then chained_part (Fixed c) (disjoined_part (ored_parts scope names others)) else Fixed (const.Or c (fixed_disjuncts (ored_parts scope names others)))) (one_disjunct_varies scope names others ∙ h)
        ∙ ap (λ (cs : List (Place × Join × Cond)). Varies (cond.Chain (cond.Known c) cs)) (made_disjoined scope names others)
        ∙ sym (ap (λ (b : Bool). condition_part (chain_if b (cond.Known c) (map {B = Place × Join × Cond} (λ (x : Place × Bool × Expr). (x.0, or_join x.1, some_cond scope names x.2)) others)) (const.Or c (typed_disjuncts scope names others))) h)
    at None c false h =
        ap (λ (b : Bool). if b then chained_part (Fixed c) (disjoined_part (ored_parts scope names others)) else Fixed (const.Or c (fixed_disjuncts (ored_parts scope names others)))) (one_disjunct_varies scope names others ∙ h)
        ∙ ap (λ (cs : List (Place × Bool × Const)). Fixed (const.Or c cs)) (all_disjuncts_fixed scope names others h)
        ∙ sym (ap (λ (b : Bool). condition_part (chain_if b (cond.Known c) (map {B = Place × Join × Cond} (λ (x : Place × Bool × Expr). (x.0, or_join x.1, some_cond scope names x.2)) others)) (const.Or c (typed_disjuncts scope names others))) h)
