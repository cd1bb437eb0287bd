-- What an expression is where a term may stand, from what its parts are.
use Rattle.std.proofs.Common.{ℕ, ◌≡◌, Bool, true, false, ◌||◌, List, [], ◌∷◌, ◌++◌, map, filter_map, Option, Some, None, option_map, is_some, append_assoc, append-nil, if◌then◌else◌, refl, sym, ap, ◌∙◌}
use Rattle.std.proofs.lemmas.Bool.{false≢true}
use Rattle.std.specs.List.{list_any}
use Rattle.zim_fault.specs.declared.faults.Place.{Place}
use Rattle.zim_fault.specs.declared.tokens.Token.{Token}
use Rattle.zim_fault.specs.declared.words.Word.{Word}
use Rattle.zim_tree.specs.declared.expr.Expr.{Expr}
use Rattle.zim_tree.specs.declared.expr.Expr.TheVariants.{Name, Item, Func, Paren, If, Signed, Big, Times, Plus}
use Rattle.zim_tree.specs.declared.expr.Index.{Index}
use Rattle.zim_typed.specs.declared.constant.Const.{Const}
use Rattle.zim_typed.specs.declared.constant.Const.TheVariants as const
use Rattle.zim_typed.specs.declared.constant.Loop.{Loop}
use Rattle.zim_typed.specs.declared.constraint.Term.{Term}
use Rattle.zim_typed.specs.declared.constraint.Term.TheVariants as term
use Rattle.zim_typed.specs.Scope.{Names, Scope}
use Rattle.zim_typed.specs.Variables.{names_variable}
use Rattle.zim_sort.specs.declared.part.TermPart.{TermPart}
use Rattle.zim_sort.specs.declared.part.TermPart.TheVariants.{Varies, Fixed}
use Rattle.zim_typing.specs.Typing.{is_minus, names_inside, term_or_constant, column_if, signed_term, summation, picked_term, sum_if, product_at, product_or, known_product, typed_const, typed_consts, typed_operands, typed_index, typed_or_missing, typed_term, some_term, typed_factors, typed_product_behind}
use Rattle.zim_sort.specs.Parts.{term_part, typed_term_part, as_term, is_varying, signed_part, parenthesised_part, summed_part, picked_part, absolute_part, absolute_operand, is_summation, operand_parts, summands, one_varying, fixed_operand, fixed_operands, sum_part, product_part, product_part_at, product_part_behind}
use Rattle.zim_typing.proofs.ConstantLaws.{makes-Func, makes-Paren, makes-If, makes-Signed, makes-Big, makes-Times, makes-Plus}
use Rattle.zim_typing.proofs.TermLaws.{term-Name, term-Item, term-Func, term-Paren, term-If, term-Signed, term-Big, term-Times, term-Plus}
use Rattle.zim_sort.proofs.WordLemmas.{absolute_is, summation_is}

-- an expression that is no term with variables
pub alone : (scope : Scope) (names : Names) (e : Expr) → typed_term scope names e ≡ None → Fixed (typed_const scope names e) ≡ typed_term_part scope names e
unfolding typed_term_part
alone scope names e h = ap (λ (t : Option Term). term_part t (typed_const scope names e)) (sym h)

-- one that is such a term
pub varying_part : (scope : Scope) (names : Names) (e : Expr) (t : Term) → typed_term scope names e ≡ Some t → Varies t ≡ typed_term_part scope names e
unfolding typed_term_part
varying_part scope names e t h = ap (λ (x : Option Term). term_part x (typed_const scope names e)) (sym h)

as_either : (t : Option Term) (c : Const) → as_term (term_part t c) ≡ term_or_constant t c
as_either None c = refl
as_either (Some t) c = refl

-- the term that a part is
pub as_some_term : (scope : Scope) (names : Names) (e : Expr) → as_term (typed_term_part scope names e) ≡ some_term scope names e
unfolding typed_term_part
as_some_term scope names e = as_either (typed_term scope names e) (typed_const scope names e)

opened : (scope : Scope) (names : Names) (e : Expr) (t : Option Term) (c : Const) → typed_term scope names e ≡ t → typed_const scope names e ≡ c → term_part t c ≡ typed_term_part scope names e
unfolding typed_term_part
opened scope names e t c is same = sym (λ i. term_part (is i) (same i))

-- ---- names

pub name_varies : (scope : Scope) (names : Names) (place : Place) (name : List ℕ) → true ≡ names_variable scope name → Varies (term.Column place name []) ≡ typed_term_part scope names (Name place name)
name_varies scope names place name h = varying_part scope names _ _ (term-Name scope names place name ∙ ap (λ (b : Bool). column_if b place name []) (sym h))

pub name_alone : (scope : Scope) (names : Names) (place : Place) (name : List ℕ) → false ≡ names_variable scope name → Fixed (typed_const scope names (Name place name)) ≡ typed_term_part scope names (Name place name)
name_alone scope names place name h = alone scope names _ (term-Name scope names place name ∙ ap (λ (b : Bool). column_if b place name []) (sym h))

pub item_varies : (scope : Scope) (names : Names) (place : Place) (name : List ℕ) (index : List Expr) → true ≡ names_variable scope name →
    Varies (term.Column place name (typed_consts scope names index)) ≡ typed_term_part scope names (Item place name index)
item_varies scope names place name index h = varying_part scope names _ _ (term-Item scope names place name index ∙ ap (λ (b : Bool). column_if b place name (typed_consts scope names index)) (sym h))

pub item_alone : (scope : Scope) (names : Names) (place : Place) (name : List ℕ) (index : List Expr) → false ≡ names_variable scope name →
    Fixed (typed_const scope names (Item place name index)) ≡ typed_term_part scope names (Item place name index)
item_alone scope names place name index h = alone scope names _ (term-Item scope names place name index ∙ ap (λ (b : Bool). column_if b place name (typed_consts scope names index)) (sym h))

-- ---- functions

pub func_absolute : (scope : Scope) (names : Names) (place : Place) (word : Word) (given : List Expr) (e : Expr) → absolute_operand word given ≡ Some e →
    absolute_part place (typed_term_part scope names e) ≡ typed_term_part scope names (Func place word given)
func_absolute scope names place word given e h =
    ap (λ (t : Term). Varies (term.Abs place t)) (as_some_term scope names e)
    ∙ varying_part scope names _ _ (term-Func scope names place word given ∙ absolute_is (some_term scope names) place word given ∙ ap (option_map (λ (x : Expr). term.Abs place (some_term scope names x))) h)

pub func_alone : (scope : Scope) (names : Names) (place : Place) (word : Word) (given : List Expr) → absolute_operand word given ≡ None → Fixed (typed_const scope names (Func place word given)) ≡ typed_term_part scope names (Func place word given)
func_alone scope names place word given h =
    alone scope names _ (term-Func scope names place word given ∙ absolute_is (some_term scope names) place word given ∙ ap (option_map (λ (x : Expr). term.Abs place (some_term scope names x))) h)

-- ---- one operand

pub part-Paren : (scope : Scope) (names : Names) (place : Place) (inner : Expr) → parenthesised_part place (typed_term_part scope names inner) ≡ typed_term_part scope names (Paren place inner)
unfolding typed_term_part
part-Paren scope names place inner = at (typed_term scope names inner) (typed_const scope names inner) ∙ opened scope names _ _ _ (term-Paren scope names place inner) (makes-Paren scope names place inner)
  where
    at : (t : Option Term) (c : Const) → parenthesised_part place (term_part t c) ≡ term_part t (const.Paren place c)
    at None c = refl
    at (Some t) c = refl

pub part-Signed : (scope : Scope) (names : Names) (place : Place) (minus : Bool) (operand : Expr) → signed_part place minus (typed_term_part scope names operand) ≡ typed_term_part scope names (Signed place minus operand)
unfolding typed_term_part
part-Signed scope names place minus operand =
    at minus (typed_term scope names operand) (typed_const scope names operand) ∙ opened scope names _ _ _ (term-Signed scope names place minus operand) (makes-Signed scope names place minus operand)
  where
    at : (minus : Bool) (t : Option Term) (c : Const) → signed_part place minus (term_part t c) ≡ term_part (signed_term place minus t) (const.Signed place minus c)
    at true None c = refl
    at false None c = refl
    at true (Some t) c = refl
    at false (Some t) c = refl

pub part-Big : (scope : Scope) (names : Names) (place : Place) (word : Word) (index : Index) (with_do : Bool) (operand : Expr) → true ≡ is_summation word →
    summed_part place word (typed_index scope names index) with_do (typed_term_part scope (names_inside scope names index) operand) ≡ typed_term_part scope names (Big place word index with_do operand)
unfolding typed_term_part
part-Big scope names place word index with_do operand h =
    at (typed_term scope (names_inside scope names index) operand) (typed_const scope (names_inside scope names index) operand)
    ∙ opened scope names _ _ _
    (term-Big scope names place word index with_do operand ∙ summation_is place (typed_index scope names index) _ word
    ∙ ap (λ (b : Bool). if b then option_map (λ (s : Term). term.SumOver place (typed_index scope names index) s) (typed_term scope (names_inside scope names index) operand) else None) (sym h))
    (makes-Big scope names place word index with_do operand)
  where
    at : (t : Option Term) (c : Const) →
        summed_part place word (typed_index scope names index) with_do (term_part t c)
        ≡ term_part (option_map (λ (s : Term). term.SumOver place (typed_index scope names index) s) t) (const.Big place word (typed_index scope names index) with_do c)
    at None c = refl
    at (Some t) c = refl

pub big_alone : (scope : Scope) (names : Names) (place : Place) (word : Word) (index : Index) (with_do : Bool) (operand : Expr) → false ≡ is_summation word →
    Fixed (typed_const scope names (Big place word index with_do operand)) ≡ typed_term_part scope names (Big place word index with_do operand)
big_alone scope names place word index with_do operand h =
    alone scope names _
    (term-Big scope names place word index with_do operand ∙ summation_is place (typed_index scope names index) _ word
    ∙ ap (λ (b : Bool). if b then option_map (λ (s : Term). term.SumOver place (typed_index scope names index) s) (typed_term scope (names_inside scope names index) operand) else None) (sym h))

-- ---- one of two

pub part-If : (scope : Scope) (names : Names) (place : Place) (vif : Bool) (test branch otherwise : Expr) (given : Option Expr) → false ≡ vif → given ≡ Some otherwise →
    picked_part place (typed_const scope names test) (typed_term_part scope names branch) (typed_term_part scope names otherwise) ≡ typed_term_part scope names (If place vif test branch given)
unfolding typed_term_part
part-If scope names place vif test branch otherwise given h k =
    at (typed_term scope names branch) (typed_const scope names branch) (typed_term scope names otherwise) (typed_const scope names otherwise)
    ∙ opened scope names (If place false test branch (Some otherwise)) _ _ (term-If scope names place false test branch (Some otherwise)) (makes-If scope names place false test branch (Some otherwise))
    ∙ (λ i. typed_term_part scope names (If place (h i) test branch (sym k i)))
  where
    at : (t : Option Term) (c : Const) (u : Option Term) (d : Const) →
        picked_part place (typed_const scope names test) (term_part t c) (term_part u d)
        ≡ term_part (picked_term place (typed_const scope names test) (is_some t || is_some u) (term_or_constant t c) (term_or_constant u d)) (const.If place (typed_const scope names test) c d)
    at None c None d = refl
    at None c (Some u) d = refl
    at (Some t) c None d = refl
    at (Some t) c (Some u) d = refl

pub vif_alone : (scope : Scope) (names : Names) (place : Place) (vif : Bool) (test branch : Expr) (given : Option Expr) → true ≡ vif →
    Fixed (typed_const scope names (If place vif test branch given)) ≡ typed_term_part scope names (If place vif test branch given)
vif_alone scope names place vif test branch given h = alone scope names _ (ap (λ (b : Bool). typed_term scope names (If place b test branch given)) (sym h) ∙ term-If scope names place true test branch given)

pub if_alone : (scope : Scope) (names : Names) (place : Place) (vif : Bool) (test branch : Expr) (given : Option Expr) → given ≡ None →
    Fixed (typed_const scope names (If place vif test branch given)) ≡ typed_term_part scope names (If place vif test branch given)
if_alone scope names place vif test branch given h = alone scope names _ (ap (λ (o : Option Expr). typed_term scope names (If place vif test branch o)) h ∙ at vif)
  where
    at : (vif : Bool) → typed_term scope names (If place vif test branch None) ≡ None
    at true = term-If scope names place true test branch None
    at false = term-If scope names place false test branch None

-- ---- products

behind_open : (scope : Scope) (names : Names) (first : Const) (before : List (Place × Token × Const)) (others : List (Place × Token × Expr)) →
    product_part_behind scope names first before others ≡ term_part (typed_product_behind scope names first before others) (const.Times first (before ++ typed_operands scope names others))
unfolding product_part_behind typed_product_behind
behind_open scope names first before [] = ap (λ (all : List (Place × Token × Const)). Fixed (const.Times first all)) (sym (append-nil before))
behind_open scope names first before (other ∷ others) =
    at (typed_term scope names other.2) _ _
    (behind_open scope names first (before ++ (other.0, other.1, typed_const scope names other.2) ∷ []) others
    ∙ ap (λ (all : List (Place × Token × Const)). term_part (typed_product_behind scope names first (before ++ (other.0, other.1, typed_const scope names other.2) ∷ []) others) (const.Times first all))
    (append_assoc before ((other.0, other.1, typed_const scope names other.2) ∷ []) (typed_operands scope names others)))
  where
    at : (t : Option Term) {rest : TermPart} (found : Option Term) (whole : Const) → rest ≡ term_part found whole →
        product_part_at t (known_product first before) other.0 (typed_factors scope names others) rest ≡ term_part (product_at t (known_product first before) other.0 (typed_factors scope names others) found) whole
    at None found whole h = h
    at (Some t) found whole h = refl

pub part-Times : (scope : Scope) (names : Names) (first : Expr) (others : List (Place × Token × Expr)) → product_part scope names (typed_term_part scope names first) others ≡ typed_term_part scope names (Times first others)
unfolding typed_term_part
part-Times scope names first others = at (typed_term scope names first) (typed_const scope names first) ∙ opened scope names _ _ _ (term-Times scope names first others) (makes-Times scope names first others)
  where
    at : (t : Option Term) (c : Const) →
        product_part scope names (term_part t c) others ≡ term_part (product_or t (typed_factors scope names others) (typed_product_behind scope names c [] others)) (const.Times c (typed_operands scope names others))
    at None c = behind_open scope names c [] others
    at (Some t) c = refl

-- an operand that is a constant
pub behind_fixed : (scope : Scope) (names : Names) (first : Const) (before : List (Place × Token × Const)) (x : Place × Token × Expr) (others : List (Place × Token × Expr)) (token : Token) (c : Const) → token ≡ x.1 →
    Fixed c ≡ typed_term_part scope names x.2 → product_part_behind scope names first before (x ∷ others) ≡ product_part_behind scope names first (before ++ (x.0, token, c) ∷ []) others
unfolding product_part_behind typed_term_part
behind_fixed scope names first before x others token c same h = at (typed_term scope names x.2) h
  where
    at : (t : Option Term) → Fixed c ≡ term_part t (typed_const scope names x.2) →
        product_part_at t (known_product first before) x.0 (typed_factors scope names others) (product_part_behind scope names first (before ++ (x.0, x.1, typed_const scope names x.2) ∷ []) others)
        ≡ product_part_behind scope names first (before ++ (x.0, token, c) ∷ []) others
    at None h = let value : c ≡ typed_const scope names x.2 = cc in (λ i. product_part_behind scope names first (before ++ (x.0, sym same i, sym value i) ∷ []) others)
    at (Some t) h = absurd (cc)

-- the first operand with variables
pub behind_varying : (scope : Scope) (names : Names) (first : Const) (before : List (Place × Token × Const)) (x : Place × Token × Expr) (others : List (Place × Token × Expr)) (t : Term) →
    Varies t ≡ typed_term_part scope names x.2 → product_part_behind scope names first before (x ∷ others) ≡ Varies (term.Product (Some (known_product first before, x.0)) t (typed_factors scope names others))
unfolding product_part_behind typed_term_part
behind_varying scope names first before x others t h = at (typed_term scope names x.2) h
  where
    at : (u : Option Term) → Varies t ≡ term_part u (typed_const scope names x.2) →
        product_part_at u (known_product first before) x.0 (typed_factors scope names others) (product_part_behind scope names first (before ++ (x.0, x.1, typed_const scope names x.2) ∷ []) others)
        ≡ Varies (term.Product (Some (known_product first before, x.0)) t (typed_factors scope names others))
    at None h = absurd (cc)
    at (Some u) h = let same : t ≡ u = cc in ap (λ (v : Term). Varies (term.Product (Some (known_product first before, x.0)) v (typed_factors scope names others))) (sym same)

pub behind_none : (scope : Scope) (names : Names) (first : Const) (before : List (Place × Token × Const)) → product_part_behind scope names first before [] ≡ Fixed (const.Times first before)
unfolding product_part_behind
behind_none scope names first before = refl

-- ---- sums

varies_either : (t : Option Term) (c : Const) → is_varying (term_part t c) ≡ is_some t
varies_either None c = refl
varies_either (Some t) c = refl

one_varies : (scope : Scope) (names : Names) (others : List (Place × Token × Expr)) → one_varying (operand_parts scope names others) ≡ list_any (λ (x : Place × Token × Expr). is_some (typed_term scope names x.2)) others
unfolding typed_term_part
one_varies scope names [] = refl
one_varies scope names (x ∷ others) = λ i. varies_either (typed_term scope names x.2) (typed_const scope names x.2) i || one_varies scope names others i

made_summands : (scope : Scope) (names : Names) (others : List (Place × Token × Expr)) →
    summands (operand_parts scope names others) ≡ map (λ (x : Place × Token × Expr). (x.0, is_minus x.1, some_term scope names x.2)) others
made_summands scope names [] = refl
made_summands scope names (x ∷ others) = λ i. (x.0, is_minus x.1, as_some_term scope names x.2 i) ∷ made_summands scope names others i

all_fixed : (scope : Scope) (names : Names) (others : List (Place × Token × Expr)) → list_any (λ (x : Place × Token × Expr). is_some (typed_term scope names x.2)) others ≡ false → fixed_operands (operand_parts scope names others) ≡ typed_operands scope names others
unfolding typed_term_part
all_fixed scope names [] h = refl
all_fixed scope names (x ∷ others) h = at (typed_term scope names x.2) refl (all_fixed scope names others)
  where
    at : (t : Option Term) → typed_term scope names x.2 ≡ t → (list_any (λ (y : Place × Token × Expr). is_some (typed_term scope names y.2)) others ≡ false → fixed_operands (operand_parts scope names others) ≡ typed_operands scope names others) →
        fixed_operands (operand_parts scope names (x ∷ others)) ≡ typed_operands scope names (x ∷ others)
    at None is rest =
        ap (λ (t : Option Term). filter_map fixed_operand ((x.0, x.1, term_part t (typed_const scope names x.2)) ∷ operand_parts scope names others)) is
        ∙ ap (λ (cs : List (Place × Token × Const)). (x.0, x.1, typed_const scope names x.2) ∷ cs) (rest (sym (ap (λ (t : Option Term). is_some t || list_any (λ (y : Place × Token × Expr). is_some (typed_term scope names y.2)) others) is) ∙ h))
    at (Some t) is rest = absurd (false≢true (sym h ∙ ap (λ (u : Option Term). is_some u || list_any (λ (y : Place × Token × Expr). is_some (typed_term scope names y.2)) others) is))

pub part-Plus : (scope : Scope) (names : Names) (first : Expr) (others : List (Place × Token × Expr)) → sum_part (typed_term_part scope names first) (operand_parts scope names others) ≡ typed_term_part scope names (Plus first others)
unfolding typed_term_part
part-Plus scope names first others =
    at (typed_term scope names first) (typed_const scope names first) (list_any (λ (x : Place × Token × Expr). is_some (typed_term scope names x.2)) others) refl
    ∙ opened scope names _ _ _ (term-Plus scope names first others) (makes-Plus scope names first others)
  where
    at : (t : Option Term) (c : Const) (varies : Bool) → list_any (λ (x : Place × Token × Expr). is_some (typed_term scope names x.2)) others ≡ varies →
        sum_part (term_part t c) (operand_parts scope names others)
        ≡ term_part
        (sum_if (is_some t || list_any (λ (x : Place × Token × Expr). is_some (typed_term scope names x.2)) others) (term_or_constant t c) (map (λ (x : Place × Token × Expr). (x.0, is_minus x.1, some_term scope names x.2)) others))
        (const.Plus c (typed_operands scope names others))
    at (Some t) c varies h = ap (λ (ts : List (Place × Bool × Term)). Varies (term.Sum t ts)) (made_summands scope names others)
    at None c true h =
        ap (λ (b : Bool). if b then Varies (term.Sum (term.Known c) (summands (operand_parts scope names others))) else Fixed (const.Plus c (fixed_operands (operand_parts scope names others)))) (one_varies scope names others ∙ h)
        ∙ ap (λ (ts : List (Place × Bool × Term)). Varies (term.Sum (term.Known c) ts)) (made_summands scope names others)
        ∙ sym (ap (λ (b : Bool). term_part (sum_if b (term.Known c) (map (λ (x : Place × Token × Expr). (x.0, is_minus x.1, some_term scope names x.2)) others)) (const.Plus c (typed_operands scope names others))) h)
    at None c false h =
        ap (λ (b : Bool). if b then Varies (term.Sum (term.Known c) (summands (operand_parts scope names others))) else Fixed (const.Plus c (fixed_operands (operand_parts scope names others)))) (one_varies scope names others ∙ h)
        ∙ ap (λ (cs : List (Place × Token × Const)). Fixed (const.Plus c cs)) (all_fixed scope names others h)
        ∙ sym (ap (λ (b : Bool). term_part (sum_if b (term.Known c) (map (λ (x : Place × Token × Expr). (x.0, is_minus x.1, some_term scope names x.2)) others)) (const.Plus c (typed_operands scope names others))) h)
