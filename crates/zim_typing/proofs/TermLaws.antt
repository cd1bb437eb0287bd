-- Which term, condition or constraint is made of each form of an expression, one equation for each.
use Rattle.std.proofs.Common.{◌≡◌, ℕ, Bool, true, false, ◌||◌, List, [], ◌∷◌, ◌++◌, map, Option, Some, None, option_map, is_some, refl, sym, ap, ◌∙◌}
use Rattle.std.specs.List.{list_any}
use Rattle.zim_fault.specs.declared.faults.Place.{Place}
use Rattle.zim_fault.specs.declared.tokens.Token.{Token}
use Rattle.zim_fault.specs.declared.tokens.Relation.{Relation}
use Rattle.zim_fault.specs.declared.tokens.Join.{Join}
use Rattle.zim_fault.specs.declared.tokens.Join.TheVariants as join
use Rattle.zim_fault.specs.declared.signs.Sign.{Sign}
use Rattle.zim_fault.specs.declared.words.Word.{Word}
use Rattle.zim_tree.specs.declared.expr.Expr.{Expr, Expr-F}
use Rattle.zim_tree.specs.declared.expr.Expr.TheVariants.{Number, Text, Truth, Infinity, Name, Item, Call, Func, Proj, Paren, Braces, If, Factorial, Power, Signed, Big, Times, Plus, Compare, Member, Not, And, Or, Forall, rolls-Number, rolls-Text, rolls-Truth, rolls-Infinity, rolls-Name, rolls-Item, rolls-Call, rolls-Func, rolls-Proj, rolls-Paren, rolls-Braces, rolls-If, rolls-Factorial, rolls-Power, rolls-Signed, rolls-Big, rolls-Times, rolls-Plus, rolls-Compare, rolls-Member, rolls-Not, rolls-And, rolls-Or, rolls-Forall}
use Rattle.zim_tree.specs.declared.expr.Angle.{Angle}
use Rattle.zim_tree.specs.declared.expr.Index.{Index}
use Rattle.zim_tree.specs.declared.expr.Body.{Body}
use Rattle.zim_typed.specs.declared.constant.Const.{Const}
use Rattle.zim_typed.specs.declared.constraint.Term.{Term}
use Rattle.zim_typed.specs.declared.constraint.Cond.{Cond}
use Rattle.zim_typed.specs.declared.constraint.Cond.TheVariants as cond
use Rattle.zim_typed.specs.declared.constraint.Con.{Con}
use Rattle.zim_typed.specs.declared.constraint.Con.TheVariants as con
use Rattle.zim_typed.specs.Scope.{Names, Scope}
use Rattle.zim_typed.specs.Variables.{names_variable}
use Rattle.zim_typed.specs.Terms.{or_join}
use Rattle.zim_static.specs.Faults.{is_slash}
use Rattle.zim_typing.specs.Typing.{Typing, any_term, has_term, any_condition, has_condition, is_minus, column_if, signed_term, summation, absolute_term, sum_if, factors_of, known_product, product_at, product_or, product_behind, compared_of, chain_if, nothing_asked, comparing_of, typing_of, names_inside, typed_const, typed_consts, typed_index, typed_term, some_term, typed_sum, typed_factors, typed_product_behind, typed_product, typed_choice, typed_cond, some_cond, typed_compared, typed_anded, typed_ored, typed_con, typed_comparing, typed_picking}
use Rattle.zim_typing.proofs.ConstantLaws.{at_expr, made_all, names_kept_inside}

-- ---- lists

terms_all : (scope : Scope) (names : Names) (items : List Expr) → map (any_term names) (map (typing_of scope) items) ≡ map (some_term scope names) items
unfolding typed_term typed_const
terms_all scope names [] = refl
terms_all scope names (item ∷ items) = ap (λ (ts : List Term). some_term scope names item ∷ ts) (terms_all scope names items)

made_factors : (scope : Scope) (names : Names) (others : List (Place × Token × Expr)) → factors_of names (map (λ (x : Place × Token × Expr). (x.0, x.1, typing_of scope x.2)) others) ≡ typed_factors scope names others
unfolding typed_const
made_factors scope names [] = refl
made_factors scope names (other ∷ others) = ap (λ (fs : List (Place × Bool × Const)). (other.0, is_slash other.1, typed_const scope names other.2) ∷ fs) (made_factors scope names others)

made_behind : (scope : Scope) (names : Names) (first : Const) (before : List (Place × Token × Const)) (others : List (Place × Token × Expr)) →
    product_behind names first before (map (λ (x : Place × Token × Expr). (x.0, x.1, typing_of scope x.2)) others) ≡ typed_product_behind scope names first before others
unfolding typed_term typed_const product_behind typed_product_behind
made_behind scope names first before [] = refl
made_behind scope names first before (other ∷ others) =
    λ i. product_at (typed_term scope names other.2) (known_product first before) other.0 (made_factors scope names others i)
    (made_behind scope names first (before ++ (other.0, other.1, typed_const scope names other.2) ∷ []) others i)

has_terms : (scope : Scope) (names : Names) (others : List (Place × Token × Expr)) →
    list_any (λ (x : Place × Token × Typing). has_term names x.2) (map (λ (x : Place × Token × Expr). (x.0, x.1, typing_of scope x.2)) others) ≡ list_any (λ (x : Place × Token × Expr). is_some (typed_term scope names x.2)) others
unfolding typed_term
has_terms scope names [] = refl
has_terms scope names (other ∷ others) = ap (λ (b : Bool). is_some (typed_term scope names other.2) || b) (has_terms scope names others)

made_terms : (scope : Scope) (names : Names) (others : List (Place × Token × Expr)) →
    map {B = Place × Bool × Term} (λ (x : Place × Token × Typing). (x.0, is_minus x.1, any_term names x.2)) (map (λ (x : Place × Token × Expr). (x.0, x.1, typing_of scope x.2)) others)
    ≡ map {B = Place × Bool × Term} (λ (x : Place × Token × Expr). (x.0, is_minus x.1, some_term scope names x.2)) others
unfolding typed_term typed_const
made_terms scope names [] = refl
made_terms scope names (other ∷ others) = ap (λ (ts : List (Place × Bool × Term)). (other.0, is_minus other.1, some_term scope names other.2) ∷ ts) (made_terms scope names others)

has_anded : (scope : Scope) (names : Names) (others : List (Place × Expr)) →
    list_any (λ (x : Place × Typing). has_condition names x.1) (map (λ (x : Place × Expr). (x.0, typing_of scope x.1)) others) ≡ list_any (λ (x : Place × Expr). is_some (typed_cond scope names x.1)) others
unfolding typed_cond
has_anded scope names [] = refl
has_anded scope names (other ∷ others) = ap (λ (b : Bool). is_some (typed_cond scope names other.1) || b) (has_anded scope names others)

made_anded : (scope : Scope) (names : Names) (others : List (Place × Expr)) →
    map {B = Place × Join × Cond} (λ (x : Place × Typing). (x.0, join.And, any_condition names x.1)) (map (λ (x : Place × Expr). (x.0, typing_of scope x.1)) others) ≡ map {B = Place × Join × Cond} (λ (x : Place × Expr). (x.0, join.And, some_cond scope names x.1)) others
unfolding typed_cond typed_const
made_anded scope names [] = refl
made_anded scope names (other ∷ others) = ap (λ (cs : List (Place × Join × Cond)). (other.0, join.And, some_cond scope names other.1) ∷ cs) (made_anded scope names others)

has_ored : (scope : Scope) (names : Names) (others : List (Place × Bool × Expr)) →
    list_any (λ (x : Place × Bool × Typing). has_condition names x.2) (map (λ (x : Place × Bool × Expr). (x.0, x.1, typing_of scope x.2)) others) ≡ list_any (λ (x : Place × Bool × Expr). is_some (typed_cond scope names x.2)) others
unfolding typed_cond
has_ored scope names [] = refl
has_ored scope names (other ∷ others) = ap (λ (b : Bool). is_some (typed_cond scope names other.2) || b) (has_ored scope names others)

made_ored : (scope : Scope) (names : Names) (others : List (Place × Bool × Expr)) →
    map {B = Place × Join × Cond} (λ (x : Place × Bool × Typing). (x.0, or_join x.1, any_condition names x.2)) (map (λ (x : Place × Bool × Expr). (x.0, x.1, typing_of scope x.2)) others) ≡ map {B = Place × Join × Cond} (λ (x : Place × Bool × Expr). (x.0, or_join x.1, some_cond scope names x.2)) others
unfolding typed_cond typed_const
made_ored scope names [] = refl
made_ored scope names (other ∷ others) = ap (λ (cs : List (Place × Join × Cond)). (other.0, or_join other.1, some_cond scope names other.2) ∷ cs) (made_ored scope names others)

made_cons : (scope : Scope) (names : Names) (others : List (Place × Expr)) →
    map (λ (x : Place × Typing). x.1.constraint names) (map (λ (x : Place × Expr). (x.0, typing_of scope x.1)) others) ≡ map (λ (x : Place × Expr). typed_con scope names x.1) others
unfolding typed_con
made_cons scope names [] = refl
made_cons scope names (other ∷ others) = ap (λ (cs : List Con). typed_con scope names other.1 ∷ cs) (made_cons scope names others)

made_compared : (scope : Scope) (names : Names) (first : Expr) (others : List (Place × Relation × Expr)) →
    compared_of names (typing_of scope first) (map (λ (x : Place × Relation × Expr). (x.0, x.1, typing_of scope x.2)) others) ≡ typed_compared scope names first others
unfolding typed_term typed_const
made_compared scope names first [] = refl
made_compared scope names first (other ∷ []) = refl
made_compared scope names first (other ∷ next ∷ others) = refl

made_comparing : (scope : Scope) (names : Names) (first : Expr) (others : List (Place × Relation × Expr)) →
    comparing_of names (typing_of scope first) (map (λ (x : Place × Relation × Expr). (x.0, x.1, typing_of scope x.2)) others) ≡ typed_comparing scope names first others
unfolding typed_term typed_const
made_comparing scope names first [] = refl
made_comparing scope names first (other ∷ []) = refl
made_comparing scope names first (other ∷ next ∷ others) = refl

-- ---- the forms

at_term : (scope : Scope) (names : Names) (e : Expr) (d : Typing) → typing_of scope e ≡ d → typed_term scope names e ≡ d.term names
unfolding typed_term
at_term scope names e d is = ap (λ (t : Typing). t.term names) is

at_cond : (scope : Scope) (names : Names) (e : Expr) (d : Typing) → typing_of scope e ≡ d → typed_cond scope names e ≡ d.condition names
unfolding typed_cond
at_cond scope names e d is = ap (λ (t : Typing). t.condition names) is

at_con : (scope : Scope) (names : Names) (e : Expr) (d : Typing) → typing_of scope e ≡ d → typed_con scope names e ≡ d.constraint names
unfolding typed_con
at_con scope names e d is = ap (λ (t : Typing). t.constraint names) is

pub term-Number : (scope : Scope) (names : Names) (place : Place) (digits : List ℕ) → typed_term scope names (Number place digits) ≡ None
unfolding typed_const typed_index typed_term typed_cond typed_con
term-Number scope names place digits = at_term scope names (Number place digits) _ (ap (typing_of scope) (sym (rolls-Number place digits)) ∙ at_expr scope (Expr-F.Number place digits))

pub term-Text : (scope : Scope) (names : Names) (place : Place) (text : List ℕ) (double : Bool) → typed_term scope names (Text place text double) ≡ None
unfolding typed_const typed_index typed_term typed_cond typed_con
term-Text scope names place text double = at_term scope names (Text place text double) _ (ap (typing_of scope) (sym (rolls-Text place text double)) ∙ at_expr scope (Expr-F.Text place text double))

pub term-Truth : (scope : Scope) (names : Names) (place : Place) (truth : Bool) → typed_term scope names (Truth place truth) ≡ None
unfolding typed_const typed_index typed_term typed_cond typed_con
term-Truth scope names place truth = at_term scope names (Truth place truth) _ (ap (typing_of scope) (sym (rolls-Truth place truth)) ∙ at_expr scope (Expr-F.Truth place truth))

pub term-Infinity : (scope : Scope) (names : Names) (place : Place) → typed_term scope names (Infinity place) ≡ None
unfolding typed_const typed_index typed_term typed_cond typed_con
term-Infinity scope names place = at_term scope names (Infinity place) _ (ap (typing_of scope) (sym (rolls-Infinity place)) ∙ at_expr scope (Expr-F.Infinity place))

pub term-Name : (scope : Scope) (names : Names) (place : Place) (name : List ℕ) → typed_term scope names (Name place name) ≡ column_if (names_variable scope name) place name []
unfolding typed_const typed_index typed_term typed_cond typed_con
term-Name scope names place name = at_term scope names (Name place name) _ (ap (typing_of scope) (sym (rolls-Name place name)) ∙ at_expr scope (Expr-F.Name place name))

pub term-Item : (scope : Scope) (names : Names) (place : Place) (name : List ℕ) (index : List Expr) → typed_term scope names (Item place name index) ≡ column_if (names_variable scope name) place name (typed_consts scope names index)
unfolding typed_const typed_index typed_term typed_cond typed_con
term-Item scope names place name index = at_term scope names (Item place name index) _ (ap (typing_of scope) (sym (rolls-Item place name index)) ∙ at_expr scope (Expr-F.Item place name index)) ∙ ap (λ (cs : List Const). column_if (names_variable scope name) place name cs) (made_all scope names index)

pub term-Call : (scope : Scope) (names : Names) (place : Place) (name : List ℕ) (given : List Expr) → typed_term scope names (Call place name given) ≡ None
unfolding typed_const typed_index typed_term typed_cond typed_con
term-Call scope names place name given = at_term scope names (Call place name given) _ (ap (typing_of scope) (sym (rolls-Call place name given)) ∙ at_expr scope (Expr-F.Call place name given))

pub term-Func : (scope : Scope) (names : Names) (place : Place) (word : Word) (given : List Expr) → typed_term scope names (Func place word given) ≡ absolute_term word place (map (some_term scope names) given)
unfolding typed_const typed_index typed_term typed_cond typed_con
term-Func scope names place word given = at_term scope names (Func place word given) _ (ap (typing_of scope) (sym (rolls-Func place word given)) ∙ at_expr scope (Expr-F.Func place word given)) ∙ ap (λ (ts : List Term). absolute_term word place ts) (terms_all scope names given)

pub term-Proj : (scope : Scope) (names : Names) (place : Place) (set : Expr) (positions : Angle) → typed_term scope names (Proj place set positions) ≡ None
unfolding typed_const typed_index typed_term typed_cond typed_con
term-Proj scope names place set positions = at_term scope names (Proj place set positions) _ (ap (typing_of scope) (sym (rolls-Proj place set positions)) ∙ at_expr scope (Expr-F.Proj place set positions))

pub term-Paren : (scope : Scope) (names : Names) (place : Place) (inner : Expr) → typed_term scope names (Paren place inner) ≡ typed_term scope names inner
unfolding typed_const typed_index typed_term typed_cond typed_con
term-Paren scope names place inner = at_term scope names (Paren place inner) _ (ap (typing_of scope) (sym (rolls-Paren place inner)) ∙ at_expr scope (Expr-F.Paren place inner))

pub term-Braces : (scope : Scope) (names : Names) (place : Place) (inside : Body) → typed_term scope names (Braces place inside) ≡ None
unfolding typed_const typed_index typed_term typed_cond typed_con
term-Braces scope names place inside = at_term scope names (Braces place inside) _ (ap (typing_of scope) (sym (rolls-Braces place inside)) ∙ at_expr scope (Expr-F.Braces place inside))

pub term-If : (scope : Scope) (names : Names) (place : Place) (vif : Bool) (test branch : Expr) (otherwise : Option Expr) → typed_term scope names (If place vif test branch otherwise) ≡ typed_choice scope names place vif test branch otherwise
unfolding typed_const typed_index typed_term typed_cond typed_con
term-If scope names place false test branch None = at_term scope names (If place false test branch None) _ (ap (typing_of scope) (sym (rolls-If place false test branch None)) ∙ at_expr scope (Expr-F.If place false test branch None))
term-If scope names place false test branch (Some otherwise) = at_term scope names (If place false test branch (Some otherwise)) _ (ap (typing_of scope) (sym (rolls-If place false test branch (Some otherwise))) ∙ at_expr scope (Expr-F.If place false test branch (Some otherwise)))
term-If scope names place true test branch None = at_term scope names (If place true test branch None) _ (ap (typing_of scope) (sym (rolls-If place true test branch None)) ∙ at_expr scope (Expr-F.If place true test branch None))
term-If scope names place true test branch (Some otherwise) = at_term scope names (If place true test branch (Some otherwise)) _ (ap (typing_of scope) (sym (rolls-If place true test branch (Some otherwise))) ∙ at_expr scope (Expr-F.If place true test branch (Some otherwise)))

pub term-Factorial : (scope : Scope) (names : Names) (operand : Expr) (marks : List Place) → typed_term scope names (Factorial operand marks) ≡ None
unfolding typed_const typed_index typed_term typed_cond typed_con
term-Factorial scope names operand marks = at_term scope names (Factorial operand marks) _ (ap (typing_of scope) (sym (rolls-Factorial operand marks)) ∙ at_expr scope (Expr-F.Factorial operand marks))

pub term-Power : (scope : Scope) (names : Names) (place : Place) (sign : Sign) (base : Expr) (signed : Option (Place × Bool)) (exponent : Expr) → typed_term scope names (Power place sign base signed exponent) ≡ None
unfolding typed_const typed_index typed_term typed_cond typed_con
term-Power scope names place sign base signed exponent = at_term scope names (Power place sign base signed exponent) _ (ap (typing_of scope) (sym (rolls-Power place sign base signed exponent)) ∙ at_expr scope (Expr-F.Power place sign base signed exponent))

pub term-Signed : (scope : Scope) (names : Names) (place : Place) (minus : Bool) (operand : Expr) → typed_term scope names (Signed place minus operand) ≡ signed_term place minus (typed_term scope names operand)
unfolding typed_const typed_index typed_term typed_cond typed_con
term-Signed scope names place minus operand = at_term scope names (Signed place minus operand) _ (ap (typing_of scope) (sym (rolls-Signed place minus operand)) ∙ at_expr scope (Expr-F.Signed place minus operand))

pub term-Big : (scope : Scope) (names : Names) (place : Place) (word : Word) (index : Index) (with_do : Bool) (operand : Expr) → typed_term scope names (Big place word index with_do operand) ≡ summation word place (typed_index scope names index) (typed_term scope (names_inside scope names index) operand)
unfolding typed_const typed_index typed_term typed_cond typed_con
term-Big scope names place word index with_do operand = at_term scope names (Big place word index with_do operand) _ (ap (typing_of scope) (sym (rolls-Big place word index with_do operand)) ∙ at_expr scope (Expr-F.Big place word index with_do operand)) ∙ ap (λ (inner : Names). summation word place (typed_index scope names index) (typed_term scope inner operand)) (names_kept_inside scope names index)

pub term-Times : (scope : Scope) (names : Names) (first : Expr) (others : List (Place × Token × Expr)) → typed_term scope names (Times first others) ≡ typed_product scope names first others
unfolding typed_const typed_index typed_term typed_cond typed_con
term-Times scope names first others = at_term scope names (Times first others) _ (ap (typing_of scope) (sym (rolls-Times first others)) ∙ at_expr scope (Expr-F.Times first others)) ∙ (λ i. product_or (typed_term scope names first) (made_factors scope names others i) (made_behind scope names (typed_const scope names first) [] others i))

pub term-Plus : (scope : Scope) (names : Names) (first : Expr) (others : List (Place × Token × Expr)) → typed_term scope names (Plus first others) ≡ typed_sum scope names first others
unfolding typed_const typed_index typed_term typed_cond typed_con
term-Plus scope names first others = at_term scope names (Plus first others) _ (ap (typing_of scope) (sym (rolls-Plus first others)) ∙ at_expr scope (Expr-F.Plus first others)) ∙ (λ i. sum_if (is_some (typed_term scope names first) || has_terms scope names others i) (some_term scope names first) (made_terms scope names others i))

pub term-Compare : (scope : Scope) (names : Names) (first : Expr) (others : List (Place × Relation × Expr)) → typed_term scope names (Compare first others) ≡ None
unfolding typed_const typed_index typed_term typed_cond typed_con
term-Compare scope names first others = at_term scope names (Compare first others) _ (ap (typing_of scope) (sym (rolls-Compare first others)) ∙ at_expr scope (Expr-F.Compare first others))

pub term-Member : (scope : Scope) (names : Names) (place : Place) (tuple : Angle) (set : Expr) → typed_term scope names (Member place tuple set) ≡ None
unfolding typed_const typed_index typed_term typed_cond typed_con
term-Member scope names place tuple set = at_term scope names (Member place tuple set) _ (ap (typing_of scope) (sym (rolls-Member place tuple set)) ∙ at_expr scope (Expr-F.Member place tuple set))

pub term-Not : (scope : Scope) (names : Names) (place : Place) (operand : Expr) → typed_term scope names (Not place operand) ≡ None
unfolding typed_const typed_index typed_term typed_cond typed_con
term-Not scope names place operand = at_term scope names (Not place operand) _ (ap (typing_of scope) (sym (rolls-Not place operand)) ∙ at_expr scope (Expr-F.Not place operand))

pub term-And : (scope : Scope) (names : Names) (first : Expr) (others : List (Place × Expr)) → typed_term scope names (And first others) ≡ None
unfolding typed_const typed_index typed_term typed_cond typed_con
term-And scope names first others = at_term scope names (And first others) _ (ap (typing_of scope) (sym (rolls-And first others)) ∙ at_expr scope (Expr-F.And first others))

pub term-Or : (scope : Scope) (names : Names) (first : Expr) (others : List (Place × Bool × Expr)) → typed_term scope names (Or first others) ≡ None
unfolding typed_const typed_index typed_term typed_cond typed_con
term-Or scope names first others = at_term scope names (Or first others) _ (ap (typing_of scope) (sym (rolls-Or first others)) ∙ at_expr scope (Expr-F.Or first others))

pub term-Forall : (scope : Scope) (names : Names) (place : Place) (index : Index) (with_do : Bool) (inside : Expr) → typed_term scope names (Forall place index with_do inside) ≡ None
unfolding typed_const typed_index typed_term typed_cond typed_con
term-Forall scope names place index with_do inside = at_term scope names (Forall place index with_do inside) _ (ap (typing_of scope) (sym (rolls-Forall place index with_do inside)) ∙ at_expr scope (Expr-F.Forall place index with_do inside))

pub cond-Number : (scope : Scope) (names : Names) (place : Place) (digits : List ℕ) → typed_cond scope names (Number place digits) ≡ None
unfolding typed_const typed_index typed_term typed_cond typed_con
cond-Number scope names place digits = at_cond scope names (Number place digits) _ (ap (typing_of scope) (sym (rolls-Number place digits)) ∙ at_expr scope (Expr-F.Number place digits))

pub cond-Text : (scope : Scope) (names : Names) (place : Place) (text : List ℕ) (double : Bool) → typed_cond scope names (Text place text double) ≡ None
unfolding typed_const typed_index typed_term typed_cond typed_con
cond-Text scope names place text double = at_cond scope names (Text place text double) _ (ap (typing_of scope) (sym (rolls-Text place text double)) ∙ at_expr scope (Expr-F.Text place text double))

pub cond-Truth : (scope : Scope) (names : Names) (place : Place) (truth : Bool) → typed_cond scope names (Truth place truth) ≡ None
unfolding typed_const typed_index typed_term typed_cond typed_con
cond-Truth scope names place truth = at_cond scope names (Truth place truth) _ (ap (typing_of scope) (sym (rolls-Truth place truth)) ∙ at_expr scope (Expr-F.Truth place truth))

pub cond-Infinity : (scope : Scope) (names : Names) (place : Place) → typed_cond scope names (Infinity place) ≡ None
unfolding typed_const typed_index typed_term typed_cond typed_con
cond-Infinity scope names place = at_cond scope names (Infinity place) _ (ap (typing_of scope) (sym (rolls-Infinity place)) ∙ at_expr scope (Expr-F.Infinity place))

pub cond-Name : (scope : Scope) (names : Names) (place : Place) (name : List ℕ) → typed_cond scope names (Name place name) ≡ None
unfolding typed_const typed_index typed_term typed_cond typed_con
cond-Name scope names place name = at_cond scope names (Name place name) _ (ap (typing_of scope) (sym (rolls-Name place name)) ∙ at_expr scope (Expr-F.Name place name))

pub cond-Item : (scope : Scope) (names : Names) (place : Place) (name : List ℕ) (index : List Expr) → typed_cond scope names (Item place name index) ≡ None
unfolding typed_const typed_index typed_term typed_cond typed_con
cond-Item scope names place name index = at_cond scope names (Item place name index) _ (ap (typing_of scope) (sym (rolls-Item place name index)) ∙ at_expr scope (Expr-F.Item place name index))

pub cond-Call : (scope : Scope) (names : Names) (place : Place) (name : List ℕ) (given : List Expr) → typed_cond scope names (Call place name given) ≡ None
unfolding typed_const typed_index typed_term typed_cond typed_con
cond-Call scope names place name given = at_cond scope names (Call place name given) _ (ap (typing_of scope) (sym (rolls-Call place name given)) ∙ at_expr scope (Expr-F.Call place name given))

pub cond-Func : (scope : Scope) (names : Names) (place : Place) (word : Word) (given : List Expr) → typed_cond scope names (Func place word given) ≡ None
unfolding typed_const typed_index typed_term typed_cond typed_con
cond-Func scope names place word given = at_cond scope names (Func place word given) _ (ap (typing_of scope) (sym (rolls-Func place word given)) ∙ at_expr scope (Expr-F.Func place word given))

pub cond-Proj : (scope : Scope) (names : Names) (place : Place) (set : Expr) (positions : Angle) → typed_cond scope names (Proj place set positions) ≡ None
unfolding typed_const typed_index typed_term typed_cond typed_con
cond-Proj scope names place set positions = at_cond scope names (Proj place set positions) _ (ap (typing_of scope) (sym (rolls-Proj place set positions)) ∙ at_expr scope (Expr-F.Proj place set positions))

pub cond-Paren : (scope : Scope) (names : Names) (place : Place) (inner : Expr) → typed_cond scope names (Paren place inner) ≡ typed_cond scope names inner
unfolding typed_const typed_index typed_term typed_cond typed_con
cond-Paren scope names place inner = at_cond scope names (Paren place inner) _ (ap (typing_of scope) (sym (rolls-Paren place inner)) ∙ at_expr scope (Expr-F.Paren place inner))

pub cond-Braces : (scope : Scope) (names : Names) (place : Place) (inside : Body) → typed_cond scope names (Braces place inside) ≡ None
unfolding typed_const typed_index typed_term typed_cond typed_con
cond-Braces scope names place inside = at_cond scope names (Braces place inside) _ (ap (typing_of scope) (sym (rolls-Braces place inside)) ∙ at_expr scope (Expr-F.Braces place inside))

pub cond-If : (scope : Scope) (names : Names) (place : Place) (vif : Bool) (test branch : Expr) (otherwise : Option Expr) → typed_cond scope names (If place vif test branch otherwise) ≡ None
unfolding typed_const typed_index typed_term typed_cond typed_con
cond-If scope names place vif test branch otherwise = at_cond scope names (If place vif test branch otherwise) _ (ap (typing_of scope) (sym (rolls-If place vif test branch otherwise)) ∙ at_expr scope (Expr-F.If place vif test branch otherwise))

pub cond-Factorial : (scope : Scope) (names : Names) (operand : Expr) (marks : List Place) → typed_cond scope names (Factorial operand marks) ≡ None
unfolding typed_const typed_index typed_term typed_cond typed_con
cond-Factorial scope names operand marks = at_cond scope names (Factorial operand marks) _ (ap (typing_of scope) (sym (rolls-Factorial operand marks)) ∙ at_expr scope (Expr-F.Factorial operand marks))

pub cond-Power : (scope : Scope) (names : Names) (place : Place) (sign : Sign) (base : Expr) (signed : Option (Place × Bool)) (exponent : Expr) → typed_cond scope names (Power place sign base signed exponent) ≡ None
unfolding typed_const typed_index typed_term typed_cond typed_con
cond-Power scope names place sign base signed exponent = at_cond scope names (Power place sign base signed exponent) _ (ap (typing_of scope) (sym (rolls-Power place sign base signed exponent)) ∙ at_expr scope (Expr-F.Power place sign base signed exponent))

pub cond-Signed : (scope : Scope) (names : Names) (place : Place) (minus : Bool) (operand : Expr) → typed_cond scope names (Signed place minus operand) ≡ None
unfolding typed_const typed_index typed_term typed_cond typed_con
cond-Signed scope names place minus operand = at_cond scope names (Signed place minus operand) _ (ap (typing_of scope) (sym (rolls-Signed place minus operand)) ∙ at_expr scope (Expr-F.Signed place minus operand))

pub cond-Big : (scope : Scope) (names : Names) (place : Place) (word : Word) (index : Index) (with_do : Bool) (operand : Expr) → typed_cond scope names (Big place word index with_do operand) ≡ None
unfolding typed_const typed_index typed_term typed_cond typed_con
cond-Big scope names place word index with_do operand = at_cond scope names (Big place word index with_do operand) _ (ap (typing_of scope) (sym (rolls-Big place word index with_do operand)) ∙ at_expr scope (Expr-F.Big place word index with_do operand))

pub cond-Times : (scope : Scope) (names : Names) (first : Expr) (others : List (Place × Token × Expr)) → typed_cond scope names (Times first others) ≡ None
unfolding typed_const typed_index typed_term typed_cond typed_con
cond-Times scope names first others = at_cond scope names (Times first others) _ (ap (typing_of scope) (sym (rolls-Times first others)) ∙ at_expr scope (Expr-F.Times first others))

pub cond-Plus : (scope : Scope) (names : Names) (first : Expr) (others : List (Place × Token × Expr)) → typed_cond scope names (Plus first others) ≡ None
unfolding typed_const typed_index typed_term typed_cond typed_con
cond-Plus scope names first others = at_cond scope names (Plus first others) _ (ap (typing_of scope) (sym (rolls-Plus first others)) ∙ at_expr scope (Expr-F.Plus first others))

pub cond-Compare : (scope : Scope) (names : Names) (first : Expr) (others : List (Place × Relation × Expr)) → typed_cond scope names (Compare first others) ≡ typed_compared scope names first others
unfolding typed_const typed_index typed_term typed_cond typed_con
cond-Compare scope names first others = at_cond scope names (Compare first others) _ (ap (typing_of scope) (sym (rolls-Compare first others)) ∙ at_expr scope (Expr-F.Compare first others)) ∙ made_compared scope names first others

pub cond-Member : (scope : Scope) (names : Names) (place : Place) (tuple : Angle) (set : Expr) → typed_cond scope names (Member place tuple set) ≡ None
unfolding typed_const typed_index typed_term typed_cond typed_con
cond-Member scope names place tuple set = at_cond scope names (Member place tuple set) _ (ap (typing_of scope) (sym (rolls-Member place tuple set)) ∙ at_expr scope (Expr-F.Member place tuple set))

pub cond-Not : (scope : Scope) (names : Names) (place : Place) (operand : Expr) → typed_cond scope names (Not place operand) ≡ option_map (λ (c : Cond). cond.Not place c) (typed_cond scope names operand)
unfolding typed_const typed_index typed_term typed_cond typed_con
cond-Not scope names place operand = at_cond scope names (Not place operand) _ (ap (typing_of scope) (sym (rolls-Not place operand)) ∙ at_expr scope (Expr-F.Not place operand))

pub cond-And : (scope : Scope) (names : Names) (first : Expr) (others : List (Place × Expr)) → typed_cond scope names (And first others) ≡ typed_anded scope names first others
unfolding typed_const typed_index typed_term typed_cond typed_con
cond-And scope names first others = at_cond scope names (And first others) _ (ap (typing_of scope) (sym (rolls-And first others)) ∙ at_expr scope (Expr-F.And first others)) ∙ (λ i. chain_if (is_some (typed_cond scope names first) || has_anded scope names others i) (some_cond scope names first) (made_anded scope names others i))

pub cond-Or : (scope : Scope) (names : Names) (first : Expr) (others : List (Place × Bool × Expr)) → typed_cond scope names (Or first others) ≡ typed_ored scope names first others
unfolding typed_const typed_index typed_term typed_cond typed_con
cond-Or scope names first others = at_cond scope names (Or first others) _ (ap (typing_of scope) (sym (rolls-Or first others)) ∙ at_expr scope (Expr-F.Or first others)) ∙ (λ i. chain_if (is_some (typed_cond scope names first) || has_ored scope names others i) (some_cond scope names first) (made_ored scope names others i))

pub cond-Forall : (scope : Scope) (names : Names) (place : Place) (index : Index) (with_do : Bool) (inside : Expr) → typed_cond scope names (Forall place index with_do inside) ≡ None
unfolding typed_const typed_index typed_term typed_cond typed_con
cond-Forall scope names place index with_do inside = at_cond scope names (Forall place index with_do inside) _ (ap (typing_of scope) (sym (rolls-Forall place index with_do inside)) ∙ at_expr scope (Expr-F.Forall place index with_do inside))

pub con-Number : (scope : Scope) (names : Names) (place : Place) (digits : List ℕ) → typed_con scope names (Number place digits) ≡ nothing_asked
unfolding typed_const typed_index typed_term typed_cond typed_con
con-Number scope names place digits = at_con scope names (Number place digits) _ (ap (typing_of scope) (sym (rolls-Number place digits)) ∙ at_expr scope (Expr-F.Number place digits))

pub con-Text : (scope : Scope) (names : Names) (place : Place) (text : List ℕ) (double : Bool) → typed_con scope names (Text place text double) ≡ nothing_asked
unfolding typed_const typed_index typed_term typed_cond typed_con
con-Text scope names place text double = at_con scope names (Text place text double) _ (ap (typing_of scope) (sym (rolls-Text place text double)) ∙ at_expr scope (Expr-F.Text place text double))

pub con-Truth : (scope : Scope) (names : Names) (place : Place) (truth : Bool) → typed_con scope names (Truth place truth) ≡ nothing_asked
unfolding typed_const typed_index typed_term typed_cond typed_con
con-Truth scope names place truth = at_con scope names (Truth place truth) _ (ap (typing_of scope) (sym (rolls-Truth place truth)) ∙ at_expr scope (Expr-F.Truth place truth))

pub con-Infinity : (scope : Scope) (names : Names) (place : Place) → typed_con scope names (Infinity place) ≡ nothing_asked
unfolding typed_const typed_index typed_term typed_cond typed_con
con-Infinity scope names place = at_con scope names (Infinity place) _ (ap (typing_of scope) (sym (rolls-Infinity place)) ∙ at_expr scope (Expr-F.Infinity place))

pub con-Name : (scope : Scope) (names : Names) (place : Place) (name : List ℕ) → typed_con scope names (Name place name) ≡ nothing_asked
unfolding typed_const typed_index typed_term typed_cond typed_con
con-Name scope names place name = at_con scope names (Name place name) _ (ap (typing_of scope) (sym (rolls-Name place name)) ∙ at_expr scope (Expr-F.Name place name))

pub con-Item : (scope : Scope) (names : Names) (place : Place) (name : List ℕ) (index : List Expr) → typed_con scope names (Item place name index) ≡ nothing_asked
unfolding typed_const typed_index typed_term typed_cond typed_con
con-Item scope names place name index = at_con scope names (Item place name index) _ (ap (typing_of scope) (sym (rolls-Item place name index)) ∙ at_expr scope (Expr-F.Item place name index))

pub con-Call : (scope : Scope) (names : Names) (place : Place) (name : List ℕ) (given : List Expr) → typed_con scope names (Call place name given) ≡ nothing_asked
unfolding typed_const typed_index typed_term typed_cond typed_con
con-Call scope names place name given = at_con scope names (Call place name given) _ (ap (typing_of scope) (sym (rolls-Call place name given)) ∙ at_expr scope (Expr-F.Call place name given))

pub con-Func : (scope : Scope) (names : Names) (place : Place) (word : Word) (given : List Expr) → typed_con scope names (Func place word given) ≡ nothing_asked
unfolding typed_const typed_index typed_term typed_cond typed_con
con-Func scope names place word given = at_con scope names (Func place word given) _ (ap (typing_of scope) (sym (rolls-Func place word given)) ∙ at_expr scope (Expr-F.Func place word given))

pub con-Proj : (scope : Scope) (names : Names) (place : Place) (set : Expr) (positions : Angle) → typed_con scope names (Proj place set positions) ≡ nothing_asked
unfolding typed_const typed_index typed_term typed_cond typed_con
con-Proj scope names place set positions = at_con scope names (Proj place set positions) _ (ap (typing_of scope) (sym (rolls-Proj place set positions)) ∙ at_expr scope (Expr-F.Proj place set positions))

pub con-Paren : (scope : Scope) (names : Names) (place : Place) (inner : Expr) → typed_con scope names (Paren place inner) ≡ typed_con scope names inner
unfolding typed_const typed_index typed_term typed_cond typed_con
con-Paren scope names place inner = at_con scope names (Paren place inner) _ (ap (typing_of scope) (sym (rolls-Paren place inner)) ∙ at_expr scope (Expr-F.Paren place inner))

pub con-Braces : (scope : Scope) (names : Names) (place : Place) (inside : Body) → typed_con scope names (Braces place inside) ≡ nothing_asked
unfolding typed_const typed_index typed_term typed_cond typed_con
con-Braces scope names place inside = at_con scope names (Braces place inside) _ (ap (typing_of scope) (sym (rolls-Braces place inside)) ∙ at_expr scope (Expr-F.Braces place inside))

pub con-If : (scope : Scope) (names : Names) (place : Place) (vif : Bool) (test branch : Expr) (otherwise : Option Expr) → typed_con scope names (If place vif test branch otherwise) ≡ typed_picking scope names place vif test (typed_con scope names branch) (option_map (typed_con scope names) otherwise)
unfolding typed_const typed_index typed_term typed_cond typed_con
con-If scope names place false test branch None = at_con scope names (If place false test branch None) _ (ap (typing_of scope) (sym (rolls-If place false test branch None)) ∙ at_expr scope (Expr-F.If place false test branch None))
con-If scope names place false test branch (Some otherwise) = at_con scope names (If place false test branch (Some otherwise)) _ (ap (typing_of scope) (sym (rolls-If place false test branch (Some otherwise))) ∙ at_expr scope (Expr-F.If place false test branch (Some otherwise)))
con-If scope names place true test branch None = at_con scope names (If place true test branch None) _ (ap (typing_of scope) (sym (rolls-If place true test branch None)) ∙ at_expr scope (Expr-F.If place true test branch None))
con-If scope names place true test branch (Some otherwise) = at_con scope names (If place true test branch (Some otherwise)) _ (ap (typing_of scope) (sym (rolls-If place true test branch (Some otherwise))) ∙ at_expr scope (Expr-F.If place true test branch (Some otherwise)))

pub con-Factorial : (scope : Scope) (names : Names) (operand : Expr) (marks : List Place) → typed_con scope names (Factorial operand marks) ≡ nothing_asked
unfolding typed_const typed_index typed_term typed_cond typed_con
con-Factorial scope names operand marks = at_con scope names (Factorial operand marks) _ (ap (typing_of scope) (sym (rolls-Factorial operand marks)) ∙ at_expr scope (Expr-F.Factorial operand marks))

pub con-Power : (scope : Scope) (names : Names) (place : Place) (sign : Sign) (base : Expr) (signed : Option (Place × Bool)) (exponent : Expr) → typed_con scope names (Power place sign base signed exponent) ≡ nothing_asked
unfolding typed_const typed_index typed_term typed_cond typed_con
con-Power scope names place sign base signed exponent = at_con scope names (Power place sign base signed exponent) _ (ap (typing_of scope) (sym (rolls-Power place sign base signed exponent)) ∙ at_expr scope (Expr-F.Power place sign base signed exponent))

pub con-Signed : (scope : Scope) (names : Names) (place : Place) (minus : Bool) (operand : Expr) → typed_con scope names (Signed place minus operand) ≡ nothing_asked
unfolding typed_const typed_index typed_term typed_cond typed_con
con-Signed scope names place minus operand = at_con scope names (Signed place minus operand) _ (ap (typing_of scope) (sym (rolls-Signed place minus operand)) ∙ at_expr scope (Expr-F.Signed place minus operand))

pub con-Big : (scope : Scope) (names : Names) (place : Place) (word : Word) (index : Index) (with_do : Bool) (operand : Expr) → typed_con scope names (Big place word index with_do operand) ≡ nothing_asked
unfolding typed_const typed_index typed_term typed_cond typed_con
con-Big scope names place word index with_do operand = at_con scope names (Big place word index with_do operand) _ (ap (typing_of scope) (sym (rolls-Big place word index with_do operand)) ∙ at_expr scope (Expr-F.Big place word index with_do operand))

pub con-Times : (scope : Scope) (names : Names) (first : Expr) (others : List (Place × Token × Expr)) → typed_con scope names (Times first others) ≡ nothing_asked
unfolding typed_const typed_index typed_term typed_cond typed_con
con-Times scope names first others = at_con scope names (Times first others) _ (ap (typing_of scope) (sym (rolls-Times first others)) ∙ at_expr scope (Expr-F.Times first others))

pub con-Plus : (scope : Scope) (names : Names) (first : Expr) (others : List (Place × Token × Expr)) → typed_con scope names (Plus first others) ≡ nothing_asked
unfolding typed_const typed_index typed_term typed_cond typed_con
con-Plus scope names first others = at_con scope names (Plus first others) _ (ap (typing_of scope) (sym (rolls-Plus first others)) ∙ at_expr scope (Expr-F.Plus first others))

pub con-Compare : (scope : Scope) (names : Names) (first : Expr) (others : List (Place × Relation × Expr)) → typed_con scope names (Compare first others) ≡ typed_comparing scope names first others
unfolding typed_const typed_index typed_term typed_cond typed_con
con-Compare scope names first others = at_con scope names (Compare first others) _ (ap (typing_of scope) (sym (rolls-Compare first others)) ∙ at_expr scope (Expr-F.Compare first others)) ∙ made_comparing scope names first others

pub con-Member : (scope : Scope) (names : Names) (place : Place) (tuple : Angle) (set : Expr) → typed_con scope names (Member place tuple set) ≡ nothing_asked
unfolding typed_const typed_index typed_term typed_cond typed_con
con-Member scope names place tuple set = at_con scope names (Member place tuple set) _ (ap (typing_of scope) (sym (rolls-Member place tuple set)) ∙ at_expr scope (Expr-F.Member place tuple set))

pub con-Not : (scope : Scope) (names : Names) (place : Place) (operand : Expr) → typed_con scope names (Not place operand) ≡ nothing_asked
unfolding typed_const typed_index typed_term typed_cond typed_con
con-Not scope names place operand = at_con scope names (Not place operand) _ (ap (typing_of scope) (sym (rolls-Not place operand)) ∙ at_expr scope (Expr-F.Not place operand))

pub con-And : (scope : Scope) (names : Names) (first : Expr) (others : List (Place × Expr)) → typed_con scope names (And first others) ≡ con.And (typed_con scope names first ∷ map (λ (x : Place × Expr). typed_con scope names x.1) others)
unfolding typed_const typed_index typed_term typed_cond typed_con
con-And scope names first others = at_con scope names (And first others) _ (ap (typing_of scope) (sym (rolls-And first others)) ∙ at_expr scope (Expr-F.And first others)) ∙ ap (λ (cs : List Con). con.And (typed_con scope names first ∷ cs)) (made_cons scope names others)

pub con-Or : (scope : Scope) (names : Names) (first : Expr) (others : List (Place × Bool × Expr)) → typed_con scope names (Or first others) ≡ nothing_asked
unfolding typed_const typed_index typed_term typed_cond typed_con
con-Or scope names first others = at_con scope names (Or first others) _ (ap (typing_of scope) (sym (rolls-Or first others)) ∙ at_expr scope (Expr-F.Or first others))

pub con-Forall : (scope : Scope) (names : Names) (place : Place) (index : Index) (with_do : Bool) (inside : Expr) → typed_con scope names (Forall place index with_do inside) ≡ con.Forall place (typed_index scope names index) (typed_con scope (names_inside scope names index) inside)
unfolding typed_const typed_index typed_term typed_cond typed_con
con-Forall scope names place index with_do inside = at_con scope names (Forall place index with_do inside) _ (ap (typing_of scope) (sym (rolls-Forall place index with_do inside)) ∙ at_expr scope (Expr-F.Forall place index with_do inside)) ∙ ap (λ (inner : Names). con.Forall place (typed_index scope names index) (typed_con scope inner inside)) (names_kept_inside scope names index)
