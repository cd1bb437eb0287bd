-- Each form of an expression in which nothing is marked as the condition of a `vif` is the condition that is made of it, where it has variables.
use Rattle.std.proofs.Common.{◌≡◌, Bool, true, false, not, ◌||◌, ◌&&◌, List, [], ◌∷◌, ◌++◌, map, Option, Some, option_map, is_some, is_none, refl, sym, ap, subst, ◌∙◌}
use Rattle.std.proofs.lemmas.Bool.{false≢true}
use Rattle.std.specs.List.{list_any, list_all}
use Rattle.zim_fault.specs.declared.faults.Place.{Place}
use Rattle.zim_fault.specs.declared.kinds.Kind.TheVariants.{ArgCount, VariableHere}
use Rattle.zim_fault.specs.declared.tokens.Token.{Token}
use Rattle.zim_fault.specs.declared.tokens.Relation.{Relation}
use Rattle.zim_fault.specs.declared.tokens.Join.{Join}
use Rattle.zim_fault.specs.declared.tokens.Join.TheVariants as join
use Rattle.zim_fault.specs.declared.words.Word.{Word}
use Rattle.zim_fault.specs.declared.words.Word.TheVariants.{WIndexset, WVabs, WSum, WProd}
use Rattle.zim_tree.specs.declared.expr.Expr.{Expr}
use Rattle.zim_tree.specs.declared.expr.Expr.TheVariants.{Func, Paren, If, Signed, Big, Times, Plus, Compare, Not, And, Or}
use Rattle.zim_tree.specs.declared.expr.Index.{Index}
use Rattle.zim_typed.specs.declared.constraint.Cond.{Cond}
use Rattle.zim_typed.specs.declared.constraint.Cond.TheVariants as cond
use Rattle.zim_typed.specs.Scope.{Names, Scope}
use Rattle.zim_typed.specs.Variables.{has_variables}
use Rattle.zim_typed.specs.Terms.{IsCond, AreAnded, AreOred, cond_known, cond_parentheses, cond_comparison, cond_not, cond_and, cond_or, no_anded, one_anded, no_ored, one_ored, or_join}
use Rattle.zim_typed.proofs.VariableLaws.{has-Paren, has-Compare, has-Not, has-And, has-Or}
use Rattle.zim_static.specs.declared.role.Role.TheVariants as role
use Rattle.zim_static.specs.Roles.{operand, role_behind_sign}
use Rattle.zim_static.specs.Faults.{part_of, parts_of, known_operands, fault_if, no_constraint, argument_faults, has_arguments, is_by_signs, is_by_stars, factors_faults, operands_faults}
use Rattle.zim_static.specs.StatementFaults.{faults_in}
use Rattle.zim_static.proofs.FirstLaws.{opens-Func, opens-Paren, opens-If, opens-Signed, opens-Big, opens-Times, opens-Plus, opens-Compare, opens-Not, opens-And, opens-Or}
use Rattle.zim_static.proofs.AroundLaws.{both}
use Rattle.zim_typing.specs.Typing.{condition_or_constant, compared_if, chain_if, typed_const, some_term, typed_cond, some_cond}
use Rattle.zim_typing.specs.Numbers.{numbers_kept}
use Rattle.zim_typing.specs.Law.{BindNoVariable}
use Rattle.zim_typing.proofs.NumberLaws.{keeps-Paren, keeps-Compare, keeps-Not, keeps-And, keeps-Or}
use Rattle.zim_typing.proofs.TermLaws.{cond-Paren, cond-Compare, cond-Not, cond-And, cond-Or}
use Rattle.zim_typing.proofs.NamesLemmas.{Same}
use Rattle.zim_typing.proofs.FitLemmas.{none_left, none_right, not_marked, value_sign, value_operand}
use Rattle.zim_typing.proofs.FunctionLemmas.{Kind, set_function, absolute as absolute_kind, value_function}
use Rattle.zim_typing.proofs.GoesLemmas.{Goes, AllGo, Quiet, quiet_operands, quiet_conjuncts}
use Rattle.zim_typing.proofs.StillLemmas.{Still, AllStill}
use Rattle.zim_typing.proofs.MeasuredLemmas.{GoesTerm, fits}

-- ---- conditions

-- an expression with variables is the condition that is made of it, where nothing is marked in it as a condition
abbrev pub GoesCondition : Scope → Expr → Type 0
GoesCondition scope e =
    (names others : Names) → Same names others → BindNoVariable scope names → numbers_kept e ≡ true → faults_in scope role.Condition names e ≡ [] → has_variables scope e ≡ true →
    (c : Cond) × (typed_cond scope names e ≡ Some c) × IsCond scope others e c

-- with variables or without, it is the condition that is made of it, which has variables where the expression has
abbrev pub FitsCondition : Scope → Names → Names → Expr → Type 0
FitsCondition scope names others e = IsCond scope others e (some_cond scope names e) × (is_some (typed_cond scope names e) ≡ has_variables scope e)

pub fits_condition : (scope : Scope) (e : Expr) → Goes scope e → Still scope e → GoesCondition scope e → (names others : Names) → Same names others → BindNoVariable scope names → numbers_kept e ≡ true → faults_in scope role.Condition names e ≡ [] →
    FitsCondition scope names others e
fits_condition scope e go still decided names others same bind numbers quiet = at_has (has_variables scope e) refl
  where
    at_has : (has : Bool) → has_variables scope e ≡ has → FitsCondition scope names others e
    at_has true is =
        let made = decided names others same bind numbers quiet is in
        (subst (λ (o : Option Cond). IsCond scope others e (condition_or_constant o (typed_const scope names e))) (sym made.1) made.2, ap is_some made.1 ∙ sym is)
    at_has false is =
        let none = (still names is).1 in
        let fixed = go role.Condition names others same numbers quiet is in
        (subst (λ (o : Option Cond). IsCond scope others e (condition_or_constant o (typed_const scope names e))) (sym none) (cond_known is fixed.0), ap is_some none ∙ sym is)

-- an expression in which nothing is marked as a value, where nothing is as a condition, has no variables
pub never_condition : (scope : Scope) (e : Expr) → ((names : Names) → faults_in scope role.Condition names e ≡ [] → faults_in scope role.Value names e ≡ []) → Goes scope e → GoesCondition scope e
never_condition scope e as_value go names others same bind numbers quiet varies = absurd (false≢true (sym (go role.Value names others same numbers (as_value names quiet) tt).1 ∙ varies))

-- ---- lists

-- each is a condition
abbrev pub AllDecided : Scope → List Expr → Type 0
AllDecided scope [] = Unit {0}
AllDecided scope (e ∷ es) = GoesCondition scope e × AllDecided scope es

-- each fits
abbrev pub AllFitConditions : Scope → Names → Names → List Expr → Type 0
AllFitConditions scope names others [] = Unit {0}
AllFitConditions scope names others (e ∷ es) = FitsCondition scope names others e × AllFitConditions scope names others es

all_fit_conditions : (scope : Scope) (items : List Expr) → AllGo scope items → AllStill scope items → AllDecided scope items → (names others : Names) → Same names others → BindNoVariable scope names →
    list_all numbers_kept items ≡ true → Quiet scope role.Condition names items → AllFitConditions scope names others items
all_fit_conditions scope [] go still decided names others same bind numbers quiet = tt
all_fit_conditions scope (item ∷ items) go still decided names others same bind numbers quiet =
    let kept = both (numbers_kept item) (list_all numbers_kept items) numbers in
    (fits_condition scope item go.0 still.0 decided.0 names others same bind kept.0 quiet.0, all_fit_conditions scope items go.1 still.1 decided.1 names others same bind kept.1 quiet.1)

anded_from : (scope : Scope) (names others : Names) (more : List (Place × Expr)) → AllFitConditions scope names others (map (λ (x : Place × Expr). x.1) more) →
    AreAnded scope others more (map {B = Place × Join × Cond} (λ (x : Place × Expr). (x.0, join.And, some_cond scope names x.1)) more)
anded_from scope names others [] fit = no_anded
anded_from scope names others ((p, e) ∷ more) fit = one_anded p fit.0.0 (anded_from scope names others more fit.1)

ored_from : (scope : Scope) (names others : Names) (more : List (Place × Bool × Expr)) → AllFitConditions scope names others (map (λ (x : Place × Bool × Expr). x.2) more) →
    AreOred scope others more (map {B = Place × Join × Cond} (λ (x : Place × Bool × Expr). (x.0, or_join x.1, some_cond scope names x.2)) more)
ored_from scope names others [] fit = no_ored
ored_from scope names others ((p, xor, e) ∷ more) fit = one_ored p xor fit.0.0 (ored_from scope names others more fit.1)

any_anded : (scope : Scope) (names others : Names) (more : List (Place × Expr)) → AllFitConditions scope names others (map (λ (x : Place × Expr). x.1) more) →
    list_any (λ (x : Place × Expr). is_some (typed_cond scope names x.1)) more ≡ list_any (λ (x : Place × Expr). has_variables scope x.1) more
any_anded scope names others [] fit = refl
any_anded scope names others (other ∷ more) fit = λ i. fit.0.1 i || any_anded scope names others more fit.1 i

any_ored : (scope : Scope) (names others : Names) (more : List (Place × Bool × Expr)) → AllFitConditions scope names others (map (λ (x : Place × Bool × Expr). x.2) more) →
    list_any (λ (x : Place × Bool × Expr). is_some (typed_cond scope names x.2)) more ≡ list_any (λ (x : Place × Bool × Expr). has_variables scope x.2) more
any_ored scope names others [] fit = refl
any_ored scope names others (other ∷ more) fit = λ i. fit.0.1 i || any_ored scope names others more fit.1 i

-- ---- what is a condition

pub decided-Paren : (scope : Scope) (p : Place) (inner : Expr) → GoesCondition scope inner → GoesCondition scope (Paren p inner)
decided-Paren scope p inner go names others same bind numbers quiet varies =
    let has = sym (has-Paren scope p inner) ∙ varies in
    let made = go names others same bind (sym (keeps-Paren p inner) ∙ numbers) (sym (opens-Paren scope role.Condition names p inner) ∙ quiet) has in
    (made.0, cond-Paren scope names p inner ∙ made.1, cond_parentheses p has made.2)

pub decided-Compare : (scope : Scope) (p : Place) (relation : Relation) (left right : Expr) → Goes scope left → Still scope left → GoesTerm scope left → Goes scope right → Still scope right → GoesTerm scope right →
    GoesCondition scope (Compare left ((p, relation, right) ∷ []))
decided-Compare scope p relation left right l l_still l_measured r r_still r_measured names others same bind numbers quiet varies =
    let quiet_here = sym (opens-Compare scope role.Condition names left ((p, relation, right) ∷ [])) ∙ quiet in
    let kept = both _ _ (sym (keeps-Compare left ((p, relation, right) ∷ [])) ∙ numbers) in
    let one = faults_in scope role.Term names left in
    let first = fits scope left l l_still l_measured names others same bind kept.0 (none_left one [] (none_left (one ++ []) (faults_in scope role.Term names right) quiet_here)) in
    let second = fits scope right r r_still r_measured names others same bind (both _ _ kept.1).0 (none_right (one ++ []) (faults_in scope role.Term names right) quiet_here) in
    let has : (has_variables scope left || has_variables scope right) ≡ true = or_false _ _ (sym (has-Compare scope left ((p, relation, right) ∷ [])) ∙ varies) in (
      cond.Compare p relation (some_term scope names left) (some_term scope names right),
      cond-Compare scope names left ((p, relation, right) ∷ []) ∙ ap (λ (b : Bool). compared_if b p relation (some_term scope names left) (some_term scope names right)) ((λ i. first.1 i || second.1 i) ∙ has),
      cond_comparison p relation varies first.0 second.0,
    )
  where
    or_false : (a b : Bool) → (a || (b || false)) ≡ true → (a || b) ≡ true
    or_false true b h = refl
    or_false false true h = refl
    or_false false false h = h

pub decided-Not : (scope : Scope) (p : Place) (inner : Expr) → GoesCondition scope inner → GoesCondition scope (Not p inner)
decided-Not scope p inner go names others same bind numbers quiet varies =
    let has = sym (has-Not scope p inner) ∙ varies in
    let made = go names others same bind (sym (keeps-Not p inner) ∙ numbers) (sym (opens-Not scope role.Condition names p inner) ∙ quiet) has in
    (cond.Not p made.0, cond-Not scope names p inner ∙ (λ i. option_map (λ (c : Cond). cond.Not p c) (made.1 i)), cond_not p has made.2)

pub decided-And : (scope : Scope) (first : Expr) (more : List (Place × Expr)) → Goes scope first → Still scope first → GoesCondition scope first → AllGo scope (map (λ (x : Place × Expr). x.1) more) →
    AllStill scope (map (λ (x : Place × Expr). x.1) more) → AllDecided scope (map (λ (x : Place × Expr). x.1) more) → GoesCondition scope (And first more)
decided-And scope first more go still decided all all_still all_decided names others same bind numbers quiet varies =
    let quiet_here = sym (opens-And scope role.Condition names first more) ∙ quiet in
    let kept = both _ _ (sym (keeps-And first more) ∙ numbers) in
    let fit = fits_condition scope first go still decided names others same bind kept.0 (none_left _ _ quiet_here) in
    let rest = all_fit_conditions scope (map (λ (x : Place × Expr). x.1) more) all all_still all_decided names others same bind kept.1 (quiet_conjuncts scope role.Condition names more (none_right _ _ quiet_here)) in
    let cs = map {B = Place × Join × Cond} (λ (x : Place × Expr). (x.0, join.And, some_cond scope names x.1)) more in (
      cond.Chain (some_cond scope names first) cs,
      cond-And scope names first more ∙ ap (λ (b : Bool). chain_if b (some_cond scope names first) cs) ((λ i. fit.1 i || any_anded scope names others more rest i) ∙ sym (has-And scope first more) ∙ varies),
      cond_and varies fit.0 (anded_from scope names others more rest),
    )

pub decided-Or : (scope : Scope) (first : Expr) (more : List (Place × Bool × Expr)) → Goes scope first → Still scope first → GoesCondition scope first → AllGo scope (map (λ (x : Place × Bool × Expr). x.2) more) →
    AllStill scope (map (λ (x : Place × Bool × Expr). x.2) more) → AllDecided scope (map (λ (x : Place × Bool × Expr). x.2) more) → GoesCondition scope (Or first more)
decided-Or scope first more go still decided all all_still all_decided names others same bind numbers quiet varies =
    let quiet_here = sym (opens-Or scope role.Condition names first more) ∙ quiet in
    let kept = both _ _ (sym (keeps-Or first more) ∙ numbers) in
    let fit = fits_condition scope first go still decided names others same bind kept.0 (none_left _ _ quiet_here) in
    let rest = all_fit_conditions scope (map (λ (x : Place × Bool × Expr). x.2) more) all all_still all_decided names others same bind kept.1 (quiet_operands scope role.Condition role.Condition names more (none_right _ _ quiet_here)) in
    let cs = map {B = Place × Join × Cond} (λ (x : Place × Bool × Expr). (x.0, or_join x.1, some_cond scope names x.2)) more in (
      cond.Chain (some_cond scope names first) cs,
      cond-Or scope names first more ∙ ap (λ (b : Bool). chain_if b (some_cond scope names first) cs) ((λ i. fit.1 i || any_ored scope names others more rest i) ∙ sym (has-Or scope first more) ∙ varies),
      cond_or varies fit.0 (ored_from scope names others more rest),
    )

-- ---- what is none

pub decided-Func : (scope : Scope) (p : Place) (word : Word) (given : List Expr) → Kind word → Goes scope (Func p word given) → GoesCondition scope (Func p word given)
decided-Func scope p _ given set_function go =
    never_condition scope (Func p WIndexset given) (λ names quiet. opens-Func scope role.Value names p WIndexset given ∙ sym (opens-Func scope role.Condition names p WIndexset given) ∙ quiet) go
decided-Func scope p _ given absolute_kind go =
    never_condition scope (Func p WVabs given) (λ names quiet. opens-Func scope role.Value names p WVabs given ∙ sym (opens-Func scope role.Condition names p WVabs given) ∙ quiet) go
decided-Func scope p word given (value_function value none counts roles sets) go =
    never_condition scope (Func p word given)
    (λ names quiet.
    let parts = parts_of scope given in
    let mark = fault_if (not (has_arguments scope word parts)) ArgCount p in
    opens-Func scope role.Value names p word given
    ∙ (λ i. (mark ++ fault_if (none i && true) VariableHere p ++ no_constraint role.Value p) ++ argument_faults names parts (roles scope role.Value parts i))
    ∙ sym (λ i. (mark ++ fault_if (none i && true) VariableHere p ++ no_constraint role.Condition p) ++ argument_faults names parts (roles scope role.Condition parts i))
    ∙ sym (opens-Func scope role.Condition names p word given) ∙ quiet) go

-- a `vif`, or an `if` without `else`
pub decided_no_value : (scope : Scope) (p : Place) (vif : Bool) (test branch : Expr) (otherwise : Option Expr) → (vif || is_none otherwise) ≡ true → GoesCondition scope (If p vif test branch otherwise)
decided_no_value scope p vif test branch otherwise is names others same bind numbers quiet varies =
    let marked = not_marked _ _ p (none_left _ _ (none_left _ _ (none_left _ _ (sym (opens-If scope role.Condition names p vif test branch otherwise) ∙ quiet)))) in absurd (false≢true (sym marked ∙ (λ i. is i && true)))

condition_sign : (infinite : Bool) → role_behind_sign infinite role.Condition ≡ role.Value
condition_sign true = refl
condition_sign false = refl

pub decided-Signed : (scope : Scope) (p : Place) (minus : Bool) (inner : Expr) → Goes scope (Signed p minus inner) → GoesCondition scope (Signed p minus inner)
decided-Signed scope p minus inner =
    never_condition scope (Signed p minus inner)
    (λ names quiet.
    opens-Signed scope role.Value names p minus inner ∙ (λ i. faults_in scope (value_sign (part_of scope inner).infinite i) names inner)
    ∙ sym (λ i. faults_in scope (condition_sign (part_of scope inner).infinite i) names inner) ∙ sym (opens-Signed scope role.Condition names p minus inner) ∙ quiet)

pub decided-Big : (scope : Scope) (p : Place) (word : Word) (index : Index) (with_do : Bool) (inner : Expr) → Goes scope (Big p word index with_do inner) → GoesCondition scope (Big p word index with_do inner)
decided-Big scope p WSum index with_do inner go =
    never_condition scope (Big p WSum index with_do inner) (λ names quiet. opens-Big scope role.Value names p WSum index with_do inner ∙ sym (opens-Big scope role.Condition names p WSum index with_do inner) ∙ quiet) go
decided-Big scope p WProd index with_do inner go =
    never_condition scope (Big p WProd index with_do inner) (λ names quiet. opens-Big scope role.Value names p WProd index with_do inner ∙ sym (opens-Big scope role.Condition names p WProd index with_do inner) ∙ quiet) go
decided-Big scope p word index with_do inner go =
    never_condition scope (Big p word index with_do inner) (λ names quiet. opens-Big scope role.Value names p word index with_do inner ∙ sym (opens-Big scope role.Condition names p word index with_do inner) ∙ quiet) go

condition_operand : (b : Bool) → operand b role.Condition ≡ role.Value
condition_operand true = refl
condition_operand false = refl

pub decided-Plus : (scope : Scope) (first : Expr) (other : Place × Token × Expr) (more : List (Place × Token × Expr)) → Goes scope (Plus first (other ∷ more)) → GoesCondition scope (Plus first (other ∷ more))
unfolding operands_faults
decided-Plus scope first other more =
    never_condition scope (Plus first (other ∷ more))
    (λ names quiet.
    let all = known_operands scope (other ∷ more) in
    let b = is_by_signs (other ∷ more) in
    opens-Plus scope role.Value names first (other ∷ more) ∙ (λ i. faults_in scope (value_operand b i) names first ++ operands_faults role.Value (value_operand b i) names all)
    ∙ sym (λ i. faults_in scope (condition_operand b i) names first ++ operands_faults role.Condition (condition_operand b i) names all) ∙ sym (opens-Plus scope role.Condition names first (other ∷ more)) ∙ quiet)

pub decided-Times : (scope : Scope) (first : Expr) (other : Place × Token × Expr) (more : List (Place × Token × Expr)) → Goes scope (Times first (other ∷ more)) → GoesCondition scope (Times first (other ∷ more))
unfolding factors_faults
decided-Times scope first other more =
    never_condition scope (Times first (other ∷ more))
    (λ names quiet.
    let all = known_operands scope (other ∷ more) in
    let varies = (part_of scope first).varies in
    let b = is_by_stars varies all in
    opens-Times scope role.Value names first (other ∷ more) ∙ (λ i. faults_in scope (value_operand b i) names first ++ factors_faults b varies role.Value (value_operand b i) names all)
    ∙ sym (λ i. faults_in scope (condition_operand b i) names first ++ factors_faults b varies role.Condition (condition_operand b i) names all) ∙ sym (opens-Times scope role.Condition names first (other ∷ more)) ∙ quiet)
