-- Each form of an expression in which nothing is marked as a term is the term that is made of it, where it has variables.
use Rattle.std.proofs.Common.{ℕ, suc, ◌==◌, arith, ◌≡◌, Bool, true, false, not, ◌||◌, ◌&&◌, List, [], ◌∷◌, ◌++◌, map, length, Option, Some, None, is_none, if◌then◌else◌, refl, sym, ap, subst, ◌∙◌}
use Rattle.std.proofs.lemmas.Bool.{false≢true}
use Rattle.std.proofs.lemmas.Bool.Decides.{nat_tests}
use Rattle.std.specs.List.{list_any, list_all}
use Rattle.zim_fault.specs.declared.faults.Place.{Place}
use Rattle.zim_fault.specs.declared.kinds.Kind.TheVariants.{ArgCount, VariableHere}
use Rattle.zim_fault.specs.declared.tokens.Token.{Token}
use Rattle.zim_fault.specs.declared.signs.Sign.{Sign}
use Rattle.zim_fault.specs.declared.words.Word.{Word}
use Rattle.zim_fault.specs.declared.words.Word.TheVariants.{WIndexset, WVabs, WSum, WProd}
use Rattle.zim_tree.specs.declared.expr.Expr.{Expr}
use Rattle.zim_tree.specs.declared.expr.Expr.TheVariants.{Name, Item, Call, Func, Paren, If, Power, Signed, Big, Times, Plus, Or}
use Rattle.zim_tree.specs.declared.expr.Index.{Index}
use Rattle.zim_typed.specs.declared.scope.Declared.{Declared}
use Rattle.zim_typed.specs.declared.scope.Declared.TheVariants.{Set, Parameter, Variable, Function, Constraint, Objective}
use Rattle.zim_typed.specs.declared.constant.Resolved.TheVariants as resolved
use Rattle.zim_typed.specs.declared.constraint.Term.{Term}
use Rattle.zim_typed.specs.declared.constraint.Term.TheVariants as term
use Rattle.zim_typed.specs.Scope.{Text, Names, Scope, Stands, Varies, Misused, is_local, kind_of_name, bare_declared, indexed_declared, called_declared}
use Rattle.zim_typed.specs.Variables.{has_variables, names_variable, is_variable, index_has_variables}
use Rattle.zim_typed.specs.Constants.{no_operand}
use Rattle.zim_typed.specs.Terms.{IsTerm, term_variable, term_variable_at, term_parentheses, term_plus, term_minus, term_sum, term_product, term_sum_over, term_if, term_absolute}
use Rattle.zim_typed.proofs.VariableLaws.{has-Name, has-Item, has-Call, has-Paren, has-If, has-Power, has-Signed, has-Big, has-Times, has-Plus}
use Rattle.zim_static.specs.declared.role.Role.{Role}
use Rattle.zim_static.specs.declared.role.Role.TheVariants as role
use Rattle.zim_static.specs.Roles.{operand, role_behind_sign}
use Rattle.zim_static.specs.Faults.{part_of, parts_of, known_operands, fault_of_kind, wrong_use, fault_if, no_constraint, argument_faults, has_arguments, is_by_signs, is_by_stars, factors_faults, operands_faults}
use Rattle.zim_static.specs.StatementFaults.{faults_in}
use Rattle.zim_static.proofs.FirstLaws.{opens-Name, opens-Item, opens-Call, opens-Func, opens-Paren, opens-If, opens-Power, opens-Signed, opens-Big, opens-Times, opens-Plus, opens-Or}
use Rattle.zim_static.proofs.PartLaws.{part_varies_as_tree, index_varies_as_tree, index_names_known}
use Rattle.zim_static.proofs.AroundLaws.{both}
use Rattle.zim_typing.specs.Typing.{is_minus, column_if, signed_term, summation, picked_term, sum_if, product_or, names_inside, typed_const, typed_consts, typed_index, typed_term, some_term, typed_factors, typed_product_behind}
use Rattle.zim_typing.specs.Numbers.{numbers_kept}
use Rattle.zim_typing.proofs.NumberLaws.{keeps-Item, keeps-Call, keeps-Func, keeps-Paren, keeps-If, keeps-Signed, keeps-Big, keeps-Times, keeps-Plus}
use Rattle.zim_typing.proofs.TermLaws.{term-Name, term-Item, term-Func, term-Paren, term-If, term-Signed, term-Big, term-Times, term-Plus}
use Rattle.zim_typing.proofs.NamesLemmas.{Same, same_bare, same_indexed}
use Rattle.zim_typing.proofs.FitLemmas.{none_left, none_right, four_parts, not_marked, neither}
use Rattle.zim_typing.proofs.FunctionLemmas.{Kind, set_function, absolute as absolute_kind, value_function}
use Rattle.zim_typing.proofs.GoesLemmas.{Goes, AllGo, all_fixed, none_vary, Quiet, quiet_items, quiet_operands, quiet_factors, consts_from, any_behind, GoesIndex}
use Rattle.zim_typing.proofs.StillLemmas.{Still, AllStill}
use Rattle.zim_typing.proofs.MeasuredLemmas.{left_holds, right_holds, inside_binds, GoesTerm, fits, never, AllMeasured, all_fit, terms_from, any_measured, Linear, linear, factors_from, multiple_from}

-- ---- names

-- a variable that nothing is marked at stands for itself
variable_bare : (local : Bool) (d : Option Declared) (place : Place) → (local ≡ true → is_variable d ≡ false) → is_variable d ≡ true → fault_of_kind (wrong_use (if local then Stands resolved.Local else bare_declared d)) place ≡ [] →
    (if local then Stands resolved.Local else bare_declared d) ≡ Varies
variable_bare true d place bind h quiet = absurd (false≢true (sym (bind refl) ∙ h))
variable_bare false (Some (Variable false)) place bind h quiet = refl
variable_bare false (Some (Variable true)) place bind h quiet = cc
variable_bare false None place bind h quiet = absurd (false≢true h)
variable_bare false (Some (Set b)) place bind h quiet = absurd (false≢true h)
variable_bare false (Some (Parameter b)) place bind h quiet = absurd (false≢true h)
variable_bare false (Some (Function n m)) place bind h quiet = absurd (false≢true h)
variable_bare false (Some Constraint) place bind h quiet = absurd (false≢true h)
variable_bare false (Some Objective) place bind h quiet = absurd (false≢true h)

variable_indexed : (local : Bool) (d : Option Declared) (place : Place) → is_variable d ≡ true → fault_of_kind (wrong_use (if local then Misused else indexed_declared d)) place ≡ [] → (if local then Misused else indexed_declared d) ≡ Varies
variable_indexed true d place h quiet = cc
variable_indexed false (Some (Variable false)) place h quiet = cc
variable_indexed false (Some (Variable true)) place h quiet = refl
variable_indexed false None place h quiet = absurd (false≢true h)
variable_indexed false (Some (Set b)) place h quiet = absurd (false≢true h)
variable_indexed false (Some (Parameter b)) place h quiet = absurd (false≢true h)
variable_indexed false (Some (Function n m)) place h quiet = absurd (false≢true h)
variable_indexed false (Some Constraint) place h quiet = absurd (false≢true h)
variable_indexed false (Some Objective) place h quiet = absurd (false≢true h)

-- a variable isn't called
variable_called : (count : ℕ) (local : Bool) (d : Option Declared) (place : Place) → fault_of_kind (wrong_use (if local then Misused else called_declared count d)) place ≡ [] → is_variable d ≡ false
variable_called count true d place quiet = cc
variable_called count false (Some (Variable b)) place quiet = cc
variable_called count false None place quiet = refl
variable_called count false (Some (Set b)) place quiet = refl
variable_called count false (Some (Parameter b)) place quiet = refl
variable_called count false (Some (Function n m)) place quiet = refl
variable_called count false (Some Constraint) place quiet = refl
variable_called count false (Some Objective) place quiet = refl

pub measured-Name : (scope : Scope) (p : Place) (name : Text) → GoesTerm scope (Name p name)
measured-Name scope p name names others same bind numbers quiet varies =
    let quiet_here = sym (opens-Name scope role.Term names p name) ∙ quiet in
    let is = sym (has-Name scope p name) ∙ varies in (
      term.Column p name [],
      term-Name scope names p name ∙ ap (λ (b : Bool). column_if b p name []) is,
      term_variable p name (sym (same_bare scope names others same name) ∙ variable_bare (is_local names name) (kind_of_name scope name) p (bind name) is (none_left _ _ (none_left _ _ quiet_here))),
    )

pub measured-Item : (scope : Scope) (p : Place) (name : Text) (first : Expr) (more : List Expr) → AllGo scope (first ∷ more) → GoesTerm scope (Item p name (first ∷ more))
measured-Item scope p name first more go names others same bind numbers quiet varies =
    let index : List Expr = first ∷ more in
    let quiet_here = sym (opens-Item scope role.Term names p name index) ∙ quiet in
    let inner = all_fixed scope index go role.Value names others same (sym (keeps-Item p name index) ∙ numbers) (quiet_items scope role.Value names index (none_right _ _ quiet_here)) tt in
    let is = left_holds (names_variable scope name) (list_any (has_variables scope) index) (sym (has-Item scope p name index) ∙ varies) (none_vary scope names others index inner) in (
      term.Column p name (typed_consts scope names index),
      term-Item scope names p name index ∙ ap (λ (b : Bool). column_if b p name (typed_consts scope names index)) is,
      term_variable_at p name (sym (same_indexed scope names others same name) ∙ variable_indexed (is_local names name) (kind_of_name scope name) p is (none_left _ _ (none_left _ _ (none_left _ _ quiet_here)))) (consts_from scope names others index inner),
    )

pub measured-Call : (scope : Scope) (p : Place) (name : Text) (given : List Expr) → AllGo scope given → GoesTerm scope (Call p name given)
measured-Call scope p name given go names others same bind numbers quiet varies =
    let quiet_here = sym (opens-Call scope role.Term names p name given) ∙ quiet in
    let inner = all_fixed scope given go role.Value names others same (sym (keeps-Call p name given) ∙ numbers) (quiet_items scope role.Value names given (none_right _ _ quiet_here)) tt in
    let none = variable_called (length given) (is_local names name) (kind_of_name scope name) p (none_left _ _ (none_left _ _ (none_left _ _ quiet_here))) in
    absurd (false≢true (sym (neither (names_variable scope name) (list_any (has_variables scope) given) none (none_vary scope names others given inner)) ∙ sym (has-Call scope p name given) ∙ varies))

-- ---- functions that are words

two_not_one : (n : ℕ) → (suc (suc n) == 1) ≡ false
two_not_one n = grind (arith, nat_tests)

measured_absolute : (scope : Scope) (p : Place) (given : List Expr) → AllGo scope given → AllStill scope given → AllMeasured scope given → GoesTerm scope (Func p WVabs given)
measured_absolute scope p given go still measured names others same bind numbers quiet varies =
    let quiet_here = sym (opens-Func scope role.Term names p WVabs given) ∙ quiet in
    let marked = not_marked _ _ p (none_left _ _ (none_left _ _ (none_left _ _ quiet_here))) in
    at_given given go still measured (sym (keeps-Func p WVabs given) ∙ numbers) marked (quiet_items scope role.Term names given (none_right _ _ quiet_here))
  where
    at_given : (given : List Expr) → AllGo scope given → AllStill scope given → AllMeasured scope given → list_all numbers_kept given ≡ true → not (has_arguments scope WVabs (parts_of scope given)) ≡ false → Quiet scope role.Term names given →
        (t : Term) × (typed_term scope names (Func p WVabs given) ≡ Some t) × IsTerm scope others (Func p WVabs given) t
    at_given [] go still measured kept marked quiet = absurd (false≢true (sym marked))
    at_given (e ∷ []) go still measured kept marked quiet =
        let fit = fits scope e go.0 still.0 measured.0 names others same bind (both (numbers_kept e) true kept).0 quiet.0 in
        (term.Abs p (some_term scope names e), term-Func scope names p WVabs (e ∷ []), term_absolute p fit.0)
    at_given (e ∷ other ∷ more) go still measured kept marked quiet = absurd (false≢true (sym marked ∙ ap not (two_not_one (length (parts_of scope more)))))

pub measured-Func : (scope : Scope) (p : Place) (word : Word) (given : List Expr) → Kind word → Goes scope (Func p word given) → AllGo scope given → AllStill scope given → AllMeasured scope given → GoesTerm scope (Func p word given)
measured-Func scope p _ given set_function go all still measured =
    never scope (Func p WIndexset given) (λ names quiet. opens-Func scope role.Value names p WIndexset given ∙ sym (opens-Func scope role.Term names p WIndexset given) ∙ quiet) go
measured-Func scope p _ given absolute_kind go all still measured = measured_absolute scope p given all still measured
measured-Func scope p word given (value_function value none counts roles sets) go all still measured =
    never scope (Func p word given)
    (λ names quiet.
    let parts = parts_of scope given in
    let mark = fault_if (not (has_arguments scope word parts)) ArgCount p in
    opens-Func scope role.Value names p word given
    ∙ (λ i. (mark ++ fault_if (none i && not (false)) VariableHere p ++ no_constraint role.Value p) ++ argument_faults names parts (roles scope role.Value parts i))
    ∙ sym (λ i. (mark ++ fault_if (none i && not (true)) VariableHere p ++ no_constraint role.Term p) ++ argument_faults names parts (roles scope role.Term parts i))
    ∙ sym (opens-Func scope role.Term names p word given) ∙ quiet) go

-- ---- parentheses and signs

pub measured-Paren : (scope : Scope) (p : Place) (inner : Expr) → GoesTerm scope inner → GoesTerm scope (Paren p inner)
measured-Paren scope p inner go names others same bind numbers quiet varies =
    let has = sym (has-Paren scope p inner) ∙ varies in
    let made = go names others same bind (sym (keeps-Paren p inner) ∙ numbers) (sym (opens-Paren scope role.Term names p inner) ∙ quiet) has in
    (made.0, term-Paren scope names p inner ∙ made.1, term_parentheses p has made.2)

behind_sign : (infinite : Bool) → role_behind_sign infinite role.Term ≡ role.Term
behind_sign true = refl
behind_sign false = refl

pub measured-Signed : (scope : Scope) (p : Place) (minus : Bool) (inner : Expr) → GoesTerm scope inner → GoesTerm scope (Signed p minus inner)
measured-Signed scope p minus inner go names others same bind numbers quiet varies =
    let has = sym (has-Signed scope p minus inner) ∙ varies in
    let quiet_here = none_right (no_constraint role.Term p) _ (sym (opens-Signed scope role.Term names p minus inner) ∙ quiet) in
    by_sign minus has (go names others same bind (sym (keeps-Signed p minus inner) ∙ numbers) (subst (λ (r : Role). faults_in scope r names inner ≡ []) (behind_sign (part_of scope inner).infinite) quiet_here) has)
  where
    by_sign : (minus : Bool) → has_variables scope inner ≡ true → (t : Term) × (typed_term scope names inner ≡ Some t) × IsTerm scope others inner t →
        (t : Term) × (typed_term scope names (Signed p minus inner) ≡ Some t) × IsTerm scope others (Signed p minus inner) t
    by_sign true has made = (term.Minus p made.0, term-Signed scope names p true inner ∙ (λ i. signed_term p true (made.1 i)), term_minus p has made.2)
    by_sign false has made = (made.0, term-Signed scope names p false inner ∙ made.1, term_plus p has made.2)

-- ---- choices

pub measured-If : (scope : Scope) (p : Place) (test branch otherwise : Expr) → Goes scope test → Goes scope branch → Still scope branch → GoesTerm scope branch → Goes scope otherwise → Still scope otherwise → GoesTerm scope otherwise →
    GoesTerm scope (If p false test branch (Some otherwise))
measured-If scope p test branch otherwise t b b_still b_measured e e_still e_measured names others same bind numbers quiet varies =
    let quiet_here = sym (opens-If scope role.Term names p false test branch (Some otherwise)) ∙ quiet in
    let parts = four_parts [] (faults_in scope role.Value names test) (faults_in scope role.Term names branch) (faults_in scope role.Term names otherwise) quiet_here in
    let kept = both _ _ (sym (keeps-If p false test branch (Some otherwise)) ∙ numbers) in
    let kept_both = both _ _ kept.1 in
    let first = t role.Value names others same kept.0 parts.0 tt in
    let second = fits scope branch b b_still b_measured names others same bind kept_both.0 parts.1 in
    let third = fits scope otherwise e e_still e_measured names others same bind kept_both.1 parts.2 in
    let one : ((false || has_variables scope branch) || has_variables scope otherwise) ≡ true =
    (λ i. (sym first.1 i || has_variables scope branch) || has_variables scope otherwise) ∙ sym (has-If scope p false test branch (Some otherwise)) ∙ varies in (
      term.If p (typed_const scope names test) (some_term scope names branch) (some_term scope names otherwise),
      term-If scope names p false test branch (Some otherwise)
          ∙ ap (λ (x : Bool). picked_term p (typed_const scope names test) x (some_term scope names branch) (some_term scope names otherwise)) ((λ i. second.1 i || third.1 i) ∙ one),
      term_if p varies first.0 second.0 third.0,
    )

-- a `vif`, or an `if` without `else`, is no term
pub measured_no_value : (scope : Scope) (p : Place) (vif : Bool) (test branch : Expr) (otherwise : Option Expr) → (vif || is_none otherwise) ≡ true → GoesTerm scope (If p vif test branch otherwise)
measured_no_value scope p vif test branch otherwise is names others same bind numbers quiet varies =
    let marked = not_marked _ _ p (none_left _ _ (none_left _ _ (none_left _ _ (sym (opens-If scope role.Term names p vif test branch otherwise) ∙ quiet)))) in absurd (false≢true (sym marked ∙ (λ i. is i && true)))

-- ---- powers and loops

pub measured-Power : (scope : Scope) (p : Place) (sign : Sign) (base : Expr) (signed : Option (Place × Bool)) (exponent : Expr) → GoesTerm scope (Power p sign base signed exponent)
measured-Power scope p sign base signed exponent names others same bind numbers quiet varies =
    let quiet_here = sym (opens-Power scope role.Term names p sign base signed exponent) ∙ quiet in
    let marked = not_marked _ _ p (none_right (faults_in scope role.Term names base) _ (none_left _ _ (none_left _ _ quiet_here))) in
    absurd (false≢true (sym marked ∙ (λ i. part_varies_as_tree scope base i || part_varies_as_tree scope exponent i) ∙ sym (has-Power scope p sign base signed exponent) ∙ varies))

measured_sum_over : (scope : Scope) (p : Place) (index : Index) (with_do : Bool) (inner : Expr) → GoesIndex scope index → GoesTerm scope inner → GoesTerm scope (Big p WSum index with_do inner)
measured_sum_over scope p index with_do inner i go names others same bind numbers quiet varies =
    let quiet_here = sym (opens-Big scope role.Term names p WSum index with_do inner) ∙ quiet in
    let kept = both _ _ (sym (keeps-Big p WSum index with_do inner) ∙ numbers) in
    let first = i names others same kept.0 (none_left _ _ quiet_here) in
    let has = right_holds (index_has_variables scope index) (has_variables scope inner) (sym (has-Big scope p WSum index with_do inner) ∙ varies) first.3 in
    let second = go (names_inside scope names index) first.0 first.2 (inside_binds scope names index bind) kept.1
    (subst (λ (inner_names : Names). faults_in scope role.Term inner_names inner ≡ []) (index_names_known scope names index) (none_right _ _ quiet_here)) has in
    (term.SumOver p (typed_index scope names index) second.0, term-Big scope names p WSum index with_do inner ∙ (λ j. summation WSum p (typed_index scope names index) (second.1 j)), term_sum_over p with_do has first.1 second.2)

measured_prod : (scope : Scope) (p : Place) (index : Index) (with_do : Bool) (inner : Expr) → GoesTerm scope (Big p WProd index with_do inner)
measured_prod scope p index with_do inner names others same bind numbers quiet varies =
    let quiet_here = sym (opens-Big scope role.Term names p WProd index with_do inner) ∙ quiet in
    let marked = not_marked _ _ p (none_left _ _ (none_left _ _ (none_left _ _ quiet_here))) in
    absurd (false≢true (sym marked ∙ (λ i. index_varies_as_tree scope index i || part_varies_as_tree scope inner i) ∙ sym (has-Big scope p WProd index with_do inner) ∙ varies))

pub measured-Big : (scope : Scope) (p : Place) (word : Word) (index : Index) (with_do : Bool) (inner : Expr) → Goes scope (Big p word index with_do inner) → GoesIndex scope index → GoesTerm scope inner → GoesTerm scope (Big p word index with_do inner)
measured-Big scope p WSum index with_do inner go i m = measured_sum_over scope p index with_do inner i m
measured-Big scope p WProd index with_do inner go i m = measured_prod scope p index with_do inner
measured-Big scope p word index with_do inner go i m =
    never scope (Big p word index with_do inner) (λ names quiet. opens-Big scope role.Value names p word index with_do inner ∙ sym (opens-Big scope role.Term names p word index with_do inner) ∙ quiet) go

-- ---- sums and products

-- a list of operands that aren't joined as a term's are has no variables
none_joined : (scope : Scope) (first : Expr) (more : List (Place × Token × Expr)) → Goes scope first → AllGo scope (map (λ (x : Place × Token × Expr). x.2) more) → (names others : Names) → Same names others → numbers_kept first ≡ true →
    list_all numbers_kept (map (λ (x : Place × Token × Expr). x.2) more) ≡ true → faults_in scope role.Value names first ≡ [] → Quiet scope role.Value names (map (λ (x : Place × Token × Expr). x.2) more) →
    (has_variables scope first || list_any (λ (x : Place × Token × Expr). has_variables scope x.2) more) ≡ false
none_joined scope first more go all names others same kept kept_all quiet quiet_all =
    neither _ _ (go role.Value names others same kept quiet tt).1
    (sym (any_behind scope more) ∙ none_vary scope names others (map (λ (x : Place × Token × Expr). x.2) more) (all_fixed scope (map (λ (x : Place × Token × Expr). x.2) more) all role.Value names others same kept_all quiet_all tt))

pub measured-Plus : (scope : Scope) (first : Expr) (more : List (Place × Token × Expr)) → Goes scope first → Still scope first → GoesTerm scope first → AllGo scope (map (λ (x : Place × Token × Expr). x.2) more) →
    AllStill scope (map (λ (x : Place × Token × Expr). x.2) more) → AllMeasured scope (map (λ (x : Place × Token × Expr). x.2) more) → GoesTerm scope (Plus first more)
measured-Plus scope first more go still measured all all_still all_measured names others same bind numbers quiet varies =
    let quiet_here = sym (opens-Plus scope role.Term names first more) ∙ quiet in
    at_signs (is_by_signs more) refl (none_left _ _ quiet_here) (quiet_operands scope role.Term (operand (is_by_signs more) role.Term) names more (none_right _ _ quiet_here))
  where
    kept : (numbers_kept first ≡ true) × (list_all numbers_kept (map (λ (x : Place × Token × Expr). x.2) more) ≡ true)
    kept = both _ _ (sym (keeps-Plus first more) ∙ numbers)

    at_signs : (by_signs : Bool) → is_by_signs more ≡ by_signs → faults_in scope (operand by_signs role.Term) names first ≡ [] → Quiet scope (operand by_signs role.Term) names (map (λ (x : Place × Token × Expr). x.2) more) →
        (t : Term) × (typed_term scope names (Plus first more) ≡ Some t) × IsTerm scope others (Plus first more) t
    at_signs true is one rest =
        let fit = fits scope first go still measured names others same bind kept.0 one in
        let all_fits = all_fit scope (map (λ (x : Place × Token × Expr). x.2) more) all all_still all_measured names others same bind kept.1 rest in
        let ts = map {B = Place × Bool × Term} (λ (x : Place × Token × Expr). (x.0, is_minus x.1, some_term scope names x.2)) more in (
          term.Sum (some_term scope names first) ts,
          term-Plus scope names first more ∙ ap (λ (b : Bool). sum_if b (some_term scope names first) ts) ((λ i. fit.1 i || any_measured scope names others more all_fits i) ∙ sym (has-Plus scope first more) ∙ varies),
          term_sum varies fit.0 (terms_from scope names others more is all_fits),
        )
    at_signs false is one rest = absurd (false≢true (sym (none_joined scope first more go all names others same kept.0 kept.1 one rest) ∙ sym (has-Plus scope first more) ∙ varies))

pub measured-Times : (scope : Scope) (first : Expr) (more : List (Place × Token × Expr)) → Goes scope first → Still scope first → GoesTerm scope first → AllGo scope (map (λ (x : Place × Token × Expr). x.2) more) →
    AllStill scope (map (λ (x : Place × Token × Expr). x.2) more) → AllMeasured scope (map (λ (x : Place × Token × Expr). x.2) more) → GoesTerm scope (Times first more)
measured-Times scope first more go still measured all all_still all_measured names others same bind numbers quiet varies =
    let quiet_here = sym (opens-Times scope role.Term names first more) ∙ quiet in
    at_stars (is_by_stars (part_of scope first).varies (known_operands scope more)) refl (none_left _ _ quiet_here) (none_right _ _ quiet_here)
  where
    kept : (numbers_kept first ≡ true) × (list_all numbers_kept (map (λ (x : Place × Token × Expr). x.2) more) ≡ true)
    kept = both _ _ (sym (keeps-Times first more) ∙ numbers)

    has : (has_variables scope first || list_any (λ (x : Place × Token × Expr). has_variables scope x.2) more) ≡ true
    has = sym (has-Times scope first more) ∙ varies

    at_first : (b : Bool) → has_variables scope first ≡ b → faults_in scope role.Term names first ≡ [] → Quiet scope role.Term names (map (λ (x : Place × Token × Expr). x.2) more) → Linear scope b more →
        (t : Term) × (typed_term scope names (Times first more) ≡ Some t) × IsTerm scope others (Times first more) t
    at_first true is one rest joined =
        let made = measured names others same bind kept.0 one is in
        let factors = typed_factors scope names more in (
          term.Product None made.0 factors,
          term-Times scope names first more ∙ (λ i. product_or (made.1 i) factors (typed_product_behind scope names (typed_const scope names first) [] more)),
          term_product is made.2 (factors_from scope names others same more all kept.1 rest joined),
        )
    at_first false is one rest joined =
        let fixed = go role.Term names others same kept.0 one is in
        let made = multiple_from scope names others same bind first fixed.0 is [] no_operand refl more all all_still all_measured kept.1 rest joined (right_holds (has_variables scope first) _ has is) in
        (made.0, term-Times scope names first more ∙ (λ i. product_or ((still names is).0 i) (typed_factors scope names more) (made.1 i)), made.2)

    at_stars : (by_stars : Bool) → is_by_stars (part_of scope first).varies (known_operands scope more) ≡ by_stars → faults_in scope (operand by_stars role.Term) names first ≡ [] →
        factors_faults by_stars (part_of scope first).varies role.Term (operand by_stars role.Term) names (known_operands scope more) ≡ [] → (t : Term) × (typed_term scope names (Times first more) ≡ Some t) × IsTerm scope others (Times first more) t
    at_stars true is one rest =
        at_first (has_variables scope first) refl one (quiet_factors scope true (part_of scope first).varies role.Term role.Term names more rest)
        (subst (λ (b : Bool). Linear scope b more) (part_varies_as_tree scope first) (linear scope (part_of scope first).varies role.Term role.Term names more is rest))
    at_stars false is one rest =
        absurd (false≢true (sym (none_joined scope first more go all names others same kept.0 kept.1 one (quiet_factors scope false (part_of scope first).varies role.Term role.Value names more rest)) ∙ has))

-- ---- what isn't joined as a term is

pub measured-Or : (scope : Scope) (first : Expr) (other : Place × Bool × Expr) (more : List (Place × Bool × Expr)) → Goes scope (Or first (other ∷ more)) → GoesTerm scope (Or first (other ∷ more))
unfolding operands_faults
measured-Or scope first other more = never scope (Or first (other ∷ more)) (λ names quiet. opens-Or scope role.Value names first (other ∷ more) ∙ sym (opens-Or scope role.Term names first (other ∷ more)) ∙ quiet)
