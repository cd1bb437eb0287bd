-- The constant that is made of an expression in which nothing is marked belongs to the expression.
use Rattle.std.proofs.Common.{ℕ, ◌≡◌, ◌⊎◌, inl, inr, Bool, true, false, not, ◌||◌, ◌&&◌, List, [], ◌∷◌, map, length, Option, Some, is_none, refl, sym, ap, subst, ◌∙◌}
use Rattle.std.proofs.lemmas.Bool.{false≢true}
use Rattle.zim_fault.specs.declared.faults.Place.{Place}
use Rattle.zim_fault.specs.declared.kinds.Kind.TheVariants.{NotConstraint}
use Rattle.zim_fault.specs.declared.tokens.Token.{Token}
use Rattle.zim_fault.specs.declared.tokens.Relation.{Relation}
use Rattle.zim_fault.specs.declared.signs.Sign.{Sign}
use Rattle.zim_fault.specs.declared.words.Word.{Word}
use Rattle.zim_tree.specs.declared.expr.Expr.{Expr}
use Rattle.zim_tree.specs.declared.expr.Expr.TheVariants.{Number, Text, Truth, Infinity, Name, Item, Call, Proj, Paren, Braces, If, Factorial, Power, Signed, Big, Times, Plus, Compare, Member, Not, And, Or, Forall}
use Rattle.zim_tree.specs.declared.expr.Angle.{Angle}
use Rattle.zim_tree.specs.declared.expr.Index.{Index}
use Rattle.zim_tree.specs.declared.expr.Body.{Body}
use Rattle.zim_typed.specs.Scope.{Names, Scope, Stands, Varies, bare, indexed, called}
use Rattle.zim_typed.specs.Variables.{names_variable}
use Rattle.zim_typed.specs.Constants.{IsConst, AreConsts, const_number, const_text, const_truth, const_name, const_item, const_call, const_projection, const_parentheses, const_braces, const_if, const_factorial, const_power, const_signed, const_big, const_product, const_sum, const_comparison, const_member, const_not, const_and, const_or}
use Rattle.zim_typed.proofs.VariableLaws.{has-Number, has-Text, has-Truth, has-Name, has-Item, has-Call, has-Proj, has-Paren, has-Braces, has-If, has-Factorial, has-Power, has-Signed, has-Big, has-Times, has-Plus, has-Compare, has-Member, has-Not, has-And, has-Or}
use Rattle.zim_static.specs.declared.role.Role.{Role}
use Rattle.zim_static.specs.declared.role.Role.TheVariants as role
use Rattle.zim_static.specs.Roles.{term_inside, operand, condition_inside, conjunct, parenthesised, branch_of, test_of, side, role_behind_sign, summand, is_constraint}
use Rattle.zim_static.specs.Faults.{part_of, parts_of, parts_of_angle, part_of_index, part_of_body, all_faults, is_by_stars, is_by_signs, known_operands, encloses, fault_if}
use Rattle.zim_static.specs.StatementFaults.{faults_in}
use Rattle.zim_static.proofs.FirstLaws.{opens-Infinity, opens-Name, opens-Item, opens-Call, opens-Proj, opens-Paren, opens-Braces, opens-If, opens-Factorial, opens-Power, opens-Signed, opens-Big, opens-Times, opens-Plus, opens-Compare, opens-Member, opens-Not, opens-And, opens-Or, opens-Forall}
use Rattle.zim_static.proofs.PartLaws.{index_names_known}
use Rattle.zim_static.proofs.AroundLaws.{both}
use Rattle.zim_typing.specs.Typing.{resolution, typed_const, typed_consts, names_inside}
use Rattle.zim_typing.proofs.ConstantLaws.{makes-Number, makes-Text, makes-Truth, makes-Name, makes-Item, makes-Call, makes-Proj, makes-Paren, makes-Braces, makes-If, makes-Factorial, makes-Power, makes-Signed, makes-Big, makes-Times, makes-Plus, makes-Compare, makes-Member, makes-Not, makes-And, makes-Or}
use Rattle.zim_typing.proofs.NumberLaws.{keeps-Number, keeps-Item, keeps-Call, keeps-Proj, keeps-Paren, keeps-Braces, keeps-If, keeps-Factorial, keeps-Power, keeps-Signed, keeps-Big, keeps-Times, keeps-Plus, keeps-Compare, keeps-Member, keeps-Not, keeps-And, keeps-Or}
use Rattle.zim_typing.proofs.NamesLemmas.{same_bare, same_indexed, same_called}
use Rattle.zim_typing.proofs.FitLemmas.{none_left, none_right, four_parts, not_marked, either_left, either_right, neither, free_inside, free_term_inside, free_operand, free_condition_inside, free_conjunct, free_parenthesised, free_branch, free_test, free_side, free_behind_sign, free_summand, free_unconstrained, free_unbounded, free_variable, right_use, bare_varies, indexed_varies, called_never_varies}
use Rattle.zim_typing.proofs.GoesLemmas.{Goes, become, AllGo, all_fixed, none_vary, quiet_items, quiet_operands, quiet_factors, quiet_conjuncts, consts_from, operands_from, conjuncts_from, disjuncts_from, any_behind, any_behind_and, GoesTuple, tuple_fixed, GoesIndex, GoesBody}

pub goes-Text : (scope : Scope) (p : Place) (text : List ℕ) (double : Bool) → Goes scope (Text p text double)
goes-Text scope p text double r names others same numbers quiet free = (become names (const_text p text double) (makes-Text scope names p text double), has-Text scope p text double)

pub goes-Truth : (scope : Scope) (p : Place) (truth : Bool) → Goes scope (Truth p truth)
goes-Truth scope p truth r names others same numbers quiet free = (become names (const_truth p truth) (makes-Truth scope names p truth), has-Truth scope p truth)

pub goes-Number : (scope : Scope) (p : Place) (digits : List ℕ) → Goes scope (Number p digits)
goes-Number scope p digits r names others same numbers quiet free = (become names (const_number p digits (sym (keeps-Number p digits) ∙ numbers)) (makes-Number scope names p digits), has-Number scope p digits)

pub goes-Infinity : (scope : Scope) (p : Place) → Goes scope (Infinity p)
goes-Infinity scope p r names others same numbers quiet free =
    let quiet_here = sym (opens-Infinity scope r names p) ∙ quiet in
    absurd (false≢true (sym (not_marked _ _ p (none_left _ _ quiet_here)) ∙ ap not (free_unbounded r _ free)))

pub goes-Name : (scope : Scope) (p : Place) (name : List ℕ) → Goes scope (Name p name)
goes-Name scope p name r names others same numbers quiet free =
    let quiet_here = sym (opens-Name scope r names p name) ∙ quiet in
    let fixed : names_variable scope name ≡ false = free_variable r _ (names_variable scope name) p free (λ is. sym (has-Name scope p name) ∙ is) (none_right _ _ (none_left _ _ quiet_here)) in
    (by_use (right_use (bare scope names name) p (none_left _ _ (none_left _ _ quiet_here))) fixed, has-Name scope p name ∙ fixed)
  where
    by_use : (bare scope names name ≡ Stands (resolution (bare scope names name))) ⊎ (bare scope names name ≡ Varies) → names_variable scope name ≡ false → IsConst scope others (Name p name) (typed_const scope names (Name p name))
    by_use (inl is) fixed = become names (const_name p name {r = resolution (bare scope names name)} (sym (same_bare scope names others same name) ∙ is)) (makes-Name scope names p name)
    by_use (inr is) fixed = absurd (false≢true (sym fixed ∙ bare_varies scope names name is))

pub goes-Item : (scope : Scope) (p : Place) (name : List ℕ) (index : List Expr) → AllGo scope index → Goes scope (Item p name index)
goes-Item scope p name index go r names others same numbers quiet free =
    let quiet_here = sym (opens-Item scope r names p name index) ∙ quiet in
    let quiet_name = none_left _ _ quiet_here in
    let fixed : names_variable scope name ≡ false = free_variable r _ (names_variable scope name) p free (λ is. either_left _ _ (sym (has-Item scope p name index) ∙ is)) (none_right _ _ (none_left _ _ quiet_name)) in
    let inner = all_fixed scope index go role.Value names others same (sym (keeps-Item p name index) ∙ numbers)
    (quiet_items scope role.Value names index (subst (λ (x : Role). all_faults x names (parts_of scope index) ≡ []) (free_inside r _ free) (none_right _ _ quiet_here))) tt in
    (by_use (consts_from scope names others index inner) (right_use (indexed scope names name) p (none_left _ _ (none_left _ _ quiet_name))) fixed, has-Item scope p name index ∙ neither _ _ fixed (none_vary scope names others index inner))
  where
    by_use : AreConsts scope others index (typed_consts scope names index) → (indexed scope names name ≡ Stands (resolution (indexed scope names name))) ⊎ (indexed scope names name ≡ Varies) → names_variable scope name ≡ false → IsConst scope others (Item p name index) (typed_const scope names (Item p name index))
    by_use cs (inl is) fixed = become names (const_item p name {r = resolution (indexed scope names name)} (sym (same_indexed scope names others same name) ∙ is) cs) (makes-Item scope names p name index)
    by_use cs (inr is) fixed = absurd (false≢true (sym fixed ∙ indexed_varies scope names name is))

pub goes-Call : (scope : Scope) (p : Place) (name : List ℕ) (index : List Expr) → AllGo scope index → Goes scope (Call p name index)
goes-Call scope p name index go r names others same numbers quiet free =
    let quiet_here = sym (opens-Call scope r names p name index) ∙ quiet in
    let quiet_name = none_left _ _ quiet_here in
    let fixed : names_variable scope name ≡ false = free_variable r _ (names_variable scope name) p free (λ is. either_left _ _ (sym (has-Call scope p name index) ∙ is)) (none_right _ _ (none_left _ _ quiet_name)) in
    let inner = all_fixed scope index go role.Value names others same (sym (keeps-Call p name index) ∙ numbers)
    (quiet_items scope role.Value names index (subst (λ (x : Role). all_faults x names (parts_of scope index) ≡ []) (free_inside r _ free) (none_right _ _ quiet_here))) tt in
    (by_use (consts_from scope names others index inner) (right_use (called (length index) scope names name) p (none_left _ _ (none_left _ _ quiet_name))), has-Call scope p name index ∙ neither _ _ fixed (none_vary scope names others index inner))
  where
    by_use : AreConsts scope others index (typed_consts scope names index) → (called (length index) scope names name ≡ Stands (resolution (called (length index) scope names name))) ⊎ (called (length index) scope names name ≡ Varies) → IsConst scope others (Call p name index) (typed_const scope names (Call p name index))
    by_use cs (inl is) = become names (const_call p name {r = resolution (called (length index) scope names name)} (sym (same_called scope names others same (length index) name) ∙ is) cs) (makes-Call scope names p name index)
    by_use cs (inr is) = absurd (called_never_varies (length index) scope names name is)

pub goes-Proj : (scope : Scope) (p : Place) (set : Expr) (positions : Angle) → Goes scope set → GoesTuple scope positions → Goes scope (Proj p set positions)
goes-Proj scope p set positions go tuple r names others same numbers quiet free =
    let quiet_here = sym (opens-Proj scope r names p set positions) ∙ quiet in
    let kept = both _ _ (sym (keeps-Proj p set positions) ∙ numbers) in
    let first = go role.Value names others same kept.0 (subst (λ (x : Role). faults_in scope x names set ≡ []) (free_inside r _ free) (none_right _ _ (none_left _ _ quiet_here))) tt in
    let second = tuple_fixed scope positions tuple names others same kept.1 (subst (λ (x : Role). all_faults x names (parts_of_angle scope positions) ≡ []) (free_inside r _ free) (none_right _ _ quiet_here)) in
    (become names (const_projection p first.0 second.0) (makes-Proj scope names p set positions), has-Proj scope p set positions ∙ neither _ _ first.1 second.1)

pub goes-Member : (scope : Scope) (p : Place) (tuple : Angle) (set : Expr) → GoesTuple scope tuple → Goes scope set → Goes scope (Member p tuple set)
goes-Member scope p tuple set items go r names others same numbers quiet free =
    let quiet_here = sym (opens-Member scope r names p tuple set) ∙ quiet in
    let kept = both _ _ (sym (keeps-Member p tuple set) ∙ numbers) in
    let first = tuple_fixed scope tuple items names others same kept.0 (subst (λ (x : Role). all_faults x names (parts_of_angle scope tuple) ≡ []) (free_inside r _ free) (none_left _ _ (none_left _ _ quiet_here))) in
    let second = go role.Value names others same kept.1 (subst (λ (x : Role). faults_in scope x names set ≡ []) (free_inside r _ free) (none_right _ _ quiet_here)) tt in
    (become names (const_member p first.0 second.0) (makes-Member scope names p tuple set), has-Member scope p tuple set ∙ neither _ _ first.1 second.1)

pub goes-Paren : (scope : Scope) (p : Place) (inner : Expr) → Goes scope inner → Goes scope (Paren p inner)
goes-Paren scope p inner go r names others same numbers quiet free =
    let made = go (parenthesised r) names others same (sym (keeps-Paren p inner) ∙ numbers) (sym (opens-Paren scope r names p inner) ∙ quiet) (free_parenthesised r _ _ free (λ is. sym (has-Paren scope p inner) ∙ is)) in
    (become names (const_parentheses p made.0) (makes-Paren scope names p inner), has-Paren scope p inner ∙ made.1)

pub goes-Braces : (scope : Scope) (p : Place) (inside : Body) → GoesBody scope inside → Goes scope (Braces p inside)
goes-Braces scope p body go r names others same numbers quiet free =
    let quiet_here = none_right _ _ (sym (opens-Braces scope r names p body) ∙ quiet) in
    let made = go names others same (sym (keeps-Braces p body) ∙ numbers) (subst (λ (x : Role). (part_of_body scope body).faults x names ≡ []) (free_inside r _ free) quiet_here) in
    (become names (const_braces p made.0) (makes-Braces scope names p body), has-Braces scope p body ∙ made.1)

pub goes-If : (scope : Scope) (p : Place) (test branch otherwise : Expr) → Goes scope test → Goes scope branch → Goes scope otherwise → Goes scope (If p false test branch (Some otherwise))
goes-If scope p test branch otherwise t b e r names others same numbers quiet free =
    let quiet_here = sym (opens-If scope r names p false test branch (Some otherwise)) ∙ quiet in
    let mark = fault_if ((false || is_none (Some otherwise)) && not (is_constraint r)) NotConstraint p in
    let parts = four_parts mark (faults_in scope (test_of false r) names test) (faults_in scope (branch_of false r) names branch) (faults_in scope (branch_of false r) names otherwise) quiet_here in
    let kept = both _ _ (sym (keeps-If p false test branch (Some otherwise)) ∙ numbers) in
    let kept_both = both _ _ kept.1 in
    let has = has-If scope p false test branch (Some otherwise) in
    let first = t (test_of false r) names others same kept.0 parts.0 (free_test r _ _ free) in
    let second = b (branch_of false r) names others same kept_both.0 parts.1 (free_branch r _ _ free (λ is. either_right _ _ (either_left _ _ (sym has ∙ is)))) in
    let third = e (branch_of false r) names others same kept_both.1 parts.2 (free_branch r _ _ free (λ is. either_right _ _ (sym has ∙ is))) in
    (become names (const_if p first.0 second.0 third.0) (makes-If scope names p false test branch (Some otherwise)), has ∙ neither _ _ (neither _ _ first.1 second.1) third.1)

-- a `vif`, or an `if` without `else`, is no value
pub goes_no_value : (scope : Scope) (p : Place) (vif : Bool) (test branch : Expr) (otherwise : Option Expr) → (vif || is_none otherwise) ≡ true → Goes scope (If p vif test branch otherwise)
goes_no_value scope p vif test branch otherwise is r names others same numbers quiet free =
    let marked = not_marked _ _ p (none_left _ _ (none_left _ _ (none_left _ _ (sym (opens-If scope r names p vif test branch otherwise) ∙ quiet)))) in
    absurd (false≢true (sym marked ∙ (λ i. is i && not (free_unconstrained r _ free i))))

pub goes-Factorial : (scope : Scope) (operand : Expr) (marks : List Place) → Goes scope operand → Goes scope (Factorial operand marks)
goes-Factorial scope inner marks go r names others same numbers quiet free =
    let quiet_here = none_left _ _ (sym (opens-Factorial scope r names inner marks) ∙ quiet) in
    let made = go role.Value names others same (sym (keeps-Factorial inner marks) ∙ numbers) (subst (λ (x : Role). faults_in scope x names inner ≡ []) (free_inside r _ free) quiet_here) tt in
    (become names (const_factorial marks made.0) (makes-Factorial scope names inner marks), has-Factorial scope inner marks ∙ made.1)

pub goes-Power : (scope : Scope) (p : Place) (sign : Sign) (base : Expr) (signed : Option (Place × Bool)) (exponent : Expr) → Goes scope base → Goes scope exponent → Goes scope (Power p sign base signed exponent)
goes-Power scope p sign base signed exponent b e r names others same numbers quiet free =
    let quiet_here = sym (opens-Power scope r names p sign base signed exponent) ∙ quiet in
    let kept = both _ _ (sym (keeps-Power p sign base signed exponent) ∙ numbers) in
    let has = has-Power scope p sign base signed exponent in
    let first = b (term_inside r) names others same kept.0 (none_left _ _ (none_left _ _ (none_left _ _ quiet_here))) (free_term_inside r _ _ free (λ is. either_left _ _ (sym has ∙ is))) in
    let second = e (term_inside r) names others same kept.1 (none_right _ _ quiet_here) (free_term_inside r _ _ free (λ is. either_right _ _ (sym has ∙ is))) in
    (become names (const_power p sign signed first.0 second.0) (makes-Power scope names p sign base signed exponent), has ∙ neither _ _ first.1 second.1)

pub goes-Signed : (scope : Scope) (p : Place) (minus : Bool) (operand : Expr) → Goes scope operand → Goes scope (Signed p minus operand)
goes-Signed scope p minus inner go r names others same numbers quiet free =
    let made = go (role_behind_sign (part_of scope inner).infinite r) names others same (sym (keeps-Signed p minus inner) ∙ numbers) (none_right _ _ (sym (opens-Signed scope r names p minus inner) ∙ quiet))
    (free_behind_sign (part_of scope inner).infinite r _ _ free (λ is. sym (has-Signed scope p minus inner) ∙ is)) in
    (become names (const_signed p minus made.0) (makes-Signed scope names p minus inner), has-Signed scope p minus inner ∙ made.1)

pub goes-Big : (scope : Scope) (p : Place) (word : Word) (index : Index) (with_do : Bool) (operand : Expr) → GoesIndex scope index → Goes scope operand → Goes scope (Big p word index with_do operand)
goes-Big scope p word index with_do inner i e r names others same numbers quiet free =
    let quiet_here = sym (opens-Big scope r names p word index with_do inner) ∙ quiet in
    let kept = both _ _ (sym (keeps-Big p word index with_do inner) ∙ numbers) in
    let has = has-Big scope p word index with_do inner in
    let first = i names others same kept.0 (subst (λ (x : Role). (part_of_index scope index).faults x names ≡ []) (free_inside r _ free) (none_right _ _ (none_left _ _ quiet_here))) in
    let second = e (summand word r) (names_inside scope names index) first.0 first.2 kept.1
    (subst (λ (inner_names : Names). faults_in scope (summand word r) inner_names inner ≡ []) (index_names_known scope names index) (none_right _ _ quiet_here)) (free_summand word r _ _ free (λ is. either_right _ _ (sym has ∙ is))) in
    (become names (const_big p word with_do first.1 second.0) (makes-Big scope names p word index with_do inner), has ∙ neither _ _ first.3 second.1)

pub goes-Not : (scope : Scope) (p : Place) (operand : Expr) → Goes scope operand → Goes scope (Not p operand)
goes-Not scope p inner go r names others same numbers quiet free =
    let made = go (condition_inside r) names others same (sym (keeps-Not p inner) ∙ numbers) (none_right _ _ (sym (opens-Not scope r names p inner) ∙ quiet)) (free_condition_inside r _ _ free (λ is. sym (has-Not scope p inner) ∙ is)) in
    (become names (const_not p made.0) (makes-Not scope names p inner), has-Not scope p inner ∙ made.1)

pub goes-Times : (scope : Scope) (first : Expr) (more : List (Place × Token × Expr)) → Goes scope first → AllGo scope (map (λ (x : Place × Token × Expr). x.2) more) → Goes scope (Times first more)
goes-Times scope first more go all r names others same numbers quiet free =
    let quiet_here = sym (opens-Times scope r names first more) ∙ quiet in
    let kept = both _ _ (sym (keeps-Times first more) ∙ numbers) in
    let has = has-Times scope first more in
    let one = go (operand (is_by_stars (part_of scope first).varies (known_operands scope more)) r) names others same kept.0 (none_left _ _ quiet_here) (free_operand (is_by_stars (part_of scope first).varies (known_operands scope more)) r _ _ free (λ is. either_left _ _ (sym has ∙ is))) in
    let rest = all_fixed scope (map (λ (x : Place × Token × Expr). x.2) more) all (operand (is_by_stars (part_of scope first).varies (known_operands scope more)) r) names others same kept.1 (quiet_factors scope _ _ r (operand (is_by_stars (part_of scope first).varies (known_operands scope more)) r) names more (none_right _ _ quiet_here)) (free_operand (is_by_stars (part_of scope first).varies (known_operands scope more)) r _ _ free (λ is. any_behind scope more ∙ either_right _ _ (sym has ∙ is))) in
    (become names (const_product one.0 (operands_from scope names others more rest)) (makes-Times scope names first more), has ∙ neither _ _ one.1 (sym (any_behind scope more) ∙ none_vary scope names others (map (λ (x : Place × Token × Expr). x.2) more) rest))

pub goes-Plus : (scope : Scope) (first : Expr) (more : List (Place × Token × Expr)) → Goes scope first → AllGo scope (map (λ (x : Place × Token × Expr). x.2) more) → Goes scope (Plus first more)
goes-Plus scope first more go all r names others same numbers quiet free =
    let quiet_here = sym (opens-Plus scope r names first more) ∙ quiet in
    let kept = both _ _ (sym (keeps-Plus first more) ∙ numbers) in
    let has = has-Plus scope first more in
    let one = go (operand (is_by_signs more) r) names others same kept.0 (none_left _ _ quiet_here) (free_operand (is_by_signs more) r _ _ free (λ is. either_left _ _ (sym has ∙ is))) in
    let rest = all_fixed scope (map (λ (x : Place × Token × Expr). x.2) more) all (operand (is_by_signs more) r) names others same kept.1 (quiet_operands scope r (operand (is_by_signs more) r) names more (none_right _ _ quiet_here)) (free_operand (is_by_signs more) r _ _ free (λ is. any_behind scope more ∙ either_right _ _ (sym has ∙ is))) in
    (become names (const_sum one.0 (operands_from scope names others more rest)) (makes-Plus scope names first more), has ∙ neither _ _ one.1 (sym (any_behind scope more) ∙ none_vary scope names others (map (λ (x : Place × Token × Expr). x.2) more) rest))

pub goes-Or : (scope : Scope) (first : Expr) (more : List (Place × Bool × Expr)) → Goes scope first → AllGo scope (map (λ (x : Place × Bool × Expr). x.2) more) → Goes scope (Or first more)
goes-Or scope first more go all r names others same numbers quiet free =
    let quiet_here = sym (opens-Or scope r names first more) ∙ quiet in
    let kept = both _ _ (sym (keeps-Or first more) ∙ numbers) in
    let has = has-Or scope first more in
    let one = go (condition_inside r) names others same kept.0 (none_left _ _ quiet_here) (free_condition_inside r _ _ free (λ is. either_left _ _ (sym has ∙ is))) in
    let rest = all_fixed scope (map (λ (x : Place × Bool × Expr). x.2) more) all (condition_inside r) names others same kept.1 (quiet_operands scope r (condition_inside r) names more (none_right _ _ quiet_here)) (free_condition_inside r _ _ free (λ is. any_behind scope more ∙ either_right _ _ (sym has ∙ is))) in
    (become names (const_or one.0 (disjuncts_from scope names others more rest)) (makes-Or scope names first more), has ∙ neither _ _ one.1 (sym (any_behind scope more) ∙ none_vary scope names others (map (λ (x : Place × Bool × Expr). x.2) more) rest))

pub goes-And : (scope : Scope) (first : Expr) (more : List (Place × Expr)) → Goes scope first → AllGo scope (map (λ (x : Place × Expr). x.1) more) → Goes scope (And first more)
goes-And scope first more go all r names others same numbers quiet free =
    let quiet_here = sym (opens-And scope r names first more) ∙ quiet in
    let kept = both _ _ (sym (keeps-And first more) ∙ numbers) in
    let has = has-And scope first more in
    let one = go (conjunct r) names others same kept.0 (none_left _ _ quiet_here) (free_conjunct r _ _ free (λ is. either_left _ _ (sym has ∙ is))) in
    let rest = all_fixed scope (map (λ (x : Place × Expr). x.1) more) all (conjunct r) names others same kept.1 (quiet_conjuncts scope (conjunct r) names more (none_right _ _ quiet_here)) (free_conjunct r _ _ free (λ is. any_behind_and scope more ∙ either_right _ _ (sym has ∙ is))) in
    (become names (const_and one.0 (conjuncts_from scope names others more rest)) (makes-And scope names first more), has ∙ neither _ _ one.1 (sym (any_behind_and scope more) ∙ none_vary scope names others (map (λ (x : Place × Expr). x.1) more) rest))

pub goes_comparison : (scope : Scope) (p : Place) (relation : Relation) (left right : Expr) → Goes scope left → Goes scope right → Goes scope (Compare left ((p, relation, right) ∷ []))
goes_comparison scope p relation left right l e r names others same numbers quiet free =
    let quiet_here = sym (opens-Compare scope r names left ((p, relation, right) ∷ [])) ∙ quiet in
    let kept = both _ _ (sym (keeps-Compare left ((p, relation, right) ∷ [])) ∙ numbers) in
    let has = has-Compare scope left ((p, relation, right) ∷ []) in
    let first = l (side r) names others same kept.0 (none_left _ _ (none_left _ _ quiet_here)) (free_side r _ _ free (λ is. either_left _ _ (sym has ∙ is))) in
    let second = e (side r) names others same (both _ _ kept.1).0 (none_right _ _ quiet_here) (free_side r _ _ free (λ is. either_left _ _ (either_right _ _ (sym has ∙ is)))) in
    (become names (const_comparison p relation first.0 second.0) (makes-Compare scope names left ((p, relation, right) ∷ [])), has ∙ neither _ _ first.1 (neither _ _ second.1 refl))

-- two comparisons one behind the other are no value
pub goes_chain : (scope : Scope) (p q : Place) (lower upper : Relation) (left middle right : Expr) → Goes scope (Compare left ((p, lower, middle) ∷ (q, upper, right) ∷ []))
goes_chain scope p q lower upper left middle right r names others same numbers quiet free =
    let marked = not_marked _ _ p (none_right _ _ (none_left _ _ (none_left _ _ (sym (opens-Compare scope r names left ((p, lower, middle) ∷ (q, upper, right) ∷ [])) ∙ quiet)))) in
    absurd (false≢true (sym marked ∙ (λ i. not (free_unconstrained r _ free i && encloses lower upper && not ((part_of scope left).varies || (part_of scope right).varies)))))

pub goes-Forall : (scope : Scope) (p : Place) (index : Index) (with_do : Bool) (inner : Expr) → Goes scope (Forall p index with_do inner)
goes-Forall scope p index with_do inner r names others same numbers quiet free =
    let marked = not_marked _ _ p (none_left _ _ (none_left _ _ (sym (opens-Forall scope r names p index with_do inner) ∙ quiet))) in
    absurd (false≢true (sym marked ∙ ap not (free_unconstrained r _ free)))
