-- What it is for an expression to be a term where nothing is marked in it, and what follows for lists of operands.
use Rattle.std.proofs.Common.{◌≡◌, Bool, true, false, not, ◌||◌, ◌&&◌, List, [], ◌∷◌, ◌++◌, map, Option, Some, None, is_some, is_none, append_assoc, refl, sym, ap, subst, ◌∙◌}
use Rattle.std.proofs.lemmas.Bool.{false≢true}
use Rattle.std.specs.List.{list_any, list_all}
use Rattle.zim_fault.specs.declared.faults.Place.{Place}
use Rattle.zim_fault.specs.declared.kinds.Kind.TheVariants.{NotLinear}
use Rattle.zim_fault.specs.declared.tokens.Token.{Token}
use Rattle.zim_fault.specs.declared.tokens.Token.TheVariants.{Sign as sign_token}
use Rattle.zim_fault.specs.declared.signs.Sign.TheVariants.{SPlus, SMinus, SStar, SSlash}
use Rattle.zim_tree.specs.declared.expr.Expr.{Expr}
use Rattle.zim_tree.specs.declared.expr.Expr.TheVariants.{Times}
use Rattle.zim_tree.specs.declared.expr.Index.{Index, out-Index}
use Rattle.zim_tree.specs.declared.expr.Angle.{out-Angle}
use Rattle.zim_typed.specs.declared.scope.Declared.{Declared}
use Rattle.zim_typed.specs.declared.constant.Const.{Const}
use Rattle.zim_typed.specs.declared.constraint.Term.{Term}
use Rattle.zim_typed.specs.declared.constraint.Term.TheVariants as term
use Rattle.zim_typed.specs.Scope.{Names, Scope, is_local, kind_of_name}
use Rattle.zim_typed.specs.Variables.{has_variables, names_variable, is_variable}
use Rattle.zim_typed.specs.Constants.{IsConst, AreOperands, one_operand, no_operand, const_product}
use Rattle.zim_typed.specs.Terms.{IsTerm, AreTerms, AreFactors, term_known, term_multiple, no_term, one_term, no_factor, one_factor, adding, multiplying, product_up_to}
use Rattle.zim_typed.proofs.VariableLaws.{has-Times}
use Rattle.zim_static.specs.declared.role.Role.{Role}
use Rattle.zim_static.specs.declared.role.Role.TheVariants as role
use Rattle.zim_static.specs.Faults.{part_of, known_operands, adds, multiplies, is_slash, is_by_signs, is_by_stars, factors_faults, no_constraint, fault_if}
use Rattle.zim_static.specs.StatementFaults.{faults_in}
use Rattle.zim_static.proofs.PartLaws.{part_varies_as_tree}
use Rattle.zim_static.proofs.AroundLaws.{both, local_index}
use Rattle.zim_typing.specs.Typing.{is_minus, term_or_constant, product_at, known_product, names_inside, typed_const, typed_operands, typed_term, some_term, typed_factors, typed_product_behind}
use Rattle.zim_typing.specs.Numbers.{numbers_kept}
use Rattle.zim_typing.specs.Law.{BindNoVariable}
use Rattle.zim_typing.proofs.NamesLemmas.{Same}
use Rattle.zim_typing.proofs.FitLemmas.{none_left, none_right, not_marked, either_left, either_right, neither}
use Rattle.zim_typing.proofs.GoesLemmas.{Goes, AllGo, Quiet}
use Rattle.zim_typing.proofs.StillLemmas.{Still, AllStill}

-- ---- truths

-- one of two holds, and not this one
pub left_holds : (a b : Bool) → (a || b) ≡ true → b ≡ false → a ≡ true
left_holds true b h none = refl
left_holds false b h none = absurd (false≢true (sym none ∙ h))

pub right_holds : (a b : Bool) → (a || b) ≡ true → a ≡ false → b ≡ true
right_holds true b h none = absurd (false≢true (sym none))
right_holds false b h none = h

-- ---- names

-- an index binds no variable
pub inside_binds : (scope : Scope) (names : Names) (index : Index) → BindNoVariable scope names → BindNoVariable scope (names_inside scope names index)
inside_binds scope names index bind name h = at_local (is_local names name) (kind_of_name scope name) _ refl refl (sym (local_index scope names name (out-Angle (out-Index index).tuple).items) ∙ h)
  where
    at_local : (local : Bool) (d : Option Declared) (bound : Bool) → is_local names name ≡ local → kind_of_name scope name ≡ d → (local || (is_none d && bound)) ≡ true → names_variable scope name ≡ false
    at_local true d bound is kind h = bind name is
    at_local false None bound is kind h = ap is_variable kind
    at_local false (Some d) bound is kind h = absurd (false≢true h)

-- ---- terms

-- an expression with variables is the term that is made of it, where nothing is marked in it as a term
abbrev pub GoesTerm : Scope → Expr → Type 0
GoesTerm scope e =
    (names others : Names) → Same names others → BindNoVariable scope names → numbers_kept e ≡ true → faults_in scope role.Term names e ≡ [] → has_variables scope e ≡ true →
    (t : Term) × (typed_term scope names e ≡ Some t) × IsTerm scope others e t

-- with variables or without, it is the term that is made of it, which has variables where the expression has
abbrev pub FitsTerm : Scope → Names → Names → Expr → Type 0
FitsTerm scope names others e = IsTerm scope others e (some_term scope names e) × (is_some (typed_term scope names e) ≡ has_variables scope e)

pub fits : (scope : Scope) (e : Expr) → Goes scope e → Still scope e → GoesTerm scope e → (names others : Names) → Same names others → BindNoVariable scope names → numbers_kept e ≡ true → faults_in scope role.Term names e ≡ [] →
    FitsTerm scope names others e
fits scope e go still measured names others same bind numbers quiet = at_has (has_variables scope e) refl
  where
    at_has : (has : Bool) → has_variables scope e ≡ has → FitsTerm scope names others e
    at_has true is =
        let made = measured names others same bind numbers quiet is in
        (subst (λ (o : Option Term). IsTerm scope others e (term_or_constant o (typed_const scope names e))) (sym made.1) made.2, ap is_some made.1 ∙ sym is)
    at_has false is =
        let none = (still names is).0 in
        let fixed = go role.Term names others same numbers quiet is in
        (subst (λ (o : Option Term). IsTerm scope others e (term_or_constant o (typed_const scope names e))) (sym none) (term_known is fixed.0), ap is_some none ∙ sym is)

-- an expression in which nothing is marked as a value, where nothing is as a term, has no variables
pub never : (scope : Scope) (e : Expr) → ((names : Names) → faults_in scope role.Term names e ≡ [] → faults_in scope role.Value names e ≡ []) → Goes scope e → GoesTerm scope e
never scope e as_value go names others same bind numbers quiet varies = absurd (false≢true (sym (go role.Value names others same numbers (as_value names quiet) tt).1 ∙ varies))

-- ---- lists

-- each is a term
abbrev pub AllMeasured : Scope → List Expr → Type 0
AllMeasured scope [] = Unit {0}
AllMeasured scope (e ∷ es) = GoesTerm scope e × AllMeasured scope es

-- each fits
abbrev pub AllFit : Scope → Names → Names → List Expr → Type 0
AllFit scope names others [] = Unit {0}
AllFit scope names others (e ∷ es) = FitsTerm scope names others e × AllFit scope names others es

pub all_fit : (scope : Scope) (items : List Expr) → AllGo scope items → AllStill scope items → AllMeasured scope items → (names others : Names) → Same names others → BindNoVariable scope names →
    list_all numbers_kept items ≡ true → Quiet scope role.Term names items → AllFit scope names others items
all_fit scope [] go still measured names others same bind numbers quiet = tt
all_fit scope (item ∷ items) go still measured names others same bind numbers quiet =
    let kept = both (numbers_kept item) (list_all numbers_kept items) numbers in
    (fits scope item go.0 still.0 measured.0 names others same bind kept.0 quiet.0, all_fit scope items go.1 still.1 measured.1 names others same bind kept.1 quiet.1)

-- a sum's operators
adds_as : (token : Token) → adds token ≡ true → token ≡ adding (is_minus token)
adds_as (sign_token SPlus) h = refl
adds_as (sign_token SMinus) h = refl
adds_as _ h = absurd (false≢true h)

pub terms_from : (scope : Scope) (names others : Names) (more : List (Place × Token × Expr)) → is_by_signs more ≡ true → AllFit scope names others (map (λ (x : Place × Token × Expr). x.2) more) →
    AreTerms scope others more (map {B = Place × Bool × Term} (λ (x : Place × Token × Expr). (x.0, is_minus x.1, some_term scope names x.2)) more)
terms_from scope names others [] by_signs fit = no_term
terms_from scope names others ((p, token, e) ∷ more) by_signs fit =
    let by = both (adds token) (is_by_signs more) by_signs in
    subst (λ (k : Token). AreTerms scope others ((p, k, e) ∷ more) (map {B = Place × Bool × Term} (λ (x : Place × Token × Expr). (x.0, is_minus x.1, some_term scope names x.2)) ((p, token, e) ∷ more))) (sym (adds_as token by.0))
    (one_term p (is_minus token) fit.0.0 (terms_from scope names others more by.1 fit.1))

-- there is a term with variables among them where there is an expression with variables
pub any_measured : {O : Type 0} (scope : Scope) (names others : Names) (more : List (Place × O × Expr)) → AllFit scope names others (map (λ (x : Place × O × Expr). x.2) more) →
    list_any (λ (x : Place × O × Expr). is_some (typed_term scope names x.2)) more ≡ list_any (λ (x : Place × O × Expr). has_variables scope x.2) more
any_measured scope names others [] fit = refl
any_measured scope names others (other ∷ more) fit = λ i. fit.0.1 i || any_measured scope names others more fit.1 i

-- ---- products

multiplies_as : (token : Token) → multiplies token ≡ true → token ≡ multiplying (is_slash token)
multiplies_as (sign_token SStar) h = refl
multiplies_as (sign_token SSlash) h = refl
multiplies_as _ h = absurd (false≢true h)

-- factors of which one at most has variables, which doesn't divide, and all behind it multiply or divide. Of those before it is known whether one has variables
abbrev pub Linear : Scope → Bool → List (Place × Token × Expr) → Type 0
Linear scope before [] = Unit {0}
Linear scope before (other ∷ more) =
    ((has_variables scope other.2 && (before || is_slash other.1)) ≡ false) × ((not (before || has_variables scope other.2) || multiplies other.1) ≡ true) × Linear scope (before || has_variables scope other.2) more

pub linear : (scope : Scope) (before : Bool) (whole r : Role) (names : Names) (more : List (Place × Token × Expr)) → is_by_stars before (known_operands scope more) ≡ true →
    factors_faults true before whole r names (known_operands scope more) ≡ [] → Linear scope before more
unfolding factors_faults is_by_stars
linear scope before whole r names [] by_stars quiet = tt
linear scope before whole r names (other ∷ more) by_stars quiet =
    let varies = (part_of scope other.2).varies in
    let by = both (not (before || varies) || multiplies other.1) (is_by_stars (before || varies) (known_operands scope more)) by_stars in
    let mark = fault_if (varies && (before || is_slash other.1)) NotLinear other.0 in
    let rest = factors_faults true (before || varies) r r names (known_operands scope more) in
    let one = none_left mark (no_constraint whole other.0) (none_left (mark ++ no_constraint whole other.0) (faults_in scope r names other.2) (none_left (mark ++ no_constraint whole other.0 ++ faults_in scope r names other.2) rest quiet)) in
    let as_tree = part_varies_as_tree scope other.2 in (
      ap (λ (b : Bool). b && (before || is_slash other.1)) (sym as_tree) ∙ not_marked (varies && (before || is_slash other.1)) NotLinear other.0 one,
      ap (λ (b : Bool). not (before || b) || multiplies other.1) (sym as_tree) ∙ by.0,
      subst (λ (b : Bool). Linear scope (before || b) more) as_tree
          (linear scope (before || varies) r r names more by.1 (none_right (mark ++ no_constraint whole other.0 ++ faults_in scope r names other.2) rest quiet)),
    )

and_true : (b : Bool) → (b && true) ≡ false → b ≡ false
and_true true h = h
and_true false h = refl

-- behind a factor with variables there are constants
pub factors_from : (scope : Scope) (names others : Names) → Same names others → (more : List (Place × Token × Expr)) → AllGo scope (map (λ (x : Place × Token × Expr). x.2) more) → list_all numbers_kept (map (λ (x : Place × Token × Expr). x.2) more) ≡ true →
    Quiet scope role.Term names (map (λ (x : Place × Token × Expr). x.2) more) → Linear scope true more → AreFactors scope others more (typed_factors scope names more)
factors_from scope names others same [] go numbers quiet one = no_factor
factors_from scope names others same ((p, token, e) ∷ more) go numbers quiet one =
    let kept = both (numbers_kept e) (list_all numbers_kept (map (λ (x : Place × Token × Expr). x.2) more)) numbers in
    let fixed = go.0 role.Term names others same kept.0 quiet.0 (and_true (has_variables scope e) one.0) in
    subst (λ (k : Token). AreFactors scope others ((p, k, e) ∷ more) (typed_factors scope names ((p, token, e) ∷ more))) (sym (multiplies_as token one.1))
    (one_factor p (is_slash token) fixed.1 fixed.0 (factors_from scope names others same more go.1 kept.1 quiet.1 one.2))

-- constants before it are one
pub known_before : (scope : Scope) (names others : Names) (first : Expr) (before : List (Place × Token × Expr)) → IsConst scope others first (typed_const scope names first) → has_variables scope first ≡ false →
    AreOperands scope others before (typed_operands scope names before) → list_any (λ (x : Place × Token × Expr). has_variables scope x.2) before ≡ false →
    IsConst scope others (product_up_to first before) (known_product (typed_const scope names first) (typed_operands scope names before)) × (has_variables scope (product_up_to first before) ≡ false)
known_before scope names others first [] is none operands none_of = (is, none)
known_before scope names others first (other ∷ before) is none operands none_of = (const_product is operands, has-Times scope first (other ∷ before) ∙ neither _ _ none none_of)

operands_more : (scope : Scope) (others : Names) {before : List (Place × Token × Expr)} {cs : List (Place × Token × Const)} (p : Place) (token : Token) {e : Expr} {c : Const} → AreOperands scope others before cs → IsConst scope others e c →
    AreOperands scope others (before ++ (p, token, e) ∷ []) (cs ++ (p, token, c) ∷ [])
operands_more scope others p token no_operand is = one_operand p token is no_operand
operands_more scope others p token (one_operand q other first rest) is = one_operand q other first (operands_more scope others p token rest is)

typed_more : (scope : Scope) (names : Names) (before : List (Place × Token × Expr)) (other : Place × Token × Expr) →
    typed_operands scope names (before ++ other ∷ []) ≡ typed_operands scope names before ++ (other.0, other.1, typed_const scope names other.2) ∷ []
typed_more scope names [] other = refl
typed_more scope names (one ∷ before) other = ap (λ (rest : List (Place × Token × Const)). (one.0, one.1, typed_const scope names one.2) ∷ rest) (typed_more scope names before other)

none_more : (scope : Scope) (before : List (Place × Token × Expr)) (other : Place × Token × Expr) → list_any (λ (x : Place × Token × Expr). has_variables scope x.2) before ≡ false → has_variables scope other.2 ≡ false →
    list_any (λ (x : Place × Token × Expr). has_variables scope x.2) (before ++ other ∷ []) ≡ false
none_more scope [] other none is = neither _ _ is refl
none_more scope (one ∷ before) other none is =
    let rest = list_any (λ (x : Place × Token × Expr). has_variables scope x.2) before in
    neither _ _ (either_left (has_variables scope one.2) rest none) (none_more scope before other (either_right (has_variables scope one.2) rest none) is)

-- what is made of a product whose first operands are constants, where one behind them has variables
abbrev Multiple : Scope → Names → Names → Expr → List (Place × Token × Expr) → List (Place × Token × Expr) → Type 0
Multiple scope names others first before more =
    (t : Term) × (typed_product_behind scope names (typed_const scope names first) (typed_operands scope names before) more ≡ Some t) × IsTerm scope others (Times first (before ++ more)) t

multiple_here : (scope : Scope) (names others : Names) → Same names others → BindNoVariable scope names → (first : Expr) (before : List (Place × Token × Expr)) (p : Place) (token : Token) (e : Expr) (more : List (Place × Token × Expr)) →
    IsConst scope others (product_up_to first before) (known_product (typed_const scope names first) (typed_operands scope names before)) × (has_variables scope (product_up_to first before) ≡ false) →
    (t : Term) × (typed_term scope names e ≡ Some t) × IsTerm scope others e t → has_variables scope e ≡ true → (has_variables scope e && (false || is_slash token)) ≡ false → (not (false || has_variables scope e) || multiplies token) ≡ true →
    AreFactors scope others more (typed_factors scope names more) → Multiple scope names others first before ((p, token, e) ∷ more)
unfolding typed_product_behind
multiple_here scope names others same bind first before p token e more known made is no_slash by_star factors =
    let c = known_product (typed_const scope names first) (typed_operands scope names before) in
    let multiplied : multiplies token ≡ true = sym (ap (λ (b : Bool). not (false || b) || multiplies token) is) ∙ by_star in
    let times : is_slash token ≡ false = sym (ap (λ (b : Bool). b && (false || is_slash token)) is) ∙ no_slash in (
      term.Product (Some (c, p)) made.0 (typed_factors scope names more),
      (λ i. product_at (made.1 i) c p (typed_factors scope names more) (typed_product_behind scope names (typed_const scope names first) (typed_operands scope names before ++ (p, token, typed_const scope names e) ∷ []) more)),
      subst (λ (k : Token). IsTerm scope others (Times first (before ++ (p, k, e) ∷ more)) (term.Product (Some (c, p)) made.0 (typed_factors scope names more))) (sym (multiplies_as token multiplied ∙ ap multiplying times))
          (term_multiple p first e before more known.1 known.0 is made.2 factors),
    )

pub multiple_from : (scope : Scope) (names others : Names) → Same names others → BindNoVariable scope names → (first : Expr) → IsConst scope others first (typed_const scope names first) → has_variables scope first ≡ false → (before : List (Place × Token × Expr)) →
    AreOperands scope others before (typed_operands scope names before) → list_any (λ (x : Place × Token × Expr). has_variables scope x.2) before ≡ false → (more : List (Place × Token × Expr)) → AllGo scope (map (λ (x : Place × Token × Expr). x.2) more) →
    AllStill scope (map (λ (x : Place × Token × Expr). x.2) more) → AllMeasured scope (map (λ (x : Place × Token × Expr). x.2) more) → list_all numbers_kept (map (λ (x : Place × Token × Expr). x.2) more) ≡ true →
    Quiet scope role.Term names (map (λ (x : Place × Token × Expr). x.2) more) → Linear scope false more → list_any (λ (x : Place × Token × Expr). has_variables scope x.2) more ≡ true → Multiple scope names others first before more
unfolding typed_product_behind
multiple_from scope names others same bind first is none before operands none_of [] go still measured numbers quiet one varies = absurd (false≢true varies)
multiple_from scope names others same bind first is none before operands none_of ((p, token, e) ∷ more) go still measured numbers quiet one varies =
    at_has (has_variables scope e) refl
    (λ fixed there. multiple_from scope names others same bind first is none (before ++ (p, token, e) ∷ []) (subst (λ (cs : List (Place × Token × Const)). AreOperands scope others (before ++ (p, token, e) ∷ []) cs) (sym (typed_more scope names before (p, token, e))) (operands_more scope others p token operands fixed.0)) (none_more scope before (p, token, e) none_of fixed.1) more go.1 still.1 measured.1 kept.1 quiet.1
    (subst (λ (b : Bool). Linear scope (false || b) more) fixed.1 one.2) there)
  where
    kept : (numbers_kept e ≡ true) × (list_all numbers_kept (map (λ (x : Place × Token × Expr). x.2) more) ≡ true)
    kept = both (numbers_kept e) (list_all numbers_kept (map (λ (x : Place × Token × Expr). x.2) more)) numbers

    at_has : (has : Bool) → has_variables scope e ≡ has →
        (IsConst scope others e (typed_const scope names e) × (has_variables scope e ≡ false) → list_any (λ (x : Place × Token × Expr). has_variables scope x.2) more ≡ true → Multiple scope names others first (before ++ (p, token, e) ∷ []) more) →
        Multiple scope names others first before ((p, token, e) ∷ more)
    at_has true has rest =
        multiple_here scope names others same bind first before p token e more (known_before scope names others first before is none operands none_of) (measured.0 names others same bind kept.0 quiet.0 has) has one.0 one.1
        (factors_from scope names others same more go.1 kept.1 quiet.1 (subst (λ (b : Bool). Linear scope (false || b) more) has one.2))
    at_has false has rest =
        let made = rest (go.0 role.Term names others same kept.0 quiet.0 has) (right_holds (has_variables scope e) _ varies has) in
        let c = known_product (typed_const scope names first) (typed_operands scope names before) in
        let factors = typed_factors scope names more in (
          made.0,
          (λ i. product_at ((still.0 names has).0 i) c p factors (typed_product_behind scope names (typed_const scope names first) (typed_operands scope names before ++ (p, token, typed_const scope names e) ∷ []) more))
              ∙ ap (λ (known : List (Place × Token × Const)). typed_product_behind scope names (typed_const scope names first) known more) (sym (typed_more scope names before (p, token, e))) ∙ made.1,
          subst (λ (all : List (Place × Token × Expr)). IsTerm scope others (Times first all) made.0) (append_assoc before ((p, token, e) ∷ []) more) made.2,
        )
