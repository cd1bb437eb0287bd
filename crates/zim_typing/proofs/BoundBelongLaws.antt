-- The constant that is made of an expression in which nothing is marked as a bound of a variable belongs to the bound, if the expression is made of its parts.
use Rattle.std.proofs.Common.{◌≡◌, Bool, true, false, not, ◌||◌, ◌&&◌, List, [], ◌∷◌, ◌++◌, Option, Some, None, is_none, ◌⊎◌, inl, inr, refl, sym, ap, subst, ◌∙◌}
use Rattle.std.proofs.lemmas.Bool.{false≢true}
use Rattle.zim_fault.specs.declared.faults.Place.{Place}
use Rattle.zim_fault.specs.declared.kinds.Kind.TheVariants.{ArgCount, VariableHere}
use Rattle.zim_fault.specs.declared.tokens.Token.{Token}
use Rattle.zim_fault.specs.declared.words.Word.{Word}
use Rattle.zim_fault.specs.declared.words.Word.TheVariants.{WIndexset, WVabs, WSum, WProd}
use Rattle.zim_tree.specs.declared.expr.Expr.{Expr, Expr-F, roll-Expr, out-Expr}
use Rattle.zim_tree.specs.declared.expr.Expr.TheVariants.{Number, Text, Truth, Infinity, Name, Item, Call, Func, Proj, Paren, Braces, If, Factorial, Power, Signed, Big, Times, Plus, Compare, Member, Not, And, Or, Forall, rolls-Infinity}
use Rattle.zim_tree.specs.declared.expr.Body.TheViews.{roll-out-Expr}
use Rattle.zim_tree.specs.declared.expr.Angle.{Angle}
use Rattle.zim_tree.specs.declared.expr.Index.{Index}
use Rattle.zim_tree.specs.declared.expr.Body.{Body}
use Rattle.zim_tree.specs.Made.{Made, made_number, made_text, made_truth, made_infinity, made_name, made_item, made_call, made_function, made_projection, made_parentheses, made_braces, made_if, made_if_with_else, made_factorial, made_power, made_signed, made_big, made_product, made_sum, made_comparison, made_double_comparison, made_member, made_not, made_and, made_or, made_forall}
use Rattle.zim_typed.specs.declared.constant.Const.{Const}
use Rattle.zim_typed.specs.declared.constant.Const.TheVariants as const
use Rattle.zim_typed.specs.Scope.{Names, Scope}
use Rattle.zim_typed.specs.Statements.{IsBound, is_value, is_infinity, is_signed_infinity, is_chosen}
use Rattle.zim_static.specs.declared.role.Role.TheVariants as role
use Rattle.zim_static.specs.Roles.{operand, role_behind_sign}
use Rattle.zim_static.specs.Faults.{Part, part_of, parts_of, known_operands, fault_if, no_constraint, argument_faults, has_arguments, is_by_signs, is_by_stars, factors_faults, operands_faults}
use Rattle.zim_static.specs.StatementFaults.{faults_in}
use Rattle.zim_static.proofs.FirstLaws.{opens-Number, opens-Text, opens-Truth, opens-Name, opens-Item, opens-Call, opens-Func, opens-Proj, opens-Paren, opens-Braces, opens-If, opens-Factorial, opens-Power, opens-Signed, opens-Big, opens-Times, opens-Plus, opens-Compare, opens-Member, opens-Not, opens-And, opens-Or, opens-Forall}
use Rattle.zim_static.proofs.PartLaws.{at_expr}
use Rattle.zim_static.proofs.AroundLaws.{both}
use Rattle.zim_typing.specs.Typing.{typed_const}
use Rattle.zim_typing.specs.Numbers.{numbers_kept}
use Rattle.zim_typing.proofs.ConstantLaws.{makes-Infinity, makes-If, makes-Signed}
use Rattle.zim_typing.proofs.NumberLaws.{keeps-If}
use Rattle.zim_typing.proofs.NamesLemmas.{Same}
use Rattle.zim_typing.proofs.FitLemmas.{none_left, none_right, not_marked, either_way, value_sign, value_operand}
use Rattle.zim_typing.proofs.FunctionLemmas.{Kind, set_function, absolute as absolute_kind, value_function, kind_of}
use Rattle.zim_typing.proofs.GoesLemmas.{Goes}
use Rattle.zim_typing.proofs.BelongLaws.{goes}

-- an expression is the bound that is made of it, where nothing is marked in it as a bound
abbrev pub GoesBound : Scope → Expr → Type 0
GoesBound scope e = (names others : Names) → Same names others → numbers_kept e ≡ true → faults_in scope role.Bound names e ≡ [] → IsBound scope others e (typed_const scope names e)

-- an expression in which nothing is marked as a value, where nothing is as a bound
as_value : (scope : Scope) (e : Expr) → ((names : Names) → faults_in scope role.Bound names e ≡ [] → faults_in scope role.Value names e ≡ []) → Goes scope e → GoesBound scope e
as_value scope e h go names others same numbers quiet = is_value (go role.Value names others same numbers (h names quiet) tt).0

becomes : {scope : Scope} (names : Names) {others : Names} {e : Expr} {c : Const} → IsBound scope others e c → typed_const scope names e ≡ c → IsBound scope others e (typed_const scope names e)
becomes {scope} names {others} {e} belongs is = subst (λ (c : Const). IsBound scope others e c) (sym is) belongs

-- ---- signs

-- what isn't `infinity` stands behind a sign as a value
finite_sign : (infinite : Bool) → infinite ≡ false → role_behind_sign infinite role.Bound ≡ role.Value
finite_sign true h = absurd (false≢true (sym h))
finite_sign false h = refl

signed_finite : (scope : Scope) (p : Place) (minus : Bool) (inner : Expr) → (part_of scope inner).infinite ≡ false → Goes scope (Signed p minus inner) → GoesBound scope (Signed p minus inner)
signed_finite scope p minus inner finite =
    as_value scope (Signed p minus inner)
    (λ names quiet.
    opens-Signed scope role.Value names p minus inner ∙ (λ i. faults_in scope (value_sign (part_of scope inner).infinite i) names inner)
    ∙ sym (λ i. faults_in scope (finite_sign (part_of scope inner).infinite finite i) names inner) ∙ sym (opens-Signed scope role.Bound names p minus inner) ∙ quiet)

-- an expression is `infinity` or not
infinite_node : (scope : Scope) (d : Expr-F Body Expr Angle Index) → ((q : Place) × (roll-Expr d ≡ Infinity q)) ⊎ ((part_of scope (roll-Expr d)).infinite ≡ false)
infinite_node scope (Expr-F.Infinity a) = inl (a, rolls-Infinity a)
infinite_node scope (Expr-F.Number a b) = inr (ap (λ (part : Part). part.infinite) (at_expr scope (Expr-F.Number a b)))
infinite_node scope (Expr-F.Text a b c) = inr (ap (λ (part : Part). part.infinite) (at_expr scope (Expr-F.Text a b c)))
infinite_node scope (Expr-F.Truth a b) = inr (ap (λ (part : Part). part.infinite) (at_expr scope (Expr-F.Truth a b)))
infinite_node scope (Expr-F.Name a b) = inr (ap (λ (part : Part). part.infinite) (at_expr scope (Expr-F.Name a b)))
infinite_node scope (Expr-F.Item a b c) = inr (ap (λ (part : Part). part.infinite) (at_expr scope (Expr-F.Item a b c)))
infinite_node scope (Expr-F.Call a b c) = inr (ap (λ (part : Part). part.infinite) (at_expr scope (Expr-F.Call a b c)))
infinite_node scope (Expr-F.Func a b c) = inr (ap (λ (part : Part). part.infinite) (at_expr scope (Expr-F.Func a b c)))
infinite_node scope (Expr-F.Proj a b c) = inr (ap (λ (part : Part). part.infinite) (at_expr scope (Expr-F.Proj a b c)))
infinite_node scope (Expr-F.Paren a b) = inr (ap (λ (part : Part). part.infinite) (at_expr scope (Expr-F.Paren a b)))
infinite_node scope (Expr-F.Braces a b) = inr (ap (λ (part : Part). part.infinite) (at_expr scope (Expr-F.Braces a b)))
infinite_node scope (Expr-F.If a b c d e) = inr (ap (λ (part : Part). part.infinite) (at_expr scope (Expr-F.If a b c d e)))
infinite_node scope (Expr-F.Factorial a b) = inr (ap (λ (part : Part). part.infinite) (at_expr scope (Expr-F.Factorial a b)))
infinite_node scope (Expr-F.Power a b c d e) = inr (ap (λ (part : Part). part.infinite) (at_expr scope (Expr-F.Power a b c d e)))
infinite_node scope (Expr-F.Signed a b c) = inr (ap (λ (part : Part). part.infinite) (at_expr scope (Expr-F.Signed a b c)))
infinite_node scope (Expr-F.Big a b c d e) = inr (ap (λ (part : Part). part.infinite) (at_expr scope (Expr-F.Big a b c d e)))
infinite_node scope (Expr-F.Times a b) = inr (ap (λ (part : Part). part.infinite) (at_expr scope (Expr-F.Times a b)))
infinite_node scope (Expr-F.Plus a b) = inr (ap (λ (part : Part). part.infinite) (at_expr scope (Expr-F.Plus a b)))
infinite_node scope (Expr-F.Compare a b) = inr (ap (λ (part : Part). part.infinite) (at_expr scope (Expr-F.Compare a b)))
infinite_node scope (Expr-F.Member a b c) = inr (ap (λ (part : Part). part.infinite) (at_expr scope (Expr-F.Member a b c)))
infinite_node scope (Expr-F.Not a b) = inr (ap (λ (part : Part). part.infinite) (at_expr scope (Expr-F.Not a b)))
infinite_node scope (Expr-F.And a b) = inr (ap (λ (part : Part). part.infinite) (at_expr scope (Expr-F.And a b)))
infinite_node scope (Expr-F.Or a b) = inr (ap (λ (part : Part). part.infinite) (at_expr scope (Expr-F.Or a b)))
infinite_node scope (Expr-F.Forall a b c d) = inr (ap (λ (part : Part). part.infinite) (at_expr scope (Expr-F.Forall a b c d)))

bounded-Signed : (scope : Scope) (p : Place) (minus : Bool) (inner : Expr) → Goes scope (Signed p minus inner) → GoesBound scope (Signed p minus inner)
bounded-Signed scope p minus inner go =
    at_node (subst (λ (e : Expr). ((q : Place) × (e ≡ Infinity q)) ⊎ ((part_of scope e).infinite ≡ false)) (roll-out-Expr inner) (infinite_node scope (out-Expr inner)))
  where
    at_node : ((q : Place) × (inner ≡ Infinity q)) ⊎ ((part_of scope inner).infinite ≡ false) → GoesBound scope (Signed p minus inner)
    at_node (inr finite) = signed_finite scope p minus inner finite go
    at_node (inl found) =
        subst (λ (e : Expr). GoesBound scope (Signed p minus e)) (sym found.1)
        (λ names others same numbers quiet. becomes names (is_signed_infinity p found.0 minus) (makes-Signed scope names p minus (Infinity found.0) ∙ ap (λ (c : Const). const.Signed p minus c) (makes-Infinity scope names found.0)))

-- ---- other forms

bounded-Func : (scope : Scope) (p : Place) (word : Word) (given : List Expr) → Kind word → Goes scope (Func p word given) → GoesBound scope (Func p word given)
bounded-Func scope p _ given set_function go =
    as_value scope (Func p WIndexset given) (λ names quiet. opens-Func scope role.Value names p WIndexset given ∙ sym (opens-Func scope role.Bound names p WIndexset given) ∙ quiet) go
bounded-Func scope p _ given absolute_kind go =
    as_value scope (Func p WVabs given) (λ names quiet. opens-Func scope role.Value names p WVabs given ∙ sym (opens-Func scope role.Bound names p WVabs given) ∙ quiet) go
bounded-Func scope p word given (value_function value none counts roles sets) go =
    as_value scope (Func p word given)
    (λ names quiet.
    let parts = parts_of scope given in
    let mark = fault_if (not (has_arguments scope word parts)) ArgCount p in
    opens-Func scope role.Value names p word given
    ∙ (λ i. (mark ++ fault_if (none i && true) VariableHere p ++ no_constraint role.Value p) ++ argument_faults names parts (roles scope role.Value parts i))
    ∙ sym (λ i. (mark ++ fault_if (none i && true) VariableHere p ++ no_constraint role.Bound p) ++ argument_faults names parts (roles scope role.Bound parts i))
    ∙ sym (opens-Func scope role.Bound names p word given) ∙ quiet) go

bounded_choice : (scope : Scope) (p : Place) {test : Expr} (branch otherwise : Expr) → Made test → GoesBound scope branch → GoesBound scope otherwise → GoesBound scope (If p false test branch (Some otherwise))
bounded_choice scope p {test} branch otherwise t b e names others same numbers quiet =
    let quiet_here = sym (opens-If scope role.Bound names p false test branch (Some otherwise)) ∙ quiet in
    let one = faults_in scope role.Value names test in
    let two = faults_in scope role.Bound names branch in
    let three = faults_in scope role.Bound names otherwise in
    let kept = both _ _ (sym (keeps-If p false test branch (Some otherwise)) ∙ numbers) in
    becomes names (is_chosen p (goes scope t role.Value names others same kept.0 (none_left one two (none_left (one ++ two) three quiet_here)) tt).0
    (b names others same (both _ _ kept.1).0 (none_right one two (none_left (one ++ two) three quiet_here)))
    (e names others same (both _ _ kept.1).1 (none_right (one ++ two) three quiet_here))) (makes-If scope names p false test branch (Some otherwise))

-- a `vif`, or an `if` without `else`, is no bound
bounded_no_value : (scope : Scope) (p : Place) (vif : Bool) (test branch : Expr) (otherwise : Option Expr) → (vif || is_none otherwise) ≡ true → GoesBound scope (If p vif test branch otherwise)
bounded_no_value scope p vif test branch otherwise is names others same numbers quiet =
    let marked = not_marked _ _ p (none_left _ _ (none_left _ _ (none_left _ _ (sym (opens-If scope role.Bound names p vif test branch otherwise) ∙ quiet)))) in absurd (false≢true (sym marked ∙ (λ i. is i && true)))

bounded-Big : (scope : Scope) (p : Place) (word : Word) (index : Index) (with_do : Bool) (inner : Expr) → Goes scope (Big p word index with_do inner) → GoesBound scope (Big p word index with_do inner)
bounded-Big scope p WSum index with_do inner go =
    as_value scope (Big p WSum index with_do inner) (λ names quiet. opens-Big scope role.Value names p WSum index with_do inner ∙ sym (opens-Big scope role.Bound names p WSum index with_do inner) ∙ quiet) go
bounded-Big scope p WProd index with_do inner go =
    as_value scope (Big p WProd index with_do inner) (λ names quiet. opens-Big scope role.Value names p WProd index with_do inner ∙ sym (opens-Big scope role.Bound names p WProd index with_do inner) ∙ quiet) go
bounded-Big scope p word index with_do inner go =
    as_value scope (Big p word index with_do inner) (λ names quiet. opens-Big scope role.Value names p word index with_do inner ∙ sym (opens-Big scope role.Bound names p word index with_do inner) ∙ quiet) go

bound_operand : (b : Bool) → operand b role.Bound ≡ role.Value
bound_operand true = refl
bound_operand false = refl

bounded-Plus : (scope : Scope) (first : Expr) (other : Place × Token × Expr) (more : List (Place × Token × Expr)) → Goes scope (Plus first (other ∷ more)) → GoesBound scope (Plus first (other ∷ more))
unfolding operands_faults
bounded-Plus scope first other more =
    as_value scope (Plus first (other ∷ more))
    (λ names quiet.
    let all = known_operands scope (other ∷ more) in
    let b = is_by_signs (other ∷ more) in
    opens-Plus scope role.Value names first (other ∷ more) ∙ (λ i. faults_in scope (value_operand b i) names first ++ operands_faults role.Value (value_operand b i) names all)
    ∙ sym (λ i. faults_in scope (bound_operand b i) names first ++ operands_faults role.Bound (bound_operand b i) names all) ∙ sym (opens-Plus scope role.Bound names first (other ∷ more)) ∙ quiet)

bounded-Times : (scope : Scope) (first : Expr) (other : Place × Token × Expr) (more : List (Place × Token × Expr)) → Goes scope (Times first (other ∷ more)) → GoesBound scope (Times first (other ∷ more))
unfolding factors_faults
bounded-Times scope first other more =
    as_value scope (Times first (other ∷ more))
    (λ names quiet.
    let all = known_operands scope (other ∷ more) in
    let varies = (part_of scope first).varies in
    let b = is_by_stars varies all in
    opens-Times scope role.Value names first (other ∷ more) ∙ (λ i. faults_in scope (value_operand b i) names first ++ factors_faults b varies role.Value (value_operand b i) names all)
    ∙ sym (λ i. faults_in scope (bound_operand b i) names first ++ factors_faults b varies role.Bound (bound_operand b i) names all) ∙ sym (opens-Times scope role.Bound names first (other ∷ more)) ∙ quiet)

bounded-Or : (scope : Scope) (first : Expr) (other : Place × Bool × Expr) (more : List (Place × Bool × Expr)) → Goes scope (Or first (other ∷ more)) → GoesBound scope (Or first (other ∷ more))
unfolding operands_faults
bounded-Or scope first other more = as_value scope (Or first (other ∷ more)) (λ names quiet. opens-Or scope role.Value names first (other ∷ more) ∙ sym (opens-Or scope role.Bound names first (other ∷ more)) ∙ quiet)

pub bounded : (scope : Scope) {e : Expr} → Made e → GoesBound scope e
bounded scope (made_number p digits) = as_value scope (Number p digits) (λ names quiet. opens-Number scope role.Value names p digits) (goes scope (made_number p digits))
bounded scope (made_text p text double) = as_value scope (Text p text double) (λ names quiet. opens-Text scope role.Value names p text double) (goes scope (made_text p text double))
bounded scope (made_truth p truth) = as_value scope (Truth p truth) (λ names quiet. opens-Truth scope role.Value names p truth) (goes scope (made_truth p truth))
bounded scope (made_infinity p) = λ names others same numbers quiet. becomes names (is_infinity p) (makes-Infinity scope names p)
bounded scope (made_name p name) = as_value scope (Name p name) (λ names quiet. opens-Name scope role.Value names p name ∙ sym (opens-Name scope role.Bound names p name) ∙ quiet) (goes scope (made_name p name))
bounded scope (made_item p name {first = first} {others = others} all) =
    as_value scope (Item p name (first ∷ others)) (λ names quiet. opens-Item scope role.Value names p name (first ∷ others) ∙ sym (opens-Item scope role.Bound names p name (first ∷ others)) ∙ quiet) (goes scope (made_item p name all))
bounded scope (made_call p name {given = given} all) = as_value scope (Call p name given) (λ names quiet. opens-Call scope role.Value names p name given ∙ sym (opens-Call scope role.Bound names p name given) ∙ quiet) (goes scope (made_call p name all))
bounded scope (made_function p word {first = first} {others = others} h all) = bounded-Func scope p word (first ∷ others) (kind_of word h) (goes scope (made_function p word h all))
bounded scope (made_projection p {set = set} {positions = positions} s t) =
    as_value scope (Proj p set positions) (λ names quiet. opens-Proj scope role.Value names p set positions ∙ sym (opens-Proj scope role.Bound names p set positions) ∙ quiet) (goes scope (made_projection p s t))
bounded scope (made_parentheses p {inner = inner} m) = as_value scope (Paren p inner) (λ names quiet. opens-Paren scope role.Value names p inner ∙ sym (opens-Paren scope role.Bound names p inner) ∙ quiet) (goes scope (made_parentheses p m))
bounded scope (made_braces p {inside = inside} m) = as_value scope (Braces p inside) (λ names quiet. opens-Braces scope role.Value names p inside ∙ sym (opens-Braces scope role.Bound names p inside) ∙ quiet) (goes scope (made_braces p m))
bounded scope (made_if p vif {test = test} {branch = branch} t b) = bounded_no_value scope p vif test branch None (either_way vif)
bounded scope (made_if_with_else p true {test = test} {branch = branch} {otherwise = otherwise} t b e) = bounded_no_value scope p true test branch (Some otherwise) refl
bounded scope (made_if_with_else p false {test = test} {branch = branch} {otherwise = otherwise} t b e) = bounded_choice scope p branch otherwise t (bounded scope b) (bounded scope e)
bounded scope (made_factorial mark marks {operand = operand} m) =
    as_value scope (Factorial operand (mark ∷ marks)) (λ names quiet. opens-Factorial scope role.Value names operand (mark ∷ marks) ∙ sym (opens-Factorial scope role.Bound names operand (mark ∷ marks)) ∙ quiet) (goes scope (made_factorial mark marks m))
bounded scope (made_power p sign signed {base = base} {exponent = exponent} h b e) =
    as_value scope (Power p sign base signed exponent) (λ names quiet. opens-Power scope role.Value names p sign base signed exponent ∙ sym (opens-Power scope role.Bound names p sign base signed exponent) ∙ quiet) (goes scope (made_power p sign signed h b e))
bounded scope (made_signed p minus {operand = operand} m) = bounded-Signed scope p minus operand (goes scope (made_signed p minus m))
bounded scope (made_big p word with_do {index = index} {operand = operand} h i m) = bounded-Big scope p word index with_do operand (goes scope (made_big p word with_do h i m))
bounded scope (made_product {first = first} {other = other} {others = others} m ms) = bounded-Times scope first other others (goes scope (made_product m ms))
bounded scope (made_sum {first = first} {other = other} {others = others} m ms) = bounded-Plus scope first other others (goes scope (made_sum m ms))
bounded scope (made_comparison p relation {left = left} {right = right} l r) =
    as_value scope (Compare left ((p, relation, right) ∷ [])) (λ names quiet. opens-Compare scope role.Value names left ((p, relation, right) ∷ []) ∙ sym (opens-Compare scope role.Bound names left ((p, relation, right) ∷ [])) ∙ quiet) (goes scope (made_comparison p relation l r))
bounded scope (made_double_comparison p q lower upper {left = left} {middle = middle} {right = right} l m r) =
    as_value scope (Compare left ((p, lower, middle) ∷ (q, upper, right) ∷ []))
    (λ names quiet. opens-Compare scope role.Value names left ((p, lower, middle) ∷ (q, upper, right) ∷ []) ∙ sym (opens-Compare scope role.Bound names left ((p, lower, middle) ∷ (q, upper, right) ∷ [])) ∙ quiet)
    (goes scope (made_double_comparison p q lower upper l m r))
bounded scope (made_member p {tuple = tuple} {set = set} t s) =
    as_value scope (Member p tuple set) (λ names quiet. opens-Member scope role.Value names p tuple set ∙ sym (opens-Member scope role.Bound names p tuple set) ∙ quiet) (goes scope (made_member p t s))
bounded scope (made_not p {operand = operand} m) = as_value scope (Not p operand) (λ names quiet. opens-Not scope role.Value names p operand ∙ sym (opens-Not scope role.Bound names p operand) ∙ quiet) (goes scope (made_not p m))
bounded scope (made_and {first = first} {other = other} {others = others} m ms) =
    as_value scope (And first (other ∷ others)) (λ names quiet. opens-And scope role.Value names first (other ∷ others) ∙ sym (opens-And scope role.Bound names first (other ∷ others)) ∙ quiet) (goes scope (made_and m ms))
bounded scope (made_or {first = first} {other = other} {others = others} m ms) = bounded-Or scope first other others (goes scope (made_or m ms))
bounded scope (made_forall p with_do {index = index} {inside = inside} i m) =
    as_value scope (Forall p index with_do inside) (λ names quiet. opens-Forall scope role.Value names p index with_do inside ∙ sym (opens-Forall scope role.Bound names p index with_do inside) ∙ quiet) (goes scope (made_forall p with_do i m))
