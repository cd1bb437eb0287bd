-- What is made of an expression without variables is no term and no condition, but a constant alone.
use Rattle.std.proofs.Common.{◌≡◌, Bool, true, false, ◌||◌, List, [], ◌∷◌, ◌++◌, map, Option, Some, None, option_map, is_some, refl, sym, ap, ◌∙◌}
use Rattle.std.proofs.lemmas.Bool.{false≢true}
use Rattle.std.specs.List.{list_any}
use Rattle.zim_fault.specs.declared.faults.Place.{Place}
use Rattle.zim_fault.specs.declared.tokens.Token.{Token}
use Rattle.zim_fault.specs.declared.tokens.Join.TheVariants as join
use Rattle.zim_fault.specs.declared.words.Word.{Word}
use Rattle.zim_fault.specs.declared.words.Word.TheVariants.{WSum, WVabs}
use Rattle.zim_tree.specs.declared.expr.Expr.{Expr}
use Rattle.zim_tree.specs.declared.expr.Expr.TheVariants.{Func, If}
use Rattle.zim_tree.specs.Levels.{Chain, Operands}
use Rattle.zim_tree.specs.Made.{Made, MadeAll, MadeOperands, MadeConjuncts, MadeDisjuncts, made_number, made_text, made_truth, made_infinity, made_name, made_item, made_call, made_function, made_projection, made_parentheses, made_braces, made_if, made_if_with_else, made_factorial, made_power, made_signed, made_big, made_product, made_sum, made_comparison, made_double_comparison, made_member, made_not, made_and, made_or, made_forall, made_none, made_one, made_no_operand, made_one_operand, made_no_conjunct, made_one_conjunct, made_no_disjunct, made_one_disjunct}
use Rattle.zim_typed.specs.declared.constant.Const.{Const}
use Rattle.zim_typed.specs.declared.constant.Loop.{Loop}
use Rattle.zim_typed.specs.declared.constraint.Term.{Term}
use Rattle.zim_typed.specs.declared.constraint.Cond.{Cond}
use Rattle.zim_typed.specs.declared.constraint.Cond.TheVariants as cond
use Rattle.zim_typed.specs.Scope.{Names, Scope}
use Rattle.zim_typed.specs.Terms.{or_join}
use Rattle.zim_typed.specs.Variables.{has_variables, names_variable, is_vabs}
use Rattle.zim_typed.proofs.VariableLaws.{has-Name, has-Item, has-Func, has-Paren, has-If, has-Signed, has-Big, has-Times, has-Plus, has-Compare, has-Not, has-And, has-Or}
use Rattle.zim_typing.specs.Typing.{is_minus, column_if, signed_term, summation, absolute_term, picked_term, sum_if, product_at, product_or, known_product, compared_if, chain_if, names_inside, typed_const, typed_index, typed_term, some_term, typed_factors, typed_product_behind, typed_cond, some_cond}
use Rattle.zim_typing.proofs.TermLaws as laws
use Rattle.zim_typing.proofs.FunctionLemmas.{Kind, set_function, absolute as absolute_kind, value_function, kind_of}
use Rattle.zim_typing.proofs.FitLemmas.{either_left, either_right, neither}

-- an expression without variables is no term and no condition
abbrev pub Still : Scope → Expr → Type 0
Still scope e = (names : Names) → has_variables scope e ≡ false → (typed_term scope names e ≡ None) × (typed_cond scope names e ≡ None)

-- each of these expressions is so
abbrev pub AllStill : Scope → List Expr → Type 0
AllStill scope [] = Unit {0}
AllStill scope (e ∷ es) = Still scope e × AllStill scope es

-- a part that is none is not there
nothing : {A : Type 0} (o : Option A) → o ≡ None → is_some o ≡ false
nothing o is = ap is_some is

no_absolute : (word : Word) (p : Place) (ts : List Term) → is_vabs word ≡ false → absolute_term word p ts ≡ None
no_absolute WVabs p ts h = absurd (false≢true (sym h))
no_absolute _ p ts h = refl

no_summation : (word : Word) (p : Place) (l : Loop) → summation word p l None ≡ None
no_summation WSum p l = refl
no_summation _ p l = refl

no_signed : (p : Place) (minus : Bool) → signed_term p minus None ≡ None
no_signed p true = refl
no_signed p false = refl

-- ---- lists of operands

any_still : {O : Type 0} (scope : Scope) (names : Names) (others : List (Place × O × Expr)) → AllStill scope (map (λ (x : Place × O × Expr). x.2) others) → list_any (λ (x : Place × O × Expr). has_variables scope x.2) others ≡ false →
    (list_any (λ (x : Place × O × Expr). is_some (typed_term scope names x.2)) others ≡ false) × (list_any (λ (x : Place × O × Expr). is_some (typed_cond scope names x.2)) others ≡ false)
any_still scope names [] still h = (refl, refl)
any_still {O} scope names (other ∷ others) still h =
    let one = still.0 names (either_left (has_variables scope other.2) (list_any (λ (x : Place × O × Expr). has_variables scope x.2) others) h) in
    let rest = any_still scope names others still.1 (either_right (has_variables scope other.2) (list_any (λ (x : Place × O × Expr). has_variables scope x.2) others) h) in
    (neither _ _ (nothing _ one.0) rest.0, neither _ _ (nothing _ one.1) rest.1)

any_still_and : (scope : Scope) (names : Names) (others : List (Place × Expr)) → AllStill scope (map (λ (x : Place × Expr). x.1) others) → list_any (λ (x : Place × Expr). has_variables scope x.1) others ≡ false →
    list_any (λ (x : Place × Expr). is_some (typed_cond scope names x.1)) others ≡ false
any_still_and scope names [] still h = refl
any_still_and scope names (other ∷ others) still h =
    neither _ _ (nothing _ (still.0 names (either_left (has_variables scope other.1) (list_any (λ (x : Place × Expr). has_variables scope x.1) others) h)).1)
    (any_still_and scope names others still.1 (either_right (has_variables scope other.1) (list_any (λ (x : Place × Expr). has_variables scope x.1) others) h))

behind_still : (scope : Scope) (names : Names) (first : Const) (before : List (Place × Token × Const)) (others : List (Place × Token × Expr)) → AllStill scope (map (λ (x : Place × Token × Expr). x.2) others) →
    list_any (λ (x : Place × Token × Expr). has_variables scope x.2) others ≡ false → typed_product_behind scope names first before others ≡ None
unfolding typed_product_behind
behind_still scope names first before [] still h = refl
behind_still scope names first before (other ∷ others) still h =
    let one = still.0 names (either_left (has_variables scope other.2) (list_any (λ (x : Place × Token × Expr). has_variables scope x.2) others) h) in
    let more = before ++ (other.0, other.1, typed_const scope names other.2) ∷ [] in
    let rest = behind_still scope names first more others still.1 (either_right (has_variables scope other.2) (list_any (λ (x : Place × Token × Expr). has_variables scope x.2) others) h) in
    (λ i. product_at (one.0 i) (known_product first before) other.0 (typed_factors scope names others) (typed_product_behind scope names first more others)) ∙ rest

-- ---- nodes

still_function : (scope : Scope) (p : Place) (word : Word) (given : List Expr) → Kind word → Still scope (Func p word given)
still_function scope p _ given set_function names h = (laws.term-Func scope names p _ given, laws.cond-Func scope names p _ given)
still_function scope p _ given absolute_kind names h = absurd (false≢true (sym (either_left true (list_any (has_variables scope) given) (sym (has-Func scope p WVabs given) ∙ h))))
still_function scope p word given (value_function value never counts roles sets) names h =
    (laws.term-Func scope names p word given ∙ no_absolute word p (map (some_term scope names) given) never, laws.cond-Func scope names p word given)

still_if : (scope : Scope) (p : Place) (vif : Bool) (test branch : Expr) → Still scope (If p vif test branch None)
still_if scope p true test branch names h = (laws.term-If scope names p true test branch None, laws.cond-If scope names p true test branch None)
still_if scope p false test branch names h = (laws.term-If scope names p false test branch None, laws.cond-If scope names p false test branch None)

still_choice : (scope : Scope) (p : Place) (vif : Bool) (test branch otherwise : Expr) → Still scope branch → Still scope otherwise → Still scope (If p vif test branch (Some otherwise))
still_choice scope p true test branch otherwise b e names h = (laws.term-If scope names p true test branch (Some otherwise), laws.cond-If scope names p true test branch (Some otherwise))
still_choice scope p false test branch otherwise b e names h =
    let has = sym (has-If scope p false test branch (Some otherwise)) ∙ h in
    let first = b names (either_right (has_variables scope test) (has_variables scope branch) (either_left (has_variables scope test || has_variables scope branch) (has_variables scope otherwise) has)) in
    let second = e names (either_right (has_variables scope test || has_variables scope branch) (has_variables scope otherwise) has) in (
      laws.term-If scope names p false test branch (Some otherwise)
          ∙ ap (λ (b : Bool). picked_term p (typed_const scope names test) b (some_term scope names branch) (some_term scope names otherwise)) (neither _ _ (nothing _ first.0) (nothing _ second.0)),
      laws.cond-If scope names p false test branch (Some otherwise),
    )

mutual
  pub still : (scope : Scope) {e : Expr} → Made e → Still scope e
  still scope (made_number p digits) names h = (laws.term-Number scope names p digits, laws.cond-Number scope names p digits)
  still scope (made_text p text double) names h = (laws.term-Text scope names p text double, laws.cond-Text scope names p text double)
  still scope (made_truth p truth) names h = (laws.term-Truth scope names p truth, laws.cond-Truth scope names p truth)
  still scope (made_infinity p) names h = (laws.term-Infinity scope names p, laws.cond-Infinity scope names p)
  still scope (made_name p name) names h = (laws.term-Name scope names p name ∙ ap (λ (b : Bool). column_if b p name []) (sym (has-Name scope p name) ∙ h), laws.cond-Name scope names p name)
  still scope (made_item p name {first = first} {others = others} all) names h = (
    laws.term-Item scope names p name (first ∷ others)
        ∙ ap (λ (b : Bool). column_if b p name (map (typed_const scope names) (first ∷ others))) (either_left (names_variable scope name) (list_any (has_variables scope) (first ∷ others)) (sym (has-Item scope p name (first ∷ others)) ∙ h)),
    laws.cond-Item scope names p name (first ∷ others),
  )
  still scope (made_call p name {given = given} all) names h = (laws.term-Call scope names p name given, laws.cond-Call scope names p name given)
  still scope (made_function p word {first = first} {others = others} k all) names h = still_function scope p word (first ∷ others) (kind_of word k) names h
  still scope (made_projection p {set = set} {positions = positions} s t) names h = (laws.term-Proj scope names p set positions, laws.cond-Proj scope names p set positions)
  still scope (made_parentheses p {inner = inner} m) names h =
      let made = still scope m names (sym (has-Paren scope p inner) ∙ h) in (laws.term-Paren scope names p inner ∙ made.0, laws.cond-Paren scope names p inner ∙ made.1)
  still scope (made_braces p {inside = inside} m) names h = (laws.term-Braces scope names p inside, laws.cond-Braces scope names p inside)
  still scope (made_if p vif {test = test} {branch = branch} t b) names h = still_if scope p vif test branch names h
  still scope (made_if_with_else p vif {test = test} {branch = branch} {otherwise = otherwise} t b e) names h = still_choice scope p vif test branch otherwise (still scope b) (still scope e) names h
  still scope (made_factorial mark marks {operand = operand} m) names h = (laws.term-Factorial scope names operand (mark ∷ marks), laws.cond-Factorial scope names operand (mark ∷ marks))
  still scope (made_power p sign signed {base = base} {exponent = exponent} k b e) names h = (laws.term-Power scope names p sign base signed exponent, laws.cond-Power scope names p sign base signed exponent)
  still scope (made_signed p minus {operand = operand} m) names h =
      let made = still scope m names (sym (has-Signed scope p minus operand) ∙ h) in
      (laws.term-Signed scope names p minus operand ∙ (λ i. signed_term p minus (made.0 i)) ∙ no_signed p minus, laws.cond-Signed scope names p minus operand)
  still scope (made_big p word with_do {index = index} {operand = operand} k i m) names h =
      let made = still scope m (names_inside scope names index) (either_right _ (has_variables scope operand) (sym (has-Big scope p word index with_do operand) ∙ h)) in
      (laws.term-Big scope names p word index with_do operand ∙ (λ i. summation word p (typed_index scope names index) (made.0 i)) ∙ no_summation word p (typed_index scope names index), laws.cond-Big scope names p word index with_do operand)
  still scope (made_product {first = first} {other = other} {others = others} m ms) names h =
      let has = sym (has-Times scope first (other ∷ others)) ∙ h in
      let one = still scope m names (either_left (has_variables scope first) (list_any (λ (x : Place × Token × Expr). has_variables scope x.2) (other ∷ others)) has) in
      let rest = behind_still scope names (typed_const scope names first) [] (other ∷ others) (operands_still scope ms) (either_right (has_variables scope first) (list_any (λ (x : Place × Token × Expr). has_variables scope x.2) (other ∷ others)) has) in
      (laws.term-Times scope names first (other ∷ others) ∙ (λ i. product_or (one.0 i) (typed_factors scope names (other ∷ others)) (rest i)), laws.cond-Times scope names first (other ∷ others))
  still scope (made_sum {first = first} {other = other} {others = others} m ms) names h =
      let has = sym (has-Plus scope first (other ∷ others)) ∙ h in
      let one = still scope m names (either_left (has_variables scope first) (list_any (λ (x : Place × Token × Expr). has_variables scope x.2) (other ∷ others)) has) in
      let rest = any_still scope names (other ∷ others) (operands_still scope ms) (either_right (has_variables scope first) (list_any (λ (x : Place × Token × Expr). has_variables scope x.2) (other ∷ others)) has) in (
        laws.term-Plus scope names first (other ∷ others)
            ∙ ap (λ (b : Bool). sum_if b (some_term scope names first) (map (λ (x : Place × Token × Expr). (x.0, is_minus x.1, some_term scope names x.2)) (other ∷ others))) (neither _ _ (nothing _ one.0) rest.0),
        laws.cond-Plus scope names first (other ∷ others),
      )
  still scope (made_comparison p relation {left = left} {right = right} l r) names h =
      let has = sym (has-Compare scope left ((p, relation, right) ∷ [])) ∙ h in
      let first = still scope l names (either_left (has_variables scope left) (has_variables scope right || false) has) in
      let second = still scope r names (either_left (has_variables scope right) false (either_right (has_variables scope left) (has_variables scope right || false) has)) in (
        laws.term-Compare scope names left ((p, relation, right) ∷ []),
        laws.cond-Compare scope names left ((p, relation, right) ∷ [])
            ∙ ap (λ (b : Bool). compared_if b p relation (some_term scope names left) (some_term scope names right)) (neither _ _ (nothing _ first.0) (nothing _ second.0)),
      )
  still scope (made_double_comparison p q lower upper {left = left} {middle = middle} {right = right} l m r) names h =
      (laws.term-Compare scope names left ((p, lower, middle) ∷ (q, upper, right) ∷ []), laws.cond-Compare scope names left ((p, lower, middle) ∷ (q, upper, right) ∷ []))
  still scope (made_member p {tuple = tuple} {set = set} t s) names h = (laws.term-Member scope names p tuple set, laws.cond-Member scope names p tuple set)
  still scope (made_not p {operand = operand} m) names h =
      let made = still scope m names (sym (has-Not scope p operand) ∙ h) in
      (laws.term-Not scope names p operand, laws.cond-Not scope names p operand ∙ (λ i. option_map (λ (c : Cond). cond.Not p c) (made.1 i)))
  still scope (made_and {first = first} {other = other} {others = others} m ms) names h =
      let has = sym (has-And scope first (other ∷ others)) ∙ h in
      let one = still scope m names (either_left (has_variables scope first) (list_any (λ (x : Place × Expr). has_variables scope x.1) (other ∷ others)) has) in
      let rest = any_still_and scope names (other ∷ others) (conjuncts_still scope ms) (either_right (has_variables scope first) (list_any (λ (x : Place × Expr). has_variables scope x.1) (other ∷ others)) has) in (
        laws.term-And scope names first (other ∷ others),
        laws.cond-And scope names first (other ∷ others)
            ∙ ap (λ (b : Bool). chain_if b (some_cond scope names first) (map (λ (x : Place × Expr). (x.0, join.And, some_cond scope names x.1)) (other ∷ others))) (neither _ _ (nothing _ one.1) rest),
      )
  still scope (made_or {first = first} {other = other} {others = others} m ms) names h =
      let has = sym (has-Or scope first (other ∷ others)) ∙ h in
      let one = still scope m names (either_left (has_variables scope first) (list_any (λ (x : Place × Bool × Expr). has_variables scope x.2) (other ∷ others)) has) in
      let rest = any_still scope names (other ∷ others) (disjuncts_still scope ms) (either_right (has_variables scope first) (list_any (λ (x : Place × Bool × Expr). has_variables scope x.2) (other ∷ others)) has) in (
        laws.term-Or scope names first (other ∷ others),
        laws.cond-Or scope names first (other ∷ others)
            ∙ ap (λ (b : Bool). chain_if b (some_cond scope names first) (map (λ (x : Place × Bool × Expr). (x.0, or_join x.1, some_cond scope names x.2)) (other ∷ others))) (neither _ _ (nothing _ one.1) rest.1),
      )
  still scope (made_forall p with_do {index = index} {inside = inside} i m) names h = (laws.term-Forall scope names p index with_do inside, laws.cond-Forall scope names p index with_do inside)

  pub all_still : (scope : Scope) {items : List Expr} → MadeAll items → AllStill scope items
  all_still scope made_none = tt
  all_still scope (made_one m ms) = (still scope m, all_still scope ms)

  pub operands_still : (scope : Scope) {chain : Chain} {others : Operands} → MadeOperands chain others → AllStill scope (map (λ (x : Place × Token × Expr). x.2) others)
  operands_still scope made_no_operand = tt
  operands_still scope (made_one_operand p token h m ms) = (still scope m, operands_still scope ms)

  pub conjuncts_still : (scope : Scope) {others : List (Place × Expr)} → MadeConjuncts others → AllStill scope (map (λ (x : Place × Expr). x.1) others)
  conjuncts_still scope made_no_conjunct = tt
  conjuncts_still scope (made_one_conjunct p m ms) = (still scope m, conjuncts_still scope ms)

  pub disjuncts_still : (scope : Scope) {others : List (Place × Bool × Expr)} → MadeDisjuncts others → AllStill scope (map (λ (x : Place × Bool × Expr). x.2) others)
  disjuncts_still scope made_no_disjunct = tt
  disjuncts_still scope (made_one_disjunct p xor m ms) = (still scope m, disjuncts_still scope ms)
