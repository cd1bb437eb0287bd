-- The constraint that is made of an expression in which nothing is marked as a constraint belongs to the expression, if the expression is made of its parts.
use Rattle.std.proofs.Common.{◌≡◌, Bool, true, false, not, ◌||◌, ◌&&◌, List, [], ◌∷◌, ◌++◌, map, Some, None, refl, sym, subst, ◌∙◌}
use Rattle.std.proofs.lemmas.Bool.{false≢true, not-false}
use Rattle.std.specs.List.{list_all}
use Rattle.zim_fault.specs.declared.faults.Place.{Place}
use Rattle.zim_fault.specs.declared.faults.Fault.{Fault}
use Rattle.zim_fault.specs.declared.kinds.Kind.TheVariants.{NotConstraint}
use Rattle.zim_fault.specs.declared.tokens.Token.{Token}
use Rattle.zim_fault.specs.declared.tokens.Relation.{Relation}
use Rattle.zim_fault.specs.declared.tokens.Relation.TheVariants.{AtMost, AtLeast}
use Rattle.zim_tree.specs.declared.expr.Expr.{Expr}
use Rattle.zim_tree.specs.declared.expr.Expr.TheVariants.{Number, Text, Truth, Infinity, Name, Item, Call, Func, Proj, Paren, Braces, If, Factorial, Power, Signed, Big, Times, Plus, Compare, Member, Not, And, Or, Forall}
use Rattle.zim_tree.specs.declared.expr.Index.{Index}
use Rattle.zim_tree.specs.Made.{Made, MadeConjuncts, made_number, made_text, made_truth, made_infinity, made_name, made_item, made_call, made_function, made_projection, made_parentheses, made_braces, made_if, made_if_with_else, made_factorial, made_power, made_signed, made_big, made_product, made_sum, made_comparison, made_double_comparison, made_member, made_not, made_and, made_or, made_forall, made_no_conjunct, made_one_conjunct}
use Rattle.zim_typed.specs.declared.constraint.Con.{Con}
use Rattle.zim_typed.specs.declared.constraint.Con.TheVariants as con
use Rattle.zim_typed.specs.Scope.{Names, Scope}
use Rattle.zim_typed.specs.Terms.{IsCon, AreCons, con_parentheses, con_comparison, con_range, con_and, con_forall, con_if, con_if_with_else, con_vif, con_vif_with_else, no_con, one_con, may_constrain, may_enclose}
use Rattle.zim_static.specs.declared.role.Role.TheVariants as role
use Rattle.zim_static.specs.Faults.{part_of, part_of_index, fault_if, no_constraint, encloses, operands_faults, factors_faults}
use Rattle.zim_static.specs.StatementFaults.{faults_in}
use Rattle.zim_static.proofs.FirstLaws.{opens-Number, opens-Text, opens-Truth, opens-Infinity, opens-Name, opens-Item, opens-Call, opens-Func, opens-Proj, opens-Paren, opens-Braces, opens-If, opens-Factorial, opens-Power, opens-Signed, opens-Big, opens-Times, opens-Plus, opens-Compare, opens-Member, opens-Not, opens-And, opens-Or, opens-Forall}
use Rattle.zim_static.proofs.PartLaws.{part_varies_as_tree, index_names_known}
use Rattle.zim_static.proofs.AroundLaws.{both}
use Rattle.zim_typing.specs.Typing.{names_inside, typed_const, some_term, typed_con}
use Rattle.zim_typing.specs.Numbers.{numbers_kept}
use Rattle.zim_typing.specs.Law.{BindNoVariable}
use Rattle.zim_typing.proofs.NumberLaws.{keeps-Paren, keeps-If, keeps-Compare, keeps-And, keeps-Forall}
use Rattle.zim_typing.proofs.TermLaws.{con-Paren, con-If, con-Compare, con-And, con-Forall}
use Rattle.zim_typing.proofs.NamesLemmas.{Same}
use Rattle.zim_typing.proofs.FitLemmas.{none_left, none_right, not_marked, either_left, either_right}
use Rattle.zim_typing.proofs.GoesLemmas.{Quiet, quiet_conjuncts, GoesIndex}
use Rattle.zim_typing.proofs.BelongLaws.{goes, index_goes}
use Rattle.zim_typing.proofs.StillLemmas.{still}
use Rattle.zim_typing.proofs.MeasuredLemmas.{inside_binds, fits}
use Rattle.zim_typing.proofs.TermBelongLaws.{measured}
use Rattle.zim_typing.proofs.DecidedLemmas.{fits_condition}
use Rattle.zim_typing.proofs.ConditionBelongLaws.{decided}

-- an expression is the constraint that is made of it, where nothing is marked in it as a constraint
abbrev pub GoesConstraint : Scope → Expr → Type 0
GoesConstraint scope e =
    (names others : Names) → Same names others → BindNoVariable scope names → numbers_kept e ≡ true → faults_in scope role.Constraint names e ≡ [] → IsCon scope others e (typed_con scope names e)

-- each is a constraint
abbrev AllConstrain : Scope → List Expr → Type 0
AllConstrain scope [] = Unit {0}
AllConstrain scope (e ∷ es) = GoesConstraint scope e × AllConstrain scope es

-- ---- what is no constraint

-- a fault is there
marked : (f : Fault) (fs : List Fault) → f ∷ fs ≡ [] → ⊥
marked f fs h = cc

becomes : {scope : Scope} (names : Names) {others : Names} {e : Expr} {c : Con} → IsCon scope others e c → typed_con scope names e ≡ c → IsCon scope others e (typed_con scope names e)
becomes {scope} names {others} {e} belongs is = subst (λ (c : Con). IsCon scope others e c) (sym is) belongs

-- of an expression that is no constraint there is nothing to show
no_constraint_here : (scope : Scope) (e : Expr) → ((names : Names) → faults_in scope role.Constraint names e ≡ [] → ⊥) → GoesConstraint scope e
no_constraint_here scope e h names others same bind numbers quiet = absurd (h names quiet)

outside-Times : (scope : Scope) (first : Expr) (other : Place × Token × Expr) (more : List (Place × Token × Expr)) (names : Names) → faults_in scope role.Constraint names (Times first (other ∷ more)) ≡ [] → ⊥
unfolding factors_faults
outside-Times scope first other more names quiet = marked _ _ (none_right _ (no_constraint role.Constraint other.0) (none_left _ _ (none_left _ _ (none_right _ _ (sym (opens-Times scope role.Constraint names first (other ∷ more)) ∙ quiet)))))

outside-Plus : (scope : Scope) (first : Expr) (other : Place × Token × Expr) (more : List (Place × Token × Expr)) (names : Names) → faults_in scope role.Constraint names (Plus first (other ∷ more)) ≡ [] → ⊥
unfolding operands_faults
outside-Plus scope first other more names quiet = marked _ _ (none_right _ _ (sym (opens-Plus scope role.Constraint names first (other ∷ more)) ∙ quiet))

outside-Or : (scope : Scope) (first : Expr) (other : Place × Bool × Expr) (more : List (Place × Bool × Expr)) (names : Names) → faults_in scope role.Constraint names (Or first (other ∷ more)) ≡ [] → ⊥
unfolding operands_faults
outside-Or scope first other more names quiet = marked _ _ (none_right _ _ (sym (opens-Or scope role.Constraint names first (other ∷ more)) ∙ quiet))

-- ---- what is one

constrains-Paren : (scope : Scope) (p : Place) (inner : Expr) → GoesConstraint scope inner → GoesConstraint scope (Paren p inner)
constrains-Paren scope p inner go names others same bind numbers quiet =
    becomes names (con_parentheses p (go names others same bind (sym (keeps-Paren p inner) ∙ numbers) (sym (opens-Paren scope role.Constraint names p inner) ∙ quiet))) (con-Paren scope names p inner)

constrains_if : (scope : Scope) (p : Place) {test : Expr} (branch : Expr) → Made test → GoesConstraint scope branch → GoesConstraint scope (If p false test branch None)
constrains_if scope p {test} branch t go names others same bind numbers quiet =
    let quiet_here = sym (opens-If scope role.Constraint names p false test branch None) ∙ quiet in
    let one = faults_in scope role.Value names test in
    let two = faults_in scope role.Constraint names branch in
    let kept = both _ _ (sym (keeps-If p false test branch None) ∙ numbers) in
    becomes names (con_if p (goes scope t role.Value names others same kept.0 (none_left one two (none_left (one ++ two) [] quiet_here)) tt).0
    (go names others same bind (both _ _ kept.1).0 (none_right one two (none_left (one ++ two) [] quiet_here)))) (con-If scope names p false test branch None)

constrains_if_with_else : (scope : Scope) (p : Place) {test : Expr} (branch otherwise : Expr) → Made test → GoesConstraint scope branch → GoesConstraint scope otherwise → GoesConstraint scope (If p false test branch (Some otherwise))
constrains_if_with_else scope p {test} branch otherwise t go more names others same bind numbers quiet =
    let quiet_here = sym (opens-If scope role.Constraint names p false test branch (Some otherwise)) ∙ quiet in
    let one = faults_in scope role.Value names test in
    let two = faults_in scope role.Constraint names branch in
    let three = faults_in scope role.Constraint names otherwise in
    let kept = both _ _ (sym (keeps-If p false test branch (Some otherwise)) ∙ numbers) in
    becomes names (con_if_with_else p (goes scope t role.Value names others same kept.0 (none_left one two (none_left (one ++ two) three quiet_here)) tt).0
    (go names others same bind (both _ _ kept.1).0 (none_right one two (none_left (one ++ two) three quiet_here)))
    (more names others same bind (both _ _ kept.1).1 (none_right (one ++ two) three quiet_here))) (con-If scope names p false test branch (Some otherwise))

constrains_vif : (scope : Scope) (p : Place) {test : Expr} (branch : Expr) → Made test → GoesConstraint scope branch → GoesConstraint scope (If p true test branch None)
constrains_vif scope p {test} branch t go names others same bind numbers quiet =
    let quiet_here = sym (opens-If scope role.Constraint names p true test branch None) ∙ quiet in
    let one = faults_in scope role.Condition names test in
    let two = faults_in scope role.Constraint names branch in
    let kept = both _ _ (sym (keeps-If p true test branch None) ∙ numbers) in
    becomes names (con_vif p (fits_condition scope test (goes scope t) (still scope t) (decided scope t) names others same bind kept.0 (none_left one two (none_left (one ++ two) [] quiet_here))).0
    (go names others same bind (both _ _ kept.1).0 (none_right one two (none_left (one ++ two) [] quiet_here)))) (con-If scope names p true test branch None)

constrains_vif_with_else : (scope : Scope) (p : Place) {test : Expr} (branch otherwise : Expr) → Made test → GoesConstraint scope branch → GoesConstraint scope otherwise → GoesConstraint scope (If p true test branch (Some otherwise))
constrains_vif_with_else scope p {test} branch otherwise t go more names others same bind numbers quiet =
    let quiet_here = sym (opens-If scope role.Constraint names p true test branch (Some otherwise)) ∙ quiet in
    let one = faults_in scope role.Condition names test in
    let two = faults_in scope role.Constraint names branch in
    let three = faults_in scope role.Constraint names otherwise in
    let kept = both _ _ (sym (keeps-If p true test branch (Some otherwise)) ∙ numbers) in
    becomes names (con_vif_with_else p (fits_condition scope test (goes scope t) (still scope t) (decided scope t) names others same bind kept.0 (none_left one two (none_left (one ++ two) three quiet_here))).0
    (go names others same bind (both _ _ kept.1).0 (none_right one two (none_left (one ++ two) three quiet_here)))
    (more names others same bind (both _ _ kept.1).1 (none_right (one ++ two) three quiet_here))) (con-If scope names p true test branch (Some otherwise))

constrains_comparison : (scope : Scope) (p : Place) (relation : Relation) {left right : Expr} → Made left → Made right → GoesConstraint scope (Compare left ((p, relation, right) ∷ []))
constrains_comparison scope p relation {left} {right} l r names others same bind numbers quiet =
    let quiet_here = sym (opens-Compare scope role.Constraint names left ((p, relation, right) ∷ [])) ∙ quiet in
    let one = faults_in scope role.Term names left in
    let mark = fault_if (not (may_constrain relation)) NotConstraint p in
    let two = faults_in scope role.Term names right in
    let kept = both _ _ (sym (keeps-Compare left ((p, relation, right) ∷ [])) ∙ numbers) in
    becomes names (con_comparison p relation (not-false (may_constrain relation) (not_marked (not (may_constrain relation)) NotConstraint p (none_right one mark (none_left (one ++ mark) two quiet_here))))
    (fits scope left (goes scope l) (still scope l) (measured scope l) names others same bind kept.0 (none_left one mark (none_left (one ++ mark) two quiet_here))).0
    (fits scope right (goes scope r) (still scope r) (measured scope r) names others same bind (both _ _ kept.1).0 (none_right (one ++ mark) two quiet_here)).0) (con-Compare scope names left ((p, relation, right) ∷ []))

-- a term lies between two ends by one relation
enclosed : (lower upper : Relation) → encloses lower upper ≡ true → (lower ≡ upper) × (may_enclose lower ≡ true)
enclosed AtMost AtMost h = (refl, refl)
enclosed AtLeast AtLeast h = (refl, refl)
enclosed _ _ h = absurd (false≢true h)

constrains_range : (scope : Scope) (p q : Place) (lower upper : Relation) {low middle high : Expr} → Made low → Made middle → Made high → GoesConstraint scope (Compare low ((p, lower, middle) ∷ (q, upper, high) ∷ []))
constrains_range scope p q lower upper {low} {middle} {high} l m h names others same bind numbers quiet =
    let quiet_here = sym (opens-Compare scope role.Constraint names low ((p, lower, middle) ∷ (q, upper, high) ∷ [])) ∙ quiet in
    let one = faults_in scope role.Term names low in
    let varies = (part_of scope low).varies || (part_of scope high).varies in
    let mark = fault_if (not (encloses lower upper && not varies)) NotConstraint p in
    let two = faults_in scope role.Term names middle in
    let three = faults_in scope role.Term names high in
    let kept = both _ _ (sym (keeps-Compare low ((p, lower, middle) ∷ (q, upper, high) ∷ [])) ∙ numbers) in
    let kept_both = both _ _ kept.1 in
    let holds = both (encloses lower upper) (not varies) (not-false (encloses lower upper && not varies) (not_marked (not (encloses lower upper && not varies)) NotConstraint p
    (none_right one mark (none_left (one ++ mark) two (none_left (one ++ mark ++ two) three quiet_here))))) in
    let between = enclosed lower upper holds.0 in
    let none = not_true varies holds.1 in
    let first_none = sym (part_varies_as_tree scope low) ∙ either_left (part_of scope low).varies (part_of scope high).varies none in
    let last_none = sym (part_varies_as_tree scope high) ∙ either_right (part_of scope low).varies (part_of scope high).varies none in
    becomes names (subst (λ (other : Relation). IsCon scope others (Compare low ((p, lower, middle) ∷ (q, other, high) ∷ [])) (con.Range p lower (typed_const scope names low) (some_term scope names middle) (typed_const scope names high))) between.0
    (con_range p q lower between.1 first_none last_none
    (goes scope l role.Term names others same kept.0 (none_left one mark (none_left (one ++ mark) two (none_left (one ++ mark ++ two) three quiet_here))) first_none).0
    (fits scope middle (goes scope m) (still scope m) (measured scope m) names others same bind kept_both.0 (none_right (one ++ mark) two (none_left (one ++ mark ++ two) three quiet_here))).0
    (goes scope h role.Term names others same (both _ _ kept_both.1).0 (none_right (one ++ mark ++ two) three quiet_here) last_none).0)) (con-Compare scope names low ((p, lower, middle) ∷ (q, upper, high) ∷ []))
  where
    not_true : (b : Bool) → not b ≡ true → b ≡ false
    not_true true h = absurd (false≢true h)
    not_true false h = refl

cons_from : (scope : Scope) (names others : Names) → Same names others → BindNoVariable scope names → (more : List (Place × Expr)) → AllConstrain scope (map (λ (x : Place × Expr). x.1) more) → list_all numbers_kept (map (λ (x : Place × Expr). x.1) more) ≡ true →
    Quiet scope role.Constraint names (map (λ (x : Place × Expr). x.1) more) → AreCons scope others more (map (λ (x : Place × Expr). typed_con scope names x.1) more)
cons_from scope names others same bind [] go numbers quiet = no_con
cons_from scope names others same bind ((p, e) ∷ more) go numbers quiet =
    let kept = both (numbers_kept e) (list_all numbers_kept (map (λ (x : Place × Expr). x.1) more)) numbers in
    one_con p (go.0 names others same bind kept.0 quiet.0) (cons_from scope names others same bind more go.1 kept.1 quiet.1)

constrains-And : (scope : Scope) (first : Expr) (more : List (Place × Expr)) → GoesConstraint scope first → AllConstrain scope (map (λ (x : Place × Expr). x.1) more) → GoesConstraint scope (And first more)
constrains-And scope first more go all names others same bind numbers quiet =
    let quiet_here = sym (opens-And scope role.Constraint names first more) ∙ quiet in
    let kept = both _ _ (sym (keeps-And first more) ∙ numbers) in
    becomes names (con_and (go names others same bind kept.0 (none_left _ _ quiet_here)) (cons_from scope names others same bind more all kept.1 (quiet_conjuncts scope role.Constraint names more (none_right _ _ quiet_here)))) (con-And scope names first more)

constrains-Forall : (scope : Scope) (p : Place) (index : Index) (with_do : Bool) (inner : Expr) → GoesIndex scope index → GoesConstraint scope inner → GoesConstraint scope (Forall p index with_do inner)
constrains-Forall scope p index with_do inner i go names others same bind numbers quiet =
    let quiet_here = sym (opens-Forall scope role.Constraint names p index with_do inner) ∙ quiet in
    let one = (part_of_index scope index).faults role.Value names in
    let two = faults_in scope role.Constraint ((part_of_index scope index).names names) inner in
    let kept = both _ _ (sym (keeps-Forall p index with_do inner) ∙ numbers) in
    let first = i names others same kept.0 (none_left one two quiet_here) in
    becomes names (con_forall p with_do first.1 (go (names_inside scope names index) first.0 first.2 (inside_binds scope names index bind) kept.1
    (subst (λ (inner_names : Names). faults_in scope role.Constraint inner_names inner ≡ []) (index_names_known scope names index) (none_right one two quiet_here)))) (con-Forall scope names p index with_do inner)

mutual
  pub constrains : (scope : Scope) {e : Expr} → Made e → GoesConstraint scope e
  constrains scope (made_number p digits) = no_constraint_here scope (Number p digits) (λ names quiet. marked _ _ (sym (opens-Number scope role.Constraint names p digits) ∙ quiet))
  constrains scope (made_text p text double) = no_constraint_here scope (Text p text double) (λ names quiet. marked _ _ (sym (opens-Text scope role.Constraint names p text double) ∙ quiet))
  constrains scope (made_truth p truth) = no_constraint_here scope (Truth p truth) (λ names quiet. marked _ _ (sym (opens-Truth scope role.Constraint names p truth) ∙ quiet))
  constrains scope (made_infinity p) = no_constraint_here scope (Infinity p) (λ names quiet. marked _ _ (sym (opens-Infinity scope role.Constraint names p) ∙ quiet))
  constrains scope (made_name p name) = no_constraint_here scope (Name p name) (λ names quiet. marked _ _ (none_right _ (no_constraint role.Constraint p) (sym (opens-Name scope role.Constraint names p name) ∙ quiet)))
  constrains scope (made_item p name {first = first} {others = others} all) =
      no_constraint_here scope (Item p name (first ∷ others)) (λ names quiet. marked _ _ (none_right _ (no_constraint role.Constraint p) (none_left _ _ (sym (opens-Item scope role.Constraint names p name (first ∷ others)) ∙ quiet))))
  constrains scope (made_call p name {given = given} all) =
      no_constraint_here scope (Call p name given) (λ names quiet. marked _ _ (none_right _ (no_constraint role.Constraint p) (none_left _ _ (sym (opens-Call scope role.Constraint names p name given) ∙ quiet))))
  constrains scope (made_function p word {first = first} {others = others} h all) =
      no_constraint_here scope (Func p word (first ∷ others)) (λ names quiet. marked _ _ (none_right _ (no_constraint role.Constraint p) (none_left _ _ (sym (opens-Func scope role.Constraint names p word (first ∷ others)) ∙ quiet))))
  constrains scope (made_projection p {set = set} {positions = positions} s t) = no_constraint_here scope (Proj p set positions) (λ names quiet. marked _ _ (sym (opens-Proj scope role.Constraint names p set positions) ∙ quiet))
  constrains scope (made_parentheses p {inner = inner} m) = constrains-Paren scope p inner (constrains scope m)
  constrains scope (made_braces p {inside = inside} m) = no_constraint_here scope (Braces p inside) (λ names quiet. marked _ _ (sym (opens-Braces scope role.Constraint names p inside) ∙ quiet))
  constrains scope (made_if p false {test = test} {branch = branch} t b) = constrains_if scope p branch t (constrains scope b)
  constrains scope (made_if p true {test = test} {branch = branch} t b) = constrains_vif scope p branch t (constrains scope b)
  constrains scope (made_if_with_else p true {test = test} {branch = branch} {otherwise = otherwise} t b e) = constrains_vif_with_else scope p branch otherwise t (constrains scope b) (constrains scope e)
  constrains scope (made_if_with_else p false {test = test} {branch = branch} {otherwise = otherwise} t b e) = constrains_if_with_else scope p branch otherwise t (constrains scope b) (constrains scope e)
  constrains scope (made_factorial mark marks {operand = operand} m) =
      no_constraint_here scope (Factorial operand (mark ∷ marks)) (λ names quiet. marked _ _ (none_right _ (no_constraint role.Constraint mark) (sym (opens-Factorial scope role.Constraint names operand (mark ∷ marks)) ∙ quiet)))
  constrains scope (made_power p sign signed {base = base} {exponent = exponent} h b e) =
      no_constraint_here scope (Power p sign base signed exponent) (λ names quiet. marked _ _ (none_right _ (no_constraint role.Constraint p) (none_left _ _ (sym (opens-Power scope role.Constraint names p sign base signed exponent) ∙ quiet))))
  constrains scope (made_signed p minus {operand = operand} m) = no_constraint_here scope (Signed p minus operand) (λ names quiet. marked _ _ (sym (opens-Signed scope role.Constraint names p minus operand) ∙ quiet))
  constrains scope (made_big p word with_do {index = index} {operand = operand} h i m) =
      no_constraint_here scope (Big p word index with_do operand) (λ names quiet. marked _ _ (none_right _ (no_constraint role.Constraint p) (none_left _ _ (none_left _ _ (sym (opens-Big scope role.Constraint names p word index with_do operand) ∙ quiet)))))
  constrains scope (made_product {first = first} {other = other} {others = others} m ms) = no_constraint_here scope (Times first (other ∷ others)) (outside-Times scope first other others)
  constrains scope (made_sum {first = first} {other = other} {others = others} m ms) = no_constraint_here scope (Plus first (other ∷ others)) (outside-Plus scope first other others)
  constrains scope (made_comparison p relation l r) = constrains_comparison scope p relation l r
  constrains scope (made_double_comparison p q lower upper l m r) = constrains_range scope p q lower upper l m r
  constrains scope (made_member p {tuple = tuple} {set = set} t s) =
      no_constraint_here scope (Member p tuple set) (λ names quiet. marked _ _ (none_right _ (no_constraint role.Constraint p) (none_left _ _ (sym (opens-Member scope role.Constraint names p tuple set) ∙ quiet))))
  constrains scope (made_not p {operand = operand} m) = no_constraint_here scope (Not p operand) (λ names quiet. marked _ _ (sym (opens-Not scope role.Constraint names p operand) ∙ quiet))
  constrains scope (made_and {first = first} {other = other} {others = others} m ms) = constrains-And scope first (other ∷ others) (constrains scope m) (conjuncts_constrain scope ms)
  constrains scope (made_or {first = first} {other = other} {others = others} m ms) = no_constraint_here scope (Or first (other ∷ others)) (outside-Or scope first other others)
  constrains scope (made_forall p with_do {index = index} {inside = inside} i m) = constrains-Forall scope p index with_do inside (index_goes scope i) (constrains scope m)

  conjuncts_constrain : (scope : Scope) {others : List (Place × Expr)} → MadeConjuncts others → AllConstrain scope (map (λ (x : Place × Expr). x.1) others)
  conjuncts_constrain scope made_no_conjunct = tt
  conjuncts_constrain scope (made_one_conjunct p m ms) = (constrains scope m, conjuncts_constrain scope ms)
