-- What it is to go over: for an expression in which nothing is marked, the constant that is made of it belongs to it, and it has no variables.
use Rattle.std.proofs.Common.{◌≡◌, Bool, true, false, ◌||◌, ◌&&◌, List, [], ◌∷◌, ◌++◌, map, refl, sym, ap, subst, ◌∙◌}
use Rattle.std.specs.List.{list_any, list_all}
use Rattle.zim_fault.specs.declared.faults.Place.{Place}
use Rattle.zim_fault.specs.declared.kinds.Kind.TheVariants.{NotLinear}
use Rattle.zim_fault.specs.declared.tokens.Token.{Token}
use Rattle.zim_tree.specs.declared.expr.Expr.{Expr}
use Rattle.zim_tree.specs.declared.expr.Angle.{Angle, Angle-F}
use Rattle.zim_tree.specs.declared.expr.Index.{Index}
use Rattle.zim_tree.specs.declared.expr.Body.{Body}
use Rattle.zim_tree.specs.declared.expr.Body.TheViews.{out-roll-Angle}
use Rattle.zim_tree.specs.Trees.{angle_of}
use Rattle.zim_typed.specs.declared.constant.Const.{Const}
use Rattle.zim_typed.specs.declared.constant.TAngle.{TAngle}
use Rattle.zim_typed.specs.Scope.{Names, Scope}
use Rattle.zim_typed.specs.Variables.{has_variables, tuple_has_variables, index_has_variables, body_has_variables}
use Rattle.zim_typed.specs.Constants.{IsConst, AreConsts, AreOperands, AreConjuncts, AreDisjuncts, IsTuple, IsLoop, IsBody, no_const, one_const, no_operand, one_operand, no_conjunct, one_conjunct, no_disjunct, one_disjunct, is_tuple}
use Rattle.zim_typed.proofs.VariableLaws.{has-angle}
use Rattle.zim_static.specs.declared.role.Role.{Role}
use Rattle.zim_static.specs.declared.role.Role.TheVariants as role
use Rattle.zim_static.specs.Faults.{Part, part_of, parts_of, parts_of_angle, part_of_index, part_of_body, known_operands, all_faults, operands_faults, factors_faults, conjuncts_faults, no_constraint, fault_if, is_slash}
use Rattle.zim_static.specs.StatementFaults.{faults_in}
use Rattle.zim_static.proofs.PartLaws.{at_angle}
use Rattle.zim_static.proofs.AroundLaws.{both}
use Rattle.zim_typing.specs.Typing.{typed_const, typed_consts, typed_operands, typed_conjuncts, typed_disjuncts, typed_tuple, typed_index, typed_body, names_inside}
use Rattle.zim_typing.specs.Numbers.{numbers_kept, tuple_numbers_kept, index_numbers_kept, body_numbers_kept}
use Rattle.zim_typing.proofs.ConstantLaws.{makes_tuple_of}
use Rattle.zim_typing.proofs.NumberLaws.{keeps_tuple}
use Rattle.zim_typing.proofs.NamesLemmas.{Same}
use Rattle.zim_typing.proofs.FitLemmas.{none_left, none_right, either_left, either_right, neither, Free}

-- ---- expressions

-- the constant that is made of an expression belongs to it, and the expression has no variables. It is made under names, and belongs under the same
-- names in another list
abbrev pub Fixed : Scope → Names → Names → Expr → Type 0
Fixed scope names others e = IsConst scope others e (typed_const scope names e) × (has_variables scope e ≡ false)

-- so it is where nothing is marked
abbrev pub Goes : Scope → Expr → Type 0
Goes scope e =
    (r : Role) (names others : Names) → Same names others → numbers_kept e ≡ true → faults_in scope r names e ≡ [] → Free r (has_variables scope e) → Fixed scope names others e

pub become : {scope : Scope} (names : Names) {others : Names} {e : Expr} {c : Const} → IsConst scope others e c → typed_const scope names e ≡ c → IsConst scope others e (typed_const scope names e)
become {scope} names {others} {e} belongs is = subst (λ (c : Const). IsConst scope others e c) (sym is) belongs

-- ---- lists

-- each goes
abbrev pub AllGo : Scope → List Expr → Type 0
AllGo scope [] = Unit {0}
AllGo scope (e ∷ es) = Goes scope e × AllGo scope es

-- each is fixed
abbrev pub AllFixed : Scope → Names → Names → List Expr → Type 0
AllFixed scope names others [] = Unit {0}
AllFixed scope names others (e ∷ es) = Fixed scope names others e × AllFixed scope names others es

-- in each nothing is marked
abbrev pub Quiet : Scope → Role → Names → List Expr → Type 0
Quiet scope r names [] = Unit {0}
Quiet scope r names (e ∷ es) = (faults_in scope r names e ≡ []) × Quiet scope r names es

free_part : (r : Role) (varies part : Bool) → Free r varies → (varies ≡ false → part ≡ false) → Free r part
free_part role.Value varies part h none = tt
free_part role.Bound varies part h none = absurd h
free_part role.Term varies part h none = none h
free_part role.Condition varies part h none = none h
free_part role.Constraint varies part h none = absurd h
free_part role.NoConstraint varies part h none = absurd h

pub all_fixed : (scope : Scope) (items : List Expr) → AllGo scope items → (r : Role) (names others : Names) → Same names others → list_all numbers_kept items ≡ true → Quiet scope r names items →
    Free r (list_any (has_variables scope) items) → AllFixed scope names others items
all_fixed scope [] go r names others same numbers quiet free = tt
all_fixed scope (item ∷ items) go r names others same numbers quiet free =
    let kept = both (numbers_kept item) (list_all numbers_kept items) numbers in (
      go.0 r names others same kept.0 quiet.0 (free_part r _ (has_variables scope item) free (λ is. either_left _ _ is)),
      all_fixed scope items go.1 r names others same kept.1 quiet.1 (free_part r _ (list_any (has_variables scope) items) free (λ is. either_right _ _ is)),
    )

pub none_vary : (scope : Scope) (names others : Names) (items : List Expr) → AllFixed scope names others items → list_any (has_variables scope) items ≡ false
none_vary scope names others [] fixed = refl
none_vary scope names others (item ∷ items) fixed = neither (has_variables scope item) (list_any (has_variables scope) items) fixed.0.1 (none_vary scope names others items fixed.1)

pub quiet_items : (scope : Scope) (r : Role) (names : Names) (items : List Expr) → all_faults r names (parts_of scope items) ≡ [] → Quiet scope r names items
quiet_items scope r names [] h = tt
quiet_items scope r names (item ∷ items) h = (none_left (faults_in scope r names item) (all_faults r names (parts_of scope items)) h, quiet_items scope r names items (none_right (faults_in scope r names item) (all_faults r names (parts_of scope items)) h))

pub quiet_operands : {O : Type 0} (scope : Scope) (whole r : Role) (names : Names) (more : List (Place × O × Expr)) →
    operands_faults whole r names (map (λ (x : Place × O × Expr). (x.0, x.1, part_of scope x.2)) more) ≡ [] → Quiet scope r names (map (λ (x : Place × O × Expr). x.2) more)
unfolding operands_faults
quiet_operands {O} scope whole r names [] h = tt
quiet_operands {O} scope whole r names (other ∷ more) h =
    let mark = no_constraint whole other.0 in
    let part = faults_in scope r names other.2 in
    let rest = operands_faults r r names (map (λ (x : Place × O × Expr). (x.0, x.1, part_of scope x.2)) more) in
    (none_right mark part (none_left (mark ++ part) rest h), quiet_operands scope r r names more (none_right (mark ++ part) rest h))

pub quiet_factors : (scope : Scope) (by_stars before : Bool) (whole r : Role) (names : Names) (more : List (Place × Token × Expr)) →
    factors_faults by_stars before whole r names (known_operands scope more) ≡ [] → Quiet scope r names (map (λ (x : Place × Token × Expr). x.2) more)
unfolding factors_faults
quiet_factors scope by_stars before whole r names [] h = tt
quiet_factors scope by_stars before whole r names (other ∷ more) h =
    let mark = fault_if (by_stars && (part_of scope other.2).varies && (before || is_slash other.1)) NotLinear other.0 ++ no_constraint whole other.0 in
    let part = faults_in scope r names other.2 in
    let now = before || (part_of scope other.2).varies in
    let rest = factors_faults by_stars now r r names (known_operands scope more) in
    (none_right mark part (none_left (mark ++ part) rest h), quiet_factors scope by_stars now r r names more (none_right (mark ++ part) rest h))

pub quiet_conjuncts : (scope : Scope) (r : Role) (names : Names) (more : List (Place × Expr)) →
    conjuncts_faults r names (map (λ (x : Place × Expr). (x.0, part_of scope x.1)) more) ≡ [] → Quiet scope r names (map (λ (x : Place × Expr). x.1) more)
quiet_conjuncts scope r names [] h = tt
quiet_conjuncts scope r names (other ∷ more) h =
    let rest = conjuncts_faults r names (map (λ (x : Place × Expr). (x.0, part_of scope x.1)) more) in
    (none_left (faults_in scope r names other.1) rest h, quiet_conjuncts scope r names more (none_right (faults_in scope r names other.1) rest h))

pub any_behind : {O : Type 0} (scope : Scope) (more : List (Place × O × Expr)) → list_any (has_variables scope) (map (λ (x : Place × O × Expr). x.2) more) ≡ list_any (λ (x : Place × O × Expr). has_variables scope x.2) more
any_behind scope [] = refl
any_behind scope (other ∷ more) = ap (λ (b : Bool). has_variables scope other.2 || b) (any_behind scope more)

pub any_behind_and : (scope : Scope) (more : List (Place × Expr)) → list_any (has_variables scope) (map (λ (x : Place × Expr). x.1) more) ≡ list_any (λ (x : Place × Expr). has_variables scope x.1) more
any_behind_and scope [] = refl
any_behind_and scope (other ∷ more) = ap (λ (b : Bool). has_variables scope other.1 || b) (any_behind_and scope more)

pub consts_from : (scope : Scope) (names others : Names) (items : List Expr) → AllFixed scope names others items → AreConsts scope others items (typed_consts scope names items)
consts_from scope names others [] fixed = no_const
consts_from scope names others (item ∷ items) fixed = one_const fixed.0.0 (consts_from scope names others items fixed.1)

pub operands_from : (scope : Scope) (names others : Names) (more : List (Place × Token × Expr)) → AllFixed scope names others (map (λ (x : Place × Token × Expr). x.2) more) → AreOperands scope others more (typed_operands scope names more)
operands_from scope names others [] fixed = no_operand
operands_from scope names others ((p, token, e) ∷ more) fixed = one_operand p token fixed.0.0 (operands_from scope names others more fixed.1)

pub conjuncts_from : (scope : Scope) (names others : Names) (more : List (Place × Expr)) → AllFixed scope names others (map (λ (x : Place × Expr). x.1) more) → AreConjuncts scope others more (typed_conjuncts scope names more)
conjuncts_from scope names others [] fixed = no_conjunct
conjuncts_from scope names others ((p, e) ∷ more) fixed = one_conjunct p fixed.0.0 (conjuncts_from scope names others more fixed.1)

pub disjuncts_from : (scope : Scope) (names others : Names) (more : List (Place × Bool × Expr)) → AllFixed scope names others (map (λ (x : Place × Bool × Expr). x.2) more) → AreDisjuncts scope others more (typed_disjuncts scope names more)
disjuncts_from scope names others [] fixed = no_disjunct
disjuncts_from scope names others ((p, xor, e) ∷ more) fixed = one_disjunct p xor fixed.0.0 (disjuncts_from scope names others more fixed.1)

-- ---- tuples, indices and braces

-- a tuple whose items go
abbrev pub GoesTuple : Scope → Angle → Type 0
GoesTuple scope tuple = (p : Place) × (items : List Expr) × (tuple ≡ angle_of p items) × AllGo scope items

-- whether variables stand in a tuple of these items
pub tuple_of : (scope : Scope) (p : Place) (items : List Expr) → tuple_has_variables scope (angle_of p items) ≡ list_any (has_variables scope) items
tuple_of scope p items = has-angle scope (angle_of p items) ∙ ap (λ (d : Angle-F Body Expr Angle Index). list_any (has_variables scope) d.items) (out-roll-Angle (record { place = p; items = items }))

-- the tuple that is made of it belongs to it, where nothing is marked in it
fixed_tuple : (scope : Scope) (p : Place) (items : List Expr) → AllGo scope items → (names others : Names) → Same names others → tuple_numbers_kept (angle_of p items) ≡ true →
    all_faults role.Value names (parts_of_angle scope (angle_of p items)) ≡ [] →
    IsTuple scope others (angle_of p items) (typed_tuple scope names (angle_of p items)) × (list_any (has_variables scope) items ≡ false)
fixed_tuple scope p items go names others same numbers quiet =
    let known : parts_of_angle scope (angle_of p items) ≡ parts_of scope items = at_angle scope (record { place = p; items = items }) in
    let fixed = all_fixed scope items go role.Value names others same (sym (keeps_tuple p items) ∙ numbers) (quiet_items scope role.Value names items (subst (λ (parts : List Part). all_faults role.Value names parts ≡ []) known quiet)) tt in
    (subst (λ (t : TAngle). IsTuple scope others (angle_of p items) t) (sym (makes_tuple_of scope names p items)) (is_tuple p (consts_from scope names others items fixed)), none_vary scope names others items fixed)

pub tuple_fixed : (scope : Scope) (tuple : Angle) → GoesTuple scope tuple → (names others : Names) → Same names others → tuple_numbers_kept tuple ≡ true → all_faults role.Value names (parts_of_angle scope tuple) ≡ [] →
    IsTuple scope others tuple (typed_tuple scope names tuple) × (tuple_has_variables scope tuple ≡ false)
tuple_fixed scope tuple goes names others same numbers quiet =
    let is = goes.2 in
    let fixed = fixed_tuple scope goes.0 goes.1 goes.3 names others same (sym (ap tuple_numbers_kept is) ∙ numbers) (subst (λ (t : Angle). all_faults role.Value names (parts_of_angle scope t) ≡ []) is quiet) in
    (subst (λ (t : Angle). IsTuple scope others t (typed_tuple scope names t)) (sym is) fixed.0, ap (tuple_has_variables scope) is ∙ tuple_of scope goes.0 goes.1 ∙ fixed.1)

-- the index that is made of an index belongs to it, and binds the same names, where nothing is marked in it
abbrev pub GoesIndex : Scope → Index → Type 0
GoesIndex scope index =
    (names others : Names) → Same names others → index_numbers_kept index ≡ true → (part_of_index scope index).faults role.Value names ≡ [] →
    (inner : Names) × IsLoop scope others index (typed_index scope names index) inner × Same (names_inside scope names index) inner × (index_has_variables scope index ≡ false)

-- what is made of what stands in braces belongs to it, where nothing is marked in it
abbrev pub GoesBody : Scope → Body → Type 0
GoesBody scope inside =
    (names others : Names) → Same names others → body_numbers_kept inside ≡ true → (part_of_body scope inside).faults role.Value names ≡ [] →
    IsBody scope others inside (typed_body scope names inside) × (body_has_variables scope inside ≡ false)
