-- Loops that keep the first fault: that of what they have come past, or else that of what is left.
use Rattle.std.proofs.Common.{◌≡◌, ℕ, ◌+◌, ◌<◌, ◌≤◌, Bool, true, false, ◌&&◌, ◌||◌, List, [], ◌∷◌, ◌++◌, length, get_or, take, drop, map, suc, arith, Option, Some, None, is_some, refl, sym, ap, ◌∙◌, if◌then◌else◌}
use Rattle.std.proofs.lemmas.List.{drop_all}
use Rattle.std.proofs.Math.Seq.{take-suc}
use Rattle.std.specs.Option.{option_or}
use Rattle.zim_fault.specs.declared.faults.Place.{Place}
use Rattle.zim_fault.specs.declared.faults.Fault.{Fault}
use Rattle.zim_fault.specs.declared.kinds.Kind.TheVariants.{NotLinear, Redeclared}
use Rattle.zim_fault.specs.declared.tokens.Token.{Token}
use Rattle.zim_tree.specs.declared.expr.Expr.{Expr}
use Rattle.zim_typed.specs.Scope.{Text, Names, Scope, kind_of_name, is_local}
use Rattle.zim_typed.specs.Pattern.{bound_name}
use Rattle.zim_static.specs.declared.role.Role.{Role}
use Rattle.zim_static.specs.declared.role.Role.TheVariants as role
use Rattle.zim_static.specs.Faults.{Part, part_of, parts_of, known_operands, known_disjuncts, first_of_faults, fault_if, no_constraint, is_slash, all_faults, operands_faults, factors_faults, component_faults, name_bound_by}
use Rattle.zim_static.specs.StatementFaults.{faults_in, value_faults, values_faults, parameters_faults}
use Rattle.zim_static.proofs.ListLemmas.{left_from}
use Rattle.zim_static.proofs.PartLaws.{part_bound}
use Rattle.zim_static.proofs.FirstLaws.{two, three}

grouped : (x y z : Option Fault) → option_or (option_or x y) z ≡ option_or x (option_or y z)
grouped None y z = refl
grouped (Some x) y z = refl

or_none : (x : Option Fault) → option_or x None ≡ x
or_none None = refl
or_none (Some x) = refl

or_next : (before : Option Fault) (a rest : List Fault) {f whole : Option Fault} → f ≡ option_or before (first_of_faults a) → option_or before (first_of_faults (a ++ rest)) ≡ whole → option_or f (first_of_faults rest) ≡ whole
or_next before a rest h is = ap (λ (x : Option Fault). option_or x (first_of_faults rest)) h ∙ grouped before (first_of_faults a) (first_of_faults rest) ∙ ap (option_or before) (sym (two a rest)) ∙ is

-- two faults behind those before
pub or_two : (before : Option Fault) (a b : List Fault) {x y r s : Option Fault} → x ≡ first_of_faults a → r ≡ option_or before x → y ≡ first_of_faults b → s ≡ option_or r y → s ≡ option_or before (first_of_faults (a ++ b))
or_two before a b p h q k = k ∙ (λ i. option_or ((h ∙ ap (option_or before) p) i) (q i)) ∙ grouped before (first_of_faults a) (first_of_faults b) ∙ ap (option_or before) (sym (two a b))

-- one step, where the first that is left has its own faults before those of the others
pub loop_next : {X : Type 0} (G H : List X → List Fault) (head : List Fault) (xs : List X) (i : ℕ) (x : X) → i < length xs → x ≡ get_or xs i x → ((rest : List X) → G (x ∷ rest) ≡ head ++ H rest) →
    (before : Option Fault) {f whole : Option Fault} → f ≡ option_or before (first_of_faults head) → option_or before (first_of_faults (G (drop i xs))) ≡ whole → option_or f (first_of_faults (H (drop (i + 1) xs))) ≡ whole
loop_next G H head xs i x within is opens before h inv =
    or_next before head (H (drop (i + 1) xs)) h (sym (ap (λ (left : List _). option_or before (first_of_faults (G left))) (left_from xs i x within is) ∙ ap (λ (fs : List Fault). option_or before (first_of_faults fs)) (opens (drop (i + 1) xs))) ∙ inv)

pub loop_end : {X : Type 0} (G : List X → List Fault) (xs : List X) (i : ℕ) → length xs ≤ i → G [] ≡ [] → (before : Option Fault) {whole : Option Fault} → option_or before (first_of_faults (G (drop i xs))) ≡ whole → before ≡ whole
loop_end G xs i out ends before inv =
    sym (or_none before) ∙ sym (ap (λ (left : List _). option_or before (first_of_faults (G left))) (drop_all i xs out) ∙ ap (λ (fs : List Fault). option_or before (first_of_faults fs)) ends) ∙ inv

-- ---- the lists

pub operands_none : (A : Type 0) (whole role : Role) (names : Names) → operands_faults {A = A} whole role names [] ≡ []
unfolding operands_faults
operands_none A whole role names = refl

pub operands_open : {A : Type 0} (whole role : Role) (names : Names) (place : Place) (operator : A) (part : Part) (others : List (Place × A × Part)) →
    operands_faults whole role names ((place, operator, part) ∷ others) ≡ no_constraint whole place ++ part.faults role names ++ operands_faults role role names others
unfolding operands_faults
operands_open whole role names place operator part others = refl

pub factors_none : (by_stars before : Bool) (whole role : Role) (names : Names) → factors_faults by_stars before whole role names [] ≡ []
unfolding factors_faults
factors_none by_stars before whole role names = refl

pub factors_open : (by_stars before : Bool) (whole role : Role) (names : Names) (place : Place) (token : Token) (part : Part) (others : List (Place × Token × Part)) →
    factors_faults by_stars before whole role names ((place, token, part) ∷ others)
    ≡ fault_if (by_stars && part.varies && (before || is_slash token)) NotLinear place ++ no_constraint whole place ++ part.faults role names ++ factors_faults by_stars (before || part.varies) role role names others
unfolding factors_faults
factors_open by_stars before whole role names place token part others = refl

grouped_two : (a b c : List Fault) → a ++ b ++ c ≡ (a ++ b) ++ c
grouped_two [] b c = refl
grouped_two (x ∷ a) b c = ap (λ (xs : List Fault). x ∷ xs) (grouped_two a b c)

grouped_three : (a b c d : List Fault) → a ++ b ++ c ++ d ≡ (a ++ b ++ c) ++ d
grouped_three [] b c d = grouped_two b c d
grouped_three (x ∷ a) b c d = ap (λ (xs : List Fault). x ∷ xs) (grouped_three a b c d)

-- one step over operands
pub operands_step : (scope : Scope) (whole role : Role) (names : Names) (xs : List (Place × Token × Expr)) (i : ℕ) (x : Place × Token × Expr) → i < length xs → x ≡ get_or xs i x → (before : Option Fault) →
    {m r e f total : Option Fault} → m ≡ first_of_faults (no_constraint whole x.0) → r ≡ option_or before m → e ≡ first_of_faults (faults_in scope role names x.2) → f ≡ option_or r e →
    option_or before (first_of_faults (operands_faults whole role names (known_operands scope (drop i xs)))) ≡ total → option_or f (first_of_faults (operands_faults role role names (known_operands scope (drop (i + 1) xs)))) ≡ total
operands_step scope whole role names xs i x within is before mark so fault then_ =
    loop_next (λ left. operands_faults whole role names (known_operands scope left)) (λ left. operands_faults role role names (known_operands scope left)) (no_constraint whole x.0 ++ faults_in scope role names x.2) xs i x within is
    (λ rest. operands_open whole role names x.0 x.1 (part_of scope x.2) (known_operands scope rest) ∙ grouped_two (no_constraint whole x.0) (faults_in scope role names x.2) _) before
    (then_ ∙ (λ j. option_or ((so ∙ ap (option_or before) mark) j) (fault j)) ∙ grouped before _ _ ∙ ap (option_or before) (sym (two (no_constraint whole x.0) (faults_in scope role names x.2))))

pub disjuncts_step : (scope : Scope) (whole role : Role) (names : Names) (xs : List (Place × Bool × Expr)) (i : ℕ) (x : Place × Bool × Expr) → i < length xs → x ≡ get_or xs i x → (before : Option Fault) →
    {m r e f total : Option Fault} → m ≡ first_of_faults (no_constraint whole x.0) → r ≡ option_or before m → e ≡ first_of_faults (faults_in scope role names x.2) → f ≡ option_or r e →
    option_or before (first_of_faults (operands_faults whole role names (known_disjuncts scope (drop i xs)))) ≡ total → option_or f (first_of_faults (operands_faults role role names (known_disjuncts scope (drop (i + 1) xs)))) ≡ total
disjuncts_step scope whole role names xs i x within is before mark so fault then_ =
    loop_next (λ left. operands_faults whole role names (known_disjuncts scope left)) (λ left. operands_faults role role names (known_disjuncts scope left)) (no_constraint whole x.0 ++ faults_in scope role names x.2) xs i x within is
    (λ rest. operands_open whole role names x.0 x.1 (part_of scope x.2) (known_disjuncts scope rest) ∙ grouped_two (no_constraint whole x.0) (faults_in scope role names x.2) _) before
    (then_ ∙ (λ j. option_or ((so ∙ ap (option_or before) mark) j) (fault j)) ∙ grouped before _ _ ∙ ap (option_or before) (sym (two (no_constraint whole x.0) (faults_in scope role names x.2))))

pub factors_step : (scope : Scope) (by_stars varying : Bool) (whole role : Role) (names : Names) (xs : List (Place × Token × Expr)) (i : ℕ) (x : Place × Token × Expr) → i < length xs → x ≡ get_or xs i x → (before : Option Fault) →
    {l m r s e f total : Option Fault} → l ≡ first_of_faults (fault_if (by_stars && (part_of scope x.2).varies && (varying || is_slash x.1)) NotLinear x.0) → r ≡ option_or before l → m ≡ first_of_faults (no_constraint whole x.0) → s ≡ option_or r m →
    e ≡ first_of_faults (faults_in scope role names x.2) → f ≡ option_or s e →
    option_or before (first_of_faults (factors_faults by_stars varying whole role names (known_operands scope (drop i xs)))) ≡ total →
    option_or f (first_of_faults (factors_faults by_stars (varying || (part_of scope x.2).varies) role role names (known_operands scope (drop (i + 1) xs)))) ≡ total
factors_step scope by_stars varying whole role names xs i x within is before linear so mark then_ fault last =
    let a : List Fault = fault_if (by_stars && (part_of scope x.2).varies && (varying || is_slash x.1)) NotLinear x.0 in
    let b : List Fault = no_constraint whole x.0 in
    let c : List Fault = faults_in scope role names x.2 in
    loop_next (λ left. factors_faults by_stars varying whole role names (known_operands scope left)) (λ left. factors_faults by_stars (varying || (part_of scope x.2).varies) role role names (known_operands scope left)) (a ++ b ++ c) xs i x within is
    (λ rest. factors_open by_stars varying whole role names x.0 x.1 (part_of scope x.2) (known_operands scope rest) ∙ grouped_three a b c _) before
    (last ∙ (λ j. option_or ((then_ ∙ (λ k. option_or ((so ∙ ap (option_or before) linear) k) (mark k))) j) (fault j)) ∙ ap (λ (y : Option Fault). option_or y (first_of_faults c)) (grouped before (first_of_faults a) (first_of_faults b))
    ∙ grouped before (option_or (first_of_faults a) (first_of_faults b)) (first_of_faults c) ∙ ap (option_or before) (sym (three a b c)))

-- a component that is bound has no fault
chosen : (bound : Bool) (fs : List Fault) (before : Option Fault) → option_or before (first_of_faults (if bound then [] else fs)) ≡ (if bound then before else option_or before (first_of_faults fs))
chosen true fs before = or_none before
chosen false fs before = refl

pub component_bound : (scope : Scope) (role : Role) (names : Names) (x : Expr) (before : Option Fault) → is_some (bound_name scope names x) ≡ true → before ≡ option_or before (first_of_faults (component_faults scope role names (part_of scope x)))
component_bound scope role names x before h =
    sym (chosen (is_some (name_bound_by scope names (part_of scope x))) (faults_in scope role names x) before ∙ ap (λ (b : Bool). if b then before else option_or before (first_of_faults (faults_in scope role names x))) (ap is_some (part_bound scope names x) ∙ h))

pub component_fault : (scope : Scope) (role : Role) (names : Names) (x : Expr) (before : Option Fault) {f e : Option Fault} → is_some (bound_name scope names x) ≡ false → e ≡ first_of_faults (faults_in scope role names x) → f ≡ option_or before e →
    f ≡ option_or before (first_of_faults (component_faults scope role names (part_of scope x)))
component_fault scope role names x before h fault so =
    so ∙ ap (option_or before) fault
    ∙ sym (chosen (is_some (name_bound_by scope names (part_of scope x))) (faults_in scope role names x) before ∙ ap (λ (b : Bool). if b then before else option_or before (first_of_faults (faults_in scope role names x))) (ap is_some (part_bound scope names x) ∙ h))

-- ---- statements

pub values_known : (scope : Scope) (names : Names) (items : List Expr) → all_faults role.Value names (parts_of scope items) ≡ values_faults scope names items
values_known scope names [] = refl
values_known scope names (item ∷ items) = ap (λ (fs : List Fault). value_faults scope names item ++ fs) (values_known scope names items)

pub parameters_none : (scope : Scope) (before : Names) → parameters_faults scope before [] ≡ []
unfolding parameters_faults
parameters_none scope before = refl

parameters_open : (scope : Scope) (before : Names) (place : Place) (name : Text) (others : List (Place × Text)) →
    parameters_faults scope before ((place, name) ∷ others) ≡ fault_if (is_some (kind_of_name scope name) || is_local before name) Redeclared place ++ parameters_faults scope (before ++ name ∷ []) others
unfolding parameters_faults
parameters_open scope before place name others = refl

-- the names of the parameters up to some place
abbrev pub names_before : List (Place × Text) → ℕ → Names
names_before parameters i = map (λ x. x.1) (take i parameters)

one_name_more : (xs : List (Place × Text)) (x : Place × Text) → map (λ y. y.1) (xs ++ x ∷ []) ≡ map (λ y. y.1) xs ++ x.1 ∷ []
one_name_more [] x = refl
one_name_more (y ∷ xs) x = ap (λ (names : Names). y.1 ∷ names) (one_name_more xs x)

step_up : (i : ℕ) → i + 1 ≡ suc i
step_up i = omega arith

names_next : (xs : List (Place × Text)) (i : ℕ) (x : Place × Text) → i < length xs → x ≡ get_or xs i x → names_before xs (i + 1) ≡ names_before xs i ++ x.1 ∷ []
names_next xs i x within is =
    ap (names_before xs) (step_up i) ∙ ap (λ (ys : List (Place × Text)). map (λ y. y.1) ys) (take-suc xs i x within ∙ ap (λ (y : Place × Text). take i xs ++ y ∷ []) (sym is)) ∙ one_name_more (take i xs) x

pub parameters_step : (scope : Scope) (xs : List (Place × Text)) (i : ℕ) (x : Place × Text) → i < length xs → x ≡ get_or xs i x → (before : Option Fault) → {again : Bool} {m f total : Option Fault} →
    again ≡ (is_some (kind_of_name scope x.1) || is_local (names_before xs i) x.1) → m ≡ first_of_faults (fault_if again Redeclared x.0) → f ≡ option_or before m →
    option_or before (first_of_faults (parameters_faults scope (names_before xs i) (drop i xs))) ≡ total → option_or f (first_of_faults (parameters_faults scope (names_before xs (i + 1)) (drop (i + 1) xs))) ≡ total
parameters_step scope xs i x within is before {f = f} holds mark so inv =
    ap (λ (names : Names). option_or f (first_of_faults (parameters_faults scope names (drop (i + 1) xs)))) (names_next xs i x within is)
    ∙ loop_next (λ left. parameters_faults scope (names_before xs i) left) (λ left. parameters_faults scope (names_before xs i ++ x.1 ∷ []) left)
    (fault_if (is_some (kind_of_name scope x.1) || is_local (names_before xs i) x.1) Redeclared x.0) xs i x within is (λ rest. parameters_open scope (names_before xs i) x.0 x.1 rest) before
    (so ∙ ap (option_or before) (mark ∙ ap (λ (b : Bool). first_of_faults (fault_if b Redeclared x.0)) holds)) inv
