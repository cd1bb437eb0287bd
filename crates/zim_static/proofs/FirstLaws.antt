-- The first fault of each form of an expression, from those of its parts: one equation for each.
use Rattle.std.proofs.Common.{◌≡◌, ℕ, suc, Bool, not, ◌||◌, ◌&&◌, List, [], ◌∷◌, ◌++◌, map, length, get_or, ◌<◌, ◌≤◌, arith, Option, Some, None, is_none, option_map, refl, sym, ap, ◌∙◌}
use Rattle.std.specs.Option.{option_or}
use Rattle.zim_fault.specs.declared.faults.Place.{Place}
use Rattle.zim_fault.specs.declared.faults.Fault.{Fault}
use Rattle.zim_fault.specs.declared.tokens.Token.{Token}
use Rattle.zim_fault.specs.declared.tokens.Relation.{Relation}
use Rattle.zim_fault.specs.declared.signs.Sign.{Sign}
use Rattle.zim_fault.specs.declared.words.Word.{Word}
use Rattle.zim_tree.specs.declared.expr.Expr.{Expr, Expr-F}
use Rattle.zim_tree.specs.declared.expr.Expr.TheVariants.{Number, Text, Truth, Infinity, Name, Item, Call, Func, Proj, Paren, Braces, If, Factorial, Power, Signed, Big, Times, Plus, Compare, Member, Not, And, Or, Forall, rolls-Number, rolls-Text, rolls-Truth, rolls-Infinity, rolls-Name, rolls-Item, rolls-Call, rolls-Func, rolls-Proj, rolls-Paren, rolls-Braces, rolls-If, rolls-Factorial, rolls-Power, rolls-Signed, rolls-Big, rolls-Times, rolls-Plus, rolls-Compare, rolls-Member, rolls-Not, rolls-And, rolls-Or, rolls-Forall}
use Rattle.zim_tree.specs.declared.expr.Angle.{Angle}
use Rattle.zim_tree.specs.declared.expr.Index.{Index}
use Rattle.zim_tree.specs.declared.expr.Body.{Body}
use Rattle.zim_typed.specs.Scope.{Names, Scope, bare, indexed, called}
use Rattle.zim_fault.specs.declared.kinds.Kind.TheVariants.{Unsupported, NotLinear, NotConstraint}
use Rattle.zim_fault.specs.declared.words.Word.TheVariants.{WInfinity}
use Rattle.zim_typed.specs.Terms.{may_constrain}
use Rattle.zim_static.specs.declared.role.Role.{Role}
use Rattle.zim_static.specs.Roles.{inside, term_inside, operand, condition_inside, conjunct, constraint_inside, parenthesised, role_behind_sign, branch_of, test, test_of, side, chain_side, summand, is_constraint, is_bound}
use Rattle.zim_static.specs.Faults.{Part, part_of, parts_of_angle, part_of_index, part_of_body, parts_of, known_operands, known_sides, known_disjuncts, known_conjuncts, first_of_faults, fault_if, no_constraint, all_faults, given_faults, name_faults, wrong_use, function_faults, argument_faults, argument_role, factorial_faults, is_prod, is_by_stars, is_by_signs, adds, operands_faults, factors_faults, conjuncts_faults, comparison_faults, encloses}
use Rattle.zim_static.specs.StatementFaults.{faults_in}
use Rattle.zim_static.proofs.PartLaws.{at_expr}

-- the first of faults one behind the other
pub two : (a b : List Fault) → first_of_faults (a ++ b) ≡ option_or (first_of_faults a) (first_of_faults b)
two [] b = refl
two (x ∷ a) b = refl

pub three : (a b c : List Fault) → first_of_faults (a ++ b ++ c) ≡ option_or (option_or (first_of_faults a) (first_of_faults b)) (first_of_faults c)
three [] b c = two b c
three (x ∷ a) b c = refl

pub four : (a b c d : List Fault) → first_of_faults (a ++ b ++ c ++ d) ≡ option_or (option_or (option_or (first_of_faults a) (first_of_faults b)) (first_of_faults c)) (first_of_faults d)
four [] b c d = three b c d
four (x ∷ a) b c d = refl

-- the same of what is held
pub of_two : (a b : List Fault) {x y r : Option Fault} → x ≡ first_of_faults a → y ≡ first_of_faults b → r ≡ option_or x y → r ≡ first_of_faults (a ++ b)
of_two a b p q h = h ∙ (λ i. option_or (p i) (q i)) ∙ sym (two a b)

pub of_three : (a b c : List Fault) {x y z r s : Option Fault} → x ≡ first_of_faults a → y ≡ first_of_faults b → r ≡ option_or x y → z ≡ first_of_faults c → s ≡ option_or r z → s ≡ first_of_faults (a ++ b ++ c)
of_three a b c p q h k l = l ∙ (λ i. option_or ((h ∙ (λ j. option_or (p j) (q j))) i) (k i)) ∙ sym (three a b c)

pub of_four : (a b c d : List Fault) {x y z w r s t : Option Fault} → x ≡ first_of_faults a → y ≡ first_of_faults b → r ≡ option_or x y → z ≡ first_of_faults c → s ≡ option_or r z → w ≡ first_of_faults d → t ≡ option_or s w →
    t ≡ first_of_faults (a ++ b ++ c ++ d)
of_four a b c d p q h k l m n = n ∙ (λ i. option_or ((l ∙ (λ j. option_or ((h ∙ (λ v. option_or (p v) (q v))) j) (k j))) i) (m i)) ∙ sym (four a b c d)

or_none : (x : Option Fault) → option_or x None ≡ x
or_none None = refl
or_none (Some x) = refl

pub of_one : (a b : List Fault) {x : Option Fault} → x ≡ first_of_faults a → b ≡ [] → x ≡ first_of_faults (a ++ b)
of_one a b p none = p ∙ sym (two a b ∙ ap (λ (fs : List Fault). option_or (first_of_faults a) (first_of_faults fs)) none ∙ or_none (first_of_faults a))

pub of_three_none : (a b c : List Fault) {x y r : Option Fault} → x ≡ first_of_faults a → y ≡ first_of_faults b → r ≡ option_or x y → c ≡ [] → r ≡ first_of_faults (a ++ b ++ c)
of_three_none a b c p q h none = h ∙ (λ i. option_or (p i) (q i)) ∙ sym (three a b c ∙ ap (λ (fs : List Fault). option_or (option_or (first_of_faults a) (first_of_faults b)) (first_of_faults fs)) none ∙ or_none (option_or (first_of_faults a) (first_of_faults b)))

mapped_length : {A B : Type 0} (f : A → B) (items : List A) → length (map f items) ≡ length items
mapped_length f [] = refl
mapped_length f (item ∷ items) = ap suc (mapped_length f items)

mapped_signs : (scope : Scope) (others : List (Place × Token × Expr)) → is_by_signs (known_operands scope others) ≡ is_by_signs others
mapped_signs scope [] = refl
mapped_signs scope (other ∷ others) = ap (λ (b : Bool). adds other.1 && b) (mapped_signs scope others)

mapped_otherwise : (scope : Scope) (otherwise : Option Expr) → is_none (option_map (part_of scope) otherwise) ≡ is_none otherwise
mapped_otherwise scope None = refl
mapped_otherwise scope (Some e) = refl

at : (scope : Scope) (role : Role) (names : Names) (e : Expr) (d : Part) → part_of scope e ≡ d → faults_in scope role names e ≡ d.faults role names
at scope role names e d is = ap (λ (part : Part). part.faults role names) is

pub opens-Number : (scope : Scope) (role : Role) (names : Names) (place : Place) (digits : List ℕ) → faults_in scope role names (Number place digits) ≡ no_constraint role place
opens-Number scope role names place digits = at scope role names (Number place digits) _ (ap (part_of scope) (sym (rolls-Number place digits)) ∙ at_expr scope (Expr-F.Number place digits))

pub opens-Text : (scope : Scope) (role : Role) (names : Names) (place : Place) (text : List ℕ) (double : Bool) → faults_in scope role names (Text place text double) ≡ no_constraint role place
opens-Text scope role names place text double = at scope role names (Text place text double) _ (ap (part_of scope) (sym (rolls-Text place text double)) ∙ at_expr scope (Expr-F.Text place text double))

pub opens-Truth : (scope : Scope) (role : Role) (names : Names) (place : Place) (truth : Bool) → faults_in scope role names (Truth place truth) ≡ no_constraint role place
opens-Truth scope role names place truth = at scope role names (Truth place truth) _ (ap (part_of scope) (sym (rolls-Truth place truth)) ∙ at_expr scope (Expr-F.Truth place truth))

pub opens-Infinity : (scope : Scope) (role : Role) (names : Names) (place : Place) → faults_in scope role names (Infinity place) ≡ fault_if (not (is_bound role)) (Unsupported WInfinity) place ++ no_constraint role place
opens-Infinity scope role names place = at scope role names (Infinity place) _ (ap (part_of scope) (sym (rolls-Infinity place)) ∙ at_expr scope (Expr-F.Infinity place))

pub opens-Name : (scope : Scope) (role : Role) (names : Names) (place : Place) (name : List ℕ) → faults_in scope role names (Name place name) ≡ name_faults scope role place name (wrong_use (bare scope names name))
opens-Name scope role names place name = at scope role names (Name place name) _ (ap (part_of scope) (sym (rolls-Name place name)) ∙ at_expr scope (Expr-F.Name place name))

pub opens-Item : (scope : Scope) (role : Role) (names : Names) (place : Place) (name : List ℕ) (index : List Expr) → faults_in scope role names (Item place name index) ≡ name_faults scope role place name (wrong_use (indexed scope names name)) ++ all_faults (inside role) names (parts_of scope index)
opens-Item scope role names place name index = at scope role names (Item place name index) _ (ap (part_of scope) (sym (rolls-Item place name index)) ∙ at_expr scope (Expr-F.Item place name index))

pub opens-Call : (scope : Scope) (role : Role) (names : Names) (place : Place) (name : List ℕ) (index : List Expr) → faults_in scope role names (Call place name index) ≡ name_faults scope role place name (wrong_use (called (length index) scope names name)) ++ all_faults (inside role) names (parts_of scope index)
opens-Call scope role names place name index = at scope role names (Call place name index) _ (ap (part_of scope) (sym (rolls-Call place name index)) ∙ at_expr scope (Expr-F.Call place name index)) ∙ ap (λ (count : ℕ). name_faults scope role place name (wrong_use (called count scope names name)) ++ all_faults (inside role) names (parts_of scope index)) (mapped_length (part_of scope) index)

pub opens-Func : (scope : Scope) (role : Role) (names : Names) (place : Place) (word : Word) (index : List Expr) → faults_in scope role names (Func place word index) ≡ function_faults scope role place word (parts_of scope index) ++ argument_faults names (parts_of scope index) (argument_role scope role word (parts_of scope index))
opens-Func scope role names place word index = at scope role names (Func place word index) _ (ap (part_of scope) (sym (rolls-Func place word index)) ∙ at_expr scope (Expr-F.Func place word index))

pub opens-Proj : (scope : Scope) (role : Role) (names : Names) (place : Place) (set : Expr) (positions : Angle) → faults_in scope role names (Proj place set positions) ≡ no_constraint role place ++ faults_in scope (inside role) names set ++ all_faults (inside role) names (parts_of_angle scope positions)
opens-Proj scope role names place set positions = at scope role names (Proj place set positions) _ (ap (part_of scope) (sym (rolls-Proj place set positions)) ∙ at_expr scope (Expr-F.Proj place set positions))

pub opens-Paren : (scope : Scope) (role : Role) (names : Names) (place : Place) (inner : Expr) → faults_in scope role names (Paren place inner) ≡ faults_in scope (parenthesised role) names inner
opens-Paren scope role names place inner = at scope role names (Paren place inner) _ (ap (part_of scope) (sym (rolls-Paren place inner)) ∙ at_expr scope (Expr-F.Paren place inner))

pub opens-Braces : (scope : Scope) (role : Role) (names : Names) (place : Place) (body : Body) → faults_in scope role names (Braces place body) ≡ no_constraint role place ++ (part_of_body scope body).faults (inside role) names
opens-Braces scope role names place body = at scope role names (Braces place body) _ (ap (part_of scope) (sym (rolls-Braces place body)) ∙ at_expr scope (Expr-F.Braces place body))

pub opens-If : (scope : Scope) (role : Role) (names : Names) (place : Place) (vif : Bool) (test : Expr) (branch : Expr) (otherwise : Option Expr) → faults_in scope role names (If place vif test branch otherwise) ≡ fault_if ((vif || is_none otherwise) && not (is_constraint role)) NotConstraint place ++ faults_in scope (test_of vif role) names test ++ faults_in scope (branch_of vif role) names branch ++ given_faults (branch_of vif role) names (option_map (part_of scope) otherwise)
opens-If scope role names place vif test branch None = at scope role names (If place vif test branch None) _ (ap (part_of scope) (sym (rolls-If place vif test branch None)) ∙ at_expr scope (Expr-F.If place vif test branch None))
opens-If scope role names place vif test branch (Some otherwise) = at scope role names (If place vif test branch (Some otherwise)) _ (ap (part_of scope) (sym (rolls-If place vif test branch (Some otherwise))) ∙ at_expr scope (Expr-F.If place vif test branch (Some otherwise)))

pub opens-Factorial : (scope : Scope) (role : Role) (names : Names) (operand : Expr) (places : List Place) → faults_in scope role names (Factorial operand places) ≡ faults_in scope (inside role) names operand ++ factorial_faults role places
opens-Factorial scope role names operand places = at scope role names (Factorial operand places) _ (ap (part_of scope) (sym (rolls-Factorial operand places)) ∙ at_expr scope (Expr-F.Factorial operand places))

pub opens-Power : (scope : Scope) (role : Role) (names : Names) (place : Place) (sign : Sign) (base : Expr) (role_behind_sign : Option (Place × Bool)) (exponent : Expr) → faults_in scope role names (Power place sign base role_behind_sign exponent) ≡ faults_in scope (term_inside role) names base ++ fault_if ((part_of scope base).varies || (part_of scope exponent).varies) NotLinear place ++ no_constraint role place ++ faults_in scope (term_inside role) names exponent
opens-Power scope role names place sign base role_behind_sign exponent = at scope role names (Power place sign base role_behind_sign exponent) _ (ap (part_of scope) (sym (rolls-Power place sign base role_behind_sign exponent)) ∙ at_expr scope (Expr-F.Power place sign base role_behind_sign exponent))

pub opens-Signed : (scope : Scope) (role : Role) (names : Names) (place : Place) (minus : Bool) (operand : Expr) → faults_in scope role names (Signed place minus operand) ≡ no_constraint role place ++ faults_in scope (role_behind_sign (part_of scope operand).infinite role) names operand
opens-Signed scope role names place minus operand = at scope role names (Signed place minus operand) _ (ap (part_of scope) (sym (rolls-Signed place minus operand)) ∙ at_expr scope (Expr-F.Signed place minus operand))

pub opens-Big : (scope : Scope) (role : Role) (names : Names) (place : Place) (word : Word) (index : Index) (with_do : Bool) (inner : Expr) → faults_in scope role names (Big place word index with_do inner) ≡ fault_if (is_prod word && ((part_of_index scope index).varies || (part_of scope inner).varies)) NotLinear place ++ no_constraint role place ++ (part_of_index scope index).faults (inside role) names ++ faults_in scope (summand word role) ((part_of_index scope index).names names) inner
opens-Big scope role names place word index with_do inner = at scope role names (Big place word index with_do inner) _ (ap (part_of scope) (sym (rolls-Big place word index with_do inner)) ∙ at_expr scope (Expr-F.Big place word index with_do inner))

pub opens-Times : (scope : Scope) (role : Role) (names : Names) (first : Expr) (others : List (Place × Token × Expr)) → faults_in scope role names (Times first others) ≡ faults_in scope (operand (is_by_stars (part_of scope first).varies (known_operands scope others)) role) names first ++ factors_faults (is_by_stars (part_of scope first).varies (known_operands scope others)) (part_of scope first).varies role (operand (is_by_stars (part_of scope first).varies (known_operands scope others)) role) names (known_operands scope others)
opens-Times scope role names first others = at scope role names (Times first others) _ (ap (part_of scope) (sym (rolls-Times first others)) ∙ at_expr scope (Expr-F.Times first others))

pub opens-Plus : (scope : Scope) (role : Role) (names : Names) (first : Expr) (others : List (Place × Token × Expr)) → faults_in scope role names (Plus first others) ≡ faults_in scope (operand (is_by_signs others) role) names first ++ operands_faults role (operand (is_by_signs others) role) names (known_operands scope others)
opens-Plus scope role names first others = at scope role names (Plus first others) _ (ap (part_of scope) (sym (rolls-Plus first others)) ∙ at_expr scope (Expr-F.Plus first others)) ∙ ap (λ (b : Bool). faults_in scope (operand b role) names first ++ operands_faults role (operand b role) names (known_operands scope others)) (mapped_signs scope others)

pub opens-Compare : (scope : Scope) (role : Role) (names : Names) (first : Expr) (others : List (Place × Relation × Expr)) → faults_in scope role names (Compare first others) ≡ comparison_faults role names (part_of scope first) (known_sides scope others)
opens-Compare scope role names first others = at scope role names (Compare first others) _ (ap (part_of scope) (sym (rolls-Compare first others)) ∙ at_expr scope (Expr-F.Compare first others))

pub opens-Member : (scope : Scope) (role : Role) (names : Names) (place : Place) (tuple : Angle) (set : Expr) → faults_in scope role names (Member place tuple set) ≡ all_faults (inside role) names (parts_of_angle scope tuple) ++ no_constraint role place ++ faults_in scope (inside role) names set
opens-Member scope role names place tuple set = at scope role names (Member place tuple set) _ (ap (part_of scope) (sym (rolls-Member place tuple set)) ∙ at_expr scope (Expr-F.Member place tuple set))

pub opens-Not : (scope : Scope) (role : Role) (names : Names) (place : Place) (operand : Expr) → faults_in scope role names (Not place operand) ≡ no_constraint role place ++ faults_in scope (condition_inside role) names operand
opens-Not scope role names place operand = at scope role names (Not place operand) _ (ap (part_of scope) (sym (rolls-Not place operand)) ∙ at_expr scope (Expr-F.Not place operand))

pub opens-And : (scope : Scope) (role : Role) (names : Names) (first : Expr) (others : List (Place × Expr)) → faults_in scope role names (And first others) ≡ faults_in scope (conjunct role) names first ++ conjuncts_faults (conjunct role) names (known_conjuncts scope others)
opens-And scope role names first others = at scope role names (And first others) _ (ap (part_of scope) (sym (rolls-And first others)) ∙ at_expr scope (Expr-F.And first others))

pub opens-Or : (scope : Scope) (role : Role) (names : Names) (first : Expr) (others : List (Place × Bool × Expr)) → faults_in scope role names (Or first others) ≡ faults_in scope (condition_inside role) names first ++ operands_faults role (condition_inside role) names (known_disjuncts scope others)
opens-Or scope role names first others = at scope role names (Or first others) _ (ap (part_of scope) (sym (rolls-Or first others)) ∙ at_expr scope (Expr-F.Or first others))

pub opens-Forall : (scope : Scope) (role : Role) (names : Names) (place : Place) (index : Index) (with_do : Bool) (inner : Expr) → faults_in scope role names (Forall place index with_do inner) ≡ fault_if (not (is_constraint role)) NotConstraint place ++ (part_of_index scope index).faults (test role) names ++ faults_in scope (constraint_inside role) ((part_of_index scope index).names names) inner
opens-Forall scope role names place index with_do inner = at scope role names (Forall place index with_do inner) _ (ap (part_of scope) (sym (rolls-Forall place index with_do inner)) ∙ at_expr scope (Expr-F.Forall place index with_do inner))

-- ---- comparisons

pub compare_none : (scope : Scope) (role : Role) (names : Names) (first : Expr) (others : List (Place × Relation × Expr)) → length others < 1 → {x : Option Fault} → x ≡ first_of_faults (faults_in scope (side role) names first) →
    x ≡ first_of_faults (comparison_faults role names (part_of scope first) (known_sides scope others))
compare_none scope role names first [] within h = h
compare_none scope role names first (other ∷ others) within h = absurd (omega (arith, within))

pub compare_one : (scope : Scope) (role : Role) (names : Names) (first : Expr) (others : List (Place × Relation × Expr)) (c : Place × Relation × Expr) → 1 ≤ length others → length others < 2 → c ≡ get_or others 0 c →
    {x m r y s : Option Fault} → x ≡ first_of_faults (faults_in scope (side role) names first) →
    m ≡ first_of_faults (fault_if (is_constraint role && not (may_constrain c.1)) NotConstraint c.0) → r ≡ option_or x m → y ≡ first_of_faults (faults_in scope (side role) names c.2) → s ≡ option_or r y →
    s ≡ first_of_faults (comparison_faults role names (part_of scope first) (known_sides scope others))
compare_one scope role names first [] c some within r h k l m n = absurd (omega (arith, some))
compare_one scope role names first (other ∷ []) c some within r h k l m n =
    of_three _ _ _ h (k ∙ (λ i. first_of_faults (fault_if (is_constraint role && not (may_constrain (r i).1)) NotConstraint (r i).0))) l (m ∙ (λ i. first_of_faults (faults_in scope (side role) names (r i).2))) n
compare_one scope role names first (other ∷ next ∷ others) c some within r h k l m n = absurd (omega (arith, within))

pub compare_two : (scope : Scope) (role : Role) (names : Names) (first : Expr) (others : List (Place × Relation × Expr)) (c e : Place × Relation × Expr) → 2 ≤ length others → c ≡ get_or others 0 c → e ≡ get_or others 1 e →
    {x m r y s z t : Option Fault} → x ≡ first_of_faults (faults_in scope (chain_side role) names first) →
    m ≡ first_of_faults (fault_if (not (is_constraint role && encloses c.1 e.1 && not ((part_of scope first).varies || (part_of scope e.2).varies))) NotConstraint c.0) → r ≡ option_or x m →
    y ≡ first_of_faults (faults_in scope (chain_side role) names c.2) → s ≡ option_or r y → z ≡ first_of_faults (faults_in scope (chain_side role) names e.2) → t ≡ option_or s z →
    t ≡ first_of_faults (comparison_faults role names (part_of scope first) (known_sides scope others))
compare_two scope role names first [] c e some r t h k l m n u v = absurd (omega (arith, some))
compare_two scope role names first (other ∷ []) c e some r t h k l m n u v = absurd (omega (arith, some))
compare_two scope role names first (other ∷ next ∷ others) c e some r t h k l m n u v =
    of_four _ _ _ _ h (k ∙ (λ i. first_of_faults (fault_if (not (is_constraint role && encloses (r i).1 (t i).1 && not ((part_of scope first).varies || (part_of scope (t i).2).varies))) NotConstraint (r i).0))) l
    (m ∙ (λ i. first_of_faults (faults_in scope (chain_side role) names (r i).2))) n (u ∙ (λ i. first_of_faults (faults_in scope (chain_side role) names (t i).2))) v
