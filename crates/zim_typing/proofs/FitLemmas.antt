-- What it says of the parts of an expression that nothing is marked in it.
use Rattle.std.proofs.Common.{ℕ, ◌≡◌, ◌⊎◌, inl, inr, Bool, true, false, not, ◌||◌, ◌&&◌, List, [], ◌∷◌, ◌++◌, ◌==◌, Option, Some, None, if◌then◌else◌, refl, sym}
use Rattle.std.proofs.lemmas.Bool.{false≢true}
use Rattle.zim_fault.specs.declared.faults.Place.{Place}
use Rattle.zim_fault.specs.declared.kinds.Kind.{Kind}
use Rattle.zim_fault.specs.declared.kinds.Kind.TheVariants.{VariableHere}
use Rattle.zim_fault.specs.declared.words.Word.{Word}
use Rattle.zim_fault.specs.declared.words.Word.TheVariants.{WSum, WProd}
use Rattle.zim_typed.specs.declared.scope.Declared.{Declared}
use Rattle.zim_typed.specs.declared.scope.Declared.TheVariants.{Set, Parameter, Variable, Function, Constraint, Objective}
use Rattle.zim_typed.specs.declared.constant.Resolved.TheVariants as resolved
use Rattle.zim_typed.specs.Scope.{Text, Names, Scope, Use, Stands, Varies, Unknown, Misused, is_local, kind_of_name, bare, indexed, called, bare_declared, indexed_declared, called_declared}
use Rattle.zim_typed.specs.Variables.{is_variable, names_variable}
use Rattle.zim_static.specs.declared.role.Role.{Role}
use Rattle.zim_static.specs.declared.role.Role.TheVariants as role
use Rattle.zim_static.specs.Roles.{inside, term_inside, operand, condition_inside, conjunct, parenthesised, branch_of, test_of, side, role_behind_sign, summand, is_term, is_constraint, is_bound}
use Rattle.zim_static.specs.Faults.{fault_if, fault_of_kind, wrong_use}
use Rattle.zim_typing.specs.Typing.{resolution}

-- ---- lists without members, and truths

pub none_left : {A : Type 0} (xs ys : List A) → xs ++ ys ≡ [] → xs ≡ []
none_left [] ys h = refl
none_left (x ∷ xs) ys h = cc

pub none_right : {A : Type 0} (xs ys : List A) → xs ++ ys ≡ [] → ys ≡ []
none_right [] ys h = h
none_right (x ∷ xs) ys h = cc

-- those behind the first of four
pub four_parts : {A : Type 0} (a b c d : List A) → a ++ b ++ c ++ d ≡ [] → (b ≡ []) × (c ≡ []) × (d ≡ [])
four_parts a b c d h = (none_right a b (none_left (a ++ b) c (none_left (a ++ b ++ c) d h)), none_right (a ++ b) c (none_left (a ++ b ++ c) d h), none_right (a ++ b ++ c) d h)

-- no fault, so its condition doesn't hold
pub not_marked : (holds : Bool) (kind : Kind) (place : Place) → fault_if holds kind place ≡ [] → holds ≡ false
not_marked true kind place h = cc
not_marked false kind place h = refl

pub either_left : (a b : Bool) → (a || b) ≡ false → a ≡ false
either_left true b h = h
either_left false b h = refl

pub either_right : (a b : Bool) → (a || b) ≡ false → b ≡ false
either_right true b h = absurd (false≢true (sym h))
either_right false b h = h

pub neither : (a b : Bool) → a ≡ false → b ≡ false → (a || b) ≡ false
neither a b first second = λ i. first i || second i

-- ---- roles in which an expression without variables is a constant

-- in these roles an expression with no fault has no variables, or is known to have none
abbrev pub Free : Role → Bool → Type 0
Free role.Value varies = Unit {0}
Free role.Term varies = varies ≡ false
Free role.Condition varies = varies ≡ false
Free _ varies = ⊥

pub free_inside : (r : Role) (varies : Bool) → Free r varies → inside r ≡ role.Value
free_inside role.Value varies h = refl
free_inside role.Bound varies h = absurd h
free_inside role.Term varies h = refl
free_inside role.Condition varies h = refl
free_inside role.Constraint varies h = absurd h
free_inside role.NoConstraint varies h = absurd h

pub free_term_inside : (r : Role) (varies part : Bool) → Free r varies → (varies ≡ false → part ≡ false) → Free (term_inside r) part
free_term_inside role.Value varies part h none = tt
free_term_inside role.Bound varies part h none = absurd h
free_term_inside role.Term varies part h none = none h
free_term_inside role.Condition varies part h none = tt
free_term_inside role.Constraint varies part h none = absurd h
free_term_inside role.NoConstraint varies part h none = absurd h

pub free_operand : (b : Bool) (r : Role) (varies part : Bool) → Free r varies → (varies ≡ false → part ≡ false) → Free (operand b r) part
free_operand true r varies part h none = free_term_inside r varies part h none
free_operand false role.Value varies part h none = tt
free_operand false role.Bound varies part h none = absurd h
free_operand false role.Term varies part h none = tt
free_operand false role.Condition varies part h none = tt
free_operand false role.Constraint varies part h none = absurd h
free_operand false role.NoConstraint varies part h none = absurd h

pub free_condition_inside : (r : Role) (varies part : Bool) → Free r varies → (varies ≡ false → part ≡ false) → Free (condition_inside r) part
free_condition_inside role.Value varies part h none = tt
free_condition_inside role.Bound varies part h none = absurd h
free_condition_inside role.Term varies part h none = tt
free_condition_inside role.Condition varies part h none = none h
free_condition_inside role.Constraint varies part h none = absurd h
free_condition_inside role.NoConstraint varies part h none = absurd h

pub free_conjunct : (r : Role) (varies part : Bool) → Free r varies → (varies ≡ false → part ≡ false) → Free (conjunct r) part
free_conjunct role.Value varies part h none = tt
free_conjunct role.Bound varies part h none = absurd h
free_conjunct role.Term varies part h none = tt
free_conjunct role.Condition varies part h none = none h
free_conjunct role.Constraint varies part h none = absurd h
free_conjunct role.NoConstraint varies part h none = absurd h

pub free_parenthesised : (r : Role) (varies part : Bool) → Free r varies → (varies ≡ false → part ≡ false) → Free (parenthesised r) part
free_parenthesised role.Value varies part h none = tt
free_parenthesised role.Bound varies part h none = absurd h
free_parenthesised role.Term varies part h none = none h
free_parenthesised role.Condition varies part h none = none h
free_parenthesised role.Constraint varies part h none = absurd h
free_parenthesised role.NoConstraint varies part h none = absurd h

pub free_branch : (r : Role) (varies part : Bool) → Free r varies → (varies ≡ false → part ≡ false) → Free (branch_of false r) part
free_branch role.Value varies part h none = tt
free_branch role.Bound varies part h none = absurd h
free_branch role.Term varies part h none = none h
free_branch role.Condition varies part h none = tt
free_branch role.Constraint varies part h none = absurd h
free_branch role.NoConstraint varies part h none = absurd h

pub free_test : (r : Role) (varies part : Bool) → Free r varies → Free (test_of false r) part
free_test role.Value varies part h = tt
free_test role.Bound varies part h = absurd h
free_test role.Term varies part h = tt
free_test role.Condition varies part h = tt
free_test role.Constraint varies part h = absurd h
free_test role.NoConstraint varies part h = absurd h

pub free_side : (r : Role) (varies part : Bool) → Free r varies → (varies ≡ false → part ≡ false) → Free (side r) part
free_side role.Value varies part h none = tt
free_side role.Bound varies part h none = absurd h
free_side role.Term varies part h none = tt
free_side role.Condition varies part h none = none h
free_side role.Constraint varies part h none = absurd h
free_side role.NoConstraint varies part h none = absurd h

pub free_behind_sign : (infinite : Bool) (r : Role) (varies part : Bool) → Free r varies → (varies ≡ false → part ≡ false) → Free (role_behind_sign infinite r) part
free_behind_sign true role.Value varies part h none = tt
free_behind_sign true role.Bound varies part h none = absurd h
free_behind_sign true role.Term varies part h none = none h
free_behind_sign true role.Condition varies part h none = tt
free_behind_sign true role.Constraint varies part h none = absurd h
free_behind_sign true role.NoConstraint varies part h none = absurd h
free_behind_sign false role.Value varies part h none = tt
free_behind_sign false role.Bound varies part h none = absurd h
free_behind_sign false role.Term varies part h none = none h
free_behind_sign false role.Condition varies part h none = tt
free_behind_sign false role.Constraint varies part h none = absurd h
free_behind_sign false role.NoConstraint varies part h none = absurd h

pub free_unconstrained : (r : Role) (varies : Bool) → Free r varies → is_constraint r ≡ false
free_unconstrained role.Value varies h = refl
free_unconstrained role.Bound varies h = absurd h
free_unconstrained role.Term varies h = refl
free_unconstrained role.Condition varies h = refl
free_unconstrained role.Constraint varies h = absurd h
free_unconstrained role.NoConstraint varies h = absurd h

-- what would be a fault in all of them but in a term, and is a variable there, isn't there
pub free_variable : (r : Role) (varies here : Bool) (place : Place) → Free r varies → (varies ≡ false → here ≡ false) → fault_if (here && not (is_term r)) VariableHere place ≡ [] → here ≡ false
free_variable role.Value varies true place h none quiet = cc
free_variable role.Value varies false place h none quiet = refl
free_variable role.Bound varies here place h none quiet = absurd h
free_variable role.Term varies here place h none quiet = none h
free_variable role.Condition varies here place h none quiet = none h
free_variable role.Constraint varies here place h none quiet = absurd h
free_variable role.NoConstraint varies here place h none quiet = absurd h

-- ---- names

-- no fault of a use
pub right_use : (u : Use) (place : Place) → fault_of_kind (wrong_use u) place ≡ [] → (u ≡ Stands (resolution u)) ⊎ (u ≡ Varies)
right_use (Stands r) place h = inl refl
right_use Varies place h = inr refl
right_use Unknown place h = cc
right_use Misused place h = cc

-- a variable is no value
pub bare_varies : (scope : Scope) (names : Names) (name : Text) → bare scope names name ≡ Varies → names_variable scope name ≡ true
bare_varies scope names name h = at_local (is_local names name) (kind_of_name scope name) h
  where
    at_local : (local : Bool) (d : Option Declared) → (if local then Stands resolved.Local else bare_declared d) ≡ Varies → is_variable d ≡ true
    at_local true d h = cc
    at_local false None h = cc
    at_local false (Some (Set true)) h = cc
    at_local false (Some (Set false)) h = cc
    at_local false (Some (Parameter true)) h = cc
    at_local false (Some (Parameter false)) h = cc
    at_local false (Some (Variable b)) h = refl
    at_local false (Some (Function n m)) h = cc
    at_local false (Some Constraint) h = cc
    at_local false (Some Objective) h = cc

pub indexed_varies : (scope : Scope) (names : Names) (name : Text) → indexed scope names name ≡ Varies → names_variable scope name ≡ true
indexed_varies scope names name h = at_local (is_local names name) (kind_of_name scope name) h
  where
    at_local : (local : Bool) (d : Option Declared) → (if local then Misused else indexed_declared d) ≡ Varies → is_variable d ≡ true
    at_local true d h = cc
    at_local false None h = cc
    at_local false (Some (Set true)) h = cc
    at_local false (Some (Set false)) h = cc
    at_local false (Some (Parameter true)) h = cc
    at_local false (Some (Parameter false)) h = cc
    at_local false (Some (Variable b)) h = refl
    at_local false (Some (Function n m)) h = cc
    at_local false (Some Constraint) h = cc
    at_local false (Some Objective) h = cc

pub called_never_varies : (count : ℕ) (scope : Scope) (names : Names) (name : Text) → called count scope names name ≡ Varies → ⊥
called_never_varies count scope names name h = at_local (is_local names name) (kind_of_name scope name) h
  where
    at_count : (same : Bool) → (if same then Stands resolved.Function else Misused) ≡ Varies → ⊥
    at_count true h = cc
    at_count false h = cc

    at_local : (local : Bool) (d : Option Declared) → (if local then Misused else called_declared count d) ≡ Varies → ⊥
    at_local true d h = cc
    at_local false None h = cc
    at_local false (Some (Set b)) h = cc
    at_local false (Some (Parameter b)) h = cc
    at_local false (Some (Variable b)) h = cc
    at_local false (Some (Function n m)) h = at_count (count == n) h
    at_local false (Some Constraint) h = cc
    at_local false (Some Objective) h = cc

-- ---- loops

pub free_summand : (word : Word) (r : Role) (varies part : Bool) → Free r varies → (varies ≡ false → part ≡ false) → Free (summand word r) part
free_summand WSum r varies part h none = free_term_inside r varies part h none
free_summand WProd r varies part h none = free_term_inside r varies part h none
free_summand _ r varies part h none = free_value r varies part h
  where
    free_value : (r : Role) (varies part : Bool) → Free r varies → Free (inside r) part
    free_value role.Value varies part h = tt
    free_value role.Bound varies part h = absurd h
    free_value role.Term varies part h = tt
    free_value role.Condition varies part h = tt
    free_value role.Constraint varies part h = absurd h
    free_value role.NoConstraint varies part h = absurd h

pub free_unbounded : (r : Role) (varies : Bool) → Free r varies → is_bound r ≡ false
free_unbounded role.Value varies h = refl
free_unbounded role.Bound varies h = absurd h
free_unbounded role.Term varies h = refl
free_unbounded role.Condition varies h = refl
free_unbounded role.Constraint varies h = absurd h
free_unbounded role.NoConstraint varies h = absurd h

-- ---- words that fit one role or another

-- an `if` without `else` is no value, and neither is a `vif`
pub either_way : (vif : Bool) → (vif || true) ≡ true
either_way true = refl
either_way false = refl

-- what stands behind a sign where a value stands is a value
pub value_sign : (infinite : Bool) → role_behind_sign infinite role.Value ≡ role.Value
value_sign true = refl
value_sign false = refl

-- and so is an operand
pub value_operand : (b : Bool) → operand b role.Value ≡ role.Value
value_operand true = refl
value_operand false = refl
