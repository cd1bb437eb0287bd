-- Statements are those of an accepted model, or they have a first fault.
use Rattle.std.proofs.Common.{◌≡◌, ◌≢◌, ℕ, Bool, true, false, nat_eq, List, [], ◌∷◌, ◌++◌, Option, Some, None, refl, sym, ◌∙◌, ap, inl, inr, append_assoc}
use Rattle.std.specs.Prelude.{◌⊎◌, Contains}
use Rattle.std.specs.List.{AllByRecursion}
use Rattle.std.specs.Cmp.Lexicographic.{pointwise, bytes_decides}
use Rattle.std.proofs.lemmas.Bool.{true≢false}
use Rattle.std.proofs.lemmas.List.{map-append, append-nil}
use Rattle.std.proofs.lemmas.Option.{none-some}
use Rattle.zim_fault.specs.declared.faults.Fault.{Fault}
use Rattle.zim_fault.specs.declared.kinds.Kind.TheVariants.{Syntax}
use Rattle.zim_tree.specs.declared.stmt.Stmt.{Stmt}
use Rattle.zim_rational.specs.Rational.{zero}
use Rattle.zim_linear.proofs.FormLaws.{same_or_other}
use Rattle.zim_decimal.specs.Token.{is_number_token}
use Rattle.zim_rows.specs.System.{LinearSystem}
use Rattle.zim_rows.specs.Scaled.{first_fault}
use Rattle.zim_plain.specs.Statements.{WrittenText, Divisor, Coefficient, Factor, Item, Constant, Multiple, Sum, Statement, Variable, Objective, Constraint, PlainModel, signed_items, head_of, given_name, variables}
use Rattle.zim_plain.specs.Meaning.{literal_number}
use Rattle.zim_plain.specs.Suits.{SuitsDivisor, SuitsCoefficient, SuitsFactor, SuitsItem, SuitsSum, is_goal, HasSuitedParts, MayFollow}
use Rattle.zim_plain.specs.Trees.{tree_of, trees_of}
use Rattle.zim_plain.specs.Reading.{read_statement}
use Rattle.zim_plain.specs.Systems.{place_of, IsSystemOf}
use Rattle.zim_plain.specs.Faults.{fault_at, HasFault, unsuited, numbers, number_fault, AreFaultless, IsPlain}
use Rattle.zim_plain.specs.Answers.{not_plain, stated, finished, HaveAnswer, accepted, refused}
use Rattle.zim_plain.proofs.BuildLaws.{faultless_push}
use Rattle.zim_plain.proofs.FormsExist.{has_system}
use Rattle.zim_plain.proofs.Places.{no_place, place_contains}
use Rattle.zim_plain.proofs.ReadSound.{statement_sound}
use Rattle.zim_plain.proofs.TreeLaws.{reads_statement}

-- ---- what is so or isn't

-- a fact is so, or it isn't
abbrev IsOrNot : Type 0 → Type 0
IsOrNot P = P ⊎ (P → ⊥)

both_or_not : {P Q : Type 0} → IsOrNot P → IsOrNot Q → IsOrNot (P × Q)
both_or_not (inl p) (inl q) = inl (p, q)
both_or_not (inl p) (inr never) = inr (λ h. never h.1)
both_or_not (inr never) q = inr (λ h. never h.0)

all_or_not : {X : Type 0} (P : X → Type 0) → ((x : X) → IsOrNot (P x)) → (xs : List X) → IsOrNot (AllByRecursion P xs)
all_or_not P each [] = inl tt
all_or_not P each (x ∷ xs) = both_or_not (each x) (all_or_not P each xs)

is_or_not : (b c : Bool) → IsOrNot (b ≡ c)
is_or_not true true = inl refl
is_or_not true false = inr (λ e. cc)
is_or_not false true = inr (λ e. cc)
is_or_not false false = inl refl

-- two texts are the same, or they aren't
other_or_not : (one other : WrittenText) → IsOrNot (one ≢ other)
other_or_not one other = by (pointwise nat_eq one other) refl where
  by : (b : Bool) → pointwise nat_eq one other ≡ b → IsOrNot (one ≢ other)
  by true e = inr (λ apart. apart ((bytes_decides one other).0 e))
  by false e = inl (λ same. true≢false (sym ((bytes_decides one other).1 same) ∙ e))

contains_or_not : (names : List WrittenText) (name : WrittenText) → IsOrNot (Contains names name)
contains_or_not names name = by (place_of names name) refl where
  by : (o : Option ℕ) → place_of names name ≡ o → IsOrNot (Contains names name)
  by (Some p) e = inl (place_contains names name p e)
  by None e = inr (no_place names name e)

divisor_or_not : (divisor : Option Divisor) → IsOrNot (SuitsDivisor divisor)
divisor_or_not None = inl tt
divisor_or_not (Some divisor) = both_or_not (is_or_not (is_number_token divisor.literal.text) true) (by (same_or_other (literal_number divisor.literal) zero))
  where
    by : (literal_number divisor.literal ≡ zero) ⊎ (literal_number divisor.literal ≢ zero) → IsOrNot (literal_number divisor.literal ≢ zero)
    by (inl same) = inr (λ other. other same)
    by (inr other) = inl other

coefficient_or_not : (coefficient : Coefficient) → IsOrNot (SuitsCoefficient coefficient)
coefficient_or_not coefficient = both_or_not (is_or_not (is_number_token coefficient.number.text) true) (divisor_or_not coefficient.divisor)

factor_or_not : (factor : Option Factor) → IsOrNot (SuitsFactor factor)
factor_or_not None = inl tt
factor_or_not (Some factor) = coefficient_or_not factor.coefficient

item_or_not : (names : List WrittenText) (i : Bool × Item) → IsOrNot (SuitsItem names i)
item_or_not names (negative, Constant coefficient) = coefficient_or_not coefficient
item_or_not names (negative, Multiple factor place name) = both_or_not (factor_or_not factor) (contains_or_not names name)

sum_or_not : (names : List WrittenText) (sum : Sum) → IsOrNot (SuitsSum names sum)
sum_or_not names sum = all_or_not (SuitsItem names) (item_or_not names) (signed_items sum)

parts_or_not : (before : PlainModel) (s : Statement) → IsOrNot (HasSuitedParts before s)
parts_or_not before (Variable head) = inl tt
parts_or_not before (Objective maximize head sum) =
    both_or_not (sum_or_not (variables before) sum) (all_or_not (λ (other : Statement). is_goal other ≡ false) (λ other. is_or_not (is_goal other) false) before)
parts_or_not before (Constraint head left sense at right) = both_or_not (sum_or_not (variables before) left) (sum_or_not (variables before) right)

follows_or_not : (before : PlainModel) (s : Statement) → IsOrNot (MayFollow before s)
follows_or_not before s =
    by (all_or_not (λ (other : Statement). given_name other ≢ given_name s) (λ other. other_or_not (given_name other) (given_name s)) before) (parts_or_not before s)
  where
    by : IsOrNot (AllByRecursion (λ (other : Statement). given_name other ≢ given_name s) before) → IsOrNot (HasSuitedParts before s) → IsOrNot (MayFollow before s)
    by (inl new) (inl parts) = inl (record { name_new = new; parts = parts })
    by (inl new) (inr never) = inr (λ may. never may.parts)
    by (inr never) parts = inr (λ may. never may.name_new)

-- ---- statement by statement

-- a statement has a fault behind those before it, or it has none
data IsNext (before : PlainModel) (s : Statement) : Type 0 where
  faulty : (fault : Fault) → HasFault before s fault → IsNext before s
  faultless : MayFollow before s → number_fault before s ≡ None → IsNext before s

next : (before : PlainModel) (s : Statement) → IsNext before s
next before s = by (follows_or_not before s)
  where
    with_numbers : MayFollow before s → (o : Option Fault) → number_fault before s ≡ o → IsNext before s
    with_numbers may (Some fault) e = faulty fault (numbers fault may e)
    with_numbers may None e = faultless may e

    by : IsOrNot (MayFollow before s) → IsNext before s
    by (inr never) = faulty (fault_at Syntax (head_of s).word) (unsuited never)
    by (inl may) = with_numbers may (number_fault before s) refl

-- all statements are read
at_last : (trees : List Stmt) (model : PlainModel) → trees ≡ trees_of model → IsPlain model → HaveAnswer trees
at_last trees model same plain = by (has_system model plain)
  where
    with_fault : (system : LinearSystem) → IsSystemOf model system → (o : Option Fault) → first_fault system ≡ o → HaveAnswer trees
    with_fault system is (Some fault) e = refused fault (finished model system fault same plain is e)
    with_fault system is None e = accepted model same (record { plain = plain; system = system; system_is = is; faultless = e })

    by : (system : LinearSystem) × IsSystemOf model system → HaveAnswer trees
    by (system, is) = with_fault system is (first_fault system) refl

one_behind : (before : PlainModel) (s : Statement) (t : Stmt) (rest : List Stmt) → tree_of s ≡ t → trees_of before ++ t ∷ rest ≡ trees_of (before ++ s ∷ []) ++ rest
one_behind before s t rest e =
    ap (λ (u : Stmt). trees_of before ++ u ∷ rest) (sym e)
    ∙ sym (append_assoc (trees_of before) (tree_of s ∷ []) rest)
    ∙ ap (λ (ts : List Stmt). ts ++ rest) (sym (map-append tree_of before (s ∷ [])))

answer_from : (trees : List Stmt) (before : PlainModel) (rest : List Stmt) → trees ≡ trees_of before ++ rest → AreFaultless [] before → HaveAnswer trees
answer_from trees before [] same plain = at_last trees before (same ∙ append-nil (trees_of before)) plain
answer_from trees before (t ∷ rest) same plain =
    by (read_statement t) refl (λ s is may none. answer_from trees (before ++ s ∷ []) rest (same ∙ one_behind before s t rest is) (faultless_push [] before s plain (record { follows = may; numbers = none })))
  where
    with_next : (s : Statement) → tree_of s ≡ t → ((is : tree_of s ≡ t) → MayFollow before s → number_fault before s ≡ None → HaveAnswer trees) → IsNext before s → HaveAnswer trees
    with_next s is go (faulty fault has) = refused fault (stated before s rest fault (same ∙ ap (λ (u : Stmt). trees_of before ++ u ∷ rest) (sym is)) plain has)
    with_next s is go (faultless may none) = go is may none

    by : (o : Option Statement) → read_statement t ≡ o → ((s : Statement) → tree_of s ≡ t → MayFollow before s → number_fault before s ≡ None → HaveAnswer trees) → HaveAnswer trees
    by None e go = refused (fault_at Syntax t.first) (not_plain before t rest same plain (λ form. none-some form.0 (sym e ∙ (sym (ap read_statement form.1) ∙ reads_statement form.0))))
    by (Some s) e go = with_next s (statement_sound t s e) (go s) (next before s)

-- statements are those of an accepted model, or they have a first fault
pub have_answer : (trees : List Stmt) → HaveAnswer trees
have_answer trees = answer_from trees [] trees refl tt
