-- The place of the first fault of statements is one that stands in them: each map of places that keeps the statements keeps it.
use Rattle.std.proofs.Common.{◌≡◌, ℕ, ◌+◌, Bool, true, false, cond, List, [], ◌∷◌, ◌++◌, map, Option, Some, None, option_map, refl, sym, ap, subst, ◌∙◌}
use Rattle.std.specs.Prelude.{Result, Ok, Err, IfSome, nat_le, length}
use Rattle.zim_fault.specs.declared.faults.Fault.{Fault}
use Rattle.zim_fault.specs.declared.faults.Place.{Place}
use Rattle.zim_fault.specs.declared.kinds.Kind.{Kind}
use Rattle.zim_fault.specs.declared.kinds.Kind.TheVariants.{TooManyRows, TooManyColumns}
use Rattle.zim_tree.specs.declared.stmt.Stmt.{Stmt}
use Rattle.zim_tree.specs.PlainStatement.{replaced_statement}
use Rattle.zim_fraction.specs.declared.fault.Past as fraction
use Rattle.zim_fraction.specs.Limit.{is_number, is_sum_within}
use Rattle.zim_decimal.specs.Literal.{literal_answer}
use Rattle.zim_rational.specs.Rational.{Rational, zero, over}
use Rattle.zim_rows.specs.declared.rows.GivenRow.{GivenRow}
use Rattle.zim_rows.specs.declared.rows.Objective as rows
use Rattle.zim_rows.specs.Factors.{row_within, form_within}
use Rattle.zim_rows.specs.System.{LinearSystem}
use Rattle.zim_rows.specs.Scaled.{past_fault, rows_fault, objective_fault, earlier_fault, first_fault}
use Rattle.zim_plain.specs.Statements.{WrittenText, Literal, Divisor, Coefficient, Item, Constant, Multiple, Further, Sum, Statement, Variable, Objective, Constraint, PlainModel, head_of, variables}
use Rattle.zim_plain.specs.Meaning.{literal_number}
use Rattle.zim_plain.specs.Faults.{past_unless, literal_fault, divisor_fault, coefficient_fault, item_fault, items_fault, amount, amount_among, sums_fault, constants_fault, has_variable, first_item, numbers_fault, adding_fault, difference_fault, limit_fault, rows_of, number_fault, HasFault, unsuited, numbers}
use Rattle.zim_plain.specs.Systems.{AreRowsOf, HasObjectiveOf, IsSystemOf}
use Rattle.zim_plain.specs.Answers.{IsFirstFault, not_plain, stated, finished, HasPlaceOfStatements}
use Rattle.zim_plain.proofs.Literals.{literal_faultless, literal_faulty}
use Rattle.zim_plain.proofs.ReplacedTrees.{put_literal, put_divisor, put_coefficient, put_item, put_further, put_sum, put_statement, kept_statement, kept_model, kept_among}

-- a map of places keeps a place
abbrev IsKept : (Place → Place) → Place → Type 0
IsKept put place = put place ≡ place

-- it keeps the place of a fault, where there is one
abbrev FaultKept : (Place → Place) → Option Fault → Type 0
FaultKept put fault = IfSome fault (λ (f : Fault). IsKept put f.place)

first_kept : (put : Place → Place) (a b : Option Fault) → FaultKept put a → FaultKept put b → FaultKept put (earlier_fault a b)
first_kept put (Some f) b h k = h
first_kept put None b h k = k

past_kept : (put : Place → Place) (within : Bool) (place : Place) → IsKept put place → FaultKept put (past_unless within place)
past_kept put true place h = tt
past_kept put false place h = h

-- ---- numbers

literal_kept : (put : Place → Place) (l : Literal) → put_literal put l ≡ l → FaultKept put (literal_fault l)
literal_kept put l h = by (literal_answer l.text) refl
  where
    by : (r : Result Rational fraction.Past) → literal_answer l.text ≡ r → FaultKept put (literal_fault l)
    by (Ok v) is = subst (FaultKept put) (sym (literal_faultless l v (sym is))) tt
    by (Err p) is = subst (FaultKept put) (sym (literal_faulty l p (sym is))) (ap (λ (x : Literal). x.place) h)

divisor_kept : (put : Place → Place) (q : Rational) (d : Option Divisor) → option_map (put_divisor put) d ≡ d → FaultKept put (divisor_fault q d)
divisor_kept put q None h = tt
divisor_kept put q (Some d) h =
    let same : put_divisor put d ≡ d = cc in
    first_kept put (literal_fault d.literal) (past_unless (is_number (over q (literal_number d.literal))) d.slash)
    (literal_kept put d.literal (ap (λ (x : Divisor). x.literal) same))
    (past_kept put (is_number (over q (literal_number d.literal))) d.slash (ap (λ (x : Divisor). x.slash) same))

coefficient_kept : (put : Place → Place) (c : Coefficient) → put_coefficient put c ≡ c → FaultKept put (coefficient_fault c)
coefficient_kept put c h =
    first_kept put (literal_fault c.number) (divisor_fault (literal_number c.number) c.divisor)
    (literal_kept put c.number (ap (λ (x : Coefficient). x.number) h))
    (divisor_kept put (literal_number c.number) c.divisor (ap (λ (x : Coefficient). x.divisor) h))

item_kept : (put : Place → Place) (item : Item) → put_item put item ≡ item → FaultKept put (item_fault item)
item_kept put (Constant c) h = let same : put_coefficient put c ≡ c = cc in coefficient_kept put c same
item_kept put (Multiple None place name) h = tt
item_kept put (Multiple (Some factor) place name) h =
    let same : put_coefficient put factor.coefficient ≡ factor.coefficient = cc in coefficient_kept put factor.coefficient same

items_kept : (put : Place → Place) (fs : List Further) → map (put_further put) fs ≡ fs → FaultKept put (items_fault fs)
unfolding items_fault
items_kept put [] h = tt
items_kept put (f ∷ fs) h =
    let first : put_further put f ≡ f = cc in
    let rest : map (put_further put) fs ≡ fs = cc in
    first_kept put (item_fault f.item) (items_fault fs) (item_kept put f.item (ap (λ (x : Further). x.item) first)) (items_kept put fs rest)

-- ---- sums

sums_kept : (put : Place → Place) (before : List (Bool × Item)) (fs : List Further) → map (put_further put) fs ≡ fs → FaultKept put (sums_fault before fs)
unfolding sums_fault
sums_kept put before [] h = tt
sums_kept put before (f ∷ fs) h =
    let first : put_further put f ≡ f = cc in
    let rest : map (put_further put) fs ≡ fs = cc in
    first_kept put _ (sums_fault (before ++ (f.sign.negative, f.item) ∷ []) fs)
    (past_kept put (is_sum_within (amount_among f.item zero before) (amount (f.sign.negative, f.item))) f.sign.place (ap (λ (x : Further). x.sign.place) first))
    (sums_kept put (before ++ (f.sign.negative, f.item) ∷ []) fs rest)

constants_kept : (put : Place → Place) (before : List (Bool × Item)) (fs : List Further) → map (put_further put) fs ≡ fs → FaultKept put (constants_fault before fs)
unfolding constants_fault
constants_kept put before [] h = tt
constants_kept put before (f ∷ fs) h =
    let first : put_further put f ≡ f = cc in
    let rest : map (put_further put) fs ≡ fs = cc in
    first_kept put (item_fault f.item) _ (item_kept put f.item (ap (λ (x : Further). x.item) first))
    (first_kept put _ (constants_fault (before ++ (f.sign.negative, f.item) ∷ []) fs)
    (past_kept put (is_sum_within (amount_among f.item zero before) (amount (f.sign.negative, f.item))) f.sign.place (ap (λ (x : Further). x.sign.place) first))
    (constants_kept put (before ++ (f.sign.negative, f.item) ∷ []) fs rest))

either_kept : (put : Place → Place) (b : Bool) (one other : Option Fault) → FaultKept put one → FaultKept put other → FaultKept put (cond b one other)
either_kept put true one other h k = h
either_kept put false one other h k = k

numbers_kept : (put : Place → Place) (sum : Sum) → put_sum put sum ≡ sum → FaultKept put (numbers_fault sum)
numbers_kept put sum h =
    let others : map (put_further put) sum.others ≡ sum.others = ap (λ (x : Sum). x.others) h in
    first_kept put (item_fault sum.first) _ (item_kept put sum.first (ap (λ (x : Sum). x.first) h))
    (either_kept put (has_variable sum) (items_fault sum.others) (constants_fault (first_item sum) sum.others)
    (items_kept put sum.others others)
    (constants_kept put (first_item sum) sum.others others))

adding_kept : (put : Place → Place) (sum : Sum) → put_sum put sum ≡ sum → FaultKept put (adding_fault sum)
adding_kept put sum h =
    either_kept put (has_variable sum) (sums_fault (first_item sum) sum.others) None (sums_kept put (first_item sum) sum.others (ap (λ (x : Sum). x.others) h)) tt

-- ---- statements

limit_kept : (put : Place → Place) (count : ℕ) (kind : Kind) (place : Place) → IsKept put place → FaultKept put (limit_fault count kind place)
limit_kept put count kind place h = by (nat_le 1000000 count)
  where
    by : (b : Bool) → FaultKept put (cond b (Some (record { place = place; kind = kind })) None)
    by true = h
    by false = tt

number_kept : (put : Place → Place) (before : PlainModel) (s : Statement) → put_statement put s ≡ s → FaultKept put (number_fault before s)
unfolding number_fault
number_kept put before (Variable head) h =
    let at : IsKept put head.at = cc in limit_kept put (length (variables before)) TooManyColumns head.at at
number_kept put before (Objective maximize head sum) h =
    let same : put_sum put sum ≡ sum = cc in
    first_kept put (numbers_fault sum) (adding_fault sum) (numbers_kept put sum same) (adding_kept put sum same)
number_kept put before (Constraint head left sense at right) h =
    let one : put_sum put left ≡ left = cc in
    let other : put_sum put right ≡ right = cc in
    let there : IsKept put at = cc in
    first_kept put (numbers_fault left) _ (numbers_kept put left one)
    (first_kept put (numbers_fault right) _ (numbers_kept put right other)
    (first_kept put (adding_fault left) _ (adding_kept put left one)
    (first_kept put (adding_fault right) _ (adding_kept put right other)
    (first_kept put (difference_fault left at right) (limit_fault (rows_of before) TooManyRows at)
    (past_kept put _ at there)
    (limit_kept put (rows_of before) TooManyRows at there)))))

word_kept : (put : Place → Place) (s : Statement) → put_statement put s ≡ s → IsKept put (head_of s).word
word_kept put (Variable head) h = cc
word_kept put (Objective maximize head sum) h = cc
word_kept put (Constraint head left sense at right) h = cc

statement_fault_kept : (put : Place → Place) (before : PlainModel) (s : Statement) (fault : Fault) → HasFault before s fault → put_statement put s ≡ s → IsKept put fault.place
statement_fault_kept put before s _ (unsuited other) h = word_kept put s h
statement_fault_kept put before s fault (numbers _ follows e) h = subst (FaultKept put) e (number_kept put before s h)

-- ---- systems

given_kept : (put : Place → Place) (within : Bool) (place : Place) (later : Option Fault) → IsKept put place → FaultKept put later → FaultKept put (cond within later (Some (past_fault place)))
given_kept put true place later h k = k
given_kept put false place later h k = h

rows_kept : (put : Place → Place) (names : List WrittenText) (position : ℕ) (model : PlainModel) (rs : List GivenRow) → AreRowsOf names position model rs → map (put_statement put) model ≡ model → FaultKept put (rows_fault rs)
unfolding rows_fault
rows_kept put names position [] rs is h = subst (λ (rs : List GivenRow). FaultKept put (rows_fault rs)) (sym is) tt
rows_kept put names position (Variable head ∷ model) rs is h =
    let rest : map (put_statement put) model ≡ model = cc in rows_kept put names (position + 1) model rs is rest
rows_kept put names position (Objective maximize head sum ∷ model) rs is h =
    let rest : map (put_statement put) model ≡ model = cc in rows_kept put names (position + 1) model rs is rest
rows_kept put names position (Constraint head left sense at right ∷ model) [] is h = absurd is
rows_kept put names position (Constraint head left sense at right ∷ model) (row ∷ rs) is h =
    let there : IsKept put at = cc in
    let rest : map (put_statement put) model ≡ model = cc in
    given_kept put (row_within row.terms row.kind) row.from.place (rows_fault rs)
    (subst (IsKept put) (sym is.0.place) there)
    (rows_kept put names (position + 1) model rs is.1 rest)

objective_kept : (put : Place → Place) (names : List WrittenText) (model : PlainModel) (o : Option rows.Objective) → HasObjectiveOf names model o → map (put_statement put) model ≡ model → FaultKept put (objective_fault o)
unfolding objective_fault
objective_kept put names [] o is h = subst (λ (o : Option rows.Objective). FaultKept put (objective_fault o)) (sym is) tt
objective_kept put names (Variable head ∷ model) o is h =
    let rest : map (put_statement put) model ≡ model = cc in objective_kept put names model o is rest
objective_kept put names (Objective maximize head sum ∷ model) None is h = absurd is
objective_kept put names (Objective maximize head sum ∷ model) (Some o) is h =
    let there : IsKept put head.at = cc in
    given_kept put (form_within o.form) o.place None (subst (IsKept put) (sym is.place_is) there) tt
objective_kept put names (Constraint head left sense at right ∷ model) o is h =
    let rest : map (put_statement put) model ≡ model = cc in objective_kept put names model o is rest

system_fault_kept : (put : Place → Place) (model : PlainModel) (system : LinearSystem) (fault : Fault) → IsSystemOf model system → first_fault system ≡ Some fault → map (put_statement put) model ≡ model → IsKept put fault.place
system_fault_kept put model system fault is e h =
    subst (FaultKept put) e
    (first_kept put (rows_fault system.rows) (objective_fault system.objective)
    (rows_kept put (variables model) 0 model system.rows is.rows h)
    (objective_kept put (variables model) model system.objective is.objective h))

-- ---- the law

pub place_stands : (trees : List Stmt) (fault : Fault) → IsFirstFault trees fault → HasPlaceOfStatements trees fault
place_stands trees _ (not_plain before stmt after whole faultless other) put same =
    let kept : replaced_statement put stmt ≡ stmt = kept_among put _ stmt after (ap (map (replaced_statement put)) (sym whole) ∙ same ∙ whole) in
    ap (λ (t : Stmt). t.first) kept
place_stands trees _ (stated before s after fault whole faultless has) put same =
    let kept = kept_among put _ _ after (ap (map (replaced_statement put)) (sym whole) ∙ same ∙ whole) in
    statement_fault_kept put before s fault has (kept_statement put s kept)
place_stands trees _ (finished model system fault whole plain is e) put same =
    system_fault_kept put model system fault is e (kept_model put model (ap (map (replaced_statement put)) (sym whole) ∙ same ∙ whole))
