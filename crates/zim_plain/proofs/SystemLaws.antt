-- The system of a model: its points are the assignments that satisfy the model, its objective is the model's, and a model has one system.
use Rattle.std.proofs.Common.{ℕ, zero, suc, ◌-◌, ◌≡◌, ◌<◌, ◌≤◌, ◌+◌, ◌↔◌, Bool, true, false, List, [], ◌∷◌, ◌++◌, map, length, IsTrue, Option, Some, None, arith, refl, sym, ap, ap₂, subst, subst₂, ◌∙◌, append_assoc, Contains, append-nil}
use Rattle.std.specs.Prelude.{slice_index_or}
use Rattle.std.specs.List.{AllByRecursion}
use Rattle.std.proofs.lemmas.List.{length-map}
use Rattle.zim_fault.specs.declared.faults.Place.{Place}
use Rattle.zim_rational.specs.Rational as rational
use Rattle.zim_rational.specs.Rational.{Rational, plus, minus, negate, total, times, IsAtMost}
use Rattle.zim_rational.proofs.Ring.{minus_plus, plus_cancel, plus_negate, plus_assoc, plus_zero, zero_plus, plus_comm}
use Rattle.zim_rational.proofs.Order.{plus_at_most, at_most_refl}
use Rattle.zim_linear.specs.Forms.{Term, LinearForm, ColumnNumbers, sum_at, number_at}
use Rattle.zim_linear.specs.Ends.{unbounded}
use Rattle.zim_linear.proofs.UniqueLaws.{one_form}
use Rattle.zim_decimal.specs.Short.{is_short}
use Rattle.zim_rows.specs.declared.rows.Column.{Column}
use Rattle.zim_rows.specs.declared.rows.GivenRow.{GivenRow}
use Rattle.zim_rows.specs.declared.rows.RowFrom.{RowFrom}
use Rattle.zim_rows.specs.declared.rows.Objective as rows
use Rattle.zim_rows.specs.declared.rows.RowKind.{RowKind}
use Rattle.zim_rows.specs.declared.rows.RowKind.TheVariants.{One}
use Rattle.zim_rows.specs.declared.rows.Sense.{Sense}
use Rattle.zim_rows.specs.declared.rows.Sense.TheVariants.{AtLeast, AtMost, Equal}
use Rattle.zim_rows.specs.System.{LinearSystem, column_at, column_of}
use Rattle.zim_rows.specs.Points.{assigned, KeepColumns, Compares, KeepsKind, KeepConstraints, given_constraint, IsSystemPoint, objective_number, system_objective_at}
use Rattle.zim_rows.specs.Covered.{IsCovered, IsCoveredColumn}
use Rattle.zim_plain.specs.Statements.{WrittenText, Item, Constant, Multiple, Sum, Statement, Variable, Objective, Constraint, PlainModel, signed_items, variables}
use Rattle.zim_plain.specs.Meaning as meaning
use Rattle.zim_plain.specs.Meaning.{AreVariableValues, item_number, sum_number, value_of, Holds, Satisfies, objective_among, plain_objective}
use Rattle.zim_plain.specs.Faults.{AreFaultless, IsFaultless, IsPlain}
use Rattle.zim_plain.specs.Systems.{by_column, IsRowOf, AreRowsOf, HasObjectiveOf, nonnegative, IsSystemOf}
use Rattle.zim_plain.specs.Sides.{IsDeclared}
use Rattle.zim_plain.proofs.Places.{value_at_place, place-append, place_contains}
use Rattle.zim_plain.proofs.Amounts.{AreDeclared, declared_place, column_behind}
use Rattle.zim_plain.proofs.SideLaws.{declared_sum}

-- ---- names that are declared

-- the lists of a statement name declared variables alone
abbrev pub Declares : List WrittenText → Statement → Type 0
Declares names (Variable head) = Unit {0}
Declares names (Objective maximize head sum) = AreDeclared names (signed_items sum)
Declares names (Constraint head left sense at right) = AreDeclared names (signed_items left) × AreDeclared names (signed_items right)

abbrev pub DeclareAll : List WrittenText → PlainModel → Type 0
DeclareAll names model = AllByRecursion (Declares names) model

contains_more : (names more : List WrittenText) (name : WrittenText) → Contains names name → Contains (names ++ more) name
contains_more names more name h =
    let p = declared_place names name h in
    place_contains (names ++ more) name p.0 (place-append names more name p.0 p.1)

item_more : (names more : List WrittenText) (item : Item) → IsDeclared names item → IsDeclared (names ++ more) item
item_more names more (Constant c) h = tt
item_more names more (Multiple factor place name) h = contains_more names more name h

items_more : (names more : List WrittenText) (items : List (Bool × Item)) → AreDeclared names items → AreDeclared (names ++ more) items
items_more names more [] h = tt
items_more names more (i ∷ is) h = (item_more names more i.1 h.0, items_more names more is h.1)

declares_more : (names more : List WrittenText) (s : Statement) → Declares names s → Declares (names ++ more) s
declares_more names more (Variable head) h = tt
declares_more names more (Objective maximize head sum) h = items_more names more (signed_items sum) h
declares_more names more (Constraint head left sense at right) h = (items_more names more (signed_items left) h.0, items_more names more (signed_items right) h.1)

-- a statement that may follow others declares what it names
pub declares_following : (before : PlainModel) (s : Statement) → IsFaultless before s → Declares (variables before) s
declares_following before (Variable head) f = tt
declares_following before (Objective maximize head sum) f = declared_sum (variables before) sum f.follows.parts.0
declares_following before (Constraint head left sense at right) f =
    (declared_sum (variables before) left f.follows.parts.0, declared_sum (variables before) right f.follows.parts.1)

pub variables-append : (xs ys : PlainModel) → variables (xs ++ ys) ≡ variables xs ++ variables ys
variables-append [] ys = refl
variables-append (Variable head ∷ xs) ys = ap (λ vs. head.name ∷ vs) (variables-append xs ys)
variables-append (Objective maximize head sum ∷ xs) ys = variables-append xs ys
variables-append (Constraint head left sense at right ∷ xs) ys = variables-append xs ys

declare_rest : (before model : PlainModel) → AreFaultless before model → DeclareAll (variables (before ++ model)) model
declare_rest before [] h = tt
declare_rest before (s ∷ model) h =
    let same : (before ++ s ∷ []) ++ model ≡ before ++ s ∷ model = append_assoc before (s ∷ []) model in (
      subst (λ (ns : List WrittenText). Declares ns s) (sym (variables-append before (s ∷ model))) (declares_more (variables before) (variables (s ∷ model)) s (declares_following before s h.0)),
      subst (λ (m : PlainModel). DeclareAll (variables m) model) same (declare_rest (before ++ s ∷ []) model h.1),
    )

-- in a plain model each list names variables of the model
pub plain_declares : (model : PlainModel) → IsPlain model → DeclareAll (variables model) model
plain_declares model plain = declare_rest [] model plain

-- ---- numbers of lists

-- the number at a declared name's column is the name's value
value_is : (names : List WrittenText) (values : meaning.VariableValues) (name : WrittenText) → length values ≡ length names → Contains names name → by_column names (assigned values) name ≡ value_of names values name
value_is names values name l h =
    let p = declared_place names name h in
    let back : suc p.0 - 1 ≡ p.0 = omega arith in
    let whole : names ++ [] ≡ names = append-nil names in
    ap (assigned values) (column_behind names name p.0 p.1)
    ∙ ap (λ (k : ℕ). slice_index_or values k rational.zero) back
    ∙ value_at_place names [] values name p.0 p.1 (l ∙ ap length (sym whole))
    ∙ ap (λ (ns : List WrittenText). value_of ns values name) whole

item_value : (names : List WrittenText) (values : meaning.VariableValues) (i : Bool × Item) → length values ≡ length names → IsDeclared names i.1 → item_number (by_column names (assigned values)) i ≡ item_number (value_of names values) i
item_value names values (negative, Constant c) l h = refl
item_value names values (negative, Multiple factor place name) l h =
    ap (λ (v : Rational). meaning.taken_with_sign negative (times (meaning.factor_number factor) v)) (value_is names values name l h)

items_value : (names : List WrittenText) (values : meaning.VariableValues) (items : List (Bool × Item)) → length values ≡ length names → AreDeclared names items → total (map (item_number (by_column names (assigned values))) items) ≡ total (map (item_number (value_of names values)) items)
unfolding total
items_value names values [] l h = refl
items_value names values (i ∷ is) l h = ap₂ plus (item_value names values i l h.0) (items_value names values is l h.1)

pub sum_value : (names : List WrittenText) (values : meaning.VariableValues) (sum : Sum) → length values ≡ length names → AreDeclared names (signed_items sum) → sum_number (by_column names (assigned values)) sum ≡ sum_number (value_of names values) sum
unfolding sum_number
sum_value names values sum l h = items_value names values (signed_items sum) l h

-- ---- rows

away : (v w : Rational) → plus (plus v w) (negate w) ≡ v
away v w = plus_assoc v w (negate w) ∙ ap (plus v) (plus_negate w) ∙ plus_zero v

-- a sum of terms less a constant compares with 0 as the two sides do
moved : (t c l r : Rational) → plus t c ≡ minus l r → (sense : Sense) → Compares sense t (negate c) ↔ Compares sense l r
moved t c l r e sense = by sense
  where
    left : plus t (plus c r) ≡ l
    left = sym (plus_assoc t c r) ∙ ap (λ (v : Rational). plus v r) e ∙ minus_plus l r

    right : plus (negate c) (plus c r) ≡ r
    right = sym (plus_assoc (negate c) c r) ∙ ap (λ (v : Rational). plus v r) (plus_comm (negate c) c ∙ plus_negate c) ∙ zero_plus r

    back : (a b : Rational) → IsAtMost (plus a (plus c r)) (plus b (plus c r)) → IsAtMost a b
    back a b h =
        subst₂ (λ (v w : Rational). IsAtMost v w) (away a (plus c r)) (away b (plus c r))
        (plus_at_most (plus a (plus c r)) (plus b (plus c r)) (negate (plus c r)) (negate (plus c r)) h (at_most_refl (negate (plus c r))))

    by : (sense : Sense) → Compares sense t (negate c) ↔ Compares sense l r
    by AtLeast = (
      λ h. subst₂ (λ (v w : Rational). IsAtMost v w) right left (plus_at_most (negate c) t (plus c r) (plus c r) h (at_most_refl (plus c r))),
      λ h. back (negate c) t (subst₂ (λ (v w : Rational). IsAtMost v w) (sym right) (sym left) h),
    )
    by AtMost = (
      λ h. subst₂ (λ (v w : Rational). IsAtMost v w) left right (plus_at_most t (negate c) (plus c r) (plus c r) h (at_most_refl (plus c r))),
      λ h. back t (negate c) (subst₂ (λ (v w : Rational). IsAtMost v w) (sym left) (sym right) h),
    )
    by Equal = (
      λ h. sym left ∙ ap (λ (v : Rational). plus v (plus c r)) h ∙ right,
      λ h. plus_cancel t (negate c) (plus c r) (left ∙ h ∙ sym right),
    )

row_kept : (names : List WrittenText) (position : ℕ) (values : meaning.VariableValues) (left : Sum) (sense : Sense) (at : Place) (right : Sum) (row : GivenRow) → length values ≡ length names → AreDeclared names (signed_items left) → AreDeclared names (signed_items right) → IsRowOf names position left sense at right row → KeepsKind row.kind (sum_at (assigned values) row.terms) ↔ Compares sense (sum_number (value_of names values) left) (sum_number (value_of names values) right)
unfolding number_at
row_kept names position values left sense at right row l h k is =
    let x : ColumnNumbers = assigned values in
    let same : plus (sum_at x is.form.terms) is.form.constant ≡ minus (sum_number (value_of names values) left) (sum_number (value_of names values) right) =
    is.form_is.is x ∙ ap₂ minus (sum_value names values left l h) (sum_value names values right l k) in
    subst₂ (λ (ts : List Term) (q : RowKind). KeepsKind q (sum_at x ts) ↔ Compares sense (sum_number (value_of names values) left) (sum_number (value_of names values) right))
    (sym is.terms) (sym is.kind)
    (moved (sum_at x is.form.terms) is.form.constant (sum_number (value_of names values) left) (sum_number (value_of names values) right) same sense)

rows_kept : (names : List WrittenText) (position : ℕ) (values : meaning.VariableValues) (model : PlainModel) (rows : List GivenRow) → length values ≡ length names → DeclareAll names model → AreRowsOf names position model rows → KeepConstraints (assigned values) (map given_constraint rows) ↔ AllByRecursion (Holds names values) model
rows_kept names position values [] rows l h are = (λ k. tt, λ k. subst (λ (rs : List GivenRow). KeepConstraints (assigned values) (map given_constraint rs)) (sym are) tt)
rows_kept names position values (Variable head ∷ model) rows l h are =
    let rest = rows_kept names (position + 1) values model rows l h.1 are in (λ k. (tt, rest.0 k), λ k. rest.1 k.1)
rows_kept names position values (Objective maximize head sum ∷ model) rows l h are =
    let rest = rows_kept names (position + 1) values model rows l h.1 are in (λ k. (tt, rest.0 k), λ k. rest.1 k.1)
rows_kept names position values (Constraint head left sense at right ∷ model) [] l h are = absurd are
rows_kept names position values (Constraint head left sense at right ∷ model) (row ∷ rows) l h are =
    let first = row_kept names position values left sense at right row l h.0.0 h.0.1 are.0 in
    let rest = rows_kept names (position + 1) values model rows l h.1 are.1 in
    (λ k. (first.0 k.0, rest.0 k.1), λ k. (first.1 k.0, rest.1 k.1))

-- ---- columns

columns_kept : (names : List WrittenText) (values : meaning.VariableValues) → length values ≡ length names → KeepColumns (map (λ (_ : WrittenText). nonnegative) names) values ↔ AllByRecursion (IsAtMost rational.zero) values
columns_kept [] [] l = (λ k. tt, λ k. tt)
columns_kept [] (v ∷ vs) l = absurd (omega arith)
columns_kept (n ∷ ns) [] l = absurd (omega arith)
columns_kept (n ∷ ns) (v ∷ vs) l =
    let rest = columns_kept ns vs (omega arith) in (
      λ k. (k.0.between.low, rest.0 k.1),
      λ k. (record { between = record { low = k.0; high = tt }; whole = λ t. let no : false ≡ true = t in cc }, rest.1 k.1),
    )

-- ---- points and the objective

pub points_are : (model : PlainModel) (system : LinearSystem) (values : meaning.VariableValues) → IsPlain model → IsSystemOf model system → AreVariableValues model values → IsSystemPoint system values ↔ Satisfies model values
points_are model system values plain is l =
    let names : List WrittenText = variables model in
    let columns = columns_kept names values l in
    let kept = rows_kept names 0 values model system.rows l (plain_declares model plain) is.rows in (
      λ p. record { nonnegative = columns.0 (subst (λ (cs : List Column). KeepColumns cs values) is.columns p.columns); holds = kept.0 p.rows },
      λ s. record { columns = subst (λ (cs : List Column). KeepColumns cs values) (sym is.columns) (columns.1 s.nonnegative); rows = kept.1 s.holds },
    )

objective_is : (names : List WrittenText) (values : meaning.VariableValues) (model : PlainModel) (objective : Option rows.Objective) → length values ≡ length names → DeclareAll names model → HasObjectiveOf names model objective → objective_number (assigned values) objective ≡ objective_among names values model
objective_is names values [] objective l h has = ap (objective_number (assigned values)) has
objective_is names values (Variable head ∷ model) objective l h has = objective_is names values model objective l h.1 has
objective_is names values (Objective maximize head sum ∷ model) None l h has = absurd has
objective_is names values (Objective maximize head sum ∷ model) (Some o) l h has = has.form_is.is (assigned values) ∙ sum_value names values sum l h.0
objective_is names values (Constraint head left sense at right ∷ model) objective l h has = objective_is names values model objective l h.1 has

pub objective_value : (model : PlainModel) (system : LinearSystem) (values : meaning.VariableValues) → IsPlain model → IsSystemOf model system → AreVariableValues model values → system_objective_at system values ≡ plain_objective model values
objective_value model system values plain is l = objective_is (variables model) values model system.objective l (plain_declares model plain) is.objective

-- ---- the sides that files have

pub zero_is_short : IsTrue (is_short rational.zero)
unfolding is_short rational.zero rational.whole
zero_is_short = refl

nonnegative_at : (names : List WrittenText) (j : ℕ) → j ≤ length names → 0 < j → column_at (map (λ (_ : WrittenText). nonnegative) names) j ≡ nonnegative
nonnegative_at names zero l some = absurd (omega arith)
nonnegative_at names (suc i) l some =
    let back : suc i - 1 ≡ i = omega arith in rw back (by names i (omega arith))
  where
    by : (names : List WrittenText) (i : ℕ) → i < length names → slice_index_or (map (λ (_ : WrittenText). nonnegative) names) i (column_of false unbounded) ≡ nonnegative
    by [] i l = absurd (omega arith)
    by (n ∷ ns) zero l = refl
    by (n ∷ ns) (suc i) l = by ns i (omega arith)

pub is_covered : (model : PlainModel) (system : LinearSystem) → IsSystemOf model system → IsCovered system
is_covered model system is j some l =
    let counted : length system.columns ≡ length (variables model) = ap length is.columns ∙ length-map (variables model) (λ (_ : WrittenText). nonnegative) in
    let column : column_at system.columns j ≡ nonnegative = ap (λ (cs : List Column). column_at cs j) is.columns ∙ nonnegative_at (variables model) j (omega arith) some in
    subst (IsCoveredColumn system.rows j) (sym column)
    (record { low = λ long. let no : true ≡ false = sym zero_is_short ∙ long in cc; high = tt })

-- ---- a model has one system

row_once : (names : List WrittenText) (position : ℕ) (left : Sum) (sense : Sense) (at : Place) (right : Sum) (a b : GivenRow) → IsRowOf names position left sense at right a → IsRowOf names position left sense at right b → a ≡ b
row_once names position left sense at right a b p q =
    let form : p.form ≡ q.form = one_form p.form q.form p.form_is.terms q.form_is.terms (λ x. p.form_is.is x ∙ sym (q.form_is.is x)) in
    let from : a.from ≡ b.from = ap₂ (λ (n : ℕ) (place : Place). row_from n place) (p.statement ∙ sym q.statement) (p.place ∙ sym q.place) in
    let terms : a.terms ≡ b.terms = p.terms ∙ ap (λ (f : LinearForm). f.terms) form ∙ sym q.terms in
    let kind : a.kind ≡ b.kind = p.kind ∙ ap (λ (f : LinearForm). One sense (negate f.constant)) form ∙ sym q.kind in
    ap (λ (r : RowFrom). given r a.terms a.kind) from ∙ ap (λ (ts : List Term). given b.from ts a.kind) terms ∙ ap (given b.from b.terms) kind
  where
    row_from : ℕ → Place → RowFrom
    row_from n place = record { statement = n; place = place }

    given : RowFrom → List Term → RowKind → GivenRow
    given from terms kind = record { from = from; terms = terms; kind = kind }

rows_once : (names : List WrittenText) (position : ℕ) (model : PlainModel) (a b : List GivenRow) → AreRowsOf names position model a → AreRowsOf names position model b → a ≡ b
rows_once names position [] a b p q = p ∙ sym q
rows_once names position (Variable head ∷ model) a b p q = rows_once names (position + 1) model a b p q
rows_once names position (Objective maximize head sum ∷ model) a b p q = rows_once names (position + 1) model a b p q
rows_once names position (Constraint head left sense at right ∷ model) [] b p q = absurd p
rows_once names position (Constraint head left sense at right ∷ model) (r ∷ a) [] p q = absurd q
rows_once names position (Constraint head left sense at right ∷ model) (r ∷ a) (s ∷ b) p q =
    ap₂ (λ (t : GivenRow) (ts : List GivenRow). t ∷ ts) (row_once names position left sense at right r s p.0 q.0) (rows_once names (position + 1) model a b p.1 q.1)

objective_once : (names : List WrittenText) (model : PlainModel) (a b : Option rows.Objective) → HasObjectiveOf names model a → HasObjectiveOf names model b → a ≡ b
objective_once names [] a b p q = p ∙ sym q
objective_once names (Variable head ∷ model) a b p q = objective_once names model a b p q
objective_once names (Objective maximize head sum ∷ model) None b p q = absurd p
objective_once names (Objective maximize head sum ∷ model) (Some o) None p q = absurd q
objective_once names (Objective maximize head sum ∷ model) (Some o) (Some r) p q =
    let form : o.form ≡ r.form = one_form o.form r.form p.form_is.terms q.form_is.terms (λ x. p.form_is.is x ∙ sym (q.form_is.is x)) in
    ap Some (ap (λ (b : Bool). given b o.place o.form) (p.aim ∙ sym q.aim) ∙ ap (λ (place : Place). given r.maximize place o.form) (p.place_is ∙ sym q.place_is) ∙ ap (given r.maximize r.place) form)
  where
    given : Bool → Place → LinearForm → rows.Objective
    given maximize place form = record { maximize = maximize; place = place; form = form }
objective_once names (Constraint head left sense at right ∷ model) a b p q = objective_once names model a b p q

-- two systems of one model are one
pub a_model_has_one_system : (model : PlainModel) (a b : LinearSystem) → IsSystemOf model a → IsSystemOf model b → a ≡ b
a_model_has_one_system model a b p q =
    ap (λ (cs : List Column). made cs a.rows a.objective) (p.columns ∙ sym q.columns)
    ∙ ap (λ (rs : List GivenRow). made b.columns rs a.objective) (rows_once (variables model) 0 model a.rows b.rows p.rows q.rows)
    ∙ ap (made b.columns b.rows) (objective_once (variables model) model a.objective b.objective p.objective q.objective)
  where
    made : List Column → List GivenRow → Option rows.Objective → LinearSystem
    made columns rows objective = record { columns = columns; rows = rows; objective = objective }
