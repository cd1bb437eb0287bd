-- What was built keeps standing for the statements when one more is added.
use Rattle.std.proofs.Common.{◌≡◌, ◌≢◌, ℕ, suc, ◌+◌, ◌<◌, ◌≤◌, Bool, true, false, cond, List, [], ◌∷◌, ◌++◌, length, map, Option, Some, None, refl, sym, ◌∙◌, ap, subst, arith, nat_eq, append_assoc, append-nil}
use Rattle.std.specs.Prelude.{◌||◌, IsNone, IsSome}
use Rattle.std.specs.List.{AllByRecursion, list_any}
use Rattle.std.specs.Cmp.Lexicographic.{pointwise, bytes_decides, other_text}
use Rattle.std.proofs.lemmas.List.{map-append, length-map}
use Rattle.std.proofs.lemmas.Bool.{false_from_ne_true, false≢true, le-leb, lt-leb}
use mathlib.Core.Bool.{true≢false}
use Rattle.zim_fault.specs.declared.faults.Place.{Place}
use Rattle.zim_fault.specs.declared.faults.Fault.{Fault}
use Rattle.zim_fault.specs.declared.kinds.Kind.{Kind}
use Rattle.zim_fault.specs.declared.kinds.Kind.TheVariants.{TooManyRows, TooManyColumns}
use Rattle.zim_rational.specs.Rational.{negate}
use Rattle.zim_linear.specs.Forms.{LinearForm}
use Rattle.zim_rows.specs.declared.rows.Column.{Column}
use Rattle.zim_rows.specs.declared.rows.GivenRow.{GivenRow}
use Rattle.zim_rows.specs.declared.rows.RowKind.TheVariants.{One}
use Rattle.zim_rows.specs.declared.rows.Sense.{Sense}
use Rattle.zim_rows.specs.declared.rows.Objective as rows
use Rattle.zim_rows.specs.System as system
use Rattle.zim_rows.specs.System.{empty_system, row_of, with_column, with_row}
use Rattle.zim_rows.specs.Scaled.{earlier_fault}
use Rattle.zim_columns.specs.declared.declared.Declared.{Declared}
use Rattle.zim_columns.specs.Declaring.{next_column, declared_as}
use Rattle.zim_plain.specs.Statements.{WrittenText, Head, Sum, Statement, Variable, Objective, Constraint, PlainModel, given_name, variables}
use Rattle.zim_plain.specs.Asks.{ask_of, columns_from, variable_columns}
use Rattle.zim_plain.specs.Suits.{SuitsSum, is_goal, MayFollow}
use Rattle.zim_plain.specs.Faults.{fault_at, numbers_fault, adding_fault, difference_fault, rows_of, limit_fault, number_fault, IsFaultless, AreFaultless}
use Rattle.zim_plain.specs.Systems.{IsRowOf, AreRowsOf, objective_position, IsObjectiveOf, HasObjectiveOf, nonnegative}
use Rattle.zim_plain.specs.Sides.{list_fault, IsListForm, row_fault, IsRowForm}
use Rattle.zim_plain.specs.Build.{Built, other_names, Stands, IsSmall}
use Rattle.zim_plain.proofs.Faulting.{first_of_assoc, first_of_second}
use Rattle.zim_plain.proofs.SystemLaws.{variables-append}
use Rattle.zim_plain.proofs.MoreNames.{list_more, row_more}

-- ---- lists

all_push : {X : Type 0} (P : X → Type 0) (xs : List X) (x : X) → AllByRecursion P xs → P x → AllByRecursion P (xs ++ x ∷ [])
all_push P [] x h p = (p, tt)
all_push P (y ∷ xs) x h p = (h.0, all_push P xs x h.1 p)

other_names-append : (xs ys : PlainModel) → other_names (xs ++ ys) ≡ other_names xs ++ other_names ys
other_names-append [] ys = refl
other_names-append (Variable head ∷ xs) ys = other_names-append xs ys
other_names-append (Objective maximize head sum ∷ xs) ys = ap (λ vs. head.name ∷ vs) (other_names-append xs ys)
other_names-append (Constraint head left sense at right ∷ xs) ys = ap (λ vs. head.name ∷ vs) (other_names-append xs ys)

-- ---- the order of statements

pub faultless_push : (before model : PlainModel) (s : Statement) → AreFaultless before model → IsFaultless (before ++ model) s → AreFaultless before (model ++ s ∷ [])
faultless_push before [] s h may = (subst (λ b. IsFaultless b s) (append-nil before) may, tt)
faultless_push before (t ∷ model) s h may =
    (h.0, faultless_push (before ++ t ∷ []) model s h.1 (subst (λ b. IsFaultless b s) (sym (append_assoc before (t ∷ []) model)) may))

-- ---- names

or_false : (a b : Bool) → (a || b) ≡ false → (a ≡ false) × (b ≡ false)
or_false true b e = cc
or_false false b e = (refl, e)

false_or : (a b : Bool) → a ≡ false → b ≡ false → (a || b) ≡ false
false_or a b e f = rw (e, f) refl

apart_name : (name other : WrittenText) → pointwise nat_eq name other ≡ false → other ≢ name
apart_name name other e same = other_text name other (sym e) (sym same)

name_apart : (name other : WrittenText) → other ≢ name → pointwise nat_eq name other ≡ false
name_apart name other apart = false_from_ne_true (pointwise nat_eq name other) (λ t. apart (sym ((bytes_decides name other).0 t)))

abbrev pub IsNew : PlainModel → WrittenText → Type 0
IsNew before name = AllByRecursion (λ (other : Statement). given_name other ≢ name) before

-- a statement so far has this name
abbrev pub is_taken : Built → WrittenText → Bool
is_taken b name = list_any (pointwise nat_eq name) b.variables || list_any (pointwise nat_eq name) b.others

name_is_new : (before : PlainModel) (name : WrittenText) → list_any (pointwise nat_eq name) (variables before) ≡ false → list_any (pointwise nat_eq name) (other_names before) ≡ false → IsNew before name
name_is_new [] name v o = tt
name_is_new (Variable head ∷ before) name v o =
    let both = or_false _ _ v in (apart_name name head.name both.0, name_is_new before name both.1 o)
name_is_new (Objective maximize head sum ∷ before) name v o =
    let both = or_false _ _ o in (apart_name name head.name both.0, name_is_new before name v both.1)
name_is_new (Constraint head left sense at right ∷ before) name v o =
    let both = or_false _ _ o in (apart_name name head.name both.0, name_is_new before name v both.1)

no_variable : (before : PlainModel) (name : WrittenText) → IsNew before name → list_any (pointwise nat_eq name) (variables before) ≡ false
no_variable [] name h = refl
no_variable (Variable head ∷ before) name h = false_or _ _ (name_apart name head.name h.0) (no_variable before name h.1)
no_variable (Objective maximize head sum ∷ before) name h = no_variable before name h.1
no_variable (Constraint head left sense at right ∷ before) name h = no_variable before name h.1

no_other : (before : PlainModel) (name : WrittenText) → IsNew before name → list_any (pointwise nat_eq name) (other_names before) ≡ false
no_other [] name h = refl
no_other (Variable head ∷ before) name h = no_other before name h.1
no_other (Objective maximize head sum ∷ before) name h = false_or _ _ (name_apart name head.name h.0) (no_other before name h.1)
no_other (Constraint head left sense at right ∷ before) name h = false_or _ _ (name_apart name head.name h.0) (no_other before name h.1)

pub is_new : (before : PlainModel) (b : Built) (name : WrittenText) → Stands before b → is_taken b name ≡ false → IsNew before name
is_new before b name s free =
    let both = or_false _ _ free in
    name_is_new before name (sym (ap (list_any (pointwise nat_eq name)) s.names) ∙ both.0) (sym (ap (list_any (pointwise nat_eq name)) s.others) ∙ both.1)

-- ---- statements that may not follow

pub taken_stays_out : (before : PlainModel) (b : Built) (t : Statement) → Stands before b → is_taken b (given_name t) ≡ true → ¬ MayFollow before t
taken_stays_out before b t s taken may =
    let name : WrittenText = given_name t in
    let free : is_taken b name ≡ false =
    false_or _ _
    (ap (list_any (pointwise nat_eq name)) s.names ∙ no_variable before name may.name_new)
    (ap (list_any (pointwise nat_eq name)) s.others ∙ no_other before name may.name_new) in
    true≢false (sym taken ∙ free)

-- no statement is an objective
abbrev pub HasNoObjective : PlainModel → Type 0
HasNoObjective model = AllByRecursion (λ (s : Statement). is_goal s ≡ false) model

position-some : (at p : ℕ) (model : PlainModel) → objective_position at model ≡ Some p → HasNoObjective model → ⊥
position-some at p [] e h = cc
position-some at p (Variable head ∷ model) e h = position-some (at + 1) p model e h.1
position-some at p (Objective maximize head sum ∷ model) e h = let no : true ≡ false = h.0 in cc
position-some at p (Constraint head left sense at' right ∷ model) e h = position-some (at + 1) p model e h.1

position-none : (at : ℕ) (model : PlainModel) → objective_position at model ≡ None → HasNoObjective model
position-none at [] e = tt
position-none at (Variable head ∷ model) e = (refl, position-none (at + 1) model e)
position-none at (Objective maximize head sum ∷ model) e = cc
position-none at (Constraint head left sense at' right ∷ model) e = (refl, position-none (at + 1) model e)

pub one_objective : (before : PlainModel) (b : Built) (maximize : Bool) (head : Head) (sum : Sum) → Stands before b → IsSome b.objective → ¬ MayFollow before (Objective maximize head sum)
one_objective before b maximize head sum s some may = there b.objective s.position some
  where
    there : (o : Option ℕ) → o ≡ objective_position 0 before → IsSome o → ⊥
    there None is h = false≢true h
    there (Some p) is h = position-some 0 p before (sym is) may.parts.1

pub no_objective : (before : PlainModel) (b : Built) → Stands before b → IsNone b.objective → HasNoObjective before
no_objective before b s none = position-none 0 before (sym s.position ∙ none_is b.objective none)
  where
    none_is : (o : Option ℕ) → IsNone o → o ≡ None
    none_is None h = refl
    none_is (Some p) h = absurd (true≢false h)

pub unsuited_objective : (before : PlainModel) (b : Built) (maximize : Bool) (head : Head) (sum : Sum) → Stands before b → ¬ SuitsSum b.variables sum → ¬ MayFollow before (Objective maximize head sum)
unsuited_objective before b maximize head sum s other may = other (subst (λ (ns : List WrittenText). SuitsSum ns sum) (sym s.names) may.parts.0)

pub unsuited_left : (before : PlainModel) (b : Built) (head : Head) (left : Sum) (sense : Sense) (at : Place) (right : Sum) → Stands before b → ¬ SuitsSum b.variables left → ¬ MayFollow before (Constraint head left sense at right)
unsuited_left before b head left sense at right s other may = other (subst (λ (ns : List WrittenText). SuitsSum ns left) (sym s.names) may.parts.0)

pub unsuited_right : (before : PlainModel) (b : Built) (head : Head) (left : Sum) (sense : Sense) (at : Place) (right : Sum) → Stands before b → ¬ SuitsSum b.variables right → ¬ MayFollow before (Constraint head left sense at right)
unsuited_right before b head left sense at right s other may = other (subst (λ (ns : List WrittenText). SuitsSum ns right) (sym s.names) may.parts.1)

-- ---- limits

pub is_full : (count : ℕ) (kind : Kind) (place : Place) → 1000000 ≤ count → limit_fault count kind place ≡ Some (fault_at kind place)
is_full count kind place l = ap (λ (b : Bool). cond b (Some (fault_at kind place)) None) (le-leb 1000000 count l)

pub is_not_full : (count : ℕ) (kind : Kind) (place : Place) → count < 1000000 → limit_fault count kind place ≡ None
is_not_full count kind place l = ap (λ (b : Bool). cond b (Some (fault_at kind place)) None) (lt-leb 1000000 count l)

-- there are as many rows as constraints
pub rows_counted : (names : List WrittenText) (at : ℕ) (model : PlainModel) (rs : List GivenRow) → AreRowsOf names at model rs → length rs ≡ rows_of model
rows_counted names at [] rs h = ap length h
rows_counted names at (Variable head ∷ model) rs h = rows_counted names (at + 1) model rs h
rows_counted names at (Objective maximize head sum ∷ model) rs h = rows_counted names (at + 1) model rs h
rows_counted names at (Constraint head left sense at' right ∷ model) [] h = absurd h
rows_counted names at (Constraint head left sense at' right ∷ model) (row ∷ rs) h = ap suc (rows_counted names (at + 1) model rs h.1)

-- ---- what stays when a statement follows

abbrev pub is_constraint : Statement → Bool
is_constraint (Variable head) = false
is_constraint (Objective maximize head sum) = false
is_constraint (Constraint head left sense at right) = true

position-other : (at : ℕ) (before : PlainModel) (s : Statement) → is_goal s ≡ false → objective_position at (before ++ s ∷ []) ≡ objective_position at before
position-other at [] (Variable head) e = refl
position-other at [] (Objective maximize head sum) e = cc
position-other at [] (Constraint head left sense at' right) e = refl
position-other at (Variable head ∷ before) s e = position-other (at + 1) before s e
position-other at (Objective maximize head sum ∷ before) s e = refl
position-other at (Constraint head left sense at' right ∷ before) s e = position-other (at + 1) before s e

position-first : (at n : ℕ) (before : PlainModel) (maximize : Bool) (head : Head) (sum : Sum) → at + length before ≡ n → HasNoObjective before → objective_position at (before ++ Objective maximize head sum ∷ []) ≡ Some n
position-first at n [] maximize head sum e h = let same : at ≡ n = omega arith in ap Some same
position-first at n (Variable other ∷ before) maximize head sum e h = position-first (at + 1) n before maximize head sum (omega arith) h.1
position-first at n (Objective aim other list ∷ before) maximize head sum e h = let no : true ≡ false = h.0 in cc
position-first at n (Constraint other left sense at' right ∷ before) maximize head sum e h = position-first (at + 1) n before maximize head sum (omega arith) h.1

objective-other : (names : List WrittenText) (before : PlainModel) (s : Statement) (o : Option rows.Objective) → is_goal s ≡ false → HasObjectiveOf names before o → HasObjectiveOf names (before ++ s ∷ []) o
objective-other names [] (Variable head) o e h = h
objective-other names [] (Objective maximize head sum) o e h = cc
objective-other names [] (Constraint head left sense at right) o e h = h
objective-other names (Variable head ∷ before) s o e h = objective-other names before s o e h
objective-other names (Objective maximize head sum ∷ before) s None e h = absurd h
objective-other names (Objective maximize head sum ∷ before) s (Some o) e h = h
objective-other names (Constraint head left sense at right ∷ before) s o e h = objective-other names before s o e h

objective-first : (names : List WrittenText) (before : PlainModel) (maximize : Bool) (head : Head) (sum : Sum) (o : rows.Objective) → HasNoObjective before → IsObjectiveOf names maximize head.at sum o → HasObjectiveOf names (before ++ Objective maximize head sum ∷ []) (Some o)
objective-first names [] maximize head sum o h is = is
objective-first names (Variable other ∷ before) maximize head sum o h is = objective-first names before maximize head sum o h.1 is
objective-first names (Objective aim other list ∷ before) maximize head sum o h is = let no : true ≡ false = h.0 in cc
objective-first names (Constraint other left sense at right ∷ before) maximize head sum o h is = objective-first names before maximize head sum o h.1 is

rows-other : (names : List WrittenText) (at : ℕ) (before : PlainModel) (s : Statement) (rs : List GivenRow) → is_constraint s ≡ false → AreRowsOf names at before rs → AreRowsOf names at (before ++ s ∷ []) rs
rows-other names at [] (Variable head) rs e h = h
rows-other names at [] (Objective maximize head sum) rs e h = h
rows-other names at [] (Constraint head left sense at' right) rs e h = cc
rows-other names at (Variable head ∷ before) s rs e h = rows-other names (at + 1) before s rs e h
rows-other names at (Objective maximize head sum ∷ before) s rs e h = rows-other names (at + 1) before s rs e h
rows-other names at (Constraint head left sense at' right ∷ before) s [] e h = absurd h
rows-other names at (Constraint head left sense at' right ∷ before) s (row ∷ rs) e h = (h.0, rows-other names (at + 1) before s rs e h.1)

rows-push : (names : List WrittenText) (at n : ℕ) (before : PlainModel) (head : Head) (left : Sum) (sense : Sense) (place : Place) (right : Sum) (rs : List GivenRow) (row : GivenRow) → at + length before ≡ n → AreRowsOf names at before rs → IsRowOf names n left sense place right row → AreRowsOf names at (before ++ Constraint head left sense place right ∷ []) (rs ++ row ∷ [])
rows-push names at n [] head left sense place right [] row e h is =
    let same : n ≡ at = omega arith in (subst (λ (k : ℕ). IsRowOf names k left sense place right row) same is, refl)
rows-push names at n [] head left sense place right (first ∷ rs) row e h is = cc
rows-push names at n (Variable other ∷ before) head left sense place right rs row e h is = rows-push names (at + 1) n before head left sense place right rs row (omega arith) h is
rows-push names at n (Objective aim other list ∷ before) head left sense place right rs row e h is = rows-push names (at + 1) n before head left sense place right rs row (omega arith) h is
rows-push names at n (Constraint other l s p r ∷ before) head left sense place right [] row e h is = absurd h
rows-push names at n (Constraint other l s p r ∷ before) head left sense place right (first ∷ rs) row e h is =
    (h.0, rows-push names (at + 1) n before head left sense place right rs row (omega arith) h.1 is)

-- ---- no statement yet

pub stands_none : Stands [] (record { variables = []; columns = []; others = []; statements = []; objective = None; system = empty_system })
stands_none = record {
  faultless = tt;
  names = refl;
  declared = refl;
  others = refl;
  statements = refl;
  position = refl;
  columns = refl;
  rows = λ more. refl;
  objective = λ more. refl;
}

pub small_none : IsSmall (record { variables = []; columns = []; others = []; statements = []; objective = None; system = empty_system })
small_none = record { columns = refl; declared = refl; variables = omega arith; rows = omega arith; statements = omega arith }

-- ---- one more statement

names_step : (before : PlainModel) (s : Statement) (more : List WrittenText) → variables (before ++ s ∷ []) ++ more ≡ variables before ++ (variables (s ∷ []) ++ more)
names_step before s more = ap (λ (vs : List WrittenText). vs ++ more) (variables-append before (s ∷ [])) ∙ append_assoc (variables before) (variables (s ∷ [])) more

statements_step : (before : PlainModel) (s : Statement) (names : List WrittenText) → names ≡ map given_name before → names ++ given_name s ∷ [] ≡ map given_name (before ++ s ∷ [])
statements_step before s names e = ap (λ (ns : List WrittenText). ns ++ given_name s ∷ []) e ∙ sym (map-append given_name before (s ∷ []))

rows_step : (before : PlainModel) (s : Statement) (more : List WrittenText) (rs : List GivenRow) → is_constraint s ≡ false → AreRowsOf (variables before ++ (variables (s ∷ []) ++ more)) 0 before rs → AreRowsOf (variables (before ++ s ∷ []) ++ more) 0 (before ++ s ∷ []) rs
rows_step before s more rs e h =
    rows-other (variables (before ++ s ∷ []) ++ more) 0 before s rs e (subst (λ (ns : List WrittenText). AreRowsOf ns 0 before rs) (sym (names_step before s more)) h)

objective_step : (before : PlainModel) (s : Statement) (more : List WrittenText) (o : Option rows.Objective) → is_goal s ≡ false → HasObjectiveOf (variables before ++ (variables (s ∷ []) ++ more)) before o → HasObjectiveOf (variables (before ++ s ∷ []) ++ more) (before ++ s ∷ []) o
objective_step before s more o e h =
    objective-other (variables (before ++ s ∷ []) ++ more) before s o e (subst (λ (ns : List WrittenText). HasObjectiveOf ns before o) (sym (names_step before s more)) h)

columns_step : (before : PlainModel) (s : Statement) (cs : List Column) → variables (s ∷ []) ≡ [] → cs ≡ map (λ (_ : WrittenText). nonnegative) (variables before) → cs ≡ map (λ (_ : WrittenText). nonnegative) (variables (before ++ s ∷ []))
columns_step before s cs none e =
    e ∙ ap (map (λ (_ : WrittenText). nonnegative)) (sym (variables-append before (s ∷ []) ∙ ap (λ (vs : List WrittenText). variables before ++ vs) none ∙ append-nil (variables before)))

names_same : (before : PlainModel) (s : Statement) (names : List WrittenText) → variables (s ∷ []) ≡ [] → names ≡ variables before → names ≡ variables (before ++ s ∷ [])
names_same before s names none e =
    e ∙ sym (variables-append before (s ∷ []) ∙ ap (λ (vs : List WrittenText). variables before ++ vs) none ∙ append-nil (variables before))

declared_same : (before : PlainModel) (s : Statement) (columns : List Declared) → variables (s ∷ []) ≡ [] → columns ≡ variable_columns before → columns ≡ variable_columns (before ++ s ∷ [])
declared_same before s columns none e =
    e ∙ ap (columns_from 1) (names_same before s (variables before) none refl)

pub columns_push : (number : ℕ) (names : List WrittenText) (name : WrittenText) → columns_from number (names ++ name ∷ []) ≡ columns_from number names ++ declared_as (number + length names) (ask_of name) ∷ []
columns_push number [] name = let same : number ≡ number + 0 = omega arith in ap (λ (j : ℕ). declared_as j (ask_of name) ∷ []) same
columns_push number (first ∷ names) name =
    let same : number + 1 + length names ≡ number + suc (length names) = omega arith in
    ap (λ (ds : List Declared). declared_as number (ask_of first) ∷ ds)
    (columns_push (number + 1) names name ∙ ap (λ (j : ℕ). columns_from (number + 1) names ++ declared_as j (ask_of name) ∷ []) same)

-- one more column behind those of some names
pub declared_push : (columns : List Declared) (names : List WrittenText) (name : WrittenText) (count : ℕ) → columns ≡ columns_from 1 names → count ≡ length names → columns ++ declared_as (count + 1) (ask_of name) ∷ [] ≡ columns_from 1 (names ++ name ∷ [])
declared_push columns names name count e counted =
    let same : count + 1 ≡ 1 + length names = omega (arith, counted) in
    ap (λ (ds : List Declared). ds ++ declared_as (count + 1) (ask_of name) ∷ []) e
    ∙ ap (λ (j : ℕ). columns_from 1 names ++ declared_as j (ask_of name) ∷ []) same
    ∙ sym (columns_push 1 names name)

-- what was built with one statement more
abbrev pub with_variable : Built → WrittenText → Built
with_variable b name = record b {
  variables = b.variables ++ name ∷ [];
  columns = b.columns ++ declared_as (next_column b.system) (ask_of name) ∷ [];
  statements = b.statements ++ name ∷ [];
  system = with_column b.system nonnegative;
}

abbrev pub with_objective : Built → Bool → WrittenText → Place → LinearForm → Built
with_objective b maximize name place form = record b {
  others = b.others ++ name ∷ [];
  statements = b.statements ++ name ∷ [];
  objective = Some (length b.statements);
  system = system.with_objective b.system maximize place form;
}

-- the row of a constraint whose form is this
abbrev pub made_row : Built → Place → LinearForm → Sense → GivenRow
made_row b at form sense = row_of (record { statement = length b.statements; place = at }) form.terms (One sense (negate form.constant))

abbrev pub with_constraint : Built → WrittenText → Place → LinearForm → Sense → Built
with_constraint b name at form sense = record b {
  others = b.others ++ name ∷ [];
  statements = b.statements ++ name ∷ [];
  system = with_row b.system (made_row b at form sense);
}

pub stands_variable : (before : PlainModel) (b : Built) (head : Head) → Stands before b → IsNew before head.name → length (variables before) < 1000000 → Stands (before ++ Variable head ∷ []) (with_variable b head.name)
unfolding number_fault
stands_variable before b head s new few =
    let v : Statement = Variable head in
    record {
      faultless = faultless_push [] before v s.faultless (record { follows = record { name_new = new; parts = tt }; numbers = is_not_full (length (variables before)) TooManyColumns head.at few });
      names = ap (λ (vs : List WrittenText). vs ++ head.name ∷ []) s.names ∙ sym (variables-append before (v ∷ []));
      declared =
          declared_push b.columns (variables before) head.name (length b.system.columns) s.declared
          (ap length s.columns ∙ length-map (variables before) (λ (_ : WrittenText). nonnegative))
          ∙ ap (columns_from 1) (sym (variables-append before (v ∷ [])));
      others = s.others ∙ sym (other_names-append before (v ∷ []) ∙ append-nil (other_names before));
      statements = statements_step before v b.statements s.statements;
      position = s.position ∙ sym (position-other 0 before v refl);
      columns =
          ap (λ (cs : List Column). cs ++ nonnegative ∷ []) s.columns
          ∙ sym (ap (map (λ (_ : WrittenText). nonnegative)) (variables-append before (v ∷ [])) ∙ map-append (λ (_ : WrittenText). nonnegative) (variables before) (head.name ∷ []));
      rows = λ more. rows_step before v more b.system.rows refl (s.rows (head.name ∷ more));
      objective = λ more. objective_step before v more b.system.objective refl (s.objective (head.name ∷ more));
    }

pub stands_objective : (before : PlainModel) (b : Built) (maximize : Bool) (head : Head) (sum : Sum) (form : LinearForm) → Stands before b → MayFollow before (Objective maximize head sum) → list_fault sum ≡ None → IsListForm (variables before) sum form → Stands (before ++ Objective maximize head sum ∷ []) (with_objective b maximize head.name head.at form)
unfolding number_fault
stands_objective before b maximize head sum form s may none is =
    let o : Statement = Objective maximize head sum in
    let free : HasNoObjective before = may.parts.1 in
    let position : length before ≡ length b.statements = sym (ap length s.statements ∙ length-map before given_name) in
    record {
      faultless = faultless_push [] before o s.faultless (record { follows = may; numbers = none });
      names = names_same before o b.variables refl s.names;
      declared = declared_same before o b.columns refl s.declared;
      others = ap (λ (vs : List WrittenText). vs ++ head.name ∷ []) s.others ∙ sym (other_names-append before (o ∷ []));
      statements = statements_step before o b.statements s.statements;
      position = sym (position-first 0 (length b.statements) before maximize head sum (omega (arith, position)) free);
      columns = columns_step before o b.system.columns refl s.columns;
      rows = λ more. rows_step before o more b.system.rows refl (s.rows more);
      objective = λ more.
          objective-first (variables (before ++ o ∷ []) ++ more) before maximize head sum _ free
          (record {
            aim = refl;
            place_is = refl;
            form_is = subst (λ (ns : List WrittenText). IsListForm ns sum form) (sym (names_step before o more)) (list_more (variables before) more sum form may.parts.0 is);
          });
    }

-- the faults of a constraint are those of its row, and then that of the limit
pub row_then : (left : Sum) (at : Place) (right : Sum) (last : Option Fault) → earlier_fault (row_fault left at right) last ≡ earlier_fault (numbers_fault left) (earlier_fault (numbers_fault right) (earlier_fault (adding_fault left) (earlier_fault (adding_fault right) (earlier_fault (difference_fault left at right) last))))
row_then left at right last =
    first_of_assoc (numbers_fault left) _ last
    ∙ ap (earlier_fault (numbers_fault left))
    (first_of_assoc (numbers_fault right) _ last
    ∙ ap (earlier_fault (numbers_fault right))
    (first_of_assoc (adding_fault left) _ last ∙ ap (earlier_fault (adding_fault left)) (first_of_assoc (adding_fault right) (difference_fault left at right) last)))

pub stands_constraint : (before : PlainModel) (b : Built) (head : Head) (left : Sum) (sense : Sense) (at : Place) (right : Sum) (form : LinearForm) → Stands before b → MayFollow before (Constraint head left sense at right) → length b.system.rows < 1000000 → row_fault left at right ≡ None → IsRowForm (variables before) left right form → Stands (before ++ Constraint head left sense at right ∷ []) (with_constraint b head.name at form sense)
unfolding number_fault
stands_constraint before b head left sense at right form s may few none is =
    let c : Statement = Constraint head left sense at right in
    let position : length before ≡ length b.statements = sym (ap length s.statements ∙ length-map before given_name) in
    let counted : length b.system.rows ≡ rows_of before = rows_counted (variables before ++ []) 0 before b.system.rows (s.rows []) in
    record {
      faultless = faultless_push [] before c s.faultless (record {
        follows = may;
        numbers = sym (row_then left at right (limit_fault (rows_of before) TooManyRows at)) ∙ first_of_second _ _ _ none (is_not_full (rows_of before) TooManyRows at (omega arith));
      });
      names = names_same before c b.variables refl s.names;
      declared = declared_same before c b.columns refl s.declared;
      others = ap (λ (vs : List WrittenText). vs ++ head.name ∷ []) s.others ∙ sym (other_names-append before (c ∷ []));
      statements = statements_step before c b.statements s.statements;
      position = s.position ∙ sym (position-other 0 before c refl);
      columns = columns_step before c b.system.columns refl s.columns;
      rows = λ more.
          rows-push (variables (before ++ c ∷ []) ++ more) 0 (length b.statements) before head left sense at right b.system.rows (made_row b at form sense) (omega (arith, position))
          (subst (λ (ns : List WrittenText). AreRowsOf ns 0 before b.system.rows) (sym (names_step before c more)) (s.rows more))
          (record {
            statement = refl;
            place = refl;
            form = form;
            form_is = subst (λ (ns : List WrittenText). IsRowForm ns left right form) (sym (names_step before c more)) (row_more (variables before) more left right form may.parts.0 may.parts.1 is);
            terms = refl;
            kind = refl;
          });
      objective = λ more. objective_step before c more b.system.objective refl (s.objective more);
    }
