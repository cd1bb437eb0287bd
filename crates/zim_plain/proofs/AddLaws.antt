-- What adding a statement answers: what was built stands for one statement more, or the statement has a fault.
use Rattle.std.proofs.Common.{◌≡◌, ℕ, ◌+◌, ◌<◌, ◌≤◌, Bool, true, false, List, [], ◌∷◌, ◌++◌, length, Option, Some, refl, sym, ◌∙◌, ap, subst, arith, nat_eq, length-append}
use Rattle.std.specs.Prelude.{◌||◌, if◌then◌else◌, IsNone, is_some, Ok, Err}
use Rattle.std.specs.List.{list_any}
use Rattle.std.specs.Cmp.Lexicographic.{pointwise}
use Rattle.indexmap.specs.IndexSet.{insert_key}
use Rattle.zim_fault.specs.declared.faults.Place.{Place}
use Rattle.zim_fault.specs.declared.faults.Fault.{Fault}
use Rattle.zim_fault.specs.declared.kinds.Kind.TheVariants.{Syntax, TooManyRows, TooManyColumns}
use Rattle.zim_rational.specs.Rational.{Rational}
use Rattle.zim_linear.specs.Forms.{Term, LinearForm}
use Rattle.zim_rows.specs.declared.rows.RowKind.TheVariants.{One}
use Rattle.zim_rows.specs.declared.rows.GivenRow.{GivenRow}
use Rattle.zim_rows.specs.declared.rows.Sense.{Sense}
use Rattle.zim_rows.specs.declared.faults.RowFault.{RowFault}
use Rattle.zim_rows.specs.declared.faults.RowFault.TheVariants as fault
use Rattle.zim_rows.specs.System.{LinearSystem, column_of, row_of, with_column, with_row, ColumnAnswer, RowAdded}
use Rattle.zim_rows.specs.System as system
use Rattle.zim_columns.specs.declared.declared.Declared.{Declared}
use Rattle.zim_columns.specs.Declaring.{next_column, declared_as}
use Rattle.zim_plain.specs.declared.stop.PlainStop.{PlainStop}
use Rattle.zim_plain.specs.declared.stop.PlainStop.TheVariants as stopped
use Rattle.zim_plain.specs.Statements.{WrittenText, Head, Sum, Statement, Variable, Objective, Constraint, PlainModel, head_of, variables}
use Rattle.zim_plain.specs.Asks.{ask_of}
use Rattle.zim_plain.specs.Suits.{SuitsSum, MayFollow}
use Rattle.zim_plain.specs.Faults.{fault_at, rows_of, limit_fault, number_fault, unsuited, numbers}
use Rattle.zim_plain.specs.Systems.{nonnegative}
use Rattle.zim_plain.specs.Sides.{MadeAnswer, list_fault, IsListForm, row_fault, IsRowForm}
use Rattle.zim_plain.specs.Build.{Built, Stands, IsSmall, stop_of_row, MayDeclare, VariableAnswer, AddAnswer}
use Rattle.zim_plain.proofs.Faulting.{first_of_first, first_of_second}
use Rattle.zim_plain.proofs.BuildLaws.{is_taken, is_new, no_objective, is_full, rows_counted, row_then, with_variable, with_objective, declared_push, made_row, with_constraint, stands_variable, stands_objective, stands_constraint}

-- ---- what was built

-- built things are the same where their parts are
same_built : (a b : Built) → a.variables ≡ b.variables → a.columns ≡ b.columns → a.others ≡ b.others → a.statements ≡ b.statements → a.objective ≡ b.objective → a.system ≡ b.system → a ≡ b
same_built a b v d o s p q =
    ap (λ x. record a { variables = x }) v
    ∙ ap (λ x. record a { variables = b.variables; columns = x }) d
    ∙ ap (λ x. record a { variables = b.variables; columns = b.columns; others = x }) o
    ∙ ap (λ x. record a { variables = b.variables; columns = b.columns; others = b.others; statements = x }) s
    ∙ ap (λ x. record a { variables = b.variables; columns = b.columns; others = b.others; statements = b.statements; objective = x }) p
    ∙ ap (λ x. record b { system = x }) q

or_false : (a b : Bool) → (a || b) ≡ false → (a ≡ false) × (b ≡ false)
or_false true b e = cc
or_false false b e = (refl, e)

key_pushed : (keys : List WrittenText) (name : WrittenText) → list_any (pointwise nat_eq name) keys ≡ false → insert_key (pointwise nat_eq) keys name ≡ keys ++ name ∷ []
key_pushed keys name free = ap (λ (b : Bool). if b then keys else keys ++ name ∷ []) free

pub built_variable : (old after : Built) (name : WrittenText) → is_taken old name ≡ false → after.variables ≡ insert_key (pointwise nat_eq) old.variables name → after.columns ≡ old.columns ++ declared_as (next_column old.system) (ask_of name) ∷ [] → after.others ≡ old.others → after.statements ≡ old.statements ++ name ∷ [] → after.objective ≡ old.objective → after.system ≡ with_column old.system nonnegative → after ≡ with_variable old name
built_variable old after name free v d o s p q =
    same_built after (with_variable old name) (v ∙ key_pushed old.variables name (or_false _ _ free).0) d o s p q

pub built_objective : (old after : Built) (maximize : Bool) (name : WrittenText) (place : Place) (form : LinearForm) → is_taken old name ≡ false → after.variables ≡ old.variables → after.columns ≡ old.columns → after.others ≡ insert_key (pointwise nat_eq) old.others name → after.statements ≡ old.statements ++ name ∷ [] → after.objective ≡ Some (length old.statements) → after.system ≡ system.with_objective old.system maximize place form → after ≡ with_objective old maximize name place form
built_objective old after maximize name place form free v d o s p q =
    same_built after (with_objective old maximize name place form) v d (o ∙ key_pushed old.others name (or_false _ _ free).1) s p q

pub built_constraint : (old after : Built) (name : WrittenText) (at : Place) (form : LinearForm) (sense : Sense) → is_taken old name ≡ false → after.variables ≡ old.variables → after.columns ≡ old.columns → after.others ≡ insert_key (pointwise nat_eq) old.others name → after.statements ≡ old.statements ++ name ∷ [] → after.objective ≡ old.objective → after.system ≡ with_row old.system (made_row old at form sense) → after ≡ with_constraint old name at form sense
built_constraint old after name at form sense free v d o s p q =
    same_built after (with_constraint old name at form sense) v d (o ∙ key_pushed old.others name (or_false _ _ free).1) s p q

-- a system with one more row is the same where the row's parts are
pub pushed_row : (s : LinearSystem) (at : Place) (sense : Sense) (ts : List Term) (n m : ℕ) (q r : Rational) → n ≡ m → q ≡ r → with_row s (row_of (record { statement = n; place = at }) ts (One sense q)) ≡ with_row s (row_of (record { statement = m; place = at }) ts (One sense r))
pushed_row s at sense ts n m q r e f = rw (e, f) refl

-- ---- one statement more

pub added_variable : (old after : Built) (head : Head) → after ≡ with_variable old head.name → IsSmall old → length old.system.columns < 1000000 → is_taken old head.name ≡ false → (before : PlainModel) → Stands before old → Stands (before ++ Variable head ∷ []) after
added_variable old after head same small few free before s =
    subst (λ (b : Built). Stands (before ++ Variable head ∷ []) b) (sym same)
    (stands_variable before old head s (is_new before old head.name s free) (omega (arith, ap length s.names, small.columns)))

pub small_variable : (old after : Built) (name : WrittenText) → after ≡ with_variable old name → IsSmall old → length old.system.columns < 1000000 → IsSmall after
small_variable old after name same small few =
    subst IsSmall (sym same)
    (record {
      columns = omega (arith, small.columns, length-append old.variables (name ∷ []), length-append old.system.columns (nonnegative ∷ []));
      declared = declared_push old.columns old.variables name (length old.system.columns) small.declared small.columns;
      variables = omega (arith, small.columns, length-append old.variables (name ∷ []));
      rows = small.rows;
      statements = omega (arith, small.statements, length-append old.variables (name ∷ []), length-append old.statements (name ∷ []));
    })

pub may_objective : (before : PlainModel) (old : Built) (maximize : Bool) (head : Head) (sum : Sum) → Stands before old → IsNone old.objective → is_taken old head.name ≡ false → SuitsSum old.variables sum → MayFollow before (Objective maximize head sum)
may_objective before old maximize head sum s none free suits = record {
  name_new = is_new before old head.name s free;
  parts = (subst (λ (ns : List WrittenText). SuitsSum ns sum) s.names suits, no_objective before old s none);
}

pub added_objective : (old after : Built) (maximize : Bool) (head : Head) (sum : Sum) (form : LinearForm) → after ≡ with_objective old maximize head.name head.at form → IsNone old.objective → is_taken old head.name ≡ false → SuitsSum old.variables sum → MadeAnswer (list_fault sum) (IsListForm old.variables sum) (Ok form) → (before : PlainModel) → Stands before old → Stands (before ++ Objective maximize head sum ∷ []) after
added_objective old after maximize head sum form same none free suits made before s =
    subst (λ (b : Built). Stands (before ++ Objective maximize head sum ∷ []) b) (sym same)
    (stands_objective before old maximize head sum form s (may_objective before old maximize head sum s none free suits) made.0
    (subst (λ (ns : List WrittenText). IsListForm ns sum form) s.names made.1))

pub small_objective : (old after : Built) (maximize : Bool) (name : WrittenText) (place : Place) (form : LinearForm) → after ≡ with_objective old maximize name place form → IsNone old.objective → IsSmall old → IsSmall after
small_objective old after maximize name place form same none small =
    subst IsSmall (sym same)
    (record {
      columns = small.columns;
      declared = small.declared;
      variables = small.variables;
      rows = small.rows;
      statements = counted (is_some old.objective) none small.statements;
    })
  where
    counted : (b : Bool) → b ≡ false → length old.statements ≤ length old.variables + length old.system.rows + (if b then 1 else 0) → length (old.statements ++ name ∷ []) ≤ length old.variables + length old.system.rows + 1
    counted true e h = cc
    counted false e h = omega (arith, h, length-append old.statements (name ∷ []))

pub may_constraint : (before : PlainModel) (old : Built) (head : Head) (left : Sum) (sense : Sense) (at : Place) (right : Sum) → Stands before old → is_taken old head.name ≡ false → SuitsSum old.variables left → SuitsSum old.variables right → MayFollow before (Constraint head left sense at right)
may_constraint before old head left sense at right s free p q = record {
  name_new = is_new before old head.name s free;
  parts = (subst (λ (ns : List WrittenText). SuitsSum ns left) s.names p, subst (λ (ns : List WrittenText). SuitsSum ns right) s.names q);
}

pub added_constraint : (old after : Built) (head : Head) (left : Sum) (sense : Sense) (at : Place) (right : Sum) (form : LinearForm) → after ≡ with_constraint old head.name at form sense → length old.system.rows < 1000000 → is_taken old head.name ≡ false → SuitsSum old.variables left → SuitsSum old.variables right → MadeAnswer (row_fault left at right) (IsRowForm old.variables left right) (Ok form) → (before : PlainModel) → Stands before old → Stands (before ++ Constraint head left sense at right ∷ []) after
added_constraint old after head left sense at right form same few free p q made before s =
    subst (λ (b : Built). Stands (before ++ Constraint head left sense at right ∷ []) b) (sym same)
    (stands_constraint before old head left sense at right form s (may_constraint before old head left sense at right s free p q) few made.0
    (subst (λ (ns : List WrittenText). IsRowForm ns left right form) s.names made.1))

pub small_constraint : (old after : Built) (name : WrittenText) (at : Place) (form : LinearForm) (sense : Sense) → after ≡ with_constraint old name at form sense → length old.system.rows < 1000000 → IsSmall old → IsSmall after
small_constraint old after name at form sense same few small =
    subst IsSmall (sym same)
    (record {
      columns = small.columns;
      declared = small.declared;
      variables = small.variables;
      rows = omega (arith, few, length-append old.system.rows (made_row old at form sense ∷ []));
      statements = omega (arith, small.statements, length-append old.system.rows (made_row old at form sense ∷ []), length-append old.statements (name ∷ []));
    })

-- ---- faults

-- a statement that may not follow is told at its first word
pub refused : (before : PlainModel) (statement : Statement) (after : Built) (stop : PlainStop) → stop ≡ stopped.Fault (fault_at Syntax (head_of statement).word) → ¬ MayFollow before statement → AddAnswer before statement after (Err stop)
refused before statement after stop e other = subst (λ (s : PlainStop). AddAnswer before statement after (Err s)) (sym e) (unsuited other)

-- a fault of the numbers of a statement that may follow
pub faulty : {V : Type 0} (before : PlainModel) (statement : Statement) (after : Built) (stop : PlainStop) (first : Option Fault) (Is : V → Type 0) → MayFollow before statement → ((f : Fault) → first ≡ Some f → number_fault before statement ≡ Some f) → MadeAnswer first Is (Err stop) → AddAnswer before statement after (Err stop)
faulty before statement after (stopped.Fault met) first Is may goes answer = numbers met may (goes met answer)
faulty before statement after stopped.Memory first Is may goes answer = tt

pub objective_faulty : (old after : Built) (maximize : Bool) (head : Head) (sum : Sum) (stop : PlainStop) → IsNone old.objective → is_taken old head.name ≡ false → SuitsSum old.variables sum → MadeAnswer (list_fault sum) (IsListForm old.variables sum) (Err stop) → (before : PlainModel) → Stands before old → AddAnswer before (Objective maximize head sum) after (Err stop)
unfolding number_fault
objective_faulty old after maximize head sum stop none free suits answer before s =
    faulty before (Objective maximize head sum) after stop (list_fault sum) (IsListForm old.variables sum) (may_objective before old maximize head sum s none free suits) (λ f e. e) answer

pub constraint_faulty : (old after : Built) (head : Head) (left : Sum) (sense : Sense) (at : Place) (right : Sum) (stop : PlainStop) → is_taken old head.name ≡ false → SuitsSum old.variables left → SuitsSum old.variables right → MadeAnswer (row_fault left at right) (IsRowForm old.variables left right) (Err stop) → (before : PlainModel) → Stands before old → AddAnswer before (Constraint head left sense at right) after (Err stop)
unfolding number_fault
constraint_faulty old after head left sense at right stop free p q answer before s =
    faulty before (Constraint head left sense at right) after stop (row_fault left at right) (IsRowForm old.variables left right) (may_constraint before old head left sense at right s free p q)
    (λ f e. sym (row_then left at right (limit_fault (rows_of before) TooManyRows at)) ∙ first_of_first _ _ _ e) answer

-- a new variable may be declared beside those that are small
pub may_declare : (old : Built) (name : WrittenText) → IsSmall old → is_taken old name ≡ false → MayDeclare old.columns old.system name
may_declare old name small free = record {
  names = old.variables;
  columns_are = small.declared;
  counted = small.columns;
  rows = small.rows;
  is_new = (or_false _ _ free).0;
}

pub variable_refused : (old : Built) (head : Head) (after : Built) (columns : List Declared) (new : LinearSystem) (stop : PlainStop) → IsSmall old → is_taken old head.name ≡ false → VariableAnswer old.columns old.system head.at head.name columns new (Err stop) → (before : PlainModel) → Stands before old → AddAnswer before (Variable head) after (Err stop)
unfolding number_fault
variable_refused old head after columns new (stopped.Fault met) small free answer before s =
    subst (λ (f : Fault). AddAnswer before (Variable head) after (Err (stopped.Fault f))) (sym answer.1)
    (numbers (fault_at TooManyColumns head.at) (record { name_new = is_new before old head.name s free; parts = tt }) (is_full (length (variables before)) TooManyColumns head.at (omega (arith, answer.0, small.columns, ap length s.names))))
variable_refused old head after columns new stopped.Memory small free answer before s = tt

pub row_refused : (old after : Built) (head : Head) (left : Sum) (sense : Sense) (at : Place) (right : Sum) (form : LinearForm) (row : GivenRow) (new : LinearSystem) (met : RowFault) (stop : PlainStop) → is_taken old head.name ≡ false → SuitsSum old.variables left → SuitsSum old.variables right → MadeAnswer (row_fault left at right) (IsRowForm old.variables left right) (Ok form) → RowAdded old.system row new (Err met) → stop ≡ stop_of_row at met → (before : PlainModel) → Stands before old → AddAnswer before (Constraint head left sense at right) after (Err stop)
unfolding number_fault
row_refused old after head left sense at right form row new fault.TooManyRows stop free p q made answer e before s =
    let counted = rows_counted (variables before ++ []) 0 before old.system.rows (s.rows []) in
    subst (λ (t : PlainStop). AddAnswer before (Constraint head left sense at right) after (Err t)) (sym e)
    (numbers (fault_at TooManyRows at) (may_constraint before old head left sense at right s free p q)
    (sym (row_then left at right (limit_fault (rows_of before) TooManyRows at)) ∙ first_of_second _ _ _ made.0 (is_full (rows_of before) TooManyRows at (omega (arith, answer.0, counted)))))
row_refused old after head left sense at right form row new fault.TooManyColumns stop free p q made answer e before s = absurd answer
row_refused old after head left sense at right form row new fault.Memory stop free p q made answer e before s =
    subst (λ (t : PlainStop). AddAnswer before (Constraint head left sense at right) after (Err t)) (sym e) tt
