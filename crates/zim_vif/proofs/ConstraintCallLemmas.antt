-- What the calls for constraints make is what the constraints make.
use Rattle.std.proofs.Common.{ℕ, ◌≡◌, ◌<◌, ◌≤◌, ◌+◌, ◌-◌, Bool, false, IsTrue, IfSome, OnOk, List, [], ◌∷◌, length, map, drop, drop-cons, add-one, get_or, Option, Some, None, option_map, Result, Ok, Err, All, arith, refl, ap, sym, ◌∙◌, subst}
use Rattle.std.proofs.lemmas.List.{drop_all, get_or_append_left}
use Rattle.zim_answer.specs.Answer.{◌>>=◌}
use Rattle.zim_answer.specs.Gives.{Gives, Stops}
use Rattle.zim_answer.proofs.BindLemmas.{bind_gave}
use Rattle.zim_answer.proofs.GivesLemmas.{Stops-bind}
use Rattle.zim_fault.specs.declared.faults.Fault.{Fault}
use Rattle.zim_fault.specs.declared.faults.Place.{Place}
use Rattle.zim_fault.specs.declared.tokens.Relation.{Relation}
use Rattle.zim_fault.specs.declared.tokens.Join.TheVariants.{And}
use Rattle.zim_rational.specs.Rational.{Rational}
use Rattle.zim_linear.specs.Forms.{LinearForm, AreTerms, AreColumns}
use Rattle.zim_linear.specs.Ends.{unbounded}
use Rattle.zim_formula.specs.Ground.{constraint_holds, joined_truths}
use Rattle.zim_formula.specs.GroundRules.{is_term_over, is_constraint_over}
use Rattle.zim_formula.specs.declared.ground.GTerm.{GTerm}
use Rattle.zim_formula.specs.declared.ground.GCond.{GCond}
use Rattle.zim_formula.specs.declared.ground.GCon.{GCon, GCon-F}
use Rattle.zim_rows.specs.declared.rows.Column.{Column}
use Rattle.zim_rows.specs.declared.rows.GivenRow.{GivenRow}
use Rattle.zim_rows.specs.declared.rows.RowFrom.{RowFrom}
use Rattle.zim_rows.specs.declared.steps.NewRow.{NewRow}
use Rattle.zim_rows.specs.declared.faults.EncodeFault.{EncodeFault}
use Rattle.zim_rows.specs.System.{LinearSystem, Extends, column_of, column_at}
use Rattle.zim_rows.specs.Points.{assigned}
use Rattle.zim_rows.specs.Steps.{encode_cause, step_of, step_placed, given_row, IsNewRow}
use Rattle.zim_rows.specs.Extending.{IsValid}
use Rattle.zim_rows.proofs.ExtendLaws.{extends_itself, extends_further}
use Rattle.zim_logic_rows.specs.declared.Literal.{Literal}
use Rattle.zim_logic_rows.specs.LogicRows.{with_rows}
use Rattle.zim_logic_rows.specs.Literals.{negation}
use Rattle.zim_logic_rows.proofs.ValidLaws.{new_rows}
use Rattle.zim_vabs.specs.Meaning.{FormMade}
use Rattle.zim_vabs.specs.Terms.{makes_term}
use Rattle.zim_vabs.proofs.TermLaws.{columns_after}
use Rattle.zim_cond.specs.Conditions.{difference_of, makes_condition}
use Rattle.zim_cond.specs.Meaning.{LiteralMade}
use Rattle.zim_cond.proofs.LiteralLaws.{join_makes, from_one}
use Rattle.zim_cond.proofs.CompareLeafLaws.{difference_made}
use Rattle.zim_vif.specs.Constraints.{Guard, ConstraintPart, part_guard, each_part, under_literal, otherwise_part, comparison_rows, ranged_rows, low_of_range, high_of_range, constraint_makes, makes_constraint}
use Rattle.zim_vif.specs.ConstraintTurns.{parts_make, vif_makes}
use Rattle.zim_vif.specs.Meaning.{IsLiteralOf, IsGuardOf, AskedUnder}
use Rattle.zim_vif.proofs.GuardLaws.{IsTruth}
use Rattle.zim_vif.proofs.ComparisonLaws.{comparison_over, ranged_over}
use Rattle.zim_vif.proofs.OverConstraintLaws.{constraint_over_more}
use Rattle.zim_vif.proofs.ConstraintLaws.{guard_on, guard_is, constraint_asked}

abbrev Made : Type 0
Made = Unit {0} × LinearSystem

abbrev Told : Result Made Fault → LinearSystem → Result Unit EncodeFault → Type 0
Told answer after r = Gives (λ (_ : Unit). (tt, after)) encode_cause answer r

-- ---- literals of a system that grows

pub literal_later : (s later : LinearSystem) (l : Literal) → Extends later s → IsLiteralOf s l → IsLiteralOf later l
literal_later s later l more of =
    let le = columns_after later s more in
    let some : 0 < l.column = of.from_one in
    let few : l.column ≤ length s.columns = of.in_columns in
    record {
      from_one = some;
      in_columns = omega arith;
      is_binary =
          ap (λ (cs : List Column). column_at cs l.column) more.columns.1
          ∙ get_or_append_left s.columns more.columns.0 (column_of false unbounded) (l.column - 1) (omega arith)
          ∙ of.is_binary;
    }

pub guard_later : (s later : LinearSystem) (guard : Guard) → Extends later s → IsGuardOf s guard → IsGuardOf later guard
guard_later s later None more of = tt
guard_later s later (Some l) more of = literal_later s later l more of

pub guard_from_one : (s : LinearSystem) (guard : Guard) → IsGuardOf s guard → IfSome guard (λ l. 0 < l.column)
guard_from_one s None of = tt
guard_from_one s (Some l) of = of.from_one

-- the literal of a guard that has one
pub guard_literal : (s : LinearSystem) (guard : Guard) (g : Literal) → guard ≡ Some g → IsGuardOf s guard → IsLiteralOf s g
guard_literal s guard g e of = subst (IsGuardOf s) e of

pub guard_order : (guard : Guard) (g b : Literal) → guard ≡ Some g → IfSome guard (λ h. h.column < b.column) → g.column < b.column
guard_order guard g b e h = subst (λ (o : Guard). IfSome o (λ k. k.column < b.column)) e h

-- a literal that was made
pub made_literal : (s after : LinearSystem) (truth : List Rational → Bool) (l : Literal) → LiteralMade s s truth l after → IsLiteralOf after l
made_literal s after truth l made = record {
  from_one = from_one s s after truth l made;
  in_columns = made.in_columns;
  is_binary = made.is_binary;
}

-- it stands behind the guard
pub guard_before : (s after : LinearSystem) (guard : Guard) (truth : List Rational → Bool) (l : Literal) → IsGuardOf s guard → LiteralMade s s truth l after → IfSome guard (λ g. g.column < l.column)
guard_before s after None truth l of made = tt
guard_before s after (Some g) truth l of made =
    let few : g.column ≤ length s.columns = of.in_columns in
    let new : length s.columns < l.column = made.is_new in
    omega arith

-- ---- the literal of a part

pub record PartLiteral (s : LinearSystem) (l : Literal) (after : LinearSystem) : Type 0 where
  pub valid : IsValid after
  pub extends : Extends after s
  pub literal : IsLiteralOf after l

pub part_literal : (source : RowFrom) (guard : Guard) (b l : Literal) (s after : LinearSystem) → IsValid s → IsGuardOf s guard → IsLiteralOf s b → part_guard source guard b s ≡ Ok (l, after) → PartLiteral s l after
part_literal source None b l s after is of literal h =
    let pair : ◌≡◌ {A = Literal × LinearSystem} (b, s) (l, after) = cc in
    subst (λ (m : Literal × LinearSystem). PartLiteral s m.0 m.1) pair (record { valid = is; extends = extends_itself s; literal = literal })
part_literal source (Some g) b l s after is of literal h =
    let first : IsTruth s s (guard_on (Some g)) g = guard_is s (Some g) of in
    let second : IsTruth s s (guard_on (Some b)) b = guard_is s (Some b) literal in
    let truth : List Rational → Bool = λ v. joined_truths And (guard_on (Some g) v) (guard_on (Some b) v) in
    let made : LiteralMade s s truth l after =
    join_makes s s source And (guard_on (Some g)) (guard_on (Some b)) g b l after is (extends_itself s) first.from_one first.in_columns first.tells second.from_one second.in_columns second.tells h in
    record { valid = made.valid; extends = made.widens.extends; literal = made_literal s after truth l made }

abbrev under_behind : ConstraintPart → Literal × LinearSystem → Result Made Fault
under_behind part l = part (Some l.0) l.1

pub under_stops : (source : RowFrom) (guard : Guard) (b : Literal) (part : ConstraintPart) (s : LinearSystem) (refused : EncodeFault) → Stops (part_guard source guard b s) (encode_cause refused) → Stops (under_literal source guard b part s) (encode_cause refused)
under_stops source guard b part s refused h = Stops-bind (part_guard source guard b s) (under_behind part) (encode_cause refused) h

pub under_told : (source : RowFrom) (guard : Guard) (b l : Literal) (part : ConstraintPart) (s middle after : LinearSystem) (r : Result Unit EncodeFault) → part_guard source guard b s ≡ Ok (l, middle) → Told (part (Some l) middle) after r → Told (under_literal source guard b part s) after r
under_told source guard b l part s middle after r h told = subst (λ (a : Result Made Fault). Told a after r) (sym (ap (λ (a : Result (Literal × LinearSystem) Fault). a >>= under_behind part) h)) told

-- ---- what each form of a constraint makes

-- ---- from the system itself

pub asked_on : (statement : ℕ) (guard : Guard) (c : GCon) (s after : LinearSystem) (r : Result Unit EncodeFault) → IsValid s → IsGuardOf s guard → IsTrue (is_constraint_over (length s.columns) c) → Told (makes_constraint statement c guard s) after r → OnOk r (AskedUnder s guard (λ p. constraint_holds (assigned p) c) after)
asked_on statement guard c s after (Ok u) is of over h = constraint_asked s statement guard c (tt, after) is of over h
asked_on statement guard c s after (Err refused) is of over h = tt

pub constraint_extends : (statement : ℕ) (guard : Guard) (c : GCon) (s after : LinearSystem) → IsValid s → IsGuardOf s guard → IsTrue (is_constraint_over (length s.columns) c) → makes_constraint statement c guard s ≡ Ok (tt, after) → Extends after s
constraint_extends statement guard c s after is of over h = (constraint_asked s statement guard c (tt, after) is of over h).narrows.extends

pub under_extends : (source : RowFrom) (guard : Guard) (b : Literal) (c : GCon) (s after : LinearSystem) → IsValid s → IsGuardOf s guard → IsLiteralOf s b → IsTrue (is_constraint_over (length s.columns) c) → under_literal source guard b (makes_constraint source.statement c) s ≡ Ok (tt, after) → Extends after s
under_extends source guard b c s after is of literal over h =
    let (l, l_is, rest) = bind_gave (part_guard source guard b s) _ (tt, after) h in
    let made = part_literal source guard b l.0 s l.1 is of literal l_is in
    extends_further s l.1 after
    (constraint_extends source.statement (Some l.0) c l.1 after made.valid made.literal (constraint_over_more (length s.columns) (length l.1.columns) c (columns_after l.1 s made.extends) over) rest)
    made.extends

-- ---- parts one after another

-- the parts from i on lead from the system so far to what all of them make
pub record IsAsking (statement : ℕ) (guard : Guard) (start : LinearSystem) (parts : List GCon) (i : ℕ) (now : LinearSystem) : Type 0 where
  pub leads : parts_make statement guard (drop i parts) now ≡ parts_make statement guard parts start
  pub extends : Extends now start

pub asking_begins : (statement : ℕ) (guard : Guard) (start : LinearSystem) (parts : List GCon) → IsAsking statement guard start parts 0 start
asking_begins statement guard start parts = record { leads = refl; extends = extends_itself start }

asking_next : (statement : ℕ) (guard : Guard) (parts : List GCon) (i : ℕ) (c : GCon) (now : LinearSystem) → i < length parts → c ≡ get_or parts i c → parts_make statement guard (drop i parts) now ≡ (makes_constraint statement c guard now >>= λ made. parts_make statement guard (drop (i + 1) parts) made.1)
unfolding each_part
asking_next statement guard parts i c now lt is =
    ap (λ (cs : List GCon). parts_make statement guard cs now) (let cut : drop i parts ≡ c ∷ drop (i + 1) parts = rw (add-one, drop-cons parts i c lt, sym is) refl in cut)

pub asking_stops : (statement : ℕ) (guard : Guard) (start now : LinearSystem) (parts : List GCon) (i : ℕ) (c : GCon) (refused : EncodeFault) → i < length parts → c ≡ get_or parts i c → IsAsking statement guard start parts i now → Stops (makes_constraint statement c guard now) (encode_cause refused)
    → Stops (parts_make statement guard parts start) (encode_cause refused)
asking_stops statement guard start now parts i c refused lt is asking h =
    subst (λ (a : Result Made Fault). Stops a (encode_cause refused)) (sym (asking_next statement guard parts i c now lt is) ∙ asking.leads)
    (Stops-bind (makes_constraint statement c guard now) (λ made. parts_make statement guard (drop (i + 1) parts) made.1) (encode_cause refused) h)

pub asking_goes_on : (statement : ℕ) (guard : Guard) (start now new : LinearSystem) (parts : List GCon) (i : ℕ) (c : GCon) → i < length parts → c ≡ get_or parts i c → IsAsking statement guard start parts i now → makes_constraint statement c guard now ≡ Ok (tt, new) → Extends new now
    → IsAsking statement guard start parts (i + 1) new
asking_goes_on statement guard start now new parts i c lt is asking h more = record {
  leads =
      sym (ap (λ (a : Result Made Fault). a >>= λ made. parts_make statement guard (drop (i + 1) parts) made.1) h)
      ∙ sym (asking_next statement guard parts i c now lt is)
      ∙ asking.leads;
  extends = extends_further start now new more asking.extends;
}

nothing_left : (statement : ℕ) (guard : Guard) (now : LinearSystem) → parts_make statement guard [] now ≡ Ok (tt, now)
unfolding each_part
nothing_left statement guard now = refl

pub asking_ends : (statement : ℕ) (guard : Guard) (start now : LinearSystem) (parts : List GCon) (i : ℕ) → length parts ≤ i → IsAsking statement guard start parts i now → parts_make statement guard parts start ≡ Ok (tt, now)
asking_ends statement guard start now parts i le asking =
    sym asking.leads ∙ ap (λ (cs : List GCon). parts_make statement guard cs now) (drop_all i parts le) ∙ nothing_left statement guard now

-- ---- the choice of a `vif`

abbrev after_first : RowFrom → Guard → Literal → Option GCon → Made → Result Made Fault
after_first source guard b otherwise m =
    otherwise_part source guard b (option_map (makes_constraint source.statement) otherwise) m.1

abbrev after_test : RowFrom → Guard → GCon → Option GCon → Literal × LinearSystem → Result Made Fault
after_test source guard first otherwise b =
    under_literal source guard b.0 (makes_constraint source.statement first) b.1 >>= after_first source guard b.0 otherwise

pub test_stops : (source : RowFrom) (guard : Guard) (test : GCond) (first : GCon) (otherwise : Option GCon) (s : LinearSystem) (refused : EncodeFault) → Stops (makes_condition source test s) (encode_cause refused) → Stops (vif_makes source guard test first otherwise s) (encode_cause refused)
test_stops source guard test first otherwise s refused h = Stops-bind (makes_condition source test s) (after_test source guard first otherwise) (encode_cause refused) h

test_gives : (source : RowFrom) (guard : Guard) (test : GCond) (first : GCon) (otherwise : Option GCon) (b : Literal) (s s1 : LinearSystem) → makes_condition source test s ≡ Ok (b, s1) → vif_makes source guard test first otherwise s ≡ after_test source guard first otherwise (b, s1)
test_gives source guard test first otherwise b s s1 h = ap (λ (a : Result (Literal × LinearSystem) Fault). a >>= after_test source guard first otherwise) h

pub first_stops : (source : RowFrom) (guard : Guard) (test : GCond) (first : GCon) (otherwise : Option GCon) (b : Literal) (s s1 : LinearSystem) (refused : EncodeFault) → makes_condition source test s ≡ Ok (b, s1) → Stops (under_literal source guard b (makes_constraint source.statement first) s1) (encode_cause refused)
    → Stops (vif_makes source guard test first otherwise s) (encode_cause refused)
first_stops source guard test first otherwise b s s1 refused h stops =
    subst (λ (a : Result Made Fault). Stops a (encode_cause refused)) (sym (test_gives source guard test first otherwise b s s1 h))
    (Stops-bind (under_literal source guard b (makes_constraint source.statement first) s1) (after_first source guard b otherwise) (encode_cause refused) stops)

pub negation_of : (s : LinearSystem) (b l : Literal) → l ≡ negation b → IsLiteralOf s b → IsLiteralOf s l
negation_of s b l e of = subst (IsLiteralOf s) (sym e) (record { from_one = of.from_one; in_columns = of.in_columns; is_binary = of.is_binary })

pub negation_before : (guard : Guard) (b l : Literal) → l ≡ negation b → IfSome guard (λ g. g.column < b.column) → IfSome guard (λ g. g.column < l.column)
negation_before guard b l e h = subst (λ (m : Literal). IfSome guard (λ g. g.column < m.column)) (sym e) h

-- ---- comparisons and ranges

abbrev rows_behind : Place → LinearSystem → List GivenRow → Result Made Fault
rows_behind place s rows = with_rows place rows s

abbrev compared_behind : RowFrom → Guard → Relation → LinearForm × LinearSystem → Result Made Fault
compared_behind source guard relation f = comparison_rows source guard relation f.0 f.1 >>= rows_behind source.place f.1

pub compare_form_stops : (source : RowFrom) (guard : Guard) (relation : Relation) (left right : GTerm) (s : LinearSystem) (refused : EncodeFault) → Stops (difference_of source.statement source.place left right s) (encode_cause refused)
    → Stops (constraint_makes source.statement (GCon-F.Compare source.place relation left right) guard s) (encode_cause refused)
compare_form_stops source guard relation left right s refused h = Stops-bind (difference_of source.statement source.place left right s) (compared_behind source guard relation) (encode_cause refused) h

compare_begins : (source : RowFrom) (guard : Guard) (relation : Relation) (left right : GTerm) (f : LinearForm) (s s1 : LinearSystem) → difference_of source.statement source.place left right s ≡ Ok (f, s1) → constraint_makes source.statement (GCon-F.Compare source.place relation left right) guard s ≡ compared_behind source guard relation (f, s1)
compare_begins source guard relation left right f s s1 h = ap (λ (a : Result (LinearForm × LinearSystem) Fault). a >>= compared_behind source guard relation) h

pub compare_rows_stop : (source : RowFrom) (guard : Guard) (relation : Relation) (left right : GTerm) (f : LinearForm) (s s1 : LinearSystem) (refused : EncodeFault) → difference_of source.statement source.place left right s ≡ Ok (f, s1) → Stops (comparison_rows source guard relation f s1) (encode_cause refused)
    → Stops (constraint_makes source.statement (GCon-F.Compare source.place relation left right) guard s) (encode_cause refused)
compare_rows_stop source guard relation left right f s s1 refused h stops =
    subst (λ (a : Result Made Fault). Stops a (encode_cause refused)) (sym (compare_begins source guard relation left right f s s1 h))
    (Stops-bind (comparison_rows source guard relation f s1) (rows_behind source.place s1) (encode_cause refused) stops)

pub compare_told : (source : RowFrom) (guard : Guard) (relation : Relation) (left right : GTerm) (f : LinearForm) (rows : List GivenRow) (s s1 after : LinearSystem) (r : Result Unit EncodeFault) → difference_of source.statement source.place left right s ≡ Ok (f, s1) → comparison_rows source guard relation f s1 ≡ Ok rows
    → Told (with_rows source.place rows s1) after r → Told (constraint_makes source.statement (GCon-F.Compare source.place relation left right) guard s) after r
compare_told source guard relation left right f rows s s1 after r h k told =
    subst (λ (a : Result Made Fault). Told a after r) (sym (compare_begins source guard relation left right f s s1 h ∙ ap (λ (a : Result (List GivenRow) Fault). a >>= rows_behind source.place s1) k)) told

abbrev ranged_behind : RowFrom → Guard → Relation → Rational → Rational → LinearForm × LinearSystem → Result Made Fault
ranged_behind source guard relation first last f =
    ranged_rows source guard f.0 (low_of_range relation first last) (high_of_range relation first last) f.1 >>= rows_behind source.place f.1

pub range_form_stops : (source : RowFrom) (guard : Guard) (relation : Relation) (first : Rational) (term : GTerm) (last : Rational) (s : LinearSystem) (refused : EncodeFault) → Stops (makes_term source.statement term s) (encode_cause refused)
    → Stops (constraint_makes source.statement (GCon-F.Range source.place relation first term last) guard s) (encode_cause refused)
range_form_stops source guard relation first term last s refused h = Stops-bind (makes_term source.statement term s) (ranged_behind source guard relation first last) (encode_cause refused) h

range_begins : (source : RowFrom) (guard : Guard) (relation : Relation) (first : Rational) (term : GTerm) (last : Rational) (f : LinearForm) (s s1 : LinearSystem) → makes_term source.statement term s ≡ Ok (f, s1)
    → constraint_makes source.statement (GCon-F.Range source.place relation first term last) guard s ≡ ranged_behind source guard relation first last (f, s1)
range_begins source guard relation first term last f s s1 h = ap (λ (a : Result (LinearForm × LinearSystem) Fault). a >>= ranged_behind source guard relation first last) h

pub range_rows_stop : (source : RowFrom) (guard : Guard) (relation : Relation) (first : Rational) (term : GTerm) (last low high : Rational) (f : LinearForm) (s s1 : LinearSystem) (refused : EncodeFault) → low ≡ low_of_range relation first last → high ≡ low_of_range relation last first
    → makes_term source.statement term s ≡ Ok (f, s1) → Stops (ranged_rows source guard f low high s1) (encode_cause refused) → Stops (constraint_makes source.statement (GCon-F.Range source.place relation first term last) guard s) (encode_cause refused)
range_rows_stop source guard relation first term last low high f s s1 refused low_is high_is h stops =
    let there : Stops (ranged_rows source guard f (low_of_range relation first last) (high_of_range relation first last) s1) (encode_cause refused) =
    subst (λ (q : Rational). Stops (ranged_rows source guard f (low_of_range relation first last) q s1) (encode_cause refused)) high_is (subst (λ (q : Rational). Stops (ranged_rows source guard f q high s1) (encode_cause refused)) low_is stops) in
    subst (λ (a : Result Made Fault). Stops a (encode_cause refused)) (sym (range_begins source guard relation first term last f s s1 h))
    (Stops-bind (ranged_rows source guard f (low_of_range relation first last) (high_of_range relation first last) s1) (rows_behind source.place s1) (encode_cause refused) there)

pub range_told : (source : RowFrom) (guard : Guard) (relation : Relation) (first : Rational) (term : GTerm) (last low high : Rational) (f : LinearForm) (rows : List GivenRow) (s s1 after : LinearSystem) (r : Result Unit EncodeFault) → low ≡ low_of_range relation first last → high ≡ low_of_range relation last first
    → makes_term source.statement term s ≡ Ok (f, s1) → ranged_rows source guard f low high s1 ≡ Ok rows → Told (with_rows source.place rows s1) after r → Told (constraint_makes source.statement (GCon-F.Range source.place relation first term last) guard s) after r
range_told source guard relation first term last low high f rows s s1 after r low_is high_is h k told =
    let there : ranged_rows source guard f (low_of_range relation first last) (high_of_range relation first last) s1 ≡ Ok rows =
    subst (λ (q : Rational). ranged_rows source guard f (low_of_range relation first last) q s1 ≡ Ok rows) high_is (subst (λ (q : Rational). ranged_rows source guard f q high s1 ≡ Ok rows) low_is k) in
    subst (λ (a : Result Made Fault). Told a after r) (sym (range_begins source guard relation first term last f s s1 h ∙ ap (λ (a : Result (List GivenRow) Fault). a >>= rows_behind source.place s1) there)) told

-- ---- what the rows are over

pub compare_fits : (source : RowFrom) (guard : Guard) (relation : Relation) (f : LinearForm) (rows : List NewRow) (s : LinearSystem) → IsGuardOf s guard → AreTerms f.terms → AreColumns (length s.columns) f.terms → comparison_rows source guard relation f s ≡ Ok (map given_row rows) → All (IsNewRow (length s.columns)) rows
compare_fits source guard relation f rows s of ordered over h =
    new_rows (length s.columns) rows (comparison_over s s source guard (guard_on guard) relation f (map given_row rows) (guard_is s guard of) (record { ordered = ordered; columns = over }) h)

pub range_fits : (source : RowFrom) (guard : Guard) (f : LinearForm) (low high : Rational) (rows : List NewRow) (s : LinearSystem) → IsGuardOf s guard → AreTerms f.terms → AreColumns (length s.columns) f.terms → ranged_rows source guard f low high s ≡ Ok (map given_row rows) → All (IsNewRow (length s.columns)) rows
range_fits source guard f low high rows s of ordered over h =
    new_rows (length s.columns) rows (ranged_over s s source guard (guard_on guard) f low high (map given_row rows) (guard_is s guard of) (record { ordered = ordered; columns = over }) h)

-- the system after the difference of two terms
pub record FormThere (s : LinearSystem) (f : LinearForm) (after : LinearSystem) : Type 0 where
  pub valid : IsValid after
  pub extends : Extends after s
  pub ordered : AreTerms f.terms
  pub columns : AreColumns (length after.columns) f.terms

pub difference_there : (statement : ℕ) (place : Place) (left right : GTerm) (f : LinearForm) (s after : LinearSystem) → IsValid s → IsTrue (is_term_over (length s.columns) left) → IsTrue (is_term_over (length s.columns) right) → difference_of statement place left right s ≡ Ok (f, after) → FormThere s f after
difference_there statement place left right f s after is over_left over_right h =
    let made = difference_made s s statement place left right f after is (extends_itself s) over_left over_right h in
    record { valid = made.valid; extends = made.widens.extends; ordered = made.ordered; columns = made.columns }

pub form_there : (s after : LinearSystem) (number : List Rational → Rational) (f : LinearForm) → FormMade s s number f after → FormThere s f after
form_there s after number f made = record { valid = made.valid; extends = made.widens.extends; ordered = made.ordered; columns = made.columns }

-- ---- rows added

pub rows_stop : (place : Place) (rows : List NewRow) (s : LinearSystem) (refused : EncodeFault) → Stops (step_placed place s (step_of [] rows)) (encode_cause refused) → Stops (with_rows place (map given_row rows) s) (encode_cause refused)
unfolding with_rows
rows_stop place rows s refused h = Stops-bind (step_placed place s (step_of [] rows)) (λ later. Ok (tt, later)) (encode_cause refused) h

pub rows_told : (place : Place) (rows : List NewRow) (s after : LinearSystem) (r : Result Unit EncodeFault) → Gives (λ (_ : Unit). after) encode_cause (step_placed place s (step_of [] rows)) r → Told (with_rows place (map given_row rows) s) after r
unfolding with_rows
rows_told place rows s after (Ok u) h = ap (λ (a : Result LinearSystem Fault). a >>= λ later. Ok (tt, later)) h
rows_told place rows s after (Err refused) h = rows_stop place rows s refused h
