-- A declared column more: the points after it are those before it, each with a number that is asked for.
use Rattle.std.proofs.Common.{ℕ, ◌≡◌, ◌<◌, ◌≤◌, ◌+◌, ◌-◌, Bool, true, false, cond, List, [], ◌∷◌, ◌++◌, length, length-append, take, drop, map, Option, Some, None, IfSome, All, Result, Ok, Err, refl, ap, ap₂, sym, ◌∙◌, subst, arith}
use Rattle.std.proofs.lemmas.List.{map-append, get_or-take, get_or_push, take-append-drop}
use Rattle.std.proofs.lemmas.List.Elements.{All-append, All-cons, All-nil}
use Rattle.zim_answer.specs.Answer.{◌>>=◌}
use Rattle.zim_columns.specs.Bounds.{IsAsked, bounds_cross, column_asked, takes_whole, sides_of}
use Rattle.zim_columns.specs.Declaring.{side_row, side_rows, next_column, step_asked, declared_as, declaring, IsInSystem}
use Rattle.zim_columns.specs.declared.asks.Ask.{Ask}
use Rattle.zim_columns.specs.declared.declared.Declared.{Declared}
use Rattle.zim_columns.proofs.BoundsLaws.{asked_kept}
use Rattle.zim_columns.proofs.DeclaringLaws.{column_may_be, outcome}
use Rattle.zim_decimal.specs.Short.{is_short}
use Rattle.zim_fault.specs.declared.faults.Fault.{Fault}
use Rattle.zim_fault.specs.declared.kinds.Kind.TheVariants.{BoundsCross}
use Rattle.zim_linear.specs.Forms.{ColumnNumbers, sum_at}
use Rattle.zim_linear.proofs.FormLaws.{sum_at_none, sum_at_more}
use Rattle.zim_linear.specs.declared.sides.Sides.{Sides}
use Rattle.zim_logic_rows.proofs.ValidLaws.{step_valid}
use Rattle.zim_model.specs.Law.{AreAsAsked, cut_down, IsOnlySystemPoint}
use Rattle.zim_model.specs.Statements.{Stated, AreAsked, AreStatementsTrue}
use Rattle.zim_model.proofs.TruthLemmas.{AreFew, few_more, truths_more, truths_less, asked_more, asked_last, asked_length, as_asked_more}
use Rattle.zim_rational.specs.Rational.{Rational, zero, one, plus, IsAtMost}
use Rattle.zim_rational.proofs.Ring.{plus_zero, one_times}
use Rattle.zim_rational.proofs.Whole.{one_different}
use Rattle.zim_rows.specs.Covered.{IsCovered}
use Rattle.zim_rows.specs.Extending.{IsValid, Fits}
use Rattle.zim_rows.specs.Points.{Compares, Constraint, KeepConstraints, assigned, given_constraint, IsSystemPoint, first_numbers}
use Rattle.zim_rows.specs.Steps.{Step, step_placed, with_step, fault_here}
use Rattle.zim_rows.specs.System.{LinearSystem, IsGivenRow, row_of}
use Rattle.zim_rows.specs.declared.rows.RowFrom.{RowFrom}
use Rattle.zim_rows.specs.declared.rows.RowKind.TheVariants.{One}
use Rattle.zim_rows.specs.declared.rows.Sense.{Sense}
use Rattle.zim_rows.specs.declared.rows.Sense.TheVariants.{AtLeast, AtMost}
use Rattle.zim_rows.proofs.CutLaws.{point_cut}
use Rattle.zim_rows.proofs.StepLaws.{each_has_number, step_extends, point_further, fits_after, placed_is}

-- ---- the rows of a column's sides

sum_one : (x : ColumnNumbers) (j : ℕ) → sum_at x ((j, one) ∷ []) ≡ x j
sum_one x j = sum_at_more x (j, one) [] ∙ ap₂ plus (one_times (x j)) (sum_at_none x) ∙ plus_zero (x j)

side_kept : (from : RowFrom) (j : ℕ) (sense : Sense) (side : Option Rational) (x : ColumnNumbers) → IfSome side (λ s. Compares sense (x j) s) → KeepConstraints x (map given_constraint (side_row from j sense side))
side_kept from j sense None x h = tt
side_kept from j sense (Some s) x h = by (is_short s)
  where
    by : (b : Bool) → KeepConstraints x (map given_constraint (cond b [] (row_of from ((j, one) ∷ []) (One sense s) ∷ [])))
    by true = tt
    by false = (subst (λ (v : Rational). Compares sense v s) (sym (sum_one x j)) h, tt)

rows_joined : (x : ColumnNumbers) (rows more : List Constraint) → KeepConstraints x rows → KeepConstraints x more → KeepConstraints x (rows ++ more)
rows_joined x [] more h k = k
rows_joined x (row ∷ rows) more h k = (h.0, rows_joined x rows more h.1 k)

sides_kept : (from : RowFrom) (j : ℕ) (sides : Sides) (x : ColumnNumbers) → IfSome sides.low (λ l. IsAtMost l (x j)) → IfSome sides.high (λ h. IsAtMost (x j) h) → KeepConstraints x (map given_constraint (side_rows from j sides))
sides_kept from j sides x low high =
    subst (KeepConstraints x) (sym (map-append given_constraint (side_row from j AtLeast sides.low) (side_row from j AtMost sides.high)))
    (rows_joined x _ _ (side_kept from j AtLeast sides.low x low) (side_kept from j AtMost sides.high x high))

side_over : (from : RowFrom) (j : ℕ) (sense : Sense) (side : Option Rational) → 0 < j → All (IsGivenRow j) (side_row from j sense side)
side_over from j sense None some = All-nil (IsGivenRow j)
side_over from j sense (Some s) some = by (is_short s)
  where
    by : (b : Bool) → All (IsGivenRow j) (cond b [] (row_of from ((j, one) ∷ []) (One sense s) ∷ []))
    by true = All-nil (IsGivenRow j)
    by false =
        All-cons (IsGivenRow j) (row_of from ((j, one) ∷ []) (One sense s)) []
        (record { terms = (omega arith, one_different, tt); columns = (some, omega arith, tt); kind = tt })
        (All-nil (IsGivenRow j))

-- ---- the numbers of a column that is asked for

pub asked_fits : (system : LinearSystem) (from : RowFrom) (ask : Ask) (p : List Rational) (v : Rational) → length p ≡ length system.columns → bounds_cross ask ≡ false → IsAsked ask v → Fits (step_asked system from ask) p (v ∷ [])
asked_fits system from ask p v size apart is =
    let keeps = (asked_kept ask v apart).0 is in
    let last : assigned (p ++ v ∷ []) (next_column system) ≡ v = get_or_push p v zero (length system.columns + 1 - 1) (omega (arith, size)) in
    record {
      columns = (keeps, tt);
      rows =
          sides_kept from (next_column system) (column_asked ask).sides (assigned (p ++ v ∷ []))
          (low_at (column_asked ask).sides.low v _ (sym last) keeps.between.low)
          (high_at (column_asked ask).sides.high v _ (sym last) keeps.between.high);
    }
  where
    low_at : (side : Option Rational) (v w : Rational) → v ≡ w → IfSome side (λ l. IsAtMost l v) → IfSome side (λ l. IsAtMost l w)
    low_at None v w e h = tt
    low_at (Some l) v w e h = subst (IsAtMost l) e h

    high_at : (side : Option Rational) (v w : Rational) → v ≡ w → IfSome side (λ u. IsAtMost v u) → IfSome side (λ u. IsAtMost w u)
    high_at None v w e h = tt
    high_at (Some u) v w e h = subst (λ (x : Rational). IsAtMost x u) e h

-- numbers that fit the column are one, which is asked for
pub record IsOneAsked (ask : Ask) (vs : List Rational) : Type 0 where
  pub one : Rational
  pub only : vs ≡ one ∷ []
  pub is : IsAsked ask one

pub fits_asked : (system : LinearSystem) (from : RowFrom) (ask : Ask) (p vs : List Rational) → bounds_cross ask ≡ false → Fits (step_asked system from ask) p vs → IsOneAsked ask vs
fits_asked system from ask p [] apart fits = absurd fits.columns
fits_asked system from ask p (v ∷ []) apart fits = record { one = v; only = refl; is = (asked_kept ask v apart).1 fits.columns.0 }
fits_asked system from ask p (v ∷ w ∷ vs) apart fits = absurd fits.columns.1

-- ---- what a declaration gives

-- a declaration that gives columns and a system: its step is placed, and the new column stands behind the others
pub record IsDeclared (columns listed : List Declared) (system new : LinearSystem) (from : RowFrom) (ask : Ask) : Type 0 where
  pub apart : bounds_cross ask ≡ false
  pub placed : step_placed from.place system (step_asked system from ask) ≡ Ok new
  pub listed_are : listed ≡ columns ++ declared_as (next_column system) ask ∷ []

-- a declared column behind others, with a system
abbrev behind : List Declared → Declared → LinearSystem → List Declared × LinearSystem
behind columns declared system = (columns ++ declared ∷ [], system)

ok_same : {A : Type 0} {x y : A} → ◌≡◌ {A = Result A Fault} (Ok x) (Ok y) → x ≡ y
ok_same e = cc

pub declared_gave : (columns listed : List Declared) (system new : LinearSystem) (from : RowFrom) (ask : Ask) → declaring columns system from ask ≡ Ok (listed, new) → IsDeclared columns listed system new from ask
unfolding declaring
declared_gave columns listed system new from ask h = by (bounds_cross ask) refl h
  where
    gave : (placed : Result LinearSystem Fault) → (placed >>= λ after. Ok (behind columns (declared_as (next_column system) ask) after)) ≡ Ok (listed, new) → (placed ≡ Ok new) × (listed ≡ columns ++ declared_as (next_column system) ask ∷ [])
    gave (Ok after) e =
        let pair : ◌≡◌ {A = List Declared × LinearSystem} (behind columns (declared_as (next_column system) ask) after) (listed, new) = ok_same e in
        (ap (λ (t : List Declared × LinearSystem). Ok t.1) pair, sym (ap (λ (t : List Declared × LinearSystem). t.0) pair))
    gave (Err fault) e = cc

    by : (b : Bool) → bounds_cross ask ≡ b → cond b (Err (fault_here BoundsCross from.place)) (step_placed from.place system (step_asked system from ask) >>= λ after. Ok (behind columns (declared_as (next_column system) ask) after)) ≡ Ok (listed, new)
        → IsDeclared columns listed system new from ask
    by true e k = cc
    by false e k = let parts = gave (step_placed from.place system (step_asked system from ask)) k in record { apart = e; placed = parts.0; listed_are = parts.1 }

-- ---- points

-- so many columns hold the declared ones
abbrev pub AreWithin : ℕ → List Declared → Type 0
AreWithin n [] = Unit {0}
AreWithin n (d ∷ ds) = (0 < d.column) × (d.column ≤ n) × AreWithin n ds

pub within_more : (m n : ℕ) → m ≤ n → (columns : List Declared) → AreWithin m columns → AreWithin n columns
within_more m n le [] h = tt
within_more m n le (d ∷ ds) h = let few : d.column ≤ m = h.1 in (h.0, omega arith, within_more m n le ds h.2)

pub within_last : (n : ℕ) (columns : List Declared) (d : Declared) → AreWithin n columns → 0 < d.column → d.column ≤ n → AreWithin n (columns ++ d ∷ [])
within_last n [] d h some few = (some, few, tt)
within_last n (e ∷ columns) d h some few = (h.0, h.1, within_last n columns d h.2 some few)

-- numbers of later columns don't count
pub cut_of_first : (n : ℕ) (columns : List Declared) (q : List Rational) → AreWithin n columns → cut_down columns (take n q) ≡ cut_down columns q
cut_of_first n [] q h = refl
cut_of_first n (d ∷ ds) q h =
    let some : 0 < d.column = h.0 in
    let few : d.column ≤ n = h.1 in
    ap₂ (λ (v : Rational) (vs : List Rational). v ∷ vs) (get_or-take n q (d.column - 1) zero (omega arith)) (cut_of_first n ds q h.2)

pub cut_last : (columns : List Declared) (d : Declared) (q : List Rational) → cut_down (columns ++ d ∷ []) q ≡ cut_down columns q ++ assigned q d.column ∷ []
cut_last columns d q = map-append (λ (declared : Declared). assigned q declared.column) columns (d ∷ [])

first_of_joined : (m : ℕ) (p vs : List Rational) → length p ≡ m → take m (p ++ vs) ≡ p
first_of_joined m [] vs e = rw (sym e) refl
first_of_joined m (v ∷ p) vs e = rw (sym e) (ap (λ (r : List Rational). v ∷ r) (first_of_joined (length p) p vs refl))

-- equal lists are equal before their last and at it
last_same : (xs ys : List Rational) (x y : Rational) → xs ++ x ∷ [] ≡ ys ++ y ∷ [] → (xs ≡ ys) × (x ≡ y)
last_same [] [] x y e = (refl, cc)
last_same [] (z ∷ []) x y e = cc
last_same [] (z ∷ w ∷ ys) x y e = cc
last_same (z ∷ []) [] x y e = cc
last_same (z ∷ w ∷ xs) [] x y e = cc
last_same (z ∷ xs) (w ∷ ys) x y e =
    let rest : xs ++ x ∷ [] ≡ ys ++ y ∷ [] = cc in
    let first : z ≡ w = cc in
    let same = last_same xs ys x y rest in
    (ap₂ (λ (v : Rational) (vs : List Rational). v ∷ vs) first same.0, same.1)

within_all : (system : LinearSystem) (columns : List Declared) → AreWithin (length system.columns) columns → All (IsInSystem system) columns
within_all system [] h = All-nil (IsInSystem system)
within_all system (d ∷ columns) h = All-cons (IsInSystem system) d columns h.1 (within_all system columns h.2)

-- the points of a system are the fractions of its declared columns at which the statements are true, each once
pub record SaysPoints (statements : List Stated) (asks : List Ask) (columns : List Declared) (system : LinearSystem) : Type 0 where
  pub valid : IsValid system
  pub covered : IsCovered system
  pub within : AreWithin (length system.columns) columns
  pub asked : AreAsAsked asks columns
  pub few : AreFew (length asks) statements
  pub sound : (q : List Rational) → IsSystemPoint system q → AreAsked asks (cut_down columns q) × AreStatementsTrue statements (cut_down columns q)
  pub complete : (values : List Rational) → AreAsked asks values → AreStatementsTrue statements values → (q : List Rational) × IsOnlySystemPoint system columns values q

-- ---- a column more

-- what is known of the system with the new column
module _ (statements : List Stated) (asks : List Ask) (columns : List Declared) (system : LinearSystem) (from : RowFrom) (ask : Ask) (said : SaysPoints statements asks columns system) (apart : bounds_cross ask ≡ false) where
  abbrev n : ℕ
  n = length system.columns

  abbrev step : Step
  step = step_asked system from ask

  abbrev later : LinearSystem
  later = with_step system step

  abbrev d : Declared
  d = declared_as (next_column system) ask

  -- a point of the system after it, cut down: the columns before, and the number that is asked for
  pub record IsPointOf (q : List Rational) : Type 0 where
    pub one : List Rational
    pub last : Rational
    pub whole : q ≡ one ++ last ∷ []
    pub first_is : first_numbers system q ≡ one
    pub before : IsSystemPoint system one
    pub is : IsAsked ask last
    pub cut_is : cut_down (columns ++ d ∷ []) q ≡ cut_down columns one ++ last ∷ []

  pub point_parts : (q : List Rational) → IsSystemPoint later q → IsPointOf q
  point_parts q point =
      let first = point_cut later system q said.valid (step_extends system step) point in
      let fits = fits_after system step q point in
      let only = fits_asked system from ask (first_numbers system q) (drop n q) apart fits in
      let whole : q ≡ first_numbers system q ++ only.one ∷ [] = sym (take-append-drop n q) ∙ ap (λ (vs : List Rational). first_numbers system q ++ vs) only.only in
      let size : length (first_numbers system q) ≡ n = each_has_number system.columns (first_numbers system q) first.columns in
      record {
        one = first_numbers system q;
        last = only.one;
        whole = whole;
        first_is = refl;
        before = first;
        is = only.is;
        cut_is =
            cut_last columns d q
            ∙ ap₂ (λ (vs : List Rational) (v : Rational). vs ++ v ∷ []) (sym (cut_of_first n columns q said.within))
            (ap (λ (r : List Rational). assigned r (n + 1)) whole ∙ get_or_push (first_numbers system q) only.one zero (n + 1 - 1) (omega (arith, size)));
      }

  few_at : (vs : List Rational) → AreAsked asks vs → AreFew (length vs) statements
  few_at vs h = subst (λ (m : ℕ). AreFew m statements) (sym (asked_length asks vs h)) said.few

  later_sound : (q : List Rational) → IsSystemPoint later q → AreAsked (asks ++ ask ∷ []) (cut_down (columns ++ d ∷ []) q) × AreStatementsTrue statements (cut_down (columns ++ d ∷ []) q)
  later_sound q point =
      let parts = point_parts q point in
      let before = said.sound parts.one parts.before in (
        subst (AreAsked (asks ++ ask ∷ [])) (sym parts.cut_is) (asked_more asks ask (cut_down columns parts.one) parts.last before.0 parts.is),
        subst (AreStatementsTrue statements) (sym parts.cut_is) (truths_more statements (cut_down columns parts.one) (parts.last ∷ []) (few_at (cut_down columns parts.one) before.0) before.1),
      )

  later_complete : (values : List Rational) → AreAsked (asks ++ ask ∷ []) values → AreStatementsTrue statements values → (q : List Rational) × IsOnlySystemPoint later (columns ++ d ∷ []) values q
  later_complete values asked truths =
      let split = asked_last asks ask values asked in
      let true_before = truths_less statements split.first (split.last ∷ []) (few_at split.first split.before) (subst (AreStatementsTrue statements) split.whole truths) in
      let before = said.complete split.first split.before true_before in
      let p : List Rational = before.0 in
      let size : length p ≡ n = each_has_number system.columns p before.1.is.columns in
      let q : List Rational = p ++ split.last ∷ [] in
      let fits = asked_fits system from ask p split.last size apart split.is in
      let cut : cut_down columns q ≡ split.first =
      sym (cut_of_first n columns q said.within) ∙ ap (cut_down columns) (first_of_joined n p (split.last ∷ []) size) ∙ before.1.cut_is in (
        q,
        record {
          is = point_further system step p (split.last ∷ []) said.valid before.1.is fits;
          cut_is =
              cut_last columns d q
              ∙ ap₂ (λ (vs : List Rational) (v : Rational). vs ++ v ∷ []) cut (get_or_push p split.last zero (n + 1 - 1) (omega (arith, size)))
              ∙ sym split.whole;
          only =
              λ other point same.
              let parts = point_parts other point in
              let ends = last_same (cut_down columns parts.one) split.first parts.last split.last (sym parts.cut_is ∙ same ∙ split.whole) in
              parts.whole ∙ ap₂ (λ (vs : List Rational) (v : Rational). vs ++ v ∷ []) (before.1.only parts.one parts.before ends.0) ends.1;
        },
      )

  later_said : (new : LinearSystem) → step_placed from.place system step ≡ Ok new → SaysPoints statements (asks ++ ask ∷ []) (columns ++ d ∷ []) later
  later_said new placed =
      let size : length later.columns ≡ n + 1 = length-append system.columns step.columns in
      let longer : length (asks ++ ask ∷ []) ≡ length asks + 1 = length-append asks (ask ∷ []) in
      let whole = outcome columns (columns ++ d ∷ []) system new from ask step (Ok tt) tt (next_column system) (record { uncrossed = apart; step_is = refl }) placed refl refl refl (within_all system columns said.within) in
      record {
        valid =
            step_valid from.place system step new said.valid
            (column_may_be ask (takes_whole ask.kind) (sides_of ask.kind ask.lower ask.upper) false refl refl (sym apart) refl)
            (All-append (IsGivenRow (n + 1)) (side_row from (next_column system) AtLeast (column_asked ask).sides.low) (side_row from (next_column system) AtMost (column_asked ask).sides.high)
            (side_over from (next_column system) AtLeast (column_asked ask).sides.low (omega arith))
            (side_over from (next_column system) AtMost (column_asked ask).sides.high (omega arith)))
            placed;
        covered = subst IsCovered (placed_is from.place system new step placed) (whole.covered said.covered);
        within = subst (λ (m : ℕ). AreWithin m (columns ++ d ∷ [])) (sym size) (within_last (n + 1) columns d (within_more n (n + 1) (omega arith) columns said.within) (omega arith) (omega arith));
        asked = as_asked_more asks columns ask d said.asked (record { name = refl; tuple = refl; priority = refl; startval = refl });
        few = few_more (length asks) (length (asks ++ ask ∷ [])) (omega (arith, longer)) statements said.few;
        sound = later_sound;
        complete = later_complete;
      }

-- the points of the system with the column of an ask
pub column_said : (statements : List Stated) (asks : List Ask) (columns listed : List Declared) (system new : LinearSystem) (from : RowFrom) (ask : Ask) → SaysPoints statements asks columns system →
    declaring columns system from ask ≡ Ok (listed, new) → SaysPoints statements (asks ++ ask ∷ []) listed new
column_said statements asks columns listed system new from ask said h =
    let is = declared_gave columns listed system new from ask h in
    let said_later = later_said statements asks columns system from ask said is.apart new is.placed in
    subst (SaysPoints statements (asks ++ ask ∷ []) listed) (sym (placed_is from.place system new (step_asked system from ask) is.placed))
    (subst (λ (ds : List Declared). SaysPoints statements (asks ++ ask ∷ []) ds (with_step system (step_asked system from ask))) (sym is.listed_are) said_later)
