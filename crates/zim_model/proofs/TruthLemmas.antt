-- What statements say doesn't depend on the fractions of later columns.
use Rattle.std.proofs.Common.{ℕ, ◌≡◌, ◌≤◌, Bool, true, false, if◌then◌else◌, List, [], ◌∷◌, ◌++◌, length, Some, option_map, refl, ap, ap₂, sym, ◌∙◌, subst, arith}
use Rattle.std.specs.List.{AllByRecursion, find}
use Rattle.zim_columns.specs.Bounds.{IsAsked}
use Rattle.zim_columns.specs.Names.{are_same, is_named, column_declared}
use Rattle.zim_columns.specs.declared.asks.Ask.{Ask}
use Rattle.zim_columns.specs.declared.declared.Declared.{Declared}
use Rattle.zim_ground.specs.Law.{Agree}
use Rattle.zim_ground.specs.Meaning.{Assignment}
use Rattle.zim_model.specs.Law.{IsAsAsked, AreAsAsked, cut_down}
use Rattle.zim_model.specs.Statements.{Stated, asks_stated, asks_of_statements, AreAsked, assignment_by, ShapeHolds, AreStatementsTrue}
use Rattle.zim_rational.specs.Rational.{Rational}
use Rattle.zim_rows.specs.Points.{assigned}
use Rattle.zim_tuples.specs.declared.elements.Elem.{Elem}

-- ---- assignments

picked : (b : Bool) (v w u : Rational) → w ≡ u → (if b then v else w) ≡ (if b then v else u)
picked true v w u e = refl
picked false v w u e = e

assign_at : (asks : List Ask) (vs ws : List Rational) → length asks ≤ length vs → (name : List ℕ) (tuple : List Elem) → assignment_by asks (vs ++ ws) name tuple ≡ assignment_by asks vs name tuple
unfolding assignment_by
assign_at [] vs ws h name tuple = refl
assign_at (ask ∷ asks) [] ws h name tuple = absurd (omega (arith, h))
assign_at (ask ∷ asks) (v ∷ vs) ws h name tuple =
    picked (are_same (name, tuple) (ask.name, ask.tuple)) v _ _ (assign_at asks vs ws (omega (arith, h)) name tuple)

-- later fractions change nothing
pub assign_same : (asks : List Ask) (vs ws : List Rational) → length asks ≤ length vs → assignment_by asks (vs ++ ws) ≡ assignment_by asks vs
assign_same asks vs ws h = λ i name tuple. assign_at asks vs ws h name tuple i

-- ---- truths

-- as many columns stand before each statement at most
abbrev pub AreFew : ℕ → List Stated → Type 0
AreFew n = AllByRecursion (λ s. length s.asks ≤ n)

pub few_more : (m n : ℕ) → m ≤ n → (statements : List Stated) → AreFew m statements → AreFew n statements
few_more m n le [] h = tt
few_more m n le (s ∷ statements) h = let one : length s.asks ≤ m = h.0 in (omega arith, few_more m n le statements h.1)

pub truths_more : (statements : List Stated) (vs ws : List Rational) → AreFew (length vs) statements → AreStatementsTrue statements vs → AreStatementsTrue statements (vs ++ ws)
truths_more [] vs ws few h = tt
truths_more (s ∷ statements) vs ws few h = (
  subst (λ (a : Assignment). ShapeHolds s.world a s.stmt.shape) (sym (assign_same s.asks vs ws few.0)) h.0,
  truths_more statements vs ws few.1 h.1,
)

pub truths_less : (statements : List Stated) (vs ws : List Rational) → AreFew (length vs) statements → AreStatementsTrue statements (vs ++ ws) → AreStatementsTrue statements vs
truths_less [] vs ws few h = tt
truths_less (s ∷ statements) vs ws few h = (
  subst (λ (a : Assignment). ShapeHolds s.world a s.stmt.shape) (assign_same s.asks vs ws few.0) h.0,
  truths_less statements vs ws few.1 h.1,
)

-- one statement more
pub all_and_last : {X : Type 0} (P : X → Type 0) (xs : List X) (x : X) → AllByRecursion P xs → P x → AllByRecursion P (xs ++ x ∷ [])
all_and_last P [] x h last = (last, tt)
all_and_last P (y ∷ xs) x h last = (h.0, all_and_last P xs x h.1 last)

pub all_before : {X : Type 0} (P : X → Type 0) (xs : List X) (x : X) → AllByRecursion P (xs ++ x ∷ []) → AllByRecursion P xs × P x
all_before P [] x h = (tt, h.0)
all_before P (y ∷ xs) x h = let rest = all_before P xs x h.1 in ((h.0, rest.0), rest.1)

-- ---- columns that are asked for

pub asked_more : (asks : List Ask) (ask : Ask) (vs : List Rational) (v : Rational) → AreAsked asks vs → IsAsked ask v → AreAsked (asks ++ ask ∷ []) (vs ++ v ∷ [])
asked_more [] ask [] v h is = (is, tt)
asked_more [] ask (w ∷ vs) v h is = absurd h
asked_more (a ∷ asks) ask [] v h is = absurd h
asked_more (a ∷ asks) ask (w ∷ vs) v h is = (h.0, asked_more asks ask vs v h.1 is)

-- fractions of which the last is for the last column
pub record IsAskedLast (asks : List Ask) (ask : Ask) (values : List Rational) : Type 0 where
  pub first : List Rational
  pub last : Rational
  pub whole : values ≡ first ++ last ∷ []
  pub before : AreAsked asks first
  pub is : IsAsked ask last

pub asked_last : (asks : List Ask) (ask : Ask) (values : List Rational) → AreAsked (asks ++ ask ∷ []) values → IsAskedLast asks ask values
asked_last [] ask [] h = absurd h
asked_last [] ask (v ∷ []) h = record { first = []; last = v; whole = refl; before = tt; is = h.0 }
asked_last [] ask (v ∷ w ∷ values) h = absurd h.1
asked_last (a ∷ asks) ask [] h = absurd h
asked_last (a ∷ asks) ask (v ∷ values) h =
    let rest = asked_last asks ask values h.1 in
    record { first = v ∷ rest.first; last = rest.last; whole = ap (λ (vs : List Rational). v ∷ vs) rest.whole; before = (h.0, rest.before); is = rest.is }

pub asked_length : (asks : List Ask) (values : List Rational) → AreAsked asks values → length values ≡ length asks
asked_length [] [] h = refl
asked_length [] (v ∷ values) h = absurd h
asked_length (a ∷ asks) [] h = absurd h
asked_length (a ∷ asks) (v ∷ values) h = let rest = asked_length asks values h.1 in omega arith

pub as_asked_more : (asks : List Ask) (columns : List Declared) (ask : Ask) (declared : Declared) → AreAsAsked asks columns → IsAsAsked ask declared → AreAsAsked (asks ++ ask ∷ []) (columns ++ declared ∷ [])
as_asked_more [] [] ask declared h is = (is, tt)
as_asked_more [] (d ∷ columns) ask declared h is = absurd h
as_asked_more (a ∷ asks) [] ask declared h is = absurd h
as_asked_more (a ∷ asks) (d ∷ columns) ask declared h is = (h.0, as_asked_more asks columns ask declared h.1 is)

-- ---- the declared columns agree with the assignment of their fractions

agree_by : (b c : Bool) (q : List Rational) (d : Declared) (ds : List Declared) (name : List ℕ) (tuple : List Elem) (w : Rational) (j : ℕ) → b ≡ c →
    (column_declared ds name tuple ≡ Some j → assigned q j ≡ w) → option_map (λ (x : Declared). x.column) (if b then Some d else find (is_named name tuple) ds) ≡ Some j →
    assigned q j ≡ (if c then assigned q d.column else w)
agree_by true true q d ds name tuple w j e rest h = let same : d.column ≡ j = cc in ap (assigned q) (sym same)
agree_by true false q d ds name tuple w j e rest h = cc
agree_by false true q d ds name tuple w j e rest h = cc
agree_by false false q d ds name tuple w j e rest h = rest h

pub columns_agree : (asks : List Ask) (columns : List Declared) (q : List Rational) → AreAsAsked asks columns → Agree (column_declared columns) (assigned q) (assignment_by asks (cut_down columns q))
unfolding assignment_by
columns_agree [] [] q h name tuple j found = cc
columns_agree [] (d ∷ columns) q h name tuple j found = absurd h
columns_agree (a ∷ asks) [] q h name tuple j found = absurd h
columns_agree (a ∷ asks) (d ∷ columns) q h name tuple j found =
    agree_by (is_named name tuple d) (are_same (name, tuple) (a.name, a.tuple)) q d columns name tuple _ j
    (ap₂ (λ (n : List ℕ) (t : List Elem). are_same (name, tuple) (n, t)) h.0.name h.0.tuple)
    (columns_agree asks columns q h.1 name tuple j)
    found

-- ---- columns that statements ask for

pub asks_more : (statements : List Stated) (s : Stated) → asks_of_statements (statements ++ s ∷ []) ≡ asks_of_statements statements ++ asks_stated s
asks_more [] s = nothing_behind (asks_stated s)
  where
    nothing_behind : (xs : List Ask) → xs ++ [] ≡ xs
    nothing_behind [] = refl
    nothing_behind (x ∷ xs) = ap (λ (ys : List Ask). x ∷ ys) (nothing_behind xs)
asks_more (t ∷ statements) s = ap (λ (ys : List Ask). asks_stated t ++ ys) (asks_more statements s) ∙ sym (append_twice (asks_stated t) (asks_of_statements statements) (asks_stated s))
  where
    append_twice : (xs ys zs : List Ask) → (xs ++ ys) ++ zs ≡ xs ++ (ys ++ zs)
    append_twice [] ys zs = refl
    append_twice (x ∷ xs) ys zs = ap (λ (us : List Ask). x ∷ us) (append_twice xs ys zs)
