-- How the nesting along a piece of the tokens goes on along what follows: the greatest so far, and the loops that began.
use Rattle.std.proofs.Common.{◌≡◌, ℕ, ◌+◌, ◌≤◌, Bool, true, false, List, [], ◌∷◌, ◌++◌, refl, sym, ap, ◌∙◌, subst, append_assoc, true≢false, arith}
use Rattle.std.specs.Prelude.{max}
use Rattle.zim_fault.specs.declared.tokens.Placed.{Placed}
use Rattle.zim_tree.specs.declared.classes.Class.{Class}
use Rattle.zim_tree.specs.declared.classes.Class.TheVariants as class
use Rattle.zim_tree.specs.Levels.{is_function, is_loop, Chain, products, sums, relations, conjunctions, disjunctions, joins}
use Rattle.zim_scan.specs.Nesting.{class_at, begins_paren, open_behind, loops_behind}
use Rattle.zim_nesting.specs.TokenNesting.{greatest_nesting}
use Rattle.zim_nesting.specs.Depth.{Depth, no_nesting, a_loop, nesting_in_brackets, ◌followed_by◌}

-- the nesting is that of a piece, and then that of what follows, with the piece's loops begun
pub record Nests (ts : List Placed) (d : Depth) : Type 0 where
  pub within : d.loops ≤ d.deepest
  pub along : (o l : ℕ) (rest : List Placed) → greatest_nesting o l (ts ++ rest) ≡ max (o + l + d.deepest) (greatest_nesting o (l + d.loops) rest)

no : {A : Type 0} → false ≡ true → A
no h = absurd (true≢false (sym h))

pub greatest-nil : (o l : ℕ) → greatest_nesting o l [] ≡ o + l
unfolding greatest_nesting
greatest-nil o l = refl

pub greatest-cons : (o l : ℕ) (t : Placed) (rest : List Placed) →
    greatest_nesting o l (t ∷ rest) ≡ max (o + l) (greatest_nesting (open_behind (class_at t) o) (loops_behind (class_at t) rest l) rest)
unfolding greatest_nesting
greatest-cons o l t rest = refl

-- a token behind which so many are open and so many began
greatest-step : (o l p m : ℕ) (t : Placed) (rest : List Placed) → open_behind (class_at t) o ≡ p → loops_behind (class_at t) rest l ≡ m →
    greatest_nesting o l (t ∷ rest) ≡ max (o + l) (greatest_nesting p m rest)
greatest-step o l p m t rest opened begun = greatest-cons o l t rest
    ∙ ap (λ x. max (o + l) (greatest_nesting x (loops_behind (class_at t) rest l) rest)) opened
    ∙ ap (λ y. max (o + l) (greatest_nesting p y rest)) begun

-- what is open and began at the start counts
pub greatest-low : (o l : ℕ) (ts : List Placed) → o + l ≤ greatest_nesting o l ts
greatest-low o l [] = rw (greatest-nil o l) (omega arith)
greatest-low o l (t ∷ rest) = rw (greatest-cons o l t rest) (omega arith)

same_loops : (o : ℕ) {l m : ℕ} (rest : List Placed) → l ≡ m → greatest_nesting o l rest ≡ greatest_nesting o m rest
same_loops o rest = ap (λ x. greatest_nesting o x rest)

made : ℕ → ℕ → Depth
made l d = record { loops = l; deepest = d }

same_depth : {a b c d : ℕ} → a ≡ b → c ≡ d → made a c ≡ made b d
same_depth {a} {b} {c} {d} p q = ap (λ x. made x c) p ∙ ap (made b) q

pub plain-then : (d : Depth) → no_nesting followed_by d ≡ d
unfolding made
plain-then d = same_depth (omega arith) (omega arith)

pub then-plain : (d : Depth) → d.loops ≤ d.deepest → d followed_by no_nesting ≡ d
unfolding made
then-plain d h = same_depth (omega arith) (omega (arith, h))

-- a piece is what it is written as
pub as_tokens : {ts us : List Placed} {d : Depth} → Nests ts d → ts ≡ us → Nests us d
as_tokens {ts} {us} {d} h e = subst (λ z. Nests z d) e h

pub as_depth : {ts : List Placed} {d e : Depth} → Nests ts d → d ≡ e → Nests ts e
as_depth {ts} h e = subst (Nests ts) e h

pub nothing_nests : Nests [] no_nesting
nothing_nests = record {
  within = omega arith;
  along = λ o l rest. nothing_along (o + l) (greatest_nesting o l rest) (greatest_nesting o (l + 0) rest) (greatest-low o l rest) (same_loops o rest (omega arith));
}
  where
    nothing_along : (n g h : ℕ) → n ≤ g → g ≡ h → g ≡ max (n + 0) h
    nothing_along n g h low same = omega (arith, low, same)

-- a token that changes nothing where the piece follows
pub idle_before : {t : Placed} {ts : List Placed} {d : Depth} → ((o : ℕ) → open_behind (class_at t) o ≡ o) →
    ((rest : List Placed) (l : ℕ) → loops_behind (class_at t) (ts ++ rest) l ≡ l) → Nests ts d → Nests (t ∷ ts) d
idle_before {t} {ts} {d} opened begun h = record {
  within = h.within;
  along = λ o l rest. greatest-step o l o l t (ts ++ rest) (opened o) (begun rest l) ∙ ap (max (o + l)) (h.along o l rest) ∙ above (o + l) d.deepest (greatest_nesting o (l + d.loops) rest);
}
  where
    above : (n k g : ℕ) → max n (max (n + k) g) ≡ max (n + k) g
    above n k g = omega arith

-- a token that begins a loop where the piece follows
pub loop_before : {t : Placed} {ts : List Placed} {d : Depth} → ((o : ℕ) → open_behind (class_at t) o ≡ o) →
    ((rest : List Placed) (l : ℕ) → loops_behind (class_at t) (ts ++ rest) l ≡ l + 1) → Nests ts d → Nests (t ∷ ts) (a_loop followed_by d)
loop_before {t} {ts} {d} opened begun h = record {
  within = loops_within d.loops d.deepest h.within;
  along = λ o l rest. greatest-step o l o (l + 1) t (ts ++ rest) (opened o) (begun rest l) ∙ ap (max (o + l)) (h.along o (l + 1) rest)
      ∙ above o l d.deepest (greatest_nesting o (l + 1 + d.loops) rest) (greatest_nesting o (l + (1 + d.loops)) rest) (same_loops o rest (omega arith));
}
  where
    loops_within : (l k : ℕ) → l ≤ k → 1 + l ≤ max 1 (1 + k)
    loops_within l k h = omega (arith, h)

    above : (o l k g e : ℕ) → g ≡ e → max (o + l) (max (o + (l + 1) + k) g) ≡ max (o + l + max 1 (1 + k)) e
    above o l k g e h = omega (arith, h)

-- a piece and another behind it
pub join : {ts us : List Placed} {x y : Depth} → Nests ts x → Nests us y → Nests (ts ++ us) (x followed_by y)
join {ts} {us} {x} {y} g h = record {
  within = both_within x.loops x.deepest y.loops y.deepest h.within;
  along = λ o l rest. ap (greatest_nesting o l) (append_assoc ts us rest) ∙ g.along o l (us ++ rest) ∙ ap (max (o + l + x.deepest)) (h.along o (l + x.loops) rest)
      ∙ both o l x.loops x.deepest y.deepest (greatest_nesting o (l + x.loops + y.loops) rest) (greatest_nesting o (l + (x.loops + y.loops)) rest) (same_loops o rest (omega arith));
}
  where
    both_within : (lx dx ly dy : ℕ) → ly ≤ dy → lx + ly ≤ max dx (lx + dy)
    both_within lx dx ly dy h = omega (arith, h)

    both : (o l lx dx dy g e : ℕ) → g ≡ e → max (o + l + dx) (max (o + (l + lx) + dy) g) ≡ max (o + l + max dx (lx + dy)) e
    both o l lx dx dy g e h = omega (arith, h)

-- the tokens that open, and those that close
abbrev pub opens : Class → Bool
opens class.LeftParen = true
opens class.LeftBracket = true
opens class.LeftBrace = true
opens class.IfOrVif = true
opens _ = false

abbrev pub closes : Class → Bool
closes class.RightParen = true
closes class.RightBracket = true
closes class.RightBrace = true
closes class.End = true
closes _ = false

open-up : (c : Class) (o : ℕ) → opens c ≡ true → open_behind c o ≡ o + 1
open-up class.LeftParen o h = refl
open-up class.LeftBracket o h = refl
open-up class.LeftBrace o h = refl
open-up class.IfOrVif o h = refl
open-up _ o h = no h

open-begins : (c : Class) (rest : List Placed) (l : ℕ) → opens c ≡ true → loops_behind c rest l ≡ l
open-begins class.LeftParen rest l h = refl
open-begins class.LeftBracket rest l h = refl
open-begins class.LeftBrace rest l h = refl
open-begins class.IfOrVif rest l h = refl
open-begins _ rest l h = no h

close-down : (c : Class) (o : ℕ) → closes c ≡ true → open_behind c (o + 1) ≡ o
close-down class.RightParen o h = omega arith
close-down class.RightBracket o h = omega arith
close-down class.RightBrace o h = omega arith
close-down class.End o h = omega arith
close-down _ o h = no h

close-begins : (c : Class) (rest : List Placed) (l : ℕ) → closes c ≡ true → loops_behind c rest l ≡ l
close-begins class.RightParen rest l h = refl
close-begins class.RightBracket rest l h = refl
close-begins class.RightBrace rest l h = refl
close-begins class.End rest l h = refl
close-begins _ rest l h = no h

-- a piece between a token that opens and one that closes
pub in_brackets : {t : Placed} (u : Placed) {ts : List Placed} {d : Depth} → opens (class_at t) ≡ true → closes (class_at u) ≡ true → Nests ts d → Nests (t ∷ (ts ++ u ∷ [])) (nesting_in_brackets d)
in_brackets {t} u {ts} {d} opening closing h = record {
  within = one_more d.loops d.deepest h.within;
  along = λ o l rest. ap (λ z. greatest_nesting o l (t ∷ z)) (append_assoc ts (u ∷ []) rest)
      ∙ greatest-step o l (o + 1) l t (ts ++ u ∷ rest) (open-up (class_at t) o opening) (open-begins (class_at t) (ts ++ u ∷ rest) l opening)
      ∙ ap (max (o + l)) (h.along (o + 1) l (u ∷ rest)
      ∙ ap (max (o + 1 + l + d.deepest)) (greatest-step (o + 1) (l + d.loops) o (l + d.loops) u rest (close-down (class_at u) o closing) (close-begins (class_at u) rest (l + d.loops) closing)))
      ∙ around o l d.loops d.deepest (greatest_nesting o (l + d.loops) rest) h.within;
}
  where
    one_more : (l k : ℕ) → l ≤ k → l ≤ k + 1
    one_more l k h = omega (arith, h)

    around : (o l m k g : ℕ) → m ≤ k → max (o + l) (max (o + 1 + l + k) (max (o + 1 + (l + m)) g)) ≡ max (o + l + (k + 1)) g
    around o l m k g h = omega (arith, h)

-- the same, of two parts with a token between them
pub in_brackets_two : {t : Placed} (u v : Placed) (ts us : List Placed) {d : Depth} → opens (class_at t) ≡ true → closes (class_at u) ≡ true → Nests (ts ++ v ∷ us) d →
    Nests (t ∷ (ts ++ (v ∷ (us ++ u ∷ [])))) (nesting_in_brackets d)
in_brackets_two {t} u v ts us opening closing h = as_tokens (in_brackets u opening closing h) (ap (λ z. t ∷ z) (append_assoc ts (v ∷ us) (u ∷ [])))

-- the same, of three parts with a token between two
pub in_brackets_three : {t : Placed} (u v w : Placed) (ts us vs : List Placed) {d : Depth} → opens (class_at t) ≡ true → closes (class_at u) ≡ true →
    Nests (ts ++ (v ∷ (us ++ w ∷ vs))) d → Nests (t ∷ (ts ++ (v ∷ (us ++ (w ∷ (vs ++ u ∷ [])))))) (nesting_in_brackets d)
in_brackets_three {t} u v w ts us vs opening closing h =
    as_tokens (in_brackets_two u v ts (us ++ w ∷ vs) opening closing h) (ap (λ z. t ∷ (ts ++ v ∷ z)) (append_assoc us (w ∷ vs) (u ∷ [])))

-- the tokens that neither open nor close nor begin a loop
abbrev pub is_plain : Class → Bool
is_plain class.LeftParen = false
is_plain class.LeftBracket = false
is_plain class.LeftBrace = false
is_plain class.IfOrVif = false
is_plain class.RightParen = false
is_plain class.RightBracket = false
is_plain class.RightBrace = false
is_plain class.End = false
is_plain class.Forall = false
is_plain class.Loop = false
is_plain class.MinOrMax = false
is_plain _ = true

plain-open : (c : Class) (o : ℕ) → is_plain c ≡ true → open_behind c o ≡ o
plain-open class.LeftParen o h = no h
plain-open class.LeftBracket o h = no h
plain-open class.LeftBrace o h = no h
plain-open class.IfOrVif o h = no h
plain-open class.RightParen o h = no h
plain-open class.RightBracket o h = no h
plain-open class.RightBrace o h = no h
plain-open class.End o h = no h
plain-open _ o h = refl

plain-begins : (c : Class) (rest : List Placed) (l : ℕ) → is_plain c ≡ true → loops_behind c rest l ≡ l
plain-begins class.Forall rest l h = no h
plain-begins class.Loop rest l h = no h
plain-begins class.MinOrMax rest l h = no h
plain-begins _ rest l h = refl

-- a plain token before a piece, and one behind it
pub plain_before : {t : Placed} {ts : List Placed} {d : Depth} → is_plain (class_at t) ≡ true → Nests ts d → Nests (t ∷ ts) d
plain_before {t} {ts} is h = idle_before (λ o. plain-open (class_at t) o is) (λ rest l. plain-begins (class_at t) (ts ++ rest) l is) h

pub one_plain : {t : Placed} → is_plain (class_at t) ≡ true → Nests (t ∷ []) no_nesting
one_plain is = plain_before is nothing_nests

pub plain_behind : (t : Placed) {ts : List Placed} {d : Depth} → is_plain (class_at t) ≡ true → Nests ts d → Nests (ts ++ t ∷ []) d
plain_behind t {ts} {d} is h = as_depth (join h (one_plain is)) (then-plain d h.within)

-- an operator is plain
pub joins_plain : (chain : Chain) (c : Class) → joins chain c ≡ true → is_plain c ≡ true
joins_plain products class.Product h = refl
joins_plain sums class.PlusOrMinus h = refl
joins_plain sums class.OtherSum h = refl
joins_plain relations class.Less h = refl
joins_plain relations class.Greater h = refl
joins_plain relations class.OtherRelation h = refl
joins_plain conjunctions class.And h = refl
joins_plain disjunctions class.OrOrXor h = refl
joins_plain _ _ h = no h

-- the word of a function before its `(`, `min` and `max` among them
function-open : (c : Class) (o : ℕ) → is_function c ≡ true → open_behind c o ≡ o
function-open class.Function o h = refl
function-open class.MinOrMax o h = refl
function-open _ o h = no h

function-begins : (c : Class) (rest : List Placed) (l : ℕ) → is_function c ≡ true → begins_paren rest ≡ true → loops_behind c rest l ≡ l
function-begins class.Function rest l h paren = refl
function-begins class.MinOrMax rest l h paren = rw paren refl
function-begins _ rest l h paren = no h

pub function_before : {t : Placed} {ts : List Placed} {d : Depth} → is_function (class_at t) ≡ true → ((rest : List Placed) → begins_paren (ts ++ rest) ≡ true) → Nests ts d → Nests (t ∷ ts) d
function_before {t} {ts} is paren h = idle_before (λ o. function-open (class_at t) o is) (λ rest l. function-begins (class_at t) (ts ++ rest) l is (paren rest)) h

-- the word of a loop before what is no `(`
loop-open : (c : Class) (o : ℕ) → is_loop c ≡ true → open_behind c o ≡ o
loop-open class.Loop o h = refl
loop-open class.MinOrMax o h = refl
loop-open _ o h = no h

loop-begins : (c : Class) (rest : List Placed) (l : ℕ) → is_loop c ≡ true → begins_paren rest ≡ false → loops_behind c rest l ≡ l + 1
loop-begins class.Loop rest l h paren = refl
loop-begins class.MinOrMax rest l h paren = rw paren refl
loop-begins _ rest l h paren = no h

pub big_before : {t : Placed} {ts : List Placed} {d : Depth} → is_loop (class_at t) ≡ true → ((rest : List Placed) → begins_paren (ts ++ rest) ≡ false) → Nests ts d → Nests (t ∷ ts) (a_loop followed_by d)
big_before {t} {ts} is paren h = loop_before (λ o. loop-open (class_at t) o is) (λ rest l. loop-begins (class_at t) (ts ++ rest) l is (paren rest)) h
