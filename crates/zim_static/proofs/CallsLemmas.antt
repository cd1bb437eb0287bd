-- How deep the functions nest that each form of a tree calls, one equation for each.
use Rattle.std.proofs.Common.{◌≡◌, ◌<◌, ◌≤◌, ◌+◌, ℕ, Bool, List, map, max, length, take, get_or, arith, Option, Some, None, option_map, sym, ap, ◌∙◌}
use Rattle.std.proofs.lemmas.Simd.{map-map}
use Rattle.std.proofs.lemmas.List.{take_all}
use Rattle.std.proofs.lemmas.List.Sums.{fold_more}
use Rattle.std.proofs.lemmas.List.Folds.{fold-map}
use Rattle.zim_fault.specs.declared.faults.Place.{Place}
use Rattle.zim_fault.specs.declared.tokens.Token.{Token}
use Rattle.zim_fault.specs.declared.tokens.Relation.{Relation}
use Rattle.zim_fault.specs.declared.signs.Sign.{Sign}
use Rattle.zim_fault.specs.declared.words.Word.{Word}
use Rattle.zim_tree.specs.declared.expr.Expr.{Expr, Expr-F, roll-Expr, map-Expr, fold-roll-Expr}
use Rattle.zim_tree.specs.declared.expr.Expr.TheVariants.{Item, Call, Func, Proj, Power, Big, Times, Plus, Compare, Member, And, Or, Forall, If, rolls-Item, rolls-Call, rolls-Func, rolls-Proj, rolls-Power, rolls-Big, rolls-Times, rolls-Plus, rolls-Compare, rolls-Member, rolls-And, rolls-Or, rolls-Forall, rolls-If}
use Rattle.zim_tree.specs.declared.expr.Angle.{Angle, fold-roll-Angle, out-Angle}
use Rattle.zim_tree.specs.declared.expr.Index.{Index, fold-roll-Index, out-Index}
use Rattle.zim_tree.specs.declared.expr.Body.TheViews.{roll-out-Index, roll-out-Angle}
use Rattle.zim_tree.specs.declared.expr.Body.{Body, Body-F, roll-Body, map-Body, fold-roll-Body}
use Rattle.zim_tree.specs.declared.expr.Body.TheVariants.{Members, Tuples, Span, rolls-Members, rolls-Tuples, rolls-Span}
use Rattle.zim_tree.specs.Trees.{index_of}
use Rattle.zim_typed.specs.Scope.{Scope, kind_of_name}
use Rattle.zim_typed.specs.Nesting.{greatest, greatest_given, function_nesting}
use Rattle.zim_static.specs.Calls.{calls_in_expr, calls_in_angle, calls_in_index, calls_in_body, calls, tuple_calls, index_calls, body_calls, all_calls}

at_expr : (scope : Scope) (d : Expr-F Body Expr Angle Index) →
    calls scope (roll-Expr d) ≡ calls_in_expr scope (map-Expr Body Expr Angle Index ℕ ℕ ℕ ℕ (body_calls scope) (calls scope) (tuple_calls scope) (index_calls scope) d)
at_expr scope = fold-roll-Expr ℕ ℕ ℕ ℕ calls_in_body (calls_in_expr scope) calls_in_angle calls_in_index

at_body : (scope : Scope) (d : Body-F Body Expr Angle Index) →
    body_calls scope (roll-Body d) ≡ calls_in_body (map-Body Body Expr Angle Index ℕ ℕ ℕ ℕ (body_calls scope) (calls scope) (tuple_calls scope) (index_calls scope) d)
at_body scope = fold-roll-Body ℕ ℕ ℕ ℕ calls_in_body (calls_in_expr scope) calls_in_angle calls_in_index

pub calls-angle : (scope : Scope) (tuple : Angle) → tuple_calls scope tuple ≡ all_calls scope (out-Angle tuple).items
calls-angle scope tuple = ap (tuple_calls scope) (sym (roll-out-Angle tuple)) ∙ fold-roll-Angle ℕ ℕ ℕ ℕ calls_in_body (calls_in_expr scope) calls_in_angle calls_in_index (out-Angle tuple)

pub calls-Item : (scope : Scope) (place : Place) (name : List ℕ) (index : List Expr) → calls scope (Item place name index) ≡ all_calls scope index
calls-Item scope place name index = ap (calls scope) (sym (rolls-Item place name index)) ∙ at_expr scope (Expr-F.Item place name index)

pub calls-Call : (scope : Scope) (place : Place) (name : List ℕ) (arguments : List Expr) → calls scope (Call place name arguments) ≡ max (function_nesting (kind_of_name scope name)) (all_calls scope arguments)
calls-Call scope place name arguments = ap (calls scope) (sym (rolls-Call place name arguments)) ∙ at_expr scope (Expr-F.Call place name arguments)

pub calls-Func : (scope : Scope) (place : Place) (word : Word) (arguments : List Expr) → calls scope (Func place word arguments) ≡ all_calls scope arguments
calls-Func scope place word arguments = ap (calls scope) (sym (rolls-Func place word arguments)) ∙ at_expr scope (Expr-F.Func place word arguments)

pub calls-Proj : (scope : Scope) (place : Place) (set : Expr) (positions : Angle) → calls scope (Proj place set positions) ≡ max (calls scope set) (tuple_calls scope positions)
calls-Proj scope place set positions = ap (calls scope) (sym (rolls-Proj place set positions)) ∙ at_expr scope (Expr-F.Proj place set positions)

pub calls-Power : (scope : Scope) (place : Place) (sign : Sign) (base : Expr) (signed : Option (Place × Bool)) (exponent : Expr) → calls scope (Power place sign base signed exponent) ≡ max (calls scope base) (calls scope exponent)
calls-Power scope place sign base signed exponent = ap (calls scope) (sym (rolls-Power place sign base signed exponent)) ∙ at_expr scope (Expr-F.Power place sign base signed exponent)

pub calls-Big : (scope : Scope) (place : Place) (loop : Word) (index : Index) (with_do : Bool) (operand : Expr) → calls scope (Big place loop index with_do operand) ≡ max (index_calls scope index) (calls scope operand)
calls-Big scope place loop index with_do operand = ap (calls scope) (sym (rolls-Big place loop index with_do operand)) ∙ at_expr scope (Expr-F.Big place loop index with_do operand)

pub calls-Times : (scope : Scope) (first : Expr) (others : List (Place × Token × Expr)) → calls scope (Times first others) ≡ max (calls scope first) (greatest (map (λ (x : Place × Token × Expr). calls scope x.2) others))
calls-Times scope first others = ap (calls scope) (sym (rolls-Times first others)) ∙ at_expr scope (Expr-F.Times first others)
    ∙ ap (λ (rest : List ℕ). max (calls scope first) (greatest rest)) (map-map (λ (x : Place × Token × ℕ). x.2) (λ (x : Place × Token × Expr). (x.0, x.1, calls scope x.2)) others)

pub calls-Plus : (scope : Scope) (first : Expr) (others : List (Place × Token × Expr)) → calls scope (Plus first others) ≡ max (calls scope first) (greatest (map (λ (x : Place × Token × Expr). calls scope x.2) others))
calls-Plus scope first others = ap (calls scope) (sym (rolls-Plus first others)) ∙ at_expr scope (Expr-F.Plus first others)
    ∙ ap (λ (rest : List ℕ). max (calls scope first) (greatest rest)) (map-map (λ (x : Place × Token × ℕ). x.2) (λ (x : Place × Token × Expr). (x.0, x.1, calls scope x.2)) others)

pub calls-Compare : (scope : Scope) (first : Expr) (others : List (Place × Relation × Expr)) → calls scope (Compare first others) ≡ max (calls scope first) (greatest (map (λ (x : Place × Relation × Expr). calls scope x.2) others))
calls-Compare scope first others = ap (calls scope) (sym (rolls-Compare first others)) ∙ at_expr scope (Expr-F.Compare first others)
    ∙ ap (λ (rest : List ℕ). max (calls scope first) (greatest rest)) (map-map (λ (x : Place × Relation × ℕ). x.2) (λ (x : Place × Relation × Expr). (x.0, x.1, calls scope x.2)) others)

pub calls-Member : (scope : Scope) (place : Place) (tuple : Angle) (set : Expr) → calls scope (Member place tuple set) ≡ max (tuple_calls scope tuple) (calls scope set)
calls-Member scope place tuple set = ap (calls scope) (sym (rolls-Member place tuple set)) ∙ at_expr scope (Expr-F.Member place tuple set)

pub calls-And : (scope : Scope) (first : Expr) (others : List (Place × Expr)) → calls scope (And first others) ≡ max (calls scope first) (greatest (map (λ (x : Place × Expr). calls scope x.1) others))
calls-And scope first others = ap (calls scope) (sym (rolls-And first others)) ∙ at_expr scope (Expr-F.And first others)
    ∙ ap (λ (rest : List ℕ). max (calls scope first) (greatest rest)) (map-map (λ (x : Place × ℕ). x.1) (λ (x : Place × Expr). (x.0, calls scope x.1)) others)

pub calls-Or : (scope : Scope) (first : Expr) (others : List (Place × Bool × Expr)) → calls scope (Or first others) ≡ max (calls scope first) (greatest (map (λ (x : Place × Bool × Expr). calls scope x.2) others))
calls-Or scope first others = ap (calls scope) (sym (rolls-Or first others)) ∙ at_expr scope (Expr-F.Or first others)
    ∙ ap (λ (rest : List ℕ). max (calls scope first) (greatest rest)) (map-map (λ (x : Place × Bool × ℕ). x.2) (λ (x : Place × Bool × Expr). (x.0, x.1, calls scope x.2)) others)

pub calls-Forall : (scope : Scope) (place : Place) (index : Index) (with_do : Bool) (inside : Expr) → calls scope (Forall place index with_do inside) ≡ max (index_calls scope index) (calls scope inside)
calls-Forall scope place index with_do inside = ap (calls scope) (sym (rolls-Forall place index with_do inside)) ∙ at_expr scope (Expr-F.Forall place index with_do inside)

pub calls-If : (scope : Scope) (place : Place) (vif : Bool) (test : Expr) (branch : Expr) (otherwise : Option Expr) →
    calls scope (If place vif test branch otherwise) ≡ max (calls scope test) (max (calls scope branch) (greatest_given (option_map (calls scope) otherwise)))
calls-If scope place vif test branch None = ap (calls scope) (sym (rolls-If place vif test branch None)) ∙ at_expr scope (Expr-F.If place vif test branch None)
calls-If scope place vif test branch (Some otherwise) = ap (calls scope) (sym (rolls-If place vif test branch (Some otherwise))) ∙ at_expr scope (Expr-F.If place vif test branch (Some otherwise))

pub calls-Members : (scope : Scope) (members : List Expr) → body_calls scope (Members members) ≡ all_calls scope members
calls-Members scope members = ap (body_calls scope) (sym (rolls-Members members)) ∙ at_body scope (Body-F.Members members)

pub calls-Tuples : (scope : Scope) (tuples : List Angle) → body_calls scope (Tuples tuples) ≡ greatest (map (tuple_calls scope) tuples)
calls-Tuples scope tuples = ap (body_calls scope) (sym (rolls-Tuples tuples)) ∙ at_body scope (Body-F.Tuples tuples)

pub calls-Span : (scope : Scope) (from : Expr) (with_to : Bool) (to : Expr) (by : Option Expr) →
    body_calls scope (Span from with_to to by) ≡ max (calls scope from) (max (calls scope to) (greatest_given (option_map (calls scope) by)))
calls-Span scope from with_to to None = ap (body_calls scope) (sym (rolls-Span from with_to to None)) ∙ at_body scope (Body-F.Span from with_to to None)
calls-Span scope from with_to to (Some by) = ap (body_calls scope) (sym (rolls-Span from with_to to (Some by))) ∙ at_body scope (Body-F.Span from with_to to (Some by))

-- the condition of an index
abbrev pub condition_calls : Scope → Option (Bool × Expr) → ℕ
condition_calls scope None = 0
condition_calls scope (Some c) = calls scope c.1

index_parts : (scope : Scope) (place : Place) (tuple : Angle) (set : Expr) (cond : Option (Bool × Expr)) →
    index_calls scope (index_of place tuple set cond) ≡ max (tuple_calls scope tuple) (max (calls scope set) (condition_calls scope cond))
index_parts scope place tuple set None = fold-roll-Index ℕ ℕ ℕ ℕ calls_in_body (calls_in_expr scope) calls_in_angle calls_in_index (record { place = place; tuple = tuple; set = set; cond = None })
index_parts scope place tuple set (Some c) = fold-roll-Index ℕ ℕ ℕ ℕ calls_in_body (calls_in_expr scope) calls_in_angle calls_in_index (record { place = place; tuple = tuple; set = set; cond = Some c })

pub calls-index : (scope : Scope) (index : Index) →
    index_calls scope index ≡ max (tuple_calls scope (out-Index index).tuple) (max (calls scope (out-Index index).set) (condition_calls scope (out-Index index).cond))
calls-index scope index = ap (index_calls scope) (sym (roll-out-Index index)) ∙ index_parts scope (out-Index index).place (out-Index index).tuple (out-Index index).set (out-Index index).cond

-- the greater of two parts
pub greater_of : {r x y a b whole : ℕ} → r ≡ max x y → x ≡ a → y ≡ b → whole ≡ max a b → r ≡ whole
greater_of h p q is = h ∙ (λ i. max (p i) (q i)) ∙ sym is

-- an index, part by part
pub of_index : {r x y z a b c whole : ℕ} → whole ≡ max a (max b c) → x ≡ a → y ≡ b → z ≡ max x y → {w : ℕ} → w ≡ c → r ≡ max z w → r ≡ whole
of_index {a = a} {b = b} {c = c} is p q h k g = g ∙ (λ i. max ((h ∙ (λ j. max (p j) (q j))) i) (k i)) ∙ grouped a b c ∙ sym is
  where
    grouped : (a b c : ℕ) → max (max a b) c ≡ max a (max b c)
    grouped a b c = omega arith

pub of_index_alone : {x y z a b c whole : ℕ} → whole ≡ max a (max b c) → x ≡ a → y ≡ b → z ≡ max x y → c ≡ 0 → z ≡ whole
of_index_alone {a = a} {b = b} {c = c} is p q h none = h ∙ (λ i. max (p i) (q i)) ∙ ap (max a) (above b) ∙ ap (λ (d : ℕ). max a (max b d)) (sym none) ∙ sym is
  where
    above : (b : ℕ) → b ≡ max b 0
    above b = omega arith

-- the greatest of a list, one member after the other
pub greatest-next : {X : Type 0} (f : X → ℕ) (xs : List X) (i : ℕ) (x : X) {before more after : ℕ} → i < length xs → x ≡ get_or xs i x →
    after ≡ max before more → before ≡ greatest (map f (take i xs)) → more ≡ f x → after ≡ greatest (map f (take (i + 1) xs))
greatest-next {X} f xs i x within is h so_far now =
    let step : ℕ → X → ℕ = λ deepest y. max deepest (f y) in
    h ∙ (λ j. max ((so_far ∙ fold-map max f 0 (take i xs)) j) ((now ∙ ap f is) j)) ∙ sym (fold_more step 0 xs i x within) ∙ sym (fold-map max f 0 (take (i + 1) xs))

pub greatest-end : {X : Type 0} (f : X → ℕ) (xs : List X) (i : ℕ) {before : ℕ} → length xs ≤ i → before ≡ greatest (map f (take i xs)) → before ≡ greatest (map f xs)
greatest-end f xs i out so_far = so_far ∙ ap (λ (ys : List _). greatest (map f ys)) (take_all i xs out)
