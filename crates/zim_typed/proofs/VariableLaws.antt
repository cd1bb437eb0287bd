-- Whether variables stand in each form of a tree, one equation for each.
use Rattle.std.proofs.Common.{◌≡◌, ℕ, Bool, false, ◌||◌, List, [], ◌∷◌, map, Option, Some, None, option_map, refl, sym, ap, ◌∙◌}
use Rattle.std.specs.List.{list_any}
use Rattle.zim_fault.specs.declared.faults.Place.{Place}
use Rattle.zim_fault.specs.declared.tokens.Token.{Token}
use Rattle.zim_fault.specs.declared.tokens.Relation.{Relation}
use Rattle.zim_fault.specs.declared.signs.Sign.{Sign}
use Rattle.zim_fault.specs.declared.words.Word.{Word}
use Rattle.zim_tree.specs.declared.expr.Expr.{Expr, Expr-F, roll-Expr, map-Expr, fold-roll-Expr}
use Rattle.zim_tree.specs.declared.expr.Expr.TheVariants.{Number, Text, Truth, Infinity, Name, Item, Call, Func, Proj, Paren, Braces, If, Factorial, Power, Signed, Big, Times, Plus, Compare, Member, Not, And, Or, Forall, rolls-Number, rolls-Text, rolls-Truth, rolls-Infinity, rolls-Name, rolls-Item, rolls-Call, rolls-Func, rolls-Proj, rolls-Paren, rolls-Braces, rolls-If, rolls-Factorial, rolls-Power, rolls-Signed, rolls-Big, rolls-Times, rolls-Plus, rolls-Compare, rolls-Member, rolls-Not, rolls-And, rolls-Or, rolls-Forall}
use Rattle.zim_tree.specs.declared.expr.Angle.{Angle, fold-roll-Angle, out-Angle}
use Rattle.zim_tree.specs.declared.expr.Index.{Index, fold-roll-Index, out-Index}
use Rattle.zim_tree.specs.declared.expr.Body.TheViews.{roll-out-Index, roll-out-Angle}
use Rattle.zim_tree.specs.declared.expr.Body.{Body, Body-F, roll-Body, map-Body, fold-roll-Body}
use Rattle.zim_tree.specs.declared.expr.Body.TheVariants.{Empty, Members, Tuples, Those, Span, rolls-Empty, rolls-Members, rolls-Tuples, rolls-Those, rolls-Span}
use Rattle.zim_tree.specs.Trees.{index_of}
use Rattle.zim_typed.specs.Scope.{Scope}
use Rattle.zim_typed.specs.Variables.{is_vabs, names_variable, one_of, given, variables_in_expr, variables_in_angle, variables_in_index, variables_in_body, has_variables, tuple_has_variables, index_has_variables, body_has_variables}

-- one of the values of a function on a list
one_mapped : {A : Type 0} (has : A → Bool) (items : List A) → one_of (map has items) ≡ list_any has items
one_mapped has [] = refl
one_mapped has (item ∷ items) = ap (λ (b : Bool). has item || b) (one_mapped has items)

-- and of operands of which it is known
one_known : {A B : Type 0} (has : A → Bool) (known : A → B) (tells : B → Bool) → ((x : A) → tells (known x) ≡ has x) → (items : List A) → one_of (map tells (map known items)) ≡ list_any has items
one_known has known tells is [] = refl
one_known has known tells is (item ∷ items) = λ i. is item i || one_known has known tells is items i

at_expr : (scope : Scope) (d : Expr-F Body Expr Angle Index) →
    has_variables scope (roll-Expr d) ≡ variables_in_expr scope (map-Expr Body Expr Angle Index Bool Bool Bool Bool (body_has_variables scope) (has_variables scope) (tuple_has_variables scope) (index_has_variables scope) d)
at_expr scope = fold-roll-Expr Bool Bool Bool Bool variables_in_body (variables_in_expr scope) variables_in_angle variables_in_index

at_body : (scope : Scope) (d : Body-F Body Expr Angle Index) →
    body_has_variables scope (roll-Body d) ≡ variables_in_body (map-Body Body Expr Angle Index Bool Bool Bool Bool (body_has_variables scope) (has_variables scope) (tuple_has_variables scope) (index_has_variables scope) d)
at_body scope = fold-roll-Body Bool Bool Bool Bool variables_in_body (variables_in_expr scope) variables_in_angle variables_in_index

pub has-angle : (scope : Scope) (tuple : Angle) → tuple_has_variables scope tuple ≡ list_any (has_variables scope) (out-Angle tuple).items
has-angle scope tuple = ap (tuple_has_variables scope) (sym (roll-out-Angle tuple)) ∙ fold-roll-Angle Bool Bool Bool Bool variables_in_body (variables_in_expr scope) variables_in_angle variables_in_index (out-Angle tuple)
    ∙ one_mapped (has_variables scope) (out-Angle tuple).items

-- the condition of an index
abbrev pub condition_varies : Scope → Option (Bool × Expr) → Bool
condition_varies scope None = false
condition_varies scope (Some c) = has_variables scope c.1

pub has-Number : (scope : Scope) (place : Place) (digits : List ℕ) → has_variables scope (Number place digits) ≡ false
has-Number scope place digits = ap (has_variables scope) (sym (rolls-Number place digits)) ∙ at_expr scope (Expr-F.Number place digits)

pub has-Text : (scope : Scope) (place : Place) (text : List ℕ) (double : Bool) → has_variables scope (Text place text double) ≡ false
has-Text scope place text double = ap (has_variables scope) (sym (rolls-Text place text double)) ∙ at_expr scope (Expr-F.Text place text double)

pub has-Truth : (scope : Scope) (place : Place) (truth : Bool) → has_variables scope (Truth place truth) ≡ false
has-Truth scope place truth = ap (has_variables scope) (sym (rolls-Truth place truth)) ∙ at_expr scope (Expr-F.Truth place truth)

pub has-Infinity : (scope : Scope) (place : Place) → has_variables scope (Infinity place) ≡ false
has-Infinity scope place = ap (has_variables scope) (sym (rolls-Infinity place)) ∙ at_expr scope (Expr-F.Infinity place)

pub has-Name : (scope : Scope) (place : Place) (name : List ℕ) → has_variables scope (Name place name) ≡ names_variable scope name
has-Name scope place name = ap (has_variables scope) (sym (rolls-Name place name)) ∙ at_expr scope (Expr-F.Name place name)

pub has-Item : (scope : Scope) (place : Place) (name : List ℕ) (index : List Expr) → has_variables scope (Item place name index) ≡ (names_variable scope name || list_any (has_variables scope) index)
has-Item scope place name index = ap (has_variables scope) (sym (rolls-Item place name index)) ∙ at_expr scope (Expr-F.Item place name index) ∙ ap (λ (b : Bool). names_variable scope name || b) (one_mapped (has_variables scope) index)

pub has-Call : (scope : Scope) (place : Place) (name : List ℕ) (index : List Expr) → has_variables scope (Call place name index) ≡ (names_variable scope name || list_any (has_variables scope) index)
has-Call scope place name index = ap (has_variables scope) (sym (rolls-Call place name index)) ∙ at_expr scope (Expr-F.Call place name index) ∙ ap (λ (b : Bool). names_variable scope name || b) (one_mapped (has_variables scope) index)

pub has-Func : (scope : Scope) (place : Place) (word : Word) (index : List Expr) → has_variables scope (Func place word index) ≡ (is_vabs word || list_any (has_variables scope) index)
has-Func scope place word index = ap (has_variables scope) (sym (rolls-Func place word index)) ∙ at_expr scope (Expr-F.Func place word index) ∙ ap (λ (b : Bool). is_vabs word || b) (one_mapped (has_variables scope) index)

pub has-Proj : (scope : Scope) (place : Place) (set : Expr) (positions : Angle) → has_variables scope (Proj place set positions) ≡ (has_variables scope set || tuple_has_variables scope positions)
has-Proj scope place set positions = ap (has_variables scope) (sym (rolls-Proj place set positions)) ∙ at_expr scope (Expr-F.Proj place set positions)

pub has-Paren : (scope : Scope) (place : Place) (inner : Expr) → has_variables scope (Paren place inner) ≡ has_variables scope inner
has-Paren scope place inner = ap (has_variables scope) (sym (rolls-Paren place inner)) ∙ at_expr scope (Expr-F.Paren place inner)

pub has-Braces : (scope : Scope) (place : Place) (body : Body) → has_variables scope (Braces place body) ≡ body_has_variables scope body
has-Braces scope place body = ap (has_variables scope) (sym (rolls-Braces place body)) ∙ at_expr scope (Expr-F.Braces place body)

pub has-If : (scope : Scope) (place : Place) (vif : Bool) (test : Expr) (branch : Expr) (otherwise : Option Expr) → has_variables scope (If place vif test branch otherwise) ≡ (has_variables scope test || has_variables scope branch || given (option_map (has_variables scope) otherwise))
has-If scope place vif test branch None = ap (has_variables scope) (sym (rolls-If place vif test branch None)) ∙ at_expr scope (Expr-F.If place vif test branch None)
has-If scope place vif test branch (Some otherwise) = ap (has_variables scope) (sym (rolls-If place vif test branch (Some otherwise))) ∙ at_expr scope (Expr-F.If place vif test branch (Some otherwise))

pub has-Factorial : (scope : Scope) (operand : Expr) (places : List Place) → has_variables scope (Factorial operand places) ≡ has_variables scope operand
has-Factorial scope operand places = ap (has_variables scope) (sym (rolls-Factorial operand places)) ∙ at_expr scope (Expr-F.Factorial operand places)

pub has-Power : (scope : Scope) (place : Place) (sign : Sign) (base : Expr) (signed : Option (Place × Bool)) (exponent : Expr) → has_variables scope (Power place sign base signed exponent) ≡ (has_variables scope base || has_variables scope exponent)
has-Power scope place sign base signed exponent = ap (has_variables scope) (sym (rolls-Power place sign base signed exponent)) ∙ at_expr scope (Expr-F.Power place sign base signed exponent)

pub has-Signed : (scope : Scope) (place : Place) (minus : Bool) (operand : Expr) → has_variables scope (Signed place minus operand) ≡ has_variables scope operand
has-Signed scope place minus operand = ap (has_variables scope) (sym (rolls-Signed place minus operand)) ∙ at_expr scope (Expr-F.Signed place minus operand)

pub has-Big : (scope : Scope) (place : Place) (loop : Word) (index : Index) (with_do : Bool) (operand : Expr) → has_variables scope (Big place loop index with_do operand) ≡ (index_has_variables scope index || has_variables scope operand)
has-Big scope place loop index with_do operand = ap (has_variables scope) (sym (rolls-Big place loop index with_do operand)) ∙ at_expr scope (Expr-F.Big place loop index with_do operand)

pub has-Times : (scope : Scope) (first : Expr) (others : List (Place × Token × Expr)) → has_variables scope (Times first others) ≡ (has_variables scope first || list_any (λ x. has_variables scope x.2) others)
has-Times scope first others = ap (has_variables scope) (sym (rolls-Times first others)) ∙ at_expr scope (Expr-F.Times first others)
    ∙ ap (λ (b : Bool). has_variables scope first || b) (one_known (λ (x : Place × Token × Expr). has_variables scope x.2) (λ x. (x.0, x.1, has_variables scope x.2)) (λ (x : Place × Token × Bool). x.2) (λ x. refl) others)

pub has-Plus : (scope : Scope) (first : Expr) (others : List (Place × Token × Expr)) → has_variables scope (Plus first others) ≡ (has_variables scope first || list_any (λ x. has_variables scope x.2) others)
has-Plus scope first others = ap (has_variables scope) (sym (rolls-Plus first others)) ∙ at_expr scope (Expr-F.Plus first others)
    ∙ ap (λ (b : Bool). has_variables scope first || b) (one_known (λ (x : Place × Token × Expr). has_variables scope x.2) (λ x. (x.0, x.1, has_variables scope x.2)) (λ (x : Place × Token × Bool). x.2) (λ x. refl) others)

pub has-Compare : (scope : Scope) (first : Expr) (others : List (Place × Relation × Expr)) → has_variables scope (Compare first others) ≡ (has_variables scope first || list_any (λ x. has_variables scope x.2) others)
has-Compare scope first others = ap (has_variables scope) (sym (rolls-Compare first others)) ∙ at_expr scope (Expr-F.Compare first others)
    ∙ ap (λ (b : Bool). has_variables scope first || b) (one_known (λ (x : Place × Relation × Expr). has_variables scope x.2) (λ x. (x.0, x.1, has_variables scope x.2)) (λ (x : Place × Relation × Bool). x.2) (λ x. refl) others)

pub has-Member : (scope : Scope) (place : Place) (tuple : Angle) (set : Expr) → has_variables scope (Member place tuple set) ≡ (tuple_has_variables scope tuple || has_variables scope set)
has-Member scope place tuple set = ap (has_variables scope) (sym (rolls-Member place tuple set)) ∙ at_expr scope (Expr-F.Member place tuple set)

pub has-Not : (scope : Scope) (place : Place) (operand : Expr) → has_variables scope (Not place operand) ≡ has_variables scope operand
has-Not scope place operand = ap (has_variables scope) (sym (rolls-Not place operand)) ∙ at_expr scope (Expr-F.Not place operand)

pub has-And : (scope : Scope) (first : Expr) (others : List (Place × Expr)) → has_variables scope (And first others) ≡ (has_variables scope first || list_any (λ x. has_variables scope x.1) others)
has-And scope first others = ap (has_variables scope) (sym (rolls-And first others)) ∙ at_expr scope (Expr-F.And first others)
    ∙ ap (λ (b : Bool). has_variables scope first || b) (one_known (λ (x : Place × Expr). has_variables scope x.1) (λ x. (x.0, has_variables scope x.1)) (λ (x : Place × Bool). x.1) (λ x. refl) others)

pub has-Or : (scope : Scope) (first : Expr) (others : List (Place × Bool × Expr)) → has_variables scope (Or first others) ≡ (has_variables scope first || list_any (λ x. has_variables scope x.2) others)
has-Or scope first others = ap (has_variables scope) (sym (rolls-Or first others)) ∙ at_expr scope (Expr-F.Or first others)
    ∙ ap (λ (b : Bool). has_variables scope first || b) (one_known (λ (x : Place × Bool × Expr). has_variables scope x.2) (λ x. (x.0, x.1, has_variables scope x.2)) (λ (x : Place × Bool × Bool). x.2) (λ x. refl) others)

pub has-Forall : (scope : Scope) (place : Place) (index : Index) (with_do : Bool) (operand : Expr) → has_variables scope (Forall place index with_do operand) ≡ (index_has_variables scope index || has_variables scope operand)
has-Forall scope place index with_do operand = ap (has_variables scope) (sym (rolls-Forall place index with_do operand)) ∙ at_expr scope (Expr-F.Forall place index with_do operand)

pub has-Empty : (scope : Scope) → body_has_variables scope Empty ≡ false
has-Empty scope = ap (body_has_variables scope) (sym rolls-Empty) ∙ at_body scope Body-F.Empty

pub has-Members : (scope : Scope) (members : List Expr) → body_has_variables scope (Members members) ≡ list_any (has_variables scope) members
has-Members scope members = ap (body_has_variables scope) (sym (rolls-Members members)) ∙ at_body scope (Body-F.Members members) ∙ one_mapped (has_variables scope) members

pub has-Tuples : (scope : Scope) (tuples : List Angle) → body_has_variables scope (Tuples tuples) ≡ list_any (tuple_has_variables scope) tuples
has-Tuples scope tuples = ap (body_has_variables scope) (sym (rolls-Tuples tuples)) ∙ at_body scope (Body-F.Tuples tuples) ∙ one_mapped (tuple_has_variables scope) tuples

pub has-Those : (scope : Scope) (index : Index) → body_has_variables scope (Those index) ≡ index_has_variables scope index
has-Those scope index = ap (body_has_variables scope) (sym (rolls-Those index)) ∙ at_body scope (Body-F.Those index)

pub has-Span : (scope : Scope) (from : Expr) (with_to : Bool) (to : Expr) (by : Option Expr) →
    body_has_variables scope (Span from with_to to by) ≡ (has_variables scope from || has_variables scope to || given (option_map (has_variables scope) by))
has-Span scope from with_to to None = ap (body_has_variables scope) (sym (rolls-Span from with_to to None)) ∙ at_body scope (Body-F.Span from with_to to None)
has-Span scope from with_to to (Some by) = ap (body_has_variables scope) (sym (rolls-Span from with_to to (Some by))) ∙ at_body scope (Body-F.Span from with_to to (Some by))

index_parts : (scope : Scope) (place : Place) (tuple : Angle) (set : Expr) (cond : Option (Bool × Expr)) →
    index_has_variables scope (index_of place tuple set cond) ≡ (tuple_has_variables scope tuple || has_variables scope set || condition_varies scope cond)
index_parts scope place tuple set None = fold-roll-Index Bool Bool Bool Bool variables_in_body (variables_in_expr scope) variables_in_angle variables_in_index (record { place = place; tuple = tuple; set = set; cond = None })
index_parts scope place tuple set (Some c) = fold-roll-Index Bool Bool Bool Bool variables_in_body (variables_in_expr scope) variables_in_angle variables_in_index (record { place = place; tuple = tuple; set = set; cond = Some c })

pub has-index : (scope : Scope) (index : Index) →
    index_has_variables scope index ≡ (tuple_has_variables scope (out-Index index).tuple || has_variables scope (out-Index index).set || condition_varies scope (out-Index index).cond)
has-index scope index = ap (index_has_variables scope) (sym (roll-out-Index index)) ∙ index_parts scope (out-Index index).place (out-Index index).tuple (out-Index index).set (out-Index index).cond
