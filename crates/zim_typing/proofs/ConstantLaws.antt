-- Which constant is made of each form of an expression, one equation for each.
use Rattle.std.proofs.Common.{◌≡◌, ℕ, suc, Bool, List, [], ◌∷◌, ◌++◌, length, map, filter_map, Option, Some, None, option_map, unwrap_or, refl, sym, ap, ◌∙◌}
use Rattle.zim_fault.specs.declared.faults.Place.{Place}
use Rattle.zim_fault.specs.declared.tokens.Token.{Token}
use Rattle.zim_fault.specs.declared.tokens.Relation.{Relation}
use Rattle.zim_fault.specs.declared.signs.Sign.{Sign}
use Rattle.zim_fault.specs.declared.words.Word.{Word}
use Rattle.zim_tree.specs.declared.expr.Expr.{Expr, Expr-F, map-Expr, out-Expr, roll-Expr, fold-roll-Expr}
use Rattle.zim_tree.specs.declared.expr.Expr.TheVariants.{Number, Text, Truth, Infinity, Name, Item, Call, Func, Proj, Paren, Braces, If, Factorial, Power, Signed, Big, Times, Plus, Compare, Member, Not, And, Or, Forall, rolls-Number, rolls-Text, rolls-Truth, rolls-Infinity, rolls-Name, rolls-Item, rolls-Call, rolls-Func, rolls-Proj, rolls-Paren, rolls-Braces, rolls-If, rolls-Factorial, rolls-Power, rolls-Signed, rolls-Big, rolls-Times, rolls-Plus, rolls-Compare, rolls-Member, rolls-Not, rolls-And, rolls-Or, rolls-Forall}
use Rattle.zim_tree.specs.declared.expr.Angle.{Angle, Angle-F, map-Angle, roll-Angle, out-Angle, fold-roll-Angle}
use Rattle.zim_tree.specs.declared.expr.Index.{Index, Index-F, map-Index, roll-Index, out-Index, fold-roll-Index}
use Rattle.zim_tree.specs.declared.expr.Body.{Body, Body-F, map-Body, roll-Body, fold-roll-Body}
use Rattle.zim_tree.specs.declared.expr.Body.TheVariants.{Empty, Members, Tuples, Those, Span, rolls-Empty, rolls-Members, rolls-Tuples, rolls-Those, rolls-Span}
use Rattle.zim_tree.specs.declared.expr.Body.TheViews.{roll-out-Expr, roll-out-Index, roll-out-Angle, out-roll-Expr, out-roll-Index, out-roll-Angle}
use Rattle.zim_tree.specs.Trees as trees
use Rattle.zim_typed.specs.declared.constant.Const.{Const}
use Rattle.zim_typed.specs.declared.constant.Const.TheVariants as const
use Rattle.zim_typed.specs.declared.constant.TAngle.{TAngle}
use Rattle.zim_typed.specs.declared.constant.LoopSlot.{LoopSlot}
use Rattle.zim_typed.specs.declared.constant.TBody.TheVariants as body
use Rattle.zim_typed.specs.Trees.{typed_angle, typed_loop}
use Rattle.zim_typed.specs.Scope.{Names, Scope, bare, indexed, called}
use Rattle.zim_typed.specs.Pattern.{name_node, bare_name, bound_name, if_unknown}
use Rattle.zim_typing.specs.Typing.{Typing, TupleTyping, IndexTyping, BodyTyping, resolution, set_argument, slot_of, typing_name, constants_of, name_bound, slots_of, names_after, missing, constant_compared, placed_name, expr_typing, tuple_typing, index_typing, body_typing, typing_of, typing_of_tuple, typing_of_index, typing_of_body, typed_const, typed_consts, typed_operands, typed_conjuncts, typed_disjuncts, typed_arguments, typed_or_missing, typed_comparison, typed_tuple, typed_slots, typed_index, typed_body, placed_node, placed_bare_name, names_inside}

pub at_expr : (scope : Scope) (d : Expr-F Body Expr Angle Index) → typing_of scope (roll-Expr d) ≡ expr_typing scope (map-Expr Body Expr Angle Index BodyTyping Typing TupleTyping IndexTyping (typing_of_body scope) (typing_of scope) (typing_of_tuple scope) (typing_of_index scope) d)
at_expr scope = fold-roll-Expr BodyTyping Typing TupleTyping IndexTyping body_typing (expr_typing scope) tuple_typing (index_typing scope)

at_body : (scope : Scope) (d : Body-F Body Expr Angle Index) → typing_of_body scope (roll-Body d) ≡ body_typing (map-Body Body Expr Angle Index BodyTyping Typing TupleTyping IndexTyping (typing_of_body scope) (typing_of scope) (typing_of_tuple scope) (typing_of_index scope) d)
at_body scope = fold-roll-Body BodyTyping Typing TupleTyping IndexTyping body_typing (expr_typing scope) tuple_typing (index_typing scope)

at_tuple : (scope : Scope) (d : Angle-F Body Expr Angle Index) → typing_of_tuple scope (roll-Angle d) ≡ tuple_typing (map-Angle Body Expr Angle Index BodyTyping Typing TupleTyping IndexTyping (typing_of_body scope) (typing_of scope) (typing_of_tuple scope) (typing_of_index scope) d)
at_tuple scope = fold-roll-Angle BodyTyping Typing TupleTyping IndexTyping body_typing (expr_typing scope) tuple_typing (index_typing scope)

at_index : (scope : Scope) (d : Index-F Body Expr Angle Index) → typing_of_index scope (roll-Index d) ≡ index_typing scope (map-Index Body Expr Angle Index BodyTyping Typing TupleTyping IndexTyping (typing_of_body scope) (typing_of scope) (typing_of_tuple scope) (typing_of_index scope) d)
at_index scope = fold-roll-Index BodyTyping Typing TupleTyping IndexTyping body_typing (expr_typing scope) tuple_typing (index_typing scope)

-- ---- lists

as_long : {A B : Type 0} (f : A → B) (items : List A) → length (map f items) ≡ length items
as_long f [] = refl
as_long f (item ∷ items) = ap suc (as_long f items)

pub made_all : (scope : Scope) (names : Names) (items : List Expr) → constants_of names (map (typing_of scope) items) ≡ typed_consts scope names items
unfolding typed_const
made_all scope names [] = refl
made_all scope names (item ∷ items) = ap (λ (cs : List Const). typed_const scope names item ∷ cs) (made_all scope names items)

made_operands : (scope : Scope) (names : Names) (others : List (Place × Token × Expr)) →
    map (λ (x : Place × Token × Typing). (x.0, x.1, x.2.constant names)) (map (λ (x : Place × Token × Expr). (x.0, x.1, typing_of scope x.2)) others) ≡ typed_operands scope names others
unfolding typed_const
made_operands scope names [] = refl
made_operands scope names (other ∷ others) = ap (λ (cs : List (Place × Token × Const)). (other.0, other.1, typed_const scope names other.2) ∷ cs) (made_operands scope names others)

made_conjuncts : (scope : Scope) (names : Names) (others : List (Place × Expr)) →
    map (λ (x : Place × Typing). (x.0, x.1.constant names)) (map (λ (x : Place × Expr). (x.0, typing_of scope x.1)) others) ≡ typed_conjuncts scope names others
unfolding typed_const
made_conjuncts scope names [] = refl
made_conjuncts scope names (other ∷ others) = ap (λ (cs : List (Place × Const)). (other.0, typed_const scope names other.1) ∷ cs) (made_conjuncts scope names others)

made_disjuncts : (scope : Scope) (names : Names) (others : List (Place × Bool × Expr)) →
    map (λ (x : Place × Bool × Typing). (x.0, x.1, x.2.constant names)) (map (λ (x : Place × Bool × Expr). (x.0, x.1, typing_of scope x.2)) others) ≡ typed_disjuncts scope names others
unfolding typed_const
made_disjuncts scope names [] = refl
made_disjuncts scope names (other ∷ others) = ap (λ (cs : List (Place × Bool × Const)). (other.0, other.1, typed_const scope names other.2) ∷ cs) (made_disjuncts scope names others)

made_comparison : (scope : Scope) (names : Names) (first : Const) (others : List (Place × Relation × Expr)) →
    constant_compared first names (map (λ (x : Place × Relation × Expr). (x.0, x.1, typing_of scope x.2)) others) ≡ typed_comparison scope names first others
unfolding typed_const
made_comparison scope names first [] = refl
made_comparison scope names first (other ∷ others) = refl

-- ---- names

name_node_kept : (scope : Scope) (d : Expr-F Body Expr Angle Index) → placed_name (map-Expr Body Expr Angle Index BodyTyping Typing TupleTyping IndexTyping (typing_of_body scope) (typing_of scope) (typing_of_tuple scope) (typing_of_index scope) d) ≡ placed_node d
name_node_kept scope (Expr-F.Number a b) = refl
name_node_kept scope (Expr-F.Text a b c) = refl
name_node_kept scope (Expr-F.Truth a b) = refl
name_node_kept scope (Expr-F.Infinity a) = refl
name_node_kept scope (Expr-F.Name a b) = refl
name_node_kept scope (Expr-F.Item a b c) = refl
name_node_kept scope (Expr-F.Call a b c) = refl
name_node_kept scope (Expr-F.Func a b c) = refl
name_node_kept scope (Expr-F.Proj a b c) = refl
name_node_kept scope (Expr-F.Paren a b) = refl
name_node_kept scope (Expr-F.Braces a b) = refl
name_node_kept scope (Expr-F.If a b c d e) = refl
name_node_kept scope (Expr-F.Factorial a b) = refl
name_node_kept scope (Expr-F.Power a b c d e) = refl
name_node_kept scope (Expr-F.Signed a b c) = refl
name_node_kept scope (Expr-F.Big a b c d e) = refl
name_node_kept scope (Expr-F.Times a b) = refl
name_node_kept scope (Expr-F.Plus a b) = refl
name_node_kept scope (Expr-F.Compare a b) = refl
name_node_kept scope (Expr-F.Member a b c) = refl
name_node_kept scope (Expr-F.Not a b) = refl
name_node_kept scope (Expr-F.And a b) = refl
name_node_kept scope (Expr-F.Or a b) = refl
name_node_kept scope (Expr-F.Forall a b c d) = refl

-- the bare name of what is made of an expression is that of the expression
name_kept : (scope : Scope) (e : Expr) → (typing_of scope e).name ≡ placed_bare_name e
name_kept scope e = ap (λ (t : Typing). t.name) (ap (typing_of scope) (sym (roll-out-Expr e)) ∙ at_expr scope (out-Expr e)) ∙ name_node_kept scope (out-Expr e)

names_kept : (scope : Scope) (items : List Expr) → map (λ (part : Typing). part.name) (map (typing_of scope) items) ≡ map placed_bare_name items
names_kept scope [] = refl
names_kept scope (item ∷ items) = λ i. name_kept scope item i ∷ names_kept scope items i

bare_node : (d : Expr-F Body Expr Angle Index) → option_map (λ (x : Place × List ℕ). x.1) (placed_node d) ≡ name_node d
bare_node (Expr-F.Number a b) = refl
bare_node (Expr-F.Text a b c) = refl
bare_node (Expr-F.Truth a b) = refl
bare_node (Expr-F.Infinity a) = refl
bare_node (Expr-F.Name a b) = refl
bare_node (Expr-F.Item a b c) = refl
bare_node (Expr-F.Call a b c) = refl
bare_node (Expr-F.Func a b c) = refl
bare_node (Expr-F.Proj a b c) = refl
bare_node (Expr-F.Paren a b) = refl
bare_node (Expr-F.Braces a b) = refl
bare_node (Expr-F.If a b c d e) = refl
bare_node (Expr-F.Factorial a b) = refl
bare_node (Expr-F.Power a b c d e) = refl
bare_node (Expr-F.Signed a b c) = refl
bare_node (Expr-F.Big a b c d e) = refl
bare_node (Expr-F.Times a b) = refl
bare_node (Expr-F.Plus a b) = refl
bare_node (Expr-F.Compare a b) = refl
bare_node (Expr-F.Member a b c) = refl
bare_node (Expr-F.Not a b) = refl
bare_node (Expr-F.And a b) = refl
bare_node (Expr-F.Or a b) = refl
bare_node (Expr-F.Forall a b c d) = refl

-- a bare name with its place, without its place
pub without_place : (e : Expr) → option_map (λ (x : Place × List ℕ). x.1) (placed_bare_name e) ≡ bare_name e
without_place e = bare_node (out-Expr e)

bare_kept : (scope : Scope) (e : Expr) → typing_name (typing_of scope e) ≡ bare_name e
bare_kept scope e = ap (λ (name : Option (Place × List ℕ)). option_map (λ (x : Place × List ℕ). x.1) name) (name_kept scope e) ∙ without_place e

bound_kept : (scope : Scope) (names : Names) (e : Expr) → name_bound scope names (typing_of scope e) ≡ bound_name scope names e
bound_kept scope names e = ap (λ (name : Option (List ℕ)). if_unknown scope names name) (bare_kept scope e)

bound_after : (scope : Scope) (names : Names) (items : List Expr) → filter_map (name_bound scope names) (map (typing_of scope) items) ≡ filter_map (bound_name scope names) items
bound_after scope names [] = refl
bound_after scope names (item ∷ items) = at_name (bound_name scope names item) refl (bound_after scope names items)
  where
    at_name : (name : Option (List ℕ)) → bound_name scope names item ≡ name → filter_map (name_bound scope names) (map (typing_of scope) items) ≡ filter_map (bound_name scope names) items →
        filter_map (name_bound scope names) (map (typing_of scope) (item ∷ items)) ≡ filter_map (bound_name scope names) (item ∷ items)
    at_name None is others = rw (bound_kept scope names item, is) others
    at_name (Some name) is others = rw (bound_kept scope names item, is) (ap (λ (rest : Names). name ∷ rest) others)

made_slots : (scope : Scope) (names : Names) (before : List (Option (List ℕ))) (items : List Expr) → slots_of scope names before (map (typing_of scope) items) ≡ typed_slots scope names before items
unfolding typed_const typed_slots slots_of
made_slots scope names before [] = refl
made_slots scope names before (item ∷ items) =
    (λ i. slot_of before (bound_kept scope names item i) (typed_const scope names item) ∷ slots_of scope names (before ++ bare_kept scope item i ∷ []) (map (typing_of scope) items))
    ∙ ap (λ (rest : List LoopSlot). slot_of before (bound_name scope names item) (typed_const scope names item) ∷ rest) (made_slots scope names (before ++ bare_name item ∷ []) items)

items_kept : (scope : Scope) (tuple : Angle) → (typing_of_tuple scope tuple).items ≡ map (typing_of scope) (out-Angle tuple).items
items_kept scope tuple = ap (λ (t : TupleTyping). t.items) (ap (typing_of_tuple scope) (sym (roll-out-Angle tuple)) ∙ at_tuple scope (out-Angle tuple))

pub names_kept_inside : (scope : Scope) (names : Names) (index : Index) → (typing_of_index scope index).names names ≡ names_inside scope names index
names_kept_inside scope names index =
    ap (λ (t : IndexTyping). t.names names) (ap (typing_of_index scope) (sym (roll-out-Index index)) ∙ at_index scope (out-Index index)) ∙ ap (names_after scope names) (items_kept scope (out-Index index).tuple)
    ∙ ap (λ (bound : Names). bound ++ names) (bound_after scope names (out-Angle (out-Index index).tuple).items)

-- ---- expressions

at : (scope : Scope) (names : Names) (e : Expr) (d : Typing) → typing_of scope e ≡ d → typed_const scope names e ≡ d.constant names
unfolding typed_const
at scope names e d is = ap (λ (t : Typing). t.constant names) is

pub makes-Number : (scope : Scope) (names : Names) (place : Place) (digits : List ℕ) → typed_const scope names (Number place digits) ≡ const.Number place digits
unfolding typed_const typed_tuple typed_index typed_body
makes-Number scope names place digits = at scope names (Number place digits) _ (ap (typing_of scope) (sym (rolls-Number place digits)) ∙ at_expr scope (Expr-F.Number place digits))

pub makes-Text : (scope : Scope) (names : Names) (place : Place) (text : List ℕ) (double : Bool) → typed_const scope names (Text place text double) ≡ const.Text place text double
unfolding typed_const typed_tuple typed_index typed_body
makes-Text scope names place text double = at scope names (Text place text double) _ (ap (typing_of scope) (sym (rolls-Text place text double)) ∙ at_expr scope (Expr-F.Text place text double))

pub makes-Truth : (scope : Scope) (names : Names) (place : Place) (truth : Bool) → typed_const scope names (Truth place truth) ≡ const.Truth place truth
unfolding typed_const typed_tuple typed_index typed_body
makes-Truth scope names place truth = at scope names (Truth place truth) _ (ap (typing_of scope) (sym (rolls-Truth place truth)) ∙ at_expr scope (Expr-F.Truth place truth))

pub makes-Infinity : (scope : Scope) (names : Names) (place : Place) → typed_const scope names (Infinity place) ≡ const.Infinity place
unfolding typed_const typed_tuple typed_index typed_body
makes-Infinity scope names place = at scope names (Infinity place) _ (ap (typing_of scope) (sym (rolls-Infinity place)) ∙ at_expr scope (Expr-F.Infinity place))

pub makes-Name : (scope : Scope) (names : Names) (place : Place) (name : List ℕ) → typed_const scope names (Name place name) ≡ const.Name place name (resolution (bare scope names name))
unfolding typed_const typed_tuple typed_index typed_body
makes-Name scope names place name = at scope names (Name place name) _ (ap (typing_of scope) (sym (rolls-Name place name)) ∙ at_expr scope (Expr-F.Name place name))

pub makes-Item : (scope : Scope) (names : Names) (place : Place) (name : List ℕ) (index : List Expr) → typed_const scope names (Item place name index) ≡ const.Item place name (typed_consts scope names index) (resolution (indexed scope names name))
unfolding typed_const typed_tuple typed_index typed_body
makes-Item scope names place name index = at scope names (Item place name index) _ (ap (typing_of scope) (sym (rolls-Item place name index)) ∙ at_expr scope (Expr-F.Item place name index)) ∙ ap (λ (cs : List Const). const.Item place name cs (resolution (indexed scope names name))) (made_all scope names index)

pub makes-Call : (scope : Scope) (names : Names) (place : Place) (name : List ℕ) (given : List Expr) → typed_const scope names (Call place name given) ≡ const.Call place name (typed_consts scope names given) (resolution (called (length given) scope names name))
unfolding typed_const typed_tuple typed_index typed_body
makes-Call scope names place name given = at scope names (Call place name given) _ (ap (typing_of scope) (sym (rolls-Call place name given)) ∙ at_expr scope (Expr-F.Call place name given)) ∙ (λ i. const.Call place name (made_all scope names given i) (resolution (called (as_long (typing_of scope) given i) scope names name)))

pub makes-Func : (scope : Scope) (names : Names) (place : Place) (word : Word) (given : List Expr) → typed_const scope names (Func place word given) ≡ const.Func place word (typed_arguments scope names word given)
unfolding typed_const typed_tuple typed_index typed_body
makes-Func scope names place word given = at scope names (Func place word given) _ (ap (typing_of scope) (sym (rolls-Func place word given)) ∙ at_expr scope (Expr-F.Func place word given)) ∙ (λ i. const.Func place word (unwrap_or (set_argument word (names_kept scope given i)) (made_all scope names given i)))

pub makes-Proj : (scope : Scope) (names : Names) (place : Place) (set : Expr) (positions : Angle) → typed_const scope names (Proj place set positions) ≡ const.Proj place (typed_const scope names set) (typed_tuple scope names positions)
unfolding typed_const typed_tuple typed_index typed_body
makes-Proj scope names place set positions = at scope names (Proj place set positions) _ (ap (typing_of scope) (sym (rolls-Proj place set positions)) ∙ at_expr scope (Expr-F.Proj place set positions))

pub makes-Paren : (scope : Scope) (names : Names) (place : Place) (inner : Expr) → typed_const scope names (Paren place inner) ≡ const.Paren place (typed_const scope names inner)
unfolding typed_const typed_tuple typed_index typed_body
makes-Paren scope names place inner = at scope names (Paren place inner) _ (ap (typing_of scope) (sym (rolls-Paren place inner)) ∙ at_expr scope (Expr-F.Paren place inner))

pub makes-Braces : (scope : Scope) (names : Names) (place : Place) (inside : Body) → typed_const scope names (Braces place inside) ≡ const.Braces place (typed_body scope names inside)
unfolding typed_const typed_tuple typed_index typed_body
makes-Braces scope names place inside = at scope names (Braces place inside) _ (ap (typing_of scope) (sym (rolls-Braces place inside)) ∙ at_expr scope (Expr-F.Braces place inside))

pub makes-If : (scope : Scope) (names : Names) (place : Place) (vif : Bool) (test branch : Expr) (otherwise : Option Expr) → typed_const scope names (If place vif test branch otherwise) ≡ const.If place (typed_const scope names test) (typed_const scope names branch) (typed_or_missing scope names place otherwise)
unfolding typed_const typed_tuple typed_index typed_body
makes-If scope names place vif test branch None = at scope names (If place vif test branch None) _ (ap (typing_of scope) (sym (rolls-If place vif test branch None)) ∙ at_expr scope (Expr-F.If place vif test branch None))
makes-If scope names place vif test branch (Some otherwise) = at scope names (If place vif test branch (Some otherwise)) _ (ap (typing_of scope) (sym (rolls-If place vif test branch (Some otherwise))) ∙ at_expr scope (Expr-F.If place vif test branch (Some otherwise)))

pub makes-Factorial : (scope : Scope) (names : Names) (operand : Expr) (marks : List Place) → typed_const scope names (Factorial operand marks) ≡ const.Factorial (typed_const scope names operand) marks
unfolding typed_const typed_tuple typed_index typed_body
makes-Factorial scope names operand marks = at scope names (Factorial operand marks) _ (ap (typing_of scope) (sym (rolls-Factorial operand marks)) ∙ at_expr scope (Expr-F.Factorial operand marks))

pub makes-Power : (scope : Scope) (names : Names) (place : Place) (sign : Sign) (base : Expr) (signed : Option (Place × Bool)) (exponent : Expr) → typed_const scope names (Power place sign base signed exponent) ≡ const.Power place sign (typed_const scope names base) signed (typed_const scope names exponent)
unfolding typed_const typed_tuple typed_index typed_body
makes-Power scope names place sign base signed exponent = at scope names (Power place sign base signed exponent) _ (ap (typing_of scope) (sym (rolls-Power place sign base signed exponent)) ∙ at_expr scope (Expr-F.Power place sign base signed exponent))

pub makes-Signed : (scope : Scope) (names : Names) (place : Place) (minus : Bool) (operand : Expr) → typed_const scope names (Signed place minus operand) ≡ const.Signed place minus (typed_const scope names operand)
unfolding typed_const typed_tuple typed_index typed_body
makes-Signed scope names place minus operand = at scope names (Signed place minus operand) _ (ap (typing_of scope) (sym (rolls-Signed place minus operand)) ∙ at_expr scope (Expr-F.Signed place minus operand))

pub makes-Big : (scope : Scope) (names : Names) (place : Place) (word : Word) (index : Index) (with_do : Bool) (operand : Expr) → typed_const scope names (Big place word index with_do operand) ≡ const.Big place word (typed_index scope names index) with_do (typed_const scope (names_inside scope names index) operand)
unfolding typed_const typed_tuple typed_index typed_body
makes-Big scope names place word index with_do operand = at scope names (Big place word index with_do operand) _ (ap (typing_of scope) (sym (rolls-Big place word index with_do operand)) ∙ at_expr scope (Expr-F.Big place word index with_do operand)) ∙ ap (λ (inner : Names). const.Big place word (typed_index scope names index) with_do (typed_const scope inner operand)) (names_kept_inside scope names index)

pub makes-Times : (scope : Scope) (names : Names) (first : Expr) (others : List (Place × Token × Expr)) → typed_const scope names (Times first others) ≡ const.Times (typed_const scope names first) (typed_operands scope names others)
unfolding typed_const typed_tuple typed_index typed_body
makes-Times scope names first others = at scope names (Times first others) _ (ap (typing_of scope) (sym (rolls-Times first others)) ∙ at_expr scope (Expr-F.Times first others)) ∙ ap (λ (cs : List (Place × Token × Const)). const.Times (typed_const scope names first) cs) (made_operands scope names others)

pub makes-Plus : (scope : Scope) (names : Names) (first : Expr) (others : List (Place × Token × Expr)) → typed_const scope names (Plus first others) ≡ const.Plus (typed_const scope names first) (typed_operands scope names others)
unfolding typed_const typed_tuple typed_index typed_body
makes-Plus scope names first others = at scope names (Plus first others) _ (ap (typing_of scope) (sym (rolls-Plus first others)) ∙ at_expr scope (Expr-F.Plus first others)) ∙ ap (λ (cs : List (Place × Token × Const)). const.Plus (typed_const scope names first) cs) (made_operands scope names others)

pub makes-Compare : (scope : Scope) (names : Names) (first : Expr) (others : List (Place × Relation × Expr)) → typed_const scope names (Compare first others) ≡ typed_comparison scope names (typed_const scope names first) others
unfolding typed_const typed_tuple typed_index typed_body
makes-Compare scope names first others = at scope names (Compare first others) _ (ap (typing_of scope) (sym (rolls-Compare first others)) ∙ at_expr scope (Expr-F.Compare first others)) ∙ made_comparison scope names (typed_const scope names first) others

pub makes-Member : (scope : Scope) (names : Names) (place : Place) (tuple : Angle) (set : Expr) → typed_const scope names (Member place tuple set) ≡ const.Member place (typed_tuple scope names tuple) (typed_const scope names set)
unfolding typed_const typed_tuple typed_index typed_body
makes-Member scope names place tuple set = at scope names (Member place tuple set) _ (ap (typing_of scope) (sym (rolls-Member place tuple set)) ∙ at_expr scope (Expr-F.Member place tuple set))

pub makes-Not : (scope : Scope) (names : Names) (place : Place) (operand : Expr) → typed_const scope names (Not place operand) ≡ const.Not place (typed_const scope names operand)
unfolding typed_const typed_tuple typed_index typed_body
makes-Not scope names place operand = at scope names (Not place operand) _ (ap (typing_of scope) (sym (rolls-Not place operand)) ∙ at_expr scope (Expr-F.Not place operand))

pub makes-And : (scope : Scope) (names : Names) (first : Expr) (others : List (Place × Expr)) → typed_const scope names (And first others) ≡ const.And (typed_const scope names first) (typed_conjuncts scope names others)
unfolding typed_const typed_tuple typed_index typed_body
makes-And scope names first others = at scope names (And first others) _ (ap (typing_of scope) (sym (rolls-And first others)) ∙ at_expr scope (Expr-F.And first others)) ∙ ap (λ (cs : List (Place × Const)). const.And (typed_const scope names first) cs) (made_conjuncts scope names others)

pub makes-Or : (scope : Scope) (names : Names) (first : Expr) (others : List (Place × Bool × Expr)) → typed_const scope names (Or first others) ≡ const.Or (typed_const scope names first) (typed_disjuncts scope names others)
unfolding typed_const typed_tuple typed_index typed_body
makes-Or scope names first others = at scope names (Or first others) _ (ap (typing_of scope) (sym (rolls-Or first others)) ∙ at_expr scope (Expr-F.Or first others)) ∙ ap (λ (cs : List (Place × Bool × Const)). const.Or (typed_const scope names first) cs) (made_disjuncts scope names others)

pub makes-Forall : (scope : Scope) (names : Names) (place : Place) (index : Index) (with_do : Bool) (inside : Expr) → typed_const scope names (Forall place index with_do inside) ≡ missing place
unfolding typed_const typed_tuple typed_index typed_body
makes-Forall scope names place index with_do inside = at scope names (Forall place index with_do inside) _ (ap (typing_of scope) (sym (rolls-Forall place index with_do inside)) ∙ at_expr scope (Expr-F.Forall place index with_do inside))

-- ---- tuples

-- what is made of a tuple
pub makes_tuple : (scope : Scope) (names : Names) (tuple : Angle) → typed_tuple scope names tuple ≡ typed_angle (out-Angle tuple).place (typed_consts scope names (out-Angle tuple).items)
unfolding typed_tuple
makes_tuple scope names tuple =
    ap (λ (t : TupleTyping). typed_angle t.place (constants_of names t.items)) (ap (typing_of_tuple scope) (sym (roll-out-Angle tuple)) ∙ at_tuple scope (out-Angle tuple))
    ∙ ap (λ (cs : List Const). typed_angle (out-Angle tuple).place cs) (made_all scope names (out-Angle tuple).items)

-- ---- indices

index_parts : (scope : Scope) (place : Place) (tuple : Angle) (set : Expr) (cond : Option (Bool × Expr)) (names : Names) →
    typed_index scope names (trees.index_of place tuple set cond)
    ≡ typed_loop place (slots_of scope names [] (typing_of_tuple scope tuple).items) (typed_const scope names set)
    (option_map (λ (c : Bool × Expr). typed_const scope (names_after scope names (typing_of_tuple scope tuple).items) c.1) cond)
unfolding typed_const typed_index
index_parts scope place tuple set None names = ap (λ (t : IndexTyping). t.index names) (at_index scope (record { place = place; tuple = tuple; set = set; cond = None }))
index_parts scope place tuple set (Some c) names = ap (λ (t : IndexTyping). t.index names) (at_index scope (record { place = place; tuple = tuple; set = set; cond = Some c }))

-- what is made of an index
pub makes_index : (scope : Scope) (names : Names) (index : Index) →
    typed_index scope names index
    ≡ typed_loop (out-Index index).place (typed_slots scope names [] (out-Angle (out-Index index).tuple).items) (typed_const scope names (out-Index index).set)
    (option_map (λ (c : Bool × Expr). typed_const scope (names_inside scope names index) c.1) (out-Index index).cond)
makes_index scope names index =
    ap (typed_index scope names) (sym (roll-out-Index index)) ∙ index_parts scope (out-Index index).place (out-Index index).tuple (out-Index index).set (out-Index index).cond names
    ∙ ap
    (λ (parts : List Typing).
    typed_loop (out-Index index).place (slots_of scope names [] parts) (typed_const scope names (out-Index index).set)
    (option_map (λ (c : Bool × Expr). typed_const scope (names_after scope names parts) c.1) (out-Index index).cond))
    (items_kept scope (out-Index index).tuple)
    ∙ (λ i.
    typed_loop (out-Index index).place (made_slots scope names [] (out-Angle (out-Index index).tuple).items i) (typed_const scope names (out-Index index).set)
    (option_map (λ (c : Bool × Expr). typed_const scope (bound_after scope names (out-Angle (out-Index index).tuple).items i ++ names) c.1) (out-Index index).cond))

-- an index whose tuple is known
pub inside_of : (scope : Scope) (names : Names) (place q : Place) (items : List Expr) (set : Expr) (cond : Option (Bool × Expr)) →
    names_inside scope names (trees.index_of place (trees.angle_of q items) set cond) ≡ filter_map (bound_name scope names) items ++ names
inside_of scope names place q items set cond =
    ap (λ (d : Index-F Body Expr Angle Index). filter_map (bound_name scope names) (out-Angle d.tuple).items ++ names) (out-roll-Index (record { place = place; tuple = trees.angle_of q items; set = set; cond = cond }))
    ∙ ap (λ (d : Angle-F Body Expr Angle Index). filter_map (bound_name scope names) d.items ++ names) (out-roll-Angle (record { place = q; items = items }))

items_of : (scope : Scope) (q : Place) (items : List Expr) → (typing_of_tuple scope (trees.angle_of q items)).items ≡ map (typing_of scope) items
items_of scope q items = ap (λ (t : TupleTyping). t.items) (at_tuple scope (record { place = q; items = items }))

pub makes_index_of : (scope : Scope) (names : Names) (place q : Place) (items : List Expr) (set : Expr) (cond : Option (Bool × Expr)) →
    typed_index scope names (trees.index_of place (trees.angle_of q items) set cond)
    ≡ typed_loop place (typed_slots scope names [] items) (typed_const scope names set) (option_map (λ (c : Bool × Expr). typed_const scope (filter_map (bound_name scope names) items ++ names) c.1) cond)
makes_index_of scope names place q items set cond =
    index_parts scope place (trees.angle_of q items) set cond names
    ∙ ap (λ (parts : List Typing). typed_loop place (slots_of scope names [] parts) (typed_const scope names set) (option_map (λ (c : Bool × Expr). typed_const scope (names_after scope names parts) c.1) cond)) (items_of scope q items)
    ∙ (λ i. typed_loop place (made_slots scope names [] items i) (typed_const scope names set) (option_map (λ (c : Bool × Expr). typed_const scope (bound_after scope names items i ++ names) c.1) cond))

pub makes_tuple_of : (scope : Scope) (names : Names) (place : Place) (items : List Expr) → typed_tuple scope names (trees.angle_of place items) ≡ typed_angle place (typed_consts scope names items)
unfolding typed_tuple
makes_tuple_of scope names place items =
    ap (λ (t : TupleTyping). typed_angle t.place (constants_of names t.items)) (at_tuple scope (record { place = place; items = items })) ∙ ap (λ (cs : List Const). typed_angle place cs) (made_all scope names items)

pub placed_name_is : (place : Place) (name : List ℕ) → placed_bare_name (Name place name) ≡ Some (place, name)
placed_name_is place name = ap placed_bare_name (sym (rolls-Name place name)) ∙ ap placed_node (out-roll-Expr (Expr-F.Name place name))

-- an expression that is a bare name
pub bare_is_name : (e : Expr) (name : List ℕ) → bare_name e ≡ Some name → (place : Place) × (e ≡ Name place name)
bare_is_name e name h = let made = at_node (out-Expr e) h in (made.0, sym (roll-out-Expr e) ∙ ap roll-Expr made.1 ∙ rolls-Name made.0 name)
  where
    at_node : (d : Expr-F Body Expr Angle Index) → name_node d ≡ Some name → (place : Place) × (d ≡ Expr-F.Name place name)
    at_node (Expr-F.Number a b) h = cc
    at_node (Expr-F.Text a b c) h = cc
    at_node (Expr-F.Truth a b) h = cc
    at_node (Expr-F.Infinity a) h = cc
    at_node (Expr-F.Name a b) h = let same : b ≡ name = cc in (a, ap (λ (x : List ℕ). Expr-F.Name a x) same)
    at_node (Expr-F.Item a b c) h = cc
    at_node (Expr-F.Call a b c) h = cc
    at_node (Expr-F.Func a b c) h = cc
    at_node (Expr-F.Proj a b c) h = cc
    at_node (Expr-F.Paren a b) h = cc
    at_node (Expr-F.Braces a b) h = cc
    at_node (Expr-F.If a b c d e) h = cc
    at_node (Expr-F.Factorial a b) h = cc
    at_node (Expr-F.Power a b c d e) h = cc
    at_node (Expr-F.Signed a b c) h = cc
    at_node (Expr-F.Big a b c d e) h = cc
    at_node (Expr-F.Times a b) h = cc
    at_node (Expr-F.Plus a b) h = cc
    at_node (Expr-F.Compare a b) h = cc
    at_node (Expr-F.Member a b c) h = cc
    at_node (Expr-F.Not a b) h = cc
    at_node (Expr-F.And a b) h = cc
    at_node (Expr-F.Or a b) h = cc
    at_node (Expr-F.Forall a b c d) h = cc

-- ---- braces

of_body : (scope : Scope) (names : Names) (b : Body) (d : BodyTyping) → typing_of_body scope b ≡ d → typed_body scope names b ≡ d.body names
unfolding typed_body
of_body scope names b d is = ap (λ (t : BodyTyping). t.body names) is

made_tuples : (scope : Scope) (names : Names) (tuples : List Angle) →
    map (λ (t : TupleTyping). typed_angle t.place (constants_of names t.items)) (map (typing_of_tuple scope) tuples) ≡ map (typed_tuple scope names) tuples
unfolding typed_tuple
made_tuples scope names [] = refl
made_tuples scope names (tuple ∷ tuples) = ap (λ (ts : List TAngle). typed_tuple scope names tuple ∷ ts) (made_tuples scope names tuples)

pub makes-Empty : (scope : Scope) (names : Names) → typed_body scope names Empty ≡ body.Empty
makes-Empty scope names = of_body scope names Empty _ (ap (typing_of_body scope) (sym rolls-Empty) ∙ at_body scope Body-F.Empty)

pub makes-Members : (scope : Scope) (names : Names) (members : List Expr) → typed_body scope names (Members members) ≡ body.Members (typed_consts scope names members)
makes-Members scope names members =
    of_body scope names (Members members) _ (ap (typing_of_body scope) (sym (rolls-Members members)) ∙ at_body scope (Body-F.Members members)) ∙ ap (λ (cs : List Const). body.Members cs) (made_all scope names members)

pub makes-Tuples : (scope : Scope) (names : Names) (tuples : List Angle) → typed_body scope names (Tuples tuples) ≡ body.Tuples (map (typed_tuple scope names) tuples)
makes-Tuples scope names tuples =
    of_body scope names (Tuples tuples) _ (ap (typing_of_body scope) (sym (rolls-Tuples tuples)) ∙ at_body scope (Body-F.Tuples tuples)) ∙ ap (λ (ts : List TAngle). body.Tuples ts) (made_tuples scope names tuples)

pub makes-Those : (scope : Scope) (names : Names) (index : Index) → typed_body scope names (Those index) ≡ body.Those (typed_index scope names index)
unfolding typed_index
makes-Those scope names index = of_body scope names (Those index) _ (ap (typing_of_body scope) (sym (rolls-Those index)) ∙ at_body scope (Body-F.Those index))

pub makes-Span : (scope : Scope) (names : Names) (from : Expr) (with_to : Bool) (to : Expr) (by : Option Expr) →
    typed_body scope names (Span from with_to to by) ≡ body.Span (typed_const scope names from) with_to (typed_const scope names to) (option_map (typed_const scope names) by)
unfolding typed_const
makes-Span scope names from with_to to None = of_body scope names (Span from with_to to None) _ (ap (typing_of_body scope) (sym (rolls-Span from with_to to None)) ∙ at_body scope (Body-F.Span from with_to to None))
makes-Span scope names from with_to to (Some by) =
    of_body scope names (Span from with_to to (Some by)) _ (ap (typing_of_body scope) (sym (rolls-Span from with_to to (Some by))) ∙ at_body scope (Body-F.Span from with_to to (Some by)))
