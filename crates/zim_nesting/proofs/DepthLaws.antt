-- How deep each form of a tree nests, one equation for each.
use Rattle.std.proofs.Common.{◌≡◌, ℕ, Bool, List, [], ◌∷◌, map, Option, Some, None, option_map, refl, sym, ap, ◌∙◌}
use Rattle.std.proofs.lemmas.Simd.{map-map}
use Rattle.zim_fault.specs.declared.faults.Place.{Place}
use Rattle.zim_fault.specs.declared.tokens.Token.{Token}
use Rattle.zim_fault.specs.declared.tokens.Relation.{Relation}
use Rattle.zim_fault.specs.declared.signs.Sign.{Sign}
use Rattle.zim_fault.specs.declared.words.Word.{Word}
use Rattle.zim_tree.specs.declared.expr.Expr.{Expr, Expr-F, roll-Expr, map-Expr, fold-roll-Expr}
use Rattle.zim_tree.specs.declared.expr.Expr.TheVariants.{Number, Text, Truth, Infinity, Name, Item, Call, Func, Proj, Paren, Braces, Factorial, Power, Signed, Big, Times, Plus, Compare, Member, Not, And, Or, Forall, If, rolls-Number, rolls-Text, rolls-Truth, rolls-Infinity, rolls-Name, rolls-Item, rolls-Call, rolls-Func, rolls-Proj, rolls-Paren, rolls-Braces, rolls-Factorial, rolls-Power, rolls-Signed, rolls-Big, rolls-Times, rolls-Plus, rolls-Compare, rolls-Member, rolls-Not, rolls-And, rolls-Or, rolls-Forall, rolls-If}
use Rattle.zim_tree.specs.declared.expr.Angle.{Angle, fold-roll-Angle}
use Rattle.zim_tree.specs.declared.expr.Index.{Index, fold-roll-Index, out-Index}
use Rattle.zim_tree.specs.declared.expr.Body.TheViews.{roll-out-Index}
use Rattle.zim_tree.specs.declared.expr.Body.{Body, Body-F, roll-Body, map-Body, fold-roll-Body}
use Rattle.zim_tree.specs.declared.expr.Body.TheVariants.{Empty, Members, Tuples, Those, Span, rolls-Empty, rolls-Members, rolls-Tuples, rolls-Those, rolls-Span}
use Rattle.zim_tree.specs.Trees.{angle_of, index_of}
use Rattle.zim_tree.specs.Levels.{Chain, products, sums, relations, conjunctions, disjunctions, Operands, compared, conjoined, disjoined, joined, factorial, relation_of, is_xor}
use Rattle.zim_nesting.specs.Depth.{Depth, no_nesting, a_loop, nesting_in_brackets, ◌followed_by◌, followed, all, nesting_if_given, expr_nesting, angle_nesting, index_nesting, body_nesting, depth, angle_depth, index_depth, body_depth, operations_depth, relations_depth, conjuncts_depth, disjuncts_depth, condition_depth}

abbrev at_expr : (d : Expr-F Body Expr Angle Index) → depth (roll-Expr d) ≡ expr_nesting (map-Expr Body Expr Angle Index Depth Depth Depth Depth body_depth depth angle_depth index_depth d)
at_expr = fold-roll-Expr Depth Depth Depth Depth body_nesting expr_nesting angle_nesting index_nesting

abbrev at_body : (d : Body-F Body Expr Angle Index) → body_depth (roll-Body d) ≡ body_nesting (map-Body Body Expr Angle Index Depth Depth Depth Depth body_depth depth angle_depth index_depth d)
at_body = fold-roll-Body Depth Depth Depth Depth body_nesting expr_nesting angle_nesting index_nesting

pub depth-angle : (place : Place) (items : List Expr) → angle_depth (angle_of place items) ≡ all (map depth items)
depth-angle place items = fold-roll-Angle Depth Depth Depth Depth body_nesting expr_nesting angle_nesting index_nesting (record { place = place; items = items })

pub depth-index : (place : Place) (tuple : Angle) (set : Expr) (cond : Option (Bool × Expr)) →
    index_depth (index_of place tuple set cond) ≡ angle_depth tuple followed_by depth set followed_by condition_depth cond
depth-index place tuple set None = fold-roll-Index Depth Depth Depth Depth body_nesting expr_nesting angle_nesting index_nesting (record { place = place; tuple = tuple; set = set; cond = None })
depth-index place tuple set (Some c) = fold-roll-Index Depth Depth Depth Depth body_nesting expr_nesting angle_nesting index_nesting (record { place = place; tuple = tuple; set = set; cond = Some c })

pub depth-Number : (place : Place) (digits : List ℕ) → depth (Number place digits) ≡ no_nesting
depth-Number place digits = ap depth (sym (rolls-Number place digits)) ∙ at_expr (Expr-F.Number place digits)

pub depth-Text : (place : Place) (text : List ℕ) (double : Bool) → depth (Text place text double) ≡ no_nesting
depth-Text place text double = ap depth (sym (rolls-Text place text double)) ∙ at_expr (Expr-F.Text place text double)

pub depth-Truth : (place : Place) (truth : Bool) → depth (Truth place truth) ≡ no_nesting
depth-Truth place truth = ap depth (sym (rolls-Truth place truth)) ∙ at_expr (Expr-F.Truth place truth)

pub depth-Infinity : (place : Place) → depth (Infinity place) ≡ no_nesting
depth-Infinity place = ap depth (sym (rolls-Infinity place)) ∙ at_expr (Expr-F.Infinity place)

pub depth-Name : (place : Place) (name : List ℕ) → depth (Name place name) ≡ no_nesting
depth-Name place name = ap depth (sym (rolls-Name place name)) ∙ at_expr (Expr-F.Name place name)

pub depth-Item : (place : Place) (name : List ℕ) (index : List Expr) → depth (Item place name index) ≡ nesting_in_brackets (all (map depth index))
depth-Item place name index = ap depth (sym (rolls-Item place name index)) ∙ at_expr (Expr-F.Item place name index)

pub depth-Call : (place : Place) (name : List ℕ) (given : List Expr) → depth (Call place name given) ≡ nesting_in_brackets (all (map depth given))
depth-Call place name given = ap depth (sym (rolls-Call place name given)) ∙ at_expr (Expr-F.Call place name given)

pub depth-Func : (place : Place) (function : Word) (given : List Expr) → depth (Func place function given) ≡ nesting_in_brackets (all (map depth given))
depth-Func place function given = ap depth (sym (rolls-Func place function given)) ∙ at_expr (Expr-F.Func place function given)

pub depth-Proj : (place : Place) (set : Expr) (positions : Angle) → depth (Proj place set positions) ≡ nesting_in_brackets (depth set followed_by angle_depth positions)
depth-Proj place set positions = ap depth (sym (rolls-Proj place set positions)) ∙ at_expr (Expr-F.Proj place set positions)

pub depth-Paren : (place : Place) (inner : Expr) → depth (Paren place inner) ≡ nesting_in_brackets (depth inner)
depth-Paren place inner = ap depth (sym (rolls-Paren place inner)) ∙ at_expr (Expr-F.Paren place inner)

pub depth-Braces : (place : Place) (body : Body) → depth (Braces place body) ≡ nesting_in_brackets (body_depth body)
depth-Braces place body = ap depth (sym (rolls-Braces place body)) ∙ at_expr (Expr-F.Braces place body)

pub depth-Factorial : (operand : Expr) (places : List Place) → depth (Factorial operand places) ≡ depth operand
depth-Factorial operand places = ap depth (sym (rolls-Factorial operand places)) ∙ at_expr (Expr-F.Factorial operand places)

pub depth-Power : (place : Place) (sign : Sign) (base : Expr) (signed : Option (Place × Bool)) (exponent : Expr) → depth (Power place sign base signed exponent) ≡ depth base followed_by depth exponent
depth-Power place sign base signed exponent = ap depth (sym (rolls-Power place sign base signed exponent)) ∙ at_expr (Expr-F.Power place sign base signed exponent)

pub depth-Signed : (place : Place) (minus : Bool) (operand : Expr) → depth (Signed place minus operand) ≡ depth operand
depth-Signed place minus operand = ap depth (sym (rolls-Signed place minus operand)) ∙ at_expr (Expr-F.Signed place minus operand)

pub depth-Big : (place : Place) (loop : Word) (index : Index) (with_do : Bool) (operand : Expr) → depth (Big place loop index with_do operand) ≡ a_loop followed_by index_depth index followed_by depth operand
depth-Big place loop index with_do operand = ap depth (sym (rolls-Big place loop index with_do operand)) ∙ at_expr (Expr-F.Big place loop index with_do operand)

pub depth-Times : (first : Expr) (others : List (Place × Token × Expr)) → depth (Times first others) ≡ operations_depth (depth first) others
depth-Times first others = ap depth (sym (rolls-Times first others)) ∙ at_expr (Expr-F.Times first others)
    ∙ ap (followed (depth first)) (map-map (λ (x : Place × Token × Depth). x.2) (λ (x : Place × Token × Expr). (x.0, x.1, depth x.2)) others)

pub depth-Plus : (first : Expr) (others : List (Place × Token × Expr)) → depth (Plus first others) ≡ operations_depth (depth first) others
depth-Plus first others = ap depth (sym (rolls-Plus first others)) ∙ at_expr (Expr-F.Plus first others)
    ∙ ap (followed (depth first)) (map-map (λ (x : Place × Token × Depth). x.2) (λ (x : Place × Token × Expr). (x.0, x.1, depth x.2)) others)

pub depth-Compare : (first : Expr) (others : List (Place × Relation × Expr)) → depth (Compare first others) ≡ relations_depth (depth first) others
depth-Compare first others = ap depth (sym (rolls-Compare first others)) ∙ at_expr (Expr-F.Compare first others)
    ∙ ap (followed (depth first)) (map-map (λ (x : Place × Relation × Depth). x.2) (λ (x : Place × Relation × Expr). (x.0, x.1, depth x.2)) others)

pub depth-Member : (place : Place) (tuple : Angle) (set : Expr) → depth (Member place tuple set) ≡ angle_depth tuple followed_by depth set
depth-Member place tuple set = ap depth (sym (rolls-Member place tuple set)) ∙ at_expr (Expr-F.Member place tuple set)

pub depth-Not : (place : Place) (operand : Expr) → depth (Not place operand) ≡ depth operand
depth-Not place operand = ap depth (sym (rolls-Not place operand)) ∙ at_expr (Expr-F.Not place operand)

pub depth-And : (first : Expr) (others : List (Place × Expr)) → depth (And first others) ≡ conjuncts_depth (depth first) others
depth-And first others = ap depth (sym (rolls-And first others)) ∙ at_expr (Expr-F.And first others)
    ∙ ap (followed (depth first)) (map-map (λ (x : Place × Depth). x.1) (λ (x : Place × Expr). (x.0, depth x.1)) others)

pub depth-Or : (first : Expr) (others : List (Place × Bool × Expr)) → depth (Or first others) ≡ disjuncts_depth (depth first) others
depth-Or first others = ap depth (sym (rolls-Or first others)) ∙ at_expr (Expr-F.Or first others)
    ∙ ap (followed (depth first)) (map-map (λ (x : Place × Bool × Depth). x.2) (λ (x : Place × Bool × Expr). (x.0, x.1, depth x.2)) others)

pub depth-Forall : (place : Place) (index : Index) (with_do : Bool) (body : Expr) → depth (Forall place index with_do body) ≡ a_loop followed_by index_depth index followed_by depth body
depth-Forall place index with_do body = ap depth (sym (rolls-Forall place index with_do body)) ∙ at_expr (Expr-F.Forall place index with_do body)

pub depth-If : (place : Place) (vif : Bool) (test : Expr) (branch : Expr) (otherwise : Option Expr) →
    depth (If place vif test branch otherwise) ≡ nesting_in_brackets (depth test followed_by depth branch followed_by nesting_if_given (option_map depth otherwise))
depth-If place vif test branch None = ap depth (sym (rolls-If place vif test branch None)) ∙ at_expr (Expr-F.If place vif test branch None)
depth-If place vif test branch (Some otherwise) = ap depth (sym (rolls-If place vif test branch (Some otherwise))) ∙ at_expr (Expr-F.If place vif test branch (Some otherwise))

pub depth-Empty : body_depth Empty ≡ no_nesting
depth-Empty = ap body_depth (sym rolls-Empty) ∙ at_body Body-F.Empty

pub depth-Members : (members : List Expr) → body_depth (Members members) ≡ all (map depth members)
depth-Members members = ap body_depth (sym (rolls-Members members)) ∙ at_body (Body-F.Members members)

pub depth-Tuples : (tuples : List Angle) → body_depth (Tuples tuples) ≡ all (map angle_depth tuples)
depth-Tuples tuples = ap body_depth (sym (rolls-Tuples tuples)) ∙ at_body (Body-F.Tuples tuples)

pub depth-Those : (index : Index) → body_depth (Those index) ≡ index_depth index
depth-Those index = ap body_depth (sym (rolls-Those index)) ∙ at_body (Body-F.Those index)

pub depth-Span : (from : Expr) (with_to : Bool) (to : Expr) (by : Option Expr) → body_depth (Span from with_to to by) ≡ depth from followed_by depth to followed_by nesting_if_given (option_map depth by)
depth-Span from with_to to None = ap body_depth (sym (rolls-Span from with_to to None)) ∙ at_body (Body-F.Span from with_to to None)
depth-Span from with_to to (Some by) = ap body_depth (sym (rolls-Span from with_to to (Some by))) ∙ at_body (Body-F.Span from with_to to (Some by))

-- operands with their operators nest as the operands alone
pub depth-joined : (chain : Chain) (first : Expr) (others : Operands) → depth (joined chain first others) ≡ followed (depth first) (map (λ (x : Place × Token × Expr). depth x.2) others)
depth-joined chain first [] = refl
depth-joined products first (other ∷ others) = depth-Times first (other ∷ others)
depth-joined sums first (other ∷ others) = depth-Plus first (other ∷ others)
depth-joined relations first (other ∷ others) = depth-Compare first (compared (other ∷ others))
    ∙ ap (followed (depth first)) (map-map (λ (x : Place × Relation × Expr). depth x.2) (λ (x : Place × Token × Expr). (x.0, relation_of x.1, x.2)) (other ∷ others))
depth-joined conjunctions first (other ∷ others) = depth-And first (conjoined (other ∷ others))
    ∙ ap (followed (depth first)) (map-map (λ (x : Place × Expr). depth x.1) (λ (x : Place × Token × Expr). (x.0, x.2)) (other ∷ others))
depth-joined disjunctions first (other ∷ others) = depth-Or first (disjoined (other ∷ others))
    ∙ ap (followed (depth first)) (map-map (λ (x : Place × Bool × Expr). depth x.2) (λ (x : Place × Token × Expr). (x.0, is_xor x.1, x.2)) (other ∷ others))

-- so does a factorial as its operand
pub depth-factorial : (operand : Expr) (places : List Place) → depth (factorial operand places) ≡ depth operand
depth-factorial operand [] = refl
depth-factorial operand (place ∷ places) = depth-Factorial operand (place ∷ places)

-- an index of the code
pub index-view : (index : Index) → index_depth index ≡ angle_depth (out-Index index).tuple followed_by depth (out-Index index).set followed_by condition_depth (out-Index index).cond
index-view index = ap index_depth (sym (roll-out-Index index)) ∙ depth-index (out-Index index).place (out-Index index).tuple (out-Index index).set (out-Index index).cond
