-- How the places of each form of a tree are mapped, one equation for each.
use Rattle.std.proofs.Common.{◌≡◌, ℕ, Bool, List, map, Option, Some, None, option_map, sym, ap, ◌∙◌}
use Rattle.std.proofs.lemmas.Simd.{map-map}
use Rattle.zim_fault.specs.declared.faults.Place.{Place}
use Rattle.zim_fault.specs.declared.tokens.Token.{Token}
use Rattle.zim_fault.specs.declared.tokens.Relation.{Relation}
use Rattle.zim_fault.specs.declared.signs.Sign.{Sign}
use Rattle.zim_fault.specs.declared.words.Word.{Word}
use Rattle.zim_tree.specs.declared.expr.Expr.{Expr, Expr-F, roll-Expr, map-Expr, fold-roll-Expr}
use Rattle.zim_tree.specs.declared.expr.Expr.TheVariants as tree
use Rattle.zim_tree.specs.declared.expr.Angle.{Angle, fold-roll-Angle}
use Rattle.zim_tree.specs.declared.expr.Index.{Index, fold-roll-Index}
use Rattle.zim_tree.specs.declared.expr.Body.{Body, Body-F, roll-Body, map-Body, fold-roll-Body}
use Rattle.zim_tree.specs.declared.expr.Body.TheVariants as body
use Rattle.zim_tree.specs.Trees.{angle_of, index_of}
use Rattle.zim_tree.specs.Plain.{expr_replaced, angle_replaced, index_replaced, body_replaced, replaced, replaced_angle, replaced_index, replaced_body}

at_expr : (put : Place → Place) (d : Expr-F Body Expr Angle Index) → replaced put (roll-Expr d) ≡ expr_replaced put (map-Expr Body Expr Angle Index Body Expr Angle Index (replaced_body put) (replaced put) (replaced_angle put) (replaced_index put) d)
at_expr put = fold-roll-Expr Body Expr Angle Index body_replaced (expr_replaced put) (angle_replaced put) (index_replaced put)

at_body : (put : Place → Place) (d : Body-F Body Expr Angle Index) → replaced_body put (roll-Body d) ≡ body_replaced (map-Body Body Expr Angle Index Body Expr Angle Index (replaced_body put) (replaced put) (replaced_angle put) (replaced_index put) d)
at_body put = fold-roll-Body Body Expr Angle Index body_replaced (expr_replaced put) (angle_replaced put) (index_replaced put)

pub replaced-angle : (put : Place → Place) (place : Place) (items : List Expr) → replaced_angle put (angle_of place items) ≡ angle_of (put place) (map (replaced put) items)
replaced-angle put place items = fold-roll-Angle Body Expr Angle Index body_replaced (expr_replaced put) (angle_replaced put) (index_replaced put) (record { place = place; items = items })

pub replaced-index : (put : Place → Place) (place : Place) (tuple : Angle) (set : Expr) (cond : Option (Bool × Expr)) → replaced_index put (index_of place tuple set cond) ≡ index_of (put place) (replaced_angle put tuple) (replaced put set) (option_map (λ (c : Bool × Expr). (c.0, replaced put c.1)) cond)
replaced-index put place tuple set None = fold-roll-Index Body Expr Angle Index body_replaced (expr_replaced put) (angle_replaced put) (index_replaced put) (record { place = place; tuple = tuple; set = set; cond = None })
replaced-index put place tuple set (Some c) = fold-roll-Index Body Expr Angle Index body_replaced (expr_replaced put) (angle_replaced put) (index_replaced put) (record { place = place; tuple = tuple; set = set; cond = Some c })

pub replaced-Number : (put : Place → Place) (place : Place) (digits : List ℕ) → replaced put (tree.Number place digits) ≡ tree.Number (put place) digits
replaced-Number put place digits = ap (replaced put) (sym (tree.rolls-Number place digits)) ∙ at_expr put (Expr-F.Number place digits)

pub replaced-Text : (put : Place → Place) (place : Place) (text : List ℕ) (double : Bool) → replaced put (tree.Text place text double) ≡ tree.Text (put place) text double
replaced-Text put place text double = ap (replaced put) (sym (tree.rolls-Text place text double)) ∙ at_expr put (Expr-F.Text place text double)

pub replaced-Truth : (put : Place → Place) (place : Place) (truth : Bool) → replaced put (tree.Truth place truth) ≡ tree.Truth (put place) truth
replaced-Truth put place truth = ap (replaced put) (sym (tree.rolls-Truth place truth)) ∙ at_expr put (Expr-F.Truth place truth)

pub replaced-Infinity : (put : Place → Place) (place : Place) → replaced put (tree.Infinity place) ≡ tree.Infinity (put place)
replaced-Infinity put place = ap (replaced put) (sym (tree.rolls-Infinity place)) ∙ at_expr put (Expr-F.Infinity place)

pub replaced-Name : (put : Place → Place) (place : Place) (name : List ℕ) → replaced put (tree.Name place name) ≡ tree.Name (put place) name
replaced-Name put place name = ap (replaced put) (sym (tree.rolls-Name place name)) ∙ at_expr put (Expr-F.Name place name)

pub replaced-Item : (put : Place → Place) (place : Place) (name : List ℕ) (index : List Expr) → replaced put (tree.Item place name index) ≡ tree.Item (put place) name (map (replaced put) index)
replaced-Item put place name index = ap (replaced put) (sym (tree.rolls-Item place name index)) ∙ at_expr put (Expr-F.Item place name index)

pub replaced-Call : (put : Place → Place) (place : Place) (name : List ℕ) (given : List Expr) → replaced put (tree.Call place name given) ≡ tree.Call (put place) name (map (replaced put) given)
replaced-Call put place name given = ap (replaced put) (sym (tree.rolls-Call place name given)) ∙ at_expr put (Expr-F.Call place name given)

pub replaced-Func : (put : Place → Place) (place : Place) (word : Word) (given : List Expr) → replaced put (tree.Func place word given) ≡ tree.Func (put place) word (map (replaced put) given)
replaced-Func put place word given = ap (replaced put) (sym (tree.rolls-Func place word given)) ∙ at_expr put (Expr-F.Func place word given)

pub replaced-Proj : (put : Place → Place) (place : Place) (set : Expr) (positions : Angle) → replaced put (tree.Proj place set positions) ≡ tree.Proj (put place) (replaced put set) (replaced_angle put positions)
replaced-Proj put place set positions = ap (replaced put) (sym (tree.rolls-Proj place set positions)) ∙ at_expr put (Expr-F.Proj place set positions)

pub replaced-Paren : (put : Place → Place) (place : Place) (inner : Expr) → replaced put (tree.Paren place inner) ≡ tree.Paren (put place) (replaced put inner)
replaced-Paren put place inner = ap (replaced put) (sym (tree.rolls-Paren place inner)) ∙ at_expr put (Expr-F.Paren place inner)

pub replaced-Braces : (put : Place → Place) (place : Place) (body : Body) → replaced put (tree.Braces place body) ≡ tree.Braces (put place) (replaced_body put body)
replaced-Braces put place body = ap (replaced put) (sym (tree.rolls-Braces place body)) ∙ at_expr put (Expr-F.Braces place body)

pub replaced-If : (put : Place → Place) (place : Place) (vif : Bool) (test : Expr) (branch : Expr) (otherwise : Option Expr) → replaced put (tree.If place vif test branch otherwise) ≡ tree.If (put place) vif (replaced put test) (replaced put branch) (option_map (replaced put) otherwise)
replaced-If put place vif test branch None = ap (replaced put) (sym (tree.rolls-If place vif test branch None)) ∙ at_expr put (Expr-F.If place vif test branch None)
replaced-If put place vif test branch (Some otherwise) = ap (replaced put) (sym (tree.rolls-If place vif test branch (Some otherwise))) ∙ at_expr put (Expr-F.If place vif test branch (Some otherwise))

pub replaced-Factorial : (put : Place → Place) (operand : Expr) (places : List Place) → replaced put (tree.Factorial operand places) ≡ tree.Factorial (replaced put operand) (map put places)
replaced-Factorial put operand places = ap (replaced put) (sym (tree.rolls-Factorial operand places)) ∙ at_expr put (Expr-F.Factorial operand places)

pub replaced-Power : (put : Place → Place) (place : Place) (sign : Sign) (base : Expr) (signed : Option (Place × Bool)) (exponent : Expr) → replaced put (tree.Power place sign base signed exponent) ≡ tree.Power (put place) sign (replaced put base) (option_map (λ (x : Place × Bool). (put x.0, x.1)) signed) (replaced put exponent)
replaced-Power put place sign base signed exponent = ap (replaced put) (sym (tree.rolls-Power place sign base signed exponent)) ∙ at_expr put (Expr-F.Power place sign base signed exponent)

pub replaced-Signed : (put : Place → Place) (place : Place) (minus : Bool) (operand : Expr) → replaced put (tree.Signed place minus operand) ≡ tree.Signed (put place) minus (replaced put operand)
replaced-Signed put place minus operand = ap (replaced put) (sym (tree.rolls-Signed place minus operand)) ∙ at_expr put (Expr-F.Signed place minus operand)

pub replaced-Big : (put : Place → Place) (place : Place) (word : Word) (index : Index) (with_do : Bool) (operand : Expr) → replaced put (tree.Big place word index with_do operand) ≡ tree.Big (put place) word (replaced_index put index) with_do (replaced put operand)
replaced-Big put place word index with_do operand = ap (replaced put) (sym (tree.rolls-Big place word index with_do operand)) ∙ at_expr put (Expr-F.Big place word index with_do operand)

pub replaced-Times : (put : Place → Place) (first : Expr) (others : List (Place × Token × Expr)) → replaced put (tree.Times first others) ≡ tree.Times (replaced put first) (map (λ (x : Place × Token × Expr). (put x.0, x.1, replaced put x.2)) others)
replaced-Times put first others = ap (replaced put) (sym (tree.rolls-Times first others)) ∙ at_expr put (Expr-F.Times first others) ∙ ap (λ (l : List (Place × Token × Expr)). tree.Times (replaced put first) l) (map-map (λ (x : Place × Token × Expr). (put x.0, x.1, x.2)) (λ (x : Place × Token × Expr). (x.0, x.1, replaced put x.2)) others)

pub replaced-Plus : (put : Place → Place) (first : Expr) (others : List (Place × Token × Expr)) → replaced put (tree.Plus first others) ≡ tree.Plus (replaced put first) (map (λ (x : Place × Token × Expr). (put x.0, x.1, replaced put x.2)) others)
replaced-Plus put first others = ap (replaced put) (sym (tree.rolls-Plus first others)) ∙ at_expr put (Expr-F.Plus first others) ∙ ap (λ (l : List (Place × Token × Expr)). tree.Plus (replaced put first) l) (map-map (λ (x : Place × Token × Expr). (put x.0, x.1, x.2)) (λ (x : Place × Token × Expr). (x.0, x.1, replaced put x.2)) others)

pub replaced-Compare : (put : Place → Place) (first : Expr) (others : List (Place × Relation × Expr)) → replaced put (tree.Compare first others) ≡ tree.Compare (replaced put first) (map (λ (x : Place × Relation × Expr). (put x.0, x.1, replaced put x.2)) others)
replaced-Compare put first others = ap (replaced put) (sym (tree.rolls-Compare first others)) ∙ at_expr put (Expr-F.Compare first others) ∙ ap (λ (l : List (Place × Relation × Expr)). tree.Compare (replaced put first) l) (map-map (λ (x : Place × Relation × Expr). (put x.0, x.1, x.2)) (λ (x : Place × Relation × Expr). (x.0, x.1, replaced put x.2)) others)

pub replaced-Member : (put : Place → Place) (place : Place) (tuple : Angle) (set : Expr) → replaced put (tree.Member place tuple set) ≡ tree.Member (put place) (replaced_angle put tuple) (replaced put set)
replaced-Member put place tuple set = ap (replaced put) (sym (tree.rolls-Member place tuple set)) ∙ at_expr put (Expr-F.Member place tuple set)

pub replaced-Not : (put : Place → Place) (place : Place) (operand : Expr) → replaced put (tree.Not place operand) ≡ tree.Not (put place) (replaced put operand)
replaced-Not put place operand = ap (replaced put) (sym (tree.rolls-Not place operand)) ∙ at_expr put (Expr-F.Not place operand)

pub replaced-And : (put : Place → Place) (first : Expr) (others : List (Place × Expr)) → replaced put (tree.And first others) ≡ tree.And (replaced put first) (map (λ (x : Place × Expr). (put x.0, replaced put x.1)) others)
replaced-And put first others = ap (replaced put) (sym (tree.rolls-And first others)) ∙ at_expr put (Expr-F.And first others) ∙ ap (λ (l : List (Place × Expr)). tree.And (replaced put first) l) (map-map (λ (x : Place × Expr). (put x.0, x.1)) (λ (x : Place × Expr). (x.0, replaced put x.1)) others)

pub replaced-Or : (put : Place → Place) (first : Expr) (others : List (Place × Bool × Expr)) → replaced put (tree.Or first others) ≡ tree.Or (replaced put first) (map (λ (x : Place × Bool × Expr). (put x.0, x.1, replaced put x.2)) others)
replaced-Or put first others = ap (replaced put) (sym (tree.rolls-Or first others)) ∙ at_expr put (Expr-F.Or first others) ∙ ap (λ (l : List (Place × Bool × Expr)). tree.Or (replaced put first) l) (map-map (λ (x : Place × Bool × Expr). (put x.0, x.1, x.2)) (λ (x : Place × Bool × Expr). (x.0, x.1, replaced put x.2)) others)

pub replaced-Forall : (put : Place → Place) (place : Place) (index : Index) (with_do : Bool) (body : Expr) → replaced put (tree.Forall place index with_do body) ≡ tree.Forall (put place) (replaced_index put index) with_do (replaced put body)
replaced-Forall put place index with_do body = ap (replaced put) (sym (tree.rolls-Forall place index with_do body)) ∙ at_expr put (Expr-F.Forall place index with_do body)

pub replaced-Empty : (put : Place → Place) → replaced_body put body.Empty ≡ body.Empty
replaced-Empty put = ap (replaced_body put) (sym body.rolls-Empty) ∙ at_body put Body-F.Empty

pub replaced-Members : (put : Place → Place) (members : List Expr) → replaced_body put (body.Members members) ≡ body.Members (map (replaced put) members)
replaced-Members put members = ap (replaced_body put) (sym (body.rolls-Members members)) ∙ at_body put (Body-F.Members members)

pub replaced-Tuples : (put : Place → Place) (tuples : List Angle) → replaced_body put (body.Tuples tuples) ≡ body.Tuples (map (replaced_angle put) tuples)
replaced-Tuples put tuples = ap (replaced_body put) (sym (body.rolls-Tuples tuples)) ∙ at_body put (Body-F.Tuples tuples)

pub replaced-Those : (put : Place → Place) (index : Index) → replaced_body put (body.Those index) ≡ body.Those (replaced_index put index)
replaced-Those put index = ap (replaced_body put) (sym (body.rolls-Those index)) ∙ at_body put (Body-F.Those index)

pub replaced-Span : (put : Place → Place) (from : Expr) (with_to : Bool) (to : Expr) (by : Option Expr) → replaced_body put (body.Span from with_to to by) ≡ body.Span (replaced put from) with_to (replaced put to) (option_map (replaced put) by)
replaced-Span put from with_to to None = ap (replaced_body put) (sym (body.rolls-Span from with_to to None)) ∙ at_body put (Body-F.Span from with_to to None)
replaced-Span put from with_to to (Some by) = ap (replaced_body put) (sym (body.rolls-Span from with_to to (Some by))) ∙ at_body put (Body-F.Span from with_to to (Some by))
