-- Whether the numbers in each form of a tree are number tokens, one equation for each.
use Rattle.std.proofs.Common.{◌≡◌, ℕ, Bool, true, ◌&&◌, List, [], ◌∷◌, map, Option, Some, None, option_map, refl, sym, ap, ◌∙◌}
use Rattle.std.specs.List.{list_all}
use Rattle.zim_decimal.specs.Token.{is_number_token}
use Rattle.zim_fault.specs.declared.faults.Place.{Place}
use Rattle.zim_fault.specs.declared.tokens.Token.{Token}
use Rattle.zim_fault.specs.declared.tokens.Relation.{Relation}
use Rattle.zim_fault.specs.declared.signs.Sign.{Sign}
use Rattle.zim_fault.specs.declared.words.Word.{Word}
use Rattle.zim_tree.specs.declared.expr.Expr.{Expr, Expr-F, map-Expr, roll-Expr, fold-roll-Expr}
use Rattle.zim_tree.specs.declared.expr.Expr.TheVariants.{Number, Text, Truth, Infinity, Name, Item, Call, Func, Proj, Paren, Braces, If, Factorial, Power, Signed, Big, Times, Plus, Compare, Member, Not, And, Or, Forall, rolls-Number, rolls-Text, rolls-Truth, rolls-Infinity, rolls-Name, rolls-Item, rolls-Call, rolls-Func, rolls-Proj, rolls-Paren, rolls-Braces, rolls-If, rolls-Factorial, rolls-Power, rolls-Signed, rolls-Big, rolls-Times, rolls-Plus, rolls-Compare, rolls-Member, rolls-Not, rolls-And, rolls-Or, rolls-Forall}
use Rattle.zim_tree.specs.declared.expr.Angle.{Angle, fold-roll-Angle}
use Rattle.zim_tree.specs.declared.expr.Index.{Index, fold-roll-Index}
use Rattle.zim_tree.specs.declared.expr.Body.{Body, Body-F, map-Body, roll-Body, fold-roll-Body}
use Rattle.zim_tree.specs.declared.expr.Body.TheVariants.{Empty, Members, Tuples, Those, Span, rolls-Empty, rolls-Members, rolls-Tuples, rolls-Those, rolls-Span}
use Rattle.zim_tree.specs.Trees.{angle_of, index_of}
use Rattle.zim_typing.specs.Numbers.{all_of, if_given, numbers_in_expr, numbers_in_tuple, numbers_in_index, numbers_in_body, numbers_kept, tuple_numbers_kept, index_numbers_kept, body_numbers_kept}

all_mapped : {A : Type 0} (kept : A → Bool) (items : List A) → all_of (map kept items) ≡ list_all kept items
all_mapped kept [] = refl
all_mapped kept (item ∷ items) = ap (λ (b : Bool). kept item && b) (all_mapped kept items)

all_behind : {O : Type 0} (others : List (Place × O × Expr)) →
    all_of (map (λ (x : Place × O × Bool). x.2) (map (λ (x : Place × O × Expr). (x.0, x.1, numbers_kept x.2)) others)) ≡ list_all numbers_kept (map (λ (x : Place × O × Expr). x.2) others)
all_behind [] = refl
all_behind (other ∷ others) = ap (λ (b : Bool). numbers_kept other.2 && b) (all_behind others)

all_behind_and : (others : List (Place × Expr)) →
    all_of (map (λ (x : Place × Bool). x.1) (map (λ (x : Place × Expr). (x.0, numbers_kept x.1)) others)) ≡ list_all numbers_kept (map (λ (x : Place × Expr). x.1) others)
all_behind_and [] = refl
all_behind_and (other ∷ others) = ap (λ (b : Bool). numbers_kept other.1 && b) (all_behind_and others)

at_expr : (d : Expr-F Body Expr Angle Index) → numbers_kept (roll-Expr d) ≡ numbers_in_expr (map-Expr Body Expr Angle Index Bool Bool Bool Bool body_numbers_kept numbers_kept tuple_numbers_kept index_numbers_kept d)
unfolding numbers_kept body_numbers_kept tuple_numbers_kept index_numbers_kept
at_expr = fold-roll-Expr Bool Bool Bool Bool numbers_in_body numbers_in_expr numbers_in_tuple numbers_in_index

at_body : (d : Body-F Body Expr Angle Index) → body_numbers_kept (roll-Body d) ≡ numbers_in_body (map-Body Body Expr Angle Index Bool Bool Bool Bool body_numbers_kept numbers_kept tuple_numbers_kept index_numbers_kept d)
unfolding numbers_kept body_numbers_kept tuple_numbers_kept index_numbers_kept
at_body = fold-roll-Body Bool Bool Bool Bool numbers_in_body numbers_in_expr numbers_in_tuple numbers_in_index

pub keeps-Number : (place : Place) (digits : List ℕ) → numbers_kept (Number place digits) ≡ is_number_token digits
keeps-Number place digits = ap numbers_kept (sym (rolls-Number place digits)) ∙ at_expr (Expr-F.Number place digits)

pub keeps-Text : (place : Place) (text : List ℕ) (double : Bool) → numbers_kept (Text place text double) ≡ true
keeps-Text place text double = ap numbers_kept (sym (rolls-Text place text double)) ∙ at_expr (Expr-F.Text place text double)

pub keeps-Truth : (place : Place) (truth : Bool) → numbers_kept (Truth place truth) ≡ true
keeps-Truth place truth = ap numbers_kept (sym (rolls-Truth place truth)) ∙ at_expr (Expr-F.Truth place truth)

pub keeps-Infinity : (place : Place) → numbers_kept (Infinity place) ≡ true
keeps-Infinity place = ap numbers_kept (sym (rolls-Infinity place)) ∙ at_expr (Expr-F.Infinity place)

pub keeps-Name : (place : Place) (name : List ℕ) → numbers_kept (Name place name) ≡ true
keeps-Name place name = ap numbers_kept (sym (rolls-Name place name)) ∙ at_expr (Expr-F.Name place name)

pub keeps-Item : (place : Place) (name : List ℕ) (index : List Expr) → numbers_kept (Item place name index) ≡ list_all numbers_kept index
keeps-Item place name index = ap numbers_kept (sym (rolls-Item place name index)) ∙ at_expr (Expr-F.Item place name index) ∙ all_mapped numbers_kept index

pub keeps-Call : (place : Place) (name : List ℕ) (given : List Expr) → numbers_kept (Call place name given) ≡ list_all numbers_kept given
keeps-Call place name given = ap numbers_kept (sym (rolls-Call place name given)) ∙ at_expr (Expr-F.Call place name given) ∙ all_mapped numbers_kept given

pub keeps-Func : (place : Place) (word : Word) (given : List Expr) → numbers_kept (Func place word given) ≡ list_all numbers_kept given
keeps-Func place word given = ap numbers_kept (sym (rolls-Func place word given)) ∙ at_expr (Expr-F.Func place word given) ∙ all_mapped numbers_kept given

pub keeps-Proj : (place : Place) (set : Expr) (positions : Angle) → numbers_kept (Proj place set positions) ≡ (numbers_kept set && tuple_numbers_kept positions)
keeps-Proj place set positions = ap numbers_kept (sym (rolls-Proj place set positions)) ∙ at_expr (Expr-F.Proj place set positions)

pub keeps-Paren : (place : Place) (inner : Expr) → numbers_kept (Paren place inner) ≡ numbers_kept inner
keeps-Paren place inner = ap numbers_kept (sym (rolls-Paren place inner)) ∙ at_expr (Expr-F.Paren place inner)

pub keeps-Braces : (place : Place) (inside : Body) → numbers_kept (Braces place inside) ≡ body_numbers_kept inside
keeps-Braces place inside = ap numbers_kept (sym (rolls-Braces place inside)) ∙ at_expr (Expr-F.Braces place inside)

pub keeps-If : (place : Place) (vif : Bool) (test branch : Expr) (otherwise : Option Expr) → numbers_kept (If place vif test branch otherwise) ≡ (numbers_kept test && (numbers_kept branch && if_given (option_map numbers_kept otherwise)))
keeps-If place vif test branch None = ap numbers_kept (sym (rolls-If place vif test branch None)) ∙ at_expr (Expr-F.If place vif test branch None)
keeps-If place vif test branch (Some otherwise) = ap numbers_kept (sym (rolls-If place vif test branch (Some otherwise))) ∙ at_expr (Expr-F.If place vif test branch (Some otherwise))

pub keeps-Factorial : (operand : Expr) (marks : List Place) → numbers_kept (Factorial operand marks) ≡ numbers_kept operand
keeps-Factorial operand marks = ap numbers_kept (sym (rolls-Factorial operand marks)) ∙ at_expr (Expr-F.Factorial operand marks)

pub keeps-Power : (place : Place) (sign : Sign) (base : Expr) (signed : Option (Place × Bool)) (exponent : Expr) → numbers_kept (Power place sign base signed exponent) ≡ (numbers_kept base && numbers_kept exponent)
keeps-Power place sign base signed exponent = ap numbers_kept (sym (rolls-Power place sign base signed exponent)) ∙ at_expr (Expr-F.Power place sign base signed exponent)

pub keeps-Signed : (place : Place) (minus : Bool) (operand : Expr) → numbers_kept (Signed place minus operand) ≡ numbers_kept operand
keeps-Signed place minus operand = ap numbers_kept (sym (rolls-Signed place minus operand)) ∙ at_expr (Expr-F.Signed place minus operand)

pub keeps-Big : (place : Place) (word : Word) (index : Index) (with_do : Bool) (operand : Expr) → numbers_kept (Big place word index with_do operand) ≡ (index_numbers_kept index && numbers_kept operand)
keeps-Big place word index with_do operand = ap numbers_kept (sym (rolls-Big place word index with_do operand)) ∙ at_expr (Expr-F.Big place word index with_do operand)

pub keeps-Times : (first : Expr) (others : List (Place × Token × Expr)) → numbers_kept (Times first others) ≡ (numbers_kept first && list_all numbers_kept (map (λ x. x.2) others))
keeps-Times first others = ap numbers_kept (sym (rolls-Times first others)) ∙ at_expr (Expr-F.Times first others) ∙ ap (λ (b : Bool). numbers_kept first && b) (all_behind others)

pub keeps-Plus : (first : Expr) (others : List (Place × Token × Expr)) → numbers_kept (Plus first others) ≡ (numbers_kept first && list_all numbers_kept (map (λ x. x.2) others))
keeps-Plus first others = ap numbers_kept (sym (rolls-Plus first others)) ∙ at_expr (Expr-F.Plus first others) ∙ ap (λ (b : Bool). numbers_kept first && b) (all_behind others)

pub keeps-Compare : (first : Expr) (others : List (Place × Relation × Expr)) → numbers_kept (Compare first others) ≡ (numbers_kept first && list_all numbers_kept (map (λ x. x.2) others))
keeps-Compare first others = ap numbers_kept (sym (rolls-Compare first others)) ∙ at_expr (Expr-F.Compare first others) ∙ ap (λ (b : Bool). numbers_kept first && b) (all_behind others)

pub keeps-Member : (place : Place) (tuple : Angle) (set : Expr) → numbers_kept (Member place tuple set) ≡ (tuple_numbers_kept tuple && numbers_kept set)
keeps-Member place tuple set = ap numbers_kept (sym (rolls-Member place tuple set)) ∙ at_expr (Expr-F.Member place tuple set)

pub keeps-Not : (place : Place) (operand : Expr) → numbers_kept (Not place operand) ≡ numbers_kept operand
keeps-Not place operand = ap numbers_kept (sym (rolls-Not place operand)) ∙ at_expr (Expr-F.Not place operand)

pub keeps-And : (first : Expr) (others : List (Place × Expr)) → numbers_kept (And first others) ≡ (numbers_kept first && list_all numbers_kept (map (λ x. x.1) others))
keeps-And first others = ap numbers_kept (sym (rolls-And first others)) ∙ at_expr (Expr-F.And first others) ∙ ap (λ (b : Bool). numbers_kept first && b) (all_behind_and others)

pub keeps-Or : (first : Expr) (others : List (Place × Bool × Expr)) → numbers_kept (Or first others) ≡ (numbers_kept first && list_all numbers_kept (map (λ x. x.2) others))
keeps-Or first others = ap numbers_kept (sym (rolls-Or first others)) ∙ at_expr (Expr-F.Or first others) ∙ ap (λ (b : Bool). numbers_kept first && b) (all_behind others)

pub keeps-Forall : (place : Place) (index : Index) (with_do : Bool) (inside : Expr) → numbers_kept (Forall place index with_do inside) ≡ (index_numbers_kept index && numbers_kept inside)
keeps-Forall place index with_do inside = ap numbers_kept (sym (rolls-Forall place index with_do inside)) ∙ at_expr (Expr-F.Forall place index with_do inside)

pub keeps_tuple : (place : Place) (items : List Expr) → tuple_numbers_kept (angle_of place items) ≡ list_all numbers_kept items
unfolding numbers_kept tuple_numbers_kept
keeps_tuple place items = fold-roll-Angle Bool Bool Bool Bool numbers_in_body numbers_in_expr numbers_in_tuple numbers_in_index (record { place = place; items = items }) ∙ all_mapped numbers_kept items

-- a condition, if there is one
abbrev pub condition_kept : Option (Bool × Expr) → Bool
condition_kept None = true
condition_kept (Some c) = numbers_kept c.1

pub keeps_index : (place : Place) (tuple : Angle) (set : Expr) (cond : Option (Bool × Expr)) →
    index_numbers_kept (index_of place tuple set cond) ≡ (tuple_numbers_kept tuple && (numbers_kept set && condition_kept cond))
unfolding numbers_kept body_numbers_kept tuple_numbers_kept index_numbers_kept
keeps_index place tuple set None = fold-roll-Index Bool Bool Bool Bool numbers_in_body numbers_in_expr numbers_in_tuple numbers_in_index (record { place = place; tuple = tuple; set = set; cond = None })
keeps_index place tuple set (Some c) = fold-roll-Index Bool Bool Bool Bool numbers_in_body numbers_in_expr numbers_in_tuple numbers_in_index (record { place = place; tuple = tuple; set = set; cond = Some c })

pub keeps-Empty : body_numbers_kept Empty ≡ true
keeps-Empty = ap body_numbers_kept (sym rolls-Empty) ∙ at_body Body-F.Empty

pub keeps-Members : (members : List Expr) → body_numbers_kept (Members members) ≡ list_all numbers_kept members
keeps-Members members = ap body_numbers_kept (sym (rolls-Members members)) ∙ at_body (Body-F.Members members) ∙ all_mapped numbers_kept members

pub keeps-Tuples : (tuples : List Angle) → body_numbers_kept (Tuples tuples) ≡ list_all tuple_numbers_kept tuples
keeps-Tuples tuples = ap body_numbers_kept (sym (rolls-Tuples tuples)) ∙ at_body (Body-F.Tuples tuples) ∙ all_mapped tuple_numbers_kept tuples

pub keeps-Those : (index : Index) → body_numbers_kept (Those index) ≡ index_numbers_kept index
keeps-Those index = ap body_numbers_kept (sym (rolls-Those index)) ∙ at_body (Body-F.Those index)

pub keeps-Span : (from : Expr) (with_to : Bool) (to : Expr) (by : Option Expr) →
    body_numbers_kept (Span from with_to to by) ≡ (numbers_kept from && (numbers_kept to && if_given (option_map numbers_kept by)))
keeps-Span from with_to to None = ap body_numbers_kept (sym (rolls-Span from with_to to None)) ∙ at_body (Body-F.Span from with_to to None)
keeps-Span from with_to to (Some by) = ap body_numbers_kept (sym (rolls-Span from with_to to (Some by))) ∙ at_body (Body-F.Span from with_to to (Some by))
