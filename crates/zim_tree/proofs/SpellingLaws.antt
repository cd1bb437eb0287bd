-- How each form of a tree is spelled, one equation for each.
use Rattle.std.proofs.Common.{◌≡◌, ℕ, Bool, List, [], ◌∷◌, ◌++◌, map, Option, Some, None, option_map, if◌then◌else◌, sym, ap, ◌∙◌}
use Rattle.zim_fault.specs.declared.faults.Place.{Place}
use Rattle.zim_fault.specs.declared.tokens.Token.{Token}
use Rattle.zim_fault.specs.declared.tokens.Token.TheVariants.{Name as name_token, Word as word_token, Number as number_token, Text as text_token, Sign as sign_token}
use Rattle.zim_fault.specs.declared.tokens.Relation.{Relation}
use Rattle.zim_fault.specs.declared.signs.Sign.{Sign}
use Rattle.zim_fault.specs.declared.signs.Sign.TheVariants.{SComma, SLeftParen, SRightParen, SLeftBracket, SRightBracket, SLeftBrace, SRightBrace, SLess, SGreater, SDots}
use Rattle.zim_fault.specs.declared.words.Word.{Word}
use Rattle.zim_fault.specs.declared.words.Word.TheVariants.{WForall, WIf, WThen, WEnd, WVif, WNot, WIn, WTo, WTrue, WFalse, WInfinity, WProj}
use Rattle.zim_tree.specs.declared.expr.Expr.{Expr, Expr-F, roll-Expr, map-Expr, fold-roll-Expr}
use Rattle.zim_tree.specs.declared.expr.Expr.TheVariants.{Number, Text, Truth, Infinity, Name, Item, Call, Func, Proj, Paren, Braces, If, Factorial, Power, Signed, Big, Times, Plus, Compare, Member, Not, And, Or, Forall, rolls-Number, rolls-Text, rolls-Truth, rolls-Infinity, rolls-Name, rolls-Item, rolls-Call, rolls-Func, rolls-Proj, rolls-Paren, rolls-Braces, rolls-If, rolls-Factorial, rolls-Power, rolls-Signed, rolls-Big, rolls-Times, rolls-Plus, rolls-Compare, rolls-Member, rolls-Not, rolls-And, rolls-Or, rolls-Forall}
use Rattle.zim_tree.specs.declared.expr.Angle.{Angle, fold-roll-Angle}
use Rattle.zim_tree.specs.declared.expr.Index.{Index, fold-roll-Index}
use Rattle.zim_tree.specs.declared.expr.Body.{Body, Body-F, roll-Body, map-Body, fold-roll-Body}
use Rattle.zim_tree.specs.declared.expr.Body.TheVariants.{Empty, Members, Tuples, Those, Span, rolls-Empty, rolls-Members, rolls-Tuples, rolls-Those, rolls-Span}
use Rattle.zim_tree.specs.Trees.{angle_of, index_of}
use Rattle.zim_tree.specs.Spelling.{Tokens, expr_spelled, angle_spelled, index_spelled, body_spelled, spelling, angle_spelling, index_spelling, body_spelling, a_word, a_sign, with_commas, sign_of, separator, marks, operations, relations, conjuncts, disjuncts, exponent_sign_spelled, else_part, by_part, condition}

abbrev at_expr : (d : Expr-F Body Expr Angle Index) → spelling (roll-Expr d) ≡ expr_spelled (map-Expr Body Expr Angle Index Tokens Tokens Tokens Tokens body_spelling spelling angle_spelling index_spelling d)
at_expr = fold-roll-Expr Tokens Tokens Tokens Tokens body_spelled expr_spelled angle_spelled index_spelled

abbrev at_body : (d : Body-F Body Expr Angle Index) → body_spelling (roll-Body d) ≡ body_spelled (map-Body Body Expr Angle Index Tokens Tokens Tokens Tokens body_spelling spelling angle_spelling index_spelling d)
at_body = fold-roll-Body Tokens Tokens Tokens Tokens body_spelled expr_spelled angle_spelled index_spelled

pub spelling-angle : (place : Place) (items : List Expr) → angle_spelling (angle_of place items) ≡ a_sign SLess ++ (with_commas (map spelling items) ++ a_sign SGreater)
spelling-angle place items = fold-roll-Angle Tokens Tokens Tokens Tokens body_spelled expr_spelled angle_spelled index_spelled (record { place = place; items = items })

pub spelling-index : (place : Place) (tuple : Angle) (set : Expr) (cond : Option (Bool × Expr)) → index_spelling (index_of place tuple set cond) ≡ angle_spelling tuple ++ (a_word WIn ++ (spelling set ++ condition (option_map (λ (c : Bool × Expr). (c.0, spelling c.1)) cond)))
spelling-index place tuple set None = fold-roll-Index Tokens Tokens Tokens Tokens body_spelled expr_spelled angle_spelled index_spelled (record { place = place; tuple = tuple; set = set; cond = None })
spelling-index place tuple set (Some c) = fold-roll-Index Tokens Tokens Tokens Tokens body_spelled expr_spelled angle_spelled index_spelled (record { place = place; tuple = tuple; set = set; cond = Some c })

pub spelling-Number : (place : Place) (digits : List ℕ) → spelling (Number place digits) ≡ number_token digits ∷ []
spelling-Number place digits = ap spelling (sym (rolls-Number place digits)) ∙ at_expr (Expr-F.Number place digits)

pub spelling-Text : (place : Place) (text : List ℕ) (double : Bool) → spelling (Text place text double) ≡ text_token text double ∷ []
spelling-Text place text double = ap spelling (sym (rolls-Text place text double)) ∙ at_expr (Expr-F.Text place text double)

pub spelling-Truth : (place : Place) (truth : Bool) → spelling (Truth place truth) ≡ a_word (if truth then WTrue else WFalse)
spelling-Truth place truth = ap spelling (sym (rolls-Truth place truth)) ∙ at_expr (Expr-F.Truth place truth)

pub spelling-Infinity : (place : Place) → spelling (Infinity place) ≡ a_word WInfinity
spelling-Infinity place = ap spelling (sym (rolls-Infinity place)) ∙ at_expr (Expr-F.Infinity place)

pub spelling-Name : (place : Place) (name : List ℕ) → spelling (Name place name) ≡ name_token name ∷ []
spelling-Name place name = ap spelling (sym (rolls-Name place name)) ∙ at_expr (Expr-F.Name place name)

pub spelling-Item : (place : Place) (name : List ℕ) (index : List Expr) → spelling (Item place name index) ≡ name_token name ∷ (a_sign SLeftBracket ++ (with_commas (map spelling index) ++ a_sign SRightBracket))
spelling-Item place name index = ap spelling (sym (rolls-Item place name index)) ∙ at_expr (Expr-F.Item place name index)

pub spelling-Call : (place : Place) (name : List ℕ) (given : List Expr) → spelling (Call place name given) ≡ name_token name ∷ (a_sign SLeftParen ++ (with_commas (map spelling given) ++ a_sign SRightParen))
spelling-Call place name given = ap spelling (sym (rolls-Call place name given)) ∙ at_expr (Expr-F.Call place name given)

pub spelling-Func : (place : Place) (word : Word) (given : List Expr) → spelling (Func place word given) ≡ word_token word ∷ (a_sign SLeftParen ++ (with_commas (map spelling given) ++ a_sign SRightParen))
spelling-Func place word given = ap spelling (sym (rolls-Func place word given)) ∙ at_expr (Expr-F.Func place word given)

pub spelling-Proj : (place : Place) (set : Expr) (positions : Angle) → spelling (Proj place set positions) ≡ a_word WProj ++ (a_sign SLeftParen ++ ((spelling set) ++ (a_sign SComma ++ ((angle_spelling positions) ++ a_sign SRightParen))))
spelling-Proj place set positions = ap spelling (sym (rolls-Proj place set positions)) ∙ at_expr (Expr-F.Proj place set positions)

pub spelling-Paren : (place : Place) (inner : Expr) → spelling (Paren place inner) ≡ a_sign SLeftParen ++ ((spelling inner) ++ a_sign SRightParen)
spelling-Paren place inner = ap spelling (sym (rolls-Paren place inner)) ∙ at_expr (Expr-F.Paren place inner)

pub spelling-Braces : (place : Place) (body : Body) → spelling (Braces place body) ≡ a_sign SLeftBrace ++ ((body_spelling body) ++ a_sign SRightBrace)
spelling-Braces place body = ap spelling (sym (rolls-Braces place body)) ∙ at_expr (Expr-F.Braces place body)

pub spelling-If : (place : Place) (vif : Bool) (test : Expr) (branch : Expr) (otherwise : Option Expr) → spelling (If place vif test branch otherwise) ≡ a_word (if vif then WVif else WIf) ++ ((spelling test) ++ (a_word WThen ++ ((spelling branch) ++ (else_part (option_map spelling otherwise) ++ a_word WEnd))))
spelling-If place vif test branch None = ap spelling (sym (rolls-If place vif test branch None)) ∙ at_expr (Expr-F.If place vif test branch None)
spelling-If place vif test branch (Some otherwise) = ap spelling (sym (rolls-If place vif test branch (Some otherwise))) ∙ at_expr (Expr-F.If place vif test branch (Some otherwise))

pub spelling-Factorial : (operand : Expr) (places : List Place) → spelling (Factorial operand places) ≡ (spelling operand) ++ marks places
spelling-Factorial operand places = ap spelling (sym (rolls-Factorial operand places)) ∙ at_expr (Expr-F.Factorial operand places)

pub spelling-Power : (place : Place) (sign : Sign) (base : Expr) (signed : Option (Place × Bool)) (exponent : Expr) → spelling (Power place sign base signed exponent) ≡ (spelling base) ++ (a_sign sign ++ (exponent_sign_spelled signed ++ (spelling exponent)))
spelling-Power place sign base signed exponent = ap spelling (sym (rolls-Power place sign base signed exponent)) ∙ at_expr (Expr-F.Power place sign base signed exponent)

pub spelling-Signed : (place : Place) (minus : Bool) (operand : Expr) → spelling (Signed place minus operand) ≡ sign_of minus ++ (spelling operand)
spelling-Signed place minus operand = ap spelling (sym (rolls-Signed place minus operand)) ∙ at_expr (Expr-F.Signed place minus operand)

pub spelling-Big : (place : Place) (word : Word) (index : Index) (with_do : Bool) (operand : Expr) → spelling (Big place word index with_do operand) ≡ a_word word ++ ((index_spelling index) ++ (separator with_do ++ (spelling operand)))
spelling-Big place word index with_do operand = ap spelling (sym (rolls-Big place word index with_do operand)) ∙ at_expr (Expr-F.Big place word index with_do operand)

pub spelling-Times : (first : Expr) (others : List (Place × Token × Expr)) → spelling (Times first others) ≡ (spelling first) ++ operations (map (λ (x : Place × Token × Expr). (x.0, x.1, spelling x.2)) others)
spelling-Times first others = ap spelling (sym (rolls-Times first others)) ∙ at_expr (Expr-F.Times first others)

pub spelling-Plus : (first : Expr) (others : List (Place × Token × Expr)) → spelling (Plus first others) ≡ (spelling first) ++ operations (map (λ (x : Place × Token × Expr). (x.0, x.1, spelling x.2)) others)
spelling-Plus first others = ap spelling (sym (rolls-Plus first others)) ∙ at_expr (Expr-F.Plus first others)

pub spelling-Compare : (first : Expr) (others : List (Place × Relation × Expr)) → spelling (Compare first others) ≡ (spelling first) ++ relations (map (λ (x : Place × Relation × Expr). (x.0, x.1, spelling x.2)) others)
spelling-Compare first others = ap spelling (sym (rolls-Compare first others)) ∙ at_expr (Expr-F.Compare first others)

pub spelling-Member : (place : Place) (tuple : Angle) (set : Expr) → spelling (Member place tuple set) ≡ (angle_spelling tuple) ++ (a_word WIn ++ (spelling set))
spelling-Member place tuple set = ap spelling (sym (rolls-Member place tuple set)) ∙ at_expr (Expr-F.Member place tuple set)

pub spelling-Not : (place : Place) (operand : Expr) → spelling (Not place operand) ≡ a_word WNot ++ (spelling operand)
spelling-Not place operand = ap spelling (sym (rolls-Not place operand)) ∙ at_expr (Expr-F.Not place operand)

pub spelling-And : (first : Expr) (others : List (Place × Expr)) → spelling (And first others) ≡ (spelling first) ++ conjuncts (map (λ (x : Place × Expr). (x.0, spelling x.1)) others)
spelling-And first others = ap spelling (sym (rolls-And first others)) ∙ at_expr (Expr-F.And first others)

pub spelling-Or : (first : Expr) (others : List (Place × Bool × Expr)) → spelling (Or first others) ≡ (spelling first) ++ disjuncts (map (λ (x : Place × Bool × Expr). (x.0, x.1, spelling x.2)) others)
spelling-Or first others = ap spelling (sym (rolls-Or first others)) ∙ at_expr (Expr-F.Or first others)

pub spelling-Forall : (place : Place) (index : Index) (with_do : Bool) (body : Expr) → spelling (Forall place index with_do body) ≡ a_word WForall ++ ((index_spelling index) ++ (separator with_do ++ (spelling body)))
spelling-Forall place index with_do body = ap spelling (sym (rolls-Forall place index with_do body)) ∙ at_expr (Expr-F.Forall place index with_do body)

pub spelling-Empty : body_spelling Empty ≡ []
spelling-Empty = ap body_spelling (sym rolls-Empty) ∙ at_body Body-F.Empty

pub spelling-Members : (members : List Expr) → body_spelling (Members members) ≡ with_commas (map spelling members)
spelling-Members members = ap body_spelling (sym (rolls-Members members)) ∙ at_body (Body-F.Members members)

pub spelling-Tuples : (tuples : List Angle) → body_spelling (Tuples tuples) ≡ with_commas (map angle_spelling tuples)
spelling-Tuples tuples = ap body_spelling (sym (rolls-Tuples tuples)) ∙ at_body (Body-F.Tuples tuples)

pub spelling-Those : (index : Index) → body_spelling (Those index) ≡ (index_spelling index)
spelling-Those index = ap body_spelling (sym (rolls-Those index)) ∙ at_body (Body-F.Those index)

pub spelling-Span : (from : Expr) (with_to : Bool) (to : Expr) (by : Option Expr) → body_spelling (Span from with_to to by) ≡ (spelling from) ++ ((if with_to then word_token WTo else sign_token SDots) ∷ ((spelling to) ++ by_part (option_map spelling by)))
spelling-Span from with_to to None = ap body_spelling (sym (rolls-Span from with_to to None)) ∙ at_body (Body-F.Span from with_to to None)
spelling-Span from with_to to (Some by) = ap body_spelling (sym (rolls-Span from with_to to (Some by))) ∙ at_body (Body-F.Span from with_to to (Some by))
