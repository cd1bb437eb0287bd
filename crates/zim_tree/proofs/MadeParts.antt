-- What it says of a node that it is made of its parts, one clause for each: these are for a tree whose outermost node is known.
use Rattle.std.proofs.Common.{◌≡◌, ◌≤◌, List, [], ◌∷◌, map, length, Bool, true, Option, Some, None, arith, sym, ap, ◌∙◌, subst}
use Rattle.zim_fault.specs.declared.faults.Place.{Place}
use Rattle.zim_fault.specs.declared.tokens.Relation.{Relation}
use Rattle.zim_tree.specs.declared.expr.Expr.{Expr, Expr-F, roll-Expr, out-Expr}
use Rattle.zim_tree.specs.declared.expr.Expr.TheVariants as tree
use Rattle.zim_tree.specs.declared.expr.Angle.{Angle, Angle-F, out-Angle}
use Rattle.zim_tree.specs.declared.expr.Index.{Index, Index-F, out-Index}
use Rattle.zim_tree.specs.declared.expr.Body.{Body, Body-F, roll-Body, out-Body}
use Rattle.zim_tree.specs.declared.expr.Body.TheVariants as body
use Rattle.zim_tree.specs.declared.expr.Body.TheViews.{out-roll-Body, out-roll-Angle, out-roll-Index}
use Rattle.zim_tree.specs.declared.classes.Class.TheVariants as class
use Rattle.zim_tree.specs.Trees.{angle_of, index_of}
use Rattle.zim_tree.specs.Classes.{word_class, sign_class}
use Rattle.zim_tree.specs.Levels.{products, sums, is_function, is_loop}
use Rattle.zim_tree.specs.Made.{Made, MadeAll, MadeOperands, MadeConjuncts, MadeDisjuncts, MadeTuple, MadeTuples, MadeIndex, MadeBody, made_number, made_text, made_truth, made_infinity, made_name, made_item, made_call, made_function, made_projection, made_parentheses, made_braces, made_if, made_if_with_else, made_factorial, made_power, made_signed, made_big, made_product, made_sum, made_comparison, made_double_comparison, made_member, made_not, made_and, made_or, made_forall, made_none, made_one, made_tuple, made_index, made_index_with, made_empty, made_members, made_tuples, made_choices, made_span, made_span_by}
use Rattle.zim_tree.proofs.NodeLaws.{node_of}

-- a list has an item at least
abbrev pub Filled : {A : Type 0} → List A → Type 0
Filled items = 1 ≤ length items

-- a part that may be missing is made of its parts
abbrev pub MadeIfGiven : Option Expr → Type 0
MadeIfGiven None = Unit {0}
MadeIfGiven (Some e) = Made e

-- a condition that may be missing is made of its parts
abbrev pub MadeCondition : Option (Bool × Expr) → Type 0
MadeCondition None = Unit {0}
MadeCondition (Some cond) = Made cond.1

-- what is known of the parts of an expression
abbrev pub Parts : Expr-F Body Expr Angle Index → Type 0
Parts (Expr-F.Number place digits) = Unit {0}
Parts (Expr-F.Text place text double) = Unit {0}
Parts (Expr-F.Truth place truth) = Unit {0}
Parts (Expr-F.Infinity place) = Unit {0}
Parts (Expr-F.Name place name) = Unit {0}
Parts (Expr-F.Item place name index) = Filled index × MadeAll index
Parts (Expr-F.Call place name given) = MadeAll given
Parts (Expr-F.Func place word given) = (is_function (word_class word) ≡ true) × Filled given × MadeAll given
Parts (Expr-F.Proj place set positions) = Made set × MadeTuple positions
Parts (Expr-F.Paren place inner) = Made inner
Parts (Expr-F.Braces place inside) = MadeBody inside
Parts (Expr-F.If place vif test branch otherwise) = Made test × Made branch × MadeIfGiven otherwise
Parts (Expr-F.Factorial operand marks) = Filled marks × Made operand
Parts (Expr-F.Power place sign base signed exponent) = (sign_class sign ≡ class.Power) × Made base × Made exponent
Parts (Expr-F.Signed place minus operand) = Made operand
Parts (Expr-F.Big place word index with_do operand) = (is_loop (word_class word) ≡ true) × MadeIndex index × Made operand
Parts (Expr-F.Times first others) = Filled others × Made first × MadeOperands products others
Parts (Expr-F.Plus first others) = Filled others × Made first × MadeOperands sums others
Parts (Expr-F.Compare first others) = Filled others × (length others ≤ 2) × Made first × MadeAll (map (λ (x : Place × Relation × Expr). x.2) others)
Parts (Expr-F.Member place tuple set) = MadeTuple tuple × Made set
Parts (Expr-F.Not place operand) = Made operand
Parts (Expr-F.And first others) = Filled others × Made first × MadeConjuncts others
Parts (Expr-F.Or first others) = Filled others × Made first × MadeDisjuncts others
Parts (Expr-F.Forall place index with_do inside) = MadeIndex index × Made inside

-- what is known of the parts of what stands in braces
abbrev pub BodyParts : Body-F Body Expr Angle Index → Type 0
BodyParts Body-F.Empty = Unit {0}
BodyParts (Body-F.Members members) = Filled members × MadeAll members
BodyParts (Body-F.Tuples tuples) = Filled tuples × MadeTuples tuples
BodyParts (Body-F.Those index) = MadeIndex index
BodyParts (Body-F.Span from with_to to by) = Made from × Made to × MadeIfGiven by

-- what is known of the parts of a tuple
abbrev pub TupleParts : Angle-F Body Expr Angle Index → Type 0
TupleParts tuple = Filled tuple.items × MadeAll tuple.items

-- what is known of the parts of an index
abbrev pub IndexParts : Index-F Body Expr Angle Index → Type 0
IndexParts index = MadeTuple index.tuple × Made index.set × MadeCondition index.cond

pub filled : {A : Type 0} (first : A) (others : List A) → Filled (first ∷ others)
filled first others = omega arith

-- what is known of a layer is known of the tree that is made of it
known : (d : Expr-F Body Expr Angle Index) {e : Expr} → roll-Expr d ≡ e → Parts d → Parts (out-Expr e)
known d h = subst Parts (sym (node_of d h))

pub made-parts : {e : Expr} → Made e → Parts (out-Expr e)
made-parts (made_number p digits) = known (Expr-F.Number p digits) (tree.rolls-Number p digits) tt
made-parts (made_text p text double) = known (Expr-F.Text p text double) (tree.rolls-Text p text double) tt
made-parts (made_truth p truth) = known (Expr-F.Truth p truth) (tree.rolls-Truth p truth) tt
made-parts (made_infinity p) = known (Expr-F.Infinity p) (tree.rolls-Infinity p) tt
made-parts (made_name p name) = known (Expr-F.Name p name) (tree.rolls-Name p name) tt
made-parts (made_item p name {first = first} {others = others} ms) = known (Expr-F.Item p name (first ∷ others)) (tree.rolls-Item p name (first ∷ others)) (filled first others, ms)
made-parts (made_call p name {given = given} ms) = known (Expr-F.Call p name given) (tree.rolls-Call p name given) ms
made-parts (made_function p word {first = first} {others = others} h ms) =
    known (Expr-F.Func p word (first ∷ others)) (tree.rolls-Func p word (first ∷ others)) (h, filled first others, ms)
made-parts (made_projection p {set = set} {positions = positions} m n) = known (Expr-F.Proj p set positions) (tree.rolls-Proj p set positions) (m, n)
made-parts (made_parentheses p {inner = inner} m) = known (Expr-F.Paren p inner) (tree.rolls-Paren p inner) m
made-parts (made_braces p {inside = inside} m) = known (Expr-F.Braces p inside) (tree.rolls-Braces p inside) m
made-parts (made_if p vif {test = test} {branch = branch} m n) = known (Expr-F.If p vif test branch None) (tree.rolls-If p vif test branch None) (m, n, tt)
made-parts (made_if_with_else p vif {test = test} {branch = branch} {otherwise = otherwise} m n o) =
    known (Expr-F.If p vif test branch (Some otherwise)) (tree.rolls-If p vif test branch (Some otherwise)) (m, n, o)
made-parts (made_factorial mark marks {operand = operand} m) =
    known (Expr-F.Factorial operand (mark ∷ marks)) (tree.rolls-Factorial operand (mark ∷ marks)) (filled mark marks, m)
made-parts (made_power p sign signed {base = base} {exponent = exponent} h m n) =
    known (Expr-F.Power p sign base signed exponent) (tree.rolls-Power p sign base signed exponent) (h, m, n)
made-parts (made_signed p minus {operand = operand} m) = known (Expr-F.Signed p minus operand) (tree.rolls-Signed p minus operand) m
made-parts (made_big p word with_do {index = index} {operand = operand} h m n) =
    known (Expr-F.Big p word index with_do operand) (tree.rolls-Big p word index with_do operand) (h, m, n)
made-parts (made_product {first = first} {other = other} {others = others} m ms) =
    known (Expr-F.Times first (other ∷ others)) (tree.rolls-Times first (other ∷ others)) (filled other others, m, ms)
made-parts (made_sum {first = first} {other = other} {others = others} m ms) =
    known (Expr-F.Plus first (other ∷ others)) (tree.rolls-Plus first (other ∷ others)) (filled other others, m, ms)
made-parts (made_comparison p relation {left = left} {right = right} m n) =
    known (Expr-F.Compare left ((p, relation, right) ∷ [])) (tree.rolls-Compare left ((p, relation, right) ∷ [])) (omega arith, omega arith, m, made_one n made_none)
made-parts (made_double_comparison p q lower upper {left = left} {middle = middle} {right = right} m n o) =
    known (Expr-F.Compare left ((p, lower, middle) ∷ ((q, upper, right) ∷ []))) (tree.rolls-Compare left ((p, lower, middle) ∷ ((q, upper, right) ∷ [])))
    (omega arith, omega arith, m, made_one n (made_one o made_none))
made-parts (made_member p {tuple = tuple} {set = set} m n) = known (Expr-F.Member p tuple set) (tree.rolls-Member p tuple set) (m, n)
made-parts (made_not p {operand = operand} m) = known (Expr-F.Not p operand) (tree.rolls-Not p operand) m
made-parts (made_and {first = first} {other = other} {others = others} m ms) =
    known (Expr-F.And first (other ∷ others)) (tree.rolls-And first (other ∷ others)) (filled other others, m, ms)
made-parts (made_or {first = first} {other = other} {others = others} m ms) =
    known (Expr-F.Or first (other ∷ others)) (tree.rolls-Or first (other ∷ others)) (filled other others, m, ms)
made-parts (made_forall p with_do {index = index} {inside = inside} m n) =
    known (Expr-F.Forall p index with_do inside) (tree.rolls-Forall p index with_do inside) (m, n)

-- the parts of an expression with this outermost node
pub parts_of : (d : Expr-F Body Expr Angle Index) {e : Expr} → roll-Expr d ≡ e → Made e → Parts d
parts_of d h m = subst Parts (node_of d h) (made-parts m)

-- what is made of a layer has it as its outermost one
body_of : (d : Body-F Body Expr Angle Index) {b : Body} → roll-Body d ≡ b → out-Body b ≡ d
body_of d h = ap out-Body (sym h) ∙ out-roll-Body d

known_body : (d : Body-F Body Expr Angle Index) {b : Body} → roll-Body d ≡ b → BodyParts d → BodyParts (out-Body b)
known_body d h = subst BodyParts (sym (body_of d h))

pub made-body_parts : {b : Body} → MadeBody b → BodyParts (out-Body b)
made-body_parts made_empty = known_body Body-F.Empty body.rolls-Empty tt
made-body_parts (made_members {first = first} {others = others} ms) = known_body (Body-F.Members (first ∷ others)) (body.rolls-Members (first ∷ others)) (filled first others, ms)
made-body_parts (made_tuples {first = first} {others = others} ms) = known_body (Body-F.Tuples (first ∷ others)) (body.rolls-Tuples (first ∷ others)) (filled first others, ms)
made-body_parts (made_choices {index = index} m) = known_body (Body-F.Those index) (body.rolls-Those index) m
made-body_parts (made_span with_to {from = from} {to = to} m n) = known_body (Body-F.Span from with_to to None) (body.rolls-Span from with_to to None) (m, n, tt)
made-body_parts (made_span_by with_to {from = from} {to = to} {by = by} m n o) =
    known_body (Body-F.Span from with_to to (Some by)) (body.rolls-Span from with_to to (Some by)) (m, n, o)

-- the parts of what stands in braces with this outermost node
pub body_parts_of : (d : Body-F Body Expr Angle Index) {b : Body} → roll-Body d ≡ b → MadeBody b → BodyParts d
body_parts_of d h m = subst BodyParts (body_of d h) (made-body_parts m)

pub made-tuple_parts : {tuple : Angle} → MadeTuple tuple → TupleParts (out-Angle tuple)
made-tuple_parts (made_tuple p {first = first} {others = others} ms) =
    subst TupleParts (sym (out-roll-Angle (record { place = p; items = first ∷ others }))) (filled first others, ms)

-- the parts of a tuple of these items
pub tuple_parts_of : (p : Place) (items : List Expr) → MadeTuple (angle_of p items) → Filled items × MadeAll items
tuple_parts_of p items m = subst TupleParts (out-roll-Angle (record { place = p; items = items })) (made-tuple_parts m)

pub made-index_parts : {index : Index} → MadeIndex index → IndexParts (out-Index index)
made-index_parts (made_index p {tuple = tuple} {set = set} m n) =
    subst IndexParts (sym (out-roll-Index (record { place = p; tuple = tuple; set = set; cond = None }))) (m, n, tt)
made-index_parts (made_index_with p bar {tuple = tuple} {set = set} {cond = cond} m n o) =
    subst IndexParts (sym (out-roll-Index (record { place = p; tuple = tuple; set = set; cond = Some (bar, cond) }))) (m, n, o)

-- the parts of an index of these
pub index_parts_of : (p : Place) (tuple : Angle) (set : Expr) (cond : Option (Bool × Expr)) → MadeIndex (index_of p tuple set cond) →
    MadeTuple tuple × Made set × MadeCondition cond
index_parts_of p tuple set cond m = subst IndexParts (out-roll-Index (record { place = p; tuple = tuple; set = set; cond = cond })) (made-index_parts m)
