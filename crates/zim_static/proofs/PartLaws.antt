-- What is known of an expression, said of the expression itself: whether it has variables, and the bare name that it is.
use Rattle.std.proofs.Common.{◌≡◌, ℕ, Bool, false, ◌||◌, List, [], ◌∷◌, ◌++◌, map, filter_map, Option, Some, None, refl, sym, ap, subst, ◌∙◌}
use Rattle.zim_fault.specs.declared.faults.Place.{Place}
use Rattle.zim_tree.specs.declared.expr.Expr.{Expr, Expr-F, roll-Expr, out-Expr, map-Expr, fold-roll-Expr, ind-Expr}
use Rattle.zim_tree.specs.declared.expr.Angle.{Angle, Angle-F, map-Angle, roll-Angle, out-Angle, fold-roll-Angle}
use Rattle.zim_tree.specs.declared.expr.Index.{Index, Index-F, map-Index, roll-Index, out-Index, fold-roll-Index}
use Rattle.zim_tree.specs.declared.expr.Body.{Body, Body-F, map-Body, roll-Body, fold-roll-Body}
use Rattle.zim_tree.specs.declared.expr.Body.TheViews.{roll-out-Expr, roll-out-Index, roll-out-Angle}
use Rattle.zim_tree.specs.Trees as trees
use Rattle.zim_typed.specs.Scope.{Names, Scope}
use Rattle.zim_typed.specs.Pattern.{name_node, bare_name, bound_name, if_unknown}
use Rattle.zim_typed.specs.Variables.{has_variables, tuple_has_variables, index_has_variables, body_has_variables, one_of, is_vabs, names_variable}
use Rattle.zim_typed.specs.Variables as variables
use Rattle.zim_static.specs.Faults.{Part, IndexPart, BodyPart, part_of, parts_of_angle, part_of_index, part_of_body, parts_of, expr_part, angle_part, index_part, body_part, node_varies, part_varies, tuple_varies, name_of_node, name_bound_by, names_behind}

pub at_expr : (scope : Scope) (d : Expr-F Body Expr Angle Index) →
    part_of scope (roll-Expr d) ≡ expr_part scope (map-Expr Body Expr Angle Index BodyPart Part (List Part) IndexPart (part_of_body scope) (part_of scope) (parts_of_angle scope) (part_of_index scope) d)
at_expr scope = fold-roll-Expr BodyPart Part (List Part) IndexPart body_part (expr_part scope) angle_part (index_part scope)

pub at_body : (scope : Scope) (d : Body-F Body Expr Angle Index) →
    part_of_body scope (roll-Body d) ≡ body_part (map-Body Body Expr Angle Index BodyPart Part (List Part) IndexPart (part_of_body scope) (part_of scope) (parts_of_angle scope) (part_of_index scope) d)
at_body scope = fold-roll-Body BodyPart Part (List Part) IndexPart body_part (expr_part scope) angle_part (index_part scope)

pub at_angle : (scope : Scope) (d : Angle-F Body Expr Angle Index) →
    parts_of_angle scope (roll-Angle d) ≡ angle_part (map-Angle Body Expr Angle Index BodyPart Part (List Part) IndexPart (part_of_body scope) (part_of scope) (parts_of_angle scope) (part_of_index scope) d)
at_angle scope = fold-roll-Angle BodyPart Part (List Part) IndexPart body_part (expr_part scope) angle_part (index_part scope)

pub at_index : (scope : Scope) (d : Index-F Body Expr Angle Index) →
    part_of_index scope (roll-Index d) ≡ index_part scope (map-Index Body Expr Angle Index BodyPart Part (List Part) IndexPart (part_of_body scope) (part_of scope) (parts_of_angle scope) (part_of_index scope) d)
at_index scope = fold-roll-Index BodyPart Part (List Part) IndexPart body_part (expr_part scope) angle_part (index_part scope)

-- ---- names

name_kept : (scope : Scope) (d : Expr-F Body Expr Angle Index) →
    name_of_node (map-Expr Body Expr Angle Index BodyPart Part (List Part) IndexPart (part_of_body scope) (part_of scope) (parts_of_angle scope) (part_of_index scope) d) ≡ name_node d
name_kept scope (Expr-F.Number a b) = refl
name_kept scope (Expr-F.Text a b c) = refl
name_kept scope (Expr-F.Truth a b) = refl
name_kept scope (Expr-F.Infinity a) = refl
name_kept scope (Expr-F.Name a b) = refl
name_kept scope (Expr-F.Item a b c) = refl
name_kept scope (Expr-F.Call a b c) = refl
name_kept scope (Expr-F.Func a b c) = refl
name_kept scope (Expr-F.Proj a b c) = refl
name_kept scope (Expr-F.Paren a b) = refl
name_kept scope (Expr-F.Braces a b) = refl
name_kept scope (Expr-F.If a b c d e) = refl
name_kept scope (Expr-F.Factorial a b) = refl
name_kept scope (Expr-F.Power a b c d e) = refl
name_kept scope (Expr-F.Signed a b c) = refl
name_kept scope (Expr-F.Big a b c d e) = refl
name_kept scope (Expr-F.Times a b) = refl
name_kept scope (Expr-F.Plus a b) = refl
name_kept scope (Expr-F.Compare a b) = refl
name_kept scope (Expr-F.Member a b c) = refl
name_kept scope (Expr-F.Not a b) = refl
name_kept scope (Expr-F.And a b) = refl
name_kept scope (Expr-F.Or a b) = refl
name_kept scope (Expr-F.Forall a b c d) = refl

pub part_name : (scope : Scope) (e : Expr) → (part_of scope e).name ≡ bare_name e
part_name scope e = ap (λ (part : Part). part.name) (ap (part_of scope) (sym (roll-out-Expr e)) ∙ at_expr scope (out-Expr e)) ∙ name_kept scope (out-Expr e)

pub part_bound : (scope : Scope) (names : Names) (e : Expr) → name_bound_by scope names (part_of scope e) ≡ bound_name scope names e
part_bound scope names e = ap (λ (name : Option (List ℕ)). if_unknown scope names name) (part_name scope e)

-- ---- variables

-- what a node's parts say of themselves, and what the trees say that they are made of
some_vary : {E : Type 0} (scope : Scope) (tree : E → Expr) → ((e : E) → (part_of scope (tree e)).varies ≡ has_variables scope (tree e)) → (items : List E) →
    one_of (map part_varies (map (part_of scope) (map tree items))) ≡ one_of (map (has_variables scope) (map tree items))
some_vary scope tree holds [] = refl
some_vary scope tree holds (item ∷ items) = λ i. holds item i || some_vary scope tree holds items i

known_vary : {E O : Type 0} (scope : Scope) (tree : E → Expr) → ((e : E) → (part_of scope (tree e)).varies ≡ has_variables scope (tree e)) → (others : List (Place × O × E)) →
    one_of (map (λ (x : Place × O × Bool). x.2) (map (λ (x : Place × O × Part). (x.0, x.1, part_varies x.2)) (map (λ (x : Place × O × Expr). (x.0, x.1, part_of scope x.2)) (map (λ (x : Place × O × E). (x.0, x.1, tree x.2)) others))))
    ≡ one_of (map (λ (x : Place × O × Bool). x.2) (map (λ (x : Place × O × Expr). (x.0, x.1, has_variables scope x.2)) (map (λ (x : Place × O × E). (x.0, x.1, tree x.2)) others)))
known_vary scope tree holds [] = refl
known_vary scope tree holds (other ∷ others) = λ i. holds other.2 i || known_vary scope tree holds others i

joined_vary : {E : Type 0} (scope : Scope) (tree : E → Expr) → ((e : E) → (part_of scope (tree e)).varies ≡ has_variables scope (tree e)) → (others : List (Place × E)) →
    one_of (map (λ (x : Place × Bool). x.1) (map (λ (x : Place × Part). (x.0, part_varies x.1)) (map (λ (x : Place × Expr). (x.0, part_of scope x.1)) (map (λ (x : Place × E). (x.0, tree x.1)) others))))
    ≡ one_of (map (λ (x : Place × Bool). x.1) (map (λ (x : Place × Expr). (x.0, has_variables scope x.1)) (map (λ (x : Place × E). (x.0, tree x.1)) others)))
joined_vary scope tree holds [] = refl
joined_vary scope tree holds (other ∷ others) = λ i. holds other.1 i || joined_vary scope tree holds others i

node_layer : {B E A I : Type 0} (scope : Scope) (body : B → Body) (tree : E → Expr) (tuple : A → Angle) (index : I → Index) → ((e : E) → (part_of scope (tree e)).varies ≡ has_variables scope (tree e)) → ((b : B) → (part_of_body scope (body b)).varies ≡ body_has_variables scope (body b)) →
    ((a : A) → tuple_varies (parts_of_angle scope (tuple a)) ≡ tuple_has_variables scope (tuple a)) → ((x : I) → (part_of_index scope (index x)).varies ≡ index_has_variables scope (index x)) → (y : Expr-F B E A I) →
    node_varies scope (map-Expr Body Expr Angle Index BodyPart Part (List Part) IndexPart (part_of_body scope) (part_of scope) (parts_of_angle scope) (part_of_index scope) (map-Expr B E A I Body Expr Angle Index body tree tuple index y))
    ≡ variables.variables_in_expr scope (map-Expr Body Expr Angle Index Bool Bool Bool Bool (body_has_variables scope) (has_variables scope) (tuple_has_variables scope) (index_has_variables scope) (map-Expr B E A I Body Expr Angle Index body tree tuple index y))
node_layer scope body tree tuple index holds bodies tuples indices (Expr-F.Number a b) = refl
node_layer scope body tree tuple index holds bodies tuples indices (Expr-F.Text a b c) = refl
node_layer scope body tree tuple index holds bodies tuples indices (Expr-F.Truth a b) = refl
node_layer scope body tree tuple index holds bodies tuples indices (Expr-F.Infinity a) = refl
node_layer scope body tree tuple index holds bodies tuples indices (Expr-F.Name a b) = refl
node_layer scope body tree tuple index holds bodies tuples indices (Expr-F.Item a m c) = ap (λ (b : Bool). names_variable scope m || b) (some_vary scope tree holds c)
node_layer scope body tree tuple index holds bodies tuples indices (Expr-F.Call a m c) = ap (λ (b : Bool). names_variable scope m || b) (some_vary scope tree holds c)
node_layer scope body tree tuple index holds bodies tuples indices (Expr-F.Func a m c) = ap (λ (b : Bool). is_vabs m || b) (some_vary scope tree holds c)
node_layer scope body tree tuple index holds bodies tuples indices (Expr-F.Proj a b c) = λ i. holds b i || tuples c i
node_layer scope body tree tuple index holds bodies tuples indices (Expr-F.Paren a b) = holds b
node_layer scope body tree tuple index holds bodies tuples indices (Expr-F.Braces a b) = bodies b
node_layer scope body tree tuple index holds bodies tuples indices (Expr-F.If a b c d None) = λ i. (holds c i || holds d i) || false
node_layer scope body tree tuple index holds bodies tuples indices (Expr-F.If a b c d (Some e)) = λ i. (holds c i || holds d i) || holds e i
node_layer scope body tree tuple index holds bodies tuples indices (Expr-F.Factorial a b) = holds a
node_layer scope body tree tuple index holds bodies tuples indices (Expr-F.Power a b c d e) = λ i. holds c i || holds e i
node_layer scope body tree tuple index holds bodies tuples indices (Expr-F.Signed a b c) = holds c
node_layer scope body tree tuple index holds bodies tuples indices (Expr-F.Big a b c d e) = λ i. indices c i || holds e i
node_layer scope body tree tuple index holds bodies tuples indices (Expr-F.Times a b) = λ i. holds a i || known_vary scope tree holds b i
node_layer scope body tree tuple index holds bodies tuples indices (Expr-F.Plus a b) = λ i. holds a i || known_vary scope tree holds b i
node_layer scope body tree tuple index holds bodies tuples indices (Expr-F.Compare a b) = λ i. holds a i || known_vary scope tree holds b i
node_layer scope body tree tuple index holds bodies tuples indices (Expr-F.Member a b c) = λ i. tuples b i || holds c i
node_layer scope body tree tuple index holds bodies tuples indices (Expr-F.Not a b) = holds b
node_layer scope body tree tuple index holds bodies tuples indices (Expr-F.And a b) = λ i. holds a i || joined_vary scope tree holds b i
node_layer scope body tree tuple index holds bodies tuples indices (Expr-F.Or a b) = λ i. holds a i || known_vary scope tree holds b i
node_layer scope body tree tuple index holds bodies tuples indices (Expr-F.Forall a b c d) = λ i. indices b i || holds d i

some_tuples : {A : Type 0} (scope : Scope) (tuple : A → Angle) → ((a : A) → tuple_varies (parts_of_angle scope (tuple a)) ≡ tuple_has_variables scope (tuple a)) → (items : List A) →
    one_of (map tuple_varies (map (parts_of_angle scope) (map tuple items))) ≡ one_of (map (tuple_has_variables scope) (map tuple items))
some_tuples scope tuple tuples [] = refl
some_tuples scope tuple tuples (item ∷ items) = λ i. tuples item i || some_tuples scope tuple tuples items i

abbrev body_part_varies : Body-F BodyPart Part (List Part) IndexPart → Bool
body_part_varies d = (body_part d).varies

body_layer : {B E A I : Type 0} (scope : Scope) (body : B → Body) (tree : E → Expr) (tuple : A → Angle) (index : I → Index) → ((e : E) → (part_of scope (tree e)).varies ≡ has_variables scope (tree e)) → ((b : B) → (part_of_body scope (body b)).varies ≡ body_has_variables scope (body b)) →
    ((a : A) → tuple_varies (parts_of_angle scope (tuple a)) ≡ tuple_has_variables scope (tuple a)) → ((x : I) → (part_of_index scope (index x)).varies ≡ index_has_variables scope (index x)) → (y : Body-F B E A I) →
    body_part_varies (map-Body Body Expr Angle Index BodyPart Part (List Part) IndexPart (part_of_body scope) (part_of scope) (parts_of_angle scope) (part_of_index scope) (map-Body B E A I Body Expr Angle Index body tree tuple index y))
    ≡ variables.variables_in_body (map-Body Body Expr Angle Index Bool Bool Bool Bool (body_has_variables scope) (has_variables scope) (tuple_has_variables scope) (index_has_variables scope) (map-Body B E A I Body Expr Angle Index body tree tuple index y))
body_layer scope body tree tuple index holds bodies tuples indices Body-F.Empty = refl
body_layer scope body tree tuple index holds bodies tuples indices (Body-F.Members a) = some_vary scope tree holds a
body_layer scope body tree tuple index holds bodies tuples indices (Body-F.Tuples a) = some_tuples scope tuple tuples a
body_layer scope body tree tuple index holds bodies tuples indices (Body-F.Those a) = indices a
body_layer scope body tree tuple index holds bodies tuples indices (Body-F.Span a b c None) = λ i. (holds a i || holds c i) || false
body_layer scope body tree tuple index holds bodies tuples indices (Body-F.Span a b c (Some d)) = λ i. (holds a i || holds c i) || holds d i

index_parts : {B E A I : Type 0} (scope : Scope) (body : B → Body) (tree : E → Expr) (tuple : A → Angle) (index : I → Index) → ((e : E) → (part_of scope (tree e)).varies ≡ has_variables scope (tree e)) → ((b : B) → (part_of_body scope (body b)).varies ≡ body_has_variables scope (body b)) →
    ((a : A) → tuple_varies (parts_of_angle scope (tuple a)) ≡ tuple_has_variables scope (tuple a)) → ((x : I) → (part_of_index scope (index x)).varies ≡ index_has_variables scope (index x)) → (p : Place) (t : A) (s : E) (cond : Option (Bool × E)) →
    (index_part scope (map-Index Body Expr Angle Index BodyPart Part (List Part) IndexPart (part_of_body scope) (part_of scope) (parts_of_angle scope) (part_of_index scope) (map-Index B E A I Body Expr Angle Index body tree tuple index (record { place = p; tuple = t; set = s; cond = cond })))).varies
    ≡ variables.variables_in_index (map-Index Body Expr Angle Index Bool Bool Bool Bool (body_has_variables scope) (has_variables scope) (tuple_has_variables scope) (index_has_variables scope) (map-Index B E A I Body Expr Angle Index body tree tuple index (record { place = p; tuple = t; set = s; cond = cond })))
index_parts scope body tree tuple index holds bodies tuples indices p t s None = λ i. (tuples t i || holds s i) || false
index_parts scope body tree tuple index holds bodies tuples indices p t s (Some c) = λ i. (tuples t i || holds s i) || holds c.1 i

index_layer : {B E A I : Type 0} (scope : Scope) (body : B → Body) (tree : E → Expr) (tuple : A → Angle) (index : I → Index) → ((e : E) → (part_of scope (tree e)).varies ≡ has_variables scope (tree e)) → ((b : B) → (part_of_body scope (body b)).varies ≡ body_has_variables scope (body b)) →
    ((a : A) → tuple_varies (parts_of_angle scope (tuple a)) ≡ tuple_has_variables scope (tuple a)) → ((x : I) → (part_of_index scope (index x)).varies ≡ index_has_variables scope (index x)) → (y : Index-F B E A I) →
    (index_part scope (map-Index Body Expr Angle Index BodyPart Part (List Part) IndexPart (part_of_body scope) (part_of scope) (parts_of_angle scope) (part_of_index scope) (map-Index B E A I Body Expr Angle Index body tree tuple index y))).varies
    ≡ variables.variables_in_index (map-Index Body Expr Angle Index Bool Bool Bool Bool (body_has_variables scope) (has_variables scope) (tuple_has_variables scope) (index_has_variables scope) (map-Index B E A I Body Expr Angle Index body tree tuple index y))
index_layer scope body tree tuple index holds bodies tuples indices y = index_parts scope body tree tuple index holds bodies tuples indices y.place y.tuple y.set y.cond

tuple_layer : {E : Type 0} (scope : Scope) (tree : E → Expr) → ((e : E) → (part_of scope (tree e)).varies ≡ has_variables scope (tree e)) → (items : List E) →
    tuple_varies (map (part_of scope) (map tree items)) ≡ one_of (map (has_variables scope) (map tree items))
tuple_layer scope tree holds [] = refl
tuple_layer scope tree holds (item ∷ items) = λ i. holds item i || tuple_layer scope tree holds items i

has_expr : (scope : Scope) (d : Expr-F Body Expr Angle Index) → has_variables scope (roll-Expr d) ≡ variables.variables_in_expr scope (map-Expr Body Expr Angle Index Bool Bool Bool Bool (body_has_variables scope) (has_variables scope) (tuple_has_variables scope) (index_has_variables scope) d)
has_expr scope = fold-roll-Expr Bool Bool Bool Bool variables.variables_in_body (variables.variables_in_expr scope) variables.variables_in_angle variables.variables_in_index

has_body : (scope : Scope) (d : Body-F Body Expr Angle Index) → body_has_variables scope (roll-Body d) ≡ variables.variables_in_body (map-Body Body Expr Angle Index Bool Bool Bool Bool (body_has_variables scope) (has_variables scope) (tuple_has_variables scope) (index_has_variables scope) d)
has_body scope = fold-roll-Body Bool Bool Bool Bool variables.variables_in_body (variables.variables_in_expr scope) variables.variables_in_angle variables.variables_in_index

has_tuple : (scope : Scope) (d : Angle-F Body Expr Angle Index) → tuple_has_variables scope (roll-Angle d) ≡ variables.variables_in_angle (map-Angle Body Expr Angle Index Bool Bool Bool Bool (body_has_variables scope) (has_variables scope) (tuple_has_variables scope) (index_has_variables scope) d)
has_tuple scope = fold-roll-Angle Bool Bool Bool Bool variables.variables_in_body (variables.variables_in_expr scope) variables.variables_in_angle variables.variables_in_index

has_indexed : (scope : Scope) (d : Index-F Body Expr Angle Index) → index_has_variables scope (roll-Index d) ≡ variables.variables_in_index (map-Index Body Expr Angle Index Bool Bool Bool Bool (body_has_variables scope) (has_variables scope) (tuple_has_variables scope) (index_has_variables scope) d)
has_indexed scope = fold-roll-Index Bool Bool Bool Bool variables.variables_in_body (variables.variables_in_expr scope) variables.variables_in_angle variables.variables_in_index

pub part_varies_as_tree : (scope : Scope) (e : Expr) → (part_of scope e).varies ≡ has_variables scope e
part_varies_as_tree scope =
    ind-Expr OfBody OfExpr OfTuple OfIndex
    (λ x y is. subst (λ (z : Body-F Body Expr Angle Index). OfBody (roll-Body z)) is
    (ap (λ (b : BodyPart). b.varies) (at_body scope _) ∙ body_layer scope (λ b. b.0) (λ e. e.0) (λ a. a.0) (λ x. x.0) (λ e. e.1) (λ b. b.1) (λ a. a.1) (λ x. x.1) y ∙ sym (has_body scope _)))
    (λ x y is. subst (λ (z : Expr-F Body Expr Angle Index). OfExpr (roll-Expr z)) is
    (ap (λ (e : Part). e.varies) (at_expr scope _) ∙ node_layer scope (λ b. b.0) (λ e. e.0) (λ a. a.0) (λ x. x.0) (λ e. e.1) (λ b. b.1) (λ a. a.1) (λ x. x.1) y ∙ sym (has_expr scope _)))
    (λ x y is. subst (λ (z : Angle-F Body Expr Angle Index). OfTuple (roll-Angle z)) is
    (ap tuple_varies (at_angle scope _) ∙ tuple_layer scope (λ e. e.0) (λ e. e.1) y.items ∙ sym (has_tuple scope _)))
    (λ x y is. subst (λ (z : Index-F Body Expr Angle Index). OfIndex (roll-Index z)) is
    (ap (λ (e : IndexPart). e.varies) (at_index scope _) ∙ index_layer scope (λ b. b.0) (λ e. e.0) (λ a. a.0) (λ x. x.0) (λ e. e.1) (λ b. b.1) (λ a. a.1) (λ x. x.1) y ∙ sym (has_indexed scope _)))
  where
    OfExpr : Expr → Type 0
    OfExpr e = (part_of scope e).varies ≡ has_variables scope e

    OfBody : Body → Type 0
    OfBody body = (part_of_body scope body).varies ≡ body_has_variables scope body

    OfTuple : Angle → Type 0
    OfTuple tuple = tuple_varies (parts_of_angle scope tuple) ≡ tuple_has_variables scope tuple

    OfIndex : Index → Type 0
    OfIndex index = (part_of_index scope index).varies ≡ index_has_variables scope index

pub items_known : (scope : Scope) (tuple : Angle) → parts_of_angle scope tuple ≡ parts_of scope (out-Angle tuple).items
items_known scope tuple = ap (parts_of_angle scope) (sym (roll-out-Angle tuple)) ∙ at_angle scope (out-Angle tuple)

any_as_tree : (scope : Scope) (items : List Expr) → tuple_varies (parts_of scope items) ≡ one_of (map (has_variables scope) items)
any_as_tree scope [] = refl
any_as_tree scope (item ∷ items) = λ i. part_varies_as_tree scope item i || any_as_tree scope items i

tuple_varies_as_tree : (scope : Scope) (tuple : Angle) → tuple_varies (parts_of_angle scope tuple) ≡ tuple_has_variables scope tuple
tuple_varies_as_tree scope tuple =
    ap tuple_varies (items_known scope tuple) ∙ any_as_tree scope (out-Angle tuple).items ∙ sym (ap (tuple_has_variables scope) (sym (roll-out-Angle tuple)) ∙ has_tuple scope (out-Angle tuple))

index_as_tree : (scope : Scope) (p : Place) (t : Angle) (s : Expr) (cond : Option (Bool × Expr)) → (part_of_index scope (trees.index_of p t s cond)).varies ≡ index_has_variables scope (trees.index_of p t s cond)
index_as_tree scope p t s None =
    ap (λ (x : IndexPart). x.varies) (at_index scope (record { place = p; tuple = t; set = s; cond = None })) ∙ (λ i. (tuple_varies_as_tree scope t i || part_varies_as_tree scope s i) || false)
    ∙ sym (has_indexed scope (record { place = p; tuple = t; set = s; cond = None }))
index_as_tree scope p t s (Some c) =
    ap (λ (x : IndexPart). x.varies) (at_index scope (record { place = p; tuple = t; set = s; cond = Some c })) ∙ (λ i. (tuple_varies_as_tree scope t i || part_varies_as_tree scope s i) || part_varies_as_tree scope c.1 i)
    ∙ sym (has_indexed scope (record { place = p; tuple = t; set = s; cond = Some c }))

pub index_varies_as_tree : (scope : Scope) (index : Index) → (part_of_index scope index).varies ≡ index_has_variables scope index
index_varies_as_tree scope index =
    ap (λ (x : Index). (part_of_index scope x).varies) (sym (roll-out-Index index)) ∙ index_as_tree scope (out-Index index).place (out-Index index).tuple (out-Index index).set (out-Index index).cond
    ∙ ap (index_has_variables scope) (roll-out-Index index)

bound_parts : (scope : Scope) (names : Names) (items : List Expr) → filter_map (name_bound_by scope names) (parts_of scope items) ≡ filter_map (bound_name scope names) items
bound_parts scope names [] = refl
bound_parts scope names (item ∷ items) = at_name (bound_name scope names item) refl (bound_parts scope names items)
  where
    at_name : (name : Option (List ℕ)) → bound_name scope names item ≡ name → filter_map (name_bound_by scope names) (parts_of scope items) ≡ filter_map (bound_name scope names) items →
        filter_map (name_bound_by scope names) (parts_of scope (item ∷ items)) ≡ filter_map (bound_name scope names) (item ∷ items)
    at_name None is others = rw (part_bound scope names item, is) others
    at_name (Some name) is others = rw (part_bound scope names item, is) (ap (λ (rest : List (List ℕ)). name ∷ rest) others)

-- the names behind a tuple's items
pub names_known : (scope : Scope) (names : Names) (items : List Expr) → names_behind scope names (parts_of scope items) ≡ filter_map (bound_name scope names) items ++ names
names_known scope names items = ap (λ (bound : List (List ℕ)). bound ++ names) (bound_parts scope names items)

-- the names behind an index
pub index_names_known : (scope : Scope) (names : Names) (index : Index) → (part_of_index scope index).names names ≡ filter_map (bound_name scope names) (out-Angle (out-Index index).tuple).items ++ names
index_names_known scope names index =
    ap (λ (x : IndexPart). x.names names) (ap (part_of_index scope) (sym (roll-out-Index index)) ∙ at_index scope (out-Index index)) ∙ ap (names_behind scope names) (items_known scope (out-Index index).tuple)
    ∙ names_known scope names (out-Angle (out-Index index).tuple).items
