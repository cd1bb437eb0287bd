-- The faults of an index, and of what stands in braces, from those of their parts.
use Rattle.std.proofs.Common.{◌≡◌, Bor, Bool, List, [], ◌++◌, filter_map, Option, Some, None, option_map, sym, ap, ◌∙◌}
use Rattle.zim_fault.specs.declared.faults.Place.{Place}
use Rattle.zim_fault.specs.declared.faults.Fault.{Fault}
use Rattle.zim_tree.specs.declared.expr.Expr.{Expr}
use Rattle.zim_tree.specs.declared.expr.Angle.{Angle, out-Angle}
use Rattle.zim_tree.specs.declared.expr.Index.{Index, out-Index}
use Rattle.zim_tree.specs.declared.expr.Body.{Body, Body-F}
use Rattle.zim_tree.specs.declared.expr.Body.TheViews.{roll-out-Index}
use Rattle.zim_tree.specs.Trees as trees
use Rattle.zim_typed.specs.Scope.{Names, Scope}
use Rattle.zim_typed.specs.Pattern.{bound_name}
use Rattle.zim_fault.specs.declared.faults.Fault.{Fault}
use Rattle.zim_tree.specs.declared.expr.Body.TheVariants.{Empty, Members, Tuples, Those, Span, rolls-Empty, rolls-Members, rolls-Tuples, rolls-Those, rolls-Span}
use Rattle.zim_static.specs.declared.role.Role.{Role}
use Rattle.zim_static.specs.Faults.{Part, IndexPart, BodyPart, part_of, parts_of_angle, part_of_index, part_of_body, parts_of, tuples_of, names_behind, all_faults, given_faults, tuples_faults, components_faults, condition_faults}
use Rattle.zim_static.specs.StatementFaults.{faults_in}
use Rattle.zim_static.specs.Around.{names_in}
use Rattle.zim_static.specs.declared.around.Around.{Around}
use Rattle.zim_static.specs.declared.around.Around.TheVariants as around
use Rattle.zim_static.specs.Faults.{first_of_faults}
use Rattle.zim_static.proofs.AroundLaws.{names-Index}
use Rattle.zim_static.proofs.PartLaws.{at_index, at_body, items_known, names_known, index_names_known}

pub opens_parts : (scope : Scope) (role : Role) (names : Names) (p : Place) (t : Angle) (s : Expr) (cond : Option (Bool × Expr)) →
    (part_of_index scope (trees.index_of p t s cond)).faults role names
    ≡ components_faults scope role names (parts_of_angle scope t) ++ faults_in scope role names s ++ condition_faults role (names_behind scope names (parts_of_angle scope t)) (option_map (λ (c : Bool × Expr). (c.0, part_of scope c.1)) cond)
opens_parts scope role names p t s None = ap (λ (x : IndexPart). x.faults role names) (at_index scope (record { place = p; tuple = t; set = s; cond = None }))
opens_parts scope role names p t s (Some c) = ap (λ (x : IndexPart). x.faults role names) (at_index scope (record { place = p; tuple = t; set = s; cond = Some c }))

-- the faults of an index
pub opens-index : (scope : Scope) (role : Role) (names : Names) (index : Index) →
    (part_of_index scope index).faults role names
    ≡ components_faults scope role names (parts_of scope (out-Angle (out-Index index).tuple).items) ++ faults_in scope role names (out-Index index).set
    ++ condition_faults role (filter_map (bound_name scope names) (out-Angle (out-Index index).tuple).items ++ names) (option_map (λ (c : Bool × Expr). (c.0, part_of scope c.1)) (out-Index index).cond)
opens-index scope role names index =
    let c : Option (Bool × Part) = option_map (λ (c : Bool × Expr). (c.0, part_of scope c.1)) (out-Index index).cond in
    ap (λ (x : Index). (part_of_index scope x).faults role names) (sym (roll-out-Index index))
    ∙ opens_parts scope role names (out-Index index).place (out-Index index).tuple (out-Index index).set (out-Index index).cond
    ∙ ap (λ (parts : List Part). components_faults scope role names parts ++ faults_in scope role names (out-Index index).set ++ condition_faults role (names_behind scope names parts) c) (items_known scope (out-Index index).tuple)
    ∙ ap (λ (inner : Names). components_faults scope role names (parts_of scope (out-Angle (out-Index index).tuple).items) ++ faults_in scope role names (out-Index index).set ++ condition_faults role inner c)
    (names_known scope names (out-Angle (out-Index index).tuple).items)

of_body : (scope : Scope) (role : Role) (names : Names) (b : Body) (d : BodyPart) → part_of_body scope b ≡ d → (part_of_body scope b).faults role names ≡ d.faults role names
of_body scope role names b d is = ap (λ (x : BodyPart). x.faults role names) is

pub opens-Empty : (scope : Scope) (role : Role) (names : Names) → (part_of_body scope Empty).faults role names ≡ []
opens-Empty scope role names = of_body scope role names Empty _ (ap (part_of_body scope) (sym rolls-Empty) ∙ at_body scope Body-F.Empty)

pub opens-Members : (scope : Scope) (role : Role) (names : Names) (members : List Expr) → (part_of_body scope (Members members)).faults role names ≡ all_faults role names (parts_of scope members)
opens-Members scope role names members = of_body scope role names (Members members) _ (ap (part_of_body scope) (sym (rolls-Members members)) ∙ at_body scope (Body-F.Members members))

pub opens-Tuples : (scope : Scope) (role : Role) (names : Names) (tuples : List Angle) → (part_of_body scope (Tuples tuples)).faults role names ≡ tuples_faults role names (tuples_of scope tuples)
opens-Tuples scope role names tuples = of_body scope role names (Tuples tuples) _ (ap (part_of_body scope) (sym (rolls-Tuples tuples)) ∙ at_body scope (Body-F.Tuples tuples))

pub opens-Those : (scope : Scope) (role : Role) (names : Names) (index : Index) → (part_of_body scope (Those index)).faults role names ≡ (part_of_index scope index).faults role names
opens-Those scope role names index = of_body scope role names (Those index) _ (ap (part_of_body scope) (sym (rolls-Those index)) ∙ at_body scope (Body-F.Those index))

pub opens-Span : (scope : Scope) (role : Role) (names : Names) (from : Expr) (with_to : Bool) (to : Expr) (by : Option Expr) →
    (part_of_body scope (Span from with_to to by)).faults role names ≡ faults_in scope role names from ++ faults_in scope role names to ++ given_faults role names (option_map (part_of scope) by)
opens-Span scope role names from with_to to None = of_body scope role names (Span from with_to to None) _ (ap (part_of_body scope) (sym (rolls-Span from with_to to None)) ∙ at_body scope (Body-F.Span from with_to to None))
opens-Span scope role names from with_to to (Some by) = of_body scope role names (Span from with_to to (Some by)) _ (ap (part_of_body scope) (sym (rolls-Span from with_to to (Some by))) ∙ at_body scope (Body-F.Span from with_to to (Some by)))

-- what is held of what is around a place behind an index
names_held : (scope : Scope) (outer : Bor Around) (items : Bor (List Expr)) (index : Index) → items.now ≡ (out-Angle (out-Index index).tuple).items →
    names_in scope (around.Index items outer) ≡ filter_map (bound_name scope (names_in scope outer.now)) (out-Angle (out-Index index).tuple).items ++ names_in scope outer.now
names_held scope outer items index is = names-Index scope items outer ∙ ap (λ (held : List Expr). filter_map (bound_name scope (names_in scope outer.now)) held ++ names_in scope outer.now) is

pub behind_index : (scope : Scope) (role : Role) (names : Names) (index : Index) (e : Expr) (outer : Bor Around) (items : Bor (List Expr)) → names_in scope outer.now ≡ names → items.now ≡ (out-Angle (out-Index index).tuple).items →
    {x : Option Fault} → x ≡ first_of_faults (faults_in scope role (names_in scope (around.Index items outer)) e) → x ≡ first_of_faults (faults_in scope role ((part_of_index scope index).names names) e)
behind_index scope role names index e outer items same is h =
    h ∙ ap (λ (inner : Names). first_of_faults (faults_in scope role inner e)) (names_held scope outer items index is ∙ sym (index_names_known scope (names_in scope outer.now) index) ∙ ap (λ (n : Names). (part_of_index scope index).names n) same)

pub behind_condition : (scope : Scope) (role : Role) (names : Names) (index : Index) (c : Bool × Expr) (outer : Bor Around) (items : Bor (List Expr)) → names_in scope outer.now ≡ names → items.now ≡ (out-Angle (out-Index index).tuple).items →
    (out-Index index).cond ≡ Some c → {x : Option Fault} → x ≡ first_of_faults (faults_in scope role (names_in scope (around.Index items outer)) c.1) →
    x ≡ first_of_faults (condition_faults role (filter_map (bound_name scope names) (out-Angle (out-Index index).tuple).items ++ names) (option_map (λ (y : Bool × Expr). (y.0, part_of scope y.1)) (out-Index index).cond))
behind_condition scope role names index c outer items same is given h =
    h ∙ ap (λ (inner : Names). first_of_faults (faults_in scope role inner c.1)) (names_held scope outer items index is ∙ ap (λ (n : Names). filter_map (bound_name scope n) (out-Angle (out-Index index).tuple).items ++ n) same)
    ∙ sym (ap (λ (cond : Option (Bool × Expr)). first_of_faults (condition_faults role (filter_map (bound_name scope names) (out-Angle (out-Index index).tuple).items ++ names) (option_map (λ (y : Bool × Expr). (y.0, part_of scope y.1)) cond))) given)

pub behind_names : (scope : Scope) (names : Names) (index : Index) (outer : Bor Around) (items : Bor (List Expr)) → names_in scope outer.now ≡ names → items.now ≡ (out-Angle (out-Index index).tuple).items →
    names_in scope (around.Index items outer) ≡ (part_of_index scope index).names names
behind_names scope names index outer items same is =
    names_held scope outer items index is ∙ sym (index_names_known scope (names_in scope outer.now) index) ∙ ap (λ (n : Names). (part_of_index scope index).names n) same
