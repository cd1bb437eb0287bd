-- Which names the tuple of an index binds. A bare name that is neither declared nor bound around the index is bound there; where it stands
-- again in the same tuple, that component equals the first. Every other component is a value.
use Rattle.std.specs.Prelude.{ℕ, List, Bool, false, Option, Some, None, nat_eq, position, if◌then◌else◌}
use Rattle.std.specs.Cmp.Lexicographic.{pointwise}
use Rattle.zim_tree.specs.declared.expr.Expr.{Expr, Expr-F, out-Expr}
use Rattle.zim_tree.specs.declared.expr.Angle.{Angle}
use Rattle.zim_tree.specs.declared.expr.Index.{Index}
use Rattle.zim_tree.specs.declared.expr.Body.{Body}
use Rattle.zim_typed.specs.Scope.{Text, Names, Scope, is_known}

-- the name that a node is, if it is a bare name
abbrev pub name_node : Expr-F Body Expr Angle Index → Option Text
name_node (Expr-F.Name place name) = Some name
name_node _ = None

-- the bare name that an expression is, if it is one
abbrev pub bare_name : Expr → Option Text
bare_name e = name_node (out-Expr e)

-- a name, if it is one that an index binds here
abbrev pub if_unknown : Scope → Names → Option Text → Option Text
if_unknown scope names None = None
if_unknown scope names (Some name) = if is_known scope names name then None else Some name

-- the name that a component of a tuple binds, or equals where it was bound before
abbrev pub bound_name : Scope → Names → Expr → Option Text
bound_name scope names item = if_unknown scope names (bare_name item)

-- whether a component binds this name
abbrev pub binds : Text → Option Text → Bool
binds name None = false
binds name (Some other) = pointwise nat_eq name other

-- the position of the component that binds a name, counted from 0, among components of which it is known what each binds
abbrev pub binding : Text → List (Option Text) → Option ℕ
binding name before = position (binds name) before
