-- The place of a tree's first token.
use Rattle.zim_fault.specs.declared.faults.Place.{Place}
use Rattle.zim_tree.specs.declared.expr.Expr.{Expr, Expr-F, fold-Expr}
use Rattle.zim_tree.specs.declared.expr.Angle.{Angle-F}
use Rattle.zim_tree.specs.declared.expr.Index.{Index-F}
use Rattle.zim_tree.specs.declared.expr.Body.{Body-F}

-- of an expression, where those of its parts are known
abbrev pub first_in_expr : Expr-F (Unit {0}) Place Place Place → Place
first_in_expr (Expr-F.Number place digits) = place
first_in_expr (Expr-F.Text place text double) = place
first_in_expr (Expr-F.Truth place truth) = place
first_in_expr (Expr-F.Infinity place) = place
first_in_expr (Expr-F.Name place name) = place
first_in_expr (Expr-F.Item place name index) = place
first_in_expr (Expr-F.Call place name given) = place
first_in_expr (Expr-F.Func place function given) = place
first_in_expr (Expr-F.Proj place set positions) = place
first_in_expr (Expr-F.Paren place inner) = place
first_in_expr (Expr-F.Braces place body) = place
first_in_expr (Expr-F.If place vif test branch otherwise) = place
first_in_expr (Expr-F.Factorial operand places) = operand
first_in_expr (Expr-F.Power place sign base signed exponent) = base
first_in_expr (Expr-F.Signed place minus operand) = place
first_in_expr (Expr-F.Big place loop index with_do operand) = place
first_in_expr (Expr-F.Times first others) = first
first_in_expr (Expr-F.Plus first others) = first
first_in_expr (Expr-F.Compare first others) = first
first_in_expr (Expr-F.Member place tuple set) = tuple
first_in_expr (Expr-F.Not place operand) = place
first_in_expr (Expr-F.And first others) = first
first_in_expr (Expr-F.Or first others) = first
first_in_expr (Expr-F.Forall place index with_do body) = place

-- a tuple begins at its `<`
abbrev pub first_in_angle : Angle-F (Unit {0}) Place Place Place → Place
first_in_angle tuple = tuple.place

-- an index begins with its tuple
abbrev pub first_in_index : Index-F (Unit {0}) Place Place Place → Place
first_in_index index = index.tuple

-- what stands in braces may have no token
abbrev pub first_in_body : Body-F (Unit {0}) Place Place Place → Unit {0}
first_in_body body = tt

-- the place of an expression's first token
abbrev pub first_place : Expr → Place
first_place = fold-Expr (Unit {0}) Place Place Place first_in_body first_in_expr first_in_angle first_in_index
