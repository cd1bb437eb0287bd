-- The outermost node of an expression.
use Rattle.std.proofs.Common.{◌≡◌, sym, ap, ◌∙◌}
use Rattle.zim_tree.specs.declared.expr.Expr.{Expr, Expr-F, roll-Expr, out-Expr}
use Rattle.zim_tree.specs.declared.expr.Body.TheViews.{out-roll-Expr}
use Rattle.zim_tree.specs.declared.expr.Angle.{Angle}
use Rattle.zim_tree.specs.declared.expr.Index.{Index}
use Rattle.zim_tree.specs.declared.expr.Body.{Body}

-- what is made of a node has it as its outermost node
pub node_of : (d : Expr-F Body Expr Angle Index) {e : Expr} → roll-Expr d ≡ e → out-Expr e ≡ d
node_of d h = ap out-Expr (sym h) ∙ out-roll-Expr d
