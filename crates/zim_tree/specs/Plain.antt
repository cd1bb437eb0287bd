-- A tree with its places mapped by any function. Where all are mapped to one and the same, it is the tree without its
-- places: two trees differ at most in their places where these are equal.
use Rattle.std.specs.Prelude.{List, map, Bool, option_map}
use Rattle.zim_fault.specs.declared.faults.Place.{Place}
use Rattle.zim_fault.specs.declared.tokens.Token.{Token}
use Rattle.zim_fault.specs.declared.tokens.Placed.{Placed}
use Rattle.zim_fault.specs.declared.tokens.Relation.{Relation}
use Rattle.zim_tree.specs.declared.expr.Expr.{Expr, Expr-F, fold-Expr}
use Rattle.zim_tree.specs.declared.expr.Expr.TheVariants as tree
use Rattle.zim_tree.specs.declared.expr.Angle.{Angle, Angle-F, fold-Angle}
use Rattle.zim_tree.specs.declared.expr.Index.{Index, Index-F, fold-Index}
use Rattle.zim_tree.specs.declared.expr.Body.{Body, Body-F, fold-Body}
use Rattle.zim_tree.specs.declared.expr.Body.TheVariants as body
use Rattle.zim_tree.specs.Trees.{angle_of, index_of}
use Rattle.zim_tree.specs.Levels.{placed}

-- an expression of parts whose places are mapped already
abbrev pub expr_replaced : (Place → Place) → Expr-F Body Expr Angle Index → Expr
expr_replaced put (Expr-F.Number place digits) = tree.Number (put place) digits
expr_replaced put (Expr-F.Text place text double) = tree.Text (put place) text double
expr_replaced put (Expr-F.Truth place truth) = tree.Truth (put place) truth
expr_replaced put (Expr-F.Infinity place) = tree.Infinity (put place)
expr_replaced put (Expr-F.Name place name) = tree.Name (put place) name
expr_replaced put (Expr-F.Item place name index) = tree.Item (put place) name index
expr_replaced put (Expr-F.Call place name given) = tree.Call (put place) name given
expr_replaced put (Expr-F.Func place word given) = tree.Func (put place) word given
expr_replaced put (Expr-F.Proj place set positions) = tree.Proj (put place) set positions
expr_replaced put (Expr-F.Paren place inner) = tree.Paren (put place) inner
expr_replaced put (Expr-F.Braces place body) = tree.Braces (put place) body
expr_replaced put (Expr-F.If place vif test branch otherwise) = tree.If (put place) vif test branch otherwise
expr_replaced put (Expr-F.Factorial operand places) = tree.Factorial operand (map put places)
expr_replaced put (Expr-F.Power place sign base signed exponent) = tree.Power (put place) sign base (option_map (λ (x : Place × Bool). (put x.0, x.1)) signed) exponent
expr_replaced put (Expr-F.Signed place minus operand) = tree.Signed (put place) minus operand
expr_replaced put (Expr-F.Big place word index with_do operand) = tree.Big (put place) word index with_do operand
expr_replaced put (Expr-F.Times first others) = tree.Times first (map (λ (x : Place × Token × Expr). (put x.0, x.1, x.2)) others)
expr_replaced put (Expr-F.Plus first others) = tree.Plus first (map (λ (x : Place × Token × Expr). (put x.0, x.1, x.2)) others)
expr_replaced put (Expr-F.Compare first others) = tree.Compare first (map (λ (x : Place × Relation × Expr). (put x.0, x.1, x.2)) others)
expr_replaced put (Expr-F.Member place tuple set) = tree.Member (put place) tuple set
expr_replaced put (Expr-F.Not place operand) = tree.Not (put place) operand
expr_replaced put (Expr-F.And first others) = tree.And first (map (λ (x : Place × Expr). (put x.0, x.1)) others)
expr_replaced put (Expr-F.Or first others) = tree.Or first (map (λ (x : Place × Bool × Expr). (put x.0, x.1, x.2)) others)
expr_replaced put (Expr-F.Forall place index with_do body) = tree.Forall (put place) index with_do body

-- a tuple of such parts
abbrev pub angle_replaced : (Place → Place) → Angle-F Body Expr Angle Index → Angle
angle_replaced put tuple = angle_of (put tuple.place) tuple.items

-- an index of such parts
abbrev pub index_replaced : (Place → Place) → Index-F Body Expr Angle Index → Index
index_replaced put index = index_of (put index.place) index.tuple index.set index.cond

-- what stands in braces, of such parts
abbrev pub body_replaced : Body-F Body Expr Angle Index → Body
body_replaced Body-F.Empty = body.Empty
body_replaced (Body-F.Members members) = body.Members members
body_replaced (Body-F.Tuples tuples) = body.Tuples tuples
body_replaced (Body-F.Those index) = body.Those index
body_replaced (Body-F.Span from with_to to by) = body.Span from with_to to by

-- an expression with its places mapped by a function
abbrev pub replaced : (Place → Place) → Expr → Expr
replaced put = fold-Expr Body Expr Angle Index body_replaced (expr_replaced put) (angle_replaced put) (index_replaced put)

-- a tuple with its places mapped by a function
abbrev pub replaced_angle : (Place → Place) → Angle → Angle
replaced_angle put = fold-Angle Body Expr Angle Index body_replaced (expr_replaced put) (angle_replaced put) (index_replaced put)

-- an index with its places mapped by a function
abbrev pub replaced_index : (Place → Place) → Index → Index
replaced_index put = fold-Index Body Expr Angle Index body_replaced (expr_replaced put) (angle_replaced put) (index_replaced put)

-- what stands in braces, with its places mapped by a function
abbrev pub replaced_body : (Place → Place) → Body → Body
replaced_body put = fold-Body Body Expr Angle Index body_replaced (expr_replaced put) (angle_replaced put) (index_replaced put)

-- a token with its place mapped by a function
abbrev pub replaced_token : (Place → Place) → Placed → Placed
replaced_token put t = placed (put t.place) t.token

-- tokens with their places mapped by a function
abbrev pub replaced_tokens : (Place → Place) → List Placed → List Placed
replaced_tokens put = map (replaced_token put)

-- the one place of a tree without places
abbrev pub nowhere : Place
nowhere = record { file = 0; line = 0 }

-- the map of every place to this one
abbrev pub to_nowhere : Place → Place
to_nowhere p = nowhere

-- an expression without its places
abbrev pub plain : Expr → Expr
plain = replaced to_nowhere
