-- Some expressions and the typed trees that they are, so that each family of typed trees is seen to have members.
use Rattle.std.specs.Prelude.{[], ◌∷◌, true, false, Some, None}
use Rattle.zim_fault.specs.declared.faults.Place.{Place}
use Rattle.zim_fault.specs.declared.tokens.Token.TheVariants.{Word as word_token}
use Rattle.zim_fault.specs.declared.tokens.Relation.TheVariants.{AtMost}
use Rattle.zim_fault.specs.declared.words.Word.TheVariants.{WMod, WDefnumb}
use Rattle.zim_tree.specs.declared.expr.Expr.TheVariants as tree
use Rattle.zim_tree.specs.declared.stmt.Shape.TheVariants as tree_shape
use Rattle.zim_tree.specs.Trees as trees
use Rattle.zim_typed.specs.declared.constant.Const.TheVariants as const
use Rattle.zim_typed.specs.declared.constant.LoopSlot.TheVariants as slot
use Rattle.zim_typed.specs.declared.constant.Resolved.TheVariants as resolved
use Rattle.zim_typed.specs.declared.constraint.Term.TheVariants as term
use Rattle.zim_typed.specs.declared.constraint.Con.TheVariants as con
use Rattle.zim_typed.specs.declared.scope.Declared.TheVariants.{Set, Variable}
use Rattle.zim_typed.specs.declared.statement.TShape.TheVariants as shape
use Rattle.zim_typed.specs.Trees.{typed_loop}
use Rattle.zim_typed.specs.Scope.{Text, Scope}
use Rattle.zim_typed.specs.Terms.{IsTerm, IsCon, multiplying}
use Rattle.zim_typed.specs.Constants.{IsLoop}
use Rattle.zim_typed.specs.Statements.{IsBound, IsShape}

-- `1`, as it is written
abbrev pub one_text : Text
one_text = 49 ∷ []

-- `2`
abbrev pub two : Text
two = 50 ∷ []

-- `7`
abbrev pub seven : Text
seven = 55 ∷ []

-- the name `x`
abbrev pub x : Text
x = 120 ∷ []

-- the name `A`
abbrev pub a_set : Text
a_set = 65 ∷ []

-- the name `i`
abbrev pub i : Text
i = 105 ∷ []

-- behind `var x;`
abbrev pub with_variable : Scope
with_variable = (x, Variable false) ∷ []

-- behind a declaration of the set `A`
abbrev pub with_set : Scope
with_set = (a_set, Set false) ∷ []

-- `7 mod 2 * x` is a multiple of `x`: the operands before the one with variables are one constant
abbrev pub QuotientsMultiply : Type 0
QuotientsMultiply =
    (p q r s t : Place) →
    IsTerm with_variable [] (tree.Times (tree.Number p seven) ((q, word_token WMod, tree.Number r two) ∷ (s, multiplying false, tree.Name t x) ∷ []))
    (term.Product (Some (const.Times (const.Number p seven) ((q, word_token WMod, const.Number r two) ∷ []), s)) (term.Column t x []) [])

-- `<i, i> in A` binds `i` once, and its second component equals the first
abbrev pub RepeatedNamesAreBoundOnce : Type 0
RepeatedNamesAreBoundOnce =
    (p q r s t : Place) → IsLoop with_set [] (trees.index_of p (trees.angle_of q (tree.Name r i ∷ tree.Name s i ∷ [])) (tree.Name t a_set) None)
    (typed_loop p (slot.Free i ∷ slot.Again 0 ∷ []) (const.Name t a_set resolved.Set) None) (i ∷ [])

-- `1 <= x <= 2` is a range
abbrev pub ChainsAreRanges : Type 0
ChainsAreRanges =
    (p q r s t : Place) → IsCon with_variable [] (tree.Compare (tree.Number p one_text) ((q, AtMost, tree.Name r x) ∷ (s, AtMost, tree.Number t two) ∷ []))
    (con.Range q AtMost (const.Number p one_text) (term.Column r x []) (const.Number t two))

-- `if true then 1 else infinity end` is a bound
abbrev pub BoundsMayPickInfinity : Type 0
BoundsMayPickInfinity =
    (p q r s : Place) → IsBound [] [] (tree.If p false (tree.Truth q true) (tree.Number r one_text) (Some (tree.Infinity s)))
    (const.If p (const.Truth q true) (const.Number r one_text) (const.Infinity s))

-- the body of `defnumb f(i) := i;` is its parameter
abbrev pub BodiesNameParameters : Type 0
BodiesNameParameters =
    (p q : Place) → IsShape [] (tree_shape.Define WDefnumb ((p, i) ∷ []) (tree.Name q i)) (shape.Define WDefnumb ((p, i) ∷ []) (const.Name q i resolved.Local))
