-- A function nests as deep as its definition.
use Rattle.std.proofs.Common.{◌≡◌, ◌≤◌, ◌+◌, ℕ, List, ap, ◌∙◌, subst}
use Rattle.zim_fault.specs.declared.faults.Place.{Place}
use Rattle.zim_fault.specs.declared.words.Word.{Word}
use Rattle.zim_tree.specs.declared.stmt.Stmt.{Stmt}
use Rattle.zim_nesting.specs.Depth.{no_nesting, nesting_in_brackets, ◌followed_by◌}
use Rattle.zim_typed.specs.declared.statement.TStmt.{TStmt}
use Rattle.zim_typed.specs.declared.statement.TShape.{TShape}
use Rattle.zim_typed.specs.declared.statement.TShape.TheVariants.{Define}
use Rattle.zim_typed.specs.declared.constant.Const.{Const}
use Rattle.zim_typed.specs.Nesting.{definition_nesting}
use Rattle.zim_typed.specs.Scope.{Text, Scope}
use Rattle.zim_typed.specs.Law.{ConstantNests}
use Rattle.zim_typed.specs.Statements.{IsTyped, is_typed, is_set, is_param, is_var, is_goal, is_subto, is_definition, is_do}
use Rattle.zim_static.specs.Calls.{full_nesting}
use Rattle.zim_static.specs.Declaring.{NestsWithinLimit}
use Rattle.zim_static.proofs.ConstantCallsLemmas.{const_calls_alike}

pub definition_nests : ConstantNests → {scope : Scope} {stmt : Stmt} {typed : TStmt} → IsTyped scope stmt typed → full_nesting scope stmt ≤ 200 → NestsWithinLimit scope typed.shape
definition_nests nests {scope} (is_typed p q name (is_definition _ parameters {e = e} {c = c} d)) h =
    subst (λ (n : ℕ). n ≤ 200) (λ i. (nesting_in_brackets no_nesting followed_by nests scope _ e c d i).deepest + const_calls_alike d i) h
definition_nests nests (is_typed p q name (is_set d)) h = tt
definition_nests nests (is_typed p q name (is_param d)) h = tt
definition_nests nests (is_typed p q name (is_var kind a b d e)) h = tt
definition_nests nests (is_typed p q name (is_goal maximize d)) h = tt
definition_nests nests (is_typed p q name (is_subto d)) h = tt
definition_nests nests (is_typed p q name (is_do d)) h = tt

-- a function is kept with the full nesting of its definition
pub definition_keeps : ConstantNests → {scope : Scope} {stmt : Stmt} {typed : TStmt} → IsTyped scope stmt typed → (word : Word) (parameters : List (Place × Text)) (body : Const) → typed.shape ≡ Define word parameters body
    → full_nesting scope stmt ≡ definition_nesting scope body
definition_keeps nests {scope} (is_typed p q name (is_definition w ps {e = e} {c = c} d)) word parameters body h =
    let same : c ≡ body = cc in
    (λ i. (nesting_in_brackets no_nesting followed_by nests scope _ e c d i).deepest + const_calls_alike d i) ∙ ap (definition_nesting scope) same
definition_keeps nests (is_typed p q name (is_set d)) word parameters body h = cc
definition_keeps nests (is_typed p q name (is_param d)) word parameters body h = cc
definition_keeps nests (is_typed p q name (is_var kind a b d e)) word parameters body h = cc
definition_keeps nests (is_typed p q name (is_goal maximize d)) word parameters body h = cc
definition_keeps nests (is_typed p q name (is_subto d)) word parameters body h = cc
definition_keeps nests (is_typed p q name (is_do d)) word parameters body h = cc
