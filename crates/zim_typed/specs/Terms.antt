-- Which term, condition or constraint an expression is, under a scope and the names that are bound around it. A part without variables is one
-- constant, as large as it can be; parentheses and a leading `+` around the others are left out.
use Rattle.std.specs.Prelude.{◌≡◌, List, [], ◌∷◌, ◌++◌, Bool, true, false, Some, None}
use Rattle.zim_fault.specs.declared.faults.Place.{Place}
use Rattle.zim_fault.specs.declared.tokens.Token.{Token}
use Rattle.zim_fault.specs.declared.tokens.Token.TheVariants.{Sign as sign_token}
use Rattle.zim_fault.specs.declared.tokens.Relation.{Relation}
use Rattle.zim_fault.specs.declared.tokens.Relation.TheVariants.{AtMost, EqualTo, AtLeast}
use Rattle.zim_fault.specs.declared.tokens.Join.{Join}
use Rattle.zim_fault.specs.declared.tokens.Join.TheVariants as join
use Rattle.zim_fault.specs.declared.signs.Sign.TheVariants.{SPlus, SMinus, SStar, SSlash}
use Rattle.zim_fault.specs.declared.words.Word.TheVariants.{WSum, WVabs}
use Rattle.zim_tree.specs.declared.expr.Expr.{Expr}
use Rattle.zim_tree.specs.declared.expr.Expr.TheVariants as tree
use Rattle.zim_tree.specs.declared.expr.Index.{Index}
use Rattle.zim_typed.specs.declared.constant.Const.{Const}
use Rattle.zim_typed.specs.declared.constant.Loop.{Loop}
use Rattle.zim_typed.specs.declared.constraint.Term.{Term}
use Rattle.zim_typed.specs.declared.constraint.Term.TheVariants as term
use Rattle.zim_typed.specs.declared.constraint.Cond.{Cond}
use Rattle.zim_typed.specs.declared.constraint.Cond.TheVariants as cond
use Rattle.zim_typed.specs.declared.constraint.Con.{Con}
use Rattle.zim_typed.specs.declared.constraint.Con.TheVariants as con
use Rattle.zim_typed.specs.Scope.{Text, Names, Scope, Varies, bare, indexed}
use Rattle.zim_typed.specs.Variables.{has_variables}
use Rattle.zim_typed.specs.Constants.{IsConst, AreConsts, IsLoop}

-- the token of an operator that adds, or takes off where the flag says so
abbrev pub adding : Bool → Token
adding false = sign_token SPlus
adding true = sign_token SMinus

-- the token of an operator that multiplies, or divides where the flag says so
abbrev pub multiplying : Bool → Token
multiplying false = sign_token SStar
multiplying true = sign_token SSlash

-- whether two terms may be compared so in a constraint
abbrev pub may_constrain : Relation → Bool
may_constrain AtMost = true
may_constrain EqualTo = true
may_constrain AtLeast = true
may_constrain _ = false

-- whether a term may lie between two numbers so
abbrev pub may_enclose : Relation → Bool
may_enclose AtMost = true
may_enclose AtLeast = true
may_enclose _ = false

-- the join that `or` spells, or `xor` where the flag says so
abbrev pub or_join : Bool → Join
or_join false = join.Or
or_join true = join.Xor

-- the operands of a product up to some place: one is itself, and more are a product
abbrev pub product_up_to : Expr → List (Place × Token × Expr) → Expr
product_up_to first [] = first
product_up_to first (other ∷ others) = tree.Times first (other ∷ others)

mutual
  -- an expression is this term
  pub data IsTerm (scope : Scope) : Names → Expr → Term → Type 0 where
    term_known : {names : Names} {e : Expr} {c : Const} → has_variables scope e ≡ false → IsConst scope names e c → IsTerm scope names e (term.Known c)
    term_variable : {names : Names} (p : Place) (name : Text) → bare scope names name ≡ Varies →
        IsTerm scope names (tree.Name p name) (term.Column p name [])
    term_variable_at : {names : Names} (p : Place) (name : Text) {first : Expr} {others : List Expr} {c : Const} {cs : List Const} → indexed scope names name ≡ Varies →
        AreConsts scope names (first ∷ others) (c ∷ cs) → IsTerm scope names (tree.Item p name (first ∷ others)) (term.Column p name (c ∷ cs))
    term_parentheses : {names : Names} (p : Place) {e : Expr} {t : Term} → has_variables scope e ≡ true → IsTerm scope names e t →
        IsTerm scope names (tree.Paren p e) t
    term_plus : {names : Names} (p : Place) {e : Expr} {t : Term} → has_variables scope e ≡ true → IsTerm scope names e t →
        IsTerm scope names (tree.Signed p false e) t
    term_minus : {names : Names} (p : Place) {e : Expr} {t : Term} → has_variables scope e ≡ true → IsTerm scope names e t →
        IsTerm scope names (tree.Signed p true e) (term.Minus p t)
    term_sum : {names : Names} {first : Expr} {others : List (Place × Token × Expr)} {t : Term} {ts : List (Place × Bool × Term)} →
        has_variables scope (tree.Plus first others) ≡ true → IsTerm scope names first t → AreTerms scope names others ts →
        IsTerm scope names (tree.Plus first others) (term.Sum t ts)
    term_product : {names : Names} {first : Expr} {others : List (Place × Token × Expr)} {t : Term} {fs : List (Place × Bool × Const)} →
        has_variables scope first ≡ true → IsTerm scope names first t → AreFactors scope names others fs →
        IsTerm scope names (tree.Times first others) (term.Product None t fs)
    term_multiple : {names : Names} (p : Place) (first e : Expr) (before behind : List (Place × Token × Expr)) {c : Const} {t : Term} {fs : List (Place × Bool × Const)} →
        has_variables scope (product_up_to first before) ≡ false → IsConst scope names (product_up_to first before) c →
        has_variables scope e ≡ true → IsTerm scope names e t → AreFactors scope names behind fs →
        IsTerm scope names (tree.Times first (before ++ (p, multiplying false, e) ∷ behind)) (term.Product (Some (c, p)) t fs)
    term_sum_over : {names inner : Names} (p : Place) (with_do : Bool) {index : Index} {e : Expr} {l : Loop} {t : Term} →
        has_variables scope e ≡ true → IsLoop scope names index l inner → IsTerm scope inner e t →
        IsTerm scope names (tree.Big p WSum index with_do e) (term.SumOver p l t)
    term_if : {names : Names} (p : Place) {test branch otherwise : Expr} {c : Const} {t u : Term} →
        has_variables scope (tree.If p false test branch (Some otherwise)) ≡ true → IsConst scope names test c → IsTerm scope names branch t → IsTerm scope names otherwise u →
        IsTerm scope names (tree.If p false test branch (Some otherwise)) (term.If p c t u)
    term_absolute : {names : Names} (p : Place) {e : Expr} {t : Term} → IsTerm scope names e t →
        IsTerm scope names (tree.Func p WVabs (e ∷ [])) (term.Abs p t)

  -- operands are these terms, each added or taken off
  pub data AreTerms (scope : Scope) : Names → List (Place × Token × Expr) → List (Place × Bool × Term) → Type 0 where
    no_term : {names : Names} → AreTerms scope names [] []
    one_term : {names : Names} (p : Place) (minus : Bool) {e : Expr} {others : List (Place × Token × Expr)} {t : Term} {ts : List (Place × Bool × Term)} →
        IsTerm scope names e t → AreTerms scope names others ts → AreTerms scope names ((p, adding minus, e) ∷ others) ((p, minus, t) ∷ ts)

  -- operands are these constants, each a factor or a divisor
  pub data AreFactors (scope : Scope) : Names → List (Place × Token × Expr) → List (Place × Bool × Const) → Type 0 where
    no_factor : {names : Names} → AreFactors scope names [] []
    one_factor : {names : Names} (p : Place) (divides : Bool) {e : Expr} {others : List (Place × Token × Expr)} {c : Const} {fs : List (Place × Bool × Const)} →
        has_variables scope e ≡ false → IsConst scope names e c → AreFactors scope names others fs →
        AreFactors scope names ((p, multiplying divides, e) ∷ others) ((p, divides, c) ∷ fs)

mutual
  -- an expression is this condition
  pub data IsCond (scope : Scope) : Names → Expr → Cond → Type 0 where
    cond_known : {names : Names} {e : Expr} {c : Const} → has_variables scope e ≡ false → IsConst scope names e c → IsCond scope names e (cond.Known c)
    cond_parentheses : {names : Names} (p : Place) {e : Expr} {c : Cond} → has_variables scope e ≡ true → IsCond scope names e c →
        IsCond scope names (tree.Paren p e) c
    cond_comparison : {names : Names} (p : Place) (relation : Relation) {left right : Expr} {t u : Term} →
        has_variables scope (tree.Compare left ((p, relation, right) ∷ [])) ≡ true → IsTerm scope names left t → IsTerm scope names right u →
        IsCond scope names (tree.Compare left ((p, relation, right) ∷ [])) (cond.Compare p relation t u)
    cond_not : {names : Names} (p : Place) {e : Expr} {c : Cond} → has_variables scope e ≡ true → IsCond scope names e c →
        IsCond scope names (tree.Not p e) (cond.Not p c)
    cond_and : {names : Names} {first : Expr} {others : List (Place × Expr)} {c : Cond} {cs : List (Place × Join × Cond)} →
        has_variables scope (tree.And first others) ≡ true → IsCond scope names first c → AreAnded scope names others cs →
        IsCond scope names (tree.And first others) (cond.Chain c cs)
    cond_or : {names : Names} {first : Expr} {others : List (Place × Bool × Expr)} {c : Cond} {cs : List (Place × Join × Cond)} →
        has_variables scope (tree.Or first others) ≡ true → IsCond scope names first c → AreOred scope names others cs →
        IsCond scope names (tree.Or first others) (cond.Chain c cs)

  -- operands behind `and` are these conditions
  pub data AreAnded (scope : Scope) : Names → List (Place × Expr) → List (Place × Join × Cond) → Type 0 where
    no_anded : {names : Names} → AreAnded scope names [] []
    one_anded : {names : Names} (p : Place) {e : Expr} {others : List (Place × Expr)} {c : Cond} {cs : List (Place × Join × Cond)} →
        IsCond scope names e c → AreAnded scope names others cs → AreAnded scope names ((p, e) ∷ others) ((p, join.And, c) ∷ cs)

  -- operands behind `or` and `xor` are these conditions
  pub data AreOred (scope : Scope) : Names → List (Place × Bool × Expr) → List (Place × Join × Cond) → Type 0 where
    no_ored : {names : Names} → AreOred scope names [] []
    one_ored : {names : Names} (p : Place) (xor : Bool) {e : Expr} {others : List (Place × Bool × Expr)} {c : Cond} {cs : List (Place × Join × Cond)} →
        IsCond scope names e c → AreOred scope names others cs → AreOred scope names ((p, xor, e) ∷ others) ((p, or_join xor, c) ∷ cs)

mutual
  -- an expression is this constraint
  pub data IsCon (scope : Scope) : Names → Expr → Con → Type 0 where
    con_parentheses : {names : Names} (p : Place) {e : Expr} {c : Con} → IsCon scope names e c → IsCon scope names (tree.Paren p e) c
    con_comparison : {names : Names} (p : Place) (relation : Relation) {left right : Expr} {t u : Term} → may_constrain relation ≡ true →
        IsTerm scope names left t → IsTerm scope names right u →
        IsCon scope names (tree.Compare left ((p, relation, right) ∷ [])) (con.Compare p relation t u)
    con_range : {names : Names} (p q : Place) (relation : Relation) {low middle high : Expr} {c d : Const} {t : Term} → may_enclose relation ≡ true →
        has_variables scope low ≡ false → has_variables scope high ≡ false → IsConst scope names low c → IsTerm scope names middle t → IsConst scope names high d →
        IsCon scope names (tree.Compare low ((p, relation, middle) ∷ (q, relation, high) ∷ [])) (con.Range p relation c t d)
    con_and : {names : Names} {first : Expr} {others : List (Place × Expr)} {c : Con} {cs : List Con} →
        IsCon scope names first c → AreCons scope names others cs → IsCon scope names (tree.And first others) (con.And (c ∷ cs))
    con_forall : {names inner : Names} (p : Place) (with_do : Bool) {index : Index} {e : Expr} {l : Loop} {c : Con} →
        IsLoop scope names index l inner → IsCon scope inner e c → IsCon scope names (tree.Forall p index with_do e) (con.Forall p l c)
    con_if : {names : Names} (p : Place) {test branch : Expr} {c : Const} {d : Con} → IsConst scope names test c → IsCon scope names branch d →
        IsCon scope names (tree.If p false test branch None) (con.If p c d None)
    con_if_with_else : {names : Names} (p : Place) {test branch otherwise : Expr} {c : Const} {d e : Con} → IsConst scope names test c → IsCon scope names branch d →
        IsCon scope names otherwise e → IsCon scope names (tree.If p false test branch (Some otherwise)) (con.If p c d (Some e))
    con_vif : {names : Names} (p : Place) {test branch : Expr} {c : Cond} {d : Con} → IsCond scope names test c → IsCon scope names branch d →
        IsCon scope names (tree.If p true test branch None) (con.Vif p c d None)
    con_vif_with_else : {names : Names} (p : Place) {test branch otherwise : Expr} {c : Cond} {d e : Con} → IsCond scope names test c → IsCon scope names branch d →
        IsCon scope names otherwise e → IsCon scope names (tree.If p true test branch (Some otherwise)) (con.Vif p c d (Some e))

  -- operands behind `and` are these constraints
  pub data AreCons (scope : Scope) : Names → List (Place × Expr) → List Con → Type 0 where
    no_con : {names : Names} → AreCons scope names [] []
    one_con : {names : Names} (p : Place) {e : Expr} {others : List (Place × Expr)} {c : Con} {cs : List Con} →
        IsCon scope names e c → AreCons scope names others cs → AreCons scope names ((p, e) ∷ others) (c ∷ cs)
