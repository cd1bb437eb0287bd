-- Which typed trees suit a scope and the names that are bound around them: each name in them is bound around its use or declared as what it is
-- resolved to, and is used with the brackets and the number of arguments that it has there; and the tree is well formed.
use Rattle.std.specs.Prelude.{ℕ, ◌≡◌, List, [], ◌∷◌, ◌++◌, length, get_or, filter_map, Bool, true, Option, Some, None, IsTrue}
use Rattle.zim_fault.specs.declared.faults.Place.{Place}
use Rattle.zim_fault.specs.declared.tokens.Token.{Token}
use Rattle.zim_fault.specs.declared.tokens.Relation.{Relation}
use Rattle.zim_fault.specs.declared.tokens.Join.{Join}
use Rattle.zim_fault.specs.declared.signs.Sign.{Sign}
use Rattle.zim_fault.specs.declared.words.Word.{Word}
use Rattle.zim_fault.specs.declared.words.Word.TheVariants.{WIndexset}
use Rattle.zim_decimal.specs.Token.{is_number_token}
use Rattle.zim_typed.specs.declared.constant.Const.{Const}
use Rattle.zim_typed.specs.declared.constant.Const.TheVariants as const
use Rattle.zim_typed.specs.declared.constant.TAngle.{TAngle}
use Rattle.zim_typed.specs.declared.constant.Loop.{Loop}
use Rattle.zim_typed.specs.declared.constant.LoopSlot.{LoopSlot}
use Rattle.zim_typed.specs.declared.constant.LoopSlot.TheVariants as slot
use Rattle.zim_typed.specs.declared.constant.TBody.{TBody}
use Rattle.zim_typed.specs.declared.constant.TBody.TheVariants as body
use Rattle.zim_typed.specs.declared.constant.Resolved.{Resolved}
use Rattle.zim_typed.specs.declared.constant.Resolved.TheVariants as resolved
use Rattle.zim_typed.specs.declared.constraint.Term.{Term}
use Rattle.zim_typed.specs.declared.constraint.Term.TheVariants as term
use Rattle.zim_typed.specs.declared.constraint.Cond.{Cond}
use Rattle.zim_typed.specs.declared.constraint.Cond.TheVariants as cond
use Rattle.zim_typed.specs.declared.constraint.Con.{Con}
use Rattle.zim_typed.specs.declared.constraint.Con.TheVariants as con
use Rattle.zim_typed.specs.Trees.{typed_angle, typed_loop}
use Rattle.zim_typed.specs.Scope.{Text, Names, Scope, Stands, Varies, is_local, kind_of_name, bare_declared, indexed_declared, called_declared, is_indexed_set, takes}
use Rattle.zim_typed.specs.Constants.{is_value_function}
use Rattle.zim_typed.specs.Terms.{may_constrain, may_enclose}

mutual
  -- a constant that suits a scope and names
  pub data SuitsConst (scope : Scope) : Names → Const → Type 0 where
    suits_number : {names : Names} (p : Place) {digits : List ℕ} → IsTrue (is_number_token digits) → SuitsConst scope names (const.Number p digits)
    suits_text : {names : Names} (p : Place) (text : List ℕ) (double : Bool) → SuitsConst scope names (const.Text p text double)
    suits_truth : {names : Names} (p : Place) (truth : Bool) → SuitsConst scope names (const.Truth p truth)
    suits_local : {names : Names} (p : Place) (name : Text) → is_local names name ≡ true → SuitsConst scope names (const.Name p name resolved.Local)
    suits_name : {names : Names} (p : Place) (name : Text) {r : Resolved} → bare_declared (kind_of_name scope name) ≡ Stands r →
        SuitsConst scope names (const.Name p name r)
    suits_item : {names : Names} (p : Place) (name : Text) {r : Resolved} {index : List Const} → indexed_declared (kind_of_name scope name) ≡ Stands r →
        ConstsSuit scope names index → SuitsConst scope names (const.Item p name index r)
    suits_call : {names : Names} (p : Place) (name : Text) {r : Resolved} {given : List Const} → called_declared (length given) (kind_of_name scope name) ≡ Stands r →
        ConstsSuit scope names given → SuitsConst scope names (const.Call p name given r)
    suits_function : {names : Names} (p : Place) {word : Word} {given : List Const} → is_value_function word ≡ true → takes word (length given) ≡ true →
        ConstsSuit scope names given → SuitsConst scope names (const.Func p word given)
    suits_indexset : {names : Names} (p q : Place) (name : Text) → is_indexed_set (kind_of_name scope name) ≡ true →
        SuitsConst scope names (const.Func p WIndexset (const.Name q name resolved.Set ∷ []))
    suits_projection : {names : Names} (p : Place) {set : Const} {positions : TAngle} → SuitsConst scope names set → SuitsTuple scope names positions →
        SuitsConst scope names (const.Proj p set positions)
    suits_parentheses : {names : Names} (p : Place) {inner : Const} → SuitsConst scope names inner → SuitsConst scope names (const.Paren p inner)
    suits_braces : {names : Names} (p : Place) {inside : TBody} → SuitsBody scope names inside → SuitsConst scope names (const.Braces p inside)
    suits_if : {names : Names} (p : Place) {test branch otherwise : Const} → SuitsConst scope names test → SuitsConst scope names branch →
        SuitsConst scope names otherwise → SuitsConst scope names (const.If p test branch otherwise)
    suits_factorial : {names : Names} (marks : List Place) {operand : Const} → SuitsConst scope names operand → SuitsConst scope names (const.Factorial operand marks)
    suits_power : {names : Names} (p : Place) (sign : Sign) (signed : Option (Place × Bool)) {base exponent : Const} →
        SuitsConst scope names base → SuitsConst scope names exponent → SuitsConst scope names (const.Power p sign base signed exponent)
    suits_signed : {names : Names} (p : Place) (minus : Bool) {operand : Const} → SuitsConst scope names operand → SuitsConst scope names (const.Signed p minus operand)
    suits_big : {names inner : Names} (p : Place) (word : Word) (with_do : Bool) {index : Loop} {operand : Const} → SuitsLoop scope names index inner →
        SuitsConst scope inner operand → SuitsConst scope names (const.Big p word index with_do operand)
    suits_product : {names : Names} {first : Const} {others : List (Place × Token × Const)} → SuitsConst scope names first → OperandsSuit scope names others →
        SuitsConst scope names (const.Times first others)
    suits_sum : {names : Names} {first : Const} {others : List (Place × Token × Const)} → SuitsConst scope names first → OperandsSuit scope names others →
        SuitsConst scope names (const.Plus first others)
    suits_comparison : {names : Names} (p : Place) (relation : Relation) {left right : Const} → SuitsConst scope names left → SuitsConst scope names right →
        SuitsConst scope names (const.Compare p relation left right)
    suits_member : {names : Names} (p : Place) {tuple : TAngle} {set : Const} → SuitsTuple scope names tuple → SuitsConst scope names set →
        SuitsConst scope names (const.Member p tuple set)
    suits_not : {names : Names} (p : Place) {operand : Const} → SuitsConst scope names operand → SuitsConst scope names (const.Not p operand)
    suits_and : {names : Names} {first : Const} {others : List (Place × Const)} → SuitsConst scope names first → ConjunctsSuit scope names others →
        SuitsConst scope names (const.And first others)
    suits_or : {names : Names} {first : Const} {others : List (Place × Bool × Const)} → SuitsConst scope names first → DisjunctsSuit scope names others →
        SuitsConst scope names (const.Or first others)

  -- constants that suit
  pub data ConstsSuit (scope : Scope) : Names → List Const → Type 0 where
    suits_none : {names : Names} → ConstsSuit scope names []
    suits_one : {names : Names} {c : Const} {cs : List Const} → SuitsConst scope names c → ConstsSuit scope names cs → ConstsSuit scope names (c ∷ cs)

  -- operands behind operators that suit
  pub data OperandsSuit (scope : Scope) : Names → List (Place × Token × Const) → Type 0 where
    suits_no_operand : {names : Names} → OperandsSuit scope names []
    suits_one_operand : {names : Names} (p : Place) (token : Token) {c : Const} {others : List (Place × Token × Const)} →
        SuitsConst scope names c → OperandsSuit scope names others → OperandsSuit scope names ((p, token, c) ∷ others)

  -- operands behind `and` that suit
  pub data ConjunctsSuit (scope : Scope) : Names → List (Place × Const) → Type 0 where
    suits_no_conjunct : {names : Names} → ConjunctsSuit scope names []
    suits_one_conjunct : {names : Names} (p : Place) {c : Const} {others : List (Place × Const)} →
        SuitsConst scope names c → ConjunctsSuit scope names others → ConjunctsSuit scope names ((p, c) ∷ others)

  -- operands behind `or` and `xor` that suit
  pub data DisjunctsSuit (scope : Scope) : Names → List (Place × Bool × Const) → Type 0 where
    suits_no_disjunct : {names : Names} → DisjunctsSuit scope names []
    suits_one_disjunct : {names : Names} (p : Place) (xor : Bool) {c : Const} {others : List (Place × Bool × Const)} →
        SuitsConst scope names c → DisjunctsSuit scope names others → DisjunctsSuit scope names ((p, xor, c) ∷ others)

  -- a tuple that suits
  pub data SuitsTuple (scope : Scope) : Names → TAngle → Type 0 where
    suits_tuple : {names : Names} (p : Place) {items : List Const} → ConstsSuit scope names items → SuitsTuple scope names (typed_angle p items)

  -- tuples that suit
  pub data TuplesSuit (scope : Scope) : Names → List TAngle → Type 0 where
    suits_no_tuple : {names : Names} → TuplesSuit scope names []
    suits_one_tuple : {names : Names} {tuple : TAngle} {tuples : List TAngle} → SuitsTuple scope names tuple → TuplesSuit scope names tuples →
        TuplesSuit scope names (tuple ∷ tuples)

  -- the components of an index that suit, where it is known which names those before them bind; all bind these names
  pub data SlotsSuit (scope : Scope) : Names → List (Option Text) → List LoopSlot → Names → Type 0 where
    suits_no_slot : {names : Names} {before : List (Option Text)} → SlotsSuit scope names before [] (filter_map (λ x. x) before)
    suits_free : {names bound : Names} {before : List (Option Text)} (name : Text) {slots : List LoopSlot} →
        SlotsSuit scope names (before ++ Some name ∷ []) slots bound → SlotsSuit scope names before (slot.Free name ∷ slots) bound
    suits_again : {names bound : Names} {before : List (Option Text)} {i : ℕ} (name : Text) {slots : List LoopSlot} →
        get_or before i None ≡ Some name → SlotsSuit scope names (before ++ None ∷ []) slots bound → SlotsSuit scope names before (slot.Again i ∷ slots) bound
    suits_fixed : {names bound : Names} {before : List (Option Text)} {c : Const} {slots : List LoopSlot} →
        SuitsConst scope names c → SlotsSuit scope names (before ++ None ∷ []) slots bound → SlotsSuit scope names before (slot.Fixed c ∷ slots) bound

  -- an index that suits, and the names that are bound behind it
  pub data SuitsLoop (scope : Scope) : Names → Loop → Names → Type 0 where
    suits_loop : {names bound : Names} (p : Place) {slots : List LoopSlot} {set : Const} → SlotsSuit scope names [] slots bound →
        SuitsConst scope names set → SuitsLoop scope names (typed_loop p slots set None) (bound ++ names)
    suits_loop_with : {names bound : Names} (p : Place) {slots : List LoopSlot} {set cond : Const} → SlotsSuit scope names [] slots bound →
        SuitsConst scope names set → SuitsConst scope (bound ++ names) cond → SuitsLoop scope names (typed_loop p slots set (Some cond)) (bound ++ names)

  -- what stands in braces and suits
  pub data SuitsBody (scope : Scope) : Names → TBody → Type 0 where
    suits_empty : {names : Names} → SuitsBody scope names body.Empty
    suits_members : {names : Names} {members : List Const} → ConstsSuit scope names members → SuitsBody scope names (body.Members members)
    suits_tuples : {names : Names} {tuples : List TAngle} → TuplesSuit scope names tuples → SuitsBody scope names (body.Tuples tuples)
    suits_choices : {names inner : Names} {index : Loop} → SuitsLoop scope names index inner → SuitsBody scope names (body.Those index)
    suits_span : {names : Names} (with_to : Bool) {from to : Const} → SuitsConst scope names from → SuitsConst scope names to →
        SuitsBody scope names (body.Span from with_to to None)
    suits_span_by : {names : Names} (with_to : Bool) {from to by : Const} → SuitsConst scope names from → SuitsConst scope names to → SuitsConst scope names by →
        SuitsBody scope names (body.Span from with_to to (Some by))

mutual
  -- a term that suits a scope and names
  pub data SuitsTerm (scope : Scope) : Names → Term → Type 0 where
    suits_known_term : {names : Names} {c : Const} → SuitsConst scope names c → SuitsTerm scope names (term.Known c)
    suits_variable : {names : Names} (p : Place) (name : Text) → bare_declared (kind_of_name scope name) ≡ Varies → SuitsTerm scope names (term.Column p name [])
    suits_variable_at : {names : Names} (p : Place) (name : Text) {first : Const} {others : List Const} → indexed_declared (kind_of_name scope name) ≡ Varies →
        ConstsSuit scope names (first ∷ others) → SuitsTerm scope names (term.Column p name (first ∷ others))
    suits_term_sum : {names : Names} {first : Term} {others : List (Place × Bool × Term)} → SuitsTerm scope names first → TermsSuit scope names others →
        SuitsTerm scope names (term.Sum first others)
    suits_term_product : {names : Names} {inner : Term} {factors : List (Place × Bool × Const)} → SuitsTerm scope names inner →
        FactorsSuit scope names factors → SuitsTerm scope names (term.Product None inner factors)
    suits_term_multiple : {names : Names} (p : Place) {c : Const} {inner : Term} {factors : List (Place × Bool × Const)} → SuitsConst scope names c →
        SuitsTerm scope names inner → FactorsSuit scope names factors → SuitsTerm scope names (term.Product (Some (c, p)) inner factors)
    suits_minus : {names : Names} (p : Place) {inner : Term} → SuitsTerm scope names inner → SuitsTerm scope names (term.Minus p inner)
    suits_sum_over : {names inner : Names} (p : Place) {index : Loop} {summand : Term} → SuitsLoop scope names index inner → SuitsTerm scope inner summand →
        SuitsTerm scope names (term.SumOver p index summand)
    suits_term_if : {names : Names} (p : Place) {test : Const} {branch otherwise : Term} → SuitsConst scope names test → SuitsTerm scope names branch →
        SuitsTerm scope names otherwise → SuitsTerm scope names (term.If p test branch otherwise)
    suits_absolute : {names : Names} (p : Place) {inner : Term} → SuitsTerm scope names inner → SuitsTerm scope names (term.Abs p inner)

  -- terms that are added or taken off, and suit
  pub data TermsSuit (scope : Scope) : Names → List (Place × Bool × Term) → Type 0 where
    suits_no_term : {names : Names} → TermsSuit scope names []
    suits_one_term : {names : Names} (p : Place) (minus : Bool) {t : Term} {others : List (Place × Bool × Term)} →
        SuitsTerm scope names t → TermsSuit scope names others → TermsSuit scope names ((p, minus, t) ∷ others)

  -- factors and divisors that suit
  pub data FactorsSuit (scope : Scope) : Names → List (Place × Bool × Const) → Type 0 where
    suits_no_factor : {names : Names} → FactorsSuit scope names []
    suits_one_factor : {names : Names} (p : Place) (divides : Bool) {c : Const} {others : List (Place × Bool × Const)} →
        SuitsConst scope names c → FactorsSuit scope names others → FactorsSuit scope names ((p, divides, c) ∷ others)

mutual
  -- a condition that suits a scope and names
  pub data SuitsCond (scope : Scope) : Names → Cond → Type 0 where
    suits_known_condition : {names : Names} {c : Const} → SuitsConst scope names c → SuitsCond scope names (cond.Known c)
    suits_compared : {names : Names} (p : Place) (relation : Relation) {t u : Term} → SuitsTerm scope names t → SuitsTerm scope names u →
        SuitsCond scope names (cond.Compare p relation t u)
    suits_chain : {names : Names} {first : Cond} {others : List (Place × Join × Cond)} → SuitsCond scope names first → JoinedSuit scope names others →
        SuitsCond scope names (cond.Chain first others)
    suits_negated : {names : Names} (p : Place) {c : Cond} → SuitsCond scope names c → SuitsCond scope names (cond.Not p c)

  -- conditions that are joined, and suit
  pub data JoinedSuit (scope : Scope) : Names → List (Place × Join × Cond) → Type 0 where
    suits_none_joined : {names : Names} → JoinedSuit scope names []
    suits_one_joined : {names : Names} (p : Place) (how : Join) {c : Cond} {others : List (Place × Join × Cond)} →
        SuitsCond scope names c → JoinedSuit scope names others → JoinedSuit scope names ((p, how, c) ∷ others)

mutual
  -- a constraint that suits a scope and names: two terms are compared by `<=`, `>=` or `==`, and a term lies between numbers by `<=` or `>=`
  pub data SuitsCon (scope : Scope) : Names → Con → Type 0 where
    suits_constraint : {names : Names} (p : Place) {relation : Relation} {t u : Term} → may_constrain relation ≡ true →
        SuitsTerm scope names t → SuitsTerm scope names u → SuitsCon scope names (con.Compare p relation t u)
    suits_range : {names : Names} (p : Place) {relation : Relation} {low high : Const} {t : Term} → may_enclose relation ≡ true →
        SuitsConst scope names low → SuitsTerm scope names t → SuitsConst scope names high → SuitsCon scope names (con.Range p relation low t high)
    suits_all : {names : Names} {parts : List Con} → ConsSuit scope names parts → SuitsCon scope names (con.And parts)
    suits_forall : {names inner : Names} (p : Place) {index : Loop} {inside : Con} → SuitsLoop scope names index inner → SuitsCon scope inner inside →
        SuitsCon scope names (con.Forall p index inside)
    suits_con_if : {names : Names} (p : Place) {test : Const} {branch : Con} {otherwise : Option Con} → SuitsConst scope names test →
        SuitsCon scope names branch → SuitsOtherwise scope names otherwise → SuitsCon scope names (con.If p test branch otherwise)
    suits_con_vif : {names : Names} (p : Place) {test : Cond} {branch : Con} {otherwise : Option Con} → SuitsCond scope names test →
        SuitsCon scope names branch → SuitsOtherwise scope names otherwise → SuitsCon scope names (con.Vif p test branch otherwise)

  -- what stands behind `else` suits, if it is there
  pub data SuitsOtherwise (scope : Scope) : Names → Option Con → Type 0 where
    suits_no_otherwise : {names : Names} → SuitsOtherwise scope names None
    suits_otherwise : {names : Names} {c : Con} → SuitsCon scope names c → SuitsOtherwise scope names (Some c)

  -- constraints that suit
  pub data ConsSuit (scope : Scope) : Names → List Con → Type 0 where
    suits_no_con : {names : Names} → ConsSuit scope names []
    suits_one_con : {names : Names} {c : Con} {cs : List Con} → SuitsCon scope names c → ConsSuit scope names cs → ConsSuit scope names (c ∷ cs)
