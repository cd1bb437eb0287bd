-- What the ground condition of a condition says: it is true where the condition is, names declared columns alone and divides by no 0.
use Rattle.std.proofs.Common.{ℕ, ◌≡◌, Bool, true, false, not, List, [], ◌∷◌, ◌++◌, map, Ok, refl, ap, ap₂, sym, ◌∙◌, subst}
use Rattle.std.proofs.lemmas.Bool.{and_parts}
use Rattle.std.proofs.lemmas.List.{map-append}
use Rattle.std.specs.Cmp.Derive.{both_true}
use Rattle.zim_answer.specs.Answer.{goes}
use Rattle.zim_answer.proofs.BindLemmas.{bind_gave}
use Rattle.zim_fault.specs.declared.faults.Place.{Place}
use Rattle.zim_fault.specs.declared.tokens.Join.{Join}
use Rattle.zim_formula.specs.Ground.{term_number, related, joined_truths, chain_from, condition_holds}
use Rattle.zim_formula.specs.GroundRules.{joined_hold}
use Rattle.zim_ground.specs.Listed.{term_passes, condition_passes}
use Rattle.zim_formula.specs.declared.ground.GTerm.{GTerm}
use Rattle.zim_formula.specs.declared.ground.GCond.{GCond}
use Rattle.zim_formula.specs.declared.ground.GCond.TheVariants as ground_condition
use Rattle.zim_formula.proofs.GroundLaws.{truth-Known, truth-Compare, truth-Chain, truth-Not}
use Rattle.zim_ground.proofs.ListedLaws.{passes-condition-Known, passes-condition-Compare, passes-condition-Chain, passes-condition-Not}
use Rattle.zim_meaning.specs.Value.{value}
use Rattle.zim_meaning.specs.declared.values.Value.{Value}
use Rattle.zim_meaning.specs.declared.values.Value.TheVariants as of_value
use Rattle.zim_tuples.specs.declared.environments.Binding.{Binding}
use Rattle.zim_typed.specs.declared.constraint.Term.{Term}
use Rattle.zim_typed.specs.declared.constraint.Cond.{Cond, Cond-F, fold-Cond, roll-Cond, map-Cond, fold-roll-Cond, ind-Cond}
use Rattle.zim_ground.specs.declared.operands.TermOperand.{TermOperand}
use Rattle.zim_ground.specs.declared.operands.TermOperand.TheVariants as operand
use Rattle.zim_ground.specs.declared.operands.CondOperand.{CondOperand}
use Rattle.zim_ground.specs.declared.operands.CondOperand.TheVariants as condition
use Rattle.zim_ground.specs.Meaning.{truth_or_false, said_if_answered, known_truth, ConditionTruth, condition_truth_step, number_of_term, truth_of_condition}
use Rattle.zim_ground.specs.Grounding.{grounding_of_term, ground_of_term, term_at, ConditionGround, condition_at, compared_terms, with_joined, chain_made, condition_ground_step, ground_of_condition}
use Rattle.zim_ground.specs.Law.{AllPass}
use Rattle.zim_ground.proofs.TermLaws.{Setting, Says, term_gave, term_told}

-- ---- what is owed

abbrev pub ground_conditions : Setting → Cond → ConditionGround
ground_conditions s = fold-Cond ConditionGround (condition_ground_step s.world s.columns)

abbrev pub truths : Setting → Cond → ConditionTruth
truths s = fold-Cond ConditionTruth (condition_truth_step s.world s.assigned)

-- the truth of an operand; false where it has none
abbrev pub operand_truth : Setting → CondOperand → Bool
operand_truth s (condition.Value v) = truth_or_false v
operand_truth s (condition.Ground c) = condition_holds s.numbers c

-- whether the columns of an operand pass a test, and it divides by no 0
abbrev pub condition_over : (ℕ → Bool) → CondOperand → Bool
condition_over n (condition.Value v) = true
condition_over n (condition.Ground c) = condition_passes n c

pub record SaysTruth (s : Setting) (b : Bool) (o : CondOperand) : Type 0 where
  pub truth : operand_truth s o ≡ b
  pub over : AllPass s.passes s.columns → condition_over s.passes o ≡ true

abbrev pub Told : Setting → Cond → Type 0
Told s c = (env : List Binding) (o : CondOperand) → ground_conditions s c env ≡ Ok o → SaysTruth s (truths s c env) o

abbrev Part : Setting → Type 0
Part s = (c : Cond) × Told s c

-- ---- operands

known_is : (s : Setting) (env : List Binding) (v : Value) → (c : _) → value s.world env c ≡ Ok v → known_truth s.world env c ≡ truth_or_false v
unfolding known_truth
known_is s env v c h = ap (said_if_answered false truth_or_false) h

-- what an operand is where a truth value is wanted
pub condition_gave : (s : Setting) (place : Place) (b : Bool) (o : CondOperand) (g : GCond) → SaysTruth s b o → condition_at place o ≡ Ok g → SaysTruth s b (condition.Ground g)
condition_gave s place b (condition.Value (of_value.Truth p)) g says h =
    let e : ground_condition.Known p ≡ g = cc in
    subst (λ (c : GCond). SaysTruth s b (condition.Ground c)) e (record { truth = truth-Known s.numbers p ∙ says.truth; over = λ among. passes-condition-Known s.passes p })
condition_gave s place b (condition.Value (of_value.Number q)) g says h = cc
condition_gave s place b (condition.Value (of_value.Text text)) g says h = cc
condition_gave s place b (condition.Value (of_value.Set tuples)) g says h = cc
condition_gave s place b (condition.Ground c) g says h =
    let e : c ≡ g = cc in
    subst (λ (d : GCond). SaysTruth s b (condition.Ground d)) e says

-- what the operand of a term says
term_says : (s : Setting) (env : List Binding) (t : Term) (o : TermOperand) → ground_of_term s.world s.columns env t ≡ Ok o → Says s (number_of_term s.world s.assigned env t) o
unfolding grounding_of_term number_of_term
term_says s env t o h = term_told s t env o h

pub record SaysTwo (s : Setting) (env : List Binding) (left right : Term) (l r : GTerm) : Type 0 where
  pub left_number : term_number s.numbers l ≡ number_of_term s.world s.assigned env left
  pub right_number : term_number s.numbers r ≡ number_of_term s.world s.assigned env right
  pub left_over : AllPass s.passes s.columns → term_passes s.passes l ≡ true
  pub right_over : AllPass s.passes s.columns → term_passes s.passes r ≡ true

-- the two terms of a comparison
pub compared_told : (s : Setting) (env : List Binding) (place : Place) (left right : Term) (terms : GTerm × GTerm) → compared_terms s.world s.columns env place left right ≡ Ok terms → SaysTwo s env left right terms.0 terms.1
compared_told s env place left right terms h =
    let (a, a_is, first) = bind_gave (ground_of_term s.world s.columns env left) _ terms h in
    let (b, b_is, second) = bind_gave (ground_of_term s.world s.columns env right) _ terms first in
    let (l, l_is, third) = bind_gave (term_at place a) _ terms second in
    let (r, r_is, end) = bind_gave (term_at place b) _ terms third in
    let of_left = term_gave s place _ a l (term_says s env left a a_is) l_is in
    let of_right = term_gave s place _ b r (term_says s env right b b_is) r_is in
    let e : ◌≡◌ {A = GTerm × GTerm} (l, r) terms = cc in
    subst (λ (both : GTerm × GTerm). SaysTwo s env left right both.0 both.1) e
    (record { left_number = of_left.number; right_number = of_right.number; left_over = of_left.over; right_over = of_right.over })

-- the term of a range
pub ranged_told : (s : Setting) (env : List Binding) (place : Place) (t : Term) (o : TermOperand) (g : GTerm) → ground_of_term s.world s.columns env t ≡ Ok o → term_at place o ≡ Ok g → Says s (number_of_term s.world s.assigned env t) (operand.Ground g)
ranged_told s env place t o g o_is g_is = term_gave s place _ o g (term_says s env t o o_is) g_is

-- ---- chains

abbrev truth_operands : Setting → List (Place × Join × GCond) → List (Place × Join × Bool)
truth_operands s gs = map (λ (c : Place × Join × GCond). (c.0, c.1, condition_holds s.numbers c.2)) gs

abbrev over_operands : (ℕ → Bool) → List (Place × Join × GCond) → List (Place × Join × Bool)
over_operands n gs = map (λ (c : Place × Join × GCond). (c.0, c.1, condition_passes n c.2)) gs

chain_append : (b : Bool) (cs ds : List (Place × Join × Bool)) → chain_from b (cs ++ ds) ≡ chain_from (chain_from b cs) ds
unfolding chain_from
chain_append b [] ds = refl
chain_append b (c ∷ cs) ds = chain_append (joined_truths c.1 b c.2) cs ds

chain_one : (b d : Bool) (place : Place) (join : Join) → chain_from b ((place, join, d) ∷ []) ≡ joined_truths join b d
unfolding chain_from
chain_one b d place join = refl

one_holds : (place : Place) (join : Join) (b : Bool) → b ≡ true → joined_hold ((place, join, b) ∷ []) ≡ true
unfolding joined_hold
one_holds place join b h = both_true h refl

holds_append : (cs ds : List (Place × Join × Bool)) → joined_hold cs ≡ true → joined_hold ds ≡ true → joined_hold (cs ++ ds) ≡ true
unfolding joined_hold
holds_append [] ds h k = k
holds_append (c ∷ cs) ds h k = let p = and_parts c.2 (joined_hold cs) h in both_true p.0 (holds_append cs ds p.1 k)

record SaysChain (s : Setting) (b : Bool) (c : GCond) (gs : List (Place × Join × GCond)) : Type 0 where
  pub truth : chain_from (condition_holds s.numbers c) (truth_operands s gs) ≡ b
  pub first : AllPass s.passes s.columns → condition_passes s.passes c ≡ true
  pub others : AllPass s.passes s.columns → joined_hold (over_operands s.passes gs) ≡ true

begun : (s : Setting) (b : Bool) (c : GCond) → SaysTruth s b (condition.Ground c) → SaysChain s b c []
unfolding chain_from joined_hold
begun s b c says = record { truth = says.truth; first = says.over; others = λ among. refl }

one_more : (s : Setting) (b d : Bool) (c : GCond) (gs : List (Place × Join × GCond)) (place : Place) (join : Join) (g : GCond) → SaysChain s b c gs → SaysTruth s d (condition.Ground g) → SaysChain s (joined_truths join b d) c (gs ++ (place, join, g) ∷ [])
one_more s b d c gs place join g says more = record {
  truth =
      ap (chain_from (condition_holds s.numbers c)) (map-append (λ (u : Place × Join × GCond). (u.0, u.1, condition_holds s.numbers u.2)) gs ((place, join, g) ∷ []))
      ∙ chain_append (condition_holds s.numbers c) (truth_operands s gs) ((place, join, condition_holds s.numbers g) ∷ [])
      ∙ chain_one (chain_from (condition_holds s.numbers c) (truth_operands s gs)) (condition_holds s.numbers g) place join
      ∙ ap₂ (joined_truths join) says.truth more.truth;
  first = says.first;
  others =
      λ among.
      ap joined_hold (map-append (λ (u : Place × Join × GCond). (u.0, u.1, condition_passes s.passes u.2)) gs ((place, join, g) ∷ []))
      ∙ holds_append (over_operands s.passes gs) ((place, join, condition_passes s.passes g) ∷ []) (says.others among) (one_holds place join (condition_passes s.passes g) (more.over among));
}

chain_made_says : (s : Setting) (b : Bool) (c : GCond) (gs : List (Place × Join × GCond)) → SaysChain s b c gs → SaysTruth s b (condition.Ground (ground_condition.Chain c gs))
chain_made_says s b c gs says = record {
  truth = truth-Chain s.numbers c gs ∙ says.truth;
  over = λ among. passes-condition-Chain s.passes c gs ∙ both_true (says.first among) (says.others among);
}

abbrev bare_operands : (s : Setting) → List (Place × Join × Part s) → List (Place × Join × Cond)
bare_operands s os = map (λ (o : Place × Join × Part s). (o.0, o.1, o.2.0)) os

abbrev ground_operands : (s : Setting) → List (Place × Join × Part s) → List (Place × Join × ConditionGround)
ground_operands s os = map (λ (c : Place × Join × Cond). (c.0, c.1, ground_conditions s c.2)) (bare_operands s os)

abbrev truths_at : (s : Setting) → List Binding → List (Place × Join × Part s) → List (Place × Join × Bool)
truths_at s env os = map (λ (c : Place × Join × ConditionTruth). (c.0, c.1, c.2 env)) (map (λ (c : Place × Join × Cond). (c.0, c.1, truths s c.2)) (bare_operands s os))

abbrev Joining : Type 0
Joining = CondOperand × List (Place × Join × GCond)

further_told : (s : Setting) (env : List Binding) (os : List (Place × Join × Part s)) (c : GCond) (gs : List (Place × Join × GCond)) (b : Bool) (final : Joining) → SaysChain s b c gs
    → goes (with_joined env) (condition.Ground c, gs) (ground_operands s os) ≡ Ok final → SaysTruth s (chain_from b (truths_at s env os)) (chain_made final)
unfolding goes chain_from
further_told s env [] c gs b final says h =
    let e : ◌≡◌ {A = Joining} (condition.Ground c, gs) final = cc in
    subst (λ (f : Joining). SaysTruth s b (chain_made f)) e (chain_made_says s b c gs says)
further_told s env (o ∷ os) c gs b final says h =
    let (next, next_is, rest) = bind_gave (with_joined env (condition.Ground c, gs) (o.0, o.1, ground_conditions s o.2.0)) _ final h in
    let (made, made_is, last) = bind_gave (ground_conditions s o.2.0 env) _ next next_is in
    let (g, g_is, end) = bind_gave (condition_at o.0 made) _ next last in
    let d : Bool = truths s o.2.0 env in
    let part = condition_gave s o.0 d made g (o.2.1 env made made_is) g_is in
    let e : ◌≡◌ {A = Joining} (condition.Ground c, gs ++ (o.0, o.1, g) ∷ []) next = cc in
    further_told s env os c (gs ++ (o.0, o.1, g) ∷ []) (joined_truths o.1 b d) final (one_more s b d c gs o.0 o.1 g says part)
    (subst (λ (f : Joining). goes (with_joined env) f (ground_operands s os) ≡ Ok final) (sym e) rest)

chain_told : (s : Setting) (env : List Binding) (os : List (Place × Join × Part s)) (first : CondOperand) (b : Bool) (final : Joining) → SaysTruth s b first
    → goes (with_joined env) (first, []) (ground_operands s os) ≡ Ok final → SaysTruth s (chain_from b (truths_at s env os)) (chain_made final)
unfolding goes chain_from
chain_told s env [] (condition.Value v) b final says h =
    let e : ◌≡◌ {A = Joining} (condition.Value v, []) final = cc in
    subst (λ (f : Joining). SaysTruth s b (chain_made f)) e says
chain_told s env [] (condition.Ground c) b final says h = further_told s env [] c [] b final (begun s b c says) h
chain_told s env (o ∷ os) first b final says h =
    let (next, next_is, rest) = bind_gave (with_joined env (first, []) (o.0, o.1, ground_conditions s o.2.0)) _ final h in
    let (made, made_is, last) = bind_gave (ground_conditions s o.2.0 env) _ next next_is in
    let (c, c_is, later) = bind_gave (condition_at o.0 first) _ next last in
    let (g, g_is, end) = bind_gave (condition_at o.0 made) _ next later in
    let d : Bool = truths s o.2.0 env in
    let part = condition_gave s o.0 d made g (o.2.1 env made made_is) g_is in
    let e : ◌≡◌ {A = Joining} (condition.Ground c, (o.0, o.1, g) ∷ []) next = cc in
    further_told s env os c ((o.0, o.1, g) ∷ []) (joined_truths o.1 b d) final (one_more s b d c [] o.0 o.1 g (begun s b c (condition_gave s o.0 b first c says c_is)) part)
    (subst (λ (f : Joining). goes (with_joined env) f (ground_operands s os) ≡ Ok final) (sym e) rest)

-- ---- conditions

abbrev bare : (s : Setting) → Cond-F (Part s) → Cond-F Cond
bare s y = map-Cond (Part s) Cond (λ c. c.0) y

-- what each form of a condition says, by what its parts do
inner : (s : Setting) (y : Cond-F (Part s)) (env : List Binding) (o : CondOperand) → condition_ground_step s.world s.columns (map-Cond Cond ConditionGround (ground_conditions s) (bare s y)) env ≡ Ok o
    → SaysTruth s (condition_truth_step s.world s.assigned (map-Cond Cond ConditionTruth (truths s) (bare s y)) env) o
inner s (Cond-F.Known c) env o h =
    let (v, v_is, end) = bind_gave (value s.world env c) _ o h in
    let e : condition.Value v ≡ o = cc in
    subst (SaysTruth s (known_truth s.world env c)) e (record { truth = sym (known_is s env v c v_is); over = λ among. refl })
inner s (Cond-F.Compare place relation left right) env o h =
    let (terms, terms_are, end) = bind_gave (compared_terms s.world s.columns env place left right) _ o h in
    let both = compared_told s env place left right terms terms_are in
    let e : condition.Ground (ground_condition.Compare place relation terms.0 terms.1) ≡ o = cc in
    subst (SaysTruth s (related relation (number_of_term s.world s.assigned env left) (number_of_term s.world s.assigned env right))) e
    (record {
      truth = truth-Compare s.numbers place relation terms.0 terms.1 ∙ ap₂ (related relation) both.left_number both.right_number;
      over = λ among. passes-condition-Compare s.passes place relation terms.0 terms.1 ∙ both_true (both.left_over among) (both.right_over among);
    })
inner s (Cond-F.Chain first others) env o h =
    let (c, c_is, rest) = bind_gave (ground_conditions s first.0 env) _ o h in
    let (all, all_is, end) = bind_gave (goes (with_joined env) (c, []) (ground_operands s others)) _ o rest in
    let e : chain_made all ≡ o = cc in
    subst (SaysTruth s (chain_from (truths s first.0 env) (truths_at s env others))) e (chain_told s env others c (truths s first.0 env) all (first.1 env c c_is) all_is)
inner s (Cond-F.Not place operand) env o h =
    let (c, c_is, rest) = bind_gave (ground_conditions s operand.0 env) _ o h in
    let (g, g_is, end) = bind_gave (condition_at place c) _ o rest in
    let part = condition_gave s place (truths s operand.0 env) c g (operand.1 env c c_is) g_is in
    let e : condition.Ground (ground_condition.Not place g) ≡ o = cc in
    subst (SaysTruth s (not (truths s operand.0 env))) e
    (record {
      truth = truth-Not s.numbers place g ∙ ap not part.truth;
      over = λ among. passes-condition-Not s.passes place g ∙ part.over among;
    })

layer : (s : Setting) (y : Cond-F (Part s)) → Told s (roll-Cond (bare s y))
layer s y env o h =
    subst (λ (truth : ConditionTruth). SaysTruth s (truth env) o) (sym (fold-roll-Cond ConditionTruth (condition_truth_step s.world s.assigned) (bare s y)))
    (inner s y env o (ap (λ (c : ConditionGround). c env) (sym (fold-roll-Cond ConditionGround (condition_ground_step s.world s.columns) (bare s y))) ∙ h))

condition_told : (s : Setting) (c : Cond) → Told s c
condition_told s = ind-Cond (Told s) (λ x y is. subst (λ (z : Cond-F Cond). Told s (roll-Cond z)) is (layer s y))

-- what a condition says
pub condition_says : (s : Setting) (env : List Binding) (c : Cond) (o : CondOperand) → ground_of_condition s.world s.columns env c ≡ Ok o → SaysTruth s (truth_of_condition s.world s.assigned env c) o
unfolding ground_of_condition truth_of_condition
condition_says s env c o h = condition_told s c env o h
