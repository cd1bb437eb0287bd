-- What the ground term of a term says: its number is that of the term, and it names declared columns alone and divides by no 0.
use Rattle.std.proofs.Common.{ℕ, ◌≡◌, Bool, true, false, not, ◌&&◌, if◌then◌else◌, List, [], ◌∷◌, ◌++◌, map, Option, Some, None, Ok, Err, refl, ap, ap₂, sym, ◌∙◌, subst}
use Rattle.std.proofs.lemmas.Bool.{and_parts}
use Rattle.std.proofs.lemmas.List.{map-append}
use Rattle.std.specs.Cmp.Derive.{both_true}
use Rattle.zim_answer.specs.Answer.{◌>>=◌, goes}
use Rattle.zim_answer.proofs.BindLemmas.{bind_gave}
use Rattle.zim_fault.specs.declared.faults.Place.{Place}
use Rattle.zim_fault.specs.declared.kinds.Kind.TheVariants.{DivZero}
use Rattle.zim_formula.specs.Ground.{sum_from, product_from, with_factor, term_number, all_hold}
use Rattle.zim_formula.specs.GroundRules.{divides, operands_hold}
use Rattle.zim_ground.specs.Listed.{term_passes}
use Rattle.zim_formula.specs.declared.ground.GTerm.{GTerm}
use Rattle.zim_formula.specs.declared.ground.GTerm.TheVariants as ground_term
use Rattle.zim_formula.proofs.GroundLaws.{number-Known, number-Column, number-Sum, number-Product, number-Minus, number-SumOver, number-Abs}
use Rattle.zim_ground.proofs.ListedLaws.{passes-term-Known, passes-term-Column, passes-term-Sum, passes-term-Product, passes-term-Minus, passes-term-SumOver, passes-term-Abs}
use Rattle.zim_linear.specs.Forms.{ColumnNumbers}
use Rattle.zim_meaning.specs.Expressions.{tuple_of_parts}
use Rattle.zim_meaning.specs.Operations.{number_of_value, truth_of_value}
use Rattle.zim_meaning.specs.Statements.{const_known}
use Rattle.zim_meaning.specs.Value.{value, index_choices}
use Rattle.zim_meaning.specs.World.{World, at_place, entry}
use Rattle.zim_meaning.specs.declared.choices.Choice.{Choice}
use Rattle.zim_meaning.specs.declared.values.Value.{Value}
use Rattle.zim_meaning.specs.declared.values.Value.TheVariants as of_value
use Rattle.zim_rational.specs.Rational.{Rational, zero, plus, minus, negate, times, over, total, same}
use Rattle.zim_rational.specs.Rounding.{absolute}
use Rattle.zim_tuples.specs.declared.elements.Elem.{Elem}
use Rattle.zim_tuples.specs.declared.environments.Binding.{Binding}
use Rattle.zim_typed.specs.declared.constant.Const.{Const}
use Rattle.zim_typed.specs.declared.constant.Loop.{Loop}
use Rattle.zim_typed.specs.declared.constraint.Term.{Term, Term-F, fold-Term, roll-Term, map-Term, fold-roll-Term, ind-Term}
use Rattle.zim_ground.specs.declared.operands.TermOperand.{TermOperand}
use Rattle.zim_ground.specs.declared.operands.TermOperand.TheVariants as operand
use Rattle.zim_ground.specs.Meaning.{Assignment, number_or_zero, truth_or_false, said_if_answered, known_number, known_truth, known_index, chosen_environments, TermNumber, term_number_step, number_of_term}
use Rattle.zim_ground.specs.Grounding.{Columns, truth_known, TermGround, term_at, with_added_term, summed, multiplied_first, multiplier, with_multiplier, product_made, with_chosen_term, term_ground_step, grounding_of_term, objective_answer}
use Rattle.zim_ground.specs.Law.{Agree, AllPass}

-- ---- what is owed

-- a world, the declared columns, and numbers of columns that agree with an assignment
pub record Setting : Type 0 where
  pub world : World
  pub columns : Columns
  pub assigned : Assignment
  pub numbers : ColumnNumbers
  pub passes : ℕ → Bool
  pub agree : Agree columns numbers assigned

abbrev pub grounds : Setting → Term → TermGround
grounds s = fold-Term TermGround (term_ground_step s.world s.columns)

abbrev pub numbers : Setting → Term → TermNumber
numbers s = fold-Term TermNumber (term_number_step s.world s.assigned)

-- the number of an operand; 0 where it is none
abbrev pub operand_number : ColumnNumbers → TermOperand → Rational
operand_number x (operand.Value v) = number_or_zero v
operand_number x (operand.Ground t) = term_number x t

-- whether the columns of an operand pass a test, and it divides by no 0
abbrev pub operand_over : (ℕ → Bool) → TermOperand → Bool
operand_over n (operand.Value v) = true
operand_over n (operand.Ground t) = term_passes n t

pub record Says (s : Setting) (q : Rational) (o : TermOperand) : Type 0 where
  pub number : operand_number s.numbers o ≡ q
  pub over : AllPass s.passes s.columns → operand_over s.passes o ≡ true

abbrev pub Told : Setting → Term → Type 0
Told s t = (env : List Binding) (o : TermOperand) → (grounds s t).ground env ≡ Ok o → Says s (numbers s t env) o

abbrev Part : Setting → Type 0
Part s = (t : Term) × Told s t

-- ---- parts without variables

number_is : (place : Place) (v : Value) (q : Rational) → at_place place (number_of_value v) ≡ Ok q → number_or_zero v ≡ q
number_is place (of_value.Number p) q h = cc
number_is place (of_value.Text text) q h = cc
number_is place (of_value.Truth truth) q h = cc
number_is place (of_value.Set tuples) q h = cc

truth_is : (place : Place) (v : Value) (b : Bool) → at_place place (truth_of_value v) ≡ Ok b → truth_or_false v ≡ b
truth_is place (of_value.Number p) b h = cc
truth_is place (of_value.Text text) b h = cc
truth_is place (of_value.Truth truth) b h = cc
truth_is place (of_value.Set tuples) b h = cc

pub known_is : (world : World) (env : List Binding) (c : Const) (v : Value) → value world env c ≡ Ok v → known_number world env c ≡ number_or_zero v
unfolding known_number
known_is world env c v h = ap (said_if_answered zero number_or_zero) h

pub known_gave : (world : World) (env : List Binding) (place : Place) (c : Const) (v : Value) (q : Rational) → value world env c ≡ Ok v → at_place place (number_of_value v) ≡ Ok q → known_number world env c ≡ q
known_gave world env place c v q h at = known_is world env c v h ∙ number_is place v q at

pub truth_gave : (world : World) (env : List Binding) (place : Place) (c : Const) (b : Bool) → truth_known world env place c ≡ Ok b → known_truth world env c ≡ b
unfolding known_truth
truth_gave world env place c b h =
    let (v, v_is, at) = bind_gave (value world env c) (λ v. at_place place (truth_of_value v)) b h in
    ap (said_if_answered false truth_or_false) v_is ∙ truth_is place v b at

index_gave : (world : World) (env : List Binding) (index : List Const) (tuple : List Elem) → tuple_of_parts (const_known world) env index ≡ Ok tuple → known_index world env index ≡ tuple
unfolding known_index
index_gave world env index tuple h = ap (said_if_answered [] (λ (t : List Elem). t)) h

pub choices_gave : (world : World) (env : List Binding) (index : Loop) (choices : List Choice) → index_choices world env index ≡ Ok choices → chosen_environments world env index ≡ map (λ (choice : Choice). choice.env) choices
unfolding chosen_environments
choices_gave world env index choices h = ap (said_if_answered [] (map (λ (choice : Choice). choice.env))) h

entry_gave : (place : Place) (found : Option ℕ) (j : ℕ) → at_place place (entry found) ≡ Ok j → found ≡ Some j
entry_gave place None j h = cc
entry_gave place (Some i) j h = let e : i ≡ j = cc in ap (λ (k : ℕ). Some k) e

-- ---- operands

-- what an operand is where a number is wanted
pub term_gave : (s : Setting) (place : Place) (q : Rational) (o : TermOperand) (g : GTerm) → Says s q o → term_at place o ≡ Ok g → Says s q (operand.Ground g)
term_gave s place q (operand.Value (of_value.Number p)) g says h =
    let e : ground_term.Known p ≡ g = cc in
    subst (λ (t : GTerm). Says s q (operand.Ground t)) e (record { number = number-Known s.numbers p ∙ says.number; over = λ among. passes-term-Known s.passes p })
term_gave s place q (operand.Value (of_value.Text text)) g says h = cc
term_gave s place q (operand.Value (of_value.Truth truth)) g says h = cc
term_gave s place q (operand.Value (of_value.Set tuples)) g says h = cc
term_gave s place q (operand.Ground t) g says h =
    let e : t ≡ g = cc in
    subst (λ (u : GTerm). Says s q (operand.Ground u)) e says

-- ---- sums

abbrev number_operands : ColumnNumbers → List (Place × Bool × GTerm) → List (Place × Bool × Rational)
number_operands x gs = map (λ (t : Place × Bool × GTerm). (t.0, t.1, term_number x t.2)) gs

abbrev over_operands : (ℕ → Bool) → List (Place × Bool × GTerm) → List (Place × Bool × Bool)
over_operands n gs = map (λ (t : Place × Bool × GTerm). (t.0, t.1, term_passes n t.2)) gs

abbrev added : Bool → Rational → Rational → Rational
added turned p q = if turned then minus p q else plus p q

sum_append : (q : Rational) (ts us : List (Place × Bool × Rational)) → sum_from q (ts ++ us) ≡ sum_from (sum_from q ts) us
unfolding sum_from
sum_append q [] us = refl
sum_append q (t ∷ ts) us = sum_append (added t.1 q t.2) ts us

sum_one : (q v : Rational) (place : Place) (turned : Bool) → sum_from q ((place, turned, v) ∷ []) ≡ added turned q v
unfolding sum_from
sum_one q v place turned = refl

one_holds : (place : Place) (turned b : Bool) → b ≡ true → operands_hold ((place, turned, b) ∷ []) ≡ true
unfolding operands_hold
one_holds place turned b h = both_true h refl

holds_append : (ts us : List (Place × Bool × Bool)) → operands_hold ts ≡ true → operands_hold us ≡ true → operands_hold (ts ++ us) ≡ true
unfolding operands_hold
holds_append [] us h k = k
holds_append (t ∷ ts) us h k = let p = and_parts t.2 (operands_hold ts) h in both_true p.0 (holds_append ts us p.1 k)

record SaysSum (s : Setting) (q : Rational) (t : GTerm) (gs : List (Place × Bool × GTerm)) : Type 0 where
  pub number : sum_from (term_number s.numbers t) (number_operands s.numbers gs) ≡ q
  pub first : AllPass s.passes s.columns → term_passes s.passes t ≡ true
  pub others : AllPass s.passes s.columns → operands_hold (over_operands s.passes gs) ≡ true

begun : (s : Setting) (q : Rational) (t : GTerm) → Says s q (operand.Ground t) → SaysSum s q t []
unfolding sum_from operands_hold
begun s q t says = record { number = says.number; first = says.over; others = λ among. refl }

one_more : (s : Setting) (q v : Rational) (t : GTerm) (gs : List (Place × Bool × GTerm)) (place : Place) (turned : Bool) (g : GTerm) → SaysSum s q t gs → Says s v (operand.Ground g) → SaysSum s (added turned q v) t (gs ++ (place, turned, g) ∷ [])
one_more s q v t gs place turned g says more = record {
  number =
      ap (sum_from (term_number s.numbers t)) (map-append (λ (u : Place × Bool × GTerm). (u.0, u.1, term_number s.numbers u.2)) gs ((place, turned, g) ∷ []))
      ∙ sum_append (term_number s.numbers t) (number_operands s.numbers gs) ((place, turned, term_number s.numbers g) ∷ [])
      ∙ sum_one (sum_from (term_number s.numbers t) (number_operands s.numbers gs)) (term_number s.numbers g) place turned
      ∙ ap₂ (added turned) says.number more.number;
  first = says.first;
  others =
      λ among.
      ap operands_hold (map-append (λ (u : Place × Bool × GTerm). (u.0, u.1, term_passes s.passes u.2)) gs ((place, turned, g) ∷ []))
      ∙ holds_append (over_operands s.passes gs) ((place, turned, term_passes s.passes g) ∷ []) (says.others among) (one_holds place turned (term_passes s.passes g) (more.over among));
}

summed_says : (s : Setting) (q : Rational) (t : GTerm) (gs : List (Place × Bool × GTerm)) → SaysSum s q t gs → Says s q (operand.Ground (ground_term.Sum t gs))
summed_says s q t gs says = record {
  number = number-Sum s.numbers t gs ∙ says.number;
  over = λ among. passes-term-Sum s.passes t gs ∙ both_true (says.first among) (says.others among);
}

abbrev bare_operands : (s : Setting) → List (Place × Bool × Part s) → List (Place × Bool × Term)
bare_operands s os = map (λ (o : Place × Bool × Part s). (o.0, o.1, o.2.0)) os

abbrev ground_operands : (s : Setting) → List (Place × Bool × Part s) → List (Place × Bool × TermGround)
ground_operands s os = map (λ (t : Place × Bool × Term). (t.0, t.1, grounds s t.2)) (bare_operands s os)

abbrev numbers_at : (s : Setting) → List Binding → List (Place × Bool × Part s) → List (Place × Bool × Rational)
numbers_at s env os = map (λ (t : Place × Bool × TermNumber). (t.0, t.1, t.2 env)) (map (λ (t : Place × Bool × Term). (t.0, t.1, numbers s t.2)) (bare_operands s os))

abbrev Summing : Type 0
Summing = TermOperand × List (Place × Bool × GTerm)

further_told : (s : Setting) (env : List Binding) (os : List (Place × Bool × Part s)) (t : GTerm) (gs : List (Place × Bool × GTerm)) (q : Rational) (final : Summing) → SaysSum s q t gs
    → goes (with_added_term env) (operand.Ground t, gs) (ground_operands s os) ≡ Ok final → Says s (sum_from q (numbers_at s env os)) (summed final)
unfolding goes sum_from
further_told s env [] t gs q final says h =
    let e : ◌≡◌ {A = Summing} (operand.Ground t, gs) final = cc in
    subst (λ (f : Summing). Says s q (summed f)) e (summed_says s q t gs says)
further_told s env (o ∷ os) t gs q final says h =
    let (next, next_is, rest) = bind_gave (with_added_term env (operand.Ground t, gs) (o.0, o.1, grounds s o.2.0)) _ final h in
    let (made, made_is, last) = bind_gave ((grounds s o.2.0).ground env) _ next next_is in
    let (g, g_is, end) = bind_gave (term_at o.0 made) _ next last in
    let v : Rational = numbers s o.2.0 env in
    let part = term_gave s o.0 v made g (o.2.1 env made made_is) g_is in
    let e : ◌≡◌ {A = Summing} (operand.Ground t, gs ++ (o.0, o.1, g) ∷ []) next = cc in
    further_told s env os t (gs ++ (o.0, o.1, g) ∷ []) (added o.1 q v) final (one_more s q v t gs o.0 o.1 g says part)
    (subst (λ (f : Summing). goes (with_added_term env) f (ground_operands s os) ≡ Ok final) (sym e) rest)

sum_told : (s : Setting) (env : List Binding) (os : List (Place × Bool × Part s)) (first : TermOperand) (q : Rational) (final : Summing) → Says s q first
    → goes (with_added_term env) (first, []) (ground_operands s os) ≡ Ok final → Says s (sum_from q (numbers_at s env os)) (summed final)
unfolding goes sum_from
sum_told s env [] (operand.Value v) q final says h =
    let e : ◌≡◌ {A = Summing} (operand.Value v, []) final = cc in
    subst (λ (f : Summing). Says s q (summed f)) e says
sum_told s env [] (operand.Ground t) q final says h = further_told s env [] t [] q final (begun s q t says) h
sum_told s env (o ∷ os) first q final says h =
    let (next, next_is, rest) = bind_gave (with_added_term env (first, []) (o.0, o.1, grounds s o.2.0)) _ final h in
    let (made, made_is, last) = bind_gave ((grounds s o.2.0).ground env) _ next next_is in
    let (t, t_is, later) = bind_gave (term_at o.0 first) _ next last in
    let (g, g_is, end) = bind_gave (term_at o.0 made) _ next later in
    let v : Rational = numbers s o.2.0 env in
    let part = term_gave s o.0 v made g (o.2.1 env made made_is) g_is in
    let e : ◌≡◌ {A = Summing} (operand.Ground t, (o.0, o.1, g) ∷ []) next = cc in
    further_told s env os t ((o.0, o.1, g) ∷ []) (added o.1 q v) final (one_more s q v t [] o.0 o.1 g (begun s q t (term_gave s o.0 q first t says t_is)) part)
    (subst (λ (f : Summing). goes (with_added_term env) f (ground_operands s os) ≡ Ok final) (sym e) rest)

-- ---- products

abbrev multiplied_by : Bool → Rational → Rational → Rational
multiplied_by divided p q = if divided then over p q else times p q

product_append : (q : Rational) (ts us : List (Place × Bool × Rational)) → product_from q (ts ++ us) ≡ product_from (product_from q ts) us
unfolding product_from
product_append q [] us = refl
product_append q (t ∷ ts) us = product_append (multiplied_by t.1 q t.2) ts us

product_one : (q v : Rational) (place : Place) (divided : Bool) → product_from q ((place, divided, v) ∷ []) ≡ multiplied_by divided q v
unfolding product_from
product_one q v place divided = refl

one_divides : (place : Place) (divided : Bool) (q : Rational) → not (divided && same q zero) ≡ true → divides ((place, divided, q) ∷ []) ≡ true
unfolding divides
one_divides place divided q h = both_true h refl

divides_append : (ts us : List (Place × Bool × Rational)) → divides ts ≡ true → divides us ≡ true → divides (ts ++ us) ≡ true
unfolding divides
divides_append [] us h k = k
divides_append (t ∷ ts) us h k = let p = and_parts (not (t.1 && same t.2 zero)) (divides ts) h in both_true p.0 (divides_append ts us p.1 k)

divisor_gave : (place : Place) (nought : Bool) (q p : Rational) → at_place place (if nought then Err DivZero else Ok q) ≡ Ok p → (q ≡ p) × (not nought ≡ true)
divisor_gave place false q p h = let e : q ≡ p = cc in (e, refl)
divisor_gave place true q p h = cc

record SaysProduct (s : Setting) (q : Rational) (factor : Option (Rational × Place)) (t : GTerm) (ps : List (Place × Bool × Rational)) : Type 0 where
  pub number : product_from (with_factor factor (term_number s.numbers t)) ps ≡ q
  pub term : AllPass s.passes s.columns → term_passes s.passes t ≡ true
  pub others : divides ps ≡ true

multiplied_more : (s : Setting) (q p : Rational) (factor : Option (Rational × Place)) (t : GTerm) (ps : List (Place × Bool × Rational)) (place : Place) (divided : Bool) → SaysProduct s q factor t ps → not (divided && same p zero) ≡ true
    → SaysProduct s (multiplied_by divided q p) factor t (ps ++ (place, divided, p) ∷ [])
multiplied_more s q p factor t ps place divided says sound = record {
  number =
      product_append (with_factor factor (term_number s.numbers t)) ps ((place, divided, p) ∷ [])
      ∙ product_one (product_from (with_factor factor (term_number s.numbers t)) ps) p place divided
      ∙ ap (λ (r : Rational). multiplied_by divided r p) says.number;
  term = says.term;
  others = divides_append ps ((place, divided, p) ∷ []) says.others (one_divides place divided p sound);
}

product_says : (s : Setting) (q : Rational) (factor : Option (Rational × Place)) (t : GTerm) (ps : List (Place × Bool × Rational)) → SaysProduct s q factor t ps → Says s q (operand.Ground (ground_term.Product factor t ps))
product_says s q factor t ps says = record {
  number = number-Product s.numbers factor t ps ∙ says.number;
  over = λ among. passes-term-Product s.passes factor t ps ∙ both_true (says.term among) says.others;
}

abbrev known_factors : World → List Binding → List (Place × Bool × Const) → List (Place × Bool × Rational)
known_factors world env cs = map (λ (t : Place × Bool × Const). (t.0, t.1, known_number world env t.2)) cs

abbrev Multiplying : Type 0
Multiplying = TermOperand × List (Place × Bool × Rational)

-- what one more number makes of a product of a ground term
turn_gave : (s : Setting) (env : List Binding) (c : Place × Bool × Const) (t : TermOperand) (ps : List (Place × Bool × Rational)) (next : Multiplying) → with_multiplier s.world env (t, ps) c ≡ Ok next
    → (g : GTerm) × (term_at c.0 t ≡ Ok g) × (next ≡ (operand.Ground g, ps ++ (c.0, c.1, known_number s.world env c.2) ∷ [])) × (not (c.1 && same (known_number s.world env c.2) zero) ≡ true)
turn_gave s env (place, divided, c) t ps next h =
    let (v, v_is, rest) = bind_gave (value s.world env c) _ next h in
    let (g, g_is, later) = bind_gave (term_at place t) _ next rest in
    let (q, q_is, last) = bind_gave (at_place place (number_of_value v)) _ next later in
    let (p, p_is, end) = bind_gave (at_place place (multiplier divided q)) _ next last in
    let (same_number, sound) = divisor_gave place (divided && same q zero) q p p_is in
    let known : q ≡ known_number s.world env c = sym (known_gave s.world env place c v q v_is q_is) in
    let e : ◌≡◌ {A = Multiplying} (operand.Ground g, ps ++ (place, divided, p) ∷ []) next = cc in (
      g,
      g_is,
      sym e ∙ ap (λ (r : Rational). (operand.Ground g, ps ++ (place, divided, r) ∷ [])) (sym same_number ∙ known),
      subst (λ (r : Rational). not (divided && same r zero) ≡ true) known sound,
    )

multipliers_told : (s : Setting) (env : List Binding) (cs : List (Place × Bool × Const)) (factor : Option (Rational × Place)) (t : GTerm) (ps : List (Place × Bool × Rational)) (q : Rational) (final : Multiplying) → SaysProduct s q factor t ps
    → goes (with_multiplier s.world env) (operand.Ground t, ps) cs ≡ Ok final → Says s (product_from q (known_factors s.world env cs)) (product_made factor final)
unfolding goes product_from
multipliers_told s env [] factor t ps q final says h =
    let e : ◌≡◌ {A = Multiplying} (operand.Ground t, ps) final = cc in
    subst (λ (f : Multiplying). Says s q (product_made factor f)) e (product_says s q factor t ps says)
multipliers_told s env (c ∷ cs) factor t ps q final says h =
    let (next, next_is, rest) = bind_gave (with_multiplier s.world env (operand.Ground t, ps) c) _ final h in
    let (g, g_is, made, sound) = turn_gave s env c (operand.Ground t) ps next next_is in
    let e : t ≡ g = cc in
    let p : Rational = known_number s.world env c.2 in
    multipliers_told s env cs factor t (ps ++ (c.0, c.1, p) ∷ []) (multiplied_by c.1 q p) final (multiplied_more s q p factor t ps c.0 c.1 says sound)
    (subst (λ (f : Multiplying). goes (with_multiplier s.world env) f cs ≡ Ok final) (made ∙ ap (λ (u : GTerm). (operand.Ground u, ps ++ (c.0, c.1, p) ∷ [])) (sym e)) rest)

with_nothing : (q : Rational) → with_factor None q ≡ q
unfolding with_factor
with_nothing q = refl

with_number : (p : Rational) (place : Place) (q : Rational) → with_factor (Some (p, place)) q ≡ times p q
unfolding with_factor
with_number p place q = refl

plain_begun : (s : Setting) (q : Rational) (t : GTerm) → Says s q (operand.Ground t) → SaysProduct s q None t []
unfolding product_from divides
plain_begun s q t says = record { number = with_nothing (term_number s.numbers t) ∙ says.number; term = says.over; others = refl }

factor_begun : (s : Setting) (p : Rational) (place : Place) (q : Rational) (t : GTerm) → Says s q (operand.Ground t) → SaysProduct s (with_factor (Some (p, place)) q) (Some (p, place)) t []
unfolding product_from divides
factor_begun s p place q t says = record { number = ap (with_factor (Some (p, place))) says.number; term = says.over; others = refl }

-- a product that begins with a term
product_told : (s : Setting) (env : List Binding) (cs : List (Place × Bool × Const)) (o : TermOperand) (q : Rational) (final : Multiplying) → Says s q o
    → goes (with_multiplier s.world env) (o, []) cs ≡ Ok final → Says s (product_from q (known_factors s.world env cs)) (product_made None final)
unfolding goes product_from
product_told s env [] (operand.Value v) q final says h =
    let e : ◌≡◌ {A = Multiplying} (operand.Value v, []) final = cc in
    subst (λ (f : Multiplying). Says s q (product_made None f)) e says
product_told s env [] (operand.Ground t) q final says h = multipliers_told s env [] None t [] q final (plain_begun s q t says) h
product_told s env (c ∷ cs) o q final says h =
    let (next, next_is, rest) = bind_gave (with_multiplier s.world env (o, []) c) _ final h in
    let (g, g_is, made, sound) = turn_gave s env c o [] next next_is in
    let p : Rational = known_number s.world env c.2 in
    multipliers_told s env cs None g ((c.0, c.1, p) ∷ []) (multiplied_by c.1 q p) final (multiplied_more s q p None g [] c.0 c.1 (plain_begun s q g (term_gave s c.0 q o g says g_is)) sound)
    (subst (λ (f : Multiplying). goes (with_multiplier s.world env) f cs ≡ Ok final) made rest)

-- ---- sums over an index

record SaysMembers (s : Setting) (qs : List Rational) (gs : List GTerm) : Type 0 where
  pub number : map (term_number s.numbers) gs ≡ qs
  pub over : AllPass s.passes s.columns → all_hold (map (term_passes s.passes) gs) ≡ true

all_append : (bs : List Bool) (b : Bool) → all_hold bs ≡ true → b ≡ true → all_hold (bs ++ b ∷ []) ≡ true
unfolding all_hold
all_append [] b h k = both_true k refl
all_append (c ∷ bs) b h k = let p = and_parts c (all_hold bs) h in both_true p.0 (all_append bs b p.1 k)

member_more : (s : Setting) (qs : List Rational) (q : Rational) (gs : List GTerm) (g : GTerm) → SaysMembers s qs gs → Says s q (operand.Ground g) → SaysMembers s (qs ++ q ∷ []) (gs ++ g ∷ [])
member_more s qs q gs g says more = record {
  number = map-append (term_number s.numbers) gs (g ∷ []) ∙ ap₂ (λ (ps : List Rational) (p : Rational). ps ++ p ∷ []) says.number more.number;
  over = λ among. ap all_hold (map-append (term_passes s.passes) gs (g ∷ [])) ∙ all_append (map (term_passes s.passes) gs) (term_passes s.passes g) (says.over among) (more.over among);
}

abbrev numbers_chosen : (s : Setting) → Part s → List Choice → List Rational
numbers_chosen s t choices = map (λ (env : List Binding). numbers s t.0 env) (map (λ (choice : Choice). choice.env) choices)

append_assoc : (ps : List Rational) (q : Rational) (qs : List Rational) → ps ++ q ∷ qs ≡ (ps ++ q ∷ []) ++ qs
append_assoc [] q qs = refl
append_assoc (p ∷ ps) q qs = ap (λ (rs : List Rational). p ∷ rs) (append_assoc ps q qs)

append_none : (ps : List Rational) → ps ≡ ps ++ []
append_none [] = refl
append_none (p ∷ ps) = ap (λ (rs : List Rational). p ∷ rs) (append_none ps)

members_told : (s : Setting) (place : Place) (t : Part s) (choices : List Choice) (qs : List Rational) (gs final : List GTerm) → SaysMembers s qs gs
    → goes (with_chosen_term (grounds s t.0) place) gs choices ≡ Ok final → SaysMembers s (qs ++ numbers_chosen s t choices) final
unfolding goes
members_told s place t [] qs gs final says h =
    let e : gs ≡ final = cc in
    subst (λ (f : List GTerm). SaysMembers s (qs ++ []) f) e (subst (λ (ps : List Rational). SaysMembers s ps gs) (append_none qs) says)
members_told s place t (choice ∷ choices) qs gs final says h =
    let (next, next_is, rest) = bind_gave (with_chosen_term (grounds s t.0) place gs choice) _ final h in
    let (made, made_is, last) = bind_gave ((grounds s t.0).ground choice.env) _ next next_is in
    let (g, g_is, end) = bind_gave (term_at place made) _ next last in
    let q : Rational = numbers s t.0 choice.env in
    let e : gs ++ g ∷ [] ≡ next = cc in
    let so_far = member_more s qs q gs g says (term_gave s place q made g (t.1 choice.env made made_is) g_is) in
    let all =
    members_told s place t choices (qs ++ q ∷ []) (gs ++ g ∷ []) final so_far
    (subst (λ (f : List GTerm). goes (with_chosen_term (grounds s t.0) place) f choices ≡ Ok final) (sym e) rest) in
    subst (λ (ps : List Rational). SaysMembers s ps final) (sym (append_assoc qs q (numbers_chosen s t choices))) all

no_member : (s : Setting) → SaysMembers s [] []
unfolding all_hold
no_member s = record { number = refl; over = λ among. refl }

-- ---- terms

abbrev bare : (s : Setting) → Term-F (Part s) → Term-F Term
bare s y = map-Term (Part s) Term (λ t. t.0) y

-- what each form of a term says, by what its parts do
inner : (s : Setting) (y : Term-F (Part s)) (env : List Binding) (o : TermOperand) → (term_ground_step s.world s.columns (map-Term Term TermGround (grounds s) (bare s y))).ground env ≡ Ok o
    → Says s (term_number_step s.world s.assigned (map-Term Term TermNumber (numbers s) (bare s y)) env) o
inner s (Term-F.Known c) env o h =
    let (v, v_is, end) = bind_gave (value s.world env c) _ o h in
    let e : operand.Value v ≡ o = cc in
    subst (Says s (known_number s.world env c)) e (record { number = sym (known_is s.world env c v v_is); over = λ among. refl })
inner s (Term-F.Column place name index) env o h =
    let (tuple, tuple_is, rest) = bind_gave (tuple_of_parts (const_known s.world) env index) _ o h in
    let (j, j_is, end) = bind_gave (at_place place (entry (s.columns name tuple))) _ o rest in
    let found = entry_gave place (s.columns name tuple) j j_is in
    let e : operand.Ground (ground_term.Column j) ≡ o = cc in
    subst (Says s (s.assigned name (known_index s.world env index))) e
    (record {
      number = number-Column s.numbers j ∙ s.agree name tuple j found ∙ ap (s.assigned name) (sym (index_gave s.world env index tuple tuple_is));
      over = λ among. passes-term-Column s.passes j ∙ among name tuple j found;
    })
inner s (Term-F.Sum first others) env o h =
    let (t, t_is, rest) = bind_gave ((grounds s first.0).ground env) _ o h in
    let (all, all_is, end) = bind_gave (goes (with_added_term env) (t, []) (ground_operands s others)) _ o rest in
    let e : summed all ≡ o = cc in
    subst (Says s (sum_from (numbers s first.0 env) (numbers_at s env others))) e (sum_told s env others t (numbers s first.0 env) all (first.1 env t t_is) all_is)
inner s (Term-F.Product None term others) env o h =
    let (t, t_is, rest) = bind_gave ((grounds s term.0).ground env) _ o h in
    let (all, all_is, end) = bind_gave (goes (with_multiplier s.world env) (t, []) others) _ o rest in
    let e : product_made None all ≡ o = cc in
    subst (λ (q : Rational). Says s (product_from q (known_factors s.world env others)) o) (sym (with_nothing (numbers s term.0 env)))
    (subst (Says s (product_from (numbers s term.0 env) (known_factors s.world env others))) e (product_told s env others t (numbers s term.0 env) all (term.1 env t t_is) all_is))
inner s (Term-F.Product (Some (c, place)) term others) env o h =
    let (f, f_is, first) = bind_gave (value s.world env c >>= λ v. Ok (Some (v, place))) _ o h in
    let (v, v_is, f_end) = bind_gave (value s.world env c) _ f f_is in
    let f_same : ◌≡◌ {A = Option (Value × Place)} (Some (v, place)) f = cc in
    let (t, t_is, second) = bind_gave ((grounds s term.0).ground env) _ o first in
    let (made, made_is, third) = bind_gave (multiplied_first f t) _ o second in
    let (q, q_is, fourth) = bind_gave (at_place place (number_of_value v)) _ made (ap (λ (g : Option (Value × Place)). multiplied_first g t) f_same ∙ made_is) in
    let (g, g_is, made_end) = bind_gave (term_at place t) _ made fourth in
    let made_same : ◌≡◌ {A = Option (Rational × Place) × TermOperand} (Some (q, place), operand.Ground g) made = cc in
    let (all, all_is, end) = bind_gave (goes (with_multiplier s.world env) (made.1, []) others) _ o third in
    let known : q ≡ known_number s.world env c = sym (known_gave s.world env place c v q v_is q_is) in
    let part = term_gave s place (numbers s term.0 env) t g (term.1 env t t_is) g_is in
    let all_here : goes (with_multiplier s.world env) (operand.Ground g, []) others ≡ Ok all =
    ap (λ (m : Option (Rational × Place) × TermOperand). goes (with_multiplier s.world env) (m.1, []) others) made_same ∙ all_is in
    let e : product_made (Some (q, place)) all ≡ o = ap (λ (m : Option (Rational × Place) × TermOperand). product_made m.0 all) made_same ∙ cc in
    subst (λ (p : Rational). Says s (product_from (with_factor (Some (p, place)) (numbers s term.0 env)) (known_factors s.world env others)) o) known
    (subst (Says s (product_from (with_factor (Some (q, place)) (numbers s term.0 env)) (known_factors s.world env others))) e
    (multipliers_told s env others (Some (q, place)) g [] (with_factor (Some (q, place)) (numbers s term.0 env)) all (factor_begun s q place (numbers s term.0 env) g part) all_here))
inner s (Term-F.Minus place term) env o h =
    let (t, t_is, rest) = bind_gave ((grounds s term.0).ground env) _ o h in
    let (g, g_is, end) = bind_gave (term_at place t) _ o rest in
    let part = term_gave s place (numbers s term.0 env) t g (term.1 env t t_is) g_is in
    let e : operand.Ground (ground_term.Minus place g) ≡ o = cc in
    subst (Says s (negate (numbers s term.0 env))) e
    (record {
      number = number-Minus s.numbers place g ∙ ap negate part.number;
      over = λ among. passes-term-Minus s.passes place g ∙ part.over among;
    })
inner s (Term-F.SumOver place index term) env o h =
    let (choices, choices_are, rest) = bind_gave (index_choices s.world env index) _ o h in
    let (members, members_are, end) = bind_gave (goes (with_chosen_term (grounds s term.0) place) [] choices) _ o rest in
    let says = members_told s place term choices [] [] members (no_member s) members_are in
    let e : operand.Ground (ground_term.SumOver place members) ≡ o = cc in
    subst (Says s (total (map (numbers s term.0) (chosen_environments s.world env index)))) e
    (record {
      number = number-SumOver s.numbers place members ∙ ap total (says.number ∙ ap (map (numbers s term.0)) (sym (choices_gave s.world env index choices choices_are)));
      over = λ among. passes-term-SumOver s.passes place members ∙ says.over among;
    })
inner s (Term-F.If place test branch otherwise) env o h =
    let (b, b_is, rest) = bind_gave (truth_known s.world env place test) _ o h in
    subst (λ (k : Bool). Says s (if k then numbers s branch.0 env else numbers s otherwise.0 env) o) (sym (truth_gave s.world env place test b b_is)) (picked s env branch otherwise b o rest)
  where
    picked : (s : Setting) (env : List Binding) (branch otherwise : Part s) (b : Bool) (o : TermOperand) → (if b then (grounds s branch.0).ground env else (grounds s otherwise.0).ground env) ≡ Ok o
        → Says s (if b then numbers s branch.0 env else numbers s otherwise.0 env) o
    picked s env branch otherwise false o h = otherwise.1 env o h
    picked s env branch otherwise true o h = branch.1 env o h
inner s (Term-F.Abs place term) env o h =
    let (t, t_is, rest) = bind_gave ((grounds s term.0).ground env) _ o h in
    let (g, g_is, end) = bind_gave (term_at place t) _ o rest in
    let part = term_gave s place (numbers s term.0 env) t g (term.1 env t t_is) g_is in
    let e : operand.Ground (ground_term.Abs place g) ≡ o = cc in
    subst (Says s (absolute (numbers s term.0 env))) e
    (record {
      number = number-Abs s.numbers place g ∙ ap absolute part.number;
      over = λ among. passes-term-Abs s.passes place g ∙ part.over among;
    })

layer : (s : Setting) (y : Term-F (Part s)) → Told s (roll-Term (bare s y))
layer s y env o h =
    subst (λ (number : TermNumber). Says s (number env) o) (sym (fold-roll-Term TermNumber (term_number_step s.world s.assigned) (bare s y)))
    (inner s y env o (ap (λ (t : TermGround). t.ground env) (sym (fold-roll-Term TermGround (term_ground_step s.world s.columns) (bare s y))) ∙ h))

-- what a term says
pub term_told : (s : Setting) (t : Term) → Told s t
term_told s = ind-Term (Told s) (λ x y is. subst (λ (z : Term-F Term). Told s (roll-Term z)) is (layer s y))

-- what the ground term of an objective says
pub objective_told : (s : Setting) (t : Term) (g : GTerm) → objective_answer s.world s.columns t ≡ Ok g → Says s (number_of_term s.world s.assigned [] t) (operand.Ground g)
unfolding objective_answer grounding_of_term number_of_term
objective_told s t g h =
    let (o, o_is, end) = bind_gave ((grounds s t).ground []) _ g h in
    term_gave s (grounds s t).first (numbers s t []) o g (term_told s t [] o o_is) end
