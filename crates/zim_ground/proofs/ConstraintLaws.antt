-- What the ground constraint of a constraint says: it holds where the constraint is true, names declared columns alone, divides by no 0, and compares as
-- rows do where the constraint does.
use Rattle.std.proofs.Common.{◌≡◌, Bool, true, false, ◌&&◌, if◌then◌else◌, List, [], ◌∷◌, ◌++◌, map, Option, Some, None, option_map, Ok, refl, ap, ap₂, sym, ◌∙◌, subst}
use Rattle.std.proofs.lemmas.Bool.{and_parts}
use Rattle.std.proofs.lemmas.List.{map-append}
use Rattle.std.specs.Cmp.Derive.{both_true}
use Rattle.zim_answer.specs.Answer.{Answer, ◌>>=◌, goes}
use Rattle.zim_answer.proofs.BindLemmas.{bind_gave}
use Rattle.zim_fault.specs.declared.faults.Fault.{Fault}
use Rattle.zim_fault.specs.declared.faults.Place.{Place}
use Rattle.zim_fault.specs.declared.tokens.Relation.{Relation}
use Rattle.zim_fault.specs.declared.tokens.Relation.TheVariants.{LessThan, AtMost, EqualTo, NotEqualTo, AtLeast, GreaterThan}
use Rattle.zim_formula.specs.Ground.{related, all_hold, otherwise_holds, condition_holds, constraint_holds}
use Rattle.zim_formula.specs.GroundRules.{is_row_relation, is_range_relation}
use Rattle.zim_ground.specs.Listed.{constraint_passes}
use Rattle.zim_formula.specs.declared.ground.GCond.{GCond}
use Rattle.zim_formula.specs.declared.ground.GCon.{GCon}
use Rattle.zim_formula.specs.declared.ground.GCon.TheVariants as ground_constraint
use Rattle.zim_formula.proofs.GroundLaws.{asked-Compare, asked-Range, asked-And, asked-Vif}
use Rattle.zim_ground.proofs.ListedLaws.{passes-constraint-Compare, passes-constraint-Range, passes-constraint-And, passes-constraint-Vif}
use Rattle.zim_meaning.specs.Operations.{number_of_value}
use Rattle.zim_meaning.specs.Value.{value, index_choices}
use Rattle.zim_meaning.specs.World.{at_place}
use Rattle.zim_meaning.specs.declared.choices.Choice.{Choice}
use Rattle.zim_rational.specs.Rational.{Rational}
use Rattle.zim_tuples.specs.declared.environments.Binding.{Binding}
use Rattle.zim_typed.specs.declared.constant.Const.{Const}
use Rattle.zim_typed.specs.declared.constraint.Cond.{Cond}
use Rattle.zim_typed.specs.declared.constraint.Con.{Con, Con-F, fold-Con, roll-Con, map-Con, fold-roll-Con, ind-Con}
use Rattle.zim_typed.specs.declared.constraint.Con.TheVariants as con
use Rattle.zim_typed.specs.Scope.{Names, Scope}
use Rattle.zim_typed.specs.Suits.{SuitsCon, SuitsOtherwise, ConsSuit, suits_constraint, suits_range, suits_all, suits_forall, suits_con_if, suits_con_vif, suits_no_otherwise, suits_otherwise, suits_no_con, suits_one_con}
use Rattle.zim_typed.specs.Terms.{may_constrain, may_enclose}
use Rattle.zim_ground.specs.Meaning.{known_number, known_truth, number_of_term, truth_of_condition, ConstraintTruth, constraint_truth_step, truth_of_constraint}
use Rattle.zim_ground.specs.Grounding.{truth_known, ground_of_term, term_at, compared_terms, condition_at, ground_of_condition, ConstraintGround, with_part, with_chosen_part, part_or_nothing, second_part, constraint_ground_step, ground_of_constraint, constraint_answer}
use Rattle.zim_ground.specs.Law.{AllPass}
use Rattle.zim_ground.proofs.TermLaws.{Setting, known_gave, truth_gave, choices_gave}
use Rattle.zim_ground.proofs.ConditionLaws.{condition_gave, condition_says, compared_told, ranged_told}

-- ---- constraints that compare as rows do

abbrev rows_step : Con-F Bool → Bool
rows_step (Con-F.Compare place relation left right) = is_row_relation relation
rows_step (Con-F.Range place relation first term last) = is_range_relation relation
rows_step (Con-F.And parts) = all_hold parts
rows_step (Con-F.Forall place index inside) = inside
rows_step (Con-F.If place test branch otherwise) = branch && otherwise_holds otherwise
rows_step (Con-F.Vif place test branch otherwise) = branch && otherwise_holds otherwise

-- whether all comparisons in a constraint are by relations that rows can have
abbrev pub compares_as_rows : Con → Bool
compares_as_rows = fold-Con Bool rows_step

at_rows : (d : Con-F Con) → compares_as_rows (roll-Con d) ≡ rows_step (map-Con Con Bool compares_as_rows d)
at_rows = fold-roll-Con Bool rows_step

constrains : (relation : Relation) → may_constrain relation ≡ true → is_row_relation relation ≡ true
unfolding is_row_relation
constrains LessThan h = cc
constrains AtMost h = refl
constrains EqualTo h = refl
constrains NotEqualTo h = cc
constrains AtLeast h = refl
constrains GreaterThan h = cc

encloses : (relation : Relation) → may_enclose relation ≡ true → is_range_relation relation ≡ true
unfolding is_range_relation
encloses LessThan h = cc
encloses AtMost h = refl
encloses EqualTo h = cc
encloses NotEqualTo h = cc
encloses AtLeast h = refl
encloses GreaterThan h = cc

picks_as_rows : (branch : Con) (otherwise : Option Con) → compares_as_rows branch ≡ true → otherwise_holds (option_map compares_as_rows otherwise) ≡ true → (compares_as_rows branch && otherwise_holds (option_map compares_as_rows otherwise)) ≡ true
picks_as_rows branch otherwise h k = both_true h k

rows-If : (place : _) (test : Const) (branch : Con) (otherwise : Option Con) → compares_as_rows (con.If place test branch otherwise) ≡ (compares_as_rows branch && otherwise_holds (option_map compares_as_rows otherwise))
rows-If place test branch None = ap compares_as_rows (sym (con.rolls-If place test branch None)) ∙ at_rows (Con-F.If place test branch None)
rows-If place test branch (Some c) = ap compares_as_rows (sym (con.rolls-If place test branch (Some c))) ∙ at_rows (Con-F.If place test branch (Some c))

rows-Vif : (place : _) (test : _) (branch : Con) (otherwise : Option Con) → compares_as_rows (con.Vif place test branch otherwise) ≡ (compares_as_rows branch && otherwise_holds (option_map compares_as_rows otherwise))
rows-Vif place test branch None = ap compares_as_rows (sym (con.rolls-Vif place test branch None)) ∙ at_rows (Con-F.Vif place test branch None)
rows-Vif place test branch (Some c) = ap compares_as_rows (sym (con.rolls-Vif place test branch (Some c))) ∙ at_rows (Con-F.Vif place test branch (Some c))

none_holds : all_hold [] ≡ true
unfolding all_hold
none_holds = refl

more_hold : (b : Bool) (bs : List Bool) → b ≡ true → all_hold bs ≡ true → all_hold (b ∷ bs) ≡ true
unfolding all_hold
more_hold b bs h k = both_true h k

nothing_else : otherwise_holds None ≡ true
unfolding otherwise_holds
nothing_else = refl

else_holds : (b : Bool) → b ≡ true → otherwise_holds (Some b) ≡ true
unfolding otherwise_holds
else_holds b h = h

mutual
  -- what suits a scope compares as rows do
  suits_rows : {scope : Scope} {names : Names} {c : Con} → SuitsCon scope names c → compares_as_rows c ≡ true
  suits_rows (suits_constraint p {relation} {t} {u} may left right) =
      ap compares_as_rows (sym (con.rolls-Compare p relation t u)) ∙ at_rows (Con-F.Compare p relation t u) ∙ constrains relation may
  suits_rows (suits_range p {relation} {low} {high} {t} may first term last) =
      ap compares_as_rows (sym (con.rolls-Range p relation low t high)) ∙ at_rows (Con-F.Range p relation low t high) ∙ encloses relation may
  suits_rows (suits_all {names} {parts} suit) =
      ap compares_as_rows (sym (con.rolls-And parts)) ∙ at_rows (Con-F.And parts) ∙ all_suit_rows suit
  suits_rows (suits_forall p {index} {inside} loop suit) =
      ap compares_as_rows (sym (con.rolls-Forall p index inside)) ∙ at_rows (Con-F.Forall p index inside) ∙ suits_rows suit
  suits_rows (suits_con_if p {test} {branch} {otherwise} known suit others) =
      rows-If p test branch otherwise ∙ picks_as_rows branch otherwise (suits_rows suit) (otherwise_suits_rows others)
  suits_rows (suits_con_vif p {test} {branch} {otherwise} known suit others) =
      rows-Vif p test branch otherwise ∙ picks_as_rows branch otherwise (suits_rows suit) (otherwise_suits_rows others)

  otherwise_suits_rows : {scope : Scope} {names : Names} {otherwise : Option Con} → SuitsOtherwise scope names otherwise → otherwise_holds (option_map compares_as_rows otherwise) ≡ true
  otherwise_suits_rows suits_no_otherwise = nothing_else
  otherwise_suits_rows (suits_otherwise {names} {c} suit) = else_holds (compares_as_rows c) (suits_rows suit)

  all_suit_rows : {scope : Scope} {names : Names} {cs : List Con} → ConsSuit scope names cs → all_hold (map compares_as_rows cs) ≡ true
  all_suit_rows suits_no_con = none_holds
  all_suit_rows (suits_one_con {names} {c} {cs} suit suits) = more_hold (compares_as_rows c) (map compares_as_rows cs) (suits_rows suit) (all_suit_rows suits)

-- ---- what is owed

abbrev pub ground_constraints : Setting → Con → ConstraintGround
ground_constraints s = fold-Con ConstraintGround (constraint_ground_step s.world s.columns)

abbrev pub truths : Setting → Con → ConstraintTruth
truths s = fold-Con ConstraintTruth (constraint_truth_step s.world s.assigned)

pub record Says (s : Setting) (b rows : Bool) (g : GCon) : Type 0 where
  pub truth : constraint_holds s.numbers g ≡ b
  pub over : AllPass s.passes s.columns → rows ≡ true → constraint_passes s.passes g ≡ true

abbrev pub Told : Setting → Con → Type 0
Told s c = (env : List Binding) (g : GCon) → ground_constraints s c env ≡ Ok g → Says s (truths s c env) (compares_as_rows c) g

abbrev Part : Setting → Type 0
Part s = (c : Con) × Told s c

-- ---- parts

record SaysParts (s : Setting) (bs : List Bool) (rows : Bool) (gs : List GCon) : Type 0 where
  pub truth : map (constraint_holds s.numbers) gs ≡ bs
  pub over : AllPass s.passes s.columns → rows ≡ true → all_hold (map (constraint_passes s.passes) gs) ≡ true

all_append : (bs : List Bool) (b : Bool) → all_hold bs ≡ true → b ≡ true → all_hold (bs ++ b ∷ []) ≡ true
unfolding all_hold
all_append [] b h k = both_true k refl
all_append (c ∷ bs) b h k = let p = and_parts c (all_hold bs) h in both_true p.0 (all_append bs b p.1 k)

part_more : (s : Setting) (bs : List Bool) (b before one both : Bool) (gs : List GCon) (g : GCon) → (both ≡ true → before ≡ true) → (both ≡ true → one ≡ true) → SaysParts s bs before gs → Says s b one g → SaysParts s (bs ++ b ∷ []) both (gs ++ g ∷ [])
part_more s bs b before one both gs g first second says more = record {
  truth = map-append (constraint_holds s.numbers) gs (g ∷ []) ∙ ap₂ (λ (cs : List Bool) (c : Bool). cs ++ c ∷ []) says.truth more.truth;
  over =
      λ among rows.
      ap all_hold (map-append (constraint_passes s.passes) gs (g ∷ []))
      ∙ all_append (map (constraint_passes s.passes) gs) (constraint_passes s.passes g) (says.over among (first rows)) (more.over among (second rows));
}

no_part : (s : Setting) (rows : Bool) → SaysParts s [] rows []
no_part s rows = record { truth = refl; over = λ among h. none_holds }

and_says : (s : Setting) (bs : List Bool) (rows : Bool) (gs : List GCon) → SaysParts s bs rows gs → Says s (all_hold bs) rows (ground_constraint.And gs)
and_says s bs rows gs says = record {
  truth = asked-And s.numbers gs ∙ ap all_hold says.truth;
  over = λ among h. passes-constraint-And s.passes gs ∙ says.over among h;
}

append_assoc : (ps : List Bool) (q : Bool) (qs : List Bool) → ps ++ q ∷ qs ≡ (ps ++ q ∷ []) ++ qs
append_assoc [] q qs = refl
append_assoc (p ∷ ps) q qs = ap (λ (rs : List Bool). p ∷ rs) (append_assoc ps q qs)

append_none : (ps : List Bool) → ps ≡ ps ++ []
append_none [] = refl
append_none (p ∷ ps) = ap (λ (rs : List Bool). p ∷ rs) (append_none ps)

abbrev bare_parts : (s : Setting) → List (Part s) → List Con
bare_parts s cs = map (λ (c : Part s). c.0) cs

abbrev ground_parts : (s : Setting) → List (Part s) → List ConstraintGround
ground_parts s cs = map (ground_constraints s) (bare_parts s cs)

abbrev truths_at : (s : Setting) → List Binding → List (Part s) → List Bool
truths_at s env cs = map (λ (c : ConstraintTruth). c env) (map (truths s) (bare_parts s cs))

abbrev rows_of : (s : Setting) → List (Part s) → List Bool
rows_of s cs = map compares_as_rows (bare_parts s cs)

parts_told : (s : Setting) (env : List Binding) (cs : List (Part s)) (bs : List Bool) (before : Bool) (gs final : List GCon) → SaysParts s bs before gs
    → goes (with_part env) gs (ground_parts s cs) ≡ Ok final → SaysParts s (bs ++ truths_at s env cs) (before && all_hold (rows_of s cs)) final
unfolding goes all_hold
parts_told s env [] bs before gs final says h =
    let e : gs ≡ final = cc in
    subst (λ (f : List GCon). SaysParts s (bs ++ []) (before && true) f) e
    (subst (λ (ps : List Bool). SaysParts s ps (before && true) gs) (append_none bs)
    (record { truth = says.truth; over = λ among rows. says.over among (and_parts before true rows).0 }))
parts_told s env (c ∷ cs) bs before gs final says h =
    let (next, next_is, rest) = bind_gave (with_part env gs (ground_constraints s c.0)) _ final h in
    let (g, g_is, end) = bind_gave (ground_constraints s c.0 env) _ next next_is in
    let b : Bool = truths s c.0 env in
    let one : Bool = compares_as_rows c.0 in
    let e : gs ++ g ∷ [] ≡ next = cc in
    let so_far = part_more s bs b before one (before && one) gs g (λ both. (and_parts before one both).0) (λ both. (and_parts before one both).1) says (c.1 env g g_is) in
    let all =
    parts_told s env cs (bs ++ b ∷ []) (before && one) (gs ++ g ∷ []) final so_far
    (subst (λ (f : List GCon). goes (with_part env) f (ground_parts s cs) ≡ Ok final) (sym e) rest) in
    subst (λ (ps : List Bool). SaysParts s ps (before && (one && all_hold (rows_of s cs))) final) (sym (append_assoc bs b (truths_at s env cs)))
    (record {
      truth = all.truth;
      over =
          λ among rows.
          let first = and_parts before (one && all_hold (rows_of s cs)) rows in
          let second = and_parts one (all_hold (rows_of s cs)) first.1 in
          all.over among (both_true (both_true first.0 second.0) second.1);
    })

abbrev truths_chosen : (s : Setting) → Part s → List Choice → List Bool
truths_chosen s c choices = map (λ (env : List Binding). truths s c.0 env) (map (λ (choice : Choice). choice.env) choices)

chosen_told : (s : Setting) (c : Part s) (choices : List Choice) (bs : List Bool) (gs final : List GCon) → SaysParts s bs (compares_as_rows c.0) gs
    → goes (with_chosen_part (ground_constraints s c.0)) gs choices ≡ Ok final → SaysParts s (bs ++ truths_chosen s c choices) (compares_as_rows c.0) final
unfolding goes
chosen_told s c [] bs gs final says h =
    let e : gs ≡ final = cc in
    subst (λ (f : List GCon). SaysParts s (bs ++ []) (compares_as_rows c.0) f) e (subst (λ (ps : List Bool). SaysParts s ps (compares_as_rows c.0) gs) (append_none bs) says)
chosen_told s c (choice ∷ choices) bs gs final says h =
    let (next, next_is, rest) = bind_gave (with_chosen_part (ground_constraints s c.0) gs choice) _ final h in
    let (g, g_is, end) = bind_gave (ground_constraints s c.0 choice.env) _ next next_is in
    let b : Bool = truths s c.0 choice.env in
    let rows : Bool = compares_as_rows c.0 in
    let e : gs ++ g ∷ [] ≡ next = cc in
    let all =
    chosen_told s c choices (bs ++ b ∷ []) (gs ++ g ∷ []) final (part_more s bs b rows rows rows gs g (λ r. r) (λ r. r) says (c.1 choice.env g g_is))
    (subst (λ (f : List GCon). goes (with_chosen_part (ground_constraints s c.0)) f choices ≡ Ok final) (sym e) rest) in
    subst (λ (ps : List Bool). SaysParts s ps rows final) (sym (append_assoc bs b (truths_chosen s c choices))) all

-- ---- a second part

abbrev bare_second : (s : Setting) → Option (Part s) → Option Con
bare_second s c = option_map (λ (p : Part s). p.0) c

abbrev second_truth : (s : Setting) → List Binding → Option (Part s) → Bool
second_truth s env c = otherwise_holds (option_map (λ (part : ConstraintTruth). part env) (option_map (truths s) (bare_second s c)))

abbrev second_rows : (s : Setting) → Option (Part s) → Bool
second_rows s c = otherwise_holds (option_map compares_as_rows (bare_second s c))

-- what stands behind `else`, or nothing
otherwise_told : (s : Setting) (env : List Binding) (c : Option (Part s)) (g : GCon) → part_or_nothing env (option_map (ground_constraints s) (bare_second s c)) ≡ Ok g → Says s (second_truth s env c) (second_rows s c) g
unfolding otherwise_holds all_hold
otherwise_told s env None g h =
    let e : ground_constraint.And [] ≡ g = cc in
    subst (Says s true true) e (record { truth = asked-And s.numbers [] ∙ none_holds; over = λ among rows. passes-constraint-And s.passes [] ∙ none_holds })
otherwise_told s env (Some c) g h = c.1 env g h

-- the second part of a `vif`
record SaysSecond (s : Setting) (b rows : Bool) (g : Option GCon) : Type 0 where
  pub truth : otherwise_holds (option_map (constraint_holds s.numbers) g) ≡ b
  pub over : AllPass s.passes s.columns → rows ≡ true → otherwise_holds (option_map (constraint_passes s.passes) g) ≡ true

second_told : (s : Setting) (env : List Binding) (c : Option (Part s)) (g : Option GCon) → second_part env (option_map (ground_constraints s) (bare_second s c)) ≡ Ok g → SaysSecond s (second_truth s env c) (second_rows s c) g
unfolding otherwise_holds
second_told s env None g h =
    let e : ◌≡◌ {A = Option GCon} None g = cc in
    subst (SaysSecond s true true) e (record { truth = refl; over = λ among rows. refl })
second_told s env (Some c) g h =
    let (d, d_is, end) = bind_gave (ground_constraints s c.0 env) _ g h in
    let says = c.1 env d d_is in
    let e : ◌≡◌ {A = Option GCon} (Some d) g = cc in
    subst (SaysSecond s (truths s c.0 env) (compares_as_rows c.0)) e (record { truth = says.truth; over = says.over })

-- ---- constraints

abbrev bare : (s : Setting) → Con-F (Part s) → Con-F Con
bare s y = map-Con (Part s) Con (λ c. c.0) y

picked : (s : Setting) (env : List Binding) (branch : Part s) (otherwise : Option (Part s)) (b : Bool) (g : GCon)
    → (if b then ground_constraints s branch.0 env else part_or_nothing env (option_map (ground_constraints s) (bare_second s otherwise))) ≡ Ok g
    → Says s (if b then truths s branch.0 env else second_truth s env otherwise) (compares_as_rows branch.0 && second_rows s otherwise) g
picked s env branch otherwise true g h =
    let says = branch.1 env g h in
    record { truth = says.truth; over = λ among rows. says.over among (and_parts (compares_as_rows branch.0) (second_rows s otherwise) rows).0 }
picked s env branch otherwise false g h =
    let says = otherwise_told s env otherwise g h in
    record { truth = says.truth; over = λ among rows. says.over among (and_parts (compares_as_rows branch.0) (second_rows s otherwise) rows).1 }

picks_alike : (p q : Bool) (a b c d : Bool) → p ≡ q → a ≡ b → c ≡ d → (if p then a else c) ≡ (if q then b else d)
picks_alike p q a b c d h k l = ap₂ (λ (r : Bool) (e : Bool). if r then e else c) h k ∙ ap (λ (e : Bool). if q then b else e) l

-- an `if`
if_told : (s : Setting) (env : List Binding) (place : Place) (test : Const) (branch : Part s) (otherwise : Option (Part s)) (g : GCon)
    → (truth_known s.world env place test >>= λ b. if b then ground_constraints s branch.0 env else part_or_nothing env (option_map (ground_constraints s) (bare_second s otherwise))) ≡ Ok g
    → Says s (if known_truth s.world env test then truths s branch.0 env else second_truth s env otherwise) (compares_as_rows branch.0 && second_rows s otherwise) g
if_told s env place test branch otherwise g h =
    let (b, b_is, rest) = bind_gave (truth_known s.world env place test) _ g h in
    subst (λ (k : Bool). Says s (if k then truths s branch.0 env else second_truth s env otherwise) (compares_as_rows branch.0 && second_rows s otherwise) g) (sym (truth_gave s.world env place test b b_is))
    (picked s env branch otherwise b g rest)

-- the end of a `vif`
abbrev picked_by : Place → GCond → GCon → Option GCon → Answer GCon Fault
picked_by place d first second = Ok (ground_constraint.Vif place d first second)

-- a `vif`
vif_told : (s : Setting) (env : List Binding) (place : Place) (test : Cond) (branch : Part s) (otherwise : Option (Part s)) (g : GCon)
    → (ground_of_condition s.world s.columns env test >>= λ c. condition_at place c >>= λ d. ground_constraints s branch.0 env >>= λ first. second_part env (option_map (ground_constraints s) (bare_second s otherwise)) >>= λ second. picked_by place d first second) ≡ Ok g
    → Says s (if truth_of_condition s.world s.assigned env test then truths s branch.0 env else second_truth s env otherwise) (compares_as_rows branch.0 && second_rows s otherwise) g
vif_told s env place test branch otherwise g h =
    let (o, o_is, one) = bind_gave (ground_of_condition s.world s.columns env test) _ g h in
    let (d, d_is, two) = bind_gave (condition_at place o) _ g one in
    let (first, first_is, three) = bind_gave (ground_constraints s branch.0 env) _ g two in
    let (second, second_is, end) = bind_gave (second_part env (option_map (ground_constraints s) (bare_second s otherwise))) _ g three in
    let t : Bool = truth_of_condition s.world s.assigned env test in
    let tested = condition_gave s place t o d (condition_says s env test o o_is) d_is in
    let then_says = branch.1 env first first_is in
    let else_says = second_told s env otherwise second second_is in
    let e : ground_constraint.Vif place d first second ≡ g = cc in
    subst (Says s (if t then truths s branch.0 env else second_truth s env otherwise) (compares_as_rows branch.0 && second_rows s otherwise)) e
    (record {
      truth =
          asked-Vif s.numbers place d first second
          ∙ picks_alike (condition_holds s.numbers d) t (constraint_holds s.numbers first) (truths s branch.0 env) (otherwise_holds (option_map (constraint_holds s.numbers) second)) (second_truth s env otherwise) tested.truth then_says.truth else_says.truth;
      over =
          λ among rows.
          let both = and_parts (compares_as_rows branch.0) (second_rows s otherwise) rows in
          passes-constraint-Vif s.passes place d first second ∙ both_true (both_true (tested.over among) (then_says.over among both.0)) (else_says.over among both.1);
    })

-- what each form of a constraint says, by what its parts do
inner : (s : Setting) (y : Con-F (Part s)) (env : List Binding) (g : GCon) → constraint_ground_step s.world s.columns (map-Con Con ConstraintGround (ground_constraints s) (bare s y)) env ≡ Ok g
    → Says s (constraint_truth_step s.world s.assigned (map-Con Con ConstraintTruth (truths s) (bare s y)) env) (rows_step (map-Con Con Bool compares_as_rows (bare s y))) g
inner s (Con-F.Compare place relation left right) env g h =
    let (terms, terms_are, end) = bind_gave (compared_terms s.world s.columns env place left right) _ g h in
    let both = compared_told s env place left right terms terms_are in
    let e : ground_constraint.Compare place relation terms.0 terms.1 ≡ g = cc in
    subst (Says s (related relation (number_of_term s.world s.assigned env left) (number_of_term s.world s.assigned env right)) (is_row_relation relation)) e
    (record {
      truth = asked-Compare s.numbers place relation terms.0 terms.1 ∙ ap₂ (related relation) both.left_number both.right_number;
      over = λ among rows. passes-constraint-Compare s.passes place relation terms.0 terms.1 ∙ both_true (both_true rows (both.left_over among)) (both.right_over among);
    })
inner s (Con-F.Range place relation first term last) env g h =
    let (v, v_is, one) = bind_gave (value s.world env first) _ g h in
    let (o, o_is, two) = bind_gave (ground_of_term s.world s.columns env term) _ g one in
    let (w, w_is, three) = bind_gave (value s.world env last) _ g two in
    let (a, a_is, four) = bind_gave (at_place place (number_of_value v)) _ g three in
    let (t, t_is, five) = bind_gave (term_at place o) _ g four in
    let (b, b_is, end) = bind_gave (at_place place (number_of_value w)) _ g five in
    let low : a ≡ known_number s.world env first = sym (known_gave s.world env place first v a v_is a_is) in
    let high : b ≡ known_number s.world env last = sym (known_gave s.world env place last w b w_is b_is) in
    let says = ranged_told s env place term o t o_is t_is in
    let e : ground_constraint.Range place relation a t b ≡ g = cc in
    let n : Rational = number_of_term s.world s.assigned env term in
    subst (Says s (related relation (known_number s.world env first) n && related relation n (known_number s.world env last)) (is_range_relation relation)) e
    (record {
      truth =
          asked-Range s.numbers place relation a t b
          ∙ ap₂ (λ (p q : Bool). p && q) (ap₂ (related relation) low says.number) (ap₂ (related relation) says.number high);
      over = λ among rows. passes-constraint-Range s.passes place relation a t b ∙ both_true rows (says.over among);
    })
inner s (Con-F.And parts) env g h =
    let (gs, gs_are, end) = bind_gave (goes (with_part env) [] (ground_parts s parts)) _ g h in
    let says = parts_told s env parts [] true [] gs (no_part s true) gs_are in
    let e : ground_constraint.And gs ≡ g = cc in
    subst (Says s (all_hold (truths_at s env parts)) (all_hold (rows_of s parts))) e (and_says s (truths_at s env parts) (all_hold (rows_of s parts)) gs says)
inner s (Con-F.Forall place index inside) env g h =
    let (choices, choices_are, rest) = bind_gave (index_choices s.world env index) _ g h in
    let (gs, gs_are, end) = bind_gave (goes (with_chosen_part (ground_constraints s inside.0)) [] choices) _ g rest in
    let says = chosen_told s inside choices [] [] gs (no_part s (compares_as_rows inside.0)) gs_are in
    let e : ground_constraint.And gs ≡ g = cc in
    subst (λ (envs : List (List Binding)). Says s (all_hold (map (truths s inside.0) envs)) (compares_as_rows inside.0) g) (sym (choices_gave s.world env index choices choices_are))
    (subst (Says s (all_hold (truths_chosen s inside choices)) (compares_as_rows inside.0)) e (and_says s (truths_chosen s inside choices) (compares_as_rows inside.0) gs says))
inner s (Con-F.If place test branch None) env g h = if_told s env place test branch None g h
inner s (Con-F.If place test branch (Some otherwise)) env g h = if_told s env place test branch (Some otherwise) g h
inner s (Con-F.Vif place test branch None) env g h = vif_told s env place test branch None g h
inner s (Con-F.Vif place test branch (Some otherwise)) env g h = vif_told s env place test branch (Some otherwise) g h

layer : (s : Setting) (y : Con-F (Part s)) → Told s (roll-Con (bare s y))
layer s y env g h =
    subst (λ (truth : ConstraintTruth). Says s (truth env) (compares_as_rows (roll-Con (bare s y))) g) (sym (fold-roll-Con ConstraintTruth (constraint_truth_step s.world s.assigned) (bare s y)))
    (subst (λ (rows : Bool). Says s (constraint_truth_step s.world s.assigned (map-Con Con ConstraintTruth (truths s) (bare s y)) env) rows g) (sym (at_rows (bare s y)))
    (inner s y env g (ap (λ (c : ConstraintGround). c env) (sym (fold-roll-Con ConstraintGround (constraint_ground_step s.world s.columns) (bare s y))) ∙ h)))

constraint_told : (s : Setting) (c : Con) → Told s c
constraint_told s = ind-Con (Told s) (λ x y is. subst (λ (z : Con-F Con). Told s (roll-Con z)) is (layer s y))

-- what the ground constraint of a statement says
pub constraint_says : (s : Setting) (c : Con) (g : GCon) → constraint_answer s.world s.columns c ≡ Ok g → Says s (truth_of_constraint s.world s.assigned [] c) (compares_as_rows c) g
unfolding ground_of_constraint truth_of_constraint
constraint_says s c g h = constraint_told s c [] g h

-- where the constraint suits its scope
pub suited_over : (s : Setting) {scope : Scope} {names : Names} (c : Con) (g : GCon) → SuitsCon scope names c → AllPass s.passes s.columns → constraint_answer s.world s.columns c ≡ Ok g → constraint_passes s.passes g ≡ true
suited_over s c g suits among h = (constraint_says s c g h).over among (suits_rows suits)
