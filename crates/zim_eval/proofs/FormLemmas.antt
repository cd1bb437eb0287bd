-- What each form of an expression answers, by what its parts answer.
use Rattle.std.proofs.Common.{◌≡◌, ℕ, Bool, true, false, if◌then◌else◌, List, [], ◌∷◌, ◌++◌, map, Option, Some, None, Ok, Err, Result, refl, sym, ap, ◌∙◌, subst}
use Rattle.zim_answer.specs.Answer.{Answer, ◌>>=◌, goes}
use Rattle.zim_answer.proofs.BindLemmas.{bind_same}
use Rattle.zim_eval.specs.Private.{truth_in, value_in, values_in, tuple_in, chain_in, conjunct_in, conjuncts_in, disjunct_in, disjuncts_in, body_in, choices_in, gathered_in, gathering_in, gathering_start, signed_exponent, repeated_factorial}
use Rattle.zim_answer.specs.Gives.{Gives, Stops, Cause}
use Rattle.zim_answer.proofs.GivesLemmas.{Stops-bind}
use Rattle.zim_eval.specs.Causes.{eval_cause}
use Rattle.zim_eval.specs.declared.faults.EvalStop.{EvalStop}
use Rattle.zim_eval.proofs.FirstLemmas.{first_known, at_tuple}
use Rattle.zim_eval.proofs.GatherLemmas.{gathers}
use Rattle.zim_meaning.specs.Loops.{gathered}
use Rattle.zim_meaning.specs.declared.choices.Choice.{Choice}
use Rattle.zim_fault.specs.declared.faults.Fault.{Fault}
use Rattle.zim_fault.specs.declared.faults.Place.{Place}
use Rattle.zim_fault.specs.declared.kinds.Kind.{Kind}
use Rattle.zim_fault.specs.declared.kinds.Kind.TheVariants.{WrongKind}
use Rattle.zim_fault.specs.declared.signs.Sign.{Sign}
use Rattle.zim_fault.specs.declared.tokens.Relation.{Relation}
use Rattle.zim_fault.specs.declared.tokens.Token.{Token}
use Rattle.zim_fault.specs.declared.words.Word.{Word}
use Rattle.zim_meaning.specs.Expressions.{differ, component, tuple_of_parts, with_component, with_conjunct, with_disjunct, values_of, bare_name_value, indexed_name_value, item_value, call_value, chain_value, factorial_value, power_value, signed_value, comparison_value, member_value, not_value, truth_at, and_value, or_value, if_value, function_value, projection_value}
use Rattle.zim_meaning.specs.Operations.{literal_value, of_defined_kind, element_of_value, truth_of_value, set_of_value, value_signed, value_negated, value_raised, values_compared, word_applied, projection}
use Rattle.zim_functions.specs.declared.definitions.Definition.{Definition}
use Rattle.zim_meaning.specs.Value.{meaning_known, meaning_of_const, meaning_of_tuple, calls_of_first, result_of, bindings, ConstMeaning, TupleMeaning}
use Rattle.zim_meaning.specs.World.{World, at_place, entry, fault_of}
use Rattle.zim_meaning.specs.declared.values.Value.{Value}
use Rattle.zim_meaning.specs.declared.values.Value.TheVariants as of_value
use Rattle.zim_meaning.proofs.MeaningLaws.{value-Number, value-Text, value-Truth, value-Infinity, value-Name, value-Item, value-Call, value-Func, value-Paren, value-If, value-Factorial, value-Power, value-Signed, value-Compare, value-Not, value-Times, value-Plus, value-And, value-Or, value-Proj, value-Member, value-Braces, value-Big}
use Rattle.zim_tuples.specs.declared.elements.Elem.{Elem}
use Rattle.zim_tuples.specs.declared.environments.Binding.{Binding}
use Rattle.zim_typed.specs.FirstPlace.{const_first_place}
use Rattle.zim_typed.specs.declared.constant.Const.{Const}
use Rattle.zim_typed.specs.declared.constant.Const.TheVariants as const
use Rattle.zim_typed.specs.declared.constant.Loop.{Loop}
use Rattle.zim_typed.specs.declared.constant.Resolved.{Resolved}
use Rattle.zim_typed.specs.declared.constant.TAngle.{TAngle, out-TAngle, roll-out-TAngle}
use Rattle.zim_typed.specs.declared.constant.TBody.{TBody}
use Rattle.zim_sets.specs.Sets.{has}

-- ---- lists of parts

-- going on over a mapped list
pub goes_map : {S X Y F : Type 0} (step : S → Y → Result S F) (f : X → Y) (state : S) (items : List X) → goes step state (map f items) ≡ goes (λ s x. step s (f x)) state items
unfolding goes
goes_map step f state [] = refl
goes_map step f state (item ∷ items) = bind_same (step state (f item)) _ _ (λ next. goes_map step f next items)

-- going on by steps that agree
pub goes_same : {S X F : Type 0} (step other : S → X → Result S F) → ((s : S) (x : X) → step s x ≡ other s x) → (state : S) (items : List X) → goes step state items ≡ goes other state items
unfolding goes
goes_same step other same state [] = refl
goes_same step other same state (item ∷ items) =
    ap (λ a. a >>= λ next. goes step next items) (same state item) ∙ bind_same (other state item) _ _ (λ next. goes_same step other same next items)

-- what is known of an expression, where so many functions are known
abbrev pub means : World → ℕ → Const → ConstMeaning
means world n = meaning_of_const world (calls_of_first world n)

pub values_known : (world : World) (n : ℕ) (env : List Binding) (cs : List Const) → values_of meaning_known env (map (means world n) cs) ≡ values_in world n env cs
unfolding values_in value_in
values_known world n env cs = goes_map (λ values part. part.value env >>= λ v. Ok (values ++ v ∷ [])) (means world n) [] cs

component_known : (world : World) (n : ℕ) (env : List Binding) (tuple : List Elem) (c : Const) → with_component meaning_known env tuple (means world n c) ≡ ((value_in world n env c >>= λ v. at_place (const_first_place c) (element_of_value v)) >>= λ next. Ok (tuple ++ next ∷ []))
unfolding value_in component
component_known world n env tuple c = ap (λ place. ((means world n c).value env >>= λ v. at_place place (element_of_value v)) >>= λ next. Ok (tuple ++ next ∷ [])) (first_known world (calls_of_first world n) c)

pub tuple_known : (world : World) (n : ℕ) (env : List Binding) (cs : List Const) → tuple_of_parts meaning_known env (map (means world n) cs) ≡ tuple_in world n env cs
unfolding tuple_of_parts tuple_in
tuple_known world n env cs =
    goes_map (with_component meaning_known env) (means world n) [] cs ∙ goes_same _ _ (component_known world n env) [] cs

-- ---- forms

pub in-Number : (world : World) (n : ℕ) (env : List Binding) (place : Place) (digits : List ℕ) → value_in world n env (const.Number place digits) ≡ at_place place (literal_value digits)
unfolding value_in
in-Number world n env place digits = value-Number world (calls_of_first world n) place digits env

pub in-Text : (world : World) (n : ℕ) (env : List Binding) (place : Place) (text : List ℕ) (double : Bool) → value_in world n env (const.Text place text double) ≡ Ok (of_value.Text text)
unfolding value_in
in-Text world n env place text double = value-Text world (calls_of_first world n) place text double env

pub in-Truth : (world : World) (n : ℕ) (env : List Binding) (place : Place) (truth : Bool) → value_in world n env (const.Truth place truth) ≡ Ok (of_value.Truth truth)
unfolding value_in
in-Truth world n env place truth = value-Truth world (calls_of_first world n) place truth env

pub in-Infinity : (world : World) (n : ℕ) (env : List Binding) (place : Place) → value_in world n env (const.Infinity place) ≡ Err (fault_of place WrongKind)
unfolding value_in
in-Infinity world n env place = value-Infinity world (calls_of_first world n) place env

pub in-Name : (world : World) (n : ℕ) (env : List Binding) (place : Place) (name : List ℕ) (what : Resolved) → value_in world n env (const.Name place name what) ≡ at_place place (entry (bare_name_value world env name what))
unfolding value_in
in-Name world n env place name what = value-Name world (calls_of_first world n) place name what env

pub in-Item : (world : World) (n : ℕ) (env : List Binding) (place : Place) (name : List ℕ) (index : List Const) (what : Resolved) → value_in world n env (const.Item place name index what) ≡ (tuple_in world n env index >>= λ t. at_place place (entry (indexed_name_value world name what t)))
unfolding value_in item_value
in-Item world n env place name index what =
    value-Item world (calls_of_first world n) place name index what env ∙ ap (λ a. a >>= λ t. at_place place (entry (indexed_name_value world name what t))) (tuple_known world n env index)

pub in-Call : (world : World) (n : ℕ) (env : List Binding) (place : Place) (name : List ℕ) (given : List Const) (what : Resolved) → value_in world n env (const.Call place name given what) ≡ (tuple_in world n env given >>= λ t. calls_of_first world n place name t)
unfolding value_in call_value
in-Call world n env place name given what =
    value-Call world (calls_of_first world n) place name given what env ∙ ap (λ a. a >>= λ t. calls_of_first world n place name t) (tuple_known world n env given)

pub in-Func : (world : World) (n : ℕ) (env : List Binding) (place : Place) (word : Word) (given : List Const) → value_in world n env (const.Func place word given) ≡ (values_in world n env given >>= λ vs. at_place place (word_applied word vs))
unfolding value_in function_value
in-Func world n env place word given =
    value-Func world (calls_of_first world n) place word given env ∙ ap (λ a. a >>= λ vs. at_place place (word_applied word vs)) (values_known world n env given)

pub in-Paren : (world : World) (n : ℕ) (env : List Binding) (place : Place) (inner : Const) → value_in world n env (const.Paren place inner) ≡ value_in world n env inner
unfolding value_in
in-Paren world n env place inner = value-Paren world (calls_of_first world n) place inner env

pub in-If : (world : World) (n : ℕ) (env : List Binding) (place : Place) (test branch otherwise : Const) →
    value_in world n env (const.If place test branch otherwise) ≡ ((value_in world n env test >>= λ v. at_place place (truth_of_value v)) >>= λ b. if b then value_in world n env branch else value_in world n env otherwise)
unfolding value_in if_value truth_at
in-If world n env place test branch otherwise = value-If world (calls_of_first world n) place test branch otherwise env

pub in-Factorial : (world : World) (n : ℕ) (env : List Binding) (operand : Const) (places : List Place) → value_in world n env (const.Factorial operand places) ≡ (value_in world n env operand >>= λ v. goes repeated_factorial v places)
unfolding value_in factorial_value
in-Factorial world n env operand places = value-Factorial world (calls_of_first world n) operand places env

pub in-Power : (world : World) (n : ℕ) (env : List Binding) (place : Place) (sign : Sign) (base : Const) (signed : Option (Place × Bool)) (exponent : Const) →
    value_in world n env (const.Power place sign base signed exponent) ≡ (value_in world n env base >>= λ v. signed_exponent signed (value_in world n env exponent) >>= λ w. at_place place (value_raised v w))
unfolding value_in power_value
in-Power world n env place sign base None exponent = value-Power world (calls_of_first world n) place sign base None exponent env
in-Power world n env place sign base (Some s) exponent = value-Power world (calls_of_first world n) place sign base (Some s) exponent env

pub in-Signed : (world : World) (n : ℕ) (env : List Binding) (place : Place) (minus : Bool) (operand : Const) → value_in world n env (const.Signed place minus operand) ≡ (value_in world n env operand >>= λ v. at_place place (value_signed minus v))
unfolding value_in signed_value
in-Signed world n env place minus operand = value-Signed world (calls_of_first world n) place minus operand env

pub in-Compare : (world : World) (n : ℕ) (env : List Binding) (place : Place) (relation : Relation) (left right : Const) →
    value_in world n env (const.Compare place relation left right) ≡ (value_in world n env left >>= λ v. value_in world n env right >>= λ w. at_place place (values_compared relation v w))
unfolding value_in comparison_value
in-Compare world n env place relation left right = value-Compare world (calls_of_first world n) place relation left right env

pub in-Not : (world : World) (n : ℕ) (env : List Binding) (place : Place) (operand : Const) → value_in world n env (const.Not place operand) ≡ (value_in world n env operand >>= λ v. at_place place (value_negated v))
unfolding value_in not_value
in-Not world n env place operand = value-Not world (calls_of_first world n) place operand env

pub in-Times : (world : World) (n : ℕ) (env : List Binding) (first : Const) (others : List (Place × Token × Const)) → value_in world n env (const.Times first others) ≡ (value_in world n env first >>= λ v. chain_in world n env v others)
unfolding value_in chain_value chain_in
in-Times world n env first others =
    value-Times world (calls_of_first world n) first others env ∙ bind_same (value_in world n env first) _ _ (λ v. goes_map _ (λ x. (x.0, x.1, means world n x.2)) v others)

pub in-Plus : (world : World) (n : ℕ) (env : List Binding) (first : Const) (others : List (Place × Token × Const)) → value_in world n env (const.Plus first others) ≡ (value_in world n env first >>= λ v. chain_in world n env v others)
unfolding value_in chain_value chain_in
in-Plus world n env first others =
    value-Plus world (calls_of_first world n) first others env ∙ bind_same (value_in world n env first) _ _ (λ v. goes_map _ (λ x. (x.0, x.1, means world n x.2)) v others)

-- the branch of an `if`, by what its condition answered
pub chosen_true : (world : World) (n : ℕ) (env : List Binding) (tree : Const) (place : Place) (test branch otherwise shown taken : Const) (b : Bool) (result : Result Value EvalStop) → tree ≡ const.If place test branch otherwise → shown ≡ test → taken ≡ branch
    → (value_in world n env shown >>= λ v. at_place place (truth_of_value v)) ≡ Ok b → b ≡ true → Gives (λ v. v) eval_cause (value_in world n env taken) result → Gives (λ v. v) eval_cause (value_in world n env tree) result
chosen_true world n env tree place test branch otherwise shown taken b result is seen same h holds made =
    let all : value_in world n env tree ≡ value_in world n env taken = ap (value_in world n env) is ∙ in-If world n env place test branch otherwise ∙ ap (λ c. (value_in world n env c >>= λ v. at_place place (truth_of_value v)) >>= λ d. if d then value_in world n env branch else value_in world n env otherwise) (sym seen) ∙ ap (λ a. a >>= λ d. if d then value_in world n env branch else value_in world n env otherwise) (h ∙ ap Ok holds) ∙ ap (value_in world n env) (sym same) in
    subst (λ (a : Answer Value Fault). Gives (λ v. v) eval_cause a result) (sym all) made

pub chosen_false : (world : World) (n : ℕ) (env : List Binding) (tree : Const) (place : Place) (test branch otherwise shown taken : Const) (b : Bool) (result : Result Value EvalStop) → tree ≡ const.If place test branch otherwise → shown ≡ test → taken ≡ otherwise
    → (value_in world n env shown >>= λ v. at_place place (truth_of_value v)) ≡ Ok b → b ≡ false → Gives (λ v. v) eval_cause (value_in world n env taken) result → Gives (λ v. v) eval_cause (value_in world n env tree) result
chosen_false world n env tree place test branch otherwise shown taken b result is seen same h fails made =
    let all : value_in world n env tree ≡ value_in world n env taken = ap (value_in world n env) is ∙ in-If world n env place test branch otherwise ∙ ap (λ c. (value_in world n env c >>= λ v. at_place place (truth_of_value v)) >>= λ d. if d then value_in world n env branch else value_in world n env otherwise) (sym seen) ∙ ap (λ a. a >>= λ d. if d then value_in world n env branch else value_in world n env otherwise) (h ∙ ap Ok fails) ∙ ap (value_in world n env) (sym same) in
    subst (λ (a : Answer Value Fault). Gives (λ v. v) eval_cause a result) (sym all) made

pub chosen_none : (world : World) (n : ℕ) (env : List Binding) (tree : Const) (place : Place) (test branch otherwise shown : Const) (cause : Cause Fault) → tree ≡ const.If place test branch otherwise → shown ≡ test
    → Stops (value_in world n env shown >>= λ v. at_place place (truth_of_value v)) cause → Stops (value_in world n env tree) cause
chosen_none world n env tree place test branch otherwise shown cause is seen stops =
    let next : Bool → Answer Value Fault = λ d. if d then value_in world n env branch else value_in world n env otherwise in
    let all : value_in world n env tree ≡ ((value_in world n env shown >>= λ v. at_place place (truth_of_value v)) >>= next) = ap (value_in world n env) is ∙ in-If world n env place test branch otherwise ∙ ap (λ c. (value_in world n env c >>= λ v. at_place place (truth_of_value v)) >>= next) (sym seen) in
    subst (λ (a : Answer Value Fault). Stops a cause) (sym all) (Stops-bind (value_in world n env shown >>= λ v. at_place place (truth_of_value v)) next cause stops)

-- a call of a function that is found: the value of its body, with its parameters bound
pub called_value : (world : World) (n : ℕ) (env : List Binding) (place : Place) (name : List ℕ) (cs : List Const) (what : Resolved) (tuple : List Elem) (p : ℕ) (d : Definition) (inner : List Binding) (body : Const) → tuple_in world n env cs ≡ Ok tuple
    → calls_of_first world n place name tuple ≡ result_of world (calls_of_first world p) (Some d) place tuple → inner ≡ bindings d.params tuple → body ≡ d.body
    → value_in world n env (const.Call place name cs what) ≡ (value_in world p inner body >>= λ v. at_place place (of_defined_kind d.kind v))
unfolding value_in
called_value world n env place name cs what tuple p d inner body h k bound same =
    in-Call world n env place name cs what ∙ ap (λ a. a >>= λ t. calls_of_first world n place name t) h ∙ k
    ∙ ap (λ e. (meaning_of_const world (calls_of_first world p) d.body).value e >>= λ v. at_place place (of_defined_kind d.kind v)) (sym bound)
    ∙ ap (λ b. (meaning_of_const world (calls_of_first world p) b).value inner >>= λ v. at_place place (of_defined_kind d.kind v)) (sym same)

-- ---- forms with tuples, conditions, braces and indices

-- the parts of a tuple
pub tuple_items : (world : World) (n : ℕ) (t : TAngle) → (meaning_of_tuple world (calls_of_first world n) t).items ≡ map (means world n) (out-TAngle t).items
tuple_items world n t = ap (λ (m : TupleMeaning). m.items) (ap (meaning_of_tuple world (calls_of_first world n)) (sym (roll-out-TAngle t)) ∙ at_tuple world (calls_of_first world n) (out-TAngle t))

pub in-Proj : (world : World) (n : ℕ) (env : List Binding) (place : Place) (set : Const) (positions : TAngle) →
    value_in world n env (const.Proj place set positions) ≡ (value_in world n env set >>= λ v. values_in world n env (out-TAngle positions).items >>= λ vs. at_place place (projection v vs))
unfolding value_in projection_value
in-Proj world n env place set positions =
    value-Proj world (calls_of_first world n) place set positions env
    ∙ bind_same (value_in world n env set) _ _ (λ v. ap (λ items. values_of meaning_known env items >>= λ vs. at_place place (projection v vs)) (tuple_items world n positions) ∙ ap (λ a. a >>= λ vs. at_place place (projection v vs)) (values_known world n env (out-TAngle positions).items))

pub in-Member : (world : World) (n : ℕ) (env : List Binding) (place : Place) (tuple : TAngle) (set : Const) →
    value_in world n env (const.Member place tuple set) ≡ (tuple_in world n env (out-TAngle tuple).items >>= λ t. value_in world n env set >>= λ v. at_place place (set_of_value v) >>= λ s. Ok (of_value.Truth (has s t)))
unfolding value_in member_value
in-Member world n env place tuple set =
    value-Member world (calls_of_first world n) place tuple set env
    ∙ ap (λ items. tuple_of_parts meaning_known env items >>= λ t. value_in world n env set >>= λ v. at_place place (set_of_value v) >>= λ s. Ok (of_value.Truth (has s t))) (tuple_items world n tuple)
    ∙ ap (λ a. a >>= λ t. value_in world n env set >>= λ v. at_place place (set_of_value v) >>= λ s. Ok (of_value.Truth (has s t))) (tuple_known world n env (out-TAngle tuple).items)

conjunct_known : (world : World) (n : ℕ) (env : List Binding) (v : Value) (x : Place × Const) → with_conjunct meaning_known env v (x.0, means world n x.1) ≡ conjunct_in world n env v x
unfolding value_in truth_at
conjunct_known world n env v (place, c) = refl

pub in-And : (world : World) (n : ℕ) (env : List Binding) (first : Const) (others : List (Place × Const)) → value_in world n env (const.And first others) ≡ (value_in world n env first >>= λ v. conjuncts_in world n env v others)
unfolding value_in and_value conjuncts_in
in-And world n env first others =
    value-And world (calls_of_first world n) first others env
    ∙ bind_same (value_in world n env first) _ _ (λ v. goes_map (with_conjunct meaning_known env) (λ x. (x.0, means world n x.1)) v others ∙ goes_same _ _ (conjunct_known world n env) v others)

disjunct_known : (world : World) (n : ℕ) (env : List Binding) (v : Value) (x : Place × Bool × Const) → with_disjunct meaning_known env v (x.0, x.1, means world n x.2) ≡ disjunct_in world n env v x
unfolding value_in truth_at
disjunct_known world n env v (place, false, c) = refl
disjunct_known world n env v (place, true, c) = refl

pub in-Or : (world : World) (n : ℕ) (env : List Binding) (first : Const) (others : List (Place × Bool × Const)) → value_in world n env (const.Or first others) ≡ (value_in world n env first >>= λ v. disjuncts_in world n env v others)
unfolding value_in or_value disjuncts_in
in-Or world n env first others =
    value-Or world (calls_of_first world n) first others env
    ∙ bind_same (value_in world n env first) _ _ (λ v. goes_map (with_disjunct meaning_known env) (λ x. (x.0, x.1, means world n x.2)) v others ∙ goes_same _ _ (disjunct_known world n env) v others)

pub in-Braces : (world : World) (n : ℕ) (env : List Binding) (place : Place) (body : TBody) → value_in world n env (const.Braces place body) ≡ body_in world n env place body
unfolding value_in body_in
in-Braces world n env place body = value-Braces world (calls_of_first world n) place body env

gathered_same : (world : World) (n : ℕ) (word : Word) (body : Const) (place : Place) (choices : List Choice) → gathered word (means world n body).value place choices ≡ gathered_in world n word body place choices
unfolding gathered_in value_in
gathered_same world n word body place choices = refl

pub in-Big : (world : World) (n : ℕ) (env : List Binding) (place : Place) (word : Word) (index : Loop) (with_do : Bool) (body : Const) →
    value_in world n env (const.Big place word index with_do body) ≡ (choices_in world n env index >>= λ choices. at_place place (gathering_start word) >>= λ start. gathering_in world n body place start choices)
unfolding value_in choices_in
in-Big world n env place word index with_do body =
    value-Big world (calls_of_first world n) place word index with_do body env ∙ bind_same (choices_in world n env index) _ _ (λ choices. gathered_same world n word body place choices ∙ gathers world n body place word choices)

-- ---- steps of conditions

pub conjunct_true : (world : World) (n : ℕ) (env : List Binding) (v : Value) (x : Place × Const) (b : Bool) (t : Result Bool Kind) (result : Result Value EvalStop) → t ≡ truth_of_value v → at_place x.0 t ≡ Ok b → b ≡ true
    → Gives (λ w. w) eval_cause (truth_in world n env x.0 x.1) result → Gives (λ w. w) eval_cause (conjunct_in world n env v x) result
conjunct_true world n env v (place, c) b t result same h holds made =
    let next : Bool → Answer Value Fault = λ before. if before then truth_in world n env place c else Ok (of_value.Truth false) in
    let all : conjunct_in world n env v (place, c) ≡ truth_in world n env place c = ap (λ a. a >>= next) (ap (at_place place) (sym same) ∙ h ∙ ap Ok holds) in
    subst (λ (a : Answer Value Fault). Gives (λ w. w) eval_cause a result) (sym all) made

pub disjunct_false : (world : World) (n : ℕ) (env : List Binding) (v : Value) (x : Place × Bool × Const) (b : Bool) (t : Result Bool Kind) (result : Result Value EvalStop) → x.1 ≡ false → t ≡ truth_of_value v → at_place x.0 t ≡ Ok b → b ≡ false
    → Gives (λ w. w) eval_cause (truth_in world n env x.0 x.2) result → Gives (λ w. w) eval_cause (disjunct_in world n env v x) result
disjunct_false world n env v (place, true, c) b t result e same h fails made = absurd (cc)
disjunct_false world n env v (place, false, c) b t result e same h fails made =
    let next : Bool → Answer Value Fault = λ before. if before then Ok (of_value.Truth true) else truth_in world n env place c in
    let all : disjunct_in world n env v (place, false, c) ≡ truth_in world n env place c = ap (λ a. a >>= next) (ap (at_place place) (sym same) ∙ h ∙ ap Ok fails) in
    subst (λ (a : Answer Value Fault). Gives (λ w. w) eval_cause a result) (sym all) made

pub disjunct_xor : (world : World) (n : ℕ) (env : List Binding) (v : Value) (x : Place × Bool × Const) (result : Result Value EvalStop) → x.1 ≡ true
    → Gives (λ w. w) eval_cause (value_in world n env x.2 >>= λ w. at_place x.0 (truth_of_value v) >>= λ before. at_place x.0 (truth_of_value w) >>= λ b. Ok (of_value.Truth (differ before b))) result → Gives (λ w. w) eval_cause (disjunct_in world n env v x) result
disjunct_xor world n env v (place, true, c) result e made = made
disjunct_xor world n env v (place, false, c) result e made = absurd (cc)

pub ruleset forms = (in-Number, in-Text, in-Truth, in-Infinity, in-Name, in-Item, in-Call, in-Func, in-Paren, in-If, in-Factorial, in-Power, in-Signed, in-Compare, in-Not, in-Times, in-Plus, in-Proj, in-Member, in-And, in-Or, in-Braces, in-Big)
