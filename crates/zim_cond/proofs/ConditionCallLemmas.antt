-- What the calls for conditions make is what the conditions make.
use Rattle.std.proofs.Common.{ℕ, ◌≡◌, ◌<◌, ◌≤◌, ◌+◌, Bool, true, IsTrue, List, [], ◌∷◌, length, length-append, map, drop, get_or, Result, Ok, Err, IfOk, refl, ap, sym, ◌∙◌, subst, arith}
use Rattle.zim_answer.specs.Answer.{◌>>=◌, goes}
use Rattle.zim_answer.specs.Gives.{Gives, Stops}
use Rattle.zim_answer.proofs.BindLemmas.{bind_same, bind_gave}
use Rattle.zim_answer.proofs.GivesLemmas.{Stops-bind, Stops-goes}
use Rattle.zim_answer.proofs.GoesLemmas.{goes_next, goes_done}
use Rattle.zim_fault.specs.declared.faults.Fault.{Fault}
use Rattle.zim_fault.specs.declared.faults.Place.{Place}
use Rattle.zim_fault.specs.declared.tokens.Join.{Join}
use Rattle.zim_fault.specs.declared.tokens.Relation.{Relation}
use Rattle.zim_formula.specs.Ground.{condition_holds}
use Rattle.zim_formula.specs.GroundRules.{is_condition_over}
use Rattle.zim_formula.specs.declared.ground.GTerm.{GTerm}
use Rattle.zim_formula.specs.declared.ground.GCond.{GCond, GCond-F, map-GCond, roll-GCond, fold-roll-GCond}
use Rattle.zim_formula.specs.declared.ground.GCond.TheVariants as condition
use Rattle.zim_forms.specs.Algebra.{the}
use Rattle.zim_rows.specs.declared.rows.GivenRow.{GivenRow}
use Rattle.zim_rows.specs.declared.rows.RowFrom.{RowFrom}
use Rattle.zim_rows.specs.declared.faults.EncodeFault.{EncodeFault}
use Rattle.zim_rows.specs.System.{LinearSystem}
use Rattle.zim_rows.specs.Points.{assigned}
use Rattle.zim_rows.specs.Steps.{Encoding, encode_cause, Encodes, binary}
use Rattle.zim_rows.specs.Extending.{IsValid}
use Rattle.zim_rows.proofs.ExtendLaws.{extends_itself}
use Rattle.zim_logic_rows.specs.declared.Literal.{Literal}
use Rattle.zim_logic_rows.specs.LogicRows.{with_binary}
use Rattle.zim_logic_rows.specs.Literals.{is, literal, join_rows, negation, joined_column}
use Rattle.zim_logic_rows.proofs.BinaryLaws.{binary_gave}
use Rattle.zim_vabs.specs.Terms.{from_place}
use Rattle.zim_vabs.proofs.AbsoluteFormLaws.{pair_parts}
use Rattle.zim_vabs.proofs.TermLaws.{columns_after}
use Rattle.zim_cond.specs.Conditions.{Joined, join_turn, comparison_makes, condition_makes, makes_condition}
use Rattle.zim_cond.specs.ConditionTurns.{operand_joined, chain_makes}
use Rattle.zim_cond.specs.Meaning.{LiteralMade}
use Rattle.zim_cond.proofs.ConditionLaws.{condition_told}

-- ---- from the system itself

pub condition_literal : (before : LinearSystem) (source : RowFrom) (c : GCond) (l : Literal) (after : LinearSystem) → IsValid before → IsTrue (is_condition_over (length before.columns) c) → makes_condition source c before ≡ Ok (l, after) → LiteralMade before before (λ p. condition_holds (assigned p) c) l after
condition_literal before source c l after is rule h = condition_told before source c rule before is (extends_itself before) l after h

pub literal_made : (source : RowFrom) (c : GCond) (s after : LinearSystem) (r : Result Literal EncodeFault) → IsValid s → IsTrue (is_condition_over (length s.columns) c) → Encodes (λ l. l) (makes_condition source c) s after r → IfOk r (λ l. LiteralMade s s (λ p. condition_holds (assigned p) c) l after)
literal_made source c s after (Ok l) is over h = condition_literal s source c l after is over h
literal_made source c s after (Err refused) is over h = tt

-- ---- what each form of a condition makes

abbrev Told : Result Joined Fault → LinearSystem → Result Literal EncodeFault → Type 0
Told answer after r = Gives (λ (l : Literal). (l, after)) encode_cause answer r

at_condition : (source : RowFrom) (d : GCond-F GCond) → makes_condition source (roll-GCond d) ≡ condition_makes source (map-GCond GCond (Encoding Literal) (makes_condition source) d)
at_condition source = fold-roll-GCond (Encoding Literal) (condition_makes source)

pub known_same : (source : RowFrom) (truth : Bool) (s : LinearSystem) → makes_condition source (condition.Known truth) s ≡ condition_makes source (GCond-F.Known truth) s
known_same source truth s =
    ap (λ (c : GCond). makes_condition source c s) (sym (condition.rolls-Known truth)) ∙ ap (λ (m : Encoding Literal). m s) (at_condition source (GCond-F.Known truth))

pub compare_same : (source : RowFrom) (place : Place) (relation : Relation) (left right : GTerm) (s : LinearSystem) → makes_condition source (condition.Compare place relation left right) s ≡ comparison_makes (from_place source.statement place) relation left right s
compare_same source place relation left right s =
    ap (λ (c : GCond). makes_condition source c s) (sym (condition.rolls-Compare place relation left right))
    ∙ ap (λ (m : Encoding Literal). m s) (at_condition source (GCond-F.Compare place relation left right))

same_operands : (source : RowFrom) (m : Joined) (others : List (Place × Join × GCond)) → goes (join_turn source.statement) m (map (λ (c : Place × Join × GCond). (c.0, c.1, makes_condition source c.2)) others) ≡ chain_makes source m others
unfolding goes operand_joined
same_operands source m [] = refl
same_operands source m (c ∷ cs) =
    bind_same (join_turn source.statement m (c.0, c.1, makes_condition source c.2)) _ _ (λ next. same_operands source next cs)

pub chain_same : (source : RowFrom) (first : GCond) (others : List (Place × Join × GCond)) (s : LinearSystem) → makes_condition source (condition.Chain first others) s ≡ (makes_condition source first s >>= λ made. chain_makes source made others)
chain_same source first others s =
    ap (λ (c : GCond). makes_condition source c s) (sym (condition.rolls-Chain first others))
    ∙ ap (λ (m : Encoding Literal). m s) (at_condition source (GCond-F.Chain first others))
    ∙ bind_same (makes_condition source first s) _ _ (λ made. same_operands source made others)

abbrev negated : Joined → Result Joined Fault
negated made = Ok (negation made.0, made.1)

pub not_same : (source : RowFrom) (place : Place) (operand : GCond) (s : LinearSystem) → makes_condition source (condition.Not place operand) s ≡ (makes_condition source operand s >>= negated)
not_same source place operand s =
    ap (λ (c : GCond). makes_condition source c s) (sym (condition.rolls-Not place operand)) ∙ ap (λ (m : Encoding Literal). m s) (at_condition source (GCond-F.Not place operand))

pub known_made : (source : RowFrom) (truth : Bool) (s after : LinearSystem) (r : Result Literal EncodeFault) → Told (condition_makes source (GCond-F.Known truth) s) after r → Told (makes_condition source (condition.Known truth) s) after r
known_made source truth s after r h = subst (λ (a : Result Joined Fault). Told a after r) (sym (known_same source truth s)) h

pub compare_made : (source : RowFrom) (place : Place) (relation : Relation) (left right : GTerm) (s after : LinearSystem) (r : Result Literal EncodeFault) → Told (comparison_makes (from_place source.statement place) relation left right s) after r → Told (makes_condition source (condition.Compare place relation left right) s) after r
compare_made source place relation left right s after r h = subst (λ (a : Result Joined Fault). Told a after r) (sym (compare_same source place relation left right s)) h

pub chain_stops : (source : RowFrom) (first : GCond) (others : List (Place × Join × GCond)) (s : LinearSystem) (refused : EncodeFault) → Stops (makes_condition source first s) (encode_cause refused) → Stops (makes_condition source (condition.Chain first others) s) (encode_cause refused)
chain_stops source first others s refused h =
    subst (λ (a : Result Joined Fault). Stops a (encode_cause refused)) (sym (chain_same source first others s)) (Stops-bind (makes_condition source first s) (λ made. chain_makes source made others) (encode_cause refused) h)

pub chain_made : (source : RowFrom) (first : GCond) (others : List (Place × Join × GCond)) (p : Literal) (s middle after : LinearSystem) (r : Result Literal EncodeFault) → makes_condition source first s ≡ Ok (p, middle) → Told (chain_makes source (p, middle) others) after r → Told (makes_condition source (condition.Chain first others) s) after r
chain_made source first others p s middle after r h told =
    subst (λ (a : Result Joined Fault). Told a after r) (sym (chain_same source first others s ∙ ap (λ (a : Result Joined Fault). a >>= λ made. chain_makes source made others) h)) told

pub not_stops : (source : RowFrom) (place : Place) (operand : GCond) (s : LinearSystem) (refused : EncodeFault) → Stops (makes_condition source operand s) (encode_cause refused) → Stops (makes_condition source (condition.Not place operand) s) (encode_cause refused)
not_stops source place operand s refused h =
    subst (λ (a : Result Joined Fault). Stops a (encode_cause refused)) (sym (not_same source place operand s)) (Stops-bind (makes_condition source operand s) negated (encode_cause refused) h)

pub not_made : (source : RowFrom) (place : Place) (operand : GCond) (p l : Literal) (s after : LinearSystem) → makes_condition source operand s ≡ Ok (p, after) → l ≡ negation p → makes_condition source (condition.Not place operand) s ≡ Ok (l, after)
not_made source place operand p l s after h e =
    not_same source place operand s ∙ ap (λ (a : Result Joined Fault). a >>= negated) h ∙ ap (λ (k : Literal). Ok (k, after)) (sym e)

-- ---- chains

pub grown : (source : RowFrom) (c : GCond) (s after : LinearSystem) (l : Literal) → IsValid s → IsTrue (is_condition_over (length s.columns) c) → makes_condition source c s ≡ Ok (l, after) → length s.columns ≤ length after.columns
grown source c s after l is over h = columns_after after s (condition_literal s source c l after is over h).widens.extends

-- what is known of the literal of a join and of the system after it
pub record IsJoined (s : LinearSystem) (l : Literal) (after : LinearSystem) : Type 0 where
  pub number : l.column ≡ length s.columns + 1
  pub size : length after.columns ≡ length s.columns + 1

pub join_grown : (source : RowFrom) (join : Join) (p q l : Literal) (s after : LinearSystem) → joined_column source join p q s ≡ Ok (l, after) → IsJoined s l after
unfolding joined_column
join_grown source join p q l s after h =
    let rows : ℕ → List GivenRow = λ r. join_rows source join (is p) (is q) (the r) in
    let (made, made_is, last) = bind_gave (with_binary source.place rows s) _ (l, after) h in
    let (l_is, after_is) = pair_parts (literal made.0 true) l made.1 after last in
    let (n, there) = binary_gave source.place rows s made.0 made.1 made_is in
    record {
      number = ap (λ (k : Literal). k.column) (sym l_is) ∙ n;
      size = ap (λ (m : LinearSystem). length m.columns) (sym after_is ∙ there) ∙ length-append s.columns (binary ∷ []);
    }

abbrev turn_behind : RowFrom → Place × Join × GCond → Literal → Joined → Result Joined Fault
turn_behind source o p made = joined_column (from_place source.statement o.0) o.1 p made.0 made.1

pub turn_stops : (source : RowFrom) (p : Literal) (s : LinearSystem) (o : Place × Join × GCond) (refused : EncodeFault) → Stops (makes_condition source o.2 s) (encode_cause refused) → Stops (operand_joined source (p, s) o) (encode_cause refused)
unfolding operand_joined
turn_stops source p s o refused h = Stops-bind (makes_condition source o.2 s) (turn_behind source o p) (encode_cause refused) h

turn_begins : (source : RowFrom) (p q : Literal) (s middle : LinearSystem) (o : Place × Join × GCond) → makes_condition source o.2 s ≡ Ok (q, middle) → operand_joined source (p, s) o ≡ joined_column (from_place source.statement o.0) o.1 p q middle
unfolding operand_joined
turn_begins source p q s middle o h = ap (λ (a : Result Joined Fault). a >>= turn_behind source o p) h

pub turn_gives : (source : RowFrom) (p q l : Literal) (s middle after : LinearSystem) (o : Place × Join × GCond) → makes_condition source o.2 s ≡ Ok (q, middle) → joined_column (from_place source.statement o.0) o.1 p q middle ≡ Ok (l, after) → operand_joined source (p, s) o ≡ Ok (l, after)
turn_gives source p q l s middle after o h joined = turn_begins source p q s middle o h ∙ joined

pub turn_refused : (source : RowFrom) (p q : Literal) (s middle : LinearSystem) (o : Place × Join × GCond) (refused : EncodeFault) → makes_condition source o.2 s ≡ Ok (q, middle) → Stops (joined_column (from_place source.statement o.0) o.1 p q middle) (encode_cause refused) → Stops (operand_joined source (p, s) o) (encode_cause refused)
turn_refused source p q s middle o refused h stops = subst (λ (a : Result Joined Fault). Stops a (encode_cause refused)) (sym (turn_begins source p q s middle o h)) stops

-- the operands from i on lead from the literal and the system so far to what all of them make
pub record IsChaining (source : RowFrom) (n : ℕ) (start : Joined) (others : List (Place × Join × GCond)) (i : ℕ) (so_far : Joined) : Type 0 where
  pub leads : chain_makes source so_far (drop i others) ≡ chain_makes source start others
  pub grown : n ≤ length so_far.1.columns
  pub from_one : 0 < so_far.0.column
  pub in_columns : so_far.0.column ≤ length so_far.1.columns

pub chain_turn_stops : (source : RowFrom) (n : ℕ) (others : List (Place × Join × GCond)) (start : Joined) (now : LinearSystem) (p : Literal) (i : ℕ) (o : Place × Join × GCond) (refused : EncodeFault) → i < length others → o ≡ get_or others i o → IsChaining source n start others i (p, now)
    → Stops (operand_joined source (p, now) o) (encode_cause refused) → Stops (chain_makes source start others) (encode_cause refused)
chain_turn_stops source n others start now p i o refused lt is chaining stops =
    Stops-goes (operand_joined source) (p, now) others i o (encode_cause refused) (chain_makes source start others) lt (sym is) stops chaining.leads

pub chain_goes_on : (source : RowFrom) (n : ℕ) (others : List (Place × Join × GCond)) (start : Joined) (now middle new : LinearSystem) (p q l : Literal) (i : ℕ) (o : Place × Join × GCond) → i < length others → o ≡ get_or others i o → IsChaining source n start others i (p, now)
    → makes_condition source o.2 now ≡ Ok (q, middle) → length now.columns ≤ length middle.columns → joined_column (from_place source.statement o.0) o.1 p q middle ≡ Ok (l, new) → IsChaining source n start others (i + 1) (l, new)
chain_goes_on source n others start now middle new p q l i o lt is chaining h le joined =
    let few : n ≤ length now.columns = chaining.grown in
    let made = join_grown (from_place source.statement o.0) o.1 p q l middle new joined in
    let number : l.column ≡ length middle.columns + 1 = made.number in
    let size : length new.columns ≡ length middle.columns + 1 = made.size in
    record {
      leads = goes_next (operand_joined source) (p, now) (l, new) others i o (chain_makes source start others) lt (sym is) (turn_gives source p q l now middle new o h joined) chaining.leads;
      grown = omega arith;
      from_one = omega arith;
      in_columns = omega arith;
    }

pub chain_ends : (source : RowFrom) (n : ℕ) (others : List (Place × Join × GCond)) (start : Joined) (now : LinearSystem) (p : Literal) (i : ℕ) → length others ≤ i → IsChaining source n start others i (p, now) → chain_makes source start others ≡ Ok (p, now)
chain_ends source n others start now p i le chaining = goes_done (operand_joined source) (p, now) others i (chain_makes source start others) le chaining.leads
