-- What a condition makes tells its truth.
use Rattle.std.proofs.Common.{ℕ, ◌≡◌, ◌≤◌, ◌+◌, Bool, not, IsTrue, List, [], ◌∷◌, length, length-append, map, Ok, arith, ap, sym, ◌∙◌, subst}
use Rattle.std.proofs.lemmas.Bool.{and_parts}
use Rattle.zim_answer.specs.Answer.{goes}
use Rattle.zim_answer.proofs.BindLemmas.{bind_gave}
use Rattle.zim_fault.specs.declared.faults.Place.{Place}
use Rattle.zim_fault.specs.declared.tokens.Join.{Join}
use Rattle.zim_rational.specs.Rational.{Rational}
use Rattle.zim_formula.specs.Ground.{joined_truths, chain_from, condition_step, condition_holds}
use Rattle.zim_formula.specs.GroundRules.{joined_hold, condition_rule, is_condition_over}
use Rattle.zim_formula.specs.declared.ground.GCond.{GCond, GCond-F, roll-GCond, map-GCond, fold-roll-GCond, ind-GCond}
use Rattle.zim_rows.specs.declared.rows.RowFrom.{RowFrom}
use Rattle.zim_rows.specs.System.{LinearSystem, Extends}
use Rattle.zim_rows.specs.Points.{assigned}
use Rattle.zim_rows.specs.Steps.{Encoding}
use Rattle.zim_rows.proofs.ExtendLaws.{extends_further}
use Rattle.zim_logic_rows.specs.declared.Literal.{Literal}
use Rattle.zim_logic_rows.specs.Literals.{negation}
use Rattle.zim_vabs.specs.Terms.{from_place}
use Rattle.zim_vabs.proofs.AbsoluteFormLaws.{pair_parts}
use Rattle.zim_cond.specs.Conditions.{Joined, join_turn, condition_makes, makes_condition}
use Rattle.zim_cond.specs.Meaning.{LiteralMade, MakesLiteral}
use Rattle.zim_cond.proofs.LiteralLaws.{from_one, stays, join_makes, negated_made, literal_follows, literal_retold}
use Rattle.zim_cond.proofs.LeafLaws.{known_told}
use Rattle.zim_cond.proofs.RelationLeafLaws.{compare_told}

-- what is owed of a condition
abbrev pub Told : LinearSystem → RowFrom → GCond → Type 0
Told base source c =
    IsTrue (is_condition_over (length base.columns) c) → MakesLiteral base (λ p. condition_holds (assigned p) c) (makes_condition source c)

abbrev Part : LinearSystem → RowFrom → Type 0
Part base source = (c : GCond) × Told base source c

abbrev bare_operands : (base : LinearSystem) (source : RowFrom) → List (Place × Join × Part base source) → List (Place × Join × GCond)
bare_operands base source os = map (λ (o : Place × Join × Part base source). (o.0, o.1, o.2.0)) os

chain_makes : (base before : LinearSystem) (source : RowFrom) (others : List (Place × Join × Part base source)) (f : List Rational → Bool) (p : Literal) (s : LinearSystem) (final : Joined) → Extends s base → LiteralMade base before f p s
    → IsTrue (joined_hold (map (λ (c : Place × Join × GCond). (c.0, c.1, is_condition_over (length base.columns) c.2)) (bare_operands base source others)))
    → goes (join_turn source.statement) (p, s) (map (λ (c : Place × Join × GCond). (c.0, c.1, makes_condition source c.2)) (bare_operands base source others)) ≡ Ok final
    → LiteralMade base before (λ v. chain_from (f v) (map (λ (c : Place × Join × GCond). (c.0, c.1, condition_holds (assigned v) c.2)) (bare_operands base source others))) final.0 final.1
unfolding goes chain_from joined_hold
chain_makes base before source [] f p s final more first over h =
    let (a, b) = pair_parts p final.0 s final.1 h in
    subst (λ (m : LinearSystem). LiteralMade base before f final.0 m) b (subst (λ (k : Literal). LiteralMade base before f k s) a first)
chain_makes base before source (o ∷ os) f p s final more first over h =
    let rest_over : Bool = joined_hold (map (λ (c : Place × Join × GCond). (c.0, c.1, is_condition_over (length base.columns) c.2)) (bare_operands base source os)) in
    let overs = and_parts (is_condition_over (length base.columns) o.2.0) rest_over over in
    let (next, next_is, rest) = bind_gave (join_turn source.statement (p, s) (o.0, o.1, makes_condition source o.2.0)) _ final h in
    let (made, made_is, join_is) = bind_gave (makes_condition source o.2.0 s) _ next next_is in
    let g : List Rational → Bool = λ v. condition_holds (assigned v) o.2.0 in
    let second : LiteralMade base s g made.0 made.1 = o.2.1 overs.0 s first.valid more made.0 made.1 made_is in
    let more_made : Extends made.1 base = extends_further base s made.1 second.widens.extends more in
    let grown : length s.columns ≤ length made.1.columns = let e : length made.1.columns ≡ length s.columns + length second.widens.extends.columns.0 = ap length second.widens.extends.columns.1 ∙ length-append s.columns second.widens.extends.columns.0 in omega arith in
    let low : p.column ≤ length s.columns = first.in_columns in
    let both : List Rational → Bool = λ v. joined_truths o.1 (f v) (g v) in
    let third : LiteralMade base made.1 both next.0 next.1 =
    join_makes base made.1 (from_place source.statement o.0) o.1 f g p made.0 next.0 next.1 second.valid more_made
    (from_one base before s f p first) (omega arith) (stays base before s made.1 f p first more second.widens.extends)
    (from_one base s made.1 g made.0 second) second.in_columns second.tells join_is in
    let so_far : LiteralMade base before both next.0 next.1 =
    literal_follows base before made.1 next.1 g both made.0 next.0 (literal_follows base before s made.1 f g p made.0 first second) third in
    chain_makes base before source os both next.0 next.1 final (extends_further base made.1 next.1 third.widens.extends more_made) so_far overs.1 rest

abbrev bare : (base : LinearSystem) (source : RowFrom) → GCond-F (Part base source) → GCond-F GCond
bare base source y = map-GCond (Part base source) GCond (λ e. e.0) y

inner : (base : LinearSystem) (source : RowFrom) (y : GCond-F (Part base source)) → IsTrue (condition_rule (length base.columns) (map-GCond GCond Bool (is_condition_over (length base.columns)) (bare base source y)))
    → MakesLiteral base (λ p. condition_step (assigned p) (map-GCond GCond Bool (condition_holds (assigned p)) (bare base source y))) (condition_makes source (map-GCond GCond (Encoding Literal) (makes_condition source) (bare base source y)))
inner base source (GCond-F.Known truth) rule before is more l after h = known_told base source truth before is more l after h
inner base source (GCond-F.Compare place relation left right) rule before is more l after h = compare_told base source place relation left right rule before is more l after h
inner base source (GCond-F.Chain first others) rule before is more l after h =
    let overs = and_parts (is_condition_over (length base.columns) first.0) _ rule in
    let (made, made_is, rest) = bind_gave (makes_condition source first.0 before) _ (l, after) h in
    let start = first.1 overs.0 before is more made.0 made.1 made_is in
    chain_makes base before source others (λ p. condition_holds (assigned p) first.0) made.0 made.1 (l, after) (extends_further base before made.1 start.widens.extends more) start overs.1 rest
inner base source (GCond-F.Not place operand) rule before is more l after h =
    let (made, made_is, last) = bind_gave (makes_condition source operand.0 before) _ (l, after) h in
    let start = operand.1 rule before is more made.0 made.1 made_is in
    let (a, b) = pair_parts (negation made.0) l made.1 after last in
    let f : List Rational → Bool = λ p. not (condition_holds (assigned p) operand.0) in
    subst (λ (m : LinearSystem). LiteralMade base before f l m) b (subst (λ (k : Literal). LiteralMade base before f k made.1) a (negated_made base before (λ p. condition_holds (assigned p) operand.0) made.0 made.1 start))

layer : (base : LinearSystem) (source : RowFrom) (y : GCond-F (Part base source)) → Told base source (roll-GCond (bare base source y))
layer base source y rule before is more l after h =
    let d : GCond-F GCond = bare base source y in
    let n : ℕ = length base.columns in
    let rule_here : IsTrue (condition_rule n (map-GCond GCond Bool (is_condition_over n) d)) = subst IsTrue (fold-roll-GCond Bool (condition_rule n) d) rule in
    let here : condition_makes source (map-GCond GCond (Encoding Literal) (makes_condition source) d) before ≡ Ok (l, after) =
    ap (λ (e : Encoding Literal). e before) (sym (fold-roll-GCond (Encoding Literal) (condition_makes source) d)) ∙ h in
    literal_retold base before after (λ p. condition_step (assigned p) (map-GCond GCond Bool (condition_holds (assigned p)) d)) (λ p. condition_holds (assigned p) (roll-GCond d)) l
    (λ p. sym (fold-roll-GCond Bool (condition_step (assigned p)) d))
    (inner base source y rule_here before is more l after here)

-- a condition's literal is its truth
pub condition_told : (base : LinearSystem) (source : RowFrom) (c : GCond) → Told base source c
condition_told base source =
    ind-GCond (Told base source) (λ x y is. subst (λ (z : GCond-F GCond). Told base source (roll-GCond z)) is (layer base source y))
