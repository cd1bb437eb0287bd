-- A comparison of two terms is its literal, whatever the relation.
use Rattle.std.proofs.Common.{◌<◌, arith, ◌≡◌, ◌&&◌, Bool, true, false, not, IsTrue, List, length, Ok}
use Rattle.std.proofs.lemmas.Bool.{and_parts}
use Rattle.zim_answer.proofs.BindLemmas.{bind_gave}
use Rattle.zim_fault.specs.declared.faults.Place.{Place}
use Rattle.zim_fault.specs.declared.tokens.Relation.{Relation}
use Rattle.zim_fault.specs.declared.tokens.Relation.TheVariants.{LessThan, AtMost, EqualTo, NotEqualTo, AtLeast, GreaterThan}
use Rattle.zim_rational.specs.Rational.{Rational, zero, one, minus, at_most, below, same}
use Rattle.zim_linear.specs.Forms.{LinearForm}
use Rattle.zim_formula.specs.Ground.{related, term_number}
use Rattle.zim_formula.specs.GroundRules.{is_term_over}
use Rattle.zim_formula.specs.declared.ground.GTerm.{GTerm}
use Rattle.zim_formula.specs.declared.ground.GCond.{GCond-F}
use Rattle.zim_rows.specs.declared.rows.RowFrom.{RowFrom}
use Rattle.zim_rows.specs.System.{LinearSystem, Extends}
use Rattle.zim_rows.specs.Points.{assigned}
use Rattle.zim_rows.proofs.ExtendLaws.{extends_further}
use Rattle.zim_rows.proofs.ExtendingLaws.{widens_further}
use Rattle.zim_logic_rows.specs.declared.Literal.{Literal}
use Rattle.zim_logic_rows.specs.declared.Ranged.{Ranged}
use Rattle.zim_logic_rows.specs.Literals.{literal}
use Rattle.zim_logic_rows.specs.Truth.{truth_column}
use Rattle.zim_vabs.specs.IntegerForms.{ranged_at}
use Rattle.zim_vabs.specs.Meaning.{FormMade}
use Rattle.zim_vabs.specs.Terms.{from_place}
use Rattle.zim_vabs.proofs.AbsoluteFormLaws.{pair_parts}
use Rattle.zim_vabs.proofs.RangedLaws.{IsRangedOf, ranged_is}
use Rattle.zim_vabs.proofs.TermLaws.{columns_after}
use Rattle.zim_cond.specs.Conditions.{equal_column, comparison_literal, difference_of, condition_makes}
use Rattle.zim_cond.specs.Meaning.{LiteralMade, MakesLiteral}
use Rattle.zim_cond.proofs.CompareLaws.{not_least, not_below}
use Rattle.zim_cond.proofs.CompareLeafLaws.{difference_made, least_made, one_made}
use Rattle.zim_cond.proofs.EqualLeafLaws.{equal_made}
use Rattle.zim_cond.proofs.LiteralLaws.{negated_made, literal_retold, literal_given}

-- the literal of a comparison of T with 0 says how l and r stand
relation_made : (base before middle : LinearSystem) (source : RowFrom) (relation : Relation) (l r : List Rational → Rational) (f : LinearForm) (t : Ranged) (k : Literal) (after : LinearSystem) → Extends middle base → FormMade base before (λ p. minus (l p) (r p)) f middle → IsRangedOf middle.columns f t
    → comparison_literal source relation t middle ≡ Ok (k, after) → LiteralMade base middle (λ p. related relation (l p) (r p)) k after
unfolding comparison_literal related
relation_made base before middle source AtLeast l r f t k after more made ranged h =
    let (b, b_is, last) = bind_gave (truth_column source zero t middle) _ (k, after) h in
    let (same_literal, there) = pair_parts (literal b.0 true) k b.1 after last in
    literal_given base middle (λ p. at_most (r p) (l p)) (literal b.0 true) k b.1 after (least_made base before middle source l r f t b.0 b.1 more made ranged b_is) same_literal there
relation_made base before middle source GreaterThan l r f t k after more made ranged h =
    let (b, b_is, last) = bind_gave (truth_column source one t middle) _ (k, after) h in
    let (same_literal, there) = pair_parts (literal b.0 true) k b.1 after last in
    literal_given base middle (λ p. below (r p) (l p)) (literal b.0 true) k b.1 after (one_made base before middle source l r f t b.0 b.1 more made ranged b_is) same_literal there
relation_made base before middle source LessThan l r f t k after more made ranged h =
    let (b, b_is, last) = bind_gave (truth_column source zero t middle) _ (k, after) h in
    let (same_literal, there) = pair_parts (literal b.0 false) k b.1 after last in
    let least : List Rational → Bool = λ p. at_most (r p) (l p) in
    let turned : LiteralMade base middle (λ p. not (least p)) (literal b.0 false) b.1 = negated_made base middle least (literal b.0 true) b.1 (least_made base before middle source l r f t b.0 b.1 more made ranged b_is) in
    literal_given base middle (λ p. below (l p) (r p)) (literal b.0 false) k b.1 after
    (literal_retold base middle b.1 (λ p. not (least p)) (λ p. below (l p) (r p)) (literal b.0 false) (λ p. not_least (l p) (r p)) turned) same_literal there
relation_made base before middle source AtMost l r f t k after more made ranged h =
    let (b, b_is, last) = bind_gave (truth_column source one t middle) _ (k, after) h in
    let (same_literal, there) = pair_parts (literal b.0 false) k b.1 after last in
    let more_than : List Rational → Bool = λ p. below (r p) (l p) in
    let turned : LiteralMade base middle (λ p. not (more_than p)) (literal b.0 false) b.1 = negated_made base middle more_than (literal b.0 true) b.1 (one_made base before middle source l r f t b.0 b.1 more made ranged b_is) in
    literal_given base middle (λ p. at_most (l p) (r p)) (literal b.0 false) k b.1 after
    (literal_retold base middle b.1 (λ p. not (more_than p)) (λ p. at_most (l p) (r p)) (literal b.0 false) (λ p. not_below (l p) (r p)) turned) same_literal there
relation_made base before middle source EqualTo l r f t k after more made ranged h =
    let (e, e_is, last) = bind_gave (equal_column source t middle) _ (k, after) h in
    let (same_literal, there) = pair_parts (literal e.0 true) k e.1 after last in
    literal_given base middle (λ p. same (l p) (r p)) (literal e.0 true) k e.1 after (equal_made base before middle source l r f t e.0 e.1 more made ranged e_is) same_literal there
relation_made base before middle source NotEqualTo l r f t k after more made ranged h =
    let (e, e_is, last) = bind_gave (equal_column source t middle) _ (k, after) h in
    let (same_literal, there) = pair_parts (literal e.0 false) k e.1 after last in
    let equal : List Rational → Bool = λ p. same (l p) (r p) in
    literal_given base middle (λ p. not (equal p)) (literal e.0 false) k e.1 after
    (negated_made base middle equal (literal e.0 true) e.1 (equal_made base before middle source l r f t e.0 e.1 more made ranged e_is)) same_literal there

-- a comparison of two terms
pub compare_told : (base : LinearSystem) (source : RowFrom) (place : Place) (relation : Relation) (left right : GTerm) → IsTrue (is_term_over (length base.columns) left && is_term_over (length base.columns) right)
    → MakesLiteral base (λ p. related relation (term_number (assigned p) left) (term_number (assigned p) right)) (condition_makes source (GCond-F.Compare place relation left right))
compare_told base source place relation left right rule before is more k after h =
    let overs = and_parts (is_term_over (length base.columns) left) (is_term_over (length base.columns) right) rule in
    let (form, form_is, rest) = bind_gave (difference_of source.statement place left right before) _ (k, after) h in
    let l : List Rational → Rational = λ p. term_number (assigned p) left in
    let r : List Rational → Rational = λ p. term_number (assigned p) right in
    let made : FormMade base before (λ p. minus (l p) (r p)) form.0 form.1 = difference_made base before source.statement place left right form.0 form.1 is more overs.0 overs.1 form_is in
    let (t, t_is, last) = bind_gave (ranged_at place form.0 form.1.columns) _ (k, after) rest in
    let ranged : IsRangedOf form.1.columns form.0 t = ranged_is place form.0 form.1.columns t made.valid.each_column made.columns t_is in
    let second : LiteralMade base form.1 (λ p. related relation (l p) (r p)) k after =
    relation_made base before form.1 (from_place source.statement place) relation l r form.0 t k after (extends_further base before form.1 made.widens.extends more) made ranged last in
    record {
      valid = second.valid;
      widens = widens_further after form.1 before made.valid made.widens second.widens;
      is_new = let le = columns_after form.1 before made.widens.extends in let lt : length form.1.columns < k.column = second.is_new in omega arith;
      in_columns = second.in_columns;
      is_binary = second.is_binary;
      tells = second.tells;
      covered = λ c. second.covered (made.covered c);
    }
