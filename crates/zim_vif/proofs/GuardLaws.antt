-- Parts that are asked under a guard: the guard's truth at each point, and parts one after another.
use Rattle.std.proofs.Common.{◌≡◌, ◌<◌, ◌≤◌, ◌↔◌, ◌&&◌, Bool, true, false, not, if◌then◌else◌, IsTrue, List, length, Some, None, Ok, arith, refl, ap, sym, ◌∙◌, subst}
use Rattle.std.proofs.lemmas.List.{take_all}
use Rattle.zim_answer.proofs.BindLemmas.{bind_gave}
use Rattle.zim_fault.specs.declared.tokens.Join.TheVariants.{And}
use Rattle.zim_rational.specs.Rational.{Rational}
use Rattle.zim_linear.specs.Forms.{number_at}
use Rattle.zim_formula.specs.Ground.{joined_truths}
use Rattle.zim_rows.specs.declared.rows.RowFrom.{RowFrom}
use Rattle.zim_rows.specs.System.{LinearSystem, Extends}
use Rattle.zim_rows.specs.Points.{IsSystemPoint, assigned, first_numbers}
use Rattle.zim_rows.specs.Covered.{IsCovered}
use Rattle.zim_rows.specs.Extending.{IsValid, NarrowsTo, Widens}
use Rattle.zim_rows.proofs.StepLaws.{each_has_number}
use Rattle.zim_rows.proofs.CutLaws.{point_cut}
use Rattle.zim_rows.proofs.ExtendLaws.{extends_itself, extends_further}
use Rattle.zim_rows.proofs.ExtendingLaws.{cut_twice, narrows_further_to}
use Rattle.zim_logic_rows.specs.declared.Literal.{Literal}
use Rattle.zim_logic_rows.specs.Literals.{is, number_of, joined_column}
use Rattle.zim_vabs.proofs.TermLaws.{columns_after}
use Rattle.zim_cond.specs.Meaning.{LiteralMade}
use Rattle.zim_cond.proofs.LiteralLaws.{kept_literal, from_one, join_makes, literal_retold}
use Rattle.zim_vif.specs.Constraints.{Guard, ConstraintPart, under_literal}

-- ---- guards as truths

-- a literal that is a truth at each point of a system, in the columns of a first one
pub record IsTruth (base s : LinearSystem) (g : List Rational → Bool) (l : Literal) : Type 0 where
  pub from_one : 0 < l.column
  pub in_columns : l.column ≤ length s.columns
  pub tells : (q : List Rational) → IsSystemPoint s q → number_at (assigned q) (is l) ≡ number_of (g (first_numbers base q))

-- a guard that is a truth, which is always true where the guard has no literal
abbrev pub IsGuarding : LinearSystem → LinearSystem → Guard → (List Rational → Bool) → Type 0
IsGuarding base s None g = (p : List Rational) → g p ≡ true
IsGuarding base s (Some l) g = IsTruth base s g l

-- it stays that truth where the system grows
pub truth_later : (base s later : LinearSystem) (g : List Rational → Bool) (l : Literal) → IsValid s → Extends s base → Extends later s → IsTruth base s g l → IsTruth base later g l
truth_later base s later g l is under more truth =
    let le = columns_after later s more in
    let few : l.column ≤ length s.columns = truth.in_columns in
    record {
      from_one = truth.from_one;
      in_columns = omega arith;
      tells =
          λ q point.
          sym (kept_literal (length s.columns) q l truth.from_one truth.in_columns)
          ∙ truth.tells (first_numbers s q) (point_cut later s q is more point)
          ∙ ap (λ (p : List Rational). number_of (g p)) (cut_twice s base q under);
    }

pub guarding_later : (base s later : LinearSystem) (guard : Guard) (g : List Rational → Bool) → IsValid s → Extends s base → Extends later s → IsGuarding base s guard g → IsGuarding base later guard g
guarding_later base s later None g is under more on = on
guarding_later base s later (Some l) g is under more on = truth_later base s later g l is under more on

pub truth_made : (base before after : LinearSystem) (g : List Rational → Bool) (l : Literal) → LiteralMade base before g l after → IsTruth base after g l
truth_made base before after g l made = record {
  from_one = from_one base before after g l made;
  in_columns = made.in_columns;
  tells = made.tells;
}

-- ---- what is asked under a guard

-- a truth that is asked where the guard is on
abbrev pub asked : Bool → Bool → Bool
asked guard truth = if guard then truth else true

pub asked_says : (g t : Bool) → (IsTrue g → IsTrue t) ↔ IsTrue (asked g t)
asked_says true t = (λ h. h refl, λ h _. h)
asked_says false t = (λ h. refl, λ h e. cc)

asked_both : (g s t : Bool) → (asked g s && asked g t) ≡ asked g (s && t)
asked_both true s t = refl
asked_both false s t = refl

and_true : (s : Bool) → (s && true) ≡ s
and_true true = refl
and_true false = refl

pub asked_choice : (g c s t : Bool) → (asked (g && c) s && asked (g && not c) t) ≡ asked g (if c then s else t)
asked_choice true true s t = and_true s
asked_choice true false s t = refl
asked_choice false c s t = refl

pub asked_alone : (g c s : Bool) → asked (g && c) s ≡ asked g (if c then s else true)
asked_alone true true s = refl
asked_alone true false s = refl
asked_alone false c s = refl

-- the points of the system before at which the truth holds or the guard doesn't, and no others, are the beginnings of points of the system after
pub record PartMade (base before : LinearSystem) (g t : List Rational → Bool) (after : LinearSystem) : Type 0 where
  pub valid : IsValid after
  pub narrows : NarrowsTo after before (λ p. asked (g (first_numbers base p)) (t (first_numbers base p)))
  pub covered : IsCovered before → IsCovered after

-- a part makes such a system from each valid one that extends the first, under each guard of it
abbrev pub MakesPart : LinearSystem → (List Rational → Bool) → ConstraintPart → Type 0
MakesPart base t part =
    (guard : Guard) (g : List Rational → Bool) (before : LinearSystem) (made : Unit {0} × LinearSystem) → IsValid before → Extends before base → IsGuarding base before guard g → part guard before ≡ Ok made → PartMade base before g t made.1

-- ---- one after another

pub narrows_retold : (later earlier : LinearSystem) (f g : List Rational → Bool) → ((p : List Rational) → f p ≡ g p) → NarrowsTo later earlier f → NarrowsTo later earlier g
narrows_retold later earlier f g same narrows = record {
  extends = narrows.extends;
  once = λ p point h. narrows.once p point (subst IsTrue (sym (same p)) h);
  keeps = λ q point. subst IsTrue (same (first_numbers earlier q)) (narrows.keeps q point);
}

widens_to : (later earlier : LinearSystem) → Widens later earlier → NarrowsTo later earlier (λ _. true)
widens_to later earlier widens = record {
  extends = widens.extends;
  once = λ p point _. widens.once p point tt;
  keeps = λ q point. refl;
}

narrows_on : (base first middle last : LinearSystem) (one other : List Rational → Bool) → IsValid middle → Extends first base → NarrowsTo middle first (λ p. one (first_numbers base p)) → NarrowsTo last middle (λ p. other (first_numbers base p))
    → NarrowsTo last first (λ p. one (first_numbers base p) && other (first_numbers base p))
narrows_on base first middle last one other is more early late =
    narrows_further_to last middle first (λ p. one (first_numbers base p)) (λ p. other (first_numbers base p)) is early
    (narrows_retold last middle (λ p. other (first_numbers base p)) (λ p. other (first_numbers base (first_numbers first p)))
    (λ p. by p)
    late) where
      by : (p : List Rational) → other (first_numbers base p) ≡ other (first_numbers base (first_numbers first p))
      by p = ap other (sym (cut_twice first base p more))

pub part_retold : (base before after : LinearSystem) (g s t : List Rational → Bool) → ((p : List Rational) → s p ≡ t p) → PartMade base before g s after → PartMade base before g t after
part_retold base before after g s t same made = record {
  valid = made.valid;
  narrows =
      narrows_retold after before (λ p. asked (g (first_numbers base p)) (s (first_numbers base p))) (λ p. asked (g (first_numbers base p)) (t (first_numbers base p)))
      (λ p. ap (asked (g (first_numbers base p))) (same (first_numbers base p)))
      made.narrows;
  covered = made.covered;
}

-- behind columns and rows that leave each point as it is
pub part_behind : (base before middle after : LinearSystem) (g t : List Rational → Bool) → Extends before base → IsValid middle → Widens middle before → (IsCovered before → IsCovered middle) → PartMade base middle g t after → PartMade base before g t after
part_behind base before middle after g t more is widens covered made = record {
  valid = made.valid;
  narrows = narrows_on base before middle after (λ _. true) (λ p. asked (g p) (t p)) is more (widens_to middle before widens) made.narrows;
  covered = λ c. made.covered (covered c);
}

-- two parts, of which each may stand under a guard of its own
two_asked : (base before middle after : LinearSystem) (f g s t h r : List Rational → Bool) → ((p : List Rational) → (asked (f p) (s p) && asked (g p) (t p)) ≡ asked (h p) (r p)) → Extends before base
    → PartMade base before f s middle → PartMade base middle g t after → PartMade base before h r after
two_asked base before middle after f g s t h r same more first second = record {
  valid = second.valid;
  narrows =
      narrows_retold after before (λ p. asked (f (first_numbers base p)) (s (first_numbers base p)) && asked (g (first_numbers base p)) (t (first_numbers base p))) (λ p. asked (h (first_numbers base p)) (r (first_numbers base p)))
      (λ p. same (first_numbers base p))
      (narrows_on base before middle after (λ p. asked (f p) (s p)) (λ p. asked (g p) (t p)) first.valid more first.narrows second.narrows);
  covered = λ c. second.covered (first.covered c);
}

pub two_parts : (base before middle after : LinearSystem) (g s t : List Rational → Bool) → Extends before base → PartMade base before g s middle → PartMade base middle g t after → PartMade base before g (λ p. s p && t p) after
two_parts base before middle after g s t more first second =
    two_asked base before middle after g g s t g (λ p. s p && t p) (λ p. asked_both (g p) (s p) (t p)) more first second

-- the part where a condition is true, and the one where it isn't
pub two_ways : (base before middle after : LinearSystem) (g c s t : List Rational → Bool) → Extends before base → PartMade base before (λ p. g p && c p) s middle → PartMade base middle (λ p. g p && not (c p)) t after
    → PartMade base before g (λ p. if c p then s p else t p) after
two_ways base before middle after g c s t more first second =
    two_asked base before middle after (λ p. g p && c p) (λ p. g p && not (c p)) s t g (λ p. if c p then s p else t p) (λ p. asked_choice (g p) (c p) (s p) (t p)) more first second

-- the first of them alone
pub one_way : (base before after : LinearSystem) (g c s : List Rational → Bool) → PartMade base before (λ p. g p && c p) s after → PartMade base before g (λ p. if c p then s p else true) after
one_way base before after g c s made = record {
  valid = made.valid;
  narrows =
      narrows_retold after before (λ p. asked (g (first_numbers base p) && c (first_numbers base p)) (s (first_numbers base p))) (λ p. asked (g (first_numbers base p)) (if c (first_numbers base p) then s (first_numbers base p) else true))
      (λ p. asked_alone (g (first_numbers base p)) (c (first_numbers base p)) (s (first_numbers base p)))
      made.narrows;
  covered = made.covered;
}

asked_true : (g : Bool) → asked g true ≡ true
asked_true true = refl
asked_true false = refl

-- nothing is asked
pub nothing_asked : (base s : LinearSystem) (g : List Rational → Bool) → IsValid s → PartMade base s g (λ _. true) s
nothing_asked base s g is =
    let whole : (q : List Rational) → IsSystemPoint s q → first_numbers s q ≡ q = λ q at. take_all (length s.columns) q (let e = each_has_number s.columns q at.columns in omega arith) in
    record {
      valid = is;
      narrows = record {
        extends = extends_itself s;
        once =
            λ p point _. record {
              one = p;
              lengthens = record { point = point; cut = whole p point };
              only = λ q long. sym (whole q long.point) ∙ long.cut;
            };
        keeps = λ q point. asked_true (g (first_numbers base (first_numbers s q)));
      };
      covered = λ c. c;
    }

-- ---- a part under the literal of its condition

joined_as_and : (p q : Bool) → joined_truths And p q ≡ (p && q)
unfolding joined_truths
joined_as_and p q = refl

pub under_makes : (base : LinearSystem) (source : RowFrom) (t : List Rational → Bool) (part : ConstraintPart) → MakesPart base t part → (guard : Guard) (g c : List Rational → Bool) (b : Literal) (before : LinearSystem) (made : Unit {0} × LinearSystem)
    → IsValid before → Extends before base → IsGuarding base before guard g → IsTruth base before c b → under_literal source guard b part before ≡ Ok made → PartMade base before (λ p. g p && c p) t made.1
under_makes base source t part makes None g c b before made is more on truth h =
    makes (Some b) (λ p. g p && c p) before made is more
    (record {
      from_one = truth.from_one;
      in_columns = truth.in_columns;
      tells = λ q point. truth.tells q point ∙ ap (λ (v : Bool). number_of (v && c (first_numbers base q))) (sym (on (first_numbers base q)));
    })
    h
under_makes base source t part makes (Some l) g c b before made is more on truth h =
    let (j, j_is, rest) = bind_gave (joined_column source And l b before) _ made h in
    let joined : LiteralMade base before (λ v. g v && c v) j.0 j.1 =
    literal_retold base before j.1 (λ v. joined_truths And (g v) (c v)) (λ v. g v && c v) j.0 (λ v. joined_as_and (g v) (c v))
    (join_makes base before source And g c l b j.0 j.1 is more on.from_one on.in_columns on.tells truth.from_one truth.in_columns truth.tells j_is) in
    let more_after : Extends j.1 base = extends_further base before j.1 joined.widens.extends more in
    part_behind base before j.1 made.1 (λ p. g p && c p) t more joined.valid joined.widens joined.covered
    (makes (Some j.0) (λ p. g p && c p) j.1 made joined.valid more_after (truth_made base before j.1 (λ v. g v && c v) j.0 joined) rest)
