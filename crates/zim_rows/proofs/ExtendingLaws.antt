-- Encoding steps that follow each other: a point of the first system is the beginning of exactly one point of the last one where it is that of one
-- point of the middle system, and this one that of one point of the last.
use Rattle.std.proofs.Common.{◌≡◌, ◌≤◌, ◌+◌, Bool, ◌&&◌, IsTrue, List, length, length-append, arith, ap, sym, ◌∙◌, subst}
use Rattle.std.proofs.lemmas.Bool.{and_from, and_parts}
use Rattle.std.proofs.lemmas.List.{take-take}
use Rattle.zim_rational.specs.Rational.{Rational}
use Rattle.zim_rows.specs.System.{LinearSystem, Extends}
use Rattle.zim_rows.specs.Points.{first_numbers}
use Rattle.zim_rows.specs.Extending.{IsValid, ExtendsOnce, Narrows, NarrowsTo, Widens}
use Rattle.zim_rows.proofs.CutLaws.{point_cut}
use Rattle.zim_rows.proofs.ExtendLaws.{extends_further}

more_columns : (later earlier : LinearSystem) → Extends later earlier → length earlier.columns ≤ length later.columns
more_columns later earlier more =
    let e : length later.columns ≡ length earlier.columns + length more.columns.0 = ap length more.columns.1 ∙ length-append earlier.columns more.columns.0 in
    omega arith

-- the first numbers of the first numbers, of a system that was extended, are the first numbers
pub cut_twice : (middle first : LinearSystem) (q : List Rational) → Extends middle first → first_numbers first (first_numbers middle q) ≡ first_numbers first q
cut_twice middle first q more =
    let le = more_columns middle first more in
    take-take (length first.columns) (length middle.columns) q le

pub once_further : (last middle first : LinearSystem) (p : List Rational) (early : ExtendsOnce middle first p) → IsValid middle → Extends last middle → Extends middle first → ExtendsOnce last middle early.one → ExtendsOnce last first p
once_further last middle first p early is late_more early_more late = record {
  one = late.one;
  lengthens = record {
    point = late.lengthens.point;
    cut = sym (cut_twice middle first late.one early_more) ∙ ap (first_numbers first) late.lengthens.cut ∙ early.lengthens.cut;
  };
  only =
      λ q long.
      late.only q (record {
        point = long.point;
        cut =
            early.only (first_numbers middle q) (record {
              point = point_cut last middle q is late_more long.point;
              cut = cut_twice middle first q early_more ∙ long.cut;
            });
      });
}

-- two steps of which the second asks something of the first system's points
pub narrows_further : (last middle first : LinearSystem) (one other : List Rational → Type 0) → IsValid middle → Narrows middle first one → Narrows last middle (λ p. other (first_numbers first p)) → Narrows last first (λ p. one p × other p)
narrows_further last middle first one other is early late = record {
  extends = extends_further first middle last late.extends early.extends;
  once =
      λ p point asked.
      let between = early.once p point asked.0 in
      once_further last middle first p between is late.extends early.extends (late.once between.one between.lengthens.point (subst other (sym between.lengthens.cut) asked.1));
  keeps =
      λ q point.
      let back = point_cut last middle q is late.extends point in (
        subst one (cut_twice middle first q early.extends) (early.keeps (first_numbers middle q) back),
        subst other (cut_twice middle first q early.extends) (late.keeps q point),
      );
}

-- the same where nothing is asked
pub widens_further : (last middle first : LinearSystem) → IsValid middle → Widens middle first → Widens last middle → Widens last first
widens_further last middle first is early late =
    let both = narrows_further last middle first (λ _. Unit {0}) (λ _. Unit {0}) is early late in
    record { extends = both.extends; once = λ p point asked. both.once p point (tt, tt); keeps = λ q point. tt }

-- the same where tests say what is asked
pub narrows_further_to : (last middle first : LinearSystem) (one other : List Rational → Bool) → IsValid middle → NarrowsTo middle first one → NarrowsTo last middle (λ p. other (first_numbers first p)) → NarrowsTo last first (λ p. one p && other p)
narrows_further_to last middle first one other is early late =
    let both = narrows_further last middle first (λ p. IsTrue (one p)) (λ p. IsTrue (other p)) is early late in
    record {
      extends = both.extends;
      once = λ p point asked. both.once p point (and_parts (one p) (other p) asked);
      keeps = λ q point. let kept = both.keeps q point in and_from (one (first_numbers first q)) (other (first_numbers first q)) kept.0 kept.1;
    }
