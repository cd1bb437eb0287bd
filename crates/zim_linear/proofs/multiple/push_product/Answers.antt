use Rattle.std.proofs.Common.{◌≡◌, refl, ap, sym, ◌∙◌, [], ◌∷◌, ◌++◌}
use Rattle.std.proofs.lemmas.Bool.{both_ways}
use Rattle.zim_rational.specs.Rational.{Rational, zero, times, same}
use Rattle.zim_rational.proofs.Whole.{same_Decides}
use Rattle.zim_linear.proofs.AnswerLaws.{product_ok, product_past}
use Rattle.zim_linear.proofs.multiple.push_product.Goals as goal

pub returns-in-Err : goal.returns-in-Err
returns-in-Err c = product_past _ _ _ c.in-Err.ensures.answer

pub returns-in_ok-push : goal.returns-in_ok-push
returns-in_ok-push c = record {
  within = product_ok _ _ _ c.in-Ok.ensures.answer;
  pushed = λ some. c.in_ok-push.ensures.items ∙ ap (λ (q : Rational). c.args.made.now.items ++ (c.args.t.now.0, q) ∷ []) c.in-Ok.ensures.ok;
  dropped = λ is. absurd (both_ways (same c.in-Ok.product c.zero.result) (sym c.if-not-same_number.ensures) ((same_Decides c.in-Ok.product c.zero.result).1 (c.in-Ok.ensures.ok ∙ is ∙ sym c.zero.ensures)));
}

pub returns-else-not-same_number : goal.returns-else-not-same_number
returns-else-not-same_number c =
    let none : times c.args.t.now.1 c.args.q ≡ zero =
    sym c.in-Ok.ensures.ok ∙ (same_Decides c.in-Ok.product c.zero.result).0 (sym c.if-not-same_number.ensures) ∙ c.zero.ensures in
    record {
      within = product_ok _ _ _ c.in-Ok.ensures.answer;
      pushed = λ some. absurd (some none);
      dropped = λ is. refl;
    }
