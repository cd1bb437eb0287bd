-- Each turn passes one token.
use Rattle.std.proofs.Common.{◌≡◌, ◌+◌, [], ◌∷◌, ◌++◌, Err, Vec, Global, sym, ap, ◌∙◌, arith}
use Rattle.zim_fault.specs.declared.kinds.Kind.TheVariants.{OpenStatement}
use Rattle.zim_fault.specs.declared.tokens.Placed.{Placed}
use Rattle.zim_lex.specs.declared.lines.Span.{Span}
use Rattle.zim_lex.proofs.SpansLemmas.{nothing_passed, with_spans-end, none_ends-more, none_between, with_spans-open}
use Rattle.zim_lex.proofs.spans.statements.Goals as goal
use Rattle.zim_lex.proofs.spans.statements.Goals.{then-is_end+in_ok-push, else-is_end}

pub loop-at-init : goal.loop-at-init
loop-at-init c = record {
  told = rw c.new-spans.ensures.items (nothing_passed c.args.tokens.now);
  low = omega arith;
  passed = λ k d none. absurd (omega arith);
}

pub loop-at-preserved : goal.loop-at-preserved
loop-at-preserved c =
    elim c.if-is_end.branch [
      | then-is_end+in_ok-push w ↦
          (let grown : c.if-is_end.spans.items ≡ c.loop-at.spans.items ++ record { from = c.loop-at.from; to = c.loop-at.at + 1 } ∷ [] = ap (λ (v : Vec Span Global). v.items) w.spans-is ∙ w.in_ok-push.ensures.items in
          record {
            told = rw (grown, w.from-is)
                (sym (with_spans-end c.loop-at.spans.items c.args.tokens.now c.loop-at.from c.loop-at.at c.index-tokens-at.result c.loop-at.invariant.low c.loop-at-test.true (sym c.index-tokens-at.is) c.loop-at.invariant.passed (sym c.is_end.ensures ∙ w.if-is_end.true))
                ∙ c.loop-at.invariant.told);
            low = omega (arith, w.from-is);
            passed = rw w.from-is (none_between c.args.tokens.now (c.loop-at.at + 1));
          })
      | else-is_end w ↦
          (let same : c.if-is_end.spans.items ≡ c.loop-at.spans.items = ap (λ (v : Vec Span Global). v.items) w.spans-is in
          record {
            told = rw (same, w.from-is) c.loop-at.invariant.told;
            low = omega (arith, w.from-is, c.loop-at.invariant.low);
            passed = rw w.from-is
                (none_ends-more c.args.tokens.now c.loop-at.from c.loop-at.at c.index-tokens-at.result c.loop-at.invariant.low c.loop-at-test.true (sym c.index-tokens-at.is) c.loop-at.invariant.passed (sym c.is_end.ensures ∙ w.if-is_end.false));
          })
    ]

pub returns-then-from-tokens : goal.returns-then-from-tokens
returns-then-from-tokens c =
    sym c.loop-at.invariant.told
    ∙ with_spans-open c.loop-at.spans.items c.args.tokens.now c.loop-at.from c.loop-at.at c.index-tokens-from.result c.if-from-tokens.true c.loop-at-test.false (sym c.index-tokens-from.is) c.loop-at.invariant.passed
    ∙ ap (λ (p : Placed). Err (record { place = p.place; kind = OpenStatement })) c.index-tokens-from.is
