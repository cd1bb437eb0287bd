use Rattle.std.proofs.Common.{◌<◌, ◌∙◌, sym, length, arith}
use Rattle.zim_sets.proofs.SetLemmas.{inserted_unfit, inserted_there, inserted_past, inserted_at_end, set_with_more}
use Rattle.zim_sets.specs.Sets.{most}
use Rattle.zim_sets.proofs.tuple_set.TupleSet.insert.Goals as goal

pub returns-then-not-is_fitting-clause-answer : goal.returns-then-not-is_fitting-clause-answer
returns-then-not-is_fitting-clause-answer c =
    inserted_unfit c.args.self.now c.args.tuple (sym c.is_fitting.ensures ∙ c.if-not-is_fitting.true)

pub returns-then-contains-clause-answer : goal.returns-then-contains-clause-answer
returns-then-contains-clause-answer c =
    inserted_there c.args.self.now c.args.tuple (sym c.is_fitting.ensures ∙ c.if-not-is_fitting.false) (sym c.contains.ensures ∙ c.if-contains.true)

pub returns-then-len-ge-MOST-clause-answer : goal.returns-then-len-ge-MOST-clause-answer
returns-then-len-ge-MOST-clause-answer c =
    inserted_past c.args.self.now c.args.tuple (sym c.is_fitting.ensures ∙ c.if-not-is_fitting.false) (sym c.contains.ensures ∙ c.if-contains.false) (omega (arith, c.len.ensures.value))

pub invariant_of-self-2 : goal.invariant_of-self-2
invariant_of-self-2 c =
    let few : length c.args.self.now < most = omega (arith, c.len.ensures.value) in
    let more = set_with_more c.args.self.now c.args.tuple c.len.ensures.set (sym c.is_fitting.ensures ∙ c.if-not-is_fitting.false) (sym c.contains.ensures ∙ c.if-contains.false) few in
    rw (c.in_ok-push.ensures.ok, c.self.view_is) more

pub returns-clause-answer : goal.returns-clause-answer
returns-clause-answer c =
    let few : length c.args.self.now < most = omega (arith, c.len.ensures.value) in
    let more = inserted_at_end c.args.self.now c.args.tuple (sym c.is_fitting.ensures ∙ c.if-not-is_fitting.false) (sym c.contains.ensures ∙ c.if-contains.false) few in
    rw (c.in_ok-push.ensures.ok, c.self.view_is) more
