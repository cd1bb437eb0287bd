use Rattle.std.proofs.Common.{◌≡◌, ◌∙◌, ◌++◌, nat_le, true, false, length, sym, ap, Ok}
use Rattle.zim_sets.proofs.FamilyLaws.{subsets_few, subsets_many}
use Rattle.zim_sets.specs.Choices.{choices, ways}
use Rattle.zim_sets.specs.Sets.{most}
use Rattle.zim_sets.proofs.families.subsets.Goals as goal

pub returns-then-not-are_few : goal.returns-then-not-are_few
returns-then-not-are_few c =
    let a = c.args.a.now in
    let many : nat_le (ways (length a) c.args.n) most ≡ false = (λ i. nat_le (ways (sym c.len.ensures.value i) c.args.n) most) ∙ sym c.are_few.ensures ∙ c.if-not-are_few.true in
    subsets_many a c.args.n many

pub returns : goal.returns
returns c =
    let a = c.args.a.now in
    let few : nat_le (ways (length a) c.args.n) most ≡ true = (λ i. nat_le (ways (sym c.len.ensures.value i) c.args.n) most) ∙ sym c.are_few.ensures ∙ c.if-not-are_few.false in
    subsets_few a c.args.n few ∙ sym (ap Ok (c.into_vec.ensures ∙ c.in_ok-extend_subsets.ensures ∙ ap (λ family. family ++ choices c.args.n a) c.new-family.ensures))
