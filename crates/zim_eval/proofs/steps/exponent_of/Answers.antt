-- An exponent with a sign is signed.
use Rattle.zim_eval.proofs.steps.exponent_of.Goals as goal

pub returns-in-Some : goal.returns-in-Some
returns-in-Some c = λ a h. rw c.in-Some.is (c.signed_of.ensures a h)
