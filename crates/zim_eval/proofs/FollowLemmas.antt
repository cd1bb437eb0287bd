-- What follows an answer, by the value that the answer was.
use Rattle.std.proofs.Common.{◌≡◌, Result, Ok, sym, subst}
use Rattle.zim_answer.specs.Answer.{Answer, ◌>>=◌}
use Rattle.zim_answer.specs.Gives.{Gives}
use Rattle.zim_eval.specs.Causes.{eval_cause}
use Rattle.zim_eval.specs.declared.faults.EvalStop.{EvalStop}
use Rattle.zim_fault.specs.declared.faults.Fault.{Fault}

-- what is given behind a value, as it was seen, is given behind the answer that was that value
pub behind : {A B V : Type 0} (view : V → B) (a : Answer A Fault) (next : A → Answer B Fault) (x shown : A) (given : Result A EvalStop) (result : Result V EvalStop)
    → Gives (λ v. v) eval_cause a given → given ≡ Ok x → shown ≡ x → Gives view eval_cause (next shown) result → Gives view eval_cause (a >>= next) result
behind {A} {B} {V} view a next x shown given result h is same made =
    let e : a ≡ Ok x = subst (λ (g : Result A EvalStop). Gives (λ v. v) eval_cause a g) is h in
    subst (λ (b : Answer A Fault). Gives view eval_cause (b >>= next) result) (sym e) (subst (λ (y : A). Gives view eval_cause (next y) result) same made)
