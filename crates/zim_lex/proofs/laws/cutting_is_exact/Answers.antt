use Rattle.zim_lex.proofs.CutLaws.{cut_is, is_cut, one_cut, cut_fails, is_stuck}
use Rattle.zim_lex.proofs.laws.cutting_is_exact.Goals as goal

pub returns-clause-one : goal.returns-clause-one
returns-clause-one c = one_cut

pub returns-clause-cut : goal.returns-clause-cut
returns-clause-cut c = λ line pieces. (λ whole. is_cut pieces line whole, λ h. cut_is line pieces h)

pub returns-clause-stuck : goal.returns-clause-stuck
returns-clause-stuck c = λ line kind. (λ stuck. is_stuck line kind stuck, λ h. cut_fails line kind h)
