use Rattle.zim_lex.proofs.IncludeLaws.{include_is_spelled, spelled_is_include}
use Rattle.zim_lex.proofs.laws.include_lines_are_exact.Goals as goal

pub returns : goal.returns
returns c = λ line name. (λ is. spelled_is_include line name is, λ h. include_is_spelled line name h)
