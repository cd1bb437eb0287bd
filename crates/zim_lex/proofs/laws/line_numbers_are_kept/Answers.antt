use Rattle.zim_lex.proofs.TokenNumberLaws.{lines_keep_numbers}
use Rattle.zim_lex.proofs.laws.line_numbers_are_kept.Goals as goal

pub returns : goal.returns
returns c = lines_keep_numbers
