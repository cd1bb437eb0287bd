-- Tokens or a first fault, each once.
use Rattle.zim_lex.proofs.TokensLaws.{one_tokens, stuck_without, one_stuck, tokens_or_stuck}
use Rattle.zim_lex.proofs.laws.lines_have_one_answer.Goals as goal

pub returns-clause-some : goal.returns-clause-some
returns-clause-some c lines = tokens_or_stuck lines

pub returns-clause-tokens : goal.returns-clause-tokens
returns-clause-tokens c lines one other a b = one_tokens lines one other a b

pub returns-clause-either : goal.returns-clause-either
returns-clause-either c lines fault placed stuck are = stuck_without lines fault placed stuck are

pub returns-clause-stuck : goal.returns-clause-stuck
returns-clause-stuck c lines fault other a b = one_stuck lines fault other a b
