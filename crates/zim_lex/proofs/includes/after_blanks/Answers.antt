-- The blanks are some of the bytes.
use Rattle.std.proofs.Common.{arith}
use Rattle.std.proofs.lemmas.List.Sums.{prefix_len-le-length}
use Rattle.zim_lex.specs.Classes.{is_blank}
use Rattle.zim_lex.proofs.includes.after_blanks.Goals as goal

pub after-requires : goal.after-requires
after-requires c = omega (arith, c.count_blanks.ensures, prefix_len-le-length is_blank c.args.bytes.now)
