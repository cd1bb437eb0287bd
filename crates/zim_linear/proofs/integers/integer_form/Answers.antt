use Rattle.std.proofs.Common.{rules}
use Rattle.zim_linear.proofs.IntegerLemmas.{common_is_least}
use Rattle.zim_linear.proofs.WholeFormLaws.{whole_answer}
use Rattle.zim_linear.proofs.integers.integer_form.Goals as goal

pub returns-in-Err-clause-least : goal.returns-in-Err-clause-least
returns-in-Err-clause-least c = common_is_least c.args.a.now

pub returns-in_err-form-clause-least : goal.returns-in_err-form-clause-least
returns-in_err-form-clause-least c = common_is_least c.args.a.now

pub returns-clause-least : goal.returns-clause-least
returns-clause-least c = common_is_least c.args.a.now

pub returns-clause-whole : goal.returns-clause-whole
returns-clause-whole c = whole_answer _ _ (search rules)
