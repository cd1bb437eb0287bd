use Rattle.zim_plain.specs.Reader.{sum_said}
use Rattle.zim_plain.proofs.FormLaws.{is_side, list_made, list_unread}
use Rattle.zim_plain.proofs.forms.list_form.Goals as goal

pub side_form-requires : goal.side_form-requires
side_form-requires c = is_side c.args.variables.now.keys (sum_said c.args.sum.now) c.in-Ok.side c.in-Ok.ensures.1

pub returns-in-Err : goal.returns-in-Err
returns-in-Err c = list_unread c.args.variables.now.keys (sum_said c.args.sum.now) c.in-Err.stop c.in-Err.ensures

pub returns : goal.returns
returns c = list_made c.args.variables.now.keys (sum_said c.args.sum.now) c.in-Ok.side c.side_form.result c.requires.suits c.in-Ok.ensures c.side_form.ensures
