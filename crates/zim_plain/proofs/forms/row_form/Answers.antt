-- Each step stops with its fault, and the last is the difference.
use Rattle.zim_plain.specs.Reader.{sum_said}
use Rattle.zim_plain.proofs.FormLaws.{left_unmade, right_unmade, row_made}
use Rattle.zim_plain.proofs.forms.row_form.Goals as goal

pub returns-in-Err-side_form : goal.returns-in-Err-side_form
returns-in-Err-side_form c =
    left_unmade c.args.variables.now.keys (sum_said c.args.left.now) c.args.at (sum_said c.args.right.now) c.in-Ok.side c.in-Ok-read_side.side c.in-Err-side_form.stop
    (record { suits_left = c.requires.suits_left; suits_right = c.requires.suits_right }) c.in-Ok.ensures c.in-Ok-read_side.ensures c.in-Err-side_form.ensures

pub returns-in-Err-side_form-2 : goal.returns-in-Err-side_form-2
returns-in-Err-side_form-2 c =
    right_unmade c.args.variables.now.keys (sum_said c.args.left.now) c.args.at (sum_said c.args.right.now) c.in-Ok.side c.in-Ok-read_side.side c.in-Ok-side_form.form c.in-Err-side_form-2.stop
    (record { suits_left = c.requires.suits_left; suits_right = c.requires.suits_right }) c.in-Ok.ensures c.in-Ok-read_side.ensures c.in-Ok-side_form.ensures c.in-Err-side_form-2.ensures

pub returns : goal.returns
returns c =
    row_made c.args.variables.now.keys (sum_said c.args.left.now) c.args.at (sum_said c.args.right.now) c.in-Ok.side c.in-Ok-read_side.side c.in-Ok-side_form.form c.in-Ok-side_form-2.form c.sub.result c.told_at.result
    (record { suits_left = c.requires.suits_left; suits_right = c.requires.suits_right }) c.in-Ok.ensures c.in-Ok-read_side.ensures c.in-Ok-side_form.ensures c.in-Ok-side_form-2.ensures c.sub.ensures c.told_at.ensures
