-- The next byte ends a field or belongs to one, and the last field ends with the line.
use Rattle.std.proofs.Common.{◌∙◌, arith}
use Rattle.zim_read.specs.Lines.{line_fields}
use Rattle.zim_read.specs.Private.{lent}
use Rattle.zim_read.proofs.LineLemmas.{fields_begin, fields_part, fields_go_on, fields_end}
use Rattle.zim_read.proofs.lines.fields_of.Goals.{then-is_parting+in_ok-add_field, else-is_parting}
use Rattle.zim_read.proofs.lines.fields_of.Goals as goal

pub loop-at-init : goal.loop-at-init
loop-at-init c = record { from = omega arith; fields = rw c.new-fields.ensures.items (fields_begin c.args.line.now) }

pub loop-at-preserved : goal.loop-at-preserved
loop-at-preserved c = elim c.if-is_parting.branch [
  | then-is_parting+in_ok-add_field w ↦ record {
    from = omega (arith, w.from-is);
    fields =
        rw (w.fields-is, w.from-is, w.inside-is)
        (fields_part c.args.line.now (lent c.loop-at.fields.items) (lent w.add_field.new.fields.items) (line_fields c.args.line.now) c.loop-at.inside c.is_parting.result c.loop-at.from c.loop-at.at c.loop-at-test.true c.is_parting.ensures w.if-is_parting.true w.in_ok-add_field.ensures c.loop-at.invariant.fields);
  }
  | else-is_parting w ↦ record {
    from = omega (arith, w.from-is, c.loop-at.invariant.from);
    fields =
        rw (w.fields-is, w.from-is)
        (fields_go_on c.args.line.now (lent c.loop-at.fields.items) (line_fields c.args.line.now) c.loop-at.inside c.is_parting.result c.if-is_parting.inside c.loop-at.from c.loop-at.at c.loop-at.invariant.from c.loop-at-test.true c.is_parting.ensures w.if-is_parting.false (w.inside-is ∙ w.is_open_behind-inside.ensures) c.loop-at.invariant.fields);
  }
]

pub returns : goal.returns
returns c =
    fields_end c.args.line.now (lent c.loop-at.fields.items) (lent c.add_field-2.new.fields.items) (line_fields c.args.line.now) c.loop-at.inside c.loop-at.from c.loop-at.at c.loop-at.invariant.from (omega (arith, c.loop-at-test.false, c.loop-at.auto.at-end)) c.in_ok-add_field-2.ensures c.loop-at.invariant.fields
