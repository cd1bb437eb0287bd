-- A field more, the last one, and a part that is none.
use Rattle.std.proofs.lemmas.Result.{err_from_is_err_and}
use Rattle.zim_read.proofs.SearchLemmas.{found_within}
use Rattle.zim_read.specs.Templates.{fields_spelled}
use Rattle.zim_read.proofs.TemplateLemmas.{behind_nothing, fields_next, fields_done, fields_stop, fields_stop_last}
use Rattle.zim_read.proofs.templates.fields_of.Goals as goal

pub loop-comma-init : goal.loop-comma-init
loop-comma-init c = rw c.new-fields.ensures (behind_nothing (fields_spelled c.args.text.now))

pub behind-rest-requires : goal.behind-rest-requires
behind-rest-requires c = found_within 44 c.loop-comma.rest.now c.memchr.result c.in-Some.comma c.memchr.ensures c.in-Some.is

pub loop-comma-preserved : goal.loop-comma-preserved
loop-comma-preserved c =
    rw c.behind-rest.ensures
    (fields_next c.args.text.now c.loop-comma.rest.now c.loop-comma.fields c.add_field.new.fields c.memchr.result c.in-Some.comma c.memchr.ensures c.in-Some.is c.in_ok-add_field.ensures c.loop-comma.invariant)

pub returns-in_err-add_field : goal.returns-in_err-add_field
returns-in_err-add_field c =
    let p = err_from_is_err_and c.from_residual.result c.from_residual.ensures.1 in
    rw (p.1, p.2) (fields_stop c.args.text.now c.loop-comma.rest.now c.loop-comma.fields c.memchr.result c.in-Some.comma c.in_err-add_field.field-0.0 c.memchr.ensures c.in-Some.is c.in_err-add_field.ensures c.loop-comma.invariant)

pub returns-in_err-add_field-2 : goal.returns-in_err-add_field-2
returns-in_err-add_field-2 c =
    let p = err_from_is_err_and c.from_residual-in_err-add_field-2.result c.from_residual-in_err-add_field-2.ensures.1 in
    rw (p.1, p.2) (fields_stop_last c.args.text.now c.loop-comma.rest.now c.loop-comma.fields c.memchr.result c.in_err-add_field-2.field-0.0 c.memchr.ensures c.in_default.is c.in_err-add_field-2.ensures c.loop-comma.invariant)

pub returns : goal.returns
returns c =
    fields_done c.args.text.now c.loop-comma.rest.now c.loop-comma.fields c.add_field-2.new.fields c.memchr.result c.memchr.ensures c.in_default.is c.in_ok-add_field-2.ensures c.loop-comma.invariant
