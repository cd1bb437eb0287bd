-- A file that isn't read, and the rows of one that is.
use Rattle.std.proofs.Common.{ℕ, Option, ap, ◌∙◌}
use Rattle.std.specs.Int.{w128}
use Rattle.std.specs.Prelude.{option_map, unsigned_abs}
use Rattle.std.proofs.Math.Facts.{to_z-of_z}
use Rattle.std.proofs.lemmas.Result.{err_from_is_err_and}
use Rattle.zim_read.specs.declared.bytes.ReadBytes.{ReadBytes}
use Rattle.zim_read.specs.Private.{rows_of_kept}
use Rattle.zim_read.specs.Rows.{data_rows}
use Rattle.zim_read.proofs.FileLemmas.{kept_rows}
use Rattle.zim_read.proofs.ReadingLemmas.{reads_nothing, reads_rows}
use Rattle.zim_read.proofs.reading.read_rows.Goals as goal

pub returns-in_err-read : goal.returns-in_err-read
returns-in_err-read g c =
    let p = err_from_is_err_and c.from_residual.result c.from_residual.ensures.1 in
    rw (p.1, p.2)
    (reads_nothing _ (data_rows c.args.file (record { template = c.args.template.now; skip = unsigned_abs c.args.skip; comment = c.args.comment.now }) (option_map unsigned_abs c.args.uses)) (g.F.Folder.state c.args.folder.now) (g.F.Folder.state c.read_file.new.folder) c.args.name.now c.args.file c.in_err-read.field-0.0 c.in_err-read.ensures.reads)

pub returns : goal.returns
returns g c =
    reads_rows _ (λ (read : ReadBytes). rows_of_kept c.args.file (record { template = c.args.template.now; skip = c.unsigned_abs-skipped.result; comment = c.args.comment.now }) c.most_of.result read.is_whole read.bytes)
    (data_rows c.args.file (record { template = c.args.template.now; skip = unsigned_abs c.args.skip; comment = c.args.comment.now }) (option_map unsigned_abs c.args.uses)) (g.F.Folder.state c.args.folder.now) (g.F.Folder.state c.read_file.new.folder) c.args.name.now c.args.file c.in_ok-read.read c.rows_of.result
    (λ bytes.
    kept_rows c.args.file (record { template = c.args.template.now; skip = c.unsigned_abs-skipped.result; comment = c.args.comment.now }) c.most_of.result bytes
    ∙ ap (λ (k : ℕ). data_rows c.args.file (record { template = c.args.template.now; skip = k; comment = c.args.comment.now }) c.most_of.result bytes) (c.unsigned_abs-skipped.ensures.value ∙ ap unsigned_abs (to_z-of_z {w = w128} c.ranges.skip))
    ∙ ap (λ (u : Option ℕ). data_rows c.args.file (record { template = c.args.template.now; skip = unsigned_abs c.args.skip; comment = c.args.comment.now }) u bytes) c.most_of.ensures)
    c.in_ok-read.ensures.reads c.rows_of.ensures.answer c.rows_of.ensures.place
