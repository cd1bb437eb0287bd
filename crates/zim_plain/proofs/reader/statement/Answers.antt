use Rattle.zim_plain.specs.Reading.{read_statement}
use Rattle.zim_plain.proofs.ReaderLaws.{is_read}
use Rattle.zim_plain.proofs.reader.statement.Goals as goal

pub returns : goal.returns
unfolding read_statement
returns c = is_read c.args.tree.now c.shape.result (simp c.get.ensures at c.shape.ensures)
