-- What the reader answers is what reading a tree says, so the tree is that of the statement, or of none.
use Rattle.std.proofs.Common.{sym, ap, ◌∙◌}
use Rattle.std.specs.Prelude.{Result, Ok, Err}
use Rattle.std.proofs.lemmas.Option.{none-some}
use Rattle.zim_tree.specs.declared.stmt.Stmt.{Stmt}
use Rattle.zim_plain.specs.declared.statement.Statement as code
use Rattle.zim_plain.specs.declared.stop.Stop.{Stop}
use Rattle.zim_plain.specs.declared.stop.Stop.TheVariants.{OutOfMemory, Outside}
use Rattle.zim_plain.specs.Reader.{statement_said, IsRead, GivesRead}
use Rattle.zim_plain.specs.Reading.{read_statement}
use Rattle.zim_plain.proofs.TreeLaws.{reads_statement}
use Rattle.zim_plain.proofs.ReadSound.{statement_sound}

pub is_read : (stmt : Stmt) (result : Result code.Statement Stop) → GivesRead statement_said result (read_statement stmt) → IsRead stmt result
is_read stmt (Ok statement) read = statement_sound stmt (statement_said statement) read
is_read stmt (Err Outside) none = λ form. none-some form.0 (sym none ∙ (sym (ap read_statement form.1) ∙ reads_statement form.0))
is_read stmt (Err OutOfMemory) free = tt
