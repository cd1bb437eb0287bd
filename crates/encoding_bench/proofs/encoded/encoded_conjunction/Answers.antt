-- A binary column is one.
use Rattle.std.proofs.Common.{[], sym, subst}
use Rattle.std.proofs.lemmas.List.Elements.{All-cons, All-nil}
use Rattle.zim_rows.specs.System.{IsColumn}
use Rattle.zim_vabs.proofs.AbsoluteFormLaws.{binary_is}
use Rattle.encoding_bench.proofs.encoded.encoded_conjunction.Goals as goal

pub add_step-requires-clause-columns : goal.add_step-requires-clause-columns
add_step-requires-clause-columns c = All-cons IsColumn c.binary_column.result [] (subst IsColumn (sym c.binary_column.ensures) binary_is) (All-nil IsColumn)
