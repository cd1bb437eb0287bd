-- A list, a `read` or a table, and the default.
use Rattle.std.proofs.Common.{ap}
use Rattle.zim_static.specs.Calls.{param_calls}
use Rattle.zim_static.proofs.CallsLemmas.{greater_of}
use Rattle.zim_static.proofs.deep.param_calls.Goals as goal

pub returns-in-Read : goal.returns-in-Read
returns-in-Read c = greater_of c.max.ensures c.reading_calls.ensures c.given_calls.ensures (ap (param_calls c.args.scope.now) c.in-Read.is)

pub returns-in-Entries : goal.returns-in-Entries
returns-in-Entries c = greater_of c.max-in-Entries.ensures (simp c.as_slice.ensures at c.entries_calls.ensures) c.given_calls-in-Entries.ensures (ap (param_calls c.args.scope.now) c.in-Entries.is)

pub returns-in-Table : goal.returns-in-Table
returns-in-Table c = greater_of c.max-in-Table.ensures c.table_calls.ensures c.given_calls-in-Table.ensures (ap (param_calls c.args.scope.now) c.in-Table.is)
