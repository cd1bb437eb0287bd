-- The columns of the first marks and sides, and that their sides are within the limit.
use Rattle.std.proofs.Common.{◌≡◌, take}
use Rattle.std.specs.Prelude.{All}
use Rattle.zim_rows.specs.Program.{HasSidesWithin}
use Rattle.zim_rows.specs.System.{columns_of}
use Rattle.zim_rows.proofs.system.all_columns.Given as goal

abbrev pub invariant-loop-i : goal.invariant-loop-i
invariant-loop-i l = (l.columns.items ≡ columns_of (take l.i l.marks) (take l.i l.sides)) × All HasSidesWithin l.columns.items
