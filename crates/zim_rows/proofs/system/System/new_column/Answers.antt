-- The column stands at the end, or the system is as before.
use Rattle.std.proofs.Common.{refl}
use Rattle.zim_rows.proofs.ColumnLemmas.{is_full, has_room, column_refused, column_kept, column_added, number_is}
use Rattle.zim_rows.proofs.system.System.new_column.Goals as goal

pub returns-then-len-ge-MOST : goal.returns-then-len-ge-MOST
returns-then-len-ge-MOST c =
    (is_full _ _ _ _ _ _ c.self.invariant c.self.view_is c.len.ensures c.if-len-ge-MOST.true, refl)

pub returns-in-Err : goal.returns-in-Err
returns-in-Err c = (
  has_room _ _ _ _ _ _ c.self.invariant c.self.view_is c.len.ensures c.if-len-ge-MOST.false,
  column_refused _ _ _ _ _ _ _ c.self.view_is c.in-Err.ensures.err_marks c.in-Err.ensures.err_sides,
)

pub invariant_of-self-2 : goal.invariant_of-self-2
invariant_of-self-2 c =
    column_kept _ _ _ _ _ _ _ _ _ c.self.invariant c.len.ensures c.if-len-ge-MOST.false c.requires.uncrossed c.requires.whole c.in-Ok.ensures.ok_marks c.in-Ok.ensures.ok_sides

pub returns : goal.returns
returns c = (
  has_room _ _ _ _ _ _ c.self.invariant c.self.view_is c.len.ensures c.if-len-ge-MOST.false,
  number_is _ _ _ _ _ _ _ _ c.self.invariant c.self.view_is c.in-Ok.ensures.ok_sides c.in-Ok.ensures.number,
  column_added _ _ _ _ _ _ _ _ _ c.self.invariant c.self.view_is c.in-Ok.ensures.ok_marks c.in-Ok.ensures.ok_sides,
)
