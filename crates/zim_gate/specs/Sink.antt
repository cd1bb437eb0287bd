-- What is known of a sink, and what its call does to that.
use Rattle.std.specs.Prelude.{◌≡◌, ℕ, ◌≤◌, List, Option, Result, OnOk, OnErr, ⊤}
use Rattle.std.specs.Io.KnownBytes.{append_known}
use Rattle.zim_gate.specs.declared.stops.Failed.{Failed}
use Rattle.zim_gate.specs.Counts.{Rose, IsFrontOf}

-- what is known of a sink
pub record SinkState : Type 0 where
  -- the text that it took, or None where that isn't told
  pub taken : Option (List ℕ)
  -- how many calls failed
  pub faults : ℕ

-- the sink took the bytes, and nothing else happened but maybe a fault
pub record SinkAppends (before now : SinkState) (bytes : List ℕ) : Type 0 where
  pub taken : now.taken ≡ append_known before.taken bytes
  pub faults : before.faults ≤ now.faults

-- a part of the piece was taken, from its front, and the count rose
pub record SinkStopsIn (before now : SinkState) (piece : List ℕ) : Type 0 where
  pub bytes : List ℕ
  pub front : IsFrontOf bytes piece
  pub appends : SinkAppends before now bytes
  pub rose : Rose before.faults now.faults

-- `put`
pub record SinkPuts (before now : SinkState) (piece : List ℕ) (result : Result ⊤ Failed) : Type 0 where
  pub ok : OnOk result (SinkAppends before now piece)
  pub err : OnErr result (SinkStopsIn before now piece)
