-- What a sink in memory took, and the numbers of its calls.
use Rattle.std.specs.Prelude.{◌≡◌, ℕ, ◌-◌, ◌<◌, List, [], length, take, Some, Contains}
use Rattle.zim_gate.specs.declared.memory_sinks.MemorySink.{MemorySink}
use Rattle.zim_gate.specs.Counts.{count_on}
use Rattle.zim_gate.specs.Sink.{SinkState, SinkAppends}

-- what is known of a sink in memory: all
abbrev pub sink_state : MemorySink → SinkState
sink_state sink = record { taken = Some sink.text.bytes; faults = sink.faults }

-- how many calls there were
abbrev pub sink_calls : MemorySink → ℕ
sink_calls sink = sink.calls.done

-- the numbers of the calls that fail
abbrev pub failing_puts : MemorySink → List ℕ
failing_puts sink = sink.calls.fails.items

-- the most bytes that the sink takes
abbrev pub sink_room : MemorySink → ℕ
sink_room sink = sink.text.room

-- a new sink
abbrev pub new_sink : SinkState
new_sink = record { taken = Some []; faults = 0 }

-- how many bytes more the sink takes
abbrev pub sink_left : MemorySink → ℕ
sink_left sink = sink.text.room - length sink.text.bytes

-- the next call fails by its number
abbrev pub PutFails : MemorySink → Type 0
PutFails sink = Contains (failing_puts sink) (count_on 1 (sink_calls sink))

-- the piece passes the room
abbrev pub PutPassesRoom : MemorySink → List ℕ → Type 0
PutPassesRoom sink piece = sink_left sink < length piece

-- a call was counted, and which calls fail and how much room there is stays
pub record CountsPut (old new : MemorySink) : Type 0 where
  pub calls : sink_calls new ≡ count_on 1 (sink_calls old)
  pub fails : failing_puts new ≡ failing_puts old
  pub room : sink_room new ≡ sink_room old

-- a put that doesn't fail by its number takes what fits of the piece
pub record TakesWhatFits (old new : MemorySink) (piece : List ℕ) : Type 0 where
  pub fits : ¬ (PutFails old) → SinkAppends (sink_state old) (sink_state new) (take (sink_left old) piece)
