-- What is known of a stream: its count.
use Rattle.zim_gate.specs.declared.stream_sinks.StreamSink.{StreamSink}
use Rattle.zim_gate.specs.Sink.{SinkState}
use Rattle.zim_gate.specs.Untold.{untold_sink}

-- what is known of a stream
abbrev pub stream_state : {W : Type 0} → StreamSink W → SinkState
stream_state sink = untold_sink sink.faults

-- nothing has failed
abbrev pub new_stream : SinkState
new_stream = untold_sink 0
