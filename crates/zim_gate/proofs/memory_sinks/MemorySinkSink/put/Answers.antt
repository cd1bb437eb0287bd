-- A put that passes the room takes the front of the piece that fits.
use Rattle.std.proofs.Common.{Some, take, drop, ap}
use Rattle.std.proofs.lemmas.List.{take-append-drop}
use Rattle.zim_gate.specs.Limited.{LimitedBytes}
use Rattle.zim_gate.proofs.memory_sinks.MemorySinkSink.put.Goals as goal

pub returns-then-count-piece-clause-puts : goal.returns-then-count-piece-clause-puts
returns-then-count-piece-clause-puts c = record {
  ok = tt;
  err = record {
    bytes = take c.append-count.result c.args.piece.now;
    front = record {
      rest = drop c.append-count.result c.args.piece.now;
      whole = take-append-drop c.append-count.result c.args.piece.now;
    };
    appends = record {
      taken = ap (λ (text : LimitedBytes). Some text.bytes) c.append-count.ensures.bytes;
      faults = c.one_more-self-then-count-piece.ensures.grows;
    };
    rose = c.one_more-self-then-count-piece.ensures.rose;
  };
}
