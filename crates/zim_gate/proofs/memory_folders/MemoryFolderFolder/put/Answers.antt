-- A put appends what fits of the piece to the file that is begun.
use Rattle.std.proofs.Common.{◌≡◌, ap, refl, arith, inl, inr}
use Rattle.std.proofs.lemmas.Bool.{false≢true}
use Rattle.zim_gate.specs.Stored.{promised_room, room_left}
use Rattle.zim_gate.specs.MemoryFolder.{begun_room}
use Rattle.zim_gate.proofs.MemoryPuts.{room_is, memory_refuses, memory_fits, memory_stops, memory_takes}
use Rattle.zim_gate.proofs.memory_folders.MemoryFolderFolder.put.Goals as goal

pub returns-then-next_fails-clause-puts : goal.returns-then-next_fails-clause-puts
returns-then-next_fails-clause-puts c =
    let self = c.args.self.now in
    memory_refuses self.begun self.files.items self.reading self.wrote self.read_faults self.write_faults _ c.args.piece.now c.one_more-self.result _ _
    c.one_more-self.ensures.grows c.one_more-self.ensures.rose (ap (λ fails. promised_room fails self.room) c.next_fails.ensures.same)

pub returns-then-count-piece-clause-puts : goal.returns-then-count-piece-clause-puts
returns-then-count-piece-clause-puts c =
    let self = c.args.self.now in
    memory_stops self.begun self.files.items self.reading self.wrote self.read_faults self.write_faults _ c.append_to_first-count.new.files.items
    c.args.piece.now (room_left self.files.items) c.append_to_first-count.result c.counted_on-self.result c.one_more-self-then-count-piece.result _
    c.requires c.append_to_first-count.ensures.items c.append_to_first-count.ensures.count c.counted_on-self.ensures
    c.one_more-self-then-count-piece.ensures.grows (ap (λ fails. promised_room fails self.room) c.next_fails.ensures.same) _
    c.one_more-self-then-count-piece.ensures.rose

pub returns-then-count-piece-clause-fits : goal.returns-then-count-piece-clause-fits
returns-then-count-piece-clause-fits c =
    let self = c.args.self.now in
    record {
      fits = λ _. memory_fits self.begun self.files.items self.reading self.wrote self.read_faults self.write_faults _ c.append_to_first-count.new.files.items
          c.args.piece.now (room_left self.files.items) c.append_to_first-count.result c.counted_on-self.result c.one_more-self-then-count-piece.result _
          c.requires c.append_to_first-count.ensures.items c.append_to_first-count.ensures.count c.counted_on-self.ensures
          c.one_more-self-then-count-piece.ensures.grows (ap (λ fails. promised_room fails self.room) c.next_fails.ensures.same)
          (begun_room self) (room_is self.begun self.files.items self.room self.wrote self.ready c.requires);
    }

pub returns-clause-puts : goal.returns-clause-puts
returns-clause-puts c =
    let self = c.args.self.now in
    memory_takes self.begun self.files.items self.reading self.wrote self.read_faults self.write_faults _ c.append_to_first-count.new.files.items
    c.args.piece.now (room_left self.files.items) c.append_to_first-count.result c.counted_on-self.result self.write_faults _
    c.requires c.append_to_first-count.ensures.items c.append_to_first-count.ensures.count c.counted_on-self.ensures
    (omega arith) (ap (λ fails. promised_room fails self.room) c.next_fails.ensures.same) c.if-count-piece.false

pub returns-clause-fits : goal.returns-clause-fits
returns-clause-fits c =
    let self = c.args.self.now in
    record {
      fits = λ _. memory_fits self.begun self.files.items self.reading self.wrote self.read_faults self.write_faults _ c.append_to_first-count.new.files.items
          c.args.piece.now (room_left self.files.items) c.append_to_first-count.result c.counted_on-self.result self.write_faults _
          c.requires c.append_to_first-count.ensures.items c.append_to_first-count.ensures.count c.counted_on-self.ensures
          (omega arith) (ap (λ fails. promised_room fails self.room) c.next_fails.ensures.same)
          (begun_room self) (room_is self.begun self.files.items self.room self.wrote self.ready c.requires);
    }

pub returns-then-count-piece-clause-failed : goal.returns-then-count-piece-clause-failed
returns-then-count-piece-clause-failed c =
    let self = c.args.self.now in
    let left : begun_room self ≡ room_left self.files.items = room_is self.begun self.files.items self.room self.wrote self.ready c.requires in
    (λ _. inr (omega (arith, left, c.append_to_first-count.ensures.count, c.if-count-piece.true)), λ _. refl)

pub returns-clause-failed : goal.returns-clause-failed
returns-clause-failed c =
    let self = c.args.self.now in
    let left : begun_room self ≡ room_left self.files.items = room_is self.begun self.files.items self.room self.wrote self.ready c.requires in (
      λ no. absurd (false≢true no),
      λ either. elim either [
        | inl fails ↦ c.if-next_fails.ensures.fails.1 fails
        | inr passes ↦ absurd (omega (arith, left, c.append_to_first-count.ensures.count, c.if-count-piece.false, passes))
      ],
    )
