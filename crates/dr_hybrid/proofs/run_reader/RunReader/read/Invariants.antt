use Rattle.std.proofs.Common.{length, ◌-◌, ◌+◌, ◌≡◌}
use Rattle.dr_hybrid.specs.Unread.{IsOpen}
use Rattle.dr_hybrid.specs.Reader.{width_at, bytes_left}
use Rattle.dr_hybrid.proofs.ReaderLemmas.{Handed}
use Rattle.dr_hybrid.proofs.run_reader.RunReader.read.Given as goal

abbrev pub invariant-pieces : goal.invariant-pieces
invariant-pieces g l = record {
  runs : IsOpen l.self.unread;
  width : width_at l.self ≡ width_at l.initial.self;
  handed : Handed l.initial.self l.self l.bytes (g.T.Packable.numbers l.out) l.done;
}

abbrev pub decreases-pieces : goal.decreases-pieces
decreases-pieces g l = length (bytes_left l.self l.bytes) + (length l.initial.out - l.done)
