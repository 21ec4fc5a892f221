use Rattle.std.proofs.Common.{◌≡◌, take}
use Rattle.dr_scan.specs.Streamed.{ends_of}
use Rattle.dr_scan.proofs.leaf_streams.ends_of.Given as goal

-- those so far
abbrev pub invariant-streams : goal.invariant-streams
invariant-streams l = l.ends.items ≡ ends_of (take l.stream-index l.streams)
