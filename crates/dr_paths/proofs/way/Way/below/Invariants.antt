use Rattle.std.proofs.Common.{◌≡◌, ◌++◌, map, string_bytes, drop}
use Rattle.dr_paths.proofs.way.Way.below.Given as goal

-- the names from this one on are still to join
abbrev pub invariant-names : goal.invariant-names
invariant-names l = map string_bytes l.names.items ++ map string_bytes (drop l.above-index l.self.names.items) ≡ map string_bytes l.self.names.items
