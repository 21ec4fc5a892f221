use Rattle.std.proofs.Common.{◌≡◌, map, take}
use Rattle.std.specs.Prelude.{string_bytes}
use Rattle.dr_open.proofs.stand_in.copied_names.Given as goal

-- the names so far
abbrev pub invariant-names : goal.invariant-names
invariant-names l = map string_bytes l.copies.items ≡ map string_bytes (take l.name-index l.names)
