use Rattle.std.proofs.Common.{◌≡◌, ◌++◌, map, string_bytes, drop}
use Rattle.dr_paths.proofs.copying.copy_path.Given as goal

-- the names from this one on are still to copy
abbrev pub invariant-names : goal.invariant-names
invariant-names l = map string_bytes l.names.items ++ map string_bytes (drop l.name-index l.path.names.items) ≡ map string_bytes l.path.names.items
