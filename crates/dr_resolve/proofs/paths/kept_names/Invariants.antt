use Rattle.std.proofs.Common.{◌≡◌, map, take, string_bytes}
use Rattle.dr_resolve.proofs.paths.kept_names.Given as goal
use Rattle.dr_sql.specs.Views.{lent}

-- the names so far are kept
abbrev pub invariant-names : goal.invariant-names
invariant-names l = map string_bytes l.kept.items ≡ map lent (take l.name-index l.names)
