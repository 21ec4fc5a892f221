use Rattle.std.proofs.Common.{◌≡◌, map, take, string_bytes}
use Rattle.dr_print.specs.Quoted.{name_in_quotes}
use Rattle.dr_print.proofs.quoting.quote_names.Given as goal

-- the names before this one, in quotes
abbrev pub invariant-names : goal.invariant-names
invariant-names l = map string_bytes l.texts.items ≡ map name_in_quotes (map string_bytes (take l.name-index l.names))
