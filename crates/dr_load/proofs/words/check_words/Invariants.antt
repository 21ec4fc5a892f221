use Rattle.std.proofs.Common.{◌≡◌, map, drop, string_bytes}
use Rattle.dr_formats.specs.Loading.{first_refused}
use Rattle.dr_load.proofs.words.check_words.Given as goal

-- the first directory that is refused is still to be found among those from this place on
abbrev pub invariant-directories : goal.invariant-directories
invariant-directories l = first_refused l.number (map string_bytes (drop l.number l.directories)) ≡ first_refused 0 (map string_bytes l.directories)
