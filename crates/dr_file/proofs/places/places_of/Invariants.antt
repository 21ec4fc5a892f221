use Rattle.std.proofs.Common.{◌≡◌, ◌++◌, drop}
use Rattle.dr_file.specs.Sources.{places_read}
use Rattle.dr_file.proofs.places.places_of.Given as goal

-- the places so far, and those of the sources from this one on
abbrev pub invariant-sources : goal.invariant-sources
invariant-sources l = l.places.items ++ places_read (drop l.source-index l.sources) ≡ places_read l.sources
