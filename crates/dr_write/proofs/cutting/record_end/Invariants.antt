use Rattle.std.proofs.Common.{◌≡◌, map}
use Rattle.dr_levels.specs.declared.triplet.Levels.{Levels}
use Rattle.dr_write.specs.Cutting.{record_end}
use Rattle.dr_write.proofs.cutting.record_end.Given as goal

-- no record begins between the least place and this one
abbrev pub invariant-levels : goal.invariant-levels
invariant-levels l = record_end (map (λ (x : Levels). x.repetition) l.levels) l.least ≡ record_end (map (λ (x : Levels). x.repetition) l.levels) l.place
