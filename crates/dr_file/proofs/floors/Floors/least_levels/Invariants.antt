use Rattle.dr_file.proofs.FloorLemmas.{Table}
use Rattle.dr_file.proofs.floors.Floors.least_levels.Given as goal

abbrev pub invariant-levels : goal.invariant-levels
invariant-levels l = Table l.self.levels.items l.self.greatest l.least l.index
