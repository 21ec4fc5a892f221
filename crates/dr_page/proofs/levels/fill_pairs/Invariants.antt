use Rattle.std.proofs.Common.{take}
use Rattle.dr_page.specs.Parts.{PairsOf}
use Rattle.dr_page.proofs.levels.fill_pairs.Given as goal

abbrev pub invariant-pairs : goal.invariant-pairs
invariant-pairs l = PairsOf (take l.index l.repetitions) (take l.index l.definitions) (take l.index l.out)
