use Rattle.dr_page.specs.Parts.{part_in}
use Rattle.dr_page.proofs.level_pairs.LevelPairs.begin.Goals as goal

pub returns-clause-begun : goal.returns-clause-begun
returns-clause-begun c = λ bytes p. record { repetitions = c.begin.ensures.begun (part_in bytes p.repetitions); definitions = c.begin-2.ensures.begun (part_in bytes p.definitions) }
