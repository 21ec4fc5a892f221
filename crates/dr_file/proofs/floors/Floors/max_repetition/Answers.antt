use Rattle.std.proofs.Common.{length, ap, arith}
use Rattle.dr_file.proofs.FloorLemmas.{floor_count}
use Rattle.dr_file.proofs.floors.Floors.max_repetition.Goals as goal

pub returns-clause-level : goal.returns-clause-level
returns-clause-level c = λ p h. omega (arith, c.len.ensures, c.args.self.now.levels.ok.0, ap length h.0, floor_count p 0)
