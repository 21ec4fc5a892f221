use Rattle.dr_hybrid.proofs.RunFacts.{packed_count}
use Rattle.dr_hybrid.proofs.runs.Run.count.Goals as goal

pub returns-in-Packed : goal.returns-in-Packed
returns-in-Packed c = packed_count c.args.self.now c.in-Packed.packed c.in-Packed.is
