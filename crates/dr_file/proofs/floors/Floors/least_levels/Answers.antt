use Rattle.std.proofs.Common.{length, arith}
use Rattle.dr_file.proofs.FloorLemmas.{table_begun, table_more, table_of}
use Rattle.dr_file.proofs.floors.Floors.least_levels.Goals as goal

pub levels-init : goal.levels-init
levels-init c = table_begun c.args.self.now.levels.items c.args.self.now.greatest

pub levels-preserved : goal.levels-preserved
levels-preserved c =
    table_more c.args.self.now.levels.items c.args.self.now.greatest c.levels.least c.levels.index c.index.result.now c.levels.invariant (omega (arith, c.args.self.now.levels.ok.0)) (omega (arith, c.args.self.now.few, c.args.self.now.levels.ok.0)) c.index.ensures

pub returns : goal.returns
returns c = λ p h. table_of p c.args.self.now.levels.items c.args.self.now.greatest c.levels.least c.levels.index h.0 h.1 c.levels.invariant (omega (arith, c.args.self.now.levels.ok.0))
