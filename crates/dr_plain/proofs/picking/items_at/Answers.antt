use Rattle.std.proofs.Common.{arith}
use Rattle.dr_plain.proofs.PickSteps.{picking_more, picking_bad}
use Rattle.dr_plain.proofs.picking.items_at.Goals as goal

pub returns-then-index-items-clause-bad : goal.returns-then-index-items-clause-bad
returns-then-index-items-clause-bad g c = λ h. picking_bad c.args.items.now c.args.indices.now c.indices.found.items c.indices.index-index c.indices-test.true c.if-index-items.true c.indices.invariant.picked

pub indices-preserved : goal.indices-preserved
indices-preserved g c = record {
  room = omega arith;
  picked = picking_more c.args.items.now c.args.indices.now c.indices.found.items c.push_reserved.new.self.items c.indices.index-index c.index-items-index.result c.indices-test.true c.if-index-items.false c.index-items-index.is c.push_reserved.ensures.items c.indices.invariant.picked;
}
