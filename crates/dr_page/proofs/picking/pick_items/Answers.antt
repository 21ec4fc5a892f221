use Rattle.std.proofs.Common.{arith}
use Rattle.dr_plain.proofs.PickSteps.{picking_more, picking_bad}
use Rattle.dr_page.proofs.picking.pick_items.Goals as goal

pub returns-then-index-items : goal.returns-then-index-items
returns-then-index-items g c = picking_bad c.args.items.now c.args.indices.now c.indices.out.items c.indices.index-index c.indices-test.true c.if-index-items.true c.indices.invariant.picked

pub indices-preserved : goal.indices-preserved
indices-preserved g c = record {
  room = omega arith;
  picked = picking_more c.args.items.now c.args.indices.now c.indices.out.items c.push_reserved.new.self.items c.indices.index-index c.index-items-index.result c.indices-test.true c.if-index-items.false c.index-items-index.is c.push_reserved.ensures.items c.indices.invariant.picked;
}
