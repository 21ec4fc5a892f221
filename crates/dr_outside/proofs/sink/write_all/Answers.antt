use Rattle.std.proofs.Common.{◌∙◌, ◌++◌, take, arith, length}
use Rattle.std.proofs.lemmas.Grind.{common_steps}
use Rattle.dr_outside.proofs.SinkLemmas.{Added-trans, calls_after, longer_than_none}
use Rattle.dr_outside.proofs.sink.write_all.Goals as goal

pub pieces-preserved : goal.pieces-preserved
pieces-preserved g c =
    let wrote = c.in_ok-taken.ensures in
    let before = c.pieces.invariant in
    let some = longer_than_none (length c.pieces.rest.now) c.is_empty.result c.is_empty.ensures c.pieces-test.true in (
      before.0 ++ take c.in_ok-taken.taken c.pieces.rest.now,
      grind (arith, common_steps, before.1),
      Added-trans _ _ _ _ _ before.2 wrote.added,
      wrote.calm ∙ before.3,
      calls_after _ _ _ c.in_ok-taken.taken before.0 c.pieces.rest.now wrote.called before.4 (wrote.some some) wrote.fits,
    )
