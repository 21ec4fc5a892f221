use Rattle.std.proofs.Common.{arith}
use Rattle.dr_columns.specs.Takings.{takings_view, takings_at}
use Rattle.dr_columns.proofs.FiringLemmas.{one_appended, all_appended}
use Rattle.dr_columns.proofs.firing.takings_at.Goals as goal

pub aggregates-preserved : goal.aggregates-preserved
aggregates-preserved c =
    let ks = c.args.keys.now in
    let o = c.args.leaf in
    let A = c.args.aggregates.now in
    let i = c.aggregates.aggregate-index in
    record {
      place = omega (arith, c.aggregates.invariant.place);
      takings = one_appended (takings_view c.aggregates.takings.items) (takings_view c.push_taking.new.takings.items) ks o A i c.in-Ok.number c.aggregate-item.result (takings_at ks o 0 A)
          c.aggregates-test.true c.aggregate-item.is (omega (arith, c.in-Ok.ensures, c.aggregates.invariant.place)) c.in_ok-push_taking.ensures c.aggregates.invariant.takings;
    }

pub returns : goal.returns
returns c =
    let A = c.args.aggregates.now in
    all_appended (takings_view c.aggregates.takings.items) c.args.keys.now c.args.leaf A c.aggregates.aggregate-index (takings_at c.args.keys.now c.args.leaf 0 A) (omega (arith, c.aggregates-test.false)) c.aggregates.invariant.takings
