use Rattle.std.proofs.Common.{◌∙◌, ◌+◌, List, Option, map, drop, ap, subst}
use Rattle.std.specs.List.{flat_map}
use Rattle.dr_meaning.specs.Record.{Value}
use Rattle.dr_levels.specs.Views.{triplets_view}
use Rattle.dr_columns.specs.Numbers.{tuples_at, LeavesToPut}
use Rattle.dr_rows_beside.specs.RecordRows.{rows_of}
use Rattle.dr_rows_beside.specs.Rows.{Row}
use Rattle.dr_columns.specs.Takings.{taking_view, takings_view, taking_puts}
use Rattle.dr_columns.proofs.NumberLemmas.{list_put}
use Rattle.dr_columns.proofs.TakingLemmas.{next_taking}
use Rattle.dr_columns.proofs.sourcing.take_each.Goals as goal

pub takings-preserved : goal.takings-preserved
takings-preserved c =
    let old = c.args.groups.now in
    let now = c.takings.groups in
    let next = c.take_one.new.groups in
    let ts = c.args.takings.now in
    let i = c.takings.taking-index in
    let t = c.taking-item.result in
    let rs : List Row = rows_of c.args.source.now.leaf c.args.source.now.beside.items (map triplets_view c.args.columns.now) in
    record {
      put = λ ks e. list_put old now next (flat_map (taking_puts ks rs) (takings_view ts)) (taking_puts ks rs (taking_view t)) (flat_map (taking_puts ks rs) (takings_view (drop (i + 1) ts)))
          c.takings.invariant.gatherings
          (subst (LeavesToPut old (flat_map (taking_puts ks rs) (takings_view ts)) now) (next_taking (taking_puts ks rs) ts i t c.takings-test.true c.taking-item.is) (c.takings.invariant.put ks e))
          (c.in_ok-take_one.ensures.put ks (ap (λ (T : List (List (Option Value))). tuples_at T c.args.numbers.now) c.takings.invariant.tuples ∙ e));
      gatherings = c.take_one.ensures.gatherings ∙ c.takings.invariant.gatherings;
      tuples = c.take_one.ensures.tuples ∙ c.takings.invariant.tuples;
    }
