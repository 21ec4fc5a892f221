use Rattle.std.proofs.Common.{◌∙◌, ◌+◌, map, drop, subst}
use Rattle.std.specs.List.{flat_map}
use Rattle.dr_levels.specs.Views.{triplets_view}
use Rattle.dr_columns.specs.Numbers.{LeavesToPut}
use Rattle.dr_columns.specs.Takings.{fired_view, fired_puts}
use Rattle.dr_columns.proofs.NumberLemmas.{list_put}
use Rattle.dr_columns.proofs.TakingLemmas.{fires_there, next_fired}
use Rattle.dr_columns.proofs.sourcing.take_sources.Goals as goal

pub take_fired-requires : goal.take_fired-requires
take_fired-requires c = fires_there (map triplets_view c.args.columns.now) c.args.fired.now c.fired.leaf-index c.leaf-item.result c.fired-test.true c.leaf-item.is c.requires

pub fired-preserved : goal.fired-preserved
fired-preserved c =
    let old = c.args.groups.now in
    let now = c.fired.groups in
    let next = c.take_fired.new.groups in
    let fs = c.args.fired.now in
    let i = c.fired.leaf-index in
    let ks = c.args.keys.now in
    let C = map triplets_view c.args.columns.now in
    record {
      put = list_put old now next (flat_map (fired_puts ks C) (map fired_view fs)) (fired_puts ks C (fired_view c.leaf-item.result)) (flat_map (fired_puts ks C) (map fired_view (drop (i + 1) fs)))
          c.fired.invariant.gatherings
          (subst (LeavesToPut old (flat_map (fired_puts ks C) (map fired_view fs)) now) (next_fired (fired_puts ks C) fs i c.leaf-item.result c.fired-test.true c.leaf-item.is) c.fired.invariant.put)
          c.in_ok-take_fired.ensures.put;
      gatherings = c.take_fired.ensures.gatherings ∙ c.fired.invariant.gatherings;
    }
