use Rattle.std.proofs.Common.{◌∙◌, ◌+◌, map, drop, subst}
use Rattle.std.specs.List.{flat_map}
use Rattle.dr_levels.specs.Views.{triplets_view}
use Rattle.dr_columns.specs.Numbers.{LeavesToPut}
use Rattle.dr_columns.specs.Takings.{fired_view}
use Rattle.dr_columns.specs.KeptTakings.{kept_puts}
use Rattle.dr_columns.proofs.NumberLemmas.{list_put}
use Rattle.dr_columns.proofs.TakingLemmas.{next_fired}
use Rattle.dr_columns.proofs.KeptSourceLemmas.{sifts_there}
use Rattle.dr_columns.proofs.kept_sourcing.take_kept_sources.Goals as goal

pub take_kept_fired-requires-clause-fires : goal.take_kept_fired-requires-clause-fires
take_kept_fired-requires-clause-fires c = sifts_there (map triplets_view c.args.columns.now) c.args.keeping.now c.args.fired.now c.fired.leaf-index c.leaf-item.result c.fired-test.true c.leaf-item.is c.requires.fires

pub fired-preserved : goal.fired-preserved
fired-preserved c =
    let old = c.args.groups.now in
    let now = c.fired.groups in
    let next = c.take_kept_fired.new.groups in
    let fs = c.args.fired.now in
    let i = c.fired.leaf-index in
    let C = map triplets_view c.args.columns.now in
    let f = kept_puts c.args.keys.now C c.args.keeping.now in
    record {
      put = list_put old now next (flat_map f (map fired_view fs)) (f (fired_view c.leaf-item.result)) (flat_map f (map fired_view (drop (i + 1) fs)))
          c.fired.invariant.gatherings
          (subst (LeavesToPut old (flat_map f (map fired_view fs)) now) (next_fired f fs i c.leaf-item.result c.fired-test.true c.leaf-item.is) c.fired.invariant.put)
          c.in_ok-take_kept_fired.ensures.put;
      gatherings = c.take_kept_fired.ensures.gatherings ∙ c.fired.invariant.gatherings;
    }
