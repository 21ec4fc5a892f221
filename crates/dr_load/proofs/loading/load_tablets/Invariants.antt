use Rattle.std.proofs.Common.{◌≡◌, ◌≤◌, ◌+◌, ◌-◌, ◌*◌, IsTrue, None}
use Rattle.dr_meaning.specs.Path.{leaves}
use Rattle.dr_nested.specs.Views.{fields_view}
use Rattle.dr_input.specs.Records.{fields_of, most_of, number_of, fault_of, left_of}
use Rattle.dr_striper.specs.Striping.{leaves_of}
use Rattle.dr_load.specs.Plans.{plan_view}
use Rattle.dr_load.specs.Loads.{HasLoaded}
use Rattle.dr_load.proofs.loading.load_tablets.Given as goal

-- the full tablets so far are put
abbrev pub invariant-tablets : goal.invariant-tablets
invariant-tablets g l = record {
  loaded : HasLoaded (plan_view l.plan) l.loaded.tablets l.loaded.records (g.S.Source.shows l.fn.source).left (left_of l.records (g.S.Source.shows l.source).left) (g.K.Link.shows l.fn.keeper) (g.K.Link.shows l.keeper);
  leaves_are : leaves_of l.fields.items ≡ leaves (fields_view l.plan.schema.now.fields.items);
  fields_are : fields_of l.records ≡ fields_view l.plan.schema.now.fields.items;
  most_is : most_of l.records ≡ 4096 * l.plan.rows;
  most_are : l.most ≡ 4096 * l.plan.rows;
  number_is : number_of l.records ≡ l.loaded.records;
  going : fault_of l.records ≡ None;
  within : l.loaded.records ≤ l.most;
  source_calm : (g.S.Source.shows l.source).faults ≡ (g.S.Source.shows l.fn.source).faults;
  keeper_calm : (g.K.Link.shows l.keeper).faults ≡ (g.K.Link.shows l.fn.keeper).faults;
  asked : (g.K.Link.shows l.keeper).asked ≡ (g.K.Link.shows l.fn.keeper).asked;
  steady : IsTrue (g.K.Link.shows l.fn.keeper).is_steady → IsTrue (g.K.Link.shows l.keeper).is_steady;
}

abbrev pub decreases-tablets : goal.decreases-tablets
decreases-tablets g l = l.most + 1 - l.loaded.records
