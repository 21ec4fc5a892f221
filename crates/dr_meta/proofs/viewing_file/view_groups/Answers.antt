use Rattle.dr_formats.specs.Metadata.{view_group}
use Rattle.dr_compact.specs.Views.{tree_view}
use Rattle.dr_meta.specs.Views.{group_view}
use Rattle.dr_meta.proofs.EachLemmas.{one_seen}
use Rattle.dr_meta.proofs.viewing_file.view_groups.Goals as goal

pub groups-preserved : goal.groups-preserved
groups-preserved c = one_seen tree_view view_group group_view c.args.trees.now c.groups.tree-index c.tree-item.result c.groups.groups.items c.push.new.self.items c.in_ok-view_group.field-0 c.groups-test.true c.tree-item.is c.in_ok-view_group.ensures c.in_ok-push.ensures.items c.groups.invariant
