use Rattle.dr_formats.proofs.TabletLemmas.{placement_is_leaf, placements_differ}
use Rattle.dr_formats.proofs.tablet_laws.placements_are_leaves.Goals as goal

pub returns : goal.returns
returns c = record { leaf = placement_is_leaf; differ = placements_differ }
