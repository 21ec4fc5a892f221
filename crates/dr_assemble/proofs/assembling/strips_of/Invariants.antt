use Rattle.std.proofs.Common.{◌≡◌, take}
use Rattle.dr_levels.specs.Views.{columns_view}
use Rattle.dr_assemble.specs.Restoring as restoring
use Rattle.dr_assemble.specs.Views.{strips_view}
use Rattle.dr_assemble.proofs.assembling.strips_of.Given as goal
use Rattle.dr_nested.specs.PathView.{paths_view}

abbrev pub invariant-order : goal.invariant-order
invariant-order l = strips_view l.strips.items ≡ restoring.strips_at (take l.place-index l.order) (paths_view l.fields) (columns_view l.columns)
