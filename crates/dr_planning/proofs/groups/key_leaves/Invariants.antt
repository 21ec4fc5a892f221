use Rattle.std.proofs.Common.{map, take}
use Rattle.dr_nested.specs.PathView.{path_view}
use Rattle.dr_paths.specs.Views.{bound_path_view}
use Rattle.dr_planning.specs.Planning.{AreNumbers}
use Rattle.dr_planning.proofs.groups.key_leaves.Given as goal

-- the numbers are those of the keys so far
abbrev pub invariant-keys : goal.invariant-keys
invariant-keys l = AreNumbers (map path_view l.leaves) (map bound_path_view (take l.key-index l.keys)) l.numbers.items
