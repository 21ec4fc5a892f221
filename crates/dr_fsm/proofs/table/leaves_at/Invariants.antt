use Rattle.std.proofs.Common.{◌≡◌, map, take}
use Rattle.dr_nested.specs.PathView.{path_view}
use Rattle.dr_nested.specs.declared.path.Path.{Path}
use Rattle.dr_fsm.specs.Tables.{lent_leaf, paths_at}
use Rattle.dr_fsm.proofs.table.leaves_at.Given as goal

-- the leaves so far
abbrev pub invariant-order : goal.invariant-order
invariant-order l = map lent_leaf l.leaves.items ≡ paths_at (map (λ (p : Path). (path_view p).path) l.fields) (take l.index-index l.order)
