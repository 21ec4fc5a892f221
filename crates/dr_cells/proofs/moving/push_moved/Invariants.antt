use Rattle.std.proofs.Common.{◌≡◌, ◌++◌, map, take}
use Rattle.dr_cells.specs.Held.{moved_cell}
use Rattle.dr_cells.proofs.moving.push_moved.Given as goal

-- the cells before this one joined
abbrev pub invariant-more : goal.invariant-more
invariant-more l = l.cells.items ≡ l.fn.cells.items ++ map (moved_cell l.behind) (take l.cell-index l.more)
