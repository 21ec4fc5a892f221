use Rattle.std.proofs.Common.{◌≡◌, drop, take}
use Rattle.dr_cells.specs.Results.{read_object, read_lists, read_times}
use Rattle.dr_cells.specs.Shapes.{shape_view, lists_view}
use Rattle.dr_cells.specs.Views.{cells_view}
use Rattle.dr_ends.proofs.ends.+ends.Given as goal

-- behind the lists before this one
abbrev pub invariant-end_of_lists-lists : goal.invariant-end_of_lists-lists
invariant-end_of_lists-lists l =
    drop l.next (cells_view l.cells) ≡ (read_lists (lists_view (take l.number l.lists.items)) (drop l.counts (cells_view l.cells)) (drop l.at (cells_view l.cells))).rest

-- behind so many objects
abbrev pub invariant-end_of_objects-objects : goal.invariant-end_of_objects-objects
invariant-end_of_objects-objects l =
    drop l.next (cells_view l.cells) ≡ (read_times (read_object (shape_view l.shape)) l.counter (drop l.at (cells_view l.cells))).rest
