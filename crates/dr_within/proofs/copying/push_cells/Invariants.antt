use Rattle.std.proofs.Common.{◌≡◌, ◌++◌, ◌-◌, take, drop}
use Rattle.dr_cells.specs.Views.{cells_view}
use Rattle.dr_within.proofs.copying.push_cells.Given as goal

-- the cells so far
abbrev pub invariant-cells : goal.invariant-cells
invariant-cells l = cells_view l.cells ≡ cells_view l.initial.cells ++ take (l.number - l.start) (drop l.start (cells_view l.from))
