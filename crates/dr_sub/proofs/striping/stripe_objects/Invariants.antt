use Rattle.std.proofs.Common.{◌≡◌, drop, List}
use Rattle.dr_meaning.specs.Path.{Step}
use Rattle.dr_meaning.specs.Column.{column}
use Rattle.dr_cells.specs.Results.{read_object, read_times}
use Rattle.dr_cells.specs.Shapes.{shape_view}
use Rattle.dr_cells.specs.Views.{cells_view}
use Rattle.dr_striper.specs.Striping.{gained}
use Rattle.dr_striper.specs.Stripers.{striped, striped_leaves, striped_paths}
use Rattle.dr_sub.specs.Striping.{records_in}
use Rattle.dr_sub.proofs.striping.stripe_objects.Given as goal

-- the records so far have been added, and the next object begins here
abbrev pub invariant-objects : goal.invariant-objects
invariant-objects l = record {
  place : drop l.at (cells_view l.cells) ≡ (read_times (read_object (shape_view l.shape)) l.counter (cells_view l.cells)).rest;
  columns : striped l.striper ≡ gained (λ (p : List Step). column p (records_in (shape_view l.shape) l.counter (cells_view l.cells))) (striped_paths l.fn.striper) (striped l.fn.striper);
  leaves : striped_leaves l.striper ≡ striped_leaves l.fn.striper;
}
