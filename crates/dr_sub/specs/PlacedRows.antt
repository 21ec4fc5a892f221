-- Objects of a result by their places among its cells, as the instances that they are.
use Rattle.std.specs.Prelude.{ℕ, ◌+◌, drop, length}
use Rattle.dr_meaning.specs.Query.{objects_of}
use Rattle.dr_meaning.specs.Record.{Node, Instance, atom, inner, Instances, no_instances, single, instances_at}
use Rattle.dr_levels.specs.Views.{lent_value}
use Rattle.dr_cells.specs.Results.{read_object, read_times}
use Rattle.dr_cells.specs.Shapes.{shape_view}
use Rattle.dr_cells.specs.Views.{cells_view}
use Rattle.dr_sub_meaning.specs.ResultRecords.{record_of, list_instances}
use Rattle.dr_cells.specs.declared.shape.Shape as shapes
use Rattle.dr_sub.specs.declared.placed.Spot.{Spot}
use Rattle.dr_sub.specs.declared.placed.Placed.{Placed}
use Rattle.dr_sub.specs.declared.placed.PlacedList.{PlacedList}

-- the object that begins at a spot, as a record
abbrev pub object_at : Spot → Node
object_at s = record_of (read_object (shape_view s.shape.now) (drop s.at (cells_view s.cells.now))).object

-- so many objects from there on
abbrev pub objects_at : Spot → ℕ → Instances
objects_at s n = list_instances (objects_of (read_times (read_object (shape_view s.shape.now)) n (drop s.at (cells_view s.cells.now))).objects)

abbrev pub held_view : Placed → Instance
held_view (Placed.Value v) = atom (lent_value v)
held_view (Placed.Object s) = inner (object_at s)

abbrev pub list_of : PlacedList → Instances
list_of PlacedList.Nothing = no_instances
list_of (PlacedList.One v) = single (atom (lent_value v))
list_of (PlacedList.Objects s n) = objects_at s n

-- what the list of a number has in the object that begins at a spot: its lists come behind its values
abbrev pub instances_behind : ℕ → Spot → Instances
instances_behind number s = instances_at (length (shapes.out-Shape s.shape.now).names.items + number) (object_at s)
