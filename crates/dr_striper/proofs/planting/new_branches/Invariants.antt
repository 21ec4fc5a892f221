use Rattle.std.proofs.Common.{◌≡◌, drop}
use Rattle.dr_striper.specs.Shapes.{no_shapes}
use Rattle.dr_striper.specs.Striping.{leaves_of}
use Rattle.dr_striper.specs.Made.{AreFresh, put_each}
use Rattle.dr_striper.specs.Views.{shapes_view}
use Rattle.dr_striper.proofs.planting.new_branches.Given as goal

-- the leaves from this one on are still to be put in
abbrev pub invariant-fields : goal.invariant-fields
invariant-fields l =
    AreFresh l.branches.items
    × (put_each (leaves_of (drop l.number l.fields)) (shapes_view l.branches.items) ≡ put_each (leaves_of l.fields) no_shapes)
