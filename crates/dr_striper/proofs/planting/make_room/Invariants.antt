use Rattle.std.proofs.Common.{◌≡◌, length, ◌-◌, suc}
use Rattle.dr_striper.specs.Shapes.{Shape}
use Rattle.dr_striper.specs.Made.{AreFresh, change_at}
use Rattle.dr_striper.specs.Views.{shapes_view}
use Rattle.dr_striper.proofs.planting.make_room.Given as goal

abbrev pub invariant-room : goal.invariant-room
invariant-room l =
    AreFresh l.branches.items
    × ((F : Shape → Shape) → change_at l.place F (shapes_view l.branches.items) ≡ change_at l.place F (shapes_view l.initial.branches.items))

abbrev pub decreases-room : goal.decreases-room
decreases-room l = suc l.place - length l.branches.items
