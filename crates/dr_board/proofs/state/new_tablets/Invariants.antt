use Rattle.std.proofs.Common.{◌≡◌, ◌≤◌, map, take, length, vec_capacity}
use Rattle.dr_board.specs.Tablets.{new_tablet}
use Rattle.dr_board.proofs.state.new_tablets.Given as goal

abbrev pub invariant-tablets : goal.invariant-tablets
invariant-tablets l = (l.tablets.items ≡ map new_tablet (map (λ v. v.items) (take l.place l.leaves))) × (length l.leaves ≤ vec_capacity l.tablets)
