use Rattle.std.proofs.Common.{◌≡◌, ◌+◌, ◌-◌, ◌≤◌, length, drop}
use Rattle.dr_dispatch.specs.Choice.{or_else}
use Rattle.dr_board.specs.Tablets.{lowest_hand, urgent_hand, late_hand, chosen_hand}
use Rattle.dr_board.proofs.choosing.choose.Given as goal

-- what is chosen is the first urgent tablet from here on, or the late one that was found, or the first late one from here on
abbrev pub invariant-tablets : goal.invariant-tablets
invariant-tablets l =
    (chosen_hand l.lag l.count l.tablets
    ≡ or_else (lowest_hand urgent_hand l.place (drop l.place l.tablets)) (or_else l.late (lowest_hand (late_hand l.lag l.count) l.place (drop l.place l.tablets))))
    × (l.looks ≤ l.initial.looks + (l.place - l.start))
    × (l.looks ≤ l.initial.looks + length l.tablets)
    × (l.start ≤ l.place)
    × (l.initial.looks ≤ l.looks)
