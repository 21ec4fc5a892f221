use Rattle.std.proofs.Common.{◌+◌, ◌*◌, length}
use Rattle.dr_open.proofs.place.+place.Given as goal

-- an element, and then the fields below it, for each name
abbrev pub decreases-place_below : goal.decreases-place_below
decreases-place_below l = 2 * length l.names.now + 1

abbrev pub decreases-place_in_group : goal.decreases-place_in_group
decreases-place_in_group l = 2 * length l.names.now
