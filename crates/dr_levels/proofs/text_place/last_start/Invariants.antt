use Rattle.std.proofs.Common.{◌<◌, ◌≤◌, ℕ, get_or}
use Rattle.dr_levels.specs.declared.text_place.TextPlace.{TextPlace}
use Rattle.dr_levels.proofs.text_place.last_start.Given as goal

-- none of those before this one begins later
abbrev pub invariant-places : goal.invariant-places
invariant-places l = (k : ℕ) (p : TextPlace) → k < l.at → (get_or l.places k p).start ≤ l.last
