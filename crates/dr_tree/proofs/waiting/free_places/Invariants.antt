use Rattle.std.proofs.Common.{◌≡◌, ◌++◌, drop}
use Rattle.dr_tree.specs.Places.{free_places}
use Rattle.dr_tree.specs.Waiting.{places_of}
use Rattle.dr_tree.proofs.waiting.free_places.Given as goal

-- the places of the tablets from this one on are still to be pushed
abbrev pub invariant-tablets : goal.invariant-tablets
invariant-tablets l = places_of l.waiting.items ++ free_places (drop l.tablet-index l.tablet-items) ≡ free_places l.tablet-items
