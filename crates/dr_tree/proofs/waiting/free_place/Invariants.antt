use Rattle.std.proofs.Common.{◌≡◌, ◌++◌, take, drop}
use Rattle.dr_partials.specs.Partials as meant
use Rattle.dr_tree.specs.Places.{fill}
use Rattle.dr_tree.specs.Waiting.{places_of}
use Rattle.dr_tree.proofs.waiting.free_place.Given as goal

-- none of the places before this one is free
abbrev pub invariant-places : goal.invariant-places
invariant-places l = (r : meant.Partial) → fill l.tablet r (places_of l.waiting.items) ≡ take l.at (places_of l.waiting.items) ++ fill l.tablet r (drop l.at (places_of l.waiting.items))
