use Rattle.std.proofs.Common.{◌≡◌, length, map, take}
use Rattle.dr_levels.specs.Views.{triplets_view}
use Rattle.dr_levels.specs.declared.triplets.Triplets.{Triplets}
use Rattle.dr_scan.proofs.leaf_streams.counts_of.Given as goal

-- those so far
abbrev pub invariant-rests : goal.invariant-rests
invariant-rests l = l.counts.items ≡ map (λ (r : Triplets). length (triplets_view r)) (take l.rest-index l.rests)
