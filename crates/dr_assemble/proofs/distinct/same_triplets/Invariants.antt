use Rattle.std.proofs.Common.{◌≡◌, length}
use Rattle.std.specs.Prelude.{◌↔◌}
use Rattle.dr_levels.specs.Views.{triplets_view}
use Rattle.dr_assemble.proofs.distinct.same_triplets.Given as goal

-- what is left is the same exactly where all is
abbrev pub invariant-triplets : goal.invariant-triplets
invariant-triplets l = (triplets_view l.left ≡ triplets_view l.right) ↔ (triplets_view l.left_rest ≡ triplets_view l.right_rest)

abbrev pub decreases-triplets : goal.decreases-triplets
decreases-triplets l = length (triplets_view l.left_rest)
