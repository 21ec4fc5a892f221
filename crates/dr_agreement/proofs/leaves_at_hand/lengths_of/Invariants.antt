use Rattle.std.proofs.Common.{◌≡◌, map, length, take}
use Rattle.dr_levels.specs.Views.{triplets_view}
use Rattle.dr_agreement.proofs.leaves_at_hand.lengths_of.Given as goal

-- the lengths of those before this one
abbrev pub invariant-columns : goal.invariant-columns
invariant-columns l = l.lengths.items ≡ map (λ c. length (triplets_view c)) (take l.column-index l.columns)
