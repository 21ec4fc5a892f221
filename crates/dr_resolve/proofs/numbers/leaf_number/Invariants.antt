use Rattle.std.proofs.Common.{◌≡◌, ◌+◌, map, drop}
use Rattle.std.specs.Prelude.{option_map}
use Rattle.dr_nested.specs.PathView.{path_view, step_view}
use Rattle.dr_paths.specs.Numbers.{number_among}
use Rattle.dr_resolve.proofs.numbers.leaf_number.Given as goal

-- the leaf is still to be found among those from this place on
abbrev pub invariant-leaves : goal.invariant-leaves
invariant-leaves l = number_among (map path_view l.leaves) (map step_view l.steps) ≡ option_map (λ i. l.number + i) (number_among (map path_view (drop l.number l.leaves)) (map step_view l.steps))
