use Rattle.std.proofs.Common.{◌≡◌, ◌+◌, map, drop}
use Rattle.std.specs.Prelude.{option_map}
use Rattle.dr_meaning.specs.Binding as binding
use Rattle.dr_nested.specs.PathView.{step_view}
use Rattle.dr_paths.specs.Views.{bound_path_view}
use Rattle.dr_resolve.proofs.numbers.place_among.Given as goal

-- the path is still to be found among the keys from this place on
abbrev pub invariant-keys : goal.invariant-keys
invariant-keys l = binding.place_among (map bound_path_view l.keys) (map step_view l.steps) ≡ option_map (λ i. l.place + i) (binding.place_among (map bound_path_view (drop l.place l.keys)) (map step_view l.steps))
