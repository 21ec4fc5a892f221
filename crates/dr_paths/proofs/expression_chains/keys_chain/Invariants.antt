use Rattle.std.proofs.Common.{◌≡◌, map, drop}
use Rattle.std.specs.Prelude.{[], ◌∷◌, ℕ}
use Rattle.std.specs.List.{flat_map, slice_get}
use Rattle.dr_meaning.specs.Path.{longer}
use Rattle.dr_meaning.specs.Expression.{longest_chain}
use Rattle.dr_nested.specs.PathView.{step_view, path_view}
use Rattle.dr_plan.specs.Views.{path_of}
use Rattle.dr_paths.proofs.expression_chains.keys_chain.Given as goal

-- the longest of these and of those from this key on
abbrev pub invariant-keys : goal.invariant-keys
invariant-keys l =
    let path = λ (k : ℕ). path_of (slice_get (map path_view l.leaves) k) ∷ [] in
    longer (map step_view l.longest) (longest_chain (flat_map path (drop l.key-index l.keys))) ≡ longest_chain (flat_map path l.keys)
