use Rattle.std.proofs.Common.{◌≡◌, map, ◌≤◌, length, take}
use Rattle.dr_meaning.specs.Path as path_meaning
use Rattle.dr_nested.specs.PathView.{step_view}
use Rattle.dr_paths.proofs.chains.chain_end.Given as goal

-- the steps left have the level of them all
abbrev pub invariant-steps : goal.invariant-steps
invariant-steps l = record {
  within : l.rest ≤ length l.steps;
  same : path_meaning.chain_end (map step_view (take l.rest l.steps)) ≡ path_meaning.chain_end (map step_view l.steps);
}

abbrev pub decreases-steps : goal.decreases-steps
decreases-steps l = l.rest
