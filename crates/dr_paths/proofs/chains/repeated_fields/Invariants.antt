use Rattle.std.proofs.Common.{◌≡◌, ◌+◌, ◌≤◌, map, drop}
use Rattle.dr_meaning.specs.Path as path_meaning
use Rattle.dr_nested.specs.PathView.{step_view}
use Rattle.dr_paths.proofs.chains.repeated_fields.Given as goal

-- those counted, with those of the steps from here on, are all
abbrev pub invariant-steps : goal.invariant-steps
invariant-steps l = record {
  within : l.count ≤ l.step-index;
  all : l.count + path_meaning.max_repetition (map step_view (drop l.step-index l.steps)) ≡ path_meaning.max_repetition (map step_view l.steps);
}
