use Rattle.std.proofs.Common.{◌≡◌, ◌+◌, ◌++◌, ◌≤◌, map, length, drop}
use Rattle.dr_meaning.specs.Path.{max_definition}
use Rattle.dr_nested.specs.PathView.{step_view}
use Rattle.dr_file.specs.Floors.{floors_of}
use Rattle.dr_file.proofs.floors.Floors.new.Given as goal

-- the floors so far, and those of the steps from this one on
abbrev pub invariant-steps : goal.invariant-steps
invariant-steps l = record {
  floors : l.levels.items ++ floors_of l.greatest (map step_view (drop l.step-index l.steps)) ≡ floors_of 0 (map step_view l.steps);
  level : l.greatest + max_definition (map step_view (drop l.step-index l.steps)) ≡ max_definition (map step_view l.steps);
  few : length l.levels.items ≤ l.step-index;
  within : l.greatest ≤ l.step-index;
}
