use Rattle.std.proofs.Common.{◌≡◌, ◌+◌, ◌≤◌, map, drop}
use Rattle.dr_meaning.specs.Path.{max_repetition, max_definition}
use Rattle.dr_nested.specs.PathView.{step_view}
use Rattle.dr_open.proofs.stand_in.group_levels.Given as goal

-- the levels so far, and those of the steps from this one on
abbrev pub invariant-steps : goal.invariant-steps
invariant-steps l = record {
  repetition : l.repetition + max_repetition (map step_view (drop l.step-index l.steps)) ≡ max_repetition (map step_view l.steps);
  definition : l.definition + max_definition (map step_view (drop l.step-index l.steps)) ≡ max_definition (map step_view l.steps);
  few : l.repetition ≤ l.step-index;
  within : l.definition ≤ l.step-index;
}
