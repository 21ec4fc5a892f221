use Rattle.std.proofs.Common.{◌≡◌, ◌∷◌, ◌+◌, ◌++◌, ◌≤◌, map, drop}
use Rattle.dr_meaning.specs.Path.{max_definition}
use Rattle.dr_nested.specs.PathView.{step_view}
use Rattle.dr_agreement.specs.Alone.{least_levels}
use Rattle.dr_agreement.proofs.column_of_leaf.least_of.Given as goal

-- the levels so far, and those of the steps from this one on
abbrev pub invariant-steps : goal.invariant-steps
invariant-steps l = record {
  least : l.least.items ++ least_levels l.greatest (map step_view (drop l.step-index l.steps)) ≡ 0 ∷ least_levels 0 (map step_view l.steps);
  level : l.greatest + max_definition (map step_view (drop l.step-index l.steps)) ≡ max_definition (map step_view l.steps);
  within : l.greatest ≤ l.step-index;
}
