use Rattle.std.proofs.Common.{◌≡◌, ◌+◌, ◌≤◌, map, drop}
use Rattle.dr_meaning.specs.Path.{max_repetition}
use Rattle.dr_nested.specs.PathView.{step_view}
use Rattle.dr_levels.proofs.levels.max_r.Given as goal

-- the steps from this one on are still to be counted
abbrev pub invariant-steps : goal.invariant-steps
invariant-steps l =
    (l.level + max_repetition (map step_view (drop l.step-index l.step-items)) ≡ max_repetition (map step_view l.path.steps.items)) × ((l.level ≤ l.step-index) × (l.step-items ≡ l.path.steps.items))
