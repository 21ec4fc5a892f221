use Rattle.std.proofs.Common.{◌≡◌, map, take}
use Rattle.dr_nested.specs.PathView.{step_view}
use Rattle.dr_open.specs.Sources.{bare_step}
use Rattle.dr_open.proofs.stand_in.bare_steps.Given as goal

-- the steps so far
abbrev pub invariant-steps : goal.invariant-steps
invariant-steps l = map step_view l.copies.items ≡ map bare_step (map step_view (take l.step-index l.steps))
