use Rattle.std.proofs.Common.{◌≡◌, map, take}
use Rattle.dr_assemble.specs.Restoring as restoring
use Rattle.dr_assemble.specs.Views.{strips_view}
use Rattle.dr_assemble.proofs.spare.Spare.without_steps.Given as goal

abbrev pub invariant-strips : goal.invariant-strips
invariant-strips l = strips_view l.rests.items ≡ map restoring.without_step (strips_view (take l.strip-index l.strips))
