use Rattle.std.proofs.Common.{◌≡◌, map, take}
use Rattle.dr_nested.specs.PathView.{lent_path}
use Rattle.dr_assemble.specs.Restoring.{rests}
use Rattle.dr_assemble.specs.Views.{strips_view}
use Rattle.dr_assemble.proofs.judging.paths_in.Given as goal

abbrev pub invariant-strips : goal.invariant-strips
invariant-strips l = map lent_path l.paths.items ≡ rests (strips_view (take l.strip-index l.strips))
