use Rattle.std.proofs.Common.{◌≡◌, map, take}
use Rattle.dr_levels.specs.Views.{triplets_view}
use Rattle.dr_assemble.specs.Restoring.{columns_of}
use Rattle.dr_assemble.specs.Views.{strips_view}
use Rattle.dr_assemble.proofs.judging.columns_in.Given as goal

abbrev pub invariant-strips : goal.invariant-strips
invariant-strips l = map triplets_view l.columns.items ≡ columns_of (strips_view (take l.strip-index l.strips))
