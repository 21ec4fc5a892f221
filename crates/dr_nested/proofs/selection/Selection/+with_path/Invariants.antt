use Rattle.std.proofs.Common.{length}
use Rattle.dr_nested.proofs.selection.Selection.+with_path.Given as goal

abbrev pub decreases-with_path : goal.decreases-with_path
decreases-with_path l = length l.path.now
