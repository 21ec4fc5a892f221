use Rattle.std.proofs.Common.{List, Option, None, drop}
use Rattle.std.specs.Prelude.{option_map}
use Rattle.dr_assemble.specs.Restoring.{Strip}
use Rattle.dr_assemble.specs.Distinct.{AreDistinct}
use Rattle.dr_assemble.specs.Views.{strip_view, strips_view}
use Rattle.dr_assemble.proofs.KeepingLemmas.{kept_before}
use Rattle.dr_assemble.proofs.distinct.distinct.Given as goal

-- what is kept of the strips from this one on comes behind what was kept of those before
abbrev pub invariant-strips : goal.invariant-strips
invariant-strips l = (o : Option (List Strip)) → AreDistinct (option_map strip_view l.last) (strips_view (drop l.strip-index l.strips)) o
    → AreDistinct None (strips_view l.strips) (kept_before (strips_view l.kept.items) o)
