use Rattle.std.proofs.Common.{[], List, sym, subst}
use Rattle.std.specs.Prelude.{reverse}
use Rattle.dr_within.specs.ObjectFraming.{HoldsFrames}
use Rattle.dr_within.specs.declared.object_frame.ObjectFrame.{ObjectFrame}
use Rattle.dr_within.proofs.object_frames.ObjectFrames.new.Goals as goal

pub returns : goal.returns
returns c = λ items. subst (λ (fs : List ObjectFrame). HoldsFrames items [] [] c.new.result (reverse fs)) (sym c.new-2.ensures.items) (c.new.ensures items)
