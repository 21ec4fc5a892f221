use Rattle.dr_within.proofs.object_frame.ObjectFrame.new.Goals as goal

pub returns : goal.returns
returns c = λ items. record { built = c.new.ensures; values = c.new-2.ensures items }
