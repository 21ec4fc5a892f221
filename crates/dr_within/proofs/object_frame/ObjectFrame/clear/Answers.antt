use Rattle.dr_within.proofs.object_frame.ObjectFrame.clear.Goals as goal

pub returns : goal.returns
returns c = λ items. record { built = c.clear.ensures; values = c.clear-2.ensures items }
