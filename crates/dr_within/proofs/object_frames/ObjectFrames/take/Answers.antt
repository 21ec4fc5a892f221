use Rattle.std.specs.Prelude.{reverse}
use Rattle.dr_made_laws.specs.ObjectFlow.{items_of, seen_items}
use Rattle.dr_scalar.specs.Slots.{slot_value}
use Rattle.dr_within.proofs.FramingLemmas.{on_ok}
use Rattle.dr_within.proofs.ObjectFrameLemmas.{frames_more}
use Rattle.dr_within.proofs.object_frames.ObjectFrames.take.Goals as goal

pub returns : goal.returns
returns c = on_ok c.take.result _ _ (λ call ls rs i made marks r p h.
    frames_more (items_of rs) made (seen_items rs i (slot_value c.args.slots.now)) marks c.args.self.now.inner c.take.new.self (reverse c.args.self.now.around.items)
    (λ inner k. call ls rs i inner r p k) h) c.take.ensures
