use Rattle.std.proofs.Common.{refl}
use Rattle.dr_within.proofs.FramingLemmas.{on_ok}
use Rattle.dr_within.proofs.ObjectFrameLemmas.{values_joined}
use Rattle.dr_within.proofs.object_frame.ObjectFrame.append.Goals as goal

pub returns : goal.returns
returns c = on_ok c.join_others.result _ _ (λ call items made more h k. record {
  built = c.in_ok-append.ensures made more h.built k.built;
  values = values_joined items made more more c.args.self.now.values c.args.inner.now.values c.join_others.new.self _ h.values k.values (call items h.values.typed k.values.typed) (λ j. refl);
}) c.join_others.ensures
