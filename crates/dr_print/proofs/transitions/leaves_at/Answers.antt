use Rattle.std.proofs.Common.{refl}
use Rattle.dr_print.proofs.AutomatonLemmas.{one_taken}
use Rattle.dr_print.proofs.transitions.leaves_at.Goals as goal

pub places-preserved : goal.places-preserved
places-preserved c =
    one_taken c.args.fields.now c.args.places.now c.places.place-index c.index-fields-place.result _ c.places.leaves.items c.push.new.self.items
    c.places-test.true (c.requires.within c.places.place-index 0 c.places-test.true) c.index-fields-place.is refl c.in_ok-push.ensures.items c.places.invariant
