use Rattle.std.proofs.Common.{◌∙◌, ap, map}
use Rattle.std.proofs.lemmas.List.{take_all}
use Rattle.dr_scalar.specs.Slots.{slot_value}
use Rattle.dr_mean.proofs.KeyLemmas.{keys_mean}
use Rattle.dr_mean.proofs.keys.key_of.Goals as goal

pub returns : goal.returns
returns c = λ ls r a h.
    c.keys.invariant ∙ ap (map (slot_value c.args.row.now)) (take_all c.keys.number-index c.args.keys.now c.keys-test.false) ∙ keys_mean ls c.args.row.now r c.args.keys.now a h
