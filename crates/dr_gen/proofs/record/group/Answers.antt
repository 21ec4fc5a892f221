use Rattle.std.proofs.Common.{◌++◌, ◌∷◌, [], List, ap, ◌∙◌}
use Rattle.dr_nested.specs.declared.record.Slot as slots
use Rattle.dr_gen.proofs.RecordLemmas.{group_of_two}
use Rattle.dr_gen.proofs.record.group.Goals as goal

pub returns : goal.returns
returns c =
    group_of_two _ c.args.first c.args.second
    (c.in_ok-push-2.ensures.items
    ∙ ap (λ (xs : List slots.Slot). xs ++ slots.Held c.args.second ∷ [])
    (c.in_ok-push.ensures.items ∙ ap (λ (xs : List slots.Slot). xs ++ slots.Held c.args.first ∷ []) c.in_ok-slots.ensures.items))
