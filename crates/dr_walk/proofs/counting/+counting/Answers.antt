use Rattle.std.proofs.Common.{arith, ap, ◌∙◌, ◌<◌, ◌≡◌, List, length, get_or}
use Rattle.dr_nested.specs.declared.shape.Field.{Field}
use Rattle.dr_walk.proofs.FieldLemmas.{count_from, depth_at}
use Rattle.dr_walk.proofs.counting.+counting.Goals as goal

pub count_in_group-count_repeated-count-requires : goal.count_in_group-count_repeated-count-requires
count_in_group-count_repeated-count-requires t c =
    let fs = c.args.fields.now.items in
    let k = c.fields.field-index in
    let f = c.field-item.result in
    let more : k < length fs = omega (arith, c.fields-test.true, ap length c.deref-field-items.ensures.value) in
    let here : f ≡ get_or fs k f = c.field-item.is ∙ ap (λ (xs : List Field). get_or xs k f) c.deref-field-items.ensures.value in
    let e = count_from fs k f more here in
    let d = depth_at fs k f more here in
    (omega (arith, d), omega (arith, e, c.fields.invariant, c.requires))
