use Rattle.std.proofs.Common.{◌∙◌, ap, map, pos}
use Rattle.std.proofs.lemmas.Result.{on_ok_weaker}
use Rattle.dr_formats.specs.Compact.{Item, struct_field, list_item, binary_type, binary_item}
use Rattle.dr_formats.specs.Metadata.{items_of}
use Rattle.dr_compact.specs.Views.{field_view, struct_onto}
use Rattle.dr_meta.specs.Views.{lent}
use Rattle.dr_meta.proofs.BuildLemmas.{names_item}
use Rattle.dr_meta.proofs.building.put_some_names.Goals as goal

pub returns-in_ok-copied-in-Some : goal.returns-in_ok-copied-in-Some
returns-in_ok-copied-in-Some c =
    let here = names_item c.in_ok-copied-in-Some.field-0 ∙ ap (λ bs. list_item binary_type (items_of binary_item (map lent bs))) c.in_ok-copied-in-Some.ensures in
    rw c.in-Some.is (on_ok_weaker c.put.result (λ h rest. h rest ∙ ap (λ (x : Item). struct_onto (map field_view c.args.fields.now.items) (struct_field (pos c.args.id) x rest)) here) c.put.ensures)
