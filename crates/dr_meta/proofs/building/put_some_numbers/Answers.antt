use Rattle.std.proofs.Common.{◌∙◌, ap, map, pos}
use Rattle.std.proofs.lemmas.Result.{on_ok_weaker}
use Rattle.dr_formats.specs.Compact.{Item, struct_field, list_item, i32_type, i32_item}
use Rattle.dr_formats.specs.Metadata.{items_of}
use Rattle.dr_compact.specs.Views.{field_view, struct_onto}
use Rattle.dr_meta.proofs.BuildLemmas.{numbers_item}
use Rattle.dr_meta.proofs.building.put_some_numbers.Goals as goal

pub returns-in_ok-copied-in-Some : goal.returns-in_ok-copied-in-Some
returns-in_ok-copied-in-Some c =
    let here = numbers_item c.in_ok-copied-in-Some.field-0 ∙ ap (λ zs. list_item i32_type (items_of i32_item zs)) c.in_ok-copied-in-Some.ensures in
    rw c.in-Some.is (on_ok_weaker c.put.result (λ h rest. h rest ∙ ap (λ (x : Item). struct_onto (map field_view c.args.fields.now.items) (struct_field (pos c.args.id) x rest)) here) c.put.ensures)
