use Rattle.std.proofs.Common.{◌≡◌, ◌∙◌, ap, sym, arith, pos, to_z}
use mir.Syntax.{w64}
use Rattle.std.proofs.lemmas.Int.{to_z_pos}
use Rattle.dr_formats.specs.Writing.{count_fields}
use Rattle.dr_nested.specs.Views.{fields_view}
use Rattle.dr_write.proofs.ElementLemmas.{count_view, element_of_group}
use Rattle.dr_write.proofs.elements.group_item.Goals as goal

pub returns : goal.returns
returns c =
    let v = c.args.fields.now in
    let e : to_z w64 c.len.result ≡ pos (count_fields (fields_view v.items)) = to_z_pos w64 c.len.result (omega (arith, c.len.ensures, v.ok.0, v.ok.1, v.small)) ∙ ap pos (c.len.ensures ∙ (v.ok.0 ∙ sym (count_view v.items))) in
    element_of_group c.as_bytes.result.now c.args.name.now c.args.repetition (to_z w64 c.len.result) (fields_view v.items) c.as_bytes.ensures.value e
