use Rattle.std.proofs.Common.{◌∙◌, ap, map, pos}
use Rattle.std.proofs.lemmas.Result.{on_ok_weaker}
use Rattle.dr_formats.specs.Compact.{Item, struct_field}
use Rattle.dr_compact.specs.Views.{field_view, struct_onto}
use Rattle.dr_meta.proofs.BuildLemmas.{structs_item}
use Rattle.dr_meta.proofs.building.put_structs.Goals as goal

pub returns : goal.returns
returns c = on_ok_weaker c.put.result (λ h rest. h rest ∙ ap (λ (x : Item). struct_onto (map field_view c.args.fields.now.items) (struct_field (pos c.args.id) x rest)) (structs_item c.args.trees)) c.put.ensures
