use Rattle.std.proofs.Common.{◌≡◌, ℕ, ◌<◌, List, option_map, Bor, length, string_bytes, sym, ap, ◌∙◌}
use Rattle.serde_json.specs.Find.{get_member}
use Rattle.serde_json.specs.View.{view, members_view}
use Rattle.serde_json.specs.declared.value.Value.{Value as Json}
use Rattle.dr_meaning.specs.Record.{instances_in}
use Rattle.dr_meaning.specs.JsonRecord.{given}
use Rattle.dr_nested.specs.Views.{rep_view, shape_view}
use Rattle.dr_json.specs.declared.part.Part.{Part}
use Rattle.dr_json.specs.Parts.{part_view}
use Rattle.dr_json.specs.Held.{field_held, instance_held}
use Rattle.dr_json.proofs.HeldLemmas.{held_at, held_past}
use Rattle.dr_json.proofs.held.PartHeld.instances_in.Goals as goal

pub returns-in-Some : goal.returns-in-Some
returns-in-Some c =
    let f = c.in-Some.field.now in
    let ms = members_view c.in-Group.object.now.entries in
    let within : c.args.place < length c.in-Group.fields.now = c.in-Some.ensures.lookup.3.0 in
    let met : option_map (λ (v : Bor Json). view v.now) c.present.result ≡ given (get_member (string_bytes f.name) ms) =
    c.present.ensures ∙ ap given (c.member.ensures ∙ ap (λ (n : List ℕ). get_member n ms) c.as_str.ensures.value) in
    c.parts_of.ensures ∙ ap (field_held (rep_view f.rep) (instance_held (shape_view f.shape))) met ∙ sym (held_at c.in-Group.fields.now c.args.place f ms within c.in-Some.ensures.lookup.1)
    ∙ ap (λ (p : Part). instances_in c.args.place (part_view p)) (sym c.in-Group.is)

pub returns-in-None : goal.returns-in-None
returns-in-None c =
    sym (held_past c.in-Group.fields.now c.args.place (members_view c.in-Group.object.now.entries) c.in-None.ensures.lookup.3)
    ∙ ap (λ (p : Part). instances_in c.args.place (part_view p)) (sym c.in-Group.is)
