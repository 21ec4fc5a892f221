use Rattle.std.proofs.Common.{◌<◌, length, sym, ◌∙◌}
use Rattle.json.specs.Value.{members_view}
use Rattle.dr_json.proofs.HeldLemmas.{raw_at_place, raw_past}
use Rattle.dr_json.proofs.raw_held.raw_group_instances.Goals as goal

pub returns-in-Some : goal.returns-in-Some
returns-in-Some c =
    let within : c.args.place < length c.args.fields.now = c.in-Some.ensures.lookup.3.0 in
    c.raw_instances.ensures ∙ sym (raw_at_place c.args.fields.now c.args.place c.in-Some.field.now (members_view c.args.members.now) within c.in-Some.ensures.lookup.1)

pub returns-in-None : goal.returns-in-None
returns-in-None c = sym (raw_past c.args.fields.now c.args.place (members_view c.args.members.now) c.in-None.ensures.lookup.3)
