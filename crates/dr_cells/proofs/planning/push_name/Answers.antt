use Rattle.std.proofs.Common.{◌∙◌}
use Rattle.dr_cells.proofs.ShapeLemmas.{name_pushed, no_name}
use Rattle.dr_cells.proofs.planning.push_name.Goals as goal

pub returns-in_ok-push-in-Some : goal.returns-in_ok-push-in-Some
returns-in_ok-push-in-Some c =
    let found = c.in-Some.ensures.lookup in
    name_pushed c.args.items.now c.args.place c.in-Some.item.now c.args.names.now.items c.push.new.self.items c.in_ok-from_str-in-Some.field-0
    found.3.0 found.1 c.in_ok-push-in-Some.ensures.items (c.in_ok-from_str-in-Some.ensures.ok ∙ c.as_str.ensures.value)

pub returns-in-None : goal.returns-in-None
returns-in-None c = no_name c.args.items.now c.args.place c.args.names.now.items c.in-None.ensures.lookup.3
