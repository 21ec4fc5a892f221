use Rattle.std.proofs.Common.{◌∙◌, refl, ap}
use Rattle.dr_nested.specs.declared.shape.Rep.{Rep}
use Rattle.dr_nested.specs.declared.shape.Shape as shapes
use Rattle.dr_sub_meaning.specs.ResultRecords as meaning
use Rattle.dr_sub.proofs.FieldLemmas.{leaf_pushed, no_leaf}
use Rattle.dr_sub.proofs.fields.push_leaf.Goals as goal

pub returns-in_ok-push-in-Some : goal.returns-in_ok-push-in-Some
returns-in_ok-push-in-Some c =
    let found = c.in-Some.ensures.lookup in
    leaf_pushed c.args.items.now c.args.place c.in-Some.item.now c.args.fields.now.items c.push.new.self.items (record { name = c.in_ok-name-in-Some.name; rep = Rep.Optional; shape = shapes.Leaf c.term_kind.result }) c.term_kind.result
    found.3.0 found.1 c.in_ok-push-in-Some.ensures.items (c.in_ok-name-in-Some.ensures ∙ ap meaning.field_name c.as_str.ensures.value) refl refl c.term_kind.ensures

pub returns-in-None : goal.returns-in-None
returns-in-None c = no_leaf c.args.items.now c.args.place c.args.fields.now.items c.in-None.ensures.lookup.3
