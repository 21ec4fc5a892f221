use Rattle.std.proofs.Common.{sym, ap, ◌∙◌, Some, None}
use Rattle.dr_nested.specs.Views.{slot_view, instances_view}
use Rattle.dr_nested.specs.declared.record.Instance.{Instance}
use Rattle.std.specs.Prelude.{Vec}
use Rattle.std.specs.declared.alloc.Global.{Global}
use Rattle.dr_nested.proofs.ViewLemmas.{view-held, view-gap}
use Rattle.dr_nested.proofs.LookingLemmas.{at_held, at_past}
use Rattle.dr_nested.proofs.looking.instances_at.Goals as goal

pub returns-in-Some-Held : goal.returns-in-Some-Held
returns-in-Some-Held c =
    let l = c.in-Some-Held.ensures.lookup in
    ap instances_view c.as_slice.ensures.value ∙ ap (λ (v : Vec Instance Global). instances_view v.items) c.in-Some-Held.instances-is
    ∙ sym (at_held c.args.node.now c.deref.result.now c.args.place c.in-Some-Held.field-0.now (Some (instances_view c.in-Some-Held.instances.items))
    c.deref.ensures.value l.3.0 l.1 (ap slot_view c.in-Some-Held.field-0-is ∙ view-held c.in-Some-Held.instances))

pub returns-in-Some-Gap : goal.returns-in-Some-Gap
returns-in-Some-Gap c =
    let l = c.in-Some-Gap.ensures.lookup in
    sym (at_held c.args.node.now c.deref.result.now c.args.place c.in-Some-Gap.field-0.now None
    c.deref.ensures.value l.3.0 l.1 (ap slot_view c.in-Some-Gap.field-0-is ∙ view-gap))

pub returns-in-None : goal.returns-in-None
returns-in-None c = sym (at_past c.args.node.now c.deref.result.now c.args.place c.deref.ensures.value c.in-None.ensures.lookup.3)
