use Rattle.std.proofs.Common.{map}
use Rattle.dr_nested.specs.Views.{fields_view}
use Rattle.dr_nested.specs.PathView.{step_view}
use Rattle.dr_nested.proofs.FindingLemmas.{ends_at_leaf, goes_on_below}
use Rattle.dr_nested.proofs.finding.+walk.Goals as goal

pub returns-in-Leaf-next : goal.returns-in-Leaf-next
returns-in-Leaf-next t c =
    ends_at_leaf c.args.text.now c.in-Some.name.now c.in-Some.rest.now (fields_view c.args.fields.now.items) (map step_view c.args.steps.now.items)
    (map step_view c.enter-in-Some.new.steps.items) c.in_ok-next-in-Some.next.now c.in-Leaf-next.field-0 c.in-Some.ensures.cut c.in_ok-next-in-Some.ensures c.in-Leaf-next.is

pub returns-in-Group-next : goal.returns-in-Group-next
returns-in-Group-next t c =
    goes_on_below c.args.text.now c.in-Some.name.now c.in-Some.rest.now (fields_view c.args.fields.now.items) (map step_view c.args.steps.now.items)
    (map step_view c.enter-in-Some.new.steps.items) (map step_view c.walk.new.steps.items) c.in_ok-next-in-Some.next.now c.in-Group-next.inner c.walk.result
    c.in-Some.ensures.cut c.in_ok-next-in-Some.ensures c.in-Group-next.is c.walk.ensures
