use Rattle.dr_plan.specs.Planned.{plan_view}
use Rattle.dr_group.specs.Partials.{partial_view}
use Rattle.dr_mean.proofs.MeanLemmas.{groups_are, records_typed}
use Rattle.dr_mean.proofs.meaning.groups_of.Goals as goal

pub returns-clause-partial : goal.returns-clause-partial
returns-clause-partial c =
    let plan = c.args.plan.now in
    let ns = c.args.records.now in
    let leaves = c.deref.result.now in
    λ a.
    groups_are plan ns a c.args.keys.now c.args.aggregates.now c.args.items.now leaves c.deref-2.result.now c.deref-3.result.now (partial_view c.in_ok-partial.partial) (partial_view c.put_records.new.partial)
    c.requires.selection c.deref.ensures.value c.deref-2.ensures.value c.deref-3.ensures.value c.in_ok-partial.ensures.partial
    (c.in_ok-put_records.ensures.puts (plan_view plan) c.in_ok-partial.ensures.of_plan (records_typed plan ns leaves a c.deref.ensures.value))

pub returns-clause-of_plan : goal.returns-clause-of_plan
returns-clause-of_plan c = c.put_records.ensures.of_plan (plan_view c.args.plan.now) c.in_ok-partial.ensures.of_plan
