use Rattle.std.proofs.Common.{◌≡◌, ◌∙◌, ap, ap₂, nat_eq, vec_len, length, arith}
use Rattle.dr_partials.specs.Partials as meant
use Rattle.dr_group.specs.PlanGatherings.{item_gatherings}
use Rattle.dr_group.proofs.PartialLemmas.{empty_objects, empty_groups_are, gathers_for}
use Rattle.dr_group.proofs.partial.Partial.empty.Goals as goal

pub returns-in_ok-shape-in-Objects-clause-partial : goal.returns-in_ok-shape-in-Objects-clause-partial
returns-in_ok-shape-in-Objects-clause-partial c = ap meant.lines c.new.ensures.rows ∙ empty_objects c.args.plan.now c.in-Objects.field-0 c.in-Objects.field-1 c.in-Objects.is

pub returns-in_ok-new-in-Groups-clause-partial : goal.returns-in_ok-new-in-Groups-clause-partial
returns-in_ok-new-in-Groups-clause-partial c =
    let keys = c.in-Groups.keys in
    let many : vec_len keys ≡ length keys.items = omega (arith, keys.ok.0) in
    ap meant.grouped c.in_ok-new-in-Groups.ensures.groups
    ∙ empty_groups_are c.args.plan.now keys c.in-Groups.aggregates c.in-Groups.items c.in_ok-gatherings-in-Groups.gatherings.items c.is_empty-has_keys.result c.in-Groups.is
    (c.in_ok-gatherings-in-Groups.ensures ∙ ap₂ item_gatherings c.deref-in-Groups.ensures.value c.deref.ensures.value)
    (c.is_empty-has_keys.ensures ∙ ap (λ n. nat_eq n 0) many)

pub returns-in_ok-new-in-Groups-clause-of_plan : goal.returns-in_ok-new-in-Groups-clause-of_plan
returns-in_ok-new-in-Groups-clause-of_plan c =
    gathers_for c.args.plan.now c.in-Groups.keys c.in-Groups.aggregates c.in-Groups.items c.in_ok-new-in-Groups.field-0 c.in-Groups.is (c.in_ok-new-in-Groups.ensures.gatherings ∙ c.in_ok-gatherings-in-Groups.ensures ∙ ap₂ item_gatherings c.deref-in-Groups.ensures.value c.deref.ensures.value)
