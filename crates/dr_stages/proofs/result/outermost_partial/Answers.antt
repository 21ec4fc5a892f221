use Rattle.std.proofs.Common.{List, subst}
use Rattle.std.proofs.lemmas.Result.{IfOk-weaker}
use Rattle.dr_group.specs.Partials.{IsPartialOf, partial_view}
use Rattle.dr_nested.specs.SchemaView.{schema_view}
use Rattle.dr_plan.specs.Planned.{plan_view}
use Rattle.dr_plan.specs.declared.plan.Plan.{Plan}
use Rattle.dr_stages.specs.Results.{plan_below}
use Rattle.dr_stages.proofs.ResultLemmas.{none_inner, some_inner, alone_is_outermost, may_go, through_is_outermost}
use Rattle.dr_stages.proofs.StageLemmas.{Later}
use Rattle.dr_stages.proofs.result.outermost_partial.Goals as goal

pub returns-in-empty-clause-partial : goal.returns-in-empty-clause-partial
returns-in-empty-clause-partial c =
    let p = c.args.plans.now in
    alone_is_outermost (schema_view c.args.schema.now) p (partial_view c.args.partial) (none_inner p c.as_slice.result.now c.as_slice.ensures.value c.in-empty.len_below)

pub returns-in-empty-clause-of_plan : goal.returns-in-empty-clause-of_plan
returns-in-empty-clause-of_plan c =
    let p = c.args.plans.now in
    subst (λ (ps : List Plan). IsPartialOf (plan_view (plan_below ps p.outer)) c.args.partial) (none_inner p c.as_slice.result.now c.as_slice.ensures.value c.in-empty.len_below) c.requires.of_plan

pub partial_through-requires : goal.partial_through-requires
partial_through-requires c =
    let p = c.args.plans.now in
    let ps = c.as_slice.result.now in
    let f = c.first-item.result in
    let e = some_inner p ps f c.as_slice.ensures.value c.in-len1-up.len_at_least c.first-item.is in
    record { bound = may_go (schema_view c.args.schema.now) p f (Later ps) c.args.schema.now.valid e (partial_view c.args.partial) c.requires.stands }

pub returns-in-len1-up-clause-partial : goal.returns-in-len1-up-clause-partial
returns-in-len1-up-clause-partial c =
    let s = schema_view c.args.schema.now in
    let p = c.args.plans.now in
    let ps = c.as_slice.result.now in
    let f = c.first-item.result in
    let x = partial_view c.args.partial in
    let e = some_inner p ps f c.as_slice.ensures.value c.in-len1-up.len_at_least c.first-item.is in
    IfOk-weaker c.partial_through.result _ _ (λ y g. through_is_outermost s p f (Later ps) c.args.schema.now.valid e x (partial_view y) g) c.partial_through.ensures.partial
