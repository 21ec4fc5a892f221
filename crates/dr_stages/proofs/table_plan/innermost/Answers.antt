use Rattle.std.proofs.Common.{[], ◌∷◌}
use Rattle.dr_stages.proofs.ResultLemmas.{innermost_planned_as, none_inner, some_inner}
use Rattle.dr_stages.proofs.StageLemmas.{Later}
use Rattle.dr_stages.proofs.table_plan.innermost.Goals as goal

pub returns-in-empty-clause-of_query : goal.returns-in-empty-clause-of_query
returns-in-empty-clause-of_query c =
    let p = c.args.plans.now in
    λ s n h. innermost_planned_as s n p [] (none_inner p c.as_slice.result.now c.as_slice.ensures.value c.in-empty.len_below) h

pub returns-in-len1-up-clause-of_query : goal.returns-in-len1-up-clause-of_query
returns-in-len1-up-clause-of_query c =
    let p = c.args.plans.now in
    let ps = c.as_slice.result.now in
    let f = c.first-item.result in
    λ s n h. innermost_planned_as s n p (f ∷ Later ps) (some_inner p ps f c.as_slice.ensures.value c.in-len1-up.len_at_least c.first-item.is) h
