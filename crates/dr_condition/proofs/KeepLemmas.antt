-- What is watched of a plan keeps what the query's condition keeps, and tells it in parts.
use Rattle.std.proofs.Common.{◌≡◌, None, Some, sym, ap, subst, ◌∙◌}
use Rattle.dr_meaning.specs.Path.{paths_of_leaves}
use Rattle.dr_moves.specs.Condition.{Watch}
use Rattle.dr_kept_laws.specs.Parts.{pruning_tells}
use Rattle.dr_kept_laws.specs.Telling.{told}
use Rattle.dr_plan.specs.Planned.{plan_view, plan_leaves, planned_query}
use Rattle.dr_condition.specs.Parted.{WatchedParts}
use Rattle.dr_condition.specs.Watching.{pruned_behind}
use Rattle.dr_condition.specs.ConditionLaws.{WatchKeeps, WatchedKeepsQuery, NeverTrueKeepsNothing, PartsTellWatch}
use Rattle.dr_condition.proofs.PlanCondition.{watch_tests, plan_watches, plan_constant, plan_never}
use Rattle.dr_condition.proofs.PlanParts.{same_watch, plan_parts_tell}

pub watched_keeps : WatchedKeepsQuery
watched_keeps s q p h None c = plan_constant s q p h c.0 c.1
watched_keeps s q p h (Some w) c =
    let same : w.watch ≡ watch_tests w.watch.chain w.watch.last p.test.items =
    ap (λ (v : WatchedParts). v.watch) c.2 ∙ same_watch w.watch.chain w.watch.last p.test.items c.1 in
    subst (λ (v : Watch). WatchKeeps s.fields (paths_of_leaves (plan_leaves p)) v (planned_query (plan_view p)).condition) (sym same)
    (plan_watches s q p h w.watch.last c.0 w.watch.chain c.3)

pub never_keeps : NeverTrueKeepsNothing
never_keeps s q p h b n r = plan_never s q p h b n r

pub parts_tell : PartsTellWatch
parts_tell s q p h w c R r ms rest m e =
    subst (λ (v : WatchedParts). pruning_tells v.watch (pruned_behind v ms) m ≡ told v.watch ms m) (sym c.2)
    (plan_parts_tell s q p h w.watch.chain w.watch.last c.0 R r ms rest m e)
