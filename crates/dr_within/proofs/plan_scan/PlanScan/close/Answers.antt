use Rattle.std.proofs.Common.{ℕ, List, sym, ap, subst, ◌∙◌}
use Rattle.dr_meaning.specs.Path.{paths_of_leaves}
use Rattle.dr_meaning.specs.Walk.{walk}
use Rattle.dr_partials.specs.Partials.{empty_partial}
use Rattle.dr_partials.specs.Putting.{put_all}
use Rattle.dr_plan.specs.Planned.{plan_leaves, plan_view, planned_query}
use Rattle.dr_group.specs.Partials.{partial_view, IsPartialOf}
use Rattle.dr_condition.specs.Conditions.{watch_in}
use Rattle.dr_within.specs.Behind.{frames_behind, readings_at}
use Rattle.dr_within.specs.Takings.{takings_of}
use Rattle.dr_within.proofs.BehindLemmas.{if_ok}
use Rattle.dr_within.proofs.ScanPartial.{scan_partial}
use Rattle.dr_within.proofs.plan_scan.PlanScan.close.Goals as goal

pub returns-clause-partial : goal.returns-clause-partial
returns-clause-partial c = if_ok c.unless_failed.result _ _ (λ x e s p R h r g.
    let q = planned_query (plan_view p) in
    let ts = takings_of g.aggregates.items in
    let ms = walk s.fields (paths_of_leaves (plan_leaves p)) R in
    let W = watch_in c.args.self.groups.condition in
    ap partial_view e ∙ c.in_ok-partial.ensures.partial (plan_view p) (plan_leaves p) ts ms g.behind
    ∙ ap (λ (ks : List ℕ). put_all q (frames_behind W (readings_at (plan_leaves p) ks ts) ms).made (empty_partial q)) g.keyed
    ∙ scan_partial s h.1 p g.keys g.aggregates g.items (h.0, h.2, h.3) g.selects W g.watches R r) c.unless_failed.ensures.made

pub returns-clause-of_plan : goal.returns-clause-of_plan
returns-clause-of_plan c = if_ok c.unless_failed.result _ _ (λ x e s p ms g.
    subst (IsPartialOf (plan_view p)) (sym e) (c.in_ok-partial.ensures.of_plan (plan_view p) (plan_leaves p) (takings_of g.aggregates.items) ms g.behind)) c.unless_failed.ensures.made
