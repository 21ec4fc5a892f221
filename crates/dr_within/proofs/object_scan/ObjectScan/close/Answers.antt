use Rattle.std.proofs.Common.{sym, ap, subst, ◌∙◌}
use Rattle.dr_partials.specs.Partials.{lines}
use Rattle.dr_plan.specs.PlanOf.{IsPlanOf}
use Rattle.dr_group.specs.Partials.{partial_view}
use Rattle.dr_within.proofs.BehindLemmas.{if_ok}
use Rattle.dr_within.proofs.ObjectEnds.{all_made_of, items_made_of, all_held, all_fits, all_close, all_lines}
use Rattle.dr_within.proofs.object_scan.ObjectScan.close.Goals as goal

pub close-requires : goal.close-requires
close-requires c =
    let all = c.requires.all in
    let s = all.0 in
    let p = all.1 in
    let R = all.2 in
    let h = all.3 in
    let g = all.5 in
    all_close s h.1 p g.items g.object (h.0, h.2, h.3) g.selects R all.4 c.args.self g.is_for g.behind

pub returns-clause-partial : goal.returns-clause-partial
returns-clause-partial c = if_ok c.unless_failed.result _ _ (λ x e s p R h r g.
    let self = c.args.self in
    let plan_of : IsPlanOf s h.1 p = (h.0, h.2, h.3) in
    ap partial_view e
    ∙ ap lines (c.in_ok-rows.ensures.rows (items_made_of s p g.items self R) (all_made_of s p g.items self R)
    (all_held s h.1 p g.items g.object plan_of g.selects R r self g.is_for g.behind) (all_fits s h.1 p g.items g.object plan_of g.selects R r self g.is_for g.behind))
    ∙ all_lines s h.1 p g.items g.object plan_of g.selects R r self g.is_for g.behind) c.unless_failed.ensures.made
