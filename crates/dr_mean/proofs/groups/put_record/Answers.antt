use Rattle.std.proofs.Common.{◌≡◌, ◌∙◌, sym, ap, subst, map}
use Rattle.dr_meaning.specs.Record.{Node, project}
use Rattle.dr_nested.specs.PathView.{path_view, paths_view}
use Rattle.dr_nested.specs.Views.{node_view}
use Rattle.dr_partials.specs.Putting.{put_all}
use Rattle.dr_plan.specs.Planned.{planned_query}
use Rattle.dr_plan.specs.Views.{aggregate_view}
use Rattle.dr_group.specs.Partials.{partial_view}
use Rattle.dr_mean.specs.GroupLaws.{record_puts}
use Rattle.dr_mean.specs.Lines.{plan_kept}
use Rattle.dr_mean.specs.RowsOf.{IsTyped}
use Rattle.dr_mean.specs.Takings.{key_paths}
use Rattle.dr_mean.proofs.WithinLemmas.{on_ok_by}
use Rattle.dr_mean.proofs.groups.put_record.Goals as goal

pub returns-clause-puts : goal.returns-clause-puts
returns-clause-puts c =
    let plan = c.args.groups.plan.now in
    let leaves = c.args.groups.leaves.now in
    let ls = map path_view leaves in
    let m = node_view c.in_ok-projected.projected in
    let e : m ≡ project (paths_view leaves) (node_view c.args.whole.now) = c.in_ok-projected.ensures in
    on_ok_by c.put_kept.result _ _ c.put_kept.ensures.puts (λ told. λ p i t.
    told p i (subst (λ (x : Node). IsTyped leaves x) (sym e) t)
    ∙ ap (λ (x : Node). put_all (planned_query p) (record_puts (key_paths ls c.args.groups.keys.now) (map (aggregate_view ls) c.args.groups.aggregates.now) (plan_kept plan x)) (partial_view c.args.partial.now)) e)
