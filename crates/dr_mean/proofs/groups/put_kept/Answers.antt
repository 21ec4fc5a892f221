use Rattle.std.proofs.Common.{◌∙◌, sym, ap, subst, Option, List, map}
use Rattle.dr_meaning.specs.Record.{Node}
use Rattle.dr_nested.specs.PathView.{path_view}
use Rattle.dr_nested.specs.Views.{node_view}
use Rattle.dr_nested.specs.declared.path.Path.{Path}
use Rattle.dr_partials.specs.Putting.{put_all}
use Rattle.dr_plan.specs.Planned.{planned_query}
use Rattle.dr_plan.specs.Views.{aggregate_view}
use Rattle.dr_group.specs.Partials.{partial_view}
use Rattle.dr_mean.specs.GroupLaws.{record_puts}
use Rattle.dr_mean.specs.Lines.{plan_kept}
use Rattle.dr_mean.specs.RowsOf.{IsTyped}
use Rattle.dr_mean.specs.Takings.{key_paths}
use Rattle.dr_mean.proofs.LineLemmas.{is_kept}
use Rattle.dr_mean.proofs.PutLemmas.{none_kept, kept_typed}
use Rattle.dr_mean.proofs.WithinLemmas.{on_ok_by}
use Rattle.dr_mean.proofs.groups.put_kept.Goals as goal

pub returns-then-not-branch-clause-puts : goal.returns-then-not-branch-clause-puts
returns-then-not-branch-clause-puts c =
    let plan = c.args.groups.plan.now in
    let leaves = c.args.groups.leaves.now in
    let ls = map path_view leaves in
    let n = node_view c.args.whole.now in
    λ p i t.
    let typed : IsTyped plan.leaves.items n = subst (λ (x : List Path). IsTyped x n) c.args.groups.same t in
    ap (λ (o : Option Node). put_all (planned_query p) (record_puts (key_paths ls c.args.groups.keys.now) (map (aggregate_view ls) c.args.groups.aggregates.now) o) (partial_view c.args.partial.now))
    (sym (none_kept c.in_ok-keep.field-0 (node_view c.keep.new.whole) (plan_kept plan n) c.if-not-branch.true (c.in_ok-keep.ensures typed)))

pub returns-clause-puts : goal.returns-clause-puts
returns-clause-puts c =
    let plan = c.args.groups.plan.now in
    let leaves = c.args.groups.leaves.now in
    let ls = map path_view leaves in
    let n = node_view c.args.whole.now in
    let m = node_view c.keep.new.whole in
    on_ok_by c.put_whole.result _ _ c.put_whole.ensures.puts (λ told. λ p i t.
    let typed : IsTyped plan.leaves.items n = subst (λ (x : List Path). IsTyped x n) c.args.groups.same t in
    let left = is_kept c.in_ok-keep.field-0 m (plan_kept plan n) c.if-not-branch.false (c.in_ok-keep.ensures typed) in
    told p i (kept_typed plan leaves n m left t)
    ∙ ap (λ (o : Option Node). put_all (planned_query p) (record_puts (key_paths ls c.args.groups.keys.now) (map (aggregate_view ls) c.args.groups.aggregates.now) o) (partial_view c.args.partial.now)) (sym left))
