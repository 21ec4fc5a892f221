use Rattle.std.proofs.Common.{◌≡◌, ◌∙◌, sym, ap, refl, List, map}
use Rattle.dr_meaning.specs.Path.{Step}
use Rattle.dr_meaning.specs.Rows.{rows}
use Rattle.dr_meaning.specs.Expression.{longest_chain}
use Rattle.dr_nested.specs.PathView.{path_view, paths_view}
use Rattle.dr_nested.specs.Views.{node_view}
use Rattle.dr_partials.specs.Putting.{put_all}
use Rattle.dr_plan.specs.Planned.{planned_query}
use Rattle.dr_plan.specs.Views.{aggregate_view}
use Rattle.dr_group.specs.Partials.{partial_view}
use Rattle.dr_rows.specs.Known.{known}
use Rattle.dr_rows.specs.Views.{rows_view}
use Rattle.dr_mean.specs.GroupLaws.{term_puts}
use Rattle.dr_mean.specs.Takings.{key_paths, put_of}
use Rattle.dr_mean.specs.declared.taking.Taking.{Taking}
use Rattle.dr_mean.proofs.OneRecordLemmas.{put_in_parts}
use Rattle.dr_mean.proofs.WithinLemmas.{on_ok_by}
use Rattle.dr_mean.proofs.groups.put_whole.Goals as goal

pub returns-clause-puts : goal.returns-clause-puts
returns-clause-puts c =
    let leaves = c.args.groups.leaves.now in
    let ls = map path_view leaves in
    let keys = key_paths ls c.args.groups.keys.now in
    let ts = map (aggregate_view ls) c.args.groups.aggregates.now in
    let n = node_view c.args.whole.now in
    let told_rows : rows_view c.in_ok-rows.rows ≡ map (known (paths_view leaves) (longest_chain keys)) (rows (longest_chain keys) n) =
    c.in_ok-rows.ensures.rows ∙ ap (λ (chain : List Step). map (known (paths_view leaves) chain) (rows chain n)) c.keys_chain-chain.ensures in
    on_ok_by c.put_aggregates.result _ _ c.put_aggregates.ensures.puts (λ told. λ p i t.
    told p (c.put_rows.ensures.of_plan p i) t told_rows
    ∙ ap (put_all (planned_query p) (term_puts keys 0 ts n)) (c.in_ok-put_rows.ensures.puts p (longest_chain keys) n i t refl told_rows)
    ∙ sym (put_in_parts (planned_query p) (map (put_of ls c.args.groups.keys.now Taking.Nothing) (rows (longest_chain keys) n)) (term_puts keys 0 ts n) (partial_view c.args.partial.now)))

pub returns-clause-of_plan : goal.returns-clause-of_plan
returns-clause-of_plan c = λ p h. c.put_aggregates.ensures.of_plan p (c.put_rows.ensures.of_plan p h)
