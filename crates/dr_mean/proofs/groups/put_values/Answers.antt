use Rattle.std.proofs.Common.{◌≡◌, ◌∙◌, ap, ap₂, List, map}
use Rattle.dr_meaning.specs.Path.{Step, longer}
use Rattle.dr_meaning.specs.Rows.{rows}
use Rattle.dr_meaning.specs.Expression.{expression_chain, longest_chain}
use Rattle.dr_nested.specs.PathView.{path_view, step_view}
use Rattle.dr_nested.specs.Views.{node_view}
use Rattle.dr_partials.specs.Putting.{put_all}
use Rattle.dr_plan.specs.Planned.{planned_query}
use Rattle.dr_plan.specs.Views.{expr_view}
use Rattle.dr_group.specs.Partials.{partial_view}
use Rattle.dr_mean.specs.Takings.{key_paths, put_of}
use Rattle.dr_mean.specs.declared.taking.Taking.{Taking}
use Rattle.dr_mean.proofs.WithinLemmas.{on_ok_by}
use Rattle.dr_mean.proofs.groups.put_values.Goals as goal

pub returns-clause-puts : goal.returns-clause-puts
returns-clause-puts c =
    let ls = map path_view c.args.groups.leaves.now in
    let keys = c.args.groups.keys.now in
    let n = node_view c.args.whole.now in
    let lv = map step_view c.longer-chain.result.now in
    let chain : lv ≡ longer (longest_chain (key_paths ls keys)) (expression_chain (expr_view ls c.args.expression.now)) = c.longer-chain.ensures ∙ ap₂ longer c.keys_chain.ensures c.expression_chain.ensures in
    on_ok_by c.put_rows.result _ _ c.put_rows.ensures.puts (λ told. λ p i t f.
    told p lv n i t f c.in_ok-rows.ensures.rows
    ∙ ap (λ (p2 : List Step). put_all (planned_query p) (map (put_of ls keys (Taking.Value c.args.number c.args.expression)) (rows p2 n)) (partial_view c.args.partial.now)) chain)
