use Rattle.std.proofs.Common.{◌≡◌, ◌<◌, ◌+◌, ◌∷◌, ◌∙◌, sym, ap, arith, ℕ, List, length, map, drop}
use Rattle.std.proofs.lemmas.List.{drop_all, drop_more}
use Rattle.dr_nested.specs.PathView.{path_view}
use Rattle.dr_nested.specs.Views.{node_view}
use Rattle.dr_partials.specs.Putting.{put_all}
use Rattle.dr_plan.specs.Fitting.{aggregate_fits}
use Rattle.dr_plan.specs.Planned.{planned_query}
use Rattle.dr_plan.specs.Views.{aggregate_view}
use Rattle.dr_plan.specs.declared.aggregate.Aggregate.{Aggregate}
use Rattle.dr_group.specs.Partials.{partial_view}
use Rattle.dr_mean.specs.GroupLaws.{term_puts}
use Rattle.dr_mean.specs.GroupPuts.{aggregate_puts}
use Rattle.dr_mean.specs.Takings.{key_paths}
use Rattle.dr_mean.proofs.PutLemmas.{terms_more, true_at}
use Rattle.dr_mean.proofs.groups.put_aggregates.Goals as goal

pub aggregates-preserved : goal.aggregates-preserved
aggregates-preserved c =
    let ls = map path_view c.args.groups.leaves.now in
    let keys = key_paths ls c.args.groups.keys.now in
    let n = node_view c.args.whole.now in
    let all = c.args.groups.aggregates.now in
    let i = c.aggregates.aggregate-index in
    let a = c.aggregate-item.result in
    let h : i < length all = c.aggregates-test.true in
    let next : drop i all ≡ a ∷ drop (i + 1) all = drop_more all i a h ∙ ap (λ (x : Aggregate). x ∷ drop (i + 1) all) (sym c.aggregate-item.is) in
    record {
      placed = omega (arith, c.aggregates.invariant.placed);
      of_plan = λ p h. c.put_aggregate.ensures.of_plan p (c.aggregates.invariant.of_plan p h);
      puts = λ p o t k.
          terms_more (planned_query p) keys i (aggregate_view ls a) (map (aggregate_view ls) (drop (i + 1) all)) n (partial_view c.aggregates.partial) (partial_view c.put_aggregate.new.partial)
          (c.in_ok-put_aggregate.ensures.puts p (c.aggregates.invariant.of_plan p o) t (true_at (aggregate_fits ls) all i a h c.aggregate-item.is c.args.groups.fit) k
          ∙ ap (λ (j : ℕ). put_all (planned_query p) (aggregate_puts keys j (aggregate_view ls a) n) (partial_view c.aggregates.partial)) c.aggregates.invariant.placed)
          ∙ ap (λ (xs : List Aggregate). put_all (planned_query p) (term_puts keys i (map (aggregate_view ls) xs) n) (partial_view c.aggregates.partial)) (sym next)
          ∙ c.aggregates.invariant.puts p o t k;
    }

pub returns-clause-puts : goal.returns-clause-puts
returns-clause-puts c =
    let ls = map path_view c.args.groups.leaves.now in
    let keys = key_paths ls c.args.groups.keys.now in
    let n = node_view c.args.whole.now in
    let all = c.args.groups.aggregates.now in
    let i = c.aggregates.aggregate-index in
    λ p o t k.
    ap (λ (xs : List Aggregate). put_all (planned_query p) (term_puts keys i (map (aggregate_view ls) xs) n) (partial_view c.aggregates.partial)) (sym (drop_all i all c.aggregates-test.false))
    ∙ c.aggregates.invariant.puts p o t k

pub returns-in_err-put_aggregate-clause-of_plan : goal.returns-in_err-put_aggregate-clause-of_plan
returns-in_err-put_aggregate-clause-of_plan c = λ p h. c.put_aggregate.ensures.of_plan p (c.aggregates.invariant.of_plan p h)
