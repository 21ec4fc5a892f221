use Rattle.std.proofs.Common.{◌≡◌, ◌∙◌, sym, ap, ap₂, refl, ℕ, map, true}
use Rattle.std.proofs.lemmas.Bool.{and_parts}
use Rattle.dr_meaning.specs.Expression.{longest_chain}
use Rattle.dr_nested.specs.PathView.{path_view}
use Rattle.dr_nested.specs.Views.{node_view}
use Rattle.dr_partials.specs.Putting.{put_all}
use Rattle.dr_plan.specs.Fitting.{aggregate_fits, expr_fits, is_summed}
use Rattle.dr_plan.specs.Planned.{planned_query}
use Rattle.dr_plan.specs.Views.{aggregate_view}
use Rattle.dr_plan.specs.declared.aggregate.Aggregate.{Aggregate}
use Rattle.dr_group.specs.Partials.{partial_view}
use Rattle.dr_mean.specs.GroupPuts.{aggregate_puts}
use Rattle.dr_mean.specs.Takings.{key_paths}
use Rattle.dr_mean.proofs.WithinLemmas.{on_ok_by}
use Rattle.dr_mean.proofs.groups.put_aggregate.Goals as goal

pub returns-in-Rows-clause-puts : goal.returns-in-Rows-clause-puts
returns-in-Rows-clause-puts c =
    let ls = map path_view c.args.groups.leaves.now in
    let keys = key_paths ls c.args.groups.keys.now in
    let n = node_view c.args.whole.now in
    on_ok_by c.put_rows.result _ _ c.put_rows.ensures.puts (λ told. λ p i t f k.
    told p (longest_chain keys) n i t refl k
    ∙ ap₂ (λ (j : ℕ) (a : Aggregate). put_all (planned_query p) (aggregate_puts keys j (aggregate_view ls a) n) (partial_view c.args.partial.now)) c.in_ok-number.ensures (sym c.in-Rows.is))

pub returns-in-Of-clause-puts : goal.returns-in-Of-clause-puts
returns-in-Of-clause-puts c =
    let ls = map path_view c.args.groups.leaves.now in
    let keys = key_paths ls c.args.groups.keys.now in
    let n = node_view c.args.whole.now in
    on_ok_by c.put_values.result _ _ c.put_values.ensures.puts (λ told. λ p i t f k.
    let b : (expr_fits ls c.in-Of.expression ≡ true) × (is_summed c.in-Of.field-0 c.in-Of.expression ≡ true) = and_parts _ _ (ap (aggregate_fits ls) (sym c.in-Of.is) ∙ f) in
    told p i t b.0
    ∙ ap₂ (λ (j : ℕ) (a : Aggregate). put_all (planned_query p) (aggregate_puts keys j (aggregate_view ls a) n) (partial_view c.args.partial.now)) c.in_ok-number.ensures (sym c.in-Of.is))
