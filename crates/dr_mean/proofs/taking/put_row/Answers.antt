use Rattle.std.proofs.Common.{◌∙◌, ap, ap₂, List, Option, map}
use Rattle.dr_meaning.specs.Record.{Value}
use Rattle.dr_nested.specs.PathView.{path_view}
use Rattle.dr_partials.specs.Putting.{Taken, put}
use Rattle.dr_plan.specs.Planned.{planned_query}
use Rattle.dr_group.specs.Partials.{partial_view, IsPartialOf}
use Rattle.dr_rows.specs.Views.{lent_cells}
use Rattle.dr_mean.specs.Takings.{taken_with}
use Rattle.dr_mean.proofs.PutLemmas.{ok_each}
use Rattle.dr_mean.proofs.WithinLemmas.{on_ok_by}
use Rattle.dr_mean.proofs.taking.put_row.Goals as goal

pub returns-clause-puts : goal.returns-clause-puts
returns-clause-puts c =
    let ls = map path_view c.args.groups.leaves.now in
    let before = c.args.partial.now in
    on_ok_by c.put.result _ _ (ok_each c.put.result (partial_view before) (partial_view c.put.new.self) (λ p. IsPartialOf p before) _ c.put.ensures.partial) (λ told. λ p r i a f.
    told p i
    ∙ ap₂ (λ (ks : List (Option Value)) (t : Option Taken). put (planned_query p) (record { keys = ks; taken = t }) (partial_view before))
    (ap lent_cells c.deref.ensures.value ∙ c.in_ok-key_of.ensures ls r a c.args.groups.keyed)
    (c.taken_as.ensures ∙ ap (taken_with c.args.taking) (c.in_ok-value.ensures ls r a f)))
