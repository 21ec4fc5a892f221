use Rattle.dr_group.specs.Partials.{partial_view}
use Rattle.dr_mean.proofs.MeanLemmas.{finished_means}
use Rattle.dr_mean.proofs.WithinLemmas.{if_ok_by}
use Rattle.std.proofs.Common.{◌∙◌}
use Rattle.dr_mean.proofs.meaning.mean.Goals as goal

pub returns-clause-rows : goal.returns-clause-rows
returns-clause-rows c =
    if_ok_by c.finish.result _ _ c.finish.ensures.rows (λ r told. λ a.
    told ∙ finished_means c.args.plan.now c.args.records.now a (partial_view c.in_ok-partial_of.field-0) (c.in_ok-partial_of.ensures.partial a))
