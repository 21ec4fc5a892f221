use Rattle.std.proofs.Common.{◌∙◌, ◌+◌, ◌∷◌, ap, sym, List, drop}
use Rattle.std.proofs.lemmas.List.{drop_more}
use Rattle.dr_partials.specs.Putting.{put_all}
use Rattle.dr_plan.specs.Planned.{planned_query}
use Rattle.dr_group.specs.Partials.{partial_view}
use Rattle.dr_scalar.specs.Slots.{slot_value}
use Rattle.dr_within.specs.Takings.{all_read, takings_view}
use Rattle.dr_within.specs.declared.taking.Taking.{Taking}
use Rattle.dr_within.proofs.putting.put_in_order.Goals as goal

pub takings-preserved : goal.takings-preserved
takings-preserved c =
    let ts = c.args.takings.now in
    let i = c.takings.taking-index in
    let read = slot_value c.args.slots.now in
    record {
      of_plan = λ p h. c.put_one.ensures.of_plan p (c.takings.invariant.of_plan p h);
      puts = λ p keys k h.
          ap (put_all (planned_query p) (all_read keys (takings_view (drop (i + 1) ts)) read))
          (c.in_ok-put_one.ensures.puts p keys k (c.takings.invariant.of_plan p h))
          ∙ (ap (λ (us : List Taking). put_all (planned_query p) (all_read keys (takings_view us) read) (partial_view c.takings.partial))
          (sym (drop_more ts i c.taking-item.result c.takings-test.true ∙ ap (λ (u : Taking). u ∷ drop (i + 1) ts) (sym c.taking-item.is)))
          ∙ c.takings.invariant.puts p keys k h);
    }

pub returns-in_err-put_one-clause-of_plan : goal.returns-in_err-put_one-clause-of_plan
returns-in_err-put_one-clause-of_plan c = λ p h. c.put_one.ensures.of_plan p (c.takings.invariant.of_plan p h)
