use Rattle.std.proofs.Common.{◌∙◌, ◌++◌, ap, sym, List, Option, map, drop, ℕ}
use Rattle.std.specs.List.{drop-map}
use Rattle.dr_levels.specs.declared.triplet.ValueRef.{ValueRef}
use Rattle.dr_partials.specs.Putting.{put_all}
use Rattle.dr_plan.specs.Planned.{planned_query}
use Rattle.dr_group.specs.Partials.{partial_view}
use Rattle.dr_group.specs.Views.{lent_cell}
use Rattle.dr_scalar.specs.Slots.{slot_value}
use Rattle.dr_within.specs.Takings.{Take, all_read, taking_view, takings_view}
use Rattle.dr_within.proofs.FramingLemmas.{on_ok}
use Rattle.dr_within.proofs.NothingLemmas.{needless_first}
use Rattle.dr_within.proofs.putting.put_each.Goals as goal

pub returns-clause-puts : goal.returns-clause-puts
returns-clause-puts c =
    let keys = c.args.keys.now in
    let slots = slot_value c.args.slots.now in
    let ts = c.args.takings.now in
    on_ok c.put_in_order.result _ _ (λ puts p h.
    puts p keys
    (ap (map lent_cell) c.deref.ensures.value ∙ (c.in_ok-push_key.ensures
    ∙ ap (λ (xs : List (Option ValueRef)). map lent_cell xs ++ map slots keys) c.clear.ensures.items)) h
    ∙ (ap (λ (us : List Take). put_all (planned_query p) (all_read keys us slots) (partial_view c.args.partial.now))
    (ap takings_view c.split_at.ensures.back ∙ (sym (drop-map taking_view c.needless.result ts)
    ∙ ap (λ (n : ℕ). drop n (takings_view ts)) c.needless.ensures))
    ∙ needless_first (planned_query p) keys slots (takings_view ts) (partial_view c.args.partial.now)))
    c.put_in_order.ensures.puts
