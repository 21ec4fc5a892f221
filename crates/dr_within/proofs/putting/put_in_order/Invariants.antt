use Rattle.std.proofs.Common.{◌≡◌, ℕ, List, drop, map}
use Rattle.dr_partials.specs.Putting.{put_all}
use Rattle.dr_plan.specs.Planned.{Planned, planned_query}
use Rattle.dr_group.specs.Partials.{partial_view, IsPartialOf}
use Rattle.dr_group.specs.Views.{lent_cell}
use Rattle.dr_scalar.specs.Slots.{slot_value}
use Rattle.dr_within.specs.Takings.{all_read, takings_view}
use Rattle.dr_within.proofs.putting.put_in_order.Given as goal

-- the takings from this one on are still to be put
abbrev pub invariant-takings : goal.invariant-takings
invariant-takings l =
    record {
      of_plan : (p : Planned) → IsPartialOf p l.initial.partial → IsPartialOf p l.partial;
      puts : (p : Planned) (keys : List ℕ) → map lent_cell l.key ≡ map (slot_value l.slots) keys → IsPartialOf p l.initial.partial
          → put_all (planned_query p) (all_read keys (takings_view (drop l.taking-index l.takings)) (slot_value l.slots)) (partial_view l.partial)
          ≡ put_all (planned_query p) (all_read keys (takings_view l.takings) (slot_value l.slots)) (partial_view l.initial.partial);
    }
