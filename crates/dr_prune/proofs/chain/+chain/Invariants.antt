use Rattle.std.proofs.Common.{◌≡◌, ◌≤◌, ◌+◌, ◌*◌, ◌∷◌, length, drop, map}
use Rattle.dr_meaning.specs.Schema.{repeated_fields}
use Rattle.dr_nested.specs.Views.{fields_view}
use Rattle.dr_nested.specs.PathView.{step_view}
use Rattle.dr_kept_laws.specs.ChainNumbers.{numbers_in}
use Rattle.dr_prune.proofs.ChainLemmas.{counted_from}
use Rattle.dr_prune.proofs.chain.+chain.Given as goal

-- ---- how long the path still is, and then which function calls which

abbrev pub decreases-add_in_group : goal.decreases-add_in_group
decreases-add_in_group l = 4 * length l.path.now

abbrev pub decreases-add_from_step : goal.decreases-add_from_step
decreases-add_from_step l = 4 * length l.rest.now + 3

abbrev pub decreases-add_of_field : goal.decreases-add_of_field
decreases-add_of_field l = 4 * length l.path.now + 2

abbrev pub decreases-add_in_shape : goal.decreases-add_in_shape
decreases-add_in_shape l = 4 * length l.path.now + 1

-- the path goes through a field from this one on
abbrev pub invariant-add_from_step-fields : goal.invariant-add_from_step-fields
invariant-add_from_step-fields l = record {
  within : l.place ≤ l.step.place;
  count : l.number + repeated_fields (fields_view (drop l.place l.fields.items)) ≡ l.first + repeated_fields (fields_view l.fields.items);
  same : l.numbers.items ≡ l.fn.numbers.items;
  numbers : numbers_in (fields_view (drop l.place l.fields.items)) l.number (counted_from l.place (step_view l.step) ∷ map step_view l.rest)
      ≡ numbers_in (fields_view l.fields.items) l.first (step_view l.step ∷ map step_view l.rest);
}
