use Rattle.std.proofs.Common.{◌≡◌, ◌≤◌, map, drop}
use Rattle.std.specs.Prelude.{IsSome}
use Rattle.dr_meta.specs.Views.{item_view}
use Rattle.dr_open.specs.Places.{passed}
use Rattle.dr_open.proofs.PassingLemmas.{and_leaves}
use Rattle.dr_open.proofs.skipping.skip_fields.Given as goal

-- the leaves so far and those of the fields still to be passed are those of all
abbrev pub invariant-items : goal.invariant-items
invariant-items l = record {
  leaves : l.leaves ≤ l.elements;
  are_fields : IsSome (passed l.left (map item_view (drop l.elements l.items)));
  same : and_leaves l.leaves (passed l.left (map item_view (drop l.elements l.items))) ≡ passed l.fn.fields (map item_view l.items);
}
