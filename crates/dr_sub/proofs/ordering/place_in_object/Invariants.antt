use Rattle.std.proofs.Common.{◌≡◌, ◌≤◌, map, drop}
use Rattle.dr_nested.specs.PathView.{path_view}
use Rattle.dr_ordering.specs.Ordered.{place_of_name, record_names}
use Rattle.dr_plan.specs.Views.{record_item_view}
use Rattle.dr_sub.proofs.NestedLemmas.{Ahead}
use Rattle.dr_sub.proofs.ordering.place_in_object.Given as goal

-- the name isn't among those before this item
abbrev pub invariant-items : goal.invariant-items
invariant-items l = record {
  rest : Ahead l.place (place_of_name l.name (record_names (map (record_item_view (map path_view l.leaves)) (drop l.item-index l.items))))
      ≡ place_of_name l.name (record_names (map (record_item_view (map path_view l.leaves)) l.items));
  within : l.place ≤ l.item-index;
}
