use Rattle.std.proofs.Common.{◌≡◌, map}
use Rattle.std.specs.List.{flat_map}
use Rattle.dr_meaning.specs.Binding.{first_fault, faults_in, bind_items, arguments_alone}
use Rattle.dr_sql.specs.Views as syntax
use Rattle.dr_resolve.specs.Faults.{earlier, first_view}
use Rattle.dr_resolve.specs.Outcomes.{fields_in, leaves_in}
use Rattle.dr_resolve.proofs.ItemLemmas.{AloneSoFar, GoesOn, alone_from, items_from}
use Rattle.dr_resolve.proofs.names.Binder.items.Given as goal

abbrev pub invariant-items : goal.invariant-items
invariant-items l = record {
  items : GoesOn (fields_in l.self) (leaves_in l.self) (items_from (fields_in l.self) l.number l.items) (bind_items (fields_in l.self) 0 (map syntax.item_view l.items)) l.bound.items;
  alone : AloneSoFar (fields_in l.self) (leaves_in l.self) (alone_from (fields_in l.self) l.number l.items) (arguments_alone (fields_in l.self) (map syntax.item_view l.items)) l.fn.alone.items l.alone.items;
  faults : earlier (first_view l.first) (first_fault (flat_map faults_in (items_from (fields_in l.self) l.number l.items))) ≡ earlier (first_view l.fn.first) (first_fault (flat_map faults_in (bind_items (fields_in l.self) 0 (map syntax.item_view l.items))));
}
