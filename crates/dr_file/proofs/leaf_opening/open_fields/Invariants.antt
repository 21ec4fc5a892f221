use Rattle.std.proofs.Common.{◌≡◌, map, length, drop, take, true}
use Rattle.std.specs.Prelude.{is_some}
use Rattle.std.specs.List.{list_all}
use Rattle.dr_meta.specs.Views.{group_view}
use Rattle.dr_nested.specs.PathView.{path_view}
use Rattle.dr_file.specs.Groups.{chunk_of, are_triplets}
use Rattle.dr_file.specs.Openings.{opened_field_view, shown_by_each}
use Rattle.dr_file.specs.Sources.{places_read}
use Rattle.dr_file.proofs.leaf_opening.open_fields.Given as goal

-- the leaves so far; those that are left have their chunks, not too many triplets
abbrev pub invariant-leaves : goal.invariant-leaves
invariant-leaves l = record {
  shown : map opened_field_view l.leaves.items ≡ shown_by_each (map group_view l.groups) (map path_view (take l.index l.paths)) (take l.index l.sources);
  there : list_all (λ i. list_all (λ g. is_some (chunk_of i g)) (map group_view l.groups)) (places_read (drop l.index l.sources)) ≡ true;
  triplets : list_all (λ i. are_triplets (map group_view l.groups) i) (places_read (drop l.index l.sources)) ≡ true;
  count : length l.leaves.items ≡ l.index;
}
