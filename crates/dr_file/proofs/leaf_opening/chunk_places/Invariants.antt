use Rattle.std.proofs.Common.{◌≡◌, map, drop, take, true}
use Rattle.std.specs.Prelude.{Some, is_some}
use Rattle.std.specs.List.{list_all}
use Rattle.dr_meta.specs.Views.{group_view}
use Rattle.dr_file.specs.Groups.{chunk_of}
use Rattle.dr_file.specs.Openings.{chunk_place_view, shown_chunks}
use Rattle.dr_file.proofs.leaf_opening.chunk_places.Given as goal

-- the chunks of the row groups so far; those that are left have one, too
abbrev pub invariant-groups : goal.invariant-groups
invariant-groups l = record {
  shown : map (λ c. Some (chunk_place_view c)) l.chunks.items ≡ shown_chunks l.place (map group_view (take l.group-index l.groups));
  there : list_all (λ g. is_some (chunk_of l.place g)) (map group_view (drop l.group-index l.groups)) ≡ true;
}
