use Rattle.std.proofs.Common.{◌≡◌, map, drop}
use Rattle.std.specs.List.{list_all}
use Rattle.dr_meta.specs.Views.{group_view}
use Rattle.dr_file.specs.Groups.{is_uncompressed_at}
use Rattle.dr_file.proofs.places.all_uncompressed.Given as goal

-- the places so far pass
abbrev pub invariant-places : goal.invariant-places
invariant-places l = list_all (λ i. list_all (is_uncompressed_at i) (map group_view l.groups)) (drop l.place-index l.places) ≡ list_all (λ i. list_all (is_uncompressed_at i) (map group_view l.groups)) l.places
