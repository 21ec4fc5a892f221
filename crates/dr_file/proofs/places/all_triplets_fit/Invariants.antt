use Rattle.std.proofs.Common.{◌≡◌, map, drop}
use Rattle.std.specs.List.{list_all}
use Rattle.dr_meta.specs.Views.{group_view}
use Rattle.dr_file.specs.Groups.{are_triplets}
use Rattle.dr_file.proofs.places.all_triplets_fit.Given as goal

-- the places so far pass
abbrev pub invariant-places : goal.invariant-places
invariant-places l = list_all (λ i. are_triplets (map group_view l.groups) i) (drop l.place-index l.places) ≡ list_all (λ i. are_triplets (map group_view l.groups) i) l.places
