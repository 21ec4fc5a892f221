-- What is known of groups that are merged.
use Rattle.std.specs.Prelude.{◌≡◌, ℕ, List, [], ◌∷◌, map, length, Bool, true, nat_lt}
use Rattle.std.specs.List.{list_all}
use Rattle.dr_partials.specs.Partials as meant
use Rattle.dr_partials.specs.PartialTypes.{ascends}
use Rattle.dr_group.specs.declared.group.Group.{Group}

-- each is the number of a group
abbrev pub are_numbers : List Group → List ℕ → Bool
are_numbers gs is = list_all (λ i. nat_lt i (length gs)) is

-- each key tuple is less than the next
abbrev pub AreAscending : List meant.Group → Type 0
AreAscending gs = ascends (map (λ (g : meant.Group). g.keys) gs) ≡ true

-- the first groups of both, joined
abbrev pub join_firsts : List meant.Group → List meant.Group → List meant.Group
join_firsts [] hs = []
join_firsts (g ∷ gs) [] = []
join_firsts (g ∷ gs) (h ∷ hs) = meant.join_groups g h ∷ []
