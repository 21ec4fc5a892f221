-- Groups of distinct key tuples, in any order, and where one is among them.
use Rattle.std.specs.Prelude.{◌≡◌, ◌<◌, ◌≤◌, ◌+◌, ℕ, List, [], ◌∷◌, map, length, get_or, Option, Some, None, if◌then◌else◌}
use Rattle.std.specs.Ordering.{is_eq}
use Rattle.dr_meaning.specs.Record.{Value}
use Rattle.dr_meaning.specs.Query.{tuple_order}
use Rattle.dr_partials.specs.Partials as meant
use Rattle.dr_group.specs.Views.{cell_view}
use Rattle.dr_group.specs.Groups.{no_group}
use Rattle.dr_group.specs.Hashes.{tuple_hash}
use Rattle.dr_group.specs.declared.group.Group.{Group}

-- 1 where two key tuples are the same
abbrev pub once : List (Option Value) → List (Option Value) → ℕ
once t u = if is_eq (tuple_order t u) then 1 else 0

-- how many groups have a key tuple
abbrev pub times : List (Option Value) → List meant.Group → ℕ
times t [] = 0
times t (g ∷ gs) = once t g.keys + times t gs

-- each key tuple once
abbrev pub AreDistinct : List meant.Group → Type 0
AreDistinct gs = (t : List (Option Value)) → times t gs ≤ 1

-- the group of a number has the key tuple, or none has
abbrev pub IsFound : List (Option Value) → List meant.Group → Option ℕ → Type 0
IsFound t gs (Some k) = (k < length gs) × ((get_or gs k no_group).keys ≡ t)
IsFound t gs None = times t gs ≡ 0

-- the key tuples of groups
abbrev pub tuples_of : List meant.Group → List (List (Option Value))
tuples_of gs = map (λ (g : meant.Group). g.keys) gs

-- the hashes of the groups' key tuples
abbrev pub group_hash : Group → ℕ
group_hash g = tuple_hash (map cell_view g.keys.items)

abbrev pub group_hashes : List Group → List ℕ
group_hashes gs = map group_hash gs
