-- Of 1,025 open leaves of a file the first 1,024 are those of its schema, by computation.
use Rattle.std.specs.Prelude.{◌≡◌, ℕ, zero, suc, List, [], ◌∷◌, ◌++◌, map, drop, Option, Some, None, option_map, pos, codes, decimal, refl}
use Rattle.std.specs.Fmt.{digits}
use Rattle.dr_meaning.specs.Schema.{optional, Schema, leaf_count}
use Rattle.dr_meaning.specs.Path.{Leaf, leaves}
use Rattle.dr_formats.specs.FileSchema.{FileFields, no_file_fields, file_field, file_leaf, file_group, open_schema}

-- so many leaves of four bytes each, of which the first has this number in its name
abbrev leaves_from : ℕ → ℕ → FileFields
leaves_from zero n = no_file_fields
leaves_from (suc k) n = file_field (codes "a" ++ decimal n) optional (file_leaf (pos 1) None) (leaves_from k (suc n))

-- so many groups of 25 such leaves
abbrev groups_from : ℕ → ℕ → FileFields
groups_from zero n = no_file_fields
groups_from (suc k) n = file_field (codes "g" ++ decimal n) optional (file_group (leaves_from 25 0)) (groups_from k (suc n))

-- how many leaves the open part of a file of so many groups has
abbrev open_leaves : ℕ → Option ℕ
open_leaves k = option_map (λ (s : Schema). leaf_count s.fields) (open_schema (record { name = codes "R"; fields = groups_from k 0 }))

-- of 40 groups all leaves, of 41 all but the last
pub most : (open_leaves 40 ≡ Some 1000) × (open_leaves 41 ≡ Some 1024)
unfolding digits
most = (refl, refl)

-- the names of the leaves behind the first 1,023
abbrev last_ones : Schema → List (List (List ℕ))
last_ones s = drop 1023 (map (λ (l : Leaf). l.names) (leaves s.fields))

-- they are the first ones: the last has the 24th name of the 41st group
pub first_ones : option_map last_ones (open_schema (record { name = codes "R"; fields = groups_from 41 0 })) ≡ Some ((codes "g40" ∷ codes "a23" ∷ []) ∷ [])
unfolding digits
first_ones = refl
