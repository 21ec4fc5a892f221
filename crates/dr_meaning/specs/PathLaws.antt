-- What finding a leaf says of its path.
use Rattle.std.specs.Prelude.{◌≡◌, ◌↔◌, ℕ, List, true, Some, Ok}
use Rattle.std.specs.List.{slice_get, join_with_byte}
use Rattle.dr_meaning.specs.Schema.{Fields, is_group}
use Rattle.dr_meaning.specs.Path.{Leaf, find_leaf, is_leaf_path, leaves}

-- the path of a leaf that a text names is the path of a leaf of the schema
abbrev pub FoundLeavesHaveLeafPaths : Type 0
FoundLeavesHaveLeafPaths = (text : List ℕ) (fs : Fields) (l : Leaf) → find_leaf text fs ≡ Ok l → is_leaf_path fs l.path ≡ true

-- a leaf among those of these fields, whose names joined by dots are the text
abbrev pub IsNamedLeaf : List ℕ → Fields → Leaf → Type 0
IsNamedLeaf text fs l = (i : ℕ) × (slice_get (leaves fs) i ≡ Some l) × (join_with_byte 46 l.names ≡ text)

-- a text finds a leaf exactly where that is among the leaves and its names, joined by dots, are the text
abbrev pub FindLeafIsExact : Type 0
FindLeafIsExact = (text : List ℕ) (fs : Fields) (l : Leaf) → is_group fs ≡ true → (find_leaf text fs ≡ Ok l) ↔ IsNamedLeaf text fs l
