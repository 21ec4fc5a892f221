-- The children of a tree's root, and what came below them.
use Rattle.std.specs.Prelude.{ℕ, List, [], ◌∷◌, map}
use Rattle.std.specs.List.{flat_map}
use Rattle.dr_partials.specs.Trees.{Tree, leaf_server, intermediate_server, Trees, no_trees, next_tree, tablets_of}
use Rattle.dr_group.specs.declared.group_map.GroupMap.{GroupMap}
use Rattle.dr_tree.specs.declared.subtree.Subtree.{Subtree}

-- the groups that came below all of them
abbrev pub all_piled : List Subtree → List GroupMap
all_piled ss = flat_map (λ (s : Subtree). s.pile.items) ss

-- the tablets below each
abbrev pub tablets_below : List Subtree → List (List ℕ)
tablets_below ss = map (λ (s : Subtree). s.tablets.items) ss

-- the tablets of each of some trees
abbrev pub tablets_of_each : Trees → List (List ℕ)
tablets_of_each no_trees = []
tablets_of_each (next_tree t ts) = tablets_of t ∷ tablets_of_each ts

-- those below each child of the root; a leaf server alone is its own
abbrev pub tablets_by_child : Tree → List (List ℕ)
tablets_by_child (leaf_server t) = (t ∷ []) ∷ []
tablets_by_child (intermediate_server t ts) = tablets_of t ∷ tablets_of_each ts
