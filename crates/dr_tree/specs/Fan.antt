-- The tree of a fan, a level at a time.
use Rattle.std.specs.Prelude.{ℕ, suc, List, ◌∷◌, map, Option, Some, None}
use Rattle.dr_partials.specs.Trees.{Tree as MeantTree, in_chunks, server_of, grow}
use Rattle.dr_tree.specs.Views.{tree_view}
use Rattle.dr_tree.specs.declared.tree.Tree.{Tree}

-- the servers of neighbours, each with so many children at most beside its first
abbrev pub servers_of : ℕ → List MeantTree → List MeantTree
servers_of more ts = map server_of (in_chunks (suc more) ts)

-- the tree that grows of a level in so many steps
abbrev pub all_grown : ℕ → ℕ → List MeantTree → MeantTree
all_grown levels more ts = grow levels (suc more) ts

-- a server before others, where there is one
abbrev pub server_before : Option Tree → List MeantTree → List MeantTree
server_before None ts = ts
server_before (Some t) ts = tree_view t ∷ ts
