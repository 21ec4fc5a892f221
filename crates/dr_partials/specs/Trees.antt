-- Serving trees: leaf servers, each with a tablet, below intermediate servers (Dremel 2010, section 6).
use Rattle.std.specs.Prelude.{ℕ, zero, suc, ◌-◌, List, [], ◌∷◌, ◌++◌, map, length, take, drop, Bool, true, ◌&&◌, nat_le}
use Rattle.std.specs.List.{range_with_len}
use Rattle.dr_partials.specs.Partials.{Partial, merge}

mutual
  -- a leaf server with the tablet of this number, or an intermediate server with one child at least
  pub data Tree : Type 0 where
    leaf_server : ℕ → Tree
    intermediate_server : Tree → Trees → Tree

  pub data Trees : Type 0 where
    no_trees : Trees
    next_tree : Tree → Trees → Trees

-- the tablets of a tree's leaf servers, in order
abbrev mutual
  pub tablets_of : Tree → List ℕ
  tablets_of (leaf_server t) = t ∷ []
  tablets_of (intermediate_server t ts) = tablets_of t ++ tablets_of_all ts

  pub tablets_of_all : Trees → List ℕ
  tablets_of_all no_trees = []
  tablets_of_all (next_tree t ts) = tablets_of t ++ tablets_of_all ts

-- whether each intermediate server has at most so many children
abbrev pub count_trees : Trees → ℕ
count_trees no_trees = 0
count_trees (next_tree t ts) = suc (count_trees ts)

abbrev mutual
  pub children_at_most : ℕ → Tree → Bool
  children_at_most n (leaf_server t) = true
  children_at_most n (intermediate_server t ts) = nat_le (suc (count_trees ts)) n && children_at_most n t && all_at_most n ts

  pub all_at_most : ℕ → Trees → Bool
  all_at_most n no_trees = true
  all_at_most n (next_tree t ts) = children_at_most n t && all_at_most n ts

-- what a tree gathers of the partials of its tablets: an intermediate server merges those of its children, in their order
abbrev mutual
  pub gathered : (ℕ → Partial) → Tree → Partial
  gathered piece (leaf_server t) = piece t
  gathered piece (intermediate_server t ts) = gathered_behind piece (gathered piece t) ts

  pub gathered_behind : (ℕ → Partial) → Partial → Trees → Partial
  gathered_behind piece p no_trees = p
  gathered_behind piece p (next_tree t ts) = gathered_behind piece (merge p (gathered piece t)) ts

-- ---- the tree of a fan

abbrev pub trees_of : List Tree → Trees
trees_of [] = no_trees
trees_of (t ∷ ts) = next_tree t (trees_of ts)

-- neighbours that come below one server: the first and the others
pub record Chunk : Type 0 where
  pub first : Tree
  pub others : List Tree

-- the first `fan` of them, then those behind in the same way: so many chunks at most
abbrev pub chunks_at_most : ℕ → ℕ → List Tree → List Chunk
chunks_at_most zero fan ts = []
chunks_at_most (suc most) fan [] = []
chunks_at_most (suc most) fan (t ∷ ts) = record { first = t; others = take (fan - 1) ts } ∷ chunks_at_most most fan (drop (fan - 1) ts)

-- neighbours, cut into chunks of `fan`; the last may have fewer
abbrev pub in_chunks : ℕ → List Tree → List Chunk
in_chunks fan ts = chunks_at_most (length ts) fan ts

-- the intermediate server of a chunk
abbrev pub server_of : Chunk → Tree
server_of c = intermediate_server c.first (trees_of c.others)

-- level by level, until one server is left; where the levels are used up before, one server takes all; of no trees tablet 0's leaf server
abbrev pub grow : ℕ → ℕ → List Tree → Tree
grow levels fan [] = leaf_server 0
grow levels fan (t ∷ []) = t
grow zero fan (t ∷ u ∷ us) = intermediate_server t (trees_of (u ∷ us))
grow (suc levels) fan (t ∷ u ∷ us) = grow levels fan (map server_of (in_chunks fan (t ∷ u ∷ us)))

-- the tree of the tablets 0 to n - 1, for one at least, with `fan` neighbours below one server, at least two
unfoldable pub of_fan : ℕ → ℕ → Tree
of_fan n fan = grow n fan (map leaf_server (range_with_len 0 n))
