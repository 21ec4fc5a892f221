-- What serving a query ends with: a partial of all tablets, or the tablets that are left.
use Rattle.std.specs.Prelude.{◌≡◌, ◌≢◌, ℕ, suc, ⊤, List, [], ◌∷◌, length, Option}
use Rattle.std.specs.List.{range_with_len}
use Rattle.dr_meaning.specs.Schema.{Schema}
use Rattle.dr_meaning.specs.Path.{Leaf}
use Rattle.dr_meaning.specs.Query.{Query}
use Rattle.dr_meaning.specs.QueryLeaves.{query_leaves}
use Rattle.dr_outside.specs.Link.{Files, LinkShown}
use Rattle.dr_partials.specs.Partials.{Partial}
use Rattle.dr_partials.specs.Trees.{Tree, tablets_of, gathered}
use Rattle.dr_partials.specs.Rewriting.{leaf_query}
use Rattle.dr_reading.specs.Held.{held_by_all}
use Rattle.dr_reading.specs.Causes.{RisesApart}
use Rattle.dr_reading.specs.Scan.{Copy, copy_paths}
use Rattle.dr_reading.specs.Left.{LeftTablet, LeftUnanswered, causes_met}
use Rattle.dr_reading.specs.Truth.{TabletTruth, IsTrueOf}

-- what is served: a query on a table of this schema, by these links, of which the first goes last over what is left
pub record Serving : Type 0 where
  pub schema : Schema
  pub query : Query
  -- what the first link shows before it goes over what is left
  pub first_link : LinkShown
  -- what each other link holds, as far as it tells
  pub other_links : List (Option Files)
  -- of each tablet its copies, in the order in which they are tried
  pub tablets : List (List Copy)

abbrev pub serving_leaves : Serving → List Leaf
serving_leaves s = query_leaves s.schema.fields (leaf_query s.query)

-- what each link holds, as far as it tells
abbrev pub held_by_links : Serving → List (Option Files)
held_by_links s = s.first_link.held ∷ s.other_links

-- the truth of a tablet of these copies
abbrev pub truth_of : Serving → List Copy → TabletTruth
truth_of s copies = record { schema = s.schema; query = leaf_query s.query; held = held_by_all (held_by_links s) (copy_paths copies) }

-- there is a piece that is true of a tablet of these copies
abbrev pub HasPiece : Serving → List Copy → Type 0
HasPiece s copies = (p : Partial) × IsTrueOf (truth_of s copies) p

-- for each of these tablets, the first of which is the tth, the piece is true of it
abbrev pub AreTrueFrom : Serving → (ℕ → Partial) → ℕ → List (List Copy) → Type 0
AreTrueFrom s piece t [] = ⊤
AreTrueFrom s piece t (copies ∷ rest) = IsTrueOf (truth_of s copies) (piece t) × AreTrueFrom s piece (suc t) rest

-- finished: what a tree of all tablets gathers of a piece of each that is true of it
abbrev pub IsFinished : Serving → Tree → Partial → Type 0
IsFinished s tree p = (piece : ℕ → Partial) × (tablets_of tree ≡ range_with_len 0 (length s.tablets)) × AreTrueFrom s piece 0 s.tablets
    × (p ≡ gathered piece tree)

-- unfinished: some tablets are left, each of whose copies the first link tried, of each other one there is a piece that is true of it, and each
-- failed read among the causes has a rise of the first link's count of its own, up to what that is now
abbrev pub IsUnfinished : Serving → ℕ → List LeftTablet → Type 0
IsUnfinished s now left = (left ≢ []) × LeftUnanswered s.schema (serving_leaves s) s.first_link (HasPiece s) 0 s.tablets left
    × RisesApart s.first_link.faults (causes_met left) now
