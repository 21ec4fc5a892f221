-- What links hold at the paths of a tablet, as far as they tell.
use Rattle.std.specs.Prelude.{◌≡◌, List, [], ◌∷◌, ◌++◌, map, Option, Some, None, ◌⊎◌, ℕ}
use Rattle.dr_outside.specs.Link.{Files}

-- what a link holds at a path: it doesn't tell; there is nothing; there are these bytes
pub data Held : Type 0 where
  untold : Held
  absent : Held
  present : List ℕ → Held

-- where the link tells
abbrev pub held_file : Option (List ℕ) → Held
held_file None = absent
held_file (Some bytes) = present bytes

abbrev pub held_at : Option Files → List ℕ → Held
held_at None path = untold
held_at (Some files) path = held_file (files path)

-- what a link holds at each of a tablet's leaves, by the paths of the tablet on them
abbrev pub held_on : Option Files → List (List ℕ) → List Held
held_on link paths = map (held_at link) paths

-- what each link holds there
abbrev pub held_by_all : List (Option Files) → List (List ℕ) → List Held
held_by_all [] paths = []
held_by_all (link ∷ links) paths = held_on link paths ++ held_by_all links paths

-- these bytes are held somewhere
abbrev pub IsHeld : List ℕ → List Held → Type 0
IsHeld bytes [] = ⊥
IsHeld bytes (h ∷ hs) = (h ≡ present bytes) ⊎ IsHeld bytes hs

-- a link doesn't tell what it holds
abbrev pub IsUntold : List Held → Type 0
IsUntold [] = ⊥
IsUntold (h ∷ hs) = (h ≡ untold) ⊎ IsUntold hs
