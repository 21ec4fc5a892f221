-- What was seen of gates, and which levels a leaf may then have.
use Rattle.std.specs.Prelude.{◌≡◌, ℕ, List, [], ◌∷◌, ◌++◌, Bool, true, false, ◌&&◌, ◌||◌, ◌==◌, nat_lt, if◌then◌else◌, Option, Some, None, option_map, get_or}
use Rattle.dr_meaning.specs.Column.{Triplet}
use Rattle.dr_levels.specs.Views.{levels_pair, triplet_levels}
use Rattle.dr_levels.specs.declared.triplet.Levels.{Levels}
use Rattle.dr_moves.specs.Course.{Gate}
use Rattle.dr_walk.specs.Laying.{FlatItem, flat_look, flat_give, flat_visit, flat_null, flat_end, Lap}

-- ---- the levels that come next

-- those that are kept of a leaf
abbrev pub levels_at : List (Option Levels) → ℕ → Option (ℕ × ℕ)
levels_at heads i = option_map levels_pair (get_or heads i None)

-- the definition level, and the repetition level, 0 where there is none
abbrev pub level_definition : Option (ℕ × ℕ) → ℕ
level_definition None = 0
level_definition (Some p) = p.1

abbrev pub level_repetition : Option (ℕ × ℕ) → ℕ
level_repetition None = 0
level_repetition (Some p) = p.0

abbrev pub next_definitions : List (Option Levels) → ℕ → ℕ
next_definitions heads i = level_definition (levels_at heads i)

-- what is kept are the levels of these triplets
abbrev pub AreLevelsOf : List (Option Levels) → (ℕ → Option Triplet) → Type 0
AreLevelsOf heads ts = (i : ℕ) → levels_at heads i ≡ option_map triplet_levels (ts i)

-- ---- gates

-- the definition level of the first shut gate; none where all are open
abbrev pub first_shut : (ℕ → ℕ) → List Gate → Option ℕ
first_shut next [] = None
first_shut next (g ∷ G) = if nat_lt g.definition (next g.leaf) then first_shut next G else Some g.definition

-- whether a leaf with these two definition levels may have this one: that of a shut gate, or one of its own
abbrev pub may_come : ℕ → ℕ → Option ℕ → ℕ → Bool
may_come low full None d = (d == low) || (d == full)
may_come low full (Some e) d = d == e

-- the next levels of a leaf with these two definition levels, where they are due in an instance that began so
abbrev pub due_levels : ℕ → ℕ → Option ℕ → ℕ → Option Levels → Option Levels
due_levels low full seen begun None = None
due_levels low full seen begun (Some l) = if (l.repetition == begun) && may_come low full seen l.definition then Some l else None

-- the definition level of the NULLs of a repeated field that is absent at this one or where a gate is shut; none where it is there
abbrev pub absent_level : ℕ → Option ℕ → ℕ → Option ℕ
absent_level low None d = if nat_lt low d then None else Some low
absent_level low (Some e) d = Some e

-- what was seen last is taken, where an item stands behind gates
abbrev pub TakesSeen : Bool → List (Option ℕ) → List (Option ℕ) → Option ℕ → Type 0
TakesSeen false old new seen = (seen ≡ None) × (new ≡ old)
TakesSeen true old new seen = (xs : List (Option ℕ)) (x : Option ℕ) → old ≡ xs ++ x ∷ [] → (seen ≡ x) × (new ≡ xs)

-- the last one is taken, where there is one
abbrev pub TakesLast : {A : Type 0} → List A → List A → Option A → Type 0
TakesLast old new None = old ≡ []
TakesLast old new (Some x) = old ≡ new ++ x ∷ []

-- ---- what stands at a place

-- a repeated field at the end of an instance
abbrev pub lap_there : Option FlatItem → Option Lap
lap_there None = None
lap_there (Some (flat_look G)) = None
lap_there (Some (flat_give g)) = None
lap_there (Some (flat_visit v)) = None
lap_there (Some (flat_null i)) = None
lap_there (Some (flat_end o)) = o

-- the gates where an instance begins
abbrev pub looks_there : Option FlatItem → List (List Gate)
looks_there None = []
looks_there (Some (flat_look G)) = G
looks_there (Some (flat_give g)) = []
looks_there (Some (flat_visit v)) = []
looks_there (Some (flat_null i)) = []
looks_there (Some (flat_end o)) = []
