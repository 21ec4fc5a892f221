-- The parts of bodies by their places, and levels side by side.
use Rattle.std.specs.Prelude.{◌≡◌, ◌≤◌, ℕ, ◌-◌, List, length, take, drop, map}
use Rattle.dr_formats.specs.Page.{LevelParts, level_parts_of}
use Rattle.dr_levels.specs.declared.triplet.Levels.{Levels}
use Rattle.dr_page.specs.declared.part.Part.{Part}
use Rattle.dr_page.specs.declared.part.BodyParts.{BodyParts}

-- the bytes of a part of a body
abbrev pub part_in : List ℕ → Part → List ℕ
part_in bytes p = take (p.end - p.start) (drop p.start bytes)

-- the level parts of a body
abbrev pub parts_in : List ℕ → BodyParts → LevelParts
parts_in bytes p = level_parts_of (part_in bytes p.repetitions) (part_in bytes p.definitions)

-- whether a part lies in bytes
abbrev pub IsInside : List ℕ → Part → Type 0
IsInside bytes p = (p.start ≤ p.end) × (p.end ≤ length bytes)

-- whether all parts do
abbrev pub AreInside : List ℕ → BodyParts → Type 0
AreInside bytes p = IsInside bytes p.repetitions × IsInside bytes p.definitions × (p.values ≤ length bytes)

-- pairs of these repetition and definition levels
abbrev pub PairsOf : List ℕ → List ℕ → List Levels → Type 0
PairsOf rs ds ls = (map (λ (l : Levels). l.repetition) ls ≡ rs) × (map (λ (l : Levels). l.definition) ls ≡ ds)
