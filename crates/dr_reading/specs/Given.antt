-- Which records the copies of tablets give.
use Rattle.std.specs.Prelude.{◌≡◌, ℕ, true, List, [], ◌∷◌, Option, Some, None, ◌⊎◌, ⊤}
use Rattle.std.specs.List.{list_all}
use Rattle.dr_meaning.specs.Schema.{Schema}
use Rattle.dr_meaning.specs.Path.{Leaf}
use Rattle.dr_meaning.specs.Record.{Node, is_record}
use Rattle.dr_formats.specs.File.{IsFileOf}
use Rattle.dr_outside.specs.Link.{Files}
use Rattle.dr_reading.specs.Scan.{Copy}

-- there is a file of these records for these leaves
abbrev pub IsFileThere : Schema → List Leaf → List Node → Option (List ℕ) → Type 0
IsFileThere s F R None = ⊥
IsFileThere s F R (Some bytes) = IsFileOf bytes s F R

-- one of these copies is a file of these records
abbrev pub SomeIsFile : Schema → List Leaf → Files → List Copy → List Node → Type 0
SomeIsFile s F files [] R = ⊥
SomeIsFile s F files (c ∷ cs) R = IsFileThere s F R (files c.path) ⊎ SomeIsFile s F files cs R

-- a tablet of these copies gives these records: one of the copies is a file of them; of a link that doesn't tell it is known only that they are records
abbrev pub IsGiven : Schema → List Leaf → Option Files → List Copy → List Node → Type 0
IsGiven s F None cs R = list_all (is_record s.fields) R ≡ true
IsGiven s F (Some files) cs R = SomeIsFile s F files cs R

-- each tablet gives its records
abbrev pub AreGiven : Schema → List Leaf → Option Files → List (List Copy) → List (List Node) → Type 0
AreGiven s F held [] [] = ⊤
AreGiven s F held (cs ∷ ts) (R ∷ Rs) = IsGiven s F held cs R × AreGiven s F held ts Rs
AreGiven s F held ts Rs = ⊥
