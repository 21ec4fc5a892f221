-- What objects of a result give a striper's columns.
use Rattle.std.specs.Prelude.{◌≡◌, ℕ, List, take, Bool, Result, Ok, Err}
use Rattle.std.specs.List.{list_all}
use Rattle.dr_memory.specs.declared.NoMemory.{NoMemory}
use Rattle.dr_meaning.specs.Path.{Step, Leaf}
use Rattle.dr_meaning.specs.Record.{Node}
use Rattle.dr_meaning.specs.Column.{Triplet, column}
use Rattle.dr_cells.specs.Results.{ResultCell, ShapeTree, read_rows}
use Rattle.dr_striper.specs.Striping.{gained}
use Rattle.dr_striper.specs.Stripers.{fits_leaf}
use Rattle.dr_sub_meaning.specs.ResultRecords.{records_of}

-- the first so many objects of a shape, as records
abbrev pub records_in : ShapeTree → ℕ → List ResultCell → List Node
records_in s n cs = records_of (read_rows s n cs).objects

-- each of these leaves takes what each of these records gives it
abbrev pub fit_leaves : List Leaf → List Node → Bool
fit_leaves ls R = list_all (λ (n : Node). list_all (fits_leaf n) ls) R

-- each column gained these records', one after another; where memory was wanting, those of the first so many
abbrev pub AddsRecords : List Node → List (List Step) → List (List Triplet) → List (List Triplet) → Result (Unit {0}) NoMemory → Type 0
AddsRecords R F before after (Ok done) = after ≡ gained (λ (p : List Step). column p R) F before
AddsRecords R F before after (Err e) = (k : ℕ) × (after ≡ gained (λ (p : List Step). column p (take k R)) F before)
