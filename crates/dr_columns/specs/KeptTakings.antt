-- What is put of the rows that a condition keeps of a chunk.
use Rattle.std.specs.Prelude.{◌≡◌, ◌<◌, ℕ, zero, suc, List, [], ◌∷◌, length, Bool, true}
use Rattle.std.specs.List.{flat_map}
use Rattle.dr_meaning.specs.Column.{Triplet}
use Rattle.dr_partials.specs.Putting.{Put}
use Rattle.dr_beside.specs.Neighbours.{column_at}
use Rattle.dr_rows_beside.specs.declared.source.Beside.{Beside}
use Rattle.dr_rows_beside.specs.Rows.{Row, picked}
use Rattle.dr_rows_beside.specs.RecordRows.{rows_of}
use Rattle.dr_rows_beside.specs.declared.keeping.Keeping.{Keeping}
use Rattle.dr_rows_beside.specs.Bits.{set_bits}
use Rattle.dr_rows_beside.specs.KeptBits.{bits_of, kept_bits, common_at}
use Rattle.dr_columns.specs.Takings.{Fires, Take, fired_read_puts, CanFire}
use Rattle.dr_columns.specs.ChunksTaken.{chunk_puts}

-- the bits of a leaf's rows
abbrev pub leaf_bits : List (List Triplet) → Keeping → ℕ → List Bool
leaf_bits C k leaf = kept_bits C k.own k.others.items (common_at k leaf) (column_at C leaf)

-- the rows that it keeps of a leaf with those beside it
abbrev pub kept_read : List (List Triplet) → Keeping → ℕ → List Beside → List Row
kept_read C k leaf bs = picked (leaf_bits C k leaf) (rows_of leaf bs C)

-- how many records it keeps
abbrev pub kept_count : List (List Triplet) → Keeping → ℕ
kept_count C k = set_bits (bits_of C k.own k.others.items 0)

-- of those rows of a leaf
abbrev pub kept_puts : List ℕ → List (List Triplet) → Keeping → Fires → List Put
kept_puts ks C k f = fired_read_puts ks (kept_read C k) f

-- of a chunk, of which it keeps so many records: nothing where it keeps none
abbrev pub kept_chunk_puts : List ℕ → List (List Triplet) → Keeping → List Fires → List Take → ℕ → List Put
kept_chunk_puts ks C k fs ends zero = []
kept_chunk_puts ks C k fs ends (suc n) = chunk_puts ks (kept_read C k) fs ends (suc n)

-- the rows of each leaf can be told, and those that are of use can be read
abbrev pub CanSift : List (List Triplet) → Keeping → List Fires → Type 0
CanSift C k [] = Unit {0}
CanSift C k (f ∷ fs) = (f.needed ≡ true → (f.leaf < length k.commons.items) × CanFire C f) × CanSift C k fs
