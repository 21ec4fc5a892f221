-- What is read of a file for some leaves of a schema: the projections of its records, or why there are none.
use Rattle.std.specs.Prelude.{◌≡◌, ◌≤◌, ℕ, List, [], ◌∷◌, map, length, Bool, true, nat_le, Some, ⊤}
use Rattle.std.specs.List.{slice_get, list_all}
use Rattle.dr_meaning.specs.Schema.{Schema, Fields}
use Rattle.dr_meaning.specs.Path.{Leaf, leaves, paths_of_leaves}
use Rattle.dr_meaning.specs.Record.{Node, is_record, project}
use Rattle.dr_meaning.specs.Column.{Triplet, column}
use Rattle.dr_formats.specs.File.{bad_footer, bad_schema, bad_codec, bad_data, IsFileOf, HasCause, most_rows, most_triplets}
use Rattle.dr_formats.specs.Opening.{leaf_cause}
use Rattle.dr_outside.specs.declared.cause.Cause.{Cause}
use Rattle.dr_walk.specs.Walking.{HasColumns, NoneHas}
use Rattle.dr_walk.specs.declared.fault.AssembleFault.{AssembleFault}
use Rattle.dr_file.specs.OpenedFiles.{IsColumnOf}
use Rattle.dr_file.specs.declared.file_fault.FileFault.{FileFault}
use Rattle.dr_formats.specs.Writing.{triplet_count}

-- each of these is a leaf of the fields
abbrev pub AreLeavesOf : Fields → List Leaf → Type 0
AreLeavesOf fs [] = ⊤
AreLeavesOf fs (l ∷ F) = ((i : ℕ) × (slice_get (leaves fs) i ≡ Some l)) × AreLeavesOf fs F

-- these are the projections to the leaves of records of which the bytes are a file for these leaves
abbrev pub AreOfFile : List ℕ → Schema → List Leaf → List Node → Type 0
AreOfFile bytes s F P = (R : List Node) × IsFileOf bytes s F R × (P ≡ map (project (paths_of_leaves F)) R)

-- these are the projections to the leaves of records of the schema
abbrev pub AreProjected : Schema → List Leaf → List Node → Type 0
AreProjected s F P = (R : List Node) × (list_all (is_record s.fields) R ≡ true) × (P ≡ map (project (paths_of_leaves F)) R)

-- whether none of these columns has more triplets than a leaf of a file may have
abbrev pub are_short : List (List Triplet) → Bool
are_short cs = list_all (λ (ts : List Triplet). nat_le (length ts) most_triplets) cs

-- how many triplets records have at some leaves
abbrev pub triplets_at : List Leaf → List Node → ℕ
triplets_at F P = triplet_count (map (λ (l : Leaf). column l.path P) F)

-- no more records than a file may have, and no more triplets at these leaves
abbrev pub AreFew : List Leaf → List Node → Type 0
AreFew F P = (length P ≤ most_rows) × (are_short (map (λ (l : Leaf). column l.path P) F) ≡ true)

-- a fault is the cause for which the bytes are no file of any records for these leaves; want of memory and a link's failure may come in place of anything
abbrev pub IsFaultOf : List ℕ → Schema → List Leaf → FileFault → Type 0
IsFaultOf bytes s F FileFault.NoMemory = ⊤
IsFaultOf bytes s F (FileFault.Why (Cause.ReadFailed before after)) = ⊤
IsFaultOf bytes s F (FileFault.Why Cause.BadFooter) = HasCause bytes s F bad_footer
IsFaultOf bytes s F (FileFault.Why Cause.BadSchema) = HasCause bytes s F bad_schema
IsFaultOf bytes s F (FileFault.Why Cause.BadCodec) = HasCause bytes s F bad_codec
IsFaultOf bytes s F (FileFault.Why Cause.BadData) = HasCause bytes s F bad_data

-- ---- columns

-- for each leaf its column in the file
abbrev pub AreColumnsOf : List ℕ → List Leaf → List (List Triplet) → Type 0
AreColumnsOf bytes [] [] = ⊤
AreColumnsOf bytes (l ∷ F) (c ∷ cs) = IsColumnOf bytes l c × AreColumnsOf bytes F cs
AreColumnsOf bytes F cs = ⊥

-- columns and a number of records, where no other records have such columns than those of which the bytes are a file for the leaves: if there are none,
-- the bytes are none for bad data
pub record AreColumnsOfFile (bytes : List ℕ) (s : Schema) (F : List Leaf) (cs : List (List Triplet)) (rows : ℕ) : Type 0 where
  pub file : (R : List Node) → HasColumns s.fields (paths_of_leaves F) cs rows R → IsFileOf bytes s F R
  pub none : NoneHas s.fields (paths_of_leaves F) cs rows → HasCause bytes s F bad_data

-- one of the leaves has bad data
abbrev pub SomeIsBad : List ℕ → List Leaf → Type 0
SomeIsBad bytes F = (i : ℕ) × (l : Leaf) × (slice_get F i ≡ Some l) × (leaf_cause bytes l ≡ Some bad_data)

-- the one fault that is left to the columns of an opened file; want of memory and a link's failure may come in place of anything
abbrev pub IsColumnsFault : List ℕ → List Leaf → FileFault → Type 0
IsColumnsFault bytes F FileFault.NoMemory = ⊤
IsColumnsFault bytes F (FileFault.Why (Cause.ReadFailed before after)) = ⊤
IsColumnsFault bytes F (FileFault.Why Cause.BadData) = SomeIsBad bytes F
IsColumnsFault bytes F (FileFault.Why c) = ⊥

-- a fault of putting records together, as that of a file
abbrev pub assemble_fault : AssembleFault → FileFault
assemble_fault AssembleFault.NoMemory = FileFault.NoMemory
assemble_fault AssembleFault.BadData = FileFault.Why Cause.BadData
