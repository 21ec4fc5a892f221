-- Older files under a wider schema: which leaf of a schema a file lacks, and which of the file's leaves stands in for it (the merging of schemas that readers
-- of Apache Parquet do, for fields that are added).
use Rattle.std.specs.Prelude.{ℕ, zero, suc, List, [], ◌∷◌, map, take, Bool, true, false, ◌&&◌, if◌then◌else◌, bytes_eq, nat_le, min, Option, Some, None, option_map, option_and_then}
use Rattle.dr_meaning.specs.Schema.{Repetition, required, optional, repeated, Kind}
use Rattle.dr_meaning.specs.Path.{Step, Leaf, same_repetition, max_repetition, max_definition}
use Rattle.dr_meaning.specs.Column.{Triplet, triplet}
use Rattle.dr_formats.specs.FileSchema.{FileFields, no_file_fields, file_field, FileShape, file_leaf, file_group, FileSchema, FileLeaf, file_leaves, place_of}

-- ---- the group that lacks a part of a leaf's path

-- a field of a file's group
pub record FileField : Type 0 where
  pub repetition : Repetition
  pub shape : FileShape

-- the first field of this name
abbrev pub field_named : List ℕ → FileFields → Option FileField
field_named n no_file_fields = None
field_named n (file_field m r s fs) = if bytes_eq n m then Some (record { repetition = r; shape = s }) else field_named n fs

-- what is found in the group that a shape is, if it is one, a part further on
abbrev pub lacking_in : (FileFields → Option ℕ) → FileShape → Option ℕ
lacking_in further (file_leaf t c) = None
lacking_in further (file_group fs) = option_map (λ d. suc d) (further fs)

-- a part that isn't there may lack, unless it is required
abbrev pub unless_required : Repetition → Option ℕ
unless_required required = None
unless_required optional = Some 0
unless_required repeated = Some 0

-- at a part of a path whose field was looked for: behind one of another repetition nothing may lack
abbrev pub lacking_at : Repetition → (FileFields → Option ℕ) → Option FileField → Option ℕ
lacking_at r further None = unless_required r
lacking_at r further (Some f) = if same_repetition r f.repetition then lacking_in further f.shape else None

-- how many parts of a leaf's path lead to the group of a file that lacks the next part, where the leaf may lack: that part isn't required, and those before it
-- are groups with the same repetitions in both
abbrev pub lacking_after : List (List ℕ) → List Step → FileFields → Option ℕ
lacking_after [] p fs = None
lacking_after (n ∷ ns) [] fs = None
lacking_after (n ∷ ns) (s ∷ p) fs = lacking_at s.repetition (lacking_after ns p) (field_named n fs)

-- ---- the leaf that stands in

-- whether names begin with these
abbrev pub names_begin : List (List ℕ) → List (List ℕ) → Bool
names_begin [] ns = true
names_begin (m ∷ ms) [] = false
names_begin (m ∷ ms) (n ∷ ns) = bytes_eq m n && names_begin ms ns

-- a leaf of a file as one of a schema. Of its path the repetitions matter alone, since a file has no records but by its columns
abbrev pub leaf_of_file : FileLeaf → Kind → Leaf
leaf_of_file l k = record { names = l.names; path = map (λ r. record { place = 0; repetition = r }) l.repetitions; kind = k }

-- the leaf, if it is open, else the next one
abbrev pub open_or : FileLeaf → Option Kind → Option Leaf → Option Leaf
open_or l None next = next
open_or l (Some k) next = Some (leaf_of_file l k)

-- the first open leaf whose names begin with these
abbrev pub first_open : List (List ℕ) → List FileLeaf → Option Leaf
first_open ns [] = None
first_open ns (l ∷ ls) = if names_begin ns l.names then open_or l l.kind (first_open ns ls) else first_open ns ls

-- a leaf that stands in for one that is lacking, and the greatest levels of the group in which it does: there is a triplet for each instance of the group
-- at least, and it tells up to where the path to the group is there
pub record StandIn : Type 0 where
  pub leaf : Leaf
  pub repetition : ℕ
  pub definition : ℕ

-- the one for a leaf of which so many parts lead to the group
abbrev pub stand_in : FileSchema → Leaf → ℕ → Option StandIn
stand_in s l parts = option_map (λ (m : Leaf). record { leaf = m; repetition = max_repetition (take parts l.path); definition = max_definition (take parts l.path) })
    (first_open (take parts l.names) (file_leaves s.fields))

-- ---- where the column of a leaf is

-- in its own chunks; nowhere, since the record itself lacks a part of its path; in the chunks of a leaf that stands in for it
pub data Source : Type 0 where
  own_chunks : Source
  no_chunks : Source
  chunks_of : StandIn → Source

-- of a leaf that a group lacks, to which so many parts of its path lead
abbrev pub lacking_source : FileSchema → Leaf → ℕ → Option Source
lacking_source s l zero = Some no_chunks
lacking_source s l (suc parts) = option_map chunks_of (stand_in s l (suc parts))

-- a leaf that is there has its own; else it is asked where it is lacking
abbrev pub own_or : Option ℕ → Option Source → Option Source
own_or (Some i) lacking = Some own_chunks
own_or None lacking = lacking

-- the source of a leaf in a file of this schema, if the leaf is an open one of the file, or may lack and the record does, or has a stand-in
abbrev pub source_in : FileSchema → Leaf → Option Source
source_in s l = own_or (place_of l (file_leaves s.fields)) (option_and_then (lacking_source s l) (lacking_after l.names l.path s.fields))

-- whether there is a source
abbrev pub has_source : Option Source → Bool
has_source None = false
has_source (Some x) = true

-- the leaf whose chunks are read for one with this source, if chunks are
abbrev pub leaf_read : Leaf → Option Source → List Leaf
leaf_read l None = []
leaf_read l (Some own_chunks) = l ∷ []
leaf_read l (Some no_chunks) = []
leaf_read l (Some (chunks_of x)) = x.leaf ∷ []

-- ---- what it tells

-- the column of what is lacking in a group, by that of the leaf that stands in: a NULL for each triplet that begins an instance of the group, or of what is on the
-- path to it, as far as the path is there
abbrev pub outline : ℕ → ℕ → List Triplet → List Triplet
outline r d [] = []
outline r d (t ∷ ts) = if nat_le t.repetition r then triplet t.repetition (min t.definition d) None ∷ outline r d ts else outline r d ts
