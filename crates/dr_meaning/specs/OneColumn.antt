-- When triplets are the column of one leaf of some records: a test on the triplets alone, one triplet and the one before it at a time.
use Rattle.std.specs.Prelude.{◌≡◌, ◌↔◌, ℕ, zero, suc, ◌+◌, List, [], ◌∷◌, length, Bool, true, false, ◌&&◌, ◌==◌, nat_le, if◌then◌else◌, Option, Some, None}
use Rattle.std.specs.List.{list_all, slice_get}
use Rattle.dr_meaning.specs.Schema.{Repetition, required, optional, repeated, Kind, definition_count, Fields}
use Rattle.dr_meaning.specs.Path.{Step, Leaf, leaves, max_repetition, max_definition}
use Rattle.dr_meaning.specs.Record.{Value, is_of_kind, Node, is_record}
use Rattle.dr_meaning.specs.Column.{Triplet, column}

-- how many triplets begin a record
abbrev pub starts : List Triplet → ℕ
starts [] = 0
starts (t ∷ ts) = (if t.repetition == 0 then 1 else 0) + starts ts

-- whether the first triplet begins a record
abbrev pub begins_record : List Triplet → Bool
begins_record [] = true
begins_record (t ∷ ts) = t.repetition == 0

-- ---- a triplet alone

-- a value of the kind where there is to be one, none where there isn't
abbrev pub fits_value : Kind → Bool → Option Value → Bool
fits_value k true None = false
fits_value k true (Some v) = is_of_kind k v
fits_value k false None = true
fits_value k false (Some v) = false

-- levels at most the greatest, and a value of the kind exactly at the greatest definition level
abbrev pub fits_levels : Kind → ℕ → ℕ → Triplet → Bool
fits_levels k max_r max_d t = nat_le t.repetition max_r && nat_le t.definition max_d && fits_value k (t.definition == max_d) t.value

-- ---- a triplet and the one before it

-- past a field on the path: a repeated field that is counted is one less to go
abbrev pub past_field : Repetition → (ℕ → ℕ) → ℕ → ℕ
past_field required rest j = rest j
past_field optional rest j = rest j
past_field repeated rest zero = 0
past_field repeated rest (suc j) = rest j

-- the definition level that an instance of the jth repeated field on a path has at least, from 0: the number of fields up to it that aren't required
abbrev pub level_inside : List Step → ℕ → ℕ
level_inside [] j = 0
level_inside (s ∷ p) j = definition_count s.repetition + past_field s.repetition (level_inside p) j

-- whether triplets of these two definition levels may stand beside one another where the second has this repetition level: 0 begins a record, and
-- always may; a greater one begins another instance of a repeated field, of which both are in an instance
abbrev pub may_follow : List Step → ℕ → ℕ → ℕ → Bool
may_follow p d e zero = true
may_follow p d e (suc j) = nat_le (level_inside p j) d && nat_le (level_inside p j) e

-- whether each of these triplets may follow the one before it
abbrev pub all_follow : List Step → Triplet → List Triplet → Bool
all_follow p t [] = true
all_follow p t (u ∷ us) = may_follow p t.definition u.definition u.repetition && all_follow p u us

-- ---- a column

-- whether triplets can stand so one after another
abbrev pub is_in_order : List Step → List Triplet → Bool
is_in_order p [] = true
is_in_order p (t ∷ ts) = (t.repetition == 0) && all_follow p t ts

-- whether triplets are a column of a leaf in this many rows
abbrev pub is_column : Leaf → ℕ → List Triplet → Bool
is_column l rows ts = list_all (fits_levels l.kind (max_repetition l.path) (max_definition l.path)) ts && is_in_order l.path ts && (starts ts == rows)

-- ---- the law

-- so many records of these fields have this column at a leaf
abbrev pub HaveColumn : Fields → Leaf → ℕ → List Triplet → Type 0
HaveColumn fs l rows ts = (R : List Node) × (list_all (is_record fs) R ≡ true) × (length R ≡ rows) × (column l.path R ≡ ts)

-- triplets pass the test exactly if there are records that have them as the column of this leaf
abbrev pub ColumnsAreRecognized : Type 0
ColumnsAreRecognized = (fs : Fields) (i : ℕ) (l : Leaf) (rows : ℕ) (ts : List Triplet) → slice_get (leaves fs) i ≡ Some l
    → (is_column l rows ts ≡ true) ↔ HaveColumn fs l rows ts
