-- Laws of what is written: metadata, pages of a chunk.
use Rattle.std.specs.Prelude.{◌≡◌, ℕ, zero, suc, ◌^◌, ◌<◌, ◌≤◌, List, [], ◌∷◌, ◌++◌, length, Bool, true, ◌&&◌, nat_le, nat_lt, Option, Some, None, Ok}
use Rattle.std.specs.List.{list_all}
use Rattle.dr_meaning.specs.Schema.{Schema, is_schema}
use Rattle.dr_meaning.specs.Path.{Leaf, leaves, max_repetition, max_definition}
use Rattle.dr_meaning.specs.Record.{Node, is_record, instance_count, text_bytes}
use Rattle.dr_meaning.specs.JsonRecord.{most_instances, most_text_bytes}
use Rattle.dr_meaning.specs.Column.{Triplet}
use Rattle.dr_formats.specs.Metadata.{FileMeta, view_file, file_tree, PageHeader, view_page, page_tree}
use Rattle.dr_formats.specs.Page.{PageForm, is_triplet}
use Rattle.dr_formats.specs.Chunk.{pages_triplets}
use Rattle.dr_formats.specs.File.{most_rows, most_triplets, IsFileOf}
use Rattle.dr_formats.specs.Loading.{most_tablet_rows}
use Rattle.dr_formats.specs.Writing.{leaf_body, pages_bytes, triplet_count, cut_pages, record_columns, written_footer, file_bytes}

-- the triplets of lists, one after another
abbrev pub all_triplets : List (List Triplet) → List Triplet
all_triplets [] = []
all_triplets (p ∷ ps) = p ++ all_triplets ps

-- triplets of a leaf that fit a page
abbrev pub IsPage : PageForm → Leaf → List Triplet → Type 0
IsPage form l p = (list_all (is_triplet l.kind (max_repetition l.path) (max_definition l.path)) p ≡ true) × (length p < 2 ^ 31)
    × (length (leaf_body form l p) < 2 ^ 63)

-- lists of triplets of which each fits a page
abbrev pub ArePages : PageForm → Leaf → List (List Triplet) → Type 0
ArePages form l [] = Unit {0}
ArePages form l (p ∷ ps) = IsPage form l p × ArePages form l ps

-- the pages that are written for a leaf are read as their triplets, whatever follows them
abbrev pub WrittenPagesAreRead : Type 0
WrittenPagesAreRead = (form : PageForm) (l : Leaf) (ps : List (List Triplet)) (rest : List ℕ) → max_repetition l.path ≤ 32 → max_definition l.path ≤ 32
    → ArePages form l ps → pages_triplets l (triplet_count ps) (pages_bytes form l ps ++ rest) ≡ Some (all_triplets ps)

-- cutting columns into pages keeps their triplets
abbrev pub PagesKeepTriplets : Type 0
PagesKeepTriplets = (l : Leaf) (columns : List (List Triplet)) → all_triplets (cut_pages l.kind [] columns) ≡ all_triplets columns

-- the struct that is written for metadata is viewed as that metadata
abbrev pub WrittenMetadataIsViewed : Type 0
WrittenMetadataIsViewed = (m : FileMeta) → view_file (file_tree m) ≡ Ok m

-- the struct of a page header is viewed as that header, whichever header structs it has
abbrev pub WrittenHeaderIsViewed : Type 0
WrittenHeaderIsViewed = (h : PageHeader) → view_page (page_tree h) ≡ Ok h

-- ---- files

-- the leaf at a place
abbrev pub nth_leaf : List Leaf → ℕ → Option Leaf
nth_leaf [] i = None
nth_leaf (l ∷ ls) zero = Some l
nth_leaf (l ∷ ls) (suc i) = nth_leaf ls i

-- leaves that are among these
abbrev pub AreAmong : List Leaf → List Leaf → Type 0
AreAmong ls [] = Unit {0}
AreAmong ls (l ∷ F) = ((i : ℕ) × (nth_leaf ls i ≡ Some l)) × AreAmong ls F

-- pages whose header can hold their sizes
abbrev pub FitHeaders : PageForm → Leaf → List (List Triplet) → Type 0
FitHeaders form l [] = Unit {0}
FitHeaders form l (p ∷ ps) = (length p < 2 ^ 31) × (length (leaf_body form l p) < 2 ^ 63) × FitHeaders form l ps

-- leaves of which there are not too many triplets, in pages whose header can hold their sizes
abbrev pub LeavesFit : PageForm → List Node → List Leaf → Type 0
LeavesFit form R [] = Unit {0}
LeavesFit form R (l ∷ ls) = (triplet_count (record_columns l R) ≤ most_triplets) × FitHeaders form l (cut_pages l.kind [] (record_columns l R))
    × LeavesFit form R ls

-- records of a schema that one file can hold: not too many, with texts of fewer than 2^32 bytes in each, a footer of fewer than 2^32 bytes, a file of
-- fewer than 2^63
abbrev pub FitsFile : PageForm → Schema → List Node → Type 0
FitsFile form s R = (is_schema s ≡ true) × (list_all (is_record s.fields) R ≡ true) × (list_all (λ (n : Node). nat_lt (text_bytes n) (2 ^ 32)) R ≡ true)
    × (length R ≤ most_rows) × LeavesFit form R (leaves s.fields) × (length (written_footer form s R) < 2 ^ 32) × (length (file_bytes form s R) < 2 ^ 63)

-- the file that is written for records is a file of these records, for any of the schema's leaves
abbrev pub WrittenFileIsFile : Type 0
WrittenFileIsFile = (form : PageForm) (s : Schema) (R : List Node) (F : List Leaf) → FitsFile form s R → AreAmong (leaves s.fields) F
    → IsFileOf (file_bytes form s R) s F R

-- ---- the limits under which files are written

-- whether a record is within the limits of an input line
abbrev pub is_limited : Node → Bool
is_limited n = nat_le (instance_count n) most_instances && nat_le (text_bytes n) most_text_bytes

-- records of a schema, each within the limits of a line, and not more than a tablet may have, fit one file
abbrev pub LimitedRecordsFit : Type 0
LimitedRecordsFit = (form : PageForm) (s : Schema) (R : List Node) → is_schema s ≡ true → list_all (is_record s.fields) R ≡ true
    → list_all is_limited R ≡ true → length R ≤ most_tablet_rows → FitsFile form s R
