-- A page that is read a piece at a time: where its reader stands, and what its calls promise.
use Rattle.std.specs.Prelude.{◌≡◌, ℕ, ◌+◌, List, ◌++◌, length, drop, Option, Some, None, Result, Ok, Err, ⊤}
use Rattle.dr_meaning.specs.Record.{Value}
use Rattle.dr_meaning.specs.Column.{Triplet}
use Rattle.dr_nested.specs.Views.{kind_view}
use Rattle.dr_levels.specs.Views.{LeafForm, form}
use Rattle.dr_formats.specs.Reading.{got}
use Rattle.dr_formats.specs.Page.{PageShape, level_parts_by, count_equal, join_triplets, page_triplets}
use Rattle.dr_page.specs.declared.fault.PageFault.{PageFault}
use Rattle.dr_page.specs.declared.page_reader.PageReader.{PageReader}
use Rattle.dr_page.specs.Parts.{parts_in, AreInside}
use Rattle.dr_page.specs.LevelPieces.{HavePairs}
use Rattle.dr_page.specs.ValuePieces.{HasValues}

-- the shape of a page of which so many triplets are wanted
abbrev pub front_of : ℕ → PageShape → PageShape
front_of n s = record s { triplets = n }

-- how many triplets of its page are left
abbrev pub left_of : PageReader → ℕ
left_of r = r.left

-- why its page is refused, where it is
abbrev pub refused_of : PageReader → Option PageFault
refused_of r = r.refused

-- the form of columns that take its page's triplets
abbrev pub reader_form : PageReader → LeafForm
reader_form r = form (kind_view r.kind) r.levels.definitions.greatest

-- where the levels and the values stand of a reader that gave these triplets
pub record Stands (s : PageShape) (d : List Value) (bytes : List ℕ) (given : List Triplet) (r : PageReader) : Type 0 where
  pub rs : List ℕ
  pub ds : List ℕ
  pub vs : List Value
  pub kind : kind_view r.kind ≡ s.kind
  pub repetition : r.levels.repetitions.greatest ≡ s.max_repetition
  pub definition : r.levels.definitions.greatest ≡ s.max_definition
  pub parts : level_parts_by s.form s bytes ≡ got (parts_in bytes r.parts) (drop r.parts.values bytes)
  pub inside : AreInside bytes r.parts
  pub levels : HavePairs bytes r.parts rs ds r.levels
  pub values : HasValues s.encoding s.kind d (drop r.parts.values bytes) vs r.values
  pub as_many : length rs ≡ length ds
  pub present : length vs ≡ count_equal s.max_definition ds
  pub triplets : given ≡ join_triplets s.max_definition rs ds vs

-- a reader of a page's body that gave these triplets, and refused none
pub record IsReading (s : PageShape) (d : List Value) (bytes : List ℕ) (given : List Triplet) (r : PageReader) : Type 0 where
  pub front : page_triplets (front_of (length given) s) d bytes ≡ Some given
  pub left : length given + left_of r ≡ s.triplets
  pub going : refused_of r ≡ None
  pub stands : Stands s d bytes given r

-- so many triplets joined the end
abbrev pub Lengthens : List Triplet → List Triplet → ℕ → Type 0
Lengthens before after n = (more : List Triplet) × (length more ≡ n) × (after ≡ before ++ more)

-- where n more triplets are wanted: they joined the end; or neither they nor the whole page are there
abbrev pub Gives : PageShape → List Value → List ℕ → List Triplet → ℕ → List Triplet → List Triplet → PageReader → Result ℕ PageFault → Type 0
Gives s d bytes given n before after r (Ok m) = (more : List Triplet) × (length more ≡ n) × (after ≡ before ++ more) × IsReading s d bytes (given ++ more) r
Gives s d bytes given n before after r (Err PageFault.BadData) = (page_triplets (front_of (length given + n) s) d bytes ≡ None) × (page_triplets s d bytes ≡ None)
Gives s d bytes given n before after r (Err PageFault.NoMemory) = ⊤

-- after whatever triplets it gave, n more join the end; or neither they nor the whole page are there
abbrev pub GivesNext : List Value → List ℕ → ℕ → List Triplet → List Triplet → PageReader → PageReader → Result ℕ PageFault → Type 0
GivesNext d bytes n before after r r' result =
    (s : PageShape) (given : List Triplet) → IsReading s d bytes given r → Gives s d bytes given n before after r' result
