-- A page that is read a piece at a time.
use Rattle.std.specs.Prelude.{◌≡◌, ℕ, ◌+◌, ◌<◌, ◌⊎◌, List, [], Option, Some, None, option_map}
use Rattle.dr_meaning.specs.Record.{Value}
use Rattle.dr_meaning.specs.Path.{Leaf}
use Rattle.dr_meaning.specs.Column.{Triplet}
use Rattle.dr_formats.specs.Reading.{Reading, got, refused}
use Rattle.dr_formats.specs.Page.{PageShape, PageFault, bad_page, page_triplets}
use Rattle.dr_formats.specs.Chunk.{PageTaken, taken, page_taken, data_page}
use Rattle.dr_page.specs.PageReading.{left_of, reader_form, IsReading}
use Rattle.dr_meta.specs.declared.page.PageHead.{PageHead}
use Rattle.dr_meta.specs.Views.{page_view}
use Rattle.dr_page.specs.Views.{shape_view}
use Rattle.dr_page.specs.declared.shape.Shape.{Shape}
use Rattle.dr_page.specs.declared.page_reader.PageReader.{PageReader}
use Rattle.dr_chunk.specs.Takers.{leaf_form, wanted_of, is_first_of, dictionary_of}
use Rattle.dr_chunk.specs.declared.leaf_shape.LeafShape.{LeafShape}
use Rattle.dr_chunk.specs.declared.page_taker.PageTaker.{PageTaker}

-- what a page gives that spells these triplets, if it spells any, with the chunk's dictionary from there on
abbrev pub of_page : Option (List Triplet) → List Value → Reading PageFault PageTaken
of_page None d = refused bad_page []
of_page (Some ts) d = got (taken ts d) []

-- a reader of a page that is to spell these triplets, so many, gave some of them
pub record ReadsPage (meant : Option (List Triplet)) (size : ℕ) (d : List Value) (body : List ℕ) (given : List Triplet) (p : PageReader) : Type 0 where
  pub shape : PageShape
  pub spells : meant ≡ page_triplets shape d body
  pub as_many : size ≡ shape.triplets
  pub reads : IsReading shape d body given p

-- a page without triplets, of which nothing is read
pub record PassesPage (meant : Option (List Triplet)) (size : ℕ) (given : List Triplet) (p : PageReader) : Type 0 where
  pub spells : meant ≡ Some []
  pub as_many : size ≡ 0
  pub nothing : given ≡ []
  pub left : left_of p ≡ 0

-- the page that came last gave some of its triplets
abbrev pub IsUnderway : Option (List Triplet) → ℕ → List Value → List ℕ → List Triplet → PageReader → Type 0
IsUnderway meant size d body given p = PassesPage meant size given p ⊎ ReadsPage meant size d body given p

-- a page comes of which nothing was given yet; of those wanted so many are left to the pages behind it
pub record Begins (page : Reading PageFault PageTaken) (wanted left : ℕ) (d : List Value) (body : List ℕ) (p : PageReader) : Type 0 where
  pub meant : Option (List Triplet)
  pub size : ℕ
  pub is : page ≡ of_page meant d
  pub underway : IsUnderway meant size d body [] p
  pub count : left + size ≡ wanted

-- what comes of a page with this header and body, by what is known before it
abbrev pub page_read : Leaf → PageTaker → PageHead → List ℕ → Reading PageFault PageTaken
page_read l t h body = page_taken l (wanted_of t) (is_first_of t) (dictionary_of t) (page_view h) body []

-- the same of a data page, of this shape if it has a header of its type
abbrev pub data_read : PageTaker → Option Shape → List ℕ → Reading PageFault PageTaken
data_read t shape body = data_page (wanted_of t) (dictionary_of t) body (option_map shape_view shape) []

-- such a page comes, of which nothing was given yet
abbrev pub BeginsPage : Reading PageFault PageTaken → List ℕ → PageTaker → PageTaker → PageReader → Type 0
BeginsPage page body t t' p = Begins page (wanted_of t) (wanted_of t') (dictionary_of t') body p

-- the page that is read, if one is, is of the leaf
abbrev pub HasForm : LeafShape → PageReader → Type 0
HasForm l p = 0 < left_of p → reader_form p ≡ leaf_form l
