-- A chunk that is read a piece at a time: where its reader stands.
use Rattle.std.specs.Prelude.{◌≡◌, ℕ, ◌+◌, ◌≤◌, List, [], ◌++◌, length, take, drop, Option, Some, None, Result, Ok, Err}
use Rattle.dr_meaning.specs.Path.{Leaf}
use Rattle.dr_meaning.specs.Column.{Triplet}
use Rattle.dr_formats.specs.Page.{triplets_read}
use Rattle.dr_formats.specs.Chunk.{pages as read_pages, pages_triplets}
use Rattle.dr_levels.specs.Views.{LeafForm}
use Rattle.dr_outside.specs.Link.{LinkShown}
use Rattle.dr_outside.specs.Telling.{Tells}
use Rattle.dr_page.specs.PageReading.{left_of as page_left}
use Rattle.dr_page.specs.declared.page_reader.PageReader.{PageReader}
use Rattle.dr_chunk.specs.declared.byte_range.ByteRange.{ByteRange}
use Rattle.dr_chunk.specs.declared.fault.ChunkFault.{ChunkFault}
use Rattle.dr_chunk.specs.declared.stretch.Stretch.{Stretch}
use Rattle.dr_chunk.specs.declared.page_taker.PageTaker.{PageTaker}
use Rattle.dr_chunk.specs.declared.chunk_reader.ChunkReader.{ChunkReader}
use Rattle.dr_chunk.specs.Stretches.{range_of as range_in, pending, rest_in}
use Rattle.dr_chunk.specs.Takers.{leaf_of, wanted_of, is_first_of, dictionary_of, dictionary_size_of, leaf_form, IsLeafOf}
use Rattle.dr_chunk.specs.Underway.{IsUnderway}

-- the range of its chunk
abbrev pub range_of : ChunkReader → ByteRange
range_of r = range_in r.stretch

-- how many triplets of the wanted ones are left
abbrev pub left_of : ChunkReader → ℕ
left_of r = wanted_of r.taker + page_left r.page

-- the form of the columns that it fills
abbrev pub reader_form : ChunkReader → LeafForm
reader_form r = leaf_form (leaf_of r.taker)

-- how many bytes of the dictionary's page body and of the page body it holds
abbrev pub held_of : ChunkReader → ℕ
held_of r = dictionary_size_of r.taker + r.body

-- why it refuses its chunk, where it does
abbrev pub refused_of : ChunkReader → Option ChunkFault
refused_of r = r.refused

-- the refusal of a call, if it is one
abbrev pub fault_of : {A : Type 0} → Result A ChunkFault → Option ChunkFault
fault_of (Ok a) = None
fault_of (Err e) = Some e

-- the bytes of a chunk in a file of these bytes
abbrev pub chunk_of : List ℕ → ByteRange → List ℕ
chunk_of bytes range = take range.size (drop range.start bytes)

-- the body of the page that came last, which lies ahead
abbrev pub body_in : Stretch → ℕ → List ℕ
body_in s size = take size (pending s)

-- the bytes behind it
abbrev pub behind_in : List ℕ → Stretch → ℕ → List ℕ
behind_in bytes s size = drop size (rest_in bytes s)

-- triplets behind others, where there are both
abbrev pub joins : Option (List Triplet) → Option (List Triplet) → Option (List Triplet)
joins None more = None
joins (Some ts) None = None
joins (Some ts) (Some us) = Some (ts ++ us)

-- triplets begin with these
abbrev pub BeginWith : List Triplet → List Triplet → Type 0
BeginWith given ts = (rest : List Triplet) × (ts ≡ given ++ rest)

-- what the pages from the next on give, at most so many
abbrev pub pages_left : Leaf → List ℕ → Stretch → PageTaker → ℕ → ℕ → Option (List Triplet)
pages_left l bytes s t size pages = triplets_read (read_pages l pages (wanted_of t) (is_first_of t) (dictionary_of t) (behind_in bytes s size))

-- of a chunk whose first so many triplets are wanted these were given, of the pages before and of the page that came last, whose body has this size
pub record Stands (l : Leaf) (wanted : ℕ) (bytes : List ℕ) (given : List Triplet) (s : Stretch) (t : PageTaker) (p : PageReader) (body pages : ℕ) : Type 0 where
  pub leaf : IsLeafOf l (leaf_of t)
  pub within : (range_in s).start + (range_in s).size ≤ length bytes
  pub before : List Triplet
  pub read : List Triplet
  pub parts : given ≡ before ++ read
  pub meant : Option (List Triplet)
  pub size : ℕ
  pub underway : IsUnderway meant size (dictionary_of t) (body_in s body) read p
  pub all : pages_triplets l wanted (chunk_of bytes (range_in s)) ≡ joins (Some before) (joins meant (pages_left l bytes s t body pages))
  pub wants : length before + size + wanted_of t ≡ wanted

-- the same, and what follows of it
pub record IsTaking (l : Leaf) (wanted : ℕ) (bytes : List ℕ) (given : List Triplet) (r : ChunkReader) : Type 0 where
  -- nothing is left: these are the chunk's triplets
  pub whole : left_of r ≡ 0 → pages_triplets l wanted (chunk_of bytes (range_of r)) ≡ Some given
  -- the chunk's triplets, if it spells any, begin with these
  pub front : (ts : List Triplet) → pages_triplets l wanted (chunk_of bytes (range_of r)) ≡ Some ts → BeginWith given ts
  pub count : length given + left_of r ≡ wanted
  pub unrefused : refused_of r ≡ None
  pub stands : Stands l wanted bytes given r.stretch r.taker r.page r.body r.pages

-- more joined a column
abbrev pub TakesMore : Leaf → ℕ → List ℕ → List Triplet → List Triplet → List Triplet → ChunkReader → Type 0
TakesMore l wanted bytes given before after r = (more : List Triplet) × (after ≡ before ++ more) × IsTaking l wanted bytes (given ++ more) r

-- what is said of a call, over whatever triplets the reader gave of a leaf's chunk
abbrev pub OverTaking : ChunkReader → (Leaf → ℕ → List ℕ → List Triplet → Type 0) → Type 0
OverTaking r says = (l : Leaf) (wanted : ℕ) (bytes : List ℕ) (given : List Triplet) → IsTaking l wanted bytes given r → says l wanted bytes given

-- the same, where the link tells the file at this path
abbrev pub OverTold : LinkShown → List ℕ → ChunkReader → (Leaf → ℕ → List ℕ → List Triplet → Type 0) → Type 0
OverTold s path r says = OverTaking r (λ l wanted bytes given. Tells s path bytes → says l wanted bytes given)
