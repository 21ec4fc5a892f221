-- A chunk's pages, one at a time.
use Rattle.std.specs.Prelude.{ℕ, List, Bool}
use Rattle.dr_meaning.specs.Record.{Value}
use Rattle.dr_meaning.specs.Path.{Leaf}
use Rattle.dr_formats.specs.Reading.{Reading, Reader, ◌>>=◌, bytes_of}
use Rattle.dr_formats.specs.Page.{PageFault, bad_page}
use Rattle.dr_formats.specs.Chunk.{PageTaken, page_header, page_taken}

-- the next page of a chunk, of which so many triplets are wanted
abbrev pub page_step : Leaf → ℕ → Bool → List Value → Reader PageFault PageTaken
page_step l wanted first dictionary = do
  h ← page_header
  body ← bytes_of bad_page h.compressed_size
  page_taken l wanted first dictionary h body
