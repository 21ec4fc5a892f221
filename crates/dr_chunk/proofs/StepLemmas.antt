-- A chunk's pages are its next page and those behind it.
use Rattle.std.proofs.Common.{◌≡◌, ℕ, suc, ◌-◌, List, ◌++◌, length, Bool, false, refl, sym}
use Rattle.dr_meaning.specs.Record.{Value}
use Rattle.dr_meaning.specs.Path.{Leaf}
use Rattle.dr_meaning.specs.Column.{Triplet}
use Rattle.dr_formats.specs.Reading.{Reading, got, refused, Reader, give, goes_on, ◌>>=◌, bytes_of}
use Rattle.dr_formats.specs.Metadata.{PageHeader}
use Rattle.dr_formats.specs.Page.{PageFault, bad_page}
use Rattle.dr_formats.specs.Chunk.{PageTaken, page_header, page_taken, pages}
use Rattle.dr_chunk.specs.Steps.{page_step}

-- two steps behind one
goes_on_assoc : {E A B C : Type 0} (r : Reading E A) (f : A → Reader E B) (g : B → Reader E C) → goes_on (goes_on r f) g ≡ goes_on r (λ a. f a >>= g)
goes_on_assoc (got a bs) f g = refl
goes_on_assoc (refused e bs) f g = refl

-- the pages behind a page that was taken
abbrev pub pages_behind : Leaf → ℕ → ℕ → PageTaken → Reader PageFault (List Triplet)
pages_behind l k n t = do
  more ← pages l k (suc n - length t.triplets) false t.dictionary
  give (t.triplets ++ more)

headed : (l : Leaf) (k n : ℕ) (first : Bool) (d : List Value) (r : Reading PageFault PageHeader)
    → goes_on r (λ h. bytes_of bad_page h.compressed_size >>= (λ body. page_taken l (suc n) first d h body >>= pages_behind l k n))
    ≡ goes_on (goes_on r (λ h. bytes_of bad_page h.compressed_size >>= (λ body. page_taken l (suc n) first d h body))) (pages_behind l k n)
headed l k n first d (got h rest) = sym (goes_on_assoc (bytes_of bad_page h.compressed_size rest) (λ body. page_taken l (suc n) first d h body) (pages_behind l k n))
headed l k n first d (refused e rest) = refl

-- the pages of which some triplets are wanted: the next, and those behind it
pub next_and_rest : (l : Leaf) (k n : ℕ) (first : Bool) (d : List Value) (bytes : List ℕ) → pages l (suc k) (suc n) first d bytes ≡ goes_on (page_step l (suc n) first d bytes) (pages_behind l k n)
next_and_rest l k n first d bytes = headed l k n first d (page_header bytes)
