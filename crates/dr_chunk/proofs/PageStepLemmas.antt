-- The next page of a chunk, by its header and its body.
use Rattle.std.proofs.Common.{◌≡◌, ℕ, ◌+◌, ◌≤◌, ◌<◌, List, [], ◌++◌, length, take, drop, Bool, true, false, refl, sym, ap, ap₂, subst, subst₂, ◌∙◌, arith}
use Rattle.std.specs.Prelude.{Option, Some, None, option_map, nat_le, ◌&&◌, ◌||◌, if◌then◌else◌}
use Rattle.std.proofs.lemmas.Bool.{le-leb, lt-leb}
use Rattle.std.proofs.lemmas.List.{length-append, length-take, take-append-le}
use Rattle.dr_meaning.specs.Record.{Value}
use Rattle.dr_meaning.specs.Path.{Leaf}
use Rattle.dr_meaning.specs.Column.{Triplet}
use Rattle.dr_formats.specs.Reading.{Reading, got, refused, Reader, give, goes_on, ◌>>=◌, bytes_of}
use Rattle.dr_formats.specs.Metadata.{DictionaryPageHeader, PageHeader}
use Rattle.dr_formats.specs.Plain.{plain_values}
use Rattle.dr_formats.specs.Page.{PageShape, PageFault, bad_page, found, is_number, plain_encoding, plain_dictionary_encoding, page_triplets}
use Rattle.dr_formats.specs.Chunk.{PageTaken, taken, page_header, shape_of_page, shape_of_page_v2, data_page, dictionary_page, page_taken}
use Rattle.dr_chunk.specs.Headers.{IsRefused}
use Rattle.dr_chunk.specs.Steps.{page_step}
use Rattle.dr_chunk.specs.declared.fault.ChunkFault.{ChunkFault}
use Rattle.dr_chunk.specs.Takers.{IsChunkFault}

-- ---- a page takes no bytes of its own: what is read of its body, with other bytes behind it

-- the same, with these bytes behind it
abbrev pub moved : List ℕ → Reading PageFault PageTaken → Reading PageFault PageTaken
moved rest (got t q) = got t rest
moved rest (refused e q) = refused e rest

found_moves : {A : Type 0} (o : Option A) (f : A → PageTaken) (rest : List ℕ) → (found o >>= (λ a. give (f a))) rest ≡ moved rest ((found o >>= (λ a. give (f a))) [])
found_moves None f rest = refl
found_moves (Some a) f rest = refl

if_moves : (b : Bool) (p : Reader PageFault PageTaken) (rest : List ℕ) → p rest ≡ moved rest (p []) → (if b then p else refused bad_page) rest ≡ moved rest ((if b then p else refused bad_page) [])
if_moves true p rest e = e
if_moves false p rest e = refl

data_moves : (w : ℕ) (d : List Value) (body : List ℕ) (o : Option PageShape) (rest : List ℕ) → data_page w d body o rest ≡ moved rest (data_page w d body o [])
data_moves w d body None rest = refl
data_moves w d body (Some s) rest =
    if_moves (nat_le s.triplets w) (found (page_triplets s d body) >>= (λ ts. give (taken ts d))) rest (found_moves (page_triplets s d body) (λ ts. taken ts d) rest)

dictionary_moves : (l : Leaf) (first : Bool) (body : List ℕ) (o : Option DictionaryPageHeader) (rest : List ℕ) → dictionary_page l first body o rest ≡ moved rest (dictionary_page l first body o [])
dictionary_moves l first body None rest = refl
dictionary_moves l first body (Some h) rest =
    if_moves (first && (is_number plain_encoding h.encoding || is_number plain_dictionary_encoding h.encoding)) (found (plain_values l.kind h.values body) >>= (λ vs. give (taken [] vs))) rest
    (found_moves (plain_values l.kind h.values body) (λ vs. taken [] vs) rest)

kinds_move : (a b c e : Bool) (p q r t : Reader PageFault PageTaken) (rest : List ℕ) → p rest ≡ moved rest (p []) → q rest ≡ moved rest (q []) → r rest ≡ moved rest (r []) → t rest ≡ moved rest (t [])
    → (if a then p else (if b then q else (if c then r else (if e then t else refused bad_page)))) rest ≡ moved rest ((if a then p else (if b then q else (if c then r else (if e then t else refused bad_page)))) [])
kinds_move true b c e p q r t rest f g h k = f
kinds_move false true c e p q r t rest f g h k = g
kinds_move false false true e p q r t rest f g h k = h
kinds_move false false false true p q r t rest f g h k = k
kinds_move false false false false p q r t rest f g h k = refl

page_moves : (l : Leaf) (w : ℕ) (first : Bool) (d : List Value) (h : PageHeader) (body rest : List ℕ) → page_taken l w first d h body rest ≡ moved rest (page_taken l w first d h body [])
page_moves l w first d h body rest =
    let one : Option PageShape = option_map (shape_of_page l) h.data_page in
    let two : Option PageShape = option_map (shape_of_page_v2 l) h.data_page_v2 in
    kinds_move (is_number 0 h.type) (is_number 1 h.type) (is_number 2 h.type) (is_number 3 h.type) (data_page w d body one) (give (taken [] d)) (dictionary_page l first body h.dictionary_page) (data_page w d body two) rest
    (data_moves w d body one rest) refl (dictionary_moves l first body h.dictionary_page rest) (data_moves w d body two rest)

-- ---- a page by its parts

refused_on : {A B : Type 0} (r : Reading PageFault A) (f : A → Reader PageFault B) → IsRefused r → IsRefused (goes_on r f)
refused_on (got a bs) f h = elim h [ ]
refused_on (refused e bs) f h = tt

-- no header, no page
pub no_header_no_page : (l : Leaf) (w : ℕ) (first : Bool) (d : List Value) (bytes : List ℕ) → IsRefused (page_header bytes) → IsRefused (page_step l w first d bytes)
no_header_no_page l w first d bytes h = refused_on (page_header bytes) (λ k. bytes_of bad_page k.compressed_size >>= (λ body. page_taken l w first d k body)) h

sized : (b : Bool) (n : ℕ) (rest : List ℕ) (f : List ℕ → Reader PageFault PageTaken) → b ≡ true → goes_on (if b then got (take n rest) (drop n rest) else refused bad_page []) f ≡ f (take n rest) (drop n rest)
sized true n rest f e = refl
sized false n rest f e = cc

unsized : (b : Bool) (n : ℕ) (rest : List ℕ) (f : List ℕ → Reader PageFault PageTaken) → b ≡ false → IsRefused (goes_on (if b then got (take n rest) (drop n rest) else refused bad_page []) f)
unsized true n rest f e = cc
unsized false n rest f e = tt

page_behind : (l : Leaf) (w : ℕ) (first : Bool) (d : List Value) (bytes rest : List ℕ) (h : PageHeader) → page_header bytes ≡ got h rest
    → page_step l w first d bytes ≡ goes_on (bytes_of bad_page h.compressed_size rest) (λ body. page_taken l w first d h body)
page_behind l w first d bytes rest h e = ap (λ r. goes_on r (λ k. bytes_of bad_page k.compressed_size >>= (λ body. page_taken l w first d k body))) e

-- too few bytes behind the header, no page
pub no_body_no_page : (l : Leaf) (w : ℕ) (first : Bool) (d : List Value) (bytes rest : List ℕ) (h : PageHeader) → page_header bytes ≡ got h rest → length rest < h.compressed_size → IsRefused (page_step l w first d bytes)
no_body_no_page l w first d bytes rest h e s =
    rw (page_behind l w first d bytes rest h e) (unsized (nat_le h.compressed_size (length rest)) h.compressed_size rest (λ body. page_taken l w first d h body) (lt-leb h.compressed_size (length rest) s))

whole_page : (l : Leaf) (w : ℕ) (first : Bool) (d : List Value) (bytes rest : List ℕ) (h : PageHeader) → page_header bytes ≡ got h rest → h.compressed_size ≤ length rest
    → page_step l w first d bytes ≡ moved (drop h.compressed_size rest) (page_taken l w first d h (take h.compressed_size rest) [])
whole_page l w first d bytes rest h e s =
    page_behind l w first d bytes rest h e
    ∙ (sized (nat_le h.compressed_size (length rest)) h.compressed_size rest (λ body. page_taken l w first d h body) (le-leb h.compressed_size (length rest) s)
    ∙ page_moves l w first d h (take h.compressed_size rest) (drop h.compressed_size rest))

refused_moved : (rest : List ℕ) (r : Reading PageFault PageTaken) → IsRefused r → IsRefused (moved rest r)
refused_moved rest (got t q) h = elim h [ ]
refused_moved rest (refused e q) h = tt

-- a page that gives nothing
bad_body_no_page : (l : Leaf) (w : ℕ) (first : Bool) (d : List Value) (bytes rest body : List ℕ) (h : PageHeader) → page_header bytes ≡ got h rest → h.compressed_size ≤ length rest → body ≡ take h.compressed_size rest
    → IsRefused (page_taken l w first d h body []) → IsRefused (page_step l w first d bytes)
bad_body_no_page l w first d bytes rest body h e s b r =
    let P : List ℕ → Type 0 = λ xs. IsRefused (page_taken l w first d h xs []) in
    rw (whole_page l w first d bytes rest h e s) (refused_moved (drop h.compressed_size rest) (page_taken l w first d h (take h.compressed_size rest) []) (subst P b r))

-- what lies ahead is the front of what is left
ahead_of : (n : ℕ) (pending more : List ℕ) → n ≤ length pending → (take n pending ≡ take n (pending ++ more)) × (n ≤ length (pending ++ more))
ahead_of n pending more h = (sym (take-append-le n pending more h), omega (arith, length-append pending more))

-- the bytes of a page that lie ahead are its body
body_ahead : (n size : ℕ) (pending more rest body : List ℕ) → pending ++ more ≡ rest → size ≡ n → size ≤ length pending → body ≡ take size pending → (body ≡ take n rest) × (n ≤ length rest)
body_ahead n size pending more rest body e s w b =
    let a = ahead_of size pending more w in
    let P : List ℕ → ℕ → Type 0 = λ xs k. (body ≡ take k xs) × (k ≤ length xs) in
    subst₂ P e s (b ∙ a.0, a.1)

-- a page that lies ahead and gives nothing
pub bad_page_ahead : (x : ChunkFault) (l : Leaf) (w : ℕ) (first : Bool) (d : List Value) (bytes rest pending more body : List ℕ) (size : ℕ) (h : PageHeader) → x ≡ ChunkFault.BadData → page_header bytes ≡ got h rest
    → pending ++ more ≡ rest → size ≡ h.compressed_size → size ≤ length pending → body ≡ take size pending → IsChunkFault x (page_taken l w first d h body []) → IsRefused (page_step l w first d bytes)
bad_page_ahead x l w first d bytes rest pending more body size h f e r s q b i =
    let a = body_ahead h.compressed_size size pending more rest body r s q b in
    let P : ChunkFault → Type 0 = λ y. IsChunkFault y (page_taken l w first d h body []) in
    bad_body_no_page l w first d bytes rest body h e a.1 a.0 (subst P f i)

-- a page that lies ahead and is there
pub page_ahead : (l : Leaf) (w : ℕ) (first : Bool) (d : List Value) (bytes rest pending more body new : List ℕ) (size : ℕ) (h : PageHeader) → page_header bytes ≡ got h rest → pending ++ more ≡ rest
    → size ≡ h.compressed_size → size ≤ length pending → body ≡ take size pending → new ≡ drop size (pending ++ more) → page_step l w first d bytes ≡ moved new (page_taken l w first d h body [])
page_ahead l w first d bytes rest pending more body new size h e r s q b n =
    let a = body_ahead h.compressed_size size pending more rest body r s q b in
    whole_page l w first d bytes rest h e a.1 ∙ ap₂ (λ xs ys. moved xs (page_taken l w first d h ys [])) (sym (n ∙ ap₂ drop s r)) (sym a.0)

-- no more bytes are left than are counted
pub rest_within : (pending bytes : List ℕ) (m at : ℕ) → length (pending ++ take m (drop at bytes)) ≤ length pending + m
rest_within pending bytes m at = omega (arith, length-append pending (take m (drop at bytes)), length-take m (drop at bytes))
