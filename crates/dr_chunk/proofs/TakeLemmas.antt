-- What taking a data page does.
use Rattle.std.proofs.Common.{◌≡◌, ℕ, ◌+◌, ◌≤◌, inl, inr, List, [], Bool, true, false, refl, sym, ap, subst, ◌∙◌, arith}
use Rattle.std.specs.Prelude.{Option, Some, None, option_map, pos, nat_le, if◌then◌else◌, Result, Ok, Err, OnOk}
use Rattle.std.proofs.lemmas.Bool.{le-leb}
use Rattle.dr_meaning.specs.Schema.{Kind}
use Rattle.dr_meaning.specs.Record.{Value}
use Rattle.dr_meaning.specs.Path.{Leaf, max_repetition, max_definition}
use Rattle.dr_meaning.specs.Column.{Triplet}
use Rattle.dr_formats.specs.Reading.{Reading, Reader, got, refused, give, ◌>>=◌}
use Rattle.dr_formats.specs.Metadata.{DataPageHeader, DataPageHeaderV2, PageHeader}
use Rattle.dr_formats.specs.Page.{PageShape, PageFault, bad_page, found, is_number, page_triplets}
use Rattle.dr_formats.specs.Chunk.{PageTaken, taken, shape_of_page, shape_of_page_v2, data_page, dictionary_page, page_taken}
use Rattle.dr_page.specs.PageReading.{left_of, IsReading}
use Rattle.dr_page.specs.declared.page_reader.PageReader.{PageReader}
use Rattle.dr_chunk.specs.Shapes.{shape_with, shape_v2_with}
use Rattle.dr_chunk.specs.declared.fault.ChunkFault.{ChunkFault}
use Rattle.dr_chunk.specs.Takers.{IsChunkFault}
use Rattle.dr_chunk.specs.Underway.{of_page, Begins}

pub shape_same : (l : Leaf) (h : DataPageHeader) (k : Kind) (r d : ℕ) → l.kind ≡ k → max_repetition l.path ≡ r → max_definition l.path ≡ d → shape_of_page l h ≡ shape_with h k r d
shape_same l h k r d a b c = ap (λ x. shape_with h x (max_repetition l.path) (max_definition l.path)) a ∙ (ap (λ x. shape_with h k x (max_definition l.path)) b ∙ ap (shape_with h k r) c)

pub shape_v2_same : (l : Leaf) (h : DataPageHeaderV2) (k : Kind) (r d : ℕ) → l.kind ≡ k → max_repetition l.path ≡ r → max_definition l.path ≡ d → shape_of_page_v2 l h ≡ shape_v2_with h k r d
shape_v2_same l h k r d a b c = ap (λ x. shape_v2_with h x (max_repetition l.path) (max_definition l.path)) a ∙ (ap (λ x. shape_v2_with h k x (max_definition l.path)) b ∙ ap (shape_v2_with h k r) c)

by_triplets : (b : Bool) (o : Option (List Triplet)) (d : List Value) → b ≡ true → (if b then (found o >>= (λ ts. give (taken ts d))) else refused bad_page) [] ≡ of_page o d
by_triplets false o d e = cc
by_triplets true None d e = refl
by_triplets true (Some ts) d e = refl

-- a data page of no more triplets than are wanted
pub data_page_is : (s : PageShape) (w : ℕ) (d : List Value) (body : List ℕ) → s.triplets ≤ w → data_page w d body (Some s) [] ≡ of_page (page_triplets s d body) d
data_page_is s w d body v = by_triplets (nat_le s.triplets w) (page_triplets s d body) d (le-leb s.triplets w v)

-- its reader begins it
pub data_begins : (s : PageShape) (w left : ℕ) (d : List Value) (body : List ℕ) (p : PageReader) → s.triplets ≤ w → left + s.triplets ≡ w → IsReading s d body [] p → Begins (data_page w d body (Some s) []) w left d body p
data_begins s w left d body p v e h = record {
  meant = page_triplets s d body;
  size = s.triplets;
  is = data_page_is s w d body v;
  underway = inr (record { shape = s; spells = refl; as_many = refl; reads = h });
  count = e;
}

-- one that spells no triplets is refused
pub data_refused : (x : ChunkFault) (s : PageShape) (w : ℕ) (d : List Value) (body : List ℕ) → s.triplets ≤ w → (x ≡ ChunkFault.Failed → ⊥) → (x ≡ ChunkFault.BadData → page_triplets s d body ≡ None) → IsChunkFault x (data_page w d body (Some s) [])
data_refused ChunkFault.NoMemory s w d body v f h = tt
data_refused ChunkFault.Failed s w d body v f h = absurd (f refl)
data_refused ChunkFault.BadData s w d body v f h =
    let e : data_page w d body (Some s) [] ≡ refused bad_page [] = data_page_is s w d body v ∙ ap (λ o. of_page o d) (h refl) in
    rw e tt

-- a page without triplets is passed
pub passed : (page : Reading PageFault PageTaken) (w left : ℕ) (d : List Value) (body : List ℕ) (p : PageReader) → page ≡ got (taken [] d) [] → left ≡ w → left_of p ≡ 0 → Begins page w left d body p
passed page w left d body p e c z = record {
  meant = Some [];
  size = 0;
  is = e;
  underway = inl (record { spells = refl; as_many = refl; nothing = refl; left = z });
  count = omega (arith, c);
}

-- ---- a page by its type

first_of : (a : Bool) (p q : Reader PageFault PageTaken) → a ≡ true → (if a then p else q) [] ≡ p []
first_of true p q e = refl
first_of false p q e = cc

second_of : (a b : Bool) (p q r : Reader PageFault PageTaken) → a ≡ false → b ≡ true → (if a then p else (if b then q else r)) [] ≡ q []
second_of true b p q r e f = absurd (cc)
second_of false true p q r e f = refl
second_of false false p q r e f = absurd (cc)

third_of : (a b c : Bool) (p q r s : Reader PageFault PageTaken) → a ≡ false → b ≡ false → c ≡ true → (if a then p else (if b then q else (if c then r else s))) [] ≡ r []
third_of true b c p q r s e f g = absurd (cc)
third_of false true c p q r s e f g = absurd (cc)
third_of false false true p q r s e f g = refl
third_of false false false p q r s e f g = absurd (cc)

fourth_of : (a b c d : Bool) (p q r s t : Reader PageFault PageTaken) → a ≡ false → b ≡ false → c ≡ false → d ≡ true → (if a then p else (if b then q else (if c then r else (if d then s else t)))) [] ≡ s []
fourth_of true b c d p q r s t e f g h = absurd (cc)
fourth_of false true c d p q r s t e f g h = absurd (cc)
fourth_of false false true d p q r s t e f g h = absurd (cc)
fourth_of false false false true p q r s t e f g h = refl
fourth_of false false false false p q r s t e f g h = absurd (cc)

module _ (l : Leaf) (w : ℕ) (first : Bool) (d : List Value) (h : PageHeader) (body : List ℕ) where
  pub data_type : h.type ≡ pos 0 → page_taken l w first d h body [] ≡ data_page w d body (option_map (shape_of_page l) h.data_page) []
  data_type e = first_of (is_number 0 h.type) _ _ (ap (is_number 0) e)

  pub index_type : h.type ≡ pos 1 → page_taken l w first d h body [] ≡ got (taken [] d) []
  index_type e = second_of (is_number 0 h.type) (is_number 1 h.type) _ _ _ (ap (is_number 0) e) (ap (is_number 1) e)

  pub dictionary_type : h.type ≡ pos 2 → page_taken l w first d h body [] ≡ dictionary_page l first body h.dictionary_page []
  dictionary_type e = third_of (is_number 0 h.type) (is_number 1 h.type) (is_number 2 h.type) _ _ _ _ (ap (is_number 0) e) (ap (is_number 1) e) (ap (is_number 2) e)

  pub data_v2_type : h.type ≡ pos 3 → page_taken l w first d h body [] ≡ data_page w d body (option_map (shape_of_page_v2 l) h.data_page_v2) []
  data_v2_type e = fourth_of (is_number 0 h.type) (is_number 1 h.type) (is_number 2 h.type) (is_number 3 h.type) _ _ _ _ _ (ap (is_number 0) e) (ap (is_number 1) e) (ap (is_number 2) e) (ap (is_number 3) e)

-- the same page
pub begins_as : {X : Type 0} (o : Result X ChunkFault) (page other : Reading PageFault PageTaken) (w left : ℕ) (d : List Value) (body : List ℕ) (p : PageReader) → page ≡ other → OnOk o (Begins other w left d body p) → OnOk o (Begins page w left d body p)
begins_as o page other w left d body p e h = subst (λ x. OnOk o (Begins x w left d body p)) (sym e) h

-- a dictionary page is passed
pub passed_on : {X : Type 0} (o : Result X ChunkFault) (page other : Reading PageFault PageTaken) (w left : ℕ) (d : List Value) (body : List ℕ) (p : PageReader) → page ≡ other → left ≡ w → left_of p ≡ 0 → OnOk o (other ≡ got (taken [] d) [])
    → OnOk o (Begins page w left d body p)
passed_on (Ok x) page other w left d body p e c z h = passed page w left d body p (e ∙ h) c z
passed_on (Err x) page other w left d body p e c z h = tt
