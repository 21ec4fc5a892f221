-- Leaves of the same names, repetitions and kind have one place in a file, one column, and the same columns pass for them.
use Rattle.std.proofs.Common.{◌≡◌, ℕ, zero, suc, ◌+◌, List, [], ◌∷◌, ◌++◌, map, length, Bool, true, false, ◌&&◌, Option, Some, None, refl, sym, ap, ap₂, ◌∙◌, true≢false}
use Rattle.std.specs.Prelude.{◌-◌, ◌==◌, nat_le, if◌then◌else◌, bytes_eq, pos, option_map, option_and_then}
use Rattle.std.specs.List.{list_all}
use Rattle.std.proofs.lemmas.Bool.{and_parts}
use Rattle.dr_meaning.specs.Schema.{Repetition, required, optional, repeated, Kind, repetition_count, definition_count}
use Rattle.dr_meaning.specs.Path.{Step, Leaf, same_repetition, max_repetition, max_definition}
use Rattle.dr_meaning.specs.Record.{Value}
use Rattle.dr_meaning.specs.Column.{Triplet}
use Rattle.dr_meaning.specs.OneColumn.{starts, fits_levels, past_field, level_inside, may_follow, all_follow, is_in_order, is_column}
use Rattle.dr_formats.specs.Reading.{Reading, got, refused, Reader, give, goes_on, ◌>>=◌, bytes_of}
use Rattle.dr_formats.specs.Metadata.{ColumnMeta, RowGroup, DataPageHeader, DataPageHeaderV2, DictionaryPageHeader, PageHeader}
use Rattle.dr_formats.specs.Page.{data_page_v1, data_page_v2, PageShape, PageFault, bad_page, is_number, triplets_read}
use Rattle.dr_formats.specs.Chunk.{PageTaken, taken, page_header, shape_of_page, shape_of_page_v2, data_page, dictionary_page, page_taken, pages, pages_triplets, chunk_bytes, chunk_triplets}
use Rattle.dr_formats.specs.FileSchema.{FileLeaf, same_names, same_repetitions, is_kind, is_leaf_for, place_of, file_leaves}
use Rattle.dr_formats.specs.Lacking.{leaf_of_file}
use Rattle.dr_formats.specs.OpenSchemaLaws.{file_leaf_of}
use Rattle.dr_formats.specs.File.{Footer, leaf_chunk, nth_chunk, is_uncompressed, total, chunk_values, of_rows, group_column, groups_column, file_column}
use Rattle.dr_format_laws.proofs.WideFields.{equal_names}
use Rattle.dr_format_laws.proofs.WideLacking.{SameSteps}

abbrev pub SameLeaf : Leaf → Leaf → Type 0
SameLeaf l m = (l.names ≡ m.names) × SameSteps l.path m.path × (l.kind ≡ m.kind)

-- ---- levels

same_max_repetition : (p q : List Step) → SameSteps p q → max_repetition p ≡ max_repetition q
same_max_repetition [] [] h = refl
same_max_repetition [] (t ∷ q) h = absurd h
same_max_repetition (s ∷ p) [] h = absurd h
same_max_repetition (s ∷ p) (t ∷ q) h = ap₂ (λ r n. repetition_count r + n) h.0 (same_max_repetition p q h.1)

same_max_definition : (p q : List Step) → SameSteps p q → max_definition p ≡ max_definition q
same_max_definition [] [] h = refl
same_max_definition [] (t ∷ q) h = absurd h
same_max_definition (s ∷ p) [] h = absurd h
same_max_definition (s ∷ p) (t ∷ q) h = ap₂ (λ r n. definition_count r + n) h.0 (same_max_definition p q h.1)

past_same : (r : Repetition) (f g : ℕ → ℕ) → ((j : ℕ) → f j ≡ g j) → (j : ℕ) → past_field r f j ≡ past_field r g j
past_same required f g h j = h j
past_same optional f g h j = h j
past_same repeated f g h zero = refl
past_same repeated f g h (suc j) = h j

same_inside : (p q : List Step) → SameSteps p q → (j : ℕ) → level_inside p j ≡ level_inside q j
same_inside [] [] h j = refl
same_inside [] (t ∷ q) h j = absurd h
same_inside (s ∷ p) [] h j = absurd h
same_inside (s ∷ p) (t ∷ q) h j =
    ap (λ r. definition_count r + past_field r (level_inside p) j) h.0
    ∙ ap (λ n. definition_count t.repetition + n) (past_same t.repetition (level_inside p) (level_inside q) (same_inside p q h.1) j)

-- ---- which triplets pass

same_follow : (p q : List Step) → SameSteps p q → (d e r : ℕ) → may_follow p d e r ≡ may_follow q d e r
same_follow p q h d e zero = refl
same_follow p q h d e (suc j) = ap (λ n. nat_le n d && nat_le n e) (same_inside p q h j)

same_all_follow : (p q : List Step) → SameSteps p q → (t : Triplet) (ts : List Triplet) → all_follow p t ts ≡ all_follow q t ts
same_all_follow p q h t [] = refl
same_all_follow p q h t (u ∷ us) = ap₂ (λ a b. a && b) (same_follow p q h t.definition u.definition u.repetition) (same_all_follow p q h u us)

same_order : (p q : List Step) → SameSteps p q → (ts : List Triplet) → is_in_order p ts ≡ is_in_order q ts
same_order p q h [] = refl
same_order p q h (t ∷ ts) = ap (λ b. (t.repetition == 0) && b) (same_all_follow p q h t ts)

abbrev passes : Kind → ℕ → ℕ → List Triplet → Bool
passes k r d ts = list_all (fits_levels k r d) ts

pub same_column : (l m : Leaf) → SameLeaf l m → (rows : ℕ) (ts : List Triplet) → is_column l rows ts ≡ is_column m rows ts
same_column l m h rows ts =
    let a : passes l.kind (max_repetition l.path) (max_definition l.path) ts ≡ passes m.kind (max_repetition m.path) (max_definition m.path) ts =
    ap (λ k. passes k (max_repetition l.path) (max_definition l.path) ts) h.2 ∙ ap₂ (λ r d. passes m.kind r d ts) (same_max_repetition l.path m.path h.1) (same_max_definition l.path m.path h.1) in
    ap₂ (λ a b. a && b && (starts ts == rows)) a (same_order l.path m.path h.1 ts)

-- ---- the place in a file

same_tests : (p q : List Step) → SameSteps p q → (rs : List Repetition) → same_repetitions p rs ≡ same_repetitions q rs
same_tests [] [] h rs = refl
same_tests [] (t ∷ q) h rs = absurd h
same_tests (s ∷ p) [] h rs = absurd h
same_tests (s ∷ p) (t ∷ q) h [] = refl
same_tests (s ∷ p) (t ∷ q) h (r ∷ rs) = ap₂ (λ x b. same_repetition x r && b) h.0 (same_tests p q h.1 rs)

same_for : (l m : Leaf) → SameLeaf l m → (f : FileLeaf) → is_leaf_for l f ≡ is_leaf_for m f
same_for l m h f =
    ap (λ (ns : List (List ℕ)). same_names ns f.names && same_repetitions l.path f.repetitions && is_kind l.kind f.kind) h.0
    ∙ ap₂ (λ a k. same_names m.names f.names && a && is_kind k f.kind) (same_tests l.path m.path h.1 f.repetitions) h.2

pub same_place : (l m : Leaf) → SameLeaf l m → (ls : List FileLeaf) → place_of l ls ≡ place_of m ls
same_place l m h [] = refl
same_place l m h (f ∷ ls) = ap₂ (λ b o. if b then Some 0 else option_map (λ i. suc i) o) (same_for l m h f) (same_place l m h ls)

same_chunk : (l m : Leaf) → SameLeaf l m → (f : Footer) (g : RowGroup) → leaf_chunk f l g ≡ leaf_chunk f m g
same_chunk l m h f g = ap (option_and_then (λ i. option_map (λ c. c.meta) (nth_chunk g.columns i))) (same_place l m h (file_leaves f.schema.fields))

pub same_plain : (l m : Leaf) → SameLeaf l m → (f : Footer) (gs : List RowGroup) → list_all (λ g. is_uncompressed (leaf_chunk f l g)) gs ≡ list_all (λ g. is_uncompressed (leaf_chunk f m g)) gs
same_plain l m h f [] = refl
same_plain l m h f (g ∷ gs) = ap₂ (λ c b. is_uncompressed c && b) (same_chunk l m h f g) (same_plain l m h f gs)

pub same_total : (l m : Leaf) → SameLeaf l m → (f : Footer) (gs : List RowGroup) → total (λ g. chunk_values (leaf_chunk f l g)) gs ≡ total (λ g. chunk_values (leaf_chunk f m g)) gs
same_total l m h f [] = refl
same_total l m h f (g ∷ gs) = ap₂ (λ c b. chunk_values c + b) (same_chunk l m h f g) (same_total l m h f gs)

-- ---- pages

same_going : {A B : Type 0} → (f g : A → Reader PageFault B) → ((a : A) (rest : List ℕ) → f a rest ≡ g a rest) → (r : Reading PageFault A) → goes_on r f ≡ goes_on r g
same_going f g h (got a rest) = h a rest
same_going f g h (refused e rest) = refl

abbrev v1_shape : DataPageHeader → Kind → ℕ → ℕ → PageShape
v1_shape h k r d = record {
  form = data_page_v1;
  triplets = h.values;
  encoding = h.encoding;
  definition_encoding = h.definition_encoding;
  repetition_encoding = h.repetition_encoding;
  definition_bytes = 0;
  repetition_bytes = 0;
  kind = k;
  max_repetition = r;
  max_definition = d;
}

abbrev v2_shape : DataPageHeaderV2 → Kind → ℕ → ℕ → PageShape
v2_shape h k r d = record {
  form = data_page_v2;
  triplets = h.values;
  encoding = h.encoding;
  definition_encoding = pos 3;
  repetition_encoding = pos 3;
  definition_bytes = h.definition_bytes;
  repetition_bytes = h.repetition_bytes;
  kind = k;
  max_repetition = r;
  max_definition = d;
}

same_by : {A : Type 0} → (f : Kind → ℕ → ℕ → A) → (l m : Leaf) → SameLeaf l m → f l.kind (max_repetition l.path) (max_definition l.path) ≡ f m.kind (max_repetition m.path) (max_definition m.path)
same_by f l m h = ap (λ k. f k (max_repetition l.path) (max_definition l.path)) h.2 ∙ ap₂ (f m.kind) (same_max_repetition l.path m.path h.1) (same_max_definition l.path m.path h.1)

same_v1 : (l m : Leaf) → SameLeaf l m → (o : Option DataPageHeader) → option_map (shape_of_page l) o ≡ option_map (shape_of_page m) o
same_v1 l m h None = refl
same_v1 l m h (Some x) = ap Some (same_by (v1_shape x) l m h)

same_v2 : (l m : Leaf) → SameLeaf l m → (o : Option DataPageHeaderV2) → option_map (shape_of_page_v2 l) o ≡ option_map (shape_of_page_v2 m) o
same_v2 l m h None = refl
same_v2 l m h (Some x) = ap Some (same_by (v2_shape x) l m h)

same_dictionary : (l m : Leaf) → SameLeaf l m → (first : Bool) (body : List ℕ) (o : Option DictionaryPageHeader) → dictionary_page l first body o ≡ dictionary_page m first body o
same_dictionary l m h first body None = refl
same_dictionary l m h first body (Some x) = ap (λ k. dictionary_page (record { names = []; path = []; kind = k }) first body (Some x)) h.2

-- a page by what its kind of header gives
abbrev taken_by : ℕ → List Value → PageHeader → List ℕ → Option PageShape → Reader PageFault PageTaken → Option PageShape → Reader PageFault PageTaken
taken_by wanted d h body one dictionary two =
    if is_number 0 h.type then data_page wanted d body one
    else (if is_number 1 h.type then give (taken [] d)
    else (if is_number 2 h.type then dictionary
    else (if is_number 3 h.type then data_page wanted d body two
    else refused bad_page)))

same_taken : (l m : Leaf) → SameLeaf l m → (wanted : ℕ) (first : Bool) (d : List Value) (h : PageHeader) (body : List ℕ) → page_taken l wanted first d h body ≡ page_taken m wanted first d h body
same_taken l m s wanted first d h body =
    ap₂ (λ one two. taken_by wanted d h body one (dictionary_page l first body h.dictionary_page) two) (same_v1 l m s h.data_page) (same_v2 l m s h.data_page_v2)
    ∙ ap (λ x. taken_by wanted d h body (option_map (shape_of_page m) h.data_page) x (option_map (shape_of_page_v2 m) h.data_page_v2)) (same_dictionary l m s first body h.dictionary_page)

-- a page that is taken, and the pages behind it
abbrev then_more : (l : Leaf) → ℕ → ℕ → PageTaken → Reader PageFault (List Triplet)
then_more l k n t = do
  more ← pages l k (suc n - length t.triplets) false t.dictionary
  give (t.triplets ++ more)

same_pages : (l m : Leaf) → SameLeaf l m → (k n : ℕ) (first : Bool) (d : List Value) (bytes : List ℕ) → pages l k n first d bytes ≡ pages m k n first d bytes
same_pages l m s k zero first d bytes = refl
same_pages l m s zero (suc n) first d bytes = refl
same_pages l m s (suc k) (suc n) first d bytes =
    same_going (λ h. bytes_of bad_page h.compressed_size >>= (λ body. page_taken l (suc n) first d h body >>= then_more l k n)) (λ h. bytes_of bad_page h.compressed_size >>= (λ body. page_taken m (suc n) first d h body >>= then_more m k n))
    (λ h rest. same_going (λ body. page_taken l (suc n) first d h body >>= then_more l k n) (λ body. page_taken m (suc n) first d h body >>= then_more m k n)
    (λ body rest. ap (λ (r : Reader PageFault PageTaken). goes_on (r rest) (then_more l k n)) (same_taken l m s (suc n) first d h body)
    ∙ same_going (then_more l k n) (then_more m k n) (λ t rest. ap (λ r. goes_on r (λ more. give (t.triplets ++ more))) (same_pages l m s k (suc n - length t.triplets) false t.dictionary rest)) (page_taken m (suc n) first d h body rest))
    (bytes_of bad_page h.compressed_size rest)) (page_header bytes)

same_triplets : (l m : Leaf) → SameLeaf l m → (bytes : List ℕ) (place : ℕ) (c : ColumnMeta) → chunk_triplets bytes place l c ≡ chunk_triplets bytes place m c
same_triplets l m s bytes place c = by_bytes (chunk_bytes bytes place c)
  where
    by_bytes : (o : Option (List ℕ)) → option_and_then (pages_triplets l c.values) o ≡ option_and_then (pages_triplets m c.values) o
    by_bytes None = refl
    by_bytes (Some bs) = ap triplets_read (same_pages l m s (length bs) c.values true [] bs)

same_group : (l m : Leaf) → SameLeaf l m → (bytes : List ℕ) (f : Footer) (g : RowGroup) → group_column bytes f l g ≡ group_column bytes f m g
same_group l m s bytes f g = ap (option_and_then (λ c. option_and_then (of_rows g.rows) (chunk_triplets bytes f.place l c))) (same_chunk l m s f g) ∙ by_chunk (leaf_chunk f m g)
  where
    by_chunk : (o : Option ColumnMeta) → option_and_then (λ c. option_and_then (of_rows g.rows) (chunk_triplets bytes f.place l c)) o ≡ option_and_then (λ c. option_and_then (of_rows g.rows) (chunk_triplets bytes f.place m c)) o
    by_chunk None = refl
    by_chunk (Some c) = ap (option_and_then (of_rows g.rows)) (same_triplets l m s bytes f.place c)

same_groups : (l m : Leaf) → SameLeaf l m → (bytes : List ℕ) (f : Footer) (gs : List RowGroup) → groups_column bytes f l gs ≡ groups_column bytes f m gs
same_groups l m s bytes f [] = refl
same_groups l m s bytes f (g ∷ gs) = ap₂ (λ x y. option_and_then (λ ts. option_map (λ more. ts ++ more) y) x) (same_group l m s bytes f g) (same_groups l m s bytes f gs)

pub same_file_column : (l m : Leaf) → SameLeaf l m → (bytes : List ℕ) (f : Footer) → file_column bytes f l ≡ file_column bytes f m
same_file_column l m s bytes f = same_groups l m s bytes f f.meta.groups

-- ---- leaves that are the same

names_equal : (ms ns : List (List ℕ)) → same_names ms ns ≡ true → ms ≡ ns
names_equal [] [] h = refl
names_equal [] (n ∷ ns) h = absurd (true≢false (sym h))
names_equal (m ∷ ms) [] h = absurd (true≢false (sym h))
names_equal (m ∷ ms) (n ∷ ns) h = let p : (bytes_eq m n ≡ true) × (same_names ms ns ≡ true) = and_parts _ _ h in ap₂ (λ x xs. x ∷ xs) (equal_names m n p.0) (names_equal ms ns p.1)

-- a leaf that one of a file is for has its names
pub for_has_names : (l : Leaf) (f : FileLeaf) → is_leaf_for l f ≡ true → l.names ≡ f.names
for_has_names l f h =
    let p : ((same_names l.names f.names && same_repetitions l.path f.repetitions) ≡ true) × (is_kind l.kind f.kind ≡ true) = and_parts _ _ h in
    names_equal l.names f.names (and_parts _ _ p.0).0

steps_of_file : (p : List Step) → SameSteps (map (λ r. record { place = 0; repetition = r }) (map (λ (s : Step). s.repetition) p)) p
steps_of_file [] = tt
steps_of_file (s ∷ p) = (refl, steps_of_file p)

-- a leaf as one of a file, and that as one of a schema
pub file_same : (m : Leaf) → SameLeaf (leaf_of_file (file_leaf_of m) m.kind) m
file_same m = (refl, steps_of_file m.path, refl)

pub same_itself : (p : List Step) → SameSteps p p
same_itself [] = tt
same_itself (s ∷ p) = (refl, same_itself p)
