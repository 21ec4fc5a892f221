-- Records within the limits of a line, and not more than a tablet may have, fit one file: how many bytes each part of the file takes at most.
use Rattle.std.proofs.Common.{◌≡◌, ◌≤◌, ◌<◌, ℕ, zero, suc, ◌+◌, ◌*◌, ◌/◌, ◌%◌, ◌^◌, List, [], ◌∷◌, ◌++◌, map, length, Bool, true, false, Option, Some, None, ℤ, pos, negsuc, refl, sym, ap, ◌∙◌, arith}
use Rattle.std.specs.Prelude.{nat_le, nat_lt, if◌then◌else◌, ◌-ℤ◌}
use Rattle.std.specs.List.{list_all}
use Rattle.std.proofs.lemmas.Bool.{and_parts, and_from, leb-true, leb-false, le-leb, lt-ltb, or_parts}
use Rattle.std.proofs.lemmas.List.{length-append}
use Rattle.dr_meaning.specs.Schema.{Repetition, Kind, bool_kind, int32_kind, int64_kind, text_kind, Fields, no_fields, field, Shape, leaf, group, Schema, is_name, is_short_name, longest_name, is_group, is_shape, is_nonempty}
use Rattle.dr_meaning.specs.Path.{Step, Leaf, leaf_below, leaves_from, shape_leaves, leaves, max_repetition, max_definition}
use Rattle.dr_meaning.specs.Record.{Value, bool_value, int_value, text_value, text_length, Node, instance_count, text_bytes}
use Rattle.dr_meaning.specs.Column.{Triplet, record_column}
use Rattle.dr_meaning.proofs.SchemaReadsBack.{FirstField, first_of_group}
use Rattle.dr_meaning.proofs.ColumnSize.{column_is_short, text_of, texts_of, texts_append, record_texts}
use Rattle.dr_formats.specs.Varint.{varint_bytes_from, varint_bytes, zigzag}
use Rattle.dr_formats.specs.LittleEndian.{little_endian_bytes, bytes_for, packed}
use Rattle.dr_formats.specs.Compact.{ThriftType, Struct, stop, struct_field, Item, truth_item, byte_item, i16_item, i32_item, i64_item, double_item, binary_item, list_item, set_item, empty_map_item, map_item, struct_item, Items, no_items, item, Pairs, no_pairs, pair, type_number, item_type, count_items, count_pairs, signed_bytes, list_header_bytes, header_by_delta, header_bytes, in_field, fields_bytes, item_bytes, items_bytes, pairs_bytes, struct_bytes}
use Rattle.dr_formats.specs.Hybrid.{hybrid_bytes}
use Rattle.dr_formats.specs.Plain.{complement, bit_of, plain_number_bytes, plain_text_bytes, joined, plain_bytes}
use Rattle.dr_formats.specs.Page.{PageForm, data_page_v1, data_page_v2, level_width, level_bytes, column_repetitions, column_definitions, with_value, column_values, body_bytes}
use Rattle.dr_formats.specs.Metadata.{SchemaElement, items_of, element_tree, chunk_tree, group_tree, file_tree, page_tree}
use Rattle.dr_formats.specs.Writing.{is_full, last_page, closed_page, open_page, cut_pages, header_of_page, page_bytes, pages_bytes, record_columns, written_chunk, triplet_count, chunk_at, chunks_from, repetition_number, leaf_element, group_element, elements, shape_elements, schema_elements, groups_of, written_chunks, written_meta, written_footer, framed, file_bytes, leaf_body, page_head_bytes}
use Rattle.dr_formats.specs.File.{magic}
use Rattle.dr_formats.specs.WritingLaws.{all_triplets, nth_leaf, FitHeaders, LeavesFit, is_limited, LimitedRecordsFit}
use Rattle.dr_formats.proofs.LittleEndianLemmas.{length_little_endian}
use Rattle.dr_formats.proofs.HybridLemmas.{hybrid_short}
use Rattle.dr_formats.proofs.PageLemmas.{width_small}
use Rattle.dr_formats.proofs.ChunkLemmas.{pages_keep_triplets}
use Rattle.dr_formats.proofs.SchemaBack.{leaves_within, is_within}
use Rattle.dr_formats.proofs.MetaFits.{few_leaves, few_elements}
use Rattle.dr_formats.proofs.FileBack.{Limits, limits, levels_few}

-- ---- structs

varint_from_short : (k n : ℕ) → length (varint_bytes_from k n) ≤ suc k
varint_from_short zero n = omega arith
varint_from_short (suc k) n = by_test (nat_lt n 128) (varint_from_short k (n / 128))
  where
    by_test : (b : Bool) → length (varint_bytes_from k (n / 128)) ≤ suc k → length (if b then n ∷ [] else (128 + n % 128) ∷ varint_bytes_from k (n / 128)) ≤ suc (suc k)
    by_test true h = omega arith
    by_test false h = omega (arith, h)

varint_short : (n : ℕ) → length (varint_bytes n) ≤ 10
varint_short n = omega (arith, varint_from_short 9 n)

abbrev mutual
  weight : Struct → ℕ
  weight stop = 1
  weight (struct_field id x s) = 11 + item_weight x + weight s

  item_weight : Item → ℕ
  item_weight (truth_item b) = 1
  item_weight (byte_item b) = 1
  item_weight (i16_item z) = 10
  item_weight (i32_item z) = 10
  item_weight (i64_item z) = 10
  item_weight (double_item b) = length b
  item_weight (binary_item b) = 10 + length b
  item_weight (list_item t xs) = 11 + items_weight xs
  item_weight (set_item t xs) = 11 + items_weight xs
  item_weight empty_map_item = 1
  item_weight (map_item k v xs) = 11 + pairs_weight xs
  item_weight (struct_item s) = weight s

  items_weight : Items → ℕ
  items_weight no_items = 0
  items_weight (item x xs) = item_weight x + items_weight xs

  pairs_weight : Pairs → ℕ
  pairs_weight no_pairs = 0
  pairs_weight (pair k v xs) = item_weight k + item_weight v + pairs_weight xs

header_short : (last id : ℤ) (t : ThriftType) → length (header_bytes last id t) ≤ 11
header_short last id t = by_delta (id -ℤ last)
  where
    by_delta : (d : ℤ) → length (header_by_delta d id t) ≤ 11
    by_delta (pos zero) = omega (arith, varint_short (zigzag id))
    by_delta (pos (suc d)) = by_test (nat_lt d 15)
      where
        by_test : (b : Bool) → length (if b then (suc d * 16 + type_number t) ∷ [] else type_number t ∷ signed_bytes id) ≤ 11
        by_test true = omega arith
        by_test false = omega (arith, varint_short (zigzag id))
    by_delta (negsuc d) = omega (arith, varint_short (zigzag id))

list_header_short : (n : ℕ) (t : ThriftType) → length (list_header_bytes n t) ≤ 11
list_header_short n t = by_test (nat_lt n 15)
  where
    by_test : (b : Bool) → length (if b then (n * 16 + type_number t) ∷ [] else (240 + type_number t) ∷ varint_bytes n) ≤ 11
    by_test true = omega arith
    by_test false = omega (arith, varint_short n)

in_field_short : (x : Item) (bytes : List ℕ) → length (in_field x bytes) ≤ length bytes
in_field_short (truth_item b) bytes = omega arith
in_field_short (byte_item b) bytes = omega arith
in_field_short (i16_item z) bytes = omega arith
in_field_short (i32_item z) bytes = omega arith
in_field_short (i64_item z) bytes = omega arith
in_field_short (double_item b) bytes = omega arith
in_field_short (binary_item b) bytes = omega arith
in_field_short (list_item t xs) bytes = omega arith
in_field_short (set_item t xs) bytes = omega arith
in_field_short empty_map_item bytes = omega arith
in_field_short (map_item k v xs) bytes = omega arith
in_field_short (struct_item s) bytes = omega arith

mutual
  fields_short : (last : ℤ) (s : Struct) → length (fields_bytes last s) ≤ weight s
  fields_short last stop = omega arith
  fields_short last (struct_field id x s) = omega (arith, length-append (header_bytes last id (item_type x)) (in_field x (item_bytes x) ++ fields_bytes id s), length-append (in_field x (item_bytes x)) (fields_bytes id s), header_short last id (item_type x), in_field_short x (item_bytes x), item_short x, fields_short id s)

  item_short : (x : Item) → length (item_bytes x) ≤ item_weight x
  item_short (truth_item true) = omega arith
  item_short (truth_item false) = omega arith
  item_short (byte_item b) = omega arith
  item_short (i16_item z) = varint_short (zigzag z)
  item_short (i32_item z) = varint_short (zigzag z)
  item_short (i64_item z) = varint_short (zigzag z)
  item_short (double_item b) = omega arith
  item_short (binary_item b) = omega (arith, length-append (varint_bytes (length b)) b, varint_short (length b))
  item_short (list_item t xs) = omega (arith, length-append (list_header_bytes (count_items xs) t) (items_bytes xs), list_header_short (count_items xs) t, items_short xs)
  item_short (set_item t xs) = omega (arith, length-append (list_header_bytes (count_items xs) t) (items_bytes xs), list_header_short (count_items xs) t, items_short xs)
  item_short empty_map_item = omega arith
  item_short (map_item k v xs) = omega (arith, length-append (varint_bytes (count_pairs xs)) ((type_number k * 16 + type_number v) ∷ pairs_bytes xs), varint_short (count_pairs xs), pairs_short xs)
  item_short (struct_item s) = fields_short (pos 0) s

  items_short : (xs : Items) → length (items_bytes xs) ≤ items_weight xs
  items_short no_items = omega arith
  items_short (item x xs) = omega (arith, length-append (item_bytes x) (items_bytes xs), item_short x, items_short xs)

  pairs_short : (xs : Pairs) → length (pairs_bytes xs) ≤ pairs_weight xs
  pairs_short no_pairs = omega arith
  pairs_short (pair k v xs) = omega (arith, length-append (item_bytes k) (item_bytes v ++ pairs_bytes xs), length-append (item_bytes v) (pairs_bytes xs), item_short k, item_short v, pairs_short xs)

struct_short : (s : Struct) → length (struct_bytes s) ≤ weight s
unfolding struct_bytes
struct_short s = fields_short (pos 0) s

-- ---- values

abbrev values_text : List Value → ℕ
values_text [] = 0
values_text (v ∷ vs) = text_length v + values_text vs

joined_short : (f : Value → List ℕ) → ((v : Value) → length (f v) ≤ 8 + text_length v) → (vs : List Value) → length (joined f vs) ≤ 8 * length vs + values_text vs
joined_short f h [] = omega arith
joined_short f h (v ∷ vs) = omega (arith, length-append (f v) (joined f vs), h v, joined_short f h vs)

number_short : (bits : ℕ) → bits / 8 ≤ 8 → (v : Value) → length (plain_number_bytes bits v) ≤ 8 + text_length v
number_short bits h (bool_value b) = omega arith
number_short bits h (int_value z) = omega (arith, length_little_endian (bits / 8) (complement bits z), h)
number_short bits h (text_value t) = omega arith

text_short : (v : Value) → length (plain_text_bytes v) ≤ 8 + text_length v
text_short (bool_value b) = omega arith
text_short (int_value z) = omega arith
text_short (text_value t) = omega (arith, length-append (little_endian_bytes 4 (length t)) t, length_little_endian 4 (length t))

plain_short : (k : Kind) (vs : List Value) → length (plain_bytes k vs) ≤ 8 * length vs + values_text vs
plain_short bool_kind vs = omega (arith, length_little_endian (bytes_for (length vs)) (packed 1 (map bit_of vs)))
plain_short int32_kind vs = joined_short (plain_number_bytes 32) (number_short 32 (omega arith)) vs
plain_short int64_kind vs = joined_short (plain_number_bytes 64) (number_short 64 (omega arith)) vs
plain_short text_kind vs = joined_short plain_text_bytes text_short vs

with_value_count : (v : Option Value) (vs : List Value) → length (with_value v vs) ≤ 1 + length vs
with_value_count None vs = omega arith
with_value_count (Some v) vs = omega arith

with_value_text : (v : Option Value) (vs : List Value) → values_text (with_value v vs) ≡ text_of v + values_text vs
with_value_text None vs = omega arith
with_value_text (Some v) vs = omega arith

values_count : (ts : List Triplet) → length (column_values ts) ≤ length ts
values_count [] = omega arith
values_count (t ∷ ts) = omega (arith, with_value_count t.value (column_values ts), values_count ts)

values_texts : (ts : List Triplet) → values_text (column_values ts) ≡ texts_of ts
values_texts [] = omega arith
values_texts (t ∷ ts) = omega (arith, with_value_text t.value (column_values ts), values_texts ts)

-- ---- pages

level_short : (form : PageForm) (g : ℕ) (ls : List ℕ) → g ≤ 32 → length ls < 2 ^ 31 → length (level_bytes form g ls) ≤ 11 + length ls
level_short data_page_v1 zero ls h l = omega arith
level_short data_page_v1 (suc g) ls h l = omega (arith, length-append (little_endian_bytes 4 (length (hybrid_bytes (level_width (suc g)) ls))) (hybrid_bytes (level_width (suc g)) ls), length_little_endian 4 (length (hybrid_bytes (level_width (suc g)) ls)), hybrid_short (level_width (suc g)) ls (width_small (suc g) h) l)
level_short data_page_v2 zero ls h l = omega arith
level_short data_page_v2 (suc g) ls h l = omega (arith, hybrid_short (level_width (suc g)) ls (width_small (suc g) h) l)

as_many : (f : Triplet → ℕ) (ts : List Triplet) → length (map f ts) ≡ length ts
as_many f [] = refl
as_many f (t ∷ ts) = ap suc (as_many f ts)

body_short : (form : PageForm) (k : Kind) (r d : ℕ) (ts : List Triplet) → r ≤ 32 → d ≤ 32 → length ts < 2 ^ 31 → length (body_bytes form k r d ts) ≤ 22 + 10 * length ts + texts_of ts
unfolding body_bytes
body_short form k r d ts hr hd l =
    let rs : List ℕ = column_repetitions ts in
    let ds : List ℕ = column_definitions ts in
    let er : length rs ≡ length ts = as_many (λ (t : Triplet). t.repetition) ts in
    let ed : length ds ≡ length ts = as_many (λ (t : Triplet). t.definition) ts in
    omega (arith, length-append (level_bytes form r rs) (level_bytes form d ds ++ plain_bytes k (column_values ts)), length-append (level_bytes form d ds) (plain_bytes k (column_values ts)), level_short form r rs hr (omega (arith, er, l)), level_short form d ds hd (omega (arith, ed, l)), er, ed, plain_short k (column_values ts), values_count ts, values_texts ts)

page_head_short : (form : PageForm) (l : Leaf) (p : List Triplet) (size : ℕ) → length (struct_bytes (page_tree (header_of_page form (max_repetition l.path) (max_definition l.path) p size))) ≤ 214
page_head_short data_page_v1 l p size = omega (arith, struct_short (page_tree (header_of_page data_page_v1 (max_repetition l.path) (max_definition l.path) p size)))
page_head_short data_page_v2 l p size = omega (arith, struct_short (page_tree (header_of_page data_page_v2 (max_repetition l.path) (max_definition l.path) p size)))

page_short : (form : PageForm) (l : Leaf) (p : List Triplet) → max_repetition l.path ≤ 32 → max_definition l.path ≤ 32 → length p < 2 ^ 31 → length (page_bytes form l p) ≤ 236 + 10 * length p + texts_of p
page_short form l p hr hd h =
    let body : List ℕ = leaf_body form l p in
    omega (arith, length-append (page_head_bytes form l p) body, page_head_short form l p (length body), body_short form l.kind (max_repetition l.path) (max_definition l.path) p hr hd h)

-- ---- the pages of columns

-- no page has more triplets
abbrev ArePages : ℕ → List (List Triplet) → Type 0
ArePages m [] = Unit {0}
ArePages m (p ∷ ps) = (length p ≤ m) × ArePages m ps

abbrev all_texts : List (List Triplet) → ℕ
all_texts [] = 0
all_texts (p ∷ ps) = texts_of p + all_texts ps

last_page_count : (ts : List Triplet) → length (last_page ts) ≤ 1
last_page_count [] = omega arith
last_page_count (t ∷ ts) = omega arith

closed_count : (b : Bool) (ts : List Triplet) (ps : List (List Triplet)) → length (closed_page b ts ++ ps) ≤ suc (length ps)
closed_count true ts ps = omega arith
closed_count false ts ps = omega arith

page_count : (k : Kind) (page : List Triplet) (cs : List (List Triplet)) → length (cut_pages k page cs) ≤ suc (length cs)
page_count k page [] = last_page_count page
page_count k page (c ∷ cs) =
    let q : List Triplet = page ++ c in
    omega (arith, closed_count (is_full k q) q (cut_pages k (open_page (is_full k q) q) cs), page_count k (open_page (is_full k q) q) cs)

last_page_short : (m : ℕ) (ts : List Triplet) → length ts ≤ m → ArePages m (last_page ts)
last_page_short m [] h = tt
last_page_short m (t ∷ ts) h = (h, tt)

closed_short : (m : ℕ) (b : Bool) (ts : List Triplet) (ps : List (List Triplet)) → length ts ≤ m → ArePages m ps → ArePages m (closed_page b ts ++ ps)
closed_short m true ts ps h a = (h, a)
closed_short m false ts ps h a = a

-- a page that is open has fewer than 4,096 triplets
open_short : (k : Kind) (q : List Triplet) (b : Bool) → is_full k q ≡ b → length (open_page b q) ≤ 4095
open_short k q true e = omega arith
open_short k q false e = omega (arith, leb-false 4096 (length q) (or_parts _ _ e).0)

pages_short : (k : Kind) (m : ℕ) (page : List Triplet) (cs : List (List Triplet)) → length page ≤ 4095 → ArePages m cs → ArePages (4095 + m) (cut_pages k page cs)
pages_short k m page [] h a = last_page_short (4095 + m) page (omega (arith, h))
pages_short k m page (c ∷ cs) h a =
    let q : List Triplet = page ++ c in
    closed_short (4095 + m) (is_full k q) q (cut_pages k (open_page (is_full k q) q) cs) (omega (arith, length-append page c, h, a.0)) (pages_short k m (open_page (is_full k q) q) cs (open_short k q (is_full k q) refl) a.1)

joined_count : (ps : List (List Triplet)) → length (all_triplets ps) ≡ triplet_count ps
joined_count [] = refl
joined_count (p ∷ ps) = omega (arith, length-append p (all_triplets ps), joined_count ps)

joined_texts : (ps : List (List Triplet)) → texts_of (all_triplets ps) ≡ all_texts ps
joined_texts [] = refl
joined_texts (p ∷ ps) = omega (arith, texts_append p (all_triplets ps), joined_texts ps)

pages_bytes_short : (form : PageForm) (l : Leaf) (ps : List (List Triplet)) → max_repetition l.path ≤ 32 → max_definition l.path ≤ 32 → ArePages 1052671 ps → length (pages_bytes form l ps) ≤ 236 * length ps + 10 * triplet_count ps + all_texts ps
pages_bytes_short form l [] hr hd a = omega arith
pages_bytes_short form l (p ∷ ps) hr hd a = omega (arith, length-append (page_bytes form l p) (pages_bytes form l ps), page_short form l p hr hd (omega (arith, a.0)), pages_bytes_short form l ps hr hd a.1)

-- ---- the columns of records within the limits

abbrev Limited : List Node → Type 0
Limited R = list_all is_limited R ≡ true

column_limit : (p : List Step) (n : Node) → is_limited n ≡ true → (length (record_column p n) ≤ 1048576) × (texts_of (record_column p n) ≤ 1073741824)
column_limit p n h =
    let g : (nat_le (instance_count n) 1048575 ≡ true) × (nat_le (text_bytes n) 1073741824 ≡ true) = and_parts _ _ h in
    (omega (arith, column_is_short p n, leb-true (instance_count n) 1048575 g.0), omega (arith, record_texts p n, leb-true (text_bytes n) 1073741824 g.1))

columns_limit : (l : Leaf) (R : List Node) → Limited R → ArePages 1048576 (record_columns l R) × (triplet_count (record_columns l R) ≤ 1048576 * length R) × (all_texts (record_columns l R) ≤ 1073741824 * length R) × (length (record_columns l R) ≡ length R)
columns_limit l [] h = (tt, omega arith, omega arith, refl)
columns_limit l (n ∷ R) h =
    let g : (is_limited n ≡ true) × Limited R = and_parts _ _ h in
    let c : (length (record_column l.path n) ≤ 1048576) × (texts_of (record_column l.path n) ≤ 1073741824) = column_limit l.path n g.0 in
    let r : ArePages 1048576 (record_columns l R) × (triplet_count (record_columns l R) ≤ 1048576 * length R) × (all_texts (record_columns l R) ≤ 1073741824 * length R) × (length (record_columns l R) ≡ length R) = columns_limit l R g.1 in
    ((c.0, r.0), omega (arith, c.0, r.1), omega (arith, c.1, r.2), ap suc r.3)

-- what is known of the pages of a leaf
abbrev PagesLimit : Leaf → List Node → Type 0
PagesLimit l R = ArePages 1052671 (cut_pages l.kind [] (record_columns l R)) × (triplet_count (cut_pages l.kind [] (record_columns l R)) ≤ 1048576000000) × (all_texts (cut_pages l.kind [] (record_columns l R)) ≤ 1073741824000000) × (length (cut_pages l.kind [] (record_columns l R)) ≤ 1000001) × (triplet_count (record_columns l R) ≤ 1048576000000)

pages_limit : (l : Leaf) (R : List Node) → Limited R → length R ≤ 1000000 → PagesLimit l R
pages_limit l R h k =
    let cs : List (List Triplet) = record_columns l R in
    let c : ArePages 1048576 cs × (triplet_count cs ≤ 1048576 * length R) × (all_texts cs ≤ 1073741824 * length R) × (length cs ≡ length R) = columns_limit l R h in
    let e : all_triplets (cut_pages l.kind [] cs) ≡ all_triplets cs = pages_keep_triplets l cs in
    let n : triplet_count (cut_pages l.kind [] cs) ≡ triplet_count cs = sym (joined_count (cut_pages l.kind [] cs)) ∙ ap length e ∙ joined_count cs in
    let x : all_texts (cut_pages l.kind [] cs) ≡ all_texts cs = sym (joined_texts (cut_pages l.kind [] cs)) ∙ ap texts_of e ∙ joined_texts cs in
    (pages_short l.kind 1048576 [] cs (omega arith) c.0, omega (arith, n, c.1, k), omega (arith, x, c.2, k), omega (arith, page_count l.kind [] cs, c.3, k), omega (arith, c.1, k))

headers_fit : (form : PageForm) (l : Leaf) (ps : List (List Triplet)) → max_repetition l.path ≤ 32 → max_definition l.path ≤ 32 → ArePages 1052671 ps → all_texts ps ≤ 1073741824000000 → FitHeaders form l ps
headers_fit form l [] hr hd a x = tt
headers_fit form l (p ∷ ps) hr hd a x = (omega (arith, a.0), omega (arith, body_short form l.kind (max_repetition l.path) (max_definition l.path) p hr hd (omega (arith, a.0)), a.0, x), headers_fit form l ps hr hd a.1 (omega (arith, x)))

-- ---- leaves

abbrev FewLevels : Leaf → Type 0
FewLevels l = (max_repetition l.path ≤ 32) × (max_definition l.path ≤ 32)

abbrev EachLeaf : (Leaf → Type 0) → List Leaf → Type 0
EachLeaf P [] = Unit {0}
EachLeaf P (l ∷ ls) = P l × EachLeaf P ls

each_of_nth : (P : Leaf → Type 0) (ls : List Leaf) → ((i : ℕ) (l : Leaf) → nth_leaf ls i ≡ Some l → P l) → EachLeaf P ls
each_of_nth P [] h = tt
each_of_nth P (l ∷ ls) h = (h 0 l refl, each_of_nth P ls (λ i m e. h (suc i) m e))

leaves_fit : (form : PageForm) (R : List Node) (ls : List Leaf) → EachLeaf FewLevels ls → Limited R → length R ≤ 1000000 → LeavesFit form R ls
leaves_fit form R [] f h k = tt
leaves_fit form R (l ∷ ls) f h k =
    let p : PagesLimit l R = pages_limit l R h k in
    (omega (arith, p.4), headers_fit form l (cut_pages l.kind [] (record_columns l R)) f.0.0 f.0.1 p.0 p.2, leaves_fit form R ls f.1 h k)

chunk_short : (form : PageForm) (l : Leaf) (R : List Node) → FewLevels l → Limited R → length R ≤ 1000000 → length (written_chunk form l R) ≤ 1125899906842624
chunk_short form l R f h k =
    let p : PagesLimit l R = pages_limit l R h k in
    omega (arith, pages_bytes_short form l (cut_pages l.kind [] (record_columns l R)) f.0 f.1 p.0, p.1, p.2, p.3)

chunks_short : (form : PageForm) (R : List Node) (ls : List Leaf) (place : ℕ) → EachLeaf FewLevels ls → Limited R → length R ≤ 1000000 → length (chunks_from form R ls place).bytes ≤ 1125899906842624 * length ls
chunks_short form R [] place f h k = omega arith
chunks_short form R (l ∷ ls) place f h k = omega (arith, length-append (written_chunk form l R) (chunks_from form R ls (place + length (written_chunk form l R))).bytes, chunk_short form l R f.0 h k, chunks_short form R ls (place + length (written_chunk form l R)) f.1 h k)

-- ---- the footer

-- names of at most 64 bytes
abbrev AreShort : List (List ℕ) → Type 0
AreShort ns = list_all (λ (n : List ℕ). nat_le (length n) 64) ns ≡ true

names_weight : (ns : List (List ℕ)) → AreShort ns → items_weight (items_of binary_item ns) ≤ 74 * length ns
names_weight [] h = omega arith
names_weight (n ∷ ns) h = let g : (nat_le (length n) 64 ≡ true) × AreShort ns = and_parts _ _ h in omega (arith, leb-true (length n) 64 g.0, names_weight ns g.1)

short_length : (n : List ℕ) → is_short_name n ≡ true → length n ≤ 64
short_length n h = leb-true (length n) longest_name (and_parts (is_name n) (nat_le (length n) longest_name) h).1

leaf_weight : (n : List ℕ) (r : Repetition) (k : Kind) → length n ≤ 64 → weight (element_tree (leaf_element n r k)) ≤ 200
leaf_weight n r bool_kind h = omega (arith, h)
leaf_weight n r int32_kind h = omega (arith, h)
leaf_weight n r int64_kind h = omega (arith, h)
leaf_weight n r text_kind h = omega (arith, h)

group_weight : (n : List ℕ) (r : Option ℤ) (fs : Fields) → length n ≤ 64 → weight (element_tree (group_element n r fs)) ≤ 200
group_weight n None fs h = omega (arith, h)
group_weight n (Some z) fs h = omega (arith, h)

abbrev elements_weight : List SchemaElement → ℕ
elements_weight es = items_weight (items_of (λ e. struct_item (element_tree e)) es)

weight_append : (es fs : List SchemaElement) → elements_weight (es ++ fs) ≡ elements_weight es + elements_weight fs
weight_append [] fs = omega arith
weight_append (e ∷ es) fs = omega (arith, weight_append es fs)

mutual
  fields_weight : (fs : Fields) → is_group fs ≡ true → elements_weight (elements fs) ≤ 200 * length (elements fs)
  fields_weight no_fields h = omega arith
  fields_weight (field n r s fs) h =
      let p : FirstField n s fs = first_of_group n r s fs h in
      omega (arith, weight_append (shape_elements n r s) (elements fs), length-append (shape_elements n r s) (elements fs), shape_weight n r s (short_length n p.0) p.2, fields_weight fs p.3)

  shape_weight : (n : List ℕ) (r : Repetition) (s : Shape) → length n ≤ 64 → is_shape s ≡ true → elements_weight (shape_elements n r s) ≤ 200 * length (shape_elements n r s)
  shape_weight n r (leaf k) l h = omega (arith, leaf_weight n r k l)
  shape_weight n r (group fs) l h =
      let p : (is_nonempty fs ≡ true) × (is_group fs ≡ true) = and_parts _ _ h in
      omega (arith, group_weight n (Some (pos (repetition_number r))) fs l, fields_weight fs p.1)

-- the names on the paths of leaves
abbrev ShortNames : Leaf → Type 0
ShortNames l = AreShort l.names

each_append : (P : Leaf → Type 0) (xs ys : List Leaf) → EachLeaf P xs → EachLeaf P ys → EachLeaf P (xs ++ ys)
each_append P [] ys h k = k
each_append P (x ∷ xs) ys h k = (h.0, each_append P xs ys h.1 k)

below_names : (n : List ℕ) (s : Step) → length n ≤ 64 → (ls : List Leaf) → EachLeaf ShortNames ls → EachLeaf ShortNames (map (leaf_below n s) ls)
below_names n s h [] a = tt
below_names n s h (l ∷ ls) a = (and_from _ _ (le-leb (length n) 64 h) a.0, below_names n s h ls a.1)

mutual
  fields_names : (fs : Fields) (i : ℕ) → is_group fs ≡ true → EachLeaf ShortNames (leaves_from fs i)
  fields_names no_fields i h = tt
  fields_names (field n r s fs) i h =
      let p : FirstField n s fs = first_of_group n r s fs h in
      each_append ShortNames (map (leaf_below n (record { place = i; repetition = r })) (shape_leaves s)) (leaves_from fs (suc i)) (below_names n (record { place = i; repetition = r }) (short_length n p.0) (shape_leaves s) (shape_names s p.2)) (fields_names fs (suc i) p.3)

  shape_names : (s : Shape) → is_shape s ≡ true → EachLeaf ShortNames (shape_leaves s)
  shape_names (leaf k) h = (refl, tt)
  shape_names (group fs) h = fields_names fs 0 (and_parts _ _ h).1

chunk_weight : (l : Leaf) (R : List Node) (place size : ℕ) → ShortNames l → length l.names ≤ 32 → weight (chunk_tree (chunk_at l R place size)) ≤ 3000
chunk_weight l R place size h k = omega (arith, names_weight l.names h, k)

chunks_weight : (form : PageForm) (R : List Node) (ls : List Leaf) (place : ℕ) → EachLeaf ShortNames ls → list_all (is_within 32) ls ≡ true → items_weight (items_of (λ c. struct_item (chunk_tree c)) (chunks_from form R ls place).columns) ≤ 3000 * length ls
chunks_weight form R [] place h w = omega arith
chunks_weight form R (l ∷ ls) place h w =
    let g : (nat_le (length l.names) 32 ≡ true) × (list_all (is_within 32) ls ≡ true) = and_parts _ _ w in
    omega (arith, chunk_weight l R place (length (written_chunk form l R)) h.0 (leb-true (length l.names) 32 g.0), chunks_weight form R ls (place + length (written_chunk form l R)) h.1 g.1)

groups_weight : (form : PageForm) (s : Schema) (R : List Node) → EachLeaf ShortNames (leaves s.fields) → list_all (is_within 32) (leaves s.fields) ≡ true → length (leaves s.fields) ≤ 1024 → items_weight (items_of (λ g. struct_item (group_tree g)) (groups_of form s R)) ≤ 4000000
groups_weight form s [] h w k = omega arith
groups_weight form s (n ∷ R) h w k = omega (arith, chunks_weight form (n ∷ R) (leaves s.fields) 4 h w, k)

meta_weight : (form : PageForm) (s : Schema) (R : List Node) → elements_weight (schema_elements s) ≤ 8000000 → items_weight (items_of (λ g. struct_item (group_tree g)) (groups_of form s R)) ≤ 4000000 → weight (file_tree (written_meta form s R)) ≤ 20000000
meta_weight form s R h g = omega (arith, h, g)

footer_short : (form : PageForm) (s : Schema) (R : List Node) → Limits s → length (written_footer form s R) ≤ 20000000
footer_short form s R k =
    let n : length (leaves s.fields) ≤ 1024 = few_leaves s.fields k.3 in
    let e : elements_weight (schema_elements s) ≤ 8000000 = omega (arith, group_weight s.name None s.fields (short_length s.name k.0), fields_weight s.fields k.1, few_elements s.fields k.1 k.2 k.3) in
    omega (arith, struct_short (file_tree (written_meta form s R)), meta_weight form s R e (groups_weight form s R (fields_names s.fields 0 k.1) (leaves_within s.fields 0 32 k.2) n))

-- ---- the file

chunks_of : (form : PageForm) (s : Schema) (R : List Node) → EachLeaf FewLevels (leaves s.fields) → length (leaves s.fields) ≤ 1024 → Limited R → length R ≤ 1000000 → length (written_chunks form s R).bytes ≤ 1152921504606846976
chunks_of form s [] f n h k = omega arith
chunks_of form s (x ∷ R) f n h k = omega (arith, chunks_short form (x ∷ R) (leaves s.fields) 4 f h k, n)

file_short : (form : PageForm) (s : Schema) (R : List Node) → length (written_chunks form s R).bytes ≤ 1152921504606846976 → length (written_footer form s R) ≤ 20000000 → length (file_bytes form s R) < 2 ^ 63
unfolding file_bytes
file_short form s R c f = sum_short (written_chunks form s R).bytes (written_footer form s R) c f
  where
    sum_short : (c f : List ℕ) → length c ≤ 1152921504606846976 → length f ≤ 20000000 → length (framed c f) < 2 ^ 63
    sum_short c f h g = omega (arith, length-append c (f ++ (little_endian_bytes 4 (length f) ++ magic)), length-append f (little_endian_bytes 4 (length f) ++ magic), length-append (little_endian_bytes 4 (length f)) magic, length_little_endian 4 (length f), h, g)

texts_fit : (R : List Node) → Limited R → list_all (λ (n : Node). nat_lt (text_bytes n) (2 ^ 32)) R ≡ true
texts_fit [] h = refl
texts_fit (n ∷ R) h =
    let g : (is_limited n ≡ true) × Limited R = and_parts _ _ h in
    let x : (nat_le (instance_count n) 1048575 ≡ true) × (nat_le (text_bytes n) 1073741824 ≡ true) = and_parts _ _ g.0 in
    and_from _ _ (lt-ltb (text_bytes n) (2 ^ 32) (omega (arith, leb-true (text_bytes n) 1073741824 x.1))) (texts_fit R g.1)

pub limited_records_fit : LimitedRecordsFit
limited_records_fit form s R h v m k =
    let l : Limits s = limits s h in
    let n : length (leaves s.fields) ≤ 1024 = few_leaves s.fields l.3 in
    let f : EachLeaf FewLevels (leaves s.fields) = each_of_nth FewLevels (leaves s.fields) (λ i x e. levels_few s.fields i x l.2 e) in
    let b : length (written_footer form s R) ≤ 20000000 = footer_short form s R l in
    (h, v, texts_fit R m, omega (arith, k), leaves_fit form R (leaves s.fields) f m k, omega (arith, b), file_short form s R (chunks_of form s R f n m k) b)
