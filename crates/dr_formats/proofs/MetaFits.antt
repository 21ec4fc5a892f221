-- The metadata that is written is a tree that can be spelled.
use Rattle.std.proofs.Common.{◌≡◌, ℕ, zero, suc, ◌+◌, ◌*◌, ◌^◌, ◌≤◌, ◌<◌, List, [], ◌∷◌, ◌++◌, map, length, true, refl, sym, ap, arith, pos, Some, None, true≢false}
use Rattle.std.specs.Prelude.{nat_lt, nat_le}
use Rattle.std.specs.List.{list_all}
use Rattle.std.proofs.lemmas.Bool.{and_parts, and_from, lt-ltb, leb-true}
use Rattle.std.proofs.lemmas.List.{length-append, length-map}
use Rattle.dr_meaning.specs.Schema.{Repetition, required, optional, repeated, Kind, bool_kind, int32_kind, int64_kind, text_kind, Fields, no_fields, field, Shape, leaf, group, Schema, is_name, is_short_name, longest_name, is_group, is_shape, is_nonempty, leaf_count, shape_leaf_count, depth, shape_depth}
use Rattle.dr_meaning.specs.Path.{Step, Leaf, leaf_below, leaves_from, shape_leaves, leaves}
use Rattle.dr_meaning.specs.Record.{Node}
use Rattle.dr_meaning.proofs.SchemaReadsBack.{FirstField, first_of_group}
use Rattle.dr_formats.specs.Compact.{binary_type, struct_type, Struct, Item, binary_item, struct_item, count_items, is_tree, is_struct, are_items}
use Rattle.dr_formats.specs.Metadata.{SchemaElement, RowGroup, items_of, element_tree, chunk_tree, group_tree, file_tree}
use Rattle.dr_formats.specs.Page.{PageForm}
use Rattle.dr_formats.specs.Writing.{record_columns, triplet_count, type_from, chunk_at, written_chunk, WrittenChunks, chunks_from, repetition_number, count_fields, leaf_element, group_element, elements, shape_elements, schema_elements, written_groups, file_meta, written_chunks, groups_of, written_meta}
use Rattle.dr_formats.proofs.SchemaBack.{leaves_within}

-- ---- lists of items

count_of : {A : Type 0} (f : A → Item) (xs : List A) → count_items (items_of f xs) ≡ length xs
count_of f [] = refl
count_of f (x ∷ xs) = ap suc (count_of f xs)

structs_are : {A : Type 0} (n : ℕ) (f : A → Struct) (xs : List A) → list_all (λ x. is_struct n (f x)) xs ≡ true → are_items (suc n) struct_type (items_of (λ x. struct_item (f x)) xs) ≡ true
structs_are n f [] h = refl
structs_are n f (x ∷ xs) h = let p : (is_struct n (f x) ≡ true) × (list_all (λ y. is_struct n (f y)) xs ≡ true) = and_parts _ _ h in and_from _ _ p.0 (structs_are n f xs p.1)

abbrev AreNames : List (List ℕ) → Type 0
AreNames ns = list_all (λ (n : List ℕ). nat_lt (length n) (2 ^ 64)) ns ≡ true

names_are : (n : ℕ) (ns : List (List ℕ)) → AreNames ns → are_items n binary_type (items_of binary_item ns) ≡ true
names_are n [] h = refl
names_are n (x ∷ ns) h = let p : (nat_lt (length x) (2 ^ 64) ≡ true) × AreNames ns = and_parts _ _ h in and_from _ _ p.0 (names_are n ns p.1)

-- ---- schema elements

short_fits : (n : List ℕ) → is_short_name n ≡ true → length n < 2 ^ 64
short_fits n h = omega (arith, leb-true (length n) longest_name (and_parts (is_name n) (nat_le (length n) longest_name) h).1)

leaf_element_fits : (n : List ℕ) (r : Repetition) (k : Kind) → length n < 2 ^ 64 → is_struct 29 (element_tree (leaf_element n r k)) ≡ true
leaf_element_fits n required bool_kind h = rw (lt-ltb (length n) (2 ^ 64) h) refl
leaf_element_fits n required int32_kind h = rw (lt-ltb (length n) (2 ^ 64) h) refl
leaf_element_fits n required int64_kind h = rw (lt-ltb (length n) (2 ^ 64) h) refl
leaf_element_fits n required text_kind h = rw (lt-ltb (length n) (2 ^ 64) h) refl
leaf_element_fits n optional bool_kind h = rw (lt-ltb (length n) (2 ^ 64) h) refl
leaf_element_fits n optional int32_kind h = rw (lt-ltb (length n) (2 ^ 64) h) refl
leaf_element_fits n optional int64_kind h = rw (lt-ltb (length n) (2 ^ 64) h) refl
leaf_element_fits n optional text_kind h = rw (lt-ltb (length n) (2 ^ 64) h) refl
leaf_element_fits n repeated bool_kind h = rw (lt-ltb (length n) (2 ^ 64) h) refl
leaf_element_fits n repeated int32_kind h = rw (lt-ltb (length n) (2 ^ 64) h) refl
leaf_element_fits n repeated int64_kind h = rw (lt-ltb (length n) (2 ^ 64) h) refl
leaf_element_fits n repeated text_kind h = rw (lt-ltb (length n) (2 ^ 64) h) refl

group_element_fits : (n : List ℕ) (r : Repetition) (fs : Fields) → length n < 2 ^ 64 → count_fields fs < 2 ^ 63 → is_struct 29 (element_tree (group_element n (Some (pos (repetition_number r))) fs)) ≡ true
group_element_fits n required fs h c = rw (lt-ltb (length n) (2 ^ 64) h, lt-ltb (count_fields fs) (2 ^ 63) c) refl
group_element_fits n optional fs h c = rw (lt-ltb (length n) (2 ^ 64) h, lt-ltb (count_fields fs) (2 ^ 63) c) refl
group_element_fits n repeated fs h c = rw (lt-ltb (length n) (2 ^ 64) h, lt-ltb (count_fields fs) (2 ^ 63) c) refl

root_element_fits : (n : List ℕ) (fs : Fields) → length n < 2 ^ 64 → count_fields fs < 2 ^ 63 → is_struct 29 (element_tree (group_element n None fs)) ≡ true
root_element_fits n fs h c = rw (lt-ltb (length n) (2 ^ 64) h, lt-ltb (count_fields fs) (2 ^ 63) c) refl

abbrev ElementsFit : List SchemaElement → Type 0
ElementsFit es = list_all (λ e. is_struct 29 (element_tree e)) es ≡ true

fit_append : (es gs : List SchemaElement) → ElementsFit es → ElementsFit gs → ElementsFit (es ++ gs)
fit_append [] gs h k = k
fit_append (e ∷ es) gs h k = let p : (is_struct 29 (element_tree e) ≡ true) × ElementsFit es = and_parts _ _ h in and_from _ _ p.0 (fit_append es gs p.1 k)

-- a group has no more fields than elements
count_few : (fs : Fields) → count_fields fs ≤ length (elements fs)
count_few no_fields = omega arith
count_few (field n r (leaf k) fs) = omega (arith, count_few fs)
count_few (field n r (group gs) fs) = omega (arith, count_few fs, length-append (elements gs) (elements fs))

mutual
  elements_fit : (fs : Fields) → is_group fs ≡ true → length (elements fs) < 2 ^ 63 → ElementsFit (elements fs)
  elements_fit no_fields h l = refl
  elements_fit (field n r s fs) h l =
      let p : FirstField n s fs = first_of_group n r s fs h in
      fit_append (shape_elements n r s) (elements fs) (shape_fits n r s p.0 p.2 (omega (arith, l, length-append (shape_elements n r s) (elements fs)))) (elements_fit fs p.3 (omega (arith, l, length-append (shape_elements n r s) (elements fs))))

  shape_fits : (n : List ℕ) (r : Repetition) (s : Shape) → is_short_name n ≡ true → is_shape s ≡ true → length (shape_elements n r s) < 2 ^ 63 → ElementsFit (shape_elements n r s)
  shape_fits n r (leaf k) h g l = and_from _ _ (leaf_element_fits n r k (short_fits n h)) refl
  shape_fits n r (group fs) h g l = and_from _ _ (group_element_fits n r fs (short_fits n h) (omega (arith, l, count_few fs))) (elements_fit fs (and_parts _ _ g).1 (omega (arith, l)))

-- ---- how many leaves and elements there are

mutual
  count_leaves : (fs : Fields) (i : ℕ) → length (leaves_from fs i) ≡ leaf_count fs
  count_leaves no_fields i = refl
  count_leaves (field n r s fs) i = omega (arith, length-append (map (leaf_below n (record { place = i; repetition = r })) (shape_leaves s)) (leaves_from fs (suc i)), length-map (shape_leaves s) (leaf_below n (record { place = i; repetition = r })), count_shape_leaves s, count_leaves fs (suc i))

  count_shape_leaves : (s : Shape) → length (shape_leaves s) ≡ shape_leaf_count s
  count_shape_leaves (leaf k) = refl
  count_shape_leaves (group fs) = count_leaves fs 0

mutual
  some_leaf : (s : Shape) → is_shape s ≡ true → 1 ≤ shape_leaf_count s
  some_leaf (leaf k) h = omega arith
  some_leaf (group fs) h = some_leaf_of fs (and_parts _ _ h).0 (and_parts _ _ h).1

  some_leaf_of : (fs : Fields) → is_nonempty fs ≡ true → is_group fs ≡ true → 1 ≤ leaf_count fs
  some_leaf_of no_fields g h = absurd (true≢false (sym g))
  some_leaf_of (field n r s fs) g h = omega (arith, some_leaf s (first_of_group n r s fs h).2)

mutual
  elements_few : (fs : Fields) (d : ℕ) → is_group fs ≡ true → depth fs ≤ d → length (elements fs) ≤ leaf_count fs * d
  elements_few no_fields d h l = omega arith
  elements_few (field n r s fs) zero h l = absurd (omega (arith, l))
  elements_few (field n r s fs) (suc d) h l =
      let p : FirstField n s fs = first_of_group n r s fs h in
      let m : shape_depth s ≤ d = omega (arith, l) in
      let a : length (shape_elements n r s) ≤ shape_leaf_count s * suc d = shape_few n r s d p.2 m in
      let b : length (elements fs) ≤ leaf_count fs * suc d = elements_few fs (suc d) p.3 (omega (arith, l)) in
      omega (arith, a, b, length-append (shape_elements n r s) (elements fs))

  shape_few : (n : List ℕ) (r : Repetition) (s : Shape) (d : ℕ) → is_shape s ≡ true → shape_depth s ≤ d → length (shape_elements n r s) ≤ shape_leaf_count s * suc d
  shape_few n r (leaf k) d h l = omega arith
  shape_few n r (group fs) d h l =
      let p : (is_nonempty fs ≡ true) × (is_group fs ≡ true) = and_parts _ _ h in
      let a : length (elements fs) ≤ leaf_count fs * d = elements_few fs d p.1 l in
      omega (arith, a, some_leaf_of fs p.0 p.1)

pub few_leaves : (fs : Fields) → leaf_count fs ≤ 1024 → length (leaves fs) ≤ 1024
few_leaves fs l = omega (arith, l, count_leaves fs 0)

pub few_elements : (fs : Fields) → is_group fs ≡ true → depth fs ≤ 32 → leaf_count fs ≤ 1024 → length (elements fs) ≤ 32768
few_elements fs h d l = omega (arith, l, elements_few fs 32 h d)

-- ---- names of leaves

abbrev pub EachLeafFits : List Leaf → Type 0
EachLeafFits ls = list_all (λ (l : Leaf). list_all (λ (n : List ℕ). nat_lt (length n) (2 ^ 64)) l.names) ls ≡ true

fits_append : (xs ys : List Leaf) → EachLeafFits xs → EachLeafFits ys → EachLeafFits (xs ++ ys)
fits_append [] ys h k = k
fits_append (x ∷ xs) ys h k = let p : AreNames x.names × EachLeafFits xs = and_parts _ _ h in and_from _ _ p.0 (fits_append xs ys p.1 k)

fits_below : (n : List ℕ) (s : Step) (ls : List Leaf) → length n < 2 ^ 64 → EachLeafFits ls → EachLeafFits (map (leaf_below n s) ls)
fits_below n s [] h k = refl
fits_below n s (l ∷ ls) h k = let p : AreNames l.names × EachLeafFits ls = and_parts _ _ k in and_from _ _ (and_from _ _ (lt-ltb (length n) (2 ^ 64) h) p.0) (fits_below n s ls h p.1)

mutual
  leaves_fit : (fs : Fields) (i : ℕ) → is_group fs ≡ true → EachLeafFits (leaves_from fs i)
  leaves_fit no_fields i h = refl
  leaves_fit (field n r s fs) i h =
      let p : FirstField n s fs = first_of_group n r s fs h in
      fits_append (map (leaf_below n (record { place = i; repetition = r })) (shape_leaves s)) (leaves_from fs (suc i)) (fits_below n (record { place = i; repetition = r }) (shape_leaves s) (short_fits n p.0) (shape_leaves_fit s p.2)) (leaves_fit fs (suc i) p.3)

  shape_leaves_fit : (s : Shape) → is_shape s ≡ true → EachLeafFits (shape_leaves s)
  shape_leaves_fit (leaf k) h = refl
  shape_leaves_fit (group fs) h = leaves_fit fs 0 (and_parts _ _ h).1

-- ---- chunks, row groups, files

small_type : (k : Kind) → type_from k < 2 ^ 63
small_type bool_kind = omega arith
small_type int32_kind = omega arith
small_type int64_kind = omega arith
small_type text_kind = omega arith

chunk_fits : (l : Leaf) (R : List Node) (place size : ℕ) → AreNames l.names → length l.names < 2 ^ 64 → triplet_count (record_columns l R) < 2 ^ 63 → place < 2 ^ 63 → size < 2 ^ 63 → is_struct 27 (chunk_tree (chunk_at l R place size)) ≡ true
chunk_fits l R place size a b c d e = rw (lt-ltb place (2 ^ 63) d, lt-ltb size (2 ^ 63) e, lt-ltb (triplet_count (record_columns l R)) (2 ^ 63) c, lt-ltb (type_from l.kind) (2 ^ 63) (small_type l.kind), count_of binary_item l.names, lt-ltb (length l.names) (2 ^ 64) b, names_are 25 l.names a) refl

abbrev LeafNumbers : List Node → List Leaf → Type 0
LeafNumbers R [] = Unit {0}
LeafNumbers R (l ∷ ls) = AreNames l.names × (length l.names < 2 ^ 64) × (triplet_count (record_columns l R) < 2 ^ 63) × LeafNumbers R ls

chunks_fit : (form : PageForm) (R : List Node) (ls : List Leaf) (place : ℕ) → LeafNumbers R ls → place + length (chunks_from form R ls place).bytes < 2 ^ 63 → list_all (λ c. is_struct 27 (chunk_tree c)) (chunks_from form R ls place).columns ≡ true
chunks_fit form R [] place h l = refl
chunks_fit form R (x ∷ ls) place h l =
    let w : List ℕ = written_chunk form x R in
    let g : length (w ++ (chunks_from form R ls (place + length w)).bytes) ≡ length w + length (chunks_from form R ls (place + length w)).bytes = length-append w (chunks_from form R ls (place + length w)).bytes in
    and_from _ _ (chunk_fits x R place (length w) h.0 h.1 h.2 (omega (arith, l)) (omega (arith, l, g))) (chunks_fit form R ls (place + length w) h.3 (omega (arith, l, g)))

group_fits : (w : WrittenChunks) (rows : ℕ) → list_all (λ c. is_struct 27 (chunk_tree c)) w.columns ≡ true → length w.columns < 2 ^ 64 → length w.bytes < 2 ^ 63 → rows < 2 ^ 63 → are_items 30 struct_type (items_of (λ g. struct_item (group_tree g)) (written_groups rows w)) ≡ true
group_fits w rows h a b c = rw (count_of (λ x. struct_item (chunk_tree x)) w.columns, lt-ltb (length w.columns) (2 ^ 64) a, structs_are 27 chunk_tree w.columns h, lt-ltb (length w.bytes) (2 ^ 63) b, lt-ltb rows (2 ^ 63) c) refl

pub file_fits : (s : Schema) (rows : ℕ) (gs : List RowGroup) → ElementsFit (schema_elements s) → length (schema_elements s) < 2 ^ 64 → rows < 2 ^ 63 → are_items 30 struct_type (items_of (λ g. struct_item (group_tree g)) gs) ≡ true → length gs < 2 ^ 64 → is_tree (file_tree (file_meta s rows gs)) ≡ true
file_fits s rows gs e c r g n =
    let p : (is_struct 29 (element_tree (group_element s.name None s.fields)) ≡ true) × ElementsFit (elements s.fields) = and_parts _ _ e in
    rw (count_of (λ x. struct_item (element_tree x)) (elements s.fields), structs_are 29 element_tree (elements s.fields) p.1, p.0, lt-ltb (suc (length (elements s.fields))) (2 ^ 64) c, lt-ltb rows (2 ^ 63) r, count_of (λ x. struct_item (group_tree x)) gs, lt-ltb (length gs) (2 ^ 64) n, g) refl

-- ---- all of it

abbrev pub LeafCounts : List Node → List Leaf → Type 0
LeafCounts R [] = Unit {0}
LeafCounts R (l ∷ ls) = (triplet_count (record_columns l R) < 2 ^ 63) × LeafCounts R ls

pub columns_many : (form : PageForm) (R : List Node) (ls : List Leaf) (place : ℕ) → length (chunks_from form R ls place).columns ≡ length ls
columns_many form R [] place = refl
columns_many form R (l ∷ ls) place = ap suc (columns_many form R ls (place + length (written_chunk form l R)))

names_few : (ls : List Leaf) → list_all (λ (l : Leaf). nat_le (length l.names) 32) ls ≡ true → EachLeafFits ls → (R : List Node) → LeafCounts R ls → LeafNumbers R ls
names_few [] h g R c = tt
names_few (l ∷ ls) h g R c =
    let p : (nat_le (length l.names) 32 ≡ true) × (list_all (λ (x : Leaf). nat_le (length x.names) 32) ls ≡ true) = and_parts _ _ h in
    let q : AreNames l.names × EachLeafFits ls = and_parts _ _ g in
    (q.0, omega (arith, leb-true _ _ p.0), c.0, names_few ls p.1 q.1 R c.1)

-- the metadata of records is a tree that can be spelled
pub meta_fits : (form : PageForm) (s : Schema) (R : List Node) → is_short_name s.name ≡ true → is_group s.fields ≡ true → depth s.fields ≤ 32 → leaf_count s.fields ≤ 1024 → LeafCounts R (leaves s.fields) → length R < 2 ^ 63 → 4 + length (written_chunks form s R).bytes < 2 ^ 63 → is_tree (file_tree (written_meta form s R)) ≡ true
meta_fits form s R n g d c k r b =
    let e : length (elements s.fields) ≤ 32768 = few_elements s.fields g d c in
    let f : ElementsFit (schema_elements s) = and_from _ _ (root_element_fits s.name s.fields (short_fits s.name n) (omega (arith, e, count_few s.fields))) (elements_fit s.fields g (omega (arith, e))) in
    file_fits s (length R) (groups_of form s R) f (omega (arith, e)) r (groups_fit R k r b) (groups_few R)
  where
    groups_few : (Q : List Node) → length (groups_of form s Q) < 2 ^ 64
    groups_few [] = omega arith
    groups_few (x ∷ Q) = omega arith

    groups_fit : (Q : List Node) → LeafCounts Q (leaves s.fields) → length Q < 2 ^ 63 → 4 + length (written_chunks form s Q).bytes < 2 ^ 63 → are_items 30 struct_type (items_of (λ y. struct_item (group_tree y)) (groups_of form s Q)) ≡ true
    groups_fit [] j l h = refl
    groups_fit (x ∷ Q) j l h = group_fits (written_chunks form s (x ∷ Q)) (length (x ∷ Q)) (chunks_fit form (x ∷ Q) (leaves s.fields) 4 (names_few (leaves s.fields) (leaves_within s.fields 0 32 d) (leaves_fit s.fields 0 g) (x ∷ Q) j) h) (omega (arith, columns_many form (x ∷ Q) (leaves s.fields) 4, few_leaves s.fields c)) (omega (arith, h)) l
