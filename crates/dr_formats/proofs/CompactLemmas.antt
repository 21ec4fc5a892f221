-- What is written for a struct is read as that struct, whatever follows it.
use Rattle.std.proofs.Common.{◌≡◌, ℕ, zero, suc, ◌+◌, ◌*◌, ◌^◌, ◌≤◌, ◌<◌, List, [], ◌∷◌, ◌++◌, length, Bool, true, false, refl, sym, ap, ◌∙◌, subst, arith, ℤ, pos, negsuc, Some, true≢false, ◌⊎◌, inl, inr}
use Rattle.std.specs.Prelude.{nat_lt, ◌==◌, ◌&&◌, if◌then◌else◌, ◌+ℤ◌, ◌-ℤ◌, ◌-◌}
use Rattle.std.proofs.lemmas.Bool.{ltb-true, eqb-true, ne_eqb, and_parts, leb-true}
use Rattle.std.proofs.lemmas.Nat.{div-mul-add, mod-mul-add}
use Rattle.std.proofs.lemmas.List.{length-append}
use Rattle.std.proofs.Math.IntN.{+ℤ_comm, -ℤ-+ℤ_cancel}
use Rattle.dr_meaning.specs.Record.{in_int64}
use Rattle.dr_formats.specs.Reading.{Reader, give, ◌>>=◌, byte_as, bytes_of, IsReadAs}
use Rattle.dr_formats.specs.Varint.{varint, varint_below, varint_bytes, zigzag, from_zigzag}
use Rattle.dr_formats.specs.Compact.{CompactFault, malformed, ThriftType, true_type, false_type, byte_type, i16_type, i32_type, i64_type, double_type, binary_type, list_type, set_type, map_type, struct_type, Struct, stop, struct_field, Item, truth_item, byte_item, i16_item, i32_item, i64_item, double_item, binary_item, list_item, set_item, empty_map_item, map_item, struct_item, Items, no_items, item, Pairs, no_pairs, pair, type_number, type_of, signed_varint, binary, ListHeader, list_header_byte, list_size, list_header, MapTypes, map_types, items, pairs, map_of, short_header, long_header, in_int16, with_delta, field_header, field_id, field_value, field_and_rest, after_header, fields, struct_of, value_of, read_struct, item_type, count_items, count_pairs, signed_bytes, list_header_bytes, header_by_delta, header_bytes, in_field, fields_bytes, item_bytes, items_bytes, pairs_bytes, struct_bytes, is_truth, has_type, is_struct, is_item, are_items, are_pairs}
use Rattle.dr_formats.specs.CompactLaws.{WrittenStructIsRead}
use Rattle.dr_formats.proofs.ReadingLemmas.{spells_then, spells_map, spells_as, spells_bytes}
use Rattle.dr_formats.proofs.VarintLemmas.{spells_varint, spells_below, zigzag_back}

-- ---- types

pub type_of_number : (t : ThriftType) → type_of (type_number t) ≡ Some t
type_of_number true_type = refl
type_of_number false_type = refl
type_of_number byte_type = refl
type_of_number i16_type = refl
type_of_number i32_type = refl
type_of_number i64_type = refl
type_of_number double_type = refl
type_of_number binary_type = refl
type_of_number list_type = refl
type_of_number set_type = refl
type_of_number map_type = refl
type_of_number struct_type = refl

pub small_number : (t : ThriftType) → (0 < type_number t) × (type_number t < 16)
small_number true_type = (omega arith, omega arith)
small_number false_type = (omega arith, omega arith)
small_number byte_type = (omega arith, omega arith)
small_number i16_type = (omega arith, omega arith)
small_number i32_type = (omega arith, omega arith)
small_number i64_type = (omega arith, omega arith)
small_number double_type = (omega arith, omega arith)
small_number binary_type = (omega arith, omega arith)
small_number list_type = (omega arith, omega arith)
small_number set_type = (omega arith, omega arith)
small_number map_type = (omega arith, omega arith)
small_number struct_type = (omega arith, omega arith)

pub some_same : {A : Type 0} (a b : A) → Some a ≡ Some b → a ≡ b
some_same a b e = cc

same_number : (t u : ThriftType) → type_number t ≡ type_number u → t ≡ u
same_number t u e = some_same t u (sym (type_of_number t) ∙ (ap type_of e ∙ type_of_number u))

-- ---- numbers

zigzag_room : (z : ℤ) → in_int64 z ≡ true → zigzag z < 2 ^ 64
zigzag_room (pos n) h = let l : n < 2 ^ 63 = ltb-true _ _ h in omega arith
zigzag_room (negsuc n) h = let l : n ≤ 2 ^ 63 - 1 = leb-true _ _ (and_parts _ _ h).0 in omega arith

pub spells_signed : (z : ℤ) → in_int64 z ≡ true → IsReadAs signed_varint (signed_bytes z) z
spells_signed z h = subst (IsReadAs signed_varint (signed_bytes z)) (zigzag_back z) (spells_map (varint malformed malformed) from_zigzag (signed_bytes z) (zigzag z) (spells_varint malformed malformed (zigzag z) (zigzag_room z h)))

-- ---- headers of lists, sets and maps

abbrev pub header : ℕ → ThriftType → ListHeader
header n t = record { size = n; element = t }

header_byte : (n : ℕ) (t : ThriftType) → list_header_byte (n * 16 + type_number t) ≡ Some (header n t)
header_byte n t = rw (div-mul-add n 16 (type_number t) (small_number t).1, mod-mul-add n 16 (type_number t) (small_number t).1, type_of_number t) refl

long_size : (n : ℕ) (t : ThriftType) → n < 2 ^ 64 → IsReadAs (list_size (header 15 t)) (varint_bytes n) (header n t)
long_size n t h = spells_map (varint malformed malformed) (λ k. header k t) (varint_bytes n) n (spells_varint malformed malformed n h)

list_header_by : (n : ℕ) (t : ThriftType) (b : Bool) → nat_lt n 15 ≡ b → n < 2 ^ 64 → IsReadAs list_header (if b then (n * 16 + type_number t) ∷ [] else (240 + type_number t) ∷ varint_bytes n) (header n t)
list_header_by n t true e h =
    let l : n < 15 = ltb-true _ _ e in
    let k : (n == 15) ≡ false = ne_eqb n 15 (omega arith) in
    spells_then (byte_as malformed malformed list_header_byte) list_size ((n * 16 + type_number t) ∷ []) [] (header n t) (header n t) (spells_as malformed malformed list_header_byte (n * 16 + type_number t) (header n t) (header_byte n t)) (λ rest. rw k refl)
list_header_by n t false e h = spells_then (byte_as malformed malformed list_header_byte) list_size ((240 + type_number t) ∷ []) (varint_bytes n) (header 15 t) (header n t) (spells_as malformed malformed list_header_byte (240 + type_number t) (header 15 t) (header_byte 15 t)) (long_size n t h)

spells_list_header : (n : ℕ) (t : ThriftType) → n < 2 ^ 64 → IsReadAs list_header (list_header_bytes n t) (header n t)
spells_list_header n t h = list_header_by n t (nat_lt n 15) refl h

abbrev pub both_types : ThriftType → ThriftType → MapTypes
both_types k v = record { key = k; value = v }

map_types_byte : (k v : ThriftType) → map_types (type_number k * 16 + type_number v) ≡ Some (both_types k v)
map_types_byte k v = rw (div-mul-add (type_number k) 16 (type_number v) (small_number v).1, mod-mul-add (type_number k) 16 (type_number v) (small_number v).1, type_of_number k, type_of_number v) refl

-- ---- headers of fields

id_room : (z : ℤ) → in_int16 z ≡ true → zigzag z < 2 ^ 16
id_room (pos n) h = let l : n < 2 ^ 15 = ltb-true _ _ h in omega arith
id_room (negsuc n) h = let l : n ≤ 2 ^ 15 - 1 = leb-true _ _ (and_parts _ _ h).0 in omega arith

spells_id : (z : ℤ) → in_int16 z ≡ true → IsReadAs field_id (signed_bytes z) z
spells_id z h = subst (IsReadAs field_id (signed_bytes z)) (zigzag_back z) (spells_map (varint_below (2 ^ 16) malformed malformed) from_zigzag (signed_bytes z) (zigzag z) (spells_below (2 ^ 16) malformed malformed (zigzag z) (omega arith) (id_room z h)))

-- a header is read, and then the value and the rest are
abbrev pub HeaderReads : ℤ → ℤ → ThriftType → List ℕ → Type 0
HeaderReads last id t bytes = (value : ThriftType → Reader CompactFault Item) (next : ℤ → Reader CompactFault Struct) (u : List ℕ) (s : Struct) → IsReadAs (field_and_rest value next t id) u s → IsReadAs (byte_as malformed malformed (field_header last) >>= after_header value next) (bytes ++ u) s

header_of_byte : (last : ℤ) (d : ℕ) (t : ThriftType) → field_header last (d * 16 + type_number t) ≡ with_delta last d t
header_of_byte last d t =
    let k : (d * 16 + type_number t == 0) ≡ false = ne_eqb _ _ (omega (arith, small_number t)) in
    rw (k, div-mul-add d 16 (type_number t) (small_number t).1, mod-mul-add d 16 (type_number t) (small_number t).1, type_of_number t) refl

short_reads : (last id : ℤ) (d : ℕ) (t : ThriftType) → id -ℤ last ≡ pos (suc d) → in_int16 id ≡ true → HeaderReads last id t ((suc d * 16 + type_number t) ∷ [])
short_reads last id d t e h value next u s k =
    let f : last +ℤ pos (suc d) ≡ id = +ℤ_comm last (pos (suc d)) ∙ (ap (λ z. z +ℤ last) (sym e) ∙ -ℤ-+ℤ_cancel id last) in
    let g : with_delta last (suc d) t ≡ Some (short_header id t) = rw (f, h) refl in
    spells_then (byte_as malformed malformed (field_header last)) (after_header value next) ((suc d * 16 + type_number t) ∷ []) u (short_header id t) s (spells_as malformed malformed (field_header last) (suc d * 16 + type_number t) (short_header id t) (header_of_byte last (suc d) t ∙ g)) k

long_reads : (last id : ℤ) (t : ThriftType) → in_int16 id ≡ true → HeaderReads last id t (type_number t ∷ signed_bytes id)
long_reads last id t h value next u s k =
    let z : 0 * 16 + type_number t ≡ type_number t = omega arith in
    spells_then (byte_as malformed malformed (field_header last)) (after_header value next) (type_number t ∷ []) (signed_bytes id ++ u) (long_header t) s (spells_as malformed malformed (field_header last) (type_number t) (long_header t) (rw z at (header_of_byte last 0 t))) (spells_then field_id (field_and_rest value next t) (signed_bytes id) u id s (spells_id id h) k)

header_by : (last id delta : ℤ) (t : ThriftType) → id -ℤ last ≡ delta → in_int16 id ≡ true → HeaderReads last id t (header_by_delta delta id t)
header_by last id (pos zero) t e h = long_reads last id t h
header_by last id (pos (suc d)) t e h = short_or_long (nat_lt d 15)
  where
    short_or_long : (b : Bool) → HeaderReads last id t (if b then (suc d * 16 + type_number t) ∷ [] else type_number t ∷ signed_bytes id)
    short_or_long true = short_reads last id d t e h
    short_or_long false = long_reads last id t h
header_by last id (negsuc d) t e h = long_reads last id t h

header_reads : (last id : ℤ) (t : ThriftType) → in_int16 id ≡ true → HeaderReads last id t (header_bytes last id t)
header_reads last id t h = header_by last id (id -ℤ last) t refl h

-- ---- values in fields

field_value_back : (n : ℕ) (x : Item) → IsReadAs (value_of n (item_type x)) (item_bytes x) x → IsReadAs (field_value (value_of n) (item_type x)) (in_field x (item_bytes x)) x
field_value_back n (truth_item true) h = λ rest. refl
field_value_back n (truth_item false) h = λ rest. refl
field_value_back n (byte_item b) h = h
field_value_back n (i16_item z) h = h
field_value_back n (i32_item z) h = h
field_value_back n (i64_item z) h = h
field_value_back n (double_item b) h = h
field_value_back n (binary_item b) h = h
field_value_back n (list_item t xs) h = h
field_value_back n (set_item t xs) h = h
field_value_back n empty_map_item h = h
field_value_back n (map_item k v xs) h = h
field_value_back n (struct_item s) h = h

-- ---- values in lists, sets and maps

own_type : (t : ThriftType) (x : Item) → is_truth x ≡ false → has_type t x ≡ true → item_type x ≡ t
own_type true_type x f h = absurd (true≢false (sym h ∙ f))
own_type false_type x f h = absurd (true≢false (sym h ∙ f))
own_type byte_type x f h = sym (same_number byte_type (item_type x) (eqb-true _ _ h))
own_type i16_type x f h = sym (same_number i16_type (item_type x) (eqb-true _ _ h))
own_type i32_type x f h = sym (same_number i32_type (item_type x) (eqb-true _ _ h))
own_type i64_type x f h = sym (same_number i64_type (item_type x) (eqb-true _ _ h))
own_type double_type x f h = sym (same_number double_type (item_type x) (eqb-true _ _ h))
own_type binary_type x f h = sym (same_number binary_type (item_type x) (eqb-true _ _ h))
own_type list_type x f h = sym (same_number list_type (item_type x) (eqb-true _ _ h))
own_type set_type x f h = sym (same_number set_type (item_type x) (eqb-true _ _ h))
own_type map_type x f h = sym (same_number map_type (item_type x) (eqb-true _ _ h))
own_type struct_type x f h = sym (same_number struct_type (item_type x) (eqb-true _ _ h))

not_truth : (t : ThriftType) (b : Bool) → (type_number t == type_number (item_type (truth_item b))) ≡ true → (t ≡ true_type) ⊎ (t ≡ false_type)
not_truth t true h = inl (same_number t true_type (eqb-true _ _ h))
not_truth t false h = inr (same_number t false_type (eqb-true _ _ h))

truth_back : (n : ℕ) (b : Bool) → (IsReadAs (value_of n true_type) (item_bytes (truth_item b)) (truth_item b)) × (IsReadAs (value_of n false_type) (item_bytes (truth_item b)) (truth_item b))
truth_back n true = (λ rest. refl, λ rest. refl)
truth_back n false = (λ rest. refl, λ rest. refl)

truth_of_type : (t : ThriftType) (b : Bool) → has_type t (truth_item b) ≡ true → (t ≡ true_type) ⊎ (t ≡ false_type)
truth_of_type true_type b h = inl refl
truth_of_type false_type b h = inr refl
truth_of_type byte_type b h = not_truth byte_type b h
truth_of_type i16_type b h = not_truth i16_type b h
truth_of_type i32_type b h = not_truth i32_type b h
truth_of_type i64_type b h = not_truth i64_type b h
truth_of_type double_type b h = not_truth double_type b h
truth_of_type binary_type b h = not_truth binary_type b h
truth_of_type list_type b h = not_truth list_type b h
truth_of_type set_type b h = not_truth set_type b h
truth_of_type map_type b h = not_truth map_type b h
truth_of_type struct_type b h = not_truth struct_type b h

truth_element : (n : ℕ) (t : ThriftType) (b : Bool) → (t ≡ true_type) ⊎ (t ≡ false_type) → IsReadAs (value_of n t) (item_bytes (truth_item b)) (truth_item b)
truth_element n t b (inl e) = rw e (truth_back n b).0
truth_element n t b (inr e) = rw e (truth_back n b).1

other_element : (n : ℕ) (t : ThriftType) (x : Item) → is_truth x ≡ false → has_type t x ≡ true → IsReadAs (value_of n (item_type x)) (item_bytes x) x → IsReadAs (value_of n t) (item_bytes x) x
other_element n t x f h k = subst (λ (u : ThriftType). IsReadAs (value_of n u) (item_bytes x) x) (own_type t x f h) k

-- a value is read as an element of its type where it is read by its own type
element_back : (n : ℕ) (t : ThriftType) (x : Item) → has_type t x ≡ true → IsReadAs (value_of n (item_type x)) (item_bytes x) x → IsReadAs (value_of n t) (item_bytes x) x
element_back n t (truth_item b) h k = truth_element n t b (truth_of_type t b h)
element_back n t (byte_item b) h k = other_element n t (byte_item b) refl h k
element_back n t (i16_item z) h k = other_element n t (i16_item z) refl h k
element_back n t (i32_item z) h k = other_element n t (i32_item z) refl h k
element_back n t (i64_item z) h k = other_element n t (i64_item z) refl h k
element_back n t (double_item b) h k = other_element n t (double_item b) refl h k
element_back n t (binary_item b) h k = other_element n t (binary_item b) refl h k
element_back n t (list_item u xs) h k = other_element n t (list_item u xs) refl h k
element_back n t (set_item u xs) h k = other_element n t (set_item u xs) refl h k
element_back n t empty_map_item h k = other_element n t empty_map_item refl h k
element_back n t (map_item u v xs) h k = other_element n t (map_item u v xs) refl h k
element_back n t (struct_item s) h k = other_element n t (struct_item s) refl h k

-- ---- trees

pub header_has_byte : (id delta : ℤ) (t : ThriftType) → 1 ≤ length (header_by_delta delta id t)
header_has_byte id (pos zero) t = omega arith
header_has_byte id (pos (suc d)) t = by (nat_lt d 15)
  where
    by : (b : Bool) → 1 ≤ length (if b then (suc d * 16 + type_number t) ∷ [] else type_number t ∷ signed_bytes id)
    by true = omega arith
    by false = omega arith
header_has_byte id (negsuc d) t = omega arith

enough_behind : (last id : ℤ) (t : ThriftType) (u v : List ℕ) (k : ℕ) → length (header_bytes last id t ++ (u ++ v)) ≤ suc k → length v ≤ k
enough_behind last id t u v k h = omega (arith, length-append (header_bytes last id t) (u ++ v), length-append u v, header_has_byte id (id -ℤ last) t)

no_nesting : (x : Item) (A : Type 0) → false ≡ true → A
no_nesting x A h = absurd (true≢false (sym h))

abbrev pub list_reader : ℕ → (ThriftType → Items → Item) → ListHeader → Reader CompactFault Item
list_reader n make h = items (value_of n h.element) h.size >>= (λ xs. give (make h.element xs))

some_pairs : (n : ℕ) (k v : ThriftType) (xs : Pairs) → 0 < count_pairs xs → IsReadAs (pairs (value_of n k) (value_of n v) (count_pairs xs)) (pairs_bytes xs) xs → IsReadAs (map_of (value_of n) (count_pairs xs)) ((type_number k * 16 + type_number v) ∷ pairs_bytes xs) (map_item k v xs)
some_pairs n k v no_pairs l h = absurd (omega arith)
some_pairs n k v (pair x y xs) l h = spells_then (byte_as malformed malformed map_types) (λ t. pairs (value_of n t.key) (value_of n t.value) (suc (count_pairs xs)) >>= (λ ys. give (map_item t.key t.value ys))) ((type_number k * 16 + type_number v) ∷ []) (pairs_bytes (pair x y xs)) (both_types k v) (map_item k v (pair x y xs)) (spells_as malformed malformed map_types (type_number k * 16 + type_number v) (both_types k v) (map_types_byte k v)) (spells_map (pairs (value_of n k) (value_of n v) (suc (count_pairs xs))) (map_item k v) (pairs_bytes (pair x y xs)) (pair x y xs) h)

struct_back : (n : ℕ) (s : Struct) → ((k : ℕ) → length (fields_bytes (pos 0) s) ≤ k → IsReadAs (fields (value_of n) k (pos 0)) (fields_bytes (pos 0) s) s) → IsReadAs (struct_of (value_of n)) (fields_bytes (pos 0) s) s
struct_back n s back rest = back (length (fields_bytes (pos 0) s ++ rest)) (omega (arith, length-append (fields_bytes (pos 0) s) rest)) rest

mutual
  item_back : (n : ℕ) (x : Item) → is_item n x ≡ true → IsReadAs (value_of n (item_type x)) (item_bytes x) x
  item_back n (truth_item true) h = λ rest. refl
  item_back n (truth_item false) h = λ rest. refl
  item_back n (byte_item b) h = λ rest. refl
  item_back n (i16_item z) h = spells_map signed_varint i16_item (signed_bytes z) z (spells_signed z h)
  item_back n (i32_item z) h = spells_map signed_varint i32_item (signed_bytes z) z (spells_signed z h)
  item_back n (i64_item z) h = spells_map signed_varint i64_item (signed_bytes z) z (spells_signed z h)
  item_back n (double_item b) h = spells_map (bytes_of malformed 8) double_item b b (spells_bytes malformed 8 b (eqb-true _ _ h))
  item_back n (binary_item b) h = spells_map binary binary_item (varint_bytes (length b) ++ b) b (spells_then (varint malformed malformed) (bytes_of malformed) (varint_bytes (length b)) b (length b) b (spells_varint malformed malformed (length b) (ltb-true _ _ h)) (spells_bytes malformed (length b) b refl))
  item_back zero (list_item t xs) h = no_nesting (list_item t xs) _ h
  item_back zero (set_item t xs) h = no_nesting (set_item t xs) _ h
  item_back zero empty_map_item h = no_nesting empty_map_item _ h
  item_back zero (map_item k v xs) h = no_nesting (map_item k v xs) _ h
  item_back zero (struct_item s) h = no_nesting (struct_item s) _ h
  item_back (suc n) (list_item t xs) h =
      let p : (nat_lt (count_items xs) (2 ^ 64) ≡ true) × (are_items n t xs ≡ true) = and_parts _ _ h in
      spells_then list_header (list_reader n list_item) (list_header_bytes (count_items xs) t) (items_bytes xs) (header (count_items xs) t) (list_item t xs) (spells_list_header (count_items xs) t (ltb-true _ _ p.0)) (spells_map (items (value_of n t) (count_items xs)) (list_item t) (items_bytes xs) xs (items_back n t xs p.1))
  item_back (suc n) (set_item t xs) h =
      let p : (nat_lt (count_items xs) (2 ^ 64) ≡ true) × (are_items n t xs ≡ true) = and_parts _ _ h in
      spells_then list_header (list_reader n set_item) (list_header_bytes (count_items xs) t) (items_bytes xs) (header (count_items xs) t) (set_item t xs) (spells_list_header (count_items xs) t (ltb-true _ _ p.0)) (spells_map (items (value_of n t) (count_items xs)) (set_item t) (items_bytes xs) xs (items_back n t xs p.1))
  item_back (suc n) empty_map_item h = λ rest. refl
  item_back (suc n) (map_item k v xs) h =
      let p : ((nat_lt 0 (count_pairs xs) && nat_lt (count_pairs xs) (2 ^ 64)) ≡ true) × (are_pairs n k v xs ≡ true) = and_parts _ _ h in
      let q : (nat_lt 0 (count_pairs xs) ≡ true) × (nat_lt (count_pairs xs) (2 ^ 64) ≡ true) = and_parts _ _ p.0 in
      spells_then (varint malformed malformed) (map_of (value_of n)) (varint_bytes (count_pairs xs)) ((type_number k * 16 + type_number v) ∷ pairs_bytes xs) (count_pairs xs) (map_item k v xs) (spells_varint malformed malformed (count_pairs xs) (ltb-true _ _ q.1)) (some_pairs n k v xs (ltb-true _ _ q.0) (pairs_back n k v xs p.1))
  item_back (suc n) (struct_item s) h = spells_map (struct_of (value_of n)) struct_item (fields_bytes (pos 0) s) s (struct_back n s (λ k l. fields_back n (pos 0) s k h l))

  items_back : (n : ℕ) (t : ThriftType) (xs : Items) → are_items n t xs ≡ true → IsReadAs (items (value_of n t) (count_items xs)) (items_bytes xs) xs
  items_back n t no_items h = λ rest. refl
  items_back n t (item x xs) h =
      let p : ((has_type t x && is_item n x) ≡ true) × (are_items n t xs ≡ true) = and_parts _ _ h in
      let q : (has_type t x ≡ true) × (is_item n x ≡ true) = and_parts _ _ p.0 in
      spells_then (value_of n t) (λ y. items (value_of n t) (count_items xs) >>= (λ ys. give (item y ys))) (item_bytes x) (items_bytes xs) x (item x xs) (element_back n t x q.0 (item_back n x q.1)) (spells_map (items (value_of n t) (count_items xs)) (item x) (items_bytes xs) xs (items_back n t xs p.1))

  pairs_back : (n : ℕ) (k v : ThriftType) (xs : Pairs) → are_pairs n k v xs ≡ true → IsReadAs (pairs (value_of n k) (value_of n v) (count_pairs xs)) (pairs_bytes xs) xs
  pairs_back n k v no_pairs h = λ rest. refl
  pairs_back n k v (pair x y xs) h =
      let p : ((has_type k x && has_type v y && is_item n x && is_item n y) ≡ true) × (are_pairs n k v xs ≡ true) = and_parts _ _ h in
      let q : ((has_type k x && has_type v y && is_item n x) ≡ true) × (is_item n y ≡ true) = and_parts _ _ p.0 in
      let r : ((has_type k x && has_type v y) ≡ true) × (is_item n x ≡ true) = and_parts _ _ q.0 in
      let o : (has_type k x ≡ true) × (has_type v y ≡ true) = and_parts _ _ r.0 in
      spells_then (value_of n k) (λ a. value_of n v >>= (λ b. pairs (value_of n k) (value_of n v) (count_pairs xs) >>= (λ ys. give (pair a b ys)))) (item_bytes x) (item_bytes y ++ pairs_bytes xs) x (pair x y xs) (element_back n k x o.0 (item_back n x r.1))
      (spells_then (value_of n v) (λ b. pairs (value_of n k) (value_of n v) (count_pairs xs) >>= (λ ys. give (pair x b ys))) (item_bytes y) (pairs_bytes xs) y (pair x y xs) (element_back n v y o.1 (item_back n y q.1)) (spells_map (pairs (value_of n k) (value_of n v) (count_pairs xs)) (pair x y) (pairs_bytes xs) xs (pairs_back n k v xs p.1)))

  fields_back : (n : ℕ) (last : ℤ) (s : Struct) (k : ℕ) → is_struct n s ≡ true → length (fields_bytes last s) ≤ k → IsReadAs (fields (value_of n) k last) (fields_bytes last s) s
  fields_back n last stop zero h l = absurd (omega (arith, l))
  fields_back n last stop (suc k) h l = λ rest. refl
  fields_back n last (struct_field id x s) zero h l = absurd (omega (arith, enough_behind last id (item_type x) (in_field x (item_bytes x)) (fields_bytes id s) 0 (omega arith), length-append (header_bytes last id (item_type x)) (in_field x (item_bytes x) ++ fields_bytes id s), header_has_byte id (id -ℤ last) (item_type x)))
  fields_back n last (struct_field id x s) (suc k) h l =
      let p : ((in_int16 id && is_item n x) ≡ true) × (is_struct n s ≡ true) = and_parts _ _ h in
      let q : (in_int16 id ≡ true) × (is_item n x ≡ true) = and_parts _ _ p.0 in
      header_reads last id (item_type x) q.0 (value_of n) (fields (value_of n) k) (in_field x (item_bytes x) ++ fields_bytes id s) (struct_field id x s)
      (spells_then (field_value (value_of n) (item_type x)) (λ y. fields (value_of n) k id >>= (λ r. give (struct_field id y r))) (in_field x (item_bytes x)) (fields_bytes id s) x (struct_field id x s) (field_value_back n x (item_back n x q.1))
      (spells_map (fields (value_of n) k id) (struct_field id x) (fields_bytes id s) s (fields_back n id s k p.1 (enough_behind last id (item_type x) (in_field x (item_bytes x)) (fields_bytes id s) k l))))

pub written_struct_is_read : WrittenStructIsRead
unfolding read_struct struct_bytes
written_struct_is_read s h = struct_back 31 s (λ k l. fields_back 31 (pos 0) s k h l)
