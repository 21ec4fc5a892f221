-- Every spelling of a struct, with any limit of nesting, is read as that struct with that limit.
use Rattle.std.proofs.Common.{◌≡◌, ℕ, zero, suc, ◌/◌, ◌%◌, ◌^◌, ◌≤◌, ◌<◌, List, [], ◌∷◌, ◌++◌, length, Bool, true, false, refl, sym, ap, ◌∙◌, subst, arith, ℤ, pos, Some, None, append_assoc, inl, inr}
use Rattle.std.specs.Prelude.{◌==◌}
use Rattle.std.proofs.lemmas.Bool.{eqb-true, false_from_ne_true}
use Rattle.std.proofs.lemmas.List.{length-append}
use Rattle.dr_formats.specs.Reading.{give, ◌>>=◌, byte_as, bytes_of, IsReadAs}
use Rattle.dr_formats.specs.Varint.{varint_below, varint, from_zigzag, SpellsSigned}
use Rattle.dr_formats.specs.Compact.{malformed, ThriftType, byte_type, i16_type, i32_type, i64_type, double_type, binary_type, list_type, set_type, map_type, struct_type, Struct, stop, struct_field, Item, truth_item, byte_item, i16_item, i32_item, i64_item, double_item, binary_item, list_item, set_item, empty_map_item, map_item, struct_item, Items, no_items, item, Pairs, no_pairs, pair, type_of, signed_varint, truth_byte, binary, list_header_byte, list_size, list_header, map_types, items, pairs, map_of, short_header, long_header, with_delta, field_header, field_id, field_value, field_and_rest, after_header, fields, struct_of, value_of, count_items, count_pairs}
use Rattle.dr_formats.specs.CompactGrammar.{SpellsHalves, SpellsFieldHeader, SpellsListHeader, SpellsMapHeader, IsTruthType, InField, SpellsFields, SpellsItem, SpellsItems, SpellsPairs}
use Rattle.dr_formats.proofs.ReadingLemmas.{spells_then, spells_map, spells_as, spells_bytes}
use Rattle.dr_formats.proofs.VarintLemmas.{varint_reads}
use Rattle.dr_formats.proofs.CompactLemmas.{header, both_types, HeaderReads, list_reader}

-- ---- numbers

signed_reads : (bound : ℕ) (bytes : List ℕ) (z : ℤ) → SpellsSigned bound bytes z → IsReadAs (varint_below bound malformed malformed >>= (λ n. give (from_zigzag n))) bytes z
signed_reads bound bytes z h = subst (IsReadAs (varint_below bound malformed malformed >>= (λ n. give (from_zigzag n))) bytes) h.2 (spells_map (varint_below bound malformed malformed) from_zigzag bytes h.0 (varint_reads bound malformed malformed bytes h.0 h.1))

-- ---- headers

list_byte : (b n : ℕ) (t : ThriftType) → SpellsHalves b n t → list_header_byte b ≡ Some (header n t)
list_byte b n t h = rw (h.0, h.1) refl

list_header_reads : (bytes : List ℕ) (n : ℕ) (t : ThriftType) → SpellsListHeader bytes n t → IsReadAs list_header bytes (header n t)
list_header_reads bytes n t (inl h) = rw h.1 (spells_then (byte_as malformed malformed list_header_byte) list_size (h.0 ∷ []) [] (header n t) (header n t) (spells_as malformed malformed list_header_byte h.0 (header n t) (list_byte h.0 n t h.2)) (λ rest. rw h.3 refl))
list_header_reads bytes n t (inr h) = rw h.2 (spells_then (byte_as malformed malformed list_header_byte) list_size (h.0 ∷ []) h.1 (header 15 t) (header n t) (spells_as malformed malformed list_header_byte h.0 (header 15 t) (list_byte h.0 15 t h.3)) (spells_map (varint malformed malformed) (λ k. header k t) h.1 n (varint_reads (2 ^ 64) malformed malformed h.1 n h.4)))

no_type : (t : ThriftType) → None ≡ Some t → ⊥
no_type t e = cc

not_stop : (b : ℕ) (t : ThriftType) → type_of (b % 16) ≡ Some t → (b == 0) ≡ false
not_stop b t h = false_from_ne_true (b == 0) (λ (e : (b == 0) ≡ true). no_type t (ap (λ x. type_of (x % 16)) (sym (eqb-true b 0 e)) ∙ h))

field_byte : (last : ℤ) (b d : ℕ) (t : ThriftType) → SpellsHalves b d t → field_header last b ≡ with_delta last d t
field_byte last b d t h = rw (not_stop b t h.1, h.0, h.1) refl

header_by_grammar : (bytes : List ℕ) (last id : ℤ) (t : ThriftType) → SpellsFieldHeader bytes last id t → HeaderReads last id t bytes
header_by_grammar bytes last id t (inl h) value next u s k =
    let g : with_delta last (suc h.1) t ≡ Some (short_header id t) = rw (h.4, h.5) refl in
    rw h.2 (spells_then (byte_as malformed malformed (field_header last)) (after_header value next) (h.0 ∷ []) u (short_header id t) s (spells_as malformed malformed (field_header last) h.0 (short_header id t) (field_byte last h.0 (suc h.1) t h.3 ∙ g)) k)
header_by_grammar bytes last id t (inr h) value next u s k =
    rw h.2 (spells_then (byte_as malformed malformed (field_header last)) (after_header value next) (h.0 ∷ []) (h.1 ++ u) (long_header t) s (spells_as malformed malformed (field_header last) h.0 (long_header t) (field_byte last h.0 0 t h.3)) (spells_then field_id (field_and_rest value next t) h.1 u id s (signed_reads (2 ^ 16) h.1 id h.4) k))

header_bytes_there : (bytes : List ℕ) (last id : ℤ) (t : ThriftType) → SpellsFieldHeader bytes last id t → 1 ≤ length bytes
header_bytes_there bytes last id t (inl h) = rw h.2 (omega arith)
header_bytes_there bytes last id t (inr h) = rw h.2 (omega arith)

map_byte : (b : ℕ) (k v : ThriftType) → type_of (b / 16) ≡ Some k → type_of (b % 16) ≡ Some v → map_types b ≡ Some (both_types k v)
map_byte b k v g h = rw (g, h) refl

pairs_behind : (n b : ℕ) (k v : ThriftType) (u : List ℕ) (xs : Pairs) → 0 < count_pairs xs → map_types b ≡ Some (both_types k v) → IsReadAs (pairs (value_of n k) (value_of n v) (count_pairs xs)) u xs → IsReadAs (map_of (value_of n) (count_pairs xs)) (b ∷ u) (map_item k v xs)
pairs_behind n b k v u no_pairs l e h = absurd (omega (arith, l))
pairs_behind n b k v u (pair x y xs) l e h = spells_then (byte_as malformed malformed map_types) (λ t. pairs (value_of n t.key) (value_of n t.value) (suc (count_pairs xs)) >>= (λ ys. give (map_item t.key t.value ys))) (b ∷ []) u (both_types k v) (map_item k v (pair x y xs)) (spells_as malformed malformed map_types b (both_types k v) e) (spells_map (pairs (value_of n k) (value_of n v) (suc (count_pairs xs))) (map_item k v) u (pair x y xs) h)

-- ---- values

truth_reads : (n b : ℕ) (t : ThriftType) (c : Bool) → IsTruthType t → (b == 1) ≡ c → IsReadAs (value_of n t) (b ∷ []) (truth_item c)
truth_reads n b t c (inl e) h = rw e (spells_as malformed malformed truth_byte b (truth_item c) (ap (λ x. Some (truth_item x)) h))
truth_reads n b t c (inr e) h = rw e (spells_as malformed malformed truth_byte b (truth_item c) (ap (λ x. Some (truth_item x)) h))

field_value_reads : (n : ℕ) (u : List ℕ) (t : ThriftType) (x : Item) → InField x u t (SpellsItem n u t x) → (SpellsItem n u t x → IsReadAs (value_of n t) u x) → IsReadAs (field_value (value_of n) t) u x
field_value_reads n u t (truth_item true) h k = rw (h.0, h.1) (λ rest. refl)
field_value_reads n u t (truth_item false) h k = rw (h.0, h.1) (λ rest. refl)
field_value_reads n u t (byte_item b) h k = let r : IsReadAs (value_of n byte_type) u (byte_item b) = rw h.0 at (k h) in rw h.0 r
field_value_reads n u t (i16_item z) h k = let r : IsReadAs (value_of n i16_type) u (i16_item z) = rw h.0 at (k h) in rw h.0 r
field_value_reads n u t (i32_item z) h k = let r : IsReadAs (value_of n i32_type) u (i32_item z) = rw h.0 at (k h) in rw h.0 r
field_value_reads n u t (i64_item z) h k = let r : IsReadAs (value_of n i64_type) u (i64_item z) = rw h.0 at (k h) in rw h.0 r
field_value_reads n u t (double_item b) h k = let r : IsReadAs (value_of n double_type) u (double_item b) = rw h.0 at (k h) in rw h.0 r
field_value_reads n u t (binary_item b) h k = let r : IsReadAs (value_of n binary_type) u (binary_item b) = rw h.0 at (k h) in rw h.0 r
field_value_reads zero u t (list_item e xs) h k = absurd h
field_value_reads (suc n) u t (list_item e xs) h k = let r : IsReadAs (value_of (suc n) list_type) u (list_item e xs) = rw h.0 at (k h) in rw h.0 r
field_value_reads zero u t (set_item e xs) h k = absurd h
field_value_reads (suc n) u t (set_item e xs) h k = let r : IsReadAs (value_of (suc n) set_type) u (set_item e xs) = rw h.0 at (k h) in rw h.0 r
field_value_reads zero u t empty_map_item h k = absurd h
field_value_reads (suc n) u t empty_map_item h k = let r : IsReadAs (value_of (suc n) map_type) u empty_map_item = rw h.0 at (k h) in rw h.0 r
field_value_reads zero u t (map_item a b xs) h k = absurd h
field_value_reads (suc n) u t (map_item a b xs) h k = let r : IsReadAs (value_of (suc n) map_type) u (map_item a b xs) = rw h.0 at (k h) in rw h.0 r
field_value_reads zero u t (struct_item s) h k = absurd h
field_value_reads (suc n) u t (struct_item s) h k = let r : IsReadAs (value_of (suc n) struct_type) u (struct_item s) = rw h.0 at (k h) in rw h.0 r

struct_reads : (n : ℕ) (bytes : List ℕ) (s : Struct) → ((k : ℕ) → length bytes ≤ k → IsReadAs (fields (value_of n) k (pos 0)) bytes s) → IsReadAs (struct_of (value_of n)) bytes s
struct_reads n bytes s h rest = h (length (bytes ++ rest)) (omega (arith, length-append bytes rest)) rest

mutual
  item_reads : (n : ℕ) (bytes : List ℕ) (t : ThriftType) (x : Item) → SpellsItem n bytes t x → IsReadAs (value_of n t) bytes x
  item_reads n bytes t (truth_item c) h = rw h.2 (truth_reads n h.1 t c h.0 h.3)
  item_reads n bytes t (byte_item b) h = rw (h.0, h.1) (λ rest. refl)
  item_reads n bytes t (i16_item z) h = rw h.0 (spells_map signed_varint i16_item bytes z (signed_reads (2 ^ 64) bytes z h.1))
  item_reads n bytes t (i32_item z) h = rw h.0 (spells_map signed_varint i32_item bytes z (signed_reads (2 ^ 64) bytes z h.1))
  item_reads n bytes t (i64_item z) h = rw h.0 (spells_map signed_varint i64_item bytes z (signed_reads (2 ^ 64) bytes z h.1))
  item_reads n bytes t (double_item b) h = rw (h.0, h.1) (spells_map (bytes_of malformed 8) double_item b b (spells_bytes malformed 8 b h.2))
  item_reads n bytes t (binary_item b) h = rw (h.0, h.2) (spells_map binary binary_item (h.1 ++ b) b (spells_then (varint malformed malformed) (bytes_of malformed) h.1 b (length b) b (varint_reads (2 ^ 64) malformed malformed h.1 (length b) h.3) (spells_bytes malformed (length b) b refl)))
  item_reads zero bytes t (list_item e xs) h = absurd h
  item_reads zero bytes t (set_item e xs) h = absurd h
  item_reads zero bytes t empty_map_item h = absurd h
  item_reads zero bytes t (map_item k v xs) h = absurd h
  item_reads zero bytes t (struct_item s) h = absurd h
  item_reads (suc n) bytes t (list_item e xs) h = rw (h.0, h.3) (spells_then list_header (list_reader n list_item) h.1 h.2 (header (count_items xs) e) (list_item e xs) (list_header_reads h.1 (count_items xs) e h.4) (spells_map (items (value_of n e) (count_items xs)) (list_item e) h.2 xs (items_read n h.2 e xs h.5)))
  item_reads (suc n) bytes t (set_item e xs) h = rw (h.0, h.3) (spells_then list_header (list_reader n set_item) h.1 h.2 (header (count_items xs) e) (set_item e xs) (list_header_reads h.1 (count_items xs) e h.4) (spells_map (items (value_of n e) (count_items xs)) (set_item e) h.2 xs (items_read n h.2 e xs h.5)))
  item_reads (suc n) bytes t empty_map_item h = rw h.0 (λ rest. rw (varint_reads (2 ^ 64) malformed malformed bytes 0 h.1 rest) refl)
  item_reads (suc n) bytes t (map_item k v xs) h =
      let m : SpellsMapHeader h.1 (count_pairs xs) k v = h.4 in
      let e : bytes ≡ m.0 ++ (m.1 ∷ h.2) = h.3 ∙ (ap (λ y. y ++ h.2) m.2 ∙ append_assoc m.0 (m.1 ∷ []) h.2) in
      rw (h.0, e) (spells_then (varint malformed malformed) (map_of (value_of n)) m.0 (m.1 ∷ h.2) (count_pairs xs) (map_item k v xs) (varint_reads (2 ^ 64) malformed malformed m.0 (count_pairs xs) m.3) (pairs_behind n m.1 k v h.2 xs m.4 (map_byte m.1 k v m.5 m.6) (pairs_read n h.2 k v xs h.5)))
  item_reads (suc n) bytes t (struct_item s) h = rw h.0 (spells_map (struct_of (value_of n)) struct_item bytes s (struct_reads n bytes s (λ k l. fields_read n bytes (pos 0) s h.1 k l)))

  items_read : (n : ℕ) (bytes : List ℕ) (t : ThriftType) (xs : Items) → SpellsItems n bytes t xs → IsReadAs (items (value_of n t) (count_items xs)) bytes xs
  items_read n bytes t no_items h = rw h (λ rest. refl)
  items_read n bytes t (item x xs) h = rw h.2 (spells_then (value_of n t) (λ y. items (value_of n t) (count_items xs) >>= (λ ys. give (item y ys))) h.0 h.1 x (item x xs) (item_reads n h.0 t x h.3) (spells_map (items (value_of n t) (count_items xs)) (item x) h.1 xs (items_read n h.1 t xs h.4)))

  pairs_read : (n : ℕ) (bytes : List ℕ) (k v : ThriftType) (xs : Pairs) → SpellsPairs n bytes k v xs → IsReadAs (pairs (value_of n k) (value_of n v) (count_pairs xs)) bytes xs
  pairs_read n bytes k v no_pairs h = rw h (λ rest. refl)
  pairs_read n bytes k v (pair x y xs) h =
      rw h.3 (spells_then (value_of n k) (λ a. value_of n v >>= (λ b. pairs (value_of n k) (value_of n v) (count_pairs xs) >>= (λ ys. give (pair a b ys)))) h.0 (h.1 ++ h.2) x (pair x y xs) (item_reads n h.0 k x h.4)
      (spells_then (value_of n v) (λ b. pairs (value_of n k) (value_of n v) (count_pairs xs) >>= (λ ys. give (pair x b ys))) h.1 h.2 y (pair x y xs) (item_reads n h.1 v y h.5) (spells_map (pairs (value_of n k) (value_of n v) (count_pairs xs)) (pair x y) h.2 xs (pairs_read n h.2 k v xs h.6))))

  fields_read : (n : ℕ) (bytes : List ℕ) (last : ℤ) (s : Struct) → SpellsFields n bytes last s → (k : ℕ) → length bytes ≤ k → IsReadAs (fields (value_of n) k last) bytes s
  fields_read n bytes last stop h zero l = absurd (omega (arith, l, ap length h))
  fields_read n bytes last stop h (suc k) l = rw h (λ rest. refl)
  fields_read n bytes last (struct_field id x s) h zero l = absurd (omega (arith, l, ap length h.4, length-append h.0 (h.1 ++ h.2), header_bytes_there h.0 last id h.3 h.5))
  fields_read n bytes last (struct_field id x s) h (suc k) l =
      let m : length h.2 ≤ k = omega (arith, l, ap length h.4, length-append h.0 (h.1 ++ h.2), length-append h.1 h.2, header_bytes_there h.0 last id h.3 h.5) in
      rw h.4 (header_by_grammar h.0 last id h.3 h.5 (value_of n) (fields (value_of n) k) (h.1 ++ h.2) (struct_field id x s)
      (spells_then (field_value (value_of n) h.3) (λ y. fields (value_of n) k id >>= (λ r. give (struct_field id y r))) h.1 h.2 x (struct_field id x s) (field_value_reads n h.1 h.3 x h.6 (item_reads n h.1 h.3 x))
      (spells_map (fields (value_of n) k id) (struct_field id x) h.2 s (fields_read n h.2 id s h.7 k m))))

pub spelling_is_read_at : (n : ℕ) (bytes : List ℕ) (s : Struct) → SpellsFields n bytes (pos 0) s → IsReadAs (struct_of (value_of n)) bytes s
spelling_is_read_at n bytes s h = struct_reads n bytes s (λ k l. fields_read n bytes (pos 0) s h k l)
