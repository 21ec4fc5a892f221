-- The forms of the compact protocol are local: what is read depends on the bytes read alone.
use Rattle.std.proofs.Common.{◌≡◌, ℕ, zero, suc, ◌^◌, ◌≤◌, List, [], ◌∷◌, ◌++◌, length, Bool, true, false, refl, sym, ap, ◌∙◌, subst, arith, ℤ, pos, Option, Some, None, append_assoc}
use Rattle.std.specs.Prelude.{◌==◌, if◌then◌else◌}
use Rattle.std.proofs.lemmas.List.{length-append}
use Rattle.dr_formats.specs.Reading.{Reading, got, refused, Reader, give, goes_on, ◌>>=◌, byte_meaning, byte_as, bytes_of, IsReadAs}
use Rattle.dr_formats.specs.Varint.{varint, varint_below, from_zigzag}
use Rattle.dr_formats.specs.Compact.{CompactFault, malformed, too_deep, ThriftType, true_type, false_type, byte_type, i16_type, i32_type, i64_type, double_type, binary_type, list_type, set_type, map_type, struct_type, Struct, stop, struct_field, Item, truth_item, i16_item, i32_item, i64_item, double_item, binary_item, list_item, set_item, empty_map_item, map_item, struct_item, Items, no_items, item, no_pairs, pair, signed_varint, truth_byte, plain_byte, binary, ListHeader, list_header_byte, list_size, list_header, map_types, items, pairs, map_of, FieldHeader, stop_header, short_header, long_header, field_header, field_id, field_value, field_and_rest, after_header, fields, struct_of, value_of}
use Rattle.dr_formats.proofs.ReadingLemmas.{spells_then, spells_map, spells_as, not_refused, same_got}
use Rattle.dr_formats.proofs.LocalLemmas.{IsLocal, local_give, local_then, local_as, local_bytes, local_varint}

-- ---- values

pub local_number : IsLocal (varint {E = CompactFault} malformed malformed)
local_number = local_varint malformed malformed (2 ^ 64) 9 0 1

pub local_signed : IsLocal signed_varint
local_signed = local_then (varint malformed malformed) (λ n. give (from_zigzag n)) local_number (λ n. local_give (from_zigzag n))

pub local_binary : IsLocal binary
local_binary = local_then (varint malformed malformed) (bytes_of malformed) local_number (local_bytes malformed)

pub local_size : (h : ListHeader) → IsLocal (list_size h)
local_size h = by (h.size == 15)
  where
    by : (b : Bool) → IsLocal (if b then (varint malformed malformed >>= (λ n. give {E = CompactFault} (record { size = n; element = h.element }))) else give h)
    by true = local_then (varint malformed malformed) (λ n. give (record { size = n; element = h.element })) local_number (λ n. local_give (record { size = n; element = h.element }))
    by false = local_give h

pub local_list_header : IsLocal list_header
local_list_header = local_then (byte_as malformed malformed list_header_byte) list_size (local_as malformed malformed list_header_byte) local_size

pub local_items : (read : Reader CompactFault Item) → IsLocal read → (n : ℕ) → IsLocal (items read n)
local_items read l zero = local_give no_items
local_items read l (suc n) = local_then read (λ x. items read n >>= (λ xs. give (item x xs))) l (λ x. local_then (items read n) (λ xs. give (item x xs)) (local_items read l n) (λ xs. local_give (item x xs)))

pub local_pairs : (key value : Reader CompactFault Item) → IsLocal key → IsLocal value → (n : ℕ) → IsLocal (pairs key value n)
local_pairs key value l m zero = local_give no_pairs
local_pairs key value l m (suc n) =
    local_then key (λ k. value >>= (λ v. pairs key value n >>= (λ xs. give (pair k v xs)))) l
    (λ k. local_then value (λ v. pairs key value n >>= (λ xs. give (pair k v xs))) m
    (λ v. local_then (pairs key value n) (λ xs. give (pair k v xs)) (local_pairs key value l m n) (λ xs. local_give (pair k v xs))))

pub local_map_of : (value : ThriftType → Reader CompactFault Item) → ((t : ThriftType) → IsLocal (value t)) → (n : ℕ) → IsLocal (map_of value n)
local_map_of value l zero = local_give empty_map_item
local_map_of value l (suc n) =
    local_then (byte_as malformed malformed map_types) (λ t. pairs (value t.key) (value t.value) (suc n) >>= (λ xs. give (map_item t.key t.value xs))) (local_as malformed malformed map_types)
    (λ t. local_then (pairs (value t.key) (value t.value) (suc n)) (λ xs. give (map_item t.key t.value xs)) (local_pairs (value t.key) (value t.value) (l t.key) (l t.value) (suc n)) (λ xs. local_give (map_item t.key t.value xs)))

-- ---- fields, of which at most as many are read as there are bytes

-- the front that was read, and that it is read alike, whatever follows, with at least as many fields allowed as it has bytes
abbrev pub Grown : {A : Type 0} → (ℕ → Reader CompactFault A) → List ℕ → A → List ℕ → Type 0
Grown read bytes a rest = (front : List ℕ) × (bytes ≡ front ++ rest) × ((j : ℕ) → length front ≤ j → IsReadAs (read j) front a)

pub grown_goes_on : {A B : Type 0} (first : Reader CompactFault A) (next : ℕ → A → Reader CompactFault B) (k : ℕ) (bytes : List ℕ) (b : B) (rest : List ℕ) → IsLocal first → ((a : A) (bs : List ℕ) → next k a bs ≡ got b rest → Grown (λ j. next j a) bs b rest) → (r : Reading CompactFault A) → first bytes ≡ r → goes_on r (next k) ≡ got b rest → Grown (λ j. first >>= next j) bytes b rest
grown_goes_on first next k bytes b rest l g (got a bs) e h =
    let f = l bytes a bs e in
    let d = g a bs h in
    (f.0 ++ d.0, f.1 ∙ (ap (λ x. f.0 ++ x) d.1 ∙ sym (append_assoc f.0 d.0 rest)), λ j m. spells_then first (next j) f.0 d.0 a b f.2 (d.2 j (omega (arith, m, length-append f.0 d.0))))
grown_goes_on first next k bytes b rest l g (refused e′ bs) e h = absurd (not_refused e′ bs b rest h)

pub grown_map : {A B : Type 0} (first : ℕ → Reader CompactFault A) (f : A → B) (k : ℕ) (bytes : List ℕ) (b : B) (rest : List ℕ) → ((a : A) (bs : List ℕ) → first k bytes ≡ got a bs → Grown first bytes a bs) → (r : Reading CompactFault A) → first k bytes ≡ r → goes_on r (λ x. give (f x)) ≡ got b rest → Grown (λ j. first j >>= (λ x. give (f x))) bytes b rest
grown_map first f k bytes b rest g (got a bs) e h =
    let d = g a bs e in
    let p : (f a ≡ b) × (bs ≡ rest) = same_got {E = CompactFault} (f a) b bs rest h in
    (d.0, d.1 ∙ ap (λ x. d.0 ++ x) p.1, λ j m. subst (IsReadAs (first j >>= (λ x. give (f x))) d.0) p.0 (spells_map (first j) f d.0 a (d.2 j m)))
grown_map first f k bytes b rest g (refused e′ bs) e h = absurd (not_refused e′ bs b rest h)

abbrev pub FieldsGrow : (ThriftType → Reader CompactFault Item) → ℕ → Type 0
FieldsGrow value k = (last : ℤ) (bytes : List ℕ) (s : Struct) (rest : List ℕ) → fields value k last bytes ≡ got s rest → Grown (λ j. fields value j last) bytes s rest

pub local_field_value : (value : ThriftType → Reader CompactFault Item) → ((t : ThriftType) → IsLocal (value t)) → (t : ThriftType) → IsLocal (field_value value t)
local_field_value value l true_type = local_give (truth_item true)
local_field_value value l false_type = local_give (truth_item false)
local_field_value value l byte_type = l byte_type
local_field_value value l i16_type = l i16_type
local_field_value value l i32_type = l i32_type
local_field_value value l i64_type = l i64_type
local_field_value value l double_type = l double_type
local_field_value value l binary_type = l binary_type
local_field_value value l list_type = l list_type
local_field_value value l set_type = l set_type
local_field_value value l map_type = l map_type
local_field_value value l struct_type = l struct_type

pub grown_field : (value : ThriftType → Reader CompactFault Item) → ((t : ThriftType) → IsLocal (value t)) → (k : ℕ) → FieldsGrow value k → (t : ThriftType) (id : ℤ) (bytes : List ℕ) (s : Struct) (rest : List ℕ) → field_and_rest value (fields value k) t id bytes ≡ got s rest → Grown (λ j. field_and_rest value (fields value j) t id) bytes s rest
grown_field value l k g t id bytes s rest h =
    grown_goes_on (field_value value t) (λ j x. fields value j id >>= (λ r. give (struct_field id x r))) k bytes s rest (local_field_value value l t)
    (λ x bs m. grown_map (λ j. fields value j id) (struct_field id x) k bs s rest (g id bs) (fields value k id bs) refl m) (field_value value t bytes) refl h

pub grown_after : (value : ThriftType → Reader CompactFault Item) → ((t : ThriftType) → IsLocal (value t)) → (k : ℕ) → FieldsGrow value k → (e : FieldHeader) (bytes : List ℕ) (s : Struct) (rest : List ℕ) → after_header value (fields value k) e bytes ≡ got s rest → Grown (λ j. after_header value (fields value j) e) bytes s rest
grown_after value l k g stop_header bytes s rest h = let f = local_give {E = CompactFault} stop bytes s rest h in (f.0, f.1, λ j m. f.2)
grown_after value l k g (short_header id t) bytes s rest h = grown_field value l k g t id bytes s rest h
grown_after value l k g (long_header t) bytes s rest h =
    grown_goes_on field_id (λ j. field_and_rest value (fields value j) t) k bytes s rest local_id (λ id bs m. grown_field value l k g t id bs s rest m) (field_id bytes) refl h
  where
    local_id : IsLocal field_id
    local_id = local_then (varint_below (2 ^ 16) malformed malformed) (λ n. give (from_zigzag n)) (local_varint malformed malformed (2 ^ 16) 9 0 1) (λ n. local_give (from_zigzag n))

pub grown_byte : (value : ThriftType → Reader CompactFault Item) → ((t : ThriftType) → IsLocal (value t)) → (k : ℕ) → FieldsGrow value k → (last : ℤ) (b : ℕ) (bs : List ℕ) (s : Struct) (rest : List ℕ) (o : Option FieldHeader) → field_header last b ≡ o → goes_on (byte_meaning malformed b bs o) (after_header value (fields value k)) ≡ got s rest → Grown (λ j. fields value j last) (b ∷ bs) s rest
grown_byte value l k g last b bs s rest None e h = absurd (not_refused malformed (b ∷ bs) s rest h)
grown_byte value l k g last b bs s rest (Some d) e h =
    let f = grown_after value l k g d bs s rest h in
    (b ∷ f.0, ap (λ x. b ∷ x) f.1, λ j m. one_more j m)
  where
    one_more : (j : ℕ) → length (b ∷ (grown_after value l k g d bs s rest h).0) ≤ j → IsReadAs (fields value j last) (b ∷ (grown_after value l k g d bs s rest h).0) s
    one_more zero m = absurd (omega (arith, m))
    one_more (suc j) m =
        let f = grown_after value l k g d bs s rest h in
        spells_then (byte_as malformed malformed (field_header last)) (after_header value (fields value j)) (b ∷ []) f.0 d s (spells_as malformed malformed (field_header last) b d e) (f.2 j (omega (arith, m)))

pub grown_fields : (value : ThriftType → Reader CompactFault Item) → ((t : ThriftType) → IsLocal (value t)) → (k : ℕ) → FieldsGrow value k
grown_fields value l zero last bytes s rest h = absurd (not_refused malformed bytes s rest h)
grown_fields value l (suc k) last [] s rest h = absurd (not_refused malformed [] s rest h)
grown_fields value l (suc k) last (b ∷ bs) s rest h = grown_byte value l k (grown_fields value l k) last b bs s rest (field_header last b) refl h

pub local_struct : (value : ThriftType → Reader CompactFault Item) → ((t : ThriftType) → IsLocal (value t)) → IsLocal (struct_of value)
local_struct value l bytes s rest h =
    let f = grown_fields value l (length bytes) (pos 0) bytes s rest h in
    (f.0, f.1, λ other. f.2 (length (f.0 ++ other)) (omega (arith, length-append f.0 other)) other)

pub refuses : {A : Type 0} (e : CompactFault) → IsLocal {A = A} (refused e)
refuses e bytes a rest h = absurd (not_refused e bytes a rest h)

pub local_list : (n : ℕ) (make : ThriftType → Items → Item) → ((t : ThriftType) → IsLocal (value_of n t)) → IsLocal (list_header >>= (λ h. items (value_of n h.element) h.size >>= (λ xs. give (make h.element xs))))
local_list n make l =
    local_then list_header (λ h. items (value_of n h.element) h.size >>= (λ xs. give (make h.element xs))) local_list_header
    (λ h. local_then (items (value_of n h.element) h.size) (λ xs. give (make h.element xs)) (local_items (value_of n h.element) (l h.element) h.size) (λ xs. local_give (make h.element xs)))

pub local_value : (n : ℕ) (t : ThriftType) → IsLocal (value_of n t)
local_value n true_type = local_as malformed malformed truth_byte
local_value n false_type = local_as malformed malformed truth_byte
local_value n byte_type = local_as malformed malformed plain_byte
local_value n i16_type = local_then signed_varint (λ z. give (i16_item z)) local_signed (λ z. local_give (i16_item z))
local_value n i32_type = local_then signed_varint (λ z. give (i32_item z)) local_signed (λ z. local_give (i32_item z))
local_value n i64_type = local_then signed_varint (λ z. give (i64_item z)) local_signed (λ z. local_give (i64_item z))
local_value n double_type = local_then (bytes_of malformed 8) (λ b. give (double_item b)) (local_bytes malformed 8) (λ b. local_give (double_item b))
local_value n binary_type = local_then binary (λ b. give (binary_item b)) local_binary (λ b. local_give (binary_item b))
local_value zero list_type = refuses too_deep
local_value zero set_type = refuses too_deep
local_value zero map_type = refuses too_deep
local_value zero struct_type = refuses too_deep
local_value (suc n) list_type = local_list n list_item (local_value n)
local_value (suc n) set_type = local_list n set_item (local_value n)
local_value (suc n) map_type = local_then (varint malformed malformed) (map_of (value_of n)) local_number (local_map_of (value_of n) (local_value n))
local_value (suc n) struct_type = local_then (struct_of (value_of n)) (λ s. give (struct_item s)) (local_struct (value_of n) (local_value n)) (λ s. local_give (struct_item s))
