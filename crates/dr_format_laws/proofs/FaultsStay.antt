-- A fault stays at its place, whatever follows the byte at which it stands, or the bytes before a value that is too deep.
use Rattle.std.proofs.Common.{◌≡◌, ℕ, zero, suc, ◌+◌, ◌*◌, ◌%◌, ◌^◌, ◌≤◌, ◌<◌, List, [], ◌∷◌, ◌++◌, length, take, drop, Bool, true, false, refl, sym, ap, ◌∙◌, arith, ℤ, pos, Option, Some, None, append_assoc, append-nil}
use Rattle.std.specs.Prelude.{nat_le, nat_lt, ◌&&◌, ◌==◌, if◌then◌else◌}
use Rattle.std.proofs.lemmas.List.{length-append}
use Rattle.dr_formats.specs.Reading.{Reading, got, refused, give, goes_on, ◌>>=◌, byte_meaning, byte_as, bytes_of, IsReadAs}
use Rattle.dr_formats.specs.Varint.{varint_from, varint, varint_below, from_zigzag}
use Rattle.dr_formats.specs.Compact.{CompactFault, malformed, too_deep, ThriftType, true_type, false_type, byte_type, i16_type, i32_type, i64_type, double_type, binary_type, list_type, set_type, map_type, struct_type, Struct, struct_field, Item, truth_item, i16_item, i32_item, i64_item, double_item, binary_item, list_item, set_item, empty_map_item, map_item, struct_item, Items, no_items, item, no_pairs, pair, signed_varint, truth_byte, plain_byte, binary, ListHeader, list_header_byte, list_size, list_header, map_types, items, pairs, map_of, FieldHeader, stop_header, short_header, long_header, field_header, field_id, field_value, field_and_rest, after_header, fields, struct_of, value_of}
use Rattle.dr_formats.proofs.LocalLemmas.{IsLocal, local_give, local_then, local_as, local_bytes, local_varint}
use Rattle.dr_formats.proofs.CompactLocal.{local_number, local_list_header, local_items, local_pairs, local_value, local_field_value, local_signed, local_binary, local_struct}
use Rattle.dr_format_laws.proofs.BeginsSpelling.{CR}

-- ---- faulty forms

-- whatever follows
abbrev pub Stays : {A : Type 0} → CR A → List ℕ → CompactFault → List ℕ → Type 0
Stays read before malformed [] = Unit {0}
Stays read before malformed (b ∷ rest) = (other : List ℕ) → read (before ++ b ∷ other) ≡ refused malformed (b ∷ other)
Stays read before too_deep rest = (other : List ℕ) → read (before ++ other) ≡ refused too_deep other

abbrev pub HasFault : {A : Type 0} → CR A → List ℕ → Reading CompactFault A → Type 0
HasFault read bytes (got a rest) = Unit {0}
HasFault read bytes (refused e rest) = (before : List ℕ) × (bytes ≡ before ++ rest) × Stays read before e rest

abbrev pub IsFaulty : {A : Type 0} → CR A → Type 0
IsFaulty read = (bytes : List ℕ) → HasFault read bytes (read bytes)

stays_first : {A B : Type 0} (first : CR A) (next : A → CR B) (before : List ℕ) (e : CompactFault) (rest : List ℕ) → Stays first before e rest → Stays (first >>= next) before e rest
stays_first first next before malformed [] s = tt
stays_first first next before malformed (b ∷ rest) s = λ other. rw (s other) refl
stays_first first next before too_deep rest s = λ other. rw (s other) refl

stays_behind : {A B : Type 0} (first : CR A) (next : A → CR B) (f g : List ℕ) (a : A) (e : CompactFault) (rest : List ℕ) → IsReadAs first f a → Stays (next a) g e rest → Stays (first >>= next) (f ++ g) e rest
stays_behind first next f g a malformed [] r s = tt
stays_behind first next f g a malformed (b ∷ rest) r s = λ other. rw (append_assoc f g (b ∷ other), r (g ++ b ∷ other)) (s other)
stays_behind first next f g a too_deep rest r s = λ other. rw (append_assoc f g other, r (g ++ other)) (s other)

faulty_then : {A B : Type 0} (first : CR A) (next : A → CR B) → IsLocal first → IsFaulty first → ((a : A) → IsFaulty (next a)) → IsFaulty (first >>= next)
faulty_then {A} {B} first next l f k bytes = by (first bytes) refl (f bytes)
  where
    behind : (a : A) (bs : List ℕ) → (front : List ℕ) × (bytes ≡ front ++ bs) × IsReadAs first front a → (r : Reading CompactFault B) → HasFault (next a) bs r → HasFault (first >>= next) bytes r
    behind a bs p (got b rest) t = tt
    behind a bs p (refused e rest) t = (p.0 ++ t.0, p.1 ∙ (ap (λ x. p.0 ++ x) t.1 ∙ sym (append_assoc p.0 t.0 rest)), stays_behind first next p.0 t.0 a e rest p.2 t.2)

    by : (r : Reading CompactFault A) → first bytes ≡ r → HasFault first bytes r → HasFault (first >>= next) bytes (goes_on r next)
    by (got a bs) e t = behind a bs (l bytes a bs e) (next a bs) (k a bs)
    by (refused e rest) h t = (t.0, t.1, stays_first first next t.0 e rest t.2)

faulty_give : {A : Type 0} (a : A) → IsFaulty (give {E = CompactFault} a)
faulty_give a bytes = tt

faulty_as : {A : Type 0} (f : ℕ → Option A) → IsFaulty (byte_as malformed malformed f)
faulty_as f [] = ([], refl, tt)
faulty_as {A} f (b ∷ bs) = by (f b) refl
  where
    by : (o : Option A) → f b ≡ o → HasFault (byte_as malformed malformed f) (b ∷ bs) (byte_meaning malformed b bs o)
    by None h = ([], refl, λ other. rw h refl)
    by (Some a) h = tt

faulty_bytes : (n : ℕ) → IsFaulty (bytes_of malformed n)
faulty_bytes n bs = by (nat_le n (length bs))
  where
    by : (t : Bool) → HasFault (bytes_of malformed n) bs (if t then got (take n bs) (drop n bs) else refused malformed [])
    by true = tt
    by false = (bs, sym (append-nil bs), tt)

-- ---- varints

abbrev VarintFaulty : ℕ → ℕ → ℕ → ℕ → Type 0
VarintFaulty bound k sum worth = IsFaulty (varint_from malformed malformed bound k sum worth)

last_faulty : (bound sum worth b : ℕ) (bs : List ℕ) (t : Bool) → (nat_lt (sum + b % 128 * worth) bound && nat_lt b 128) ≡ t → HasFault (varint_from malformed malformed bound zero sum worth) (b ∷ bs) (if t then got (sum + b % 128 * worth) bs else refused malformed (b ∷ bs))
last_faulty bound sum worth b bs true g = tt
last_faulty bound sum worth b bs false g = ([], refl, λ other. rw g refl)

-- one byte more before
later : {A : Type 0} (read next : CR A) (b : ℕ) (bs : List ℕ) (r : Reading CompactFault A) → ((x : List ℕ) → read (b ∷ x) ≡ next x) → HasFault next bs r → HasFault read (b ∷ bs) r
later read next b bs (got a rest) f t = tt
later read next b bs (refused malformed []) f t = (b ∷ t.0, ap (λ x. b ∷ x) t.1, tt)
later read next b bs (refused malformed (c ∷ rest)) f t = (b ∷ t.0, ap (λ x. b ∷ x) t.1, λ other. f (t.0 ++ c ∷ other) ∙ t.2 other)
later read next b bs (refused too_deep rest) f t = (b ∷ t.0, ap (λ x. b ∷ x) t.1, λ other. f (t.0 ++ other) ∙ t.2 other)

inner_faulty : (bound k sum worth b : ℕ) (bs : List ℕ) (t u : Bool) → VarintFaulty bound k (sum + b % 128 * worth) (128 * worth) → nat_lt (sum + b % 128 * worth) bound ≡ t → nat_lt b 128 ≡ u → HasFault (varint_from malformed malformed bound (suc k) sum worth) (b ∷ bs) (if t then (if u then got (sum + b % 128 * worth) bs else varint_from malformed malformed bound k (sum + b % 128 * worth) (128 * worth) bs) else refused malformed (b ∷ bs))
inner_faulty bound k sum worth b bs false u l g i = ([], refl, λ other. rw g refl)
inner_faulty bound k sum worth b bs true true l g i = tt
inner_faulty bound k sum worth b bs true false l g i = later (varint_from malformed malformed bound (suc k) sum worth) (varint_from malformed malformed bound k (sum + b % 128 * worth) (128 * worth)) b bs _ (λ x. rw (g, i) refl) (l bs)

varint_faulty : (bound k sum worth : ℕ) → VarintFaulty bound k sum worth
varint_faulty bound zero sum worth [] = ([], refl, tt)
varint_faulty bound (suc k) sum worth [] = ([], refl, tt)
varint_faulty bound zero sum worth (b ∷ bs) = last_faulty bound sum worth b bs (nat_lt (sum + b % 128 * worth) bound && nat_lt b 128) refl
varint_faulty bound (suc k) sum worth (b ∷ bs) = inner_faulty bound k sum worth b bs (nat_lt (sum + b % 128 * worth) bound) (nat_lt b 128) (varint_faulty bound k (sum + b % 128 * worth) (128 * worth)) refl refl

number_faulty : IsFaulty (varint malformed malformed)
number_faulty = varint_faulty (2 ^ 64) 9 0 1

signed_faulty : IsFaulty signed_varint
signed_faulty = faulty_then (varint malformed malformed) (λ n. give (from_zigzag n)) local_number number_faulty (λ n. faulty_give (from_zigzag n))

binary_faulty : IsFaulty binary
binary_faulty = faulty_then (varint malformed malformed) (bytes_of malformed) local_number number_faulty faulty_bytes

size_faulty : (h : ListHeader) → IsFaulty (list_size h)
size_faulty h = by (h.size == 15)
  where
    by : (b : Bool) → IsFaulty (if b then (varint malformed malformed >>= (λ n. give {E = CompactFault} (record { size = n; element = h.element }))) else give h)
    by true = faulty_then (varint malformed malformed) (λ n. give (record { size = n; element = h.element })) local_number number_faulty (λ n. faulty_give {A = ListHeader} (record { size = n; element = h.element }))
    by false = faulty_give h

list_header_faulty : IsFaulty list_header
list_header_faulty = faulty_then (byte_as malformed malformed list_header_byte) list_size (local_as malformed malformed list_header_byte) (faulty_as list_header_byte) size_faulty

items_faulty : (read : CR Item) → IsLocal read → IsFaulty read → (n : ℕ) → IsFaulty (items read n)
items_faulty read l f zero = faulty_give no_items
items_faulty read l f (suc n) = faulty_then read (λ x. items read n >>= (λ xs. give (item x xs))) l f (λ x. faulty_then (items read n) (λ xs. give (item x xs)) (local_items read l n) (items_faulty read l f n) (λ xs. faulty_give (item x xs)))

pairs_faulty : (key value : CR Item) → IsLocal key → IsLocal value → IsFaulty key → IsFaulty value → (n : ℕ) → IsFaulty (pairs key value n)
pairs_faulty key value l m f g zero = faulty_give no_pairs
pairs_faulty key value l m f g (suc n) =
    faulty_then key (λ k. value >>= (λ v. pairs key value n >>= (λ xs. give (pair k v xs)))) l f
    (λ k. faulty_then value (λ v. pairs key value n >>= (λ xs. give (pair k v xs))) m g
    (λ v. faulty_then (pairs key value n) (λ xs. give (pair k v xs)) (local_pairs key value l m n) (pairs_faulty key value l m f g n) (λ xs. faulty_give (pair k v xs))))

abbrev EachLocal : (ThriftType → CR Item) → Type 0
EachLocal value = (t : ThriftType) → IsLocal (value t)

abbrev EachFaulty : (ThriftType → CR Item) → Type 0
EachFaulty value = (t : ThriftType) → IsFaulty (value t)

map_faulty : (value : ThriftType → CR Item) → EachLocal value → EachFaulty value → (n : ℕ) → IsFaulty (map_of value n)
map_faulty value l f zero = faulty_give empty_map_item
map_faulty value l f (suc n) =
    faulty_then (byte_as malformed malformed map_types) (λ t. pairs (value t.key) (value t.value) (suc n) >>= (λ xs. give (map_item t.key t.value xs))) (local_as malformed malformed map_types) (faulty_as map_types)
    (λ t. faulty_then (pairs (value t.key) (value t.value) (suc n)) (λ xs. give (map_item t.key t.value xs)) (local_pairs (value t.key) (value t.value) (l t.key) (l t.value) (suc n)) (pairs_faulty (value t.key) (value t.value) (l t.key) (l t.value) (f t.key) (f t.value) (suc n)) (λ xs. faulty_give (map_item t.key t.value xs)))

-- ---- fields, of which enough are allowed

abbrev GrowStays : {A : Type 0} → (ℕ → CR A) → List ℕ → CompactFault → List ℕ → Type 0
GrowStays read before malformed [] = Unit {0}
GrowStays read before malformed (b ∷ rest) = (j : ℕ) (other : List ℕ) → length before < j → read j (before ++ b ∷ other) ≡ refused malformed (b ∷ other)
GrowStays read before too_deep rest = (j : ℕ) (other : List ℕ) → length before ≤ j → read j (before ++ other) ≡ refused too_deep other

abbrev GrowFault : {A : Type 0} → (ℕ → CR A) → List ℕ → Reading CompactFault A → Type 0
GrowFault read bytes (got a rest) = Unit {0}
GrowFault read bytes (refused e rest) = (before : List ℕ) × (bytes ≡ before ++ rest) × GrowStays read before e rest

grow_first : {A B : Type 0} (first : CR A) (next : ℕ → A → CR B) (before : List ℕ) (e : CompactFault) (rest : List ℕ) → Stays first before e rest → GrowStays (λ j. first >>= next j) before e rest
grow_first first next before malformed [] s = tt
grow_first first next before malformed (b ∷ rest) s = λ j other m. rw (s other) refl
grow_first first next before too_deep rest s = λ j other m. rw (s other) refl

grow_behind : {A B : Type 0} (first : CR A) (next : ℕ → A → CR B) (f g : List ℕ) (a : A) (e : CompactFault) (rest : List ℕ) → IsReadAs first f a → GrowStays (λ j. next j a) g e rest → GrowStays (λ j. first >>= next j) (f ++ g) e rest
grow_behind first next f g a malformed [] r s = tt
grow_behind first next f g a malformed (b ∷ rest) r s = λ j other m. rw (append_assoc f g (b ∷ other), r (g ++ b ∷ other)) (s j other (omega (arith, m, length-append f g)))
grow_behind first next f g a too_deep rest r s = λ j other m. rw (append_assoc f g other, r (g ++ other)) (s j other (omega (arith, m, length-append f g)))

grow_then : {A B : Type 0} (first : CR A) (next : ℕ → A → CR B) (k : ℕ) (bytes : List ℕ) → IsLocal first → IsFaulty first → length bytes ≤ k → ((a : A) (bs : List ℕ) → length bs ≤ k → GrowFault (λ j. next j a) bs (next k a bs)) → GrowFault (λ j. first >>= next j) bytes (goes_on (first bytes) (next k))
grow_then {A} {B} first next k bytes l f m g = by (first bytes) refl (f bytes)
  where
    behind : (a : A) (bs : List ℕ) → (front : List ℕ) × (bytes ≡ front ++ bs) × IsReadAs first front a → (r : Reading CompactFault B) → GrowFault (λ j. next j a) bs r → GrowFault (λ j. first >>= next j) bytes r
    behind a bs p (got b rest) t = tt
    behind a bs p (refused e rest) t = (p.0 ++ t.0, p.1 ∙ (ap (λ x. p.0 ++ x) t.1 ∙ sym (append_assoc p.0 t.0 rest)), grow_behind first next p.0 t.0 a e rest p.2 t.2)

    by : (r : Reading CompactFault A) → first bytes ≡ r → HasFault first bytes r → GrowFault (λ j. first >>= next j) bytes (goes_on r (next k))
    by (got a bs) e t =
        let p = l bytes a bs e in
        behind a bs p (next k a bs) (g a bs (omega (arith, m, ap length p.1, length-append p.0 bs)))
    by (refused e rest) h t = (t.0, t.1, grow_first first next t.0 e rest t.2)

grow_map : {A B : Type 0} (first : ℕ → CR A) (f : A → B) (bytes : List ℕ) (r : Reading CompactFault A) → GrowFault first bytes r → GrowFault (λ j. first j >>= (λ x. give (f x))) bytes (goes_on r (λ x. give (f x)))
grow_map first f bytes (got a rest) t = tt
grow_map first f bytes (refused malformed []) t = (t.0, t.1, tt)
grow_map first f bytes (refused malformed (b ∷ rest)) t = (t.0, t.1, λ j other m. rw (t.2 j other m) refl)
grow_map first f bytes (refused too_deep rest) t = (t.0, t.1, λ j other m. rw (t.2 j other m) refl)

abbrev FieldsFaulty : (ThriftType → CR Item) → ℕ → Type 0
FieldsFaulty value k = (last : ℤ) (bytes : List ℕ) → length bytes ≤ k → GrowFault (λ j. fields value j last) bytes (fields value k last bytes)

field_value_faulty : (value : ThriftType → CR Item) → EachFaulty value → (t : ThriftType) → IsFaulty (field_value value t)
field_value_faulty value f true_type = faulty_give (truth_item true)
field_value_faulty value f false_type = faulty_give (truth_item false)
field_value_faulty value f byte_type = f byte_type
field_value_faulty value f i16_type = f i16_type
field_value_faulty value f i32_type = f i32_type
field_value_faulty value f i64_type = f i64_type
field_value_faulty value f double_type = f double_type
field_value_faulty value f binary_type = f binary_type
field_value_faulty value f list_type = f list_type
field_value_faulty value f set_type = f set_type
field_value_faulty value f map_type = f map_type
field_value_faulty value f struct_type = f struct_type

field_faulty : (value : ThriftType → CR Item) → EachLocal value → EachFaulty value → (k : ℕ) → FieldsFaulty value k → (t : ThriftType) (id : ℤ) (bytes : List ℕ) → length bytes ≤ k → GrowFault (λ j. field_and_rest value (fields value j) t id) bytes (field_and_rest value (fields value k) t id bytes)
field_faulty value l f k g t id bytes m =
    grow_then (field_value value t) (λ j x. fields value j id >>= (λ r. give (struct_field id x r))) k bytes (local_field_value value l t) (field_value_faulty value f t) m
    (λ x bs n. grow_map (λ j. fields value j id) (struct_field id x) bs (fields value k id bs) (g id bs n))

local_id : IsLocal field_id
local_id = local_then (varint_below (2 ^ 16) malformed malformed) (λ n. give (from_zigzag n)) (local_varint malformed malformed (2 ^ 16) 9 0 1) (λ n. local_give (from_zigzag n))

id_faulty : IsFaulty field_id
id_faulty = faulty_then (varint_below (2 ^ 16) malformed malformed) (λ n. give (from_zigzag n)) (local_varint malformed malformed (2 ^ 16) 9 0 1) (varint_faulty (2 ^ 16) 9 0 1) (λ n. faulty_give (from_zigzag n))

after_faulty : (value : ThriftType → CR Item) → EachLocal value → EachFaulty value → (k : ℕ) → FieldsFaulty value k → (e : FieldHeader) (bytes : List ℕ) → length bytes ≤ k → GrowFault (λ j. after_header value (fields value j) e) bytes (after_header value (fields value k) e bytes)
after_faulty value l f k g stop_header bytes m = tt
after_faulty value l f k g (short_header id t) bytes m = field_faulty value l f k g t id bytes m
after_faulty value l f k g (long_header t) bytes m = grow_then field_id (λ j. field_and_rest value (fields value j) t) k bytes local_id id_faulty m (λ id bs n. field_faulty value l f k g t id bs n)

-- behind a header's byte
header_faulty : (value : ThriftType → CR Item) (last : ℤ) (b : ℕ) (e : FieldHeader) (bs : List ℕ) (r : Reading CompactFault Struct) → field_header last b ≡ Some e → GrowFault (λ j. after_header value (fields value j) e) bs r → GrowFault (λ j. fields value j last) (b ∷ bs) r
header_faulty value last b e bs (got s rest) h t = tt
header_faulty value last b e bs (refused malformed []) h t = (b ∷ t.0, ap (λ x. b ∷ x) t.1, tt)
header_faulty value last b e bs (refused malformed (c ∷ rest)) h t = (b ∷ t.0, ap (λ x. b ∷ x) t.1, stays)
  where
    stays : (j : ℕ) (other : List ℕ) → length (b ∷ t.0) < j → fields value j last (b ∷ (t.0 ++ c ∷ other)) ≡ refused malformed (c ∷ other)
    stays zero other m = absurd (omega (arith, m))
    stays (suc j) other m = rw h (t.2 j other (omega (arith, m)))
header_faulty value last b e bs (refused too_deep rest) h t = (b ∷ t.0, ap (λ x. b ∷ x) t.1, stays)
  where
    stays : (j : ℕ) (other : List ℕ) → length (b ∷ t.0) ≤ j → fields value j last (b ∷ (t.0 ++ other)) ≡ refused too_deep other
    stays zero other m = absurd (omega (arith, m))
    stays (suc j) other m = rw h (t.2 j other (omega (arith, m)))

fields_faulty : (value : ThriftType → CR Item) → EachLocal value → EachFaulty value → (k : ℕ) → FieldsFaulty value k
fields_faulty value l f zero last [] m = ([], refl, tt)
fields_faulty value l f zero last (b ∷ bs) m = absurd (omega (arith, m))
fields_faulty value l f (suc k) last [] m = ([], refl, tt)
fields_faulty value l f (suc k) last (b ∷ bs) m = by (field_header last b) refl (fields_faulty value l f k)
  where
    no_header : field_header last b ≡ None → (j : ℕ) (other : List ℕ) → 0 < j → fields value j last (b ∷ other) ≡ refused malformed (b ∷ other)
    no_header h zero other n = absurd (omega (arith, n))
    no_header h (suc j) other n = rw h refl

    by : (o : Option FieldHeader) → field_header last b ≡ o → FieldsFaulty value k → GrowFault (λ j. fields value j last) (b ∷ bs) (goes_on (byte_meaning malformed b bs o) (after_header value (fields value k)))
    by None h g = ([], refl, no_header h)
    by (Some e) h g = header_faulty value last b e bs (after_header value (fields value k) e bs) h (after_faulty value l f k g e bs (omega (arith, m)))

struct_faulty : (value : ThriftType → CR Item) → EachLocal value → EachFaulty value → IsFaulty (struct_of value)
struct_faulty value l f bytes = by (fields value (length bytes) (pos 0) bytes) (fields_faulty value l f (length bytes) (pos 0) bytes (omega arith))
  where
    by : (r : Reading CompactFault Struct) → GrowFault (λ j. fields value j (pos 0)) bytes r → HasFault (struct_of value) bytes r
    by (got s rest) t = tt
    by (refused malformed []) t = (t.0, t.1, tt)
    by (refused malformed (b ∷ rest)) t = (t.0, t.1, λ other. t.2 (length (t.0 ++ b ∷ other)) other (omega (arith, length-append t.0 (b ∷ other))))
    by (refused too_deep rest) t = (t.0, t.1, λ other. t.2 (length (t.0 ++ other)) other (omega (arith, length-append t.0 other)))

-- ---- all values

too_deep_faulty : {A : Type 0} → IsFaulty {A = A} (refused too_deep)
too_deep_faulty bytes = ([], refl, λ other. refl)

elements_faulty : (n : ℕ) (make : ThriftType → Items → Item) → EachFaulty (value_of n) → IsFaulty (list_header >>= (λ h. items (value_of n h.element) h.size >>= (λ xs. give (make h.element xs))))
elements_faulty n make f =
    faulty_then list_header (λ h. items (value_of n h.element) h.size >>= (λ xs. give (make h.element xs))) local_list_header list_header_faulty
    (λ h. faulty_then (items (value_of n h.element) h.size) (λ xs. give (make h.element xs)) (local_items (value_of n h.element) (local_value n h.element) h.size) (items_faulty (value_of n h.element) (local_value n h.element) (f h.element) h.size) (λ xs. faulty_give (make h.element xs)))

value_faulty : (n : ℕ) → EachFaulty (value_of n)
value_faulty n true_type = faulty_as truth_byte
value_faulty n false_type = faulty_as truth_byte
value_faulty n byte_type = faulty_as plain_byte
value_faulty n i16_type = faulty_then signed_varint (λ z. give (i16_item z)) local_signed signed_faulty (λ z. faulty_give (i16_item z))
value_faulty n i32_type = faulty_then signed_varint (λ z. give (i32_item z)) local_signed signed_faulty (λ z. faulty_give (i32_item z))
value_faulty n i64_type = faulty_then signed_varint (λ z. give (i64_item z)) local_signed signed_faulty (λ z. faulty_give (i64_item z))
value_faulty n double_type = faulty_then (bytes_of malformed 8) (λ b. give (double_item b)) (local_bytes malformed 8) (faulty_bytes 8) (λ b. faulty_give (double_item b))
value_faulty n binary_type = faulty_then binary (λ b. give (binary_item b)) local_binary binary_faulty (λ b. faulty_give (binary_item b))
value_faulty zero list_type = too_deep_faulty
value_faulty zero set_type = too_deep_faulty
value_faulty zero map_type = too_deep_faulty
value_faulty zero struct_type = too_deep_faulty
value_faulty (suc n) list_type = elements_faulty n list_item (value_faulty n)
value_faulty (suc n) set_type = elements_faulty n set_item (value_faulty n)
value_faulty (suc n) map_type = faulty_then (varint malformed malformed) (map_of (value_of n)) local_number number_faulty (map_faulty (value_of n) (local_value n) (value_faulty n))
value_faulty (suc n) struct_type = faulty_then (struct_of (value_of n)) (λ s. give (struct_item s)) (local_struct (value_of n) (local_value n)) (struct_faulty (value_of n) (local_value n) (value_faulty n)) (λ s. faulty_give (struct_item s))

-- a fault of a struct, read with any limit of nesting
pub faults_stay : (n : ℕ) → IsFaulty (struct_of (value_of n))
faults_stay n = struct_faulty (value_of n) (local_value n) (value_faulty n)
