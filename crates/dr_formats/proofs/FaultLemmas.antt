-- Faults of structs: the bytes before a fault are only cut short, and with the byte at its place no struct goes on.
use Rattle.std.proofs.Common.{◌≡◌, ℕ, zero, suc, ◌+◌, ◌*◌, ◌%◌, ◌^◌, ◌≤◌, ◌<◌, List, [], ◌∷◌, ◌++◌, length, take, drop, Bool, true, false, refl, sym, ap, ap₂, ◌∙◌, subst, arith, ℤ, pos, Option, Some, None, append_assoc, append-nil}
use Rattle.std.specs.Prelude.{nat_le, nat_lt, ◌&&◌, ◌==◌, if◌then◌else◌}
use Rattle.std.proofs.lemmas.List.{length-append}
use Rattle.dr_formats.specs.Reading.{Reading, got, refused, Reader, give, goes_on, ◌>>=◌, byte_meaning, byte_as, bytes_of, IsReadAs}
use Rattle.dr_formats.specs.Varint.{varint_from, varint, varint_below, from_zigzag}
use Rattle.dr_formats.specs.Compact.{CompactFault, malformed, too_deep, ThriftType, true_type, false_type, byte_type, i16_type, i32_type, i64_type, double_type, binary_type, list_type, set_type, map_type, struct_type, Struct, stop, struct_field, Item, truth_item, i16_item, i32_item, i64_item, double_item, binary_item, list_item, set_item, empty_map_item, map_item, struct_item, Items, no_items, item, no_pairs, pair, signed_varint, truth_byte, plain_byte, binary, ListHeader, list_header_byte, list_size, list_header, map_types, items, pairs, map_of, FieldHeader, stop_header, short_header, long_header, field_header, field_id, field_value, field_and_rest, after_header, fields, struct_of, value_of, read_struct}
use Rattle.dr_formats.specs.CompactLaws.{NoStructGoesOn, FaultIsFirst}
use Rattle.dr_formats.proofs.GrammarReads.{spelling_is_read}
use Rattle.dr_formats.proofs.LocalLemmas.{IsLocal, local_give, local_then, local_as, local_bytes, local_varint}
use Rattle.dr_formats.proofs.CompactLocal.{local_number, local_list_header, local_items, local_pairs, local_value, local_field_value, local_signed, local_binary, local_struct}

-- ---- faulty forms

abbrev CR : Type 0 → Type 0
CR A = Reader CompactFault A

-- whatever follows the byte at the fault's place
abbrev pub Stands : {A : Type 0} → CR A → List ℕ → CompactFault → List ℕ → Type 0
Stands read front e [] = Unit {0}
Stands read front e (b ∷ rest) = (other : List ℕ) → read (front ++ b ∷ other) ≡ refused e (b ∷ other)

abbrev pub HasFault : {A : Type 0} → CR A → List ℕ → CompactFault → List ℕ → Type 0
HasFault read bytes e rest = (front : List ℕ) × (bytes ≡ front ++ rest) × (read front ≡ refused e []) × Stands read front e rest

abbrev pub IsFaulty : {A : Type 0} → CR A → Type 0
IsFaulty read = (bytes : List ℕ) (e : CompactFault) (rest : List ℕ) → read bytes ≡ refused e rest → HasFault read bytes e rest

not_got : {A : Type 0} (a : A) (bs : List ℕ) (e : CompactFault) (rest : List ℕ) → Path (Reading CompactFault A) (got a bs) (refused e rest) → ⊥
not_got a bs e rest h = cc

same_refused : {A : Type 0} (e f : CompactFault) (bs rest : List ℕ) → Path (Reading CompactFault A) (refused e bs) (refused f rest) → (e ≡ f) × (bs ≡ rest)
same_refused e f bs rest h = (cc, cc)

-- the same front with other readers
stands_first : {A B : Type 0} (first : CR A) (next : A → CR B) (front : List ℕ) (e : CompactFault) (rest : List ℕ) → Stands first front e rest → Stands (first >>= next) front e rest
stands_first first next front e [] s = tt
stands_first first next front e (b ∷ rest) s = λ other. rw (s other) refl

stands_behind : {A B : Type 0} (first : CR A) (next : A → CR B) (f g : List ℕ) (a : A) (e : CompactFault) (rest : List ℕ) → IsReadAs first f a → Stands (next a) g e rest → Stands (first >>= next) (f ++ g) e rest
stands_behind first next f g a e [] r s = tt
stands_behind first next f g a e (b ∷ rest) r s = λ other. rw (append_assoc f g (b ∷ other), r (g ++ b ∷ other)) (s other)

faulty_by : {A B : Type 0} (first : CR A) (next : A → CR B) → IsLocal first → IsFaulty first → ((a : A) → IsFaulty (next a)) → (bytes : List ℕ) (e : CompactFault) (rest : List ℕ) (r : Reading CompactFault A) → first bytes ≡ r → goes_on r next ≡ refused e rest → HasFault (first >>= next) bytes e rest
faulty_by first next l f k bytes e rest (got a bs) g h =
    let p = l bytes a bs g in
    let q = k a bs e rest h in
    (p.0 ++ q.0, p.1 ∙ (ap (λ x. p.0 ++ x) q.1 ∙ sym (append_assoc p.0 q.0 rest)), rw (p.2 q.0) q.2, stands_behind first next p.0 q.0 a e rest p.2 q.3)
faulty_by {A} {B} first next l f k bytes e rest (refused e′ bs) g h =
    let p : (e′ ≡ e) × (bs ≡ rest) = same_refused {A = B} e′ e bs rest h in
    let q = f bytes e rest (g ∙ ap₂ (λ x y. refused x y) p.0 p.1) in
    (q.0, q.1, rw q.2 refl, stands_first first next q.0 e rest q.3)

faulty_then : {A B : Type 0} (first : CR A) (next : A → CR B) → IsLocal first → IsFaulty first → ((a : A) → IsFaulty (next a)) → IsFaulty (first >>= next)
faulty_then first next l f k bytes e rest h = faulty_by first next l f k bytes e rest (first bytes) refl h

faulty_give : {A : Type 0} (a : A) → IsFaulty (give {E = CompactFault} a)
faulty_give a bytes e rest h = absurd (not_got a bytes e rest h)

meaning_faulty : {A : Type 0} (f : ℕ → Option A) (b : ℕ) (bs : List ℕ) (o : Option A) (e : CompactFault) (rest : List ℕ) → f b ≡ o → byte_meaning malformed b bs o ≡ refused e rest → HasFault (byte_as malformed malformed f) (b ∷ bs) e rest
meaning_faulty {A} f b bs None e rest g h =
    let p : (malformed ≡ e) × (b ∷ bs ≡ rest) = same_refused {A = A} malformed e (b ∷ bs) rest h in
    subst (λ (x : CompactFault). HasFault (byte_as malformed malformed f) (b ∷ bs) x rest) p.0 (subst (λ (y : List ℕ). HasFault (byte_as malformed malformed f) (b ∷ bs) malformed y) p.1 ([], refl, refl, λ other. rw g refl))
meaning_faulty f b bs (Some a) e rest g h = absurd (not_got a bs e rest h)

faulty_as : {A : Type 0} (f : ℕ → Option A) → IsFaulty (byte_as malformed malformed f)
faulty_as {A} f [] e rest h =
    let p : (malformed ≡ e) × ([] ≡ rest) = same_refused {A = A} malformed e [] rest h in
    subst (λ (x : CompactFault). HasFault (byte_as malformed malformed f) [] x rest) p.0 (subst (λ (y : List ℕ). HasFault (byte_as malformed malformed f) [] malformed y) p.1 ([], refl, refl, tt))
faulty_as f (b ∷ bs) e rest h = meaning_faulty f b bs (f b) e rest refl h

bytes_faulty : (n : ℕ) (bs : List ℕ) (t : Bool) (e : CompactFault) (rest : List ℕ) → nat_le n (length bs) ≡ t → (if t then got (take n bs) (drop n bs) else refused malformed []) ≡ refused e rest → HasFault (bytes_of malformed n) bs e rest
bytes_faulty n bs true e rest g h = absurd (not_got (take n bs) (drop n bs) e rest h)
bytes_faulty n bs false e rest g h =
    let p : (malformed ≡ e) × ([] ≡ rest) = same_refused {A = List ℕ} malformed e [] rest h in
    subst (λ (x : CompactFault). HasFault (bytes_of malformed n) bs x rest) p.0 (subst (λ (y : List ℕ). HasFault (bytes_of malformed n) bs malformed y) p.1 (bs, sym (append-nil bs), rw g refl, tt))

faulty_bytes : (n : ℕ) → IsFaulty (bytes_of malformed n)
faulty_bytes n bs e rest h = bytes_faulty n bs (nat_le n (length bs)) e rest refl h

-- ---- varints

abbrev VarintFaulty : ℕ → ℕ → ℕ → ℕ → Type 0
VarintFaulty bound k sum worth = IsFaulty (varint_from malformed malformed bound k sum worth)

-- a fault at the first byte
at_first : {A : Type 0} (read : CR A) (b : ℕ) (bs : List ℕ) (e : CompactFault) (rest : List ℕ) → read [] ≡ refused malformed [] → ((other : List ℕ) → read (b ∷ other) ≡ refused malformed (b ∷ other)) → Path (Reading CompactFault A) (refused malformed (b ∷ bs)) (refused e rest) → HasFault read (b ∷ bs) e rest
at_first {A} read b bs e rest f g h =
    let p : (malformed ≡ e) × (b ∷ bs ≡ rest) = same_refused {A = A} malformed e (b ∷ bs) rest h in
    subst (λ (x : CompactFault). HasFault read (b ∷ bs) x rest) p.0 (subst (λ (y : List ℕ). HasFault read (b ∷ bs) malformed y) p.1 ([], refl, f, g))

at_end : {A : Type 0} (read : CR A) (e : CompactFault) (rest : List ℕ) → read [] ≡ refused malformed [] → Path (Reading CompactFault A) (refused malformed []) (refused e rest) → HasFault read [] e rest
at_end {A} read e rest f h =
    let p : (malformed ≡ e) × ([] ≡ rest) = same_refused {A = A} malformed e [] rest h in
    subst (λ (x : CompactFault). HasFault read [] x rest) p.0 (subst (λ (y : List ℕ). HasFault read [] malformed y) p.1 ([], refl, f, tt))

one_more : {A : Type 0} (read later : CR A) (b : ℕ) (front : List ℕ) (e : CompactFault) (rest : List ℕ) → ((x : List ℕ) → read (b ∷ x) ≡ later x) → Stands later front e rest → Stands read (b ∷ front) e rest
one_more read later b front e [] f s = tt
one_more read later b front e (c ∷ rest) f s = λ other. f (front ++ c ∷ other) ∙ s other

nothing_read : (bound k sum worth : ℕ) → varint_from malformed malformed bound k sum worth [] ≡ refused malformed []
nothing_read bound zero sum worth = refl
nothing_read bound (suc k) sum worth = refl

last_faulty : (bound sum worth b : ℕ) (bs : List ℕ) (t : Bool) (e : CompactFault) (rest : List ℕ) → (nat_lt (sum + b % 128 * worth) bound && nat_lt b 128) ≡ t → (if t then got (sum + b % 128 * worth) bs else refused malformed (b ∷ bs)) ≡ refused e rest → HasFault (varint_from malformed malformed bound zero sum worth) (b ∷ bs) e rest
last_faulty bound sum worth b bs true e rest g h = absurd (not_got (sum + b % 128 * worth) bs e rest h)
last_faulty bound sum worth b bs false e rest g h = at_first (varint_from malformed malformed bound zero sum worth) b bs e rest refl (λ other. rw g refl) h

inner_faulty : (bound k sum worth b : ℕ) (bs : List ℕ) (t u : Bool) (e : CompactFault) (rest : List ℕ) → VarintFaulty bound k (sum + b % 128 * worth) (128 * worth) → nat_lt (sum + b % 128 * worth) bound ≡ t → nat_lt b 128 ≡ u → (if t then (if u then got (sum + b % 128 * worth) bs else varint_from malformed malformed bound k (sum + b % 128 * worth) (128 * worth) bs) else refused malformed (b ∷ bs)) ≡ refused e rest → HasFault (varint_from malformed malformed bound (suc k) sum worth) (b ∷ bs) e rest
inner_faulty bound k sum worth b bs false u e rest l g i h = at_first (varint_from malformed malformed bound (suc k) sum worth) b bs e rest refl (λ other. rw g refl) h
inner_faulty bound k sum worth b bs true true e rest l g i h = absurd (not_got (sum + b % 128 * worth) bs e rest h)
inner_faulty bound k sum worth b bs true false e rest l g i h =
    let p = l bs e rest h in
    (b ∷ p.0, ap (λ x. b ∷ x) p.1, rw (g, i) p.2, one_more (varint_from malformed malformed bound (suc k) sum worth) (varint_from malformed malformed bound k (sum + b % 128 * worth) (128 * worth)) b p.0 e rest (λ x. rw (g, i) refl) p.3)

varint_faulty : (bound k sum worth : ℕ) → VarintFaulty bound k sum worth
varint_faulty bound k sum worth [] e rest h = at_end (varint_from malformed malformed bound k sum worth) e rest (nothing_read bound k sum worth) (sym (nothing_read bound k sum worth) ∙ h)
varint_faulty bound zero sum worth (b ∷ bs) e rest h = last_faulty bound sum worth b bs (nat_lt (sum + b % 128 * worth) bound && nat_lt b 128) e rest refl h
varint_faulty bound (suc k) sum worth (b ∷ bs) e rest h = inner_faulty bound k sum worth b bs (nat_lt (sum + b % 128 * worth) bound) (nat_lt b 128) e rest (varint_faulty bound k (sum + b % 128 * worth) (128 * worth)) refl refl h

number_faulty : IsFaulty (varint malformed malformed)
number_faulty = varint_faulty (2 ^ 64) 9 0 1

signed_faulty : IsFaulty signed_varint
signed_faulty = faulty_then (varint malformed malformed) (λ n. give (from_zigzag n)) local_number number_faulty (λ n. faulty_give (from_zigzag n))

binary_faulty : IsFaulty binary
binary_faulty = faulty_then (varint malformed malformed) (bytes_of malformed) local_number number_faulty faulty_bytes

size_faulty : (h : ListHeader) → IsFaulty (list_size h)
size_faulty h = by (h.size == 15)
  where
    by : (b : Bool) → IsFaulty (if b then (varint malformed malformed >>= (λ n. give {E = CompactFault} (record { size = n; element = h.element }))) else give h)
    by true = faulty_then (varint malformed malformed) (λ n. give (record { size = n; element = h.element })) local_number number_faulty (λ n. faulty_give (record { size = n; element = h.element }))
    by false = faulty_give h

list_header_faulty : IsFaulty list_header
list_header_faulty = faulty_then (byte_as malformed malformed list_header_byte) list_size (local_as malformed malformed list_header_byte) (faulty_as list_header_byte) size_faulty

items_faulty : (read : CR Item) → IsLocal read → IsFaulty read → (n : ℕ) → IsFaulty (items read n)
items_faulty read l f zero = faulty_give no_items
items_faulty read l f (suc n) = faulty_then read (λ x. items read n >>= (λ xs. give (item x xs))) l f (λ x. faulty_then (items read n) (λ xs. give (item x xs)) (local_items read l n) (items_faulty read l f n) (λ xs. faulty_give (item x xs)))

pairs_faulty : (key value : CR Item) → IsLocal key → IsLocal value → IsFaulty key → IsFaulty value → (n : ℕ) → IsFaulty (pairs key value n)
pairs_faulty key value l m f g zero = faulty_give no_pairs
pairs_faulty key value l m f g (suc n) =
    faulty_then key (λ k. value >>= (λ v. pairs key value n >>= (λ xs. give (pair k v xs)))) l f
    (λ k. faulty_then value (λ v. pairs key value n >>= (λ xs. give (pair k v xs))) m g
    (λ v. faulty_then (pairs key value n) (λ xs. give (pair k v xs)) (local_pairs key value l m n) (pairs_faulty key value l m f g n) (λ xs. faulty_give (pair k v xs))))

abbrev EachLocal : (ThriftType → CR Item) → Type 0
EachLocal value = (t : ThriftType) → IsLocal (value t)

abbrev EachFaulty : (ThriftType → CR Item) → Type 0
EachFaulty value = (t : ThriftType) → IsFaulty (value t)

map_faulty : (value : ThriftType → CR Item) → EachLocal value → EachFaulty value → (n : ℕ) → IsFaulty (map_of value n)
map_faulty value l f zero = faulty_give empty_map_item
map_faulty value l f (suc n) =
    faulty_then (byte_as malformed malformed map_types) (λ t. pairs (value t.key) (value t.value) (suc n) >>= (λ xs. give (map_item t.key t.value xs))) (local_as malformed malformed map_types) (faulty_as map_types)
    (λ t. faulty_then (pairs (value t.key) (value t.value) (suc n)) (λ xs. give (map_item t.key t.value xs)) (local_pairs (value t.key) (value t.value) (l t.key) (l t.value) (suc n)) (pairs_faulty (value t.key) (value t.value) (l t.key) (l t.value) (f t.key) (f t.value) (suc n)) (λ xs. faulty_give (map_item t.key t.value xs)))

-- ---- fields, of which enough are allowed

abbrev GrowStands : {A : Type 0} → (ℕ → CR A) → List ℕ → CompactFault → List ℕ → Type 0
GrowStands read front e [] = Unit {0}
GrowStands read front e (b ∷ rest) = (j : ℕ) (other : List ℕ) → length front < j → read j (front ++ b ∷ other) ≡ refused e (b ∷ other)

abbrev GrowFault : {A : Type 0} → (ℕ → CR A) → List ℕ → CompactFault → List ℕ → Type 0
GrowFault read bytes e rest = (front : List ℕ) × (bytes ≡ front ++ rest) × ((j : ℕ) → length front ≤ j → read j front ≡ refused e []) × GrowStands read front e rest

grow_first : {A B : Type 0} (first : CR A) (next : ℕ → A → CR B) (front : List ℕ) (e : CompactFault) (rest : List ℕ) → Stands first front e rest → GrowStands (λ j. first >>= next j) front e rest
grow_first first next front e [] s = tt
grow_first first next front e (b ∷ rest) s = λ j other m. rw (s other) refl

grow_behind : {A B : Type 0} (first : CR A) (next : ℕ → A → CR B) (f g : List ℕ) (a : A) (e : CompactFault) (rest : List ℕ) → IsReadAs first f a → GrowStands (λ j. next j a) g e rest → GrowStands (λ j. first >>= next j) (f ++ g) e rest
grow_behind first next f g a e [] r s = tt
grow_behind first next f g a e (b ∷ rest) r s = λ j other m. rw (append_assoc f g (b ∷ other), r (g ++ b ∷ other)) (s j other (omega (arith, m, length-append f g)))

grow_by : {A B : Type 0} (first : CR A) (next : ℕ → A → CR B) (k : ℕ) (bytes : List ℕ) (e : CompactFault) (rest : List ℕ) → IsLocal first → IsFaulty first → length bytes ≤ k → ((a : A) (bs : List ℕ) → length bs ≤ k → next k a bs ≡ refused e rest → GrowFault (λ j. next j a) bs e rest) → (r : Reading CompactFault A) → first bytes ≡ r → goes_on r (next k) ≡ refused e rest → GrowFault (λ j. first >>= next j) bytes e rest
grow_by first next k bytes e rest l f m g (got a bs) c h =
    let p = l bytes a bs c in
    let q = g a bs (omega (arith, m, ap length p.1, length-append p.0 bs)) h in
    (p.0 ++ q.0, p.1 ∙ (ap (λ x. p.0 ++ x) q.1 ∙ sym (append_assoc p.0 q.0 rest)), λ j n. rw (p.2 q.0) (q.2 j (omega (arith, n, length-append p.0 q.0))), grow_behind first next p.0 q.0 a e rest p.2 q.3)
grow_by {A} {B} first next k bytes e rest l f m g (refused e′ bs) c h =
    let p : (e′ ≡ e) × (bs ≡ rest) = same_refused {A = B} e′ e bs rest h in
    let q = f bytes e rest (c ∙ ap₂ (λ x y. refused x y) p.0 p.1) in
    (q.0, q.1, λ j n. rw q.2 refl, grow_first first next q.0 e rest q.3)

grow_given : {A B : Type 0} (first : ℕ → CR A) (f : A → B) (front : List ℕ) (e : CompactFault) (rest : List ℕ) → GrowStands first front e rest → GrowStands (λ j. first j >>= (λ x. give (f x))) front e rest
grow_given first f front e [] s = tt
grow_given first f front e (b ∷ rest) s = λ j other m. rw (s j other m) refl

grow_map : {A B : Type 0} (first : ℕ → CR A) (f : A → B) (k : ℕ) (bytes : List ℕ) (e : CompactFault) (rest : List ℕ) → (first k bytes ≡ refused e rest → GrowFault first bytes e rest) → (r : Reading CompactFault A) → first k bytes ≡ r → goes_on r (λ x. give (f x)) ≡ refused e rest → GrowFault (λ j. first j >>= (λ x. give (f x))) bytes e rest
grow_map first f k bytes e rest g (got a bs) c h = absurd (not_got (f a) bs e rest h)
grow_map {A} {B} first f k bytes e rest g (refused e′ bs) c h =
    let p : (e′ ≡ e) × (bs ≡ rest) = same_refused {A = B} e′ e bs rest h in
    let q = g (c ∙ ap₂ (λ x y. refused x y) p.0 p.1) in
    (q.0, q.1, λ j n. rw (q.2 j n) refl, grow_given first f q.0 e rest q.3)

abbrev FieldsFault : (ThriftType → CR Item) → ℕ → Type 0
FieldsFault value k = (last : ℤ) (bytes : List ℕ) (e : CompactFault) (rest : List ℕ) → length bytes ≤ k → fields value k last bytes ≡ refused e rest → GrowFault (λ j. fields value j last) bytes e rest

field_value_faulty : (value : ThriftType → CR Item) → EachFaulty value → (t : ThriftType) → IsFaulty (field_value value t)
field_value_faulty value f true_type = faulty_give (truth_item true)
field_value_faulty value f false_type = faulty_give (truth_item false)
field_value_faulty value f byte_type = f byte_type
field_value_faulty value f i16_type = f i16_type
field_value_faulty value f i32_type = f i32_type
field_value_faulty value f i64_type = f i64_type
field_value_faulty value f double_type = f double_type
field_value_faulty value f binary_type = f binary_type
field_value_faulty value f list_type = f list_type
field_value_faulty value f set_type = f set_type
field_value_faulty value f map_type = f map_type
field_value_faulty value f struct_type = f struct_type

field_fault : (value : ThriftType → CR Item) → EachLocal value → EachFaulty value → (k : ℕ) → FieldsFault value k → (t : ThriftType) (id : ℤ) (bytes : List ℕ) (e : CompactFault) (rest : List ℕ) → length bytes ≤ k → field_and_rest value (fields value k) t id bytes ≡ refused e rest → GrowFault (λ j. field_and_rest value (fields value j) t id) bytes e rest
field_fault value l f k g t id bytes e rest m h =
    grow_by (field_value value t) (λ j x. fields value j id >>= (λ r. give (struct_field id x r))) k bytes e rest (local_field_value value l t) (field_value_faulty value f t) m
    (λ x bs n c. grow_map (λ j. fields value j id) (struct_field id x) k bs e rest (g id bs e rest n) (fields value k id bs) refl c) (field_value value t bytes) refl h

id_faulty : IsFaulty field_id
id_faulty = faulty_then (varint_below (2 ^ 16) malformed malformed) (λ n. give (from_zigzag n)) (local_varint malformed malformed (2 ^ 16) 9 0 1) (varint_faulty (2 ^ 16) 9 0 1) (λ n. faulty_give (from_zigzag n))

id_local : IsLocal field_id
id_local = local_then (varint_below (2 ^ 16) malformed malformed) (λ n. give (from_zigzag n)) (local_varint malformed malformed (2 ^ 16) 9 0 1) (λ n. local_give (from_zigzag n))

after_fault : (value : ThriftType → CR Item) → EachLocal value → EachFaulty value → (k : ℕ) → FieldsFault value k → (d : FieldHeader) (bytes : List ℕ) (e : CompactFault) (rest : List ℕ) → length bytes ≤ k → after_header value (fields value k) d bytes ≡ refused e rest → GrowFault (λ j. after_header value (fields value j) d) bytes e rest
after_fault value l f k g stop_header bytes e rest m h = absurd (not_got stop bytes e rest h)
after_fault value l f k g (short_header id t) bytes e rest m h = field_fault value l f k g t id bytes e rest m h
after_fault value l f k g (long_header t) bytes e rest m h = grow_by field_id (λ j. field_and_rest value (fields value j) t) k bytes e rest id_local id_faulty m (λ id bs n c. field_fault value l f k g t id bs e rest n c) (field_id bytes) refl h

no_fields_read : (value : ThriftType → CR Item) (last : ℤ) (j : ℕ) → fields value j last [] ≡ refused malformed []
no_fields_read value last zero = refl
no_fields_read value last (suc j) = refl

empty_fault : (value : ThriftType → CR Item) (last : ℤ) (e : CompactFault) (rest : List ℕ) → Path (Reading CompactFault Struct) (refused malformed []) (refused e rest) → GrowFault (λ j. fields value j last) [] e rest
empty_fault value last e rest h =
    let p : (malformed ≡ e) × ([] ≡ rest) = same_refused {A = Struct} malformed e [] rest h in
    subst (λ (x : CompactFault). GrowFault (λ j. fields value j last) [] x rest) p.0 (subst (λ (y : List ℕ). GrowFault (λ j. fields value j last) [] malformed y) p.1 ([], refl, λ j m. no_fields_read value last j, tt))

header_fault : (value : ThriftType → CR Item) (last : ℤ) (b : ℕ) → field_header last b ≡ None → (j : ℕ) (other : List ℕ) → 0 < j → fields value j last (b ∷ other) ≡ refused malformed (b ∷ other)
header_fault value last b c zero other m = absurd (omega (arith, m))
header_fault value last b c (suc j) other m = rw c refl

more_stands : (value : ThriftType → CR Item) (last : ℤ) (b : ℕ) (d : FieldHeader) (front : List ℕ) (e : CompactFault) (rest : List ℕ) → field_header last b ≡ Some d → GrowStands (λ j. after_header value (fields value j) d) front e rest → GrowStands (λ j. fields value j last) (b ∷ front) e rest
more_stands value last b d front e [] c s = tt
more_stands value last b d front e (x ∷ rest) c s = stands
  where
    stands : (j : ℕ) (other : List ℕ) → length (b ∷ front) < j → fields value j last ((b ∷ front) ++ x ∷ other) ≡ refused e (x ∷ other)
    stands zero other m = absurd (omega (arith, m))
    stands (suc j) other m = rw c (s j other (omega (arith, m)))

more_short : (value : ThriftType → CR Item) (last : ℤ) (b : ℕ) (d : FieldHeader) (front : List ℕ) (e : CompactFault) → field_header last b ≡ Some d → ((j : ℕ) → length front ≤ j → after_header value (fields value j) d front ≡ refused e []) → (j : ℕ) → length (b ∷ front) ≤ j → fields value j last (b ∷ front) ≡ refused e []
more_short value last b d front e c s zero m = absurd (omega (arith, m))
more_short value last b d front e c s (suc j) m = rw c (s j (omega (arith, m)))

byte_fault : (value : ThriftType → CR Item) → EachLocal value → EachFaulty value → (k : ℕ) → FieldsFault value k → (last : ℤ) (b : ℕ) (bs : List ℕ) (e : CompactFault) (rest : List ℕ) → length bs ≤ k → (o : Option FieldHeader) → field_header last b ≡ o → goes_on (byte_meaning malformed b bs o) (after_header value (fields value k)) ≡ refused e rest → GrowFault (λ j. fields value j last) (b ∷ bs) e rest
byte_fault value l f k g last b bs e rest m None c h =
    let p : (malformed ≡ e) × (b ∷ bs ≡ rest) = same_refused {A = Struct} malformed e (b ∷ bs) rest h in
    subst (λ (x : CompactFault). GrowFault (λ j. fields value j last) (b ∷ bs) x rest) p.0 (subst (λ (y : List ℕ). GrowFault (λ j. fields value j last) (b ∷ bs) malformed y) p.1 ([], refl, λ j n. no_fields_read value last j, header_fault value last b c))
byte_fault value l f k g last b bs e rest m (Some d) c h =
    let q = after_fault value l f k g d bs e rest m h in
    (b ∷ q.0, ap (λ x. b ∷ x) q.1, more_short value last b d q.0 e c q.2, more_stands value last b d q.0 e rest c q.3)

fields_fault : (value : ThriftType → CR Item) → EachLocal value → EachFaulty value → (k : ℕ) → FieldsFault value k
fields_fault value l f zero last [] e rest m h = empty_fault value last e rest h
fields_fault value l f zero last (b ∷ bs) e rest m h = absurd (omega (arith, m))
fields_fault value l f (suc k) last [] e rest m h = empty_fault value last e rest h
fields_fault value l f (suc k) last (b ∷ bs) e rest m h = byte_fault value l f k (fields_fault value l f k) last b bs e rest (omega (arith, m)) (field_header last b) refl h

struct_stands : (value : ThriftType → CR Item) (front : List ℕ) (e : CompactFault) (rest : List ℕ) → GrowStands (λ j. fields value j (pos 0)) front e rest → Stands (struct_of value) front e rest
struct_stands value front e [] s = tt
struct_stands value front e (b ∷ rest) s = λ other. s (length (front ++ b ∷ other)) other (omega (arith, length-append front (b ∷ other)))

struct_faulty : (value : ThriftType → CR Item) → EachLocal value → EachFaulty value → IsFaulty (struct_of value)
struct_faulty value l f bytes e rest h =
    let q = fields_fault value l f (length bytes) (pos 0) bytes e rest (omega arith) h in
    (q.0, q.1, q.2 (length q.0) (omega arith), struct_stands value q.0 e rest q.3)

-- ---- values

deep_stands : (bytes : List ℕ) → Stands {A = Item} (refused too_deep) [] too_deep bytes
deep_stands [] = tt
deep_stands (b ∷ bs) = λ other. refl

deep_faulty : IsFaulty {A = Item} (refused too_deep)
deep_faulty bytes e rest h =
    let p : (too_deep ≡ e) × (bytes ≡ rest) = same_refused {A = Item} too_deep e bytes rest h in
    subst (λ (x : CompactFault). HasFault {A = Item} (refused too_deep) bytes x rest) p.0 (subst (λ (y : List ℕ). HasFault {A = Item} (refused too_deep) bytes too_deep y) p.1 ([], refl, refl, deep_stands bytes))

elements_faulty : (n : ℕ) (make : ThriftType → Items → Item) → EachFaulty (value_of n) → IsFaulty (list_header >>= (λ h. items (value_of n h.element) h.size >>= (λ xs. give (make h.element xs))))
elements_faulty n make f =
    faulty_then list_header (λ h. items (value_of n h.element) h.size >>= (λ xs. give (make h.element xs))) local_list_header list_header_faulty
    (λ h. faulty_then (items (value_of n h.element) h.size) (λ xs. give (make h.element xs)) (local_items (value_of n h.element) (local_value n h.element) h.size) (items_faulty (value_of n h.element) (local_value n h.element) (f h.element) h.size) (λ xs. faulty_give (make h.element xs)))

value_faulty : (n : ℕ) → EachFaulty (value_of n)
value_faulty n true_type = faulty_as truth_byte
value_faulty n false_type = faulty_as truth_byte
value_faulty n byte_type = faulty_as plain_byte
value_faulty n i16_type = faulty_then signed_varint (λ z. give (i16_item z)) local_signed signed_faulty (λ z. faulty_give (i16_item z))
value_faulty n i32_type = faulty_then signed_varint (λ z. give (i32_item z)) local_signed signed_faulty (λ z. faulty_give (i32_item z))
value_faulty n i64_type = faulty_then signed_varint (λ z. give (i64_item z)) local_signed signed_faulty (λ z. faulty_give (i64_item z))
value_faulty n double_type = faulty_then (bytes_of malformed 8) (λ b. give (double_item b)) (local_bytes malformed 8) (faulty_bytes 8) (λ b. faulty_give (double_item b))
value_faulty n binary_type = faulty_then binary (λ b. give (binary_item b)) local_binary binary_faulty (λ b. faulty_give (binary_item b))
value_faulty zero list_type = deep_faulty
value_faulty zero set_type = deep_faulty
value_faulty zero map_type = deep_faulty
value_faulty zero struct_type = deep_faulty
value_faulty (suc n) list_type = elements_faulty n list_item (value_faulty n)
value_faulty (suc n) set_type = elements_faulty n set_item (value_faulty n)
value_faulty (suc n) map_type = faulty_then (varint malformed malformed) (map_of (value_of n)) local_number number_faulty (map_faulty (value_of n) (local_value n) (value_faulty n))
value_faulty (suc n) struct_type = faulty_then (struct_of (value_of n)) (λ s. give (struct_item s)) (local_struct (value_of n) (local_value n)) (struct_faulty (value_of n) (local_value n) (value_faulty n)) (λ s. faulty_give (struct_item s))

read_faulty : IsFaulty read_struct
unfolding read_struct
read_faulty = struct_faulty (value_of 31) (local_value 31) (value_faulty 31)

-- ---- the law

none_goes_on : (before : List ℕ) (e : CompactFault) (rest : List ℕ) → Stands read_struct before e rest → NoStructGoesOn before rest
none_goes_on before e [] s = tt
none_goes_on before e (b ∷ rest) s = λ front behind other t g h. not_got t behind e (b ∷ other) (sym (spelling_is_read front t h behind) ∙ (ap read_struct g ∙ s other))

pub fault_is_first : FaultIsFirst
fault_is_first bytes e rest h = let p = read_faulty bytes e rest h in (p.0, p.1, p.2, none_goes_on p.0 e rest p.3)
