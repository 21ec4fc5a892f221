-- With a greater limit of nesting all is read alike, but for what was too deep.
use Rattle.std.proofs.Common.{◌≡◌, ℕ, zero, suc, ◌≤◌, List, length, refl, sym, ap, subst, arith, ℤ, pos}
use Rattle.dr_formats.specs.Reading.{Reading, got, refused, give, goes_on, ◌>>=◌, byte_as}
use Rattle.dr_formats.specs.Varint.{varint}
use Rattle.dr_formats.specs.Compact.{CompactFault, malformed, too_deep, ThriftType, true_type, false_type, byte_type, i16_type, i32_type, i64_type, double_type, binary_type, list_type, set_type, map_type, struct_type, stop, struct_field, Item, list_item, set_item, empty_map_item, map_item, struct_item, Items, no_items, item, no_pairs, pair, list_header, map_types, items, pairs, map_of, FieldHeader, stop_header, short_header, long_header, field_header, field_id, field_value, field_and_rest, after_header, fields, struct_of, value_of}
use Rattle.dr_format_laws.proofs.BeginsSpelling.{CR}

-- the same, unless it was too deep
abbrev pub IsAlike : {A : Type 0} → Reading CompactFault A → Reading CompactFault A → Type 0
IsAlike (got a rest) y = y ≡ got a rest
IsAlike (refused malformed rest) y = y ≡ refused malformed rest
IsAlike (refused too_deep rest) y = Unit {0}

abbrev pub Deeper : {A : Type 0} → CR A → CR A → Type 0
Deeper read further = (bytes : List ℕ) → IsAlike (read bytes) (further bytes)

alike_itself : {A : Type 0} (x : Reading CompactFault A) → IsAlike x x
alike_itself (got a rest) = refl
alike_itself (refused malformed rest) = refl
alike_itself (refused too_deep rest) = tt

deeper_itself : {A : Type 0} (read : CR A) → Deeper read read
deeper_itself read bytes = alike_itself (read bytes)

alike_then : {A B : Type 0} (next more : A → CR B) → ((a : A) → Deeper (next a) (more a)) → (x y : Reading CompactFault A) → IsAlike x y → IsAlike (goes_on x next) (goes_on y more)
alike_then next more k (got a rest) y h = subst (λ z. IsAlike (next a rest) (goes_on z more)) (sym h) (k a rest)
alike_then next more k (refused malformed rest) y h = ap (λ z. goes_on z more) h
alike_then next more k (refused too_deep rest) y h = tt

deeper_then : {A B : Type 0} (first further : CR A) (next more : A → CR B) → Deeper first further → ((a : A) → Deeper (next a) (more a)) → Deeper (first >>= next) (further >>= more)
deeper_then first further next more h k bytes = alike_then next more k (first bytes) (further bytes) (h bytes)

-- the same form first
deeper_behind : {A B : Type 0} (first : CR A) (next more : A → CR B) → ((a : A) → Deeper (next a) (more a)) → Deeper (first >>= next) (first >>= more)
deeper_behind first next more k = deeper_then first first next more (deeper_itself first) k

deeper_made : {A B : Type 0} (first further : CR A) (f : A → B) → Deeper first further → Deeper (first >>= (λ x. give (f x))) (further >>= (λ x. give (f x)))
deeper_made first further f h = deeper_then first further (λ x. give (f x)) (λ x. give (f x)) h (λ x. deeper_itself (give (f x)))

deeper_items : (read further : CR Item) → Deeper read further → (n : ℕ) → Deeper (items read n) (items further n)
deeper_items read further h zero = deeper_itself (give no_items)
deeper_items read further h (suc n) = deeper_then read further (λ x. items read n >>= (λ xs. give (item x xs))) (λ x. items further n >>= (λ xs. give (item x xs))) h (λ x. deeper_made (items read n) (items further n) (item x) (deeper_items read further h n))

deeper_pairs : (key key′ value value′ : CR Item) → Deeper key key′ → Deeper value value′ → (n : ℕ) → Deeper (pairs key value n) (pairs key′ value′ n)
deeper_pairs key key′ value value′ h g zero = deeper_itself (give no_pairs)
deeper_pairs key key′ value value′ h g (suc n) =
    deeper_then key key′ (λ k. value >>= (λ v. pairs key value n >>= (λ xs. give (pair k v xs)))) (λ k. value′ >>= (λ v. pairs key′ value′ n >>= (λ xs. give (pair k v xs)))) h
    (λ k. deeper_then value value′ (λ v. pairs key value n >>= (λ xs. give (pair k v xs))) (λ v. pairs key′ value′ n >>= (λ xs. give (pair k v xs))) g
    (λ v. deeper_made (pairs key value n) (pairs key′ value′ n) (pair k v) (deeper_pairs key key′ value value′ h g n)))

abbrev EachDeeper : (ThriftType → CR Item) → (ThriftType → CR Item) → Type 0
EachDeeper value further = (t : ThriftType) → Deeper (value t) (further t)

deeper_map : (value further : ThriftType → CR Item) → EachDeeper value further → (n : ℕ) → Deeper (map_of value n) (map_of further n)
deeper_map value further h zero = deeper_itself (give empty_map_item)
deeper_map value further h (suc n) =
    deeper_behind (byte_as malformed malformed map_types) (λ t. pairs (value t.key) (value t.value) (suc n) >>= (λ xs. give (map_item t.key t.value xs))) (λ t. pairs (further t.key) (further t.value) (suc n) >>= (λ xs. give (map_item t.key t.value xs)))
    (λ t. deeper_made (pairs (value t.key) (value t.value) (suc n)) (pairs (further t.key) (further t.value) (suc n)) (map_item t.key t.value) (deeper_pairs (value t.key) (further t.key) (value t.value) (further t.value) (h t.key) (h t.value) (suc n)))

deeper_field_value : (value further : ThriftType → CR Item) → EachDeeper value further → (t : ThriftType) → Deeper (field_value value t) (field_value further t)
deeper_field_value value further h true_type bytes = refl
deeper_field_value value further h false_type bytes = refl
deeper_field_value value further h byte_type bytes = h byte_type bytes
deeper_field_value value further h i16_type bytes = h i16_type bytes
deeper_field_value value further h i32_type bytes = h i32_type bytes
deeper_field_value value further h i64_type bytes = h i64_type bytes
deeper_field_value value further h double_type bytes = h double_type bytes
deeper_field_value value further h binary_type bytes = h binary_type bytes
deeper_field_value value further h list_type bytes = h list_type bytes
deeper_field_value value further h set_type bytes = h set_type bytes
deeper_field_value value further h map_type bytes = h map_type bytes
deeper_field_value value further h struct_type bytes = h struct_type bytes

abbrev FieldsDeeper : (ThriftType → CR Item) → (ThriftType → CR Item) → ℕ → Type 0
FieldsDeeper value further k = (last : ℤ) → Deeper (fields value k last) (fields further k last)

deeper_field : (value further : ThriftType → CR Item) → EachDeeper value further → (k : ℕ) → FieldsDeeper value further k → (t : ThriftType) (id : ℤ) → Deeper (field_and_rest value (fields value k) t id) (field_and_rest further (fields further k) t id)
deeper_field value further h k g t id =
    deeper_then (field_value value t) (field_value further t) (λ x. fields value k id >>= (λ r. give (struct_field id x r))) (λ x. fields further k id >>= (λ r. give (struct_field id x r))) (deeper_field_value value further h t)
    (λ x. deeper_made (fields value k id) (fields further k id) (struct_field id x) (g id))

deeper_after : (value further : ThriftType → CR Item) → EachDeeper value further → (k : ℕ) → FieldsDeeper value further k → (e : FieldHeader) → Deeper (after_header value (fields value k) e) (after_header further (fields further k) e)
deeper_after value further h k g stop_header = deeper_itself (give stop)
deeper_after value further h k g (short_header id t) = deeper_field value further h k g t id
deeper_after value further h k g (long_header t) = deeper_behind field_id (field_and_rest value (fields value k) t) (field_and_rest further (fields further k) t) (deeper_field value further h k g t)

deeper_fields : (value further : ThriftType → CR Item) → EachDeeper value further → (k : ℕ) → FieldsDeeper value further k
deeper_fields value further h zero last = λ bytes. refl
deeper_fields value further h (suc k) last = deeper_behind (byte_as malformed malformed (field_header last)) (after_header value (fields value k)) (after_header further (fields further k)) (deeper_after value further h k (deeper_fields value further h k))

deeper_struct : (value further : ThriftType → CR Item) → EachDeeper value further → Deeper (struct_of value) (struct_of further)
deeper_struct value further h bytes = deeper_fields value further h (length bytes) (pos 0) bytes

deeper_elements : (n m : ℕ) (make : ThriftType → Items → Item) → EachDeeper (value_of n) (value_of m)
    → Deeper (list_header >>= (λ h. items (value_of n h.element) h.size >>= (λ xs. give (make h.element xs)))) (list_header >>= (λ h. items (value_of m h.element) h.size >>= (λ xs. give (make h.element xs))))
deeper_elements n m make g =
    deeper_behind list_header (λ h. items (value_of n h.element) h.size >>= (λ xs. give (make h.element xs))) (λ h. items (value_of m h.element) h.size >>= (λ xs. give (make h.element xs)))
    (λ h. deeper_made (items (value_of n h.element) h.size) (items (value_of m h.element) h.size) (make h.element) (deeper_items (value_of n h.element) (value_of m h.element) (g h.element) h.size))

deeper_value : (n m : ℕ) → n ≤ m → EachDeeper (value_of n) (value_of m)
deeper_value n m l true_type = deeper_itself (value_of n true_type)
deeper_value n m l false_type = deeper_itself (value_of n false_type)
deeper_value n m l byte_type = deeper_itself (value_of n byte_type)
deeper_value n m l i16_type = deeper_itself (value_of n i16_type)
deeper_value n m l i32_type = deeper_itself (value_of n i32_type)
deeper_value n m l i64_type = deeper_itself (value_of n i64_type)
deeper_value n m l double_type = deeper_itself (value_of n double_type)
deeper_value n m l binary_type = deeper_itself (value_of n binary_type)
deeper_value zero m l list_type = λ bytes. tt
deeper_value zero m l set_type = λ bytes. tt
deeper_value zero m l map_type = λ bytes. tt
deeper_value zero m l struct_type = λ bytes. tt
deeper_value (suc n) zero l list_type = absurd (omega (arith, l))
deeper_value (suc n) zero l set_type = absurd (omega (arith, l))
deeper_value (suc n) zero l map_type = absurd (omega (arith, l))
deeper_value (suc n) zero l struct_type = absurd (omega (arith, l))
deeper_value (suc n) (suc m) l list_type = deeper_elements n m list_item (deeper_value n m (omega (arith, l)))
deeper_value (suc n) (suc m) l set_type = deeper_elements n m set_item (deeper_value n m (omega (arith, l)))
deeper_value (suc n) (suc m) l map_type = deeper_behind (varint malformed malformed) (map_of (value_of n)) (map_of (value_of m)) (deeper_map (value_of n) (value_of m) (deeper_value n m (omega (arith, l))))
deeper_value (suc n) (suc m) l struct_type = deeper_made (struct_of (value_of n)) (struct_of (value_of m)) struct_item (deeper_struct (value_of n) (value_of m) (deeper_value n m (omega (arith, l))))

pub deeper : (n m : ℕ) → n ≤ m → Deeper (struct_of (value_of n)) (struct_of (value_of m))
deeper n m l = deeper_struct (value_of n) (value_of m) (deeper_value n m l)
