-- The loops of reading: one step more, the end, and the faults.
use Rattle.std.proofs.Common.{◌≡◌, ℕ, suc, ◌+◌, ◌-◌, ◌<◌, ◌≤◌, List, [], ◌∷◌, ◌++◌, length, map, refl, sym, ap, ap₂, subst, ◌∙◌, arith, ℤ, drop}
use Rattle.std.specs.Prelude.{Some, None, pos}
use Rattle.std.proofs.lemmas.List.{length-append, map-append}
use Rattle.std.proofs.Math.Seq.{drop-append_seam}
use Rattle.dr_formats.specs.Reading.{Reading, got, give, goes_on, ◌>>=◌, byte_as}
use Rattle.dr_formats.specs.Varint.{varint}
use Rattle.dr_formats.specs.Compact.{CompactFault, malformed, ThriftType, Struct, Items, ListHeader, list_header, items, fields, value_of, field_value, map_of, map_types, read_struct}
use Rattle.dr_formats.proofs.CompactLocal.{local_struct, local_value}
use Rattle.dr_bytes.specs.Numbers.{IsFault}
use Rattle.dr_compact.specs.Reads.{IsFaultOf}
use Rattle.dr_compact.specs.declared.fault.CompactFault.{CompactFault as Fault}
use Rattle.dr_compact.specs.declared.tree.Field.{Field}
use Rattle.dr_compact.specs.Views.{SeenField, SeenValues, items_from, map_from, field_view, fields_view, item_view}
use Rattle.dr_compact.specs.Steps.{start_of, field_start, elements, map_inside, struct_inside, joined}
use Rattle.dr_compact.proofs.NumberLemmas.{fault_then}
use Rattle.dr_compact.proofs.ViewLemmas.{view-field}
use Rattle.dr_compact.proofs.StepLemmas.{ItemsRead, item_read, item_fault, all_items_read, PairsRead, pair_read, key_fault, value_fault, all_pairs_read, all_pairs_fault, types_of}
use Rattle.dr_compact.proofs.StepLemmas.{FieldsRead, seen_field, field_read, end_read, start_fault, item_of_field_fault, no_end}

one_less : (size k : ℕ) → k < size → size - k ≡ suc (size - (k + 1))
one_less size k l = omega (arith, l)

none_left : (size k : ℕ) → size ≤ k → size - k ≡ 0
none_left size k l = omega (arith, l)

-- ---- lists and sets

abbrev pub ValuesRead : ℕ → ℕ → ThriftType → List ℕ → ℕ → SeenValues → List ℕ → Type 0
ValuesRead n size t bytes k v now = (v.element ≡ t) × ItemsRead (value_of n t) size bytes k v.values now

pub value_read : (n size k : ℕ) (t : ThriftType) (bytes now next : List ℕ) (v w : SeenValues) → k < size → ValuesRead n size t bytes (size - k) v now → joined v (value_of n v.element now) ≡ got w next → ValuesRead n size t bytes (size - (k + 1)) w next
value_read n size k t bytes now next v w l h e = item_read n size (size - (k + 1)) t bytes now next v w h.0 (subst (λ j. ItemsRead (value_of n t) size bytes j v.values now) (one_less size k l) h.1) e

elements_by : (n d : ℕ) (bytes now : List ℕ) (size : ℕ) (t : ThriftType) → d ≡ suc n → list_header bytes ≡ got (record { size = size; element = t }) now → elements d bytes ≡ goes_on (items (value_of n t) size now) (λ xs. give (record { element = t; items = xs }))
elements_by n d bytes now size t e h = ap (λ m. elements m bytes) e ∙ ap (λ (r : Reading CompactFault ListHeader). goes_on r (λ h. items (value_of n h.element) h.size >>= (λ xs. give (record { element = h.element; items = xs })))) h

pub elements_got : (n d : ℕ) (bytes now rest : List ℕ) (size k : ℕ) (t u : ThriftType) (v : SeenValues) → d ≡ suc n → list_header bytes ≡ got (record { size = size; element = u }) now → t ≡ u → size ≤ k → ValuesRead n size t now (size - k) v rest → elements d bytes ≡ got (record { element = v.element; items = items_from v.values }) rest
elements_got n d bytes now rest size k t u v e h s l p =
    let all = all_items_read (value_of n t) size now rest v.values (subst (λ j. ItemsRead (value_of n t) size now j v.values rest) (none_left size k l) p.1) in
    let h′ : list_header bytes ≡ got (record { size = size; element = t }) now = h ∙ ap (λ (x : ThriftType). got (record { size = size; element = x }) now) (sym s) in
    elements_by n d bytes now size t e h′
    ∙ (ap (λ (r : Reading CompactFault Items). goes_on r (λ xs. give (record { element = t; items = xs }))) all
    ∙ ap (λ (x : ThriftType). got (record { element = x; items = items_from v.values }) rest) (sym p.0))

pub elements_fault : (n d : ℕ) (bytes now mid : List ℕ) (size k : ℕ) (t u : ThriftType) (v : SeenValues) (f : Fault) → d ≡ suc n → list_header bytes ≡ got (record { size = size; element = u }) mid → t ≡ u → k < size → ValuesRead n size t mid (size - k) v now → IsFaultOf f (joined v (value_of n v.element now)) → IsFaultOf f (elements d bytes)
elements_fault n d bytes now mid size k t u v f e h s l p g =
    let inner = item_fault n size (size - (k + 1)) t mid now v f p.0 (subst (λ j. ItemsRead (value_of n t) size mid j v.values now) (one_less size k l) p.1) g in
    let h′ : list_header bytes ≡ got (record { size = size; element = t }) mid = h ∙ ap (λ (x : ThriftType). got (record { size = size; element = x }) mid) (sym s) in
    subst (IsFaultOf f) (sym (elements_by n d bytes mid size t e h′)) (fault_then f (items (value_of n t) size mid) (λ xs. give (record { element = t; items = xs })) inner)

-- ---- maps

map_by : (n d : ℕ) (bytes now : List ℕ) (size : ℕ) → d ≡ suc n → varint malformed malformed bytes ≡ got size now → map_inside d bytes ≡ map_of (value_of n) size now
map_by n d bytes now size e h = ap (λ m. map_inside m bytes) e ∙ ap (λ (r : Reading CompactFault ℕ). goes_on r (map_of (value_of n))) h

same_types : (t u t′ u′ : ThriftType) (now mid : List ℕ) → t ≡ t′ → u ≡ u′ → byte_as malformed malformed map_types now ≡ got (types_of t′ u′) mid → byte_as malformed malformed map_types now ≡ got (types_of t u) mid
same_types t u t′ u′ now mid a b h = h ∙ ap₂ (λ (x y : ThriftType). got (types_of x y) mid) (sym a) (sym b)

pub map_got : (n d : ℕ) (bytes now mid rest : List ℕ) (size k : ℕ) (t u t′ u′ : ThriftType) (ks vs : SeenValues) → d ≡ suc n → varint malformed malformed bytes ≡ got size now → (size ≡ 0 → ⊥) → byte_as malformed malformed map_types now ≡ got (types_of t′ u′) mid → t ≡ t′ → u ≡ u′ → size ≤ k → k ≤ size → PairsRead (value_of n) size mid (size - k) k t u ks vs rest → map_inside d bytes ≡ got (map_from ks vs) rest
map_got n d bytes now mid rest size k t u t′ u′ ks vs e h z s a b l m p =
    let q : k ≡ size = omega (arith, l, m) in
    let p′ = subst (λ j. PairsRead (value_of n) size mid j k t u ks vs rest) (none_left size k l) p in
    let p″ = subst (λ j. PairsRead (value_of n) size mid 0 j t u ks vs rest) q p′ in
    map_by n d bytes now size e h ∙ all_pairs_read (value_of n) size now mid rest t u ks vs z (same_types t u t′ u′ now mid a b s) p″

pub two_read : (n size k : ℕ) (t u : ThriftType) (bytes now mid next : List ℕ) (ks ls vs ws : SeenValues) → k < size → PairsRead (value_of n) size bytes (size - k) k t u ks vs now → joined ks (value_of n ks.element now) ≡ got ls mid → joined vs (value_of n vs.element mid) ≡ got ws next → PairsRead (value_of n) size bytes (size - (k + 1)) (k + 1) t u ls ws next
two_read n size k t u bytes now mid next ks ls vs ws l p g h = pair_read (value_of n) size (size - (k + 1)) bytes now mid next k t u ks ls vs ws (subst (λ j. PairsRead (value_of n) size bytes j k t u ks vs now) (one_less size k l) p) g h

pub no_key : (n d : ℕ) (bytes start mid now : List ℕ) (size k : ℕ) (t u t′ u′ : ThriftType) (ks vs : SeenValues) (f : Fault) → d ≡ suc n → varint malformed malformed bytes ≡ got size start → (size ≡ 0 → ⊥) → byte_as malformed malformed map_types start ≡ got (types_of t′ u′) mid → t ≡ t′ → u ≡ u′ → k < size → PairsRead (value_of n) size mid (size - k) k t u ks vs now → IsFaultOf f (joined ks (value_of n ks.element now)) → IsFaultOf f (map_inside d bytes)
no_key n d bytes start mid now size k t u t′ u′ ks vs f e h z s a b l p g =
    let p′ = subst (λ j. PairsRead (value_of n) size mid j k t u ks vs now) (one_less size k l) p in
    let inner = key_fault (value_of n) size (size - (k + 1)) mid now k t u ks vs f p′ g in
    subst (IsFaultOf f) (sym (map_by n d bytes start size e h)) (all_pairs_fault (value_of n) size start mid t u f z (same_types t u t′ u′ start mid a b s) inner)

pub no_value : (n d : ℕ) (bytes start mid now next : List ℕ) (size k : ℕ) (t u t′ u′ : ThriftType) (ks ls vs : SeenValues) (f : Fault) → d ≡ suc n → varint malformed malformed bytes ≡ got size start → (size ≡ 0 → ⊥) → byte_as malformed malformed map_types start ≡ got (types_of t′ u′) mid → t ≡ t′ → u ≡ u′ → k < size → PairsRead (value_of n) size mid (size - k) k t u ks vs now → joined ks (value_of n ks.element now) ≡ got ls next → IsFaultOf f (joined vs (value_of n vs.element next)) → IsFaultOf f (map_inside d bytes)
no_value n d bytes start mid now next size k t u t′ u′ ks ls vs f e h z s a b l p i g =
    let p′ = subst (λ j. PairsRead (value_of n) size mid j k t u ks vs now) (one_less size k l) p in
    let inner = value_fault (value_of n) size (size - (k + 1)) mid now next k t u ks ls vs f p′ i g in
    subst (IsFaultOf f) (sym (map_by n d bytes start size e h)) (all_pairs_fault (value_of n) size start mid t u f z (same_types t u t′ u′ start mid a b s) inner)

-- ---- structs

struct_by : (n d size : ℕ) (bytes : List ℕ) → d ≡ suc n → size ≡ length bytes → struct_inside d bytes ≡ fields (value_of n) size (pos 0) bytes
struct_by n d size bytes e s = ap (λ m. struct_inside m bytes) e ∙ ap (λ k. fields (value_of n) k (pos 0) bytes) (sym s)

pub struct_ended : (n d size k : ℕ) (bytes now next : List ℕ) (fs : List Field) (last : ℤ) → d ≡ suc n → size ≡ length bytes → k < size → FieldsRead (value_of n) size bytes (size - k) (map field_view fs) last now → field_start last now ≡ got None next → struct_inside d bytes ≡ got (fields_view fs) next
struct_ended n d size k bytes now next fs last e s l p h = struct_by n d size bytes e s ∙ end_read (value_of n) size (size - (k + 1)) bytes now next (map field_view fs) last (subst (λ j. FieldsRead (value_of n) size bytes j (map field_view fs) last now) (one_less size k l) p) h

pub one_field_read : (n size k : ℕ) (bytes now mid next : List ℕ) (fs gs : List Field) (f : Field) (last id : ℤ) (t : ThriftType) → k < size → FieldsRead (value_of n) size bytes (size - k) (map field_view fs) last now → field_start last now ≡ got (Some (start_of id t)) mid → field_value (value_of n) t mid ≡ got (item_view f.item) next → f.id ≡ id → gs ≡ fs ++ f ∷ [] → FieldsRead (value_of n) size bytes (size - (k + 1)) (map field_view gs) id next
one_field_read n size k bytes now mid next fs gs f last id t l p h v i g =
    let q = field_read (value_of n) size (size - (k + 1)) bytes now mid next (map field_view fs) last id t (item_view f.item) (subst (λ j. FieldsRead (value_of n) size bytes j (map field_view fs) last now) (one_less size k l) p) h v in
    let here : map field_view gs ≡ map field_view fs ++ seen_field id (item_view f.item) ∷ [] = ap (map field_view) g ∙ (map-append field_view fs (f ∷ []) ∙ ap (λ (x : SeenField). map field_view fs ++ x ∷ []) (view-field f ∙ ap (λ z. seen_field z (item_view f.item)) i)) in
    subst (λ xs. FieldsRead (value_of n) size bytes (size - (k + 1)) xs id next) (sym here) q

pub no_start : (n d size k : ℕ) (bytes now : List ℕ) (fs : List SeenField) (last : ℤ) (f : Fault) → d ≡ suc n → size ≡ length bytes → k < size → FieldsRead (value_of n) size bytes (size - k) fs last now → IsFaultOf f (field_start last now) → IsFaultOf f (struct_inside d bytes)
no_start n d size k bytes now fs last f e s l p h = subst (IsFaultOf f) (sym (struct_by n d size bytes e s)) (start_fault (value_of n) size (size - (k + 1)) bytes now fs last f (subst (λ j. FieldsRead (value_of n) size bytes j fs last now) (one_less size k l) p) h)

pub no_item : (n d size k : ℕ) (bytes now mid : List ℕ) (fs : List SeenField) (last id : ℤ) (t : ThriftType) (f : Fault) → d ≡ suc n → size ≡ length bytes → k < size → FieldsRead (value_of n) size bytes (size - k) fs last now → field_start last now ≡ got (Some (start_of id t)) mid → IsFaultOf f (field_value (value_of n) t mid) → IsFaultOf f (struct_inside d bytes)
no_item n d size k bytes now mid fs last id t f e s l p h g = subst (IsFaultOf f) (sym (struct_by n d size bytes e s)) (item_of_field_fault (value_of n) size (size - (k + 1)) bytes now mid fs last id t f (subst (λ j. FieldsRead (value_of n) size bytes j fs last now) (one_less size k l) p) h g)

pub never_ends : (n d size k : ℕ) (bytes now : List ℕ) (fs : List SeenField) (last : ℤ) → d ≡ suc n → size ≡ length bytes → size ≤ k → FieldsRead (value_of n) size bytes (size - k) fs last now → IsFault malformed (struct_inside d bytes)
never_ends n d size k bytes now fs last e s l p = subst (IsFault malformed) (sym (struct_by n d size bytes e s)) (no_end (value_of n) size bytes now fs last (subst (λ j. FieldsRead (value_of n) size bytes j fs last now) (none_left size k l) p))

-- ---- the whole

pub whole_struct : (bytes : List ℕ) → struct_inside 32 bytes ≡ read_struct bytes
unfolding read_struct
whole_struct bytes = refl

pub front_there : (bytes rest : List ℕ) (s : Struct) → struct_inside 32 bytes ≡ got s rest → (front : List ℕ) × (bytes ≡ front ++ rest)
front_there bytes rest s h = let p = local_struct (value_of 31) (local_value 31) bytes s rest h in (p.0, p.1)

pub rest_dropped : (bytes rest : List ℕ) (s : Struct) → struct_inside 32 bytes ≡ got s rest → drop (length bytes - length rest) bytes ≡ rest
rest_dropped bytes rest s h =
    let p = front_there bytes rest s h in
    let n : length bytes - length rest ≡ length p.0 = omega (arith, ap length p.1, length-append p.0 rest) in
    ap (λ k. drop k bytes) n ∙ (ap (drop (length p.0)) p.1 ∙ drop-append_seam p.0 rest)

pub rest_within : (bytes rest : List ℕ) (s : Struct) → struct_inside 32 bytes ≡ got s rest → length rest ≤ length bytes
rest_within bytes rest s h = let p = front_there bytes rest s h in omega (arith, ap length p.1, length-append p.0 rest)
