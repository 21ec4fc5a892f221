-- Values and structs, step by step.
use Rattle.std.proofs.Common.{◌≡◌, ℕ, zero, suc, ◌+◌, ◌<◌, List, [], ◌∷◌, ◌++◌, length, refl, sym, ap, ap₂, subst, ◌∙◌, arith, ℤ, ◌/◌, ◌%◌, true, false}
use Rattle.std.proofs.lemmas.Bool.{ne_eqb}
use Rattle.std.specs.Prelude.{Option, Some, None, pos, ◌+ℤ◌, ◌==◌}
use Rattle.dr_formats.specs.Reading.{Reading, got, refused, Reader, give, goes_on, ◌>>=◌, byte_as}
use Rattle.dr_formats.specs.Compact as compact
use Rattle.dr_formats.specs.Compact.{CompactFault, malformed, Struct, Item, Items, Pairs, items, pairs, fields, value_of, field_value, field_header, after_header, field_and_rest}
use Rattle.dr_formats.specs.Compact.{FieldHeader, stop_header, short_header, long_header, field_id, ThriftType, ListHeader, list_header, MapTypes, map_types, map_of}
use Rattle.dr_compact.specs.Views.{SeenField, SeenValues, Elements, struct_from, items_from, pairs_from, map_of_pairs, map_from, struct_onto}
use Rattle.dr_compact.specs.Steps.{FieldStart, start_of, start_behind, field_start, elements, map_inside, struct_inside, one_more, joined}
use Rattle.dr_formats.proofs.ReadingLemmas.{not_refused, same_got}
use Rattle.dr_bytes.specs.Numbers.{IsFault}
use Rattle.std.proofs.lemmas.List.{length-append}
use Rattle.dr_compact.specs.Reads.{IsFaultOf}
use Rattle.dr_compact.specs.declared.fault.CompactFault.{CompactFault as Fault}
use Rattle.dr_compact.specs.declared.fault.CompactFault.TheVariants as faults
use Rattle.dr_compact.proofs.NumberLemmas.{fault_then, no_fault}

-- ---- containers by what is inside

as_elements : (n : ℕ) (make : ThriftType → Items → Item) (r : Reading CompactFault ListHeader) → goes_on r (λ h. items (value_of n h.element) h.size >>= (λ xs. give (make h.element xs))) ≡ goes_on (goes_on r (λ h. items (value_of n h.element) h.size >>= (λ xs. give (record { element = h.element; items = xs })))) (λ (e : Elements). give (make e.element e.items))
as_elements n make (refused e rest) = refl
as_elements n make (got h rest) = inside (items (value_of n h.element) h.size rest)
  where
    inside : (r : Reading CompactFault Items) → goes_on r (λ xs. give (make h.element xs)) ≡ goes_on (goes_on r (λ xs. give (record { element = h.element; items = xs }))) (λ (e : Elements). give (make e.element e.items))
    inside (got xs q) = refl
    inside (refused e q) = refl

pub list_inside : (n : ℕ) (bytes : List ℕ) → value_of n compact.list_type bytes ≡ goes_on (elements n bytes) (λ e. give (compact.list_item e.element e.items))
list_inside zero bytes = refl
list_inside (suc n) bytes = as_elements n compact.list_item (list_header bytes)

pub set_inside : (n : ℕ) (bytes : List ℕ) → value_of n compact.set_type bytes ≡ goes_on (elements n bytes) (λ e. give (compact.set_item e.element e.items))
set_inside zero bytes = refl
set_inside (suc n) bytes = as_elements n compact.set_item (list_header bytes)

pub map_is_inside : (n : ℕ) (bytes : List ℕ) → value_of n compact.map_type bytes ≡ map_inside n bytes
map_is_inside zero bytes = refl
map_is_inside (suc n) bytes = refl

pub struct_is_inside : (n : ℕ) (bytes : List ℕ) → value_of n compact.struct_type bytes ≡ goes_on (struct_inside n bytes) (λ s. give (compact.struct_item s))
struct_is_inside zero bytes = refl
struct_is_inside (suc n) bytes = refl

-- ---- values, one after another

-- values before others
abbrev pub items_onto : List Item → Items → Items
items_onto [] xs = xs
items_onto (v ∷ vs) xs = compact.item v (items_onto vs xs)

-- what is read behind values, with them before it
abbrev pub items_before : List Item → Reading CompactFault Items → Reading CompactFault Items
items_before vs (got xs rest) = got (items_onto vs xs) rest
items_before vs (refused e rest) = refused e rest

onto_one : (vs : List Item) (x : Item) (xs : Items) → items_onto vs (compact.item x xs) ≡ items_onto (vs ++ x ∷ []) xs
onto_one [] x xs = refl
onto_one (v ∷ vs) x xs = ap (compact.item v) (onto_one vs x xs)

onto_none : (vs : List Item) → items_onto vs compact.no_items ≡ items_from vs
onto_none [] = refl
onto_none (v ∷ vs) = ap (compact.item v) (onto_none vs)

before_one : (vs : List Item) (x : Item) (r : Reading CompactFault Items) → items_before vs (goes_on r (λ xs. give (compact.item x xs))) ≡ items_before (vs ++ x ∷ []) r
before_one vs x (got xs rest) = ap (λ (y : Items). got y rest) (onto_one vs x xs)
before_one vs x (refused e rest) = refl

-- the values so far and those still to be read are all
abbrev pub ItemsRead : Reader CompactFault Item → ℕ → List ℕ → ℕ → List Item → List ℕ → Type 0
ItemsRead read size bytes k vs rest = items_before vs (items read k rest) ≡ items read size bytes

no_items_by : (r : Reading CompactFault Items) → items_before [] r ≡ r
no_items_by (got xs rest) = refl
no_items_by (refused e rest) = refl

pub no_items_read : (read : Reader CompactFault Item) (size : ℕ) (bytes : List ℕ) → ItemsRead read size bytes size [] bytes
no_items_read read size bytes = no_items_by (items read size bytes)

one_item_by : (read : Reader CompactFault Item) (k : ℕ) (v w : SeenValues) (r : Reading CompactFault Item) (rest : List ℕ) → joined v r ≡ got w rest → (w.element ≡ v.element) × (items_before v.values (goes_on r (λ x. items read k >>= (λ xs. give (compact.item x xs)))) ≡ items_before w.values (items read k rest))
one_item_by read k v w (got x q) rest h =
    let p : (one_more v x ≡ w) × (q ≡ rest) = same_got {E = CompactFault} (one_more v x) w q rest h in
    (sym (ap (λ (u : SeenValues). u.element) p.0), before_one v.values x (items read k q) ∙ ap₂ (λ (u : SeenValues) (b : List ℕ). items_before u.values (items read k b)) p.0 p.1)
one_item_by read k v w (refused e q) rest h = absurd (not_refused e q w rest h)

pub item_read : (n size k : ℕ) (t : ThriftType) (bytes now next : List ℕ) (v w : SeenValues) → v.element ≡ t → ItemsRead (value_of n t) size bytes (suc k) v.values now → joined v (value_of n v.element now) ≡ got w next → (w.element ≡ t) × ItemsRead (value_of n t) size bytes k w.values next
item_read n size k t bytes now next v w s h e =
    let e′ : joined v (value_of n t now) ≡ got w next = subst (λ (u : ThriftType). joined v (value_of n u now) ≡ got w next) s e in
    let p = one_item_by (value_of n t) k v w (value_of n t now) next e′ in
    (p.0 ∙ s, sym p.1 ∙ h)

joined_fault : {A : Type 0} (f : Fault) (v : SeenValues) (r : Reading CompactFault Item) (next : Item → Reader CompactFault A) → IsFaultOf f (joined v r) → IsFaultOf f (goes_on r next)
joined_fault f v (got x rest) next h = no_fault f (one_more v x) rest (next x rest) h
joined_fault faults.NoMemory v (refused e rest) next h = h
joined_fault faults.Malformed v (refused e rest) next h = h
joined_fault faults.TooDeep v (refused e rest) next h = h

before_fault : (f : Fault) (vs : List Item) (r : Reading CompactFault Items) → IsFaultOf f r → IsFaultOf f (items_before vs r)
before_fault f vs (got xs rest) h = no_fault f xs rest (got (items_onto vs xs) rest) h
before_fault faults.NoMemory vs (refused e rest) h = h
before_fault faults.Malformed vs (refused e rest) h = h
before_fault faults.TooDeep vs (refused e rest) h = h

pub item_fault : (n size k : ℕ) (t : ThriftType) (bytes now : List ℕ) (v : SeenValues) (f : Fault) → v.element ≡ t → ItemsRead (value_of n t) size bytes (suc k) v.values now → IsFaultOf f (joined v (value_of n v.element now)) → IsFaultOf f (items (value_of n t) size bytes)
item_fault n size k t bytes now v f s h e =
    let e′ = subst (λ (u : ThriftType). IsFaultOf f (joined v (value_of n u now))) s e in
    subst (IsFaultOf f) h (before_fault f v.values (items (value_of n t) (suc k) now) (joined_fault f v (value_of n t now) (λ x. items (value_of n t) k >>= (λ xs. give (compact.item x xs))) e′))

pub all_items_read : (read : Reader CompactFault Item) (size : ℕ) (bytes rest : List ℕ) (vs : List Item) → ItemsRead read size bytes 0 vs rest → items read size bytes ≡ got (items_from vs) rest
all_items_read read size bytes rest vs h = sym h ∙ ap (λ (xs : Items). got xs rest) (onto_none vs)

-- ---- the start of a field

short_by : (last id : ℤ) (b d : ℕ) (t : ThriftType) (bs : List ℕ) → b / 16 ≡ d → (d ≡ 0 → ⊥) → compact.type_of (b % 16) ≡ Some t → id ≡ last +ℤ pos d → compact.in_int16 (last +ℤ pos d) ≡ true → field_start last (b ∷ bs) ≡ got (Some (start_of id t)) bs
short_by last id b zero t bs e z h i j = absurd (z refl)
short_by last id b (suc d) t bs e z h i j =
    let k : (b == 0) ≡ false = ne_eqb b 0 (λ g. z (sym e ∙ ap (λ n. n / 16) g)) in
    rw (k, h, e, j, i) refl

pub short_start : (last id : ℤ) (b : ℕ) (t : ThriftType) (bytes rest : List ℕ) → (b / 16 ≡ 0 → ⊥) → compact.type_of (b % 16) ≡ Some t → id ≡ last +ℤ pos (b / 16) → compact.in_int16 (last +ℤ pos (b / 16)) ≡ true → bytes ≡ b ∷ rest → field_start last bytes ≡ got (Some (start_of id t)) rest
short_start last id b t bytes rest z h i j g = ap (field_start last) g ∙ short_by last id b (b / 16) t rest refl z h i j

-- ---- pairs, one after another

-- pairs before others
abbrev pub pairs_onto : List Item → List Item → Pairs → Pairs
pairs_onto [] vs xs = xs
pairs_onto (k ∷ ks) [] xs = xs
pairs_onto (k ∷ ks) (v ∷ vs) xs = compact.pair k v (pairs_onto ks vs xs)

abbrev pub pairs_before : List Item → List Item → Reading CompactFault Pairs → Reading CompactFault Pairs
pairs_before ks vs (got xs rest) = got (pairs_onto ks vs xs) rest
pairs_before ks vs (refused e rest) = refused e rest

onto_pair : (ks vs : List Item) (k v : Item) (xs : Pairs) → length ks ≡ length vs → pairs_onto ks vs (compact.pair k v xs) ≡ pairs_onto (ks ++ k ∷ []) (vs ++ v ∷ []) xs
onto_pair [] [] k v xs h = refl
onto_pair [] (w ∷ vs) k v xs h = absurd (omega (arith, h))
onto_pair (j ∷ ks) [] k v xs h = absurd (omega (arith, h))
onto_pair (j ∷ ks) (w ∷ vs) k v xs h = ap (compact.pair j w) (onto_pair ks vs k v xs (omega (arith, h)))

pairs_onto_none : (ks vs : List Item) → pairs_onto ks vs compact.no_pairs ≡ pairs_from ks vs
pairs_onto_none [] vs = refl
pairs_onto_none (k ∷ ks) [] = refl
pairs_onto_none (k ∷ ks) (v ∷ vs) = ap (compact.pair k v) (pairs_onto_none ks vs)

before_pair : (ks vs : List Item) (k v : Item) (r : Reading CompactFault Pairs) → length ks ≡ length vs → pairs_before ks vs (goes_on r (λ xs. give (compact.pair k v xs))) ≡ pairs_before (ks ++ k ∷ []) (vs ++ v ∷ []) r
before_pair ks vs k v (got xs rest) h = ap (λ (y : Pairs). got y rest) (onto_pair ks vs k v xs h)
before_pair ks vs k v (refused e rest) h = refl

-- the pairs so far, as many as have been counted, and those still to be read are all
pub record PairsRead (value : ThriftType → Reader CompactFault Item) (size : ℕ) (bytes : List ℕ) (more count : ℕ) (t u : ThriftType) (ks vs : SeenValues) (rest : List ℕ) : Type 0 where
  pub keys : ks.element ≡ t
  pub values : vs.element ≡ u
  pub key_count : length ks.values ≡ count
  pub value_count : length vs.values ≡ count
  pub all : pairs_before ks.values vs.values (pairs (value t) (value u) more rest) ≡ pairs (value t) (value u) size bytes

no_pairs_by : (r : Reading CompactFault Pairs) → pairs_before [] [] r ≡ r
no_pairs_by (got xs rest) = refl
no_pairs_by (refused e rest) = refl

pub no_pairs_read : (value : ThriftType → Reader CompactFault Item) (size : ℕ) (bytes : List ℕ) (t u : ThriftType) → PairsRead value size bytes size 0 t u (record { element = t; values = [] }) (record { element = u; values = [] }) bytes
no_pairs_read value size bytes t u = record { keys = refl; values = refl; key_count = refl; value_count = refl; all = no_pairs_by (pairs (value t) (value u) size bytes) }

-- the value that was joined
one_joined : (v w : SeenValues) (r : Reading CompactFault Item) (rest : List ℕ) → joined v r ≡ got w rest → (x : Item) × (w ≡ one_more v x) × (r ≡ got x rest)
one_joined v w (got x q) rest h =
    let p : (one_more v x ≡ w) × (q ≡ rest) = same_got {E = CompactFault} (one_more v x) w q rest h in
    (x, sym p.0, ap (λ b. got x b) p.1)
one_joined v w (refused e q) rest h = absurd (not_refused e q w rest h)

pair_by : (value : ThriftType → Reader CompactFault Item) (size k : ℕ) (bytes now mid next : List ℕ) (count : ℕ) (ks ls vs ws : SeenValues) (x y : Item) → ls ≡ one_more ks x → ws ≡ one_more vs y → value ks.element now ≡ got x mid → value vs.element mid ≡ got y next → PairsRead value size bytes (suc k) count ks.element vs.element ks vs now → PairsRead value size bytes k (count + 1) ks.element vs.element ls ws next
pair_by value size k bytes now mid next count ks ls vs ws x y e f g h p = record {
  keys = ap (λ (u : SeenValues). u.element) e;
  values = ap (λ (u : SeenValues). u.element) f;
  key_count = ap (λ (u : SeenValues). length u.values) e ∙ (length-append ks.values (x ∷ []) ∙ ap (λ n. n + 1) p.key_count);
  value_count = ap (λ (u : SeenValues). length u.values) f ∙ (length-append vs.values (y ∷ []) ∙ ap (λ n. n + 1) p.value_count);
  all =
      ap₂ (λ (u w : SeenValues). pairs_before u.values w.values (pairs (value ks.element) (value vs.element) k next)) e f
      ∙ (sym (before_pair ks.values vs.values x y (pairs (value ks.element) (value vs.element) k next) (p.key_count ∙ sym p.value_count))
      ∙ (ap (pairs_before ks.values vs.values) (sym (ap (λ (r : Reading CompactFault Item). goes_on r (λ a. value vs.element >>= (λ b. pairs (value ks.element) (value vs.element) k >>= (λ rest. give (compact.pair a b rest))))) g ∙ ap (λ (r : Reading CompactFault Item). goes_on r (λ b. pairs (value ks.element) (value vs.element) k >>= (λ rest. give (compact.pair x b rest)))) h))
      ∙ p.all));
}

pub pair_read : (value : ThriftType → Reader CompactFault Item) (size k : ℕ) (bytes now mid next : List ℕ) (count : ℕ) (t u : ThriftType) (ks ls vs ws : SeenValues) → PairsRead value size bytes (suc k) count t u ks vs now → joined ks (value ks.element now) ≡ got ls mid → joined vs (value vs.element mid) ≡ got ws next → PairsRead value size bytes k (count + 1) t u ls ws next
pair_read value size k bytes now mid next count t u ks ls vs ws p g h =
    let a = one_joined ks ls (value ks.element now) mid g in
    let b = one_joined vs ws (value vs.element mid) next h in
    subst (λ (x : ThriftType). PairsRead value size bytes k (count + 1) x u ls ws next) p.keys
    (subst (λ (x : ThriftType). PairsRead value size bytes k (count + 1) ks.element x ls ws next) p.values
    (pair_by value size k bytes now mid next count ks ls vs ws a.0 b.0 a.1 b.1 a.2 b.2
    (subst (λ (x : ThriftType). PairsRead value size bytes (suc k) count ks.element x ks vs now) (sym p.values)
    (subst (λ (x : ThriftType). PairsRead value size bytes (suc k) count x u ks vs now) (sym p.keys) p))))

pairs_fault : (f : Fault) (ks vs : List Item) (r : Reading CompactFault Pairs) → IsFaultOf f r → IsFaultOf f (pairs_before ks vs r)
pairs_fault f ks vs (got xs rest) h = no_fault f xs rest (got (pairs_onto ks vs xs) rest) h
pairs_fault faults.NoMemory ks vs (refused e rest) h = h
pairs_fault faults.Malformed ks vs (refused e rest) h = h
pairs_fault faults.TooDeep ks vs (refused e rest) h = h

pub key_fault : (value : ThriftType → Reader CompactFault Item) (size k : ℕ) (bytes now : List ℕ) (count : ℕ) (t u : ThriftType) (ks vs : SeenValues) (f : Fault) → PairsRead value size bytes (suc k) count t u ks vs now → IsFaultOf f (joined ks (value ks.element now)) → IsFaultOf f (pairs (value t) (value u) size bytes)
key_fault value size k bytes now count t u ks vs f p h =
    let h′ = joined_fault f ks (value t now) (λ a. value u >>= (λ b. pairs (value t) (value u) k >>= (λ rest. give (compact.pair a b rest)))) (subst (λ (x : ThriftType). IsFaultOf f (joined ks (value x now))) p.keys h) in
    subst (IsFaultOf f) p.all (pairs_fault f ks.values vs.values (pairs (value t) (value u) (suc k) now) h′)

pub value_fault : (value : ThriftType → Reader CompactFault Item) (size k : ℕ) (bytes now mid : List ℕ) (count : ℕ) (t u : ThriftType) (ks ls vs : SeenValues) (f : Fault) → PairsRead value size bytes (suc k) count t u ks vs now → joined ks (value ks.element now) ≡ got ls mid → IsFaultOf f (joined vs (value vs.element mid)) → IsFaultOf f (pairs (value t) (value u) size bytes)
value_fault value size k bytes now mid count t u ks ls vs f p g h =
    let a = one_joined ks ls (value t now) mid (subst (λ (x : ThriftType). joined ks (value x now) ≡ got ls mid) p.keys g) in
    let h′ = joined_fault f vs (value u mid) (λ b. pairs (value t) (value u) k >>= (λ rest. give (compact.pair a.0 b rest))) (subst (λ (x : ThriftType). IsFaultOf f (joined vs (value x mid))) p.values h) in
    let g′ = ap (λ (r : Reading CompactFault Item). goes_on r (λ x. value u >>= (λ b. pairs (value t) (value u) k >>= (λ rest. give (compact.pair x b rest))))) a.2 in
    subst (IsFaultOf f) p.all (pairs_fault f ks.values vs.values (pairs (value t) (value u) (suc k) now) (subst (IsFaultOf f) (sym g′) h′))

some_pairs : (k v : ThriftType) (ks vs : List Item) → 0 < length ks → length ks ≡ length vs → map_of_pairs k v (pairs_from ks vs) ≡ compact.map_item k v (pairs_from ks vs)
some_pairs k v [] vs l h = absurd (omega (arith, l))
some_pairs k v (x ∷ ks) [] l h = absurd (omega (arith, h))
some_pairs k v (x ∷ ks) (y ∷ vs) l h = refl

abbrev pub types_of : ThriftType → ThriftType → MapTypes
types_of t u = record { key = t; value = u }

-- the size is there, and the types and all pairs behind it
pub all_pairs_read : (value : ThriftType → Reader CompactFault Item) (size : ℕ) (now bytes rest : List ℕ) (t u : ThriftType) (ks vs : SeenValues) → (size ≡ 0 → ⊥) → byte_as malformed malformed map_types now ≡ got (types_of t u) bytes → PairsRead value size bytes 0 size t u ks vs rest → map_of value size now ≡ got (map_from ks vs) rest
all_pairs_read value zero now bytes rest t u ks vs z h p = absurd (z refl)
all_pairs_read value (suc n) now bytes rest t u ks vs z h p =
    let found : pairs (value t) (value u) (suc n) bytes ≡ got (pairs_from ks.values vs.values) rest = sym p.all ∙ ap (λ (xs : Pairs). got xs rest) (pairs_onto_none ks.values vs.values) in
    ap (λ (r : Reading CompactFault MapTypes). goes_on r (λ m. pairs (value m.key) (value m.value) (suc n) >>= (λ xs. give (compact.map_item m.key m.value xs)))) h
    ∙ (ap (λ (r : Reading CompactFault Pairs). goes_on r (λ xs. give (compact.map_item t u xs))) found
    ∙ ap (λ (x : Item). got x rest)
    (ap₂ (λ (a b : ThriftType). compact.map_item a b (pairs_from ks.values vs.values)) (sym p.keys) (sym p.values)
    ∙ sym (some_pairs ks.element vs.element ks.values vs.values (omega (arith, p.key_count)) (p.key_count ∙ sym p.value_count))))

pub types_fault : (value : ThriftType → Reader CompactFault Item) (size : ℕ) (now : List ℕ) (f : Fault) → (size ≡ 0 → ⊥) → IsFaultOf f (byte_as malformed malformed map_types now) → IsFaultOf f (map_of value size now)
types_fault value zero now f z h = absurd (z refl)
types_fault value (suc n) now f z h = fault_then f (byte_as malformed malformed map_types now) (λ m. pairs (value m.key) (value m.value) (suc n) >>= (λ xs. give (compact.map_item m.key m.value xs))) h

pub all_pairs_fault : (value : ThriftType → Reader CompactFault Item) (size : ℕ) (now bytes : List ℕ) (t u : ThriftType) (f : Fault) → (size ≡ 0 → ⊥) → byte_as malformed malformed map_types now ≡ got (types_of t u) bytes → IsFaultOf f (pairs (value t) (value u) size bytes) → IsFaultOf f (map_of value size now)
all_pairs_fault value zero now bytes t u f z h p = absurd (z refl)
all_pairs_fault value (suc n) now bytes t u f z h p =
    let next : MapTypes → Reader CompactFault Item = λ m. pairs (value m.key) (value m.value) (suc n) >>= (λ xs. give (compact.map_item m.key m.value xs)) in
    subst (λ (r : Reading CompactFault MapTypes). IsFaultOf f (goes_on r next)) (sym h) (fault_then f (pairs (value t) (value u) (suc n) bytes) (λ xs. give (compact.map_item t u xs)) p)

-- ---- fields, one after another

abbrev pub struct_before : List SeenField → Reading CompactFault Struct → Reading CompactFault Struct
struct_before fs (got s rest) = got (struct_onto fs s) rest
struct_before fs (refused e rest) = refused e rest

abbrev pub seen_field : ℤ → Item → SeenField
seen_field id x = record { id = id; value = x }

pub onto_field : (fs : List SeenField) (id : ℤ) (x : Item) (s : Struct) → struct_onto fs (compact.struct_field id x s) ≡ struct_onto (fs ++ seen_field id x ∷ []) s
onto_field [] id x s = refl
onto_field (f ∷ fs) id x s = ap (compact.struct_field f.id f.value) (onto_field fs id x s)

pub onto_stop : (fs : List SeenField) → struct_onto fs compact.stop ≡ struct_from fs
onto_stop [] = refl
onto_stop (f ∷ fs) = ap (compact.struct_field f.id f.value) (onto_stop fs)

before_field : (fs : List SeenField) (id : ℤ) (x : Item) (r : Reading CompactFault Struct) → struct_before fs (goes_on r (λ s. give (compact.struct_field id x s))) ≡ struct_before (fs ++ seen_field id x ∷ []) r
before_field fs id x (got s rest) = ap (λ (y : Struct). got y rest) (onto_field fs id x s)
before_field fs id x (refused e rest) = refl

struct_fault : (f : Fault) (fs : List SeenField) (r : Reading CompactFault Struct) → IsFaultOf f r → IsFaultOf f (struct_before fs r)
struct_fault f fs (got s rest) h = no_fault f s rest (got (struct_onto fs s) rest) h
struct_fault faults.NoMemory fs (refused e rest) h = h
struct_fault faults.Malformed fs (refused e rest) h = h
struct_fault faults.TooDeep fs (refused e rest) h = h

-- what follows the start of a field, or the end
abbrev pub after_start : (ThriftType → Reader CompactFault Item) → (ℤ → Reader CompactFault Struct) → Option FieldStart → Reader CompactFault Struct
after_start value rest None = give compact.stop
after_start value rest (Some f) = field_and_rest value rest f.type f.id

start_by_header : (value : ThriftType → Reader CompactFault Item) (rest : ℤ → Reader CompactFault Struct) (r : Reading CompactFault FieldHeader) → goes_on r (after_header value rest) ≡ goes_on (goes_on r start_behind) (after_start value rest)
start_by_header value rest (refused e bs) = refl
start_by_header value rest (got stop_header bs) = refl
start_by_header value rest (got (short_header id t) bs) = refl
start_by_header value rest (got (long_header t) bs) = by_id (field_id bs)
  where
    by_id : (r : Reading CompactFault ℤ) → goes_on r (λ id. field_and_rest value rest t id) ≡ goes_on (goes_on r (λ id. give (Some (start_of id t)))) (after_start value rest)
    by_id (got id q) = refl
    by_id (refused e q) = refl

fields_by_start : (value : ThriftType → Reader CompactFault Item) (k : ℕ) (last : ℤ) (bytes : List ℕ) → fields value (suc k) last bytes ≡ goes_on (field_start last bytes) (after_start value (fields value k))
fields_by_start value k last bytes = start_by_header value (fields value k) (byte_as malformed malformed (field_header last) bytes)

-- the fields so far and those still to be read are the struct's
abbrev pub FieldsRead : (ThriftType → Reader CompactFault Item) → ℕ → List ℕ → ℕ → List SeenField → ℤ → List ℕ → Type 0
FieldsRead value size bytes k fs last rest = struct_before fs (fields value k last rest) ≡ fields value size (pos 0) bytes

no_fields_by : (r : Reading CompactFault Struct) → struct_before [] r ≡ r
no_fields_by (got s rest) = refl
no_fields_by (refused e rest) = refl

pub no_fields_read : (value : ThriftType → Reader CompactFault Item) (size : ℕ) (bytes : List ℕ) → FieldsRead value size bytes size [] (pos 0) bytes
no_fields_read value size bytes = no_fields_by (fields value size (pos 0) bytes)

pub field_read : (value : ThriftType → Reader CompactFault Item) (size k : ℕ) (bytes now mid next : List ℕ) (fs : List SeenField) (last id : ℤ) (t : ThriftType) (x : Item) → FieldsRead value size bytes (suc k) fs last now → field_start last now ≡ got (Some (start_of id t)) mid → field_value value t mid ≡ got x next → FieldsRead value size bytes k (fs ++ seen_field id x ∷ []) id next
field_read value size k bytes now mid next fs last id t x p s v =
    let here : fields value (suc k) last now ≡ goes_on (fields value k id next) (λ (y : Struct). give (compact.struct_field id x y)) =
    fields_by_start value k last now
    ∙ (ap (λ (r : Reading CompactFault (Option FieldStart)). goes_on r (after_start value (fields value k))) s
    ∙ ap (λ (r : Reading CompactFault Item). goes_on r (λ y. fields value k id >>= (λ z. give (compact.struct_field id y z)))) v) in
    sym (before_field fs id x (fields value k id next)) ∙ (ap (struct_before fs) (sym here) ∙ p)

pub end_read : (value : ThriftType → Reader CompactFault Item) (size k : ℕ) (bytes now next : List ℕ) (fs : List SeenField) (last : ℤ) → FieldsRead value size bytes (suc k) fs last now → field_start last now ≡ got None next → fields value size (pos 0) bytes ≡ got (struct_from fs) next
end_read value size k bytes now next fs last p s =
    sym p
    ∙ (ap (struct_before fs) (fields_by_start value k last now ∙ ap (λ (r : Reading CompactFault (Option FieldStart)). goes_on r (after_start value (fields value k))) s)
    ∙ ap (λ (y : Struct). got y next) (onto_stop fs))

pub start_fault : (value : ThriftType → Reader CompactFault Item) (size k : ℕ) (bytes now : List ℕ) (fs : List SeenField) (last : ℤ) (f : Fault) → FieldsRead value size bytes (suc k) fs last now → IsFaultOf f (field_start last now) → IsFaultOf f (fields value size (pos 0) bytes)
start_fault value size k bytes now fs last f p h =
    let h′ = fault_then f (field_start last now) (after_start value (fields value k)) h in
    subst (IsFaultOf f) p (struct_fault f fs (fields value (suc k) last now) (subst (IsFaultOf f) (sym (fields_by_start value k last now)) h′))

pub item_of_field_fault : (value : ThriftType → Reader CompactFault Item) (size k : ℕ) (bytes now mid : List ℕ) (fs : List SeenField) (last id : ℤ) (t : ThriftType) (f : Fault) → FieldsRead value size bytes (suc k) fs last now → field_start last now ≡ got (Some (start_of id t)) mid → IsFaultOf f (field_value value t mid) → IsFaultOf f (fields value size (pos 0) bytes)
item_of_field_fault value size k bytes now mid fs last id t f p s h =
    let h′ = fault_then f (field_value value t mid) (λ y. fields value k id >>= (λ z. give (compact.struct_field id y z))) h in
    let here = fields_by_start value k last now ∙ ap (λ (r : Reading CompactFault (Option FieldStart)). goes_on r (after_start value (fields value k))) s in
    subst (IsFaultOf f) p (struct_fault f fs (fields value (suc k) last now) (subst (IsFaultOf f) (sym here) h′))

pub no_end : (value : ThriftType → Reader CompactFault Item) (size : ℕ) (bytes now : List ℕ) (fs : List SeenField) (last : ℤ) → FieldsRead value size bytes 0 fs last now → IsFault malformed (fields value size (pos 0) bytes)
no_end value size bytes now fs last p = subst (IsFault malformed) p refl
