-- Writing, step by step.
use Rattle.std.proofs.Common.{◌≡◌, ℕ, zero, suc, ◌+◌, ◌*◌, ◌<◌, ◌≤◌, List, [], ◌∷◌, ◌++◌, length, map, drop, refl, sym, ap, ap₂, subst, ◌∙◌, arith, ℤ, Bool, true, false, append_assoc, suc-add, get_or}
use Rattle.std.specs.Prelude.{Vec, Result, Ok, Err, min, nat_lt, if◌then◌else◌, pos, negsuc, Some, None}
use mir.Val.{bool_byte}
use Rattle.dr_formats.specs.Varint.{varint_bytes}
use Rattle.std.specs.declared.alloc.Global.{Global}
use Rattle.std.proofs.lemmas.List.{append-nil, drop_more, drop_all, length-map}
use Rattle.dr_formats.specs.Compact as compact
use Rattle.dr_formats.specs.Compact.{ThriftType, Item, Pairs, Struct, struct_bytes, fields_bytes, item_bytes, items_bytes, pairs_bytes, in_field, item_type, header_bytes, count_pairs, count_items}
use Rattle.dr_memory.specs.declared.NoMemory.{NoMemory}
use Rattle.dr_compact.specs.declared.tree.Values.{Values}
use Rattle.dr_compact.specs.declared.tree.Field.{Field}
use Rattle.dr_compact.specs.Views.{SeenField, SeenValues, items_from, pairs_from, map_of_pairs, map_from, values_view, item_view, fields_view}
use Rattle.dr_compact.specs.Writes.{Writes, first_bytes, values_bytes, short_delta}
use Rattle.dr_compact.proofs.ViewLemmas.{view-field}
use Rattle.dr_compact.proofs.ElementLemmas.{IsSeenAs}
use Rattle.dr_meaning.specs.Lists.{BeginsWith}

-- of all bytes, those before the rest have been joined
abbrev pub Partly : List ℕ → List ℕ → List ℕ → List ℕ → Type 0
Partly before all rest now = (done : List ℕ) × (now ≡ before ++ done) × (done ++ rest ≡ all)

pub none_written : (before all : List ℕ) → Partly before all all before
none_written before all = ([], sym (append-nil before), refl)

pub more_written : (before all bytes rest now next : List ℕ) → Partly before all (bytes ++ rest) now → next ≡ now ++ bytes → Partly before all rest next
more_written before all bytes rest now next p e = (p.0 ++ bytes, e ∙ (ap (λ x. x ++ bytes) p.1 ∙ append_assoc before p.0 bytes), append_assoc p.0 bytes rest ∙ p.2)

pub all_written : (before all rest now : List ℕ) → Partly before all rest now → rest ≡ [] → now ≡ before ++ all
all_written before all rest now p e = p.1 ∙ ap (λ x. before ++ x) (sym (append-nil p.0) ∙ (ap (λ x. p.0 ++ x) (sym e) ∙ p.2))

pub stopped : (before all rest now next : List ℕ) → Partly before all rest now → BeginsWith now next → BeginsWith before next
stopped before all rest now next p b = (p.0 ++ b.0, b.1 ∙ (ap (λ x. x ++ b.0) p.1 ∙ append_assoc before p.0 b.0))

-- the last of the bytes
pub last_written : (before all bytes now next : List ℕ) (r : Result (Unit {0}) NoMemory) → Partly before all bytes now → Writes bytes now next r → Writes all before next r
last_written before all bytes now next (Ok u) p w = w ∙ (ap (λ x. x ++ bytes) p.1 ∙ (append_assoc before p.0 bytes ∙ ap (λ x. before ++ x) p.2))
last_written before all bytes now next (Err e) p w = stopped before all bytes now next p w

pub other_bytes : (bytes other before now : List ℕ) (r : Result (Unit {0}) NoMemory) → bytes ≡ other → Writes bytes before now r → Writes other before now r
other_bytes bytes other before now r e w = subst (λ b. Writes b before now r) e w

-- ---- the value at a place

drop-map : {A B : Type 0} (f : A → B) (n : ℕ) (xs : List A) → drop n (map f xs) ≡ map f (drop n xs)
drop-map f zero xs = refl
drop-map f (suc n) [] = refl
drop-map f (suc n) (x ∷ xs) = drop-map f n xs

pub element_bytes : {A : Type 0} (make : Vec A Global → Values) (t : ThriftType) (f : A → Item) → IsSeenAs make t f → (values : Values) (vs : Vec A Global) (place : ℕ) (a : A) (rest : List A) → values ≡ make vs → drop place vs.items ≡ a ∷ rest → item_bytes (f a) ≡ first_bytes (drop place (values_view values).values)
element_bytes make t f view values vs place a rest e h =
    let here : (values_view values).values ≡ map f vs.items = ap (λ (v : SeenValues). v.values) (ap values_view e ∙ view vs) in
    sym (ap (λ xs. first_bytes (drop place xs)) here ∙ ap first_bytes (drop-map f place vs.items ∙ ap (map f) h))

pub element_at : {A : Type 0} (make : Vec A Global → Values) (t : ThriftType) (f : A → Item) → IsSeenAs make t f → (values : Values) (vs : Vec A Global) (place : ℕ) (a : A) → values ≡ make vs → place < length (values_view values).values → a ≡ get_or vs.items place a → item_bytes (f a) ≡ first_bytes (drop place (values_view values).values)
element_at make t f view values vs place a e l h =
    let n : length (values_view values).values ≡ length vs.items = ap (λ (v : SeenValues). length v.values) (ap values_view e ∙ view vs) ∙ length-map vs.items f in
    let more : place < length vs.items = omega (arith, l, n) in
    element_bytes make t f view values vs place a (drop (place + 1) vs.items) e (drop_more vs.items place a more ∙ ap (λ x. x ∷ drop (place + 1) vs.items) (sym h))

pub truth_bytes : (b : Bool) (n : ℕ) → n ≡ bool_byte b → n ∷ [] ≡ item_bytes (compact.truth_item b)
truth_bytes true n e = ap (λ x. x ∷ []) e
truth_bytes false n e = ap (λ x. x ∷ []) e

count_from : (xs : List Item) → length xs ≡ count_items (items_from xs)
count_from [] = refl
count_from (x ∷ xs) = ap suc (count_from xs)

pub list_bytes : (v : SeenValues) → values_bytes v ≡ item_bytes (compact.list_item v.element (items_from v.values))
list_bytes v = ap (λ n. compact.list_header_bytes n v.element ++ items_bytes (items_from v.values)) (count_from v.values)

pub set_bytes : (v : SeenValues) → values_bytes v ≡ item_bytes (compact.set_item v.element (items_from v.values))
set_bytes v = ap (λ n. compact.list_header_bytes n v.element ++ items_bytes (items_from v.values)) (count_from v.values)

pub struct_is : (s : Struct) → struct_bytes s ≡ fields_bytes (pos 0) s
unfolding struct_bytes
struct_is s = refl

-- ---- values, pairs and fields that are still to be written

pub next_value : (vs : List Item) (k : ℕ) → k < length vs → items_bytes (items_from (drop k vs)) ≡ first_bytes (drop k vs) ++ items_bytes (items_from (drop (k + 1) vs))
next_value [] k l = absurd (omega (arith, l))
next_value (v ∷ vs) zero l = refl
next_value (v ∷ vs) (suc k) l = rw (suc-add k 1) (next_value vs k (omega (arith, l)))

pub no_value_left : (vs : List Item) (k : ℕ) → length vs ≤ k → items_bytes (items_from (drop k vs)) ≡ []
no_value_left vs k l = ap (λ xs. items_bytes (items_from xs)) (drop_all k vs l)

pub next_pair : (ks vs : List Item) (k : ℕ) → k < length ks → k < length vs → pairs_bytes (pairs_from (drop k ks) (drop k vs)) ≡ first_bytes (drop k ks) ++ (first_bytes (drop k vs) ++ pairs_bytes (pairs_from (drop (k + 1) ks) (drop (k + 1) vs)))
next_pair [] vs k l m = absurd (omega (arith, l))
next_pair (x ∷ ks) [] k l m = absurd (omega (arith, m))
next_pair (x ∷ ks) (y ∷ vs) zero l m = refl
next_pair (x ∷ ks) (y ∷ vs) (suc k) l m = rw (suc-add k 1) (next_pair ks vs k (omega (arith, l)) (omega (arith, m)))

no_pairs_right : (ks : List Item) → pairs_from ks [] ≡ compact.no_pairs
no_pairs_right [] = refl
no_pairs_right (k ∷ ks) = refl

pub no_pair_left : (ks vs : List Item) (k : ℕ) → min (length ks) (length vs) ≤ k → pairs_bytes (pairs_from (drop k ks) (drop k vs)) ≡ []
no_pair_left [] vs zero l = refl
no_pair_left [] vs (suc k) l = refl
no_pair_left (x ∷ ks) [] zero l = refl
no_pair_left (x ∷ ks) [] (suc k) l = ap pairs_bytes (no_pairs_right (drop k ks))
no_pair_left (x ∷ ks) (y ∷ vs) zero l = absurd (omega (arith, l))
no_pair_left (x ∷ ks) (y ∷ vs) (suc k) l = no_pair_left ks vs k (omega (arith, l))

pub pair_count : (ks vs : List Item) → count_pairs (pairs_from ks vs) ≡ min (length ks) (length vs)
pair_count [] vs = omega arith
pair_count (k ∷ ks) [] = omega arith
pair_count (k ∷ ks) (v ∷ vs) = let h = pair_count ks vs in omega (arith, h)

pub empty_map_bytes : (ks vs : SeenValues) → min (length ks.values) (length vs.values) ≡ 0 → item_bytes (map_from ks vs) ≡ 0 ∷ []
empty_map_bytes ks vs h = by (pairs_from ks.values vs.values) (pair_count ks.values vs.values ∙ h)
  where
    by : (xs : Pairs) → count_pairs xs ≡ 0 → item_bytes (map_of_pairs ks.element vs.element xs) ≡ 0 ∷ []
    by compact.no_pairs e = refl
    by (compact.pair x y xs) e = absurd (omega (arith, e))

pub map_bytes : (ks vs : SeenValues) (n : ℕ) → n ≡ min (length ks.values) (length vs.values) → (n ≡ 0 → ⊥) → item_bytes (map_from ks vs) ≡ varint_bytes n ++ ((compact.type_number ks.element * 16 + compact.type_number vs.element) ∷ pairs_bytes (pairs_from ks.values vs.values))
map_bytes ks vs n h z = by (pairs_from ks.values vs.values) (pair_count ks.values vs.values ∙ sym h)
  where
    by : (xs : Pairs) → count_pairs xs ≡ n → item_bytes (map_of_pairs ks.element vs.element xs) ≡ varint_bytes n ++ ((compact.type_number ks.element * 16 + compact.type_number vs.element) ∷ pairs_bytes xs)
    by compact.no_pairs e = absurd (z (sym e))
    by (compact.pair x y xs) e = ap (λ k. varint_bytes k ++ ((compact.type_number ks.element * 16 + compact.type_number vs.element) ∷ pairs_bytes (compact.pair x y xs))) e

-- the field at a place
pub next_field : (last : ℤ) (fs : List Field) (k : ℕ) (f : Field) → k < length fs → f ≡ get_or fs k f → fields_bytes last (fields_view (drop k fs)) ≡ header_bytes last f.id (item_type (item_view f.item)) ++ (in_field (item_view f.item) (item_bytes (item_view f.item)) ++ fields_bytes f.id (fields_view (drop (k + 1) fs)))
next_field last fs k f l h =
    ap (λ xs. fields_bytes last (fields_view xs)) (drop_more fs k f l ∙ ap (λ x. x ∷ drop (k + 1) fs) (sym h))
    ∙ ap (λ (x : SeenField). fields_bytes last (compact.struct_field x.id x.value (fields_view (drop (k + 1) fs)))) (view-field f)

pub no_field_left : (last : ℤ) (fs : List Field) (k : ℕ) → length fs ≤ k → fields_bytes last (fields_view (drop k fs)) ≡ 0 ∷ []
no_field_left last fs k l = ap (λ xs. fields_bytes last (fields_view xs)) (drop_all k fs l)

-- ---- headers

short_some : (n d : ℕ) (b : Bool) → (if b then Some (suc n) else None) ≡ Some d → (b ≡ true) × (suc n ≡ d)
short_some n d true e = (refl, cc)
short_some n d false e = absurd (cc)

short_none : (n : ℕ) (b : Bool) → (if b then Some (suc n) else None) ≡ None → b ≡ false
short_none n true e = absurd (cc)
short_none n false e = refl

pub short_header : (z id : ℤ) (t : ThriftType) (d : ℕ) → short_delta z ≡ Some d → (d * 16 + compact.type_number t) ∷ [] ≡ compact.header_by_delta z id t
short_header (pos zero) id t d e = absurd (cc)
short_header (negsuc n) id t d e = absurd (cc)
short_header (pos (suc n)) id t d e = let p = short_some n d (nat_lt n 15) e in rw p.0 (ap (λ k. (k * 16 + compact.type_number t) ∷ []) (sym p.1))

pub long_header : (z id : ℤ) (t : ThriftType) → short_delta z ≡ None → compact.type_number t ∷ compact.signed_bytes id ≡ compact.header_by_delta z id t
long_header (pos zero) id t e = refl
long_header (negsuc n) id t e = refl
long_header (pos (suc n)) id t e = rw (short_none n (nat_lt n 15) e) refl

-- ---- parts, one after another

pub begun : (before all bytes rest next : List ℕ) → all ≡ bytes ++ rest → next ≡ before ++ bytes → Partly before all rest next
begun before all bytes rest next h e = (bytes, e, sym h)

pub field_header_written : (before all now mid : List ℕ) (last id : ℤ) (fs : List Field) (k : ℕ) (f : Field) → k < length fs → f ≡ get_or fs k f → Partly before all (fields_bytes last (fields_view (drop k fs))) now → mid ≡ now ++ header_bytes last f.id (item_type (item_view f.item)) → Partly before all (in_field (item_view f.item) (item_bytes (item_view f.item)) ++ fields_bytes f.id (fields_view (drop (k + 1) fs))) mid
field_header_written before all now mid last id fs k f l h p e = more_written before all _ _ now mid (subst (λ r. Partly before all r now) (next_field last fs k f l h) p) e

pub map_begun : (before mid next : List ℕ) (ks vs : SeenValues) (n a b : ℕ) → n ≡ min (length ks.values) (length vs.values) → (n ≡ 0 → ⊥) → a ≡ compact.type_number ks.element → b ≡ compact.type_number vs.element → mid ≡ before ++ varint_bytes n → next ≡ mid ++ (a * 16 + b) ∷ [] → Partly before (item_bytes (map_from ks vs)) (pairs_bytes (pairs_from ks.values vs.values)) next
map_begun before mid next ks vs n a b h z s t e f =
    let types : (a * 16 + b) ∷ [] ≡ (compact.type_number ks.element * 16 + compact.type_number vs.element) ∷ [] = ap₂ (λ x y. (x * 16 + y) ∷ []) s t in
    let all = map_bytes ks vs n h z in
    more_written before (item_bytes (map_from ks vs)) ((compact.type_number ks.element * 16 + compact.type_number vs.element) ∷ []) (pairs_bytes (pairs_from ks.values vs.values)) mid next
    (begun before (item_bytes (map_from ks vs)) (varint_bytes n) _ mid all e) (f ∙ ap (λ x. mid ++ x) types)

less_of_min : (k n a b : ℕ) → k < n → n ≡ min a b → (k < a) × (k < b)
less_of_min k n a b l h = (omega (arith, l, h), omega (arith, l, h))

pub key_written : (before all now mid : List ℕ) (ks vs : List Item) (k n : ℕ) → k < n → n ≡ min (length ks) (length vs) → Partly before all (pairs_bytes (pairs_from (drop k ks) (drop k vs))) now → mid ≡ now ++ first_bytes (drop k ks) → Partly before all (first_bytes (drop k vs) ++ pairs_bytes (pairs_from (drop (k + 1) ks) (drop (k + 1) vs))) mid
key_written before all now mid ks vs k n l h p e =
    let m = less_of_min k n (length ks) (length vs) l h in
    more_written before all (first_bytes (drop k ks)) _ now mid (subst (λ r. Partly before all r now) (next_pair ks vs k m.0 m.1) p) e
