-- The bytes before a fault of a struct begin a struct that may nest one deeper.
use Rattle.std.proofs.Common.{◌≡◌, ℕ, zero, suc, ◌/◌, ◌%◌, ◌^◌, ◌<◌, List, [], ◌∷◌, ◌++◌, length, Bool, true, false, refl, sym, ap, ap₂, ◌∙◌, subst, arith, ℤ, pos, Option, Some, None, append_assoc, append-nil, ◌⊎◌, inl, inr}
use Rattle.std.specs.Prelude.{◌==◌, if◌then◌else◌, ◌+ℤ◌, option_map, option_and_then}
use Rattle.std.proofs.lemmas.Bool.{eqb-true}
use Rattle.dr_formats.specs.Reading.{refused, give, ◌>>=◌, byte_as, bytes_of}
use Rattle.dr_formats.specs.Varint.{varint, SpellsVarint, SpellsNumber, SpellsSigned}
use Rattle.dr_formats.specs.Compact.{malformed, too_deep, ThriftType, true_type, false_type, byte_type, i16_type, i32_type, i64_type, double_type, binary_type, list_type, set_type, map_type, struct_type, Struct, stop, struct_field, Item, truth_item, byte_item, i16_item, i32_item, i64_item, double_item, binary_item, list_item, set_item, empty_map_item, map_item, struct_item, Items, no_items, item, Pairs, no_pairs, pair, type_of, signed_varint, truth_byte, plain_byte, binary, ListHeader, list_header_byte, list_size, list_header, MapTypes, map_types, items, pairs, map_of, FieldHeader, stop_header, short_header, long_header, in_int16, with_delta, field_header, field_id, field_value, field_and_rest, after_header, fields, struct_of, value_of, count_items, count_pairs}
use Rattle.dr_formats.specs.CompactGrammar.{SpellsHalves, SpellsListHeader, IsTruthType, InField, SpellsFields, SpellsItem, SpellsItems, SpellsPairs}
use Rattle.dr_formats.proofs.CompactLemmas.{some_same}
use Rattle.dr_formats.proofs.SoundLemmas.{Then}
use Rattle.dr_format_laws.specs.StructFaultLaws.{BytesGoOnOneDeeper}
use Rattle.dr_format_laws.proofs.BeginsSpelling.{Told, Goes, Fills, goes_made, goes_weaker, goes_give, goes_then, Byte, goes_as, zeros, zeros_length, SoMany, goes_bytes, goes_below, goes_signed, zero_number, zero_signed}

-- ---- numbers

above_none : 0 < 2 ^ 64
above_none = omega arith

number_goes : Goes ℕ (varint malformed malformed) (SpellsVarint (2 ^ 64))
number_goes = goes_below (2 ^ 64) above_none

no_number : SpellsNumber (0 ∷ []) 0
no_number = zero_number (2 ^ 64) above_none

-- ---- headers

abbrev header : ℕ → ThriftType → ListHeader
header n t = record { size = n; element = t }

abbrev both_types : ThriftType → ThriftType → MapTypes
both_types k v = record { key = k; value = v }

list_byte_means : (c : ℕ) (h : ListHeader) (o : Option ThriftType) → type_of (c % 16) ≡ o → option_map (λ t. header (c / 16) t) o ≡ Some h → SpellsHalves c h.size h.element
list_byte_means c h None e g = absurd (nothing h g)
  where
    nothing : (y : ListHeader) → None ≡ Some y → ⊥
    nothing y k = cc
list_byte_means c h (Some t) e g = subst (λ (y : ListHeader). SpellsHalves c y.size y.element) (some_same (header (c / 16) t) h g) (refl, e)

-- what a list header's size byte goes on with
abbrev SizeBehind : ListHeader → List ℕ → ListHeader → Type 0
SizeBehind g w h = ((w ≡ []) × (g ≡ h) × ((h.size == 15) ≡ false)) ⊎ ((g.size ≡ 15) × (g.element ≡ h.element) × SpellsNumber w h.size)

size_goes : (g : ListHeader) (b : Bool) → (g.size == 15) ≡ b → Goes ListHeader (if b then (varint malformed malformed >>= (λ n. give (record { size = n; element = g.element }))) else give g) (SizeBehind g)
size_goes g true e = goes_made (varint malformed malformed) (λ n. record { size = n; element = g.element }) (SpellsVarint (2 ^ 64)) (SizeBehind g) number_goes (λ w n p. inr (eqb-true g.size 15 e, refl, p))
size_goes g false e = goes_weaker (give g) (λ w h. (w ≡ []) × (g ≡ h)) (SizeBehind g) (goes_give g) (λ w h p. inl (p.0, p.1, ap (λ (x : ListHeader). x.size == 15) (sym p.1) ∙ e))

size_fill : (g : ListHeader) (b : Bool) → (g.size == 15) ≡ b → Fills ListHeader (SizeBehind g)
size_fill g true e = (0 ∷ [], header 0 g.element, inr (eqb-true g.size 15 e, refl, no_number))
size_fill g false e = ([], g, inl (refl, refl, e))

list_header_goes : Goes ListHeader list_header (λ w h. SpellsListHeader w h.size h.element)
list_header_goes = goes_weaker list_header (Then ListHeader ListHeader (Byte ListHeader list_header_byte) SizeBehind) (λ w h. SpellsListHeader w h.size h.element)
    (goes_then (byte_as malformed malformed list_header_byte) list_size (Byte ListHeader list_header_byte) SizeBehind (goes_as list_header_byte 3 (header 0 byte_type) refl) (λ g. size_goes g (g.size == 15) refl) (λ g. size_fill g (g.size == 15) refl))
    (λ w h p. together w p.0 p.1 p.2 h p.3 p.4 p.5)
  where
    together : (w u v : List ℕ) (g h : ListHeader) → w ≡ u ++ v → (c : ℕ) × (u ≡ c ∷ []) × (list_header_byte c ≡ Some g) → SizeBehind g v h → SpellsListHeader w h.size h.element
    together w u v g h e p (inl q) =
        let m : SpellsHalves p.0 g.size g.element = list_byte_means p.0 g (type_of (p.0 % 16)) refl p.2 in
        inl (p.0, e ∙ ap₂ (λ x y. x ++ y) p.1 q.0, subst (λ (y : ListHeader). SpellsHalves p.0 y.size y.element) q.1 m, q.2)
    together w u v g h e p (inr q) =
        let m : SpellsHalves p.0 g.size g.element = list_byte_means p.0 g (type_of (p.0 % 16)) refl p.2 in
        inr (p.0, v, e ∙ ap (λ x. x ++ v) p.1, (m.0 ∙ q.0, m.1 ∙ ap (λ t. Some t) q.1), q.2)

map_byte_inner : (k : ThriftType) (o : Option ThriftType) (t : MapTypes) → option_map (λ y. both_types k y) o ≡ Some t → (o ≡ Some t.value) × (k ≡ t.key)
map_byte_inner k None t g = absurd (nothing t g)
  where
    nothing : (y : MapTypes) → None ≡ Some y → ⊥
    nothing y h = cc
map_byte_inner k (Some y) t g =
    let e : both_types k y ≡ t = some_same (both_types k y) t g in
    (ap (λ (x : MapTypes). Some x.value) e, ap (λ (x : MapTypes). x.key) e)

map_byte_means : (b : ℕ) (t : MapTypes) (o : Option ThriftType) → type_of (b / 16) ≡ o → option_and_then (λ (k : ThriftType). option_map (λ v. both_types k v) (type_of (b % 16))) o ≡ Some t → (type_of (b / 16) ≡ Some t.key) × (type_of (b % 16) ≡ Some t.value)
map_byte_means b t None e g = absurd (nothing t g)
  where
    nothing : (y : MapTypes) → None ≡ Some y → ⊥
    nothing y h = cc
map_byte_means b t (Some k) e g = let p = map_byte_inner k (type_of (b % 16)) t g in (e ∙ ap (λ x. Some x) p.1, p.0)

-- what a byte that begins a field means
abbrev HeaderMeans : ℤ → ℕ → FieldHeader → Type 0
HeaderMeans last b stop_header = b ≡ 0
HeaderMeans last b (short_header id t) = (d : ℕ) × SpellsHalves b (suc d) t × (last +ℤ pos (suc d) ≡ id) × (in_int16 id ≡ true)
HeaderMeans last b (long_header t) = SpellsHalves b 0 t

no_header : (e : FieldHeader) → None ≡ Some e → ⊥
no_header e h = cc

short_means : (last : ℤ) (b d : ℕ) (t : ThriftType) (e : FieldHeader) (c : Bool) → in_int16 (last +ℤ pos (suc d)) ≡ c → SpellsHalves b (suc d) t → (if c then Some (short_header (last +ℤ pos (suc d)) t) else None) ≡ Some e → HeaderMeans last b e
short_means last b d t e true g h k = subst (HeaderMeans last b) (some_same (short_header (last +ℤ pos (suc d)) t) e k) (d, h, refl, g)
short_means last b d t e false g h k = absurd (no_header e k)

delta_means : (last : ℤ) (b q : ℕ) (t : ThriftType) (e : FieldHeader) → SpellsHalves b q t → with_delta last q t ≡ Some e → HeaderMeans last b e
delta_means last b zero t e h k = subst (HeaderMeans last b) (some_same (long_header t) e k) h
delta_means last b (suc d) t e h k = short_means last b d t e (in_int16 (last +ℤ pos (suc d))) refl h k

byte_means : (last : ℤ) (b : ℕ) (e : FieldHeader) (o : Option ThriftType) → type_of (b % 16) ≡ o → option_and_then (with_delta last (b / 16)) o ≡ Some e → HeaderMeans last b e
byte_means last b e None g k = absurd (no_header e k)
byte_means last b e (Some t) g k = delta_means last b (b / 16) t e (refl, g) k

header_means : (last : ℤ) (b : ℕ) (e : FieldHeader) (c : Bool) → (b == 0) ≡ c → (if c then Some stop_header else option_and_then (with_delta last (b / 16)) (type_of (b % 16))) ≡ Some e → HeaderMeans last b e
header_means last b e true g k = subst (HeaderMeans last b) (some_same stop_header e k) (eqb-true b 0 g)
header_means last b e false g k = byte_means last b e (type_of (b % 16)) refl k

-- ---- values: one of each type, and what comes of reading them

abbrev ItemOf : ℕ → ThriftType → List ℕ → Item → Type 0
ItemOf n t w x = SpellsItem (suc n) w t x

value_fill : (n : ℕ) (t : ThriftType) → Fills Item (ItemOf n t)
value_fill n true_type = (1 ∷ [], truth_item true, (inl refl, 1, refl, refl))
value_fill n false_type = (1 ∷ [], truth_item true, (inr refl, 1, refl, refl))
value_fill n byte_type = (0 ∷ [], byte_item 0, (refl, refl))
value_fill n i16_type = (0 ∷ [], i16_item (pos 0), (refl, zero_signed (2 ^ 64) above_none))
value_fill n i32_type = (0 ∷ [], i32_item (pos 0), (refl, zero_signed (2 ^ 64) above_none))
value_fill n i64_type = (0 ∷ [], i64_item (pos 0), (refl, zero_signed (2 ^ 64) above_none))
value_fill n double_type = (zeros 8, double_item (zeros 8), (refl, refl, refl))
value_fill n binary_type = (0 ∷ [], binary_item [], (refl, 0 ∷ [], refl, no_number))
value_fill n list_type = (3 ∷ [], list_item byte_type no_items, (refl, 3 ∷ [], [], refl, inl (3, refl, (refl, refl), refl), refl))
value_fill n set_type = (3 ∷ [], set_item byte_type no_items, (refl, 3 ∷ [], [], refl, inl (3, refl, (refl, refl), refl), refl))
value_fill n map_type = (0 ∷ [], empty_map_item, (refl, no_number))
value_fill n struct_type = (0 ∷ [], struct_item stop, (refl, refl))

abbrev ValueGoes : ℕ → Type 0
ValueGoes n = (t : ThriftType) → Goes Item (value_of n t) (ItemOf n t)

truth_goes : (n : ℕ) (t : ThriftType) → IsTruthType t → Goes Item (byte_as malformed malformed truth_byte) (ItemOf n t)
truth_goes n t i = goes_weaker (byte_as malformed malformed truth_byte) (Byte Item truth_byte) (ItemOf n t) (goes_as truth_byte 1 (truth_item true) refl) (λ w x p. subst (ItemOf n t w) (some_same (truth_item (p.0 == 1)) x p.2) (i, p.0, p.1, refl))

-- ---- lists, sets and maps

abbrev ItemsOf : ℕ → ThriftType → ℕ → List ℕ → Items → Type 0
ItemsOf n t k w xs = (count_items xs ≡ k) × SpellsItems (suc n) w t xs

abbrev ItemsBehind : ℕ → ThriftType → ℕ → Item → List ℕ → Items → Type 0
ItemsBehind n t k x w ys = (xs : Items) × ItemsOf n t k w xs × (item x xs ≡ ys)

items_together : (n k : ℕ) (t : ThriftType) (w : List ℕ) (ys : Items) → Then Item Items (ItemOf n t) (ItemsBehind n t k) w ys → ItemsOf n t (suc k) w ys
items_together n k t w ys p = subst (ItemsOf n t (suc k) w) p.5.2 (ap suc p.5.1.0, (p.0, p.1, p.3, p.4, p.5.1.1))

items_fill : (n : ℕ) (t : ThriftType) (k : ℕ) → Fills Items (ItemsOf n t k)
items_fill n t zero = ([], no_items, (refl, refl))
items_fill n t (suc k) =
    let x = value_fill n t in
    let xs = items_fill n t k in
    (x.0 ++ xs.0, item x.1 xs.1, (ap suc xs.2.0, (x.0, xs.0, refl, x.2, xs.2.1)))

items_goes : (n : ℕ) (t : ThriftType) → Goes Item (value_of n t) (ItemOf n t) → (k : ℕ) → Goes Items (items (value_of n t) k) (ItemsOf n t k)
items_goes n t s zero = goes_weaker (give no_items) (λ w xs. (w ≡ []) × (no_items ≡ xs)) (ItemsOf n t 0) (goes_give no_items) (λ w xs p. subst (ItemsOf n t 0 w) p.1 (refl, p.0))
items_goes n t s (suc k) =
    goes_weaker (items (value_of n t) (suc k)) (Then Item Items (ItemOf n t) (ItemsBehind n t k)) (ItemsOf n t (suc k))
    (goes_then (value_of n t) (λ x. items (value_of n t) k >>= (λ xs. give (item x xs))) (ItemOf n t) (ItemsBehind n t k) s
    (λ x. goes_made (items (value_of n t) k) (item x) (ItemsOf n t k) (ItemsBehind n t k x) (items_goes n t s k) (λ w xs p. (xs, p, refl)))
    (λ x. let f = items_fill n t k in (f.0, item x f.1, (f.1, f.2, refl))))
    (items_together n k t)

abbrev PairsOf : ℕ → ThriftType → ThriftType → ℕ → List ℕ → Pairs → Type 0
PairsOf n a b k w xs = (count_pairs xs ≡ k) × SpellsPairs (suc n) w a b xs

abbrev PairsBehind : ℕ → ThriftType → ThriftType → ℕ → Item → Item → List ℕ → Pairs → Type 0
PairsBehind n a b k x y w ps = (xs : Pairs) × PairsOf n a b k w xs × (pair x y xs ≡ ps)

abbrev ValueAndPairs : ℕ → ThriftType → ThriftType → ℕ → Item → List ℕ → Pairs → Type 0
ValueAndPairs n a b k x = Then Item Pairs (ItemOf n b) (PairsBehind n a b k x)

pairs_together : (n k : ℕ) (a b : ThriftType) (w : List ℕ) (ps : Pairs) → Then Item Pairs (ItemOf n a) (ValueAndPairs n a b k) w ps → PairsOf n a b (suc k) w ps
pairs_together n k a b w ps p =
    let q : ValueAndPairs n a b k p.2 p.1 ps = p.5 in
    let r : PairsBehind n a b k p.2 q.2 q.1 ps = q.5 in
    subst (PairsOf n a b (suc k) w) r.2 (ap suc r.1.0, (p.0, q.0, q.1, p.3 ∙ ap (λ v. p.0 ++ v) q.3, p.4, q.4, r.1.1))

pairs_fill : (n : ℕ) (a b : ThriftType) (k : ℕ) → Fills Pairs (PairsOf n a b k)
pairs_fill n a b zero = ([], no_pairs, (refl, refl))
pairs_fill n a b (suc k) =
    let x = value_fill n a in
    let y = value_fill n b in
    let xs = pairs_fill n a b k in
    (x.0 ++ (y.0 ++ xs.0), pair x.1 y.1 xs.1, (ap suc xs.2.0, (x.0, y.0, xs.0, refl, x.2, y.2, xs.2.1)))

behind_fill : (n : ℕ) (a b : ThriftType) (k : ℕ) (x y : Item) → Fills Pairs (PairsBehind n a b k x y)
behind_fill n a b k x y = let f = pairs_fill n a b k in (f.0, pair x y f.1, (f.1, f.2, refl))

value_and_fill : (n : ℕ) (a b : ThriftType) (k : ℕ) (x : Item) → Fills Pairs (ValueAndPairs n a b k x)
value_and_fill n a b k x =
    let y = value_fill n b in
    let f = behind_fill n a b k x y.1 in
    (y.0 ++ f.0, f.1, (y.0, f.0, y.1, refl, y.2, f.2))

pairs_goes : (n : ℕ) (a b : ThriftType) → ValueGoes n → (k : ℕ) → Goes Pairs (pairs (value_of n a) (value_of n b) k) (PairsOf n a b k)
pairs_goes n a b s zero = goes_weaker (give no_pairs) (λ w xs. (w ≡ []) × (no_pairs ≡ xs)) (PairsOf n a b 0) (goes_give no_pairs) (λ w xs p. subst (PairsOf n a b 0 w) p.1 (refl, p.0))
pairs_goes n a b s (suc k) =
    goes_weaker (pairs (value_of n a) (value_of n b) (suc k)) (Then Item Pairs (ItemOf n a) (ValueAndPairs n a b k)) (PairsOf n a b (suc k))
    (goes_then (value_of n a) (λ x. value_of n b >>= (λ y. pairs (value_of n a) (value_of n b) k >>= (λ xs. give (pair x y xs)))) (ItemOf n a) (ValueAndPairs n a b k) (s a)
    (λ x. goes_then (value_of n b) (λ y. pairs (value_of n a) (value_of n b) k >>= (λ xs. give (pair x y xs))) (ItemOf n b) (PairsBehind n a b k x) (s b)
    (λ y. goes_made (pairs (value_of n a) (value_of n b) k) (pair x y) (PairsOf n a b k) (PairsBehind n a b k x y) (pairs_goes n a b s k) (λ w xs p. (xs, p, refl)))
    (behind_fill n a b k x)) (value_and_fill n a b k))
    (pairs_together n k a b)

-- what follows a map's types
abbrev PairsOfTypes : ℕ → ℕ → MapTypes → List ℕ → Item → Type 0
PairsOfTypes n k t w x = (xs : Pairs) × PairsOf n t.key t.value k w xs × (map_item t.key t.value xs ≡ x)

types_fill : (n k : ℕ) (t : MapTypes) → Fills Item (PairsOfTypes n k t)
types_fill n k t = let f = pairs_fill n t.key t.value k in (f.0, map_item t.key t.value f.1, (f.1, f.2, refl))

-- what follows a map's size
abbrev MapBehind : ℕ → ℕ → List ℕ → Item → Type 0
MapBehind n zero w x = (w ≡ []) × (empty_map_item ≡ x)
MapBehind n (suc m) w x = Then MapTypes Item (Byte MapTypes map_types) (PairsOfTypes n (suc m)) w x

map_behind_fill : (n k : ℕ) → Fills Item (MapBehind n k)
map_behind_fill n zero = ([], empty_map_item, (refl, refl))
map_behind_fill n (suc m) =
    let f = types_fill n (suc m) (both_types byte_type byte_type) in
    (51 ∷ f.0, f.1, (51 ∷ [], f.0, both_types byte_type byte_type, refl, (51, refl, refl), f.2))

map_goes : (n : ℕ) → ValueGoes n → (k : ℕ) → Goes Item (map_of (value_of n) k) (MapBehind n k)
map_goes n s zero = goes_give empty_map_item
map_goes n s (suc m) =
    goes_then (byte_as malformed malformed map_types) (λ t. pairs (value_of n t.key) (value_of n t.value) (suc m) >>= (λ xs. give (map_item t.key t.value xs))) (Byte MapTypes map_types) (PairsOfTypes n (suc m)) (goes_as map_types 51 (both_types byte_type byte_type) refl)
    (λ t. goes_made (pairs (value_of n t.key) (value_of n t.value) (suc m)) (map_item t.key t.value) (PairsOf n t.key t.value (suc m)) (PairsOfTypes n (suc m) t) (pairs_goes n t.key t.value s (suc m)) (λ w xs p. (xs, p, refl)))
    (types_fill n (suc m))

map_value : (n k : ℕ) (w s v : List ℕ) (x : Item) → w ≡ s ++ v → SpellsNumber s k → MapBehind n k v x → ItemOf (suc n) map_type w x
map_value n zero w s v x e h p = subst (ItemOf (suc n) map_type w) p.1 (refl, subst (λ (y : List ℕ). SpellsNumber y 0) (sym (e ∙ (ap (λ y. s ++ y) p.0 ∙ append-nil s))) h)
map_value n (suc m) w s v x e h p =
    let b : ℕ = p.4.0 in
    let t : MapTypes = p.2 in
    let q : PairsOfTypes n (suc m) t p.1 x = p.5 in
    let f : v ≡ b ∷ p.1 = p.3 ∙ ap (λ y. y ++ p.1) p.4.1 in
    let l : (s ++ b ∷ []) ++ p.1 ≡ s ++ (b ∷ p.1) = append_assoc s (b ∷ []) p.1 in
    let g : SpellsNumber s (count_pairs q.0) = subst (SpellsNumber s) (sym q.1.0) h in
    let m = map_byte_means b t (type_of (b / 16)) refl p.4.2 in
    subst (ItemOf (suc n) map_type w) q.2 (refl, s ++ b ∷ [], p.1, e ∙ (ap (λ y. s ++ y) f ∙ sym l), (s, b, refl, g, omega (arith, q.1.0), m.0, m.1), q.1.1)

-- ---- fields

abbrev NotTruth : ThriftType → Type 0
NotTruth t = IsTruthType t → ⊥

in_field_of : (n : ℕ) (u : List ℕ) (t : ThriftType) (x : Item) → NotTruth t → SpellsItem n u t x → InField x u t (SpellsItem n u t x)
in_field_of n u t (truth_item true) f h = absurd (f h.0)
in_field_of n u t (truth_item false) f h = absurd (f h.0)
in_field_of n u t (byte_item b) f h = h
in_field_of n u t (i16_item z) f h = h
in_field_of n u t (i32_item z) f h = h
in_field_of n u t (i64_item z) f h = h
in_field_of n u t (double_item b) f h = h
in_field_of n u t (binary_item b) f h = h
in_field_of n u t (list_item e xs) f h = h
in_field_of n u t (set_item e xs) f h = h
in_field_of n u t empty_map_item f h = h
in_field_of n u t (map_item k v xs) f h = h
in_field_of n u t (struct_item s) f h = h

abbrev FieldOf : ℕ → ThriftType → List ℕ → Item → Type 0
FieldOf n t u x = InField x u t (SpellsItem (suc n) u t x)

not_truth_by : (t : ThriftType) → (t ≡ true_type → ⊥) → (t ≡ false_type → ⊥) → NotTruth t
not_truth_by t f g (inl e) = f e
not_truth_by t f g (inr e) = g e

-- a field is read as a value is, or is a truth value
abbrev FieldGoes : ℕ → ThriftType → Type 0
FieldGoes n t = Goes Item (field_value (value_of n) t) (FieldOf n t) × Fills Item (FieldOf n t)

other_field : (n : ℕ) → ValueGoes n → (t : ThriftType) → NotTruth t → Goes Item (value_of n t) (FieldOf n t) × Fills Item (FieldOf n t)
other_field n s t f =
    let v = value_fill n t in
    (goes_weaker (value_of n t) (ItemOf n t) (FieldOf n t) (s t) (λ w x h. in_field_of (suc n) w t x f h), (v.0, v.1, in_field_of (suc n) v.0 t v.1 f v.2))

field_goes : (n : ℕ) → ValueGoes n → (t : ThriftType) → FieldGoes n t
field_goes n s true_type = (goes_weaker (give (truth_item true)) (λ w x. (w ≡ []) × (truth_item true ≡ x)) (FieldOf n true_type) (goes_give (truth_item true)) (λ w x p. subst (FieldOf n true_type w) p.1 (refl, p.0)), ([], truth_item true, (refl, refl)))
field_goes n s false_type = (goes_weaker (give (truth_item false)) (λ w x. (w ≡ []) × (truth_item false ≡ x)) (FieldOf n false_type) (goes_give (truth_item false)) (λ w x p. subst (FieldOf n false_type w) p.1 (refl, p.0)), ([], truth_item false, (refl, refl)))
field_goes n s byte_type = other_field n s byte_type (not_truth_by byte_type (λ e. cc) (λ e. cc))
field_goes n s i16_type = other_field n s i16_type (not_truth_by i16_type (λ e. cc) (λ e. cc))
field_goes n s i32_type = other_field n s i32_type (not_truth_by i32_type (λ e. cc) (λ e. cc))
field_goes n s i64_type = other_field n s i64_type (not_truth_by i64_type (λ e. cc) (λ e. cc))
field_goes n s double_type = other_field n s double_type (not_truth_by double_type (λ e. cc) (λ e. cc))
field_goes n s binary_type = other_field n s binary_type (not_truth_by binary_type (λ e. cc) (λ e. cc))
field_goes n s list_type = other_field n s list_type (not_truth_by list_type (λ e. cc) (λ e. cc))
field_goes n s set_type = other_field n s set_type (not_truth_by set_type (λ e. cc) (λ e. cc))
field_goes n s map_type = other_field n s map_type (not_truth_by map_type (λ e. cc) (λ e. cc))
field_goes n s struct_type = other_field n s struct_type (not_truth_by struct_type (λ e. cc) (λ e. cc))

abbrev FieldsOf : ℕ → ℤ → List ℕ → Struct → Type 0
FieldsOf n last w r = SpellsFields (suc n) w last r

abbrev FieldsGo : ℕ → ℕ → Type 0
FieldsGo n k = (last : ℤ) → Goes Struct (fields (value_of n) k last) (FieldsOf n last)

-- the other fields behind a value
abbrev OthersOf : ℕ → ℤ → Item → List ℕ → Struct → Type 0
OthersOf n id x w s = (r : Struct) × SpellsFields (suc n) w id r × (struct_field id x r ≡ s)

-- a field's value and the other fields
abbrev RestOf : ℕ → ℤ → ThriftType → List ℕ → Struct → Type 0
RestOf n id t = Then Item Struct (FieldOf n t) (OthersOf n id)

others_fill : (n : ℕ) (id : ℤ) (x : Item) → Fills Struct (OthersOf n id x)
others_fill n id x = (0 ∷ [], struct_field id x stop, (stop, refl, refl))

rest_fill : (n : ℕ) → ValueGoes n → (id : ℤ) (t : ThriftType) → Fills Struct (RestOf n id t)
rest_fill n s id t =
    let v = (field_goes n s t).1 in
    (v.0 ++ 0 ∷ [], struct_field id v.1 stop, (v.0, 0 ∷ [], v.1, refl, v.2, (stop, refl, refl)))

rest_goes : (n k : ℕ) → ValueGoes n → FieldsGo n k → (t : ThriftType) (id : ℤ) → Goes Struct (field_and_rest (value_of n) (fields (value_of n) k) t id) (RestOf n id t)
rest_goes n k s f t id = goes_then (field_value (value_of n) t) (λ x. fields (value_of n) k id >>= (λ r. give (struct_field id x r))) (FieldOf n t) (OthersOf n id) (field_goes n s t).0
    (λ x. goes_made (fields (value_of n) k id) (struct_field id x) (FieldsOf n id) (OthersOf n id x) (f id) (λ w r p. (r, p, refl))) (others_fill n id)

-- what follows a header's byte
abbrev HeaderBehind : ℕ → FieldHeader → List ℕ → Struct → Type 0
HeaderBehind n stop_header w r = (w ≡ []) × (stop ≡ r)
HeaderBehind n (short_header id t) w r = RestOf n id t w r
HeaderBehind n (long_header t) w r = Then ℤ Struct (SpellsSigned (2 ^ 16)) (λ id. RestOf n id t) w r

header_fill : (n : ℕ) → ValueGoes n → (e : FieldHeader) → Fills Struct (HeaderBehind n e)
header_fill n s stop_header = ([], stop, (refl, refl))
header_fill n s (short_header id t) = rest_fill n s id t
header_fill n s (long_header t) = let f = rest_fill n s (pos 0) t in (0 ∷ f.0, f.1, (0 ∷ [], f.0, pos 0, refl, zero_signed (2 ^ 16) (omega arith), f.2))

after_goes : (n k : ℕ) → ValueGoes n → FieldsGo n k → (e : FieldHeader) → Goes Struct (after_header (value_of n) (fields (value_of n) k) e) (HeaderBehind n e)
after_goes n k s f stop_header = goes_give stop
after_goes n k s f (short_header id t) = rest_goes n k s f t id
after_goes n k s f (long_header t) = goes_then field_id (field_and_rest (value_of n) (fields (value_of n) k) t) (SpellsSigned (2 ^ 16)) (λ id. RestOf n id t) (goes_signed (2 ^ 16) (omega arith)) (rest_goes n k s f t) (λ id. rest_fill n s id t)

field_together : (n : ℕ) (last : ℤ) (c : ℕ) (e : FieldHeader) (w v : List ℕ) (r : Struct) → HeaderMeans last c e → w ≡ c ∷ v → HeaderBehind n e v r → FieldsOf n last w r
field_together n last c stop_header w v r m e p = subst (FieldsOf n last w) p.1 (e ∙ ap₂ (λ x y. x ∷ y) m p.0)
field_together n last c (short_header id t) w v r m e p =
    subst (FieldsOf n last w) p.5.2 (c ∷ [], p.0, p.1, t, e ∙ ap (λ y. c ∷ y) p.3, inl (c, m.0, refl, m.1, m.2, m.3), p.4, p.5.1)
field_together n last c (long_header t) w v r m e p =
    let q : RestOf n p.2 t p.1 r = p.5 in
    let g : w ≡ (c ∷ p.0) ++ (q.0 ++ q.1) = e ∙ ap (λ y. c ∷ y) (p.3 ∙ ap (λ y. p.0 ++ y) q.3) in
    subst (FieldsOf n last w) q.5.2 (c ∷ p.0, q.0, q.1, t, g, inr (c, p.0, refl, m, p.4), q.4, q.5.1)

fields_go : (n : ℕ) → ValueGoes n → (k : ℕ) → FieldsGo n k
fields_go n s zero last = λ bytes. ([], refl, 0 ∷ [], stop, refl)
fields_go n s (suc k) last =
    goes_weaker (fields (value_of n) (suc k) last) (Then FieldHeader Struct (Byte FieldHeader (field_header last)) (HeaderBehind n)) (FieldsOf n last)
    (goes_then (byte_as malformed malformed (field_header last)) (after_header (value_of n) (fields (value_of n) k)) (Byte FieldHeader (field_header last)) (HeaderBehind n) (goes_as (field_header last) 0 stop_header refl) (after_goes n k s (fields_go n s k)) (header_fill n s))
    (λ w r p. field_together n last p.4.0 p.2 w p.1 r (header_means last p.4.0 p.2 (p.4.0 == 0) refl p.4.2) (p.3 ∙ ap (λ y. y ++ p.1) p.4.1) p.5)

struct_goes : (n : ℕ) → ValueGoes n → Goes Struct (struct_of (value_of n)) (FieldsOf n (pos 0))
struct_goes n s bytes = fields_go n s (length bytes) (pos 0) bytes

-- ---- all values

-- where it is too deep, one deeper there is a value
one_deeper : (t : ThriftType) → Goes Item (refused too_deep) (ItemOf zero t)
one_deeper t bytes = let v = value_fill zero t in ([], refl, v.0, v.1, v.2)

abbrev ElementsOf : ℕ → (ThriftType → Items → Item) → ListHeader → List ℕ → Item → Type 0
ElementsOf n make h w x = (xs : Items) × ItemsOf n h.element h.size w xs × (make h.element xs ≡ x)

elements_go : (n : ℕ) (t : ThriftType) (make : ThriftType → Items → Item) → ValueGoes n
    → ((w h u : List ℕ) (e : ThriftType) (xs : Items) → w ≡ h ++ u → SpellsListHeader h (count_items xs) e → SpellsItems (suc n) u e xs → ItemOf (suc n) t w (make e xs))
    → Goes Item (list_header >>= (λ h. items (value_of n h.element) h.size >>= (λ xs. give (make h.element xs)))) (ItemOf (suc n) t)
elements_go n t make s g =
    goes_weaker (list_header >>= (λ h. items (value_of n h.element) h.size >>= (λ xs. give (make h.element xs)))) (Then ListHeader Item (λ w h. SpellsListHeader w h.size h.element) (ElementsOf n make)) (ItemOf (suc n) t)
    (goes_then list_header (λ h. items (value_of n h.element) h.size >>= (λ xs. give (make h.element xs))) (λ w h. SpellsListHeader w h.size h.element) (ElementsOf n make) list_header_goes
    (λ h. goes_made (items (value_of n h.element) h.size) (make h.element) (ItemsOf n h.element h.size) (ElementsOf n make h) (items_goes n h.element (s h.element) h.size) (λ w xs p. (xs, p, refl)))
    (λ h. let f = items_fill n h.element h.size in (f.0, make h.element f.1, (f.1, f.2, refl))))
    (λ w x p. subst (ItemOf (suc n) t w) p.5.2 (g w p.0 p.1 p.2.element p.5.0 p.3 (subst (λ (k : ℕ). SpellsListHeader p.0 k p.2.element) (sym p.5.1.0) p.4) p.5.1.1))

value_goes : (n : ℕ) → ValueGoes n
value_goes n true_type = truth_goes n true_type (inl refl)
value_goes n false_type = truth_goes n false_type (inr refl)
value_goes n byte_type = goes_weaker (byte_as malformed malformed plain_byte) (Byte Item plain_byte) (ItemOf n byte_type) (goes_as plain_byte 0 (byte_item 0) refl) (λ w x p. subst (ItemOf n byte_type w) (some_same (byte_item p.0) x p.2) (refl, p.1))
value_goes n i16_type = goes_made signed_varint i16_item (SpellsSigned (2 ^ 64)) (ItemOf n i16_type) (goes_signed (2 ^ 64) above_none) (λ w z p. (refl, p))
value_goes n i32_type = goes_made signed_varint i32_item (SpellsSigned (2 ^ 64)) (ItemOf n i32_type) (goes_signed (2 ^ 64) above_none) (λ w z p. (refl, p))
value_goes n i64_type = goes_made signed_varint i64_item (SpellsSigned (2 ^ 64)) (ItemOf n i64_type) (goes_signed (2 ^ 64) above_none) (λ w z p. (refl, p))
value_goes n double_type = goes_made (bytes_of malformed 8) double_item (SoMany 8) (ItemOf n double_type) (goes_bytes 8) (λ w b p. (refl, p.0, p.1))
value_goes n binary_type = goes_made binary binary_item (Then ℕ (List ℕ) (SpellsVarint (2 ^ 64)) SoMany) (ItemOf n binary_type)
    (goes_then (varint malformed malformed) (bytes_of malformed) (SpellsVarint (2 ^ 64)) SoMany number_goes goes_bytes (λ k. (zeros k, zeros k, (refl, zeros_length k))))
    (λ w b p. (refl, p.0, p.3 ∙ ap (λ y. p.0 ++ y) p.5.0, subst (SpellsNumber p.0) (sym p.5.1) p.4))
value_goes zero list_type = one_deeper list_type
value_goes zero set_type = one_deeper set_type
value_goes zero map_type = one_deeper map_type
value_goes zero struct_type = one_deeper struct_type
value_goes (suc n) list_type = elements_go n list_type list_item (value_goes n) (λ w h u e xs g p q. (refl, h, u, g, p, q))
value_goes (suc n) set_type = elements_go n set_type set_item (value_goes n) (λ w h u e xs g p q. (refl, h, u, g, p, q))
value_goes (suc n) map_type = goes_weaker (value_of (suc n) map_type) (Then ℕ Item (SpellsVarint (2 ^ 64)) (MapBehind n)) (ItemOf (suc n) map_type)
    (goes_then (varint malformed malformed) (map_of (value_of n)) (SpellsVarint (2 ^ 64)) (MapBehind n) number_goes (map_goes n (value_goes n)) (map_behind_fill n))
    (λ w x p. map_value n p.2 w p.0 p.1 x p.3 p.4 p.5)
value_goes (suc n) struct_type = goes_made (struct_of (value_of n)) struct_item (FieldsOf n (pos 0)) (ItemOf (suc n) struct_type) (struct_goes n (value_goes n)) (λ w r p. (refl, p))

pub bytes_go_on_one_deeper : BytesGoOnOneDeeper
bytes_go_on_one_deeper n bytes rest e h =
    let t : Told Struct (FieldsOf n (pos 0)) bytes (refused e rest) = subst (Told Struct (FieldsOf n (pos 0)) bytes) h (struct_goes n (value_goes n) bytes) in
    (t.0, t.1, (t.2, t.3, t.4))
