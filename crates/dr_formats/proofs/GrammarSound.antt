-- Whatever is read as a struct is a spelling of it.
use Rattle.std.proofs.Common.{◌≡◌, ℕ, zero, suc, ◌/◌, ◌%◌, ◌^◌, List, [], ◌∷◌, ◌++◌, length, Bool, true, false, refl, sym, ap, ap₂, ◌∙◌, subst, arith, ℤ, pos, Option, Some, None, append_assoc, append-nil, ◌⊎◌, inl, inr}
use Rattle.std.specs.Prelude.{◌==◌, if◌then◌else◌, ◌+ℤ◌, option_map, option_and_then}
use Rattle.std.proofs.lemmas.Bool.{eqb-true}
use Rattle.std.proofs.lemmas.List.{append_cancel_right}
use Rattle.dr_formats.specs.Reading.{Reading, got, refused, give, ◌>>=◌, byte_as, bytes_of}
use Rattle.dr_formats.specs.Varint.{varint_below, varint, from_zigzag, SpellsVarint, SpellsNumber, SpellsSigned}
use Rattle.dr_formats.specs.Compact.{CompactFault, malformed, too_deep, ThriftType, true_type, false_type, byte_type, i16_type, i32_type, i64_type, double_type, binary_type, list_type, set_type, map_type, struct_type, Struct, stop, struct_field, Item, truth_item, byte_item, i16_item, i32_item, i64_item, double_item, binary_item, list_item, set_item, empty_map_item, map_item, struct_item, Items, no_items, item, Pairs, no_pairs, pair, type_of, signed_varint, truth_byte, plain_byte, binary, ListHeader, list_header_byte, list_size, list_header, MapTypes, map_types, items, pairs, map_of, FieldHeader, stop_header, short_header, long_header, in_int16, with_delta, field_header, field_id, field_value, field_and_rest, after_header, fields, struct_of, value_of, read_struct, count_items, count_pairs, struct_bytes}
use Rattle.dr_formats.specs.CompactGrammar.{SpellsHalves, SpellsListHeader, IsTruthType, InField, SpellsFields, SpellsItem, SpellsItems, SpellsPairs, SpellsStruct}
use Rattle.dr_formats.specs.CompactLaws.{StructIsReadExactly, WrittenStructIsSpelled, FrontSpellsOneStruct}
use Rattle.dr_formats.proofs.ReadingLemmas.{not_refused, same_got}
use Rattle.dr_formats.proofs.SoundLemmas.{IsSound, weaker, sound_give, Then, sound_then, sound_map, sound_made, sound_as, sound_bytes, sound_below}
use Rattle.dr_formats.proofs.CompactLemmas.{header, both_types, some_same, written_struct_is_read}
use Rattle.dr_formats.proofs.GrammarReads.{spelling_is_read}

-- ---- numbers

sound_signed : (bound : ℕ) → IsSound CompactFault ℤ (varint_below bound malformed malformed >>= (λ n. give (from_zigzag n))) (SpellsSigned bound)
sound_signed bound = weaker (varint_below bound malformed malformed >>= (λ n. give (from_zigzag n))) (λ w y. (x : ℕ) × SpellsVarint bound w x × (from_zigzag x ≡ y)) (SpellsSigned bound) (sound_map (varint_below bound malformed malformed) from_zigzag (SpellsVarint bound) (sound_below bound malformed malformed)) (λ w z p. (p.0, p.1, p.2))

-- ---- headers

list_byte_means : (c : ℕ) (h : ListHeader) (o : Option ThriftType) → type_of (c % 16) ≡ o → option_map (λ t. header (c / 16) t) o ≡ Some h → SpellsHalves c h.size h.element
list_byte_means c h None e g = absurd (nothing h g)
  where
    nothing : (y : ListHeader) → None ≡ Some y → ⊥
    nothing y k = cc
list_byte_means c h (Some t) e g = subst (λ (y : ListHeader). SpellsHalves c y.size y.element) (some_same (header (c / 16) t) h g) (refl, e)

-- what a list header's size byte goes on with
abbrev SizeBehind : ListHeader → List ℕ → ListHeader → Type 0
SizeBehind g w h = ((w ≡ []) × (g ≡ h) × ((h.size == 15) ≡ false)) ⊎ ((g.size ≡ 15) × (g.element ≡ h.element) × SpellsNumber w h.size)

size_sound : (g : ListHeader) (b : Bool) → (g.size == 15) ≡ b → IsSound CompactFault ListHeader (if b then (varint malformed malformed >>= (λ n. give (record { size = n; element = g.element }))) else give g) (SizeBehind g)
size_sound g true e = sound_made (varint malformed malformed) (λ n. record { size = n; element = g.element }) (SpellsVarint (2 ^ 64)) (SizeBehind g) (sound_below (2 ^ 64) malformed malformed) (λ w n p. inr (eqb-true g.size 15 e, refl, p))
size_sound g false e = weaker (give g) (λ w h. (w ≡ []) × (g ≡ h)) (SizeBehind g) (sound_give g) (λ w h p. inl (p.0, p.1, ap (λ (x : ListHeader). x.size == 15) (sym p.1) ∙ e))

list_header_sound : IsSound CompactFault ListHeader list_header (λ w h. SpellsListHeader w h.size h.element)
list_header_sound = weaker list_header (Then ListHeader ListHeader (λ w y. (c : ℕ) × (w ≡ c ∷ []) × (list_header_byte c ≡ Some y)) SizeBehind) (λ w h. SpellsListHeader w h.size h.element)
    (sound_then (byte_as malformed malformed list_header_byte) list_size (λ w y. (c : ℕ) × (w ≡ c ∷ []) × (list_header_byte c ≡ Some y)) SizeBehind (sound_as malformed malformed list_header_byte) (λ g. size_sound g (g.size == 15) refl))
    (λ w h p. together w p.0 p.1 p.2 h p.3 p.4 p.5)
  where
    together : (w u v : List ℕ) (g h : ListHeader) → w ≡ u ++ v → (c : ℕ) × (u ≡ c ∷ []) × (list_header_byte c ≡ Some g) → SizeBehind g v h → SpellsListHeader w h.size h.element
    together w u v g h e p (inl q) =
        let m : SpellsHalves p.0 g.size g.element = list_byte_means p.0 g (type_of (p.0 % 16)) refl p.2 in
        inl (p.0, e ∙ ap₂ (λ x y. x ++ y) p.1 q.0, subst (λ (y : ListHeader). SpellsHalves p.0 y.size y.element) q.1 m, q.2)
    together w u v g h e p (inr q) =
        let m : SpellsHalves p.0 g.size g.element = list_byte_means p.0 g (type_of (p.0 % 16)) refl p.2 in
        inr (p.0, v, e ∙ ap (λ x. x ++ v) p.1, (m.0 ∙ q.0, m.1 ∙ ap (λ t. Some t) q.1), q.2)

map_byte_inner : (v k : ThriftType) (o : Option ThriftType) (t : MapTypes) → option_map (λ y. both_types k y) o ≡ Some t → (o ≡ Some t.value) × (k ≡ t.key)
map_byte_inner v k None t g = absurd (nothing t g)
  where
    nothing : (y : MapTypes) → None ≡ Some y → ⊥
    nothing y h = cc
map_byte_inner v k (Some y) t g =
    let e : both_types k y ≡ t = some_same (both_types k y) t g in
    (ap (λ (x : MapTypes). Some x.value) e, ap (λ (x : MapTypes). x.key) e)

map_byte_means : (b : ℕ) (t : MapTypes) (o : Option ThriftType) → type_of (b / 16) ≡ o → option_and_then (λ (k : ThriftType). option_map (λ v. both_types k v) (type_of (b % 16))) o ≡ Some t → (type_of (b / 16) ≡ Some t.key) × (type_of (b % 16) ≡ Some t.value)
map_byte_means b t None e g = absurd (nothing t g)
  where
    nothing : (y : MapTypes) → None ≡ Some y → ⊥
    nothing y h = cc
map_byte_means b t (Some k) e g = let p = map_byte_inner k k (type_of (b % 16)) t g in (e ∙ ap (λ x. Some x) p.1, p.0)

-- what a byte that begins a field means
abbrev HeaderMeans : ℤ → ℕ → FieldHeader → Type 0
HeaderMeans last b stop_header = b ≡ 0
HeaderMeans last b (short_header id t) = (d : ℕ) × SpellsHalves b (suc d) t × (last +ℤ pos (suc d) ≡ id) × (in_int16 id ≡ true)
HeaderMeans last b (long_header t) = SpellsHalves b 0 t

no_header : (e : FieldHeader) → None ≡ Some e → ⊥
no_header e h = cc

short_means : (last : ℤ) (b d : ℕ) (t : ThriftType) (e : FieldHeader) (c : Bool) → in_int16 (last +ℤ pos (suc d)) ≡ c → SpellsHalves b (suc d) t → (if c then Some (short_header (last +ℤ pos (suc d)) t) else None) ≡ Some e → HeaderMeans last b e
short_means last b d t e true g h k = subst (HeaderMeans last b) (some_same (short_header (last +ℤ pos (suc d)) t) e k) (d, h, refl, g)
short_means last b d t e false g h k = absurd (no_header e k)

delta_means : (last : ℤ) (b q : ℕ) (t : ThriftType) (e : FieldHeader) → SpellsHalves b q t → with_delta last q t ≡ Some e → HeaderMeans last b e
delta_means last b zero t e h k = subst (HeaderMeans last b) (some_same (long_header t) e k) h
delta_means last b (suc d) t e h k = short_means last b d t e (in_int16 (last +ℤ pos (suc d))) refl h k

byte_means : (last : ℤ) (b : ℕ) (e : FieldHeader) (o : Option ThriftType) → type_of (b % 16) ≡ o → option_and_then (with_delta last (b / 16)) o ≡ Some e → HeaderMeans last b e
byte_means last b e None g k = absurd (no_header e k)
byte_means last b e (Some t) g k = delta_means last b (b / 16) t e (refl, g) k

header_means : (last : ℤ) (b : ℕ) (e : FieldHeader) (c : Bool) → (b == 0) ≡ c → (if c then Some stop_header else option_and_then (with_delta last (b / 16)) (type_of (b % 16))) ≡ Some e → HeaderMeans last b e
header_means last b e true g k = subst (HeaderMeans last b) (some_same stop_header e k) (eqb-true b 0 g)
header_means last b e false g k = byte_means last b e (type_of (b % 16)) refl k

-- ---- values

abbrev ValueSound : ℕ → Type 0
ValueSound n = (t : ThriftType) → IsSound CompactFault Item (value_of n t) (λ w x. SpellsItem n w t x)

truth_sound : (n : ℕ) (t : ThriftType) → IsTruthType t → IsSound CompactFault Item (byte_as malformed malformed truth_byte) (λ w x. SpellsItem n w t x)
truth_sound n t i = weaker (byte_as malformed malformed truth_byte) (λ w y. (c : ℕ) × (w ≡ c ∷ []) × (truth_byte c ≡ Some y)) (λ w x. SpellsItem n w t x) (sound_as malformed malformed truth_byte) (λ w x p. subst (SpellsItem n w t) (some_same (truth_item (p.0 == 1)) x p.2) (i, p.0, p.1, refl))

items_sound : (n : ℕ) (t : ThriftType) → IsSound CompactFault Item (value_of n t) (λ w x. SpellsItem n w t x) → (k : ℕ) → IsSound CompactFault Items (items (value_of n t) k) (λ w xs. (count_items xs ≡ k) × SpellsItems n w t xs)
items_sound n t s zero = weaker (give no_items) (λ w b. (w ≡ []) × (no_items ≡ b)) (λ w xs. (count_items xs ≡ 0) × SpellsItems n w t xs) (sound_give no_items) (λ w xs p. subst (λ y. (count_items y ≡ 0) × SpellsItems n w t y) p.1 (refl, p.0))
items_sound n t s (suc k) =
    weaker (items (value_of n t) (suc k)) (Then Item Items (λ w x. SpellsItem n w t x) (λ x w ys. (xs : Items) × ((count_items xs ≡ k) × SpellsItems n w t xs) × (item x xs ≡ ys))) (λ w xs. (count_items xs ≡ suc k) × SpellsItems n w t xs)
    (sound_then (value_of n t) (λ x. items (value_of n t) k >>= (λ xs. give (item x xs))) (λ w x. SpellsItem n w t x) (λ x w ys. (xs : Items) × ((count_items xs ≡ k) × SpellsItems n w t xs) × (item x xs ≡ ys)) s (λ x. sound_map (items (value_of n t) k) (item x) (λ w xs. (count_items xs ≡ k) × SpellsItems n w t xs) (items_sound n t s k)))
    (λ w ys p. subst (λ y. (count_items y ≡ suc k) × SpellsItems n w t y) p.5.2 (ap suc p.5.1.0, (p.0, p.1, p.3, p.4, p.5.1.1)))

pairs_sound : (n : ℕ) (a b : ThriftType) → ValueSound n → (k : ℕ) → IsSound CompactFault Pairs (pairs (value_of n a) (value_of n b) k) (λ w xs. (count_pairs xs ≡ k) × SpellsPairs n w a b xs)
pairs_sound n a b s zero = weaker (give no_pairs) (λ w c. (w ≡ []) × (no_pairs ≡ c)) (λ w xs. (count_pairs xs ≡ 0) × SpellsPairs n w a b xs) (sound_give no_pairs) (λ w xs p. subst (λ y. (count_pairs y ≡ 0) × SpellsPairs n w a b y) p.1 (refl, p.0))
pairs_sound n a b s (suc k) =
    let P : List ℕ → Pairs → Type 0 = λ w xs. (count_pairs xs ≡ k) × SpellsPairs n w a b xs in
    let R : Item → Item → List ℕ → Pairs → Type 0 = λ x y w ps. (xs : Pairs) × P w xs × (pair x y xs ≡ ps) in
    let Q : Item → List ℕ → Pairs → Type 0 = λ x. Then Item Pairs (λ w y. SpellsItem n w b y) (R x) in
    weaker (pairs (value_of n a) (value_of n b) (suc k)) (Then Item Pairs (λ w x. SpellsItem n w a x) Q) (λ w xs. (count_pairs xs ≡ suc k) × SpellsPairs n w a b xs)
    (sound_then (value_of n a) (λ x. value_of n b >>= (λ y. pairs (value_of n a) (value_of n b) k >>= (λ xs. give (pair x y xs)))) (λ w x. SpellsItem n w a x) Q (s a)
    (λ x. sound_then (value_of n b) (λ y. pairs (value_of n a) (value_of n b) k >>= (λ xs. give (pair x y xs))) (λ w y. SpellsItem n w b y) (R x) (s b)
    (λ y. sound_map (pairs (value_of n a) (value_of n b) k) (pair x y) P (pairs_sound n a b s k))))
    (λ w ps p. subst (λ y. (count_pairs y ≡ suc k) × SpellsPairs n w a b y) p.5.5.2 (ap suc p.5.5.1.0, (p.0, p.5.0, p.5.1, p.3 ∙ ap (λ v. p.0 ++ v) p.5.3, p.4, p.5.4, p.5.5.1.1)))

-- what follows a map's size
abbrev MapBehind : ℕ → ℕ → List ℕ → Item → Type 0
MapBehind n zero w x = (w ≡ []) × (empty_map_item ≡ x)
MapBehind n (suc m) w x = (b : ℕ) × (u : List ℕ) × (t : MapTypes) × (xs : Pairs) × (w ≡ b ∷ u) × (type_of (b / 16) ≡ Some t.key) × (type_of (b % 16) ≡ Some t.value) × (count_pairs xs ≡ suc m) × SpellsPairs n u t.key t.value xs × (map_item t.key t.value xs ≡ x)

map_sound : (n : ℕ) → ValueSound n → (k : ℕ) → IsSound CompactFault Item (map_of (value_of n) k) (MapBehind n k)
map_sound n s zero = sound_give empty_map_item
map_sound n s (suc m) =
    let R : MapTypes → List ℕ → Item → Type 0 = λ t w x. (xs : Pairs) × ((count_pairs xs ≡ suc m) × SpellsPairs n w t.key t.value xs) × (map_item t.key t.value xs ≡ x) in
    weaker (map_of (value_of n) (suc m)) (Then MapTypes Item (λ w y. (c : ℕ) × (w ≡ c ∷ []) × (map_types c ≡ Some y)) R) (MapBehind n (suc m))
    (sound_then (byte_as malformed malformed map_types) (λ t. pairs (value_of n t.key) (value_of n t.value) (suc m) >>= (λ xs. give (map_item t.key t.value xs))) (λ w y. (c : ℕ) × (w ≡ c ∷ []) × (map_types c ≡ Some y)) R (sound_as malformed malformed map_types)
    (λ t. sound_map (pairs (value_of n t.key) (value_of n t.value) (suc m)) (map_item t.key t.value) (λ w xs. (count_pairs xs ≡ suc m) × SpellsPairs n w t.key t.value xs) (pairs_sound n t.key t.value s (suc m))))
    (λ w x p. let q = map_byte_means p.4.0 p.2 (type_of (p.4.0 / 16)) refl p.4.2 in (p.4.0, p.1, p.2, p.5.0, p.3 ∙ ap (λ y. y ++ p.1) p.4.1, q.0, q.1, p.5.1.0, p.5.1.1, p.5.2))

map_value : (n k : ℕ) (w s v : List ℕ) (x : Item) → w ≡ s ++ v → SpellsNumber s k → MapBehind n k v x → SpellsItem (suc n) w map_type x
map_value n zero w s v x e h p = subst (SpellsItem (suc n) w map_type) p.1 (refl, subst (λ (y : List ℕ). SpellsNumber y 0) (sym (e ∙ (ap (λ y. s ++ y) p.0 ∙ append-nil s))) h)
map_value n (suc m) w s v x e h p =
    let l : (s ++ p.0 ∷ []) ++ p.1 ≡ s ++ (p.0 ∷ p.1) = append_assoc s (p.0 ∷ []) p.1 in
    let g : SpellsNumber s (count_pairs p.3) = subst (SpellsNumber s) (sym p.7) h in
    subst (SpellsItem (suc n) w map_type) p.9 (refl, s ++ p.0 ∷ [], p.1, e ∙ (ap (λ y. s ++ y) p.4 ∙ sym l), (s, p.0, refl, g, omega (arith, p.7), p.5, p.6), p.8)

-- ---- fields

abbrev NotTruth : ThriftType → Type 0
NotTruth t = IsTruthType t → ⊥

in_field_of : (n : ℕ) (u : List ℕ) (t : ThriftType) (x : Item) → NotTruth t → SpellsItem n u t x → InField x u t (SpellsItem n u t x)
in_field_of n u t (truth_item true) f h = absurd (f h.0)
in_field_of n u t (truth_item false) f h = absurd (f h.0)
in_field_of n u t (byte_item b) f h = h
in_field_of n u t (i16_item z) f h = h
in_field_of n u t (i32_item z) f h = h
in_field_of n u t (i64_item z) f h = h
in_field_of n u t (double_item b) f h = h
in_field_of n u t (binary_item b) f h = h
in_field_of n u t (list_item e xs) f h = h
in_field_of n u t (set_item e xs) f h = h
in_field_of n u t empty_map_item f h = h
in_field_of n u t (map_item k v xs) f h = h
in_field_of n u t (struct_item s) f h = h

abbrev FieldOf : ℕ → ThriftType → List ℕ → Item → Type 0
FieldOf n t u x = InField x u t (SpellsItem n u t x)

other_field : (n : ℕ) → ValueSound n → (t : ThriftType) → NotTruth t → IsSound CompactFault Item (value_of n t) (FieldOf n t)
other_field n s t f = weaker (value_of n t) (λ w x. SpellsItem n w t x) (FieldOf n t) (s t) (λ w x h. in_field_of n w t x f h)

not_truth_by : (t : ThriftType) → (t ≡ true_type → ⊥) → (t ≡ false_type → ⊥) → NotTruth t
not_truth_by t f g (inl e) = f e
not_truth_by t f g (inr e) = g e

field_value_sound : (n : ℕ) → ValueSound n → (t : ThriftType) → IsSound CompactFault Item (field_value (value_of n) t) (FieldOf n t)
field_value_sound n s true_type = weaker (give (truth_item true)) (λ w x. (w ≡ []) × (truth_item true ≡ x)) (FieldOf n true_type) (sound_give (truth_item true)) (λ w x p. subst (FieldOf n true_type w) p.1 (refl, p.0))
field_value_sound n s false_type = weaker (give (truth_item false)) (λ w x. (w ≡ []) × (truth_item false ≡ x)) (FieldOf n false_type) (sound_give (truth_item false)) (λ w x p. subst (FieldOf n false_type w) p.1 (refl, p.0))
field_value_sound n s byte_type = other_field n s byte_type (not_truth_by byte_type (λ e. cc) (λ e. cc))
field_value_sound n s i16_type = other_field n s i16_type (not_truth_by i16_type (λ e. cc) (λ e. cc))
field_value_sound n s i32_type = other_field n s i32_type (not_truth_by i32_type (λ e. cc) (λ e. cc))
field_value_sound n s i64_type = other_field n s i64_type (not_truth_by i64_type (λ e. cc) (λ e. cc))
field_value_sound n s double_type = other_field n s double_type (not_truth_by double_type (λ e. cc) (λ e. cc))
field_value_sound n s binary_type = other_field n s binary_type (not_truth_by binary_type (λ e. cc) (λ e. cc))
field_value_sound n s list_type = other_field n s list_type (not_truth_by list_type (λ e. cc) (λ e. cc))
field_value_sound n s set_type = other_field n s set_type (not_truth_by set_type (λ e. cc) (λ e. cc))
field_value_sound n s map_type = other_field n s map_type (not_truth_by map_type (λ e. cc) (λ e. cc))
field_value_sound n s struct_type = other_field n s struct_type (not_truth_by struct_type (λ e. cc) (λ e. cc))

abbrev FieldsSound : ℕ → ℕ → Type 0
FieldsSound n k = (last : ℤ) → IsSound CompactFault Struct (fields (value_of n) k last) (λ w r. SpellsFields n w last r)

-- a field's value and the other fields
abbrev RestOf : ℕ → ℤ → ThriftType → List ℕ → Struct → Type 0
RestOf n id t = Then Item Struct (FieldOf n t) (λ x w s. (r : Struct) × SpellsFields n w id r × (struct_field id x r ≡ s))

rest_sound : (n k : ℕ) → ValueSound n → FieldsSound n k → (t : ThriftType) (id : ℤ) → IsSound CompactFault Struct (field_and_rest (value_of n) (fields (value_of n) k) t id) (RestOf n id t)
rest_sound n k s f t id = sound_then (field_value (value_of n) t) (λ x. fields (value_of n) k id >>= (λ r. give (struct_field id x r))) (FieldOf n t) (λ x w y. (r : Struct) × SpellsFields n w id r × (struct_field id x r ≡ y)) (field_value_sound n s t) (λ x. sound_map (fields (value_of n) k id) (struct_field id x) (λ w r. SpellsFields n w id r) (f id))

-- what follows a header's byte
abbrev HeaderBehind : ℕ → FieldHeader → List ℕ → Struct → Type 0
HeaderBehind n stop_header w r = (w ≡ []) × (stop ≡ r)
HeaderBehind n (short_header id t) w r = RestOf n id t w r
HeaderBehind n (long_header t) w r = Then ℤ Struct (SpellsSigned (2 ^ 16)) (λ id. RestOf n id t) w r

after_sound : (n k : ℕ) → ValueSound n → FieldsSound n k → (e : FieldHeader) → IsSound CompactFault Struct (after_header (value_of n) (fields (value_of n) k) e) (HeaderBehind n e)
after_sound n k s f stop_header = sound_give stop
after_sound n k s f (short_header id t) = rest_sound n k s f t id
after_sound n k s f (long_header t) = sound_then field_id (field_and_rest (value_of n) (fields (value_of n) k) t) (SpellsSigned (2 ^ 16)) (λ id. RestOf n id t) (sound_signed (2 ^ 16)) (rest_sound n k s f t)

field_together : (n : ℕ) (last : ℤ) (c : ℕ) (e : FieldHeader) (w v : List ℕ) (r : Struct) → HeaderMeans last c e → w ≡ c ∷ v → HeaderBehind n e v r → SpellsFields n w last r
field_together n last c stop_header w v r m e p = subst (SpellsFields n w last) p.1 (e ∙ ap₂ (λ x y. x ∷ y) m p.0)
field_together n last c (short_header id t) w v r m e p =
    subst (SpellsFields n w last) p.5.2 (c ∷ [], p.0, p.1, t, e ∙ ap (λ y. c ∷ y) p.3, inl (c, m.0, refl, m.1, m.2, m.3), p.4, p.5.1)
field_together n last c (long_header t) w v r m e p =
    let q : RestOf n p.2 t p.1 r = p.5 in
    let g : w ≡ (c ∷ p.0) ++ (q.0 ++ q.1) = e ∙ ap (λ y. c ∷ y) (p.3 ∙ ap (λ y. p.0 ++ y) q.3) in
    subst (SpellsFields n w last) q.5.2 (c ∷ p.0, q.0, q.1, t, g, inr (c, p.0, refl, m, p.4), q.4, q.5.1)

fields_sound : (n : ℕ) → ValueSound n → (k : ℕ) → FieldsSound n k
fields_sound n s zero last = λ bytes a rest h. absurd (not_refused malformed bytes a rest h)
fields_sound n s (suc k) last =
    weaker (fields (value_of n) (suc k) last) (Then FieldHeader Struct (λ w y. (c : ℕ) × (w ≡ c ∷ []) × (field_header last c ≡ Some y)) (HeaderBehind n)) (λ w r. SpellsFields n w last r)
    (sound_then (byte_as malformed malformed (field_header last)) (after_header (value_of n) (fields (value_of n) k)) (λ w y. (c : ℕ) × (w ≡ c ∷ []) × (field_header last c ≡ Some y)) (HeaderBehind n) (sound_as malformed malformed (field_header last)) (after_sound n k s (fields_sound n s k)))
    (λ w r p. field_together n last p.4.0 p.2 w p.1 r (header_means last p.4.0 p.2 (p.4.0 == 0) refl p.4.2) (p.3 ∙ ap (λ y. y ++ p.1) p.4.1) p.5)

struct_sound : (n : ℕ) → ValueSound n → IsSound CompactFault Struct (struct_of (value_of n)) (λ w r. SpellsFields n w (pos 0) r)
struct_sound n s bytes a rest h = fields_sound n s (length bytes) (pos 0) bytes a rest h

refused_sound : (P : List ℕ → Item → Type 0) → IsSound CompactFault Item (refused too_deep) P
refused_sound P bytes a rest h = absurd (not_refused too_deep bytes a rest h)

-- lists and sets
elements_sound : (n : ℕ) (t : ThriftType) (make : ThriftType → Items → Item) → ValueSound n → ((w h u : List ℕ) (e : ThriftType) (xs : Items) → w ≡ h ++ u → SpellsListHeader h (count_items xs) e → SpellsItems n u e xs → SpellsItem (suc n) w t (make e xs)) → IsSound CompactFault Item (list_header >>= (λ h. items (value_of n h.element) h.size >>= (λ xs. give (make h.element xs)))) (λ w x. SpellsItem (suc n) w t x)
elements_sound n t make s g =
    let Q : ListHeader → List ℕ → Item → Type 0 = λ h w x. (xs : Items) × ((count_items xs ≡ h.size) × SpellsItems n w h.element xs) × (make h.element xs ≡ x) in
    weaker (list_header >>= (λ h. items (value_of n h.element) h.size >>= (λ xs. give (make h.element xs)))) (Then ListHeader Item (λ w h. SpellsListHeader w h.size h.element) Q) (λ w x. SpellsItem (suc n) w t x)
    (sound_then list_header (λ h. items (value_of n h.element) h.size >>= (λ xs. give (make h.element xs))) (λ w h. SpellsListHeader w h.size h.element) Q list_header_sound
    (λ h. sound_map (items (value_of n h.element) h.size) (make h.element) (λ w xs. (count_items xs ≡ h.size) × SpellsItems n w h.element xs) (items_sound n h.element (s h.element) h.size)))
    (λ w x p. subst (SpellsItem (suc n) w t) p.5.2 (g w p.0 p.1 p.2.element p.5.0 p.3 (subst (λ (k : ℕ). SpellsListHeader p.0 k p.2.element) (sym p.5.1.0) p.4) p.5.1.1))

value_sound : (n : ℕ) → ValueSound n
value_sound n true_type = truth_sound n true_type (inl refl)
value_sound n false_type = truth_sound n false_type (inr refl)
value_sound n byte_type = weaker (byte_as malformed malformed plain_byte) (λ w y. (c : ℕ) × (w ≡ c ∷ []) × (plain_byte c ≡ Some y)) (λ w x. SpellsItem n w byte_type x) (sound_as malformed malformed plain_byte) (λ w x p. subst (SpellsItem n w byte_type) (some_same (byte_item p.0) x p.2) (refl, p.1))
value_sound n i16_type = sound_made signed_varint i16_item (SpellsSigned (2 ^ 64)) (λ w x. SpellsItem n w i16_type x) (sound_signed (2 ^ 64)) (λ w z p. (refl, p))
value_sound n i32_type = sound_made signed_varint i32_item (SpellsSigned (2 ^ 64)) (λ w x. SpellsItem n w i32_type x) (sound_signed (2 ^ 64)) (λ w z p. (refl, p))
value_sound n i64_type = sound_made signed_varint i64_item (SpellsSigned (2 ^ 64)) (λ w x. SpellsItem n w i64_type x) (sound_signed (2 ^ 64)) (λ w z p. (refl, p))
value_sound n double_type = sound_made (bytes_of malformed 8) double_item (λ w b. (w ≡ b) × (length b ≡ 8)) (λ w x. SpellsItem n w double_type x) (sound_bytes malformed 8) (λ w b p. (refl, p.0, p.1))
value_sound n binary_type = sound_made binary binary_item (Then ℕ (List ℕ) (SpellsVarint (2 ^ 64)) (λ k w b. (w ≡ b) × (length b ≡ k))) (λ w x. SpellsItem n w binary_type x) (sound_then (varint malformed malformed) (bytes_of malformed) (SpellsVarint (2 ^ 64)) (λ k w b. (w ≡ b) × (length b ≡ k)) (sound_below (2 ^ 64) malformed malformed) (sound_bytes malformed)) (λ w b p. (refl, p.0, p.3 ∙ ap (λ y. p.0 ++ y) p.5.0, subst (SpellsNumber p.0) (sym p.5.1) p.4))
value_sound zero list_type = refused_sound (λ w x. SpellsItem zero w list_type x)
value_sound zero set_type = refused_sound (λ w x. SpellsItem zero w set_type x)
value_sound zero map_type = refused_sound (λ w x. SpellsItem zero w map_type x)
value_sound zero struct_type = refused_sound (λ w x. SpellsItem zero w struct_type x)
value_sound (suc n) list_type = elements_sound n list_type list_item (value_sound n) (λ w h u e xs g p q. (refl, h, u, g, p, q))
value_sound (suc n) set_type = elements_sound n set_type set_item (value_sound n) (λ w h u e xs g p q. (refl, h, u, g, p, q))
value_sound (suc n) map_type = weaker (value_of (suc n) map_type) (Then ℕ Item (SpellsVarint (2 ^ 64)) (MapBehind n)) (λ w x. SpellsItem (suc n) w map_type x) (sound_then (varint malformed malformed) (map_of (value_of n)) (SpellsVarint (2 ^ 64)) (MapBehind n) (sound_below (2 ^ 64) malformed malformed) (map_sound n (value_sound n))) (λ w x p. map_value n p.2 w p.0 p.1 x p.3 p.4 p.5)
value_sound (suc n) struct_type = sound_made (struct_of (value_of n)) struct_item (λ w r. SpellsFields n w (pos 0) r) (λ w x. SpellsItem (suc n) w struct_type x) (struct_sound n (value_sound n)) (λ w r p. (refl, p))

read_is_spelling : IsSound CompactFault Struct read_struct SpellsStruct
unfolding read_struct
read_is_spelling = struct_sound 31 (value_sound 31)

pub struct_is_read_exactly : StructIsReadExactly
struct_is_read_exactly bytes rest s = (λ h. read_is_spelling bytes s rest h, λ p. ap read_struct p.1 ∙ spelling_is_read p.0 s p.2 rest)

pub written_struct_is_spelled : WrittenStructIsSpelled
written_struct_is_spelled s h =
    let w : List ℕ = struct_bytes s in
    let f = read_is_spelling w s [] (ap read_struct (sym (append-nil w)) ∙ written_struct_is_read s h []) in
    subst (λ (x : List ℕ). SpellsStruct x s) (sym (f.1 ∙ append-nil f.0)) f.2

pub front_spells_one_struct : FrontSpellsOneStruct
front_spells_one_struct front behind front′ behind′ s t e h k =
    let g : Path (Reading CompactFault Struct) (got s behind) (got t behind′) = sym (spelling_is_read front s h behind) ∙ (ap read_struct e ∙ spelling_is_read front′ t k behind′) in
    let p : (s ≡ t) × (behind ≡ behind′) = same_got {E = CompactFault} s t behind behind′ g in
    (append_cancel_right front front′ behind (e ∙ ap (λ x. front′ ++ x) (sym p.1)), p.0)
