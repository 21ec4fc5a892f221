-- The grammar of structs in the Thrift compact protocol, as a relation between bytes and trees: every spelling that the protocol allows.
use Rattle.std.specs.Prelude.{◌-◌, ◌≡◌, ◌⊎◌, ℕ, zero, suc, ◌/◌, ◌%◌, ◌^◌, ◌<◌, List, [], ◌∷◌, ◌++◌, length, true, false, ◌==◌, ℤ, pos, ◌+ℤ◌, Some}
use Rattle.dr_formats.specs.Varint.{SpellsNumber, SpellsSigned}
use Rattle.dr_formats.specs.Compact.{greatest_nesting, ThriftType, true_type, false_type, byte_type, i16_type, i32_type, i64_type, double_type}
use Rattle.dr_formats.specs.Compact.{binary_type, list_type, set_type, map_type, struct_type, Struct, stop, struct_field, Item, truth_item, byte_item}
use Rattle.dr_formats.specs.Compact.{i16_item, i32_item, i64_item, double_item, binary_item, list_item, set_item, empty_map_item, map_item}
use Rattle.dr_formats.specs.Compact.{struct_item, Items, no_items, item, Pairs, no_pairs, pair, type_of, in_int16, count_items, count_pairs}

-- ---- headers

-- a byte whose high half is a number, and whose low half is that of a type
abbrev pub SpellsHalves : ℕ → ℕ → ThriftType → Type 0
SpellsHalves b high t = (b / 16 ≡ high) × (type_of (b % 16) ≡ Some t)

-- `delta << 4 | type` with a delta from the last id, and an id of 16 bits
abbrev pub SpellsShortHeader : List ℕ → ℤ → ℤ → ThriftType → Type 0
SpellsShortHeader bytes last id t = (b : ℕ) × (d : ℕ) × (bytes ≡ b ∷ []) × SpellsHalves b (suc d) t × (last +ℤ pos (suc d) ≡ id) × (in_int16 id ≡ true)

-- `type`, and the id follows
abbrev pub SpellsLongHeader : List ℕ → ℤ → ThriftType → Type 0
SpellsLongHeader bytes id t = (b : ℕ) × (v : List ℕ) × (bytes ≡ b ∷ v) × SpellsHalves b 0 t × SpellsSigned (2 ^ 16) v id

-- the header of a field, in either form
abbrev pub SpellsFieldHeader : List ℕ → ℤ → ℤ → ThriftType → Type 0
SpellsFieldHeader bytes last id t = SpellsShortHeader bytes last id t ⊎ SpellsLongHeader bytes id t

-- `size << 4 | type`, where the size 15 means that the size follows
abbrev pub SpellsListHeader : List ℕ → ℕ → ThriftType → Type 0
SpellsListHeader bytes n t = ((b : ℕ) × (bytes ≡ b ∷ []) × SpellsHalves b n t × ((n == 15) ≡ false))
    ⊎ ((b : ℕ) × (v : List ℕ) × (bytes ≡ b ∷ v) × SpellsHalves b 15 t × SpellsNumber v n)

-- a map's size, which is not 0, and `key type << 4 | value type`
abbrev pub SpellsMapHeader : List ℕ → ℕ → ThriftType → ThriftType → Type 0
SpellsMapHeader bytes n k v = (s : List ℕ) × (b : ℕ) × (bytes ≡ s ++ b ∷ []) × SpellsNumber s n × (0 < n) × (type_of (b / 16) ≡ Some k)
    × (type_of (b % 16) ≡ Some v)

-- ---- values and structs, with at most so many structs, lists, sets and maps in one another

-- 1 or 2, which both stand for truth values
abbrev pub IsTruthType : ThriftType → Type 0
IsTruthType t = (t ≡ true_type) ⊎ (t ≡ false_type)

-- in a field a truth value is its type alone; any other value is as it stands in a list
abbrev pub InField : Item → List ℕ → ThriftType → Type 0 → Type 0
InField (truth_item true) bytes t as_item = (t ≡ true_type) × (bytes ≡ [])
InField (truth_item false) bytes t as_item = (t ≡ false_type) × (bytes ≡ [])
InField x bytes t as_item = as_item

abbrev mutual
  -- fields behind the one with the last id: each a header, a value and the other fields; 0 at the end
  pub SpellsFields : ℕ → List ℕ → ℤ → Struct → Type 0
  SpellsFields n bytes last stop = bytes ≡ 0 ∷ []
  SpellsFields n bytes last (struct_field id x s) = (h : List ℕ) × (u : List ℕ) × (v : List ℕ) × (t : ThriftType) × (bytes ≡ h ++ (u ++ v))
      × SpellsFieldHeader h last id t × InField x u t (SpellsItem n u t x) × SpellsFields n v id s

  -- a value of a type, as it stands in a list, set or map
  pub SpellsItem : ℕ → List ℕ → ThriftType → Item → Type 0
  SpellsItem n bytes t (truth_item c) = IsTruthType t × (b : ℕ) × (bytes ≡ b ∷ []) × ((b == 1) ≡ c)
  SpellsItem n bytes t (byte_item b) = (t ≡ byte_type) × (bytes ≡ b ∷ [])
  SpellsItem n bytes t (i16_item z) = (t ≡ i16_type) × SpellsSigned (2 ^ 64) bytes z
  SpellsItem n bytes t (i32_item z) = (t ≡ i32_type) × SpellsSigned (2 ^ 64) bytes z
  SpellsItem n bytes t (i64_item z) = (t ≡ i64_type) × SpellsSigned (2 ^ 64) bytes z
  SpellsItem n bytes t (double_item b) = (t ≡ double_type) × (bytes ≡ b) × (length b ≡ 8)
  SpellsItem n bytes t (binary_item b) = (t ≡ binary_type) × (v : List ℕ) × (bytes ≡ v ++ b) × SpellsNumber v (length b)
  SpellsItem (suc n) bytes t (list_item e xs) = (t ≡ list_type) × (h : List ℕ) × (u : List ℕ) × (bytes ≡ h ++ u)
      × SpellsListHeader h (count_items xs) e × SpellsItems n u e xs
  SpellsItem (suc n) bytes t (set_item e xs) = (t ≡ set_type) × (h : List ℕ) × (u : List ℕ) × (bytes ≡ h ++ u)
      × SpellsListHeader h (count_items xs) e × SpellsItems n u e xs
  SpellsItem (suc n) bytes t empty_map_item = (t ≡ map_type) × SpellsNumber bytes 0
  SpellsItem (suc n) bytes t (map_item k v xs) = (t ≡ map_type) × (h : List ℕ) × (u : List ℕ) × (bytes ≡ h ++ u)
      × SpellsMapHeader h (count_pairs xs) k v × SpellsPairs n u k v xs
  SpellsItem (suc n) bytes t (struct_item s) = (t ≡ struct_type) × SpellsFields n bytes (pos 0) s
  SpellsItem zero bytes t x = ⊥

  -- values of a type, one after another
  pub SpellsItems : ℕ → List ℕ → ThriftType → Items → Type 0
  SpellsItems n bytes t no_items = bytes ≡ []
  SpellsItems n bytes t (item x xs) = (u : List ℕ) × (v : List ℕ) × (bytes ≡ u ++ v) × SpellsItem n u t x × SpellsItems n v t xs

  -- pairs of two types, one after another
  pub SpellsPairs : ℕ → List ℕ → ThriftType → ThriftType → Pairs → Type 0
  SpellsPairs n bytes k v no_pairs = bytes ≡ []
  SpellsPairs n bytes k v (pair x y xs) = (a : List ℕ) × (b : List ℕ) × (c : List ℕ) × (bytes ≡ a ++ (b ++ c)) × SpellsItem n a k x
      × SpellsItem n b v y × SpellsPairs n c k v xs

-- whether the bytes, all of them, spell the struct, in which nothing stands inside 32 others
abbrev pub SpellsStruct : List ℕ → Struct → Type 0
SpellsStruct bytes s = SpellsFields (greatest_nesting - 1) bytes (pos 0) s
