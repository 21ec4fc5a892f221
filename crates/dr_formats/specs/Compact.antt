-- Structs in the Thrift compact protocol: their trees, how they are read, the first fault, and the one spelling that is written.
use Rattle.std.specs.Prelude.{ℕ, zero, suc, ◌+◌, ◌-◌, ◌*◌, ◌/◌, ◌%◌, ◌^◌, List, [], ◌∷◌, ◌++◌, length, Bool, true, false, ◌&&◌, ◌==◌, nat_lt}
use Rattle.std.specs.Prelude.{if◌then◌else◌, ℤ, pos, negsuc, ◌+ℤ◌, ◌-ℤ◌, neg_ℤ, int_le, int_lt, Option, Some, None, option_map, option_and_then}
use Rattle.dr_meaning.specs.Record.{in_int64}
use Rattle.dr_formats.specs.Reading.{Reading, got, refused, Reader, give, ◌>>=◌, byte_as, bytes_of}
use Rattle.dr_formats.specs.Varint.{varint, varint_below, varint_bytes, zigzag, from_zigzag}

-- ---- trees

-- the types of the compact protocol, by their numbers from 1 to 12 ("Struct encoding")
pub data ThriftType : Type 0 where
  true_type : ThriftType
  false_type : ThriftType
  byte_type : ThriftType
  i16_type : ThriftType
  i32_type : ThriftType
  i64_type : ThriftType
  double_type : ThriftType
  binary_type : ThriftType
  list_type : ThriftType
  set_type : ThriftType
  map_type : ThriftType
  struct_type : ThriftType

mutual
  -- the fields of a struct, in order, each with its id and its value
  pub data Struct : Type 0 where
    stop : Struct
    struct_field : ℤ → Item → Struct → Struct

  -- a value; a double keeps its eight bytes; lists, sets and maps keep the types of what is in them, of which 1 and 2 both stand for truth values; a
  -- map without pairs keeps none
  pub data Item : Type 0 where
    truth_item : Bool → Item
    byte_item : ℕ → Item
    i16_item : ℤ → Item
    i32_item : ℤ → Item
    i64_item : ℤ → Item
    double_item : List ℕ → Item
    binary_item : List ℕ → Item
    list_item : ThriftType → Items → Item
    set_item : ThriftType → Items → Item
    empty_map_item : Item
    map_item : ThriftType → ThriftType → Pairs → Item
    struct_item : Struct → Item

  -- the values of a list or set
  pub data Items : Type 0 where
    no_items : Items
    item : Item → Items → Items

  -- the pairs of a map, each a key and a value
  pub data Pairs : Type 0 where
    no_pairs : Pairs
    pair : Item → Item → Pairs → Pairs

-- the second of two values, where the first isn't there: of two fields with one id the last one counts
abbrev pub or_else : Option Item → Option Item → Option Item
or_else None other = other
or_else (Some x) other = Some x

-- the value of the field with this id, if there is one
abbrev pub find_field : ℤ → Struct → Option Item
find_field i stop = None
find_field i (struct_field j x s) = or_else (find_field i s) (if int_le i j && int_le j i then Some x else None)

-- ---- types and their numbers

-- the number of a type
abbrev pub type_number : ThriftType → ℕ
type_number true_type = 1
type_number false_type = 2
type_number byte_type = 3
type_number i16_type = 4
type_number i32_type = 5
type_number i64_type = 6
type_number double_type = 7
type_number binary_type = 8
type_number list_type = 9
type_number set_type = 10
type_number map_type = 11
type_number struct_type = 12

-- the types, from number 1 on
abbrev pub all_types : List ThriftType
all_types = true_type ∷ false_type ∷ byte_type ∷ i16_type ∷ i32_type ∷ i64_type ∷ double_type ∷ binary_type ∷ list_type ∷ set_type ∷ map_type ∷ struct_type ∷ []

-- the nth of these types, from 1
abbrev pub nth_type : List ThriftType → ℕ → Option ThriftType
nth_type [] n = None
nth_type (t ∷ ts) zero = None
nth_type (t ∷ ts) (suc n) = if n == 0 then Some t else nth_type ts n

-- the type of a number; any other than 1 to 12 is malformed
abbrev pub type_of : ℕ → Option ThriftType
type_of n = nth_type all_types n

-- ---- faults

-- the bytes spell no struct; a struct, list, set or map stands inside 32 others
pub data CompactFault : Type 0 where
  malformed : CompactFault
  too_deep : CompactFault

-- how many structs, lists, sets and maps may stand in one another
abbrev pub greatest_nesting : ℕ
greatest_nesting = 32

-- ---- reading values

-- a zigzag varint
abbrev pub signed_varint : Reader CompactFault ℤ
signed_varint = do
  n ← varint malformed malformed
  give (from_zigzag n)

-- a truth value in one byte, 1 for true, any other for false
abbrev pub truth_byte : ℕ → Option Item
truth_byte b = Some (truth_item (b == 1))

-- one byte, as it is
abbrev pub plain_byte : ℕ → Option Item
plain_byte b = Some (byte_item b)

-- a length and so many bytes
abbrev pub binary : Reader CompactFault (List ℕ)
binary = do
  n ← varint malformed malformed
  bytes_of malformed n

-- how many values of a type a list or set has
pub record ListHeader : Type 0 where
  pub size : ℕ
  pub element : ThriftType

-- the size and the type in the first byte of a list or set
abbrev pub list_header_byte : ℕ → Option ListHeader
list_header_byte b = option_map (λ t. record { size = b / 16; element = t }) (type_of (b % 16))

-- `size << 4 | type`, where the size 15 means that the size follows
abbrev pub list_size : ListHeader → Reader CompactFault ListHeader
list_size h = if h.size == 15 then (do n ← varint malformed malformed; give (record { size = n; element = h.element })) else give h

-- the header of a list or set
abbrev pub list_header : Reader CompactFault ListHeader
list_header = do
  h ← byte_as malformed malformed list_header_byte
  list_size h

-- the types of keys and values of a map, `key type << 4 | value type`
pub record MapTypes : Type 0 where
  pub key : ThriftType
  pub value : ThriftType

-- the two types in a byte
abbrev pub map_types : ℕ → Option MapTypes
map_types b = option_and_then (λ (k : ThriftType). option_map (λ v. record { key = k; value = v }) (type_of (b % 16))) (type_of (b / 16))

-- so many values, each read alike
abbrev pub items : Reader CompactFault Item → ℕ → Reader CompactFault Items
items read zero = give no_items
items read (suc n) = do
  x ← read
  xs ← items read n
  give (item x xs)

-- so many pairs of a key and a value
abbrev pub pairs : Reader CompactFault Item → Reader CompactFault Item → ℕ → Reader CompactFault Pairs
pairs key value zero = give no_pairs
pairs key value (suc n) = do
  k ← key
  v ← value
  rest ← pairs key value n
  give (pair k v rest)

-- a map's size; where it is 0 that is all, else the types and the pairs follow
abbrev pub map_of : (ThriftType → Reader CompactFault Item) → ℕ → Reader CompactFault Item
map_of value zero = give empty_map_item
map_of value (suc n) = do
  t ← byte_as malformed malformed map_types
  xs ← pairs (value t.key) (value t.value) (suc n)
  give (map_item t.key t.value xs)

-- ---- reading structs

-- what a byte begins: the struct's end; a field with its id; a field whose id follows
pub data FieldHeader : Type 0 where
  stop_header : FieldHeader
  short_header : ℤ → ThriftType → FieldHeader
  long_header : ThriftType → FieldHeader

-- at least -2^15, below 2^15
abbrev pub in_int16 : ℤ → Bool
in_int16 z = int_le (neg_ℤ (pos (2 ^ 15))) z && int_lt z (pos (2 ^ 15))

-- the delta from the last id; 0 where the id follows
abbrev pub with_delta : ℤ → ℕ → ThriftType → Option FieldHeader
with_delta last zero t = Some (long_header t)
with_delta last (suc d) t = if in_int16 (last +ℤ pos (suc d)) then Some (short_header (last +ℤ pos (suc d)) t) else None

-- `delta << 4 | type`, or 0 for the end
abbrev pub field_header : ℤ → ℕ → Option FieldHeader
field_header last b = if b == 0 then Some stop_header else option_and_then (with_delta last (b / 16)) (type_of (b % 16))

-- an id of 16 bits, zigzag
abbrev pub field_id : Reader CompactFault ℤ
field_id = do
  n ← varint_below (2 ^ 16) malformed malformed
  give (from_zigzag n)

-- a value in a field; a truth value is its type alone there
abbrev pub field_value : (ThriftType → Reader CompactFault Item) → ThriftType → Reader CompactFault Item
field_value value true_type = give (truth_item true)
field_value value false_type = give (truth_item false)
field_value value t = value t

-- the value of a field with this id, and the fields behind it
abbrev pub field_and_rest : (ThriftType → Reader CompactFault Item) → (ℤ → Reader CompactFault Struct) → ThriftType → ℤ → Reader CompactFault Struct
field_and_rest value rest t id = do
  x ← field_value value t
  s ← rest id
  give (struct_field id x s)

-- what a byte begins, read to the struct's end
abbrev pub after_header : (ThriftType → Reader CompactFault Item) → (ℤ → Reader CompactFault Struct) → FieldHeader → Reader CompactFault Struct
after_header value rest stop_header = give stop
after_header value rest (short_header id t) = field_and_rest value rest t id
after_header value rest (long_header t) = do
  id ← field_id
  field_and_rest value rest t id

-- the fields of a struct, at most so many, with the last id before them
abbrev pub fields : (ThriftType → Reader CompactFault Item) → ℕ → ℤ → Reader CompactFault Struct
fields value zero last = refused malformed
fields value (suc k) last = do
  h ← byte_as malformed malformed (field_header last)
  after_header value (fields value k) h

-- a struct: each field takes a byte at least, so there are at most as many as bytes
abbrev pub struct_of : (ThriftType → Reader CompactFault Item) → Reader CompactFault Struct
struct_of value bs = fields value (length bs) (pos 0) bs

-- a value of a type as it stands in a list, set or map, with at most so many structs, lists, sets and maps in one another
abbrev pub value_of : ℕ → ThriftType → Reader CompactFault Item
value_of n true_type = byte_as malformed malformed truth_byte
value_of n false_type = byte_as malformed malformed truth_byte
value_of n byte_type = byte_as malformed malformed plain_byte
value_of n i16_type = do
  z ← signed_varint
  give (i16_item z)
value_of n i32_type = do
  z ← signed_varint
  give (i32_item z)
value_of n i64_type = do
  z ← signed_varint
  give (i64_item z)
value_of n double_type = do
  b ← bytes_of malformed 8
  give (double_item b)
value_of n binary_type = do
  b ← binary
  give (binary_item b)
value_of zero list_type = refused too_deep
value_of zero set_type = refused too_deep
value_of zero map_type = refused too_deep
value_of zero struct_type = refused too_deep
value_of (suc n) list_type = do
  h ← list_header
  xs ← items (value_of n h.element) h.size
  give (list_item h.element xs)
value_of (suc n) set_type = do
  h ← list_header
  xs ← items (value_of n h.element) h.size
  give (set_item h.element xs)
value_of (suc n) map_type = do
  k ← varint malformed malformed
  map_of (value_of n) k
value_of (suc n) struct_type = do
  s ← struct_of (value_of n)
  give (struct_item s)

-- the struct at the front of bytes and the bytes behind it, or the first fault: too_deep at the value's first byte, malformed at the first byte with
-- which no struct goes on, or at the end
unfoldable pub read_struct : Reader CompactFault Struct
read_struct = struct_of (value_of (greatest_nesting - 1))

-- a fault and its place, counted in bytes from the front
pub record PlacedFault : Type 0 where
  pub place : ℕ
  pub fault : CompactFault

-- the fault of what was read, with its place in these bytes
abbrev pub fault_in : List ℕ → Reading CompactFault Struct → Option PlacedFault
fault_in bytes (got s rest) = None
fault_in bytes (refused f rest) = Some (record { place = length bytes - length rest; fault = f })

-- the first fault of bytes that begin with no struct
abbrev pub struct_fault : List ℕ → Option PlacedFault
struct_fault bytes = fault_in bytes (read_struct bytes)

-- ---- the spelling that is written: shortest varints, and the short form of a field's header where it fits

-- the type of a value
abbrev pub item_type : Item → ThriftType
item_type (truth_item true) = true_type
item_type (truth_item false) = false_type
item_type (byte_item b) = byte_type
item_type (i16_item z) = i16_type
item_type (i32_item z) = i32_type
item_type (i64_item z) = i64_type
item_type (double_item b) = double_type
item_type (binary_item b) = binary_type
item_type (list_item t xs) = list_type
item_type (set_item t xs) = set_type
item_type empty_map_item = map_type
item_type (map_item k v xs) = map_type
item_type (struct_item s) = struct_type

-- how many values there are
abbrev pub count_items : Items → ℕ
count_items no_items = 0
count_items (item x xs) = suc (count_items xs)

-- how many pairs there are
abbrev pub count_pairs : Pairs → ℕ
count_pairs no_pairs = 0
count_pairs (pair k v xs) = suc (count_pairs xs)

-- the zigzag varint that is written for a number
abbrev pub signed_bytes : ℤ → List ℕ
signed_bytes z = varint_bytes (zigzag z)

-- the header that is written for a list or set of so many values
abbrev pub list_header_bytes : ℕ → ThriftType → List ℕ
list_header_bytes n t = if nat_lt n 15 then (n * 16 + type_number t) ∷ [] else (240 + type_number t) ∷ varint_bytes n

-- the header of a field whose id is that of the last one and this much more
abbrev pub header_by_delta : ℤ → ℤ → ThriftType → List ℕ
header_by_delta (pos zero) id t = type_number t ∷ signed_bytes id
header_by_delta (pos (suc d)) id t = if nat_lt d 15 then (suc d * 16 + type_number t) ∷ [] else type_number t ∷ signed_bytes id
header_by_delta (negsuc d) id t = type_number t ∷ signed_bytes id

-- the header that is written for a field behind the one with the last id
abbrev pub header_bytes : ℤ → ℤ → ThriftType → List ℕ
header_bytes last id t = header_by_delta (id -ℤ last) id t

-- the bytes of a value in a field: none for a truth value
abbrev pub in_field : Item → List ℕ → List ℕ
in_field (truth_item b) bytes = []
in_field x bytes = bytes

abbrev mutual
  -- the bytes of the fields behind the one with the last id, and of the end
  pub fields_bytes : ℤ → Struct → List ℕ
  fields_bytes last stop = 0 ∷ []
  fields_bytes last (struct_field id x s) = header_bytes last id (item_type x) ++ (in_field x (item_bytes x) ++ fields_bytes id s)

  -- the bytes of a value, as it stands in a list, set or map
  pub item_bytes : Item → List ℕ
  item_bytes (truth_item true) = 1 ∷ []
  item_bytes (truth_item false) = 0 ∷ []
  item_bytes (byte_item b) = b ∷ []
  item_bytes (i16_item z) = signed_bytes z
  item_bytes (i32_item z) = signed_bytes z
  item_bytes (i64_item z) = signed_bytes z
  item_bytes (double_item b) = b
  item_bytes (binary_item b) = varint_bytes (length b) ++ b
  item_bytes (list_item t xs) = list_header_bytes (count_items xs) t ++ items_bytes xs
  item_bytes (set_item t xs) = list_header_bytes (count_items xs) t ++ items_bytes xs
  item_bytes empty_map_item = 0 ∷ []
  item_bytes (map_item k v xs) = varint_bytes (count_pairs xs) ++ ((type_number k * 16 + type_number v) ∷ pairs_bytes xs)
  item_bytes (struct_item s) = fields_bytes (pos 0) s

  -- the bytes of values, one after another
  pub items_bytes : Items → List ℕ
  items_bytes no_items = []
  items_bytes (item x xs) = item_bytes x ++ items_bytes xs

  -- the bytes of pairs, one after another
  pub pairs_bytes : Pairs → List ℕ
  pairs_bytes no_pairs = []
  pairs_bytes (pair k v xs) = item_bytes k ++ (item_bytes v ++ pairs_bytes xs)

-- the bytes that are written for a struct
unfoldable pub struct_bytes : Struct → List ℕ
struct_bytes s = fields_bytes (pos 0) s

-- ---- the trees that can be spelled

-- whether it is a truth value
abbrev pub is_truth : Item → Bool
is_truth (truth_item b) = true
is_truth x = false

-- whether the value is of the type, as it stands in a list, set or map
abbrev pub has_type : ThriftType → Item → Bool
has_type true_type x = is_truth x
has_type false_type x = is_truth x
has_type t x = type_number t == type_number (item_type x)

abbrev mutual
  -- whether the fields of a struct can be spelled: ids of 16 bits, and values that nest at most so deep
  pub is_struct : ℕ → Struct → Bool
  is_struct n stop = true
  is_struct n (struct_field id x s) = in_int16 id && is_item n x && is_struct n s

  -- whether a value can be spelled: numbers of 64 bits, lengths and sizes below 2^64, what is in a list, set or map of its type, and nesting at most so deep
  pub is_item : ℕ → Item → Bool
  is_item n (truth_item b) = true
  is_item n (byte_item b) = true
  is_item n (i16_item z) = in_int64 z
  is_item n (i32_item z) = in_int64 z
  is_item n (i64_item z) = in_int64 z
  is_item n (double_item b) = length b == 8
  is_item n (binary_item b) = nat_lt (length b) (2 ^ 64)
  is_item (suc n) (list_item t xs) = nat_lt (count_items xs) (2 ^ 64) && are_items n t xs
  is_item (suc n) (set_item t xs) = nat_lt (count_items xs) (2 ^ 64) && are_items n t xs
  is_item (suc n) empty_map_item = true
  is_item (suc n) (map_item k v xs) = nat_lt 0 (count_pairs xs) && nat_lt (count_pairs xs) (2 ^ 64) && are_pairs n k v xs
  is_item (suc n) (struct_item s) = is_struct n s
  is_item zero x = false

  -- whether values can be spelled, each of the type
  pub are_items : ℕ → ThriftType → Items → Bool
  are_items n t no_items = true
  are_items n t (item x xs) = has_type t x && is_item n x && are_items n t xs

  -- whether pairs can be spelled, each of the two types
  pub are_pairs : ℕ → ThriftType → ThriftType → Pairs → Bool
  are_pairs n k v no_pairs = true
  are_pairs n k v (pair x y xs) = has_type k x && has_type v y && is_item n x && is_item n y && are_pairs n k v xs

-- whether a struct can be spelled: nothing nests deeper than is read
abbrev pub is_tree : Struct → Bool
is_tree s = is_struct (greatest_nesting - 1) s
