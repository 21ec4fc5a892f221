-- The steps of reading, in the definitions' words.
use Rattle.std.specs.Prelude.{ℕ, zero, suc, [], ◌∷◌, ◌++◌, ℤ, Option, Some, None}
use Rattle.dr_formats.specs.Reading.{Reading, got, refused, Reader, give, ◌>>=◌, byte_as}
use Rattle.dr_formats.specs.Varint.{varint}
use Rattle.dr_formats.specs.Compact.{CompactFault, malformed, too_deep, ThriftType, Item, ListHeader, MapTypes, list_header, items, value_of, map_of}
use Rattle.dr_formats.specs.Compact.{FieldHeader, stop_header, short_header, long_header, field_header, field_id, Struct, struct_of}
use Rattle.dr_compact.specs.declared.thrift_type.ThriftType as types
use Rattle.dr_compact.specs.Types.{type_view}
use Rattle.dr_compact.specs.Views.{SeenValues, Elements}

-- a size with an element type
abbrev pub list_header_view : ℕ × types.ThriftType → ListHeader
list_header_view h = record { size = h.0; element = type_view h.1 }

-- the types of keys and values
abbrev pub map_types_view : types.ThriftType × types.ThriftType → MapTypes
map_types_view t = record { key = type_view t.0; value = type_view t.1 }

-- a field's id and type
pub record FieldStart : Type 0 where
  pub id : ℤ
  pub type : ThriftType

abbrev pub start_view : ℤ × types.ThriftType → FieldStart
start_view f = record { id = f.0; type = type_view f.1 }

abbrev pub start_of : ℤ → ThriftType → FieldStart
start_of i t = record { id = i; type = t }

-- the id behind a header without one
abbrev pub start_behind : FieldHeader → Reader CompactFault (Option FieldStart)
start_behind stop_header = give None
start_behind (short_header id t) = give (Some (start_of id t))
start_behind (long_header t) = do
  id ← field_id
  give (Some (start_of id t))

-- the id and type of the field behind the one with the last id, or the struct's end
abbrev pub field_start : ℤ → Reader CompactFault (Option FieldStart)
field_start last = do
  h ← byte_as malformed malformed (field_header last)
  start_behind h

-- a list or a set without its type, where so many may stand in one another
abbrev pub elements : ℕ → Reader CompactFault Elements
elements zero = refused too_deep
elements (suc n) = do
  h ← list_header
  xs ← items (value_of n h.element) h.size
  give (record { element = h.element; items = xs })

-- a map without its type
abbrev pub map_inside : ℕ → Reader CompactFault Item
map_inside zero = refused too_deep
map_inside (suc n) = do
  k ← varint malformed malformed
  map_of (value_of n) k

-- a struct without its type
abbrev pub struct_inside : ℕ → Reader CompactFault Struct
struct_inside zero = refused too_deep
struct_inside (suc n) = struct_of (value_of n)

-- values and one more
abbrev pub one_more : SeenValues → Item → SeenValues
one_more v x = record { element = v.element; values = v.values ++ x ∷ [] }

-- what is read, joined to the values before it
abbrev pub joined : SeenValues → Reading CompactFault Item → Reading CompactFault SeenValues
joined v (got x rest) = got (one_more v x) rest
joined v (refused e rest) = refused e rest
