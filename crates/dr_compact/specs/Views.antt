-- What trees stand for, in the definitions' words.
use Rattle.std.specs.Prelude.{ℕ, ℤ, List, [], ◌∷◌, map}
use denote.Ref.{Bor}
use Rattle.dr_formats.specs.Compact as compact
use Rattle.dr_compact.specs.declared.tree.TruthType.{TruthType}
use Rattle.dr_compact.specs.declared.tree.Item.{Item, fold-Item}
use Rattle.dr_compact.specs.declared.tree.Item.TheOpen.{Item-F, Values-F, Field-F, Map-F, Tree-F}
use Rattle.dr_compact.specs.declared.tree.Values.{Values, fold-Values}
use Rattle.dr_compact.specs.declared.tree.Field.{Field, fold-Field}
use Rattle.dr_compact.specs.declared.tree.Map.{Map, fold-Map}
use Rattle.dr_compact.specs.declared.tree.Tree.{Tree, fold-Tree}

-- a field whose value has been seen
pub record SeenField : Type 0 where
  pub id : ℤ
  pub value : compact.Item

-- values of one type that have been seen
pub record SeenValues : Type 0 where
  pub element : compact.ThriftType
  pub values : List compact.Item

-- a list or a set without its type
pub record Elements : Type 0 where
  pub element : compact.ThriftType
  pub items : compact.Items

abbrev pub struct_from : List SeenField → compact.Struct
struct_from [] = compact.stop
struct_from (f ∷ fs) = compact.struct_field f.id f.value (struct_from fs)

-- fields before those of a struct
abbrev pub struct_onto : List SeenField → compact.Struct → compact.Struct
struct_onto [] s = s
struct_onto (f ∷ fs) s = compact.struct_field f.id f.value (struct_onto fs s)

abbrev pub items_from : List compact.Item → compact.Items
items_from [] = compact.no_items
items_from (x ∷ xs) = compact.item x (items_from xs)

-- each key with the value at its place
abbrev pub pairs_from : List compact.Item → List compact.Item → compact.Pairs
pairs_from [] vs = compact.no_pairs
pairs_from (k ∷ ks) [] = compact.no_pairs
pairs_from (k ∷ ks) (v ∷ vs) = compact.pair k v (pairs_from ks vs)

-- a map without pairs keeps no types
abbrev pub map_of_pairs : compact.ThriftType → compact.ThriftType → compact.Pairs → compact.Item
map_of_pairs k v compact.no_pairs = compact.empty_map_item
map_of_pairs k v (compact.pair x y xs) = compact.map_item k v (compact.pair x y xs)

abbrev pub map_from : SeenValues → SeenValues → compact.Item
map_from ks vs = map_of_pairs ks.element vs.element (pairs_from ks.values vs.values)

abbrev pub truth_type_view : TruthType → compact.ThriftType
truth_type_view TruthType.True = compact.true_type
truth_type_view TruthType.False = compact.false_type

-- ---- one level, with what is inside already seen

abbrev pub item_step : Item-F compact.Item SeenValues SeenField compact.Item compact.Struct → compact.Item
item_step (Item-F.Truth b) = compact.truth_item b
item_step (Item-F.Byte b) = compact.byte_item b
item_step (Item-F.I16 z) = compact.i16_item z
item_step (Item-F.I32 z) = compact.i32_item z
item_step (Item-F.I64 z) = compact.i64_item z
item_step (Item-F.Double b) = compact.double_item b
item_step (Item-F.Binary b) = compact.binary_item b.now
item_step (Item-F.List v) = compact.list_item v.element (items_from v.values)
item_step (Item-F.Set v) = compact.set_item v.element (items_from v.values)
item_step (Item-F.Map m) = m.value
item_step (Item-F.Struct s) = compact.struct_item s

abbrev pub values_step : Values-F compact.Item SeenValues SeenField compact.Item compact.Struct → SeenValues
values_step (Values-F.Truths t v) = record { element = truth_type_view t; values = map compact.truth_item v.items }
values_step (Values-F.Bytes v) = record { element = compact.byte_type; values = map compact.byte_item v.items }
values_step (Values-F.I16s v) = record { element = compact.i16_type; values = map compact.i16_item v.items }
values_step (Values-F.I32s v) = record { element = compact.i32_type; values = map compact.i32_item v.items }
values_step (Values-F.I64s v) = record { element = compact.i64_type; values = map compact.i64_item v.items }
values_step (Values-F.Doubles v) = record { element = compact.double_type; values = map compact.double_item v.items }
values_step (Values-F.Binaries v) = record { element = compact.binary_type; values = map (λ b. compact.binary_item b.now) v.items }
values_step (Values-F.Lists v) =
    record { element = compact.list_type; values = map (λ (x : SeenValues). compact.list_item x.element (items_from x.values)) v.items }
values_step (Values-F.Sets v) =
    record { element = compact.set_type; values = map (λ (x : SeenValues). compact.set_item x.element (items_from x.values)) v.items }
values_step (Values-F.Maps v) = record { element = compact.map_type; values = v.items }
values_step (Values-F.Structs v) = record { element = compact.struct_type; values = map compact.struct_item v.items }

abbrev pub field_step : Field-F compact.Item SeenValues SeenField compact.Item compact.Struct → SeenField
field_step f = record { id = f.id; value = f.item }

abbrev pub map_step : Map-F compact.Item SeenValues SeenField compact.Item compact.Struct → compact.Item
map_step m = map_from m.keys m.values

abbrev pub tree_step : Tree-F compact.Item SeenValues SeenField compact.Item compact.Struct → compact.Struct
tree_step t = struct_from t.fields.items

-- ---- views

abbrev pub item_view : Item → compact.Item
item_view = fold-Item compact.Item SeenValues SeenField compact.Item compact.Struct item_step values_step field_step map_step tree_step

abbrev pub values_view : Values → SeenValues
values_view = fold-Values compact.Item SeenValues SeenField compact.Item compact.Struct item_step values_step field_step map_step tree_step

abbrev pub field_view : Field → SeenField
field_view = fold-Field compact.Item SeenValues SeenField compact.Item compact.Struct item_step values_step field_step map_step tree_step

abbrev pub map_view : Map → compact.Item
map_view = fold-Map compact.Item SeenValues SeenField compact.Item compact.Struct item_step values_step field_step map_step tree_step

abbrev pub tree_view : Tree → compact.Struct
tree_view = fold-Tree compact.Item SeenValues SeenField compact.Item compact.Struct item_step values_step field_step map_step tree_step

abbrev pub fields_view : List Field → compact.Struct
fields_view fs = struct_from (map field_view fs)

-- a list or a set without its type
abbrev pub elements_view : Values → Elements
elements_view v = record { element = (values_view v).element; items = items_from (values_view v).values }

-- lent bytes
abbrev pub lent_bytes : Bor (List ℕ) → List ℕ
lent_bytes b = b.now
