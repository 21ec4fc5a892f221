-- The views at each constructor.
use Rattle.std.specs.Prelude.{◌≡◌, ℕ, ℤ, Bool, List, [], ◌∷◌, map, Vec, Box}
use Rattle.std.specs.declared.alloc.Global.{Global}
use Rattle.std.proofs.Common.{rules, refl, ap, ◌∙◌}
use denote.Ref.{Bor}
use Rattle.dr_formats.specs.Compact as compact
use Rattle.dr_compact.specs.declared.tree.TruthType.{TruthType}
use Rattle.dr_compact.specs.declared.tree.Item as items
use Rattle.dr_compact.specs.declared.tree.Values as lists
use Rattle.dr_compact.specs.declared.tree.Field as fields
use Rattle.dr_compact.specs.declared.tree.Map as maps
use Rattle.dr_compact.specs.declared.tree.Tree as trees
use Rattle.dr_compact.specs.Views.{item_view, values_view, field_view, map_view, tree_view, fields_view, items_from, map_from, truth_type_view, SeenValues}

pub view-truth : (b : Bool) → item_view (items.Truth b) ≡ compact.truth_item b
view-truth b = search (rules, items.the_lemmas)

pub view-byte : (b : ℕ) → item_view (items.Byte b) ≡ compact.byte_item b
view-byte b = search (rules, items.the_lemmas)

pub view-i16 : (z : ℤ) → item_view (items.I16 z) ≡ compact.i16_item z
view-i16 z = search (rules, items.the_lemmas)

pub view-i64 : (z : ℤ) → item_view (items.I64 z) ≡ compact.i64_item z
view-i64 z = search (rules, items.the_lemmas)

pub view-double : (b : List ℕ) → item_view (items.Double b) ≡ compact.double_item b
view-double b = search (rules, items.the_lemmas)

pub view-i32 : (z : ℤ) → item_view (items.I32 z) ≡ compact.i32_item z
view-i32 z = search (rules, items.the_lemmas)

pub view-binary : (b : Bor (List ℕ)) → item_view (items.Binary b) ≡ compact.binary_item b.now
view-binary b = search (rules, items.the_lemmas)

pub view-list : (v : lists.Values) → item_view (items.List v) ≡ compact.list_item (values_view v).element (items_from (values_view v).values)
view-list v = search (rules, items.the_lemmas)

pub view-set : (v : lists.Values) → item_view (items.Set v) ≡ compact.set_item (values_view v).element (items_from (values_view v).values)
view-set v = search (rules, items.the_lemmas)

pub view-map : (m : Box maps.Map Global) → item_view (items.Map m) ≡ map_view m.value
view-map m = search (rules, items.the_lemmas)

pub view-struct : (t : trees.Tree) → item_view (items.Struct t) ≡ compact.struct_item (tree_view t)
view-struct t = search (rules, items.the_lemmas)

-- values of a type
abbrev pub seen : compact.ThriftType → List compact.Item → SeenValues
seen t xs = record { element = t; values = xs }

pub view-truths : (t : TruthType) (v : Vec Bool Global) → values_view (lists.Truths t v) ≡ seen (truth_type_view t) (map compact.truth_item v.items)
view-truths t v = search (rules, lists.the_lemmas)

pub view-bytes : (v : Vec ℕ Global) → values_view (lists.Bytes v) ≡ seen compact.byte_type (map compact.byte_item v.items)
view-bytes v = search (rules, lists.the_lemmas)

pub view-i16s : (v : Vec ℤ Global) → values_view (lists.I16s v) ≡ seen compact.i16_type (map compact.i16_item v.items)
view-i16s v = search (rules, lists.the_lemmas)

pub view-i32s : (v : Vec ℤ Global) → values_view (lists.I32s v) ≡ seen compact.i32_type (map compact.i32_item v.items)
view-i32s v = search (rules, lists.the_lemmas)

pub view-i64s : (v : Vec ℤ Global) → values_view (lists.I64s v) ≡ seen compact.i64_type (map compact.i64_item v.items)
view-i64s v = search (rules, lists.the_lemmas)

pub view-doubles : (v : Vec (List ℕ) Global) → values_view (lists.Doubles v) ≡ seen compact.double_type (map compact.double_item v.items)
view-doubles v = search (rules, lists.the_lemmas)

abbrev pub lent_binary : Bor (List ℕ) → compact.Item
lent_binary b = compact.binary_item b.now

pub view-binaries : (v : Vec (Bor (List ℕ)) Global) → values_view (lists.Binaries v) ≡ seen compact.binary_type (map lent_binary v.items)
view-binaries v = search (rules, lists.the_lemmas)

map-map : {A B C : Type 0} (f : B → C) (g : A → B) (xs : List A) → map f (map g xs) ≡ map (λ x. f (g x)) xs
map-map f g [] = refl
map-map f g (x ∷ xs) = ap (λ ys. f (g x) ∷ ys) (map-map f g xs)

abbrev list_of_seen : SeenValues → compact.Item
list_of_seen x = compact.list_item x.element (items_from x.values)

abbrev set_of_seen : SeenValues → compact.Item
set_of_seen x = compact.set_item x.element (items_from x.values)

abbrev pub as_list : lists.Values → compact.Item
as_list v = list_of_seen (values_view v)

abbrev pub as_set : lists.Values → compact.Item
as_set v = set_of_seen (values_view v)

abbrev pub as_struct : trees.Tree → compact.Item
as_struct t = compact.struct_item (tree_view t)

seen_lists : (v : Vec lists.Values Global) → values_view (lists.Lists v) ≡ seen compact.list_type (map list_of_seen (map values_view v.items))
seen_lists v = search (rules, lists.the_lemmas)

seen_sets : (v : Vec lists.Values Global) → values_view (lists.Sets v) ≡ seen compact.set_type (map set_of_seen (map values_view v.items))
seen_sets v = search (rules, lists.the_lemmas)

seen_structs : (v : Vec trees.Tree Global) → values_view (lists.Structs v) ≡ seen compact.struct_type (map compact.struct_item (map tree_view v.items))
seen_structs v = search (rules, lists.the_lemmas)

pub view-lists : (v : Vec lists.Values Global) → values_view (lists.Lists v) ≡ seen compact.list_type (map as_list v.items)
view-lists v = seen_lists v ∙ ap (seen compact.list_type) (map-map list_of_seen values_view v.items)

pub view-sets : (v : Vec lists.Values Global) → values_view (lists.Sets v) ≡ seen compact.set_type (map as_set v.items)
view-sets v = seen_sets v ∙ ap (seen compact.set_type) (map-map set_of_seen values_view v.items)

pub view-maps : (v : Vec maps.Map Global) → values_view (lists.Maps v) ≡ seen compact.map_type (map map_view v.items)
view-maps v = search (rules, lists.the_lemmas)

pub view-structs : (v : Vec trees.Tree Global) → values_view (lists.Structs v) ≡ seen compact.struct_type (map as_struct v.items)
view-structs v = seen_structs v ∙ ap (seen compact.struct_type) (map-map compact.struct_item tree_view v.items)

pub view-field : (f : fields.Field) → field_view f ≡ record { id = f.id; value = item_view f.item }
view-field f = search (rules, fields.the_lemmas)

pub view-pair : (m : maps.Map) → map_view m ≡ map_from (values_view m.keys) (values_view m.values)
view-pair m = search (rules, maps.the_lemmas)

pub view-tree : (t : trees.Tree) → tree_view t ≡ fields_view (trees.out-Tree t).fields.items
view-tree t = search (rules, trees.the_lemmas)

pub view-tree_of : (fs : Vec fields.Field Global) → tree_view (trees.roll-Tree (record { fields = fs })) ≡ fields_view fs.items
view-tree_of fs = search (rules, trees.the_lemmas)
