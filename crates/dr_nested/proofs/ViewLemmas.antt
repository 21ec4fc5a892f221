-- The views at each constructor.
use Rattle.std.specs.Prelude.{◌≡◌, ℕ, Bool, List, [], ◌∷◌, ◌++◌, string_bytes, Some, None, Vec}
use Rattle.std.specs.List.{list_any}
use Rattle.dr_meaning.specs.SchemaText.{append_fields}
use Rattle.std.specs.declared.alloc.Global.{Global}
use Rattle.std.proofs.Common.{rules, refl, ap}
use Rattle.dr_meaning.specs.Schema as tree
use Rattle.dr_meaning.specs.Record as record_tree
use Rattle.dr_nested.specs.declared.shape.Shape as shapes
use Rattle.dr_nested.specs.declared.shape.Kind.{Kind}
use Rattle.dr_nested.specs.declared.shape.Field as fields
use Rattle.dr_nested.specs.declared.record.Instance as instances
use Rattle.dr_nested.specs.declared.record.Slot as slots
use Rattle.dr_nested.specs.declared.record.Node as nodes
use Rattle.dr_nested.specs.declared.record.Value.{Value}
use Rattle.dr_nested.specs.Views.{shape_view, field_view, fields_view, kind_view, rep_view, node_view, slot_view, instance_view, slots_view, instances_view, value_view}

pub view-leaf : (k : Kind) → shape_view (shapes.Leaf k) ≡ tree.leaf (kind_view k)
view-leaf k = search (rules, shapes.the_lemmas)

pub view-group : (fs : Vec fields.Field Global) → shape_view (shapes.Group fs) ≡ tree.group (fields_view fs.items)
view-group fs = search (rules, shapes.the_lemmas)

pub view-field : (f : fields.Field) → field_view f ≡ record { name = string_bytes f.name; repetition = rep_view f.rep; shape = shape_view f.shape }
view-field f = search (rules, shapes.the_lemmas, fields.the_lemmas)

pub view-atom : (v : Value) → instance_view (instances.Atom v) ≡ record_tree.atom (value_view v)
view-atom v = search (rules, instances.the_lemmas)

pub view-inner : (n : nodes.Node) → instance_view (instances.Group n) ≡ record_tree.inner (node_view n)
view-inner n = search (rules, instances.the_lemmas)

pub view-gap : slot_view slots.Gap ≡ None
view-gap = search (rules, slots.the_lemmas)

pub view-held : (xs : Vec instances.Instance Global) → slot_view (slots.Held xs) ≡ Some (instances_view xs.items)
view-held xs = search (rules, slots.the_lemmas)

pub view-node : (n : nodes.Node) → node_view n ≡ slots_view n.slots.items
view-node n = search (rules, nodes.the_lemmas)

-- the view of a group's fields behind others
pub fields_view_append : (fs gs : List fields.Field) → fields_view (fs ++ gs) ≡ append_fields (fields_view fs) (fields_view gs)
fields_view_append [] gs = refl
fields_view_append (f ∷ fs) gs = ap (tree.field (field_view f).name (field_view f).repetition (field_view f).shape) (fields_view_append fs gs)

-- a field by its parts
pub fields_view-one : (f : fields.Field) → fields_view (f ∷ []) ≡ tree.field (string_bytes f.name) (rep_view f.rep) (shape_view f.shape) tree.no_fields
fields_view-one f = rw (view-field f) refl

-- a test of the names of fields
pub any_names : (p : List ℕ → Bool) (fs : List fields.Field) → list_any p (tree.field_names (fields_view fs)) ≡ list_any (λ (f : fields.Field). p (string_bytes f.name)) fs
any_names p [] = refl
any_names p (f ∷ fs) = rw (view-field f, any_names p fs) refl
