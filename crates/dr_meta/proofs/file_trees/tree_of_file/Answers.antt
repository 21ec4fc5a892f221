use Rattle.std.proofs.Common.{◌∙◌, sym, ap, ap₂, map, pos}
use Rattle.dr_formats.specs.Compact.{stop, struct_field, Item}
use Rattle.dr_formats.specs.Metadata as metadata
use Rattle.dr_formats.specs.Metadata.{with_field, with_i32, count_i64}
use Rattle.dr_compact.specs.Views.{field_view, item_view}
use Rattle.dr_compact.specs.declared.tree.Item.TheVariants as items
use Rattle.dr_compact.proofs.StepLemmas.{onto_stop}
use Rattle.dr_compact.proofs.ViewLemmas.{view-tree_of}
use Rattle.dr_meta.specs.Views as views
use Rattle.dr_meta.proofs.BuildLemmas.{onto_nothing}
use Rattle.dr_formats.specs.Compact.{binary_item}
use Rattle.dr_meta.proofs.BuildLemmas.{structs_made}
use Rattle.dr_meta.proofs.file_trees.tree_of_file.Goals as goal

pub returns : goal.returns
returns c =
    view-tree_of c.put_some_binary.new.fields ∙ (sym (onto_stop (map field_view c.put_some_binary.new.fields.items)) ∙ (c.in_ok-put_some_binary.ensures stop ∙ (c.in_ok-put_structs-2.ensures _ ∙ (c.in_ok-put_count64.ensures _ ∙ (c.in_ok-put_structs.ensures _ ∙ (c.in_ok-put_some_i32.ensures _ ∙ ((onto_nothing _ _ c.new-fields.ensures.items ∙ ap₂ (λ (x y : Item). with_i32 1 c.args.meta.now.version (struct_field (pos 2) x (count_i64 3 c.args.meta.now.rows.number (struct_field (pos 4) y (metadata.with_field 6 binary_item (views.file_view c.args.meta.now).created_by stop))))) (structs_made metadata.element_tree views.item_view c.in_ok-elements.elements.items c.args.meta.now.schema.items (c.in_ok-elements.ensures ∙ ap (map (λ x. metadata.element_tree (views.item_view x))) c.deref.ensures.value)) (structs_made metadata.group_tree views.group_view c.in_ok-groups.groups.items c.args.meta.now.groups.items (c.in_ok-groups.ensures ∙ ap (map (λ x. metadata.group_tree (views.group_view x))) c.deref-2.ensures.value))))))))))
