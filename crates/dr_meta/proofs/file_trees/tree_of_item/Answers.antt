use Rattle.std.proofs.Common.{◌∙◌, sym, ap, map, pos}
use Rattle.dr_formats.specs.Compact.{stop, struct_field, Item}
use Rattle.dr_formats.specs.Metadata as metadata
use Rattle.dr_formats.specs.Metadata.{with_i32}
use Rattle.dr_compact.specs.Views.{field_view}
use Rattle.dr_compact.specs.declared.tree.Item.TheVariants as items
use Rattle.dr_compact.proofs.StepLemmas.{onto_stop}
use Rattle.dr_compact.proofs.ViewLemmas.{view-tree_of, view-binary}
use Rattle.dr_meta.specs.Views as views
use Rattle.dr_meta.proofs.BuildLemmas.{onto_nothing}
use Rattle.dr_meta.proofs.file_trees.tree_of_item.Goals as goal

pub returns : goal.returns
returns c =
    view-tree_of c.put_some_i32-5.new.fields ∙ (sym (onto_stop (map field_view c.put_some_i32-5.new.fields.items)) ∙ (c.in_ok-put_some_i32-5.ensures stop ∙ (c.in_ok-put_some_i32-4.ensures _ ∙ (c.in_ok-put.ensures _ ∙ (c.in_ok-put_some_i32-3.ensures _ ∙ (c.in_ok-put_some_i32-2.ensures _ ∙ (c.in_ok-put_some_i32.ensures _ ∙ ((onto_nothing _ _ c.new-fields.ensures.items ∙ ap (λ (x : Item). with_i32 1 c.args.item.now.kind (with_i32 2 c.args.item.now.kind_length (with_i32 3 c.args.item.now.repetition (struct_field (pos 4) x (with_i32 5 c.args.item.now.children (with_i32 6 c.args.item.now.converted stop)))))) (view-binary c.args.item.now.name))))))))))
