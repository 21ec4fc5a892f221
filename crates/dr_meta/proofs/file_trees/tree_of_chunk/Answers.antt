use Rattle.std.proofs.Common.{◌∙◌, sym, ap, map, pos}
use Rattle.dr_formats.specs.Compact.{stop, struct_field, struct_item, Item}
use Rattle.dr_formats.specs.Metadata as metadata
use Rattle.dr_formats.specs.Metadata.{with_field, with_i64}
use Rattle.dr_compact.specs.Views.{field_view}
use Rattle.dr_compact.specs.declared.tree.Item.TheVariants as items
use Rattle.dr_compact.proofs.StepLemmas.{onto_stop}
use Rattle.dr_compact.proofs.ViewLemmas.{view-tree_of, view-struct}
use Rattle.dr_meta.specs.Views as views
use Rattle.dr_meta.proofs.BuildLemmas.{onto_nothing}
use Rattle.dr_formats.specs.Compact.{binary_item}
use Rattle.dr_meta.proofs.file_trees.tree_of_chunk.Goals as goal

pub returns : goal.returns
returns c =
    view-tree_of c.put.new.fields ∙ (sym (onto_stop (map field_view c.put.new.fields.items)) ∙ (c.in_ok-put.ensures stop ∙ (c.in_ok-put_some_i64.ensures _ ∙ (c.in_ok-put_some_binary.ensures _ ∙ ((onto_nothing _ _ c.new-fields.ensures.items ∙ ap (λ (x : Item). metadata.with_field 1 binary_item (views.chunk_view c.args.chunk.now).file_path (with_i64 2 c.args.chunk.now.file_offset (struct_field (pos 3) x stop))) (view-struct c.in_ok-meta.meta ∙ ap struct_item c.in_ok-meta.ensures)))))))
