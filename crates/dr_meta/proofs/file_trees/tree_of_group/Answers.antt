use Rattle.std.proofs.Common.{◌∙◌, sym, ap, map, pos}
use Rattle.dr_formats.specs.Compact.{stop, struct_field, Item}
use Rattle.dr_formats.specs.Metadata as metadata
use Rattle.dr_formats.specs.Metadata.{with_i64, count_i64}
use Rattle.dr_compact.specs.Views.{field_view}
use Rattle.dr_compact.specs.declared.tree.Item.TheVariants as items
use Rattle.dr_compact.proofs.StepLemmas.{onto_stop}
use Rattle.dr_compact.proofs.ViewLemmas.{view-tree_of}
use Rattle.dr_meta.specs.Views as views
use Rattle.dr_meta.proofs.BuildLemmas.{onto_nothing}
use Rattle.dr_meta.proofs.BuildLemmas.{structs_made}
use Rattle.dr_meta.proofs.file_trees.tree_of_group.Goals as goal

pub returns : goal.returns
returns c =
    view-tree_of c.put_count64.new.fields ∙ (sym (onto_stop (map field_view c.put_count64.new.fields.items)) ∙ (c.in_ok-put_count64.ensures stop ∙ (c.in_ok-put_some_i64.ensures _ ∙ (c.in_ok-put_structs.ensures _ ∙ ((onto_nothing _ _ c.new-fields.ensures.items ∙ ap (λ (x : Item). struct_field (pos 1) x (with_i64 2 c.args.group.now.total_byte_size (count_i64 3 c.args.group.now.rows.number stop))) (structs_made metadata.chunk_tree views.chunk_view c.in_ok-chunks.chunks.items c.args.group.now.columns.items (c.in_ok-chunks.ensures ∙ ap (map (λ x. metadata.chunk_tree (views.chunk_view x))) c.deref.ensures.value))))))))
