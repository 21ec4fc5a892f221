use Rattle.std.proofs.Common.{◌≡◌, ◌∙◌, sym, ap₂, map, arith, to_z, of_z}
use mir.Syntax.{w64}
use Rattle.std.proofs.lemmas.Int.{to_z-of_z}
use Rattle.dr_formats.specs.Compact.{stop}
use Rattle.dr_formats.specs.Metadata as metadata
use Rattle.dr_compact.specs.Views.{field_view}
use Rattle.dr_compact.specs.declared.tree.Item.TheVariants as items
use Rattle.dr_compact.proofs.StepLemmas.{onto_stop}
use Rattle.dr_compact.proofs.ViewLemmas.{view-tree_of}
use Rattle.dr_meta.specs.Views as views
use Rattle.dr_meta.proofs.BuildLemmas.{onto_nothing}
use Rattle.dr_meta.proofs.file_trees.tree_of_column.Goals as goal

pub returns : goal.returns
returns c =
    let kind : to_z w64 (of_z w64 c.args.meta.now.kind) ≡ c.args.meta.now.kind = grind (arith, to_z-of_z) in
    let codec : to_z w64 (of_z w64 c.args.meta.now.codec) ≡ c.args.meta.now.codec = grind (arith, to_z-of_z) in
    view-tree_of c.put_some_i64-2.new.fields ∙ (sym (onto_stop (map field_view c.put_some_i64-2.new.fields.items)) ∙ (c.in_ok-put_some_i64-2.ensures stop ∙ (c.in_ok-put_count64-3.ensures _ ∙ (c.in_ok-put_count64-2.ensures _ ∙ (c.in_ok-put_some_i64.ensures _ ∙ (c.in_ok-put_count64.ensures _ ∙ (c.in_ok-put_i32-2.ensures _ ∙ (c.in_ok-put_some_names.ensures _ ∙ (c.in_ok-put_some_numbers.ensures _ ∙ (c.in_ok-put_i32.ensures _ ∙ ((onto_nothing _ _ c.new-fields.ensures.items ∙ ap₂ (λ a b. metadata.column_meta_tree (record (views.column_view c.args.meta.now) { type = a; codec = b })) kind codec))))))))))))
