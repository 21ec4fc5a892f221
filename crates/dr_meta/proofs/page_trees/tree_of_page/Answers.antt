use Rattle.std.proofs.Common.{◌≡◌, ◌∙◌, sym, map, arith, to_z, of_z}
use mir.Syntax.{w64}
use Rattle.std.proofs.lemmas.Int.{to_z-of_z}
use Rattle.dr_formats.specs.Compact.{stop}
use Rattle.dr_formats.specs.Metadata as metadata
use Rattle.dr_compact.specs.Views.{field_view}
use Rattle.dr_compact.specs.declared.tree.Item.TheVariants as items
use Rattle.dr_compact.proofs.StepLemmas.{onto_stop}
use Rattle.dr_compact.proofs.ViewLemmas.{view-tree_of}
use Rattle.dr_meta.specs.Views as views
use Rattle.dr_meta.proofs.BuildLemmas.{onto_nothing}
use Rattle.dr_meta.proofs.PageLemmas.{page_parts}
use Rattle.dr_meta.proofs.page_trees.tree_of_page.Goals as goal

pub returns : goal.returns
returns c =
    let kind : to_z w64 (of_z w64 c.args.head.now.kind) ≡ c.args.head.now.kind = grind (arith, to_z-of_z) in
    view-tree_of c.put_some_struct-3.new.fields ∙ (sym (onto_stop (map field_view c.put_some_struct-3.new.fields.items)) ∙ (c.in_ok-put_some_struct-3.ensures stop ∙ (c.in_ok-put_some_struct-2.ensures _ ∙ (c.in_ok-put_some_struct.ensures _ ∙ (c.in_ok-put_count32.ensures _ ∙ (c.in_ok-put_some_i32.ensures _ ∙ (c.in_ok-put_i32.ensures _ ∙ ((onto_nothing _ _ c.new-fields.ensures.items ∙ (page_parts c.args.head.now _ c.in_ok-data_page.data_page c.in_ok-dictionary_page.dictionary_page c.in_ok-data_page_v2.data_page_v2 kind c.in_ok-data_page.ensures c.in_ok-dictionary_page.ensures c.in_ok-data_page_v2.ensures))))))))))
