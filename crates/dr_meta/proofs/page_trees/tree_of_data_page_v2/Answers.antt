use Rattle.std.proofs.Common.{◌≡◌, ◌∙◌, sym, ap, map, arith, to_z, of_z}
use mir.Syntax.{w64}
use Rattle.std.proofs.lemmas.Int.{to_z-of_z}
use Rattle.dr_meta.proofs.PageLemmas.{data_v2_parts}
use Rattle.std.specs.Prelude.{Some}
use Rattle.dr_formats.specs.Compact.{stop}
use Rattle.dr_formats.specs.Metadata as metadata
use Rattle.dr_compact.specs.Views.{field_view}
use Rattle.dr_compact.specs.declared.tree.Item.TheVariants as items
use Rattle.dr_compact.proofs.StepLemmas.{onto_stop}
use Rattle.dr_compact.proofs.ViewLemmas.{view-tree_of}
use Rattle.dr_meta.specs.Views as views
use Rattle.dr_meta.proofs.BuildLemmas.{onto_nothing}
use Rattle.dr_meta.proofs.page_trees.tree_of_data_page_v2.Goals as goal

pub returns : goal.returns
returns c =
    let p = c.in-Some.page in
    let encoding : to_z w64 (of_z w64 p.encoding) ≡ p.encoding = grind (arith, to_z-of_z) in
    rw c.in-Some.is (ap Some (view-tree_of c.put_some_truth.new.fields ∙ (sym (onto_stop (map field_view c.put_some_truth.new.fields.items)) ∙ (c.in_ok-put_some_truth.ensures stop ∙ (c.in_ok-put_count32-3.ensures _ ∙ (c.in_ok-put_count32-2.ensures _ ∙ (c.in_ok-put_i32.ensures _ ∙ (c.in_ok-put_some_i32-2.ensures _ ∙ (c.in_ok-put_some_i32.ensures _ ∙ (c.in_ok-put_count32.ensures _ ∙ ((onto_nothing _ _ c.new-fields.ensures.items ∙ data_v2_parts p _ encoding))))))))))))
