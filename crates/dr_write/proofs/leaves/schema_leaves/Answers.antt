use Rattle.std.proofs.Common.{◌∙◌, ◌++◌, ap}
use Rattle.dr_nested.specs.Views.{fields_view}
use Rattle.dr_write.specs.Leaves.{leaves_view, fields_leaves, way_view, Passed}
use Rattle.dr_write.proofs.LeafLemmas.{leaves_of_root}
use Rattle.dr_write.proofs.leaves.schema_leaves.Goals as goal

pub returns : goal.returns
returns c =
    let fs = fields_view c.args.schema.now.fields.items in
    c.in_ok-push_fields.ensures
    ∙ (ap (λ xs. leaves_view xs ++ fields_leaves (way_view c.root.result) fs) c.new-leaves.ensures.items
    ∙ (ap (λ (w : Passed). fields_leaves w fs) c.root.ensures ∙ leaves_of_root fs))
