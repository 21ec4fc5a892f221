use Rattle.std.proofs.Common.{◌∙◌, ◌++◌, ap, map}
use Rattle.dr_nested.specs.Views.{fields_view}
use Rattle.dr_nested.specs.PathView.{path_view}
use Rattle.dr_paths.specs.Ways.{Passed, fields_leaves, way_view}
use Rattle.dr_paths.proofs.WayLemmas.{leaves_of_root}
use Rattle.dr_paths.proofs.leaves.leaf_paths.Goals as goal

pub returns : goal.returns
returns c =
    let fs = fields_view c.args.schema.now.fields.items in
    c.in_ok-push_fields.ensures
    ∙ (ap (λ xs. map path_view xs ++ fields_leaves (way_view c.root.result) fs 0) c.new-paths.ensures.items
    ∙ (ap (λ (w : Passed). fields_leaves w fs 0) c.root.ensures ∙ leaves_of_root fs))
