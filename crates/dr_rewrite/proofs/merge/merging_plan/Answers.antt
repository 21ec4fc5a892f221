use Rattle.std.proofs.Common.{ap, map, ◌∙◌}
use Rattle.std.specs.List.{list_all}
use Rattle.dr_nested.specs.PathView.{path_view}
use Rattle.dr_plan.specs.Fitting.{selection_fits, truth_fits}
use Rattle.dr_rewrite.proofs.MergePlanLemmas.{merging_fits}
use Rattle.dr_rewrite.proofs.merge.merging_plan.Goals as goal

pub invariant_of-result : goal.invariant_of-result
invariant_of-result c =
    let s = c.in_ok-selection.selection in
    record {
      tested = ap (list_all (truth_fits (map path_view c.in_ok-columns.columns.items))) c.new.ensures.items;
      selected = ap (λ ls. selection_fits ls s) c.in_ok-columns.ensures
          ∙ merging_fits (map path_view c.args.leaves.now) c.args.keys.now c.args.aggregates.now c.args.items s c.in_ok-selection.ensures c.requires;
    }
