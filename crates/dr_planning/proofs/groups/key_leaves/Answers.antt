use Rattle.std.proofs.Common.{map, ap, ◌∙◌, List}
use Rattle.dr_nested.specs.PathView.{path_view, step_view}
use Rattle.dr_nested.specs.declared.path.Step.{Step}
use Rattle.dr_paths.specs.Numbers.{number_among}
use Rattle.dr_planning.proofs.PlanStepLemmas.{key_more}
use Rattle.dr_planning.proofs.groups.key_leaves.Goals as goal

pub keys-preserved : goal.keys-preserved
keys-preserved c =
    let ls = map path_view c.args.leaves.now in
    key_more ls c.args.keys.now c.keys.key-index c.key-item.result c.keys.numbers.items _ c.leaf_number.result c.keys-test.true c.key-item.is
    (λ i h b. c.leaf_number.ensures i (ap (λ (s : List Step). number_among ls (map step_view s)) c.as_slice.ensures.value ∙ h) b) c.in_ok-push.ensures.items c.keys.invariant
