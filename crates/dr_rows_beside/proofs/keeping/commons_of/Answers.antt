use Rattle.std.proofs.Common.{◌≡◌, ◌<◌, ◌≤◌, ◌∙◌, List, [], length, arith}
use Rattle.std.proofs.lemmas.List.{take_all, length-map}
use Rattle.dr_nested.specs.PathView.{path_view, paths_view}
use Rattle.dr_nested.specs.declared.path.Path.{Path}
use Rattle.dr_meaning.specs.Path.{Step, common}
use Rattle.std.specs.List.{slice_index_or}
use Rattle.dr_rows_beside.specs.KeptBits.{commons}
use Rattle.dr_rows_beside.proofs.CommonLemmas.{common_here, common_more, paths_long}
use Rattle.dr_rows_beside.proofs.keeping.commons_of.Goals as goal

pub leaves-preserved : goal.leaves-preserved
leaves-preserved c =
    let F = paths_view c.args.leaves.now in
    let i = c.leaves.leaf in
    let h : i < length F = omega (arith, c.leaves-test.true, paths_long c.args.leaves.now) in
    common_more F c.args.last i c.front_of.result.repeated c.leaves.made.items c.push.new.self.items h (common_here F i c.args.last c.front_of.result c.front_of.ensures) c.in_ok-push.ensures.items c.leaves.invariant

pub returns : goal.returns
returns c =
    let F = paths_view c.args.leaves.now in
    let e : length (commons F c.args.last) ≡ length F = length-map F (λ (p : List Step). common p (slice_index_or F c.args.last [])) in
    c.leaves.invariant ∙ take_all c.leaves.leaf (commons F c.args.last) (omega (arith, c.leaves-test.false, e, paths_long c.args.leaves.now))
