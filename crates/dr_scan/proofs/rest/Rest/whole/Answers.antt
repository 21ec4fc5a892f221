use Rattle.std.proofs.Common.{[], length, refl, sym, subst}
use Rattle.dr_meaning.specs.Path.{paths_of_leaves}
use Rattle.dr_file.specs.OpenedFiles.{rows_of}
use Rattle.dr_plan.specs.Planned.{plan_leaves}
use Rattle.dr_walk.specs.Batches.{is_last}
use Rattle.dr_agreement.specs.Behind.{IsBehind}
use Rattle.dr_agreement.proofs.BehindLemmas.{behind_nothing}
use Rattle.dr_scan.specs.Streamed.{left_at, ends_of}
use Rattle.dr_scan.specs.Rests.{HasGiven}
use Rattle.dr_scan.proofs.LeafLemmas.{plan_leaf_paths}
use Rattle.dr_scan.proofs.RestLemmas.{none_given}
use Rattle.dr_scan.proofs.StreamLemmas.{nothing_left}
use Rattle.dr_scan.proofs.rest.Rest.whole.Goals as goal

pub returns : goal.returns
returns c = λ s p held is n.
    let F = plan_leaves p in
    let rows = rows_of c.args.file.now in
    let xs = c.in_ok-leaf_streams.field-0.items in
    let here = left_at xs c.new.result.items in
    let ends = is_last (ends_of xs) in
    record {
      given = λ i. [];
      records = [];
      streams = c.in_ok-leaf_streams.ensures.begun held F n;
      behind = subst (IsBehind s.fields (paths_of_leaves F) rows (λ i. []) here ends []) (sym c.rows.ensures.rows)
          (behind_nothing s.fields (paths_of_leaves F) rows here ends (plan_leaf_paths s p is) (nothing_left xs c.new.result.items c.in_ok-leaf_streams.ensures.none));
      made = refl;
      count = subst (HasGiven (length F) (λ i. [])) (sym c.new-2.ensures) (none_given (length F));
    }
