use Rattle.dr_levels.specs.Views.{move_view}
use Rattle.dr_prune.proofs.PrunedLemmas.{tells_pruned, pruned_more}
use Rattle.dr_prune.proofs.pruner.Pruner.step_with.Goals as goal

pub returns : goal.returns
returns c =
    let p = c.args.self.now in
    let q = c.step.new.self in
    let k = c.step.result in
    let b = c.all.result in
    let a = c.args.answers.now in
    let m = move_view c.args.m.now in
    let e = c.step.ensures in
    record {
      tells = tells_pruned p m a b q k e.counts e.tells e.watches c.all.ensures;
      pruned = pruned_more p m a b q k e.counts e.tells e.watches c.all.ensures;
      watches = e.watches;
    }
