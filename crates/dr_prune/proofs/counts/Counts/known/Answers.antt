use Rattle.std.proofs.Common.{◌∙◌}
use Rattle.dr_prune.specs.Pruning.{count_view}
use Rattle.dr_prune.proofs.ToldLemmas.{told_by_masks}
use Rattle.dr_prune.proofs.counts.Counts.known.Goals as goal

pub returns : goal.returns
returns c =
    let e = c.is_end_read.ensures in
    told_by_masks c.args.long (count_view c.args.self) c.first_dropped-first.result c.known_between.result c.requires.fits
    (λ h. c.first_dropped-first.ensures.over (e ∙ h)) (λ h. c.first_dropped-first.ensures.other (e ∙ h))
    c.first_dropped-first.ensures.hits c.first_dropped-first.ensures.within c.known_between.ensures.undecided c.known_between.ensures.dropped
