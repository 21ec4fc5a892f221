use Rattle.std.proofs.Common.{◌∙◌}
use Rattle.dr_levels.specs.Views.{triplets_view}
use Rattle.dr_agreement.proofs.CutLemmas.{begun_levels}
use Rattle.dr_agreement.proofs.cuts.count_records.Goals as goal

pub returns : goal.returns
returns c = c.count_begun.ensures ∙ begun_levels c.levels.result.now (triplets_view c.args.triplets) c.levels.ensures
