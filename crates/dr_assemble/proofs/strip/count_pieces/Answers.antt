use Rattle.dr_levels.specs.Views.{triplets_view}
use Rattle.dr_assemble.proofs.PieceLemmas.{pieces_counted}
use Rattle.dr_assemble.proofs.strip.count_pieces.Goals as goal

pub returns-in-len1-up : goal.returns-in-len1-up
returns-in-len1-up c = pieces_counted c.args.level c.levels.result.now (triplets_view c.args.triplets) c.count_below.result c.levels.ensures c.in-len1-up.len_at_least c.count_below.ensures.count
