use Rattle.dr_levels.specs.Views.{triplets_view}
use Rattle.dr_assemble.proofs.PieceLemmas.{first_taken}
use Rattle.dr_assemble.proofs.strip.first_length.Goals as goal

pub returns-in-len1-up-clause-within : goal.returns-in-len1-up-clause-within
returns-in-len1-up-clause-within c = (first_taken c.args.level c.levels.result.now (triplets_view c.args.triplets) c.above_length.result c.levels.ensures c.in-len1-up.len_at_least c.above_length.ensures.count).0

pub returns-in-len1-up-clause-first : goal.returns-in-len1-up-clause-first
returns-in-len1-up-clause-first c = (first_taken c.args.level c.levels.result.now (triplets_view c.args.triplets) c.above_length.result c.levels.ensures c.in-len1-up.len_at_least c.above_length.ensures.count).1

pub returns-in-len1-up-clause-later : goal.returns-in-len1-up-clause-later
returns-in-len1-up-clause-later c = (first_taken c.args.level c.levels.result.now (triplets_view c.args.triplets) c.above_length.result c.levels.ensures c.in-len1-up.len_at_least c.above_length.ensures.count).2
