use Rattle.std.proofs.Common.{subst, sym, ◌≤◌}
use Rattle.dr_levels.specs.Views.{triplets_view}
use Rattle.dr_agreement.proofs.CutLemmas.{begun_levels, triplets_cut}
use Rattle.dr_agreement.proofs.cuts.length_of.Goals as goal

pub end_of-requires : goal.end_of-requires
end_of-requires c = subst (λ n. c.args.records ≤ n) (sym (begun_levels c.levels.result.now (triplets_view c.args.triplets) c.levels.ensures)) c.requires

pub returns-clause-within : goal.returns-clause-within
returns-clause-within c = (triplets_cut c.levels.result.now (triplets_view c.args.triplets) c.end_of.result c.args.records c.levels.ensures c.end_of.ensures).0

pub returns-clause-records : goal.returns-clause-records
returns-clause-records c = (triplets_cut c.levels.result.now (triplets_view c.args.triplets) c.end_of.result c.args.records c.levels.ensures c.end_of.ensures).1

pub returns-clause-whole : goal.returns-clause-whole
returns-clause-whole c = (triplets_cut c.levels.result.now (triplets_view c.args.triplets) c.end_of.result c.args.records c.levels.ensures c.end_of.ensures).2
