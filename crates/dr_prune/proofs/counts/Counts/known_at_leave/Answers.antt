use Rattle.std.proofs.Common.{refl}
use Rattle.dr_prune.specs.Pruning.{count_view}
use Rattle.dr_prune.proofs.ToldLemmas.{left_on_chain}
use Rattle.dr_prune.proofs.counts.Counts.known_at_leave.Goals as goal

pub returns-then-self : goal.returns-then-self
returns-then-self c = left_on_chain c.args.long (count_view c.args.self) c.first_dropped.result c.known_between.result c.args.self.depth c.requires.fits c.args.self.hits c.if-self.true (c.first_dropped.ensures.over refl) c.known_between.ensures.undecided c.known_between.ensures.dropped
