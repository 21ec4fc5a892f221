use Rattle.dr_tree.proofs.GatheringLemmas.{the_only}
use Rattle.dr_tree.proofs.gathering.only.Goals as goal

pub returns-in-Some : goal.returns-in-Some
returns-in-Some c = λ tablet. the_only tablet c.args.partials.items c.pop.new.self.items c.in-Some.partial c.requires c.in-Some.ensures.items
