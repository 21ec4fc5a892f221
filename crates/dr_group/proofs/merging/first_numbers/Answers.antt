use Rattle.std.proofs.Common.{refl}
use Rattle.dr_group.proofs.MovingLemmas.{numbers_more}
use Rattle.dr_group.proofs.merging.first_numbers.Goals as goal

pub numbers-preserved : goal.numbers-preserved
numbers-preserved c = numbers_more c.numbers.numbers.items c.push.new.self.items c.numbers.number c.numbers.number c.numbers.invariant refl c.in_ok-push.ensures.items
