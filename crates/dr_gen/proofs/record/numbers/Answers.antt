use Rattle.std.proofs.Common.{◌+◌}
use Rattle.dr_gen.specs.Generator as meant
use Rattle.dr_gen.proofs.RecordLemmas.{made_more, made_end}
use Rattle.dr_gen.proofs.record.numbers.Goals as goal

pub numbers-preserved : goal.numbers-preserved
numbers-preserved c =
    made_more (λ j. meant.number (c.args.first + j)) c.args.count c.numbers.place c.numbers.instances.items c.push.new.self.items c.number.result c.numbers-test.true c.in_ok-push.ensures.items c.number.ensures c.numbers.invariant

pub returns : goal.returns
returns c = made_end (λ j. meant.number (c.args.first + j)) c.args.count c.numbers.place c.numbers.instances.items c.numbers-test.false c.numbers.invariant
