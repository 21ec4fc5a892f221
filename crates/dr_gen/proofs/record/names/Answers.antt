use Rattle.dr_gen.specs.Generator as meant
use Rattle.dr_gen.proofs.RecordLemmas.{made_more, made_end}
use Rattle.dr_gen.proofs.record.names.Goals as goal

pub names-preserved : goal.names-preserved
names-preserved c =
    made_more (meant.name c.args.x) c.args.count c.names.j c.names.instances.items c.push.new.self.items c.in_ok-name.field-0 c.names-test.true c.in_ok-push.ensures.items c.in_ok-name.ensures c.names.invariant

pub returns : goal.returns
returns c = made_end (meant.name c.args.x) c.args.count c.names.j c.names.instances.items c.names-test.false c.names.invariant
