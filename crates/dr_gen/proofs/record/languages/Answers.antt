use Rattle.dr_gen.specs.Generator as meant
use Rattle.dr_gen.proofs.RecordLemmas.{made_more, made_end}
use Rattle.dr_gen.proofs.record.languages.Goals as goal

pub languages-preserved : goal.languages-preserved
languages-preserved c =
    made_more (meant.language c.args.x c.args.j) c.args.count c.languages.k c.languages.instances.items c.push.new.self.items c.in_ok-language.field-0 c.languages-test.true c.in_ok-push.ensures.items c.in_ok-language.ensures c.languages.invariant

pub returns : goal.returns
returns c = made_end (meant.language c.args.x c.args.j) c.args.count c.languages.k c.languages.instances.items c.languages-test.false c.languages.invariant
