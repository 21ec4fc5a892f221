use Rattle.dr_bytes.proofs.VarintSteps.{wrote, wrote_all}
use Rattle.dr_bytes.proofs.spelling.Varint.new.Goals as goal

pub digits-preserved : goal.digits-preserved
digits-preserved c = wrote c.args.number c.digits.bytes c.digits.length c.digits.rest c.digits.invariant c.digits-test.true

pub returns : goal.returns
returns c = wrote_all c.args.number c.digits.bytes c.digits.length c.digits.rest c.digits.invariant c.digits-test.false
