use Rattle.std.proofs.Common.{subst}
use Rattle.std.specs.Str.{IsAscii}
use Rattle.std.proofs.lemmas.List.{take_all}
use Rattle.std.proofs.lemmas.Str.Ascii.{IsAscii-nil}
use Rattle.dr_plain.proofs.BatchSteps.{ascii_step}
use Rattle.dr_plain.proofs.text_batch.are_ascii.Goals as goal

pub bytes-init : goal.bytes-init
bytes-init c = λ e. IsAscii-nil

pub bytes-preserved : goal.bytes-preserved
bytes-preserved c = λ e. ascii_step c.args.bytes.now c.bytes.index c.bytes.ascii c.bytes-test.true c.bytes.invariant e

pub returns : goal.returns
returns c = λ e. subst IsAscii (take_all c.bytes.index c.args.bytes.now c.bytes-test.false) (c.bytes.invariant e)
