use Rattle.std.proofs.Common.{arith}
use Rattle.dr_bytes.specs.Cutting.{left}
use Rattle.dr_hybrid.proofs.RunLemmas.{even_run, odd_run}
use Rattle.dr_hybrid.proofs.reading.run_of.Goals as goal

pub returns-then-header-eq0-clause-read : goal.returns-then-header-eq0-clause-read
returns-then-header-eq0-clause-read c = rw (even_run c.args.width c.args.wanted c.args.header c.min.result (left c.args.cut.now) c.if-header-eq0.true c.min.ensures) c.repeat.ensures.read

pub returns-then-header-eq0-clause-short : goal.returns-then-header-eq0-clause-short
returns-then-header-eq0-clause-short c = rw (even_run c.args.width c.args.wanted c.args.header c.min.result (left c.args.cut.now) c.if-header-eq0.true c.min.ensures) c.repeat.ensures.short

pub returns-else-header-eq0-clause-read : goal.returns-else-header-eq0-clause-read
returns-else-header-eq0-clause-read c = rw (odd_run c.args.width c.args.wanted c.args.header c.min-else-header-eq0.result (left c.args.cut.now) c.if-header-eq0.false (omega (arith, c.min-else-header-eq0.ensures, c.saturating_mul-values.ensures))) c.packed.ensures.read

pub returns-else-header-eq0-clause-short : goal.returns-else-header-eq0-clause-short
returns-else-header-eq0-clause-short c = rw (odd_run c.args.width c.args.wanted c.args.header c.min-else-header-eq0.result (left c.args.cut.now) c.if-header-eq0.false (omega (arith, c.min-else-header-eq0.ensures, c.saturating_mul-values.ensures))) c.packed.ensures.short
