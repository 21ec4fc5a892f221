use Rattle.dr_formats.specs.Varint.{VarintFault}
use Rattle.dr_formats.specs.Hybrid.{HybridFault, short}
use Rattle.dr_bytes.specs.Cutting.{left}
use Rattle.dr_bytes.specs.Numbers.{varint_fault_view}
use Rattle.dr_bytes.proofs.FaultLemmas.{varint_got, varint_refused, is_fault}
use Rattle.dr_hybrid.specs.Views.{run_ahead}
use Rattle.dr_hybrid.proofs.RunLemmas.{header_ahead, none_ahead}
use Rattle.dr_hybrid.proofs.reading.next_run.Goals as goal

any_short : VarintFault → HybridFault
any_short e = short

pub returns-in-Ok-clause-read : goal.returns-in-Ok-clause-read
unfolding any_short
returns-in-Ok-clause-read c = rw (header_ahead c.args.width c.args.wanted c.in-Ok.header (left c.args.cut.now) (left c.varint.new.self) (varint_got any_short (left c.args.cut.now) (left c.varint.new.self) c.in-Ok.header c.in-Ok.ensures.number)) c.run_of.ensures.read

pub returns-in-Ok-clause-short : goal.returns-in-Ok-clause-short
unfolding any_short
returns-in-Ok-clause-short c = rw (header_ahead c.args.width c.args.wanted c.in-Ok.header (left c.args.cut.now) (left c.varint.new.self) (varint_got any_short (left c.args.cut.now) (left c.varint.new.self) c.in-Ok.header c.in-Ok.ensures.number)) c.run_of.ensures.short

pub returns-in-Err-clause-short : goal.returns-in-Err-clause-short
unfolding any_short
returns-in-Err-clause-short c =
    let v = varint_refused any_short (left c.args.cut.now) (varint_fault_view c.in-Err.field-0) c.in-Err.ensures.fault in
    is_fault short (run_ahead c.args.width c.args.wanted (left c.args.cut.now)) v.0 (none_ahead c.args.width c.args.wanted (left c.args.cut.now) v.0 v.1)
