use Rattle.std.proofs.Common.{arith}
use Rattle.dr_lines.specs.Cutting.{rest_of, last_line}
use Rattle.dr_input.specs.Records.{fields_read}
use Rattle.dr_input.proofs.ReadForm.{line_limited}
use Rattle.dr_input.proofs.ReadLemmas.{takes_record}
use Rattle.dr_input.proofs.records.stripe_next_line.Goals as goal

pub returns-in_ok-stripe_line-in-Ok-true-2-clause-record : goal.returns-in_ok-stripe_line-in-Ok-true-2-clause-record
returns-in_ok-stripe_line-in-Ok-true-2-clause-record g c = λ e.
    let fs = fields_read c.args.reader.now in
    let joined = c.in_ok-stripe_line-in-Ok-true-2.ensures.record in
    record {
      node = joined.0;
      form = joined.2;
      limited = line_limited fs c.line-line.result.now joined.0 joined.1;
      taken = takes_record fs c.args.most c.args.number (rest_of c.args.lines.now (g.S.Source.shows c.args.source.now).left) (rest_of c.next.new.self (g.S.Source.shows c.next.new.source).left)
          (last_line c.next.new.self) c.line-line.result.now joined.0
          (c.in-Ok-true.ensures.cuts c.in-Ok-true.field-0-test) (c.in-Ok-true.ensures.bytes c.in-Ok-true.field-0-test) (c.in-Ok-true.ensures.short c.in-Ok-true.field-0-test) (omega (arith, c.if-number-most.false)) c.line-line.ensures joined.1;
      gains = joined.3;
    }
