use Rattle.std.proofs.lemmas.Result.{err_from_is_err_and}
use Rattle.dr_bytes.specs.Cutting.{left}
use Rattle.dr_bytes.specs.Numbers.{varint_fault_view}
use Rattle.dr_compact.proofs.NumberLemmas.{number_got, number_fault}
use Rattle.dr_compact.proofs.numbers.next_number.Goals as goal

pub returns-in_err-varint : goal.returns-in_err-varint
returns-in_err-varint c =
    let p = err_from_is_err_and c.from_residual.result c.from_residual.ensures.1 in
    rw (p.1, p.2) (number_fault (left c.args.cut.now) (varint_fault_view c.in_err-varint.field-0.0) c.in_err-varint.ensures.fault)

pub returns : goal.returns
returns c = number_got (left c.args.cut.now) (left c.varint.new.self) c.in_ok-varint.field-0 c.in_ok-varint.ensures.number
