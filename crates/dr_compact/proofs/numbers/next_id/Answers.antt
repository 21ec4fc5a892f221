use Rattle.std.proofs.Common.{◌<◌, ◌^◌, arith}
use Rattle.std.proofs.lemmas.Result.{err_from_is_err_and}
use Rattle.std.proofs.lemmas.Int.{to_z-of_z}
use Rattle.dr_bytes.specs.Cutting.{left}
use Rattle.dr_compact.proofs.NumberLemmas.{id_got, id_too_great, id_fault_of}
use Rattle.dr_compact.proofs.numbers.next_id.Goals as goal

pub returns-in_err-number : goal.returns-in_err-number
returns-in_err-number c =
    let p = err_from_is_err_and c.from_residual.result c.from_residual.ensures.1 in
    rw (p.1, p.2) (id_fault_of (left c.args.cut.now) c.in_err-number.field-0.0 c.in_err-number.ensures)

pub returns-then-number-ge-ID_BOUND : goal.returns-then-number-ge-ID_BOUND
returns-then-number-ge-ID_BOUND c = id_too_great (left c.args.cut.now) (left c.next_number.new.cut) c.in_ok-number.number (omega (arith, c.if-number-ge-ID_BOUND.true)) c.in_ok-number.ensures

pub returns : goal.returns
returns c =
    let l : c.in_ok-number.number < 2 ^ 16 = omega (arith, c.if-number-ge-ID_BOUND.false) in
    let h = id_got (left c.args.cut.now) (left c.next_number.new.cut) c.in_ok-number.number l c.in_ok-number.ensures in
    grind (arith, to_z-of_z)
