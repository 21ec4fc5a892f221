use Rattle.std.proofs.Common.{arith, refl, get_or, drop, ◌∷◌, ◌+◌}
use Rattle.dr_formats.specs.Varint.{varint_too_long, read_varint}
use Rattle.dr_bytes.proofs.FaultLemmas.{is_fault}
use Rattle.dr_bytes.proofs.VarintSteps.{worth_fits, sum_fits, ended, gone_on, tenth_ended, tenth_too_long}
use Rattle.dr_bytes.proofs.reading.long_varint.Goals as goal

pub returns-then-byte-gt1-clause-fault : goal.returns-then-byte-gt1-clause-fault
returns-then-byte-gt1-clause-fault c =
    is_fault varint_too_long (read_varint c.args.bytes.now) (get_or c.args.bytes.now c.bytes.count 0 ∷ drop (c.bytes.count + 1) c.args.bytes.now) (tenth_too_long c.args.bytes.now c.bytes.count c.bytes.sum c.bytes.worth (get_or c.args.bytes.now c.bytes.count 0) c.bytes.invariant c.if-count-eq-LONGEST_VARINT.true c.bytes-test.true refl c.if-byte-gt1.true)

pub returns-else-byte-gt1-clause-number : goal.returns-else-byte-gt1-clause-number
returns-else-byte-gt1-clause-number c =
    tenth_ended c.args.bytes.now c.bytes.count c.bytes.sum c.bytes.worth (get_or c.args.bytes.now c.bytes.count 0) c.from-low.result c.bytes.invariant c.if-count-eq-LONGEST_VARINT.true c.bytes-test.true refl c.from-low.ensures c.if-byte-gt1.false

pub overflow_mul-sum : goal.overflow_mul-sum
overflow_mul-sum c = omega (arith, sum_fits c.args.bytes.now c.bytes.count c.bytes.sum c.bytes.worth c.from-low.result c.bytes.invariant c.if-count-eq-LONGEST_VARINT.false (omega (arith, c.from-low.ensures)))

pub overflow_add-sum : goal.overflow_add-sum
overflow_add-sum c = omega (arith, sum_fits c.args.bytes.now c.bytes.count c.bytes.sum c.bytes.worth c.from-low.result c.bytes.invariant c.if-count-eq-LONGEST_VARINT.false (omega (arith, c.from-low.ensures)))

pub returns-then-byte-lt128-clause-number : goal.returns-then-byte-lt128-clause-number
returns-then-byte-lt128-clause-number c =
    ended c.args.bytes.now c.bytes.count c.bytes.sum c.bytes.worth (get_or c.args.bytes.now c.bytes.count 0) c.from-low.result c.bytes.invariant c.if-count-eq-LONGEST_VARINT.false c.bytes-test.true refl c.from-low.ensures c.if-byte-lt128.true

pub overflow_mul-worth : goal.overflow_mul-worth
overflow_mul-worth c = omega (arith, worth_fits c.args.bytes.now c.bytes.count c.bytes.sum c.bytes.worth c.bytes.invariant c.if-count-eq-LONGEST_VARINT.false)

pub bytes-preserved : goal.bytes-preserved
bytes-preserved c =
    gone_on c.args.bytes.now c.bytes.count c.bytes.sum c.bytes.worth (get_or c.args.bytes.now c.bytes.count 0) c.from-low.result c.bytes.invariant c.if-count-eq-LONGEST_VARINT.false c.bytes-test.true refl c.from-low.ensures c.if-byte-lt128.false
