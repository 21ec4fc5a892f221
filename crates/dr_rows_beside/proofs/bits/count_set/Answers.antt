use Rattle.std.proofs.Common.{◌≡◌, ◌<◌, ◌≤◌, ◌+◌, ◌∙◌, ℕ, length, get_or, ap, arith, false}
use Rattle.std.specs.Prelude.{if◌then◌else◌}
use Rattle.std.proofs.lemmas.List.{take_all}
use Rattle.dr_levels.proofs.ApartLemmas.{one_if}
use Rattle.dr_rows_beside.specs.Bits.{set_bits}
use Rattle.dr_rows_beside.proofs.SpreadBitLemmas.{set_more, few_set}
use Rattle.dr_rows_beside.proofs.bits.count_set.Goals as goal

pub overflow_add-count : goal.overflow_add-count
overflow_add-count c =
    let bs = c.args.bits.now in
    let i = c.bits.bit-index in
    let e : c.from-count.result ≡ (if get_or bs i false then 1 else 0) = c.from-count.ensures ∙ one_if (get_or bs i false) in
    omega (arith, c.bits.invariant, e, set_more bs i c.bits-test.true, few_set bs (i + 1), c.bits-test.true)

pub bits-preserved : goal.bits-preserved
bits-preserved c =
    let bs = c.args.bits.now in
    let i = c.bits.bit-index in
    let e : c.from-count.result ≡ (if get_or bs i false then 1 else 0) = c.from-count.ensures ∙ one_if (get_or bs i false) in
    omega (arith, c.bits.invariant, e, set_more bs i c.bits-test.true)

pub returns : goal.returns
returns c = c.bits.invariant ∙ ap set_bits (take_all c.bits.bit-index c.args.bits.now (omega (arith, c.bits-test.false)))
