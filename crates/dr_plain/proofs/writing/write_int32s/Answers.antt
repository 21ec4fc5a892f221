use Rattle.std.proofs.Common.{◌≡◌, ◌∙◌, ℤ, pos, get_or}
use Rattle.std.specs.Int.{w32, to_le_bytes, cast_unsigned}
use Rattle.dr_meaning.specs.Schema.{int32_kind}
use Rattle.dr_meaning.specs.Record.{int_value}
use Rattle.dr_formats.specs.Plain.{plain_number_bytes}
use Rattle.dr_plain.proofs.WriteSteps.{joined_more, writable_at, narrow, number_bytes_32, extended}
use Rattle.dr_plain.proofs.writing.write_int32s.Goals as goal

pub overflow_cast-number : goal.overflow_cast-number
overflow_cast-number c = (narrow (get_or c.args.values.now c.values.value-index (pos 0)) (writable_at int32_kind int_value c.args.values.now c.values.value-index (pos 0) c.requires c.values-test.true)).2

pub values-preserved : goal.values-preserved
values-preserved c =
    let z : ℤ = get_or c.args.values.now c.values.value-index (pos 0) in
    let n = narrow z (writable_at int32_kind int_value c.args.values.now c.values.value-index (pos 0) c.requires c.values-test.true) in
    let e : c.to_le_bytes.result ≡ to_le_bytes w32 (cast_unsigned w32 z) = simp (n.0, n.1) at c.to_le_bytes.ensures in
    joined_more (plain_number_bytes 32) int_value c.args.values.now c.args.out.now.items c.values.out.items c.extend_from_slice.new.self.items c.to_le_bytes.result c.values.value-index (pos 0) c.values-test.true (e ∙ number_bytes_32 z) (extended c.extend_from_slice.result c.values.out.items c.extend_from_slice.new.self.items c.to_le_bytes.result c.if-is_err.ensures.value c.extend_from_slice.ensures.items) c.values.invariant
