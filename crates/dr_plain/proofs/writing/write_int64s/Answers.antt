use Rattle.std.proofs.Common.{◌∙◌, ap, ℤ, pos, get_or, rules}
use Rattle.std.specs.Int.{w64, to_le_bytes, cast_unsigned}
use Rattle.std.proofs.lemmas.Int.{to_z-of_z}
use mir.Val.{SFits}
use Rattle.dr_meaning.specs.Record.{int_value}
use Rattle.dr_formats.specs.Plain.{plain_number_bytes}
use Rattle.dr_plain.proofs.WriteSteps.{joined_more, number_bytes_64, extended}
use Rattle.dr_plain.proofs.writing.write_int64s.Goals as goal

pub values-preserved : goal.values-preserved
values-preserved c =
    let z : ℤ = get_or c.args.values.now c.values.value-index (pos 0) in
    let f : SFits w64 z = search rules in
    joined_more (plain_number_bytes 64) int_value c.args.values.now c.args.out.now.items c.values.out.items c.extend_from_slice.new.self.items c.to_le_bytes.result c.values.value-index (pos 0) c.values-test.true (c.to_le_bytes.ensures ∙ (ap (λ x. to_le_bytes w64 (cast_unsigned w64 x)) (to_z-of_z w64 z f) ∙ number_bytes_64 z)) (extended c.extend_from_slice.result c.values.out.items c.extend_from_slice.new.self.items c.to_le_bytes.result c.if-is_err.ensures.value c.extend_from_slice.ensures.items) c.values.invariant
