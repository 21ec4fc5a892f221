use Rattle.std.proofs.Common.{◌∙◌, ap, take, arith}
use Rattle.std.proofs.lemmas.List.{take_rest}
use Rattle.dr_formats.specs.LittleEndian.{packed}
use Rattle.dr_plain.proofs.WriteSteps.{bools_more, bits_of}
use Rattle.dr_plain.proofs.writing.write_bools.Goals as goal

pub bytes-preserved : goal.bytes-preserved
bytes-preserved c = record {
  room = omega (arith, c.min-done.ensures);
  written = bools_more c.args.values.now c.args.out.now.items c.bytes.out.items c.push_reserved.new.self.items c.bytes.done c.min-done.result c.byte_of.result c.bytes.invariant.written c.bytes-test.true c.min-done.ensures (c.byte_of.ensures ∙ ap (λ xs. packed 1 (bits_of (take 8 xs))) (take_rest c.args.values.now c.bytes.done)) c.push_reserved.ensures.items;
}
