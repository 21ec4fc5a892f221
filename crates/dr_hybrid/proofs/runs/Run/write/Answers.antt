use Rattle.std.proofs.Common.{◌≡◌, ◌+◌, ◌∙◌, ◌*◌, ap, length, arith}
use Rattle.dr_formats.specs.LittleEndian.{bytes_for, little_endian, unpacked}
use Rattle.dr_hybrid.proofs.RunFacts.{packed_count, packed_is}
use Rattle.dr_hybrid.proofs.runs.Run.write.Goals as goal

pub unpack-requires-clause-whole : goal.unpack-requires-clause-whole
unpack-requires-clause-whole g c =
    let n : c.in-Packed.packed.count ≡ 0 + length c.args.out.now = omega (arith, packed_count c.args.self.now c.in-Packed.packed c.in-Packed.is, c.requires.room) in
    c.in-Packed.packed.whole ∙ ap (λ k. bytes_for (k * c.in-Packed.packed.width)) n

pub returns-in-Packed : goal.returns-in-Packed
returns-in-Packed g c =
    let n : 0 + length c.args.out.now ≡ c.in-Packed.packed.count = omega (arith, packed_count c.args.self.now c.in-Packed.packed c.in-Packed.is, c.requires.room) in
    c.unpack.ensures ∙ (ap (λ k. unpacked k c.in-Packed.packed.width (little_endian c.in-Packed.packed.bytes.now)) n ∙ packed_is c.args.self.now c.in-Packed.packed c.in-Packed.is)
