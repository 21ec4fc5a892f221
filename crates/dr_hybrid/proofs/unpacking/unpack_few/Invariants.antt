use Rattle.std.proofs.Common.{◌≡◌, ◌*◌, ◌/◌, ◌^◌, take}
use Rattle.dr_formats.specs.LittleEndian.{unpacked}
use Rattle.dr_hybrid.proofs.unpacking.unpack_few.Given as goal

abbrev pub invariant-values : goal.invariant-values
invariant-values g l = record {
  rest : l.rest ≡ l.word / 2 ^ (l.index * l.width);
  front : take l.index (g.T.Packable.numbers l.out) ≡ unpacked l.index l.width l.word;
}
