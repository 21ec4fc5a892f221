use Rattle.std.proofs.Common.{arith, pow_mono}
use Rattle.std.proofs.lemmas.Nat.{pow_pos}
use Rattle.dr_hybrid.proofs.UnpackLemmas.{mask_is}
use Rattle.dr_hybrid.proofs.unpacking.unpack.Goals as goal

pub unpack_narrow-requires-clause-held : goal.unpack_narrow-requires-clause-held
unpack_narrow-requires-clause-held g c = omega (arith, mask_is c.args.width c.requires.narrow, pow_mono c.requires.held, pow_pos c.args.width)
