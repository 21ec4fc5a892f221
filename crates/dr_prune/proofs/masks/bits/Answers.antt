use Rattle.std.proofs.Common.{◌≡◌, ◌≤◌, ◌*◌, ◌^◌, ◌%◌, arith}
use Rattle.std.proofs.lemmas.Nat.{one_shl}
use Rattle.std.proofs.Math.Pow.{pow_mono}
use Rattle.dr_prune.proofs.masks.bits.Goals as goal

pub overflow_sub-result : goal.overflow_sub-result
overflow_sub-result c =
    let f = c.args.from in
    let t = c.args.to in
    let e : (1 * 2 ^ f) % 2 ^ 64 ≡ 2 ^ f = one_shl f 64 (omega (arith, c.requires.order, c.requires.few)) in
    let g : (1 * 2 ^ t) % 2 ^ 64 ≡ 2 ^ t = one_shl t 64 c.requires.few in
    let m : 2 ^ f ≤ 2 ^ t = pow_mono c.requires.order in
    omega (arith, e, g, m)
