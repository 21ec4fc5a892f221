use Rattle.std.proofs.Common.{◌≡◌, ◌+◌, ◌*◌, ◌/◌, ◌%◌, arith}
use Rattle.dr_formats.specs.LittleEndian.{bytes_for}
use Rattle.dr_hybrid.proofs.UnpackLemmas.{bytes_split, told}
use Rattle.dr_hybrid.proofs.words.packed_length.Goals as goal

pub returns-in-Some-clause-length : goal.returns-in-Some-clause-length
returns-in-Some-clause-length c =
    let e : c.in-Some.groups + (c.args.count % 8 * c.args.width + 7) / 8 ≡ bytes_for (c.args.count * c.args.width) = omega (arith, bytes_split c.args.count c.args.width, c.in-Some.ensures) in
    (told c.checked_add.result _ _ c.checked_add.ensures e).0

pub returns-in-Some-clause-none : goal.returns-in-Some-clause-none
returns-in-Some-clause-none c =
    let e : c.in-Some.groups + (c.args.count % 8 * c.args.width + 7) / 8 ≡ bytes_for (c.args.count * c.args.width) = omega (arith, bytes_split c.args.count c.args.width, c.in-Some.ensures) in
    (told c.checked_add.result _ _ c.checked_add.ensures e).1

pub returns-in-None-clause-none : goal.returns-in-None-clause-none
returns-in-None-clause-none c = omega (arith, bytes_split c.args.count c.args.width, c.in-None.ensures)
