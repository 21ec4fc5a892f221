use Rattle.std.proofs.Common.{◌-◌, ◌*◌, length, refl}
use Rattle.dr_plain.proofs.ReaderSteps.{place_behind}
use Rattle.dr_plain.proofs.plain_reader.PlainReader.go_behind.Goals as goal

pub returns-clause-place : goal.returns-clause-place
returns-clause-place c =
    let m = c.args.count * c.args.size in
    place_behind c.args.self.now.place m (length c.args.bytes.now - (length c.args.rest.now - m)) c.args.bytes.now c.args.rest.now c.requires.rest c.requires.there refl
