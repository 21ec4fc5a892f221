use Rattle.std.proofs.Common.{refl}
use Rattle.dr_plain.proofs.ReaderSteps.{nothing_given}
use Rattle.dr_plain.proofs.plain_reader.PlainReader.new.Goals as goal

pub returns : goal.returns
returns c = λ k bytes. nothing_given k bytes _ refl refl
