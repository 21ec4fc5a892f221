use Rattle.std.proofs.Common.{◌≡◌, true, take}
use Rattle.std.specs.Str.{IsAscii}
use Rattle.dr_plain.proofs.text_batch.are_ascii.Given as goal

abbrev pub invariant-bytes : goal.invariant-bytes
invariant-bytes l = l.ascii ≡ true → IsAscii (take l.index l.bytes)
