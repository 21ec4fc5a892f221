use Rattle.std.proofs.Common.{◌≡◌, map, take}
use Rattle.dr_sub_meaning.specs.ResultRecords.{without_dot}
use Rattle.dr_sub.proofs.field_name.field_name.Given as goal

-- the bytes so far
abbrev pub invariant-bytes : goal.invariant-bytes
invariant-bytes l = l.bytes.items ≡ map without_dot (take l.byte-index l.byte-items)
