-- The spelling that a number is written in.
use Rattle.std.specs.Prelude.{ℕ, List, take}
use Rattle.dr_bytes.specs.declared.spelling.Varint.{Varint}

abbrev pub spelled : Varint → List ℕ
spelled v = take v.length v.bytes
