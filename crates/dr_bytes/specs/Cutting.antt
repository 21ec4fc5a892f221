-- What a cut holds.
use Rattle.std.specs.Prelude.{ℕ, List, drop}
use Rattle.dr_bytes.specs.declared.cut.Cut.{Cut}

-- all of its bytes
abbrev pub whole : Cut → List ℕ
whole c = c.bytes.now

-- the bytes from its place on
abbrev pub left : Cut → List ℕ
left c = drop c.place c.bytes.now
