-- What is ahead of a reader.
use Rattle.std.specs.Prelude.{ℕ, List, Option, drop}
use Rattle.dr_hybrid.specs.declared.run_reader.RunReader.{RunReader}
use Rattle.dr_hybrid.specs.Unread.{unread_ahead}

-- the width of its values
abbrev pub width_at : RunReader → ℕ
width_at r = r.width

-- the next so many values that it reads of bytes
unfoldable pub ahead : RunReader → ℕ → List ℕ → Option (List ℕ)
ahead r n bytes = unread_ahead r.unread r.width n (drop r.place bytes)

-- the bytes from its place on
abbrev pub bytes_left : RunReader → List ℕ → List ℕ
bytes_left r bytes = drop r.place bytes
