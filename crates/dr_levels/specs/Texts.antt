-- Texts by their places in a buffer.
use Rattle.std.specs.Prelude.{ℕ, ◌+◌, List, length, take, drop, Bool, ◌&&◌, nat_le}
use Rattle.std.specs.Str.{is_utf8}
use Rattle.dr_levels.specs.declared.text_place.TextPlace.{TextPlace}

-- the bytes at a place
abbrev pub bytes_at : List ℕ → TextPlace → List ℕ
bytes_at bytes p = take p.length (drop p.start bytes)

-- the place lies in the buffer, and has a text there
abbrev pub is_text : List ℕ → TextPlace → Bool
is_text bytes p = nat_le (p.start + p.length) (length bytes) && is_utf8 (bytes_at bytes p)

-- the place behind so many more bytes
abbrev pub moved : ℕ → TextPlace → TextPlace
moved n p = record { start = n + p.start; length = p.length }
