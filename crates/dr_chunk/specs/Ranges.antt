-- Ranges of the bytes of a file, and requests for bytes in them.
use Rattle.std.specs.Prelude.{ℕ, List, Bool, false, ◌&&◌, bytes_eq}
use Rattle.std.specs.List.{list_any}
use Rattle.dr_outside.specs.Link.{Request, size_of, bytes_of}
use Rattle.dr_formats.specs.Opening.{Range, range, is_inside}
use Rattle.dr_chunk.specs.declared.byte_range.ByteRange.{ByteRange}

-- a range of bytes in the definitions' words
abbrev pub inside : ByteRange → Range
inside r = range r.start r.size

-- whether a request is for bytes of the file at the path, in one of these ranges
abbrev pub is_read_inside : List ℕ → List Range → Request → Bool
is_read_inside path rs (size_of p) = false
is_read_inside path rs (bytes_of r) = bytes_eq r.path path && list_any (is_inside (range r.start r.len)) rs
