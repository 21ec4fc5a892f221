-- What a link is asked for when a file is opened.
use Rattle.std.specs.Prelude.{ℕ, List, Bool, ◌&&◌, bytes_eq}
use Rattle.std.specs.List.{list_any, flat_map}
use Rattle.dr_meaning.specs.Path.{Leaf}
use Rattle.dr_outside.specs.Link.{Request, LinkShown, size_of, bytes_of}
use Rattle.dr_outside.specs.Telling.{AsksOnly}
use Rattle.dr_formats.specs.File.{Footer, leaves_read}
use Rattle.dr_formats.specs.Opening.{Range, range, is_inside, leaf_ranges}
use Rattle.dr_chunk.specs.Ranges.{is_read_inside}

-- whether a request is for the file at the path: for its size, or for any of its bytes
abbrev pub is_for_path : List ℕ → Request → Bool
is_for_path path (size_of p) = bytes_eq p path
is_for_path path (bytes_of r) = bytes_eq r.path path

-- whether a request is for the size of the file at the path, or for bytes of it in one of these ranges
abbrev pub is_request_for : List ℕ → List Range → Request → Bool
is_request_for path rs (size_of p) = bytes_eq p path
is_request_for path rs (bytes_of r) = bytes_eq r.path path && list_any (is_inside (range r.start r.len)) rs

-- of the file at the path only bytes of these leaves' chunks are asked for, or of those of the leaves that stand in for them
abbrev pub AsksForLeaves : Footer → List Leaf → List ℕ → LinkShown → LinkShown → Type 0
AsksForLeaves f F path s s' = AsksOnly (is_read_inside path (flat_map (leaf_ranges f) (leaves_read f F))) s.asked s'.asked
