-- What a shelf holds.
use Rattle.std.specs.Prelude.{List, map}
use Rattle.std.specs.BTreeMap.{get_by_text}
use Rattle.dr_outside.specs.declared.shelf.Shelf.{Shelf}
use Rattle.dr_outside.specs.Failing.{Failing}
use Rattle.dr_outside.specs.Link.{Files, PutShown}
use Rattle.dr_outside.specs.Puts.{put_of, bytes_at}

-- the bytes at each path
abbrev pub files_of : Shelf → Files
files_of shelf path = bytes_at shelf.puts.items (get_by_text shelf.held path)

-- what was put, in order
abbrev pub puts_of : Shelf → List PutShown
puts_of shelf = map put_of shelf.puts.items

-- which calls fail
abbrev pub shelf_failing : Shelf → Failing
shelf_failing shelf = shelf.failing
