-- What a link in memory was asked for.
use Rattle.std.specs.Prelude.{List, map, string_bytes}
use Rattle.dr_outside.specs.declared.mem_link.MemLink.{MemLink}
use Rattle.dr_outside.specs.declared.mem_link.Asked.{Asked}
use Rattle.dr_outside.specs.declared.mem_link.Asked.TheVariants as asked
use Rattle.dr_outside.specs.declared.shelf.Shelf.{Shelf}
use Rattle.dr_outside.specs.Failing.{Failing}
use Rattle.dr_outside.specs.Link.{Request, size_of, bytes_of}

-- a request, as the clauses of links write it
abbrev pub request_of : Asked → Request
request_of (asked.Size path) = size_of (string_bytes path)
request_of (asked.Range path start len) = bytes_of (record { path = string_bytes path; start = start; len = len })

-- what was asked for, in order
abbrev pub requests_of : MemLink → List Request
requests_of link = map request_of link.requests.items

-- the shelf that is lent
abbrev pub shelf_of : MemLink → Shelf
shelf_of link = link.shelf.now

-- which calls fail
abbrev pub link_failing : MemLink → Failing
link_failing link = link.failing
