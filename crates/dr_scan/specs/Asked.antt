-- What a link is asked for when tablets are read.
use Rattle.std.specs.Prelude.{ℕ, List, [], Bool, Option, Some, None}
use Rattle.std.specs.List.{list_any}
use Rattle.dr_meaning.specs.Path.{Leaf}
use Rattle.dr_formats.specs.Opening.{Range, reader_ranges}
use Rattle.dr_outside.specs.Link.{Files, LinkShown, Request}
use Rattle.dr_outside.specs.Telling.{AsksOnly}
use Rattle.dr_file.specs.Asking.{is_for_path, is_request_for}
use Rattle.dr_reading.specs.Scan.{Copy}

-- the ranges into which a reader of these leaves may look; none where nothing is held
abbrev pub ranges_there : List Leaf → Option (List ℕ) → List Range
ranges_there F None = []
ranges_there F (Some bytes) = reader_ranges bytes F

-- whether a request is for the file of a copy: for its size, or for bytes in these ranges
abbrev pub is_for_copy : List Leaf → Files → Request → Copy → Bool
is_for_copy F files r c = is_request_for c.path (ranges_there F (files c.path)) r

-- whether it is for one of a tablet's copies
abbrev pub is_for_tablet : List Leaf → Files → Request → List Copy → Bool
is_for_tablet F files r cs = list_any (is_for_copy F files r) cs

-- whether it is for one of these tablets
abbrev pub is_for_tablets : List Leaf → List (List Copy) → Files → Request → Bool
is_for_tablets F ts files r = list_any (is_for_tablet F files r) ts

-- whether a request is for the path of a copy
abbrev pub is_at_copy : Request → Copy → Bool
is_at_copy r c = is_for_path c.path r

-- whether it is for that of one of a tablet's copies
abbrev pub is_at_tablet : Request → List Copy → Bool
is_at_tablet r cs = list_any (is_at_copy r) cs

-- whether it is for that of a copy of one of these tablets
abbrev pub is_at_tablets : List (List Copy) → Request → Bool
is_at_tablets ts r = list_any (is_at_tablet r) ts

-- in between, only such requests were made as what the link holds allows; or as are allowed whatever is held, where it doesn't tell
abbrev pub AsksHeld : (Request → Bool) → (Files → Request → Bool) → Option Files → Option (List Request) → Option (List Request) → Type 0
AsksHeld untold test None before after = AsksOnly untold before after
AsksHeld untold test (Some files) before after = AsksOnly (test files) before after

-- only requests for these tablets, of which these leaves are read; of a link that doesn't tell what it holds, at the paths of their copies
abbrev pub AsksForTablets : List Leaf → List (List Copy) → LinkShown → LinkShown → Type 0
AsksForTablets F ts link now = AsksHeld (is_at_tablets ts) (is_for_tablets F ts) link.held link.asked now.asked
