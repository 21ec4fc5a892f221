-- What comes of reading, against what the definitions say.
use Rattle.std.specs.Prelude.{◌≡◌, Option, Some, None, Result, Ok, Err, ⊤}
use Rattle.dr_formats.specs.Reading.{Reading}
use Rattle.dr_formats.specs.Page as page
use Rattle.dr_bytes.specs.Numbers.{IsFault}
use Rattle.dr_page.specs.declared.fault.PageFault.{PageFault}

-- bad data is told only where nothing is meant; want of memory may come in place of anything
abbrev pub WhereNone : {A : Type 0} → PageFault → Option A → Type 0
WhereNone PageFault.NoMemory meant = ⊤
WhereNone PageFault.BadData meant = meant ≡ None

-- bad data is told only where reading is refused
abbrev pub WhereBad : {A : Type 0} → PageFault → Reading page.PageFault A → Type 0
WhereBad PageFault.NoMemory reading = ⊤
WhereBad PageFault.BadData reading = IsFault page.bad_page reading

-- what is meant was read; or bad data is told, only where nothing is meant
abbrev pub Reads : {A B : Type 0} → Option A → A → Result B PageFault → Type 0
Reads meant a (Ok b) = meant ≡ Some a
Reads meant a (Err e) = WhereNone e meant
