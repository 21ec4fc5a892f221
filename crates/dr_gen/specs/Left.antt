-- What a source of made lines has left, and shows.
use Rattle.std.specs.Prelude.{ℕ, List, ◌++◌, drop, true, Some}
use Rattle.dr_outside.specs.Source.{SourceShown}
use Rattle.dr_gen.specs.Generator.{lines_from}
use Rattle.dr_gen.specs.declared.source.GenSource.{GenSource}

-- the rest of the line that was made last
abbrev pub ahead_of : GenSource → List ℕ
ahead_of s = drop s.from s.line.items

-- with the lines that are still to be made
abbrev pub left_of : GenSource → List ℕ
left_of s = ahead_of s ++ lines_from s.next s.records

-- it tells what is left, and doesn't fail
abbrev pub shown_by : GenSource → SourceShown
shown_by s = record { left = Some (left_of s); faults = 0; is_steady = true }
