-- The lines that tell which tablets are left, and why.
use Rattle.std.specs.Prelude.{ℕ, ◌==◌, List, map, filter, Option, Some, None}
use Rattle.std.specs.List.{flat_map, range_with_len}
use Rattle.dr_formats.specs.TableFile.{most_leaf_lines}
use Rattle.dr_formats.specs.File.{FileCause}
use Rattle.dr_formats.specs.Reports.{LeafCause, read_failed, bad_file, LeftLeaf, left_tablet_text}
use Rattle.dr_outside.specs.declared.cause.Cause.{Cause}
use Rattle.dr_reading.specs.Causes.{file_cause}
use Rattle.dr_reading.specs.Left.{Tried, LeftTablet}

-- a cause, as it is told
abbrev pub told_as : Option FileCause → LeafCause
told_as None = read_failed
told_as (Some c) = bad_file c

abbrev pub told_cause : Cause → LeafCause
told_cause c = told_as (file_cause c)

-- those of the copies that lie in one directory
abbrev pub in_directory : List Tried → ℕ → List Tried
in_directory ts d = filter (λ (t : Tried). t.directory == d) ts

-- the copies by ascending directory
unfoldable pub ascending : List Tried → List Tried
ascending ts = flat_map (in_directory ts) (range_with_len 0 most_leaf_lines)

abbrev pub told_leaf : Tried → LeftLeaf
told_leaf t = record { leaf = t.directory; cause = told_cause t.cause }

-- a line for each tablet, its copies by ascending directory
abbrev pub left_line : LeftTablet → List ℕ
left_line l = left_tablet_text l.tablet (map told_leaf (ascending l.tried))

abbrev pub left_text : List LeftTablet → List ℕ
left_text ls = flat_map left_line ls
