use Rattle.std.proofs.Common.{◌≡◌, ℕ, List, length, take, true}
use Rattle.std.specs.Prelude.{IsTrue, Some}
use Rattle.std.specs.List.{flat_map}
use Rattle.dr_meaning.specs.Path.{Leaf}
use Rattle.dr_levels.specs.Views.{columns_view}
use Rattle.dr_formats.specs.File.{Footer, footer_of, leaves_read}
use Rattle.dr_formats.specs.Opening.{leaf_ranges}
use Rattle.dr_outside.specs.Telling.{Tells, AsksOnly}
use Rattle.dr_chunk.specs.Ranges.{is_read_inside}
use Rattle.dr_file.specs.Asking.{is_for_path}
use Rattle.dr_file.specs.OpenedFiles.{IsOpened, path_of}
use Rattle.dr_scan.specs.FileRecords.{AreColumnsOf, are_short}
use Rattle.dr_table.specs.Counting.{counted}
use Rattle.dr_scan.proofs.file_columns.read_columns.Given as goal
use Rattle.dr_formats.specs.Writing.{triplet_count}

abbrev pub invariant-leaves : goal.invariant-leaves
invariant-leaves g l =
    ((bytes : List ℕ) (F : List Leaf) → IsOpened bytes F l.opened → length F ≡ l.leaves → Tells (g.L.Link.shows l.initial.link) (path_of l.opened) bytes → AreColumnsOf bytes (take l.index F) (columns_view l.columns.items))
    × ((g.L.Link.shows l.link).held ≡ (g.L.Link.shows l.initial.link).held)
    × ((g.L.Link.shows l.link).faults ≡ (g.L.Link.shows l.initial.link).faults)
    × (IsTrue (g.L.Link.shows l.initial.link).is_steady → IsTrue (g.L.Link.shows l.link).is_steady)
    × (are_short (columns_view l.columns.items) ≡ true)
    × ((bytes : List ℕ) (F : List Leaf) (f : Footer) → IsOpened bytes F l.opened → length F ≡ l.leaves → footer_of bytes ≡ Some f
    → AsksOnly (is_read_inside (path_of l.opened) (flat_map (leaf_ranges f) (leaves_read f F))) (g.L.Link.shows l.initial.link).asked (g.L.Link.shows l.link).asked)
    × (l.triplets ≡ counted 0 (triplet_count (columns_view l.columns.items)))
    × AsksOnly (is_for_path (path_of l.opened)) (g.L.Link.shows l.initial.link).asked (g.L.Link.shows l.link).asked
    × (length l.columns.items ≡ l.index)
