use Rattle.std.proofs.Common.{◌≡◌, ◌++◌, true, string_bytes}
use Rattle.std.specs.List.{flat_map, range_with_len}
use Rattle.dr_reading.specs.LeftText.{in_directory}
use Rattle.dr_table.specs.LeftViews.{all_tried_view}
use Rattle.dr_table.specs.Reports.{leaves_text, still}
use Rattle.dr_table.proofs.report.push_leaves.Given as goal

-- the copies in the directories before this one are told
abbrev pub invariant-directories : goal.invariant-directories
invariant-directories l =
    (string_bytes l.text ≡ string_bytes l.initial.text ++ leaves_text true (flat_map (in_directory (all_tried_view l.tried)) (range_with_len 0 l.directory)))
    × (l.first ≡ still true (flat_map (in_directory (all_tried_view l.tried)) (range_with_len 0 l.directory)))
