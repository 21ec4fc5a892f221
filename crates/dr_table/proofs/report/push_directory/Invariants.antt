use Rattle.std.proofs.Common.{◌≡◌, ◌++◌, take, string_bytes}
use Rattle.dr_reading.specs.LeftText.{in_directory}
use Rattle.dr_table.specs.LeftViews.{all_tried_view}
use Rattle.dr_table.specs.Reports.{leaves_text, still}
use Rattle.dr_table.proofs.report.push_directory.Given as goal

-- the copies before this one are told, of those in the directory
abbrev pub invariant-tried : goal.invariant-tried
invariant-tried l =
    (string_bytes l.text ≡ string_bytes l.initial.text ++ leaves_text l.initial.first (in_directory (all_tried_view (take l.copy-index l.tried)) l.directory))
    × (l.first ≡ still l.initial.first (in_directory (all_tried_view (take l.copy-index l.tried)) l.directory))
