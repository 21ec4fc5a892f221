use Rattle.std.proofs.Common.{◌≡◌, take, string_bytes}
use Rattle.dr_reading.specs.LeftText.{left_text}
use Rattle.dr_table.specs.LeftViews.{all_left_view}
use Rattle.dr_table.proofs.report.left_text.Given as goal

-- the tablets before this one are told
abbrev pub invariant-left : goal.invariant-left
invariant-left l = string_bytes l.text ≡ left_text (all_left_view (take l.tablet-index l.left))
