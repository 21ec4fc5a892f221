use Rattle.std.proofs.Common.{◌≡◌, ◌≤◌, take}
use Rattle.dr_formats.specs.Page.{count_equal}
use Rattle.dr_page.proofs.levels.count_piece.Given as goal

-- those before this one are counted
abbrev pub invariant-levels : goal.invariant-levels
invariant-levels l = record { counted : l.count ≡ count_equal l.level (take l.index l.levels); few : l.count ≤ l.index }
