use Rattle.std.proofs.Common.{◌≡◌, ◌≤◌, ◌+◌, length}
use Rattle.dr_formats.specs.Page.{count_equal}
use Rattle.dr_page.proofs.levels.count_equal.Given as goal

-- what is counted, and what is left
abbrev pub invariant-pieces : goal.invariant-pieces
invariant-pieces l = record { counted : l.count + count_equal l.level l.rest ≡ count_equal l.level l.levels; few : l.count + length l.rest ≤ length l.levels }

abbrev pub decreases-pieces : goal.decreases-pieces
decreases-pieces l = length l.rest
