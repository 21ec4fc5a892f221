use Rattle.std.proofs.Common.{◌≡◌, length, take, map}
use Rattle.dr_levels.specs.declared.triplet.Levels.{Levels}
use Rattle.dr_page.proofs.level_writer.fill_definitions.Given as goal

-- the levels before this one are there
abbrev pub invariant-levels : goal.invariant-levels
invariant-levels l = take l.index l.out ≡ map (λ (x : Levels). x.definition) (take l.index l.levels)
