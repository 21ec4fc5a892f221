use Rattle.std.proofs.Common.{◌≡◌, ◌&&◌, map, drop}
use Rattle.dr_meaning.specs.Path.{Leaf}
use Rattle.dr_levels.specs.Views.{levels_pair}
use Rattle.dr_agreement.specs.Alone.{each_may_stand, IsTestOf}
use Rattle.dr_agreement.proofs.column_of_leaf.LeafTest.each_by_table.Given as goal

-- those before this one may, and the others are left
abbrev pub invariant-levels : goal.invariant-levels
invariant-levels v = (l : Leaf) → IsTestOf l v.self → each_may_stand l.path 0 (map levels_pair v.levels) ≡ (v.fits && each_may_stand l.path v.before (map levels_pair (drop v.at v.levels)))
