use Rattle.std.proofs.Common.{map, take}
use Rattle.dr_levels.specs.Views.{triplets_view}
use Rattle.dr_agreement.specs.Outlines.{neighbours_view, AgreeEach}
use Rattle.dr_agreement.proofs.outlines.Outlines.agree.Given as goal

-- those before this one agree
abbrev pub invariant-neighbours : goal.invariant-neighbours
invariant-neighbours l = AgreeEach (map triplets_view l.columns) (map neighbours_view (take l.pair-index l.neighbours))
