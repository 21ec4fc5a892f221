use Rattle.std.proofs.Common.{◌≡◌, ◌∙◌, ◌-◌, map, drop, ap, length, arith}
use Rattle.std.proofs.lemmas.List.{take_all, length-drop}
use Rattle.dr_levels.specs.Views.{column_view, triplet_levels}
use Rattle.dr_file.specs.Floors.{bare}
use Rattle.dr_file.proofs.LeafStreamLemmas.{levels_behind}
use Rattle.dr_file.proofs.leaf_stream.levels_behind.Goals as goal

pub returns-in-Some : goal.returns-in-Some
returns-in-Some c =
    let h = c.levels.ensures ∙ ap (map triplet_levels) c.triplets.ensures.triplets in
    let ls = c.levels.result.now in
    ap (map bare) (c.in-Some.ensures.lookup.0.2 ∙ take_all (length ls - c.args.count) (drop c.args.count ls) (omega (arith, length-drop c.args.count ls))) ∙ levels_behind c.levels.result.now c.args.count (column_view c.args.column.now) h
