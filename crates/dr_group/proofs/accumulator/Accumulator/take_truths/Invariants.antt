use Rattle.std.proofs.Common.{◌≡◌, map, take}
use Rattle.dr_meaning.specs.Record.{bool_value}
use Rattle.dr_group.specs.Views.{accumulator_view}
use Rattle.dr_group.specs.TakenValues.{take_each}
use Rattle.dr_group.proofs.accumulator.Accumulator.take_truths.Given as goal

-- those before this one are taken
abbrev pub invariant-truths : goal.invariant-truths
invariant-truths l = accumulator_view l.self ≡ take_each (accumulator_view l.fn.self) (map bool_value (take l.truth-index l.truths))
