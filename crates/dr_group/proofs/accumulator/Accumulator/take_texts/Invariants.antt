use Rattle.std.proofs.Common.{◌≡◌, take}
use Rattle.dr_levels.specs.Dense.{text_values}
use Rattle.dr_group.specs.Views.{accumulator_view}
use Rattle.dr_group.specs.TakenValues.{take_each}
use Rattle.dr_group.proofs.accumulator.Accumulator.take_texts.Given as goal

-- those before this one are taken
abbrev pub invariant-places : goal.invariant-places
invariant-places l = accumulator_view l.self ≡ take_each (accumulator_view l.fn.self) (text_values l.bytes (take l.place-index l.places))
