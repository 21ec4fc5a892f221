use Rattle.std.proofs.Common.{◌≡◌, ◌++◌, take}
use Rattle.dr_levels.specs.Dense.{texts_view, text_values}
use Rattle.dr_levels.proofs.texts.Texts.push_each.Given as goal

abbrev pub invariant-places : goal.invariant-places
invariant-places l = texts_view l.self ≡ texts_view l.fn.self ++ text_values l.bytes (take l.place-index l.places)
