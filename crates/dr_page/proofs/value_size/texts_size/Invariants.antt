use Rattle.std.proofs.Common.{◌≡◌, ◌+◌, ◌-◌, ◌^◌, take}
use Rattle.std.specs.Prelude.{min}
use Rattle.std.specs.List.{sum_by}
use Rattle.dr_levels.specs.declared.text_place.TextPlace.{TextPlace}
use Rattle.dr_page.proofs.value_size.texts_size.Given as goal

abbrev pub invariant-places : goal.invariant-places
invariant-places l = l.size ≡ min (sum_by (λ (p : TextPlace). 4 + p.length) (take l.place-index l.places)) (2 ^ 64 - 1)
