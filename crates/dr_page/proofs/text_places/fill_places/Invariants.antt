use Rattle.std.proofs.Common.{◌≡◌, true, map, take}
use Rattle.dr_page.specs.Places.{column_place}
use Rattle.dr_page.proofs.text_places.fill_places.Given as goal

-- the places before this one are there, where all of them are near
abbrev pub invariant-texts : goal.invariant-texts
invariant-texts l = l.near ≡ true → take l.index l.out ≡ map column_place (take l.index l.texts)
