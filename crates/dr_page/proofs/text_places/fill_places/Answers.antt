use Rattle.std.proofs.Common.{◌≡◌, ◌≤◌, ◌%◌, ◌∙◌, length, map, take, get_or, refl, sym, ap, ap₂, arith}
use Rattle.std.proofs.lemmas.Bool.{leb-true}
use Rattle.std.proofs.lemmas.List.{take_all}
use Rattle.dr_plain.specs.declared.values.TextPlace as plain
use Rattle.dr_levels.specs.declared.text_place.TextPlace.{TextPlace}
use Rattle.dr_page.specs.Places.{column_place}
use Rattle.dr_page.proofs.PlaceLemmas.{place_more}
use Rattle.dr_page.proofs.text_places.fill_places.Goals as goal

pub texts-init : goal.texts-init
texts-init c = λ e. refl

pub texts-preserved : goal.texts-preserved
texts-preserved c = λ e.
    let d : plain.TextPlace = record { start = 0; length = 0 } in
    let text : plain.TextPlace = get_or c.args.texts.now c.texts.index d in
    place_more c.args.texts.now c.texts.out c.texts.index d _ c.texts.near _ _ (omega (arith, c.requires)) (omega (arith, c.texts.auto.out)) c.texts.invariant (leb-true text.start 4294967295) (leb-true text.length 4294967295) refl refl e

pub returns : goal.returns
returns c = λ e.
    let a : take c.texts.index c.texts.out ≡ c.texts.out = take_all c.texts.index c.texts.out (omega (arith, c.texts.auto.out)) in
    let b : take c.texts.index c.args.texts.now ≡ c.args.texts.now = take_all c.texts.index c.args.texts.now (omega (arith, c.requires)) in
    sym a ∙ (c.texts.invariant e ∙ ap (map column_place) b)
