use Rattle.std.proofs.Common.{◌∙◌, ◌≡◌, sym, chars, rules, Some, None}
use Rattle.dr_scalar.specs.Reach.{first_reach}
use Rattle.dr_scalar.proofs.PlaceLemmas.{as_searched, nowhere_leads, found_at_boundary, leads_from_found, shorter_from_found, first_past, first_at_end, first_is_here}
use Rattle.dr_scalar.proofs.like.halt_from_first_place.Goals as goal

pub range_from-found-requires : goal.range_from-found-requires
range_from-found-requires c = λ _.
    found_at_boundary c.front_of.result.now c.places.left.now c.in-Some.place c.front_of.utf8 c.places.invariant.0
    (as_searched c.as_bytes-in-places.result.now c.new-front.result c.places.left.now c.front_of.result.now (Some c.in-Some.place) c.as_bytes-in-places.ensures.value (c.new-front.ensures ∙ c.as_bytes.ensures.value) c.in-Some.ensures)

pub places-smaller : goal.places-smaller
places-smaller c =
    shorter_from_found c.front_of.result.now c.places.left.now c.range_from-found.result.now c.in-Some.place c.in-Some-first_character.field-0-0 (chars c.in-Some-first_character.rest.now) c.front_of.utf8 c.places.invariant.0
    (as_searched c.as_bytes-in-places.result.now c.new-front.result c.places.left.now c.front_of.result.now (Some c.in-Some.place) c.as_bytes-in-places.ensures.value (c.new-front.ensures ∙ c.as_bytes.ensures.value) c.in-Some.ensures)
    c.range_from-found.ensures.value c.in-Some-first_character.ensures

pub places-preserved : goal.places-preserved
places-preserved c =
    let leads : first_reach (chars c.args.pattern.now) (chars c.places.left.now) ≡ first_reach (chars c.args.pattern.now) (chars c.range_from-found.result.now) =
    leads_from_found c.args.pattern.now c.front_of.result.now c.places.left.now c.range_from-found.result.now c.in-Some.place c.front_of.utf8 c.places.invariant.0 c.front_of.ensures
    (as_searched c.as_bytes-in-places.result.now c.new-front.result c.places.left.now c.front_of.result.now (Some c.in-Some.place) c.as_bytes-in-places.ensures.value (c.new-front.ensures ∙ c.as_bytes.ensures.value) c.in-Some.ensures)
    c.range_from-found.ensures.value in (
      search rules,
      sym (leads ∙ first_past (chars c.args.pattern.now) (chars c.range_from-found.result.now) c.in-Some-first_character.field-0-0 (chars c.in-Some-first_character.rest.now) c.in-Apart.ensures c.in-Some-first_character.ensures) ∙ c.places.invariant.1,
    )

pub returns-in-None : goal.returns-in-None
returns-in-None c =
    let leads : first_reach (chars c.args.pattern.now) (chars c.places.left.now) ≡ first_reach (chars c.args.pattern.now) (chars c.range_from-found.result.now) =
    leads_from_found c.args.pattern.now c.front_of.result.now c.places.left.now c.range_from-found.result.now c.in-Some.place c.front_of.utf8 c.places.invariant.0 c.front_of.ensures
    (as_searched c.as_bytes-in-places.result.now c.new-front.result c.places.left.now c.front_of.result.now (Some c.in-Some.place) c.as_bytes-in-places.ensures.value (c.new-front.ensures ∙ c.as_bytes.ensures.value) c.in-Some.ensures)
    c.range_from-found.ensures.value in
    first_at_end (chars c.args.pattern.now) (chars c.range_from-found.result.now) c.in-Apart.ensures c.in-None.ensures ∙ (sym leads ∙ c.places.invariant.1)

pub returns-in_default-first_halt : goal.returns-in_default-first_halt
returns-in_default-first_halt c =
    let leads : first_reach (chars c.args.pattern.now) (chars c.places.left.now) ≡ first_reach (chars c.args.pattern.now) (chars c.range_from-found.result.now) =
    leads_from_found c.args.pattern.now c.front_of.result.now c.places.left.now c.range_from-found.result.now c.in-Some.place c.front_of.utf8 c.places.invariant.0 c.front_of.ensures
    (as_searched c.as_bytes-in-places.result.now c.new-front.result c.places.left.now c.front_of.result.now (Some c.in-Some.place) c.as_bytes-in-places.ensures.value (c.new-front.ensures ∙ c.as_bytes.ensures.value) c.in-Some.ensures)
    c.range_from-found.ensures.value in
    first_is_here (chars c.args.pattern.now) (chars c.range_from-found.result.now) c.first_halt.result c.first_halt.ensures c.in_default-first_halt.not-Apart ∙ (sym leads ∙ c.places.invariant.1)

pub returns : goal.returns
returns c =
    nowhere_leads c.args.pattern.now c.front_of.result.now c.places.left.now c.front_of.utf8 c.places.invariant.0 c.front_of.ensures
    (as_searched c.as_bytes-in-places.result.now c.new-front.result c.places.left.now c.front_of.result.now None c.as_bytes-in-places.ensures.value (c.new-front.ensures ∙ c.as_bytes.ensures.value) c.in_default.ensures)
    ∙ c.places.invariant.1
